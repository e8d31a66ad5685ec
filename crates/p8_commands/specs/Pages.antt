-- What is told of the commands: the page of each, the page of all, and the line for words that are no command (this project's
-- profile).
use Rattle.std.specs.Prelude.{[], ◌∷◌, ◌++◌, codes, Option, Some, None}
use Rattle.std.specs.List.{flat_map}
use Rattle.clap.specs.Walk.{Text}
use Rattle.p8_commands.specs.declared.table.ArgumentKind.{ArgumentKind}
use Rattle.p8_commands.specs.declared.table.ArgumentKind.TheVariants.{Operand, OptionalOperand, Valued, Flag}
use Rattle.p8_commands.specs.declared.table.Subcommand.{Subcommand}
use Rattle.p8_commands.specs.Table.{Argument, Entry, entry_of, subcommands}

-- an argument as it stands on the command line; what may be left out is in brackets
abbrev pub spelled_by : ArgumentKind → (name value : Text) → Text
spelled_by Operand name value = codes " " ++ name
spelled_by OptionalOperand name value = codes " [" ++ name ++ codes "]"
spelled_by Valued name value = codes " [--" ++ name ++ codes " " ++ value ++ codes "]"
spelled_by Flag name value = codes " [--" ++ name ++ codes "]"

abbrev pub spelled : Argument → Text
spelled argument = spelled_by argument.kind argument.name argument.value

-- the words of a command
unfoldable pub words_line : Entry → Text
words_line entry = codes "prop " ++ entry.word ++ flat_map spelled entry.arguments ++ 10 ∷ []

-- a line for an argument, and what it says
unfoldable pub argument_line : Argument → Text
argument_line argument = codes " " ++ spelled argument ++ codes ": " ++ argument.about ++ 10 ∷ []

-- what a command does, and a line for an example of its words
unfoldable pub about_line : Entry → Text
about_line entry = entry.about ++ 10 ∷ []

unfoldable pub example_line : Text → Text
example_line example = codes "e.g. " ++ example ++ 10 ∷ []

-- the page of a command: its words, what it does, its arguments with their limits, and examples
abbrev pub page_of : Entry → Text
page_of entry = words_line entry ++ about_line entry ++ flat_map argument_line entry.arguments ++ flat_map example_line entry.examples

-- the words of a command and what it does
abbrev pub summary_of : Subcommand → Text
summary_of command = words_line (entry_of command) ++ codes "  " ++ about_line (entry_of command)

-- the page that is asked for
abbrev pub help_text : Option Subcommand → Text
help_text (Some command) = page_of (entry_of command)
help_text None = flat_map summary_of subcommands

-- the line for words that are no command
abbrev pub usage_line : Text
usage_line = codes "prop: usage: prop build|list FILE, prop raw|run FILE CLOCKS [--pins F] [--turns K] [--dump A:N] [--alone]" ++ 10 ∷ []
