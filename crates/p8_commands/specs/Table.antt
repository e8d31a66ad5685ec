-- The table of the commands: the word of each, its arguments, and what its page tells (this project's profile). The words
-- are read by it, and the pages are made of it.
use Rattle.std.specs.Prelude.{List, [], ◌∷◌, ◌++◌, codes, map, true, Option, Some, find, fold}
use Rattle.std.specs.Str.{bytes_eq}
use Rattle.clap.specs.declared.builder.action.ArgAction.TheVariants.{SetTrue}
use Rattle.clap.specs.Simple.{App, new_app, new_rule, with_rule}
use Rattle.clap.specs.Walk.{Rule, Text}
use Rattle.p8_commands.specs.declared.table.ArgumentKind.{ArgumentKind}
use Rattle.p8_commands.specs.declared.table.ArgumentKind.TheVariants.{Operand, OptionalOperand, Valued, Flag}
use Rattle.p8_commands.specs.declared.table.Subcommand.{Subcommand}
use Rattle.p8_commands.specs.declared.table.Subcommand.TheVariants as named

-- an argument: how it stands, its name, what its value is called where it has both, and what it says
pub record Argument : Type 0 where
  pub kind : ArgumentKind
  pub name : Text
  pub value : Text
  pub about : Text

-- an entry of the table: the word that names the command, its arguments, what it does, and examples of its words
pub record Entry : Type 0 where
  pub word : Text
  pub arguments : List Argument
  pub about : Text
  pub examples : List Text

-- ---- the arguments

abbrev pub operand : Text → Text → Argument
operand name about = record { kind = Operand; name = name; value = []; about = about }

abbrev pub optional : Text → Text → Argument
optional name about = record { kind = OptionalOperand; name = name; value = []; about = about }

abbrev pub valued : Text → Text → Text → Argument
valued name value about = record { kind = Valued; name = name; value = value; about = about }

abbrev pub source_file : Argument
source_file = operand (codes "FILE") (codes "the top file of a project, a source in Spin")

abbrev pub clocks : Argument
clocks = operand (codes "CLOCKS") (codes "no turn is made at this clock or later: 1 to 10 digits, at most 100000000")

-- those of a run that is shown
abbrev pub shown_run_clocks : Argument
shown_run_clocks = operand (codes "CLOCKS") (codes "no turn is made at this clock or later: 1 to 10 digits, at most 4000000000")

abbrev pub pins : Argument
pins =
    valued (codes "pins") (codes "F")
    (codes "a pin script: a line CLOCK LEVELS for each change of the input pins, 1 to 10 digits, a space and 8 hexadecimal digits (9000 00000001; bit p is pin p), clocks rising; else all are low")

abbrev pub turns : Argument
turns = valued (codes "turns") (codes "K") (codes "the run ends after K turns too: 1 to 10 digits, at most 1000000; else 100000")

abbrev pub page_turns : Argument
page_turns = valued (codes "turns") (codes "K") (codes "the run ends after K turns too: 1 to 10 digits, at most 20000; else 20000")

abbrev pub saved_turns : Argument
saved_turns = valued (codes "turns") (codes "K") (codes "the run ends after K turns too: 1 to 10 digits, at most 40000; else 40000")

abbrev pub dump : Argument
dump =
    valued (codes "dump") (codes "A:N")
    (codes "adds N bytes of hub RAM from the address A on: 4 hexadecimal digits, and 1 to 5 digits, at least 1, with A + N at most 32768")

abbrev pub flag : Text → Text → Argument
flag name about = record { kind = Flag; name = name; value = []; about = about }

abbrev pub alone : Argument
alone = flag (codes "alone") (codes "one thread makes all turns, in place of eight")

abbrev pub raw : Argument
raw = flag (codes "raw") (codes "FILE has the bytes of hub memory from address 0000 on, at most 32768; cog 0 starts on them as PASM")

abbrev pub any_file : Argument
any_file = operand (codes "FILE") (codes "an image where the name ends in .binary or .eeprom, and else a source in Spin; with --raw hub memory")

abbrev pub pin : Argument
pin = operand (codes "PIN") (codes "the number of a pin: 1 to 10 digits, at most 31")

abbrev pub bits : Argument
bits = operand (codes "BITS") (codes "how many clocks a bit has: 1 to 10 digits, from 2 to 10000")

abbrev pub short : Argument
short = flag (codes "short") (codes "shorter code with the same meaning, of a source alone")

abbrev pub shown_pins : Argument
shown_pins = operand (codes "PINS") (codes "the pins to draw: pins and ranges N-M of pins, divided by commas, each 1 to 10 digits, at most 31")

abbrev pub shown_clocks : Argument
shown_clocks =
    optional (codes "FROM:TO")
    (codes "the clocks to draw, from FROM on and before TO: each 1 to 10 digits, FROM at most TO, and TO at most CLOCKS; else all")

abbrev pub width : Argument
width = valued (codes "width") (codes "N") (codes "a line has N columns at most: 1 to 10 digits, from 20 to 400; else 101")

abbrev pub explained : Argument
explained = operand (codes "WORD") (codes "the top file of a project, a source in Spin; or the number of a refusal, 1 or 2 digits, from 1 to 31")

abbrev pub cog : Argument
cog = valued (codes "cog") (codes "N") (codes "shows what this cog does alone: 1 digit, from 0 to 7")

abbrev pub from : Argument
from = valued (codes "from") (codes "CLOCK") (codes "shows nothing before this clock: 1 to 10 digits, at most the clock of --to; else 0")

abbrev pub to : Argument
to = valued (codes "to") (codes "CLOCK") (codes "shows nothing at this clock or later: 1 to 10 digits, at most CLOCKS; else CLOCKS")

-- a dump in the end of a view
abbrev pub named_dump : Argument
named_dump =
    valued (codes "dump") (codes "A:N|NAME")
    (codes "adds N bytes of hub RAM from the address A on, as run has it; or all of the variable or the label NAME, or of OBJECT.NAME")

abbrev pub pins_only : Argument
pins_only = flag (codes "pins-only") (codes "shows the pins and the locks alone, for readers that take no variable of more than one bit")

-- the arguments that follow the file in each run
abbrev pub run_options : List Argument
run_options = clocks ∷ pins ∷ turns ∷ dump ∷ []

-- ---- the table

abbrev pub raw_entry : Entry
raw_entry = record {
  word = codes "raw";
  arguments = operand (codes "FILE") (codes "the bytes of hub memory from address 0000 on, at most 32768; cog 0 starts on them as PASM") ∷ run_options;
  about = codes "Runs hub memory up to a clock, and writes the trace.";
  examples = codes "prop raw hub.bin 20000 --turns 100" ∷ codes "prop raw hub.bin 20000 --pins button.pins" ∷ [];
}

abbrev pub run_entry : Entry
run_entry = record {
  word = codes "run";
  arguments = operand (codes "FILE") (codes "an image where the name ends in .binary or .eeprom, and else a source in Spin") ∷ run_options ++ alone ∷
      short ∷ [];
  about = codes "Runs an image or a source up to a clock, and writes the trace.";
  examples = codes "prop run blink.spin 20000 --dump 0000:16" ∷ codes "prop run blink.binary 200000 --pins button.pins --alone" ∷ [];
}

abbrev pub entry_of : Subcommand → Entry
entry_of named.Build = record {
  word = codes "build";
  arguments = source_file ∷ short ∷ [];
  about = codes "Writes the image of a source, as a .binary file holds it.";
  examples = codes "prop build blink.spin > blink.binary" ∷ codes "prop build blink.spin --short" ∷ [];
}
entry_of named.List = record {
  word = codes "list";
  arguments = source_file ∷ short ∷ [];
  about = codes "Writes the listing of a source: its objects, their methods, and the code of each.";
  examples = codes "prop list blink.spin" ∷ codes "prop list blink.spin --short" ∷ [];
}
entry_of named.Code = record {
  word = codes "code";
  arguments = operand (codes "FILE") (codes "an image, where its name ends in .binary or .eeprom; or else the top file of a project") ∷ short ∷ [];
  about = codes "Writes the code of a project or of an image, for reading.";
  examples = codes "prop code blink.spin" ∷ codes "prop code blink.binary" ∷ [];
}
entry_of named.Map = record {
  word = codes "map";
  arguments = source_file ∷ [];
  about = codes "Writes the map of a source: where in the hub each variable, label, method and text of its objects stands.";
  examples = codes "prop map blink.spin" ∷ codes "prop map blink.spin | less" ∷ [];
}
entry_of named.Explain = record {
  word = codes "explain";
  arguments = explained ∷ [];
  about = codes "Tells why a source is refused, with the line that is and what mends it; or tells a refusal by its number.";
  examples = codes "prop explain blink.spin" ∷ codes "prop explain 12" ∷ [];
}
entry_of named.Hint = record {
  word = codes "hint";
  arguments = source_file ∷ [];
  about = codes "Tells what is accepted in a source and is most likely a slip, each with its line; or that there is nothing to hint at.";
  examples = codes "prop hint blink.spin" ∷ codes "prop hint blink.spin | less" ∷ [];
}
entry_of named.Raw = raw_entry
entry_of named.Run = run_entry
entry_of named.Save = record {
  word = codes "save";
  arguments = any_file ∷ clocks ∷ pins ∷ saved_turns ∷ raw ∷ [];
  about = codes "Runs a file up to a clock, and writes the history, from which check tells whether a run has it.";
  examples = codes "prop save blink.spin 20000 > blink.history" ∷ codes "prop save blink.spin 20000 --turns 500" ∷ [];
}
entry_of named.Check = record {
  word = codes "check";
  arguments = any_file ∷ operand (codes "HISTORY") (codes "the history of a run of FILE, as save writes it") ∷ pins ∷ raw ∷ [];
  about = codes "Checks that a history is that of a run of a file: writes its number of turns, or tells the first turn that isn't.";
  examples = codes "prop check blink.spin blink.history" ∷ codes "prop check blink.binary blink.history --pins button.pins" ∷ [];
}
entry_of named.Serial = record {
  word = codes "serial";
  arguments = any_file ∷ clocks ∷ pin ∷ bits ∷ pins ∷ turns ∷ raw ∷ [];
  about = codes "Runs a file up to a clock, and writes the bytes that stand on a pin as 8 data bits, no parity and one stop bit.";
  examples = codes "prop serial hello.spin 200000 30 694" ∷ codes "prop serial echo.spin 400000 30 694 --pins hello.pins" ∷ [];
}
entry_of named.TypeFile = record {
  word = codes "type";
  arguments =
      operand (codes "FILE") (codes "the bytes to send, at most 5000") ∷ pin ∷ bits
      ∷ operand (codes "START") (codes "the clock at which the first byte begins: 1 to 10 digits, from 1 to 100000000") ∷ [];
  about = codes "Writes a pin script that sends the bytes of a file on a pin, as serial reads them.";
  examples = codes "prop type hello.txt 31 694 20000 > hello.pins" ∷ codes "prop type hello.txt 0 100 1000" ∷ [];
}
entry_of named.Wave = record {
  word = codes "wave";
  arguments = any_file ∷ shown_run_clocks ∷ pins ∷ turns ∷ raw ∷ flag (codes "all") (codes "shows what never changes too") ∷ pins_only ∷ alone ∷ [];
  about = codes "Runs a file up to a clock, and writes the wave of its pins, cogs and locks as a value change dump.";
  examples = codes "prop wave blink.spin 200000 > blink.vcd" ∷ codes "prop wave blink.spin 200000 --all --pins-only" ∷ [];
}
entry_of named.Plot = record {
  word = codes "plot";
  arguments = any_file ∷ shown_run_clocks ∷ shown_pins ∷ shown_clocks ∷ pins ∷ turns ∷ raw ∷
      flag (codes "ascii") (codes "draws with characters of ASCII alone") ∷ width ∷ alone ∷ [];
  about = codes "Runs a file up to a clock, and draws the levels of some pins as text, a line for each pin.";
  examples = codes "prop plot blink.spin 200000 16" ∷ codes "prop plot blink.spin 200000 0,16-23 1000:9000 --ascii --width 60" ∷ [];
}
entry_of named.View = record {
  word = codes "view";
  arguments =
      any_file ∷ shown_run_clocks ∷ pins ∷ turns ∷ flag (codes "alone") (codes "changes nothing: one thread makes all turns in any case") ∷ raw ∷
      cog ∷ from ∷ to
      ∷ flag (codes "pins-only") (codes "shows what changes pins alone") ∷ flag (codes "quiet") (codes "shows no turn, and tells the end alone") ∷
      named_dump ∷ [];
  about = codes "Runs a file up to a clock, and writes its history for reading, with the names and the lines of a source, and what each cog does in the end.";
  examples = codes "prop view blink.spin 20000 --cog 1" ∷ codes "prop view blink.spin 200000 --quiet --dump ser.rx_head" ∷ [];
}
entry_of named.Page = record {
  word = codes "page";
  arguments = any_file ∷ shown_run_clocks ∷ pins ∷ page_turns ∷ raw ∷ from ∷ to ∷ [];
  about = codes "Runs a file up to a clock, and writes a page in HTML that shows the run in a browser: cogs, pins, the hub, and the lines of a source.";
  examples = codes "prop page blink.spin 200000 > blink.html" ∷ codes "prop page blink.spin 200000 --from 8000 --turns 500" ∷ [];
}
entry_of named.Convert = record {
  word = codes "convert";
  arguments = operand (codes "FILE") (codes "an image, whose name ends in .binary or .eeprom") ∷ [];
  about = codes "Writes an image as the other kind of file: of a .binary the .eeprom, of an .eeprom the .binary.";
  examples = codes "prop convert blink.binary > blink.eeprom" ∷ codes "prop convert blink.eeprom > blink.binary" ∷ [];
}
entry_of named.Make = record {
  word = codes "make";
  arguments = operand (codes "SEED") (codes "the number of a made program: 1 to 10 digits, at most 4294967295") ∷ alone ∷ [];
  about = codes "Runs a made program for eight cogs, and writes a summary.";
  examples = codes "prop make 1" ∷ codes "prop make 4294967295 --alone" ∷ [];
}
entry_of named.Help = record {
  word = codes "help";
  arguments = optional (codes "COMMAND") (codes "the word of a command; else all commands are told") ∷ [];
  about = codes "Writes what a command does, its arguments, their limits and two examples.";
  examples = codes "prop help run" ∷ codes "prop help" ∷ [];
}

-- all commands, in the order in which they are told
abbrev pub subcommands : List Subcommand
subcommands =
    named.Build ∷ named.List ∷ named.Code ∷ named.Map ∷ named.Explain ∷ named.Hint ∷ named.Raw ∷ named.Run ∷ named.Save ∷ named.Check ∷
    named.Serial ∷ named.TypeFile ∷ named.Wave
    ∷ named.Plot ∷ named.View ∷ named.Page ∷ named.Convert ∷ named.Make ∷ named.Help ∷ []

-- the command that a word names
unfoldable pub subcommand_named : Text → Option Subcommand
subcommand_named word = find (λ command. bytes_eq (entry_of command).word word) subcommands

-- ---- the words of a command as `clap` takes them

-- What isn't said of an argument is as in `new_rule`. An operand has no name on the command line, so it stands by its place. A
-- `--name` takes one value and may be given once; a flag `--name` takes none, and its value is `true` where it is given and else
-- `false`.
abbrev pub rule_by : ArgumentKind → Text → Rule
rule_by Operand name = record (new_rule name) { required = true }
rule_by OptionalOperand name = new_rule name
rule_by Valued name = record (new_rule name) { long = Some name }
rule_by Flag name = record (new_rule name) { long = Some name; action = Some SetTrue }

abbrev pub rule_for : Argument → Rule
rule_for argument = rule_by argument.kind argument.name

-- the simple command of `clap` that takes the words of an entry
abbrev pub app_for : Entry → App
app_for entry = fold with_rule (new_app entry.word) (map rule_for entry.arguments)
