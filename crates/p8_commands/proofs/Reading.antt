-- How a command follows from what `clap` finds in the words.
use Rattle.std.proofs.Common.{◌≡◌, ◌<◌, ◌≤◌, ◌∙◌, ap, sym, subst, refl, arith, true, List, [], ◌∷◌, map, length, Option, Some, None}
use Rattle.std.specs.Prelude.{option_and_then}
use Rattle.std.specs.List.{slice_index_or}
use Rattle.std.proofs.Math.Path.{fun_ext}
use Rattle.clap.specs.declared.parser.matches.ArgMatches.{ArgMatches}
use Rattle.clap.specs.Faults.{fault_of, is_simple_and_free}
use Rattle.clap.specs.Kinds.{Kinds}
use Rattle.clap.specs.Matches.{first_value, found_of}
use Rattle.clap.specs.Simple.{App, matches_of}
use Rattle.clap.specs.Walk.{Row, Text, first_of, rows_of}
use Rattle.clap.proofs.WalkLemmas.{first_value-rows}
use Rattle.p8_commands.specs.declared.table.Subcommand.{Subcommand}
use Rattle.p8_commands.specs.declared.table.Subcommand.TheVariants as named
use Rattle.p8_commands.specs.Commands.{command_of, faultless, meaning_of, said_to}
use Rattle.p8_commands.specs.Table.{app_for, entry_of, subcommand_named}
use Rattle.p8_commands.specs.Taking.{Takes}

-- each row of the table is a simple command
pub rows-simple : (command : Subcommand) → is_simple_and_free (app_for (entry_of command)) ≡ true
rows-simple named.Build = refl
rows-simple _ = refl

-- where there is a fault nothing is said
faulty : {A : Type 0} (kinds : Kinds) (said : Option A) → (kinds ≡ [] → ⊥) → faultless kinds said ≡ None
faulty [] said some = absurd (some refl)
faulty (kind ∷ kinds) said some = refl

refused : (command : Subcommand) (words : List Text) → (fault_of (app_for (entry_of command)) words ≡ [] → ⊥) → said_to command words ≡ None
unfolding said_to
refused command words some = faulty (fault_of (app_for (entry_of command)) words) _ some

taken : (command : Subcommand) (words : List Text) → fault_of (app_for (entry_of command)) words ≡ [] → said_to command words ≡ meaning_of command (λ name. first_of name (matches_of (app_for (entry_of command)) words))
unfolding said_to
taken command words none = ap (λ (kinds : Kinds). faultless kinds (meaning_of command (λ name. first_of name (matches_of (app_for (entry_of command)) words)))) none

-- the value of each argument is what the matches have for it
values : (matches : ArgMatches) (rows : List Row) → rows_of (found_of matches) ≡ rows → (λ name. first_of name rows) ≡ first_value (found_of matches)
values matches rows same = fun_ext (λ (name : Text). ap (first_of name) (sym same) ∙ sym (first_value-rows (found_of matches) name))

pub nothing-said : (command : Subcommand) (app : App) (words : List Text) (found : Option ArgMatches) → app ≡ app_for (entry_of command) → Takes app words found → found ≡ None → said_to command words ≡ None
nothing-said command app words found same takes none =
    refused command words (subst (λ (a : App). Takes a words None) same (subst (λ (o : Option ArgMatches). Takes app words o) none takes))

pub command-said : (command : Subcommand) (app : App) (words : List Text) (found : Option ArgMatches) (matches : ArgMatches) → app ≡ app_for (entry_of command) → Takes app words found → found ≡ Some matches → said_to command words ≡ meaning_of command (first_value (found_of matches))
command-said command app words found matches same takes some =
    let given = subst (λ (a : App). Takes a words (Some matches)) same (subst (λ (o : Option ArgMatches). Takes app words o) some takes) in
    taken command words given.0 ∙ ap (meaning_of command) (values matches _ given.1)

-- no words are no command
pub no-words : {A : Type 0} (f : A → Text) (words : List A) → length words < 1 → command_of (map f words) ≡ None
unfolding command_of
no-words f [] few = refl
no-words f (word ∷ words) few = absurd (omega arith)

-- the first word chooses the row
by-word : (word : Text) (words : List Text) (row : Option Subcommand) → subcommand_named word ≡ row → command_of (word ∷ words) ≡ option_and_then (λ command. said_to command (word ∷ words)) row
unfolding command_of
by-word word words row is = ap (option_and_then (λ (command : Subcommand). said_to command (word ∷ words))) is

pub row-chosen : {A : Type 0} (f : A → Text) (words : List A) (word : A) (row : Option Subcommand) → 1 ≤ length words → word ≡ slice_index_or words 0 word → subcommand_named (f word) ≡ row → command_of (map f words) ≡ option_and_then (λ command. said_to command (map f words)) row
row-chosen f [] word row some at is = absurd (omega arith)
row-chosen f (first ∷ words) word row some at is = by-word (f first) (map f words) row (ap (λ w. subcommand_named (f w)) (sym at) ∙ is)
