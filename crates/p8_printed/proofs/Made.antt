-- What a line of DAT that was read is made of, where expressions and names are such as a source has.
use Rattle.std.specs.Prelude.{ℕ, List}
use Rattle.p8_tree.specs.declared.places.Place.{Place}
use Rattle.p8_tree.specs.Expressions.{node, Str}
use Rattle.p8_tree.specs.Sources.{Datum, Instruction, Contents, Line}
pub use Rattle.p8_tree.specs.Proper.{IfThere}
use Rattle.p8_grammar.specs.Lexemes.{in_data_item}
use Rattle.p8_blocks.proofs.DataMade as blocks
use Rattle.p8_blocks.proofs.DataMade.{Facts}
unfoldable pub use Rattle.p8_blocks.proofs.DataMade.{condition_number}
pub use Rattle.p8_blocks.proofs.DataMade.{plain, behind_colon, IsCondition, a_condition, no_condition, effects_number, IsEffects, some_effects, IsFlags, some_flags, sixteen, made, two, on_memory, one, jump, call, return, nothing, of_data, of_org, of_res, of_fit, of_instruction, label_alone, with_contents}
use Rattle.p8_printed.proofs.Readings.{IsRead, IsName, IsWord}

abbrev read : Facts
read = record { IsValue = IsRead; IsName = IsName; IsWord = IsWord; IsText = λ t. (p : Place) → IsRead in_data_item (node p (Str t)); of_text = λ t p h. h p }

abbrev pub IsLabel : List ℕ → Type 0
IsLabel n = blocks.IsLabel read n

abbrev pub IsDatum : Datum → Type 0
IsDatum x = blocks.IsDatum read x

abbrev pub AreData : List Datum → Type 0
AreData xs = blocks.AreData read xs

abbrev pub IsInstruction : Instruction → Type 0
IsInstruction i = blocks.IsInstruction read i

abbrev pub IsContents : Contents → Type 0
IsContents c = blocks.IsContents read c

abbrev pub IsLine : Line → Type 0
IsLine x = blocks.IsLine read x
