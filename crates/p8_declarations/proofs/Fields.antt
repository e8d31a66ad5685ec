-- The fields of conditions, word by word.
use Rattle.std.proofs.Common.{◌≡◌, refl}
use Rattle.p8_tree.specs.declared.places.Place.{Place}
use Rattle.p8_lexer.specs.declared.word.Word.{Word}
use Rattle.p8_lexer.specs.declared.word.Word.TheVariants as word
use Rattle.p8_lexer.specs.Words.{spelling}
use Rattle.p8_instr.specs.Mnemonics.{entry_of}
use Rattle.p8_instr.specs.Conditions.{conditions}
use Rattle.p8_declarations.specs.DataParts.{part_of_word, field_of}

pub fields_agree : (w : Word) (p : Place) → field_of (part_of_word w p) ≡ entry_of conditions (spelling w)
unfolding part_of_word conditions
fields_agree word.IfAlways p = refl
fields_agree _ p = refl
