-- What is said of names and listings.
use Rattle.std.specs.Prelude.{◌≡◌, ℕ, Bool, true, false, List, [], ◌∷◌, length, is_some}
use Rattle.p8_bytecode.specs.Table.{operands_of}
use Rattle.p8_image.specs.declared.parts.ObjectPart.{ObjectPart}
use Rattle.p8_map.specs.declared.names.FileNames.{FileNames}
use Rattle.p8_code.specs.Bytecodes.{bytecode_name}
use Rattle.p8_code.specs.Listing.{FileCode, code_of, lines_with}

abbrev pub has_text : List ℕ → Bool
has_text [] = false
has_text (c ∷ text) = true

-- a byte has a name exactly where it is that of a bytecode
abbrev pub IsNamed : (code : ℕ) → Type 0
IsNamed code = has_text (bytecode_name code) ≡ is_some (operands_of code)

-- each file has an object, and for each method of it a name and a code
abbrev pub HaveObjects : List FileNames → List ObjectPart → List FileCode → Type 0
HaveObjects [] [] [] = Unit {0}
HaveObjects (file ∷ files) (object ∷ objects) (code ∷ others) =
    (length file.methods ≡ length object.methods) × (length code.methods ≡ length object.methods) × HaveObjects files objects others
HaveObjects _ _ _ = ⊥

-- A listing is in a text: the text is the code of some objects, by names and by what is known of their files beside them, and written with nothing as
-- `more` the same code is the listing.
pub record HoldsListing (text listing : List ℕ) : Type 0 where
  pub names : List FileNames
  pub objects : List ObjectPart
  pub known : List FileCode
  pub whole : text ≡ code_of names objects known
  pub without : lines_with (λ more. []) names objects known ≡ listing
