-- The texts that tell why a file is no image (this project's profile).
use Rattle.std.specs.Prelude.{ℕ, ◌/◌, ◌%◌, true, List, ◌++◌, codes}
use Rattle.std.specs.Fmt.{decimal, radix_digits}
use Rattle.p8_image.specs.declared.faults.Field.{Field}
use Rattle.p8_image.specs.declared.faults.Field.TheVariants.{Pbase, Vbase, Dbase, Pcurr, Dcurr}
use Rattle.p8_image.specs.declared.faults.LoadFault.{LoadFault}
use Rattle.p8_image.specs.declared.faults.LoadFault.TheVariants.{BadLength, BadChecksum, BadHeader}

abbrev pub field_name : Field → List ℕ
field_name Pbase = codes "pbase"
field_name Vbase = codes "vbase"
field_name Dbase = codes "dbase"
field_name Pcurr = codes "pcurr"
field_name Dcurr = codes "dcurr"

-- a digit from 0 to 15, in capitals
abbrev pub hex_digit : ℕ → List ℕ
hex_digit digit = radix_digits 16 true digit

-- a length in decimal, a sum in two hexadecimal digits, a place by its name
abbrev pub fault_text : LoadFault → List ℕ
fault_text (BadLength length) = codes "length " ++ decimal length
fault_text (BadChecksum sum) = codes "sum " ++ hex_digit (sum / 16) ++ hex_digit (sum % 16)
fault_text (BadHeader field) = codes "header " ++ field_name field
