-- What a file is taken for, by the end of its name (this project's profile).
use Rattle.std.specs.Prelude.{ℕ, ◌==◌, Bool, if◌then◌else◌, List, Option, Some, None, codes}
use Rattle.std.specs.List.{ends_with}
use Rattle.p8_commands.specs.declared.image_kind.ImageKind.{ImageKind}
use Rattle.p8_commands.specs.declared.image_kind.ImageKind.TheVariants.{Binary, Eeprom}

-- a name ends so, byte for byte; a name that is the ending alone does
abbrev pub has_ending : (name ending : List ℕ) → Bool
has_ending name ending = ends_with (λ (a b : ℕ). a == b) name ending

-- the kind of image that a file of this name is, if it is one
abbrev pub kind_named : List ℕ → Option ImageKind
kind_named name =
    if has_ending name (codes ".binary") then Some Binary
    else if has_ending name (codes ".eeprom") then Some Eeprom
    else None
