-- The conditions of instructions: the four bits of a condition's field say for each pair of the flags C and Z whether to execute.
-- Source: the Propeller Manual v1.2, assembly chapter, "Conditions ( IF_x )".
use Rattle.std.specs.Prelude.{ℕ, ◌+◌, ◌*◌, ◌/◌, ◌%◌, ◌^◌, ◌==◌, Bool, List, [], ◌∷◌, codes}
use Rattle.std.specs.Int.{from_bool}

-- whether an instruction with this field executes under the flags C and Z: bit 2 C + Z of the field is 1
abbrev pub is_met : ℕ → Bool → Bool → Bool
is_met field c z = field / 2 ^ (2 * from_bool c + from_bool z) % 2 == 1

-- every name of a condition, with its field; where a field has several names, the first one is the one that listings print
unfoldable pub conditions : List (List ℕ × ℕ)
conditions =
    (codes "IF_ALWAYS", 15) ∷
    (codes "IF_NEVER", 0) ∷
    (codes "IF_E", 10) ∷
    (codes "IF_Z", 10) ∷
    (codes "IF_NE", 5) ∷
    (codes "IF_NZ", 5) ∷
    (codes "IF_A", 1) ∷
    (codes "IF_NC_AND_NZ", 1) ∷
    (codes "IF_NZ_AND_NC", 1) ∷
    (codes "IF_B", 12) ∷
    (codes "IF_C", 12) ∷
    (codes "IF_AE", 3) ∷
    (codes "IF_NC", 3) ∷
    (codes "IF_BE", 14) ∷
    (codes "IF_C_OR_Z", 14) ∷
    (codes "IF_Z_OR_C", 14) ∷
    (codes "IF_NC_AND_Z", 2) ∷
    (codes "IF_Z_AND_NC", 2) ∷
    (codes "IF_C_AND_NZ", 4) ∷
    (codes "IF_NZ_AND_C", 4) ∷
    (codes "IF_C_AND_Z", 8) ∷
    (codes "IF_Z_AND_C", 8) ∷
    (codes "IF_C_EQ_Z", 9) ∷
    (codes "IF_Z_EQ_C", 9) ∷
    (codes "IF_C_NE_Z", 6) ∷
    (codes "IF_Z_NE_C", 6) ∷
    (codes "IF_C_OR_NZ", 13) ∷
    (codes "IF_NZ_OR_C", 13) ∷
    (codes "IF_NC_OR_Z", 11) ∷
    (codes "IF_Z_OR_NC", 11) ∷
    (codes "IF_NC_OR_NZ", 7) ∷
    (codes "IF_NZ_OR_NC", 7) ∷
    []
