-- internal
-- The variables of a wave in parts, each of one scope.
use Rattle.std.specs.Prelude.{◌≡◌, true, List, [], ◌∷◌, flat_map}
use Rattle.p8_wave.specs.declared.entries.Entry.{Entry}
use Rattle.p8_wave.specs.declared.variables.Scope.{Scope}
use Rattle.p8_wave.specs.Variables.{is_in}

-- the variables of these entries stand in one scope
abbrev pub AreInside : Scope → List Entry → Type 0
AreInside scope [] = Unit {0}
AreInside scope (e ∷ entries) = (is_in scope e.variable ≡ true) × AreInside scope entries

-- the entries of all parts
abbrev pub together : List (List Entry) → List Entry
together parts = flat_map (λ (entries : List Entry). entries) parts
