-- The faults of a method as a list: internal.
use Rattle.std.specs.Prelude.{Bool, List, [], ◌∷◌, ◌++◌, map, if◌then◌else◌}
use Rattle.p8_tree.specs.declared.places.Place.{Place}
use Rattle.p8_tree.specs.declared.faults.Fault.{Fault}
use Rattle.p8_tree.specs.Faults.{fault}
use Rattle.p8_tree.specs.declared.refusal.Refusal.TheVariants.{JumpTooFar, FrameTooLarge}

-- 25 for each jump that goes too far, and 26 at the name of a method that is too large
abbrev pub faults_of : (too_far : List Place) (name : Place) (too_large : Bool) → List Fault
faults_of too_far name too_large = map (fault JumpTooFar) too_far ++ (if too_large then fault FrameTooLarge name ∷ [] else [])
