-- What a greater bound tells.
use Rattle.std.specs.Prelude.{◌≡◌, List, ◌++◌}
use Rattle.p8_access.specs.declared.kinds.Access.{Access}
use Rattle.p8_access.specs.Courses.{Told, Wants, Leaves, Closes}

-- the accesses that have had an answer
abbrev pub made_of : {S : Type 0} → Told S → List Access
made_of (Wants made access) = made
made_of (Leaves made state left) = made
made_of (Closes made) = made

-- the bound didn't end first
abbrev pub IsSettled : {S : Type 0} → Told S → Type 0
IsSettled (Wants made access) = Unit {0}
IsSettled (Leaves made state left) = ⊥
IsSettled (Closes made) = Unit {0}

-- the first stand at the begin of the second
abbrev pub IsBeginning : List Access → List Access → Type 0
IsBeginning first second = (more : List Access) × (second ≡ first ++ more)
