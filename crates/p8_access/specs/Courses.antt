-- What is done access by access, without a clock: the meaning of a bytecode, and of what is compiled to
-- bytecodes.
use Rattle.std.specs.Prelude.{ℕ, if◌then◌else◌, List, [], ◌∷◌, ◌++◌}
use Rattle.p8_access.specs.declared.kinds.Reason.{Reason}
use Rattle.p8_access.specs.declared.kinds.Access.{Access}
use Rattle.p8_access.specs.declared.kinds.Access.TheVariants.{Halt}
use Rattle.p8_access.specs.declared.kinds.Answer.{Answer}
use Rattle.p8_access.specs.Lives.{is_last}

-- a course asks accesses, one after the other, and goes on by their answers
pub data Course (S : Type 0) : Type 0 where
  -- it is done, and leaves this
  Finish : (state : S) → Course S
  -- the cog halts
  Stop : (reason : Reason) → Course S
  -- it asks this access, and goes on by its answer
  Ask : (access : Access) (go : Answer → Course S) → Course S

-- one course, and then another with what it leaves
abbrev pub and_then : {S T : Type 0} → Course S → (S → Course T) → Course T
and_then (Finish s) go = go s
and_then (Stop reason) go = Stop reason
and_then (Ask access rest) go = Ask access (λ answer. and_then (rest answer) go)

-- what becomes of a course in a cog: the accesses that were made, and how it stands then
pub data Told (S : Type 0) : Type 0 where
  -- it asks this access next
  Wants : (made : List Access) (access : Access) → Told S
  -- it is done, and these answers are left
  Leaves : (made : List Access) (state : S) (left : List Answer) → Told S
  -- a halt, or the cog's stop of itself, was answered, and nothing comes after that
  Closes : (made : List Access) → Told S

-- a course with these answers, after the accesses that were made: each access takes the first that is left
abbrev pub told : {S : Type 0} → (cog : ℕ) (made : List Access) → Course S → List Answer → Told S
told cog made (Finish s) answers = Leaves made s answers
told cog made (Stop reason) [] = Wants made (Halt reason)
told cog made (Stop reason) (answer ∷ left) = Closes (made ++ Halt reason ∷ [])
told cog made (Ask access go) [] = Wants made access
told cog made (Ask access go) (answer ∷ left) =
    if is_last cog access then Closes (made ++ access ∷ []) else told cog (made ++ access ∷ []) (go answer) left
