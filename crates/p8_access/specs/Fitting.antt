-- Courses and lives by their answers, where an answer that doesn't fit the access that would take it counts as the end of the
-- list.
use Rattle.std.specs.Prelude.{ℕ, zero, suc, ◌≡◌, ◌⊎◌, true, false, List, [], ◌∷◌, ◌++◌}
use Rattle.p8_access.specs.declared.kinds.Access.{Access}
use Rattle.p8_access.specs.declared.kinds.Access.TheVariants.{Halt}
use Rattle.p8_access.specs.declared.kinds.Answer.{Answer}
use Rattle.p8_access.specs.Lives.{is_last}
use Rattle.p8_access.specs.Proper.{Fits}
use Rattle.p8_access.specs.Courses.{Course, Finish, Stop, Ask, Told, Wants, Leaves, Closes}
use Rattle.p8_access.specs.Replays.{Engine, retold}

-- ---- the reading that ends the list

-- what becomes of a course with these answers, after the accesses that were made: each access takes the first that is left, if
-- that fits, and else is asked as at the end of the list
abbrev pub IsToldFitting : {S : Type 0} → (cog : ℕ) (made : List Access) → Course S → List Answer → Told S → Type 0
IsToldFitting cog made (Finish s) answers t = t ≡ Leaves made s answers
IsToldFitting cog made (Stop reason) [] t = t ≡ Wants made (Halt reason)
IsToldFitting cog made (Stop reason) (answer ∷ left) t =
    (Fits (Halt reason) answer × (t ≡ Closes (made ++ Halt reason ∷ [])))
    ⊎ ((Fits (Halt reason) answer → ⊥) × (t ≡ Wants made (Halt reason)))
IsToldFitting cog made (Ask access go) [] t = t ≡ Wants made access
IsToldFitting cog made (Ask access go) (answer ∷ left) t =
    (Fits access answer × (is_last cog access ≡ true) × (t ≡ Closes (made ++ access ∷ [])))
    ⊎ ((Fits access answer × (is_last cog access ≡ false) × IsToldFitting cog (made ++ access ∷ []) (go answer) left t)
    ⊎ ((Fits access answer → ⊥) × (t ≡ Wants made access)))

-- one course more, where there is one
abbrev pub IsStepFitting : {S : Type 0} → Engine S → Told S → Told S → Type 0
IsStepFitting e (Leaves made s left) t = IsToldFitting e.cog made (e.next s) left t
IsStepFitting e (Wants made access) t = t ≡ Wants made access
IsStepFitting e (Closes made) t = t ≡ Closes made

-- what becomes of a life that begins with this course, and so many courses after the first
abbrev pub IsRetoldFitting : {S : Type 0} → Engine S → (first : Course S) → (count : ℕ) → List Answer → Told S → Type 0
IsRetoldFitting e first zero answers t = IsToldFitting e.cog [] first answers t
IsRetoldFitting {S} e first (suc n) answers t = (before : Told S) × IsRetoldFitting e first n answers before × IsStepFitting e before t

-- ---- lists that fit

-- each answer that a course takes fits the access that takes it
abbrev pub TakesFitting : {S : Type 0} → (cog : ℕ) → Course S → List Answer → Type 0
TakesFitting cog (Finish s) answers = Unit {0}
TakesFitting cog (Stop reason) [] = Unit {0}
TakesFitting cog (Stop reason) (answer ∷ left) = Fits (Halt reason) answer
TakesFitting cog (Ask access go) [] = Unit {0}
TakesFitting cog (Ask access go) (answer ∷ left) =
    Fits access answer × (is_last cog access ≡ false → TakesFitting cog (go answer) left)

abbrev pub StepsFitting : {S : Type 0} → Engine S → Told S → Type 0
StepsFitting e (Leaves made s left) = TakesFitting e.cog (e.next s) left
StepsFitting e (Wants made access) = Unit {0}
StepsFitting e (Closes made) = Unit {0}

-- the same of a life
abbrev pub LivesFitting : {S : Type 0} → Engine S → (first : Course S) → (count : ℕ) → List Answer → Type 0
LivesFitting e first zero answers = TakesFitting e.cog first answers
LivesFitting e first (suc n) answers = LivesFitting e first n answers × StepsFitting e (retold e first n answers)
