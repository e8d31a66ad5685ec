-- internal: the readings with and without clocks agree. No public contract cites it.
use Rattle.std.proofs.Common.{◌≡◌, ℕ, zero, suc, ◌+◌, Bool, true, false, List, [], ◌∷◌, ◌++◌, refl, map, if◌then◌else◌, subst}
use Rattle.p8_access.specs.declared.kinds.Access.{Access}
use Rattle.p8_access.specs.declared.kinds.Answer.{Answer}
use Rattle.p8_access.specs.declared.order.Turn.{Turn}
use Rattle.p8_access.specs.Lives.{is_last}
use Rattle.p8_access.specs.Courses.{Course, Finish, Stop, Ask, Told, Wants, Leaves, Closes, told}
use Rattle.p8_access.specs.Timing.{Outcome, Asks, Goes, Ends, behind, played}
use Rattle.p8_access.specs.Replays.{Engine, step, after, replayed, told_step, told_after, retold, answer_of, StandAlike}

if-alike : {S : Type 0} (b : Bool) (o : Outcome S) (t : Told S) (made : List Access) → StandAlike o t →
    StandAlike (if b then Ends else o) (if b then Closes made else t)
if-alike true o t made alike = tt
if-alike false o t made alike = alike

played-alike : {S : Type 0} (cog p : ℕ) (made : List Access) (course : Course S) (turns : List Turn) →
    StandAlike (played cog p course turns) (told cog made course (map answer_of turns))
played-alike cog p made (Finish s) turns = (refl, refl)
played-alike cog p made (Stop reason) [] = refl
played-alike cog p made (Stop reason) (turn ∷ left) = tt
played-alike cog p made (Ask access go) [] = refl
played-alike cog p made (Ask access go) (turn ∷ left) =
    if-alike (is_last cog access) _ _ _ (played-alike cog (behind p access turn.key.clock) (made ++ access ∷ []) (go turn.answer) left)

goes-alike : {S : Type 0} (e : Engine S) (clock : ℕ) (made : List Access) (s t : S) (turns : List Turn) (answers : List Answer) → s ≡ t →
    map answer_of turns ≡ answers → StandAlike (step e (Goes s clock turns)) (told_step e (Leaves made t answers))
goes-alike e clock made s t turns answers same left =
    subst (λ (xs : List Answer). StandAlike (step e (Goes s clock turns)) (told_step e (Leaves made t xs))) left
    (subst (λ x. StandAlike (step e (Goes s clock turns)) (told_step e (Leaves made x (map answer_of turns)))) same
    (played-alike e.cog (clock + e.cost s) made (e.next s) turns))

step-alike : {S : Type 0} (e : Engine S) (o : Outcome S) (t : Told S) → StandAlike o t → StandAlike (step e o) (told_step e t)
step-alike e (Asks clock access) (Wants made wanted) alike = alike
step-alike e (Asks clock access) (Leaves made t answers) alike = absurd alike
step-alike e (Asks clock access) (Closes made) alike = absurd alike
step-alike e (Goes s clock turns) (Wants made wanted) alike = absurd alike
step-alike e (Goes s clock turns) (Leaves made t answers) alike = goes-alike e clock made s t turns answers alike.0 alike.1
step-alike e (Goes s clock turns) (Closes made) alike = absurd alike
step-alike e Ends (Wants made wanted) alike = absurd alike
step-alike e Ends (Leaves made t answers) alike = absurd alike
step-alike e Ends (Closes made) alike = tt

after-alike : {S : Type 0} (e : Engine S) (count : ℕ) (o : Outcome S) (t : Told S) → StandAlike o t → StandAlike (after e count o) (told_after e count t)
unfolding after told_after
after-alike e zero o t alike = alike
after-alike e (suc n) o t alike = step-alike e (after e n o) (told_after e n t) (after-alike e n o t alike)

pub readings-agree : {S : Type 0} (e : Engine S) (start count : ℕ) (first : Course S) (turns : List Turn) →
    StandAlike (replayed e start first count turns) (retold e first count (map answer_of turns))
readings-agree e start count first turns = after-alike e count _ _ (played-alike e.cog start [] first turns)
