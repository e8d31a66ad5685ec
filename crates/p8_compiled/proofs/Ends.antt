-- What more bytecodes tell: the accesses made before come first, and what has stopped stays so.
use Rattle.std.proofs.Common.{◌≡◌, refl, sym, ap, subst, ◌∙◌, arith, ℕ, zero, suc, ◌+◌, ◌-◌, ◌≤◌, Bool, true, false, if◌then◌else◌, List, [], ◌∷◌, ◌++◌, append_assoc, append-nil}
use Rattle.p8_access.specs.declared.kinds.Access.{Access}
use Rattle.p8_access.specs.declared.kinds.Access.TheVariants as asked
use Rattle.p8_access.specs.declared.kinds.Answer.{Answer}
use Rattle.p8_access.specs.Lives.{is_last}
use Rattle.p8_access.specs.Courses.{Course, Finish, Stop, Ask, Told, Wants, Leaves, Closes, told}
use Rattle.p8_access.specs.Replays.{Engine, told_step, told_after}
use Rattle.p8_meaning.specs.Bounds.{made_of, IsSettled, IsBeginning}
use Rattle.p8_compiled.specs.Keeps.{forgets}

begins_itself : (made : List Access) → IsBeginning made made
begins_itself made = ([], sym (append-nil made))

begins_longer : (made : List Access) (access : Access) (whole : List Access) → IsBeginning (made ++ access ∷ []) whole → IsBeginning made whole
begins_longer made access whole h = (access ∷ h.0, h.1 ∙ append_assoc made (access ∷ []) h.0)

begins_further : (a b c : List Access) → IsBeginning a b → IsBeginning b c → IsBeginning a c
begins_further a b c h i = (h.0 ++ i.0, i.1 ∙ ap (λ (xs : List Access). xs ++ i.0) h.1 ∙ append_assoc a h.0 i.0)

module _ {S : Type 0} (e : Engine S) where
  if_begins : (b : Bool) (made : List Access) (x y : Told S) → IsBeginning made (made_of x) → IsBeginning made (made_of y) → IsBeginning made (made_of (if b then x else y))
  if_begins true made x y h i = h
  if_begins false made x y h i = i

  first_made : (made : List Access) (c : Course S) (answers : List Answer) → IsBeginning made (made_of (told e.cog made c answers))
  first_made made (Finish s) answers = begins_itself made
  first_made made (Stop reason) [] = begins_itself made
  first_made made (Stop reason) (answer ∷ left) = begins_longer made (asked.Halt reason) _ (begins_itself (made ++ asked.Halt reason ∷ []))
  first_made made (Ask access go) [] = begins_itself made
  first_made made (Ask access go) (answer ∷ left) =
      if_begins (is_last e.cog access) made _ _
      (begins_longer made access _ (begins_itself (made ++ access ∷ [])))
      (begins_longer made access _ (first_made (made ++ access ∷ []) (go answer) left))

  one_more : (t : Told S) → IsBeginning (made_of t) (made_of (told_step e t))
  one_more (Wants made access) = begins_itself made
  one_more (Leaves made s left) = first_made made (e.next s) left
  one_more (Closes made) = begins_itself made

  grows : (n : ℕ) (t : Told S) → IsBeginning (made_of t) (made_of (told_after e n t))
  unfolding told_after
  grows zero t = begins_itself (made_of t)
  grows (suc n) t = begins_further (made_of t) (made_of (told_after e n t)) (made_of (told_after e (suc n) t)) (grows n t) (one_more (told_after e n t))

  step_stays : (t : Told S) → IsSettled t → told_step e t ≡ t
  step_stays (Wants made access) h = refl
  step_stays (Leaves made s left) h = absurd h
  step_stays (Closes made) h = refl

  stays : (n : ℕ) (t : Told S) → IsSettled t → told_after e n t ≡ t
  unfolding told_after
  stays zero t h = refl
  stays (suc n) t h = ap (told_step e) (stays n t h) ∙ step_stays t h

  together : (m n : ℕ) (t : Told S) → told_after e (m + n) t ≡ told_after e m (told_after e n t)
  unfolding told_after
  together zero n t = ap (λ k. told_after e k t) (let z : 0 + n ≡ n = omega arith in z)
  together (suc m) n t = ap (λ k. told_after e k t) (let z : suc m + n ≡ suc (m + n) = omega arith in z) ∙ ap (told_step e) (together m n t)

  later : (g j : ℕ) → g ≤ j → (t : Told S) → told_after e j t ≡ told_after e (j - g) (told_after e g t)
  later g j le t = ap (λ k. told_after e k t) (let z : j ≡ j - g + g = omega (arith, le) in z) ∙ together (j - g) g t

  made-same : (t : Told S) → made_of (forgets t) ≡ made_of t
  made-same (Wants made access) = refl
  made-same (Leaves made s left) = refl
  made-same (Closes made) = refl

  settled-same : (t : Told S) → IsSettled (forgets t) → IsSettled t
  settled-same (Wants made access) h = tt
  settled-same (Leaves made s left) h = absurd h
  settled-same (Closes made) h = tt

  -- what is told after more courses
  pub settled-later : (g j : ℕ) → g ≤ j → (t : Told S) → IsSettled (forgets (told_after e g t)) → forgets (told_after e j t) ≡ forgets (told_after e g t)
  settled-later g j le t h = ap forgets (later g j le t ∙ stays (j - g) (told_after e g t) (settled-same (told_after e g t) h))

  pub made-later : (g j : ℕ) → g ≤ j → (t : Told S) → IsBeginning (made_of (forgets (told_after e g t))) (made_of (forgets (told_after e j t)))
  made-later g j le t =
      subst (λ (a : List Access). IsBeginning a (made_of (forgets (told_after e j t)))) (sym (made-same (told_after e g t)))
      (subst (λ (b : List Access). IsBeginning (made_of (told_after e g t)) b) (sym (made-same (told_after e j t) ∙ ap made_of (later g j le t))) (grows (j - g) (told_after e g t)))
