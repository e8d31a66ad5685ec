-- The two readings by answers agree on lists that fit.
use Rattle.std.proofs.Common.{◌≡◌, ◌⊎◌, inl, inr, ◌∙◌, ap, sym, subst, refl, ℕ, zero, suc, Bool, true, false, List, [], ◌∷◌, ◌++◌, if◌then◌else◌, append-nil}
use Rattle.p8_access.specs.declared.kinds.Access.{Access}
use Rattle.p8_access.specs.declared.kinds.Answer.{Answer}
use Rattle.p8_access.specs.Lives.{is_last}
use Rattle.p8_access.specs.Proper.{Fits}
use Rattle.p8_access.specs.Courses.{Course, Finish, Stop, Ask, Told, Wants, Leaves, Closes, told}
use Rattle.p8_access.specs.Replays.{Engine, told_step, told_after, retold}
use Rattle.p8_access.specs.Fitting.{IsToldFitting, TakesFitting, IsStepFitting, StepsFitting, IsRetoldFitting, LivesFitting}

either : (b : Bool) → (b ≡ true) ⊎ (b ≡ false)
either true = inl refl
either false = inr refl

if-so : {S : Type 0} (b : Bool) (x y : Told S) → b ≡ true → (if b then x else y) ≡ x
if-so true x y is = refl
if-so false x y is = absurd (let e : false ≡ true = is in cc)

if-not : {S : Type 0} (b : Bool) (x y : Told S) → b ≡ false → (if b then x else y) ≡ y
if-not true x y is = absurd (let e : true ≡ false = is in cc)
if-not false x y is = refl

-- ---- one course

pub only-told : {S : Type 0} (cog : ℕ) (made : List Access) (course : Course S) (answers : List Answer) (t : Told S) → TakesFitting cog course answers → IsToldFitting cog made course answers t → t ≡ told cog made course answers
only-told cog made (Finish s) answers t fit is = is
only-told cog made (Stop reason) [] t fit is = is
only-told cog made (Stop reason) (answer ∷ left) t fit (inl is) = is.1
only-told cog made (Stop reason) (answer ∷ left) t fit (inr is) = absurd (is.0 fit)
only-told cog made (Ask access go) [] t fit is = is
only-told cog made (Ask access go) (answer ∷ left) t fit (inl is) =
    is.2 ∙ sym (if-so (is_last cog access) _ _ is.1)
only-told cog made (Ask access go) (answer ∷ left) t fit (inr (inl is)) =
    only-told cog (made ++ access ∷ []) (go answer) left t (fit.1 is.1) is.2 ∙ sym (if-not (is_last cog access) _ _ is.1)
only-told cog made (Ask access go) (answer ∷ left) t fit (inr (inr is)) = absurd (is.0 fit.0)

is-asked : {S : Type 0} (cog : ℕ) (made : List Access) (access : Access) (go : Answer → Course S) (answer : Answer) (left : List Answer) → Fits access answer → (is_last cog access ≡ false → IsToldFitting cog (made ++ access ∷ []) (go answer) left (told cog (made ++ access ∷ []) (go answer) left)) → (is_last cog access ≡ true) ⊎ (is_last cog access ≡ false) → IsToldFitting cog made (Ask access go) (answer ∷ left) (told cog made (Ask access go) (answer ∷ left))
is-asked cog made access go answer left fit goes_on (inl last) = inl (fit, last, if-so (is_last cog access) _ _ last)
is-asked {S} cog made access go answer left fit goes_on (inr goes) =
    inr (inl (fit, goes, subst (λ (t : Told S). IsToldFitting cog (made ++ access ∷ []) (go answer) left t) (sym (if-not (is_last cog access) _ _ goes)) (goes_on goes)))

pub is-told : {S : Type 0} (cog : ℕ) (made : List Access) (course : Course S) (answers : List Answer) → TakesFitting cog course answers → IsToldFitting cog made course answers (told cog made course answers)
is-told cog made (Finish s) answers fit = refl
is-told cog made (Stop reason) [] fit = refl
is-told cog made (Stop reason) (answer ∷ left) fit = inl (fit, refl)
is-told cog made (Ask access go) [] fit = refl
is-told cog made (Ask access go) (answer ∷ left) fit =
    is-asked cog made access go answer left fit.0 (λ goes. is-told cog (made ++ access ∷ []) (go answer) left (fit.1 goes)) (either (is_last cog access))

-- ---- the end of a list

-- a course that comes to this with a beginning of the answers, all of which fits
abbrev pub Ends : {S : Type 0} → (cog : ℕ) (made : List Access) → Course S → List Answer → Told S → Type 0
Ends cog made course answers t =
    (kept left : List Answer) × (kept ++ left ≡ answers) × TakesFitting cog course kept × (t ≡ told cog made course kept)

goes-last : {X : Type 0} (b : Bool) → b ≡ true → b ≡ false → X
goes-last b last goes = absurd (let e : true ≡ false = sym last ∙ goes in cc)

pub ends : {S : Type 0} (cog : ℕ) (made : List Access) (course : Course S) (answers : List Answer) (t : Told S) → IsToldFitting cog made course answers t → Ends cog made course answers t
ends cog made (Finish s) answers t is = (answers, [], append-nil answers, tt, is)
ends cog made (Stop reason) [] t is = ([], [], refl, tt, is)
ends cog made (Stop reason) (answer ∷ left) t (inl is) = (answer ∷ left, [], append-nil (answer ∷ left), is.0, is.1)
ends cog made (Stop reason) (answer ∷ left) t (inr is) = ([], answer ∷ left, refl, tt, is.1)
ends cog made (Ask access go) [] t is = ([], [], refl, tt, is)
ends cog made (Ask access go) (answer ∷ left) t (inl is) =
    (answer ∷ left, [], append-nil (answer ∷ left), (is.0, λ goes. goes-last (is_last cog access) is.1 goes), is.2 ∙ sym (if-so (is_last cog access) _ _ is.1))
ends cog made (Ask access go) (answer ∷ left) t (inr (inl is)) =
    let rest = ends cog (made ++ access ∷ []) (go answer) left t is.2 in
    (answer ∷ rest.0, rest.1, ap (λ (l : List Answer). answer ∷ l) rest.2, (is.0, λ goes. rest.3), rest.4 ∙ sym (if-not (is_last cog access) _ _ is.1))
ends cog made (Ask access go) (answer ∷ left) t (inr (inr is)) = ([], answer ∷ left, refl, tt, is.1)

-- ---- a life

step-told : {S : Type 0} (e : Engine S) (u : Told S) → StepsFitting e u → IsStepFitting e u (told_step e u)
step-told e (Leaves made s left) fit = is-told e.cog made (e.next s) left fit
step-told e (Wants made access) fit = refl
step-told e (Closes made) fit = refl

only-step : {S : Type 0} (e : Engine S) (u t : Told S) → StepsFitting e u → IsStepFitting e u t → t ≡ told_step e u
only-step e (Leaves made s left) t fit is = only-told e.cog made (e.next s) left t fit is
only-step e (Wants made access) t fit is = is
only-step e (Closes made) t fit is = is

retold-more : {S : Type 0} (e : Engine S) (first : Course S) (n : ℕ) (answers : List Answer) → retold e first (suc n) answers ≡ told_step e (retold e first n answers)
unfolding told_after
retold-more e first n answers = refl

retold-none : {S : Type 0} (e : Engine S) (first : Course S) (answers : List Answer) → retold e first zero answers ≡ told e.cog [] first answers
unfolding told_after
retold-none e first answers = refl

pub is-retold : {S : Type 0} (e : Engine S) (first : Course S) (count : ℕ) (answers : List Answer) → LivesFitting e first count answers → IsRetoldFitting e first count answers (retold e first count answers)
is-retold e first zero answers fit = subst (IsToldFitting e.cog [] first answers) (sym (retold-none e first answers)) (is-told e.cog [] first answers fit)
is-retold {S} e first (suc n) answers fit =
    (retold e first n answers, is-retold e first n answers fit.0, subst (λ (t : Told S). IsStepFitting e (retold e first n answers) t) (sym (retold-more e first n answers)) (step-told e (retold e first n answers) fit.1))

pub only-retold : {S : Type 0} (e : Engine S) (first : Course S) (count : ℕ) (answers : List Answer) (t : Told S) → LivesFitting e first count answers → IsRetoldFitting e first count answers t → t ≡ retold e first count answers
only-retold e first zero answers t fit is = only-told e.cog [] first answers t fit is ∙ sym (retold-none e first answers)
only-retold {S} e first (suc n) answers t fit is =
    let same : is.0 ≡ retold e first n answers = only-retold e first n answers is.0 fit.0 is.1 in
    only-step e (retold e first n answers) t fit.1 (subst (λ (u : Told S). IsStepFitting e u t) same is.2) ∙ sym (retold-more e first n answers)
