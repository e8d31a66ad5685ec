-- A verdict is the value, and no fault, or no value and the first fault.
use Rattle.std.proofs.Common.{◌≡◌, ◌⊎◌, inl, inr, ℕ, Bool, true, false, ◌==◌, ◌&&◌, List, [], ◌∷◌, Option, Some, None, Result, Ok, Err, refl, sym, ap, ◌∙◌, subst, arith}
use Rattle.std.proofs.lemmas.Bool.{cases_eq}
use Rattle.std.proofs.lemmas.Bool.Decides.{nat_tests}
use Rattle.std.specs.Prelude.{IfOk, IfErr, OnOk, OnErr, MatchOption, if◌then◌else◌, is_some, map, ◌||◌}
use Rattle.std.specs.Result.{result_err}
use Rattle.std.proofs.Math.Logic.{⊎_elim}
use Rattle.p8_tree.specs.declared.places.Place.{Place}
use Rattle.p8_tree.specs.declared.faults.Fault.{Fault}
use Rattle.p8_tree.specs.Faults.{FaultBefore, IsFirstFault, fault, earlier, with_further, first_of_two}
use Rattle.p8_tree.specs.declared.refusal.Refusal.TheVariants.{NotConstant, ZeroDivisor, Unknown, WrongKind}
use Rattle.p8_tree.proofs.Firsts.{IsFirstFault-along, IsFirstFault-earlier}
use Rattle.p8_fold.specs.declared.meanings.Meaning.{Meaning}
use Rattle.p8_fold.specs.declared.meanings.Meaning.TheVariants as meaning_case
use Rattle.p8_fold.specs.Meanings.{Setting, value_of_meaning, given}
use Rattle.p8_words.specs.Operators.{beside, unary_values, binary_values, unary_result, binary_result, divides}
use Rattle.p8_fold.specs.Values.{constant_of, before, between, fault_of_name, unless, where_so, fault_of_constant, fault_before, fault_between, fault_of_character}
use Rattle.p8_fold.specs.Verdicts.{or_fault, verdict_before, verdict_of_values, verdict_between, verdict_of_constant, first_of_character}

-- what is told of a set of faults: its first, or that it has none
abbrev pub Tells : Option Fault → (Fault → Type 0) → Type 0
Tells None S = (f : Fault) → ¬ S f
Tells (Some f) S = IsFirstFault S f

-- what is told of an expression with this value and these faults
abbrev pub Judges : Result ℕ Fault → Option ℕ → (Fault → Type 0) → Type 0
Judges (Ok v) o S = (o ≡ Some v) × ((f : Fault) → ¬ S f)
Judges (Err f) o S = (o ≡ None) × IsFirstFault S f

-- ---- sets of faults

pub tells : (S T : Fault → Type 0) (o : Option Fault) → ((x : Fault) → S x → T x) → ((x : Fault) → T x → S x) → Tells o S → Tells o T
tells S T None to from h = λ f t. h f (from f t)
tells S T (Some f) to from h = IsFirstFault-along to from h

pub fault_told : (S : Fault → Type 0) (r : Result ℕ Fault) (o : Option ℕ) → Judges r o S → Tells (result_err r) S
fault_told S (Ok v) o h = h.1
fault_told S (Err f) o h = h.1

pub further_told : (S T : Fault → Type 0) (f : Fault) (o : Option Fault) → IsFirstFault S f → Tells o T → IsFirstFault (λ x. S x ⊎ T x) (with_further f o)
further_told S T f None h t = IsFirstFault-along (λ x. inl) (λ x. ⊎_elim (λ s. s) (λ t'. absurd (t x t'))) h
further_told S T f (Some g) h t = IsFirstFault-earlier S T f g h t

pub two_told : (S T : Fault → Type 0) (o p : Option Fault) → Tells o S → Tells p T → Tells (first_of_two o p) (λ x. S x ⊎ T x)
two_told S T None None s t = λ f. ⊎_elim (s f) (t f)
two_told S T None (Some g) s t = IsFirstFault-along (λ x. inr) (λ x. ⊎_elim (λ a. absurd (s x a)) (λ b. b)) t
two_told S T (Some f) p s t = further_told S T f p s t

-- a set of one fault
abbrev pub is_one : Fault → Fault → Type 0
is_one f x = Some f ≡ Some x

pub one_told : (f : Fault) → IsFirstFault (λ x. Some f ≡ Some x) f
one_told f = record {
  holds = refl;
  first = λ g e. let same : f ≡ g = cc in subst (λ x. ¬ FaultBefore x f) same (λ b. grind arith);
}

-- a node's own fault
pub own_told : (o : Option Fault) → Tells o (λ x. o ≡ Some x)
own_told None = λ f e. absurd cc
own_told (Some f) = one_told f

pub judges : (S T : Fault → Type 0) (r : Result ℕ Fault) (o : Option ℕ) → ((x : Fault) → S x → T x) → ((x : Fault) → T x → S x) → Judges r o S → Judges r o T
judges S T (Ok v) o to from h = (h.0, λ f t. h.1 f (from f t))
judges S T (Err f) o to from h = (h.0, IsFirstFault-along to from h.1)

-- ---- forms without a value

pub to_right : {A B C : Type 0} → (A ⊎ B) ⊎ C → A ⊎ (B ⊎ C)
to_right (inl (inl a)) = inl a
to_right (inl (inr b)) = inr (inl b)
to_right (inr c) = inr (inr c)

pub to_left : {A B C : Type 0} → A ⊎ (B ⊎ C) → (A ⊎ B) ⊎ C
to_left (inl a) = inl (inl a)
to_left (inr (inl b)) = inl (inr b)
to_left (inr (inr c)) = inr c

pub turned : {A B : Type 0} → A ⊎ B → B ⊎ A
turned (inl a) = inr a
turned (inr b) = inl b

pub refused : (S : Fault → Type 0) (f : Fault) (o : Option Fault) → Tells o S → Judges (Err (with_further f o)) None (λ x. (Some f ≡ Some x) ⊎ S x)
refused S f o t = (refl, further_told (is_one f) S f o (one_told f) t)

pub refused_twice : (S T : Fault → Type 0) (f : Fault) (o p : Option Fault) → Tells o S → Tells p T → Judges (Err (with_further (with_further f o) p)) None (λ x. (Some f ≡ Some x) ⊎ (S x ⊎ T x))
refused_twice S T f o p s t =
    (refl, IsFirstFault-along (λ x. to_right) (λ x. to_left) (further_told (λ x. is_one f x ⊎ S x) T (with_further f o) p (further_told (is_one f) S f o (one_told f) s) t))

nothing : Fault → Type 0
nothing f = ⊥

-- a value, or else one fault, with nothing inside
pub value_or_one : (o : Option ℕ) (f : Fault) → Judges (or_fault o f) o (λ x. (unless o f ≡ Some x) ⊎ ⊥)
value_or_one (Some v) f = (refl, λ x. ⊎_elim (λ e. absurd cc) (λ b. b))
value_or_one None f = (refl, IsFirstFault-along (λ x. inl) (λ x. ⊎_elim (λ e. e) (λ b. absurd b)) (one_told f))

pub constant_judged : (s : Setting) (m : Option Meaning) (object name : List ℕ) (p q : Place) → Judges (verdict_of_constant s m object name p q) (constant_of s m object name) (λ x. (fault_of_constant s m object name p q ≡ Some x) ⊎ ⊥)
constant_judged s None object name p q = value_or_one None (fault Unknown p)
constant_judged s (Some meaning_case.Object) object name p q = value_or_one (given value_of_meaning (s.constant object name)) (fault_of_name (s.constant object name) q)
constant_judged s (Some (meaning_case.Value v)) object name p q = value_or_one None (fault WrongKind p)
constant_judged s (Some (meaning_case.Label cog offset)) object name p q = value_or_one None (fault WrongKind p)
constant_judged s (Some meaning_case.Other) object name p q = value_or_one None (fault WrongKind p)

-- ---- operators

-- which operators a table has doesn't depend on the operands
is_key : ℕ → List ℕ → Bool
is_key k [] = false
is_key k (n ∷ ns) = (n == k) || is_key k ns

some_is_key : (k : ℕ) (lines : List (ℕ × ℕ)) → is_some (beside k lines) ≡ is_key k (map (λ l. l.0) lines)
unfolding is_key
some_is_key k [] = refl
some_is_key k (l ∷ ls) = some_is_key_by (l.0 == k) k l ls (some_is_key k ls)
  where
    some_is_key_by : (b : Bool) (k : ℕ) (l : ℕ × ℕ) (ls : List (ℕ × ℕ)) → is_some (beside k ls) ≡ is_key k (map (λ l. l.0) ls) → is_some (if b then Some l.1 else beside k ls) ≡ (b || is_key k (map (λ l. l.0) ls))
    some_is_key_by true k l ls h = refl
    some_is_key_by false k l ls h = h

unary_alike : (k a : ℕ) → is_some (unary_result k a) ≡ is_some (unary_result k 0)
unfolding unary_values
unary_alike k a = some_is_key k (unary_values a) ∙ sym (some_is_key k (unary_values 0))

binary_alike : (k a b : ℕ) → is_some (binary_result k a b) ≡ is_some (binary_result k 0 0)
unfolding binary_values
binary_alike k a b = some_is_key k (binary_values a b) ∙ sym (some_is_key k (binary_values 0 0))

unless_alike : (o p : Option ℕ) (f : Fault) → is_some o ≡ is_some p → unless o f ≡ unless p f
unless_alike None None f e = refl
unless_alike None (Some q) f e = absurd cc
unless_alike (Some o) None f e = absurd cc
unless_alike (Some o) (Some q) f e = refl

pub judged_before : (S : Fault → Type 0) (k : ℕ) (p : Place) (r : Result ℕ Fault) (o : Option ℕ) → Judges r o S → Judges (verdict_before k p r) (before k o) (λ x. (fault_before k p ≡ Some x) ⊎ S x)
judged_before S k p (Ok a) o (is, none) =
    let alike : unless (unary_result k a) (fault NotConstant p) ≡ fault_before k p = unless_alike (unary_result k a) (unary_result k 0) (fault NotConstant p) (unary_alike k a) in
    subst (λ o. Judges (verdict_before k p (Ok a)) (before k o) (λ x. (fault_before k p ≡ Some x) ⊎ S x)) (sym is)
    (judges (λ x. (unless (unary_result k a) (fault NotConstant p) ≡ Some x) ⊎ ⊥) (λ x. (fault_before k p ≡ Some x) ⊎ S x) (or_fault (unary_result k a) (fault NotConstant p)) (unary_result k a)
    (λ x. ⊎_elim (λ e. inl (sym alike ∙ e)) (λ b. absurd b)) (λ x. ⊎_elim (λ e. inl (alike ∙ e)) (λ b. absurd (none x b))) (value_or_one (unary_result k a) (fault NotConstant p)))
judged_before S k p (Err f) o (is, first) =
    (ap (before k) is, IsFirstFault-along (λ x. turned) (λ x. turned) (further_told S (λ x. fault_before k p ≡ Some x) f (fault_before k p) first (own_told (fault_before k p))))

-- `/` and `//` are in the table
divides_listed : (k a b : ℕ) → divides k ≡ true → is_some (binary_result k a b) ≡ true
unfolding binary_values
divides_listed k a b h =
    elim (cases_eq k 0xF6) [
      | inl quotient ↦ subst (λ k. is_some (binary_result k a b) ≡ true) (sym quotient) refl
      | inr other ↦ let rest : k ≡ 0xF7 = grind (arith, nat_tests) in subst (λ k. is_some (binary_result k a b) ≡ true) (sym rest) refl
    ]

nothing_inside : (x : Fault) → (None ≡ Some x) ⊎ (⊥ ⊎ ⊥) → ⊥
nothing_inside x (inl e) = absurd cc
nothing_inside x (inr (inl b)) = absurd b
nothing_inside x (inr (inr b)) = absurd b

only_own : (f x : Fault) → (Some f ≡ Some x) ⊎ (⊥ ⊎ ⊥) → Some f ≡ Some x
only_own f x (inl e) = e
only_own f x (inr (inl b)) = absurd b
only_own f x (inr (inr b)) = absurd b

valued : (v o : Option ℕ) (f : Fault) → is_some v ≡ true → o ≡ v → Judges (or_fault v f) o (λ x. (None ≡ Some x) ⊎ (⊥ ⊎ ⊥))
valued (Some v) o f some is = (is, nothing_inside)
valued None o f some is = absurd cc

-- two values: a fault of the operator, or else the value
judged_values : (k a b : ℕ) (p : Place) (own : Option Fault) (o : Option ℕ) → MatchOption own (is_some (binary_result k a b) ≡ true × (o ≡ binary_result k a b)) (λ f. o ≡ None) → Judges (verdict_of_values k p a b own) o (λ x. (own ≡ Some x) ⊎ (⊥ ⊎ ⊥))
judged_values k a b p None o (some, is) = valued (binary_result k a b) o (fault NotConstant p) some is
judged_values k a b p (Some f) o none = (none, IsFirstFault-along (λ x. inl) (only_own f) (one_told f))

by_tests : (d z : Bool) (v w : Option ℕ) (f g : Fault) → (d ≡ true → is_some v ≡ true) → is_some v ≡ is_some w
    → MatchOption (if d then where_so z f else unless w g) (is_some v ≡ true × ((if d && z then None else v) ≡ v)) (λ f. (if d && z then None else v) ≡ None)
by_tests true true v w f g listed alike = refl
by_tests true false v w f g listed alike = (listed refl, refl)
by_tests false z (Some v) (Some w) f g listed alike = (refl, refl)
by_tests false z None None f g listed alike = refl
by_tests false z (Some v) None f g listed alike = absurd cc
by_tests false z None (Some w) f g listed alike = absurd cc

-- which of the two it is
operator_told : (k a b : ℕ) (p : Place) → MatchOption (fault_between k p (Some b)) (is_some (binary_result k a b) ≡ true × (between k (Some a) (Some b) ≡ binary_result k a b)) (λ f. between k (Some a) (Some b) ≡ None)
operator_told k a b p = by_tests (divides k) (b == 0) (binary_result k a b) (binary_result k 0 0) (fault ZeroDivisor p) (fault NotConstant p) (divides_listed k a b) (binary_alike k a b)

pub judged_between : (S T : Fault → Type 0) (k : ℕ) (p : Place) (r t : Result ℕ Fault) (o q : Option ℕ) → Judges r o S → Judges t q T → Judges (verdict_between k p r t) (between k o q) (λ x. (fault_between k p q ≡ Some x) ⊎ (S x ⊎ T x))
judged_between S T k p (Ok a) (Ok b) o q (is, none) (too, nothing) =
    let at : Judges (verdict_between k p (Ok a) (Ok b)) (between k (Some a) (Some b)) (λ x. (fault_between k p (Some b) ≡ Some x) ⊎ (S x ⊎ T x)) =
    judges (λ x. (fault_between k p (Some b) ≡ Some x) ⊎ (⊥ ⊎ ⊥)) (λ x. (fault_between k p (Some b) ≡ Some x) ⊎ (S x ⊎ T x)) (verdict_between k p (Ok a) (Ok b)) (between k (Some a) (Some b))
    (λ x. ⊎_elim inl (λ b. absurd (⊎_elim (λ c. c) (λ c. c) b))) (λ x. ⊎_elim inl (λ b. absurd (⊎_elim (none x) (nothing x) b)))
    (judged_values k a b p (fault_between k p (Some b)) (between k (Some a) (Some b)) (operator_told k a b p)) in
    subst (λ o. Judges (verdict_between k p (Ok a) (Ok b)) (between k o q) (λ x. (fault_between k p q ≡ Some x) ⊎ (S x ⊎ T x))) (sym is)
    (subst (λ q. Judges (verdict_between k p (Ok a) (Ok b)) (between k (Some a) q) (λ x. (fault_between k p q ≡ Some x) ⊎ (S x ⊎ T x))) (sym too) at)
judged_between S T k p (Ok a) (Err g) o q (is, none) (too, first) =
    subst (λ q. Judges (verdict_between k p (Ok a) (Err g)) (between k o q) (λ x. (fault_between k p q ≡ Some x) ⊎ (S x ⊎ T x))) (sym too)
    (ap (λ o. between k o None) is, IsFirstFault-along (λ x. ⊎_elim (λ t. inr (inr t)) inl) (λ x. ⊎_elim inr (λ st. inl (⊎_elim (λ s. absurd (none x s)) (λ t. t) st))) (further_told T (λ x. fault_between k p None ≡ Some x) g (fault_between k p None) first (own_told (fault_between k p None))))
judged_between S T k p (Err f) (Ok b) o q (is, first) (too, none) =
    subst (λ q. Judges (verdict_between k p (Err f) (Ok b)) (between k o q) (λ x. (fault_between k p q ≡ Some x) ⊎ (S x ⊎ T x))) (sym too)
    (ap (λ o. between k o (Some b)) is, IsFirstFault-along (λ x. ⊎_elim (λ s. inr (inl s)) inl) (λ x. ⊎_elim inr (λ st. inl (⊎_elim (λ s. s) (λ t. absurd (none x t)) st))) (further_told S (λ x. fault_between k p (Some b) ≡ Some x) f (fault_between k p (Some b)) first (own_told (fault_between k p (Some b)))))
judged_between S T k p (Err f) (Err g) o q (is, first) (too, other) =
    subst (λ q. Judges (verdict_between k p (Err f) (Err g)) (between k o q) (λ x. (fault_between k p q ≡ Some x) ⊎ (S x ⊎ T x))) (sym too)
    (ap (λ o. between k o None) is, IsFirstFault-along (λ x. turned) (λ x. turned) (further_told (λ x. S x ⊎ T x) (λ x. fault_between k p None ≡ Some x) (earlier f g) (fault_between k p None) (IsFirstFault-earlier S T f g first other) (own_told (fault_between k p None))))

-- an item of a text, by the verdict on it
pub judged_character : (S : Fault → Type 0) (p : Place) (r : Result ℕ Fault) (o : Option ℕ) → Judges r o S → Tells (first_of_character r p) (λ x. (fault_of_character o p ≡ Some x) ⊎ S x)
judged_character S p (Ok v) o (is, none) =
    let own : Option Fault = fault_of_character (Some v) p in
    subst (λ o. Tells own (λ x. (fault_of_character o p ≡ Some x) ⊎ S x)) (sym is)
    (tells (λ x. own ≡ Some x) (λ x. (own ≡ Some x) ⊎ S x) own (λ x. inl) (λ x. ⊎_elim (λ e. e) (λ a. absurd (none x a))) (own_told own))
judged_character S p (Err f) o (is, first) =
    subst (λ o. IsFirstFault (λ x. (fault_of_character o p ≡ Some x) ⊎ S x) f) (sym is)
    (IsFirstFault-along (λ x. inr) (λ x. ⊎_elim (λ e. absurd cc) (λ a. a)) first)

-- what a verdict says, outcome by outcome
pub judged_value : (S : Fault → Type 0) (r : Result ℕ Fault) (o : Option ℕ) → Judges r o S → IfOk r (λ v. o ≡ Some v)
judged_value S (Ok v) o h = h.0
judged_value S (Err f) o h = tt

pub judged_clean : (S : Fault → Type 0) (r : Result ℕ Fault) (o : Option ℕ) → Judges r o S → OnOk r ((f : Fault) → ¬ S f)
judged_clean S (Ok v) o h = h.1
judged_clean S (Err f) o h = tt

pub judged_refused : (S : Fault → Type 0) (r : Result ℕ Fault) (o : Option ℕ) → Judges r o S → IfErr r (IsFirstFault S)
judged_refused S (Ok v) o h = tt
judged_refused S (Err f) o h = h.1

pub judged_no_value : (S : Fault → Type 0) (r : Result ℕ Fault) (o : Option ℕ) → Judges r o S → OnErr r (o ≡ None)
judged_no_value S (Ok v) o h = tt
judged_no_value S (Err f) o h = h.0
