-- The code of a file's methods, one after the other.
use Rattle.std.proofs.Common.{◌≡◌, ◌⊎◌, inl, inr, ℕ, ◌+◌, ◌-◌, ◌≤◌, ◌<◌, min, true, false, List, [], ◌∷◌, ◌++◌, length, slice_get, Option, Some, None, refl, ap, sym, ◌∙◌, subst, arith, length-append}
use Rattle.std.proofs.lemmas.Bool.{cases_lt}
use Rattle.std.proofs.lemmas.Bool.Decides.{nat_tests}
use Rattle.std.proofs.lemmas.Option.{slice_get_within}
use Rattle.p8_tree.specs.Sources.{MethodTree}
use Rattle.p8_tree.specs.declared.faults.Fault.{Fault}
use Rattle.p8_tree.specs.Faults.{fault, FaultBefore, IsFirstFault, first_of_two}
use Rattle.p8_tree.specs.declared.refusal.Refusal.TheVariants.{TooManyMethods}
use Rattle.p8_constants.specs.Standing.{IsFirstOf}
use Rattle.p8_constants.proofs.FirstFaults.{IsSoFar, so_far_begin, so_far_same, so_far_then, so_far_end}
use Rattle.p8_names.proofs.TwoFaults.{two_first}
use Rattle.p8_gen.specs.Names.{Names}
use Rattle.p8_stmt.specs.declared.code.MethodCode.{MethodCode}
use Rattle.p8_stmt.specs.Methods.{IsCodeOf, IsMethodFault}
use Rattle.p8_build.specs.Files.{are_too_many}
use Rattle.p8_build.specs.Coding.{IsOneMore, coded, refused, IsFaultOfOne, of_one, AreCodesOf, IsCoded, IsOneTooMany, too_many, IsFaultOfCode, AreAllCodes}
use Rattle.p8_build.specs.declared.coding.Coded.{Coded}
use Rattle.p8_build.proofs.Lists.{one_element, at_more}

-- ---- one method more

-- a fault of a method from a number on
pub record FaultFrom (names : ℕ → MethodTree → Names) (ms : List MethodTree) (i : ℕ) (f : Fault) : Type 0 where
  pub number : ℕ
  pub method : MethodTree
  pub behind : i ≤ number
  pub stands : slice_get ms number ≡ Some method
  pub fault : IsMethodFault (names number method) method f

-- the first methods have been looked at
pub record CodedSoFar (names : ℕ → MethodTree → Names) (ms : List MethodTree) (i : ℕ) (x : Coded) : Type 0 where
  pub faults : IsSoFar (IsFaultOfOne names ms) x.fault (FaultFrom names ms i)
  pub count : x.fault ≡ None → length x.codes ≡ i
  pub codes : x.fault ≡ None → AreCodesOf names ms x.codes

pub coded_none : (names : ℕ → MethodTree → Names) (ms : List MethodTree) (x : Coded) → x.codes ≡ [] → x.fault ≡ None → CodedSoFar names ms 0 x
coded_none names ms x no_codes no_fault = record {
  faults = subst (λ o. IsSoFar (IsFaultOfOne names ms) o (FaultFrom names ms 0)) (sym no_fault)
      (so_far_same None (λ g w. from_all g w) (λ g l. of_one l.number l.method l.stands l.fault) (so_far_begin (IsFaultOfOne names ms)));
  count = λ e. ap length no_codes;
  codes = λ e. record { each = λ k m code a b. absurd (let w = slice_get_within x.codes k code b in omega (arith, ap length no_codes)) };
}
  where
    from_all : (g : Fault) → IsFaultOfOne names ms g → FaultFrom names ms 0 g
    from_all g (of_one k m at f) = record { number = k; method = m; behind = omega arith; stands = at; fault = f }

here_or_behind : (names : ℕ → MethodTree → Names) (ms : List MethodTree) (i : ℕ) (m : MethodTree) (g : Fault) → slice_get ms i ≡ Some m → FaultFrom names ms i g → IsMethodFault (names i m) m g ⊎ FaultFrom names ms (i + 1) g
here_or_behind names ms i m g at l =
    elim (cases_lt i l.number) [
      | inl behind ↦ inr (record { number = l.number; method = l.method; behind = omega arith; stands = l.stands; fault = l.fault })
      | inr not_behind ↦
          let there = l.behind in
          let is : l.number ≡ i = omega arith in
          let same : l.method ≡ m = one_element ms i (ap (slice_get ms) (sym is) ∙ l.stands) at in
          inl (subst (λ x. IsMethodFault (names i x) x g) same (subst (λ k. IsMethodFault (names k l.method) l.method g) is l.fault))
    ]

back : (names : ℕ → MethodTree → Names) (ms : List MethodTree) (i : ℕ) (m : MethodTree) (g : Fault) → slice_get ms i ≡ Some m → IsMethodFault (names i m) m g ⊎ FaultFrom names ms (i + 1) g → FaultFrom names ms i g
back names ms i m g at (inl f) = record { number = i; method = m; behind = omega arith; stands = at; fault = f }
back names ms i m g at (inr l) = let b = l.behind in record { number = l.number; method = l.method; behind = omega arith; stands = l.stands; fault = l.fault }

two_with_none : (o : Option Fault) → o ≡ first_of_two o None
two_with_none None = refl
two_with_none (Some f) = refl

two_with_some : (o : Option Fault) (f : Fault) → first_of_two o (Some f) ≡ None → ⊥
two_with_some None f e = absurd cc
two_with_some (Some g) f e = absurd cc

code_next : (names : ℕ → MethodTree → Names) (ms : List MethodTree) (i : ℕ) (m : MethodTree) (code : MethodCode) (olds news : List MethodCode) → slice_get ms i ≡ Some m → length olds ≡ i → IsCodeOf (names i m) m code → AreCodesOf names ms olds → news ≡ olds ++ code ∷ [] → AreCodesOf names ms news
code_next names ms i m code olds news at count right before is = subst (AreCodesOf names ms) (sym is) (record {
  each = λ k x y a b. elim (at_more olds code k b) [
    | inl c ↦ before.each k x y a c
    | inr e ↦
        let there : k ≡ i = e.0 ∙ count in
        let same : x ≡ m = one_element ms i (ap (slice_get ms) (sym there) ∙ a) at in
        subst (λ z. IsCodeOf (names k x) x z) (sym e.1) (subst (λ j. IsCodeOf (names j x) x code) (sym there) (subst (λ z. IsCodeOf (names i z) z code) (sym same) right))
  ];
})

pub code_more : (names : ℕ → MethodTree → Names) (ms : List MethodTree) (i : ℕ) (m : MethodTree) (old new : Coded) → slice_get ms i ≡ Some m → IsOneMore (names i m) m old new → CodedSoFar names ms i old → CodedSoFar names ms (i + 1) new
code_more names ms i m old new at (coded code right clean grows same) h = record {
  faults = so_far_then {Own = IsMethodFault (names i m) m} {Left = FaultFrom names ms (i + 1)} old.fault None
      (so_far_same old.fault (λ g. here_or_behind names ms i m g at) (λ g. back names ms i m g at) h.faults) clean (same ∙ two_with_none old.fault);
  count = λ e. ap length grows ∙ length-append old.codes (code ∷ []) ∙ ap (λ n. n + 1) (h.count (sym same ∙ e));
  codes = λ e. code_next names ms i m code old.codes new.codes at (h.count (sym same ∙ e)) right (h.codes (sym same ∙ e)) grows;
}
code_more names ms i m old new at (refused f first grows is) h = record {
  faults = so_far_then {Own = IsMethodFault (names i m) m} {Left = FaultFrom names ms (i + 1)} old.fault (Some f)
      (so_far_same old.fault (λ g. here_or_behind names ms i m g at) (λ g. back names ms i m g at) h.faults) first is;
  count = λ e. absurd (two_with_some old.fault f (sym is ∙ e));
  codes = λ e. absurd (two_with_some old.fault f (sym is ∙ e));
}

pub coded_all : (names : ℕ → MethodTree → Names) (ms : List MethodTree) (n : ℕ) (x : Coded) → n ≡ length ms → CodedSoFar names ms n x → IsCoded names ms x
coded_all names ms n x all h = record {
  fault = so_far_end x.fault (λ g l. let w = slice_get_within ms l.number l.method l.stands in let b = l.behind in omega arith) h.faults;
  count = λ e. h.count e ∙ all;
  codes = h.codes;
}

-- ---- the first method too many

too_many_is : (n k : ℕ) → are_too_many n (k + 1) ≡ true → are_too_many n k ≡ false → n ≤ 255
too_many_is n k a b = grind (arith, nat_tests)

too_many_at : (n k : ℕ) → are_too_many n (k + 1) ≡ true → are_too_many n k ≡ false → k ≡ min (255 - n) 254
too_many_at n k a b = grind (arith, nat_tests)

too_many_there : (n k : ℕ) → n ≤ 255 → k ≡ min (255 - n) 254 → (are_too_many n (k + 1) ≡ true) × (are_too_many n k ≡ false)
too_many_there n k l e = (grind (arith, nat_tests), grind (arith, nat_tests))

not_before_itself : (f : Fault) → ¬ FaultBefore f f
not_before_itself f b = grind arith

-- where there are too many instances for any method
pub none_too_many : (n : ℕ) (ms : List MethodTree) → 255 < n → (f : Fault) → ¬ IsOneTooMany n ms f
none_too_many n ms l f (too_many k m at a b e) = let t = too_many_is n k a b in omega arith

-- where there are few methods
pub few_enough : (n k : ℕ) (ms : List MethodTree) → k ≡ min (255 - n) 254 → slice_get ms k ≡ None → (f : Fault) → ¬ IsOneTooMany n ms f
few_enough n k ms is none f (too_many j m at a b e) =
    let same : j ≡ k = too_many_at n j a b ∙ sym is in
    let found : Some m ≡ None = sym at ∙ ap (slice_get ms) same ∙ none in
    absurd cc

pub one_too_many : (n k : ℕ) (ms : List MethodTree) (m : MethodTree) → n ≤ 255 → k ≡ min (255 - n) 254 → slice_get ms k ≡ Some m → IsFirstFault (IsOneTooMany n ms) (fault TooManyMethods m.place)
one_too_many n k ms m l is at =
    let t = too_many_there n k l is in
    record { holds = too_many k m at t.0 t.1 refl; first = only }
  where
    only : (g : Fault) → IsOneTooMany n ms g → ¬ FaultBefore g (fault TooManyMethods m.place)
    only g (too_many j x there a b e) =
        let same : j ≡ k = too_many_at n j a b ∙ sym is in
        let method : x ≡ m = one_element ms k (ap (slice_get ms) (sym same) ∙ there) at in
        subst (λ h. ¬ FaultBefore h (fault TooManyMethods m.place)) (ap (λ y. fault TooManyMethods y.place) (sym method) ∙ e) (not_before_itself (fault TooManyMethods m.place))

-- ---- what a step adds

pub add_coded : (names named : Names) (m : MethodTree) (code : MethodCode) (old new : Coded) → names ≡ named → IsCodeOf names m code → ((f : Fault) → ¬ IsMethodFault names m f) → new.codes ≡ old.codes ++ code ∷ [] → new.fault ≡ old.fault → IsOneMore named m old new
add_coded names named m code old new same right clean grows kept = subst (λ (n : Names). IsOneMore n m old new) same (coded code right clean grows kept)

pub add_refused : (names named : Names) (m : MethodTree) (f : Fault) (old new : Coded) → names ≡ named → IsFirstFault (IsMethodFault names m) f → new.codes ≡ old.codes → new.fault ≡ first_of_two old.fault (Some f) → IsOneMore named m old new
add_refused names named m f old new same first grows is = subst (λ (n : Names). IsOneMore n m old new) same (refused f first grows is)

-- ---- all codes

none_first : (a b : Option Fault) → first_of_two a b ≡ None → a ≡ None
none_first None b e = refl
none_first (Some f) b e = absurd cc

-- the first of the faults of the methods and of 27
first_fault : (names : ℕ → MethodTree → Names) (n : ℕ) (ms : List MethodTree) (a b r : Option Fault) → IsFirstOf a (IsFaultOfOne names ms) → IsFirstOf b (IsOneTooMany n ms) → r ≡ first_of_two a b → IsFirstOf r (IsFaultOfCode names n ms)
first_fault names n ms a b r h k is = two_first (IsFaultOfOne names ms) (IsOneTooMany n ms) a b is h k

pub all_codes : (names : ℕ → MethodTree → Names) (n : ℕ) (ms : List MethodTree) (x : Coded) (b r : Option Fault) → IsCoded names ms x → IsFirstOf b (IsOneTooMany n ms) → r ≡ first_of_two x.fault b → r ≡ None → AreAllCodes names n ms x.codes
all_codes names n ms x b r h k is none =
    let clean : x.fault ≡ None = none_first x.fault b (sym is ∙ none) in
    record {
      clean = subst (λ (o : Option Fault). IsFirstOf o (IsFaultOfCode names n ms)) none (first_fault names n ms x.fault b r h.fault k is);
      count = h.count clean;
      are = h.codes clean;
    }

pub code_first : (names : ℕ → MethodTree → Names) (n : ℕ) (ms : List MethodTree) (x : Coded) (b r : Option Fault) (f : Fault) → IsCoded names ms x → IsFirstOf b (IsOneTooMany n ms) → r ≡ first_of_two x.fault b → r ≡ Some f → IsFirstFault (IsFaultOfCode names n ms) f
code_first names n ms x b r f h k is some = subst (λ (o : Option Fault). IsFirstOf o (IsFaultOfCode names n ms)) some (first_fault names n ms x.fault b r h.fault k is)
