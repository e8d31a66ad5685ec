-- Operands by their place on the stack, after the test that there are so many.
use Rattle.std.proofs.Common.{◌≡◌, refl, sym, ap, ◌∙◌, arith, ℕ, suc, ◌+◌, ◌-◌, ◌≤◌, Bool, true, false, if◌then◌else◌, nat_lt, List, [], ◌∷◌, ◌++◌, length, take, get_or, Option, Some}
use Rattle.std.proofs.lemmas.Bool.Decides.{nat_tests}
use Rattle.std.proofs.lemmas.List.{get_or-drop, take_more}
use Rattle.p8_access.specs.declared.kinds.Reason.{Reason}
use Rattle.p8_access.specs.declared.kinds.Reason.TheVariants as Why
use Rattle.p8_access.specs.Courses.{Course}
use Rattle.p8_bcog.specs.declared.state.SpinState.{SpinState}
use Rattle.p8_bcog.specs.Operands.{operands, operand, taken, pushed, tested, stopped_by}
use Rattle.p8_compiled.specs.Courses.{tops, goes_to, goes_if}
use Rattle.p8_compiled.specs.Standing.{at_number}
use Rattle.p8_compiled.proofs.Truths.{below}

-- ---- what matters only where there are so many operands

same-behind : (short : Bool) (other : Option Reason) (x y : Course SpinState) → (short ≡ false → x ≡ y) → stopped_by (if short then Some Why.Under else other) x ≡ stopped_by (if short then Some Why.Under else other) y
same-behind true other x y same = refl
same-behind false other x y same = ap (stopped_by other) (same refl)

enough : (n takes base : ℕ) → nat_lt (n - base) takes ≡ false → takes ≤ n
enough n takes base is = let le : takes ≤ n - base = grind (arith, nat_tests, is) in omega (arith, le)

pub tested-same : (takes leaves : ℕ) (s : SpinState) (x y : Course SpinState) → (takes ≤ length s.stack → x ≡ y) → tested takes leaves s x ≡ tested takes leaves s y
tested-same takes leaves s x y same =
    same-behind (nat_lt (operands s) takes) _ x y (λ is. same (enough (length s.stack) takes s.base is))

-- ---- operands

-- the topmost operand of those that were taken is left again
pub pushed-taken : (s : SpinState) (n : ℕ) → suc n ≤ length s.stack → pushed (operand s n) (taken (suc n) s) ≡ taken n s
pushed-taken s n le =
    let i : ℕ = length s.stack - 1 - n in
    let here : length s.stack - suc n ≡ i = omega arith in
    let next : i + 1 ≡ length s.stack - n = omega (arith, le) in
    ap (λ xs. record s { stack = xs })
    (ap (λ k. take k s.stack ++ operand s n ∷ []) here ∙ sym (take_more s.stack i 0 (omega (arith, le))) ∙ ap (λ k. take k s.stack) next)

number-0 : (xs : List ℕ) → at_number xs 0 ≡ get_or xs 0 0
number-0 [] = refl
number-0 (x ∷ xs) = refl

number-1 : (xs : List ℕ) → at_number xs 1 ≡ get_or xs 1 0
number-1 [] = refl
number-1 (x ∷ []) = refl
number-1 (x ∷ y ∷ xs) = refl

pub top-0 : (s : SpinState) (n below : ℕ) → n ≡ below + 1 → n ≤ length s.stack → at_number (tops n s) 0 ≡ operand s below
top-0 s n below is le =
    let i : length s.stack - n + 0 ≡ length s.stack - 1 - below = omega (arith, is, le) in
    number-0 (tops n s) ∙ get_or-drop (length s.stack - n) s.stack 0 0 ∙ ap (λ k. get_or s.stack k 0) i

pub top-1 : (s : SpinState) (n below : ℕ) → n ≡ below + 2 → n ≤ length s.stack → at_number (tops n s) 1 ≡ operand s below
top-1 s n below is le =
    let i : length s.stack - n + 1 ≡ length s.stack - 1 - below = omega (arith, is, le) in
    number-1 (tops n s) ∙ get_or-drop (length s.stack - n) s.stack 1 0 ∙ ap (λ k. get_or s.stack k 0) i

-- a value that stays below what is taken, after a jump
pub stays : (jumps : Bool) (target : ℕ) (s : SpinState) (n : ℕ) → suc n ≤ length s.stack → (if jumps then goes_to target (taken n s) else taken n s) ≡ pushed (operand s n) (goes_if jumps target (taken (suc n) s))
stays true target s n le = ap (goes_to target) (sym (pushed-taken s n le))
stays false target s n le = sym (pushed-taken s n le)
