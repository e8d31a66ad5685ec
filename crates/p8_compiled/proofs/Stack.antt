-- Operands on a stack whose lower part is known.
use Rattle.std.proofs.Common.{◌≡◌, refl, ap, ap₂, ◌∙◌, arith, ℕ, ◌+◌, ◌-◌, ◌<◌, ◌≤◌, Bool, false, if◌then◌else◌, List, [], ◌∷◌, ◌++◌, length, take, drop, append_assoc}
use Rattle.std.specs.Prelude.{slice_index, nat_lt}
use Rattle.std.proofs.Math.ListN.{length-append}
use Rattle.std.proofs.lemmas.List.{get_or-append-add}
use Rattle.std.proofs.Math.Seq.{take-append_seam, drop-append_seam}
use Rattle.std.proofs.lemmas.Bool.{le-ltb}
use Rattle.p8_access.specs.Courses.{Course}
use Rattle.p8_bcog.specs.declared.state.SpinState.{SpinState}
use Rattle.p8_bcog.specs.Operands.{operand, taken, tested, stopped_by}
use Rattle.p8_compiled.specs.Courses.{takes_one, takes_two, takes_three, takes_four, takes_names, takes_value, tops}

pub top-index : (xs vs : List ℕ) (below : ℕ) → below < length vs → slice_index (xs ++ vs) (length (xs ++ vs) - 1 - below) ≡ slice_index vs (length vs - 1 - below)
top-index xs vs below lt =
    let n : length (xs ++ vs) ≡ length xs + length vs = length-append xs vs in
    let i : length (xs ++ vs) - 1 - below ≡ length xs + (length vs - 1 - below) = omega (arith, n, lt) in
    ap (slice_index (xs ++ vs)) i ∙ get_or-append-add xs vs (length vs - 1 - below) 0

pub top-taken : (xs vs : List ℕ) (n : ℕ) → n ≡ length vs → take (length (xs ++ vs) - n) (xs ++ vs) ≡ xs
top-taken xs vs n is =
    let m : length (xs ++ vs) ≡ length xs + length vs = length-append xs vs in
    let i : length (xs ++ vs) - n ≡ length xs = omega (arith, m, is) in
    ap (λ k. take k (xs ++ vs)) i ∙ take-append_seam xs vs

pub top-dropped : (xs vs : List ℕ) (n : ℕ) → n ≡ length vs → drop (length (xs ++ vs) - n) (xs ++ vs) ≡ vs
top-dropped xs vs n is =
    let m : length (xs ++ vs) ≡ length xs + length vs = length-append xs vs in
    let i : length (xs ++ vs) - n ≡ length xs = omega (arith, m, is) in
    ap (λ k. drop k (xs ++ vs)) i ∙ drop-append_seam xs vs

if-no : {X : Type 0} (b : Bool) (x y : X) → b ≡ false → (if b then x else y) ≡ y
if-no b x y is = ap (λ c. if c then x else y) is

-- the tests let a bytecode through
pub fine : (s : SpinState) (xs vs : List ℕ) (takes leaves : ℕ) (course : Course SpinState) → s.stack ≡ xs ++ vs → takes ≡ length vs → s.base ≤ length xs → length xs + leaves ≤ 16384 → tested takes leaves s course ≡ course
fine s xs vs takes leaves course stack is base room =
    let n : length s.stack ≡ length xs + length vs = ap length stack ∙ length-append xs vs in
    ap (λ r. stopped_by r course)
    (if-no (nat_lt (length s.stack - s.base) takes) _ _ (le-ltb (length s.stack - s.base) takes (omega (arith, n, is, base)))
    ∙ if-no (nat_lt 16384 (length s.stack - takes + leaves)) _ _ (le-ltb 16384 (length s.stack - takes + leaves) (omega (arith, n, is, room))))

-- the stack below the operands
abbrev pub with_stack : SpinState → List ℕ → SpinState
with_stack s xs = record s { stack = xs }

abbrev pub Fits : SpinState → (xs vs : List ℕ) → (leaves : ℕ) → Type 0
Fits s xs vs leaves = (s.stack ≡ xs ++ vs) × (s.base ≤ length xs) × (length xs + leaves ≤ 16384)

pub operand-is : (s : SpinState) (xs vs : List ℕ) (below : ℕ) → s.stack ≡ xs ++ vs → below < length vs → operand s below ≡ slice_index vs (length vs - 1 - below)
operand-is s xs vs below stack lt = ap (λ x. slice_index x (length x - 1 - below)) stack ∙ top-index xs vs below lt

pub taken-is : (s : SpinState) (xs vs : List ℕ) (n : ℕ) → s.stack ≡ xs ++ vs → n ≡ length vs → taken n s ≡ with_stack s xs
taken-is s xs vs n stack is = ap (with_stack s) (ap (λ x. take (length x - n) x) stack ∙ top-taken xs vs n is)

pub tops-is : (s : SpinState) (xs vs : List ℕ) (n : ℕ) → s.stack ≡ xs ++ vs → n ≡ length vs → tops n s ≡ vs
tops-is s xs vs n stack is = ap (λ x. drop (length x - n) x) stack ∙ top-dropped xs vs n is

pub one-is : (s : SpinState) (xs : List ℕ) (a leaves : ℕ) (go : ℕ → SpinState → Course SpinState) → Fits s xs (a ∷ []) leaves → takes_one leaves go s ≡ go a (with_stack s xs)
one-is s xs a leaves go fits =
    fine s xs (a ∷ []) 1 leaves _ fits.0 refl fits.1 fits.2
    ∙ ap₂ go (operand-is s xs (a ∷ []) 0 fits.0 (omega arith)) (taken-is s xs (a ∷ []) 1 fits.0 refl)

pub two-is : (s : SpinState) (xs : List ℕ) (a b leaves : ℕ) (go : ℕ → ℕ → SpinState → Course SpinState) → Fits s xs (a ∷ b ∷ []) leaves → takes_two leaves go s ≡ go a b (with_stack s xs)
two-is s xs a b leaves go fits =
    let vs : List ℕ = a ∷ b ∷ [] in
    fine s xs vs 2 leaves _ fits.0 refl fits.1 fits.2
    ∙ ap₂ (λ x y. go x y (taken 2 s)) (operand-is s xs vs 1 fits.0 (omega arith)) (operand-is s xs vs 0 fits.0 (omega arith))
    ∙ ap (go a b) (taken-is s xs vs 2 fits.0 refl)

pub three-is : (s : SpinState) (xs : List ℕ) (a b c leaves : ℕ) (go : ℕ → ℕ → ℕ → SpinState → Course SpinState) → Fits s xs (a ∷ b ∷ c ∷ []) leaves → takes_three leaves go s ≡ go a b c (with_stack s xs)
three-is s xs a b c leaves go fits =
    let vs : List ℕ = a ∷ b ∷ c ∷ [] in
    fine s xs vs 3 leaves _ fits.0 refl fits.1 fits.2
    ∙ ap₂ (λ x y. go x y (operand s 0) (taken 3 s)) (operand-is s xs vs 2 fits.0 (omega arith)) (operand-is s xs vs 1 fits.0 (omega arith))
    ∙ ap₂ (go a b) (operand-is s xs vs 0 fits.0 (omega arith)) (taken-is s xs vs 3 fits.0 refl)

pub four-is : (s : SpinState) (xs : List ℕ) (a b c d leaves : ℕ) (go : ℕ → ℕ → ℕ → ℕ → SpinState → Course SpinState) → Fits s xs (a ∷ b ∷ c ∷ d ∷ []) leaves → takes_four leaves go s ≡ go a b c d (with_stack s xs)
four-is s xs a b c d leaves go fits =
    let vs : List ℕ = a ∷ b ∷ c ∷ d ∷ [] in
    fine s xs vs 4 leaves _ fits.0 refl fits.1 fits.2
    ∙ ap₂ (λ x y. go x y (operand s 1) (operand s 0) (taken 4 s)) (operand-is s xs vs 3 fits.0 (omega arith)) (operand-is s xs vs 2 fits.0 (omega arith))
    ∙ ap₂ (λ x y. go a b x y (taken 4 s)) (operand-is s xs vs 1 fits.0 (omega arith)) (operand-is s xs vs 0 fits.0 (omega arith))
    ∙ ap (go a b c d) (taken-is s xs vs 4 fits.0 refl)

pub names-is : (s : SpinState) (xs vs : List ℕ) (n leaves : ℕ) (go : List ℕ → SpinState → Course SpinState) → n ≡ length vs → Fits s xs vs leaves → takes_names n leaves go s ≡ go vs (with_stack s xs)
names-is s xs vs n leaves go is fits =
    fine s xs vs n leaves _ fits.0 is fits.1 fits.2
    ∙ ap₂ go (tops-is s xs vs n fits.0 is) (taken-is s xs vs n fits.0 is)

pub value-is : (s : SpinState) (xs vs : List ℕ) (a n leaves : ℕ) (go : List ℕ → ℕ → SpinState → Course SpinState) → n ≡ length vs → s.stack ≡ (xs ++ a ∷ []) ++ vs → s.base ≤ length xs → length xs + leaves ≤ 16384 → takes_value n leaves go s ≡ go vs a (with_stack s xs)
value-is s xs vs a n leaves go is stack base room =
    let all : s.stack ≡ xs ++ (a ∷ vs) = stack ∙ append_assoc xs (a ∷ []) vs in
    let longer : n + 1 ≡ length (a ∷ vs) = omega (arith, is) in
    fine s xs (a ∷ vs) (n + 1) leaves _ all longer base room
    ∙ ap₂ (λ x y. go x y (taken (n + 1) s)) (tops-is s (xs ++ a ∷ []) vs n stack is)
    (operand-is s xs (a ∷ vs) n all (omega (arith, is)) ∙ ap (slice_index (a ∷ vs)) (let z : length (a ∷ vs) - 1 - n ≡ 0 = omega (arith, is) in z))
    ∙ ap (go vs a) (taken-is s xs (a ∷ vs) (n + 1) all longer)
