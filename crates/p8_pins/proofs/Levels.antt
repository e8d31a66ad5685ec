-- The levels of a script at a clock, by the number of lines whose clocks aren't later.
use Rattle.std.proofs.Common.{◌≡◌, ◌∙◌, ap, sym, refl, subst, ℕ, zero, suc, ◌<◌, ◌≤◌, inl, inr, Bool, true, false, not, nat_lt, nat_le, if◌then◌else◌, List, [], ◌∷◌, length, get_or, Option, Some, None, arith}
use Rattle.std.specs.Prelude.{slice_get, IfSome, MatchBool, IsTrue}
use Rattle.std.specs.List.{AllWithin}
use Rattle.std.specs.List.Sorted.{IsStrictlyIncreasing, IsNonDecreasingBy}
use Rattle.std.proofs.lemmas.List.{length-map}
use Rattle.std.proofs.lemmas.Bool.{cases_lt, leb-true, leb-false}
use Rattle.std.proofs.lemmas.Bool.Decides.{nat_tests}
use Rattle.p8_access.specs.Worlds.{Line, levels_after, level_at}
use Rattle.p8_pins.specs.declared.line_text.Change.{Change}
use Rattle.p8_pins.specs.Scripts.{clocks_of}
use Rattle.p8_pins.proofs.Rising.{clock_of-le}
use Rattle.p8_pins.specs.Matches.{next_clock, IsBefore}
use Rattle.p8_pins.specs.Changes.{line_of, lines_of, clock_of, levels_by}

pub length-lines_of : (changes : List Change) → length (lines_of changes) ≡ length changes
length-lines_of changes = length-map changes line_of

pub clock_of-lines_of : (changes : List Change) (k : ℕ) (d : Change) → k < length changes → clock_of (lines_of changes) k ≡ (get_or changes k d).clock
clock_of-lines_of [] k d h = absurd (omega arith)
clock_of-lines_of (change ∷ changes) zero d h = refl
clock_of-lines_of (change ∷ changes) (suc k) d h = clock_of-lines_of changes k d (omega arith)

-- the last of the first lines has the levels that they leave
pub levels_by-last : (before : ℕ) (changes : List Change) (k : ℕ) (d : Change) → k < length changes → levels_by before (lines_of changes) (suc k) ≡ (get_or changes k d).levels
levels_by-last before [] k d h = absurd (omega arith)
levels_by-last before (change ∷ changes) zero d h = refl
levels_by-last before (change ∷ changes) (suc k) d h = levels_by-last change.levels changes k d (omega arith)

if-later : (a u x y : ℕ) → u < a → (if nat_le a u then x else y) ≡ y
if-later a u x y h = grind (arith, nat_tests)

if-not_later : (a u x y : ℕ) → a ≤ u → (if nat_le a u then x else y) ≡ x
if-not_later a u x y h = grind (arith, nat_tests)

pub levels_after-is : (before : ℕ) (lines : List Line) (n u : ℕ) → n ≤ length lines → ((k : ℕ) → k < n → clock_of lines k ≤ u) → (n < length lines → u < clock_of lines n) → levels_after before lines u ≡ levels_by before lines n
levels_after-is before [] zero u le below above = refl
levels_after-is before [] (suc n) u le below above = refl
levels_after-is before (line ∷ lines) zero u le below above = if-later line.clock u _ before (above (omega arith))
levels_after-is before (line ∷ lines) (suc n) u le below above =
    if-not_later line.clock u _ before (below 0 (omega arith))
    ∙ levels_after-is line.levels lines n u (omega arith) (λ k h. below (suc k) (omega arith)) (λ h. above (omega arith))

-- what the searches for a clock find
pub record SplitsAt (lines : List Line) (n u : ℕ) : Type 0 where
  pub within : n ≤ length lines
  pub before : (k : ℕ) → k < n → clock_of lines k ≤ u
  pub after : (k : ℕ) → n ≤ k → k < length lines → u < clock_of lines k

pub level_at-is : (lines : List Line) (n u : ℕ) → SplitsAt lines n u → level_at lines u ≡ levels_by 0 lines n
level_at-is lines n u s = levels_after-is 0 lines n u s.within s.before (λ h. s.after n (omega arith) h)

if-none : (u a : ℕ) (x y : Option ℕ) → a ≤ u → (if nat_lt u a then x else y) ≡ y
if-none u a x y h = grind (arith, nat_tests)

if-some : (u a : ℕ) (x y : Option ℕ) → u < a → (if nat_lt u a then x else y) ≡ x
if-some u a x y h = grind (arith, nat_tests)

pub next_clock-is : (lines : List Line) (n u : ℕ) → SplitsAt lines n u → next_clock lines u ≡ slice_get (clocks_of lines) n
next_clock-is [] n u s = refl
next_clock-is (line ∷ lines) zero u s = if-some u line.clock _ _ (s.after 0 (omega arith) (omega arith))
next_clock-is (line ∷ lines) (suc n) u s =
    if-none u line.clock _ _ (s.before 0 (omega arith))
    ∙ next_clock-is lines n u (record {
      within = omega (arith, s.within);
      before = λ k h. s.before (suc k) (omega arith);
      after = λ k h m. s.after (suc k) (omega arith) (omega arith);
    })

-- the clock at a place, where there is one
pub slice_get-clock : (lines : List Line) (n : ℕ) → n < length lines → slice_get (clocks_of lines) n ≡ Some (clock_of lines n)
slice_get-clock [] n h = absurd (omega arith)
slice_get-clock (line ∷ lines) zero h = refl
slice_get-clock (line ∷ lines) (suc n) h = slice_get-clock lines n (omega arith)

slice_get-beyond : (lines : List Line) (n : ℕ) → length lines ≤ n → slice_get (clocks_of lines) n ≡ None
slice_get-beyond [] n h = refl
slice_get-beyond (line ∷ lines) zero h = absurd (omega arith)
slice_get-beyond (line ∷ lines) (suc n) h = slice_get-beyond lines n (omega arith)

-- a clock that comes later than the searched one, and before the next line, has the same levels
pub level_at-same : (lines : List Line) (n u v : ℕ) (end : Option ℕ) → SplitsAt lines n u → end ≡ slice_get (clocks_of lines) n → u ≤ v → IsBefore v end → level_at lines v ≡ levels_by 0 lines n
level_at-same lines n u v end s e le before =
    levels_after-is 0 lines n v s.within (λ k h. omega (arith, s.before k h))
    (λ h. subst (IsBefore v) (e ∙ slice_get-clock lines n h) before)

-- the next line is later
pub next-later : (lines : List Line) (n u : ℕ) (end : Option ℕ) → SplitsAt lines n u → end ≡ slice_get (clocks_of lines) n → IfSome end (λ clock. u < clock)
next-later lines n u end s e =
    subst (λ (o : Option ℕ). IfSome o (λ clock. u < clock)) (sym e)
    (elim (cases_lt n (length lines)) [
      | inl inside ↦ subst (λ (o : Option ℕ). IfSome o (λ clock. u < clock)) (sym (slice_get-clock lines n inside)) (s.after n (omega arith) inside)
      | inr past ↦ subst (λ (o : Option ℕ). IfSome o (λ clock. u < clock)) (sym (slice_get-beyond lines n past)) tt
    ])

-- a line as it is kept
pub record IsKeptAt (lines : List Line) (n : ℕ) (change : Change) : Type 0 where
  pub inside : n < length lines
  pub clock : clock_of lines n ≡ change.clock
  pub levels : change.levels ≡ levels_by 0 lines (suc n)

pub kept-at : (lines : List Line) (changes : List Change) (n : ℕ) (change : Change) → lines_of changes ≡ lines → n < length changes → change ≡ get_or changes n change → IsKeptAt lines n change
kept-at lines changes n change view h is =
    subst (λ ls. IsKeptAt ls n change) view
    (record {
      inside = omega (arith, length-lines_of changes);
      clock = clock_of-lines_of changes n change h ∙ ap (λ (x : Change). x.clock) (sym is);
      levels = ap (λ (x : Change). x.levels) is ∙ sym (levels_by-last 0 changes n change h);
    })

-- the clocks of what is kept don't fall
pub kept-rising : (lines : List Line) (changes : List Change) → lines_of changes ≡ lines → IsStrictlyIncreasing (clocks_of (lines_of changes)) → IsNonDecreasingBy (λ (x : Change). x.clock) changes
kept-rising lines changes view rising i j d le h =
    omega (arith, clock_of-le (lines_of changes) i j rising le (omega (arith, length-lines_of changes)), clock_of-lines_of changes i d (omega arith), clock_of-lines_of changes j d h)

-- what a search among the kept lines finds
pub splits-kept : (lines : List Line) (changes : List Change) (n u : ℕ) → lines_of changes ≡ lines → n ≤ length changes → AllWithin (λ (x : Change). nat_le x.clock u ≡ true) changes 0 n → AllWithin (λ (x : Change). nat_le x.clock u ≡ false) changes n (length changes) → SplitsAt lines n u
splits-kept lines changes n u view le front back =
    subst (λ ls. SplitsAt ls n u) view
    (record {
      within = omega (arith, length-lines_of changes);
      before = λ k h. early k h;
      after = λ k h m. late k h (omega (arith, length-lines_of changes));
    })
  where
    filler : Change
    filler = record { clock = 0; levels = 0 }

    early : (k : ℕ) → k < n → clock_of (lines_of changes) k ≤ u
    early k h = omega (arith, clock_of-lines_of changes k filler (omega arith), leb-true _ _ (front k filler (omega arith) h))

    late : (k : ℕ) → n ≤ k → k < length changes → u < clock_of (lines_of changes) k
    late k h m = omega (arith, clock_of-lines_of changes k filler m, leb-false _ _ (back k filler h m))

-- whether a line comes later, by the clock at its place
pub later-beyond : (lines : List Line) (n u : ℕ) → slice_get (clocks_of lines) n ≡ None → n < length lines → u < clock_of lines n
later-beyond lines n u none inside = absurd (let e : None ≡ Some (clock_of lines n) = sym none ∙ slice_get-clock lines n inside in cc)

pub clock-there : (lines : List Line) (n clock : ℕ) → slice_get (clocks_of lines) n ≡ Some clock → (n < length lines) × (clock_of lines n ≡ clock)
clock-there lines n clock some =
    elim (cases_lt n (length lines)) [
      | inl inside ↦ (inside, (let e : Some (clock_of lines n) ≡ Some clock = sym (slice_get-clock lines n inside) ∙ some in cc))
      | inr past ↦ absurd (let e : None ≡ Some clock = sym (slice_get-beyond lines n past) ∙ some in cc)
    ]

less-true : (u line : ℕ) → nat_lt u line ≡ true → u < line
less-true u line e = grind (arith, nat_tests)

less-false : (u line : ℕ) → nat_lt u line ≡ false → line ≤ u
less-false u line e = grind (arith, nat_tests)

later-by : (lines : List Line) (n u line : ℕ) (b : Bool) → nat_lt u line ≡ b → (n < length lines) × (clock_of lines n ≡ line) → MatchBool b (n < length lines → u < clock_of lines n) ((n < length lines) × (clock_of lines n ≤ u))
later-by lines n u line true e there = λ inside. (let less : u < line = less-true u line e in let same : clock_of lines n ≡ line = there.1 in omega arith)
later-by lines n u line false e there = (there.0, (let on : line ≤ u = less-false u line e in let same : clock_of lines n ≡ line = there.1 in omega arith))

pub later-there : (lines : List Line) (n u line : ℕ) → slice_get (clocks_of lines) n ≡ Some line → MatchBool (nat_lt u line) (n < length lines → u < clock_of lines n) ((n < length lines) × (clock_of lines n ≤ u))
later-there lines n u line some = later-by lines n u line (nat_lt u line) refl (clock-there lines n line some)

-- a test that is false
pub not-true : (b : Bool) (P Q : Type 0) → MatchBool b P Q → IsTrue (not b) → Q
not-true true P Q m is = absurd (let e : false ≡ true = is in cc)
not-true false P Q m is = m

-- the lines from one that comes later on do, and those up to one that doesn't don't
pub later-all : (lines : List Line) (n u : ℕ) → IsStrictlyIncreasing (clocks_of lines) → (n < length lines → u < clock_of lines n) → (k : ℕ) → n ≤ k → k < length lines → u < clock_of lines k
later-all lines n u rising later k le h = omega (arith, later (omega arith), clock_of-le lines n k rising le h)

pub by-all : (lines : List Line) (last u : ℕ) → IsStrictlyIncreasing (clocks_of lines) → (last < length lines) × (clock_of lines last ≤ u) → (k : ℕ) → k ≤ last → clock_of lines k ≤ u
by-all lines last u rising by k le = (let here : clock_of lines last ≤ u = by.1 in omega (arith, clock_of-le lines k last rising le by.0))
