-- One bytecode, by what it takes from the stack.
use Rattle.std.specs.Prelude.{Contains}
use Rattle.std.proofs.Common.{◌≡◌, refl, sym, ap, subst, ◌∙◌, arith, ℕ, zero, suc, ◌+◌, ◌%◌, ◌^◌, ◌≤◌, List, [], ◌∷◌, ◌++◌, length, append_assoc, append-nil}
use Rattle.p8_access.specs.Courses.{Course, Finish}
use Rattle.p8_bcog.specs.declared.marks.CallMark.{CallMark}
use Rattle.p8_bcog.specs.declared.state.SpinState.{SpinState}
use Rattle.p8_bcog.specs.Bytecodes.{bytecode, does_found}
use Rattle.p8_bcog.specs.Code.{fetched}
use Rattle.p8_bcog.specs.Replay.{engine_of}
use Rattle.p8_tree.specs.declared.places.Place.{Place}
use Rattle.p8_meaning.specs.Doing.{Deeds, Registers, Rest}
use Rattle.p8_compiled.specs.Courses.{Does, gives, takes_none, takes_one, takes_two, takes_three, takes_four, takes_names, takes_value}
use Rattle.p8_compiled.specs.Standing.{gives_text}
use Rattle.p8_compiled.proofs.Meets.{goes_on, Reading, MeetsHere, Follows, weaken}
use Rattle.p8_compiled.proofs.Stack.{fine, one-is, two-is, three-is, four-is, names-is, value-is}
use Rattle.p8_compiled.proofs.Places.{Frame, at}

-- one less, where there is one
abbrev pub less : ℕ → ℕ
less zero = zero
less (suc n) = n

-- and one more of that
pub less-more : (n : ℕ) → n ≤ suc (less n)
less-more zero = omega arith
less-more (suc n) = omega arith

pub less-le : (n : ℕ) → less n ≤ n
less-le zero = omega arith
less-le (suc n) = omega arith

module _ (memory : List ℕ) (cog : ℕ) (table : List (ℕ × Place)) (hand : Place) where
  -- the bytecodes of a memory with their lines, and what they follow
  abbrev pub engine : Reading SpinState
  engine = record { engine = engine_of memory cog; line = λ s place. Contains table (s.at, place); hand = hand }

  abbrev pub M : ℕ → Course SpinState → Deeds → Type 0
  M f d t = MeetsHere engine f d t

  abbrev pub F : ℕ → Registers → Course SpinState → Rest → Type 0
  F f own d r = Follows engine f f own d r

  found-is : (p q : ℕ) (course : SpinState → Course SpinState) → Does memory cog table hand p course q → (s : SpinState) → s.at ≡ p → bytecode memory cog s ≡ course (record s { at = q })
  found-is p q course h s is =
      ap (λ (place : ℕ). does_found memory cog (fetched memory place) s) is
      ∙ ap (λ found. does_found memory cog found s) h.1
      ∙ h.2 (record s { at = q }) refl

  module _ (c : Frame) (p q base : ℕ) (marks : List CallMark) where
    -- a bytecode that pays for one of the bound
    pub pays : (course : SpinState → Course SpinState) → Does memory cog table hand p course q → (stack : List ℕ) (own : Registers) (f : ℕ) (t : Deeds) → M (less f) (course (at c q base marks stack own)) t → M f (Finish (at c p base marks stack own)) t
    pays course h stack own f t m =
        goes_on hand h.3 (less-more f) (subst (λ (d : Course SpinState). M (less f) d t) (sym (found-is p q course h (at c p base marks stack own) refl)) m)

    pub by : (course : SpinState → Course SpinState) → Does memory cog table hand p course q → (stack : List ℕ) (own : Registers) (f : ℕ) (r : Rest) → F f own (course (at c q base marks stack own)) r → F f own (Finish (at c p base marks stack own)) r
    by course h stack own f r m = record { meets = pays course h stack own f (r f (record own { statement = hand })) (weaken engine (less-le f) m.meets) }

    -- where the course is known at this stack
    pub by-course : (course : SpinState → Course SpinState) → Does memory cog table hand p course q → (stack : List ℕ) (own : Registers) (f : ℕ) (r : Rest) (d : Course SpinState) → course (at c q base marks stack own) ≡ d → F f own d r → F f own (Finish (at c p base marks stack own)) r
    by-course course h stack own f r d is m = by course h stack own f r (subst (λ (x : Course SpinState). F f own x r) (sym is) m)

    module _ (xs : List ℕ) (own : Registers) (low : base ≤ length xs) (f : ℕ) (r : Rest) where
      nothing : xs ≡ xs ++ []
      nothing = sym (append-nil xs)

      pub by-gives : (value : ℕ) → Does memory cog table hand p (gives value) q → length xs + 1 ≤ 16384 → F f own (Finish (at c q base marks (xs ++ value ∷ []) own)) r → F f own (Finish (at c p base marks xs own)) r
      by-gives value h room m =
          by-course (gives value) h xs own f r _ (fine (at c q base marks xs own) xs [] 0 1 _ nothing refl low room) m

      pub by-text : (offset : ℕ) → Does memory cog table hand p (gives_text offset) q → length xs + 1 ≤ 16384 → F f own (Finish (at c q base marks (xs ++ (c.pbase + offset) % 2 ^ 16 ∷ []) own)) r → F f own (Finish (at c p base marks xs own)) r
      by-text offset h room m =
          by-course (gives_text offset) h xs own f r _ (fine (at c q base marks xs own) xs [] 0 1 _ nothing refl low room) m

      pub by-none : (leaves : ℕ) (go : SpinState → Course SpinState) → Does memory cog table hand p (takes_none leaves go) q → length xs + leaves ≤ 16384 → F f own (go (at c q base marks xs own)) r → F f own (Finish (at c p base marks xs own)) r
      by-none leaves go h room m =
          by-course (takes_none leaves go) h xs own f r _ (fine (at c q base marks xs own) xs [] 0 leaves _ nothing refl low room) m

      pub by-one : (leaves : ℕ) (go : ℕ → SpinState → Course SpinState) → Does memory cog table hand p (takes_one leaves go) q → (a : ℕ) → length xs + leaves ≤ 16384 → F f own (go a (at c q base marks xs own)) r → F f own (Finish (at c p base marks (xs ++ a ∷ []) own)) r
      by-one leaves go h a room m =
          by-course (takes_one leaves go) h (xs ++ a ∷ []) own f r _ (one-is (at c q base marks (xs ++ a ∷ []) own) xs a leaves go (refl, low, room)) m

      pub by-two : (leaves : ℕ) (go : ℕ → ℕ → SpinState → Course SpinState) → Does memory cog table hand p (takes_two leaves go) q → (a b : ℕ) → length xs + leaves ≤ 16384 → F f own (go a b (at c q base marks xs own)) r → F f own (Finish (at c p base marks ((xs ++ a ∷ []) ++ b ∷ []) own)) r
      by-two leaves go h a b room m =
          by-course (takes_two leaves go) h ((xs ++ a ∷ []) ++ b ∷ []) own f r _ (two-is (at c q base marks ((xs ++ a ∷ []) ++ b ∷ []) own) xs a b leaves go (append_assoc xs (a ∷ []) (b ∷ []), low, room)) m

      pub by-three : (leaves : ℕ) (go : ℕ → ℕ → ℕ → SpinState → Course SpinState) → Does memory cog table hand p (takes_three leaves go) q → (a b d : ℕ) → length xs + leaves ≤ 16384 → F f own (go a b d (at c q base marks xs own)) r → F f own (Finish (at c p base marks (((xs ++ a ∷ []) ++ b ∷ []) ++ d ∷ []) own)) r
      by-three leaves go h a b d room m =
          by-course (takes_three leaves go) h (((xs ++ a ∷ []) ++ b ∷ []) ++ d ∷ []) own f r _
          (three-is (at c q base marks (((xs ++ a ∷ []) ++ b ∷ []) ++ d ∷ []) own) xs a b d leaves go (append_assoc (xs ++ a ∷ []) (b ∷ []) (d ∷ []) ∙ append_assoc xs (a ∷ []) (b ∷ d ∷ []), low, room)) m

      pub by-four : (leaves : ℕ) (go : ℕ → ℕ → ℕ → ℕ → SpinState → Course SpinState) → Does memory cog table hand p (takes_four leaves go) q → (a b d e : ℕ) → length xs + leaves ≤ 16384 → F f own (go a b d e (at c q base marks xs own)) r → F f own (Finish (at c p base marks ((((xs ++ a ∷ []) ++ b ∷ []) ++ d ∷ []) ++ e ∷ []) own)) r
      by-four leaves go h a b d e room m =
          by-course (takes_four leaves go) h ((((xs ++ a ∷ []) ++ b ∷ []) ++ d ∷ []) ++ e ∷ []) own f r _
          (four-is (at c q base marks ((((xs ++ a ∷ []) ++ b ∷ []) ++ d ∷ []) ++ e ∷ []) own) xs a b d e leaves go
          (append_assoc ((xs ++ a ∷ []) ++ b ∷ []) (d ∷ []) (e ∷ []) ∙ append_assoc (xs ++ a ∷ []) (b ∷ []) (d ∷ e ∷ []) ∙ append_assoc xs (a ∷ []) (b ∷ d ∷ e ∷ []), low, room)) m

      pub by-names : (named leaves : ℕ) (go : List ℕ → SpinState → Course SpinState) → Does memory cog table hand p (takes_names named leaves go) q → (names : List ℕ) → length names ≡ named → length xs + leaves ≤ 16384 → F f own (go names (at c q base marks xs own)) r → F f own (Finish (at c p base marks (xs ++ names) own)) r
      by-names named leaves go h names is room m =
          by-course (takes_names named leaves go) h (xs ++ names) own f r _ (names-is (at c q base marks (xs ++ names) own) xs names named leaves go (sym is) (refl, low, room)) m

      pub by-value : (named leaves : ℕ) (go : List ℕ → ℕ → SpinState → Course SpinState) → Does memory cog table hand p (takes_value named leaves go) q → (a : ℕ) (names : List ℕ) → length names ≡ named → length xs + leaves ≤ 16384 → F f own (go names a (at c q base marks xs own)) r → F f own (Finish (at c p base marks ((xs ++ a ∷ []) ++ names) own)) r
      by-value named leaves go h a names is room m =
          by-course (takes_value named leaves go) h ((xs ++ a ∷ []) ++ names) own f r _ (value-is (at c q base marks ((xs ++ a ∷ []) ++ names) own) xs names a named leaves go (sym is) refl low room) m
