-- Frames by their index from the innermost.
use Rattle.std.proofs.Common.{◌≡◌, ℕ, zero, suc, ◌+◌, ◌<◌, ◌≤◌, List, [], ◌∷◌, length, drop, Some, None, Bool, true, false, refl, sym, ap, ◌∙◌, arith, drop-cons}
use Rattle.std.specs.Prelude.{slice_index_or, ◌||◌}
use Rattle.std.specs.List.{list_any}
use Rattle.p8_columns.specs.Lines.{is_repeat}
use Rattle.p8_columns.specs.Reader.{opener_at}
use Rattle.p8_columns.specs.Views.{line_of, kind_of, frames_in}
use Rattle.p8_columns.specs.declared.stack.Frame.{Frame}

pub length_frames : (fs : List Frame) → length (frames_in fs) ≡ length fs
length_frames [] = refl
length_frames (f ∷ fs) = ap (λ n. suc n) (length_frames fs)

pub drop_frames : (n : ℕ) (fs : List Frame) → drop n (frames_in fs) ≡ frames_in (drop n fs)
drop_frames zero fs = refl
drop_frames (suc n) [] = refl
drop_frames (suc n) (f ∷ fs) = drop_frames n fs

pub opener_is : (fs : List Frame) (n : ℕ) (f : Frame) → n < length fs → f ≡ slice_index_or fs n f → opener_at (frames_in fs) n ≡ Some (line_of f.opener)
opener_is [] n f lt e = absurd (omega arith)
opener_is (g ∷ fs) zero f lt e = ap (λ (f : Frame). Some (line_of f.opener)) (sym e)
opener_is (g ∷ fs) (suc n) f lt e = opener_is fs n f (omega arith) e

pub opener_past : (fs : List Frame) (n : ℕ) → length fs ≤ n → opener_at (frames_in fs) n ≡ None
opener_past [] n le = refl
opener_past (g ∷ fs) zero le = absurd (omega arith)
opener_past (g ∷ fs) (suc n) le = opener_past fs n (omega arith)

split_at : (fs : List Frame) (n : ℕ) (f : Frame) → n < length fs → f ≡ slice_index_or fs n f → drop n fs ≡ f ∷ drop (n + 1) fs
split_at fs n f lt e = drop-cons fs n f lt ∙ ap (λ x. x ∷ drop (suc n) fs) (sym e) ∙ (let k : suc n ≡ n + 1 = omega arith in ap (λ k. f ∷ drop k fs) k)

drop_past : (fs : List Frame) (n : ℕ) → length fs ≤ n → drop n fs ≡ []
drop_past [] zero le = refl
drop_past [] (suc n) le = refl
drop_past (f ∷ fs) zero le = absurd (omega arith)
drop_past (f ∷ fs) (suc n) le = drop_past fs n (omega arith)

-- a loop among the frames from an index on
abbrev pub has_loop : List Frame → Bool
has_loop fs = list_any (λ f. is_repeat f.opener.kind) (frames_in fs)

pub loop_found : (fs : List Frame) (n : ℕ) (f : Frame) → n < length fs → f ≡ slice_index_or fs n f → is_repeat (kind_of f.opener.kind) ≡ true → has_loop (drop n fs) ≡ true
loop_found fs n f lt e h = ap has_loop (split_at fs n f lt e) ∙ ap (λ t. t || has_loop (drop (n + 1) fs)) h

pub loop_none : (fs : List Frame) (n : ℕ) → length fs ≤ n → has_loop (drop n fs) ≡ false
loop_none fs n le = ap has_loop (drop_past fs n le)
