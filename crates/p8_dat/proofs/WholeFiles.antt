-- All blocks of a file.
use Rattle.std.proofs.Common.{◌≡◌, ℕ, ◌-◌, ◌<◌, Bool, true, false, List, [], ◌∷◌, ◌++◌, length, take, drop, get_or, map, Option, Some, None, inl, inr, refl, sym, ap, ◌∙◌, subst}
use Rattle.std.specs.Prelude.{if◌then◌else◌, ◌&&◌, ◌||◌, not, MatchOption}
use Rattle.std.specs.List.{fold}
use Rattle.std.specs.Str.{bytes_eq}
use Rattle.std.proofs.lemmas.Bool.{cases_Bool}
use Rattle.std.proofs.lemmas.Slice.{first_rest}
use Rattle.std.proofs.lemmas.Slice.Eq.{bytes_eq-Decides}
use Rattle.p8_tree.specs.Sources.{Source}
use Rattle.p8_tree.specs.Views.{block_of}
use Rattle.p8_tree.specs.declared.sources.Block.{Block}
use Rattle.p8_tree.specs.declared.faults.Fault.{Fault}
use Rattle.p8_tree.specs.Faults.{IsFirstFault}
use Rattle.p8_tree.specs.Names.{is_local}
use Rattle.p8_fold.specs.declared.meanings.Meaning.{Meaning}
use Rattle.p8_fold.specs.declared.meanings.Meaning.TheVariants as meaning_case
use Rattle.p8_fold.specs.Meanings.{Setting, outside_operands}
use Rattle.p8_fold.proofs.Judging.{Tells}
use Rattle.p8_dat.proofs.ToldOfLine.{as_match}
use Rattle.p8_dat.specs.declared.spots.Spot.{Spot}
use Rattle.p8_dat.specs.declared.placing.Placed as code
use Rattle.p8_dat.specs.Spots.{Placed, placed, behind_lines}
use Rattle.p8_dat.specs.Names.{without_labels, with_labels, with_label, with_common, is_named, label_at, regions}
use Rattle.p8_dat.specs.Blocks.{block_lines, dat_lines, first_spot, counts_setting, placed_lines, values_setting, regions_bytes, FaultInRegions, dat_bytes, IsDatFault}
use Rattle.p8_dat.specs.First.{told_in_regions}
use Rattle.p8_dat.specs.Placing.{placed_of, unplaced, is_local_label, has_local, AreHidden}
use Rattle.p8_dat.proofs.Settings.{same_settings}
use Rattle.p8_dat.proofs.Rows.{next_block}
use Rattle.p8_dat.proofs.LocalLabels.{unplaced_common}
use Rattle.p8_dat.proofs.Told.{regions_told}

pub next_blocks : (s : Setting) (bs : List Block) (b : Block) (p q : Spot) (old new : List code.Placed) (rest : List Block) → 0 < length bs → b ≡ get_or bs 0 b → rest ≡ take (length bs - 1) (drop 1 bs)
    → map placed_of new ≡ map placed_of old ++ placed s (block_lines (block_of b)) p → q ≡ behind_lines s (block_lines (block_of b)) p
    → map placed_of new ++ placed s (dat_lines (map block_of rest)) q ≡ map placed_of old ++ placed s (dat_lines (map block_of bs)) p
next_blocks s bs b p q old new rest some first behind put is =
    next_block s (block_lines (block_of b)) (dat_lines (map block_of rest)) p q (map placed_of old) (map placed_of new) put is
    ∙ ap (λ ls. map placed_of old ++ placed s ls p)
    (ap (λ b. block_lines (block_of b) ++ dat_lines (map block_of rest)) first ∙ ap (λ bs'. block_lines (block_of (get_or bs 0 b)) ++ dat_lines (map block_of bs')) behind
    ∙ sym (ap (λ bs. dat_lines (map block_of bs)) (first_rest bs b some)))

-- ---- a file without a line of DAT

pub no_line_more : (bs : List Block) (b : Block) (rest : List Block) → 0 < length bs → b ≡ get_or bs 0 b → rest ≡ take (length bs - 1) (drop 1 bs)
    → block_lines (block_of b) ≡ [] → dat_lines (map block_of rest) ≡ dat_lines (map block_of bs)
no_line_more bs b rest some first behind own = sym (
    ap (λ bs. dat_lines (map block_of bs)) (first_rest bs b some) ∙ ap (λ x. block_lines (block_of x) ++ dat_lines (map block_of (take (length bs - 1) (drop 1 bs)))) (sym first)
    ∙ ap (λ bs'. block_lines (block_of b) ++ dat_lines (map block_of bs')) (sym behind) ∙ ap (λ ls. ls ++ dat_lines (map block_of rest)) own)

pub no_places : (base : Setting) (start : ℕ) (file : Source) → dat_lines file ≡ [] → placed_lines base start file ≡ []
no_places base start file none = ap (λ ls. placed (without_labels base ls) ls (first_spot start)) none

pub no_bytes : (base : Setting) (start : ℕ) (file : Source) → dat_lines file ≡ [] → dat_bytes base start file ≡ []
no_bytes base start file none =
    ap (λ ls. let s = without_labels base ls in regions_bytes s (with_labels base (placed s ls (first_spot start))) (regions (placed s ls (first_spot start)))) none

pub no_fault : (base : Setting) (start : ℕ) (file : Source) (f : Fault) → dat_lines file ≡ [] → ¬ IsDatFault base start file f
no_fault base start file f none h =
    subst (λ ls. let s = without_labels base ls in FaultInRegions s (with_labels base (placed s ls (first_spot start))) (regions (placed s ls (first_spot start))) f) none h

-- ---- a local label means nothing to the lines of other regions

hidden_by : (l e : Bool) (m : Meaning) (o : Option Meaning) → (e ≡ true → l ≡ true) → o ≡ Some meaning_case.Other → (if e then Some (if not l then m else meaning_case.Other) else o) ≡ Some meaning_case.Other
hidden_by true true m o local h = refl
hidden_by false true m o local h = absurd (let bad : false ≡ true = local refl in cc)
hidden_by l false m o local h = h

step_hidden : (n : List ℕ) (x : Placed) (s : Setting) (label : Option (List ℕ)) → is_local n ≡ true → s.name n ≡ Some meaning_case.Other
    → (with_label label (if is_named label then label_at x.at else meaning_case.Other) s).name n ≡ Some meaning_case.Other
step_hidden n x s None local h = h
step_hidden n x s (Some m) local h =
    hidden_by (is_local m) (bytes_eq n m) (label_at x.at) (s.name n) (λ same. ap is_local (sym ((bytes_eq-Decides n m).0 same)) ∙ local) h

stays_hidden : (n : List ℕ) (xs : List Placed) (s : Setting) → is_local n ≡ true → s.name n ≡ Some meaning_case.Other → (fold with_common s xs).name n ≡ Some meaning_case.Other
stays_hidden n [] s local h = h
stays_hidden n (x ∷ xs) s local h = stays_hidden n xs (with_common s x) local (step_hidden n x s x.line.label local h)

here_hidden : (l e : Bool) (m : Meaning) (o : Option Meaning) → (l && e) ≡ true → (if e then Some (if not l then m else meaning_case.Other) else o) ≡ Some meaning_case.Other
here_hidden true true m o h = refl
here_hidden true false m o h = absurd cc
here_hidden false e m o h = absurd cc

label_hidden : (n : List ℕ) (x : Placed) (s : Setting) (label : Option (List ℕ)) → is_local_label label n ≡ true
    → (with_label label (if is_named label then label_at x.at else meaning_case.Other) s).name n ≡ Some meaning_case.Other
label_hidden n x s None h = absurd cc
label_hidden n x s (Some m) h = here_hidden (is_local m) (bytes_eq n m) (label_at x.at) (s.name n) h

left_true : (a b : Bool) → (a && b) ≡ true → a ≡ true
left_true true b h = refl
left_true false b h = h

right_true : (a b : Bool) → (a && b) ≡ true → b ≡ true
right_true true b h = h
right_true false b h = absurd cc

is_local_by : (n : List ℕ) (label : Option (List ℕ)) → is_local_label label n ≡ true → is_local n ≡ true
is_local_by n None h = absurd cc
is_local_by n (Some m) h = ap is_local ((bytes_eq-Decides n m).0 (right_true (is_local m) (bytes_eq n m) h)) ∙ left_true (is_local m) (bytes_eq n m) h

second_true : (a b : Bool) → (a || b) ≡ true → a ≡ false → b ≡ true
second_true true b h other = absurd cc
second_true false b h other = h

common_hidden : (n : List ℕ) (xs : List Placed) (s : Setting) → has_local xs n ≡ true → (fold with_common s xs).name n ≡ Some meaning_case.Other
common_hidden n [] s h = absurd cc
common_hidden n (x ∷ xs) s h =
    elim (cases_Bool (is_local_label x.line.label n)) [
      | inl this ↦ stays_hidden n xs (with_common s x) (is_local_by n x.line.label this) (label_hidden n x s x.line.label this)
      | inr other ↦ common_hidden n xs (with_common s x) (second_true (is_local_label x.line.label n) (has_local xs n) h other)
    ]

pub hidden_at_first : (base t : Setting) (ps qs : List code.Placed) → qs ≡ ps → t ≡ fold with_common base (map placed_of ps) → AreHidden (unplaced t) (map placed_of qs)
hidden_at_first base t ps qs is same = record {
  each = λ n h. ap (λ t. t.name n) same ∙ common_hidden n (map placed_of ps) base (ap (λ qs. has_local (map placed_of qs) n) (sym is) ∙ h);
}

-- ---- the whole

stands_nowhere : (base : Setting) → base.here ≡ outside_operands None → unplaced base ≡ base
stands_nowhere base h = same_settings base (unplaced base) (λ n. refl) (λ o n. refl) (sym h)

pub values_are : (base t : Setting) (ps qs : List code.Placed) → base.here ≡ outside_operands None → qs ≡ ps → t ≡ fold with_common base (map placed_of qs) → unplaced t ≡ fold with_common base (map placed_of ps)
values_are base t ps qs nowhere is same =
    ap unplaced (same ∙ ap (λ qs. fold with_common base (map placed_of qs)) is) ∙ unplaced_common base (map placed_of ps) ∙ ap (λ base. fold with_common base (map placed_of ps)) (stands_nowhere base nowhere)

pub file_bytes : (base s t : Setting) (start : ℕ) (file : Source) (xs : List Placed) (qs : List code.Placed) (out : List ℕ) → s ≡ counts_setting base file → t ≡ fold with_common base xs → xs ≡ placed_lines base start file → map placed_of qs ≡ xs
    → out ≡ [] ++ regions_bytes s t (regions (map placed_of qs)) → out ≡ dat_bytes base start file
file_bytes base s t start file xs qs out counts values places slice put =
    put ∙ ap (λ s. regions_bytes s t (regions (map placed_of qs))) counts ∙ ap (λ t. regions_bytes (counts_setting base file) t (regions (map placed_of qs))) (values ∙ ap (λ xs. fold with_common base xs) places)
    ∙ ap (λ xs. regions_bytes (counts_setting base file) (values_setting base start file) (regions xs)) (slice ∙ places)

pub file_told : (base s t : Setting) (start : ℕ) (file : Source) (xs : List Placed) (qs : List code.Placed) (o : Option Fault) → s ≡ counts_setting base file → t ≡ fold with_common base xs → xs ≡ placed_lines base start file → map placed_of qs ≡ xs
    → o ≡ told_in_regions None s t (regions (map placed_of qs)) → MatchOption o ((f : Fault) → ¬ IsDatFault base start file f) (IsFirstFault (IsDatFault base start file))
file_told base s t start file xs qs o counts values places slice told =
    let c = counts_setting base file in
    let v = values_setting base start file in
    let rs = regions (placed_lines base start file) in
    let is : o ≡ told_in_regions None c v rs =
    told ∙ ap (λ s. told_in_regions None s t (regions (map placed_of qs))) counts ∙ ap (λ t. told_in_regions None c t (regions (map placed_of qs))) (values ∙ ap (λ xs. fold with_common base xs) places)
    ∙ ap (λ xs. told_in_regions None c v (regions xs)) (slice ∙ places) in
    as_match o (IsDatFault base start file) (subst (λ o. Tells o (FaultInRegions c v rs)) (sym is) (regions_told c v rs))
