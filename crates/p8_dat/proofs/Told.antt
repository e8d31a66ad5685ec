-- What is told of all lines is the first of their faults.
use Rattle.std.proofs.Common.{◌≡◌, ◌⊎◌, inl, inr, ℕ, List, [], ◌∷◌, Option, Some, None}
use Rattle.std.proofs.Math.Logic.{⊎_elim}
use Rattle.p8_tree.specs.declared.places.Place.{Place}
use Rattle.p8_tree.specs.Expressions.{Tree}
use Rattle.p8_tree.specs.Sources.{Datum, Contents, Nothing, Data, Org, Res, Fit, Instr}
use Rattle.p8_tree.specs.declared.faults.Fault.{Fault}
use Rattle.p8_tree.proofs.Firsts.{IsFirstFault-along}
use Rattle.p8_tree.specs.Faults.{first_of_two}
use Rattle.p8_fold.specs.Meanings.{Setting}
use Rattle.p8_fold.specs.Values.{value, FaultIn}
use Rattle.p8_fold.specs.Verdicts.{verdict}
use Rattle.p8_fold.proofs.Judging.{Tells, fault_told, two_told, own_told}
use Rattle.p8_fold.proofs.Judged.{judged}
use Rattle.p8_dat.specs.Encoding.{FaultInInstruction}
use Rattle.p8_dat.specs.FirstOfLine.{first_in_instruction}
use Rattle.p8_dat.proofs.ToldOfLine.{instruction_told}
use Rattle.p8_dat.specs.declared.spots.Spot.{Spot}
use Rattle.p8_dat.specs.Spots.{string, behind_item, Placed}
use Rattle.p8_dat.specs.Names.{Region, names_in}
use Rattle.p8_dat.specs.Bytes.{in_data, in_instruction}
use Rattle.p8_dat.specs.Faults.{FaultInNumber, FaultInElements, FaultInItem, FaultInItems, org_fault, fit_fault, FaultInContents, FaultInLine, FaultInLines}
use Rattle.p8_dat.specs.Blocks.{FaultInRegions}
use Rattle.p8_dat.specs.First.{first_in, first_in_number, told_in_elements, told_in_item, told_in_items, told_in_contents, told_in_lines, told_in_regions}

along : (S T : Fault → Type 0) (o : Option Fault) → ((x : Fault) → S x → T x) → ((x : Fault) → T x → S x) → Tells o S → Tells o T
along S T None to from h = λ f t. h f (from f t)
along S T (Some f) to from h = IsFirstFault-along to from h

-- what is told before, and nothing more
nothing_more : (S : Fault → Type 0) (o : Option Fault) → Tells o S → Tells o (λ x. S x ⊎ ⊥)
nothing_more S o h = along S (λ x. S x ⊎ ⊥) o (λ x. inl) (λ x. ⊎_elim (λ s. s) (λ b. absurd b)) h

to_right : {A B C : Type 0} → (A ⊎ B) ⊎ C → A ⊎ (B ⊎ C)
to_right (inl (inl a)) = inl a
to_right (inl (inr b)) = inr (inl b)
to_right (inr c) = inr (inr c)

to_left : {A B C : Type 0} → A ⊎ (B ⊎ C) → (A ⊎ B) ⊎ C
to_left (inl a) = inl (inl a)
to_left (inr (inl b)) = inl (inr b)
to_left (inr (inr c)) = inr c

regrouped : (S A B : Fault → Type 0) (o : Option Fault) → Tells o (λ x. (S x ⊎ A x) ⊎ B x) → Tells o (λ x. S x ⊎ (A x ⊎ B x))
regrouped S A B o h = along (λ x. (S x ⊎ A x) ⊎ B x) (λ x. S x ⊎ (A x ⊎ B x)) o (λ x. to_right) (λ x. to_left) h

in_value : (s : Setting) (e : Tree) → Tells (first_in s e) (FaultIn s e)
in_value s e = fault_told (FaultIn s e) (verdict s e) (value s e) (judged s e)

in_number : (s : Setting) (e : Option Tree) → Tells (first_in_number s e) (FaultInNumber s e)
in_number s None = λ f b. b
in_number s (Some e) = in_value s e

in_elements : (S : Fault → Type 0) (o : Option Fault) (s t : Setting) (text : Option (List ℕ)) (e : Tree) (count : Option Tree) (p : Spot) → Tells o S → Tells (told_in_elements o s t text e count p) (λ x. S x ⊎ FaultInElements s t text e count p x)
in_elements S o s t (Some text) e count p h = nothing_more S o h
in_elements S o s t None e count p h =
    let C : Fault → Type 0 = FaultInNumber s count in
    let V : Fault → Type 0 = FaultIn (in_data t p) e in
    let c = first_in_number s count in
    let v = first_in (in_data t p) e in
    two_told S (λ x. C x ⊎ V x) o (first_of_two c v) h (two_told C V c v (in_number s count) (in_value (in_data t p) e))

in_items : (S : Fault → Type 0) (o : Option Fault) (s t : Setting) (size : ℕ) (xs : List Datum) (p : Spot) → Tells o S → Tells (told_in_items o s t size xs p) (λ x. S x ⊎ FaultInItems s t size xs p x)
in_items S o s t size [] p h = nothing_more S o h
in_items S o s t size (d ∷ ds) p h =
    regrouped S (FaultInItem s t d p) (FaultInItems s t size ds (behind_item s size d p)) (told_in_items (told_in_item o s t d p) s t size ds (behind_item s size d p))
    (in_items (λ x. S x ⊎ FaultInItem s t d p x) (told_in_item o s t d p) s t size ds (behind_item s size d p)
    (in_elements S o s t (string d.value) d.value d.count p h))

in_contents : (S : Fault → Type 0) (o : Option Fault) (s t : Setting) (c : Contents) (p : Spot) (place : Place) → Tells o S → Tells (told_in_contents o s t c p place) (λ x. S x ⊎ FaultInContents s t c p place x)
in_contents S o s t (Data size xs) p place h = in_items S o s t size xs p h
in_contents S o s t (Instr x) p place h =
    two_told S (FaultInInstruction (in_instruction t p) x) o (first_in_instruction (in_instruction t p) x) h (instruction_told (in_instruction t p) x)
in_contents S o s t (Org e) p place h =
    two_told S (λ f. FaultInNumber s e f ⊎ (org_fault s e place ≡ Some f)) o (first_of_two (first_in_number s e) (org_fault s e place)) h
    (two_told (FaultInNumber s e) (λ f. org_fault s e place ≡ Some f) (first_in_number s e) (org_fault s e place) (in_number s e) (own_told (org_fault s e place)))
in_contents S o s t (Res e) p place h = two_told S (FaultInNumber s e) o (first_in_number s e) h (in_number s e)
in_contents S o s t (Fit e) p place h =
    two_told S (λ f. FaultInNumber s e f ⊎ (fit_fault s e p.cog place ≡ Some f)) o (first_of_two (first_in_number s e) (fit_fault s e p.cog place)) h
    (two_told (FaultInNumber s e) (λ f. fit_fault s e p.cog place ≡ Some f) (first_in_number s e) (fit_fault s e p.cog place) (in_number s e) (own_told (fit_fault s e p.cog place)))
in_contents S o s t Nothing p place h = nothing_more S o h

in_lines : (S : Fault → Type 0) (o : Option Fault) (s t : Setting) (xs : List Placed) → Tells o S → Tells (told_in_lines o s t xs) (λ x. S x ⊎ FaultInLines s t xs x)
in_lines S o s t [] h = nothing_more S o h
in_lines S o s t (x ∷ xs) h =
    regrouped S (FaultInLine s t x) (FaultInLines s t xs) (told_in_lines (told_in_contents o s t x.line.contents x.at x.line.word_place) s t xs)
    (in_lines (λ f. S f ⊎ FaultInLine s t x f) (told_in_contents o s t x.line.contents x.at x.line.word_place) s t xs (in_contents S o s t x.line.contents x.at x.line.word_place h))

in_regions : (S : Fault → Type 0) (o : Option Fault) (s t : Setting) (rs : List Region) → Tells o S → Tells (told_in_regions o s t rs) (λ x. S x ⊎ FaultInRegions s t rs x)
in_regions S o s t [] h = nothing_more S o h
in_regions S o s t (r ∷ rs) h =
    regrouped S (FaultInLines s (names_in t r) r) (FaultInRegions s t rs) (told_in_regions (told_in_lines o s (names_in t r) r) s t rs)
    (in_regions (λ f. S f ⊎ FaultInLines s (names_in t r) r f) (told_in_lines o s (names_in t r) r) s t rs (in_lines S o s (names_in t r) r h))

-- of all regions, where nothing was told before
pub regions_told : (s t : Setting) (rs : List Region) → Tells (told_in_regions None s t rs) (FaultInRegions s t rs)
regions_told s t rs =
    along (λ x. ⊥ ⊎ FaultInRegions s t rs x) (FaultInRegions s t rs) (told_in_regions None s t rs) (λ x. ⊎_elim (λ b. absurd b) (λ f. f)) (λ x. inr)
    (in_regions (λ x. ⊥) None s t rs (λ f b. b))
