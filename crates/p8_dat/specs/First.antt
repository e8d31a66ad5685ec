-- internal: what is told while the lines are gone through, the first fault of all so far. o is what was told before.
use Rattle.std.specs.Prelude.{ℕ, List, [], ◌∷◌, Option, Some, None}
use Rattle.std.specs.Result.{result_err}
use Rattle.p8_tree.specs.declared.places.Place.{Place}
use Rattle.p8_tree.specs.Expressions.{Tree}
use Rattle.p8_tree.specs.Sources.{Datum, Contents, Nothing, Data, Org, Res, Fit, Instr}
use Rattle.p8_tree.specs.declared.faults.Fault.{Fault}
use Rattle.p8_tree.specs.Faults.{first_of_two}
use Rattle.p8_fold.specs.Meanings.{Setting}
use Rattle.p8_fold.specs.Verdicts.{verdict}
use Rattle.p8_dat.specs.FirstOfLine.{first_in_instruction}
use Rattle.p8_dat.specs.declared.spots.Spot.{Spot}
use Rattle.p8_dat.specs.Spots.{string, behind_item, Placed}
use Rattle.p8_dat.specs.Names.{Region, names_in}
use Rattle.p8_dat.specs.Bytes.{in_data, in_instruction}
use Rattle.p8_dat.specs.Faults.{org_fault, fit_fault}

abbrev pub first_in : Setting → Tree → Option Fault
first_in s e = result_err (verdict s e)

abbrev pub first_in_number : Setting → Option Tree → Option Fault
first_in_number s None = None
first_in_number s (Some e) = first_in s e

abbrev pub told_in_elements : Option Fault → Setting → Setting → Option (List ℕ) → Tree → Option Tree → Spot → Option Fault
told_in_elements o s t (Some text) e count p = o
told_in_elements o s t None e count p = first_of_two o (first_of_two (first_in_number s count) (first_in (in_data t p) e))

abbrev pub told_in_item : Option Fault → Setting → Setting → Datum → Spot → Option Fault
told_in_item o s t x p = told_in_elements o s t (string x.value) x.value x.count p

abbrev pub told_in_items : Option Fault → Setting → Setting → ℕ → List Datum → Spot → Option Fault
told_in_items o s t size [] p = o
told_in_items o s t size (x ∷ xs) p = told_in_items (told_in_item o s t x p) s t size xs (behind_item s size x p)

abbrev pub told_in_contents : Option Fault → Setting → Setting → Contents → Spot → Place → Option Fault
told_in_contents o s t (Data size xs) p place = told_in_items o s t size xs p
told_in_contents o s t (Instr x) p place = first_of_two o (first_in_instruction (in_instruction t p) x)
told_in_contents o s t (Org e) p place = first_of_two o (first_of_two (first_in_number s e) (org_fault s e place))
told_in_contents o s t (Res e) p place = first_of_two o (first_in_number s e)
told_in_contents o s t (Fit e) p place = first_of_two o (first_of_two (first_in_number s e) (fit_fault s e p.cog place))
told_in_contents o s t Nothing p place = o

abbrev pub told_in_lines : Option Fault → Setting → Setting → List Placed → Option Fault
told_in_lines o s t [] = o
told_in_lines o s t (x ∷ xs) = told_in_lines (told_in_contents o s t x.line.contents x.at x.line.word_place) s t xs

abbrev pub told_in_regions : Option Fault → Setting → Setting → List Region → Option Fault
told_in_regions o s t [] = o
told_in_regions o s t (r ∷ rs) = told_in_regions (told_in_lines o s (names_in t r) r) s t rs
