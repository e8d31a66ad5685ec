-- What is wrong with the lines of DAT: 12 and 13 of values, 21 and 24 of instructions, 22 of FIT, 23 of ORG. Source: this
-- project's profile.
use Rattle.std.specs.Prelude.{◌≡◌, ◌⊎◌, ℕ, ◌+◌, ◌/◌, Bool, false, nat_lt, List, [], ◌∷◌, Option, Some, None}
use Rattle.p8_tree.specs.declared.places.Place.{Place}
use Rattle.p8_tree.specs.Expressions.{Tree}
use Rattle.p8_tree.specs.Sources.{Datum, Contents, Nothing, Data, Org, Res, Fit, Instr}
use Rattle.p8_tree.specs.declared.faults.Fault.{Fault}
use Rattle.p8_tree.specs.Faults.{fault}
use Rattle.p8_tree.specs.declared.refusal.Refusal.TheVariants.{FitExceeded, OrgRange}
use Rattle.p8_fold.specs.Meanings.{Setting}
use Rattle.p8_fold.specs.Values.{value, FaultIn, where_so}
use Rattle.p8_dat.specs.Encoding.{FaultInInstruction}
use Rattle.p8_dat.specs.declared.spots.Spot.{Spot}
use Rattle.p8_dat.specs.Spots.{number, string, behind_item, Placed}
use Rattle.p8_dat.specs.Bytes.{in_data, in_instruction}

-- a value, if one is written
abbrev pub FaultInNumber : Setting → Option Tree → Fault → Type 0
FaultInNumber s None f = ⊥
FaultInNumber s (Some e) f = FaultIn s e f

-- an item: its count, and its value, also if it is to stand there no time
abbrev pub FaultInElements : Setting → Setting → Option (List ℕ) → Tree → Option Tree → Spot → Fault → Type 0
FaultInElements s t (Some text) e count p f = ⊥
FaultInElements s t None e count p f = FaultInNumber s count f ⊎ FaultIn (in_data t p) e f

abbrev pub FaultInItem : Setting → Setting → Datum → Spot → Fault → Type 0
FaultInItem s t x p f = FaultInElements s t (string x.value) x.value x.count p f

abbrev pub FaultInItems : Setting → Setting → ℕ → List Datum → Spot → Fault → Type 0
FaultInItems s t size [] p f = ⊥
FaultInItems s t size (x ∷ xs) p f = FaultInItem s t x p f ⊎ FaultInItems s t size xs (behind_item s size x p) f

-- 23 at ORG where its value isn't from 0 to 496, the address of the first register
abbrev pub org_fault : Setting → Option Tree → Place → Option Fault
org_fault s e place = where_so (nat_lt 496 (number s 0 e)) (fault OrgRange place)

-- the address up to which FIT allows: 496 where none is written; one that is refused allows all
abbrev pub is_beyond : Option ℕ → ℕ → Bool
is_beyond None longs = false
is_beyond (Some v) longs = nat_lt v longs

abbrev pub fit_value : Setting → Option Tree → Option ℕ
fit_value s None = Some 496
fit_value s (Some e) = value s e

-- 22 at FIT where the cog address, in longs and rounded up, is greater
abbrev pub fit_fault : Setting → Option Tree → ℕ → Place → Option Fault
fit_fault s e cog place = where_so (is_beyond (fit_value s e) ((cog + 3) / 4)) (fault FitExceeded place)

abbrev pub FaultInContents : Setting → Setting → Contents → Spot → Place → Fault → Type 0
FaultInContents s t (Data size xs) p place f = FaultInItems s t size xs p f
FaultInContents s t (Instr x) p place f = FaultInInstruction (in_instruction t p) x f
FaultInContents s t (Org e) p place f = FaultInNumber s e f ⊎ (org_fault s e place ≡ Some f)
FaultInContents s t (Res e) p place f = FaultInNumber s e f
FaultInContents s t (Fit e) p place f = FaultInNumber s e f ⊎ (fit_fault s e p.cog place ≡ Some f)
FaultInContents s t Nothing p place f = ⊥

abbrev pub FaultInLine : Setting → Setting → Placed → Fault → Type 0
FaultInLine s t x f = FaultInContents s t x.line.contents x.at x.line.word_place f

abbrev pub FaultInLines : Setting → Setting → List Placed → Fault → Type 0
FaultInLines s t [] f = ⊥
FaultInLines s t (x ∷ xs) f = FaultInLine s t x f ⊎ FaultInLines s t xs f
