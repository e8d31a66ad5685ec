-- internal
-- The rule of the table, and what each step tells the seat that takes it.
--
-- The table has the lock word (0 where it is free, n + 1 where the pass of cog n holds it), the count of turns, the bells
-- by which threads wake one another, of which the rule says nothing, and one slot with the desk's value. There is one record,
-- which no word keeps: the rule says of every seat how far its passes have seen it.
use Rattle.std.specs.Prelude.{ℕ, zero, suc, ◌==◌, ◌≡◌, ◌<◌, ◌≤◌, if◌then◌else◌, true, false, List, [], ◌∷◌, ◌++◌, Option, Some, None, length}
use mathlib.Core.Option.{some, none, Option as Home}
use lib.ListN.{get_elem?}
use Rattle.atomic_table.specs.Table.{State, Me, Step as Move}
use Rattle.p8_access.specs.declared.kinds.Origin.TheVariants.{Pasm}
use Rattle.p8_access.specs.Worlds.{World}
use Rattle.p8_ledger.specs.Worlds.{world_of}
use Rattle.p8_ledger.specs.declared.start.Start.{Start}
use Rattle.p8_ledger.specs.declared.ledger.Ledger.{Ledger}
use Rattle.p8_ledger.specs.Records.{Record, turns, mine, Begins, cog_of}
use Rattle.p8_ledger.specs.Ledgers.{Found}
use Rattle.p8_desk.specs.declared.rule.Known.{Known}
use Rattle.p8_desk.specs.declared.rule.View.{View}

abbrev pub Slot : Type 0
Slot = Option Ledger

abbrev pub TableState : Type 0
TableState = State Slot View

-- a seat's view, and what it has taken out of the slot
abbrev pub Hand : Type 0
Hand = Me Slot View

-- the world in which a run begins
abbrev pub world_in : Start → World
world_in start = world_of start.boot start.script start.limits

-- what is known of a cog's pass
abbrev pub known : List Known → ℕ → Option Known
known [] n = None
known (p ∷ ps) n = if p.cog == n then Some p else known ps n

-- a change to what is known of a cog's pass
abbrev pub of_same_cog : Known → Known → Known
of_same_cog p q = record { cog = p.cog; own = q.own; seen = q.seen; won = q.won; found = q.found }

abbrev pub change : ℕ → (Known → Known) → List Known → List Known
change n f [] = []
change n f (p ∷ ps) = (if p.cog == n then of_same_cog p (f p) else p) ∷ change n f ps

-- the slot is at home exactly where the lock word is 0, and its value stands for the record then
abbrev pub HomeIs : Start → Record → ℕ → List (Home Slot) → Type 0
HomeIs start r zero homes = (ledger : Ledger) × (homes ≡ some (Some ledger) ∷ []) × Found (world_in start) ledger r
HomeIs start r (suc n) homes = homes ≡ none ∷ []

-- the newest step is this cog's, if there is one
abbrev pub IsNewestOf : ℕ → Record → Type 0
IsNewestOf n [] = Unit {0}
IsNewestOf n (step ∷ r) = cog_of step ≡ n

-- the newest step is of one of the eight cogs
abbrev pub IsOfCogs : Record → Type 0
IsOfCogs [] = Unit {0}
IsOfCogs (step ∷ r) = cog_of step < 8

-- a pass has its own steps of the record and has seen a beginning of it; all of it, where its own step is the
-- newest
pub record Agrees (r : Record) (n : ℕ) (p : Known) : Type 0 where
  pub own : p.own ≡ mine n r
  pub seen : Begins p.seen r
  pub newest : IsNewestOf n r → p.seen ≡ r

-- what the rule says of one pass of the seat `by`: no other seat has it, and where the lock word is its cog's,
-- its seat holds for it
pub record PassFits (r : Record) (owner : ℕ → ℕ) (lock by : ℕ) (holds : Option ℕ) (n : ℕ) (p : Known) : Type 0 where
  pub here : owner n ≡ by
  pub cog : n < 8
  pub agrees : Agrees r n p
  pub locked : lock ≡ suc n → holds ≡ Some n

-- what the rule says of a seat that holds for a cog: it has seen the whole record
pub record HoldFits (r : Record) (owner : ℕ → ℕ) (lock by : ℕ) (passes : List Known) (n : ℕ) : Type 0 where
  pub here : owner n ≡ by
  pub locked : lock ≡ suc n
  pub pass : Known
  pub known : known passes n ≡ Some pass
  pub seen : pass.seen ≡ r

pub record Fits (start : Start) (r : Record) (owner : ℕ → ℕ) (lock by : ℕ) (v : View) : Type 0 where
  pub same_start : v.start ≡ start
  pub passes : (n : ℕ) (p : Known) → known v.passes n ≡ Some p → PassFits r owner lock by v.holds n p
  pub hold : (n : ℕ) → v.holds ≡ Some n → HoldFits r owner lock by v.passes n

-- the rule: there is a record, and a seat for each cog, with which all is as said
pub record Kept (start : Start) (s : TableState) : Type 0 where
  pub r : Record
  pub owner : ℕ → ℕ
  pub lock : ℕ
  pub most : lock ≤ 8
  pub newest : IsOfCogs r
  pub bells : List ℕ
  pub words : s.words ≡ lock ∷ length (turns r) ∷ bells
  pub home : HomeIs start r lock s.homes
  pub each : (by : ℕ) (v : View) → get_elem? s.views by ≡ some v → v.live ≡ true → Fits start r owner lock by v

-- the first view has the passes of all cogs
abbrev pub new_pass : ℕ → Known
new_pass n = record { cog = n; own = []; seen = []; won = 0; found = [] }

-- so many new passes, from a cog on
abbrev pub new_passes : ℕ → ℕ → List Known
new_passes zero n = []
new_passes (suc k) n = new_pass n ∷ new_passes k (suc n)

abbrev pub first_view : Start → View
first_view start = record { live = true; start = start; passes = new_passes 8 0; holds = None }

-- an exchange that wins: the seat sees the whole record, has the slot, and knows of one win more; one that loses finds the cog whose
-- pass holds
abbrev pub with_seen : Record → Known → Known
with_seen r p = record p { seen = r; won = suc p.won }

abbrev pub with_found : ℕ → Known → Known
with_found m p = record p { found = m ∷ p.found }

abbrev pub seizing : View → ℕ → Record → View
seizing v n r = record { live = v.live; start = v.start; passes = change n (with_seen r) v.passes; holds = Some n }

abbrev pub losing : View → ℕ → ℕ → View
losing v n m = record { live = v.live; start = v.start; passes = change n (with_found m) v.passes; holds = v.holds }

abbrev pub Seized : Move Slot → Hand → ℕ → Hand → Type 0
Seized s v zero after =
    (r : Record) × (ledger : Ledger) × (n : ℕ) × (s.second ≡ suc n)
    × (after ≡ (seizing v.0 n r, (0, Some ledger) ∷ v.1))
    × Found (world_in v.0.start) ledger r × IsOfCogs r
    × ((m : ℕ) (p : Known) → known v.0.passes m ≡ Some p → Agrees r m p)
Seized s v (suc m) after =
    (n : ℕ) × (s.second ≡ suc n) × (m ≡ n → ⊥) × (m < 8) × (after ≡ (losing v.0 n m, v.1))
    × ((p : Known) → known v.0.passes m ≡ Some p → ⊥)

-- the lock word is freed, and the slot given back
abbrev pub releasing : View → View
releasing v = record { live = v.live; start = v.start; passes = v.passes; holds = None }

abbrev pub Released : Move Slot → Hand → ℕ → Hand → Type 0
Released s v found after = after ≡ (releasing v.0, [])

-- a record has gone on by steps of a cog
abbrev pub AreOf : ℕ → Record → Type 0
AreOf n [] = Unit {0}
AreOf n (step ∷ more) = (cog_of step ≡ n) × AreOf n more

abbrev pub GoneOn : ℕ → Record → Record → Type 0
GoneOn n r s = (more : Record) × (more ++ r ≡ s) × AreOf n more

-- all passes of a seat have seen a record
abbrev pub seen_as : Record → Known → Known
seen_as r p = record p { own = mine p.cog r; seen = r }

abbrev pub all_seen : Record → List Known → List Known
all_seen r [] = []
all_seen r (p ∷ ps) = seen_as r p ∷ all_seen r ps

abbrev pub seeing : View → Record → View
seeing v r = record { live = v.live; start = v.start; passes = all_seen r v.passes; holds = v.holds }

abbrev pub Seen : Record → Move Slot → Hand → ℕ → Hand → Type 0
Seen r s v found after = after ≡ (seeing v.0 r, v.1)

-- a seat that holds for the cog of one of its passes, with a ledger that stands for this record
pub record HoldsAt (n : ℕ) (r : Record) (me : Hand) : Type 0 where
  pub live : me.0.live ≡ true
  pub holds : me.0.holds ≡ Some n
  pub pass : Known
  pub has : known me.0.passes n ≡ Some pass
  pub ledger : Ledger
  pub slot : me.1 ≡ (0, Some ledger) ∷ []
  pub stands : Found (world_in me.0.start) ledger r

-- its passes may see that where it has gone on from what the cog's pass has seen by steps of the cog, and has so many turns; the lock
-- word may be freed where the cog's pass has seen it
abbrev pub CanTell : ℕ → Record → ℕ → Hand → Type 0
CanTell n r count me = (held : HoldsAt n r me) × GoneOn n held.pass.seen r × (count ≡ length (turns r))

abbrev pub CanFree : Hand → Type 0
CanFree me = (n : ℕ) × (r : Record) × (held : HoldsAt n r me) × (held.pass.seen ≡ r)

-- a bell has changed: nothing that a seat knows does
abbrev pub Rung : Move Slot → Hand → ℕ → Hand → Type 0
Rung s v found after = after ≡ v

-- a seat gives the pass of a cog to a new seat
abbrev pub with_passes : View → List Known → View
with_passes v ps = record { live = v.live; start = v.start; passes = ps; holds = None }

abbrev pub without : ℕ → List Known → List Known
without n [] = []
without n (p ∷ ps) = if p.cog == n then without n ps else p ∷ without n ps

abbrev pub list_of : Option Known → List Known
list_of None = []
list_of (Some p) = p ∷ []

abbrev pub without_pass : ℕ → View → View
without_pass n v = with_passes v (without n v.passes)

abbrev pub pass_alone : ℕ → View → View
pass_alone n v = with_passes v (list_of (known v.passes n))

-- a seat takes in the passes of another, whose own seat is spent
abbrev pub joined : View → View → View
joined v u = with_passes v (v.passes ++ u.passes)

abbrev pub no_start : Start
no_start = record { boot = record { ram = []; first = Pasm 0 0 }; script = []; limits = record { clocks = 0; turns = 0 } }

abbrev pub spent_view : View
spent_view = record { live = false; start = no_start; passes = []; holds = None }
