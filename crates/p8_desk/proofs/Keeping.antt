-- Each step keeps the rule.
use Rattle.std.proofs.Common.{◌≡◌, ◌≢◌, ⊎_elim, ◌∙◌, ap, sym, subst, refl, ℕ, zero, suc, ◌-◌, ◌==◌, ◌<◌, ◌≤◌, List, [], ◌∷◌, ◌++◌, length, Bool, true, Option, Some, None, arith}
use Rattle.std.specs.Prelude.{slice_set, slice_index}
use mathlib.Core.Option.{some, none, Option as Home}
use lib.ListN.{get_elem?}
use prog.Atomic.{either}
use Rattle.atomic_table.specs.Table.{Step as Move, step as move, Act, keeps, takes, gives, Allows, Valid, homes_after, carried_after}
use Rattle.atomic_table.proofs.Lists.{at_set}
use Rattle.p8_ledger.specs.declared.start.Start.{Start}
use Rattle.p8_ledger.specs.declared.steps.Step.{Step}
use Rattle.p8_ledger.specs.declared.ledger.Ledger.{Ledger}
use Rattle.p8_ledger.specs.Records.{Record, turns, mine, cog_of}
use Rattle.p8_ledger.specs.Ledgers.{Found}
use Rattle.p8_desk.specs.declared.rule.Known.{Known}
use Rattle.p8_desk.specs.declared.rule.View.{View}
use Rattle.p8_desk.specs.Rules.{Slot, Hand, world_in, known, change, HomeIs, AreOf, GoneOn, seen_as, all_seen, seeing, Seen, CanTell, CanFree, IsOfCogs, Agrees, PassFits, HoldFits, Fits, Kept, with_found, with_seen, seizing, losing, releasing, Seized, Released}
use Rattle.p8_desk.proofs.Lookups.{some-same, none-some, known-after, known-changed, known-cog, known-all-seen, known-seen, test-apart}

-- what a step owes, at the words, homes and views of a table
abbrev Goes : Start → ℕ → List (ℕ × Slot) → (ℕ → ℕ) → (ℕ → Hand → Type 0) → ℕ → List ℕ → List (Home Slot) → List View → Type 0
Goes start id c f tells i ws hs vs =
    (u : View) × (a : Act Slot) × Valid hs c a
    × Kept start (record { words = slice_set ws i (f (slice_index ws i)); homes = homes_after hs c a; views = slice_set vs id u })
    × tells (slice_index ws i) (u, carried_after c a)

-- what the rule says of each view
abbrev Each : Start → Record → (ℕ → ℕ) → ℕ → List View → Type 0
Each start r owner lock vs = (by : ℕ) (v : View) → get_elem? vs by ≡ some v → v.live ≡ true → Fits start r owner lock by v

-- one view has changed
each-set : (start : Start) (r : Record) (owner : ℕ → ℕ) (lock : ℕ) (vs : List View) (id : ℕ) (u : View)
    → ((by : ℕ) (v : View) → by ≢ id → get_elem? vs by ≡ some v → v.live ≡ true → Fits start r owner lock by v)
    → Fits start r owner lock id u
    → (by : ℕ) (v : View) → get_elem? (slice_set vs id u) by ≡ some v → v.live ≡ true → Fits start r owner lock by v
each-set start r owner lock vs id u others own by v e live =
    ⊎_elim
    (λ (x : (by ≡ id) × (u ≡ v)). subst (λ (y : ℕ × View). Fits start r owner lock y.0 y.1) (λ i. (sym x.0 i, x.1 i)) own)
    (λ (x : (by ≢ id) × (get_elem? vs by ≡ some v)). others by v x.0 x.1 live)
    (at_set vs id by u v e)

-- the lock word has changed, or the seat's hold
relock : (r : Record) (owner : ℕ → ℕ) (lock next by : ℕ) (holds now : Option ℕ) (n : ℕ) (p : Known)
    → (next ≡ suc n → now ≡ Some n) → PassFits r owner lock by holds n p → PassFits r owner next by now n p
relock r owner lock next by holds now n p locked fits = record { here = fits.here; cog = fits.cog; agrees = fits.agrees; locked = locked }

-- a pass that hasn't made the step
later-agrees : (step : Step) (r : Record) (m : ℕ) (p : Known) → cog_of step ≢ m → Agrees r m p → Agrees (step ∷ r) m p
later-agrees step r m p apart was = record {
  own = rw (test-apart (cog_of step) m apart) was.own;
  seen = (step ∷ was.seen.0, ap (λ (l : Record). step ∷ l) was.seen.1);
  newest = λ s. absurd (apart s);
}

-- a seat that holds nothing takes the free lock word, or finds it held
module _ (start : Start) (id : ℕ) (v : View) (n : ℕ) (live : v.live ≡ true) (free : v.holds ≡ None) (p : Known) (has : known v.passes n ≡ Some p) where
  wins-others : (r : Record) (owner : ℕ → ℕ) → owner n ≡ id → (by : ℕ) (x : View) → by ≢ id → Fits start r owner 0 by x → Fits start r owner (suc n) by x
  wins-others r owner here by x apart fits = record {
    same_start = fits.same_start;
    passes = λ m q e. (let was = fits.passes m q e in
        relock r owner 0 (suc n) by x.holds x.holds m q (λ (s : suc n ≡ suc m). absurd (apart (sym was.here ∙ ap owner (let t : m ≡ n = omega arith in t) ∙ here))) was);
    hold = λ m e. (let l : 0 ≡ suc m = (fits.hold m e).locked in absurd (omega arith));
  }

  wins-own : (r : Record) (owner : ℕ → ℕ) → Fits start r owner 0 id v → Fits start r owner (suc n) id (seizing v n r)
  wins-own r owner fits = record {
    same_start = fits.same_start;
    passes = λ m q e. ⊎_elim
        (λ (x : (m ≡ n) × (p : Known) × (known v.passes n ≡ Some p) × (with_seen r p ≡ q)).
        let was = fits.passes n x.1 x.2 in
        subst (λ (y : ℕ × Known). PassFits r owner (suc n) id (Some n) y.0 y.1) (λ i. (sym x.0 i, x.3 i))
        (record { here = was.here; cog = was.cog; agrees = record { own = was.agrees.own; seen = ([], refl); newest = λ _. refl }; locked = λ _. refl }))
        (λ (x : (m ≢ n) × (known v.passes m ≡ Some q)).
        relock r owner 0 (suc n) id v.holds (Some n) m q (λ (s : suc n ≡ suc m). absurd (x.0 (let t : m ≡ n = omega arith in t))) (fits.passes m q x.1))
        (known-after n (with_seen r) v.passes m q e);
    hold = λ m e. (let same : n ≡ m = some-same _ _ e in
        subst (λ (k : ℕ). HoldFits r owner (suc n) id (change n (with_seen r) v.passes) k) same
        (record { here = (fits.passes n p has).here; locked = refl; pass = with_seen r p; known = known-changed n (with_seen r) v.passes p has; seen = refl }));
  }

  loses-own : (r : Record) (owner : ℕ → ℕ) (lock m : ℕ) → Fits start r owner lock id v → Fits start r owner lock id (losing v n m)
  loses-own r owner lock m fits = record {
    same_start = fits.same_start;
    passes = λ k q e. ⊎_elim
        (λ (x : (k ≡ n) × (p : Known) × (known v.passes n ≡ Some p) × (with_found m p ≡ q)).
        let was = fits.passes n x.1 x.2 in
        subst (λ (y : ℕ × Known). PassFits r owner lock id v.holds y.0 y.1) (λ i. (sym x.0 i, x.3 i))
        (record { here = was.here; cog = was.cog; agrees = record { own = was.agrees.own; seen = was.agrees.seen; newest = was.agrees.newest }; locked = was.locked }))
        (λ (x : (k ≢ n) × (known v.passes k ≡ Some q)). fits.passes k q x.1)
        (known-after n (with_found m) v.passes k q e);
    hold = λ k e. absurd (none-some k (sym free ∙ e));
  }

  seizes-at : (second : ℕ) → second ≡ suc n → (lock : ℕ) (r : Record) (owner : ℕ → ℕ) → lock ≤ 8 → IsOfCogs r → (hs : List (Home Slot)) (vs : List View) (bells : List ℕ)
      → HomeIs start r lock hs → Each start r owner lock vs → get_elem? vs id ≡ some v
      → Goes start id [] (λ x. either (x == 0) second x) (Seized (move 1 0 0 second none) (v, [])) 0 (lock ∷ length (turns r) ∷ bells) hs vs
  seizes-at second is zero r owner most newest hs vs bells home each at =
      let own = each id v at live in
      let pass = own.passes n p has in
      let cog : n < 8 = pass.cog in
      let ledger = home.0 in
      let won : Goes start id [] (λ x. either (x == 0) second x) (Seized (move 1 0 0 second none) (v, [])) 0 (0 ∷ length (turns r) ∷ bells) (some (Some ledger) ∷ []) vs = (
        seizing v n r,
        takes 0 (Some ledger),
        refl,
        record {
          r = r;
          owner = owner;
          lock = suc n;
          most = omega arith;
          newest = newest;
          bells = bells;
          words = ap (λ (k : ℕ). k ∷ length (turns r) ∷ bells) is;
          home = refl;
          each = each-set start r owner (suc n) vs id (seizing v n r) (λ by x apart e l. wins-others r owner pass.here by x apart (each by x e l)) (wins-own r owner own);
        },
        (r, ledger, n, is, refl, subst (λ (x : Start). Found (world_in x) ledger r) (sym own.same_start) home.2, newest, λ m q e. (own.passes m q e).agrees),
      ) in
      subst (λ (h : List (Home Slot)). Goes start id [] (λ x. either (x == 0) second x) (Seized (move 1 0 0 second none) (v, [])) 0 (0 ∷ length (turns r) ∷ bells) h vs) (sym home.1) won
  seizes-at second is (suc m) r owner most newest hs vs bells home each at =
      let own = each id v at live in
      let pass = own.passes n p has in
      let apart : m ≢ n = λ (s : m ≡ n). none-some n (sym free ∙ pass.locked (ap suc s)) in (
        losing v n m,
        keeps,
        tt,
        record {
          r = r;
          owner = owner;
          lock = suc m;
          most = most;
          newest = newest;
          bells = bells;
          words = ap (λ (b : Bool). either b second (suc m) ∷ length (turns r) ∷ bells) (test-apart (suc m) 0 (λ e. omega arith));
          home = home;
          each = each-set start r owner (suc m) vs id (losing v n m) (λ by x _ e l. each by x e l) (loses-own r owner (suc m) m own);
        },
        (n, is, apart, omega arith, refl, λ q e. none-some m (sym free ∙ (own.passes m q e).locked refl)),
      )

  pub seizes : (second : ℕ) → second ≡ suc n → Allows (Kept start) 1 id (v, []) 0 (λ x. either (x == 0) second x) (Seized (move 1 0 0 second none) (v, []))
  seizes second is s h long at below =
      subst (λ (ws : List ℕ). Goes start id [] (λ x. either (x == 0) second x) (Seized (move 1 0 0 second none) (v, [])) 0 ws s.homes s.views) (sym h.words)
      (seizes-at second is h.lock h.r h.owner h.most h.newest s.homes s.views h.bells h.home h.each at)

pub seizes-as : (start : Start) (slots id : ℕ) (me : Hand) (n second : ℕ) → slots ≡ 1 → me.0.live ≡ true → me.0.holds ≡ None → me.1 ≡ [] → (p : Known) × (known me.0.passes n ≡ Some p) → second ≡ suc n
    → Allows (Kept start) slots id me 0 (λ x. either (x == 0) second x) (Seized (move slots 0 0 second none) me)
seizes-as start slots id me n second one live free empty pass is =
    subst (λ (y : ℕ × List (ℕ × Slot)). Allows (Kept start) y.0 id (me.0, y.1) 0 (λ x. either (x == 0) second x) (Seized (move y.0 0 0 second none) (me.0, y.1))) (λ i. (sym one i, sym empty i))
    (seizes start id me.0 n live free pass.0 pass.1 second is)

-- a seat that holds for a cog
module _ (start : Start) (id : ℕ) (v : View) (n : ℕ) (live : v.live ≡ true) (holds : v.holds ≡ Some n) (p : Known) (has : known v.passes n ≡ Some p) where
  -- it has seen the whole record, and the lock word is its cog's
  knows : (r : Record) (owner : ℕ → ℕ) (lock : ℕ) → Fits start r owner lock id v → (p.seen ≡ r) × (lock ≡ suc n) × (owner n ≡ id)
  knows r owner lock fits =
      let hold = fits.hold n holds in
      (ap (λ (q : Known). q.seen) (some-same _ _ (sym has ∙ hold.known)) ∙ hold.seen, hold.locked, hold.here)

  -- no other seat holds
  no-other : (r : Record) (owner : ℕ → ℕ) (lock by : ℕ) (x : View) → by ≢ id → lock ≡ suc n → owner n ≡ id → Fits start r owner lock by x → (m : ℕ) → x.holds ≡ Some m → ⊥
  no-other r owner lock by x apart locked here fits m e =
      let other = fits.hold m e in
      let k : lock ≡ suc m = other.locked in
      apart (sym other.here ∙ ap owner (let t : m ≡ n = omega arith in t) ∙ here)

  -- it frees the lock word
  frees-others : (r : Record) (owner : ℕ → ℕ) (lock by : ℕ) (x : View) → by ≢ id → lock ≡ suc n → owner n ≡ id → Fits start r owner lock by x → Fits start r owner 0 by x
  frees-others r owner lock by x apart locked here fits = record {
    same_start = fits.same_start;
    passes = λ m q e. relock r owner lock 0 by x.holds x.holds m q (λ (s : 0 ≡ suc m). absurd (omega arith)) (fits.passes m q e);
    hold = λ m e. absurd (no-other r owner lock by x apart locked here fits m e);
  }

  frees-own : (r : Record) (owner : ℕ → ℕ) (lock : ℕ) → Fits start r owner lock id v → Fits start r owner 0 id (releasing v)
  frees-own r owner lock fits = record {
    same_start = fits.same_start;
    passes = λ m q e. relock r owner lock 0 id v.holds None m q (λ (s : 0 ≡ suc m). absurd (omega arith)) (fits.passes m q e);
    hold = λ m e. absurd (none-some m e);
  }

  frees-at : (ledger : Ledger) → Found (world_in v.start) ledger p.seen → (lock : ℕ) (r : Record) (owner : ℕ → ℕ) → IsOfCogs r → (hs : List (Home Slot)) (vs : List View) (bells : List ℕ)
      → HomeIs start r lock hs → Each start r owner lock vs → get_elem? vs id ≡ some v
      → Goes start id ((0, Some ledger) ∷ []) (λ _. 0) (λ _. Released (move 1 0 0 0 none) (v, (0, Some ledger) ∷ []) 0) 0 (lock ∷ length (turns r) ∷ bells) hs vs
  frees-at ledger stands lock r owner newest hs vs bells home each at =
      let own = each id v at live in
      let k = knows r owner lock own in
      let out : hs ≡ none ∷ [] = subst (λ (l : ℕ). HomeIs start r l hs) k.1 home in
      let value : Found (world_in start) ledger r = subst (λ (y : Start × Record). Found (world_in y.0) ledger y.1) (λ i. (own.same_start i, k.0 i)) stands in (
        releasing v,
        gives,
        tt,
        record {
          r = r;
          owner = owner;
          lock = 0;
          most = omega arith;
          newest = newest;
          bells = bells;
          words = refl;
          home = (ledger, ap (λ (h : List (Home Slot)). slice_set h 0 (some (Some ledger))) out, value);
          each = each-set start r owner 0 vs id (releasing v) (λ by x apart e l. frees-others r owner lock by x apart k.1 k.2 (each by x e l)) (frees-own r owner lock own);
        },
        refl,
      )

  pub frees : (ledger : Ledger) → Found (world_in v.start) ledger p.seen → Allows (Kept start) 1 id (v, (0, Some ledger) ∷ []) 0 (λ _. 0) (λ _. Released (move 1 0 0 0 none) (v, (0, Some ledger) ∷ []) 0)
  frees ledger stands s h long at below =
      subst (λ (ws : List ℕ). Goes start id ((0, Some ledger) ∷ []) (λ _. 0) (λ _. Released (move 1 0 0 0 none) (v, (0, Some ledger) ∷ []) 0) 0 ws s.homes s.views) (sym h.words)
      (frees-at ledger stands h.lock h.r h.owner h.newest s.homes s.views h.bells h.home h.each at)

  -- a step of one of its cogs, for another seat
  beside : (step : Step) (r : Record) (owner : ℕ → ℕ) (lock by : ℕ) (x : View) → owner (cog_of step) ≡ id → by ≢ id → lock ≡ suc n → owner n ≡ id → Fits start r owner lock by x → Fits start (step ∷ r) owner lock by x
  beside step r owner lock by x own apart locked here fits = record {
    same_start = fits.same_start;
    passes = λ m q e. (let was = fits.passes m q e in
        let other : cog_of step ≢ m = λ s. apart (sym was.here ∙ ap owner (sym s) ∙ own) in
        record { here = was.here; cog = was.cog; agrees = later-agrees step r m q other was.agrees; locked = was.locked });
    hold = λ m e. absurd (no-other r owner lock by x apart locked here fits m e);
  }

  -- its passes see a record that has gone on by steps of its cog
  beside-all : (old : Record) (owner : ℕ → ℕ) (lock by : ℕ) (x : View) → by ≢ id → lock ≡ suc n → owner n ≡ id → (more : Record) → AreOf n more → Fits start old owner lock by x → Fits start (more ++ old) owner lock by x
  beside-all old owner lock by x apart locked here [] own fits = fits
  beside-all old owner lock by x apart locked here (step ∷ more) own fits =
      beside step (more ++ old) owner lock by x (ap owner own.0 ∙ here) apart locked here (beside-all old owner lock by x apart locked here more own.1 fits)

  newest-of : (old : Record) → IsOfCogs old → n < 8 → (more : Record) → AreOf n more → IsOfCogs (more ++ old)
  newest-of old newest near [] own = newest
  newest-of old newest near (step ∷ more) own = subst (λ (m : ℕ). m < 8) (sym own.0) near

  sees-own : (r old : Record) (owner : ℕ → ℕ) (lock : ℕ) → Fits start old owner lock id v → Fits start r owner lock id (seeing v r)
  sees-own r old owner lock fits = record {
    same_start = fits.same_start;
    passes = λ m q e. (let x = known-seen r v.passes m q e in
        let was = fits.passes m x.0 x.1 in
        subst (λ (y : Known). PassFits r owner lock id v.holds m y) x.2
        (record { here = was.here; cog = was.cog; agrees = record { own = ap (λ (k : ℕ). mine k r) (known-cog v.passes m x.0 x.1); seen = ([], refl); newest = λ _. refl }; locked = was.locked }));
    hold = λ m e. (let same : n ≡ m = some-same _ _ (sym holds ∙ e) in
        let k = knows old owner lock fits in
        subst (λ (k : ℕ). HoldFits r owner lock id (all_seen r v.passes) k) same
        (record { here = k.2; locked = k.1; pass = seen_as r p; known = known-all-seen r v.passes n p has; seen = refl }));
  }

  sees-at : (r : Record) → GoneOn n p.seen r → (slot : List (ℕ × Slot)) (m : Move Slot) (count : ℕ) → count ≡ length (turns r) → (lock : ℕ) (old : Record) (owner : ℕ → ℕ) → lock ≤ 8 → IsOfCogs old → (hs : List (Home Slot)) (vs : List View) (bells : List ℕ)
      → HomeIs start old lock hs → Each start old owner lock vs → get_elem? vs id ≡ some v
      → Goes start id slot (λ _. count) (λ _. Seen r m (v, slot) 0) 1 (lock ∷ length (turns old) ∷ bells) hs vs
  sees-at r on slot m count many lock old owner most newest hs vs bells home each at =
      let own = each id v at live in
      let k = knows old owner lock own in
      let whole : on.0 ++ old ≡ r = ap (λ (l : Record). on.0 ++ l) (sym k.0) ∙ on.1 in
      let out : hs ≡ none ∷ [] = subst (λ (l : ℕ). HomeIs start old l hs) k.1 home in (
        seeing v r,
        keeps,
        tt,
        record {
          r = r;
          owner = owner;
          lock = lock;
          most = most;
          newest = subst IsOfCogs whole (newest-of old newest (own.passes n p has).cog on.0 on.2);
          bells = bells;
          words = ap (λ (l : ℕ). lock ∷ l ∷ bells) many;
          home = subst (λ (l : ℕ). HomeIs start r l hs) (sym k.1) out;
          each = each-set start r owner lock vs id (seeing v r)
              (λ by x apart e l. subst (λ (s : Record). Fits start s owner lock by x) whole (beside-all old owner lock by x apart k.1 k.2 on.0 on.2 (each by x e l)))
              (sees-own r old owner lock own);
        },
        refl,
      )

  pub sees : (r : Record) → GoneOn n p.seen r → (slot : List (ℕ × Slot)) (m : Move Slot) (count : ℕ) → count ≡ length (turns r) → (slots : ℕ) → Allows (Kept start) slots id (v, slot) 1 (λ _. count) (λ _. Seen r m (v, slot) 0)
  sees r on slot m count many slots s h long at below =
      subst (λ (ws : List ℕ). Goes start id slot (λ _. count) (λ _. Seen r m (v, slot) 0) 1 ws s.homes s.views) (sym h.words)
      (sees-at r on slot m count many h.lock h.r h.owner h.most h.newest s.homes s.views h.bells h.home h.each at)

pub sees-as : (start : Start) (slots id n count : ℕ) (r : Record) (me : Hand) (m : Move Slot) → CanTell n r count me → Allows (Kept start) slots id me 1 (λ _. count) (λ _. Seen r m me 0)
sees-as start slots id n count r me m h = sees start id me.0 n h.0.live h.0.holds h.0.pass h.0.has r h.1 me.1 m count h.2 slots

pub frees-as : (start : Start) (slots id : ℕ) (me : Hand) → slots ≡ 1 → CanFree me → Allows (Kept start) slots id me 0 (λ _. 0) (λ _. Released (move slots 0 0 0 none) me 0)
frees-as start slots id me one h =
    let held = h.2 in
    subst (λ (y : ℕ × List (ℕ × Slot)). Allows (Kept start) y.0 id (me.0, y.1) 0 (λ _. 0) (λ _. Released (move y.0 0 0 0 none) (me.0, y.1) 0)) (λ i. (sym one i, sym held.slot i))
    (frees start id me.0 h.0 held.live held.holds held.pass held.has held.ledger (subst (λ (r : Record). Found (world_in me.0.start) held.ledger r) (sym h.3) held.stands))

-- a bell changes, and nothing else
rings-at : (start : Start) (slots id word k : ℕ) (me : Hand) → word ≡ suc (suc k) → (f : ℕ → ℕ) → Allows (Kept start) slots id me word f (λ n after. after ≡ me)
rings-at start slots id word k me is f s h long at below = (
  me.0,
  keeps,
  tt,
  record {
    r = h.r;
    owner = h.owner;
    lock = h.lock;
    most = h.most;
    newest = h.newest;
    bells = slice_set h.bells k (f (slice_index s.words word));
    words = λ i. slice_set (h.words i) (is i) (f (slice_index s.words word));
    home = h.home;
    each = λ by v e live. ⊎_elim
        (λ (x : (by ≡ id) × (me.0 ≡ v)). h.each by v (ap (λ (n : ℕ). get_elem? s.views n) x.0 ∙ at ∙ ap some x.1) live)
        (λ (x : (by ≢ id) × (get_elem? s.views by ≡ some v)). h.each by v x.1 live)
        (at_set s.views id by me.0 v e);
  },
  refl,
)

pub rings : (start : Start) (slots id word : ℕ) (me : Hand) → 1 < word → (f : ℕ → ℕ) → Allows (Kept start) slots id me word f (λ n after. after ≡ me)
rings start slots id word me lt f = rings-at start slots id word (word - 2) me (omega arith) f
