-- Receiving frames along the changes of a run's pins.
use Rattle.std.proofs.Common.{◌≡◌, ◌∙◌, ap, sym, refl, subst, ℕ, zero, suc, ◌+◌, ◌*◌, ◌/◌, ◌^◌, ◌%◌, ◌<◌, ◌≤◌, ◌&&◌, inl, inr, Bool, true, false, not, if◌then◌else◌, List, [], ◌∷◌, ◌++◌, codes, length, length-append, arith}
use Rattle.std.specs.Fmt.{decimal}
use Rattle.std.proofs.lemmas.Nat.{pow-add, pow_below}
use Rattle.std.proofs.lemmas.Bool.{cases_lt}
use Rattle.p8_access.specs.Worlds.{Line, levels_after}
use Rattle.p8_instr.specs.Numerals.{hex}
use Rattle.p8_pins.specs.Levels.{is_high}
use Rattle.p8_pins.specs.LevelChanges.{RiseFrom, Within, IsLater, Ahead, pins_after, HasPassed}
use Rattle.p8_pins.proofs.Passing.{passes, passed-both, passed-agrees, passed-rise, rise-later, rise-from}
use Rattle.p8_serial.specs.Serial.{stop_of, frames, number_at, byte_at, is_good}
use Rattle.p8_serial.specs.Receiving.{falls, falls_in, level_in, IsBehind, IsPast, IsReceiving, IsNext}
use Rattle.p8_serial.proofs.Edges.{skips-if, begins, begins-none}

module _ (pin : ℕ) where
  -- one change
  falls-if : (b before now : Bool) (line : Line) (lines : List Line) → now ≡ is_high pin line.levels → (before && not now) ≡ b → falls pin before (line ∷ lines) ≡ (if b then line.clock ∷ falls pin now lines else falls pin now lines)
  falls-if b before now line lines is test =
      ap (λ (h : Bool). if before && not h then line.clock ∷ falls pin h lines else falls pin h lines) (sym is)
      ∙ ap (λ (t : Bool). if t then line.clock ∷ falls pin now lines else falls pin now lines) test

  pub stays-up : (before now : Bool) (line : Line) (cur new : Ahead) → cur.changes ≡ line ∷ new.changes → new.pins ≡ line.levels → now ≡ is_high pin new.pins → (before && not now) ≡ false → falls pin before cur.changes ≡ falls pin now new.changes
  stays-up before now line cur new parts pins is test =
      ap (falls pin before) parts ∙ falls-if false before now line new.changes (is ∙ ap (is_high pin) pins) test

  pub goes-down : (before now : Bool) (line : Line) (cur new : Ahead) → cur.changes ≡ line ∷ new.changes → new.pins ≡ line.levels → now ≡ is_high pin new.pins → (before && not now) ≡ true → falls pin before cur.changes ≡ line.clock ∷ falls_in pin new
  goes-down before now line cur new parts pins is test =
      ap (falls pin before) parts ∙ falls-if true before now line new.changes (is ∙ ap (is_high pin) pins) test
      ∙ ap (λ (h : Bool). line.clock ∷ falls pin h new.changes) is

  pub ends-up : (high : Bool) (cur : Ahead) → cur.changes ≡ [] → falls pin high cur.changes ≡ []
  ends-up high cur none = ap (falls pin high) none

pub past : (from : ℕ) (old cur new : Ahead) (line : Line) → cur.changes ≡ line ∷ new.changes → new.pins ≡ line.levels → IsBehind from old cur → IsPast from line.clock old new
past from old cur new line parts pins b =
    let rise : RiseFrom b.clock (line ∷ new.changes) = subst (RiseFrom b.clock) parts b.rise in
    record {
      not_before = omega (arith, b.not_before, rise.0);
      rise = rise.1;
      agrees = λ t le.
          ap (λ (p : ℕ). levels_after p new.changes t) pins ∙ sym (passes cur.pins t line new.changes le)
          ∙ ap (λ (lines : List Line). levels_after cur.pins lines t) (sym parts) ∙ b.agrees t (omega (arith, le, rise.0));
    }

pub behind : (from edge : ℕ) (old new : Ahead) → IsPast from edge old new → IsBehind from old new
behind from edge old new p = record { clock = edge + 1; not_before = omega (arith, p.not_before); rise = p.rise; agrees = λ t le. p.agrees t (omega (arith, le)) }

pub behind-first : (from : ℕ) (old : Ahead) → RiseFrom from old.changes → IsBehind from old old
behind-first from old rise = record { clock = from; not_before = omega arith; rise = rise; agrees = λ t le. refl }

pub fewer : (line : Line) (most : ℕ) (cur new : Ahead) → cur.changes ≡ line ∷ new.changes → length cur.changes ≤ most → length new.changes < most
fewer line most cur new parts le = omega (arith, ap length parts, le)

pub passed-fewer : (clock : ℕ) (old new : Ahead) → HasPassed clock old new → length new.changes ≤ length old.changes
passed-fewer clock old new h = omega (arith, ap length h.parts ∙ length-append h.passed new.changes)

-- the bits of a frame look at nothing before it
number-same : (one two : ℕ → Bool) (bits start n : ℕ) → ((t : ℕ) → start ≤ t → one t ≡ two t) → number_at one bits start n ≡ number_at two bits start n
number-same one two bits start zero same = refl
number-same one two bits start (suc i) same =
    ap (λ (x : ℕ). x + (if one (start + (i + 1) * bits + bits / 2) then 2 ^ i else 0)) (number-same one two bits start i same)
    ∙ ap (λ (b : Bool). number_at two bits start i + (if b then 2 ^ i else 0)) (same (start + (i + 1) * bits + bits / 2) (omega arith))

module _ (pin bits end : ℕ) where
  -- changes up to a clock begin no frame after it
  skips-lines : (after pins : ℕ) (passed lines : List Line) → Within after passed → frames bits end after (falls pin (is_high pin pins) (passed ++ lines)) ≡ frames bits end after (falls pin (is_high pin (pins_after pins passed)) lines)
  skips-lines after pins [] lines within = refl
  skips-lines after pins (line ∷ passed) lines within =
      skips-if bits end (is_high pin pins && not (is_high pin line.levels)) after line.clock (falls pin (is_high pin line.levels) (passed ++ lines)) within.0
      ∙ skips-lines after line.levels passed lines within.1

  skips-passed : (after : ℕ) (old new : Ahead) → HasPassed after old new → frames bits end after (falls_in pin old) ≡ frames bits end after (falls_in pin new)
  skips-passed after old new h =
      ap (λ (lines : List Line). frames bits end after (falls pin (is_high pin old.pins) lines)) h.parts
      ∙ skips-lines after old.pins h.passed new.changes h.within
      ∙ ap (λ (p : ℕ). frames bits end after (falls pin (is_high pin p) new.changes)) (sym h.pins)

  module _ (whole : ℕ → Bool) (after : ℕ) (old : Ahead) (at : IsReceiving whole pin after old) where
    -- no edge is left
    pub no-edge : falls_in pin old ≡ [] → frames bits end after (falls_in pin old) ≡ []
    no-edge none = ap (frames bits end after) none

    module _ (mid : Ahead) (start : ℕ) (edge : falls_in pin old ≡ start ∷ falls_in pin mid) (p : IsPast (after + 1) start old mid) where
      -- the next frame doesn't count
      pub no-frame : end ≤ stop_of bits start → frames bits end after (falls_in pin old) ≡ []
      no-frame not = ap (frames bits end after) edge ∙ begins-none bits end after start (falls_in pin mid) (omega (arith, p.not_before)) not

      mid-whole : (t : ℕ) → start ≤ t → level_in pin mid t ≡ whole t
      mid-whole t le = ap (is_high pin) (p.agrees t le) ∙ at.levels t (omega (arith, le, p.not_before))

      -- it does
      pub a-frame : (low new : Ahead) (byte : ℕ) (good : Bool) → stop_of bits start < end → byte ≡ byte_at (level_in pin mid) bits start → HasPassed (start + 8 * bits + bits / 2) mid low
          → (clock : ℕ) → clock ≡ stop_of bits start → good ≡ level_in pin low clock → HasPassed clock low new → IsLater clock new.changes
          → IsNext whole pin bits end after old (record { start = start; byte = byte; good = good }) new
      a-frame low new byte good counts byte_is to-low clock at-stop good_is to_new later_ =
          let stop = stop_of bits start in
          let to-new : HasPassed stop low new = subst (λ (t : ℕ). HasPassed t low new) at-stop to_new in
          let later : IsLater stop new.changes = subst (λ (t : ℕ). IsLater t new.changes) at-stop later_ in
          let all : HasPassed stop mid new = passed-both (start + 8 * bits + bits / 2) stop mid low new (omega arith) to-low to-new in
          let is-good : good ≡ is_good whole bits start = good_is ∙ ap (level_in pin low) at-stop ∙ ap (is_high pin) (passed-agrees (start + 8 * bits + bits / 2) stop mid low to-low (omega arith)) ∙ mid-whole stop (omega arith) in
          let is-byte : byte ≡ byte_at whole bits start = byte_is ∙ number-same (level_in pin mid) whole bits start 8 mid-whole in
          record {
            next = ap (frames bits end after) edge ∙ begins bits end after start (falls_in pin mid) (omega (arith, p.not_before)) counts ∙ ap (λ (s : List ℕ). start ∷ s) (skips-passed stop mid new all);
            text = ap (λ (b : ℕ). decimal start ++ codes " " ++ (if good then hex 2 b else codes "framing") ++ 10 ∷ []) is-byte
                ∙ ap (λ (g : Bool). decimal start ++ codes " " ++ (if g then hex 2 (byte_at whole bits start) else codes "framing") ++ 10 ∷ []) is-good;
            good = is-good;
            goes_on = record {
              levels = λ t le. ap (is_high pin) (passed-agrees stop t mid new all le) ∙ mid-whole t (omega (arith, le));
              rise = rise-later stop new.changes later (passed-rise stop mid new all (rise-from 0 (start + 1) mid.changes (omega arith) p.rise));
            };
          }

pow-more : (i : ℕ) → 2 ^ suc i ≡ 2 ^ i * 2
pow-more i = ap (λ (k : ℕ). 2 ^ k) (omega arith) ∙ pow-add 2 i 1

is-seven : (i : ℕ) → i < 8 → 7 ≤ i → 7 ≡ i
is-seven i below at = omega (arith, at, below)

powers : (i : ℕ) → i < 8 → 2 ^ i ≤ 128
powers i below = elim (cases_lt i 7) [
  | inl less ↦ omega (arith, pow_below i 7 less)
  | inr seven ↦ subst (λ (k : ℕ). 2 ^ k ≤ 128) (is-seven i below seven) (omega arith)
]

suc-is : (i : ℕ) → suc i ≡ i + 1
suc-is i = omega arith

if-at_most : (b : Bool) (x : ℕ) → (if b then x else 0) ≤ x
if-at_most true x = omega arith
if-at_most false x = omega arith

-- the numbers in a frame's first bits
pub number-below : (f : ℕ → Bool) (bits start n : ℕ) → number_at f bits start n < 2 ^ n
number-below f bits start zero = omega arith
number-below f bits start (suc i) =
    omega (arith, number-below f bits start i, if-at_most (f (start + (i + 1) * bits + bits / 2)) (2 ^ i), pow-more i)

-- one more bit
module _ (pin bits start : ℕ) (old cur : Ahead) where
  pub next-bit : (i clock byte next : ℕ) (high : Bool) → clock ≡ start + (i + 1) * bits + bits / 2 → byte ≡ number_at (level_in pin old) bits start i → HasPassed (start + i * bits + bits / 2) old cur
      → high ≡ level_in pin cur clock → next ≡ byte + (if high then 2 ^ i else 0) → next ≡ number_at (level_in pin old) bits start (i + 1)
  next-bit i clock byte next high at is passed level sum =
      let seen : high ≡ level_in pin old (start + (i + 1) * bits + bits / 2) =
      level ∙ ap (is_high pin) (passed-agrees (start + i * bits + bits / 2) clock old cur passed (omega (arith, at))) ∙ ap (level_in pin old) at in
      sum ∙ ap (λ (x : ℕ). x + (if high then 2 ^ i else 0)) is ∙ ap (λ (b : Bool). number_at (level_in pin old) bits start i + (if b then 2 ^ i else 0)) seen
      ∙ ap (number_at (level_in pin old) bits start) (suc-is i)

  pub next-passed : (i clock : ℕ) (new : Ahead) → clock ≡ start + (i + 1) * bits + bits / 2 → HasPassed (start + i * bits + bits / 2) old cur → HasPassed clock cur new → HasPassed (start + (i + 1) * bits + bits / 2) old new
  next-passed i clock new at passed more =
      subst (λ (t : ℕ). HasPassed t old new) at (passed-both (start + i * bits + bits / 2) clock old cur new (omega (arith, at)) passed more)

-- a byte has room for one more bit
pub bit-fits : (f : ℕ → Bool) (bits start i byte : ℕ) → byte ≡ number_at f bits start i → i < 8 → byte + 1 * 2 ^ i % 256 < 256
bit-fits f bits start i byte is below = omega (arith, is, number-below f bits start i, powers i below)

pub bit-whole : (i : ℕ) → i < 8 → 1 * 2 ^ i % 256 ≡ 2 ^ i
bit-whole i below = omega (arith, powers i below)
