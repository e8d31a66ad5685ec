-- A machine beside the records of a file: what is told of those that are left.
use Rattle.std.proofs.Common.{◌≡◌, ap, sym, subst, refl, ℕ, ◌+◌, ◌-◌, ◌<◌, inl, inr, List, [], ◌∷◌, length, Option, Some, None, IsNone, IfSome, MatchOption, rules}
use Rattle.p8_access.specs.declared.memory.Boot.{Boot}
use Rattle.p8_access.specs.declared.order.Turn.{Turn}
use Rattle.p8_access.specs.Worlds.{World, Line}
use Rattle.p8_access.specs.Histories.{Extends, IsOver}
use Rattle.p8_cog.specs.Lives.{asks}
use Rattle.p8_verify.specs.declared.head.HistoryHead.{HistoryHead}
use Rattle.p8_verify.specs.declared.verdicts.Cause.{Cause}
use Rattle.p8_verify.specs.declared.verdicts.Cause.TheVariants.{Extra, Form, More}
use Rattle.p8_verify.specs.declared.verdicts.Verdict.{Verdict}
use Rattle.p8_verify.specs.declared.verdicts.Verdict.TheVariants.{Good, Bad}
use Rattle.p8_verify.specs.Table.{IsRecord}
use Rattle.p8_verify.specs.Files.{IsHead, AreRecords}
use Rattle.p8_verify.specs.Verdicts.{Differs, IsWrong, Judged, world_by, IsVerdict}
use Rattle.p8_verify.specs.Told.{IsNext, IsTold}
use Rattle.p8_verify.proofs.Forms.{taken, breaks-later, records-with, no-records}

-- turns are equal where their parts are
pub turn-by-parts : (t u : Turn) → t.key ≡ u.key → t.access ≡ u.access → t.answer ≡ u.answer → t ≡ u
turn-by-parts t u key access answer = λ i. record { key = key i; access = access i; answer = answer i }

-- another turn than the one of a record differs from that
pub differs-from : (bytes rest : List ℕ) (turn : Turn) (next : Option Turn) → IsRecord bytes turn rest → IfSome next (λ other. (rest : List ℕ) → IsRecord bytes other rest → ⊥) → IfSome next (λ other. turn ≡ other → ⊥)
differs-from bytes rest turn None is none = tt
differs-from bytes rest turn (Some other) is none = λ same. none rest (subst (λ (t : Turn). IsRecord bytes t rest) same is)

module _ (w : World) (past : List Turn) where
  -- what a step tells
  pub next-is : (next : Option Turn) → (IsNone next → IsOver asks w past) → IfSome next (λ turn. Extends asks w past turn) → IsNext w past next
  next-is None over extends = over (search rules)
  next-is (Some turn) over extends = extends

  pub wrong-by : (turn : Turn) (next : Option Turn) (cause : Cause) → IsNext w past next → MatchOption next (cause ≡ Extra) (λ other. Differs turn other cause) → IsWrong w past turn cause
  wrong-by turn None cause over is = inl (is, over)
  wrong-by turn (Some other) cause extends differs = inr (other, extends, differs)

  module _ (count index : ℕ) (bytes : List ℕ) where
    -- a turn of the file was the one that comes next
    pub went_on : (turn : Turn) (rest : List ℕ) → index < count → IsRecord bytes turn rest → Extends asks w past turn → (v : Verdict)
        → IsTold w (turn ∷ past) (count - (index + 1)) (index + 1 + 1) rest v → IsTold w past (count - index) (index + 1) bytes v
    went_on turn rest h is extends (Good n) told = (turn ∷ told.0, records-with count index bytes rest turn told.0 h is told.1, (extends, told.2))
    went_on turn rest h is extends (Bad n cause) told = elim told [
      | inl form ↦ inl (form.0, breaks-later count index bytes rest turn n h is form.1)
      | inr judged ↦ inr (turn ∷ judged.0, records-with count index bytes rest turn judged.0 h is judged.1, inr (extends, judged.2))
    ]

    -- it wasn't, and the form is as it should be
    pub went_wrong : (turn : Turn) (rest : List ℕ) (turns : List Turn) (cause : Cause) → index < count → AreRecords (count - index) bytes turns → IsRecord bytes turn rest → length past ≡ index
        → IsWrong w past turn cause → IsTold w past (count - index) (index + 1) bytes (Bad (index + 1) cause)
    went_wrong turn rest turns cause h are is done wrong =
        let t = taken count index bytes rest turns turn h are is in
        let here : Judged w past (turn ∷ t.others) (Bad (index + 1) cause) = inl (ap (λ (n : ℕ). n + 1) (sym done), wrong) in
        inr (turns, are, subst (λ (ts : List Turn). Judged w past ts (Bad (index + 1) cause)) (sym t.turns_are) here)

  module _ (count : ℕ) (done : length past ≡ count) where
    -- all turns are done, and bytes follow them
    pub left_over : (bytes : List ℕ) → (bytes ≡ [] → ⊥) → IsTold w past 0 (count + 1) bytes (Bad (count + 1) Form)
    left_over bytes more = inl (refl, (refl, more))

    -- none follow, and no turn comes next
    pub ended : IsOver asks w past → IsTold w past 0 (count + 1) [] (Good count)
    ended over = ([], no-records 0 0 [] refl refl, (sym done, over))

    -- one comes
    pub unended : (IsOver asks w past → ⊥) → IsTold w past 0 (count + 1) [] (Bad (count + 1) More)
    unended more = inr ([], no-records 0 0 [] refl refl, (ap (λ (n : ℕ). n + 1) (sym done), refl, more))

-- the verdict on a file by that on its records
pub of-head : (boot : Boot) (script : List Line) (bytes rest : List ℕ) (head : HistoryHead) → IsHead bytes head rest → (v : Verdict) → IsTold (world_by boot script head) [] head.count 1 rest v → IsVerdict boot script bytes v
of-head boot script bytes rest head is (Good n) told = (head, told.0, (rest, is, told.1), told.2)
of-head boot script bytes rest head is (Bad n cause) told = elim told [
  | inl form ↦ inl (form.0, inr (head, rest, is, form.1))
  | inr judged ↦ inr (head, judged.0, (rest, is, judged.1), judged.2)
]
