-- Turns have one verdict, and it is good exactly where they are an ended history.
use Rattle.std.proofs.Common.{◌≡◌, ◌∙◌, ap, sym, subst, refl, ℕ, ◌<◌, inl, inr, List, [], ◌∷◌, ◌++◌, length, reverse, arith}
use Rattle.std.proofs.lemmas.List.{reverse-append, append_assoc}
use Rattle.p8_access.specs.declared.order.Turn.{Turn}
use Rattle.p8_access.specs.Worlds.{World}
use Rattle.p8_access.specs.Histories.{Legal, Extends, IsOver, Ended}
use Rattle.p8_access.proofs.OneHistory.{same-turn}
use Rattle.p8_cog.specs.Lives.{asks}
use Rattle.p8_cog.specs.Laws.{one-asked}
use Rattle.p8_verify.specs.declared.verdicts.Cause.{Cause}
use Rattle.p8_verify.specs.declared.verdicts.Cause.TheVariants.{Form, Extra, Key, Access, Answer, More}
use Rattle.p8_verify.specs.declared.verdicts.Verdict.{Verdict}
use Rattle.p8_verify.specs.declared.verdicts.Verdict.TheVariants.{Good, Bad}
use Rattle.p8_verify.specs.Verdicts.{Differs, IsWrong, Judged}

-- two turns that are one don't differ
alike : (turn next : Turn) (cause : Cause) → turn ≡ next → Differs turn next cause → ⊥
alike turn next Key e d = d (ap (λ (t : Turn). t.key) e)
alike turn next Access e d = d.1 (ap (λ (t : Turn). t.access) e)
alike turn next Answer e d = d.2 (ap (λ (t : Turn). t.answer) e)
alike turn next Form e d = d
alike turn next Extra e d = d
alike turn next More e d = d

-- they differ first in one respect
one-difference : (turn next : Turn) (a b : Cause) → Differs turn next a → Differs turn next b → a ≡ b
one-difference turn next Form b p q = absurd p
one-difference turn next Extra b p q = absurd p
one-difference turn next More b p q = absurd p
one-difference turn next Key Form p q = absurd q
one-difference turn next Key Extra p q = absurd q
one-difference turn next Key More p q = absurd q
one-difference turn next Key Key p q = refl
one-difference turn next Key Access p q = absurd (p q.0)
one-difference turn next Key Answer p q = absurd (p q.0)
one-difference turn next Access Form p q = absurd q
one-difference turn next Access Extra p q = absurd q
one-difference turn next Access More p q = absurd q
one-difference turn next Access Key p q = absurd (q p.0)
one-difference turn next Access Access p q = refl
one-difference turn next Access Answer p q = absurd (p.1 q.1)
one-difference turn next Answer Form p q = absurd q
one-difference turn next Answer Extra p q = absurd q
one-difference turn next Answer More p q = absurd q
one-difference turn next Answer Key p q = absurd (q p.0)
one-difference turn next Answer Access p q = absurd (q.1 p.1)
one-difference turn next Answer Answer p q = refl

module _ (w : World) where
  -- one turn comes next
  next-is : (past : List Turn) (t u : Turn) → Extends asks w past t → Extends asks w past u → t ≡ u
  next-is past t u p q = same-turn asks w one-asked past t u p q

  -- where none comes, there is none
  none-next : (past : List Turn) (t : Turn) → IsOver asks w past → Extends asks w past t → ⊥
  none-next past t over extends = elim over [
    | inl full ↦ (let room : length past < w.turns = extends.room in omega arith)
    | inr none ↦ none t.key.cog t.key.clock t.access extends.next
  ]

  not-wrong : (past : List Turn) (turn : Turn) (cause : Cause) → IsWrong w past turn cause → Extends asks w past turn → ⊥
  not-wrong past turn cause wrong extends = elim wrong [
    | inl over ↦ none-next past turn over.1 extends
    | inr other ↦ alike turn other.0 cause (next-is past turn other.0 extends other.1) other.2
  ]

  one-cause : (past : List Turn) (turn : Turn) (a b : Cause) → IsWrong w past turn a → IsWrong w past turn b → a ≡ b
  one-cause past turn a b p q = elim p [
    | inl over ↦ elim q [
      | inl also ↦ over.0 ∙ sym also.0
      | inr other ↦ absurd (none-next past other.0 over.1 other.1)
    ]
    | inr one ↦ elim q [
      | inl over ↦ absurd (none-next past one.0 over.1 one.1)
      | inr other ↦ one-difference turn other.0 a b (subst (λ (t : Turn). Differs turn t a) (next-is past one.0 other.0 one.1 other.1) one.2) other.2
    ]
  ]

  pub one-judgement : (past left : List Turn) (v u : Verdict) → Judged w past left v → Judged w past left u → v ≡ u
  one-judgement past [] (Good a) (Good b) p q = ap Good (p.0 ∙ sym q.0)
  one-judgement past [] (Good a) (Bad n c) p q = absurd (q.2 p.1)
  one-judgement past [] (Bad n c) (Good a) p q = absurd (p.2 q.1)
  one-judgement past [] (Bad n c) (Bad m d) p q = λ i. Bad ((p.0 ∙ sym q.0) i) ((p.1 ∙ sym q.1) i)
  one-judgement past (turn ∷ left) (Good a) (Good b) p q = one-judgement (turn ∷ past) left (Good a) (Good b) p.1 q.1
  one-judgement past (turn ∷ left) (Good a) (Bad n c) p q = elim q [
    | inl wrong ↦ absurd (not-wrong past turn c wrong.1 p.0)
    | inr on ↦ one-judgement (turn ∷ past) left (Good a) (Bad n c) p.1 on.1
  ]
  one-judgement past (turn ∷ left) (Bad n c) (Good a) p q = elim p [
    | inl wrong ↦ absurd (not-wrong past turn c wrong.1 q.0)
    | inr on ↦ one-judgement (turn ∷ past) left (Bad n c) (Good a) on.1 q.1
  ]
  one-judgement past (turn ∷ left) (Bad n c) (Bad m d) p q = elim p [
    | inl wrong ↦ elim q [
      | inl also ↦ (λ i. Bad ((wrong.0 ∙ sym also.0) i) (one-cause past turn c d wrong.1 also.1 i))
      | inr on ↦ absurd (not-wrong past turn c wrong.1 on.0)
    ]
    | inr on ↦ elim q [
      | inl wrong ↦ absurd (not-wrong past turn d wrong.1 on.0)
      | inr also ↦ one-judgement (turn ∷ past) left (Bad n c) (Bad m d) on.1 also.1
    ]
  ]

  -- after a turn of the file that was the next one
  turned : (turn : Turn) (left past : List Turn) → reverse left ++ turn ∷ past ≡ reverse (turn ∷ left) ++ past
  turned turn left past = sym (ap (λ (ts : List Turn). ts ++ past) (reverse-append (turn ∷ []) left) ∙ append_assoc (reverse left) (turn ∷ []) past)

  -- turns that are judged good end a legal past
  pub good-ends : (left past : List Turn) (count : ℕ) → Legal asks w past → Judged w past left (Good count) → Ended asks w (reverse left ++ past) × (count ≡ length (reverse left ++ past))
  good-ends [] past count legal judged = (record { legal = legal; over = judged.1 }, judged.0)
  good-ends (turn ∷ left) past count legal judged =
      subst (λ (h : List Turn). Ended asks w h × (count ≡ length h)) (turned turn left past) (good-ends left (turn ∷ past) count (legal, judged.0) judged.1)

  legal-part : (more past : List Turn) → Legal asks w (more ++ past) → Legal asks w past
  legal-part [] past legal = legal
  legal-part (turn ∷ more) past legal = legal-part more past legal.0

  -- turns that end a past are judged good
  pub ends-good : (left past : List Turn) → Ended asks w (reverse left ++ past) → Judged w past left (Good (length (reverse left ++ past)))
  ends-good [] past ended = (refl, ended.over)
  ends-good (turn ∷ left) past ended =
      let after : Ended asks w (reverse left ++ turn ∷ past) = subst (λ (h : List Turn). Ended asks w h) (sym (turned turn left past)) ended in
      let count : length (reverse left ++ turn ∷ past) ≡ length (reverse (turn ∷ left) ++ past) = ap length (turned turn left past) in
      ((legal-part (reverse left) (turn ∷ past) after.legal).1, subst (λ (n : ℕ). Judged w (turn ∷ past) left (Good n)) count (ends-good left (turn ∷ past) after))
