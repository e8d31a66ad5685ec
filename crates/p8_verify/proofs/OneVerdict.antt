-- A file has one verdict, and it is good exactly where the file is that of an ended history.
use Rattle.std.proofs.Common.{◌≡◌, ◌∙◌, ap, sym, subst, refl, ℕ, inl, inr, List, [], ◌++◌, length, reverse}
use Rattle.std.proofs.lemmas.List.{reverse-reverse, length-reverse, append-nil}
use Rattle.std.specs.List.{All}
use Rattle.p8_access.specs.declared.memory.Boot.{Boot}
use Rattle.p8_access.specs.declared.order.Turn.{Turn}
use Rattle.p8_access.specs.Worlds.{World, Line}
use Rattle.p8_access.specs.Histories.{Ended}
use Rattle.p8_cog.specs.Lives.{asks}
use Rattle.p8_ledger.specs.Worlds.{world_of}
use Rattle.p8_verify.specs.declared.head.HistoryHead.{HistoryHead}
use Rattle.p8_verify.specs.declared.verdicts.Verdict.{Verdict}
use Rattle.p8_verify.specs.declared.verdicts.Verdict.TheVariants.{Good, Bad}
use Rattle.p8_verify.specs.Table.{IsWithin}
use Rattle.p8_verify.specs.Files.{head_of, head_bytes, records, IsHeadWithin, AreRecords, BreaksAt, IsFormed, IsMalformed}
use Rattle.p8_verify.specs.Verdicts.{Judged, world_by, IsJudged, IsVerdict, IsEndedFile}
use Rattle.p8_verify.proofs.Forms.{one-head, one-list, whole, one-break}
use Rattle.p8_verify.proofs.Judging.{one-judgement, good-ends, ends-good}

-- a file that is formed isn't malformed
formed : (bytes : List ℕ) (head : HistoryHead) (turns : List Turn) (at : ℕ) → IsFormed bytes head turns → IsMalformed bytes at → ⊥
formed bytes head turns at is malformed = elim malformed [
  | inl none ↦ none.0 head is.0 is.1
  | inr breaks ↦
      (let same = one-head bytes head breaks.0 is.0 breaks.1 is.1 breaks.2 in
      let are = subst (λ (xs : List ℕ). AreRecords head.count xs turns) same.1 is.2 in
      whole breaks.0.count 1 breaks.1 turns at (subst (λ (h : HistoryHead). AreRecords h.count breaks.1 turns) same.0 are) breaks.3)
]

-- it is malformed from one turn on
one-malformed : (bytes : List ℕ) (a b : ℕ) → IsMalformed bytes a → IsMalformed bytes b → a ≡ b
one-malformed bytes a b p q = elim p [
  | inl none ↦ elim q [
    | inl also ↦ none.1 ∙ sym also.1
    | inr breaks ↦ absurd (none.0 breaks.0 breaks.1 breaks.2)
  ]
  | inr one ↦ elim q [
    | inl none ↦ absurd (none.0 one.0 one.1 one.2)
    | inr other ↦
        (let same = one-head bytes one.0 other.0 one.1 other.1 one.2 other.2 in
        one-break other.0.count 1 other.1 a b (subst (λ (h : HistoryHead). BreaksAt h.count 1 other.1 a) same.0 (subst (λ (xs : List ℕ). BreaksAt one.0.count 1 xs a) same.1 one.3)) other.3)
  ]
]

module _ (boot : Boot) (script : List Line) (bytes : List ℕ) where
  -- what a file is judged by its turns to be, is one
  one-by-turns : (v u : Verdict) → IsJudged boot script bytes v → IsJudged boot script bytes u → v ≡ u
  one-by-turns v u p q =
      let head = one-head bytes p.0 q.0 p.2.0 q.2.0 p.2.1 q.2.1 in
      let are = subst (λ (xs : List ℕ). AreRecords p.0.count xs p.1) head.1 p.2.2 in
      let turns = one-list q.0.count q.2.0 p.1 q.1 (subst (λ (h : HistoryHead). AreRecords h.count q.2.0 p.1) head.0 are) q.2.2 in
      let judged : Judged (world_by boot script q.0) [] q.1 v = subst (λ (ts : List Turn). Judged (world_by boot script q.0) [] ts v) turns (subst (λ (h : HistoryHead). Judged (world_by boot script h) [] p.1 v) head.0 p.3) in
      one-judgement (world_by boot script q.0) [] q.1 v u judged q.3

  -- a file has one verdict
  pub one-verdict : (v u : Verdict) → IsVerdict boot script bytes v → IsVerdict boot script bytes u → v ≡ u
  one-verdict (Good a) (Good b) p q = one-by-turns (Good a) (Good b) p q
  one-verdict (Good a) (Bad n c) p q = elim q [
    | inl form ↦ absurd (formed bytes p.0 p.1 n p.2 form.1)
    | inr judged ↦ one-by-turns (Good a) (Bad n c) p judged
  ]
  one-verdict (Bad n c) (Good a) p q = elim p [
    | inl form ↦ absurd (formed bytes q.0 q.1 n q.2 form.1)
    | inr judged ↦ one-by-turns (Bad n c) (Good a) judged q
  ]
  one-verdict (Bad n c) (Bad m d) p q = elim p [
    | inl form ↦ elim q [
      | inl also ↦ (λ i. Bad (one-malformed bytes n m form.1 also.1 i) ((form.0 ∙ sym also.0) i))
      | inr judged ↦ absurd (formed bytes judged.0 judged.1 n judged.2 form.1)
    ]
    | inr judged ↦ elim q [
      | inl form ↦ absurd (formed bytes judged.0 judged.1 m judged.2 form.1)
      | inr also ↦ one-by-turns (Bad n c) (Bad m d) judged also
    ]
  ]

  -- a good file is that of an ended history
  pub good-file : (count : ℕ) → IsVerdict boot script bytes (Good count) → IsEndedFile boot script bytes count
  good-file count p =
      let w : World = world_by boot script p.0 in
      let ends = good-ends w p.1 [] count tt p.3 in
      let past : reverse p.1 ++ [] ≡ reverse p.1 = append-nil (reverse p.1) in
      let turns : reverse (reverse p.1) ≡ p.1 = reverse-reverse p.1 in
      let number : length (reverse p.1) ≡ p.0.count = length-reverse p.1 ∙ p.2.2.count_is in
      let head : head_of w (reverse p.1) ≡ p.0 = λ i. record { clocks = p.0.clocks; turns = p.0.turns; count = number i } in (
        record { clocks = p.0.clocks; turns = p.0.turns },
        reverse p.1,
        record {
          head = subst IsHeadWithin (sym head) p.2.1.within;
          turns = subst (λ (ts : List Turn). All IsWithin ts) (sym turns) p.2.2.within;
          bytes_are = p.2.1.bytes_are ∙ ap (λ (xs : List ℕ). head_bytes p.0 ++ xs) p.2.2.bytes_are ∙ sym (λ i. head_bytes (head i) ++ records (turns i));
        },
        subst (λ (h : List Turn). Ended asks w h) past ends.0,
        ends.1 ∙ ap length past,
      )

  -- the file of an ended history is good
  pub file-good : (count : ℕ) → IsEndedFile boot script bytes count → IsVerdict boot script bytes (Good count)
  file-good count p =
      let w : World = world_of boot script p.0 in
      let same : reverse (reverse p.1) ++ [] ≡ p.1 = append-nil (reverse (reverse p.1)) ∙ reverse-reverse p.1 in
      let ended : Ended asks w (reverse (reverse p.1) ++ []) = subst (λ (h : List Turn). Ended asks w h) (sym same) p.3 in
      let count_is : length (reverse (reverse p.1) ++ []) ≡ count = ap length same ∙ sym p.4 in (
        head_of w p.1,
        reverse p.1,
        (records (reverse p.1), record { within = p.2.head; bytes_are = p.2.bytes_are }, record { within = p.2.turns; count_is = length-reverse p.1; bytes_are = refl }),
        subst (λ (n : ℕ). Judged w [] (reverse p.1) (Good n)) count_is (ends-good w (reverse p.1) [] ended),
      )
