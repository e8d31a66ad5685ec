-- A file has one head, and its bytes are the records of one list of turns, or break at one turn.
use Rattle.std.proofs.Common.{◌≡◌, ◌∙◌, ap, sym, subst, refl, ℕ, zero, suc, ◌+◌, ◌-◌, ◌<◌, inl, inr, List, [], ◌∷◌, ◌++◌, drop, length, arith}
use Rattle.std.proofs.lemmas.List.Elements.{All-nil, All-cons, All-head, All-tail}
use Rattle.byteorder.specs.Endian.{little_number}
use Rattle.byteorder.specs.Numbers.{little_number-reads_back}
use Rattle.p8_access.specs.declared.order.Turn.{Turn}
use Rattle.p8_verify.specs.declared.head.HistoryHead.{HistoryHead}
use Rattle.p8_verify.specs.Table.{turn_bytes, IsWithin, IsRecord, NoRecord}
use Rattle.p8_verify.specs.Files.{head_bytes, records, IsHeadWithin, IsHead, AreRecords, BreaksAt}
use Rattle.p8_verify.proofs.Back.{one-record}

-- the numbers of a head stand in its bytes
head-in : List ℕ → HistoryHead
head-in bytes = record {
  clocks = little_number 4 (drop 4 bytes);
  turns = little_number 4 (drop 8 bytes);
  count = little_number 4 (drop 12 bytes);
}

head-back : (head : HistoryHead) (rest : List ℕ) → IsHeadWithin head → head-in (head_bytes head ++ rest) ≡ head
unfolding head-in
head-back head rest within =
    let clocks = little_number-reads_back 4 head.clocks [] (let h = within.clocks in omega arith) in
    let turns = little_number-reads_back 4 head.turns [] (let h = within.turns in omega arith) in
    let count = little_number-reads_back 4 head.count [] (let h = within.count in omega arith) in
    λ i. record { clocks = clocks i; turns = turns i; count = count i }

pub one-head : (bytes : List ℕ) (h k : HistoryHead) (x y : List ℕ) → IsHead bytes h x → IsHead bytes k y → (h ≡ k) × (x ≡ y)
one-head bytes h k x y p q =
    let same : head_bytes h ++ x ≡ head_bytes k ++ y = sym p.bytes_are ∙ q.bytes_are in
    (sym (head-back h x p.within) ∙ ap head-in same ∙ head-back k y q.within, ap (drop 16) same)

-- the first of some turns, and the others
first-record : (count : ℕ) (bytes : List ℕ) (turn : Turn) (turns : List Turn) → AreRecords count bytes (turn ∷ turns) → IsRecord bytes turn (records turns)
first-record count bytes turn turns are = record { within = All-head IsWithin turn turns are.within; bytes_are = are.bytes_are }

other-records : (count : ℕ) (bytes : List ℕ) (turn : Turn) (turns : List Turn) → AreRecords (suc count) bytes (turn ∷ turns) → AreRecords count (records turns) turns
other-records count bytes turn turns are = record {
  within = All-tail IsWithin turn turns are.within;
  count_is = (let h = are.count_is in omega arith);
  bytes_are = refl;
}

pub one-list : (count : ℕ) (bytes : List ℕ) (ts us : List Turn) → AreRecords count bytes ts → AreRecords count bytes us → ts ≡ us
one-list zero bytes [] [] p q = refl
one-list zero bytes [] (u ∷ us) p q = absurd (let h = q.count_is in omega arith)
one-list zero bytes (t ∷ ts) us p q = absurd (let h = p.count_is in omega arith)
one-list (suc count) bytes [] us p q = absurd (let h = p.count_is in omega arith)
one-list (suc count) bytes (t ∷ ts) [] p q = absurd (let h = q.count_is in omega arith)
one-list (suc count) bytes (t ∷ ts) (u ∷ us) p q =
    let same = one-record bytes t u (records ts) (records us) (first-record (suc count) bytes t ts p) (first-record (suc count) bytes u us q) in
    let others = one-list count (records ts) ts us (other-records count bytes t ts p) (subst (λ (xs : List ℕ). AreRecords count xs us) (sym same.1) (other-records count bytes u us q)) in
    λ i. same.0 i ∷ others i

-- records that are whole don't break
pub whole : (count n : ℕ) (bytes : List ℕ) (turns : List Turn) (at : ℕ) → AreRecords count bytes turns → BreaksAt count n bytes at → ⊥
whole zero n bytes [] at are breaks = breaks.1 are.bytes_are
whole zero n bytes (t ∷ ts) at are breaks = absurd (let h = are.count_is in omega arith)
whole (suc count) n bytes [] at are breaks = absurd (let h = are.count_is in omega arith)
whole (suc count) n bytes (t ∷ ts) at are breaks = elim breaks [
  | inl here ↦ here.1 t (records ts) (first-record (suc count) bytes t ts are)
  | inr later ↦
      (let same = one-record bytes t later.0 (records ts) later.1 (first-record (suc count) bytes t ts are) later.2 in
      whole count (n + 1) later.1 ts at (subst (λ (xs : List ℕ). AreRecords count xs ts) same.1 (other-records count bytes t ts are)) later.3)
]

-- records break at one turn
pub one-break : (count n : ℕ) (bytes : List ℕ) (a b : ℕ) → BreaksAt count n bytes a → BreaksAt count n bytes b → a ≡ b
one-break zero n bytes a b p q = p.0 ∙ sym q.0
one-break (suc count) n bytes a b p q = elim p [
  | inl here ↦ elim q [
    | inl also ↦ here.0 ∙ sym also.0
    | inr later ↦ absurd (here.1 later.0 later.1 later.2)
  ]
  | inr on ↦ elim q [
    | inl here ↦ absurd (here.1 on.0 on.1 on.2)
    | inr later ↦
        (let same = one-record bytes on.0 later.0 on.1 later.1 on.2 later.2 in
        one-break count (n + 1) later.1 a b (subst (λ (xs : List ℕ). BreaksAt count (n + 1) xs a) same.1 on.3) later.3)
  ]
]

-- Where the turn with the number index + 1 is looked at, index turns are done.
less-one : (count index : ℕ) → index < count → suc (count - (index + 1)) ≡ count - index
less-one count index h = omega arith

pub breaks-here : (count index : ℕ) (bytes : List ℕ) → index < count → NoRecord bytes → BreaksAt (count - index) (index + 1) bytes (index + 1)
breaks-here count index bytes h none =
    subst (λ (left : ℕ). BreaksAt left (index + 1) bytes (index + 1)) (less-one count index h) (inl (refl, none))

pub breaks-later : (count index : ℕ) (bytes rest : List ℕ) (turn : Turn) (at : ℕ) → index < count → IsRecord bytes turn rest → BreaksAt (count - (index + 1)) (index + 1 + 1) rest at → BreaksAt (count - index) (index + 1) bytes at
breaks-later count index bytes rest turn at h is later =
    subst (λ (left : ℕ). BreaksAt left (index + 1) bytes at) (less-one count index h) (inr (turn, rest, is, later))

pub breaks-behind : (count index : ℕ) (bytes : List ℕ) → index ≡ count → (bytes ≡ [] → ⊥) → BreaksAt (count - index) (index + 1) bytes (count + 1)
breaks-behind count index bytes e more =
    let none : zero ≡ count - index = omega arith in
    subst (λ (left : ℕ). BreaksAt left (index + 1) bytes (count + 1)) none ((omega arith), more)

pub records-with : (count index : ℕ) (bytes rest : List ℕ) (turn : Turn) (turns : List Turn) → index < count → IsRecord bytes turn rest → AreRecords (count - (index + 1)) rest turns → AreRecords (count - index) bytes (turn ∷ turns)
records-with count index bytes rest turn turns h is are = record {
  within = All-cons IsWithin turn turns is.within are.within;
  count_is = (let e = are.count_is in omega arith);
  bytes_are = is.bytes_are ∙ ap (λ (xs : List ℕ). turn_bytes turn ++ xs) are.bytes_are;
}

pub no-records : (count index : ℕ) (bytes : List ℕ) → index ≡ count → length bytes ≡ 0 → AreRecords (count - index) bytes []
no-records count index [] e none = record { within = All-nil IsWithin; count_is = omega arith; bytes_are = refl }
no-records count index (byte ∷ bytes) e none = absurd (omega arith)

-- what is read of records that are whole: the first turn, and the others after it
pub record Taken (count index : ℕ) (bytes : List ℕ) (turns : List Turn) (turn : Turn) (rest : List ℕ) : Type 0 where
  pub others : List Turn
  pub turns_are : turns ≡ turn ∷ others
  pub are : AreRecords (count - (index + 1)) rest others

taken-by : (left count : ℕ) (bytes : List ℕ) (turns : List Turn) (turn : Turn) (rest : List ℕ) → suc left ≡ count → AreRecords count bytes turns → IsRecord bytes turn rest → (others : List Turn) × (turns ≡ turn ∷ others) × AreRecords left rest others
taken-by left count bytes [] turn rest e are is = absurd (let h = are.count_is in omega arith)
taken-by left count bytes (t ∷ ts) turn rest e are is =
    let same = one-record bytes t turn (records ts) rest (first-record count bytes t ts are) is in
    (ts, ap (λ (u : Turn). u ∷ ts) same.0, subst (λ (xs : List ℕ). AreRecords left xs ts) same.1 (other-records left bytes t ts (subst (λ (n : ℕ). AreRecords n bytes (t ∷ ts)) (sym e) are)))

pub taken : (count index : ℕ) (bytes rest : List ℕ) (turns : List Turn) (turn : Turn) → index < count → AreRecords (count - index) bytes turns → IsRecord bytes turn rest → Taken count index bytes turns turn rest
taken count index bytes rest turns turn h are is =
    let by = taken-by (count - (index + 1)) (count - index) bytes turns turn rest (less-one count index h) are is in
    record { others = by.0; turns_are = by.1; are = by.2 }

-- records that are whole begin with one, where one is to come
pub some-record : (count index : ℕ) (bytes : List ℕ) (turns : List Turn) → index < count → AreRecords (count - index) bytes turns → (turn : Turn) × (rest : List ℕ) × IsRecord bytes turn rest
some-record count index bytes [] h are = absurd (let e = are.count_is in omega arith)
some-record count index bytes (t ∷ ts) h are = (t, records ts, first-record (count - index) bytes t ts are)

pub none-left : (count index : ℕ) (bytes : List ℕ) (turns : List Turn) → index ≡ count → AreRecords (count - index) bytes turns → turns ≡ []
none-left count index bytes [] e are = refl
none-left count index bytes (t ∷ ts) e are = absurd (let h = are.count_is in omega arith)
