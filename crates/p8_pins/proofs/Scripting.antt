-- The lines of text that are a script, one more of them, and the first bad one.
use Rattle.std.proofs.Common.{◌≡◌, ◌∙◌, ap, sym, refl, subst, ℕ, zero, suc, ◌+◌, ◌-◌, ◌^◌, ◌<◌, ◌≤◌, inl, inr, Bool, true, false, not, cond, IsTrue, nat_lt, List, [], ◌∷◌, ◌++◌, length, filter, take, drop, get_or, arith, length-append, append_assoc, append-nil}
use Rattle.std.specs.List.{AllZip}
use Rattle.std.specs.List.Sorted.{IsStrictlyIncreasing}
use Rattle.std.specs.Str.Lines.{lines}
use Rattle.std.proofs.Math.Seq.{take-append_seam}
use Rattle.std.proofs.lemmas.Bool.{cases_lt, ltb-true, lt-ltb}
use Rattle.std.proofs.lemmas.List.{map-append, take-append-drop}
use Rattle.std.proofs.lemmas.List.Elements.{filter-append}
use Rattle.p8_access.specs.Worlds.{Line}
use Rattle.p8_pins.specs.declared.line_text.Change.{Change}
use Rattle.p8_pins.specs.Scripts.{is_skipped, Carries, clocks_of, most_lines, most_bytes, IsScript, IsFirstBad, IsReadAs, IsFault}
use Rattle.p8_pins.specs.Changes.{clock_of, IsShort, line_of, lines_of}
use Rattle.p8_pins.specs.Readings.{Follows, Takes, Stops}
use Rattle.p8_pins.proofs.Texts.{carried-one, carried-short}
use Rattle.p8_pins.proofs.Rising.{clock_of-front, clock_of-seam, clock_of-le, rising-front, rising-more, rising-later}
use Rattle.p8_pins.proofs.Levels.{length-lines_of, kept-at}

Texts : Type 0
Texts = List (List ℕ)

abbrev is_kept : List ℕ → Bool
is_kept text = not (is_skipped text)

abbrev kept_of : List (List ℕ) → List (List ℕ)
kept_of texts = filter is_kept texts

-- texts carry one list of lines
carried-same : (texts : List (List ℕ)) (a b : List Line) → AllZip Carries texts a → AllZip Carries texts b → a ≡ b
carried-same [] [] [] p q = refl
carried-same [] [] (y ∷ ys) p q = absurd q
carried-same [] (x ∷ xs) b p q = absurd p
carried-same (text ∷ texts) [] b p q = absurd p
carried-same (text ∷ texts) (x ∷ xs) [] p q = absurd q
carried-same (text ∷ texts) (x ∷ xs) (y ∷ ys) p q =
    λ i. carried-one text x y p.0 q.0 i ∷ carried-same texts xs ys p.1 q.1 i

carried-append : (texts more : List (List ℕ)) (a b : List Line) → AllZip Carries texts a → AllZip Carries more b → AllZip Carries (texts ++ more) (a ++ b)
carried-append [] more [] b p q = q
carried-append [] more (x ∷ xs) b p q = absurd p
carried-append (text ∷ texts) more [] b p q = absurd p
carried-append (text ∷ texts) more (x ∷ xs) b p q = (p.0, carried-append texts more xs b p.1 q)

-- what some texts and more of them carry is in two parts
record Parts (texts more : List (List ℕ)) (script : List Line) : Type 0 where
  first : List Line
  second : List Line
  whole : script ≡ first ++ second
  first_carried : AllZip Carries texts first
  second_carried : AllZip Carries more second

carried-parts : (texts more : List (List ℕ)) (script : List Line) → AllZip Carries (texts ++ more) script → Parts texts more script
carried-parts [] more script p = record { first = []; second = script; whole = refl; first_carried = tt; second_carried = p }
carried-parts (text ∷ texts) more [] p = absurd p
carried-parts (text ∷ texts) more (x ∷ xs) p =
    let rest = carried-parts texts more xs p.1 in
    record {
      first = x ∷ rest.first;
      second = rest.second;
      whole = ap (λ (ls : List Line). x ∷ ls) rest.whole;
      first_carried = (p.0, rest.first_carried);
      second_carried = rest.second_carried;
    }

-- one more text
keeps-none : (b : Bool) (text : List ℕ) → b ≡ true → (if-keep : List (List ℕ)) → cond (not b) (text ∷ if-keep) if-keep ≡ if-keep
keeps-none true text e rest = refl
keeps-none false text e rest = (cc)

keeps-one : (b : Bool) (text : List ℕ) → b ≡ false → (rest : List (List ℕ)) → cond (not b) (text ∷ rest) rest ≡ text ∷ rest
keeps-one true text e rest = (cc)
keeps-one false text e rest = refl

kept-skipped : (texts : List (List ℕ)) (text : List ℕ) → is_skipped text ≡ true → kept_of (texts ++ text ∷ []) ≡ kept_of texts
kept-skipped texts text e =
    filter-append is_kept texts (text ∷ []) ∙ ap (λ rest. kept_of texts ++ rest) (keeps-none (is_skipped text) text e []) ∙ append-nil (kept_of texts)

kept-more : (texts : List (List ℕ)) (text : List ℕ) → is_skipped text ≡ false → kept_of (texts ++ text ∷ []) ≡ kept_of texts ++ text ∷ []
kept-more texts text e =
    filter-append is_kept texts (text ∷ []) ∙ ap (λ rest. kept_of texts ++ rest) (keeps-one (is_skipped text) text e [])

script-taken : (texts : List (List ℕ)) (text : List ℕ) (before after : List Line) → IsScript texts before → Takes before text after → IsScript (texts ++ text ∷ []) after
script-taken texts text before after s (inl skipped) =
    subst (IsScript (texts ++ text ∷ [])) (sym skipped.1)
    (record {
      carried = rw (kept-skipped texts text skipped.0) s.carried;
      rising = s.rising;
      count = s.count;
    })
script-taken texts text before after s (inr (line, c)) =
    subst (IsScript (texts ++ text ∷ [])) (sym c.added)
    (record {
      carried = rw (kept-more texts text c.kept) (carried-append (kept_of texts) (text ∷ []) before (line ∷ []) s.carried (c.carries, tt));
      rising = rising-more before line s.rising c.follows.later;
      count = omega (arith, length-append before (line ∷ []), c.follows.room);
    })

-- what one text carries is one line
one-line : (text : List ℕ) (script : List Line) → AllZip Carries (text ∷ []) script → (line : Line) × (script ≡ line ∷ []) × Carries text line
one-line text [] p = absurd p
one-line text (line ∷ []) p = (line, refl, p.0)
one-line text (line ∷ more ∷ rest) p = absurd p.1

script-stopped : (texts : List (List ℕ)) (text : List ℕ) (before after : List Line) → IsScript texts before → Stops before text → IsScript (texts ++ text ∷ []) after → ⊥
script-stopped texts text before after s stops t =
    let parts = carried-parts (kept_of texts) (text ∷ []) after (rw (kept-more texts text stops.kept) at t.carried) in
    let (line, one, carries) = one-line text parts.second parts.second_carried in
    let same : after ≡ before ++ line ∷ [] = parts.whole ∙ (λ i. carried-same (kept_of texts) parts.first before parts.first_carried s.carried i ++ one i) in
    let grown = subst (IsScript (texts ++ text ∷ [])) same t in
    stops.none line carries (record {
      room = omega (arith, grown.count, length-append before (line ∷ []));
      later = rising-later before line grown.rising;
    })

-- the first texts of a script are one
script-front : (texts more : List (List ℕ)) (script : List Line) → IsScript (texts ++ more) script → (first : List Line) × IsScript texts first
script-front texts more script s =
    let parts = carried-parts (kept_of texts) (kept_of more) script (rw (filter-append is_kept texts more) at s.carried) in
    let whole = subst (IsScript (texts ++ more)) parts.whole s in (
      parts.first,
      record {
        carried = parts.first_carried;
        rising = rising-front parts.first parts.second whole.rising;
        count = omega (arith, whole.count, length-append parts.first parts.second);
      },
    )

script-take : (texts : List (List ℕ)) (n : ℕ) (script : List Line) → IsScript texts script → (first : List Line) × IsScript (take n texts) first
script-take texts n script s =
    script-front (take n texts) (drop n texts) script (subst (λ ts. IsScript ts script) (sym (take-append-drop n texts)) s)

take-less : (n m : ℕ) (texts : List (List ℕ)) → n ≤ m → take n (take m texts) ≡ take n texts
take-less zero m texts le = refl
take-less (suc n) zero texts le = absurd (omega arith)
take-less (suc n) (suc m) [] le = refl
take-less (suc n) (suc m) (text ∷ texts) le = ap (λ ts. text ∷ ts) (take-less n m texts (omega arith))

-- how far the reading of a file has come
pub record IsReading (bytes rest : List ℕ) (script : List Line) (n : ℕ) : Type 0 where
  pub size : length bytes ≤ most_bytes
  pub counted : n + length rest ≤ length bytes
  pub seen : List (List ℕ)
  pub texts : lines bytes ≡ seen ++ lines rest
  pub seen_count : length seen ≡ n
  pub reads : IsScript seen script

pub reading-first : (bytes : List ℕ) → length bytes ≤ most_bytes → IsReading bytes bytes [] 0
reading-first bytes h = record {
  size = h;
  counted = omega arith;
  seen = [];
  texts = refl;
  seen_count = refl;
  reads = record { carried = tt; rising = λ k m. absurd (omega arith); count = omega arith };
}

pub reading-more : (bytes rest text left : List ℕ) (before after : List Line) (n : ℕ) → IsReading bytes rest before n → lines rest ≡ text ∷ lines left → length left < length rest → Takes before text after → IsReading bytes left after (n + 1)
reading-more bytes rest text left before after n r first shorter takes = record {
  size = r.size;
  counted = omega (arith, r.counted);
  seen = r.seen ++ text ∷ [];
  texts = r.texts ∙ ap (λ ts. r.seen ++ ts) first ∙ sym (append_assoc r.seen (text ∷ []) (lines left));
  seen_count = length-append r.seen (text ∷ []) ∙ omega (arith, r.seen_count);
  reads = script-taken r.seen text before after r.reads takes;
}

pub reading-last : (bytes rest : List ℕ) (script : List Line) (n : ℕ) → IsReading bytes rest script n → rest ≡ [] → IsReadAs bytes script
reading-last bytes rest script n r e = record {
  size = r.size;
  reads = subst (λ ts. IsScript ts script) (sym (r.texts ∙ ap (λ b. r.seen ++ lines b) e ∙ append-nil r.seen)) r.reads;
}

pub reading-bad : (bytes rest text left : List ℕ) (script : List Line) (n : ℕ) → IsReading bytes rest script n → lines rest ≡ text ∷ lines left → Stops script text → IsFault bytes (n + 1)
reading-bad bytes rest text left script n r first stops =
    inr (
      r.size,
      record {
        is_line = (omega arith, omega (arith, ap length whole, length-append r.seen (text ∷ lines left), r.seen_count));
        before = (script, subst (λ ts. IsScript ts script) (sym front) r.reads);
        bad = λ other s. script-stopped r.seen text script other r.reads stops (subst (λ ts. IsScript ts other) through s);
      },
    )
  where
    whole : lines bytes ≡ r.seen ++ text ∷ lines left
    whole = r.texts ∙ ap (λ ts. r.seen ++ ts) first

    front : take (n + 1 - 1) (lines bytes) ≡ r.seen
    front = ap (λ k. take k (lines bytes)) (omega (arith, r.seen_count)) ∙ ap (take (length r.seen)) whole ∙ take-append_seam r.seen (text ∷ lines left)

    through : take (n + 1) (lines bytes) ≡ r.seen ++ text ∷ []
    through =
        ap (λ k. take k (lines bytes)) (omega (arith, length-append r.seen (text ∷ []), r.seen_count))
        ∙ ap (take (length (r.seen ++ text ∷ []))) (whole ∙ sym (append_assoc r.seen (text ∷ []) (lines left)))
        ∙ take-append_seam (r.seen ++ text ∷ []) (lines left)

-- the laws of readings
pub read-same : (bytes : List ℕ) (a b : List Line) → IsReadAs bytes a → IsReadAs bytes b → a ≡ b
read-same bytes a b p q = carried-same (kept_of (lines bytes)) a b p.reads.carried q.reads.carried

pub read-not_bad : (bytes : List ℕ) (script : List Line) (n : ℕ) → IsReadAs bytes script → IsFault bytes n → ⊥
read-not_bad bytes script n p (inl long) = omega (arith, p.size, long.0)
read-not_bad bytes script n p (inr (size, bad)) =
    let (first, s) = script-take (lines bytes) n script p.reads in bad.bad first s

bad-least : (texts : List (List ℕ)) (m n : ℕ) → IsFirstBad texts m → IsFirstBad texts n → m < n → ⊥
bad-least texts m n p q lt =
    let (script, s) = q.before in
    let (first, t) = script-take (take (n - 1) texts) m script s in
    p.bad first (subst (λ ts. IsScript ts first) (take-less m (n - 1) texts (omega arith)) t)

pub fault-one : (bytes : List ℕ) (m n : ℕ) → IsFault bytes m → IsFault bytes n → m ≡ n
fault-one bytes m n (inl p) (inl q) = p.1 ∙ sym q.1
fault-one bytes m n (inl p) (inr q) = absurd (omega (arith, p.0, q.0))
fault-one bytes m n (inr p) (inl q) = absurd (omega (arith, p.0, q.0))
fault-one bytes m n (inr p) (inr q) =
    elim (cases_lt m n) [
      | inl less ↦ absurd (bad-least (lines bytes) m n p.1 q.1 less)
      | inr more ↦
          elim (cases_lt n m) [
            | inl less ↦ absurd (bad-least (lines bytes) n m q.1 p.1 less)
            | inr same ↦ omega arith
          ]
    ]

-- a line that is kept at the end
abbrev IsKept : List Change → Type 0
IsKept changes = IsStrictlyIncreasing (clocks_of (lines_of changes)) × IsShort (lines_of changes)

short-more : (script : List Line) (line : Line) → IsShort script → line.clock < 10 ^ 10 → IsShort (script ++ line ∷ [])
short-more script line short less k h =
    elim (cases_lt k (length script)) [
      | inl inside ↦ omega (arith, short k inside, clock_of-front script (line ∷ []) k inside)
      | inr last ↦
          (let at : clock_of (script ++ line ∷ []) k ≡ line.clock = ap (clock_of (script ++ line ∷ [])) {x = k} {y = length script} (omega (arith, length-append script (line ∷ []))) ∙ clock_of-seam script line [] in
          omega arith)
    ]

pub kept-pushed : (text : List ℕ) (script : List Line) (before after : List Change) (change : Change) (done : Bool) → lines_of before ≡ script → IsKept before → Carries text (line_of change) → Follows script change.clock → after ≡ cond done (before ++ change ∷ []) before → IsKept after
kept-pushed text script before after change false view kept carries follows is = subst IsKept (sym is) kept
kept-pushed text script before after change true view kept carries follows is =
    subst IsKept (sym is)
    (rw (map-append line_of before (change ∷ [])) (
      rising-more (lines_of before) (line_of change) kept.0 (subst (λ ls. Follows ls change.clock) (sym view) follows).later,
      short-more (lines_of before) (line_of change) kept.1 (carried-short text (line_of change) carries),
    ))

-- a text whose line can't follow
pub stops-here : (script : List Line) (text : List ℕ) (line : Line) → is_skipped text ≡ false → Carries text line → (Follows script line.clock → ⊥) → Stops script text
stops-here script text line kept carries not = record {
  kept = kept;
  none = λ other c follows. not (subst (λ (l : Line). Follows script l.clock) (carried-one text other line c carries) follows);
}

-- whether a line may follow is told by the last one
pub follows-last : (script : List Line) (changes : List Change) (last : Change) (clock : ℕ) → lines_of changes ≡ script → IsKept changes → length script < most_lines → 0 < length changes → last ≡ get_or changes (length changes - 1) last → (IsTrue (nat_lt last.clock clock) → Follows script clock) × (Follows script clock → IsTrue (nat_lt last.clock clock))
follows-last script changes last clock view kept room some is = (
  λ less. record { room = room; later = λ k h. omega (arith, ltb-true _ _ less, at_last, subst (λ ls. clock_of ls k ≤ clock_of ls (length changes - 1)) view (clock_of-le (lines_of changes) k (length changes - 1) kept.0 (omega (arith, len)) (omega (arith, length-lines_of changes)))) },
  λ follows. lt-ltb _ _ (omega (arith, at_last, follows.later (length changes - 1) (omega (arith, len)))),
)
  where
    len : length script ≡ length changes
    len = ap length (sym view) ∙ length-lines_of changes

    at_last : clock_of script (length changes - 1) ≡ last.clock
    at_last = (kept-at script changes (length changes - 1) last view (omega arith) is).clock
