-- The sections that a walk writes.
use Rattle.std.proofs.Common.{◌≡◌, ◌∙◌, refl, sym, ap, ℕ, ◌+◌, ◌-◌, ◌<◌, ◌≤◌, nat_eq, List, [], ◌∷◌, ◌++◌, map, Bool, true, false, ◌||◌, if◌then◌else◌, filter, append_assoc, arith, inl, inr}
use Rattle.std.specs.List.{list_any, flat_map, range_with_len}
use Rattle.std.proofs.lemmas.List.{append-nil}
use Rattle.std.proofs.lemmas.List.Concat.{flat_map-append}
use Rattle.std.proofs.lemmas.Bool.Decides.{nat_tests}
use Rattle.std.proofs.lemmas.Bool.{cases_lt}
use Rattle.p8_access.specs.declared.order.Turn.{Turn}
use Rattle.p8_access.specs.Worlds.{World}
use Rattle.p8_access.specs.Histories.{Rises}
use Rattle.p8_access.specs.Pins.{pins_with, dira, outputs}
use Rattle.p8_pins.specs.Matches.{IsBefore}
use Rattle.p8_pins.specs.Levels.{by, end_of}
use Rattle.p8_wave.specs.declared.courses.Course.{Course}
use Rattle.p8_wave.specs.declared.entries.Entry.{Entry}
use Rattle.p8_wave.specs.declared.snapshot.Snapshot.{Snapshot}
use Rattle.p8_wave.specs.declared.variables.Variable.{Variable}
use Rattle.p8_wave.specs.Variables.{IsVariable}
use Rattle.p8_wave.specs.Values.{value_at, changes_at, changes}
use Rattle.p8_wave.specs.Scale.{time_of}
use Rattle.p8_wave.specs.Wave.{section_text, end_section, changes_text}
use Rattle.p8_wave.specs.Following.{AreSignals}
use Rattle.p8_wave.specs.Walks.{IsAt, IsLater, Shows}
use Rattle.p8_wave.specs.Sections.{AreVariables, entry_of, still, marked, some_differ, section_of, changed_by, sections_by, IsDone}
use Rattle.p8_wave.proofs.Ranges.{none, none_any, more_clocks, more_any, all_any}
use Rattle.p8_wave.proofs.Sectioning.{any_from, marked_from, section_all}
use Rattle.p8_wave.proofs.Picturing.{at_later, shows_at}

-- entries agree where their tests do
entries_agree : (p q : Variable → Bool) → ((v : Variable) → IsVariable v → p v ≡ q v) → (vs : List Variable) → AreVariables vs → map (entry_of p) vs ≡ map (entry_of q) vs
entries_agree p q agree [] all = refl
entries_agree p q agree (v ∷ vs) (is, all) = rw (agree v is, entries_agree p q agree vs all) refl

none_of : (f : Variable → Bool) → ((v : Variable) → IsVariable v → f v ≡ false) → (vs : List Variable) → AreVariables vs → list_any f vs ≡ false
none_of f never [] all = refl
none_of f never (v ∷ vs) (is, all) = rw (never v is) (none_of f never vs all)

module _ (w : World) (past : List Turn) (vs : List Variable) (are : AreVariables vs) where
  -- a clock at which some variable changes
  abbrev changes_some : ℕ → Bool
  changes_some c = list_any (changes_at w past c) vs

  -- nothing changes at a clock where one snapshot shows the values at it and at the clock before
  quiet_at : (u : ℕ) (p : Snapshot) → Shows w past (u - 1) p → Shows w past u p → (v : Variable) → IsVariable v → changes_at w past u v ≡ false
  quiet_at u p old new v is = let e : value_at w past (u - 1) v ≡ value_at w past u v = sym (old.values v is) ∙ new.values v is in grind (arith, nat_tests)

  -- a walk has come to a clock, and no turn and no line of the script comes before the next
  module _ (clock next : ℕ) (left : List Turn) (course : Course) (p : Snapshot) (rises : Rises past) (at : IsAt w past clock left course) (within : next ≤ end_of w past)
      (quiet : (u : ℕ) → u < next → IsLater u left × IsBefore u course.span.end) (low : clock ≤ next - 1) (signals : p.signals ≡ course.signals)
      (pins : (turns : List Turn) → AreSignals w turns course.signals → p.pins ≡ pins_with (dira turns) (outputs turns) course.span.levels) where
    at_one : (u : ℕ) → clock ≤ u → u < next → IsAt w past u left course
    at_one u up below = at_later w past clock u left course rises up (quiet u below).0 (quiet u below).1 at

    shows_one : (u : ℕ) → clock ≤ u → u < next → Shows w past u p
    shows_one u up below = let here = at_one u up below in shows_at w past u left course p here (omega arith) signals (pins (by past u) here.signals)

    pub at_last : IsAt w past (next - 1) left course
    at_last = elim (cases_lt 0 next) [
      | inl h ↦ at_one (next - 1) low (omega arith)
      | inr h ↦ let e : next - 1 ≡ clock = omega arith in rw e at
    ]

    pub shows_last : clock ≤ end_of w past - 1 → Shows w past (next - 1) p
    shows_last small = elim (cases_lt 0 next) [
      | inl h ↦ shows_one (next - 1) low (omega arith)
      | inr h ↦ let e : next - 1 ≡ clock = omega arith in rw e (shows_at w past clock left course p at small signals (pins (by past clock) at.signals))
    ]

    quiet_one : (u : ℕ) → clock < u → u ≤ next - 1 → (v : Variable) → IsVariable v → changes_at w past u v ≡ false
    quiet_one u up below = quiet_at u p (shows_one (u - 1) (omega arith) (omega arith)) (shows_one u (omega arith) (omega arith))

    quiet_some : (u : ℕ) → clock < u → u ≤ next - 1 → changes_some u ≡ false
    quiet_some u up below = none_of (changes_at w past u) (quiet_one u up below) vs are

    -- at the begin
    pub begun : clock ≡ 0 → (next < end_of w past → 0 < next) → (text : List ℕ) (entries : List Entry) → entries ≡ map still vs → IsDone w past vs next left course p entries text text
    begun first some text entries unchanged =
        let nothing = none changes_some 1 (next - 1) (λ u up below. quiet_some u (omega arith) (omega arith)) in
        record {
          within = within;
          some = some;
          at = at_last;
          shows = shows_last (omega arith);
          told = unchanged ∙ entries_agree (λ _. false) (changed_by w past (next - 1)) (λ v is. sym (none_any (λ c. changes_at w past c v) 1 (next - 1) (λ u up below. quiet_one u (omega arith) (omega arith) v is))) vs are;
          written = sym (append-nil text) ∙ ap (λ cs. text ++ flat_map (section_text w past vs) cs) (sym nothing);
        }

    -- one event more
    module _ (left₀ : List Turn) (course₀ : Course) (old : Snapshot) (entries₀ entries : List Entry) (before text₀ text : List ℕ) (time : ℕ)
        (done : IsDone w past vs clock left₀ course₀ old entries₀ before text₀) (inside : clock < end_of w past) (later : clock < next) (is_time : time ≡ time_of w clock)
        (new_entries : entries ≡ map (marked old p) entries₀)
        (new_text : text ≡ text₀ ++ (if some_differ old p entries₀ then section_of time old p entries else [])) where
      shows_now : Shows w past clock p
      shows_now = shows_at w past clock left course p at (omega arith) signals (pins (by past clock) at.signals)

      first : clock ≡ clock - 1 + 1
      first = let positive = done.some inside in omega arith

      marked_now : entries ≡ map (entry_of (λ (v : Variable). changes_at w past clock v || changed_by w past (clock - 1) v)) vs
      marked_now =
          new_entries ∙ ap (map (marked old p)) done.told
          ∙ marked_from w past clock (clock - 1) old p refl done.shows shows_now (changed_by w past (clock - 1)) vs are

      some_now : some_differ old p entries₀ ≡ changes_some clock
      some_now =
          ap (some_differ old p) done.told
          ∙ any_from w past clock (clock - 1) old p refl done.shows shows_now (changed_by w past (clock - 1)) vs are

      section_now : section_of time old p entries ≡ section_text w past vs clock
      section_now =
          ap (section_of time old p) marked_now
          ∙ section_all w past clock (clock - 1) old p refl done.shows shows_now (λ (v : Variable). changes_at w past clock v || changed_by w past (clock - 1) v) vs are time is_time

      section_if : (b : Bool) → flat_map (section_text w past vs) (if b then clock ∷ [] else []) ≡ (if b then section_text w past vs clock else [])
      section_if true = append-nil (section_text w past vs clock)
      section_if false = refl

      text_now : text ≡ before ++ sections_by w past vs (next - 1)
      text_now =
          new_text
          ∙ ap (λ b. text₀ ++ (if b then section_of time old p entries else [])) some_now
          ∙ ap (λ xs. text₀ ++ (if changes_some clock then xs else [])) section_now
          ∙ ap (λ xs. text₀ ++ xs) (sym (section_if (changes_some clock)))
          ∙ ap (λ xs. xs ++ flat_map (section_text w past vs) (if changes_some clock then clock ∷ [] else [])) done.written
          ∙ append_assoc before (sections_by w past vs (clock - 1)) (flat_map (section_text w past vs) (if changes_some clock then clock ∷ [] else []))
          ∙ ap (λ xs. before ++ xs) (sym (flat_map-append (section_text w past vs) (filter changes_some (range_with_len 1 (clock - 1))) (if changes_some clock then clock ∷ [] else [])))
          ∙ ap (λ cs. before ++ flat_map (section_text w past vs) cs) (sym (more_clocks changes_some (next - 1) (clock - 1) clock first (omega arith) quiet_some))

      pub stepped : IsDone w past vs next left course p entries before text
      stepped = record {
        within = within;
        some = λ _. omega arith;
        at = at_last;
        shows = shows_last (omega arith);
        told = marked_now ∙ entries_agree (λ (v : Variable). changes_at w past clock v || changed_by w past (clock - 1) v) (changed_by w past (next - 1)) (λ v is. sym (more_any (λ c. changes_at w past c v) (next - 1) (clock - 1) clock first (omega arith) (λ u up below. quiet_one u up below v is))) vs are;
        written = text_now;
      }

  -- the end
  module _ (left : List Turn) (course : Course) (old new : Snapshot) (entries₀ entries : List Entry) (before text₀ : List ℕ) (time : ℕ)
      (done : IsDone w past vs (end_of w past) left course old entries₀ before text₀) (is_time : time ≡ time_of w (end_of w past))
      (shows_new : Shows w past (end_of w past) new)
      (new_entries : entries ≡ map (marked old new) entries₀) where
    marked_end : entries ≡ map (entry_of (λ (v : Variable). changes_at w past (end_of w past) v || changed_by w past (end_of w past - 1) v)) vs
    marked_end =
        new_entries ∙ ap (map (marked old new)) done.told
        ∙ marked_from w past (end_of w past) (end_of w past - 1) old new refl done.shows shows_new (changed_by w past (end_of w past - 1)) vs are

    never_first : (v : Variable) → changes_at w past 0 v ≡ false
    never_first v = grind (arith, nat_tests)

    pub end_entries : entries ≡ map (entry_of (changes w past)) vs
    end_entries = marked_end ∙ entries_agree _ (changes w past) (λ v is. sym (all_any (λ c. changes_at w past c v) (end_of w past) (never_first v))) vs are

    section_end : section_of time old new entries ≡ section_text w past vs (end_of w past)
    section_end =
        ap (section_of time old new) marked_end
        ∙ section_all w past (end_of w past) (end_of w past - 1) old new refl done.shows shows_new (λ (v : Variable). changes_at w past (end_of w past) v || changed_by w past (end_of w past - 1) v) vs are time is_time

    pub end_text : (end : ℕ) (text : List ℕ) → end ≡ end_of w past → text ≡ text₀ ++ (if nat_eq end 0 then [] else section_of time old new entries) → text ≡ before ++ changes_text w past vs
    end_text end text is_end new_text =
        new_text
        ∙ ap (λ (e : ℕ). text₀ ++ (if nat_eq e 0 then [] else section_of time old new entries)) is_end
        ∙ ap (λ xs. text₀ ++ (if nat_eq (end_of w past) 0 then [] else xs)) section_end
        ∙ ap (λ xs. xs ++ end_section w past vs (end_of w past)) done.written
        ∙ append_assoc before (sections_by w past vs (end_of w past - 1)) (end_section w past vs (end_of w past))
