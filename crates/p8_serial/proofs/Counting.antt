-- What a receiver has done so far.
use Rattle.std.proofs.Common.{◌≡◌, ◌∙◌, ap, sym, subst, ℕ, ◌+◌, ◌≤◌, Bool, true, false, if◌then◌else◌, List, [], ◌∷◌, ◌++◌, codes, length, filter, append_assoc, add_assoc, arith}
use Rattle.std.specs.Fmt.{decimal}
use Rattle.std.specs.Int.{from_bool}
use Rattle.std.proofs.lemmas.List.{length-map, append-nil}
use Rattle.p8_access.specs.Worlds.{Line, level_at, levels_after}
use Rattle.p8_pins.specs.declared.change.Change.{Change}
use Rattle.p8_pins.specs.Levels.{is_high}
use Rattle.p8_pins.specs.LevelChanges.{line_of, lines_of, RiseFrom, IsLater, Ahead, HasPassed}
use Rattle.p8_pins.proofs.Passing.{passed-agrees, passed-rise, rise-later}
use Rattle.p8_serial.specs.declared.frames.Frame.{Frame}
use Rattle.p8_serial.specs.Serial.{stop_of, frames, falling_edges, is_good, serial_by}
use Rattle.p8_serial.specs.Receiving.{falls_in, IsReceiving, IsNext, line_of_frame, lines_to_come, good_to_come, HasReceived}
use Rattle.p8_serial.proofs.Edges.{all-edges}
use Rattle.p8_serial.proofs.Receiving.{passed-fewer}

module _ (pin bits end : ℕ) (changes : List Change) (first cur : Ahead) (low : first.pins ≡ 0) (all : first.changes ≡ lines_of changes) (rise : RiseFrom 0 (lines_of changes)) (passed : HasPassed 0 first cur) (later : IsLater 0 cur.changes) where
  starts : IsReceiving (λ t. is_high pin (level_at (lines_of changes) t)) pin 0 cur
  starts = record {
    levels = λ t le. ap (is_high pin) (passed-agrees 0 t first cur passed le ∙ ap (λ (p : ℕ). levels_after p first.changes t) low ∙ ap (λ (lines : List Line). level_at lines t) all);
    rise = rise-later 0 cur.changes later (passed-rise 0 first cur passed (subst (RiseFrom 0) (sym all) rise));
  }

  pub opened : (text : List ℕ) → text ≡ [] → HasReceived (λ t. is_high pin (level_at (lines_of changes) t)) pin bits end cur text 0
  opened text none =
      let high : ℕ → Bool = λ t. is_high pin (level_at (lines_of changes) t) in
      record {
        after = 0;
        at = starts;
        lines = ap (λ (t : List ℕ). t ++ lines_to_come high bits (frames bits end 0 (falls_in pin cur))) none ∙ ap (lines_to_come high bits) (sym (all-edges bits end high pin cur starts));
        good = omega arith ∙ ap (good_to_come high bits) (sym (all-edges bits end high pin cur starts));
      }

  pub opened-fewer : length cur.changes ≤ length changes
  opened-fewer = omega (arith, passed-fewer 0 first cur passed, ap length all ∙ length-map changes line_of)

module _ (whole : ℕ → Bool) (pin bits end : ℕ) where
  counts-on : (b : Bool) (start : ℕ) (starts : List ℕ) → b ≡ is_good whole bits start → from_bool b + good_to_come whole bits starts ≡ good_to_come whole bits (start ∷ starts)
  counts-on b start starts is = counts b ∙ ap (λ (g : Bool). length (if g then start ∷ filter (is_good whole bits) starts else filter (is_good whole bits) starts)) is
    where
      counts : (b : Bool) → from_bool b + good_to_come whole bits starts ≡ length (if b then start ∷ filter (is_good whole bits) starts else filter (is_good whole bits) starts)
      counts true = omega arith
      counts false = omega arith

  pub goes-on : (cur new : Ahead) (frame : Frame) (text more : List ℕ) (count : ℕ) (h : HasReceived whole pin bits end cur text count) → IsNext whole pin bits end h.after cur frame new → more ≡ text ++ line_of_frame frame → HasReceived whole pin bits end new more (count + from_bool frame.good)
  goes-on cur new frame text more count h n is =
      let rest = frames bits end (stop_of bits frame.start) (falls_in pin new) in
      record {
        after = stop_of bits frame.start;
        at = n.goes_on;
        lines = ap (λ (t : List ℕ). t ++ lines_to_come whole bits rest) is
            ∙ append_assoc text (line_of_frame frame) (lines_to_come whole bits rest)
            ∙ ap (λ (line : List ℕ). text ++ (line ++ lines_to_come whole bits rest)) n.text
            ∙ ap (λ (starts : List ℕ). text ++ lines_to_come whole bits starts) (sym n.next)
            ∙ h.lines;
        good = add_assoc count (from_bool frame.good) (good_to_come whole bits rest)
            ∙ ap (λ (x : ℕ). count + x) (counts-on frame.good frame.start rest n.good ∙ ap (good_to_come whole bits) (sym n.next))
            ∙ h.good;
      }

  pub ended : (cur : Ahead) (text one two three : List ℕ) (count : ℕ) (h : HasReceived whole pin bits end cur text count) → frames bits end h.after (falls_in pin cur) ≡ []
      → one ≡ text ++ codes "bytes " → two ≡ one ++ decimal count → three ≡ two ++ 10 ∷ [] → three ≡ serial_by whole bits end
  unfolding serial_by
  ended cur text one two three count h none bytes number line =
      let all = frames bits end 0 (falling_edges whole end) in
      let lines : text ≡ lines_to_come whole bits all = sym (append-nil text) ∙ ap (λ (starts : List ℕ). text ++ lines_to_come whole bits starts) (sym none) ∙ h.lines in
      let good : count ≡ good_to_come whole bits all = omega arith ∙ ap (λ (starts : List ℕ). count + good_to_come whole bits starts) (sym none) ∙ h.good in
      line ∙ ap (λ (t : List ℕ). t ++ 10 ∷ []) (number ∙ ap (λ (t : List ℕ). t ++ decimal count) bytes)
      ∙ ap (λ (t : List ℕ). ((t ++ codes "bytes ") ++ decimal count) ++ 10 ∷ []) lines
      ∙ ap (λ (n : ℕ). ((lines_to_come whole bits all ++ codes "bytes ") ++ decimal n) ++ 10 ∷ []) good

pub at-most-one : (b : Bool) → from_bool b ≤ 1
at-most-one true = omega arith
at-most-one false = omega arith
