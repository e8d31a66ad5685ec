use Rattle.std.proofs.Common.{◌≡◌, ◌++◌, ℕ, Bool, map, sym, ap, ◌∙◌, arith}
use Rattle.std.specs.List.{range_with_len}
use Rattle.p8_access.specs.Hub.{is_taken, is_set}
use Rattle.p8_report.specs.Text.{lock_glyph}
use Rattle.p8_report.proofs.Ranges.{map_step}
use Rattle.p8_report.proofs.tail.push_lock_letters.Goals as goal

pub loop-lock-preserved : goal.loop-lock-preserved
loop-lock-preserved c = λ w past h.
    let letter : lock_glyph (is_taken past c.loop-lock.lock) (is_set past c.loop-lock.lock) ≡ c.lock_letter.result =
    sym (c.lock_letter.ensures ∙ ap (λ (both : Bool × Bool). lock_glyph both.0 both.1) (c.lock-taken.ensures w past h)) in
    map_step (λ (lock : ℕ). lock_glyph (is_taken past lock) (is_set past lock)) c.loop-lock.lock _ _ _ (c.loop-lock.invariant w past h) (rw letter c.in_ok-push_text.ensures)

pub returns : goal.returns
returns c = λ w past h.
    let all : c.loop-lock.lock ≡ 8 = omega arith in
    c.loop-lock.invariant w past h ∙ ap (λ (n : ℕ). c.args.out.now.items ++ map (λ (lock : ℕ). lock_glyph (is_taken past lock) (is_set past lock)) (range_with_len 0 n)) all
