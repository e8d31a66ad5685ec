use Rattle.std.proofs.Common.{◌∙◌, ap, List, ◌++◌, ℕ, ◌+◌, ◌*◌, drop, flat_map, true, arith}
use Rattle.std.proofs.lemmas.List.{drop_more}
use Rattle.p8_serial.specs.Typed.{frame_of, line_at, line_text, lines_from, typed_text, sent}
use Rattle.p8_serial.proofs.Rows.{one-byte}
use Rattle.p8_serial.proofs.sending.typed.Goals as goal

pub loop-byte-init : goal.loop-byte-init
unfolding typed_text sent
loop-byte-init c = record {
  lines = ap (λ (out : List ℕ). out ++ flat_map line_text (lines_from c.args.pin c.args.bits c.args.start true (flat_map frame_of c.args.bytes.now)))
      (c.in_ok-push_line.ensures ∙ ap (λ (out : List ℕ). out ++ line_text (line_at c.args.pin 0 true)) c.new-out.ensures.items);
  clock = omega arith;
}

pub loop-byte-preserved : goal.loop-byte-preserved
loop-byte-preserved c =
    let i = c.loop-byte.byte-index in
    record {
      lines = one-byte c.args.pin c.args.bits c.loop-byte.clock (c.loop-byte.clock + 10 * c.from.result) _ (drop i c.args.bytes.now) (drop (i + 1) c.args.bytes.now) c.frame.result c.loop-byte.out.items c.push_row.new.out.items _
          (drop_more c.args.bytes.now i _ c.loop-byte-test.true) c.frame.ensures c.in_ok-push_row.ensures c.loop-byte.invariant.lines (omega (arith, c.from.ensures));
      clock = omega (arith, c.loop-byte.invariant.clock, c.from.ensures, c.requires.rate.most);
    }
