use Rattle.std.proofs.Common.{ap, sym, ◌∙◌, arith}
use Rattle.std.specs.List.{list_any}
use Rattle.p8_columns.specs.Lines.{is_repeat}
use Rattle.p8_columns.specs.Reader.{Frame}
use Rattle.p8_columns.proofs.Frames.{drop_frames, loop_found, loop_none}
use Rattle.p8_columns.proofs.stack.Stack.has_loop.Goals as goal

pub returns-then-is_repeat : goal.returns-then-is_repeat
returns-then-is_repeat c = sym (ap (λ k. list_any (λ (f : Frame). is_repeat f.opener.kind) k) (drop_frames c.args.first c.args.self.now) ∙ c.outward.invariant ∙ loop_found c.args.self.now c.outward.index c.at.result.now (omega arith) c.at.ensures (sym c.is_repeat.ensures ∙ c.if-is_repeat.true))

pub returns : goal.returns
returns c = sym (ap (λ k. list_any (λ (f : Frame). is_repeat f.opener.kind) k) (drop_frames c.args.first c.args.self.now) ∙ c.outward.invariant ∙ loop_none c.args.self.now c.outward.index (omega arith))
