use Rattle.std.proofs.Common.{◌≡◌, length}
use Rattle.p8_legend.specs.Frames.{local_text}
use Rattle.p8_legend.proofs.locals.push_local.Given as goal

abbrev pub invariant-loop-locals : goal.invariant-loop-locals
invariant-loop-locals l = record {
  same : l.out.items ≡ l.initial.out.items;
  rest : local_text l.method l.offset l.locals ≡ local_text l.method l.initial.offset l.initial.locals;
}

abbrev pub decreases-loop-locals : goal.decreases-loop-locals
decreases-loop-locals l = length l.locals
