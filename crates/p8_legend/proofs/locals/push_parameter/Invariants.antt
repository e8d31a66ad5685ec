use Rattle.std.proofs.Common.{◌≡◌, length}
use Rattle.p8_legend.specs.Frames.{parameter_text}
use Rattle.p8_legend.proofs.locals.push_parameter.Given as goal

abbrev pub invariant-loop-names : goal.invariant-loop-names
invariant-loop-names l = record {
  same : l.out.items ≡ l.initial.out.items;
  rest : parameter_text l.method l.offset l.names l.locals ≡ parameter_text l.method l.initial.offset l.initial.names l.locals;
}

abbrev pub decreases-loop-names : goal.decreases-loop-names
decreases-loop-names l = length l.names
