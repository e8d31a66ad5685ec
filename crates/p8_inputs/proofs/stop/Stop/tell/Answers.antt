use Rattle.std.proofs.Common.{subst, sym, ℕ, List, [], ◌∷◌, ◌++◌, codes}
use Rattle.p8_io.specs.Sinks.{Wrote}
use Rattle.p8_inputs.specs.declared.stop.Stop.{Stop}
use Rattle.p8_inputs.specs.Stops.{line_of}
use Rattle.p8_inputs.proofs.stop.Stop.tell.Goals as goal

pub returns-in-Unread-clause-wrote : goal.returns-in-Unread-clause-wrote
returns-in-Unread-clause-wrote g c =
    let written = subst (λ (file : List ℕ). Wrote (g.E.Sink.faults c.args.faults.now) (g.E.Sink.faults c.tell_unread.new.faults) (g.E.Sink.taken c.args.faults.now) (g.E.Sink.taken c.tell_unread.new.faults) (codes "prop: cannot read " ++ file ++ 10 ∷ [])) c.as_slice.ensures c.tell_unread.ensures.wrote in
    subst (λ (stop : Stop). Wrote (g.E.Sink.faults c.args.faults.now) (g.E.Sink.faults c.tell_unread.new.faults) (g.E.Sink.taken c.args.faults.now) (g.E.Sink.taken c.tell_unread.new.faults) (line_of stop)) (sym c.in-Unread.is) written
