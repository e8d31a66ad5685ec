use Rattle.std.proofs.Common.{◌≡◌, subst, ℕ, List, [], ◌∷◌, ◌++◌, codes, append_assoc}
use Rattle.p8_io.specs.Sinks.{Wrote}
use Rattle.p8_finish.proofs.checks.tell_words.Goals as goal

-- the pieces of the line, one after the other
joined : (history turn cause : List ℕ)
    → codes "prop: " ++ (history ++ (codes ": turn " ++ (turn ++ (codes " " ++ (cause ++ 10 ∷ [])))))
    ≡ codes "prop: " ++ history ++ codes ": turn " ++ turn ++ codes " " ++ cause ++ 10 ∷ []
joined history turn cause = simp append_assoc

pub returns-clause-wrote : goal.returns-clause-wrote
returns-clause-wrote g c =
    subst (λ (text : List ℕ). Wrote (g.E.Sink.faults c.args.faults.now) (g.E.Sink.faults c.write_pieces.new.sink) (g.E.Sink.taken c.args.faults.now) (g.E.Sink.taken c.write_pieces.new.sink) text) (joined c.args.history.now c.args.turn.now c.args.cause.now) c.write_pieces.ensures.wrote
