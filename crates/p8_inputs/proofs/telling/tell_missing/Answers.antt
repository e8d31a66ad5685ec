use Rattle.std.proofs.Common.{◌≡◌, subst, ℕ, List, [], ◌∷◌, ◌++◌, codes, append_assoc, sym, ap}
use Rattle.p8_io.specs.Sinks.{Wrote}
use Rattle.p8_inputs.proofs.telling.tell_missing.Goals as goal

-- the pieces of the line, one after the other
joined : (file : List ℕ) → codes "prop: " ++ (file ++ (codes " is missing" ++ 10 ∷ [])) ≡ codes "prop: " ++ file ++ codes " is missing" ++ 10 ∷ []
joined file = ap (λ (rest : List ℕ). codes "prop: " ++ rest) (sym (append_assoc file (codes " is missing") (10 ∷ [])))

pub returns-clause-wrote : goal.returns-clause-wrote
returns-clause-wrote g c =
    subst (λ (line : List ℕ). Wrote (g.E.Sink.faults c.args.faults.now) (g.E.Sink.faults c.write_pieces.new.sink) (g.E.Sink.taken c.args.faults.now) (g.E.Sink.taken c.write_pieces.new.sink) line) (joined c.args.file.now) c.write_pieces.ensures.wrote
