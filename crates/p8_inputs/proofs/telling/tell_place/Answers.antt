use Rattle.std.proofs.Common.{◌≡◌, subst, ℕ, List, [], ◌∷◌, ◌++◌, codes, append_assoc}
use Rattle.p8_io.specs.Sinks.{Wrote}
use Rattle.p8_inputs.proofs.telling.tell_place.Goals as goal

-- the pieces of the line, one after the other
joined : (file line column number name : List ℕ)
    → codes "prop: " ++ (file ++ (codes ":" ++ (line ++ (codes ":" ++ (column ++ (codes ": " ++ (number ++ (codes " " ++ (name ++ 10 ∷ [])))))))))
    ≡ codes "prop: " ++ file ++ codes ":" ++ line ++ codes ":" ++ column ++ codes ": " ++ number ++ codes " " ++ name ++ 10 ∷ []
joined file line column number name = simp append_assoc

pub returns-clause-wrote : goal.returns-clause-wrote
returns-clause-wrote g c =
    subst (λ (text : List ℕ). Wrote (g.E.Sink.faults c.args.faults.now) (g.E.Sink.faults c.write_pieces.new.sink) (g.E.Sink.taken c.args.faults.now) (g.E.Sink.taken c.write_pieces.new.sink) text) (joined c.args.file.now c.args.line.now c.args.column.now c.args.number.now c.args.name.now) c.write_pieces.ensures.wrote
