use Rattle.std.proofs.Common.{◌≡◌, ◌+◌, sym, ap, ◌∙◌, arith}
use Rattle.std.specs.Prelude.{Some, min, max, ◌∷◌}
use Rattle.p8_tree.specs.Views.{variable_of}
use Rattle.p8_grammar.specs.Lexemes.{equal, behind}
use Rattle.p8_grammar.specs.Heights.{height_in_variable}
use Rattle.p8_grammar.specs.Machine.{becoming, assign_frame, fresh, state}
use Rattle.p8_grammar.specs.Views.{setting_of}
use Rattle.p8_grammar.proofs.Stuck.{denied}
use Rattle.p8_expr.specs.Views.{frames_in, is_word}
use Rattle.p8_expr.specs.Lookaheads.{next_place, next_word}
use Rattle.p8_expr.proofs.Stepping.{within_here, becoming_breaks, equal_becomes, equal_turns}
use Rattle.p8_expr.proofs.reading.Reader.await_equal.Goals as goal

pub returns-then-has_equal : goal.returns-then-has_equal
returns-then-has_equal c = λ st l lt steps.
    let ahead = c.args.self.now.ahead in
    let next = c.advance.new.self in
    let s = setting_of ahead.setting in
    let k = frames_in c.args.self.now.stack in
    let v = variable_of c.args.variable in
    let to = becoming s c.args.code c.place-place.result v k in
    let equal = c.has_equal.ensures.0 c.if-has_equal.true in
    equal_turns l st to ahead next c.assign_to.new.self c.advance.ensures lt
    (steps ∙ ap (λ p. Some (becoming s c.args.code p v k)) (sym c.place-place.ensures))
    (c.in_ok-assign_to.ensures to (within_here next (ap is_word equal))
    (equal_becomes s c.args.code c.place-place.result (next_place next) v k (next_word next) equal ∙ ap (λ x. Some (state (behind (setting_of x)) fresh (assign_frame (Some c.args.code) c.place-place.result v ∷ k))) (sym c.advance.ensures.setting_is)))

pub returns : goal.returns
returns c = λ st l lt steps.
    let ahead = c.args.self.now.ahead in
    let next = c.advance.new.self in
    let v = variable_of c.args.variable in
    let low : c.over.result ≡ min 65 (1 + max (height_in_variable v) 1) = omega (arith, c.over.ensures, c.max.ensures, c.requires.high) in
    becoming_breaks l st ahead next c.args.self.now (setting_of ahead.setting) c.args.code (next_place ahead) v (frames_in c.args.self.now.stack) c.over.result c.least-least.result c.at.result c.at.ensures c.advance.ensures lt steps
    (denied c.has_equal.result c.if-has_equal.false c.has_equal.ensures.1) low c.least-least.ensures
