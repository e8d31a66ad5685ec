use Rattle.std.proofs.lemmas.Result.{on_ok_weaker}
use Rattle.p8_view.proofs.Showing.{where_hidden, where_shown}
use Rattle.p8_view.proofs.turns.Showing.push_turn.Goals as goal

pub returns-then-not-shows-clause-text : goal.returns-then-not-shows-clause-text
returns-then-not-shows-clause-text c = λ w past are rate.
    let before = c.drives-before.ensures w past are in
    let after = c.drives-after.ensures w _ (c.record_turn.ensures w past are) in
    where_hidden c.args.self.now.options.now c.args.self.now.legend.now w past c.args.turn.now c.args.counter c.shows.result c.args.out.now.items (c.shows.ensures past (c.left-left.ensures w past are) before after) c.if-not-shows.true

pub returns-clause-text : goal.returns-clause-text
returns-clause-text c = λ w past are rate.
    let before = c.drives-before.ensures w past are in
    let after = c.drives-after.ensures w _ (c.record_turn.ensures w past are) in
    on_ok_weaker c.push_line.result
    (where_shown c.args.self.now.options.now c.args.self.now.legend.now w past c.args.turn.now c.args.counter c.shows.result _ _ (c.shows.ensures past (c.left-left.ensures w past are) before after) c.if-not-shows.false)
    (c.push_line.ensures w past (c.origin-own.ensures w past are) before after rate)
