use Rattle.std.proofs.Common.{Some, sym, ap, ◌∙◌}
use Rattle.p8_tree.specs.Views.{variable_of}
use Rattle.p8_grammar.specs.Lexemes.{behind}
use Rattle.p8_grammar.specs.Machine.{assign_frame, state}
use Rattle.p8_grammar.specs.Views.{setting_of}
use Rattle.p8_expr.proofs.Stepping.{past_within}
use Rattle.p8_expr.proofs.reading.Reader.assign_to.Goals as goal

pub returns : goal.returns
returns c = λ st lt steps.
    let ahead = c.args.self.now.ahead in
    let next = c.advance.new.self in
    let last = c.stand_in.new.self in
    let f = assign_frame c.args.operator c.args.place (variable_of c.args.variable) in
    let set = c.behind-setting.ensures ∙ ap (λ x. behind (setting_of x)) c.advance.ensures.setting_is in (
      steps ∙ (λ i. Some (state (sym (ap setting_of c.stand_in.ensures.2 ∙ set) i) (sym c.new.ensures.0 i) (sym c.in_ok-push.ensures i))),
      lt,
      past_within ahead next last c.advance.ensures c.stand_in.ensures.0 c.stand_in.ensures.1,
      c.new.ensures.1,
    )
