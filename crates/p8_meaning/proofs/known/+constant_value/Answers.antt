use Rattle.std.proofs.Common.{sym, ap, ◌∙◌}
use Rattle.p8_tree.specs.Expressions.{node}
use Rattle.p8_tree.specs.Views.{form_of}
use Rattle.p8_tree.specs.Bridges.{strings_is}
use Rattle.p8_fold.specs.ConstantEntries.{setting_of}
use Rattle.p8_fold.proofs.ValueRows.{call_form}
use Rattle.p8_meaning.specs.Constants.{constants_in, constant_value}
use Rattle.p8_meaning.proofs.known.+constant_value.Goals as goal

pub returns-in-Call : goal.returns-in-Call
returns-in-Call t c =
    let cs = constants_in (setting_of c.args.consts.now) in
    let p = c.args.expr.now.place in
    sym (ap (λ k. constant_value cs (node p (form_of k))) c.in-Call.is ∙ ap (λ f. constant_value cs (node p f)) (call_form c.in-Call.field-0))

pub returns-in-Strings : goal.returns-in-Strings
returns-in-Strings t c =
    let cs = constants_in (setting_of c.args.consts.now) in
    let p = c.args.expr.now.place in
    sym (ap (λ k. constant_value cs (node p (form_of k))) c.in-Strings.is ∙ ap (λ f. constant_value cs (node p f)) (strings_is c.in-Strings.field-0))
