use Rattle.std.proofs.Common.{◌∙◌, ◌++◌, ap, sym, append-nil}
use Rattle.p8_tree.specs.Expressions.{node}
use Rattle.p8_tree.specs.Views.{form_of}
use Rattle.p8_tree.specs.Bridges.{strings_is, built_is, look_is}
use Rattle.p8_hint.specs.Rules.{in_test}
use Rattle.p8_hint.specs.Tables.{facts_of}
use Rattle.p8_hint.proofs.Others.{call_tested}
use Rattle.p8_hint.proofs.rules.put_test.Goals as goal

pub returns-in-Call : goal.returns-in-Call
returns-in-Call c =
    let f = facts_of c.args.facts.now in
    let place = c.args.test.now.place in
    sym (append-nil c.args.hints.now.items)
    ∙ ap (λ m. c.args.hints.now.items ++ m) (call_tested f place c.in-Call.field-0 ∙ sym (ap (λ k. in_test f (node place (form_of k))) c.in-Call.is))

pub returns-in-Strings : goal.returns-in-Strings
returns-in-Strings c =
    let f = facts_of c.args.facts.now in
    let place = c.args.test.now.place in
    sym (append-nil c.args.hints.now.items)
    ∙ ap (λ m. c.args.hints.now.items ++ m) (sym (ap (λ k. in_test f (node place (form_of k))) c.in-Strings.is ∙ ap (λ g. in_test f (node place g)) (strings_is c.in-Strings.field-0)))

pub returns-in-Built : goal.returns-in-Built
returns-in-Built c =
    let f = facts_of c.args.facts.now in
    let place = c.args.test.now.place in
    sym (append-nil c.args.hints.now.items)
    ∙ ap (λ m. c.args.hints.now.items ++ m) (sym (ap (λ k. in_test f (node place (form_of k))) c.in-Built.is ∙ ap (λ g. in_test f (node place g)) (built_is c.in-Built.field-0 c.in-Built.field-1)))

pub returns-in-Look : goal.returns-in-Look
returns-in-Look c =
    let f = facts_of c.args.facts.now in
    let place = c.args.test.now.place in
    sym (append-nil c.args.hints.now.items)
    ∙ ap (λ m. c.args.hints.now.items ++ m) (sym (ap (λ k. in_test f (node place (form_of k))) c.in-Look.is ∙ ap (λ g. in_test f (node place g)) (look_is c.in-Look.field-0 c.in-Look.field-1 c.in-Look.field-2)))
