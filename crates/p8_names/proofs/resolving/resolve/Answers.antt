use Rattle.std.proofs.Common.{subst}
use Rattle.p8_tree.specs.Views.{source_of}
use Rattle.p8_constants.specs.Standing.{IsFirstOf}
use Rattle.p8_names.specs.Faults.{IsNameFault}
use Rattle.p8_names.proofs.AllMethods.{is_named, first_of_all}
use Rattle.p8_names.proofs.resolving.resolve.Goals as goal

pub returns-in-Some-clause-refused : goal.returns-in-Some-clause-refused
returns-in-Some-clause-refused c =
    let file = source_of c.args.file.now in
    let children = c.args.children.now in
    subst (λ o. IsFirstOf o (IsNameFault file children c.args.top)) c.in-Some.is
    (first_of_all file children c.args.top c.in_ok-begun.begun c.first_broken_rule.new.begun.fault c.in_ok-broken.broken c.first_of_two.result c.in_ok-begun.ensures c.in_ok-broken.ensures.constants c.in_ok-broken.ensures.fault c.first_of_two.ensures)

pub returns-clause-named : goal.returns-clause-named
returns-clause-named c =
    let file = source_of c.args.file.now in
    let children = c.args.children.now in
    is_named file children c.args.top c.in_ok-begun.begun c.first_broken_rule.new.begun.scope.kinds c.in_ok-begun.ensures c.in_ok-broken.ensures.kinds
    (subst (λ o. IsFirstOf o (IsNameFault file children c.args.top)) c.in-None.is
    (first_of_all file children c.args.top c.in_ok-begun.begun c.first_broken_rule.new.begun.fault c.in_ok-broken.broken c.first_of_two.result c.in_ok-begun.ensures c.in_ok-broken.ensures.constants c.in_ok-broken.ensures.fault c.first_of_two.ensures))
