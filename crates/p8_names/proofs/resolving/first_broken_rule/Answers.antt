use Rattle.std.proofs.Common.{◌⊎◌, subst}
use Rattle.p8_fold.specs.ConstantEntries.{setting_of}
use Rattle.p8_constants.specs.Standing.{items_of, IsFirstOf}
use Rattle.p8_names.specs.Resolving.{RepeatInFile, BrokenByItems, MisusedBy}
use Rattle.p8_names.proofs.TwoFaults.{two_first}
use Rattle.p8_names.proofs.resolving.first_broken_rule.Goals as goal

pub returns-clause-fault : goal.returns-clause-fault
returns-clause-fault c =
    let old = c.args.begun.now in
    let kinds = old.scope.kinds in
    let publics = old.scope.publics in
    let s = setting_of old.scope.consts in
    let xs = items_of old.items.items in
    let top = c.args.top in
    two_first (λ f. RepeatInFile xs f ⊎ BrokenByItems s xs top f) (MisusedBy kinds publics s xs) c.first_of_two.result c.in_ok-misused.misused c.first_of_two-2.ensures
    (two_first (RepeatInFile xs) (BrokenByItems s xs top) c.in_ok-repeat.repeat c.first_broken-broken.result c.first_of_two.ensures
    (subst (λ ys. IsFirstOf c.in_ok-repeat.repeat (RepeatInFile (items_of ys))) c.deref.ensures.value c.in_ok-repeat.ensures)
    (subst (λ ys. IsFirstOf c.first_broken-broken.result (BrokenByItems s (items_of ys) top)) c.deref-3.ensures.value c.first_broken-broken.ensures))
    (subst (λ ys. IsFirstOf c.in_ok-misused.misused (MisusedBy kinds publics s (items_of ys))) c.deref-4.ensures.value c.in_ok-misused.ensures.fault)
