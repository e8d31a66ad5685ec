use Rattle.std.proofs.Common.{◌≡◌, map, Bor, ap, ◌∙◌, subst}
use Rattle.p8_tree.specs.declared.sources.Method.{Method}
use Rattle.p8_tree.specs.Sources.{MethodTree}
use Rattle.p8_tree.specs.Views.{method_of}
use Rattle.p8_fold.specs.ConstantEntries.{setting_of}
use Rattle.p8_constants.specs.Standing.{items_of, IsFirstOf}
use Rattle.p8_names.specs.Kinds.{numbered}
use Rattle.p8_names.specs.Faults.{InMethods, UnknownInLines, labels_ahead}
use Rattle.p8_names.specs.Looking.{IsFaultIn}
use Rattle.p8_names.specs.Regions.{environment_at}
use Rattle.p8_names.proofs.MethodSteps.{lines_still}
use Rattle.p8_names.proofs.TwoFaults.{two_first}
use Rattle.p8_names.proofs.resolving.first_misused.Goals as goal

abbrev tree : Bor Method → MethodTree
tree m = method_of m.now

pub returns-clause-fault : goal.returns-clause-fault
returns-clause-fault c =
    let old = c.args.scope.now in
    let now = c.look_at_all.new.scope in
    let s = setting_of old.consts in
    let xs = items_of c.args.items.now in
    let looked = c.in_ok-in_methods.ensures in
    let Rule = IsFaultIn old.kinds old.publics s in
    let is : map tree c.deref.result.now ≡ numbered xs = ap (map tree) c.deref.ensures.value ∙ c.in_ok-methods.ensures in
    two_first (InMethods Rule (numbered xs)) (UnknownInLines (environment_at old.kinds old.publics s) (labels_ahead xs) xs) c.in_ok-in_methods.in_methods c.in_ok-in_lines.in_lines c.first_of_two.ensures
    (subst (λ ms. IsFirstOf c.in_ok-in_methods.in_methods (InMethods Rule ms)) is looked.fault)
    (lines_still old.kinds now.kinds old.publics now.publics s (setting_of now.consts) (labels_ahead xs) xs c.in_ok-in_lines.in_lines looked.kinds.file looked.publics looked.consts c.in_ok-in_lines.ensures.fault)
