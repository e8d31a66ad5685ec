use Rattle.std.proofs.Common.{◌≡◌, ℕ, ◌+◌, ◌∷◌, drop, map, Some, Bor, ap, sym, ◌∙◌, subst}
use Rattle.std.proofs.lemmas.Option.{slice_get-map, slice_get-get_or}
use Rattle.std.specs.Prelude.{slice_get, option_map}
use Rattle.p8_tree.specs.declared.sources.Method.{Method}
use Rattle.p8_tree.specs.Sources.{MethodTree}
use Rattle.p8_tree.specs.Views.{method_of}
use Rattle.p8_fold.specs.ConstantEntries.{setting_of}
use Rattle.p8_fold.specs.Meanings.{Setting}
use Rattle.p8_constants.proofs.Listed.{rest_is}
use Rattle.p8_constants.proofs.FirstFaults.{IsSoFar, so_far_then}
use Rattle.p8_kinds.specs.FileSettings.{meaning_of_kind}
use Rattle.p8_names.specs.Faults.{InMethods}
use Rattle.p8_names.specs.Looking.{IsFaultIn, HasOwnKinds}
use Rattle.p8_names.proofs.MethodSteps.{methods_more, fault_still}
use Rattle.p8_names.proofs.method_list.look_at_all.Goals as goal

abbrev tree : Bor Method → MethodTree
tree m = method_of m.now

pub look_at-requires-clause-shown : goal.look_at-requires-clause-shown
look_at-requires-clause-shown c = λ n. ap (λ (s : Setting). s.name n) c.loop-index.invariant.2 ∙ c.requires.shown n ∙ ap (option_map meaning_of_kind) (sym (c.loop-index.invariant.1.file n))

pub loop-index-preserved : goal.loop-index-preserved
loop-index-preserved c =
    let old = c.args.scope.now in
    let now = c.loop-index.scope in
    let new = c.look_at.new.scope in
    let s = setting_of old.consts in
    let xs = c.args.methods.now in
    let i = c.loop-index.index in
    let x = c.index-methods-index.result in
    let m = tree x in
    let told = c.in_ok-look_at.field-0 in
    let known = c.loop-index.invariant in
    let Rule = IsFaultIn old.kinds old.publics s in
    let Left = InMethods Rule (map tree (drop (i + 1) xs)) in
    let rest : map tree (drop i xs) ≡ m ∷ map tree (drop (i + 1) xs) = ap (map tree) (rest_is xs i x c.loop-index-test.true c.index-methods-index.is) in
    let at : slice_get (map tree xs) i ≡ Some m =
    slice_get-map tree xs i ∙ ap (option_map tree) (slice_get-get_or xs i x c.loop-index-test.true) ∙ ap (λ y. Some (tree y)) (sym c.index-methods-index.is) in
    let put : HasOwnKinds now.kinds new.kinds (i + 1) s m =
    subst (λ (k : ℕ). HasOwnKinds now.kinds new.kinds k s m) c.in_ok-number.ensures
    (subst (λ (t : Setting). HasOwnKinds now.kinds new.kinds c.in_ok-number.number t m) known.2 c.in_ok-look_at.ensures.kinds) in
    let here : IsSoFar (InMethods Rule (map tree xs)) c.loop-index.first (InMethods Rule (m ∷ map tree (drop (i + 1) xs))) =
    subst (λ ys. IsSoFar (InMethods Rule (map tree xs)) c.loop-index.first (InMethods Rule ys)) rest known.0 in (
      so_far_then {Own = Rule m} {Left = Left} c.loop-index.first told here (fault_still old.kinds now.kinds old.publics now.publics s (setting_of now.consts) m told known.1.file known.3 known.2 c.in_ok-look_at.ensures.fault) c.first_of_two-first.ensures,
      methods_more old.kinds now.kinds new.kinds s (map tree xs) i m at known.1 put,
      c.in_ok-look_at.ensures.consts ∙ known.2,
      c.in_ok-look_at.ensures.publics ∙ known.3,
    )
