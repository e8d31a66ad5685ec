use Rattle.std.proofs.Common.{◌≡◌, ℕ, List, Option, sym, ap, ◌∙◌, subst}
use Rattle.std.specs.Prelude.{option_map}
use Rattle.p8_tree.specs.Views.{method_of}
use Rattle.p8_fold.specs.declared.meanings.Meaning.{Meaning}
use Rattle.p8_fold.specs.ConstantEntries.{setting_of}
use Rattle.p8_constants.specs.Names.{spelled, own_names}
use Rattle.p8_constants.specs.Standing.{all_defined_of}
use Rattle.p8_kinds.specs.FileSettings.{meaning_of_kind}
use Rattle.p8_kinds.specs.Kinds.{own}
use Rattle.p8_names.specs.Kinds.{method_setting}
use Rattle.p8_names.specs.Looking.{HasOwnKinds}
use Rattle.p8_names.proofs.Showing.{Shown}
use Rattle.p8_names.proofs.LookingAt.{hidden_is, has_own, to_show, shown_again, fault_is}
use Rattle.p8_names.proofs.method_faults.look_at.Goals as goal

pub restore-requires : goal.restore-requires
restore-requires c =
    let s = setting_of c.args.scope.now.consts in
    let t = setting_of c.hide.new.consts in
    let m = method_of c.args.method.now in
    let old = c.args.scope.now.kinds in
    let new = c.enter_own_names.new.kinds in
    let names = spelled (all_defined_of c.deref.result.now) in
    let is : names ≡ spelled (own_names m) = ap (λ ds. spelled (all_defined_of ds)) c.deref.ensures.value ∙ ap spelled c.in_ok-names.ensures in
    let hides : t ≡ method_setting s m = hidden_is s t m names is c.in_ok-hide.ensures in
    let entered : HasOwnKinds old new c.args.number s m = has_own old new c.args.number s t m hides c.requires.free c.in_ok-enter_own_names.ensures in
    let meant : List ℕ → Option Meaning = λ n. option_map meaning_of_kind (own new 0 n) in
    subst (Shown meant t) (ap (λ ds. spelled (all_defined_of ds)) (c.deref.ensures.value ∙ sym c.deref-2.ensures.value))
    (to_show old new c.args.number s t m names c.requires.own entered c.requires.shown c.in_ok-hide.ensures)

pub returns-clause-fault : goal.returns-clause-fault
returns-clause-fault c =
    let s = setting_of c.args.scope.now.consts in
    let t = setting_of c.hide.new.consts in
    let m = method_of c.args.method.now in
    let old = c.args.scope.now.kinds in
    let new = c.enter_own_names.new.kinds in
    let names = spelled (all_defined_of c.deref.result.now) in
    let is : names ≡ spelled (own_names m) = ap (λ ds. spelled (all_defined_of ds)) c.deref.ensures.value ∙ ap spelled c.in_ok-names.ensures in
    let hides : t ≡ method_setting s m = hidden_is s t m names is c.in_ok-hide.ensures in
    let entered : HasOwnKinds old new c.args.number s m = has_own old new c.args.number s t m hides c.requires.free c.in_ok-enter_own_names.ensures in
    fault_is old new c.args.scope.now.publics c.args.number s t m c.method_fault-fault.result c.requires.own entered hides c.method_fault-fault.ensures

pub returns-clause-kinds : goal.returns-clause-kinds
returns-clause-kinds c =
    let s = setting_of c.args.scope.now.consts in
    let t = setting_of c.hide.new.consts in
    let m = method_of c.args.method.now in
    let old = c.args.scope.now.kinds in
    let new = c.enter_own_names.new.kinds in
    let names = spelled (all_defined_of c.deref.result.now) in
    let is : names ≡ spelled (own_names m) = ap (λ ds. spelled (all_defined_of ds)) c.deref.ensures.value ∙ ap spelled c.in_ok-names.ensures in
    let hides : t ≡ method_setting s m = hidden_is s t m names is c.in_ok-hide.ensures in
    let entered : HasOwnKinds old new c.args.number s m = has_own old new c.args.number s t m hides c.requires.free c.in_ok-enter_own_names.ensures in
    entered

pub returns-clause-consts : goal.returns-clause-consts
returns-clause-consts c =
    let s = setting_of c.args.scope.now.consts in
    let t = setting_of c.hide.new.consts in
    let m = method_of c.args.method.now in
    let old = c.args.scope.now.kinds in
    let new = c.enter_own_names.new.kinds in
    let names = spelled (all_defined_of c.deref.result.now) in
    let is : names ≡ spelled (own_names m) = ap (λ ds. spelled (all_defined_of ds)) c.deref.ensures.value ∙ ap spelled c.in_ok-names.ensures in
    let hides : t ≡ method_setting s m = hidden_is s t m names is c.in_ok-hide.ensures in
    let entered : HasOwnKinds old new c.args.number s m = has_own old new c.args.number s t m hides c.requires.free c.in_ok-enter_own_names.ensures in
    shown_again old new c.args.number s t (setting_of c.restore.new.consts) m names c.requires.own entered c.requires.shown c.in_ok-hide.ensures c.in_ok-restore.ensures
