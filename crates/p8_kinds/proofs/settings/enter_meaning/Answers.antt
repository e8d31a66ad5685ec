use Rattle.std.proofs.Common.{Some, ◌∙◌, sym, ap, subst}
use Rattle.std.proofs.lemmas.Result.{on_ok_weaker}
use Rattle.p8_fold.specs.ConstantEntries.{setting_of}
use Rattle.p8_kinds.specs.FileSettings.{HasEntered, constant_behind}
use Rattle.p8_kinds.proofs.Tables.{meaning_entered, entered_nothing, nothing_behind}
use Rattle.p8_kinds.proofs.settings.enter_meaning.Goals as goal

pub returns-in-Object : goal.returns-in-Object
returns-in-Object c =
    let s = setting_of c.args.consts.now in
    let m = setting_of c.set.new.self in
    let t = setting_of c.enter_child.new.consts in
    on_ok_weaker c.enter_child.result
    (λ h.
    meaning_entered s m t c.args.name.now c.args.kind c.args.children.now (c.in_ok-set.ensures.entered ∙ ap Some c.meaning_of.ensures) c.in_ok-set.ensures.others c.in_ok-set.ensures.here
    (subst (λ k. HasEntered m t c.args.name.now (constant_behind c.args.children.now (Some k))) (sym c.in-Object.is) h))
    c.enter_child.ensures

pub returns-in_default : goal.returns-in_default
returns-in_default c =
    let s = setting_of c.args.consts.now in
    let m = setting_of c.set.new.self in
    let children = c.args.children.now in
    meaning_entered s m m c.args.name.now c.args.kind children (c.in_ok-set.ensures.entered ∙ ap Some c.meaning_of.ensures) c.in_ok-set.ensures.others c.in_ok-set.ensures.here
    (entered_nothing m c.args.name.now (constant_behind children (Some c.args.kind)) (nothing_behind children c.args.kind c.in_default.not-Object))
