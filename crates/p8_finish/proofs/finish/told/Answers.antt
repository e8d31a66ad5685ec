use Rattle.std.proofs.Common.{◌≡◌, refl, reverse, subst, sym, IfOk}
use Rattle.std.proofs.lemmas.Result.{IfOk-weaker}
use Rattle.p8_access.proofs.Rising.{rises}
use Rattle.p8_cog.specs.Lives.{asks}
use Rattle.p8_cog.specs.Laws.{one-asked, asked-first, asked-later}
use Rattle.p8_ledger.specs.Worlds.{world_of}
use Rattle.p8_verify.specs.Files.{IsFile}
use Rattle.p8_finish.specs.declared.finish.Finish.{Finish}
use Rattle.p8_finish.specs.Finishes.{told_by, IsWhole}
use Rattle.p8_finish.proofs.finish.told.Goals as goal

pub returns-in-Saved-clause-text : goal.returns-in-Saved-clause-text
returns-in-Saved-clause-text c =
    let w = world_of c.args.ended.now.history.boot c.args.script.now c.args.ended.now.history.limits in
    let past = reverse c.args.ended.now.history.turns.list in
    subst (λ (finish : Finish). IfOk c.history_bytes.result (λ text. text.items ≡ told_by finish w past)) (sym c.in-Saved.is)
    (IfOk-weaker c.history_bytes.result _ _ (λ bytes is. is.bytes_are) (c.history_bytes.ensures c.args.script.now))

pub returns-in-Wave-clause-text : goal.returns-in-Wave-clause-text
returns-in-Wave-clause-text c =
    let w = world_of c.args.ended.now.history.boot c.args.script.now c.args.ended.now.history.limits in
    let past = reverse c.args.ended.now.history.turns.list in
    subst (λ (finish : Finish). IfOk c.wave.result (λ text. text.items ≡ told_by finish w past)) (sym c.in-Wave.is)
    (c.wave.ensures w refl (rises asks w one-asked asked-first asked-later past c.requires.ended.legal))

pub picture-requires : goal.picture-requires
picture-requires c =
    rises asks (world_of c.args.ended.now.history.boot c.args.script.now c.args.ended.now.history.limits) one-asked asked-first asked-later (reverse c.args.ended.now.history.turns.list) c.requires.ended.legal

-- what was saved is the file, so there is one
pub returns-in-Saved-clause-whole : goal.returns-in-Saved-clause-whole
returns-in-Saved-clause-whole c =
    let w = world_of c.args.ended.now.history.boot c.args.script.now c.args.ended.now.history.limits in
    let past = reverse c.args.ended.now.history.turns.list in
    subst (λ (finish : Finish). IfOk c.history_bytes.result (λ _. IsWhole finish w past)) (sym c.in-Saved.is)
    (IfOk-weaker c.history_bytes.result _ _ (λ bytes is. subst (IsFile w past) is.bytes_are is) (c.history_bytes.ensures c.args.script.now))
