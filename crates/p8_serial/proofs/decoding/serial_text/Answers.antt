use Rattle.std.proofs.Common.{◌≡◌, ◌∙◌, ap, sym, refl, subst, ℕ, List, reverse}
use Rattle.std.specs.Prelude.{IfOk}
use Rattle.p8_access.specs.declared.order.Turn.{Turn}
use Rattle.p8_ledger.specs.Worlds.{world_of}
use Rattle.p8_pins.specs.declared.change.Change.{Change}
use Rattle.p8_pins.specs.Levels.{end_of}
use Rattle.p8_pins.specs.LevelChanges.{lines_of, RiseFrom, Tells}
use Rattle.p8_serial.proofs.Decoded.{told-serial}
use Rattle.p8_serial.proofs.decoding.serial_text.Goals as goal

pub frames_text-requires-clause-rise : goal.frames_text-requires-clause-rise
frames_text-requires-clause-rise c =
    let w = world_of c.args.history.now.boot c.args.script.now c.args.history.now.limits in
    subst (λ (changes : List Change). RiseFrom 0 (lines_of changes)) (sym c.as_slice.ensures.value) (c.in_ok-changes.ensures w refl).rise

pub returns : goal.returns
returns c =
    let w = world_of c.args.history.now.boot c.args.script.now c.args.history.now.limits in
    let log : reverse c.as_slice-turns.result.now ≡ reverse c.args.history.now.turns.list = ap reverse c.as_slice-turns.ensures in
    let tells : Tells w (reverse c.args.history.now.turns.list) (lines_of c.as_slice.result.now) =
    subst (λ (changes : List Change). Tells w (reverse c.args.history.now.turns.list) (lines_of changes)) (sym c.as_slice.ensures.value)
    (subst (λ (past : List Turn). Tells w past (lines_of c.in_ok-changes.changes.items)) log (c.in_ok-changes.ensures w refl)) in
    let end : c.run_end-end.result ≡ end_of w (reverse c.args.history.now.turns.list) = c.run_end-end.ensures w refl refl ∙ ap (end_of w) log in
    subst (λ (text : List ℕ). IfOk c.frames_text.result (λ r. r.items ≡ text))
    (told-serial w (reverse c.args.history.now.turns.list) c.args.pin c.args.bits c.run_end-end.result (lines_of c.as_slice.result.now) tells end) c.frames_text.ensures
