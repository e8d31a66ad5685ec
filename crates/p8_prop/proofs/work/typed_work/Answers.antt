use Rattle.std.proofs.Common.{◌≡◌, subst, ℕ, List}
use Rattle.p8_serial.specs.Typed.{typed_text}
use Rattle.p8_prop.proofs.Coming.{typed-told}
use Rattle.p8_prop.proofs.work.typed_work.Goals as goal

pub returns-clause-work : goal.returns-clause-work
returns-clause-work g c =
    let text = c.in_ok-text.text.items in
    typed-told (g.S.Shelf.files c.args.shelf.now) c.args.file.now c.in_ok-bytes.bytes.items text c.args.pin c.args.bits c.args.start
    c.in_ok-bytes.ensures.read c.in_ok-bytes.ensures.short
    (subst (λ (bytes : List ℕ). text ≡ typed_text bytes c.args.pin c.args.bits c.args.start) c.deref.ensures.value c.in_ok-text.ensures)
