use Rattle.std.proofs.Common.{◌∙◌, refl}
use Rattle.p8_view.proofs.cogs.Cogs.record_turn.Goals as goal

pub returns : goal.returns
returns c = λ w past are.
    let parts = c.note_parts.ensures.parts w past are in
    record {
      origins = parts.origins;
      left = parts.left;
      outa = parts.outa;
      dira = parts.dira;
      drives = c.drives_after-self.ensures w past c.args.turn.now refl parts (c.note_parts.ensures.drives ∙ are.drives);
    }
