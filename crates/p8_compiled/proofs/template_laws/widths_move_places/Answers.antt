use Rattle.p8_compiled.proofs.Moving.{method-moves}
use Rattle.p8_compiled.proofs.template_laws.widths_move_places.Goals as goal

pub returns : goal.returns
returns c = λ n ss a b. method-moves a b n ss
