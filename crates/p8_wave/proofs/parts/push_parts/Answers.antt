use Rattle.std.proofs.Common.{ap, ◌++◌, ℕ, List}
use Rattle.p8_wave.specs.Sections.{change_text}
use Rattle.p8_wave.proofs.Together.{together-texts}
use Rattle.p8_wave.proofs.parts.push_parts.Goals as goal

pub loop-part-init : goal.loop-part-init
loop-part-init c = ap (λ (xs : List ℕ). c.args.out.now.items ++ xs) (together-texts (change_text c.args.old.now c.args.new.now) c.args.parts.now)
