use Rattle.std.proofs.Common.{rules}
use Rattle.p8_build.proofs.Numbering.{entered_new}
use Rattle.p8_build.proofs.text_numbers.enter.Goals as goal

pub returns : goal.returns
returns c = λ p. entered_new c.args.places.now c.insert.new.self c.args.place p c.args.number c.in_ok-insert.ensures.updates (search rules)
