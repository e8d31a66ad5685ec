use Rattle.std.proofs.Common.{ap, ◌∙◌}
use Rattle.p8_fold.specs.ConstantEntries.{setting_of}
use Rattle.p8_fold.specs.Meanings.{in_operand}
use Rattle.p8_dat.proofs.Settings.{stands_elsewhere}
use Rattle.p8_dat.proofs.lines.stand_at_instruction.Goals as goal

pub returns : goal.returns
returns c =
    stands_elsewhere (setting_of c.args.values.now) (setting_of c.in_operand.new.self) _ (c.in_operand.ensures.here ∙ ap in_operand c.long.ensures) c.in_operand.ensures.names
