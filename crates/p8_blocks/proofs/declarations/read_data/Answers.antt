use Rattle.p8_lines.specs.declared.state.LineState.TheVariants as state_case
use Rattle.p8_declarations.specs.Lines.{line_of_row}
use Rattle.p8_blocks.proofs.Reading.{value_read, known}
use Rattle.p8_blocks.proofs.ProperData.{head_has_value, line_has_value}
use Rattle.p8_blocks.proofs.declarations.read_data.Goals as goal

pub unreachable-requires : goal.unreachable-requires
unreachable-requires c = known c.in_ok-dat_line.field-0 c.in_ok-dat_line.ensures c.in-Unknown.is (value_read line_of_row state_case.DatHead state_case.DatLine head_has_value line_has_value c.args.state c.requires.begins c.in_ok-pieces.ensures.read)
