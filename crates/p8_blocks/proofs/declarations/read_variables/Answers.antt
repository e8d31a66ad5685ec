use Rattle.std.proofs.Common.{map}
use Rattle.p8_tree.specs.Views.{declared_of}
use Rattle.p8_lines.specs.declared.state.LineState.TheVariants as state_case
use Rattle.p8_declarations.specs.Variables.{variables_of_row}
use Rattle.p8_blocks.proofs.Reading.{value_read, there}
use Rattle.p8_blocks.proofs.Variables.{from_head, from_line}
use Rattle.p8_blocks.proofs.declarations.read_variables.Goals as goal

pub unwrap-items-requires : goal.unwrap-items-requires
unwrap-items-requires c = there c.in_ok-variables.field-0 (λ xs. map declared_of xs) c.in_ok-variables.ensures (value_read variables_of_row state_case.VarHead state_case.VarLine from_head from_line c.args.state c.requires.begins c.in_ok-pieces.ensures.read)
