use Rattle.std.proofs.Common.{map}
use Rattle.p8_tree.specs.Views.{constant_of}
use Rattle.p8_lines.specs.declared.state.LineState.TheVariants as state_case
use Rattle.p8_declarations.specs.Constants.{constants_of_row}
use Rattle.p8_blocks.proofs.Reading.{value_read, there}
use Rattle.p8_blocks.proofs.Constants.{from_head, from_item}
use Rattle.p8_blocks.proofs.declarations.read_constants.Goals as goal

pub unwrap-items-requires : goal.unwrap-items-requires
unwrap-items-requires c = there c.in_ok-constants.field-0 (λ xs. map constant_of xs) c.in_ok-constants.ensures (value_read constants_of_row state_case.ConHead state_case.ConItem from_head from_item c.args.state c.requires.begins c.in_ok-pieces.ensures.read)
