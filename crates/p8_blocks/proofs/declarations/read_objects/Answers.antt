use Rattle.std.proofs.Common.{map}
use Rattle.p8_tree.specs.Views.{child_of}
use Rattle.p8_lines.specs.declared.state.LineState.TheVariants as state_case
use Rattle.p8_declarations.specs.Objects.{objects_of_row}
use Rattle.p8_blocks.proofs.Reading.{value_read, there}
use Rattle.p8_blocks.proofs.Objects.{from_head, from_line}
use Rattle.p8_blocks.proofs.declarations.read_objects.Goals as goal

pub unwrap-items-requires : goal.unwrap-items-requires
unwrap-items-requires c = there c.in_ok-object.field-0 (λ xs. map child_of xs) c.in_ok-object.ensures (value_read objects_of_row state_case.ObjHead state_case.ObjLine from_head from_line c.args.state c.requires.begins c.in_ok-pieces.ensures.read)
