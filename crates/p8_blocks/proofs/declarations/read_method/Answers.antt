use Rattle.std.proofs.Common.{refl, inl}
use Rattle.p8_tree.specs.Views.{method_of}
use Rattle.p8_lines.specs.declared.state.LineState.TheVariants as state_case
use Rattle.p8_declarations.specs.Methods.{method_of_row}
use Rattle.p8_blocks.proofs.Reading.{value_read, there}
use Rattle.p8_blocks.proofs.Methods.{from_name}
use Rattle.p8_blocks.proofs.declarations.read_method.Goals as goal

pub unwrap-head-requires : goal.unwrap-head-requires
unwrap-head-requires c = there c.in_ok-method.field-0 method_of c.in_ok-method.ensures (value_read (method_of_row c.args.public) state_case.MethodName state_case.MethodName (from_name c.args.public) (from_name c.args.public) state_case.MethodName (inl refl) c.in_ok-pieces.ensures.read)
