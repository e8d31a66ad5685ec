use Rattle.std.proofs.Common.{refl}
use Rattle.p8_blocks.specs.Proper.{is_in_dat}
use Rattle.p8_blocks.proofs.ReadProper.{rows_proper, method_rows_proper}
use Rattle.p8_blocks.proofs.row_laws.rows_are_proper.Goals as goal

pub returns-clause-pieces : goal.returns-clause-pieces
returns-clause-pieces c = λ q. rows_proper c.spelled_is_proper.ensures.value q (is_in_dat q) refl

pub returns-clause-actions : goal.returns-clause-actions
returns-clause-actions c = method_rows_proper c.spelled_is_proper.ensures.value c.spelled_is_proper.ensures.action
