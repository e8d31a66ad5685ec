use Rattle.p8_tree.specs.Views.{instruction_of}
use Rattle.p8_kinds.specs.Environments.{environment_of}
use Rattle.p8_names.specs.Faults.{UnknownInOption}
use Rattle.p8_names.proofs.TwoFaults.{two_first}
use Rattle.p8_names.proofs.data_names.unknown_in_operands.Goals as goal

pub returns : goal.returns
returns c =
    let env = environment_of c.args.scope.now in
    let x = instruction_of c.args.line.now in
    two_first (UnknownInOption env x.dest) (UnknownInOption env x.source) c.unknown_in_option-dest.result c.unknown_in_option.result c.first_of_two.ensures c.unknown_in_option-dest.ensures c.unknown_in_option.ensures
