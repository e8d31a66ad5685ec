use Rattle.p8_tree.specs.Views.{datum_of}
use Rattle.p8_kinds.specs.Environments.{environment_of}
use Rattle.p8_kinds.specs.Misuses.{UnknownIn}
use Rattle.p8_names.specs.Faults.{count_of_datum, UnknownInOption}
use Rattle.p8_names.proofs.TwoFaults.{two_first}
use Rattle.p8_names.proofs.data_names.unknown_in_datum.Goals as goal

pub returns : goal.returns
returns c =
    let env = environment_of c.args.scope.now in
    let d = datum_of c.args.item.now in
    two_first (UnknownIn env d.value) (UnknownInOption env (count_of_datum d.value d.count)) c.first_unknown-value.result c.unknown_in_count.result c.first_of_two.ensures c.first_unknown-value.ensures c.unknown_in_count.ensures
