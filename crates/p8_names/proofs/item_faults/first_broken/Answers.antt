use Rattle.std.proofs.Common.{◌⊎◌}
use Rattle.p8_fold.specs.ConstantEntries.{setting_of}
use Rattle.p8_constants.specs.Rules.{InAny, HasTooManyParams, LacksPub, HasFaultInCount, WrongInstancesIn}
use Rattle.p8_constants.specs.Standing.{items_of}
use Rattle.p8_names.proofs.TwoFaults.{two_first}
use Rattle.p8_names.proofs.item_faults.first_broken.Goals as goal

pub returns : goal.returns
returns c =
    let s = setting_of c.args.consts.now in
    let xs = items_of c.args.items.now in
    let top = c.args.top in
    two_first (λ f. InAny HasTooManyParams xs f ⊎ LacksPub top xs f) (λ f. InAny (HasFaultInCount s) xs f ⊎ WrongInstancesIn s 0 xs f) c.first_of_two-head.result c.first_of_two-counted.result c.first_of_two.ensures
    (two_first (InAny HasTooManyParams xs) (LacksPub top xs) c.first_params_fault-params.result c.lacks_pub-no_pub.result c.first_of_two-head.ensures c.first_params_fault-params.ensures c.lacks_pub-no_pub.ensures)
    (two_first (InAny (HasFaultInCount s) xs) (WrongInstancesIn s 0 xs) c.first_count_fault-count.result c.first_instance_fault-instances.result c.first_of_two-counted.ensures c.first_count_fault-count.ensures c.first_instance_fault-instances.ensures)
