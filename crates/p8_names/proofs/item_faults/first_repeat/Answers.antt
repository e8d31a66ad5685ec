use Rattle.std.proofs.Common.{◌⊎◌, []}
use Rattle.p8_constants.specs.Names.{file_names}
use Rattle.p8_constants.specs.Repeats.{NameRepeatIn, HasOwnRepeat, LabelRepeatIn}
use Rattle.p8_constants.specs.Rules.{InAny}
use Rattle.p8_constants.specs.Standing.{items_of}
use Rattle.p8_names.proofs.TwoFaults.{two_first}
use Rattle.p8_names.proofs.item_faults.first_repeat.Goals as goal

pub returns : goal.returns
returns c =
    let xs = items_of c.args.items.now in
    let names = file_names xs in
    two_first (NameRepeatIn xs) (λ f. InAny (HasOwnRepeat names) xs f ⊎ LabelRepeatIn [] xs f) c.in_ok-found.found.repeated c.first_of_two-other.result c.first_of_two.ensures c.in_ok-found.ensures.repeated
    (two_first (InAny (HasOwnRepeat names) xs) (LabelRepeatIn [] xs) c.in_ok-own.own c.in_ok-label.label c.first_of_two-other.ensures (c.in_ok-own.ensures names c.in_ok-found.ensures.names) c.in_ok-label.ensures)
