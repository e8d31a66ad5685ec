use Rattle.std.proofs.Common.{rules}
use Rattle.p8_code.proofs.Joining.{object-told}
use Rattle.p8_code.proofs.objects.Object.push.Goals as goal

pub returns : goal.returns
returns c =
    object-told c.args.self.now c.in_ok-variables.variables c.in_ok-labels.labels c.args.base c.address_after-dat.result c.address_after-place.result
    c.in_ok-longs.longs.items c.in_ok-codes.codes.items c.args.out.now.items c.push_object_line.new.out.items c.push_dat.new.out.items c.push_methods.new.out.items
    (search rules) (search rules) (search rules) (search rules) (search rules) (search rules) (search rules) (search rules) (search rules)
