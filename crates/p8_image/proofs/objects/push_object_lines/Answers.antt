use Rattle.std.proofs.Common.{rules}
use Rattle.p8_image.proofs.Cutting.{object-whole}
use Rattle.p8_image.proofs.objects.push_object_lines.Goals as goal

pub returns : goal.returns
returns c =
    object-whole c.args.name.now c.args.base c.args.object.now c.args.out.now.items c.push_object_line.new.out.items c.push_dat_lines.new.out.items
    c.push_method_lines.new.out.items c.in_ok-codes.codes.items c.address_after.result c.address_after-2.result
    c.in_ok-push_object_line.ensures (search rules) (search rules) c.in_ok-codes.ensures (search rules) (search rules)
