use Rattle.std.proofs.Common.{Some, None, ◌∙◌}
use Rattle.p8_fold.specs.ConstantEntries.{setting_of}
use Rattle.p8_constants.specs.Standing.{items_of, valued}
use Rattle.p8_names.proofs.Objects.{outside_is}
use Rattle.p8_names.proofs.outside.outside.Goals as goal

pub put_items-requires : goal.put_items-requires
put_items-requires c = λ n. c.new-consts.ensures.empty None n

pub put_objects-requires : goal.put_objects-requires
put_objects-requires c = λ owner n. c.in_ok-put_predefined.ensures.constants owner n ∙ c.in_ok-put_items.ensures.constants owner n ∙ c.new-consts.ensures.empty (Some owner) n

pub returns : goal.returns
returns c =
    outside_is (setting_of c.new-consts.result) (setting_of c.put_items.new.consts) (setting_of c.put_predefined.new.consts) (setting_of c.put_objects.new.consts) (items_of c.args.items.now) c.args.children.now (valued c.args.predefined.now)
    c.new-consts.ensures.here c.in_ok-put_items.ensures c.in_ok-put_predefined.ensures c.in_ok-put_objects.ensures.same c.in_ok-put_objects.ensures.constants c.requires
