use Rattle.std.proofs.Common.{sym, ◌∙◌, subst}
use Rattle.std.specs.Prelude.{option_map}
use Rattle.p8_constants.specs.Standing.{items_of}
use Rattle.p8_names.specs.Regions.{IsInRegion}
use Rattle.p8_names.proofs.Putting.{on_ok}
use Rattle.p8_names.proofs.LocalLabels.{at_end}
use Rattle.p8_names.proofs.data_names.come_to.Goals as goal

pub returns-then-is_end : goal.returns-then-is_end
returns-then-is_end c =
    on_ok c.begin_region.result
    (λ h initial first region was. subst (IsInRegion initial c.begin_region.new.scope first) (at_end (option_map (λ n. n.now) c.args.label) region (items_of c.args.behind.now) (sym c.is_end.ensures ∙ c.if-is_end.true)) (h initial first region was))
    c.begin_region.ensures
