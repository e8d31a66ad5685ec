use Rattle.std.proofs.Common.{◌-◌, List, length, drop, reverse, ◌∙◌, ap}
use Rattle.p8_bcog.specs.declared.marks.CallMark.{CallMark}
use Rattle.p8_bcog.specs.Reversing.{reverse-take}
use Rattle.p8_bcog.proofs.marks.Marks.lower.Goals as goal

pub returns : goal.returns
returns c =
    ap reverse c.truncate.ensures.items
    ∙ reverse-take c.args.count c.self.inside.marks.items
    ∙ ap (λ (xs : List CallMark). drop (length xs - c.args.count) xs) c.self.view_is
