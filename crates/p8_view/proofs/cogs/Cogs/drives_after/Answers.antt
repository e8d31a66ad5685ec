use Rattle.std.proofs.Common.{◌∙◌, sym, ap}
use Rattle.p8_view.specs.Following.{may_drive}
use Rattle.p8_view.proofs.Driving.{left-alone}
use Rattle.p8_view.proofs.cogs.Cogs.drives_after.Goals as goal

pub returns-then-may_drive : goal.returns-then-may_drive
returns-then-may_drive c = λ w past turn access parts drives. c.joined.ensures w _ parts

pub returns-else-may_drive : goal.returns-else-may_drive
returns-else-may_drive c = λ w past turn access parts drives.
    drives ∙ sym (left-alone past turn (ap may_drive access ∙ sym c.may_drive.ensures ∙ c.if-may_drive.false))
