use Rattle.std.proofs.Common.{◌≡◌, ◌++◌, map, ap, ◌∙◌}
use Rattle.p8_fold.specs.ConstantEntries.{setting_of}
use Rattle.p8_dat.specs.Names.{names_in}
use Rattle.p8_dat.specs.Bytes.{lines_bytes}
use Rattle.p8_dat.specs.First.{told_in_lines}
use Rattle.p8_dat.specs.Placing.{placed_of, unplaced}
use Rattle.p8_dat.proofs.LocalLabels.{unplaced_in, behind_region}
use Rattle.p8_dat.proofs.regions.put_region.Goals as goal

pub returns-clause-bytes : goal.returns-clause-bytes
returns-clause-bytes c =
    let r = map placed_of c.args.region.now in
    let names : unplaced (setting_of c.enter_locals.new.consts) ≡ names_in (unplaced (setting_of c.args.values.now)) r = ap unplaced c.in_ok-enter_locals.ensures ∙ unplaced_in (setting_of c.args.values.now) r in
    c.in_ok-put_lines.ensures.bytes ∙ ap (λ t. c.args.out.now.bytes.items ++ lines_bytes (setting_of c.args.counts.now) t r) names

pub returns-clause-fault : goal.returns-clause-fault
returns-clause-fault c =
    let r = map placed_of c.args.region.now in
    let names : unplaced (setting_of c.enter_locals.new.consts) ≡ names_in (unplaced (setting_of c.args.values.now)) r = ap unplaced c.in_ok-enter_locals.ensures ∙ unplaced_in (setting_of c.args.values.now) r in
    c.in_ok-put_lines.ensures.fault ∙ ap (λ t. told_in_lines c.args.out.now.fault (setting_of c.args.counts.now) t r) names

pub returns-clause-names : goal.returns-clause-names
returns-clause-names c =
    behind_region (setting_of c.args.values.now) (setting_of c.enter_locals.new.consts) (setting_of c.put_lines.new.values) (setting_of c.leave_locals.new.consts) (map placed_of c.args.region.now)
    c.requires c.in_ok-enter_locals.ensures c.in_ok-put_lines.ensures.names c.in_ok-leave_locals.ensures
