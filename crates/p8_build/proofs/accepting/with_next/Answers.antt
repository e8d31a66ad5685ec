use Rattle.std.proofs.Common.{map}
use Rattle.p8_tree.specs.Views.{named_source_of}
use Rattle.p8_build.proofs.Earliest.{none_in, first_stays, first_of_both}
use Rattle.p8_build.proofs.accepting.with_next.Goals as goal

pub returns-in-Ok : goal.returns-in-Ok
returns-in-Ok c =
    let files = map named_source_of c.args.files.now in
    let children = c.args.children.now in
    first_stays files children c.args.index c.args.first (none_in files children c.args.index c.in-Ok.file c.in-Ok.ensures.accepted) c.requires.first

pub returns-in-Err-Refused : goal.returns-in-Err-Refused
returns-in-Err-Refused c =
    first_of_both (map named_source_of c.args.files.now) c.args.children.now c.args.index c.args.first c.in-Err-Refused.later c.earlier.result c.requires.first
    (rw c.in-Err-Refused.field-0-is at c.in-Err-Refused.ensures.refused) c.earlier.ensures
