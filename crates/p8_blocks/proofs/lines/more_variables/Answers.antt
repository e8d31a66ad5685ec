use Rattle.std.proofs.Common.{map, ◌++◌, ◌∷◌, ap}
use Rattle.p8_tree.specs.Views.{declared_of}
use Rattle.p8_blocks.specs.Reading as files
use Rattle.p8_blocks.specs.Reading.{variables}
use Rattle.p8_blocks.proofs.Stepping.{added, appended_view}
use Rattle.p8_blocks.proofs.lines.more_variables.Goals as goal

pub returns-clause-read : goal.returns-clause-read
returns-clause-read c = λ ps.
    let xs = c.args.items in
    let ys = c.in_ok-more.more in
    added (variables (map declared_of xs) ∷ ps) ps (variables (map declared_of xs ++ map declared_of ys)) c.new.result c.new.ensures.block c.new.ensures.begun
    (ap variables (appended_view declared_of xs ys c.in_ok-appended.field-0 c.in_ok-appended.ensures)) (files.more_variables c.in_ok-more.ensures.read)
