use Rattle.std.proofs.Common.{map, ◌++◌, ◌∷◌, ap, sym, ◌∙◌}
use Rattle.std.specs.Prelude.{option_map}
use Rattle.p8_tree.specs.Views.{line_of}
use Rattle.p8_blocks.specs.Reading as files
use Rattle.p8_blocks.specs.Reading.{assembly}
use Rattle.p8_blocks.specs.Files.{lines_in}
use Rattle.p8_blocks.proofs.Stepping.{added, appended_view}
use Rattle.p8_blocks.proofs.lines.more_data.Goals as goal

pub returns-clause-read : goal.returns-clause-read
returns-clause-read c = λ ps.
    let xs = c.args.lines in
    let ys = c.in_ok-more.more in
    added (assembly (map line_of xs) ∷ ps) ps (assembly (map line_of xs ++ lines_in (option_map line_of c.in_ok-line.line))) c.new.result c.new.ensures.block c.new.ensures.begun
    (ap (λ zs. assembly (map line_of xs ++ zs)) (sym c.in_ok-more.ensures) ∙ ap assembly (appended_view line_of xs ys c.in_ok-appended.field-0 c.in_ok-appended.ensures)) (files.more_assembly c.in_ok-line.ensures.read)
