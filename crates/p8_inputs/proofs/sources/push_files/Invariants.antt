use Rattle.std.proofs.Common.{◌≡◌, ◌++◌, map, drop}
use Rattle.p8_tree.specs.Views.{named_source_of}
use Rattle.p8_page.specs.Page.{blocks_text}
use Rattle.p8_inputs.specs.Sources.{file_blocks}
use Rattle.p8_inputs.proofs.sources.push_files.Given as goal

abbrev pub invariant-loop-i : goal.invariant-loop-i
invariant-loop-i l =
    l.out.items ++ blocks_text (file_blocks (map named_source_of (drop l.i l.files)) (drop l.i l.sources)) ≡ l.initial.out.items ++ blocks_text (file_blocks (map named_source_of l.files) l.sources)
