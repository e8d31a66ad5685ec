use Rattle.std.proofs.Common.{◌≡◌, ◌++◌, drop}
use Rattle.std.specs.Prelude.{map}
use Rattle.p8_tree.specs.declared.projects.ProjectFile.{ProjectFile}
use Rattle.p8_inputs.proofs.sources.names_of.Given as goal

abbrev pub invariant-loop-file : goal.invariant-loop-file
invariant-loop-file l =
    l.names ++ map (λ (file : ProjectFile). file.name) (drop l.file-index l.files) ≡ map (λ (file : ProjectFile). file.name) l.files
