use Rattle.std.proofs.Common.{◌≡◌, ◌++◌, drop}
use Rattle.p8_code.specs.Accepting.{codes_by}
use Rattle.p8_code.specs.Listing.{objects_lines}
use Rattle.p8_code.proofs.project.code_of_parts.Given as goal

abbrev pub invariant-loop-index : goal.invariant-loop-index
invariant-loop-index l =
    l.out.items
    ++ objects_lines (λ text. text) l.files l.base (drop l.index l.files) (drop l.index l.objects) (codes_by (drop l.index l.sources) (drop l.index l.accepted) (drop l.index l.short))
    ≡ objects_lines (λ text. text) l.files 16 l.files l.objects (codes_by l.sources l.accepted l.short)
