use Rattle.std.proofs.Common.{false, sym, subst}
use Rattle.p8_tree.specs.Views.{source_of}
use Rattle.p8_tree.specs.Faults.{IsFirstFault}
use Rattle.p8_names.specs.Faults.{IsNameFault}
use Rattle.p8_printed.proofs.Names.{no_name_fault}
use Rattle.p8_tree.proofs.Failing.{only_memory}
use Rattle.p8_printed.proofs.assembled.assembled.Goals as goal

pub returns-in-Err-clause-accepted : goal.returns-in-Err-clause-accepted
returns-in-Err-clause-accepted c =
    only_memory (IsFirstFault (IsNameFault (source_of c.args.file.now) c.args.children.now false))
    (λ f first. subst (λ s. ¬ IsNameFault s c.args.children.now false f) (sym c.requires.line.2) (no_name_fault c.args.long c.requires.line.0 c.args.children.now c.requires.line.1 f) first.holds)
    c.in-Err.fail c.in-Err.ensures.refused
