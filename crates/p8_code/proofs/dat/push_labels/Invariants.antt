use Rattle.std.proofs.Common.{◌≡◌, ◌++◌, drop}
use Rattle.std.specs.Prelude.{codes}
use Rattle.p8_code.specs.Listing.{labels_text}
use Rattle.p8_code.proofs.dat.push_labels.Given as goal

abbrev pub invariant-loop-label : goal.invariant-loop-label
invariant-loop-label l = l.out.items ++ labels_text l.base l.place l.before (drop l.label-index l.labels) ≡ l.initial.out.items ++ labels_text l.base l.place (codes " ' ") l.labels
