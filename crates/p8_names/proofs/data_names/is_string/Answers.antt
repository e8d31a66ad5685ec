use Rattle.std.proofs.Common.{◌≡◌, Option, ap, ◌∙◌}
use Rattle.p8_tree.specs.declared.places.Place.{Place}
use Rattle.p8_tree.specs.declared.expressions.Call as call
use Rattle.p8_tree.specs.declared.expressions.ExprKind as kind
use Rattle.p8_tree.specs.Expressions.{Tree, node}
use Rattle.p8_tree.specs.Views.{form_of}
use Rattle.p8_fold.proofs.ValueRows.{call_form}
use Rattle.p8_names.specs.Faults.{count_of_datum}
use Rattle.p8_names.proofs.data_names.is_string.Goals as goal

-- a call is no string
call_is_none : {x : call.Call} (place : Place) (k : kind.ExprKind) (count : Option Tree) → k ≡ kind.Call x → count_of_datum (node place (form_of k)) count ≡ count
call_is_none {x = x} place k count is = ap (λ k. count_of_datum (node place (form_of k)) count) is ∙ ap (λ f. count_of_datum (node place f) count) (call_form x)

pub returns-in-Call : goal.returns-in-Call
returns-in-Call c = λ count. call_is_none c.args.value.now.place c.args.value.now.kind count c.in-Call.is
