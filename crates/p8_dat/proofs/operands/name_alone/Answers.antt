use Rattle.std.proofs.Common.{◌≡◌, None, sym, ap, ◌∙◌}
use Rattle.p8_tree.specs.declared.places.Place.{Place}
use Rattle.p8_tree.specs.declared.expressions.Call as call
use Rattle.p8_tree.specs.declared.expressions.ExprKind as kind
use Rattle.p8_tree.specs.Expressions.{node}
use Rattle.p8_tree.specs.Views.{form_of}
use Rattle.p8_fold.proofs.ValueRows.{call_form}
use Rattle.p8_dat.specs.Encoding.{name_alone}
use Rattle.p8_dat.proofs.operands.name_alone.Goals as goal

-- a call is no name alone
call_unnamed : {x : call.Call} (place : Place) (k : kind.ExprKind) → k ≡ kind.Call x → None ≡ name_alone (node place (form_of k))
call_unnamed {x = x} place k is = sym (ap (λ k. name_alone (node place (form_of k))) is ∙ ap (λ f. name_alone (node place f)) (call_form x))

pub returns-in-Call : goal.returns-in-Call
returns-in-Call c = call_unnamed c.args.expr.now.place c.args.expr.now.kind c.in-Call.is
