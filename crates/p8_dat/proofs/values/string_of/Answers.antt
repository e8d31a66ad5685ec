use Rattle.std.proofs.Common.{◌≡◌, None, sym, ap, ◌∙◌}
use Rattle.p8_tree.specs.declared.places.Place.{Place}
use Rattle.p8_tree.specs.declared.expressions.Call as call
use Rattle.p8_tree.specs.declared.expressions.ExprKind as kind
use Rattle.p8_tree.specs.Expressions.{node}
use Rattle.p8_tree.specs.Views.{form_of}
use Rattle.p8_fold.proofs.ValueRows.{call_form}
use Rattle.p8_dat.specs.Spots.{string}
use Rattle.p8_dat.proofs.values.string_of.Goals as goal

-- a call is no string
call_is_none : {x : call.Call} (place : Place) (k : kind.ExprKind) → k ≡ kind.Call x → None ≡ string (node place (form_of k))
call_is_none {x = x} place k is = sym (ap (λ k. string (node place (form_of k))) is ∙ ap (λ f. string (node place f)) (call_form x))

pub returns-in-Call : goal.returns-in-Call
returns-in-Call c = call_is_none c.args.expr.now.place c.args.expr.now.kind c.in-Call.is
