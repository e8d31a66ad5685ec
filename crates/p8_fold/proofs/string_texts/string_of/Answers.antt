use Rattle.std.proofs.Common.{◌≡◌, None, sym, ap, ◌∙◌}
use Rattle.p8_tree.specs.declared.places.Place.{Place}
use Rattle.p8_tree.specs.declared.expressions.Call as call
use Rattle.p8_tree.specs.declared.expressions.ExprKind as kind
use Rattle.p8_tree.specs.Expressions.{node}
use Rattle.p8_tree.specs.Views.{form_of}
use Rattle.p8_fold.proofs.ValueRows.{call_form}
use Rattle.p8_fold.specs.Values.{string_of}
use Rattle.p8_fold.proofs.string_texts.string_of.Goals as goal

-- a call is no string
call_is_none : {x : call.Call} (place : Place) (k : kind.ExprKind) → k ≡ kind.Call x → None ≡ string_of (node place (form_of k))
call_is_none {x = x} place k is = sym (ap (λ k. string_of (node place (form_of k))) is ∙ ap (λ f. string_of (node place f)) (call_form x))

pub returns-in-Call : goal.returns-in-Call
returns-in-Call c = call_is_none c.args.item.now.place c.args.item.now.kind c.in-Call.is
