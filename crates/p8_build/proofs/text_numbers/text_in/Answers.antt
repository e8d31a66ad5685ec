use Rattle.std.proofs.Common.{◌≡◌, [], IfOk, sym, ap, ◌∙◌, subst}
use Rattle.p8_tree.specs.declared.expressions.Call as call
use Rattle.p8_tree.specs.declared.expressions.ExprKind as kind
use Rattle.p8_tree.specs.Expressions.{Strings}
use Rattle.p8_tree.specs.Views.{form_of, trees_of}
use Rattle.p8_tree.specs.Bridges.{strings_is}
use Rattle.p8_fold.specs.ConstantEntries.{setting_of}
use Rattle.p8_fold.specs.Meanings.{Setting}
use Rattle.p8_fold.proofs.ValueRows.{call_form}
use Rattle.p8_build.specs.Parts.{text_in}
use Rattle.p8_build.proofs.text_numbers.text_in.Goals as goal

-- a call has no text
call_has_none : {x : call.Call} (s : Setting) (k : kind.ExprKind) → k ≡ kind.Call x → [] ≡ text_in s (form_of k)
call_has_none {x = x} s k is = sym (ap (λ k. text_in s (form_of k)) is ∙ ap (text_in s) (call_form x))

pub returns-in-Strings : goal.returns-in-Strings
returns-in-Strings c =
    let s = setting_of c.args.consts.now in
    subst (λ f. IfOk c.text_of_items.result (λ text. text ≡ text_in s f)) (ap (λ es. Strings (trees_of es)) c.deref.ensures.value ∙ sym (ap form_of c.in-Strings.is ∙ strings_is c.in-Strings.items)) c.text_of_items.ensures

pub returns-in-Call : goal.returns-in-Call
returns-in-Call c = c.no_text.ensures ∙ call_has_none (setting_of c.args.consts.now) c.args.form.now c.in-Call.is
