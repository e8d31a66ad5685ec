use Rattle.std.proofs.Common.{◌≡◌, ◌∙◌, ℕ, ◌-◌, List, ◌∷◌, length, drop, ap, ap₂, sym, subst, arith}
use Rattle.std.proofs.lemmas.List.{drop_all}
use Rattle.p8_constants.specs.Standing.{item_of, items_of}
use Rattle.p8_hint.specs.Rules.{after}
use Rattle.p8_hint.specs.FileFacts.{and_code, code_at, has_label, is_code, on_code_in, or_behind}
use Rattle.p8_hint.specs.Tables.{number_in}
use Rattle.p8_hint.proofs.Tabling.{last_is}
use Rattle.p8_hint.proofs.labels.labels_of.Goals as goal

pub loop-at-init : goal.loop-at-init
loop-at-init c =
    let none = sym (drop_all (length c.args.items.now) c.args.items.now (omega arith)) in
    (omega arith, ap (λ xs. is_code (items_of xs)) none, λ name. c.new-table.ensures name ∙ ap (λ xs. on_code_in (items_of xs) name) none)

pub loop-at-preserved : goal.loop-at-preserved
loop-at-preserved c =
    let xs = c.args.items.now in
    let x = c.index-items-at.result in
    let k = c.loop-at.at in
    let here : drop (k - 1) xs ≡ x ∷ drop k xs = last_is xs k x c.loop-at-test.true c.loop-at.invariant.0 c.index-items-at.is in
    let code : c.or_behind-is_code.result ≡ is_code (items_of (x ∷ drop k xs)) = c.or_behind-is_code.ensures ∙ ap₂ or_behind c.code_at.ensures c.loop-at.invariant.1 in (
      omega arith,
      code ∙ sym (ap (λ ys. is_code (items_of ys)) here),
      λ name. c.in_ok-mark_label.ensures name
          ∙ ap (after (has_label name (item_of x)) (and_code c.or_behind-is_code.result)) (c.loop-at.invariant.2 name)
          ∙ ap (λ b. after (has_label name (item_of x)) (and_code b) (on_code_in (items_of (drop k xs)) name)) code
          ∙ sym (ap (λ ys. on_code_in (items_of ys) name) here),
    )

pub returns : goal.returns
returns c = subst (λ (j : ℕ). (name : List ℕ) → number_in c.loop-at.table name ≡ on_code_in (items_of (drop j c.args.items.now)) name) (let none : c.loop-at.at ≡ 0 = omega arith in none) c.loop-at.invariant.2
