use Rattle.std.proofs.Common.{◌≡◌, ◌∙◌, ℕ, List, length, drop, ap, sym, subst, arith}
use Rattle.std.proofs.lemmas.List.{drop_all}
use Rattle.p8_fold.specs.ConstantEntries.{setting_of}
use Rattle.p8_constants.specs.Standing.{item_of, items_of}
use Rattle.p8_hint.specs.Rules.{after}
use Rattle.p8_hint.specs.FileFacts.{array_in, bytes_in, is_array}
use Rattle.p8_hint.specs.Tables.{number_in}
use Rattle.p8_hint.proofs.Tabling.{last_is}
use Rattle.p8_hint.proofs.facts.arrays_of.Goals as goal

pub loop-at-init : goal.loop-at-init
loop-at-init c = (omega arith, λ name. c.new-table.ensures name ∙ ap (λ xs. array_in (setting_of c.args.consts.now) (items_of xs) name) (sym (drop_all (length c.args.items.now) c.args.items.now (omega arith))))

pub loop-at-preserved : goal.loop-at-preserved
loop-at-preserved c =
    let s = setting_of c.args.consts.now in
    let x = c.index-items-at.result in (
      omega arith,
      λ name. c.in_ok-put_array.ensures name ∙ ap (after (is_array name (item_of x)) (λ before. bytes_in s (item_of x))) (c.loop-at.invariant.1 name)
          ∙ sym (ap (λ xs. array_in s (items_of xs) name) (last_is c.args.items.now c.loop-at.at x c.loop-at-test.true c.loop-at.invariant.0 c.index-items-at.is)),
    )

pub returns : goal.returns
returns c = subst (λ (j : ℕ). (name : List ℕ) → number_in c.loop-at.table name ≡ array_in (setting_of c.args.consts.now) (items_of (drop j c.args.items.now)) name) (let none : c.loop-at.at ≡ 0 = omega arith in none) c.loop-at.invariant.1
