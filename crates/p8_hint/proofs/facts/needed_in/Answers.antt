use Rattle.std.proofs.Common.{◌≡◌, ◌∙◌, ℕ, List, length, drop, map, ap, ap₂, sym, subst, arith}
use Rattle.std.specs.Str.{bytes_eq}
use Rattle.std.proofs.lemmas.List.{drop_all}
use Rattle.p8_tree.specs.Views.{method_of}
use Rattle.p8_hint.specs.Rules.{after}
use Rattle.p8_hint.specs.FileFacts.{bytes_of, needed_in}
use Rattle.p8_hint.specs.Tables.{number_in}
use Rattle.p8_hint.proofs.Tabling.{last_is}
use Rattle.p8_hint.proofs.facts.needed_in.Goals as goal

pub loop-at-init : goal.loop-at-init
loop-at-init c = (omega arith, λ name. c.new-table.ensures name ∙ ap (λ ms. needed_in (map (λ m. method_of m.now) ms) (drop (length c.args.methods.now) c.args.codes.now) name) (sym (drop_all (length c.args.methods.now) c.args.methods.now (omega arith))))

pub loop-at-preserved : goal.loop-at-preserved
loop-at-preserved c =
    let m = c.index-methods-at.result in
    let code = c.index-codes-at.result in (
      omega arith,
      λ name. c.in_ok-put_needed.ensures name ∙ ap (after (bytes_eq name (method_of m.now).name) (λ before. bytes_of (method_of m.now) code)) (c.loop-at.invariant.1 name)
          ∙ sym (ap₂ (λ ms codes. needed_in (map (λ m. method_of m.now) ms) codes name) (last_is c.args.methods.now c.loop-at.at m c.loop-at-test.true c.loop-at.invariant.0 c.index-methods-at.is)
          (last_is c.args.codes.now c.loop-at.at code c.loop-at-test.true (omega (arith, c.loop-at.invariant.0, c.requires)) c.index-codes-at.is)),
    )

pub returns : goal.returns
returns c = subst (λ (j : ℕ). (name : List ℕ) → number_in c.loop-at.table name ≡ needed_in (map (λ m. method_of m.now) (drop j c.args.methods.now)) (drop j c.args.codes.now) name) (let none : c.loop-at.at ≡ 0 = omega arith in none) c.loop-at.invariant.1
