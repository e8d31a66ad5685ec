use Rattle.std.proofs.Common.{◌≡◌, ◌∙◌, length, get_or, sym, ap, arith}
use Rattle.std.specs.Prelude.{not}
use Rattle.p8_explain.specs.Causes.{is_of_word}
use Rattle.p8_explain.proofs.Beginnings.{ends_before, ends_name}
use Rattle.p8_explain.proofs.standing.begins_with.Goals as goal

pub returns-then-i-len : goal.returns-then-i-len
returns-then-i-len c = sym (ends_before c.args.name.now c.args.text.now c.loop-i.i (omega arith) (omega arith)) ∙ c.loop-i.invariant

pub returns-else-name-len : goal.returns-else-name-len
returns-else-name-len c =
    let all_read : length c.args.name.now ≡ c.loop-i.i = omega (arith, c.loop-i.auto.i-end) in
    ap not c.is_of_word.ensures
    ∙ ap (λ x. not (is_of_word x)) c.at-else-name-len.ensures
    ∙ ap (λ n. not (is_of_word (get_or c.args.text.now n 0))) all_read
    ∙ sym (ends_name c.args.name.now c.args.text.now c.loop-i.i (omega arith) (omega arith))
    ∙ c.loop-i.invariant
