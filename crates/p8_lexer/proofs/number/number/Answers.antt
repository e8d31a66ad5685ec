use Rattle.std.proofs.Common.{◌∙◌, inr, length, take, drop, refl, sym, ap, arith}
use Rattle.p8_lexer.specs.Lexing.{mark, base, value_behind}
use Rattle.p8_lexer.proofs.Pieces.{number_cut}
use Rattle.p8_lexer.proofs.number.number.Goals as goal

pub returns-in-Some : goal.returns-in-Some
returns-in-Some c =
    let text = c.args.text.now in
    let value = c.in-Some.ensures.1 ∙ ap (λ n. value_behind (base c.args.radix) 0 (drop n (take c.args.end text))) c.mark_length.ensures in
    (number_cut text c.args.radix c.args.end c.requires.marked c.requires.digits c.requires.no_float c.in-Some.value value, (c.in-Some.ensures.0, sym c.if-is_name_at.ensures))

pub returns-in-None : goal.returns-in-None
returns-in-None c =
    let text = c.args.text.now in
    let v = value_behind (base c.args.radix) 0 (drop (length (mark c.args.radix)) (take c.args.end text)) in
    let large = c.in-None.ensures in
    let same = ap (λ n. value_behind (base c.args.radix) 0 (drop n (take c.args.end text))) c.mark_length.ensures in
    inr (v, c.args.end, number_cut text c.args.radix c.args.end c.requires.marked c.requires.digits c.requires.no_float v refl, λ g. omega (arith, g.0, same, large))

pub returns-then-is_name_at : goal.returns-then-is_name_at
returns-then-is_name_at c =
    let text = c.args.text.now in
    let v = value_behind (base c.args.radix) 0 (drop (length (mark c.args.radix)) (take c.args.end text)) in
    inr (v, c.args.end, number_cut text c.args.radix c.args.end c.requires.marked c.requires.digits c.requires.no_float v refl, λ g. let no = c.if-is_name_at.ensures ∙ g.1 in cc)
