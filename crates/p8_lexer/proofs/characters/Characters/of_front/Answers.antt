use Rattle.std.proofs.Common.{◌∙◌, sym, ap, length, arith}
use Rattle.std.proofs.lemmas.List.{take_all, length-take}
use Rattle.p8_lexer.proofs.characters.Characters.of_front.Goals as goal

pub returns-then-len-le-LONGEST-clause-front : goal.returns-then-len-le-LONGEST-clause-front
returns-then-len-le-LONGEST-clause-front c = c.of_file-text.ensures ∙ sym (take_all 1048576 _ (omega (arith, ap length c.of_file-text.ensures)))

pub returns-else-len-le-LONGEST-clause-short : goal.returns-else-len-le-LONGEST-clause-short
returns-else-len-le-LONGEST-clause-short c =
    let e = ap length c.first.ensures in
    omega (arith, e, length-take 1048576 c.of_file-text.result)
