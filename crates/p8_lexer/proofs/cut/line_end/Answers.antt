use Rattle.std.proofs.Common.{◌≡◌, get_or}
use Rattle.p8_lexer.specs.declared.token.TokenKind.TheVariants.{LineEnd}
use Rattle.p8_lexer.proofs.Cuts.{one_cut, cut_is}
use Rattle.p8_lexer.proofs.cut.line_end.Goals as goal
use Rattle.p8_lexer.proofs.cut.line_end.Goals.{else-is_at-via-then-is_at+else-is_at-2, else-is_at-via-else-is_at}

pub returns-else-is_at : goal.returns-else-is_at
returns-else-is_at c =
    let text = c.args.text.now in
    let alone : get_or text 0 0 ≡ 13 → get_or text 1 0 ≡ 10 → ⊥ =
    elim c.else-is_at.branch [ else-is_at-via-then-is_at+else-is_at-2 w ↦ λ a b. w.if-is_at-2.ensures b | else-is_at-via-else-is_at w ↦ λ a b. w.if-is_at.ensures a ] in
    cut_is text LineEnd 1 c.token-else-is_at.result c.token-else-is_at.ensures (one_cut text c.requires.within c.requires.line_end alone) tt
