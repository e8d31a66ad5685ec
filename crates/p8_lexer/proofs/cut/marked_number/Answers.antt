use Rattle.std.proofs.Common.{ℕ, ◌≤◌, inl, subst, length}
use Rattle.p8_lexer.specs.Lexing.{AreDigits}
use Rattle.p8_lexer.proofs.Cuts.{no_number}
use Rattle.p8_lexer.proofs.cut.marked_number.Goals as goal

pub returns-in-None : goal.returns-in-None
returns-in-None c =
    let text = c.args.text.now in
    let r = c.args.radix in
    let none = subst (λ m. (n : ℕ) → n ≤ length text → AreDigits r text m n → ⊥) c.mark_length.ensures c.in-None.ensures in
    inl (c.requires.percent, no_number text r c.requires.only none)
