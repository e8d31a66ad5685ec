use Rattle.std.proofs.Common.{length, sym, ap, ◌∙◌}
use Rattle.p8_lexer.proofs.Units.{in_units, units-length}
use Rattle.p8_lexer.proofs.characters.Characters.len.Goals as goal

pub returns-then-self : goal.returns-then-self
returns-then-self c = sym (ap length (in_units _ _ _ c.self.view_is c.if-self.true) ∙ units-length _)
