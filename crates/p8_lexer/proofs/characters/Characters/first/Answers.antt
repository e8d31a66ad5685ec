use Rattle.std.proofs.Common.{ap, ◌∙◌, arith}
use Rattle.p8_lexer.specs.Characters.{units}
use Rattle.p8_lexer.proofs.Units.{units_within, units_before}
use Rattle.p8_lexer.proofs.characters.Characters.first.Goals as goal

pub overflow_mul-n : goal.overflow_mul-n
overflow_mul-n c = let h = units_within _ _ _ c.self.view_is c.if-self.true c.args.n c.requires in omega (arith, h, c.self.told)

pub front-requires : goal.front-requires
front-requires c = units_within _ _ _ c.self.view_is c.if-self.true c.args.n c.requires

pub returns-then-self : goal.returns-then-self
returns-then-self c = ap units c.front.ensures ∙ units_before _ _ _ c.self.view_is c.if-self.true c.args.n
