use Rattle.std.proofs.Common.{arith}
use Rattle.std.proofs.lemmas.Bool.Decides.{nat_tests}
use Rattle.p8_lexer.proofs.Units.{unit_at, unit_within}
use Rattle.p8_lexer.proofs.characters.Characters.at.Goals as goal

pub overflow_mul-i : goal.overflow_mul-i
overflow_mul-i c = let h = unit_within _ _ _ c.self.view_is c.if-self.true c.args.i c.requires in omega (arith, h, c.self.told)

pub overflow_add-i : goal.overflow_add-i
overflow_add-i c = let h = unit_within _ _ _ c.self.view_is c.if-self.true c.args.i c.requires in omega (arith, h, c.self.told)

pub bounds-self-inside-i : goal.bounds-self-inside-i
bounds-self-inside-i c = unit_within _ _ _ c.self.view_is c.if-self.true c.args.i c.requires

pub overflow_mul-result : goal.overflow_mul-result
overflow_mul-result c = let h = unit_within _ _ _ c.self.view_is c.if-self.true c.args.i c.requires in omega (arith, h, c.self.told)

pub bounds-self-inside-i-then-self-i-eq0 : goal.bounds-self-inside-i-then-self-i-eq0
bounds-self-inside-i-then-self-i-eq0 c = let h = unit_within _ _ _ c.self.view_is c.if-self.true c.args.i c.requires in omega (arith, h)

pub returns-then-self-i-eq0 : goal.returns-then-self-i-eq0
returns-then-self-i-eq0 c = let h = unit_at _ _ _ c.self.view_is c.if-self.true c.args.i c.requires in let z = c.if-self-i-eq0.true in grind (arith, nat_tests)

pub returns-else-self-i-eq0 : goal.returns-else-self-i-eq0
returns-else-self-i-eq0 c = let h = unit_at _ _ _ c.self.view_is c.if-self.true c.args.i c.requires in let z = c.if-self-i-eq0.false in grind (arith, nat_tests)
