use Rattle.std.proofs.Common.{◌∙◌, ◌++◌, ap, sym, append-nil}
use Rattle.p8_hint.specs.Tables.{facts_of}
use Rattle.p8_hint.proofs.Others.{stack_other}
use Rattle.p8_hint.proofs.rules.put_stack.Goals as goal

pub returns-in_default : goal.returns-in_default
returns-in_default c = sym (append-nil c.args.hints.now.items) ∙ ap (λ m. c.args.hints.now.items ++ m) (stack_other (facts_of c.args.facts.now) c.args.needed c.args.stack.now.place c.args.stack.now.kind c.in_default.not-Number c.in_default.not-Var c.in_default.not-Address)
