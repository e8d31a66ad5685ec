use Rattle.std.proofs.Common.{◌∙◌, ◌++◌, ap, sym, append-nil}
use Rattle.p8_hint.proofs.Others.{port_other}
use Rattle.p8_hint.proofs.rules.put_port.Goals as goal

pub returns-in_default : goal.returns-in_default
returns-in_default c = sym (append-nil c.args.hints.now.items) ∙ ap (λ m. c.args.hints.now.items ++ m) (port_other c.args.port.now.place c.args.port.now.kind c.in_default.not-Number)
