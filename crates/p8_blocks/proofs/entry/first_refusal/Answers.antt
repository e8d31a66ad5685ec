use Rattle.std.proofs.Common.{subst}
use Rattle.p8_tree.specs.Faults.{IfRefused}
use Rattle.p8_lines.specs.Lines.{refused, Reads}
use Rattle.p8_blocks.specs.Standing.{TellsTooDeep, refused_there}
use Rattle.p8_tree.proofs.Failing.{refused_so}
use Rattle.p8_blocks.proofs.Entering.{granted, denied, deep_elsewhere}
use Rattle.p8_blocks.proofs.entry.first_refusal.Goals as goal

pub returns-then-is_same : goal.returns-then-is_same
returns-then-is_same c = λ q ts r.
    refused_there c.in-Refused.fault.place (granted c.if-is_same.true c.is_same.ensures) (subst (λ x. IfRefused (λ f. Reads q ts (refused f.number f.place)) x) c.in-Refused.is r)

pub returns-else-is_same : goal.returns-else-is_same
returns-else-is_same c = λ q ts r.
    let g = c.in-Refused.fault in
    refused_so _ (λ f. TellsTooDeep q ts c.args.first.place c.args.first.begin f.number f.place)
    (deep_elsewhere c.args.first.place c.args.first.begin g (subst (λ x. IfRefused (λ f. Reads q ts (refused f.number f.place)) x) c.in-Refused.is r) (denied c.if-is_same.false c.is_same.ensures)) c.too_nested.result c.too_nested.ensures
