use Rattle.std.proofs.Common.{subst}
use Rattle.p8_tree.specs.Faults.{IfRefused}
use Rattle.p8_expr.specs.Cursors.{Spot}
use Rattle.p8_lines.specs.Tokens.{left}
use Rattle.p8_lines.specs.Lines.{refused, Reads}
use Rattle.p8_blocks.specs.Standing.{TellsTooDeep}
use Rattle.p8_tree.proofs.Failing.{refused_so}
use Rattle.p8_blocks.proofs.Entering.{deep_told}
use Rattle.p8_blocks.proofs.entry.too_deep.Goals as goal

pub returns-in-Ok : goal.returns-in-Ok
returns-in-Ok c =
    let P : Spot → Type 0 = λ s. IfRefused (λ f. TellsTooDeep c.args.state (left s) c.args.first.place c.args.first.begin f.number f.place) c.too_nested.result in
    subst P c.copied-again.ensures
    (refused_so _ (λ f. TellsTooDeep c.args.state (left c.copied-again.result) c.args.first.place c.args.first.begin f.number f.place)
    (deep_told c.args.first.place c.args.first.begin c.in-Ok.ensures.read.reads) c.too_nested.result c.too_nested.ensures)

pub returns-in-Err : goal.returns-in-Err
returns-in-Err c =
    c.first_refusal.ensures c.args.state (left c.args.here.now)
    (subst (λ (s : Spot). IfRefused (λ f. Reads c.args.state (left s) (refused f.number f.place)) c.in-Err.fail) c.copied-again.ensures c.in-Err.ensures.refused)
