use Rattle.std.proofs.Common.{◌∷◌, subst}
use Rattle.p8_tree.specs.Views.{method_of}
use Rattle.p8_tree.specs.Faults.{IfRefused}
use Rattle.p8_columns.specs.Columns.{FitsAs}
use Rattle.p8_columns.specs.Views.{kind_of}
use Rattle.p8_lines.specs.Tokens.{left}
use Rattle.p8_lines.specs.Lines.{refused, Reads}
use Rattle.p8_blocks.specs.Reading.{at, method, Fails}
use Rattle.p8_tree.proofs.Failing.{refused_so}
use Rattle.p8_blocks.proofs.Entering.{fits, may_read, reading_fails, told}
use Rattle.p8_blocks.proofs.Stepping.{method_grown}
use Rattle.p8_blocks.proofs.lines.method_line.Goals as goal

pub take-requires : goal.take-requires
take-requires c = λ ls h.
    let k = c.requires.token in
    subst (λ p. FitsAs (kind_of c.in_ok-kind.kind) p.column ls) k.same_place (fits (kind_of c.in_ok-kind.kind) (c.in_ok-state.ensures.read ls k.token h k.same_word k.same_place).enters c.in_ok-kind.ensures.suits)

pub returns-in_err-kind-clause-refused : goal.returns-in_err-kind-clause-refused
returns-in_err-kind-clause-refused c = λ b ls ps s h.
    let ts = left c.args.here.now in
    let q = c.in_ok-state.state in
    let m = method_of c.args.method in
    told c.from_residual-in_err-kind.result _ (IfRefused (λ f. Fails (at (method m ls ∷ ps) b) ts f.number f.place)) c.from_residual-in_err-kind.ensures.1
    (refused_so (λ f. Reads q ts (refused f.number f.place)) (λ f. Fails (at (method m ls ∷ ps) b) ts f.number f.place)
    (reading_fails s m ls ps q (may_read s (c.in_ok-state.ensures.read ls s.token h s.is.same_word s.is.same_place))) _ c.in_err-kind.ensures.refused)

pub returns-in_err-state-clause-refused : goal.returns-in_err-state-clause-refused
returns-in_err-state-clause-refused c = λ b ls ps s h.
    let ts = left c.args.here.now in
    let m = method_of c.args.method in
    told c.from_residual.result _ (IfRefused (λ f. Fails (at (method m ls ∷ ps) b) ts f.number f.place)) c.from_residual.ensures.1 (c.in_err-state.ensures.refused b m ls ps s h)

pub returns-clause-read : goal.returns-clause-read
returns-clause-read c = λ b ls ps s h.
    let m = method_of c.args.method in
    let q = c.in_ok-state.state in
    method_grown s c.args.method ls ps (may_read s (c.in_ok-state.ensures.read ls s.token h s.is.same_word s.is.same_place)) c.in_ok-kind.ensures.read c.take.new.self c.begun_by-begun.result c.begun_by-begun.ensures (c.in_ok-take.ensures ls h)
