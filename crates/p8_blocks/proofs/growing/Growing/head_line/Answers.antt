use Rattle.std.proofs.Common.{◌∙◌, ap, subst, length, arith}
use Rattle.p8_tree.specs.Faults.{IfRefused}
use Rattle.p8_expr.specs.Cursors.{Spot}
use Rattle.p8_lines.specs.Tokens.{left}
use Rattle.p8_lines.specs.Lines.{refused, Reads}
use Rattle.p8_blocks.specs.Reading.{Fails, head_state}
use Rattle.p8_blocks.specs.Standing.{Begins, word_of_head}
use Rattle.p8_tree.proofs.Failing.{refused_so}
use Rattle.p8_blocks.proofs.Entering.{told}
use Rattle.p8_blocks.proofs.Stepping.{head_continues, head_refused, later_still}
use Rattle.p8_blocks.proofs.growing.Growing.head_line.Goals as goal

pub read_head-requires : goal.read_head-requires
read_head-requires c =
    let lt = c.requires.within in
    let at = ap (λ (s : Spot). s.at) c.advance.ensures in
    let count = ap (λ (s : Spot). length s.tokens) c.advance.ensures in
    omega (arith, lt, at, count)

pub returns-clause-later : goal.returns-clause-later
returns-clause-later c = later_still c.advance.ensures c.in_ok-block.ensures.later

pub returns-in_err-block-clause-refused : goal.returns-in_err-block-clause-refused
returns-in_err-block-clause-refused c = λ x s.
    let ts = left c.args.here.now in
    let h = c.args.head in
    told c.from_residual.result _ (IfRefused (λ f. Fails x ts f.number f.place)) c.from_residual.ensures.1
    (refused_so (λ f. Reads (head_state (word_of_head h)) (left c.advance.new.self) (refused f.number f.place)) (λ f. Fails x ts f.number f.place)
    (λ f r. head_refused x h f.number f.place c.requires.starts c.requires.head c.requires.column (subst (λ t. Reads (head_state (word_of_head h)) (left t) (refused f.number f.place)) c.advance.ensures r)) _ c.in_err-block.ensures.refused)

pub returns-clause-read : goal.returns-clause-read
returns-clause-read c = λ x s.
    let st = c.requires.starts in
    let y = subst (λ t. Begins st.token (left t) c.in_ok-block.block (left c.read_head.new.here)) c.advance.ensures (c.in_ok-block.ensures.read st.token (st.is.same_word ∙ c.requires.head)) in
    head_continues x c.args.head st c.requires.head c.requires.column y (c.in_ok-begin.ensures x y.part s y.stands)
