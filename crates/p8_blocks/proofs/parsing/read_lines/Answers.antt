use Rattle.std.proofs.Common.{◌≡◌, ◌≤◌, length, sym, ap, subst, arith}
use Rattle.p8_tree.specs.Views.{source_of}
use Rattle.p8_tree.specs.Faults.{IfRefused}
use Rattle.p8_expr.specs.Cursors.{Spot, IsLater}
use Rattle.p8_expr.proofs.Runs.{granted}
use Rattle.p8_lines.specs.Tokens.{all_tokens, left}
use Rattle.p8_lines.proofs.Steps.{not_ended}
use Rattle.p8_blocks.specs.Standing.{Reached}
use Rattle.p8_blocks.specs.Reading.{Fails, Goes, Parses, start, fault}
use Rattle.p8_tree.proofs.Failing.{refused_so}
use Rattle.p8_blocks.proofs.Entering.{told}
use Rattle.p8_blocks.proofs.Reaching.{begun_reached, more_reached, refused_there, all_reached}
use Rattle.p8_blocks.proofs.parsing.read_lines.Goals as goal

pub lines-init : goal.lines-init
lines-init c =
    let bytes = c.args.bytes.now in
    let tokens = c.args.tokens.now in
    let new = c.new-here.ensures in
    let same : c.new-here.result ≡ record { bytes = bytes; tokens = tokens; at = c.new-here.result.at } = λ i. record { bytes = new.bytes i; tokens = new.tokens i; at = c.new-here.result.at } in
    let first : c.new-here.result ≡ record { bytes = bytes; tokens = tokens; at = 0 } = λ i. record { bytes = new.bytes i; tokens = new.tokens i; at = new.at i } in
    record {
      same = same;
      within = omega (arith, new.at);
      reached = subst (λ (s : Spot). Reached (all_tokens bytes tokens) (left s) c.new-file.result) (sym first) (begun_reached c.new-file.result c.new-file.ensures);
    }

pub line-requires : goal.line-requires
line-requires c = not_ended c.lines.here c.is_at_end.result c.lines-test.true c.is_at_end.ensures

pub lines-preserved : goal.lines-preserved
lines-preserved c =
    let r = c.lines.invariant.reached in
    let x = subst (λ (s : Spot). IsLater s c.line.new.here) c.lines.invariant.same c.in_ok-line.ensures.later in
    record { same = x.0; within = x.2; reached = more_reached r (c.in_ok-line.ensures.read r.position r.stands) }

pub returns-in_err-line-clause-refused : goal.returns-in_err-line-clause-refused
returns-in_err-line-clause-refused c =
    let r = c.lines.invariant.reached in
    let ts = all_tokens c.args.bytes.now c.args.tokens.now in
    told c.from_residual.result _ (IfRefused (λ f. Parses ts (fault f.number f.place))) c.from_residual.ensures.1
    (refused_so (λ f. Fails r.position (left c.lines.here) f.number f.place) (λ f. Parses ts (fault f.number f.place)) (λ f h. refused_there f.number f.place r h) _ (c.in_err-line.ensures.refused r.position r.stands))

pub returns-clause-read : goal.returns-clause-read
returns-clause-read c =
    let bytes = c.args.bytes.now in
    let tokens = c.args.tokens.now in
    let same = c.lines.invariant.same in
    let r = c.lines.invariant.reached in
    let ge = granted c.is_at_end.result (length c.lines.here.tokens ≤ c.lines.here.at) c.lines-test.false c.is_at_end.ensures in
    let count = ap (λ (s : Spot). length s.tokens) same in
    let read : Reached (all_tokens bytes tokens) (left (record { bytes = bytes; tokens = tokens; at = c.lines.here.at })) c.lines.file = record {
      position = r.position;
      goes = subst (λ (s : Spot). Goes start (all_tokens bytes tokens) r.position (left s)) same r.goes;
      stands = r.stands;
    } in
    all_reached bytes tokens c.lines.here.at (source_of c.in_ok-finish.field-0) read (omega (arith, ge, count)) c.lines.invariant.within (c.in_ok-finish.ensures r.position r.stands)
