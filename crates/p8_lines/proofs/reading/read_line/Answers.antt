use Rattle.std.proofs.Common.{◌≡◌, inr, inl, length, refl, sym, ap, subst, arith, rules}
use Rattle.std.specs.Prelude.{IfErr}
use Rattle.std.proofs.lemmas.Grind.{common_steps}
use Rattle.p8_grammar.specs.Views.{setting_of}
use Rattle.p8_tree.specs.declared.faults.Fault.{Fault}
use Rattle.p8_tree.specs.Faults.{IfRefused}
use Rattle.p8_lexer.specs.Pieces.{pieces_of}
use Rattle.p8_lines.specs.declared.state.LineState.TheVariants as state
use Rattle.p8_expr.specs.Cursors.{Spot}
use Rattle.p8_lines.specs.Tokens.{left}
use Rattle.p8_lines.specs.Lines.{Reads, read, refused}
use Rattle.p8_lines.specs.Stopping.{Stops, Advances}
use Rattle.p8_expr.proofs.Runs.{refuted}
use Rattle.p8_lines.proofs.Steps.{begin_goes, goes_further, still_within, fits_there, line_read, line_refused, onward}
use Rattle.p8_tree.proofs.Failing.{err_so}
use Rattle.p8_lines.proofs.reading.read_line.Goals as goal

pub steps-init : goal.steps-init
steps-init c =
    let old = c.args.here.now in
    record {
      goes = begin_goes old.bytes old.tokens old.at c.args.state (pieces_of c.new-pieces.result.items) (ap pieces_of c.new-pieces.ensures.items);
      same = refl;
      within = omega (arith, c.requires);
      ended = λ lt. absurd (omega (arith, c.requires, lt));
      ordered = omega arith;
      onward = inl refl;
    }

pub steps-preserved : goal.steps-preserved
steps-preserved c =
    let x = subst (λ s. Advances s c.step.new.here c.steps.now (pieces_of c.steps.pieces.items) (pieces_of c.step.new.pieces.items) c.in_ok-now.now) c.steps.invariant.same c.in_ok-now.ensures.advances in
    record {
      goes = goes_further c.steps.invariant.goes x;
      same = x.same;
      within = x.within;
      ended = x.ended;
      ordered = (let lt = x.onward in let le = c.steps.invariant.ordered in omega (arith, lt, le));
      onward = inr (let lt = x.onward in let le = c.steps.invariant.ordered in omega (arith, lt, le));
    }

pub step-requires : goal.step-requires
step-requires c =
    let unended = refuted c.is_end.result (c.steps.now ≡ state.End) c.steps-test.true c.is_end.ensures in
    let le = still_within (length c.args.here.now.tokens) c.steps.here.at c.steps.now c.steps.invariant.ended unended in
    let count = ap (λ (s : Spot). length s.tokens) c.steps.invariant.same in
    record {
      within = omega (arith, le, count);
      unended = unended;
      fits = fits_there (setting_of c.setting-setting.result) c.setting-setting.ensures c.steps.invariant.goes;
    }

pub returns : goal.returns
returns c =
    let old = c.args.here.now in
    let over = c.is_end.ensures.0 c.steps-test.false in
    record {
      moved = c.steps.invariant.same;
      within = c.steps.invariant.within;
      onward = λ n. onward c.args.state c.steps.now old.at c.steps.here.at c.steps.invariant.onward over n;
      read = subst (λ s. Reads c.args.state (left old) (read (pieces_of c.steps.pieces.items) (left s))) (sym c.steps.invariant.same) (line_read over c.steps.invariant.goes);
      refused = tt;
    }

pub returns-in_err-now-clause-refused : goal.returns-in_err-now-clause-refused
returns-in_err-now-clause-refused c =
    let old = c.args.here.now in
    let end = c.steps.here.at in
    let s = setting_of c.setting-setting.result in
    let P : Fault → Type 0 = λ f. Stops s c.steps.now (left c.steps.here) f.number f.place in
    let Q : Fault → Type 0 = λ f. Reads c.args.state (left old) (refused f.number f.place) in
    let stops : IfErr c.from_residual.result (IfRefused P) = first_of (search rules, grind (arith, common_steps)) in
    err_so P Q (λ f x. line_refused old.bytes old.tokens old.at end c.args.state c.steps.now (pieces_of c.steps.pieces.items) s f.number f.place c.requires c.setting-setting.ensures c.steps.invariant.goes
    (subst (λ h. Stops s c.steps.now (left h) f.number f.place) c.steps.invariant.same x)) c.from_residual.result stops
