use Rattle.p8_lexer.specs.declared.word.Word.TheVariants as word
use Rattle.p8_expr.proofs.Runs.{refuted}
use Rattle.p8_lines.specs.declared.arrow.Arrow.{Arrow}
use Rattle.p8_lines.specs.declared.sign.Sign.TheVariants as sign
use Rattle.p8_lines.specs.declared.state.LineState.TheVariants as state
use Rattle.std.proofs.Common.{get_or}
use Rattle.p8_lines.specs.Signs.{Matches}
use Rattle.p8_lines.proofs.Targets.{none_skipped, one_more, leads_there, leads_nowhere}
use Rattle.p8_lines.proofs.reading.first_target.Goals as goal

-- what stands for an arrow past the last one
abbrev past : Arrow
past = record { sign = sign.Word word.PlusPlus; to = state.End }

pub loop-arrow-init : goal.loop-arrow-init
loop-arrow-init c = none_skipped c.args.arrows.now c.args.word c.args.length

pub returns-then-matches : goal.returns-then-matches
returns-then-matches c = leads_there c.args.arrows.now c.loop-arrow.arrow-index c.args.word c.args.length past c.loop-arrow-test.true (c.matches.ensures.0 c.if-matches.true) c.loop-arrow.invariant

pub loop-arrow-preserved : goal.loop-arrow-preserved
loop-arrow-preserved c =
    one_more c.args.arrows.now c.loop-arrow.arrow-index c.args.word c.args.length past c.loop-arrow-test.true
    (refuted c.matches.result (Matches (get_or c.args.arrows.now c.loop-arrow.arrow-index past).sign c.args.word c.args.length) c.if-matches.false c.matches.ensures) c.loop-arrow.invariant

pub returns : goal.returns
returns c = leads_nowhere c.args.arrows.now c.loop-arrow.arrow-index c.args.word c.args.length c.loop-arrow-test.false c.loop-arrow.invariant
