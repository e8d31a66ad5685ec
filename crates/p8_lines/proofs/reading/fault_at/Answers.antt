use Rattle.std.proofs.Common.{◌∙◌, ap}
use Rattle.std.specs.Prelude.{unwrap_or}
use Rattle.p8_tree.specs.declared.faults.Fault.{Fault}
use Rattle.p8_tree.specs.declared.refusal.Refusal.TheVariants.{Unexpected}
use Rattle.p8_tree.specs.Refusals.{refusal_number}
use Rattle.p8_grammar.specs.Views.{setting_of}
use Rattle.p8_lines.specs.Lines.{number_of}
use Rattle.p8_lines.proofs.Targets.{word_here, place_here}
use Rattle.p8_lines.proofs.reading.fault_at.Goals as goal

pub returns-clause-number : goal.returns-clause-number
returns-clause-number c =
    ap (λ (f : Fault). f.number) c.at.ensures ∙ ap refusal_number c.unwrap_or-refusal.ensures ∙ ap (λ o. refusal_number (unwrap_or o Unexpected)) c.refusal_of.ensures ∙
    ap (number_of (setting_of c.args.setting)) (c.word.ensures ∙ word_here c.args.here.now)

pub returns-clause-place : goal.returns-clause-place
returns-clause-place c = ap (λ (f : Fault). f.place) c.at.ensures ∙ c.place.ensures ∙ place_here c.args.here.now
