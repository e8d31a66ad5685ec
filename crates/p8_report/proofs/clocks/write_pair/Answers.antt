use Rattle.std.proofs.Common.{ℕ, List, ◌++◌, take, ap, ◌∙◌}
use Rattle.p8_report.proofs.Decimals.{pair_at}
use Rattle.p8_report.proofs.clocks.write_pair.Goals as goal

pub returns-clause-text : goal.returns-clause-text
returns-clause-text c = c.write_text.ensures.text ∙ ap (λ (xs : List ℕ). take c.args.at c.args.page.now ++ xs) (pair_at c.args.number c.requires.number)
