use Rattle.p8_prop.proofs.Printing.{runs-print}
use Rattle.p8_prop.proofs.run_laws.runs_print_their_history.Goals as goal

pub returns : goal.returns
returns c = record { prints = runs-print }
