use Rattle.std.proofs.Common.{codes}
use Rattle.std.specs.List.{flat_map}
use Rattle.std.proofs.lemmas.Result.{on_ok_weaker}
use Rattle.p8_wave.specs.Sections.{entry_text}
use Rattle.p8_wave.proofs.Pieces.{three}
use Rattle.p8_wave.proofs.heads.push_first.Goals as goal

pub returns : goal.returns
returns c =
    on_ok_weaker c.push_text-2.result
    (λ e. three c.args.out.now.items (codes "#0\n$dumpvars\n") (flat_map (entry_text c.args.first.now) c.args.entries.now) (codes "$end\n") _ _ _ c.in_ok-push_text.ensures c.in_ok-push_values.ensures e)
    c.push_text-2.ensures
