use Rattle.std.proofs.Common.{◌≡◌, ◌∙◌, ap, ℕ, List, [], slice_index, arith}
use Rattle.std.proofs.lemmas.List.{get_or-replicate}
use Rattle.p8_ledger.specs.declared.fronts.TheConstants.{NEVER}
use Rattle.p8_ledger.proofs.Fronting.{renewed, idle-front}
use Rattle.p8_ledger.proofs.fronts.Fronts.open.Goals as goal

pub returns : goal.returns
returns c = λ w n said hub near at.
    renewed c.silent-fronts.result c.renew.new.self w [] c.args.sayings.now 0 c.args.until (λ s there. c.renew.ensures.own w [] s hub there) c.renew.ensures.others n said at
    (λ differ.
    let clock : slice_index c.silent-fronts.result.clocks n ≡ NEVER = ap (λ (xs : List ℕ). slice_index xs n) c.silent-fronts.ensures ∙ get_or-replicate 8 n NEVER 0 near in
    idle-front c.silent-fronts.result w n c.args.until said differ (omega arith))
