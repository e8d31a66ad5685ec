use Rattle.std.proofs.Common.{◌≡◌, ◌∙◌, ap, sym, ◌<◌, length, arith}
use Rattle.p8_ledger.proofs.Rows.{ends-last}
use Rattle.p8_ledger.proofs.ledger.Ledger.newest.Goals as goal

pub returns : goal.returns
returns c =
    let many : length c.as_slice-turns.result.now ≡ length c.args.self.now.turns.list = ap length c.as_slice-turns.ensures in
    let some : 0 < length c.args.self.now.turns.list = c.requires in
    let ends = ends-last _ c.as_slice-turns.result.now _ (omega arith) in
    (ends.0, sym c.as_slice-turns.ensures ∙ ends.1)
