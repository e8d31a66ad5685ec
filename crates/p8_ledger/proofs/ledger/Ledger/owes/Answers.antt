use Rattle.std.proofs.Common.{◌∙◌, sym, ◌<◌, length, arith}
use Rattle.p8_ledger.specs.Records.{turns}
use Rattle.p8_ledger.proofs.Granting.{owed}
use Rattle.p8_ledger.proofs.ledger.Ledger.owes.Goals as goal

pub returns-in-Running : goal.returns-in-Running
returns-in-Running c = λ w r found.
    let room : length c.args.self.now.turns.list < c.args.self.now.limits.turns = omega arith in
    owed w c.args.self.now r c.args.cog c.in-Running.origin _ c.is_promise.result found c.requires room (sym (c.state.ensures w (turns r) found.hub) ∙ c.in-Running.is) c.is_promise.ensures
