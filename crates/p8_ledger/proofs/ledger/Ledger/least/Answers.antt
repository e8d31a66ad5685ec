use Rattle.std.proofs.Common.{◌≡◌, ap, ◌<◌, length, arith, inr}
use Rattle.p8_access.specs.Worlds.{World}
use Rattle.p8_ledger.proofs.Least.{first-front, no-front}
use Rattle.p8_ledger.proofs.Granting.{room-found}
use Rattle.p8_ledger.proofs.ledger.Ledger.least.Goals as goal

pub returns-then-least-self-clause-least : goal.returns-then-least-self-clause-least
returns-then-least-self-clause-least c = λ w r script found.
    let limit : c.args.self.now.limits.clocks ≡ w.clocks = ap (λ (w : World). w.clocks) found.world in
    inr (no-front w r found.truth c.first_key-least.result.key (c.first_key-least.ensures.first w r script found) (omega arith))

pub returns-clause-least : goal.returns-clause-least
returns-clause-least c = λ w r script found.
    let limit : c.args.self.now.limits.clocks ≡ w.clocks = ap (λ (w : World). w.clocks) found.world in
    let room : length c.args.self.now.turns.list < c.args.self.now.limits.turns = omega arith in (
      room-found w c.args.self.now r found room,
      first-front w r found.truth c.first_key-least.result.key (c.first_key-least.ensures.first w r script found) (omega arith),
    )
