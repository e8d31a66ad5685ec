use Rattle.std.proofs.Common.{arith}
use Rattle.p8_desk.proofs.Keeping.{rings}
use Rattle.p8_desk.proofs.bells.ring.Goals as goal

pub swap-requires : goal.swap-requires
swap-requires c =
    let near = c.requires.own.2 in
    let words = c.requires.own.1 in
    let bell = c.bell_of-bell.ensures in
    (c.requires.own.0, omega arith, rings _ _ _ _ _ (omega arith) (λ _. 1))
