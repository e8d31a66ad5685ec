use Rattle.std.proofs.Common.{◌==◌, arith, rules}
use prog.Atomic.{either}
use Rattle.p8_desk.proofs.Keeping.{rings}
use Rattle.p8_desk.proofs.bells.wait_at_bell.Goals as goal

pub compare_exchange-requires : goal.compare_exchange-requires
compare_exchange-requires g c =
    let near = c.requires.own.2 in
    let words = c.requires.own.1 in
    let bell = c.bell_of-bell.ensures in
    (c.requires.own.0, omega arith, rings _ _ _ _ _ (omega arith) (λ n. either (n == 0) 2 n))

pub store-requires : goal.store-requires
store-requires g c =
    let near = c.requires.own.2 in
    let words = c.requires.own.1 in
    let bell = c.bell_of-bell.ensures in
    (search rules, omega arith, rings _ _ _ _ _ (omega arith) (λ _. 0))
