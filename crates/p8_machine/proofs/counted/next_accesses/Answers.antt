use Rattle.std.proofs.Common.{ℕ, suc, List, [], ◌∷◌}
use Rattle.p8_machine.specs.declared.asked.Asked.{Asked}
use Rattle.p8_machine.specs.Counted.{IsAskedBy}
use Rattle.p8_machine.specs.Machines.{world_in, past_in}
use Rattle.p8_machine.proofs.Eight.{first-at, none-at}
use Rattle.p8_machine.proofs.counted.next_accesses.Goals as goal

pub returns-clause-each : goal.returns-clause-each
returns-clause-each c = λ stands.
    let Is : ℕ → Asked → Type 0 = λ n asked. IsAskedBy (world_in c.args.machine.now) (past_in c.args.machine.now) n asked in
    let Is1 : ℕ → Asked → Type 0 = λ n. Is (suc n) in
    let Is2 : ℕ → Asked → Type 0 = λ n. Is1 (suc n) in
    let Is3 : ℕ → Asked → Type 0 = λ n. Is2 (suc n) in
    let Is4 : ℕ → Asked → Type 0 = λ n. Is3 (suc n) in
    let Is5 : ℕ → Asked → Type 0 = λ n. Is4 (suc n) in
    let Is6 : ℕ → Asked → Type 0 = λ n. Is5 (suc n) in
    let Is7 : ℕ → Asked → Type 0 = λ n. Is6 (suc n) in
    let from8 : List Asked = [] in
    let from7 : List Asked = c.asked-8.result ∷ from8 in
    let from6 : List Asked = c.asked-7.result ∷ from7 in
    let from5 : List Asked = c.asked-6.result ∷ from6 in
    let from4 : List Asked = c.asked-5.result ∷ from5 in
    let from3 : List Asked = c.asked-4.result ∷ from4 in
    let from2 : List Asked = c.asked-3.result ∷ from3 in
    let from1 : List Asked = c.asked-2.result ∷ from2 in
    let at8 = none-at (λ n. Is7 (suc n)) in
    let at7 = first-at Is7 c.asked-8.result from8 (c.asked-8.ensures stands) at8 in
    let at6 = first-at Is6 c.asked-7.result from7 (c.asked-7.ensures stands) at7 in
    let at5 = first-at Is5 c.asked-6.result from6 (c.asked-6.ensures stands) at6 in
    let at4 = first-at Is4 c.asked-5.result from5 (c.asked-5.ensures stands) at5 in
    let at3 = first-at Is3 c.asked-4.result from4 (c.asked-4.ensures stands) at4 in
    let at2 = first-at Is2 c.asked-3.result from3 (c.asked-3.ensures stands) at3 in
    let at1 = first-at Is1 c.asked-2.result from2 (c.asked-2.ensures stands) at2 in
    first-at Is c.asked.result from1 (c.asked.ensures stands) at1
