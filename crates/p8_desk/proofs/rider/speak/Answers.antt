use Rattle.std.proofs.Common.{◌≡◌, ◌∷◌, Bool, true, false, Some, sym, subst}
use Rattle.p8_access.specs.declared.lives.Next.{Next}
use Rattle.p8_ledger.specs.declared.steps.Step.TheVariants.{Said}
use Rattle.p8_ledger.specs.Records.{turns, IsTrueOf}
use Rattle.p8_ledger.specs.Ledgers.{Found}
use Rattle.p8_desk.specs.Seats.{Spoken}
use Rattle.p8_desk.proofs.Riding.{rides-true}
use Rattle.p8_desk.proofs.Working.{spoken-says, spoken-none}
use Rattle.p8_desk.proofs.rider.speak.Goals as goal

differ : {b : Bool} → b ≡ false → b ≡ true → ⊥
differ x y = cc

pub returns-then-not-owes : goal.returns-then-not-owes
returns-then-not-owes c = λ w r stands rides.
    spoken-none w c.args.cog r c.args.ledger.now c.args.runner.now (λ owes. (let b = (c.owes.ensures w r stands).1 owes in differ c.if-not-owes.true b)) stands rides

pub returns : goal.returns
returns c = λ w r stands rides.
    let n = c.args.cog in
    let next = c.say-next.ensures.next in
    let owes = (c.owes.ensures w r stands).0 c.if-not-owes.false in
    let truth : IsTrueOf w (turns r) n c.say-next.result = subst (λ (x : Next). IsTrueOf w (turns r) n x) (sym next) (rides-true w n r c.args.runner.now rides) in
    let found : Found w c.say.new.self (Said n c.args.runner.now.next ∷ r) = subst (λ (x : Next). Found w c.say.new.self (Said n x ∷ r)) next (c.say.ensures.found w r stands truth owes.runs) in
    subst (λ (x : Next). Spoken w n c.args.runner.now.next r (Some x) c.say.new.self c.say-next.new.self) (sym next)
    (spoken-says w n r c.say.new.self c.args.runner.now c.say-next.new.self c.requires.found owes rides found (c.say-next.ensures.rides w n r rides))
