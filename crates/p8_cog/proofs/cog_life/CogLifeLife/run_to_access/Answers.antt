use Rattle.std.proofs.Common.{◌≡◌, ℕ, false}
use Rattle.p8_access.specs.Lives.{Tells, IsThorough, has_ended}
use Rattle.p8_bcog.specs.Replay as Bytecodes
use Rattle.p8_bcog.specs.Whole as Spin
use Rattle.p8_cog.specs.Replay as Instructions
use Rattle.p8_cog.specs.Whole as Pasm
use Rattle.p8_cog.specs.Lives.{asks, begins}
use Rattle.p8_cog.proofs.Every.{pasm-every, spin-every}
use Rattle.p8_cog.proofs.cog_life.CogLifeLife.run_to_access.Goals as goal

pub returns-in-Pasm-clause-tells : goal.returns-in-Pasm-clause-tells
returns-in-Pasm-clause-tells c =
    rw c.in-Pasm.is (pasm-every (Pasm.stands_for c.args.self.now.pasm) (λ b ts. Tells (Instructions.IsAsked b ts) c.args.until c.run_to_access.result) (λ b ts. Tells (asks b ts) c.args.until c.run_to_access.result) (λ x ts none. none) (λ x ts fact. fact) c.run_to_access.ensures.tells)

pub returns-in-Pasm-clause-placed : goal.returns-in-Pasm-clause-placed
returns-in-Pasm-clause-placed c =
    rw c.in-Pasm.is (pasm-every (Pasm.stands_for c.args.self.now.pasm) (λ b ts. has_ended c.args.self.now.pasm.cog ts ≡ false → (clock : ℕ) × Instructions.Begins b ts c.run_to_access.new.self.done clock) (λ b ts. has_ended c.args.self.now.pasm.cog ts ≡ false → (clock : ℕ) × begins b ts c.run_to_access.new.self.done clock) (λ x ts none. none) (λ x ts fact. fact) c.run_to_access.ensures.placed)

pub returns-in-Pasm-clause-thorough : goal.returns-in-Pasm-clause-thorough
returns-in-Pasm-clause-thorough c =
    rw c.in-Pasm.is (pasm-every (Pasm.stands_for c.args.self.now.pasm) (λ b ts. IsThorough (Instructions.Begins b ts) c.run_to_access.new.self.done c.args.until c.run_to_access.result) (λ b ts. IsThorough (begins b ts) c.run_to_access.new.self.done c.args.until c.run_to_access.result) (λ x ts none. none) (λ x ts fact. fact) c.run_to_access.ensures.thorough)

pub returns-in-Spin-clause-tells : goal.returns-in-Spin-clause-tells
returns-in-Spin-clause-tells c =
    rw c.in-Spin.is (spin-every (Spin.stands_for c.args.self.now.spin) (λ b ts. Tells (Bytecodes.IsAsked b ts) c.args.until c.run_to_access-in-Spin.result) (λ b ts. Tells (asks b ts) c.args.until c.run_to_access-in-Spin.result) (λ x ts none. none) (λ x ts fact. fact) c.run_to_access-in-Spin.ensures.tells)

pub returns-in-Spin-clause-placed : goal.returns-in-Spin-clause-placed
returns-in-Spin-clause-placed c =
    rw c.in-Spin.is (spin-every (Spin.stands_for c.args.self.now.spin) (λ b ts. has_ended c.args.self.now.spin.cog ts ≡ false → (clock : ℕ) × Bytecodes.Begins b ts c.run_to_access-in-Spin.new.self.done clock) (λ b ts. has_ended c.args.self.now.spin.cog ts ≡ false → (clock : ℕ) × begins b ts c.run_to_access-in-Spin.new.self.done clock) (λ x ts none. none) (λ x ts fact. fact) c.run_to_access-in-Spin.ensures.placed)

pub returns-in-Spin-clause-thorough : goal.returns-in-Spin-clause-thorough
returns-in-Spin-clause-thorough c =
    rw c.in-Spin.is (spin-every (Spin.stands_for c.args.self.now.spin) (λ b ts. IsThorough (Bytecodes.Begins b ts) c.run_to_access-in-Spin.new.self.done c.args.until c.run_to_access-in-Spin.result) (λ b ts. IsThorough (begins b ts) c.run_to_access-in-Spin.new.self.done c.args.until c.run_to_access-in-Spin.result) (λ x ts none. none) (λ x ts fact. fact) c.run_to_access-in-Spin.ensures.thorough)
