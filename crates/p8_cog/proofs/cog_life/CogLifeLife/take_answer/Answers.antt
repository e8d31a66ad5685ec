use Rattle.std.proofs.Common.{◌≡◌, ℕ, false, ◌∷◌, ◌++◌, []}
use Rattle.p8_access.specs.Lives.{has_ended}
use Rattle.p8_bcog.specs.Replay as Bytecodes
use Rattle.p8_bcog.specs.Whole as Spin
use Rattle.p8_cog.specs.Replay as Instructions
use Rattle.p8_cog.specs.Whole as Pasm
use Rattle.p8_cog.specs.Lives.{begins}
use Rattle.p8_cog.proofs.Every.{pasm-every, spin-every}
use Rattle.p8_cog.proofs.cog_life.CogLifeLife.take_answer.Goals as goal

pub returns-in-Pasm-clause-placed : goal.returns-in-Pasm-clause-placed
returns-in-Pasm-clause-placed c =
    rw c.in-Pasm.is (pasm-every (Pasm.stands_for c.args.self.now.pasm) (λ b ts. has_ended c.args.self.now.pasm.cog (ts ++ c.args.turn.now ∷ []) ≡ false → (clock : ℕ) × Instructions.Begins b (ts ++ c.args.turn.now ∷ []) c.take_answer.new.self.done clock) (λ b ts. has_ended c.args.self.now.pasm.cog (ts ++ c.args.turn.now ∷ []) ≡ false → (clock : ℕ) × begins b (ts ++ c.args.turn.now ∷ []) c.take_answer.new.self.done clock) (λ x ts none. none) (λ x ts fact. fact) c.take_answer.ensures.placed)

pub returns-in-Spin-clause-placed : goal.returns-in-Spin-clause-placed
returns-in-Spin-clause-placed c =
    rw c.in-Spin.is (spin-every (Spin.stands_for c.args.self.now.spin) (λ b ts. has_ended c.args.self.now.spin.cog (ts ++ c.args.turn.now ∷ []) ≡ false → (clock : ℕ) × Bytecodes.Begins b (ts ++ c.args.turn.now ∷ []) c.take_answer-in-Spin.new.self.done clock) (λ b ts. has_ended c.args.self.now.spin.cog (ts ++ c.args.turn.now ∷ []) ≡ false → (clock : ℕ) × begins b (ts ++ c.args.turn.now ∷ []) c.take_answer-in-Spin.new.self.done clock) (λ x ts none. none) (λ x ts fact. fact) c.take_answer-in-Spin.ensures.placed)
