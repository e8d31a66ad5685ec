-- How what a cog keeps stands for a life and its turns.
use Rattle.std.specs.Prelude.{ℕ, suc, ◌+◌, ◌*◌, ◌≡◌, true, List, [], ◌∷◌, ◌++◌, length, take}
use Rattle.p8_access.specs.declared.kinds.Width.TheVariants.{Long}
use Rattle.p8_access.specs.declared.kinds.Access.TheVariants.{Read}
use Rattle.p8_access.specs.declared.order.Turn.{Turn}
use Rattle.p8_access.specs.Lives.{Loaded, Begun, PasmBegun, SpinBegun, has_ended}
use Rattle.p8_cog.specs.declared.progress.Had.{Had}
use Rattle.p8_cog.specs.declared.progress.Had.TheVariants.{Nothing, One, Two}
use Rattle.p8_cog.specs.declared.progress.Progress.{Progress}
use Rattle.p8_cog.specs.declared.stage.PasmStage.{PasmStage}
use Rattle.p8_cog.specs.declared.stage.PasmStage.TheVariants.{Loading, Running, Over}
use Rattle.p8_cog.specs.declared.state.PasmState.{PasmState}
use Rattle.p8_cog.specs.Replay.{Outcome, Asks, Goes, Ends, loading, played, replayed}

-- the turns that the instruction at hand has had
abbrev pub turns_of : Had → List Turn
turns_of Nothing = []
turns_of (One turn) = turn ∷ []
turns_of (Two first second) = first ∷ second ∷ []

-- the instruction at hand, which has had these turns
abbrev pub running_at : Progress → Outcome
running_at p = Goes p.begun (turns_of p.had)

-- where a life is. While it loads from an address, its state has the register that is read next and the
-- clock of the last turn.
abbrev pub standing_at : PasmStage → (code : ℕ) → Progress → Outcome
standing_at Loading code p = Asks (p.begun.clock + 16) (Read Long (code + 4 * p.begun.at))
standing_at Running code p = running_at p
standing_at Over code p = Ends

-- the registers hold the longs that were read, and whatever turns come, the load goes on after these
pub record IsReading (code : ℕ) (state : PasmState) (loaded : Loaded) (turns : List Turn) : Type 0 where
  pub own : loaded.code ≡ code
  pub par : state.par ≡ loaded.par
  pub clock : state.clock ≡ loaded.load + 16 * state.at
  pub longs : List ℕ
  pub held : take state.at state.registers ≡ longs
  pub count : length longs ≡ state.at
  pub to_come : ℕ
  pub all : state.at + suc to_come ≡ 496
  pub goes_on : (more : List Turn) → played (loading loaded 496 []) (turns ++ more) ≡ played (loading loaded (suc to_come) longs) more

-- the replay of this life with these turns has come here after so many instructions
pub record StandsIn (done cog code : ℕ) (stage : PasmStage) (progress : Progress) (loaded : Loaded) (turns : List Turn) : Type 0 where
  pub own : loaded.cog ≡ cog
  pub from : loaded.code ≡ code
  pub reached : replayed done loaded turns ≡ standing_at stage code progress
  pub fresh : stage ≡ Loading → done ≡ 0
  pub reads : stage ≡ Loading → IsReading code progress.begun loaded turns
  pub ended : stage ≡ Over → has_ended cog turns ≡ true

-- a cog that has done so many instructions stands for a life and its turns
abbrev pub StandsFor : (done cog code : ℕ) → PasmStage → Progress → Begun → List Turn → Type 0
StandsFor done cog code stage progress (PasmBegun loaded) turns = StandsIn done cog code stage progress loaded turns
StandsFor done cog code stage progress (SpinBegun entered) turns = ⊥

-- the clock that was reached: that of the instruction's last turn, or else its begin
abbrev pub clock_in : (begin : ℕ) → Had → ℕ
clock_in begin Nothing = begin
clock_in begin (One turn) = turn.key.clock
clock_in begin (Two first second) = second.key.clock

abbrev pub clock_of : Progress → ℕ
clock_of p = clock_in p.begun.clock p.had
