-- How what a Spin cog keeps stands for a life and its turns.
use Rattle.std.specs.Prelude.{ℕ, ◌+◌, ◌≡◌, Bool, true, false, List, ◌++◌}
use Rattle.p8_access.specs.declared.order.Turn.{Turn}
use Rattle.p8_access.specs.Lives.{Entered, Begun, PasmBegun, SpinBegun, has_ended}
use Rattle.p8_access.specs.Courses.{Stop}
use Rattle.p8_access.specs.Timing.{Outcome, Goes, Ends, played}
use Rattle.p8_bcog.specs.declared.stage.SpinStage.{SpinStage}
use Rattle.p8_bcog.specs.declared.stage.SpinStage.TheVariants.{Entering, Ready, Asked, Halted, Over}
use Rattle.p8_bcog.specs.declared.state.SpinState.{SpinState}
use Rattle.p8_bcog.specs.Laters.{asking}
use Rattle.p8_bcog.specs.Replay.{enters_at, lived}

-- how a life goes on from here, at a clock, whatever turns come
abbrev pub standing : (cog : ℕ) → SpinStage → SpinState → (clock : ℕ) → List Turn → Outcome SpinState
standing cog Entering s clock more = played cog clock (enters_at s) more
standing cog Ready s clock more = Goes s clock more
standing cog (Asked access later) s clock more = played cog clock (asking access later s) more
standing cog (Halted reason) s clock more = played cog clock (Stop reason) more
standing cog Over s clock more = Ends

-- how many bytecodes a replay has come to, where so many are done whole: the one that is under way is one more
abbrev pub come_to : SpinStage → (done : ℕ) → ℕ
come_to Entering done = done
come_to Ready done = done
come_to (Asked access later) done = done + 1
come_to (Halted reason) done = done + 1
come_to Over done = done

-- after the entry and before the end
abbrev pub is_under : SpinStage → Bool
is_under Entering = false
is_under Ready = true
is_under (Asked access later) = true
is_under (Halted reason) = true
is_under Over = false

-- a bytecode is under way
abbrev pub is_amid : SpinStage → Bool
is_amid Entering = false
is_amid Ready = false
is_amid (Asked access later) = true
is_amid (Halted reason) = true
is_amid Over = false

-- the replay of this life with these turns has come here after so many bytecodes, and the bytecode that is under way stands
-- at `counter`
pub record StandsIn (counter : ℕ) (memory : List ℕ) (done cog : ℕ) (stage : SpinStage) (state : SpinState) (clock : ℕ) (entered : Entered)
    (turns : List Turn) : Type 0 where
  pub own : entered.cog ≡ cog
  pub code : entered.memory ≡ memory
  pub goes_on : (more : List Turn) → lived (come_to stage done) entered (turns ++ more) ≡ standing cog stage state clock more
  pub began : is_under stage ≡ true → (s : SpinState) × (begin : ℕ) × (left : List Turn) × (lived done entered turns ≡ Goes s begin left)
      × (is_amid stage ≡ true → s.at ≡ counter)
  pub fresh : stage ≡ Entering → done ≡ 0
  pub ended : stage ≡ Over → has_ended cog turns ≡ true

-- a cog that has done so many bytecodes stands for a life and its turns
abbrev pub StandsFor : (counter : ℕ) (memory : List ℕ) (done cog : ℕ) → SpinStage → SpinState → (clock : ℕ) → Begun → List Turn → Type 0
StandsFor counter memory done cog stage state clock (SpinBegun entered) turns = StandsIn counter memory done cog stage state clock entered turns
StandsFor counter memory done cog stage state clock (PasmBegun loaded) turns = ⊥
