-- internal: what the parts of a Spin cog's code promise each other.
use Rattle.std.specs.Prelude.{ℕ, ◌+◌, ◌^◌, ◌≡◌, ◌<◌, ◌≤◌, ◌⊎◌, Bool, true, false, List, [], Option, Some, None, Result, Ok, Err}
use Rattle.p8_access.specs.declared.kinds.Reason.{Reason}
use Rattle.p8_access.specs.declared.kinds.Access.{Access}
use Rattle.p8_access.specs.declared.order.Turn.{Turn}
use Rattle.p8_access.specs.declared.lives.Next.{Next}
use Rattle.p8_access.specs.declared.lives.Next.TheVariants.{At, Quiet, More}
use Rattle.p8_access.specs.Lives.{IsMade}
use Rattle.p8_access.specs.Courses.{Course, Finish, Stop}
use Rattle.p8_access.specs.Timing.{Outcome, Asks, Goes, Ends}
use Rattle.p8_access.specs.Replays.{after}
use Rattle.p8_access.specs.Replaying.{IsFrom}
use Rattle.p8_bcog.specs.declared.step.Step.{Step}
use Rattle.p8_bcog.specs.declared.step.Step.TheVariants.{Done, Asking}
use Rattle.p8_bcog.specs.declared.stage.SpinStage.{SpinStage}
use Rattle.p8_bcog.specs.declared.stage.SpinStage.TheVariants.{Entering, Ready, Asked, Halted, Over}
use Rattle.p8_bcog.specs.declared.state.SpinState.{SpinState}
use Rattle.p8_bcog.specs.Laters.{asking, later_on}
use Rattle.p8_bcog.specs.Ready.{IsReady}
use Rattle.p8_bcog.specs.Replay.{engine_of}
use Rattle.p8_bcog.specs.Standing.{standing, come_to}

-- how far a life is after a bytecode that stands so
abbrev pub stage_of : Result Step Reason → SpinStage
stage_of (Ok Done) = Ready
stage_of (Ok (Asking access later)) = Asked access later
stage_of (Err reason) = Halted reason

-- a bytecode is to be done next
abbrev pub is_ready : SpinStage → Bool
is_ready Entering = false
is_ready Ready = true
is_ready (Asked access later) = false
is_ready (Halted reason) = false
is_ready Over = false

-- what is still to come of a bytecode
abbrev pub at_stage : SpinStage → SpinState → Course SpinState
at_stage Entering s = Finish s
at_stage Ready s = Finish s
at_stage (Asked access later) s = asking access later s
at_stage (Halted reason) s = Stop reason
at_stage Over s = Finish s

-- how what is under way goes on by the word of an answer
abbrev pub resumed : SpinStage → SpinState → (word : ℕ) → Course SpinState
resumed Entering s word = Finish s
resumed Ready s word = Finish s
resumed (Asked access later) s word = later_on later s word
resumed (Halted reason) s word = Stop reason
resumed Over s word = Finish s

-- a bytecode is done
abbrev pub done_by : SpinStage → ℕ
done_by Entering = 0
done_by Ready = 1
done_by (Asked access later) = 0
done_by (Halted reason) = 0
done_by Over = 0

-- what is asked is an access that a life makes, and what follows can be done
abbrev pub IsSound : SpinStage → SpinState → Type 0
IsSound Entering s = Unit {0}
IsSound Ready s = Unit {0}
IsSound (Asked access later) s = IsMade access × IsReady later s
IsSound (Halted reason) s = Unit {0}
IsSound Over s = Unit {0}

-- so many bytecodes lead from where one begins to here
abbrev pub Leads : (memory : List ℕ) (cog done : ℕ) → (old : SpinState) (begin : ℕ) → SpinStage → (new : SpinState) (clock : ℕ) → Type 0
Leads memory cog done old begin stage new clock =
    (more : List Turn) → after (engine_of memory cog) (come_to stage done) (Goes old begin more) ≡ standing cog stage new clock more

-- so many bytecodes lead from where one begins to where another does
abbrev pub Led : (memory : List ℕ) (cog done : ℕ) (old : SpinState) (begin : ℕ) (s : SpinState) (clock : ℕ) → Type 0
Led memory cog done old begin s clock =
    (more : List Turn) → after (engine_of memory cog) done (Goes old begin more) ≡ Goes s clock more

-- where a run is that began at a clock and has done so many bytecodes: the last one begins at `begun`, and what is asked
-- counts from `clock` on; a bytecode that asks isn't done, so the budget isn't spent there
abbrev pub IsBehind : (done budget begun clock until : ℕ) → SpinStage → Type 0
IsBehind done budget begun clock until Entering = ⊥
IsBehind done budget begun clock until Ready = (begun ≡ clock) × ((until ≤ clock) ⊎ (done ≡ budget))
IsBehind done budget begun clock until (Asked access later) = (begun < until) × (begun ≤ clock) × (clock ≤ begun + 544) × (done < budget)
IsBehind done budget begun clock until (Halted reason) = (begun < until) × (begun ≤ clock) × (clock ≤ begun + 544) × (done < budget)
IsBehind done budget begun clock until Over = ⊥

-- what is told is what comes next from here, or nothing comes below this clock
abbrev pub Stops : (here : Outcome SpinState) → (reached until : ℕ) → Next → Type 0
Stops here reached until (At clock access) = (here ≡ Asks clock access) × (reached ≤ clock) × (clock < until) × (clock ≤ reached + 560)
Stops here reached until Quiet = IsFrom until here
Stops here reached until (More bound) = (s : SpinState) × (here ≡ Goes s bound []) × (bound ≡ reached) × (bound < until)

-- whether an access is told
abbrev pub is_access : Next → Bool
is_access (At clock access) = true
is_access Quiet = false
is_access (More bound) = false

abbrev pub asked_of : Outcome SpinState → Option (ℕ × Access)
asked_of (Asks clock access) = Some (clock, access)
asked_of (Goes s clock left) = None
asked_of Ends = None

-- what is asked where a life stands
unfoldable pub asked_now : (cog : ℕ) → SpinStage → SpinState → (clock : ℕ) → Option (ℕ × Access)
asked_now cog stage s clock = asked_of (standing cog stage s clock [])

-- what was announced: what is asked there, if that was told
abbrev pub announced_at : (asking : Bool) (cog : ℕ) → SpinStage → SpinState → (clock : ℕ) → Option (ℕ × Access)
announced_at true cog stage s clock = asked_now cog stage s clock
announced_at false cog stage s clock = None

-- what was announced is what comes next
abbrev pub Announces : (cog : ℕ) → SpinStage → SpinState → (clock reached : ℕ) → Option (ℕ × Access) → Type 0
Announces cog stage s clock reached announced =
    (when : ℕ) (access : Access) → announced ≡ Some (when, access) → (standing cog stage s clock [] ≡ Asks when access) × (reached ≤ when) × (when + 1 < 2 ^ 62)
