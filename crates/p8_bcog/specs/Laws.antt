-- internal: the laws that a life owes. No public contract cites it.
use Rattle.std.proofs.Common.{◌≡◌, ℕ, ◌+◌, ◌<◌, ◌≤◌, List, [], ◌∷◌, ◌++◌, arith}
use Rattle.p8_access.specs.declared.kinds.Access.{Access}
use Rattle.p8_access.specs.declared.order.Turn.{Turn}
use Rattle.p8_access.specs.Lives.{Begun, PasmBegun, SpinBegun, first_turn_of, IsTurnAt}
use Rattle.p8_access.specs.Replaying as Course
use Rattle.p8_bcog.specs.Replay.{IsAsked, engine_of, entry_of}

pub one-asked : (b : Begun) (ts : List Turn) (c d : ℕ) (a e : Access) → IsAsked b ts c a → IsAsked b ts d e → (c ≡ d) × (a ≡ e)
one-asked (SpinBegun entered) ts c d a e one other =
    Course.one-asked (engine_of entered.memory entered.cog) (entered.begin + 8192) (entry_of entered) ts one.0 other.0 c d a e one.1 other.1
one-asked (PasmBegun loaded) ts c d a e one other = absurd one

pub asked-first : (b : Begun) (c : ℕ) (a : Access) → IsAsked b [] c a → first_turn_of b < c
asked-first (SpinBegun entered) c a asked =
    let le : entered.begin + 8192 ≤ c = Course.asked-first (engine_of entered.memory entered.cog) (entered.begin + 8192)
    (entry_of entered) asked.0 c a asked.1 in
    omega (arith, le)
asked-first (PasmBegun loaded) c a asked = absurd asked

pub asked-later : (b : Begun) (ts : List Turn) (turn : Turn) (c d : ℕ) (a e : Access) → IsAsked b ts c a → IsTurnAt c a turn →
    IsAsked b (ts ++ turn ∷ []) d e → turn.key.clock < d
asked-later (SpinBegun entered) ts turn c d a e one at other =
    Course.asked-later (engine_of entered.memory entered.cog) (entered.begin + 8192) (entry_of entered) ts turn one.0 other.0 c d a e one.1 at other.1
asked-later (PasmBegun loaded) ts turn c d a e one at other = absurd one

-- a bytecode takes 32 clocks at least
pub pace_holds : 4 ≤ 32
pace_holds = omega arith
