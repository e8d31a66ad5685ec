-- What one turn does to a history and to its cogs.
use Rattle.std.proofs.Common.{◌≡◌, ◌∙◌, ap, refl, ℕ, ◌<◌, ◌≤◌, ◌==◌, Bool, true, false, List, [], ◌∷◌, ◌++◌, Option, Some, None, length, reverse, arith, inl, inr, if◌then◌else◌, lit<}
use Rattle.std.proofs.lemmas.List.{reverse-append}
use Rattle.p8_access.specs.declared.kinds.Origin.{Origin}
use Rattle.p8_access.specs.declared.kinds.Access.{Access}
use Rattle.p8_access.specs.declared.kinds.Access.TheVariants.{Begin, Load, CogInit, CogStop, Halt}
use Rattle.p8_access.specs.declared.kinds.Answer.{Answer}
use Rattle.p8_access.specs.declared.kinds.Answer.TheVariants.{Done, Value, Number, Was}
use Rattle.p8_access.specs.declared.order.Turn.{Turn}
use Rattle.p8_access.specs.Proper.{IsProper, IsProperOrigin, IsNumber, IsStarted, Fits}
use Rattle.p8_access.specs.Lives.{Begun}
use Rattle.p8_access.specs.declared.states.CogState.{CogState}
use Rattle.p8_access.specs.declared.states.CogState.TheVariants.{Stopped, Starting}
use Rattle.p8_access.specs.Worlds.{World}
use Rattle.p8_access.specs.Hub.{Starts, Runs, Stops, is_number, change_by, change_of, changed, cog_state, origin_of}
use Rattle.p8_access.specs.Histories.{Legal, Extends, IsOver}
use Rattle.p8_access.proofs.Changes.{other-test}

-- a legal history has at most as many turns as the limit
pub legal-length : (asked : Begun → List Turn → ℕ → Access → Type 0) (w : World) (past : List Turn) → Legal asked w past → length past ≤ w.turns
legal-length asked w [] legal = omega arith
legal-length asked w (turn ∷ past) legal = let room : length past < w.turns = legal.1.room in omega arith

-- no other cog is answered as started
not-answered : (n : ℕ) (target : Option ℕ) (answer : Answer) → 8 ≤ n → IsNumber target → IsStarted target answer → is_number n answer ≡ false
not-answered n None (Number None) far number started = refl
not-answered n None (Number (Some m)) far number started = other-test m n (λ e. (let l : m < 8 = started in omega arith))
not-answered n None Done far number started = refl
not-answered n None (Value value) far number started = refl
not-answered n None (Was set) far number started = refl
not-answered n (Some target) answer far number started =
    ap (is_number n) started ∙ other-test target n (λ e. (let l : target < 8 = number in omega arith))

stays-if : (b : Bool) → changed Stopped (if b then Some Stops else None) ≡ Stopped
stays-if true = refl
stays-if false = refl

-- beyond the eighth cog all stays stopped
stays : (n clock cog : ℕ) (access : Access) (answer : Answer) → 8 ≤ n → cog < 8 → IsProper access → Fits access answer → changed Stopped (change_by n clock cog access answer) ≡ Stopped
stays n clock cog (CogInit target origin) answer far own proper fits =
    ap (λ (b : Bool). changed Stopped (if b then Some (Starts clock origin) else None)) (not-answered n target answer far proper.0 fits)
stays n clock cog Begin answer far own proper fits =
    ap (λ (b : Bool). changed Stopped (if b then Some Runs else None)) (other-test cog n (λ e. omega arith))
stays n clock cog Load answer far own proper fits =
    ap (λ (b : Bool). changed Stopped (if b then Some Runs else None)) (other-test cog n (λ e. omega arith))
stays n clock cog (CogStop target) answer far own proper fits = stays-if (target == n)
stays n clock cog (Halt reason) answer far own proper fits = stays-if (cog == n)
stays n clock cog _ answer far own proper fits = refl

-- what a turn extends isn't over
pub not-over : (asked : Begun → List Turn → ℕ → Access → Type 0) (w : World) (past : List Turn) (turn : Turn) → Extends asked w past turn → IsOver asked w past → ⊥
not-over asked w past turn extends over =
    elim over [
      | inl full ↦ (let room : length past < w.turns = extends.room in omega arith)
      | inr none ↦ none turn.key.cog turn.key.clock turn.access extends.next
    ]

pub reverse-push : (turns : List Turn) (turn : Turn) → reverse (turns ++ turn ∷ []) ≡ turn ∷ reverse turns
reverse-push turns turn = reverse-append turns (turn ∷ [])

-- a start of a well-formed access has a well-formed origin
proper-if : (b : Bool) (state : CogState) (since : ℕ) (origin : Origin) → IsProperOrigin (origin_of state) → IsProperOrigin origin → IsProperOrigin (origin_of (changed state (if b then Some (Starts since origin) else None)))
proper-if true state since origin old new = new
proper-if false state since origin old new = old

runs-if : (b : Bool) (state : CogState) → IsProperOrigin (origin_of state) → IsProperOrigin (origin_of (changed state (if b then Some Runs else None)))
runs-if true state old = old
runs-if false state old = old

stops-if : (b : Bool) (state : CogState) → IsProperOrigin (origin_of state) → IsProperOrigin (origin_of (changed state (if b then Some Stops else None)))
stops-if true state old = ((refl, lit< tt), (refl, lit< tt))
stops-if false state old = old

-- origins stay well formed
pub origins-stay : (state : CogState) (n clock cog : ℕ) (access : Access) (answer : Answer) → IsProperOrigin (origin_of state) → IsProper access → IsProperOrigin (origin_of (changed state (change_by n clock cog access answer)))
origins-stay state n clock cog (CogInit target origin) answer old proper = proper-if (is_number n answer) state clock origin old proper.1
origins-stay state n clock cog Begin answer old proper = runs-if (cog == n) state old
origins-stay state n clock cog Load answer old proper = runs-if (cog == n) state old
origins-stay state n clock cog (CogStop target) answer old proper = stops-if (target == n) state old
origins-stay state n clock cog (Halt reason) answer old proper = stops-if (cog == n) state old
origins-stay state n clock cog _ answer old proper = old

-- a turn leaves the origins well formed and the other numbers without a cog
pub cogs-after : (w : World) (past : List Turn) (turn : Turn) → ((n : ℕ) → IsProperOrigin (origin_of (cog_state w past n))) → ((n : ℕ) → 8 ≤ n → cog_state w past n ≡ Stopped) → turn.key.cog < 8 → IsProper turn.access → Fits turn.access turn.answer → ((n : ℕ) → IsProperOrigin (origin_of (cog_state w (turn ∷ past) n))) × ((n : ℕ) → 8 ≤ n → cog_state w (turn ∷ past) n ≡ Stopped)
cogs-after w past turn origins others near proper fits = (
  λ n. origins-stay (cog_state w past n) n turn.key.clock turn.key.cog turn.access turn.answer (origins n) proper,
  λ n far. ap (λ (s : CogState). changed s (change_of n turn)) (others n far) ∙ stays n turn.key.clock turn.key.cog turn.access turn.answer far near proper fits,
)

-- before the first turn
first-origin : (w : World) (b : Bool) → IsProperOrigin w.first → IsProperOrigin (origin_of (if b then Starting 0 w.first else Stopped))
first-origin w true proper = proper
first-origin w false proper = ((refl, lit< tt), (refl, lit< tt))

pub open-cogs : (w : World) → IsProperOrigin w.first → ((n : ℕ) → IsProperOrigin (origin_of (cog_state w [] n))) × ((n : ℕ) → 8 ≤ n → cog_state w [] n ≡ Stopped)
open-cogs w proper = (
  λ n. first-origin w (n == 0) proper,
  λ n far. ap (λ (b : Bool). if b then Starting 0 w.first else Stopped) (other-test n 0 (λ e. omega arith)),
)
