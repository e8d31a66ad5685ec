-- The lives of a history. A past is a list of turns, the newest first.
use Rattle.std.specs.Prelude.{ℕ, ◌≡◌, ◌==◌, ◌&&◌, ◌||◌, not, Bool, true, false, if◌then◌else◌, List, [], ◌∷◌, ◌++◌}
use Rattle.p8_access.specs.declared.kinds.Origin.{Origin}
use Rattle.p8_access.specs.declared.kinds.Access.{Access}
use Rattle.p8_access.specs.declared.kinds.Access.TheVariants.{CogInit}
use Rattle.p8_access.specs.declared.kinds.Answer.{Answer}
use Rattle.p8_access.specs.declared.order.Turn.{Turn}
use Rattle.p8_access.specs.Worlds.{World}
use Rattle.p8_access.specs.Hub.{is_number, cog_state, origin_of}
use Rattle.p8_access.specs.Histories.{begins_life}

-- a turn that starts this cog: a CogInit that answered it
abbrev pub starts_by : ℕ → Access → Answer → Bool
starts_by n (CogInit target origin) answer = is_number n answer
starts_by n _ answer = false

-- this cog is started among these turns
abbrev pub is_started : ℕ → List Turn → Bool
is_started n [] = false
is_started n (turn ∷ past) = starts_by n turn.access turn.answer || is_started n past

-- Of the turns after the one with which a life of this cog began those of the life, the oldest first: the cog's own up to its next start, and that
-- one too where the cog makes it itself. So no start comes before any of them.
abbrev pub turns_of_life : ℕ → List Turn → List Turn
turns_of_life n [] = []
turns_of_life n (turn ∷ past) =
    if turn.key.cog == n && not (is_started n past) then turns_of_life n past ++ turn ∷ [] else turns_of_life n past

-- a life of a cog in a past: what the cog was started with, and the turns of the life after its Begin or Load
pub record IsLife (w : World) (past : List Turn) (n : ℕ) (origin : Origin) (turns : List Turn) : Type 0 where
  pub later : List Turn
  pub first : Turn
  pub before : List Turn
  pub is_past : past ≡ later ++ first ∷ before
  pub begins : begins_life n first ≡ true
  pub started_with : origin ≡ origin_of (cog_state w before n)
  pub are_turns : turns ≡ turns_of_life n later
