-- A history file (this project's format): a head of 16 bytes, and the record of each turn.
use Rattle.std.specs.Prelude.{ℕ, suc, zero, ◌+◌, ◌≡◌, ◌≤◌, ◌⊎◌, List, [], ◌∷◌, ◌++◌, codes, length, reverse}
use Rattle.std.specs.List.{All}
use Rattle.byteorder.specs.Endian.{little_bytes}
use Rattle.p8_access.specs.declared.order.Turn.{Turn}
use Rattle.p8_access.specs.Worlds.{World}
use Rattle.p8_verify.specs.declared.head.HistoryHead.{HistoryHead}
use Rattle.p8_verify.specs.Table.{turn_bytes, IsWithin, IsRecord, NoRecord}

-- the letters P8H1, the two limits and the number of turns
abbrev pub head_bytes : HistoryHead → List ℕ
head_bytes head = codes "P8H1" ++ little_bytes 4 head.clocks ++ little_bytes 4 head.turns ++ little_bytes 4 head.count

-- the records of turns, one after the other
abbrev pub records : List Turn → List ℕ
records [] = []
records (turn ∷ turns) = turn_bytes turn ++ records turns

-- the head of a history: the limits of its world and the number of its turns
abbrev pub head_of : World → List Turn → HistoryHead
head_of w past = record { clocks = w.clocks; turns = w.turns; count = length past }

-- the bytes of a history's file
abbrev pub file_of : World → List Turn → List ℕ
file_of w past = head_bytes (head_of w past) ++ records (reverse past)

-- numbers that a head may have
pub record IsHeadWithin (head : HistoryHead) : Type 0 where
  pub clocks : head.clocks ≤ 100000000
  pub turns : head.turns ≤ 40000
  pub count : head.count ≤ 40000

-- these bytes are the file of a history, which is there where its head and each of its turns are within their
-- limits
pub record IsFile (w : World) (past : List Turn) (bytes : List ℕ) : Type 0 where
  pub head : IsHeadWithin (head_of w past)
  pub turns : All IsWithin (reverse past)
  pub bytes_are : bytes ≡ file_of w past

-- a history has a file: its head and each of its turns are within their limits
abbrev pub HasFile : World → List Turn → Type 0
HasFile w past = IsFile w past (file_of w past)

-- The form of a file: what can be told of it without a world.

-- these bytes begin with a head, and this comes after it
pub record IsHead (bytes : List ℕ) (head : HistoryHead) (rest : List ℕ) : Type 0 where
  pub within : IsHeadWithin head
  pub bytes_are : bytes ≡ head_bytes head ++ rest

-- these bytes don't begin with a head
abbrev pub NoHead : List ℕ → Type 0
NoHead bytes = (head : HistoryHead) (rest : List ℕ) → IsHead bytes head rest → ⊥

-- these bytes are the records of so many turns, and nothing more
pub record AreRecords (count : ℕ) (bytes : List ℕ) (turns : List Turn) : Type 0 where
  pub within : All IsWithin turns
  pub count_is : length turns ≡ count
  pub bytes_are : bytes ≡ records turns

-- so many records are to come, of the turns from the n-th on: the first turn at which there is no record, or the
-- one after the last where bytes follow it
abbrev pub BreaksAt : (left n : ℕ) → List ℕ → ℕ → Type 0
BreaksAt zero n bytes turn = (turn ≡ n) × (bytes ≡ [] → ⊥)
BreaksAt (suc left) n bytes turn =
    ((turn ≡ n) × NoRecord bytes)
    ⊎ ((first : Turn) × (rest : List ℕ) × IsRecord bytes first rest × BreaksAt left (n + 1) rest turn)

-- a file is a head and the records of as many turns as it says
abbrev pub IsFormed : List ℕ → HistoryHead → List Turn → Type 0
IsFormed bytes head turns = (rest : List ℕ) × IsHead bytes head rest × AreRecords head.count rest turns

-- a file isn't that, and this turn is the first at which it isn't: 0 for the head
abbrev pub IsMalformed : List ℕ → ℕ → Type 0
IsMalformed bytes turn =
    (NoHead bytes × (turn ≡ 0))
    ⊎ ((head : HistoryHead) × (rest : List ℕ) × IsHead bytes head rest × BreaksAt head.count 1 rest turn)
