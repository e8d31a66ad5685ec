-- What is seen of a shelf and of an output from outside, around a call: before it, and now (this project's profile).
use Rattle.std.specs.Prelude.{ℕ, List, Option}
use Rattle.p8_io.specs.Shelves.{Files, Log}

-- a shelf: its files, what was read of it and its count of faults, before and now
pub record ShelfSeen : Type 0 where
  pub files : Files
  pub files_now : Files
  pub log : Log
  pub log_now : Log
  pub before : ℕ
  pub now : ℕ

-- an output: its count of faults, and the bytes that it took, before and now
pub record SinkSeen : Type 0 where
  pub before : ℕ
  pub now : ℕ
  pub taken : Option (List ℕ)
  pub taken_now : Option (List ℕ)

-- and that by what they tell of themselves
abbrev pub shelf_seen : {S : Type 0} → (S → Files) → (S → Log) → (S → ℕ) → (old new : S) → ShelfSeen
shelf_seen files log faults old new =
    record { files = files old; files_now = files new; log = log old; log_now = log new; before = faults old; now = faults new }

abbrev pub sink_seen : {K : Type 0} → (K → ℕ) → (K → Option (List ℕ)) → (old new : K) → SinkSeen
sink_seen faults taken old new = record { before = faults old; now = faults new; taken = taken old; taken_now = taken new }
