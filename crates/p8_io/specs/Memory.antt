-- A shelf and a sink in memory, as contracts see them (this project's profile).
use Rattle.std.specs.Prelude.{ℕ, ◌-◌, Bool, if◌then◌else◌, List, [], map, Option, Some, None, length, take, nat_eq, string_bytes}
use Rattle.std.specs.declared.alloc.Global.{Global}
use Rattle.std.specs.declared.string.String.{String}
use Rattle.std.specs.Borrow.{Bor}
use Rattle.std.specs.List.{list_any}
use Rattle.std.specs.Ordering.{nat_cmp}
use Rattle.std.specs.Cmp.Lexicographic.{slice_cmp}
use Rattle.std.specs.FinMap.{FinMap, empty}
use Rattle.p8_io.specs.Counts.{raised}
use Rattle.p8_io.specs.Shelves.{Log}

-- whether the call after so many calls is among the listed ones, which are numbered from 1
abbrev pub is_next_listed : List ℕ → ℕ → Bool
is_next_listed listed calls = list_any (λ call. nat_eq call (raised calls)) listed

-- a shelf: its files by name, its count of faults, the names that were read so far, the number of these reads and the numbers of those to
-- fail
pub record MemoryShelf : Type 0 where
  pub files : FinMap (slice_cmp nat_cmp) (List ℕ)
  pub faults : ℕ
  pub log : Log
  pub calls : ℕ
  pub fails : List ℕ

-- a sink: the bytes it took, how many it may take, its count of faults, the writes so far and the
-- numbers of those to fail
pub record MemorySink : Type 0 where
  pub bytes : List ℕ
  pub room : ℕ
  pub faults : ℕ
  pub calls : ℕ
  pub fails : List ℕ

-- what names that are lent tell
abbrev pub names_of : Option (Bor (List (String Global))) → Log
names_of None = None
names_of (Some names) = Some (map string_bytes names.now)

-- a new shelf: no files, no faults, no reads and none to fail
abbrev pub empty_shelf : MemoryShelf
empty_shelf = record { files = empty; faults = 0; log = Some []; calls = 0; fails = [] }

-- a new sink of that room: nothing taken, no faults, no writes and none to fail
abbrev pub empty_sink : ℕ → MemorySink
empty_sink room = record { bytes = []; room = room; faults = 0; calls = 0; fails = [] }

-- a count of faults after a call, which failed or not
abbrev pub counted_if : Bool → ℕ → ℕ
counted_if failed faults = if failed then raised faults else faults

-- what a sink takes of some bytes: none where the write is to fail, and else as many as there is room for
abbrev pub fitting : MemorySink → List ℕ → List ℕ
fitting sink bytes = if is_next_listed sink.fails sink.calls then [] else take (sink.room - length sink.bytes) bytes
