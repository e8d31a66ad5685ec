-- internal
-- The files of a shelf in memory, from the entries of the map that holds them, and how contracts store
-- what they see of the shelf.
use Rattle.std.specs.Prelude.{ℕ, List, map, Option, Some, None, string_bytes, refl}
use Rattle.std.specs.declared.alloc.Global.{Global}
use Rattle.std.specs.declared.string.String.{String}
use Rattle.std.specs.declared.vec.Vec.{Vec}
use Rattle.std.specs.Ordering.{nat_cmp}
use Rattle.std.specs.Cmp.Lexicographic.{slice_cmp}
use Rattle.std.specs.FinMap.{FinMap, from_entries, code}
use Rattle.std.specs.Coded.{Coded, code_by, coded×, coded_ℕ, coded_list, coded_option}
use Rattle.p8_io.specs.Memory.{MemoryShelf}
use Rattle.p8_io.specs.Shelves.{Log}

-- a name and its file as lists of bytes
abbrev pub bytes_of : String Global × Vec ℕ Global → List ℕ × List ℕ
bytes_of entry = (string_bytes entry.0, entry.1.items)

abbrev pub files_of : List (String Global × Vec ℕ Global) → FinMap (slice_cmp nat_cmp) (List ℕ)
files_of entries = from_entries (map bytes_of entries)

-- what a log in memory tells
abbrev pub log_of : Option (Vec (String Global) Global) → Log
log_of None = None
log_of (Some names) = Some (map string_bytes names.items)

abbrev pub log_code : Coded Log
log_code = coded_option (coded_list (coded_list coded_ℕ))

-- a shelf is stored as its fields, one in the next
abbrev pub memory_shelf_code : Coded MemoryShelf
memory_shelf_code =
    code_by (FinMap (slice_cmp nat_cmp) (List ℕ) × (ℕ × (Log × (ℕ × List ℕ))))
    (coded× (code (coded_list coded_ℕ) (coded_list coded_ℕ)) (coded× coded_ℕ (coded× log_code (coded× coded_ℕ (coded_list coded_ℕ)))))
    (λ s. (s.files, (s.faults, (s.log, (s.calls, s.fails)))))
    (λ p. record { files = p.0; faults = p.1.0; log = p.1.1.0; calls = p.1.1.1.0; fails = p.1.1.1.1 })
    (λ _. refl)
