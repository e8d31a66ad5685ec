-- What a sink of bytes takes (this project's profile).
use Rattle.std.specs.Prelude.{ℕ, ◌≡◌, ◌⊎◌, List, ◌++◌, Option, Some, None, Result, Ok, Err, take}
use Rattle.p8_io.specs.declared.sink.SinkFailed.{SinkFailed}
use Rattle.p8_io.specs.Counts.{Rose}

-- exactly these bytes were appended; a sink that doesn't tell what it took goes on not telling
abbrev pub Appended : Option (List ℕ) → Option (List ℕ) → List ℕ → Type 0
Appended None after bytes = after ≡ None
Appended (Some taken) after bytes = after ≡ Some (taken ++ bytes)

-- the first n of these bytes were appended, for some n
abbrev pub AppendedPrefix : Option (List ℕ) → Option (List ℕ) → List ℕ → Type 0
AppendedPrefix taken after bytes = (n : ℕ) × Appended taken after (take n bytes)

-- each answer of a write with its cause, between the counts before it and now
abbrev pub Writes : ℕ → ℕ → Option (List ℕ) → Option (List ℕ) → List ℕ → Result (Unit {0}) SinkFailed → Type 0
Writes before now taken after bytes (Ok done) = Appended taken after bytes
Writes before now taken after bytes (Err failed) = Rose before now × AppendedPrefix taken after bytes

-- these bytes were appended, or a prefix of them and the count rose
abbrev pub Wrote : ℕ → ℕ → Option (List ℕ) → Option (List ℕ) → List ℕ → Type 0
Wrote before now taken after bytes = Appended taken after bytes ⊎ (Rose before now × AppendedPrefix taken after bytes)
