-- The hub memory of a file.
use Rattle.std.specs.Prelude.{ℕ, ◌-◌, List, ◌++◌, length, replicate}

-- these bytes from address 0 on, and 0 after them, 32,768 in all
abbrev pub ram_of : List ℕ → List ℕ
ram_of bytes = bytes ++ replicate (32768 - length bytes) 0
