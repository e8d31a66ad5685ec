-- The starts before the one that is refused.
use Rattle.std.specs.Prelude.{ℕ, zero, suc, Option, Some, None}

-- how many starts there are before the one with this number, counted from 1
abbrev pub starts_before : ℕ → Option ℕ
starts_before zero = None
starts_before (suc n) = Some n

-- how many there are after one more start: none is to be refused any more, once one was
abbrev pub after_start : Option ℕ → Option ℕ
after_start None = None
after_start (Some n) = starts_before n
