-- Numbers in print.
use Rattle.std.specs.Prelude.{ℕ, zero, suc, ◌+◌, ◌/◌, ◌%◌, nat_lt, if◌then◌else◌, List, [], ◌∷◌, ◌++◌}

-- a hexadecimal digit, in capitals
abbrev pub glyph : ℕ → ℕ
glyph digit = if nat_lt digit 10 then 48 + digit else 55 + digit

-- a number in this many hexadecimal digits
unfoldable pub hex : ℕ → ℕ → List ℕ
hex zero n = []
hex (suc width) n = hex width (n / 16) ++ glyph (n % 16) ∷ []
