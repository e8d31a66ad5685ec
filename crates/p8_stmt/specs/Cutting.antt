-- How much is held, as the code cuts it: internal.
use Rattle.std.specs.Prelude.{ℕ, ◌+◌, ◌-◌, ◌^◌, min, max, if◌then◌else◌}
use Rattle.p8_tree.specs.Expressions.{Tree, Form, Call}
use Rattle.p8_gen.specs.Names.{Names}
use Rattle.p8_gen.specs.Expressions.{starts_method, count_of}
use Rattle.p8_gen.specs.Depths.{over, held, held_by_trees, held_by_index, held_by_arguments, arguments_of}

-- ---- numbers that stop at a limit

-- how many longs are held, as far as 16 bits tell it
abbrev pub cut : ℕ → ℕ
cut n = min n (2 ^ 16 - 1)

-- the longs of locals, as far as 32 bits tell them
abbrev pub cut_longs : ℕ → ℕ
cut_longs n = min n (2 ^ 32 - 1)

-- ---- parts of expressions

-- a call
abbrev pub held_by_call : Names → Form → ℕ
held_by_call names (Call trap object i method q args) = max (held_by_trees names args) (over (count_of args) (held_by_index names i))
held_by_call names _ = 0

-- what is started, and what it is given, which holds so many, after the number of the cog
abbrev pub held_by_start : Names → (begun : Tree) → (given : ℕ) → ℕ
held_by_start names m given =
    if starts_method names m then max (1 + held_by_arguments names m) (1 + arguments_of m + given)
    else max (1 + held names m) (2 + given)
