-- Loops. Each pass after the first takes one of the bound, before anything that it does.
-- Source: the Propeller Manual v1.2, "REPEAT" of the Spin chapter.
use Rattle.std.specs.Prelude.{ℕ, zero, suc}
use Rattle.p8_meaning.specs.Doing.{Rest, untold, costs}

-- Passes without end: what a pass does is told by what follows it, which is the next pass. There are so many at most; a method's passes
-- have a greater number than the bound is, so that the bound ends first.
abbrev pub passes : (most : ℕ) → (pass : Rest → Rest) → Rest
passes zero pass bound own = untold bound own
passes (suc most) pass bound own = pass (costs (passes most pass)) bound own

-- a pass, and so many more after it, and then what follows the loop
abbrev pub counted : (more : ℕ) → (pass : Rest → Rest) → Rest → Rest
counted zero pass go bound own = pass go bound own
counted (suc more) pass go bound own = pass (costs (counted more pass go)) bound own
