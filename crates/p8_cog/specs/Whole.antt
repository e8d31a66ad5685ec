-- What a cog as a life stands for, for definitions that have to name it.
use Rattle.std.specs.Prelude.{ℕ, List}
use Rattle.p8_access.specs.declared.order.Turn.{Turn}
use Rattle.p8_access.specs.Lives.{Begun}
use Rattle.p8_cog.specs.declared.pasm.Cog.{Cog}
use Rattle.p8_cog.specs.Standing.{StandsFor}

-- it began with this and has had these turns
abbrev pub stands_for : Cog → Begun → List Turn → Type 0
stands_for life began turns = StandsFor life.done life.cog life.code life.stage life.state began turns

-- its own number
abbrev pub cog_of : Cog → ℕ
cog_of life = life.cog
