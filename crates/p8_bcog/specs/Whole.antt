-- What a Spin cog as a life stands for, for definitions that have to name it.
use Rattle.std.specs.Prelude.{ℕ, List}
use Rattle.p8_access.specs.declared.order.Turn.{Turn}
use Rattle.p8_access.specs.Lives.{Begun}
use Rattle.p8_bcog.specs.declared.spin.SpinCog.{SpinCog}
use Rattle.p8_bcog.specs.Standing.{StandsFor}

-- it began with this and has had these turns
abbrev pub stands_for : SpinCog → Begun → List Turn → Type 0
stands_for life began turns = StandsFor life.counter life.code life.done life.cog life.stage life.state life.clock began turns

-- its own number, and the memory that its code stands in
abbrev pub cog_of : SpinCog → ℕ
cog_of life = life.cog

abbrev pub memory_of : SpinCog → List ℕ
memory_of life = life.code
