-- What a life of either kind stands for, for definitions that have to name it.
use Rattle.std.specs.Prelude.{ℕ, List, Option}
use Rattle.p8_access.specs.declared.kinds.Access.{Access}
use Rattle.p8_access.specs.declared.order.Turn.{Turn}
use Rattle.p8_access.specs.Lives.{Begun}
use Rattle.p8_bcog.specs.Stops as SpinStops
use Rattle.p8_bcog.specs.Whole as Bytecodes
use Rattle.p8_cog.specs.Stops as PasmStops
use Rattle.p8_cog.specs.Whole as Instructions
use Rattle.p8_cog.specs.declared.cog_life.CogLife.{CogLife}
use Rattle.p8_cog.specs.Kinds.{number_of, fact_of, access_of}

-- it began with this and has had these turns
abbrev pub stands_for : CogLife → Begun → List Turn → Type 0
stands_for life began turns =
    fact_of life.kind (Instructions.stands_for life.pasm began turns) (Bytecodes.stands_for life.spin began turns)

-- the cog that it runs in
abbrev pub cog_of : CogLife → ℕ
cog_of life = number_of life.kind (Instructions.cog_of life.pasm) (Bytecodes.cog_of life.spin)

-- the access that it has announced
abbrev pub announced_in : CogLife → Option (ℕ × Access)
announced_in life =
    access_of life.kind (PasmStops.announced_at life.pasm.asking life.pasm.cog life.pasm.code life.pasm.stage life.pasm.state)
    (SpinStops.announced_at life.spin.asking life.spin.cog life.spin.stage life.spin.state life.spin.clock)
