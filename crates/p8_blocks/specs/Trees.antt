-- How deep the blocks of statements of a file may stand in one another (this project's profile).
use Rattle.std.specs.Prelude.{◌<◌, All}
use Rattle.p8_tree.specs.Nesting.{depth}
use Rattle.p8_tree.specs.Sources as sources
use Rattle.p8_tree.specs.Sources.{BlockTree, Source}

-- with the method itself at most 64 blocks are open
abbrev pub IsShallowBlock : BlockTree → Type 0
IsShallowBlock (sources.Method m) = depth m.body < 64
IsShallowBlock b = Unit {0}

abbrev pub IsShallow : Source → Type 0
IsShallow blocks = All IsShallowBlock blocks
