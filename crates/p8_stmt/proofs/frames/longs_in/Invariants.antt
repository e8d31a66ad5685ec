use Rattle.std.proofs.Common.{◌≡◌, take, map}
use Rattle.p8_tree.specs.Views.{declared_of}
use Rattle.p8_gen.specs.Scopes.{names_of}
use Rattle.p8_stmt.specs.Cutting.{cut_longs}
use Rattle.p8_stmt.specs.Methods.{longs_in}
use Rattle.p8_stmt.proofs.frames.longs_in.Given as goal

abbrev pub invariant-loop-local : goal.invariant-loop-local
invariant-loop-local l = l.longs ≡ cut_longs (longs_in (names_of l.coder).constants (map declared_of (take l.local-index l.locals)))
