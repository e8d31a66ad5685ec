use Rattle.std.proofs.Common.{◌≡◌, ◌++◌, map, take}
use Rattle.p8_tree.specs.Views.{declared_of}
use Rattle.p8_print.specs.Spelled.{text_of_words}
use Rattle.p8_print.specs.DeclarationWords.{more_locals}
use Rattle.p8_print.proofs.declarations.write_more_locals.Given as goal

abbrev pub invariant-loop-local : goal.invariant-loop-local
invariant-loop-local l = l.script ≡ l.initial.script ++ text_of_words (more_locals (map declared_of (take l.local-index l.locals)))
