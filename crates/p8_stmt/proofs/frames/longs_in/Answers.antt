use Rattle.std.proofs.Common.{◌+◌, ◌-◌, ◌^◌, min, ap, ap₂, ◌∙◌}
use Rattle.std.specs.Prelude.{option_map}
use Rattle.p8_tree.specs.Views.{tree_of}
use Rattle.p8_gen.specs.Scopes.{names_of}
use Rattle.p8_stmt.specs.Methods.{count_in}
use Rattle.p8_stmt.proofs.Locals.{longs_next}
use Rattle.p8_stmt.proofs.frames.longs_in.Goals as goal

pub loop-local-preserved : goal.loop-local-preserved
loop-local-preserved c =
    let s = (names_of c.args.coder.now).constants in
    c.saturating_add-longs.ensures
    ∙ ap₂ (λ a b. min (a + b) (2 ^ 32 - 1)) c.loop-local.invariant (c.count_in.ensures ∙ ap (λ x. count_in s (option_map tree_of x.count)) c.local-item.is)
    ∙ longs_next s c.args.locals.now c.loop-local.local-index c.local-item.result c.loop-local-test.true
