use Rattle.std.proofs.Common.{◌+◌, ◌-◌, ◌^◌, min, length, map, ap, ap₂, ◌∙◌}
use Rattle.p8_tree.specs.Views.{declared_of, statements_of}
use Rattle.p8_gen.specs.Depths.{held_in}
use Rattle.p8_gen.specs.Scopes.{names_from}
use Rattle.p8_stmt.specs.Cutting.{cut, cut_longs}
use Rattle.p8_stmt.specs.Methods.{longs_in}
use Rattle.p8_stmt.proofs.Sizes.{frame_cut}
use Rattle.p8_stmt.proofs.code.method_size.Goals as goal

pub returns : goal.returns
returns c =
    let n = names_from c.args.kinds.now c.args.number c.args.tables.now c.args.method.now.place in
    let m = c.args.method.now in
    let longs = c.longs_in-longs.ensures ∙ ap (λ xs. cut_longs (longs_in n.constants (map declared_of xs))) c.as_slice.ensures in
    let frame =
    c.frame_longs.ensures ∙ ap₂ (λ p l. min (1 + p + l) (2 ^ 32 - 1)) c.len.ensures longs
    ∙ frame_cut (length m.params) (longs_in n.constants (map declared_of m.locals)) (2 ^ 32 - 1) in
    let held = c.held_in.ensures ∙ ap (λ ss. cut (held_in n (statements_of ss))) c.as_slice-2.ensures in
    λ i. record { longs = frame i; held = held i }
