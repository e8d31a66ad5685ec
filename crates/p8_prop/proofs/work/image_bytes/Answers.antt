use Rattle.std.proofs.Common.{◌≡◌, ◌∙◌, sym, subst}
use Rattle.p8_inputs.specs.declared.program.Format.TheVariants.{Source}
use Rattle.p8_inputs.specs.Runs.{HasProperTrees}
use Rattle.p8_prop.proofs.work.image_bytes.Goals as goal

pub returns-clause-keeps : goal.returns-clause-keeps
returns-clause-keeps g c =
    let e : c.in_ok-image.image.file ≡ c.in_ok-bytes.bytes.items = sym (c.in_ok-bytes.ensures.items_if_clones_equal (λ x y same. same) ∙ c.bytes.ensures.bytes) in
    c.builds_keep_meaning.ensures (g.S.Shelf.files c.args.shelf.now) c.args.short c.args.file.now c.in_ok-bytes.bytes.items (subst (λ bytes. HasProperTrees (g.S.Shelf.files c.args.shelf.now) (Source c.args.short) c.args.file.now bytes) e c.in_ok-image.ensures.trees)
