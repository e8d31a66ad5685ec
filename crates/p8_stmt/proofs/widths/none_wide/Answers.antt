use Rattle.std.proofs.Common.{◌≡◌, ap, sym, ◌∙◌, subst, length, map, [], replicate, false}
use Rattle.std.proofs.lemmas.List.{length-map}
use Rattle.p8_tree.specs.Views.{statements_of}
use Rattle.p8_gen.specs.Methods.{method_code}
use Rattle.p8_gen.specs.Names.{widened, wide_in}
use Rattle.p8_gen.specs.Scopes.{names_from}
use Rattle.p8_gen.specs.Uses.{way_of}
use Rattle.p8_stmt.specs.Rounds.{IsBelowAll}
use Rattle.p8_stmt.proofs.Least.{none-below}
use Rattle.p8_stmt.proofs.widths.none_wide.Goals as goal

pub returns : goal.returns
returns c =
    let n = names_from c.args.kinds.now c.args.number c.args.tables.now c.args.method.now.place in
    let ss = statements_of c.args.body.now in
    let ways : map way_of c.in_ok-ways.ways ≡ (method_code (widened n (wide_in [])) ss).ways = c.in_ok-ways.ensures in
    let count : c.len.result ≡ length (method_code (widened n (wide_in [])) ss).ways = c.len.ensures ∙ sym (length-map c.in_ok-ways.ways way_of) ∙ ap length ways in
    let is : c.in_ok-narrow.field-0.items ≡ replicate c.len.result false = c.in_ok-narrow.ensures in
    subst (IsBelowAll n ss) (sym is) (none-below n ss (wide_in []) c.len.result count)
