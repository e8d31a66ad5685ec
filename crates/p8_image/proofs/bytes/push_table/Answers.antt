use Rattle.std.proofs.Common.{length, arith}
use Rattle.std.proofs.lemmas.Grind.{common_steps}
use Rattle.p8_image.specs.Layout.{size_of, codes_offset, own_variables}
use Rattle.p8_image.proofs.Words.{kept_word, kept_entries, kept_inner, kept_counts}
use Rattle.p8_image.proofs.bytes.push_table.Goals as goal

pub returns : goal.returns
returns c =
    let object = c.args.object.now in
    let size = kept_word (size_of object) in
    let counts = kept_counts (length object.methods) in
    let methods = kept_entries (codes_offset object) object.methods in
    let inner = kept_inner c.args.bases.now c.args.variables.now c.args.base (own_variables object) object.instances in
    grind (arith, common_steps, size, counts, methods, inner)
