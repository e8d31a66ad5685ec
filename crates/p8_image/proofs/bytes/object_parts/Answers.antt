use Rattle.std.proofs.Common.{◌≡◌, ℕ, List, ◌++◌, ◌∙◌, ap, slice_index}
use Rattle.p8_image.specs.Layout.{padded, table_bytes, codes_of, texts_of, text_offsets}
use Rattle.p8_image.proofs.Words.{four_parts}
use Rattle.p8_image.proofs.bytes.object_parts.Goals as goal

pub returns : goal.returns
returns c =
    let object = c.args.object.now in
    ap padded (four_parts
    (table_bytes c.args.bases.now c.args.variables.now c.args.base object) (padded object.dat)
    (codes_of (slice_index (text_offsets object)) object.methods) (texts_of object.texts)
    c.new-bytes.result.items c.push_table.new.out.items c.push_padded.new.out.items c.extend_from_slice.new.self.items c.push_texts.new.out.items
    c.new-bytes.ensures.items
    c.in_ok-push_table.ensures
    (c.in_ok-push_padded.ensures ∙ ap (λ (dat : List ℕ). c.push_table.new.out.items ++ padded dat) c.as_slice.ensures)
    (c.in_ok-extend_from_slice.ensures.items ∙ ap (λ (xs : List ℕ). c.push_padded.new.out.items ++ xs) (c.deref.ensures.value ∙ c.in_ok-codes.ensures))
    (c.in_ok-push_texts.ensures ∙ ap (λ (texts : List (List ℕ)). c.extend_from_slice.new.self.items ++ texts_of texts) c.as_slice-2.ensures))
