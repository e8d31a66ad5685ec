use Rattle.std.proofs.Common.{◌≡◌, ℕ, List, ◌++◌, ◌∙◌, ap, sym, map, slice_index}
use Rattle.p8_image.specs.Keeping.{kept}
use Rattle.p8_image.specs.Layout.{codes_of, texts_offset, places_from, text_size}
use Rattle.p8_image.proofs.Keeping.{kept_twice}
use Rattle.p8_image.proofs.Words.{kept_codes}
use Rattle.p8_image.proofs.bytes.linked_codes.Goals as goal

pub text_offsets-requires : goal.text_offsets-requires
text_offsets-requires c = ap kept c.texts_offset.ensures ∙ kept_twice _ ∙ sym c.texts_offset.ensures

pub returns : goal.returns
returns c =
    let object = c.args.object.now in
    let offsets = c.in_ok-offsets.offsets.items in
    let placed : offsets ≡ map kept (places_from text_size c.texts_offset.result object.texts) =
    c.in_ok-offsets.ensures ∙ ap (λ (texts : List _). map kept (places_from text_size c.texts_offset.result texts)) c.as_slice.ensures in
    c.in_ok-push_codes.ensures
    ∙ ap (λ (codes : List ℕ). codes ++ codes_of (slice_index c.deref.result.now) c.as_slice-2.result.now) c.new-codes.ensures.items
    ∙ ap (λ (xs : List ℕ). codes_of (slice_index xs) c.as_slice-2.result.now) c.deref.ensures.value
    ∙ ap (λ (methods : List _). codes_of (slice_index offsets) methods) c.as_slice-2.ensures
    ∙ kept_codes offsets c.texts_offset.result object c.texts_offset.ensures placed
