use Rattle.std.proofs.Common.{ℕ, ◌+◌, ◌∙◌, List, slice_index, ap, sym, arith}
use Rattle.p8_image.specs.Layout.{frame_size}
use Rattle.p8_image.proofs.Placing.{header, Found, exact, too_large}
use Rattle.p8_image.proofs.project_image.header.Goals as goal

pub returns-then-dcurr-gt32768-clause-too_large : goal.returns-then-dcurr-gt32768-clause-too_large
returns-then-dcurr-gt32768-clause-too_large c =
    let found : Found c.args.objects.now c.top-item.result c.from-vbase.result c.from.result c.from-2.result = record {
      some = omega arith;
      is_first = c.top-item.is;
      is_vbase = c.from-vbase.ensures ∙ c.variables_base.ensures;
      is_variables = c.from.ensures ∙ c.number_at.ensures ∙ ap (λ (sizes : List ℕ). slice_index sizes 0) c.requires.sizes;
      is_frame = c.from-2.ensures ∙ c.frame_size.ensures ∙ ap frame_size c.as_slice.ensures;
    } in
    too_large found c.if-dcurr-gt32768.true

pub overflow_cast-result-4 : goal.overflow_cast-result-4
overflow_cast-result-4 c =
    let found : Found c.args.objects.now c.top-item.result c.from-vbase.result c.from.result c.from-2.result = record {
      some = omega arith;
      is_first = c.top-item.is;
      is_vbase = c.from-vbase.ensures ∙ c.variables_base.ensures;
      is_variables = c.from.ensures ∙ c.number_at.ensures ∙ ap (λ (sizes : List ℕ). slice_index sizes 0) c.requires.sizes;
      is_frame = c.from-2.ensures ∙ c.frame_size.ensures ∙ ap frame_size c.as_slice.ensures;
    } in
    let found_exact = exact c.from-4.result found (c.from-4.ensures ∙ c.codes_offset.ensures) c.if-dcurr-gt32768.false in
    let first = c.from-3.ensures in omega (arith, found_exact.code)

pub returns-clause-header : goal.returns-clause-header
returns-clause-header c =
    let found : Found c.args.objects.now c.top-item.result c.from-vbase.result c.from.result c.from-2.result = record {
      some = omega arith;
      is_first = c.top-item.is;
      is_vbase = c.from-vbase.ensures ∙ c.variables_base.ensures;
      is_variables = c.from.ensures ∙ c.number_at.ensures ∙ ap (λ (sizes : List ℕ). slice_index sizes 0) c.requires.sizes;
      is_frame = c.from-2.ensures ∙ c.frame_size.ensures ∙ ap frame_size c.as_slice.ensures;
    } in
    let found_exact = exact c.from-4.result found (c.from-4.ensures ∙ c.codes_offset.ensures) c.if-dcurr-gt32768.false in
    ap (λ (first : ℕ). header 16 c.from-vbase.result (c.from-vbase.result + c.from.result + 8) (first + c.from-4.result) (c.from-vbase.result + c.from.result + 8 + 4 + c.from-2.result)) c.from-3.ensures
    ∙ sym found_exact.header

pub returns-clause-fits : goal.returns-clause-fits
returns-clause-fits c =
    let found : Found c.args.objects.now c.top-item.result c.from-vbase.result c.from.result c.from-2.result = record {
      some = omega arith;
      is_first = c.top-item.is;
      is_vbase = c.from-vbase.ensures ∙ c.variables_base.ensures;
      is_variables = c.from.ensures ∙ c.number_at.ensures ∙ ap (λ (sizes : List ℕ). slice_index sizes 0) c.requires.sizes;
      is_frame = c.from-2.ensures ∙ c.frame_size.ensures ∙ ap frame_size c.as_slice.ensures;
    } in
    let found_exact = exact c.from-4.result found (c.from-4.ensures ∙ c.codes_offset.ensures) c.if-dcurr-gt32768.false in
    found_exact.fits
