-- The lines of an object, written one part after the other.
use Rattle.std.proofs.Common.{◌≡◌, ◌∙◌, ap, ℕ, ◌%◌, List, [], ◌++◌, append_assoc}
use Rattle.std.specs.Prelude.{slice_index}
use Rattle.p8_image.specs.Layout.{codes_of, codes_offset, dat_offset, text_offsets}
use Rattle.p8_image.specs.Listing.{address_after, longs_of, object_line}
use Rattle.p8_image.proofs.Cutting.{address_after-mod}
use Rattle.p8_legend.specs.declared.ranges.Ranges.{Ranges}
use Rattle.p8_legend.specs.ProjectLegends.{with_labels, with_variables}
use Rattle.p8_code.specs.declared.objects.Object.{Object}
use Rattle.p8_code.specs.Listing.{dat_lines, methods_lines, object_lines, scope_at}
use Rattle.p8_code.specs.Steps.{cut_lines}
use Rattle.p8_code.specs.Views.{known_of, scope_with}
use Rattle.p8_code.proofs.Methods.{uncut}

pub object-told : (o : Object) (variables labels : Ranges) (base dat place : ℕ) (longs bytes : List ℕ) (a b c d : List ℕ)
    → b ≡ a ++ object_line o.own.now.file base
    → c ≡ b ++ dat_lines (λ text. text) o.source.now base o.own.now.labels dat dat 0 longs o.lines.now
    → d ≡ c ++ cut_lines (scope_with o variables labels) 1 place bytes o.own.now.methods o.part.now.methods o.codes.now
    → longs ≡ longs_of o.part.now.dat → dat ≡ address_after base (dat_offset o.part.now % 65536) → place ≡ address_after base (codes_offset o.part.now % 65536)
    → bytes ≡ codes_of (slice_index (text_offsets o.part.now)) o.part.now.methods
    → (variables.ranges, variables.texts) ≡ with_variables ([], []) 0 [] o.own.now.variables o.part.now.variables
    → (labels.ranges, labels.texts) ≡ with_labels ([], []) [] 0 (codes_offset o.part.now % 65536) o.own.now.labels
    → d ≡ a ++ object_lines (λ text. text) o.files.now base o.own.now o.part.now (known_of o)
object-told o variables labels base dat place longs bytes a b c d first second third longs_are where_dat where_codes bytes_are variables_are labels_are =
    let own = o.own.now in
    let part = o.part.now in
    let at : dat ≡ address_after base (dat_offset part) = where_dat ∙ address_after-mod base (dat_offset part) in
    let from : place ≡ address_after base (codes_offset part) = where_codes ∙ address_after-mod base (codes_offset part) in
    let x : List ℕ = object_line own.file base in
    let y : List ℕ = dat_lines (λ text. text) o.source.now base own.labels (address_after base (dat_offset part)) (address_after base (dat_offset part)) 0 (longs_of part.dat) o.lines.now in
    let z : List ℕ = methods_lines (λ text. text) (scope_at o.files.now own part o.source.now) (slice_index (text_offsets part)) 1 (address_after base (codes_offset part)) own.methods part.methods o.codes.now in
    let front : c ≡ (a ++ x) ++ y = second ∙ (λ i. (first i) ++ dat_lines (λ text. text) o.source.now base own.labels (at i) (at i) 0 (longs_are i) o.lines.now) in
    let cut : cut_lines (scope_with o variables labels) 1 place bytes own.methods part.methods o.codes.now ≡ z =
    (λ i. cut_lines (λ m p. record {
      files = o.files.now;
      own = own;
      object = part;
      variables = variables_are i;
      labels = labels_are i;
      method = m;
      part = p;
      source = o.source.now;
    }) 1 (from i) (bytes_are i) own.methods part.methods o.codes.now)
    ∙ uncut (scope_at o.files.now own part o.source.now) (slice_index (text_offsets part)) 1 (address_after base (codes_offset part)) own.methods part.methods o.codes.now in
    third ∙ (λ i. (front i) ++ (cut i)) ∙ ap (λ (l : List ℕ). l ++ z) (append_assoc a x y) ∙ append_assoc a (x ++ y) z
