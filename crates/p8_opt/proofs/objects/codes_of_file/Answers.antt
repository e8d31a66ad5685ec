use Rattle.std.proofs.Common.{◌≡◌, List, length, map, ap, sym, ◌∙◌, subst, Bor}
use Rattle.std.proofs.lemmas.List.{length-map}
use Rattle.p8_tree.specs.declared.sources.Method.{Method}
use Rattle.p8_tree.specs.Views.{method_of}
use Rattle.p8_build.specs.Accepted.{methods_of}
use Rattle.p8_opt.specs.Steps.{AreFoldable, AreShortCodes}
use Rattle.p8_opt.proofs.OneByOne.{are-foldable, codes-short}
use Rattle.p8_opt.proofs.objects.codes_of_file.Goals as goal

pub short_codes-requires : goal.short_codes-requires
short_codes-requires c =
    let f = c.args.file.now in
    subst (λ (ms : List (Bor Method)). AreFoldable f.kinds f.tables (map (λ m. method_of m.now) ms)) (sym c.as_slice.ensures) (are-foldable f c.requires)

pub returns : goal.returns
returns c =
    let f = c.args.file.now in
    let codes = c.in_ok-codes.codes in
    let count : length codes ≡ length (methods_of f) = c.in_ok-codes.ensures.count ∙ ap length c.as_slice.ensures ∙ sym (length-map f.methods (λ m. method_of m.now)) in
    let short : AreShortCodes f.kinds f.tables (methods_of f) codes =
    subst (λ (ms : List (Bor Method)). AreShortCodes f.kinds f.tables (map (λ m. method_of m.now) ms) codes) c.as_slice.ensures c.in_ok-codes.ensures.codes in
    λ h. codes-short f h codes count short
