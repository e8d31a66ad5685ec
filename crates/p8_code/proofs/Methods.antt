-- Codes that stand one after the other, cut into the codes of methods.
use Rattle.std.proofs.Common.{◌≡◌, ◌∙◌, ap, ap₂, sym, refl, ℕ, ◌+◌, List, [], ◌∷◌, ◌++◌, length, take, drop}
use Rattle.std.proofs.lemmas.List.{length-set}
use Rattle.std.proofs.Math.Seq.{take-append_seam, drop-append_seam}
use Rattle.std.specs.Prelude.{◌/◌, ◌%◌, slice_set}
use Rattle.p8_stmt.specs.declared.code.MethodCode.{MethodCode}
use Rattle.p8_image.specs.declared.parts.MethodPart.{MethodPart}
use Rattle.p8_image.specs.declared.parts.TextUse.{TextUse}
use Rattle.p8_image.specs.Layout.{codes_of, linked}
use Rattle.p8_image.specs.Listing.{address_after}
use Rattle.p8_map.specs.declared.names.MethodNames.{MethodNames}
use Rattle.p8_code.specs.Operations.{Scope}
use Rattle.p8_code.specs.Listing.{method_lines, methods_lines}
use Rattle.p8_code.specs.Steps.{cut_lines}

length-linked : (offset : ℕ → ℕ) (uses : List TextUse) (code : List ℕ) → length (linked offset uses code) ≡ length code
length-linked offset [] code = refl
length-linked offset (place ∷ uses) code =
    length-linked offset uses _
    ∙ length-set (slice_set code place.at (128 + offset place.text / 256 % 128)) (place.at + 1) (offset place.text % 256)
    ∙ length-set code place.at (128 + offset place.text / 256 % 128)

pub uncut : (scope : MethodNames → MethodPart → Scope) (offset : ℕ → ℕ) (number place : ℕ) (names : List MethodNames) (parts : List MethodPart) (others : List MethodCode)
    → cut_lines scope number place (codes_of offset parts) names parts others ≡ methods_lines (λ text. text) scope offset number place names parts others
uncut scope offset number place [] parts others = refl
uncut scope offset number place (m ∷ names) [] others = refl
uncut scope offset number place (m ∷ names) (part ∷ parts) [] = refl
uncut scope offset number place (m ∷ names) (part ∷ parts) (code ∷ others) =
    let own = linked offset part.uses part.code in
    let rest = codes_of offset parts in
    let long : length part.code ≡ length own = sym (length-linked offset part.uses part.code) in
    let taken : take (length part.code) (own ++ rest) ≡ own = ap (λ (n : ℕ). take n (own ++ rest)) long ∙ take-append_seam own rest in
    let left : drop (length part.code) (own ++ rest) ≡ rest = ap (λ (n : ℕ). drop n (own ++ rest)) long ∙ drop-append_seam own rest in
    ap₂ (λ (bytes more : List ℕ). method_lines (λ text. text) (scope m part) number place code bytes ++ more) taken
    (ap (λ (bytes : List ℕ). cut_lines scope (number + 1) (address_after place (length part.code)) bytes names parts others) left
    ∙ uncut scope offset (number + 1) (address_after place (length part.code)) names parts others)
