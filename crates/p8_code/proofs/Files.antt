-- The codes of files, one after the other.
use Rattle.std.proofs.Common.{◌≡◌, ◌∙◌, ℕ, zero, suc, ◌+◌, ◌%◌, ◌<◌, List, [], ◌∷◌, ◌++◌, length, drop, get_or, slice_get, refl, ap, sym, arith, append_assoc}
use Rattle.std.specs.Prelude.{unwrap_or}
use Rattle.std.proofs.lemmas.List.{drop_more}
use Rattle.p8_stmt.specs.declared.code.MethodCode.{MethodCode}
use Rattle.p8_image.specs.declared.parts.ObjectPart.{ObjectPart}
use Rattle.p8_image.specs.Layout.{size_of}
use Rattle.p8_image.specs.Listing.{address_after}
use Rattle.p8_image.proofs.Cutting.{address_after-mod}
use Rattle.p8_build.specs.declared.accepting.AcceptedFile.{AcceptedFile}
use Rattle.p8_map.specs.declared.names.FileNames.{FileNames}
use Rattle.p8_code.specs.Accepting.{code_by, codes_by}
use Rattle.p8_code.specs.Listing.{FileCode, object_lines, objects_lines}

at-front : {X : Type 0} (xs : List X) (n : ℕ) → slice_get (drop n xs) 0 ≡ slice_get xs n
at-front [] zero = refl
at-front [] (suc n) = refl
at-front (x ∷ xs) zero = refl
at-front (x ∷ xs) (suc n) = at-front xs n

next-front : {X : Type 0} (xs : List X) (n : ℕ) → drop 1 (drop n xs) ≡ drop (suc n) xs
next-front [] zero = refl
next-front [] (suc n) = refl
next-front (x ∷ xs) zero = refl
next-front (x ∷ xs) (suc n) = next-front xs n

-- what is left from an element on, which is read there
left-from : {X : Type 0} (xs : List X) (n : ℕ) (x : X) → n < length xs → x ≡ get_or xs n x → drop n xs ≡ x ∷ drop (n + 1) xs
left-from xs n x inside read = drop_more xs n x inside ∙ ap (λ y. y ∷ drop (n + 1) xs) (sym read)

abbrev lines : List FileNames → (base : ℕ) → List FileNames → List ObjectPart → List FileCode → List ℕ
lines files base names objects known = objects_lines (λ text. text) files base names objects known

-- a file more
pub file-told : (files : List FileNames) (objects : List ObjectPart) (sources : List (List ℕ)) (accepted : List AcceptedFile) (short : List (List MethodCode)) (n : ℕ)
    → n < length files → length objects ≡ length files → length sources ≡ length files → length accepted ≡ length files
    → (own : FileNames) → own ≡ get_or files n own → (object : ObjectPart) → object ≡ get_or objects n object → (bytes : List ℕ) → bytes ≡ get_or sources n bytes
    → (f : AcceptedFile) → f ≡ get_or accepted n f → (codes : List MethodCode) → codes ≡ unwrap_or (slice_get short n) f.codes
    → (out more : List ℕ) (base next : ℕ) → more ≡ out ++ object_lines (λ text. text) files base own object (code_by bytes f codes) → next ≡ address_after base (size_of object % 65536)
    → (whole : List ℕ) → out ++ lines files base (drop n files) (drop n objects) (codes_by (drop n sources) (drop n accepted) (drop n short)) ≡ whole
    → more ++ lines files next (drop (n + 1) files) (drop (n + 1) objects) (codes_by (drop (n + 1) sources) (drop (n + 1) accepted) (drop (n + 1) short)) ≡ whole
file-told files objects sources accepted short n inside many_o many_s many_a own own_is object object_is bytes bytes_is f f_is codes codes_are out more base next more_is next_is whole before =
    let here : List ℕ = object_lines (λ text. text) files base own object (code_by bytes f codes) in
    let rest : ℕ → List (List MethodCode) → List ℕ =
    λ b short. lines files b (drop (n + 1) files) (drop (n + 1) objects) (codes_by (drop (n + 1) sources) (drop (n + 1) accepted) short) in
    let names : drop n files ≡ own ∷ drop (n + 1) files = left-from files n own inside own_is in
    let parts : drop n objects ≡ object ∷ drop (n + 1) objects = left-from objects n object (omega (arith, inside, many_o)) object_is in
    let texts : drop n sources ≡ bytes ∷ drop (n + 1) sources = left-from sources n bytes (omega (arith, inside, many_s)) bytes_is in
    let found : drop n accepted ≡ f ∷ drop (n + 1) accepted = left-from accepted n f (omega (arith, inside, many_a)) f_is in
    let own_codes : unwrap_or (slice_get (drop n short) 0) f.codes ≡ codes = ap (λ o. unwrap_or o f.codes) (at-front short n) ∙ sym codes_are in
    let on : suc n ≡ n + 1 = omega arith in
    let further_on : address_after base (size_of object) ≡ next = sym (address_after-mod base (size_of object)) ∙ sym next_is in
    let others : drop 1 (drop n short) ≡ drop (n + 1) short = next-front short n ∙ ap (λ k. drop k short) on in
    let opened : lines files base (drop n files) (drop n objects) (codes_by (drop n sources) (drop n accepted) (drop n short)) ≡ here ++ rest next (drop (n + 1) short) =
    (λ k. lines files base (names k) (parts k) (codes_by (texts k) (found k) (drop n short)))
    ∙ (λ k. object_lines (λ text. text) files base own object (code_by bytes f (own_codes k)) ++ rest (further_on k) (others k)) in
    ap (λ l. l ++ rest next (drop (n + 1) short)) more_is ∙ append_assoc out here (rest next (drop (n + 1) short)) ∙ ap (λ l. out ++ l) (sym opened) ∙ before
