-- A project has one text of hints.
use Rattle.std.proofs.Common.{◌≡◌, ◌∙◌, ap, sym, subst, refl, arith, ℕ, suc, ◌==◌, Bool, List, [], ◌∷◌, length, slice_get, Some}
use Rattle.p8_tree.specs.Projects.{NamedSource}
use Rattle.p8_fold.specs.Meanings.{Setting}
use Rattle.p8_kinds.specs.declared.children.Children.{Children}
use Rattle.p8_constants.specs.FileItems.{items}
use Rattle.p8_names.specs.Children.{AreChildren}
use Rattle.p8_build.specs.Files.{CompiledFile, setting_of, IsCompiled}
use Rattle.p8_build.specs.Builds.{AreCompiled, IsFile}
use Rattle.p8_build.proofs.One.{alike, same_labels, same_setting, same_codes}
use Rattle.p8_hint.specs.Hints.{file_text, hints_of, joined, or_nothing, text_with_facts, texts_of}
use Rattle.p8_hint.specs.Projects.{IsHintsOf}

one-file : (b : List ℕ) (f : NamedSource) (c : Children) (top : Bool) (x y : CompiledFile) → IsCompiled f.tree c top x → IsCompiled f.tree c top y → file_text b f c x ≡ file_text b f c y
one-file b f c top x y p q =
    let h = alike f.tree c top x.kinds y.kinds p.names q.names in
    let labels = same_labels f.tree c x y h p.dat q.dat in
    ap (λ codes. text_with_facts f.name b codes (setting_of c x) (items f.tree)) (same_codes f.tree c x y h labels p.code q.code)
    ∙ ap (λ (s : Setting). text_with_facts f.name b y.codes s (items f.tree)) (same_setting f.tree c x.kinds y.kinds h)

texts-same : (bs : List (List ℕ)) (fs : List NamedSource) (cs : List Children) (xs ys : List CompiledFile) → length cs ≡ length fs → length xs ≡ length fs → length ys ≡ length fs
    → ((i : ℕ) (b : List ℕ) (f : NamedSource) (c : Children) (x y : CompiledFile) → slice_get fs i ≡ Some f → slice_get cs i ≡ Some c → slice_get xs i ≡ Some x → slice_get ys i ≡ Some y → file_text b f c x ≡ file_text b f c y)
    → texts_of bs fs cs xs ≡ texts_of bs fs cs ys
texts-same [] fs cs xs ys a b d each = refl
texts-same (t ∷ bs) [] cs xs ys a b d each = refl
texts-same (t ∷ bs) (f ∷ fs) [] xs ys a b d each = absurd (omega arith)
texts-same (t ∷ bs) (f ∷ fs) (c ∷ cs) [] ys a b d each = absurd (omega arith)
texts-same (t ∷ bs) (f ∷ fs) (c ∷ cs) (x ∷ xs) [] a b d each = absurd (omega arith)
texts-same (t ∷ bs) (f ∷ fs) (c ∷ cs) (x ∷ xs) (y ∷ ys) a b d each =
    ap (λ o. o ∷ texts_of bs fs cs xs) (each 0 t f c x y refl refl refl refl) ∙ ap (λ os. file_text t f c y ∷ os) (texts-same bs fs cs xs ys (omega arith) (omega arith) (omega arith) (λ i. each (suc i)))

one-texts : (bs : List (List ℕ)) (files : List NamedSource) (children : List Children) (xs ys : List CompiledFile) → length children ≡ length files → AreCompiled files children xs → AreCompiled files children ys
    → texts_of bs files children xs ≡ texts_of bs files children ys
one-texts bs files children xs ys beside a b =
    texts-same bs files children xs ys beside a.count b.count (λ i t f c x y at_f at_c at_x at_y.
    let is : IsFile files children i f c = record { stands = at_f; beside = at_c } in
    one-file t f c (i == 0) x y (a.each i f c x is at_x) (b.each i f c y is at_y))

-- what the files see is one thing, and so is the text
pub hints-one : (sources : List (List ℕ)) (files : List NamedSource) → ((a b : List Children) → AreChildren files a → AreChildren files b → a ≡ b) → (a b : List ℕ) → IsHintsOf sources files a → IsHintsOf sources files b → a ≡ b
hints-one sources files view a b p q =
    let same : q.children ≡ p.children = view q.children p.children q.seen p.seen in
    let each : AreCompiled files p.children q.compiled = subst (λ (cs : List Children). AreCompiled files cs q.compiled) same q.each in
    p.is
    ∙ ap (λ ts. or_nothing (joined ts)) (one-texts sources files p.children p.compiled q.compiled p.seen.one_each p.each each)
    ∙ ap (λ (cs : List Children). hints_of sources files cs q.compiled) (sym same)
    ∙ sym q.is
