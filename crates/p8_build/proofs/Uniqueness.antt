-- A project is built to one thing, or refused for one reason.
use Rattle.std.proofs.Common.{◌≡◌, ◌⊎◌, inl, inr, ℕ, ◌<◌, ◌≤◌, List, length, slice_get, Option, Some, ap, sym, ◌∙◌, subst, arith}
use Rattle.std.proofs.lemmas.Option.{same_Some}
use Rattle.p8_tree.specs.Projects.{NamedSource}
use Rattle.p8_tree.specs.declared.faults.Fault.{Fault}
use Rattle.p8_tree.specs.Faults.{PhaseFault, IsFirstRefusal}
use Rattle.p8_kinds.specs.declared.children.Children.{Children}
use Rattle.p8_image.specs.declared.clocks.Clock.{Clock}
use Rattle.p8_image.specs.declared.parts.ObjectPart.{ObjectPart}
use Rattle.p8_image.specs.Layout.{header_by}
use Rattle.p8_image.specs.Projects.{FitsHub}
use Rattle.p8_names.specs.Children.{AreChildren}
use Rattle.p8_build.specs.Files.{CompiledFile}
use Rattle.p8_build.specs.Builds.{AreCompiled, objects_of, clock_by, IsRefusal, IsImageFault, too_large, no_clock, IsBuilt, IsRefusedWith}
use Rattle.p8_build.proofs.Lists.{one_element}
use Rattle.p8_build.proofs.Firsts.{one_first}
use Rattle.p8_build.proofs.Refusals.{ImageFaulty, shown, in_names, in_data, in_code, in_image, none_compiled}
use Rattle.p8_build.proofs.Wholes.{one_objects, one_clock}

-- what the files of a project see is one thing
abbrev pub HaveOneView : List NamedSource → Type 0
HaveOneView files = (a b : List Children) → AreChildren files a → AreChildren files b → a ≡ b

some_clock : (c d : Clock) → Some c ≡ Some d → c ≡ d
some_clock c d e = same_Some c d e

pub one_built : (files : List NamedSource) → HaveOneView files → (c d : Clock) (a b : List ObjectPart) → IsBuilt files c a → IsBuilt files d b → (c ≡ d) × (a ≡ b)
one_built files view c d a b x y =
    let same : y.children ≡ x.children = view y.children x.children y.seen x.seen in
    let each : AreCompiled files x.children y.compiled = subst (λ (cs : List Children). AreCompiled files cs y.compiled) same y.each in (
      some_clock c d (sym x.clock_is ∙ one_clock files x.children x.compiled y.compiled x.seen.one_each x.each each ∙ y.clock_is),
      x.objects_are ∙ one_objects files x.children x.compiled y.compiled x.seen.one_each x.each each ∙ ap (λ (cs : List Children). objects_of files cs y.compiled) (sym same) ∙ sym y.objects_are,
    )

pub one_refused : (files : List NamedSource) → HaveOneView files → (n m : List ℕ) (f g : Fault) → IsRefusedWith files n f → IsRefusedWith files m g → (n ≡ m) × (f ≡ g)
one_refused files view n m f g x y =
    let same : y.children ≡ x.children = view y.children x.children y.seen x.seen in
    let first : IsFirstRefusal (IsRefusal files x.children) y.refusal = subst (λ (cs : List Children). IsFirstRefusal (IsRefusal files cs) y.refusal) same y.first in
    let refusals : x.refusal ≡ y.refusal = one_first (IsRefusal files x.children) x.refusal y.refusal x.first first in
    let there : slice_get files x.refusal.file ≡ Some y.file = ap (λ (r : PhaseFault). slice_get files r.file) refusals ∙ y.stands in (
      x.named ∙ ap (λ (h : NamedSource). h.name) (one_element files x.refusal.file x.stands there) ∙ sym y.named,
      x.told ∙ ap (λ (r : PhaseFault). r.fault) refusals ∙ sym y.told,
    )

-- ---- never both

no_image : (files : List NamedSource) (children : List Children) (xs : List CompiledFile) → length children ≡ length files → AreCompiled files children xs → (c : Clock) (objects : List ObjectPart) (f : Fault) → objects ≡ objects_of files children xs → clock_by xs ≡ Some c → FitsHub (header_by objects) → ¬ ImageFaulty files children f
no_image files children xs beside each c objects f are clock fits b =
    by (subst (λ (o : Option Clock). IsImageFault objects o f) (one_clock files children b.xs xs beside b.each each ∙ clock)
    (subst (λ (os : List ObjectPart). IsImageFault os (clock_by b.xs) f) (one_objects files children b.xs xs beside b.each each ∙ sym are) b.fault))
  where
    by : IsImageFault objects (Some c) f → ⊥
    by (too_large l e) = omega (arith, l, fits)
    by (no_clock e is) = absurd cc

pub never_both : (files : List NamedSource) → HaveOneView files → (c : Clock) (a : List ObjectPart) (n : List ℕ) (f : Fault) → IsBuilt files c a → ¬ IsRefusedWith files n f
never_both files view c a n f x y =
    let same : x.children ≡ y.children = view x.children y.children x.seen y.seen in
    let each : AreCompiled files y.children x.compiled = subst (λ (cs : List Children). AreCompiled files cs x.compiled) same x.each in
    let are : a ≡ objects_of files y.children x.compiled = x.objects_are ∙ ap (λ (cs : List Children). objects_of files cs x.compiled) same in
    elim (low_or_image y.refusal.phase) [
      | inl l ↦ none_compiled files y.children x.compiled each y.refusal l y.first.holds
      | inr l ↦ elim (shown y.first.holds) [
        | in_names e b ↦ absurd (omega (arith, l, e))
        | in_data e b ↦ absurd (omega (arith, l, e))
        | in_code e b ↦ absurd (omega (arith, l, e))
        | in_image e z b ↦ no_image files y.children x.compiled y.seen.one_each each c a y.refusal.fault are x.clock_is x.fits b
      ]
    ]
  where
    low_or_image : (p : ℕ) → (p < 3) ⊎ (3 ≤ p)
    low_or_image p = grind arith
