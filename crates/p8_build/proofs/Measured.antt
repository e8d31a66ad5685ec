-- What a refusal tells is of one size.
use Rattle.std.proofs.Common.{◌≡◌, inl, inr, ℕ, ◌^◌, ◌<◌, ◌==◌, min, true, false, List, length, slice_get, Option, Some, refl, ap, sym, ◌∙◌, subst, arith}
use Rattle.std.proofs.lemmas.Bool.{cases_order}
use Rattle.p8_tree.specs.declared.places.Place.{Place}
use Rattle.p8_tree.specs.Sources.{MethodTree}
use Rattle.p8_tree.specs.Projects.{NamedSource}
use Rattle.p8_tree.specs.declared.faults.Fault.{Fault}
use Rattle.p8_tree.specs.Faults.{PhaseFault, IsFirstRefusal}
use Rattle.p8_tree.specs.declared.refusal.Refusal.{Refusal}
use Rattle.p8_tree.specs.declared.refusal.Refusal.TheVariants.{WrongArity, FrameTooLarge, ImageTooLarge}
use Rattle.p8_tree.specs.Refusals.{refusal_number}
use Rattle.p8_constants.specs.FileItems.{items}
use Rattle.p8_kinds.specs.declared.children.Children.{Children}
use Rattle.p8_names.specs.Kinds.{numbered}
use Rattle.p8_names.specs.Resolution.{IsNamed}
use Rattle.p8_gen.specs.Names.{Names}
use Rattle.p8_image.specs.Layout.{header_by}
use Rattle.p8_image.specs.declared.parts.ObjectPart.{ObjectPart}
use Rattle.p8_stmt.specs.declared.frames.MethodSize.{MethodSize}
use Rattle.p8_stmt.specs.Methods.{size_of}
use Rattle.p8_build.specs.Files.{method_names, IsData}
use Rattle.p8_build.specs.Builds.{IsRefusal}
use Rattle.p8_build.specs.Arguments.{arguments_at}
use Rattle.p8_build.specs.Sizes.{IsSizeAt, tells, IsSizeOf, of_arguments, of_method, of_image, of_none, IsMeasured}
use Rattle.p8_build.specs.declared.sizes.Size.{Size}
use Rattle.p8_build.specs.declared.sizes.Size.TheVariants as size_case
use Rattle.p8_build.proofs.Firsts.{one_first}
use Rattle.p8_build.proofs.Refusals.{one_file}
use Rattle.p8_build.proofs.One.{AreAlike, alike, same_labels, same_method_names}
use Rattle.p8_build.proofs.Wholes.{one_objects}
use Rattle.p8_build.proofs.Uniqueness.{HaveOneView, one_refused}
use Rattle.p8_build.proofs.Sized.{both, equal, sizes_along}

one_size_at : (names : ℕ → MethodTree → Names) (ms : List MethodTree) (place : Place) (s t : MethodSize) → IsSizeAt names ms place s → IsSizeAt names ms place t → s ≡ t
one_size_at names ms place s t a b = elim (cases_order a.k b.k) [
  | inl same ↦
      let here : slice_get ms a.k ≡ Some b.m = subst (λ (k : ℕ). slice_get ms k ≡ Some b.m) (sym same) b.stands in
      let one : a.m ≡ b.m = some_same a.m b.m (sym a.stands ∙ here) in
      a.size_is ∙ ap (λ (m : MethodTree). size_of (names a.k m) m) one ∙ ap (λ (k : ℕ). size_of (names k b.m) b.m) same ∙ sym b.size_is
  | inr other ↦ elim other [
    | inl lower ↦ absurd (b.first a.k a.m lower a.stands a.refused)
    | inr lower ↦ absurd (a.first b.k b.m lower b.stands b.refused)
  ]
]
  where
    some_same : (x y : MethodTree) → Some x ≡ Some y → x ≡ y
    some_same x y e = cc

contrary : true ≡ false → ⊥
contrary h = absurd cc

phase_is : (r : PhaseFault) (phase : ℕ) (refused : Refusal) → tells r phase refused ≡ true → r.phase ≡ phase
phase_is r phase refused h = equal r.phase phase (both (r.phase == phase) (r.fault.number == refusal_number refused) h).0

-- two sizes of two phases
two_phases : (r : PhaseFault) (p q : ℕ) (m n : Refusal) → p < q → tells r p m ≡ true → tells r q n ≡ true → ⊥
two_phases r p q m n l a b = omega (arith, l, phase_is r p m a, phase_is r q n b)

module _ (files : List NamedSource) (children : List Children) (beside : length children ≡ length files) where
  one_size_of : (r : PhaseFault) (s t : Option Size) → IsSizeOf files children r s → IsSizeOf files children r t → s ≡ t
  one_size_of r s t (of_arguments f seen told is e) (of_arguments g other also there i) =
      let same = one_file is there in
      e ∙ ap (λ (h : NamedSource). arguments_at h.tree seen r.fault.place) same.0 ∙ ap (λ (c : Children). arguments_at g.tree c r.fault.place) same.1 ∙ sym i
  one_size_of r s t (of_arguments f seen told is e) (of_method g other y b also there names made here i) = absurd (two_phases r 0 2 WrongArity FrameTooLarge (omega arith) told also)
  one_size_of r s t (of_arguments f seen told is e) (of_image ys also each i) = absurd (two_phases r 0 3 WrongArity ImageTooLarge (omega arith) told also)
  one_size_of r s t (of_arguments f seen told is e) (of_none neither nor none i) = absurd (contrary (sym told ∙ neither))
  one_size_of r s t (of_method f seen x a told is named dat at e) (of_arguments g other also there i) = absurd (two_phases r 0 2 WrongArity FrameTooLarge (omega arith) also told)
  one_size_of r s t (of_method f seen x a told is named dat at e) (of_method g other y b also there names made here i) =
      let same = one_file is there in
      let names_here : IsNamed f.tree seen (r.file == 0) y.kinds = subst (λ (c : Children). IsNamed f.tree c (r.file == 0) y.kinds) (sym same.1) (subst (λ (h : NamedSource). IsNamed h.tree other (r.file == 0) y.kinds) (sym same.0) names) in
      let made_here : IsData f.tree seen y = subst (λ (c : Children). IsData f.tree c y) (sym same.1) (subst (λ (h : NamedSource). IsData h.tree other y) (sym same.0) made) in
      let size_here : IsSizeAt (method_names seen y) (numbered (items f.tree)) r.fault.place b = subst (λ (c : Children). IsSizeAt (method_names c y) (numbered (items f.tree)) r.fault.place b) (sym same.1) (subst (λ (h : NamedSource). IsSizeAt (method_names other y) (numbered (items h.tree)) r.fault.place b) (sym same.0) here) in
      let kinds : AreAlike f.tree x.kinds y.kinds = alike f.tree seen (r.file == 0) x.kinds y.kinds named names_here in
      let labels : x.labels ≡ y.labels = same_labels f.tree seen x y kinds dat made_here in
      let moved : IsSizeAt (method_names seen y) (numbered (items f.tree)) r.fault.place a = sizes_along (method_names seen x) (method_names seen y) (numbered (items f.tree)) (numbered (items f.tree)) r.fault.place (Some a)
      (λ k m stands. same_method_names f.tree seen x y k m kinds labels stands) refl at in
      e ∙ ap (λ (z : MethodSize). Some (size_case.Method z)) (one_size_at (method_names seen y) (numbered (items f.tree)) r.fault.place a b moved size_here) ∙ sym i
  one_size_of r s t (of_method f seen x a told is named dat at e) (of_image ys also each i) = absurd (two_phases r 2 3 FrameTooLarge ImageTooLarge (omega arith) told also)
  one_size_of r s t (of_method f seen x a told is named dat at e) (of_none neither nor none i) = absurd (contrary (sym told ∙ nor))
  one_size_of r s t (of_image xs told each e) (of_arguments g other also there i) = absurd (two_phases r 0 3 WrongArity ImageTooLarge (omega arith) also told)
  one_size_of r s t (of_image xs told each e) (of_method g other y b also there names made here i) = absurd (two_phases r 2 3 FrameTooLarge ImageTooLarge (omega arith) also told)
  one_size_of r s t (of_image xs told each e) (of_image ys also others i) =
      e ∙ ap (λ (os : List ObjectPart). Some (size_case.Image (min (header_by os).dcurr (2 ^ 31)))) (one_objects files children xs ys beside each others) ∙ sym i
  one_size_of r s t (of_image xs told each e) (of_none neither nor none i) = absurd (contrary (sym told ∙ none))
  one_size_of r s t (of_none neither nor none e) (of_arguments g other also there i) = absurd (contrary (sym also ∙ neither))
  one_size_of r s t (of_none neither nor none e) (of_method g other y b also there names made here i) = absurd (contrary (sym also ∙ nor))
  one_size_of r s t (of_none neither nor none e) (of_image ys also others i) = absurd (contrary (sym also ∙ none))
  one_size_of r s t (of_none neither nor none e) (of_none also others last i) = e ∙ sym i

pub one_measured : (files : List NamedSource) → HaveOneView files → (n m : List ℕ) (f g : Fault) (s t : Option Size) → IsMeasured files n f s → IsMeasured files m g t → (n ≡ m) × (f ≡ g) × (s ≡ t)
one_measured files view n m f g s t a b =
    let x = a.refused in
    let y = b.refused in
    let one = one_refused files view n m f g x y in
    let same : y.children ≡ x.children = view y.children x.children y.seen x.seen in
    let first : IsFirstRefusal (IsRefusal files x.children) y.refusal = subst (λ (cs : List Children). IsFirstRefusal (IsRefusal files cs) y.refusal) same y.first in
    let refusals : y.refusal ≡ x.refusal = one_first (IsRefusal files x.children) y.refusal x.refusal first x.first in
    let other : IsSizeOf files x.children x.refusal t = subst (λ (q : PhaseFault). IsSizeOf files x.children q t) refusals (subst (λ (cs : List Children). IsSizeOf files cs y.refusal t) same b.size_is) in
    (one.0, one.1, one_size_of files x.children x.seen.one_each x.refusal s t a.size_is other)
