-- How large what is refused as too large is.
use Rattle.std.proofs.Common.{◌≡◌, ◌⊎◌, inl, inr, ℕ, ◌+◌, ◌^◌, ◌<◌, ◌==◌, ◌&&◌, ◌||◌, nat_lt, min, Bool, true, false, if◌then◌else◌, List, length, slice_get, Option, Some, None, refl, ap, sym, ◌∙◌, subst, arith}
use Rattle.std.proofs.lemmas.Bool.{cases_lt}
use Rattle.std.proofs.lemmas.Bool.Decides.{nat_tests}
use Rattle.std.proofs.lemmas.Option.{slice_get_within}
use Rattle.p8_tree.specs.declared.places.Place.{Place}
use Rattle.p8_tree.specs.Sources.{MethodTree}
use Rattle.p8_tree.specs.Projects.{NamedSource}
use Rattle.p8_tree.specs.declared.faults.Fault.{Fault}
use Rattle.p8_tree.specs.Faults.{fault, is_same_place}
use Rattle.p8_tree.specs.declared.refusal.Refusal.TheVariants.{FrameTooLarge}
use Rattle.p8_constants.specs.FileItems.{items}
use Rattle.p8_kinds.specs.declared.children.Children.{Children}
use Rattle.p8_names.specs.Kinds.{numbered}
use Rattle.p8_names.specs.Resolution.{IsNamed}
use Rattle.p8_gen.specs.Names.{Names}
use Rattle.p8_image.specs.Layout.{header_by}
use Rattle.p8_image.specs.declared.parts.ObjectPart.{ObjectPart}
use Rattle.p8_stmt.specs.declared.frames.MethodSize.{MethodSize}
use Rattle.p8_stmt.specs.Methods.{IsMethodFault, size_of, most_longs, most_held}
use Rattle.p8_stmt.proofs.Sizes.{large_refused, refused_large}
use Rattle.p8_build.specs.Files.{CompiledFile, method_names, IsData, IsCodeFault, of_method as method_fault, too_many}
use Rattle.p8_build.specs.Builds.{IsFile, AreCompiled, objects_of}
use Rattle.p8_build.specs.Arguments.{arguments_at}
use Rattle.p8_build.specs.Phases.{names_size, image_size}
use Rattle.p8_build.specs.Sizes.{IsSizeAt, IsSizeOf, of_arguments, of_method, of_image, of_none}
use Rattle.p8_build.specs.Measuring.{IsFirstSize, IfSizeAt, elsewhere, looked_for}
use Rattle.p8_build.specs.declared.sizes.Size.{Size}
use Rattle.p8_build.specs.declared.sizes.Size.TheVariants as size_case
use Rattle.p8_build.proofs.Firsts.{refusal}

-- ---- tests

not_both : true ≡ false → ⊥
not_both h = absurd cc

pub both : (a b : Bool) → (a && b) ≡ true → (a ≡ true) × (b ≡ true)
both true true h = (refl, refl)
both true false h = absurd cc
both false b h = absurd cc

of_both : (a b : Bool) → a ≡ true → b ≡ true → (a && b) ≡ true
of_both true true p q = refl
of_both true false p q = absurd cc
of_both false b p q = absurd cc

differs : (a b : ℕ) → ¬ (a ≡ b) → (a == b) ≡ false
differs a b h = grind (arith, nat_tests)

agrees : (a b : ℕ) → a ≡ b → (a == b) ≡ true
agrees a b h = grind (arith, nat_tests)

pub equal : (a b : ℕ) → (a == b) ≡ true → a ≡ b
equal a b h = grind (arith, nat_tests)

unequal : (a b : ℕ) → (a == b) ≡ false → ¬ (a ≡ b)
unequal a b h e = not_both (sym (agrees a b e) ∙ h)

place_is : (p q : Place) → is_same_place p q ≡ true → p ≡ q
place_is p q h =
    let tests = both (p.line == q.line) (p.column == q.column) h in
    λ i. record { line = equal p.line q.line tests.0 i; column = equal p.column q.column tests.1 i }

place_same : (p q : Place) → p ≡ q → is_same_place p q ≡ true
place_same p q e = of_both (p.line == q.line) (p.column == q.column) (agrees p.line q.line (ap (λ (x : Place). x.line) e)) (agrees p.column q.column (ap (λ (x : Place). x.column) e))

-- ---- methods

-- whether a method of a size is refused with 26 at a place
abbrev pub is_refused_at : Place → MethodSize → Place → Bool
is_refused_at stands size place = is_same_place stands place && (nat_lt most_longs size.longs || nat_lt most_held size.held)

abbrev size_test : MethodSize → Bool
size_test size = nat_lt most_longs size.longs || nat_lt most_held size.held

refused_at : (n : Names) (m : MethodTree) (size : MethodSize) (place : Place) → size ≡ size_of n m → is_refused_at m.place size place ≡ true → IsMethodFault n m (fault FrameTooLarge place)
refused_at n m size place is h =
    let tests = both (is_same_place m.place place) (size_test size) h in
    subst (λ (p : Place). IsMethodFault n m (fault FrameTooLarge p)) (place_is m.place place tests.0) (large_refused n m (ap size_test (sym is) ∙ tests.1))

not_refused_at : (n : Names) (m : MethodTree) (size : MethodSize) (place : Place) → size ≡ size_of n m → is_refused_at m.place size place ≡ false → ¬ IsMethodFault n m (fault FrameTooLarge place)
not_refused_at n m size place is h f =
    let facts = refused_large n m place f in
    not_both (sym (of_both (is_same_place m.place place) (size_test size) (place_same m.place place facts.0) (ap size_test is ∙ facts.1)) ∙ h)

-- none of the first methods is refused with 26 at a place
pub record NoneBefore (names : ℕ → MethodTree → Names) (ms : List MethodTree) (place : Place) (i : ℕ) : Type 0 where
  pub none : (j : ℕ) (m : MethodTree) → j < i → slice_get ms j ≡ Some m → ¬ IsMethodFault (names j m) m (fault FrameTooLarge place)

module _ (names : ℕ → MethodTree → Names) (ms : List MethodTree) (place : Place) where
  pub none_yet : NoneBefore names ms place 0
  none_yet = record { none = λ j m l at. absurd (omega arith) }

  pub size_found : (i : ℕ) (m : MethodTree) (size : MethodSize) → NoneBefore names ms place i → slice_get ms i ≡ Some m → size ≡ size_of (names i m) m → is_refused_at m.place size place ≡ true → IsSizeAt names ms place size
  size_found i m size before at is h = record {
    k = i;
    m = m;
    stands = at;
    refused = refused_at (names i m) m size place is h;
    first = before.none;
    size_is = is;
  }

  below_or_at : (j i : ℕ) → j < i + 1 → (j < i) ⊎ (j ≡ i)
  below_or_at j i l = elim (cases_lt j i) [ inl lower ↦ inl lower | inr above ↦ inr (omega (arith, l, above)) ]

  pub size_later : (i : ℕ) (m : MethodTree) (size : MethodSize) → NoneBefore names ms place i → slice_get ms i ≡ Some m → size ≡ size_of (names i m) m → is_refused_at m.place size place ≡ false → NoneBefore names ms place (i + 1)
  size_later i m size before at is h = record {
    none = λ j n l there. elim (below_or_at j i l) [
      | inl lower ↦ before.none j n lower there
      | inr same ↦
          let here : slice_get ms i ≡ Some n = subst (λ (k : ℕ). slice_get ms k ≡ Some n) same there in
          let one : m ≡ n = some_same m n (sym at ∙ here) in
          subst (λ (k : ℕ). ¬ IsMethodFault (names k n) n (fault FrameTooLarge place)) (sym same)
          (subst (λ (x : MethodTree). ¬ IsMethodFault (names i x) x (fault FrameTooLarge place)) one (not_refused_at (names i m) m size place is h))
    ];
  }
    where
      some_same : (a b : MethodTree) → Some a ≡ Some b → a ≡ b
      some_same a b e = cc

  pub size_nowhere : (i : ℕ) → i ≡ length ms → NoneBefore names ms place i → IsFirstSize names ms place None
  size_nowhere i all before = λ k m at. before.none k m (omega (arith, all, slice_get_within ms k m at)) at

-- by other names that are the same
pub sizes_along : (names others : ℕ → MethodTree → Names) (ms ns : List MethodTree) (place : Place) (size : Option MethodSize) → ((k : ℕ) (m : MethodTree) → slice_get ms k ≡ Some m → names k m ≡ others k m) → ms ≡ ns → IsFirstSize names ms place size → IsFirstSize others ns place size
sizes_along names others ms ns place None same whole h =
    λ k m at.
    let here : slice_get ms k ≡ Some m = subst (λ (xs : List MethodTree). slice_get xs k ≡ Some m) (sym whole) at in
    subst (λ (n : Names). ¬ IsMethodFault n m (fault FrameTooLarge place)) (same k m here) (h k m here)
sizes_along names others ms ns place (Some size) same whole h =
    subst (λ (xs : List MethodTree). IsSizeAt others xs place size) whole (record {
      k = h.k;
      m = h.m;
      stands = h.stands;
      refused = subst (λ (n : Names). IsMethodFault n h.m (fault FrameTooLarge place)) (same h.k h.m h.stands) h.refused;
      first = λ j m l at. subst (λ (n : Names). ¬ IsMethodFault n m (fault FrameTooLarge place)) (same j m at) (h.first j m l at);
      size_is = h.size_is ∙ ap (λ (n : Names). size_of n h.m) (same h.k h.m h.stands);
    })

-- the sizes of one file by other names that are the same
pub size_along : (names others : ℕ → MethodTree → Names) (ms ns : List MethodTree) (f : Fault) (size : Option Size) → ((k : ℕ) (m : MethodTree) → slice_get ms k ≡ Some m → names k m ≡ others k m) → ms ≡ ns → IfSizeAt names ms f size → IfSizeAt others ns f size
size_along names others ms ns f size same whole (elsewhere other is) = elsewhere other is
size_along names others ms ns f size same whole (looked_for method e h is) = looked_for method e (sizes_along names others ms ns f.place method same whole h) is

-- ---- refusals

-- a fault with this number
fault_is : (f : Fault) → f.number ≡ 26 → f ≡ fault FrameTooLarge f.place
fault_is f e = λ i. record { number = e i; place = f.place }

clash : (n : ℕ) → n ≡ 27 → n ≡ 26 → ⊥
clash n a b = omega (arith, a, b)

-- the numbers of arguments that a fault of the names of a file tells
pub names_sized : (files : List NamedSource) (children : List Children) (i : ℕ) (file : NamedSource) (seen : Children) (f : Fault) (size : Option Size) → IsFile files children i file seen → size ≡ names_size file.tree seen f → IsSizeOf files children (refusal 0 i f) size
names_sized files children i file seen f size is told = by (f.number == 17) refl
  where
    by : (t : Bool) → (f.number == 17) ≡ t → IsSizeOf files children (refusal 0 i f) size
    by true t = of_arguments file seen t is (told ∙ ap (λ (b : Bool). if b then arguments_at file.tree seen f.place else None) t)
    by false t = of_none t refl refl (told ∙ ap (λ (b : Bool). if b then arguments_at file.tree seen f.place else None) t)

-- the size that a fault of the code of a file tells
pub code_sized : (files : List NamedSource) (children : List Children) (i : ℕ) (file : NamedSource) (seen : Children) (x : CompiledFile) (f : Fault) (size : Option Size) → IsFile files children i file seen → IsNamed file.tree seen (i == 0) x.kinds → IsData file.tree seen x
    → IsCodeFault file.tree seen x f → IfSizeAt (method_names seen x) (numbered (items file.tree)) f size → IsSizeOf files children (refusal 2 i f) size
code_sized files children i file seen x f size is named dat faulty (elsewhere other none) = of_none refl (differs f.number 26 other) refl none
code_sized files children i file seen x f size is named dat faulty (looked_for (Some method) e at is_size) = of_method file seen x method (agrees f.number 26 e) is named dat at is_size
code_sized files children i file seen x f size is named dat (method_fault k m stands b) (looked_for None e none is_size) = absurd (none k m stands (subst (IsMethodFault (method_names seen x k m) m) (fault_is f e) b))
code_sized files children i file seen x f size is named dat (too_many k m stands b same) (looked_for None e none is_size) = absurd (clash 27 refl (ap (λ (g : Fault). g.number) same ∙ e))

-- the size that a fault of the image tells
pub image_sized : (files : List NamedSource) (children : List Children) (xs : List CompiledFile) (objects : List ObjectPart) (f : Fault) (size : Option Size) → AreCompiled files children xs → objects ≡ objects_of files children xs → size ≡ image_size objects f
    → IsSizeOf files children (refusal 3 0 f) size
image_sized files children xs objects f size each are is = by (f.number == 28) refl
  where
    by : (t : Bool) → (f.number == 28) ≡ t → IsSizeOf files children (refusal 3 0 f) size
    by true t =
        of_image xs t each
        (is ∙ ap (λ (b : Bool). if b then Some (size_case.Image (min (header_by objects).dcurr (2 ^ 31))) else None) t
        ∙ ap (λ (os : List ObjectPart). Some (size_case.Image (min (header_by os).dcurr (2 ^ 31)))) are)
    by false t = of_none refl refl t (is ∙ ap (λ (b : Bool). if b then Some (size_case.Image (min (header_by objects).dcurr (2 ^ 31))) else None) t)
