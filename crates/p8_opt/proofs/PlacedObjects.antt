-- Which item of OBJ a name stands for.
use Rattle.std.proofs.Common.{◌≡◌, ℕ, ◌+◌, min, Bool, true, false, if◌then◌else◌, List, [], ◌∷◌, ◌++◌, length, Option, Some, refl, sym, ap, ◌∙◌, subst, arith, length-append, append-nil}
use Rattle.std.proofs.lemmas.Grind.{flat_map-append}
use Rattle.std.proofs.lemmas.Option.{same_Some, none-some}
use Rattle.p8_tree.specs.Sources.{Child}
use Rattle.p8_fold.specs.Meanings.{Setting}
use Rattle.p8_constants.specs.FileItems.{Item, constant, variable, object, method, line}
use Rattle.p8_constants.specs.Names.{name_of}
use Rattle.p8_constants.specs.Rules.{count_in}
use Rattle.p8_kinds.specs.declared.name_kinds.NameKind.{NameKind}
use Rattle.p8_kinds.specs.declared.name_kinds.NameKind.TheVariants as kind
use Rattle.p8_names.specs.Settings.{has_name}
use Rattle.p8_names.specs.Kinds.{objects, object_in, methods, instances, item_kind, kind_among}
use Rattle.p8_opt.proofs.Definitions.{other-item}

-- an item of OBJ among some, with those before it; `bs` are those before all of them
pub record IsItem (s : Setting) (all : List Item) (bs os : List Child) (item position count : ℕ) : Type 0 where
  pub first : List Child
  pub y : Child
  pub rest : List Child
  pub is : os ≡ first ++ y ∷ rest
  pub item_is : item ≡ length bs + length first
  pub position_is : position ≡ min (length (methods all) + 1 + (instances s bs + instances s first)) 255
  pub count_is : count ≡ min (count_in s y.count) 255

instances-more : (s : Setting) (bs : List Child) (x : Child) → instances s (bs ++ x ∷ []) ≡ instances s bs + count_in s x.count
instances-more s [] x = omega arith
instances-more s (b ∷ bs) x = let more = instances-more s bs x in omega (arith, more)

none-more : (before : List Item) (x : Item) → object_in x ≡ [] → objects (before ++ x ∷ []) ≡ objects before
none-more before x none = flat_map-append object_in before (x ∷ []) ∙ ap (λ ys. objects before ++ (ys ++ [])) none ∙ append-nil (objects before)

one-more : (before : List Item) (x : Child) → objects (before ++ object x ∷ []) ≡ objects before ++ x ∷ []
one-more before x = flat_map-append object_in before (object x ∷ [])

abbrev parts : NameKind → ℕ × ℕ × ℕ
parts (kind.Object item position count) = (item, position, count)
parts k = (0, 0, 0)

module _ (s : Setting) (all : List Item) (o : List ℕ) (item position count : ℕ) where
  abbrev Found : List Child → List Item → Type 0
  Found bs xs = IsItem s all bs (objects xs) item position count

  here : (bs : List Child) (x : Child) (os : List Child) (k : NameKind) → parts k ≡ (length bs, min (length (methods all) + 1 + instances s bs) 255, min (count_in s x.count) 255)
      → k ≡ kind.Object item position count → IsItem s all bs (x ∷ os) item position count
  here bs x os k is same =
      let at = sym is ∙ ap parts same in
      let one : length bs ≡ item = ap (λ p. p.0) at in
      let two : min (length (methods all) + 1 + instances s bs) 255 ≡ position = ap (λ p. p.1) at in
      let three : min (count_in s x.count) 255 ≡ count = ap (λ p. p.2) at in
      record {
        first = [];
        y = x;
        rest = os;
        is = refl;
        item_is = omega (arith, one);
        position_is = omega (arith, two);
        count_is = sym three;
      }

  further : (bs : List Child) (x : Child) (os : List Child) → IsItem s all (bs ++ x ∷ []) os item position count → IsItem s all bs (x ∷ os) item position count
  further bs x os h =
      let more = instances-more s bs x in
      let long = length-append bs (x ∷ []) in
      record {
        first = x ∷ h.first;
        y = h.y;
        rest = h.rest;
        is = ap (λ ys. x ∷ ys) h.is;
        item_is = omega (arith, long, h.item_is);
        position_is = omega (arith, more, h.position_is);
        count_is = h.count_is;
      }

  skip : (before : List Item) (x : Item) (xs : List Item) → object_in x ≡ [] → Found (objects (before ++ x ∷ [])) xs → Found (objects before) xs
  skip before x xs none h = subst (λ bs. Found bs xs) (none-more before x none) h

  at-object : (b : Bool) (bs : List Child) (x : Child) (os : List Child) (k : NameKind) (more : Option NameKind) → parts k ≡ (length bs, min (length (methods all) + 1 + instances s bs) 255, min (count_in s x.count) 255)
      → (if b then Some k else more) ≡ Some (kind.Object item position count) → (more ≡ Some (kind.Object item position count) → IsItem s all bs (x ∷ os) item position count) → IsItem s all bs (x ∷ os) item position count
  at-object true bs x os k more is found others = here bs x os k is (same_Some k (kind.Object item position count) found)
  at-object false bs x os k more is found others = others found

  pub item-of : (before xs : List Item) → kind_among s all before xs o ≡ Some (kind.Object item position count) → Found (objects before) xs
  item-of before [] is = absurd (none-some (kind.Object item position count) is)
  item-of before (object x ∷ xs) is =
      at-object (has_name (name_of (object x)) o) (objects before) x (objects xs) (item_kind s all before (object x) xs) (kind_among s all (before ++ object x ∷ []) xs o) refl is
      (λ h. further (objects before) x (objects xs) (subst (λ bs. Found bs xs) (one-more before x) (item-of (before ++ object x ∷ []) xs h)))
  item-of before (constant x ∷ xs) is =
      skip before (constant x) xs refl (item-of (before ++ constant x ∷ []) xs
      (other-item (has_name x.name o) (item_kind s all before (constant x) xs) (kind_among s all (before ++ constant x ∷ []) xs o) item position count refl is))
  item-of before (variable x ∷ xs) is =
      skip before (variable x) xs refl (item-of (before ++ variable x ∷ []) xs
      (other-item (has_name (name_of (variable x)) o) (item_kind s all before (variable x) xs) (kind_among s all (before ++ variable x ∷ []) xs o) item position count refl is))
  item-of before (method x ∷ xs) is =
      skip before (method x) xs refl (item-of (before ++ method x ∷ []) xs
      (other-item (has_name (name_of (method x)) o) (item_kind s all before (method x) xs) (kind_among s all (before ++ method x ∷ []) xs o) item position count refl is))
  item-of before (line x ∷ xs) is =
      skip before (line x) xs refl (item-of (before ++ line x ∷ []) xs
      (other-item (has_name (name_of (line x)) o) (item_kind s all before (line x) xs) (kind_among s all (before ++ line x ∷ []) xs o) item position count refl is))
