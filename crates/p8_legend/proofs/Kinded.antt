-- A variable and a label of the source, by the kinds of their names, among the names of their file.
use Rattle.std.proofs.Common.{◌≡◌, refl, sym, ap, ap₂, ◌∙◌, subst, ℕ, zero, suc, ◌+◌, ◌*◌, ◌≤◌, ◌==◌, min, nat_lt, Bool, true, false, if◌then◌else◌, List, [], ◌∷◌, ◌++◌, append_assoc, length, map, slice_get, Option, Some, None, arith}
use Rattle.std.specs.Prelude.{take, drop, filter}
use Rattle.std.specs.List.{flat_map}
use Rattle.std.specs.Option.{option_or}
use Rattle.std.specs.Str.{bytes_eq, str_eq_ignore_ascii_case, str_to_ascii_lowercase}
use Rattle.std.proofs.lemmas.Bool.Decides.{nat_tests}
use Rattle.std.proofs.lemmas.Grind.{flat_map-append}
use Rattle.std.proofs.lemmas.Option.{none-some, same_Some}
use Rattle.std.proofs.lemmas.Slice.Eq.{bytes_eq-Decides}
use Rattle.p8_tree.specs.declared.places.Place.{Place}
use Rattle.p8_tree.specs.Sources as trees
use Rattle.p8_tree.specs.Sources.{Declared, Line, Source}
use Rattle.p8_tree.specs.Names.{is_local}
use Rattle.p8_fold.specs.Meanings.{Setting}
use Rattle.p8_kinds.specs.declared.children.Children.{Children}
use Rattle.p8_kinds.specs.declared.kinds.Kinds.{Kinds}
use Rattle.p8_kinds.specs.declared.name_kinds.Label.{Label}
use Rattle.p8_kinds.specs.declared.name_kinds.NameKind.{NameKind}
use Rattle.p8_kinds.specs.declared.name_kinds.NameKind.TheVariants as kind
use Rattle.p8_kinds.specs.Kinds.{own, or_else, kind_of}
use Rattle.p8_constants.specs.FileItems.{Item, constant, variable, object, method, line, items}
use Rattle.p8_constants.specs.Names.{name_of, label_name}
use Rattle.p8_constants.specs.Rules.{count_in}
use Rattle.p8_names.specs.Settings.{has_name}
use Rattle.p8_names.specs.Kinds.{room, offset_in, greatest_offset, item_kind, kind_among, kind_or, methods, numbered}
use Rattle.p8_names.specs.Own.{IsLocal}
use Rattle.p8_names.specs.Resolution.{IsNamed}
use Rattle.p8_names.proofs.Counts.{same-bytes}
use Rattle.p8_names.proofs.Own.{IsOwn, own-of}
use Rattle.p8_dat.specs.declared.spots.Spot.{Spot}
use Rattle.p8_dat.specs.Spots.{begun, behind, placed}
use Rattle.p8_dat.specs.Blocks.{dat_lines}
use Rattle.p8_dat.specs.Labels.{size_of_kind, label_of, with_label_of, labels_of}
use Rattle.p8_image.specs.declared.parts.Variable.{Variable}
use Rattle.p8_image.specs.declared.parts.ObjectPart.{ObjectPart}
use Rattle.p8_image.specs.Layout.{total, variable_size, variable_offset, own_variables}
use Rattle.p8_gen.specs.Files.{first_offset}
use Rattle.p8_lexer.specs.Places.{start}
use Rattle.p8_lexer.specs.Spelling.{spelled, word_at}
use Rattle.p8_build.specs.Parts.{variable_in}
use Rattle.p8_map.specs.Names.{spelled_by, spelled_label, spelled_labels, variable_name}
use Rattle.p8_opt.specs.Programs.{kind_by}
use Rattle.p8_opt.proofs.Alike.{Alike}
use Rattle.p8_opt.proofs.Counting.{count-alike}
use Rattle.p8_opt.proofs.OwnKinds.{number_by, number-within}

-- ---- names in letters of either case

same-letters : (name : List ℕ) → str_eq_ignore_ascii_case name name ≡ true
same-letters name = (bytes_eq-Decides (str_to_ascii_lowercase name) (str_to_ascii_lowercase name)).1 refl

by-letters : (b : Bool) (text name : List ℕ) → str_eq_ignore_ascii_case text name ≡ b → str_eq_ignore_ascii_case (if b then text else name) name ≡ true
by-letters true text name is = is
by-letters false text name is = same-letters name

pub spelled-so : (text : List ℕ) (place : Place) (name : List ℕ) → str_eq_ignore_ascii_case (spelled text place name) name ≡ true
unfolding spelled
spelled-so text place name =
    let found : List ℕ = take (length name) (word_at place 0 start text) in
    by-letters (str_eq_ignore_ascii_case found name) found name refl

pub spelled-by-so : (text : List ℕ) (place : Option Place) (name : List ℕ) → str_eq_ignore_ascii_case (spelled_by text place name) name ≡ true
spelled-by-so text None name = same-letters name
spelled-by-so text (Some place) name = spelled-so text place name

-- ---- what is no local is a name of the whole file

behind-own : (a b : Option NameKind) (k : NameKind) → IsOwn a → (IsLocal k → ⊥) → or_else a b ≡ Some k → b ≡ Some k
behind-own None b k mine other is = is
behind-own (Some x) b k mine other is = absurd (other (subst IsLocal (same_Some x k is) mine))

same-twice : (a : Option NameKind) (k : NameKind) → or_else a a ≡ Some k → a ≡ Some k
same-twice None k is = is
same-twice (Some x) k is = is

module _ (source : Source) (children : Children) (top : Bool) (found : Kinds) (named : IsNamed source children top found) where
  by-number : (j : ℕ) (name : List ℕ) (k : NameKind) → (IsLocal k → ⊥) → j ≤ length (methods (items source)) → kind_of found j name ≡ Some k → own found 0 name ≡ Some k
  by-number zero name k other within is = same-twice (own found 0 name) k is
  by-number (suc i) name k other within is =
      behind-own (own found (suc i) name) (own found 0 name) k (subst IsOwn (sym (named.each (suc i) name within)) (own-of named.setting (slice_get (numbered (items source)) i) name)) other is

  pub of-whole-file : (number : ℕ) (name : List ℕ) (k : NameKind) → (IsLocal k → ⊥) → kind_by found source number name ≡ Some k → own found 0 name ≡ Some k
  of-whole-file number name k other is = by-number (number_by source number) name k other (number-within source number) is

-- ---- the item of a name

chosen-item : (b : Bool) (P : Type 0) (k g : NameKind) (rest : Option NameKind) → (if b then Some k else rest) ≡ Some g → (b ≡ true → k ≡ g → P) → (rest ≡ Some g → P) → P
chosen-item true P k g rest is here others = here refl (same_Some k g is)
chosen-item false P k g rest is here others = others is

-- a name of the language is a constant
pub no-variable : (p : Option ℕ) (k : Option NameKind) (size offset : ℕ) → kind_or p k ≡ Some (kind.Global size offset) → k ≡ Some (kind.Global size offset)
no-variable None k size offset is = is
no-variable (Some v) k size offset is = absurd (cc)

pub no-label : (p : Option ℕ) (k : Option NameKind) (size : ℕ) → kind_or p k ≡ Some (kind.Label size) → k ≡ Some (kind.Label size)
no-label None k size is = is
no-label (Some v) k size is = absurd (cc)

-- ---- the room of variables

chosen : (b : Bool) (v : Variable) (rest : List Variable) → total variable_size (if b then v ∷ rest else rest) ≡ (if b then variable_size v else 0) + total variable_size rest
chosen true v rest = refl
chosen false v rest = omega arith

take-front : {X : Type 0} (xs ys : List X) → take (length xs) (xs ++ ys) ≡ xs
take-front [] ys = refl
take-front (x ∷ xs) ys = ap (λ zs. x ∷ zs) (take-front xs ys)

at-front : {X : Type 0} (xs ys : List X) (x : X) → slice_get (xs ++ x ∷ ys) (length xs) ≡ Some x
at-front [] ys x = refl
at-front (y ∷ xs) ys x = at-front xs ys x

-- a variable of this name and size among the names of a file and the variables of its object, so far behind those before it
pub record IsVariable (text : List ℕ) (names : List (List ℕ)) (part : ObjectPart) (name : List ℕ) (size offset : ℕ) : Type 0 where
  pub v : ℕ
  pub place : Place
  pub is_name : slice_get names v ≡ Some (spelled text place name)
  pub variable : Variable
  pub is_variable : slice_get part.variables v ≡ Some variable
  pub size_is : variable.size ≡ size
  pub offset_is : offset ≡ min (variable_offset part size v) greatest_offset

module _ (s t : Setting) (alike : Alike s t) where
  abbrev made : List Item → List Variable
  made xs = flat_map (variable_in t) xs

  room-is : (fits : ℕ → Bool) (xs : List Item) → room s fits xs ≡ total variable_size (filter (λ (v : Variable). fits v.size) (made xs))
  room-is fits [] = refl
  room-is fits (variable x ∷ xs) =
      let count = ap (λ n. if fits x.size then x.size * n else 0) (count-alike s t alike x.count) in
      let one = chosen (fits x.size) (record { size = x.size; count = count_in t x.count }) (filter (λ (v : Variable). fits v.size) (made xs)) in
      let rest = room-is fits xs in
      omega (arith, count, one, rest)
  room-is fits (constant x ∷ xs) = let rest = room-is fits xs in omega (arith, rest)
  room-is fits (object x ∷ xs) = let rest = room-is fits xs in omega (arith, rest)
  room-is fits (method x ∷ xs) = let rest = room-is fits xs in omega (arith, rest)
  room-is fits (line x ∷ xs) = let rest = room-is fits xs in omega (arith, rest)

  many : (text : List ℕ) (xs : List Item) → length (flat_map (variable_name text) xs) ≡ length (made xs)
  many text [] = refl
  many text (variable x ∷ xs) = ap suc (many text xs)
  many text (constant x ∷ xs) = many text xs
  many text (object x ∷ xs) = many text xs
  many text (method x ∷ xs) = many text xs
  many text (line x ∷ xs) = many text xs

  module _ (text : List ℕ) (all : List Item) (names : List (List ℕ)) (part : ObjectPart) (names_are : names ≡ flat_map (variable_name text) all) (made_is : part.variables ≡ made all) where
    of-item : (before : List Item) (x : Declared) (rest : List Item) → all ≡ before ++ variable x ∷ rest → IsVariable text names part x.name x.size (offset_in s all before x.size)
    of-item before x rest is =
        let count = many text before in
        let named : flat_map (variable_name text) all ≡ flat_map (variable_name text) before ++ spelled text x.place x.name ∷ flat_map (variable_name text) rest =
        ap (flat_map (variable_name text)) is ∙ flat_map-append (variable_name text) before (variable x ∷ rest) in
        let parts : made all ≡ made before ++ record { size = x.size; count = count_in t x.count } ∷ made rest = ap made is ∙ flat_map-append (variable_in t) before (variable x ∷ rest) in
        let v : ℕ = length (made before) in
        let greater = room-is (nat_lt x.size) all in
        let same = room-is (λ z. z == x.size) before in
        let first : take v part.variables ≡ made before = ap (take v) (made_is ∙ parts) ∙ take-front (made before) (record { size = x.size; count = count_in t x.count } ∷ made rest) in
        let offset : variable_offset part x.size v ≡ room s (nat_lt x.size) all + room s (λ z. z == x.size) before =
        ap₂ (λ (a b : List Variable). total variable_size (filter (λ (o : Variable). nat_lt x.size o.size) a) + total variable_size (filter (λ (o : Variable). o.size == x.size) b)) made_is first ∙ ap₂ (λ (a b : ℕ). a + b) (sym greater) (sym same) in
        record {
          v = v;
          place = x.place;
          is_name = ap (λ (ns : List (List ℕ)). slice_get ns v) (names_are ∙ named) ∙ ap (slice_get (flat_map (variable_name text) before ++ spelled text x.place x.name ∷ flat_map (variable_name text) rest)) (sym count)
              ∙ at-front (flat_map (variable_name text) before) (flat_map (variable_name text) rest) (spelled text x.place x.name);
          variable = record { size = x.size; count = count_in t x.count };
          is_variable = ap (λ (vs : List Variable). slice_get vs v) (made_is ∙ parts) ∙ at-front (made before) (made rest) (record { size = x.size; count = count_in t x.count });
          size_is = refl;
          offset_is = ap (λ n. min n greatest_offset) (sym offset);
        }

    abbrev parts_of : NameKind → ℕ × ℕ
    parts_of (kind.Global size offset) = (size, offset)
    parts_of k = (0, 0)

    by-kind : (name : List ℕ) (size offset : ℕ) (before : List Item) (x : Item) (rest : List Item) → all ≡ before ++ x ∷ rest → has_name (name_of x) name ≡ true → item_kind s all before x rest ≡ kind.Global size offset → IsVariable text names part name size offset
    by-kind name size offset before (variable x) rest split named is =
        let sizes : x.size ≡ size = ap (λ k. (parts_of k).0) is in
        let offsets : offset_in s all before x.size ≡ offset = ap (λ k. (parts_of k).1) is in
        subst (λ z. IsVariable text names part name z offset) sizes
        (subst (λ o. IsVariable text names part name x.size o) offsets
        (subst (λ n. IsVariable text names part n x.size (offset_in s all before x.size)) (sym (same-bytes name x.name named)) (of-item before x rest split)))
    by-kind name size offset before (constant x) rest split named is = absurd (cc)
    by-kind name size offset before (object x) rest split named is = absurd (cc)
    by-kind name size offset before (method x) rest split named is = absurd (cc)
    by-kind name size offset before (line x) rest split named is = absurd (cc)

    pub variable-among : (name : List ℕ) (size offset : ℕ) (before xs : List Item) → all ≡ before ++ xs → kind_among s all before xs name ≡ Some (kind.Global size offset) → IsVariable text names part name size offset
    variable-among name size offset before [] split is = absurd (none-some (kind.Global size offset) is)
    variable-among name size offset before (x ∷ xs) split is =
        chosen-item (has_name (name_of x) name) (IsVariable text names part name size offset) (item_kind s all before x xs) (kind.Global size offset) (kind_among s all (before ++ x ∷ []) xs name) is
        (λ named same. by-kind name size offset before x xs split named same)
        (λ more. variable-among name size offset (before ++ x ∷ []) xs (split ∙ sym (append_assoc before (x ∷ []) xs)) more)

-- ---- an offset lies within the object's own variables

abbrev greater_size : ℕ → List Variable → ℕ
greater_size size vs = total variable_size (filter (λ (o : Variable). nat_lt size o.size) vs)

abbrev same_size : ℕ → List Variable → ℕ
same_size size vs = total variable_size (filter (λ (o : Variable). o.size == size) vs)

some-of : (b : Bool) (n : ℕ) → (if b then n else 0) ≤ n
some-of true n = omega arith
some-of false n = omega arith

one-of-two : (a b : Bool) (n : ℕ) → (a ≡ true → b ≡ true → ⊥) → (if a then n else 0) + (if b then n else 0) ≤ n
one-of-two true true n never = absurd (never refl refl)
one-of-two true false n never = omega arith
one-of-two false true n never = omega arith
one-of-two false false n never = omega arith

not-both : (size n : ℕ) → nat_lt size n ≡ true → (n == size) ≡ true → ⊥
not-both size n a b = grind (arith, nat_tests)

greater-within : (size : ℕ) (vs : List Variable) → greater_size size vs ≤ total variable_size vs
greater-within size [] = omega arith
greater-within size (x ∷ vs) =
    let one = chosen (nat_lt size x.size) x (filter (λ (o : Variable). nat_lt size o.size) vs) in
    let some = some-of (nat_lt size x.size) (variable_size x) in
    let rest = greater-within size vs in
    omega (arith, one, some, rest)

both-within : (size : ℕ) (vs : List Variable) (v : ℕ) → greater_size size vs + same_size size (take v vs) ≤ total variable_size vs
both-within size [] zero = omega arith
both-within size [] (suc v) = omega arith
both-within size (x ∷ vs) zero = let all = greater-within size (x ∷ vs) in omega (arith, all)
both-within size (x ∷ vs) (suc v) =
    let one = chosen (nat_lt size x.size) x (filter (λ (o : Variable). nat_lt size o.size) vs) in
    let other = chosen (x.size == size) x (filter (λ (o : Variable). o.size == size) (take v vs)) in
    let two = one-of-two (nat_lt size x.size) (x.size == size) (variable_size x) (not-both size x.size) in
    let rest = both-within size vs v in
    omega (arith, one, other, two, rest)

pub offset-within : (part : ObjectPart) (size v : ℕ) → variable_offset part size v ≤ own_variables part
offset-within part size v = let both = both-within size part.variables v in omega (arith, both)

-- ---- the line of a label

abbrev line_in : Item → List Line
line_in (line x) = x ∷ []
line_in x = []

lines-before : (xs : List Line) (rest : List Item) → flat_map line_in (map line xs ++ rest) ≡ xs ++ flat_map line_in rest
lines-before [] rest = refl
lines-before (x ∷ xs) rest = ap (λ ys. x ∷ ys) (lines-before xs rest)

others-before : {A : Type 0} (f : A → Item) → ((a : A) → line_in (f a) ≡ []) → (xs : List A) (rest : List Item) → flat_map line_in (map f xs ++ rest) ≡ flat_map line_in rest
others-before f none [] rest = refl
others-before f none (x ∷ xs) rest = ap (λ ys. ys ++ flat_map line_in (map f xs ++ rest)) (none x) ∙ others-before f none xs rest

lines-are : (source : Source) → flat_map line_in (items source) ≡ dat_lines source
lines-are [] = refl
lines-are (trees.Con xs ∷ bs) = others-before constant (λ a. refl) xs (items bs) ∙ lines-are bs
lines-are (trees.Var xs ∷ bs) = others-before variable (λ a. refl) xs (items bs) ∙ lines-are bs
lines-are (trees.Obj xs ∷ bs) = others-before object (λ a. refl) xs (items bs) ∙ lines-are bs
lines-are (trees.Method m ∷ bs) = lines-are bs
lines-are (trees.Dat xs ∷ bs) = lines-before xs (items bs) ∙ ap (λ ys. xs ++ ys) (lines-are bs)

-- a line has this label
record IsLabelled (xs : List Line) (name : List ℕ) : Type 0 where
  at : ℕ
  x : Line
  there : slice_get xs at ≡ Some x
  has : has_name (label_name x.label) name ≡ true

one-further : (x : Line) (xs : List Line) (name : List ℕ) → IsLabelled xs name → IsLabelled (x ∷ xs) name
one-further x xs name h = record { at = suc h.at; x = h.x; there = h.there; has = h.has }

label-among : (s : Setting) (all before xs : List Item) (name : List ℕ) (size : ℕ) → kind_among s all before xs name ≡ Some (kind.Label size) → IsLabelled (flat_map line_in xs) name
label-among s all before [] name size is = absurd (none-some (kind.Label size) is)
label-among s all before (line x ∷ xs) name size is =
    chosen-item (has_name (name_of (line x)) name) (IsLabelled (x ∷ flat_map line_in xs) name) (item_kind s all before (line x) xs) (kind.Label size) (kind_among s all (before ++ line x ∷ []) xs name) is
    (λ named same. record { at = 0; x = x; there = refl; has = named })
    (λ more. one-further x (flat_map line_in xs) name (label-among s all (before ++ line x ∷ []) xs name size more))
label-among s all before (constant x ∷ xs) name size is =
    chosen-item (has_name (name_of (constant x)) name) (IsLabelled (flat_map line_in xs) name) (item_kind s all before (constant x) xs) (kind.Label size) (kind_among s all (before ++ constant x ∷ []) xs name) is
    (λ named same. absurd (cc)) (label-among s all (before ++ constant x ∷ []) xs name size)
label-among s all before (variable x ∷ xs) name size is =
    chosen-item (has_name (name_of (variable x)) name) (IsLabelled (flat_map line_in xs) name) (item_kind s all before (variable x) xs) (kind.Label size) (kind_among s all (before ++ variable x ∷ []) xs name) is
    (λ named same. absurd (cc)) (label-among s all (before ++ variable x ∷ []) xs name size)
label-among s all before (object x ∷ xs) name size is =
    chosen-item (has_name (name_of (object x)) name) (IsLabelled (flat_map line_in xs) name) (item_kind s all before (object x) xs) (kind.Label size) (kind_among s all (before ++ object x ∷ []) xs name) is
    (λ named same. absurd (cc)) (label-among s all (before ++ object x ∷ []) xs name size)
label-among s all before (method x ∷ xs) name size is =
    chosen-item (has_name (name_of (method x)) name) (IsLabelled (flat_map line_in xs) name) (item_kind s all before (method x) xs) (kind.Label size) (kind_among s all (before ++ method x ∷ []) xs name) is
    (λ named same. absurd (cc)) (label-among s all (before ++ method x ∷ []) xs name size)

-- the first label of a name
pub record IsFirst (kinds : Kinds) (labels : List Label) (name : List ℕ) : Type 0 where
  pub k : ℕ
  pub label : Label
  pub is_label : slice_get labels k ≡ Some label
  pub name_is : label.name ≡ name
  pub size_is : label.size ≡ size_of_kind (own kinds 0 name)
  pub first : first_offset labels name ≡ Some label.offset

module _ (kinds : Kinds) (s : Setting) (name : List ℕ) where
  abbrev Has : List Label → Type 0
  Has labels = IsFirst kinds labels name

  here : (n : List ℕ) (p : Spot) (rest : List Label) → bytes_eq name n ≡ true → Has (label_of kinds n p ∷ rest)
  here n p rest has =
      let same : name ≡ n = same-bytes name n has in
      record {
        k = 0;
        label = label_of kinds n p;
        is_label = refl;
        name_is = sym same;
        size_is = ap (λ m. size_of_kind (own kinds 0 m)) (sym same);
        first = ap (λ b. option_or (if b then Some p.offset else None) (first_offset rest name)) has;
      }

  named-by : (b : Bool) (n : List ℕ) (p : Spot) (rest : List Label) → has_name (if b then None else Some n) name ≡ true → Has (if b then rest else label_of kinds n p ∷ rest)
  named-by true n p rest has = absurd (cc)
  named-by false n p rest has = here n p rest has

  named-here : (label : Option (List ℕ)) (p : Spot) (rest : List Label) → has_name (label_name label) name ≡ true → Has (with_label_of kinds label p rest)
  named-here None p rest has = absurd (cc)
  named-here (Some n) p rest has = named-by (is_local n) n p rest has

  further-by : (b : Bool) (n : List ℕ) (p : Spot) (rest : List Label) → bytes_eq name n ≡ b → Has rest → Has (label_of kinds n p ∷ rest)
  further-by true n p rest is h = here n p rest is
  further-by false n p rest is h = record {
    k = suc h.k;
    label = h.label;
    is_label = h.is_label;
    name_is = h.name_is;
    size_is = h.size_is;
    first = ap (λ b. option_or (if b then Some p.offset else None) (first_offset rest name)) is ∙ h.first;
  }

  local-by : (b : Bool) (n : List ℕ) (p : Spot) (rest : List Label) → Has rest → Has (if b then rest else label_of kinds n p ∷ rest)
  local-by true n p rest h = h
  local-by false n p rest h = further-by (bytes_eq name n) n p rest refl h

  named-further : (label : Option (List ℕ)) (p : Spot) (rest : List Label) → Has rest → Has (with_label_of kinds label p rest)
  named-further None p rest h = h
  named-further (Some n) p rest h = local-by (is_local n) n p rest h

  first-there : (xs : List Line) (p : Spot) (at : ℕ) (x : Line) → slice_get xs at ≡ Some x → has_name (label_name x.label) name ≡ true → Has (labels_of kinds (placed s xs p))
  first-there [] p at x there has = absurd (none-some x there)
  first-there (y ∷ xs) p zero x there has =
      named-here y.label (begun s y.contents p) (labels_of kinds (placed s xs (behind s y p))) (ap (λ (z : Line). has_name (label_name z.label) name) (same_Some y x there) ∙ has)
  first-there (y ∷ xs) p (suc at) x there has =
      named-further y.label (begun s y.contents p) (labels_of kinds (placed s xs (behind s y p))) (first-there xs (behind s y p) at x there has)

-- a name that is a label by its kind is that of a label of DAT
pub label-there : (kinds : Kinds) (s t : Setting) (source : Source) (p : Spot) (name : List ℕ) (size : ℕ) → kind_among s (items source) [] (items source) name ≡ Some (kind.Label size)
    → IsFirst kinds (labels_of kinds (placed t (dat_lines source) p)) name
label-there kinds s t source p name size is =
    let h = subst (λ xs. IsLabelled xs name) (lines-are source) (label-among s (items source) [] (items source) name size is) in
    first-there kinds t name (dat_lines source) p h.at h.x h.there h.has

-- and so it is as the label is spelled
pub spelled-at : (text : List ℕ) (places : List Place) (labels : List Label) (k : ℕ) (label : Label) → slice_get labels k ≡ Some label → (place : Option Place) × (slice_get (spelled_labels text places labels) k ≡ Some (spelled_label text place label))
spelled-at text places [] k label at = absurd (none-some label at)
spelled-at text places (x ∷ labels) zero label at = (slice_get places 0, ap (λ z. Some (spelled_label text (slice_get places 0) z)) (same_Some x label at))
spelled-at text places (x ∷ labels) (suc k) label at = spelled-at text (drop 1 places) labels k label at
