-- What the sentence has of a file's constants is what their sums come to.
use Rattle.std.proofs.Common.{◌≡◌, ◌∙◌, sym, ap, ap₂, refl, arith, ℕ, ◌+◌, ◌%◌, ◌^◌, Bool, true, false, List, [], ◌∷◌, ◌++◌, length, map, Option, Some, None}
use Rattle.std.specs.Prelude.{cond, if◌then◌else◌, is_some, option_map, option_and_then}
use Rattle.std.specs.List.{flat_map, zip}
use Rattle.std.specs.Map.{lookup}
use Rattle.std.specs.Option.{option_or}
use Rattle.std.specs.Str.{bytes_eq}
use Rattle.std.proofs.lemmas.List.{map-append}
use Rattle.p8_tree.specs.Expressions.{Tree}
use Rattle.p8_tree.specs.Sources.{Constant, Con, Var, Obj, Method, Dat, Source}
use Rattle.p8_fold.specs.declared.meanings.Meaning.{Meaning}
use Rattle.p8_fold.specs.declared.meanings.Meaning.TheVariants.{Value}
use Rattle.p8_fold.specs.Meanings.{Setting}
use Rattle.p8_fold.specs.Values.{value}
use Rattle.p8_constants.specs.Constants.{counted}
use Rattle.p8_constants.specs.FileItems.{Item, constant, variable, object, method, line, items}
use Rattle.p8_constants.specs.Items as old
use Rattle.p8_constants.specs.Items.{Term, Sum, step_term, zero_sum, sum_of, stepped, after, with_name, definitions_from, definitions, definition}
use Rattle.p8_kinds.specs.declared.children.Child.{Child}
use Rattle.p8_names.specs.Settings as settings
use Rattle.p8_names.specs.Settings.{outside, definition as first_definition, predefined_value, with_children, constant_of_child, meaning_of_item, meaning_outside}
use Rattle.p8_names.specs.Kinds.{objects}
use Rattle.p8_names.specs.Children.{as_list}
use Rattle.p8_prop.specs.Names.{value_or, counter_behind, named_from, constants_in, constant_behind, IsSetting}

-- the sum of expressions
abbrev pub added : Setting → List Term → ℕ
added s [] = 0
added s (e ∷ es) = (counted (value s e.tree) + added s es) % 2 ^ 32

-- what a constant is that stands for this
abbrev pub worth : Setting → Sum → Meaning
worth s sum = Value ((sum.whole + added s sum.terms) % 2 ^ 32)

-- what the names of a file mean, by sums
pub record IsSettingBySums (file : Source) (children : List Child) (s : Setting) : Type 0 where
  pub names : (n : List ℕ) → s.name n ≡ option_or ((outside file children).name n) (option_map (worth s) (definition (definitions file) n))
  pub behind : (owner n : List ℕ) → s.constant owner n ≡ (outside file children).constant owner n
  pub here : s.here ≡ (outside file children).here

-- ---- constants of objects

no-children : (xs : List Item) → with_children xs [] ≡ []
no-children [] = refl
no-children (constant x ∷ xs) = no-children xs
no-children (variable x ∷ xs) = no-children xs
no-children (object x ∷ xs) = no-children xs
no-children (method x ∷ xs) = no-children xs
no-children (line x ∷ xs) = no-children xs

objects-same : (xs : List Item) (cs : List Child) → with_children xs cs ≡ zip (map (λ x. x.name) (objects xs)) cs
objects-same [] cs = refl
objects-same (constant x ∷ xs) cs = objects-same xs cs
objects-same (variable x ∷ xs) cs = objects-same xs cs
objects-same (object x ∷ xs) [] = no-children xs
objects-same (object x ∷ xs) (c ∷ cs) = ap (λ (ds : List (List ℕ × Child)). (x.name, c) ∷ ds) (objects-same xs cs)
objects-same (method x ∷ xs) cs = objects-same xs cs
objects-same (line x ∷ xs) cs = objects-same xs cs

abbrev constant_in : List ℕ → Child → Option ℕ
constant_in n c = lookup (bytes_eq n) (map (λ x. (x.name, x.value)) c.consts)

child-same : (o : Option Child) (n : List ℕ) → constant_of_child o n ≡ option_and_then (constant_in n) o
child-same None n = refl
child-same (Some c) n = refl

constant-same : (file : Source) (children : List Child) (owner n : List ℕ)
    → settings.constant_behind (items file) children owner n ≡ constant_behind file children owner n
constant-same file children owner n =
    child-same (lookup (bytes_eq owner) (with_children (items file) children)) n
    ∙ ap (λ (ds : List (List ℕ × Child)). option_and_then (constant_in n) (lookup (bytes_eq owner) ds)) (objects-same (items file) children)

-- ---- numbers mod 2 ^ 32

turned : (a b c : ℕ) → (a + (b + c) % 2 ^ 32) % 2 ^ 32 ≡ ((a + b) % 2 ^ 32 + c) % 2 ^ 32
turned a b c = omega arith

alone : (a : ℕ) → (a + 0) % 2 ^ 32 ≡ (0 + a) % 2 ^ 32
alone a = omega arith

once : (a : ℕ) → a % 2 ^ 32 ≡ (0 + (a + 0) % 2 ^ 32) % 2 ^ 32
once a = omega arith

by-one : (c w a : ℕ) → c ≡ (w + a) % 2 ^ 32 → (c + 1) % 2 ^ 32 ≡ (w + 1 + a) % 2 ^ 32
by-one c w a e = omega (arith, e)

by-step : (c w a b p : ℕ) → c ≡ (w + a) % 2 ^ 32 → p ≡ (a + b) % 2 ^ 32 → (c + b % 2 ^ 32) % 2 ^ 32 ≡ (w + p) % 2 ^ 32
by-step c w a b p e f = omega (arith, e, f)

-- ---- sums

module _ (s : Setting) where
  abbrev total : Sum → ℕ
  total sum = (sum.whole + added s sum.terms) % 2 ^ 32

  push : (ts : List Term) (t : Term) → added s (ts ++ t ∷ []) ≡ (added s ts + counted (value s t.tree)) % 2 ^ 32
  push [] t = alone (counted (value s t.tree))
  push (u ∷ ts) t =
      ap (λ (x : ℕ). (counted (value s u.tree) + x) % 2 ^ 32) (push ts t) ∙ turned (counted (value s u.tree)) (added s ts) (counted (value s t.tree))

  item-same : (sum : Sum) (k counter : ℕ) → counter ≡ total sum → (o : Option Tree) → value_or s counter o ≡ total (sum_of sum k o)
  item-same sum k counter e None = e
  item-same sum k counter e (Some t) = once (counted (value s t))

  counter-same : (sum : Sum) (k counter : ℕ) → counter ≡ total sum → (x : Constant) → counter_behind s counter x ≡ total (after sum k x)
  counter-same sum k counter e x = go x.sets x.value x.step
    where
      go : (sets : Bool) (v step : Option Tree)
          → (if sets then value_or s counter v else if is_some v then counter else (counter + value_or s 1 step) % 2 ^ 32)
          ≡ total (if sets then sum_of sum k v else stepped sum k v step)
      go true v step = item-same sum k counter e v
      go false (Some t) step = e
      go false None None = by-one counter sum.whole (added s sum.terms) e
      go false None (Some t) =
          by-step counter sum.whole (added s sum.terms) (counted (value s t)) (added s (sum.terms ++ step_term k t ∷ [])) e (push sum.terms (step_term k t))

  abbrev totalled : List ℕ × Sum → List ℕ × ℕ
  totalled d = (d.0, total d.1)

  named-same : (xs : List Constant) (sum : Sum) (k counter : ℕ) → counter ≡ total sum → named_from s counter xs ≡ map totalled (old.named_from sum k xs)
  named-same [] sum k counter e = refl
  named-same (x ∷ xs) sum k counter e =
      with-name x.name (value_or s counter x.value) (sum_of sum k x.value) (item-same sum k counter e x.value)
      (named_from s (counter_behind s counter x) xs) (old.named_from (after sum k x) (k + 1) xs)
      (named-same xs (after sum k x) (k + 1) (counter_behind s counter x) (counter-same sum k counter e x))
    where
      with-name : (name : Option (List ℕ)) (v : ℕ) (sum : Sum) → v ≡ total sum → (ds : List (List ℕ × ℕ)) (es : List (List ℕ × Sum)) → ds ≡ map totalled es
          → map (λ n. (n, v)) (as_list name) ++ ds ≡ map totalled (old.with_name name sum es)
      with-name None v sum same ds es rest = rest
      with-name (Some n) v sum same ds es rest = λ i. (n, same i) ∷ rest i

  file-same : (bs : Source) (k : ℕ) → flat_map (constants_in s) bs ≡ map totalled (definitions_from k bs)
  file-same [] k = refl
  file-same (Con xs ∷ bs) k =
      ap₂ (λ (a : List (List ℕ × ℕ)) (b : List (List ℕ × ℕ)). a ++ b) (named-same xs zero_sum k 0 (once 0)) (file-same bs (k + length xs))
      ∙ sym (map-append totalled (old.named_from zero_sum k xs) (definitions_from (k + length xs) bs))
  file-same (Var xs ∷ bs) k = file-same bs k
  file-same (Obj xs ∷ bs) k = file-same bs k
  file-same (Method m ∷ bs) k = file-same bs k
  file-same (Dat xs ∷ bs) k = file-same bs k

  looked-up : (test : List ℕ → Bool) (ds : List (List ℕ × Sum)) → lookup test (map totalled ds) ≡ option_map total (lookup test ds)
  looked-up test [] = refl
  looked-up test (d ∷ ds) = one-more (test d.0) d.1 (lookup test (map totalled ds)) (lookup test ds) (looked-up test ds)
    where
      one-more : (b : Bool) (sum : Sum) (v : Option ℕ) (o : Option Sum) → v ≡ option_map total o
          → cond b (Some (total sum)) v ≡ option_map total (cond b (Some sum) o)
      one-more true sum v o same = refl
      one-more false sum v o same = same

  composed : (o : Option Sum) → option_map Value (option_map total o) ≡ option_map (worth s) o
  composed None = refl
  composed (Some sum) = refl

  -- a constant is worth its sum
  worth-same : (file : Source) (n : List ℕ)
      → option_map Value (lookup (bytes_eq n) (flat_map (constants_in s) file)) ≡ option_map (worth s) (definition (definitions file) n)
  worth-same file n =
      ap (λ (ds : List (List ℕ × ℕ)). option_map Value (lookup (bytes_eq n) ds)) (file-same file 0)
      ∙ ap (option_map Value) (looked-up (bytes_eq n) (definitions file)) ∙ composed (lookup (bytes_eq n) (definitions file))

  -- what else a name means
  name-same : (file : Source) (children : List Child) (n : List ℕ) (c : Option Meaning) → option_or ((outside file children).name n) c
      ≡ option_or (option_map Value (predefined_value n)) (option_or (option_and_then meaning_of_item (first_definition (items file) n)) c)
  name-same file children n c = go (predefined_value n) (first_definition (items file) n)
    where
      go : (v : Option ℕ) (x : Option Item) → option_or (meaning_outside v x) c
          ≡ option_or (option_map Value v) (option_or (option_and_then meaning_of_item x) c)
      go (Some v) x = refl
      go None None = refl
      go None (Some x) = refl

  pub setting-to : {file : Source} {children : List Child} → IsSettingBySums file children s → IsSetting file children s
  setting-to {file = file} {children = children} is = record {
    names = λ n. is.names n ∙ ap (option_or ((outside file children).name n)) (sym (worth-same file n))
        ∙ name-same file children n (option_map Value (lookup (bytes_eq n) (flat_map (constants_in s) file)));
    behind = λ owner n. is.behind owner n ∙ ap (option_map Value) (constant-same file children owner n);
    here = is.here;
  }

  pub setting-from : {file : Source} {children : List Child} → IsSetting file children s → IsSettingBySums file children s
  setting-from {file = file} {children = children} is = record {
    names = λ n. is.names n ∙ sym (name-same file children n (option_map Value (lookup (bytes_eq n) (flat_map (constants_in s) file))))
        ∙ ap (option_or ((outside file children).name n)) (worth-same file n);
    behind = λ owner n. is.behind owner n ∙ sym (ap (option_map Value) (constant-same file children owner n));
    here = is.here;
  }
