-- The methods of a file whose names are resolved can be coded.
use Rattle.std.proofs.Common.{◌≡◌, inr, ℕ, suc, min, ◌+◌, ◌<◌, ◌^◌, Bool, true, false, if◌then◌else◌, List, [], ◌∷◌, ◌++◌, length, slice_get, Option, Some, None, ap, sym, ◌∙◌, subst, arith, lit<}
use Rattle.std.specs.Prelude.{IfSome}
use Rattle.std.specs.Map.{lookup}
use Rattle.std.specs.Str.{bytes_eq}
use Rattle.p8_tree.specs.Names.{result_word}
use Rattle.p8_tree.specs.Proper.{IsProperFile}
use Rattle.p8_tree.specs.Sources.{Declared, MethodTree, Source}
use Rattle.p8_tree.specs.declared.faults.Fault.{Fault}
use Rattle.p8_fold.specs.Meanings.{Setting}
use Rattle.p8_constants.specs.FileItems.{Item, constant, variable, object, method, line, items}
use Rattle.p8_constants.specs.Names.{name_of}
use Rattle.p8_kinds.specs.declared.children.Child.{Child}
use Rattle.p8_kinds.specs.declared.children.ChildMethod.{ChildMethod}
use Rattle.p8_kinds.specs.declared.children.Children.{Children}
use Rattle.p8_kinds.specs.declared.kinds.Kinds.{Kinds}
use Rattle.p8_kinds.specs.declared.name_kinds.Label.{Label}
use Rattle.p8_kinds.specs.declared.name_kinds.NameKind.{NameKind}
use Rattle.p8_kinds.specs.declared.name_kinds.NameKind.TheVariants as kind
use Rattle.p8_kinds.specs.Environments.{kind_in}
use Rattle.p8_kinds.specs.Kinds.{own, or_else}
use Rattle.p8_kinds.specs.Misuses.{MisuseInStatements}
use Rattle.p8_kinds.specs.Publics.{named_method, method_among, method_in}
use Rattle.p8_names.specs.Settings.{has_name, predefined_value}
use Rattle.p8_names.specs.Kinds.{numbered, own_kind, method_setting, file_kind, kind_among, kind_or, item_kind, param_kinds, result_kind, local_kinds, kind_in_method}
use Rattle.p8_names.specs.Faults.{in_method, IsMethodFault, of_name, of_method}
use Rattle.p8_names.specs.Resolution.{IsNamed}
use Rattle.p8_constants.specs.Rules.{count_in}
use Rattle.p8_gen.specs.Expressions.{method_number}
use Rattle.p8_gen.specs.Files.{kind_here, names_in}
use Rattle.p8_gen.specs.Operations.{HasBytes}
use Rattle.p8_stmt.specs.Methods.{AreResolved}
use Rattle.p8_build.proofs.Methods.{count_of_numbered, proper_method, in_methods}

-- ---- numbers have a byte

byte_or : (a b : Option NameKind) → IfSome a HasBytes → IfSome b HasBytes → IfSome (or_else a b) HasBytes
byte_or None b p q = q
byte_or (Some k) b p q = p

byte_where : (b : Bool) (x y : Option NameKind) → IfSome x HasBytes → IfSome y HasBytes → IfSome (if b then x else y) HasBytes
byte_where true x y p q = p
byte_where false x y p q = q

byte_item : (s : Setting) (all before : List Item) (x : Item) (behind : List Item) → HasBytes (item_kind s all before x behind)
byte_item s all before (constant x) behind = tt
byte_item s all before (variable x) behind = tt
byte_item s all before (object x) behind = (omega arith, omega arith)
byte_item s all before (method x) behind = (omega arith, omega arith)
byte_item s all before (line x) behind = tt

byte_among : (s : Setting) (all before xs : List Item) (n : List ℕ) → IfSome (kind_among s all before xs n) HasBytes
byte_among s all before [] n = tt
byte_among s all before (x ∷ xs) n = byte_where (has_name (name_of x) n) (Some (item_kind s all before x xs)) (kind_among s all (before ++ x ∷ []) xs n) (byte_item s all before x xs) (byte_among s all (before ++ x ∷ []) xs n)

byte_constant : (o : Option ℕ) (k : Option NameKind) → IfSome k HasBytes → IfSome (kind_or o k) HasBytes
byte_constant None k p = p
byte_constant (Some v) k p = tt

byte_of_file : (s : Setting) (xs : List Item) (n : List ℕ) → IfSome (file_kind s xs n) HasBytes
byte_of_file s xs n = byte_constant (predefined_value n) (kind_among s xs [] xs n) (byte_among s xs [] xs n)

-- a method's own names are no methods and no objects
byte_found : (n m : List ℕ) (k : NameKind) (rest : List (List ℕ × NameKind)) → HasBytes k → IfSome (lookup (bytes_eq n) rest) HasBytes → IfSome (lookup (bytes_eq n) ((m, k) ∷ rest)) HasBytes
byte_found n m k rest p q = byte_where (bytes_eq n m) (Some k) (lookup (bytes_eq n) rest) p q

byte_locals : (s : Setting) (longs : ℕ) (xs : List Declared) (n : List ℕ) → IfSome (lookup (bytes_eq n) (local_kinds s longs xs)) HasBytes
byte_locals s longs [] n = tt
byte_locals s longs (x ∷ xs) n = byte_found n x.name _ (local_kinds s (longs + count_in s x.count) xs) tt (byte_locals s (longs + count_in s x.count) xs n)

byte_result : (o : Option (List ℕ)) (rest : List (List ℕ × NameKind)) (n : List ℕ) → IfSome (lookup (bytes_eq n) rest) HasBytes → IfSome (lookup (bytes_eq n) (result_kind o ++ rest)) HasBytes
byte_result None rest n p = p
byte_result (Some m) rest n p = byte_found n m _ rest tt p

byte_params : (longs : ℕ) (ns : List (List ℕ)) (rest : List (List ℕ × NameKind)) (n : List ℕ) → IfSome (lookup (bytes_eq n) rest) HasBytes → IfSome (lookup (bytes_eq n) (param_kinds longs ns ++ rest)) HasBytes
byte_params longs [] rest n p = p
byte_params longs (m ∷ ns) rest n p = byte_found n m _ (param_kinds (longs + 1) ns ++ rest) tt (byte_params (longs + 1) ns rest n p)

byte_own : (s : Setting) (m : MethodTree) (n : List ℕ) → IfSome (own_kind s (Some m) n) HasBytes
byte_own s m n =
    let t = method_setting s m in
    byte_params 1 m.params (result_kind m.result_name ++ local_kinds t (length m.params + 1) m.locals) n
    (byte_result m.result_name (local_kinds t (length m.params + 1) m.locals) n (byte_locals t (length m.params + 1) m.locals n))

number_named : (number : ℕ) (m : ChildMethod) (n : List ℕ) (rest : Option NameKind) → number < 2 ^ 8 → method_number rest < 2 ^ 8 → method_number (or_else (named_method number m n) rest) < 2 ^ 8
number_named number m n rest l r = by (bytes_eq n m.name)
  where
    by : (b : Bool) → method_number (or_else (if b then Some (kind.Method number m.params) else None) rest) < 2 ^ 8
    by true = l
    by false = r

number_among : (number : ℕ) (ms : List ChildMethod) (n : List ℕ) → method_number (method_among number ms n) < 2 ^ 8
number_among number [] n = lit< tt
number_among number (m ∷ ms) n = number_named (min number 255) m n (method_among (suc number) ms n) (omega arith) (number_among (suc number) ms n)

number_in : (o : Option Child) (n : List ℕ) → method_number (method_in o n) < 2 ^ 8
number_in None n = lit< tt
number_in (Some child) n = number_among 1 child.methods n

-- ---- a method of the file

module _ (source : Source) (children : Children) (top : Bool) (kinds : Kinds) (named : IsNamed source children top kinds) (k : ℕ) (m : MethodTree) (at : slice_get (numbered (items source)) k ≡ Some m) where
  -- its names mean what they did when they were resolved
  kind_is : (n : List ℕ) → kind_here kinds (k + 1) n ≡ kind_in (in_method named.setting (items source) children m) n
  kind_is n =
      let number : suc k ≡ k + 1 = omega arith in
      let within = count_of_numbered (items source) k m at in
      let own_is : own kinds (k + 1) n ≡ own_kind named.setting (Some m) n =
      ap (λ j. own kinds j n) (sym number) ∙ named.each (suc k) n (omega arith) ∙ ap (λ o. own_kind named.setting o n) at in
      let whole : own kinds 0 n ≡ file_kind named.setting (items source) n = named.each 0 n (omega arith) in
      ap (λ o. if bytes_eq n result_word then Some (kind.Local 0) else or_else o (own kinds 0 n)) own_is
      ∙ ap (λ o. if bytes_eq n result_word then Some (kind.Local 0) else or_else (own_kind named.setting (Some m) n) o) whole

  byte_is : (n : List ℕ) → IfSome (kind_in (in_method named.setting (items source) children m) n) HasBytes
  byte_is n =
      byte_where (bytes_eq n result_word) (Some (kind.Local 0)) (kind_in_method named.setting (items source) m n) tt
      (byte_or (own_kind named.setting (Some m) n) (file_kind named.setting (items source) n) (byte_own named.setting m n) (byte_of_file named.setting (items source) n))

  -- nothing is wrong with the uses of its names
  no_misuse : (f : Fault) → ¬ MisuseInStatements (in_method named.setting (items source) children m) m.body f
  no_misuse f b =
      named.clean f (of_name named.setting named.right (of_method (in_methods (IsMethodFault named.setting (items source) children) (numbered (items source)) k m f at (inr b))))

  pub resolved : (labels : List Label) → IsProperFile source → AreResolved (names_in kinds children labels (k + 1) m.place) m.body
  resolved labels proper =
      let read = proper_method source k m proper at in
      record {
        proper = read.body;
        bytes = record {
          kinds = λ n. subst (λ o. IfSome o HasBytes) (sym (kind_is n)) (byte_is n);
          publics = λ item n. number_in (slice_get children.items item) n;
        };
        environment = in_method named.setting (items source) children m;
        kinds = kind_is;
        clean = no_misuse;
      }
