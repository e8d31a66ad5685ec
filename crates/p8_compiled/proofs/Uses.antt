-- What a name is that is used as its kind allows.
use Rattle.std.proofs.Common.{◌≡◌, refl, sym, ap, ◌∙◌, subst, arith, ℕ, ◌==◌, Bool, true, false, if◌then◌else◌, List, [], ◌∷◌, length-append, Option, Some, None}
use Rattle.std.specs.Prelude.{option_map}
use Rattle.std.specs.Str.{bytes_eq}
use Rattle.p8_tree.specs.declared.places.Place.{Place}
use Rattle.p8_tree.specs.Names.{result_word}
use Rattle.p8_tree.specs.declared.refusal.Refusal.{Refusal}
use Rattle.p8_tree.specs.declared.refusal.Refusal.TheVariants.{WrongArity}
use Rattle.p8_tree.specs.Expressions.{node, ObjConst, Variable, Named, Part, Memory, Register, Trees, no_trees, ◌▷◌}
use Rattle.p8_tree.specs.Lists.{count_of_trees, tree_list}
use Rattle.p8_tree.specs.Proper as proper
use Rattle.p8_fold.specs.declared.meanings.Meaning.TheVariants as meaning_case
use Rattle.p8_fold.specs.Meanings.{given, value_of_meaning, meaning_of}
use Rattle.p8_fold.specs.Values.{value, constant_of}
use Rattle.p8_kinds.specs.declared.name_kinds.NameKind.{NameKind}
use Rattle.p8_kinds.specs.declared.name_kinds.NameKind.TheVariants.{Const, Global, Local, Label, Method, Object}
use Rattle.p8_kinds.specs.declared.uses.Use.{Use}
use Rattle.p8_kinds.specs.declared.uses.Use.TheVariants as used
use Rattle.p8_kinds.specs.Uses.{wrong}
use Rattle.p8_kinds.specs.Environments.{kind_in}
use Rattle.p8_kinds.specs.FileSettings.{meaning_of_kind}
use Rattle.p8_kinds.specs.Misuses.{misuse, misuse_of_variable}
use Rattle.p8_meaning.specs.Programs.{setting_of, object_constant}
use Rattle.p8_gen.specs.Names.{Names}
use Rattle.p8_gen.specs.Expressions.{count_of}
use Rattle.p8_compiled.specs.Standing.{Compiled}
use Rattle.p8_compiled.specs.Agreeing.{Agrees, environment}
use Rattle.p8_compiled.proofs.Homes.{IsUsable, not-wrong}
use Rattle.p8_compiled.proofs.Truths.{equal}

-- ---- faults that there aren't

pub none-there : {X : Type 0} (o : Option X) → ((x : X) → o ≡ Some x → ⊥) → o ≡ None
none-there None no_fault = refl
none-there (Some x) no_fault = absurd (no_fault x refl)

pub none-mapped : {X Y : Type 0} (f : X → Y) (o : Option X) → option_map f o ≡ None → o ≡ None
none-mapped f None is = refl
none-mapped f (Some x) is = absurd (cc)

-- ---- lists of arguments

pub counts-same : (es : Trees) → count_of es ≡ count_of_trees es
counts-same no_trees = refl
counts-same (es ▷ e) = let n = length-append (tree_list es) (e ∷ []) in omega (arith, n, counts-same es)

abbrev arity : Option Refusal
arity = Some WrongArity

pub unless-none : (same : Bool) → (if same then None else arity) ≡ None → same ≡ true
unless-none true is = refl
unless-none false is = absurd (cc)

-- ---- kinds

-- a kind is that of a method with so many parameters
pub record IsMethodOf (kind : Option NameKind) (count : ℕ) : Type 0 where
  pub number : ℕ
  pub is : kind ≡ Some (Method number count)

pub called : (count : ℕ) (kind : Option NameKind) → wrong (used.Method count) kind ≡ None → IsMethodOf kind count
called count (Some (Method number params)) is = record { number = number; is = ap (λ p. Some (Method number p)) (equal params count (unless-none (params == count) is)) }
called count None is = absurd (cc)
called count (Some (Const v)) is = absurd (cc)
called count (Some (Global size offset)) is = absurd (cc)
called count (Some (Local offset)) is = absurd (cc)
called count (Some (Label size)) is = absurd (cc)
called count (Some (Object item position instances)) is = absurd (cc)

-- a method's name, and an object's, isn't RESULT
not-result : (result : Bool) (kind : Option NameKind) (number params : ℕ) → (if result then Some (Local 0) else kind) ≡ Some (Method number params) → kind ≡ Some (Method number params)
not-result true kind number params is = absurd (cc)
not-result false kind number params is = is

module _ (n : Names) (t : Compiled) (a : Agrees n t) where
  same-either : (b : Bool) (x y : Option NameKind) → (if b then x else (if b then x else y)) ≡ (if b then x else y)
  same-either true x y = refl
  same-either false x y = refl

  -- the kinds that are looked at are those that the code generator has
  pub same-kind : (name : List ℕ) → kind_in (environment n) name ≡ n.kind name
  same-kind name =
      ap (λ k. if bytes_eq name result_word then Some (Local 0) else k) (a.kinds name)
      ∙ same-either (bytes_eq name result_word) (Some (Local 0)) (t.file.kind t.method name)
      ∙ sym (a.kinds name)

  pub fits-use : (way : Use) (name : List ℕ) (place : Place) → misuse way (kind_in (environment n) name) place ≡ None → wrong way (n.kind name) ≡ None
  fits-use way name place is = subst (λ (k : Option NameKind). wrong way k ≡ None) (same-kind name) (none-mapped _ _ is)

  pub file-method : (name : List ℕ) (number params : ℕ) → n.kind name ≡ Some (Method number params) → t.file.kind t.method name ≡ Some (Method number params)
  file-method name number params is = not-result (bytes_eq name result_word) (t.file.kind t.method name) number params (sym (a.kinds name) ∙ is)

  -- a variable that is read, written or changed
  pub usable : (v : Variable) → proper.IsProperVariable false v → misuse_of_variable (environment n) v ≡ None → IsUsable n v
  usable (Named name i q) is none = not-wrong (n.kind name) (fits-use used.Variable name q none)
  usable (Part name size i q) is none = (not-wrong (n.kind name) (fits-use used.Variable name q none), is.1)
  usable (Memory size e i q) is none = is.0
  usable (Register address x q) is none = is.0

  -- ---- objects

  pub record IsObjectOf (name : List ℕ) (item position count : ℕ) : Type 0 where
    pub is : n.kind name ≡ Some (Object item position count)
    pub in_file : t.file.kind t.method name ≡ Some (Object item position count)
    pub no_result : bytes_eq name result_word ≡ false

  is-object-by : (name : List ℕ) (result : Bool) (kind : Option NameKind) (item position count : ℕ) → (if result then Some (Local 0) else kind) ≡ Some (Object item position count) → (kind ≡ Some (Object item position count)) × (result ≡ false)
  is-object-by name true kind item position count is = absurd (cc)
  is-object-by name false kind item position count is = (is, refl)

  pub is-object : (name : List ℕ) (item position count : ℕ) → n.kind name ≡ Some (Object item position count) → IsObjectOf name item position count
  is-object name item position count is =
      let p = is-object-by name (bytes_eq name result_word) (t.file.kind t.method name) item position count (sym (a.kinds name) ∙ is) in
      record { is = is; in_file = p.0; no_result = p.1 }

  -- ---- constants

  given-value : (o : Option ℕ) → given value_of_meaning (option_map meaning_case.Value o) ≡ o
  given-value None = refl
  given-value (Some v) = refl

  meaning-of-object : (object : List ℕ) (item position count : ℕ) → IsObjectOf object item position count → meaning_of (setting_of t.file t.method) object ≡ Some meaning_case.Object
  meaning-of-object object item position count o =
      ap (λ b. if b then Some meaning_case.Other else option_map meaning_of_kind (t.file.kind t.method object)) o.no_result
      ∙ ap (option_map meaning_of_kind) o.in_file

  pub constant-is : (object name : List ℕ) (place q : Place) (item position count : ℕ) → IsObjectOf object item position count → value n.constants (node place (ObjConst object name q)) ≡ object_constant t.file (t.file.kind t.method object) name
  constant-is object name place q item position count o =
      a.constants (node place (ObjConst object name q))
      ∙ ap (λ m. constant_of (setting_of t.file t.method) m object name) (meaning-of-object object item position count o)
      ∙ given-value (object_constant t.file (t.file.kind t.method object) name)
