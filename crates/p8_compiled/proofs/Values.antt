-- The code of expressions stands for what they are.
use Rattle.std.proofs.Common.{◌≡◌, inl, inr, refl, sym, ap, ◌∙◌, subst, arith, ℕ, ◌+◌, ◌^◌, ◌<◌, ◌≤◌, ◌==◌, ◌||◌, not, nat_le, Bool, true, false, if◌then◌else◌, List, [], ◌∷◌, Option, Some, None, IsTrue}
use Rattle.std.specs.Str.{bytes_eq}
use Rattle.std.proofs.lemmas.Slice.Eq.{bytes_eq-Decides}
use Rattle.p8_tree.specs.declared.places.Place.{Place}
use Rattle.p8_tree.specs.Names.{result_word}
use Rattle.p8_tree.specs.Expressions.{Tree, node, Form, Number, Str, Strings, Here, Var, Call, Unary, Binary, Assign, Change, Address, ObjectAddress, ObjConst, Built, Look, Variable, Named, Part, Memory, Register, Index, no_index, index, Bits, whole, bits, single, range, Trees, no_trees, ◌▷◌, Items, no_items, ◌▸◌}
use Rattle.p8_tree.specs.Lists.{count_of_trees}
use Rattle.p8_tree.specs.Proper as proper
use Rattle.p8_tree.specs.Proper.{IsProperTree, IsProperForm, IsProperVariable, IsProperIndex, AreProperBits, AreProperTrees, AreProperItems}
use Rattle.p8_tree.specs.declared.faults.Fault.{Fault}
use Rattle.p8_tree.specs.Faults.{fault}
use Rattle.p8_tree.specs.declared.refusal.Refusal.TheVariants.{WrongArity}
use Rattle.p8_words.specs.Operators.{or_zero}
use Rattle.p8_fold.specs.Values as constants
use Rattle.p8_kinds.specs.declared.name_kinds.NameKind.{NameKind}
use Rattle.p8_kinds.specs.declared.name_kinds.NameKind.TheVariants as kinds
use Rattle.p8_kinds.specs.declared.uses.Use.TheVariants as used_as
use Rattle.p8_kinds.specs.Uses.{wrong, argument_count}
use Rattle.p8_kinds.specs.Environments.{kind_in}
use Rattle.p8_kinds.specs.Misuses.{MisuseIn, BrokenInVariable, BrokenInIndex, BrokenInBits, BrokenInTrees, BrokenInItems, Rule, in_method, own_misuse, misuse, misuse_of_call, misuse_behind, misuse_of_constant, misuse_of_variable}
use Rattle.p8_meaning.specs.Programs.{setting_of}
use Rattle.p8_meaning.specs.Expressions.{goes_up, first_count}
use Rattle.p8_meaning.specs.Builtins.{new_cog}
use Rattle.p8_gen.specs.Names.{Names}
use Rattle.p8_gen.specs.Pieces.{Piece, nothing, one, ◌⨾◌, byte}
use Rattle.p8_gen.specs.Variables as variables
use Rattle.p8_gen.specs.Variables.{Operation, Push, number, effect_for, leaving, assigned, home_of, plain_op}
use Rattle.p8_gen.specs.Expressions.{value, value_of_form, operate, values, index_value, own_method, method_in, name_alone, call_of_built, built, arguments, looks, looks_down, counts_from, constant, started, starts_method, size_of, call_in, method_number, is_method, start_of_method, dropped, pasm}
use Rattle.p8_gen.proofs.Widths.{both as alike-both, bytes, value-alike, counts-alike, looks-alike}
use Rattle.p8_compiled.specs.Courses.{gives, takes_one, takes_two, WhereSo}
use Rattle.p8_compiled.specs.Standing as rows_of
use Rattle.p8_compiled.specs.Standing.{Compiled, At, ReadAt, NamesAt, IndexAt, BitsAt, ValueAt, VariableAt, ValuesAt, LooksAt, BuiltAt, BeginsAt, BeginsNameAt, PasmAt, StartAt, Alone, OneAt, TwoAt, ThreeAt, OwnCallAt, ObjectCallAt, KindAt, NameAt, Fits, ObjectOpAt, IsRegister, is_par, is_cnt, is_ina, is_outa, is_dira, HasRegister}
use Rattle.p8_compiled.specs.Agreeing.{Agrees, environment}
use Rattle.p8_compiled.proofs.Standing.{Stand, nothings, both, three, four, so, up}
use Rattle.p8_compiled.proofs.Choices.{each}
use Rattle.p8_compiled.proofs.Bytecodes.{number-stand, mark-stand, own-call-stand, object-call-stand, indexed-call-stand, start-stand, ones-stand, zero-stand, one-given-stand}
use Rattle.p8_compiled.proofs.Tests.{unary-stand, binary-stand, item-stand, both-stand, look-fails-stand}
use Rattle.p8_compiled.proofs.Effects.{is_size, all_changes}
use Rattle.p8_compiled.proofs.Homes.{op_for, found, is-named, home-of-name, IsUsable, IsVariableKind}
use Rattle.p8_compiled.proofs.Changing.{read-stand, assign-stand, change-stand, address-stand}
use Rattle.p8_compiled.proofs.TemplateBuiltins.{text-of-stand, object-address-stand, kept, IsWord, giving, silent_word, one-built, two-built, three-built, none-built, pasm-stand}
use Rattle.p8_compiled.proofs.Uses.{none-there, none-mapped, unless-none, counts-same, called, IsMethodOf, fits-use, file-method, usable, is-object, constant-is, same-kind}
use Rattle.p8_compiled.proofs.Truths.{equal, or-either, or-right}

-- ---- registers

register-read : (address : ℕ) → IsTrue (proper.is_register false address) → IsRegister false address
register-read address is = each (IsRegister false) (0x1F0 ∷ 0x1F1 ∷ 0x1F2 ∷ 0x1F4 ∷ 0x1F6 ∷ []) (is_par, (is_cnt, (is_ina, (is_outa, (is_dira, tt))))) address (is-named address is)

register-written : (address : ℕ) → IsTrue (proper.is_written_register address) → IsRegister true address
register-written address is = each (IsRegister true) (0x1F4 ∷ 0x1F6 ∷ []) (is_outa, (is_dira, tt)) address is

pub has-register : (v : Variable) → IsTrue (proper.is_written v) → HasRegister true v
has-register (Named name i q) is = tt
has-register (Part name size i q) is = tt
has-register (Memory size e i q) is = tt
has-register (Register address x q) is = register-written address is

module _ (n : Names) (t : Compiled) (base : ℕ) (a : Agrees n t) where
  abbrev pub S : Piece → ((p q : ℕ) → Type 0) → Type 0
  S piece R = Stand t.memory base t.table t.hand piece R

  -- nothing is wrong with an expression's names
  abbrev pub Clean : Tree → Type 0
  Clean e = (f : Fault) → MisuseIn (environment n) e f → ⊥

  abbrev rule : Rule
  rule = in_method (environment n)

  -- ---- names

  own-by : (name : List ℕ) (count : ℕ) (kind : Option NameKind) → n.kind name ≡ kind → IsMethodOf kind count → S (own_method kind) (OwnCallAt t (t.file.kind t.method name) count)
  own-by name count kind is m =
      let same : n.kind name ≡ Some (kinds.Method m.number count) = is ∙ m.is in
      let f = a.sound name (kinds.Method m.number count) same in
      subst (λ (k : Option NameKind). S (own_method k) (OwnCallAt t (t.file.kind t.method name) count)) (sym m.is)
      (subst (λ (k : Option NameKind). S (own_method (Some (kinds.Method m.number count))) (OwnCallAt t k count)) (sym (file-method n t a name m.number count same))
      (so (own-call-stand t.memory t.cog base t.table t.hand m.number f.0) (λ p q at. (f.2, at))))

  pub own-stand : (name : List ℕ) (count : ℕ) (place : Place) → misuse (used_as.Method count) (kind_in (environment n) name) place ≡ None → S (own_method (n.kind name)) (OwnCallAt t (t.file.kind t.method name) count)
  own-stand name count place none = own-by name count (n.kind name) refl (called count (n.kind name) (fits-use n t a (used_as.Method count) name place none))

  name-reads : (name : List ℕ) (q : Place) → IsVariableKind (n.kind name) → S (one (plain_op (home_of n name) Push)) (ReadAt t (Named name no_index q))
  name-reads name q is = read-stand n t base (Named name no_index q) (found n t a (Named name no_index q) is)

  without-parameters : (params : ℕ) → wrong used_as.Value (Some (kinds.Method 0 params)) ≡ None → params ≡ 0
  without-parameters params is = equal params 0 (unless-none (params == 0) is)

  -- a name alone, which is RESULT or a name of the file
  name-by : (name : List ℕ) (q : Place) (result : Bool) (kind : Option NameKind) → n.kind name ≡ (if result then Some (kinds.Local 0) else kind) → wrong used_as.Value (if result then Some (kinds.Local 0) else kind) ≡ None →
      S (name_alone n name (if result then Some (kinds.Local 0) else kind)) (λ x y. WhereSo result (ReadAt t (Named name no_index q) x y) (KindAt t (Named name no_index q) kind x y))
  name-by name q true kind is none = name-reads name q (subst IsVariableKind (sym is) tt)
  name-by name q false (Some (kinds.Const v)) is none = number-stand t.memory t.cog base t.table t.hand v (a.sound name (kinds.Const v) is)
  name-by name q false (Some (kinds.Method number params)) is none =
      let f = a.sound name (kinds.Method number params) is in
      let no_parameters : params ≡ 0 = without-parameters params none in
      both (mark-stand t.memory t.cog base t.table t.hand true false)
      (so (own-call-stand t.memory t.cog base t.table t.hand number f.0) (λ x y at. (subst (Fits t.file number) no_parameters f.2, at)))
  name-by name q false (Some (kinds.Global size offset)) is none = name-reads name q (subst IsVariableKind (sym is) tt)
  name-by name q false (Some (kinds.Local offset)) is none = name-reads name q (subst IsVariableKind (sym is) tt)
  name-by name q false (Some (kinds.Label size)) is none = name-reads name q (subst IsVariableKind (sym is) tt)
  name-by name q false (Some (kinds.Object item position count)) is none = absurd (cc)
  name-by name q false None is none = absurd (cc)

  name-stand : (name : List ℕ) (q : Place) → misuse used_as.Value (kind_in (environment n) name) q ≡ None → S (name_alone n name (n.kind name)) (NameAt t name (Named name no_index q))
  name-stand name q none =
      subst (λ (k : Option NameKind). S (name_alone n name k) (NameAt t name (Named name no_index q))) (sym (a.kinds name))
      (name-by name q (bytes_eq name result_word) (t.file.kind t.method name) (a.kinds name) (subst (λ (k : Option NameKind). wrong used_as.Value k ≡ None) (a.kinds name) (fits-use n t a used_as.Value name q none)))

  -- ---- objects

  call-in-stand : (i : Index) (position count number : ℕ) → position < 2 ^ 8 → 0 < count → count < 2 ^ 8 → number < 2 ^ 8 → S (call_in position count i number) (ObjectOpAt t i position count number)
  call-in-stand no_index position count number lp some lc ln = so (object-call-stand t.memory t.cog base t.table t.hand position number lp ln) (λ p q at. (some, at))
  call-in-stand (index e) position count number lp some lc ln = indexed-call-stand t.memory t.cog base t.table t.hand position count number lp lc ln

  object-by : (object : List ℕ) (i : Index) (method : List ℕ) (count : ℕ) (first second : Place) (kind : Option NameKind) → n.kind object ≡ kind → misuse_behind (environment n) kind method count first second ≡ None →
      S (method_in n kind i method) (ObjectCallAt t (t.file.kind t.method object) i method count)
  object-by object i method count first second (Some (kinds.Object item position instances)) is none =
      let f = a.sound object (kinds.Object item position instances) is in
      let m : IsMethodOf (n.public item method) count = called count (n.public item method) (none-mapped _ _ none) in
      let p = a.publics item method m.number count m.is in
      subst (λ (k : Option NameKind). S (call_in position instances i (method_number k)) (ObjectCallAt t (t.file.kind t.method object) i method count)) (sym m.is)
      (subst (λ (k : Option NameKind). S (call_in position instances i m.number) (ObjectCallAt t k i method count)) (sym (is-object n t a object item position instances is).in_file)
      (so (call-in-stand i position instances m.number f.0 f.1 f.2 p.0) (λ x y at. (m.number, p.1, at))))
  object-by object i method count first second None is none = absurd (cc)
  object-by object i method count first second (Some (kinds.Const v)) is none = absurd (cc)
  object-by object i method count first second (Some (kinds.Global size offset)) is none = absurd (cc)
  object-by object i method count first second (Some (kinds.Local offset)) is none = absurd (cc)
  object-by object i method count first second (Some (kinds.Label size)) is none = absurd (cc)
  object-by object i method count first second (Some (kinds.Method number params)) is none = absurd (cc)

  pub object-stand : (object : List ℕ) (i : Index) (method : List ℕ) (count : ℕ) (first second : Place) → misuse_of_call (environment n) (Some object) method count first second ≡ None → S (method_in n (n.kind object) i method) (ObjectCallAt t (t.file.kind t.method object) i method count)
  object-stand object i method count first second none =
      object-by object i method count first second (n.kind object) refl (subst (λ (k : Option NameKind). misuse_behind (environment n) k method count first second ≡ None) (same-kind n t a object) none)

  constant-by : (place : Place) (object name : List ℕ) (q : Place) (kind : Option NameKind) → n.kind object ≡ kind → misuse_of_constant (environment n) kind object name place q ≡ None → IsProperTree false (node place (ObjConst object name q)) →
      S (constant n (node place (ObjConst object name q))) (ValueAt t (node place (ObjConst object name q)))
  constant-by place object name q (Some (kinds.Object item position count)) is none proper_e =
      let e : Tree = node place (ObjConst object name q) in
      subst (λ (v : Option ℕ). S (constant n e) (λ x y. At t x (gives (or_zero v)) y)) (constant-is n t a object name place q item position count (is-object n t a object item position count is))
      (number-stand t.memory t.cog base t.table t.hand (or_zero (constants.value n.constants e)) (a.words e proper_e))
  constant-by place object name q None is none proper_e = absurd (cc)
  constant-by place object name q (Some (kinds.Const v)) is none proper_e = absurd (cc)
  constant-by place object name q (Some (kinds.Global size offset)) is none proper_e = absurd (cc)
  constant-by place object name q (Some (kinds.Local offset)) is none proper_e = absurd (cc)
  constant-by place object name q (Some (kinds.Label size)) is none proper_e = absurd (cc)
  constant-by place object name q (Some (kinds.Method m params)) is none proper_e = absurd (cc)

  constant-stand : (place : Place) (object name : List ℕ) (q : Place) → IsProperTree false (node place (ObjConst object name q)) → misuse_of_constant (environment n) (kind_in (environment n) object) object name place q ≡ None →
      S (constant n (node place (ObjConst object name q))) (ValueAt t (node place (ObjConst object name q)))
  constant-stand place object name q is none =
      constant-by place object name q (n.kind object) refl (subst (λ (k : Option NameKind). misuse_of_constant (environment n) k object name place q ≡ None) (same-kind n t a object) none) is

  -- ---- starts of methods

  start-by : (used : Bool) (name : List ℕ) (count : ℕ) (kind : Option NameKind) → n.kind name ≡ kind → IsMethodOf kind count → S (start_of_method (method_number kind) count ⨾ dropped used) (StartAt t used (t.file.kind t.method name) count)
  start-by used name count kind is m =
      let same : n.kind name ≡ Some (kinds.Method m.number count) = is ∙ m.is in
      let f = a.sound name (kinds.Method m.number count) same in
      subst (λ (k : Option NameKind). S (start_of_method (method_number k) count ⨾ dropped used) (StartAt t used (t.file.kind t.method name) count)) (sym m.is)
      (subst (λ (k : Option NameKind). S (start_of_method m.number count ⨾ dropped used) (StartAt t used k count)) (sym (file-method n t a name m.number count same))
      (so (kept t base used (start-stand t.memory t.cog base t.table t.hand m.number count f.0 f.1)) (λ x y k. (f.2, k))))

  start-of-stand : (used : Bool) (name : List ℕ) (count : ℕ) (place : Place) → misuse (used_as.Method count) (kind_in (environment n) name) place ≡ None → S (start_of_method (method_number (n.kind name)) count ⨾ dropped used) (StartAt t used (t.file.kind t.method name) count)
  start-of-stand used name count place none = start-by used name count (n.kind name) refl (called count (n.kind name) (fits-use n t a (used_as.Method count) name place none))

  begins-pasm : (used : Bool) {x y : Piece} {First Second : (p q : ℕ) → Type 0} → S x First → S y Second → S (x ⨾ y ⨾ pasm used) (PasmAt t used First Second)
  begins-pasm used first second = three first second (pasm-stand t base used)

  -- a name alone begins a method, or is the address of PASM
  begins-by : (used : Bool) (name : List ℕ) (result : Bool) (kind : Option NameKind) → (result ≡ true → kind ≡ None) → n.kind name ≡ (if result then Some (kinds.Local 0) else kind) → wrong used_as.Value (if result then Some (kinds.Local 0) else kind) ≡ None →
      {x y : Piece} {First Second : (p q : ℕ) → Type 0} → S x First → S y Second →
      S ((if is_method (if result then Some (kinds.Local 0) else kind) then nothing else x) ⨾ y ⨾ (if is_method (if result then Some (kinds.Local 0) else kind) then start_of_method (method_number (if result then Some (kinds.Local 0) else kind)) 0 ⨾ dropped used else pasm used))
      (BeginsNameAt t used kind First Second)
  begins-by used name true kind no_kind is none {x} {y} {First} {Second} first second =
      subst (λ (k : Option NameKind). S (x ⨾ y ⨾ pasm used) (BeginsNameAt t used k First Second)) (sym (no_kind refl)) (begins-pasm used first second)
  begins-by used name false (Some (kinds.Method number params)) no_kind is none first second =
      let f = a.sound name (kinds.Method number params) is in
      let no_parameters : params ≡ 0 = without-parameters params none in
      both second (so (kept t base used (start-stand t.memory t.cog base t.table t.hand number 0 f.0 (omega arith))) (λ x y k. (subst (Fits t.file number) no_parameters f.2, k)))
  begins-by used name false (Some (kinds.Const v)) no_kind is none first second = begins-pasm used first second
  begins-by used name false (Some (kinds.Global size offset)) no_kind is none first second = begins-pasm used first second
  begins-by used name false (Some (kinds.Local offset)) no_kind is none first second = begins-pasm used first second
  begins-by used name false (Some (kinds.Label size)) no_kind is none first second = begins-pasm used first second
  begins-by used name false (Some (kinds.Object item position count)) no_kind is none first second = absurd (cc)
  begins-by used name false None no_kind is none first second = absurd (cc)

  result-kind : (name : List ℕ) → bytes_eq name result_word ≡ true → t.file.kind t.method name ≡ None
  result-kind name is = ap (t.file.kind t.method) ((bytes_eq-Decides name result_word).0 is) ∙ a.no_result

  begins-name : (used : Bool) (name : List ℕ) (q : Place) → misuse used_as.Value (kind_in (environment n) name) q ≡ None → {x y : Piece} {First Second : (p q : ℕ) → Type 0} → S x First → S y Second →
      S ((if is_method (n.kind name) then nothing else x) ⨾ y ⨾ (if is_method (n.kind name) then start_of_method (method_number (n.kind name)) 0 ⨾ dropped used else pasm used)) (BeginsNameAt t used (t.file.kind t.method name) First Second)
  begins-name used name q none {x} {y} {First} {Second} first second =
      subst (λ (k : Option NameKind). S ((if is_method k then nothing else x) ⨾ y ⨾ (if is_method k then start_of_method (method_number k) 0 ⨾ dropped used else pasm used)) (BeginsNameAt t used (t.file.kind t.method name) First Second)) (sym (a.kinds name))
      (begins-by used name (bytes_eq name result_word) (t.file.kind t.method name) (result-kind name) (a.kinds name) (subst (λ (k : Option NameKind). wrong used_as.Value k ≡ None) (a.kinds name) (fits-use n t a used_as.Value name q none)) first second)

  -- ---- sizes and changes

  pub known-size : (v : Variable) → IsUsable n v → is_size (size_of n v) ≡ true
  known-size (Named name i q) is = or-right _ _ (home-of-name n t name a is).is_home.size
  known-size (Part name size i q) is = or-right _ _ is.1
  known-size (Memory size e i q) is = or-right _ _ is
  known-size (Register address x q) is = refl

  is-a-change : (k : ℕ) → proper.is_change k ≡ true → proper.is_one_of all_changes k ≡ true
  is-a-change k is = each (λ j. proper.is_one_of all_changes j ≡ true) (0x20 ∷ 0x28 ∷ 0x30 ∷ 0x38 ∷ 0x10 ∷ 0x18 ∷ 0x14 ∷ 0x1C ∷ []) (refl, (refl, (refl, (refl, (refl, (refl, (refl, (refl, tt)))))))) k is

  abbrev pub CleanIndex : Index → Type 0
  CleanIndex i = (f : Fault) → BrokenInIndex rule i f → ⊥

  -- ---- LOOK functions

  looks-up : (code : ℕ) → IsTrue (proper.is_look code) → not (looks_down code) ≡ goes_up code
  looks-up code is = each (λ k. not (looks_down k) ≡ goes_up k) (0x10 ∷ 0x11 ∷ 0x12 ∷ 0x13 ∷ []) (refl, (refl, (refl, (refl, tt)))) code is

  counts-stand : (code : ℕ) → S (counts_from code) (λ x y. At t x (gives (first_count code)) y)
  counts-stand code = counts-by (nat_le 0x12 code)
    where
      counts-by : (zero : Bool) → S (if zero then byte 0x35 else byte 0x36) (λ x y. At t x (gives (if zero then 0 else 1)) y)
      counts-by true = zero-stand t.memory t.cog base t.table t.hand
      counts-by false = one-given-stand t.memory t.cog base t.table t.hand

  -- ---- the words of built-ins

  abbrev pub FitsUse : (used : Bool) → Trees → ℕ → Type 0
  FitsUse true args code = IsTrue (proper.arguments_fit args code)
  FitsUse false args code = IsTrue (proper.arguments_fit_alone args code)

  behind : (used : Bool) (es : Trees) (e d : Tree) (code : ℕ) → FitsUse used (es ▷ e ▷ d) code → IsWord code used
  behind true es e d code is = giving is
  behind false es e d code is = or-either (proper.gives_value code) (proper.gives_no_value code) is (λ gives. giving gives) (λ silent. silent_word silent)

  behind-one : (used : Bool) (e : Tree) (code : ℕ) → FitsUse used (no_trees ▷ e) code → (code == 0) ≡ false → IsWord code used
  behind-one true e code is other = giving (or-either (code == 0) (proper.gives_value code) is (λ zero. absurd (let both : true ≡ false = sym zero ∙ other in cc)) (λ gives. gives))
  behind-one false e code is other = or-either (proper.gives_value code) (proper.gives_no_value code) is (λ gives. giving gives) (λ silent. silent_word silent)

  -- CONSTANT stands in expressions alone
  no-constant : (used : Bool) (e : Tree) (code : ℕ) → FitsUse used (no_trees ▷ e) code → code ≡ 0 → used ≡ true
  no-constant true e code is zero = refl
  no-constant false e code is zero = absurd (let silent : false ≡ true = subst (λ k. (proper.gives_value k || proper.gives_no_value k) ≡ true) zero is in cc)

  no-value : (k : ℕ) → proper.gives_no_value k ≡ true → (0 == argument_count k) ≡ false
  no-value k is = each (λ j. (0 == argument_count j) ≡ false) (0x18 ∷ 0x19 ∷ 0x1A ∷ 0x1B ∷ 0x1C ∷ 0x1D ∷ 0x1E ∷ 0x1F ∷ 0x21 ∷ 0x22 ∷ 0x23 ∷ []) (refl, (refl, (refl, (refl, (refl, (refl, (refl, (refl, (refl, (refl, (refl, tt))))))))))) k is

  without : (used : Bool) (code : ℕ) → FitsUse used no_trees code → (0 == argument_count code) ≡ true → (proper.is_value code || proper.gives_value code) ≡ true
  without true code is fits = is
  without false code is fits =
      or-either (proper.is_value code) _ is (λ value. ap (λ b. b || proper.gives_value code) value)
      (λ other. or-either (proper.gives_value code) (proper.gives_no_value code) other (λ gives. or-right _ _ gives) (λ silent. absurd (let both : true ≡ false = sym fits ∙ no-value code silent in cc)))

  no-zero : (m code : ℕ) → (m == argument_count code) ≡ true → (m == 1) ≡ false → (code == 0) ≡ false
  no-zero m code fits other = no-zero-by (code == 0) refl
    where
      no-zero-by : (zero : Bool) → (code == 0) ≡ zero → zero ≡ false
      no-zero-by false is = refl
      no-zero-by true is = absurd (let one : (m == 1) ≡ true = subst (λ k. (m == argument_count k) ≡ true) (equal code 0 is) fits in let both : true ≡ false = sym one ∙ other in cc)

  most-arguments : (code : ℕ) → argument_count code ≤ 3
  most-arguments code = most-by _ _ _
    where
      most-by : (x y z : Bool) → (if x then 1 else if y then 2 else if z then 3 else 0) ≤ 3
      most-by true y z = omega arith
      most-by false true z = omega arith
      most-by false false true = omega arith
      most-by false false false = omega arith

  -- ---- forms by a choice

  unary-by : (operator : ℕ) (plus : Bool) → (operator == 0xEC) ≡ plus → IsTrue (proper.is_unary operator) → {x : Piece} {R : (p q : ℕ) → Type 0} → S x R →
      S (x ⨾ (if plus then nothing else byte operator)) (λ p q. WhereSo plus (R p q) ((p1 : ℕ) × R p p1 × At t p1 (takes_one 1 (rows_of.applies_one operator)) q))
  unary-by operator true is known x = x
  unary-by operator false is known x = both x (unary-stand t.memory t.cog base t.table t.hand operator known is)

  pub arguments-fit : (code : ℕ) (args : Trees) (place : Place) → own_misuse (environment n) place (Built code args) ≡ None → (count_of_trees args == argument_count code) ≡ true
  arguments-fit code args place none = arguments-by (count_of_trees args == argument_count code) none
    where
      arguments-by : (fits : Bool) → constants.where_so (not fits) (fault WrongArity place) ≡ None → fits ≡ true
      arguments-by true is = refl
      arguments-by false is = absurd (cc)

  constant-or-call : (used : Bool) (code : ℕ) (e : Tree) (zero : Bool) → (code == 0) ≡ zero → FitsUse used (no_trees ▷ e) code → IsProperTree false e → (1 == argument_count code) ≡ true → (zero ≡ false → S (value n e) (ValueAt t e)) →
      S (if zero then constant n e else value n e ⨾ built used code) (λ p q. WhereSo zero (Alone (not used) (At t p (gives (or_zero (constants.value (setting_of t.file t.method) e))) q)) ((p1 : ℕ) × ValueAt t e p p1 × OneAt t used code p1 q))
  constant-or-call used code e true is way proper_e fits x =
      subst (λ (u : Bool). S (constant n e) (λ p q. Alone (not u) (At t p (gives (or_zero (constants.value (setting_of t.file t.method) e))) q))) (sym (no-constant used e code way (equal code 0 is)))
      (subst (λ (v : Option ℕ). S (constant n e) (λ p q. At t p (gives (or_zero v)) q)) (a.constants e) (number-stand t.memory t.cog base t.table t.hand (or_zero (constants.value n.constants e)) (a.words e proper_e)))
  constant-or-call used code e false is way proper_e fits x = both (x refl) (one-built t base used code (behind-one used e code way is) fits)

  cognew-or-call : (used : Bool) (code : ℕ) (e d : Tree) (new : Bool) → (code == 0x2C) ≡ new → IsWord code used → (2 == argument_count code) ≡ true → S (value n e) (ValueAt t e) → S (value n d) (ValueAt t d) →
      S ((if starts_method n e then arguments n e else value n e) ⨾ value n d ⨾ started n used e) (BeginsAt t used e (ValueAt t e) (ValueAt t d)) →
      S (if not new then value n e ⨾ value n d ⨾ built used code else byte 0x34 ⨾ (if starts_method n e then arguments n e else value n e) ⨾ value n d ⨾ started n used e)
      (λ p q. WhereSo new ((p1 : ℕ) × At t p (gives new_cog) p1 × BeginsAt t used e (ValueAt t e) (ValueAt t d) p1 q) ((p1 p2 : ℕ) × ValueAt t e p p1 × ValueAt t d p1 p2 × TwoAt t used code p2 q))
  cognew-or-call used code e d true is word fits first second begins = both (ones-stand t.memory t.cog base t.table t.hand) begins
  cognew-or-call used code e d false is word fits first second begins = three first second (two-built t base used code word fits is)

  coginit-or-call : (used : Bool) (code : ℕ) (e d c : Tree) (init : Bool) → (code == 0x28) ≡ init → IsWord code used → (3 == argument_count code) ≡ true → S (value n e) (ValueAt t e) → S (value n d) (ValueAt t d) → S (value n c) (ValueAt t c) →
      S ((if starts_method n d then arguments n d else value n d) ⨾ value n c ⨾ started n used d) (BeginsAt t used d (ValueAt t d) (ValueAt t c)) →
      S (if not init then value n e ⨾ value n d ⨾ value n c ⨾ built used code else value n e ⨾ (if starts_method n d then arguments n d else value n d) ⨾ value n c ⨾ started n used d)
      (λ p q. WhereSo init ((p1 : ℕ) × ValueAt t e p p1 × BeginsAt t used d (ValueAt t d) (ValueAt t c) p1 q) ((p1 p2 p3 : ℕ) × ValueAt t e p p1 × ValueAt t d p1 p2 × ValueAt t c p2 p3 × ThreeAt t used code p3 q))
  coginit-or-call used code e d c true is word fits first second third begins = both first begins
  coginit-or-call used code e d c false is word fits first second third begins = four first second third (three-built t base used code word fits is)

  -- what names a variable, and then the bytecode of its variable
  abbrev bits_value : Bits → Piece
  bits_value whole = nothing
  bits_value (bits (single e)) = value n e
  bits_value (bits (range e d)) = value n e ⨾ value n d

  abbrev pub naming : Variable → Piece
  naming (Named name i q) = index_value n i
  naming (Part name size i q) = index_value n i
  naming (Memory size e i q) = value n e ⨾ index_value n i
  naming (Register address x q) = bits_value x

  pub joined : (v : Variable) (o : Operation) {R : (p q : ℕ) → Type 0} → S (naming v) (NamesAt t v) → S (one (op_for n v o)) R → S (operate n v o) (λ p q. (p1 : ℕ) × NamesAt t v p p1 × R p1 q)
  joined (Named name no_index q) o names x = both names x
  joined (Named name (index e) q) o names x = both names x
  joined (Part name size no_index q) o names x = both names x
  joined (Part name size (index e) q) o names x = both names x
  joined (Memory size e no_index q) o names x = both names x
  joined (Memory size e (index i) q) o names x = both names x
  joined (Register address whole q) o names x = both names x
  joined (Register address (bits (single e)) q) o names x = both names x
  joined (Register address (bits (range e d)) q) o names x = both names x

  -- a variable that is read, where a name alone may be something else
  reads-of : (v : Variable) → IsProperVariable false v → misuse_of_variable (environment n) v ≡ None → S (one (op_for n v Push)) (ReadAt t v)
  reads-of v is none = read-stand n t base v (found n t a v (usable n t a v is none))

  read-by : (place : Place) (v : Variable) → IsProperVariable false v → own_misuse (environment n) place (Var v) ≡ None → S (naming v) (NamesAt t v) → S (value_of_form n place (Var v)) (VariableAt t v)
  read-by place (Named name no_index q) is none x = name-stand name q none
  read-by place (Named name (index e) q) is none x = both x (reads-of (Named name (index e) q) is none)
  read-by place (Part name size i q) is none x = joined (Part name size i q) Push x (reads-of (Part name size i q) is none)
  read-by place (Memory size e i q) is none x = so (joined (Memory size e i q) Push x (reads-of (Memory size e i q) is none)) (λ p q r. (r.1.0, r.0, r.1.1, r.1.2, r.2))
  read-by place (Register address bs q) is none x = so (joined (Register address bs q) Push x (reads-of (Register address bs q) is none)) (λ p q r. (r.0, r.1, register-read address is.0, r.2))

  -- ---- the induction

  pub own-none : (p : Place) (form : Form) → Clean (node p form) → own_misuse (environment n) p form ≡ None
  own-none p form clean = none-there _ (λ f is. clean f (inl is))

  abbrev CleanBits : Bits → Type 0
  CleanBits x = (f : Fault) → BrokenInBits rule x f → ⊥

  abbrev pub CleanVariable : Variable → Type 0
  CleanVariable v = (f : Fault) → BrokenInVariable rule v f → ⊥

  abbrev pub CleanTrees : Trees → Type 0
  CleanTrees es = (f : Fault) → BrokenInTrees rule es f → ⊥

  abbrev pub CleanItems : Items → Type 0
  CleanItems xs = (f : Fault) → BrokenInItems rule xs f → ⊥

  mutual
    pub value-stand : (e : Tree) → IsProperTree false e → Clean e → S (value n e) (ValueAt t e)
    value-stand (node place form) is clean = form-stand place form is clean

    form-stand : (place : Place) (form : Form) → IsProperForm false form → Clean (node place form) → S (value_of_form n place form) (ValueAt t (node place form))
    form-stand place (Number v) is clean = number-stand t.memory t.cog base t.table t.hand v is
    form-stand place (Str letters) is clean =
        subst (λ (offset : ℕ). S (value_of_form n place (Str letters)) (λ p q. At t p (rows_of.gives_text offset) q)) (a.texts place) (text-of-stand t base place (n.text place) (a.near_texts place))
    form-stand place (Strings es) is clean =
        subst (λ (offset : ℕ). S (value_of_form n place (Strings es)) (λ p q. At t p (rows_of.gives_text offset) q)) (a.texts place) (text-of-stand t base place (n.text place) (a.near_texts place))
    form-stand place Here is clean = absurd (let never : false ≡ true = is in cc)
    form-stand place (Var v) is clean =
        read-by place v is (own-none place (Var v) clean) (names-stand v is (λ f b. clean f (inr b)))
    form-stand place (Call trap None no_index method q args) is clean =
        three (mark-stand t.memory t.cog base t.table t.hand true trap) (values-stand args is.3 (λ f b. clean f (inr (inr b))))
        (own-stand method (count_of_trees args) q (own-none place (Call trap None no_index method q args) clean))
    form-stand place (Call trap None (index e) method q args) is clean = absurd (let never : false ≡ true = is.1.0 in cc)
    form-stand place (Call trap (Some object) i method q args) is clean =
        four (mark-stand t.memory t.cog base t.table t.hand true trap) (values-stand args is.3 (λ f b. clean f (inr (inr b)))) (index-stand i is.2 (λ f b. clean f (inr (inl b))))
        (object-stand object i method (count_of_trees args) place q (own-none place (Call trap (Some object) i method q args) clean))
    form-stand place (Unary operator e) is clean = unary-by operator (operator == 0xEC) refl is.0 (value-stand e is.1 (λ f b. clean f (inr b)))
    form-stand place (Binary operator x y) is clean =
        three (value-stand x is.1 (λ f b. clean f (inr (inl b)))) (value-stand y is.2 (λ f b. clean f (inr (inr b)))) (binary-stand t.memory t.cog base t.table t.hand operator is.0)
    form-stand place (Assign v operator e) is clean =
        so (both (value-stand e is.3 (λ f b. clean f (inr (inr b))))
        (joined v (assigned true operator) (names-stand v is.2 (λ f b. clean f (inr (inl b)))) (assign-stand n t base v (found n t a v (usable n t a v is.2 (own-none place (Assign v operator e) clean))) true operator is.0)))
        (λ x y r. (r.0, r.2.0, r.1, r.2.1, has-register v is.1, r.2.2))
    form-stand place (Change v change) is clean =
        let u : IsUsable n v = usable n t a v is.2 (own-none place (Change v change) clean) in
        so (joined v (variables.Using (leaving true (effect_for (size_of n v) change))) (names-stand v is.2 (λ f b. clean f (inr b)))
        (change-stand n t base v (found n t a v u) true (size_of n v) change (known-size v u) (is-a-change change is.0)))
        (λ x y r. (r.0, r.1, has-register v is.1, r.2))
    form-stand place (Address v) is clean =
        joined v variables.Reference (names-stand v is.1 (λ f b. clean f (inr b))) (address-stand n t base v (found n t a v (usable n t a v is.1 (own-none place (Address v) clean))) is.0)
    form-stand place (ObjectAddress e) is clean = both (value-stand e is (λ f b. clean f (inr b))) (object-address-stand t base)
    form-stand place (ObjConst object name q) is clean = constant-stand place object name q is (own-none place (ObjConst object name q) clean)
    form-stand place (Built code args) is clean =
        built-stand true code args is.0 is.1 (arguments-fit code args place (own-none place (Built code args) clean)) (λ other f b. clean f (inr (inr (ap not other, b))))
    form-stand place (Look code e xs) is clean =
        up (λ end p q. (p1 p2 p3 : ℕ) × ValueAt t e p p1 × At t p1 (gives (first_count code)) p2 × LooksAt t (goes_up code) xs end p2 p3 × At t p3 (takes_two 1 rows_of.look_fails) q)
        (λ x y. alike-both (alike-both (alike-both (value-alike n n.text n.statement e) (counts-alike code)) (looks-alike n n.text n.statement (looks_down code) x y xs)) (bytes 0x0F))
        (λ end. four (value-stand e is.2 (λ f b. clean f (inr (inl b)))) (counts-stand code)
        (so (looks-stand (looks_down code) xs is.3 (λ f b. clean f (inr (inr b))) end) (λ p q looks. subst (λ (upward : Bool). LooksAt t upward xs (base + end) p q) (looks-up code is.0) looks))
        (look-fails-stand t.memory t.cog base t.table t.hand))

    pub names-stand : (v : Variable) → IsProperVariable false v → CleanVariable v → S (naming v) (NamesAt t v)
    names-stand (Named name i q) is clean = index-stand i is.1 clean
    names-stand (Part name size i q) is clean = index-stand i is.2 clean
    names-stand (Memory size e i q) is clean = both (value-stand e is.1 (λ f b. clean f (inl b))) (index-stand i is.2 (λ f b. clean f (inr b)))
    names-stand (Register address x q) is clean = bits-stand x is.2 clean

    bits-stand : (x : Bits) → AreProperBits false x → CleanBits x → S (bits_value x) (BitsAt t x)
    bits-stand whole is clean = nothings
    bits-stand (bits (single e)) is clean = value-stand e is clean
    bits-stand (bits (range e d)) is clean = both (value-stand e is.0 (λ f b. clean f (inl b))) (value-stand d is.1 (λ f b. clean f (inr b)))

    pub values-stand : (es : Trees) → AreProperTrees false es → CleanTrees es → S (values n es) (ValuesAt t es)
    values-stand no_trees is clean = nothings
    values-stand (es ▷ e) is clean = both (values-stand es is.0 (λ f b. clean f (inl b))) (value-stand e is.1 (λ f b. clean f (inr b)))

    pub index-stand : (i : Index) → IsProperIndex false i → CleanIndex i → S (index_value n i) (IndexAt t i)
    index-stand no_index is clean = nothings
    index-stand (index e) is clean = value-stand e is clean

    looks-stand : (down : Bool) (xs : Items) → AreProperItems false xs → CleanItems xs → (end : ℕ) → S (looks n down end xs) (LooksAt t (not down) xs (base + end))
    looks-stand down no_items is clean end = nothings
    looks-stand down (xs ▸ single e) is clean end =
        so (three (looks-stand down xs is.0 (λ f b. clean f (inl b)) end) (value-stand e is.1 (λ f b. clean f (inr b))) (item-stand t.memory t.cog base t.table t.hand down n.wide n.statement end))
        (λ p q r. (r.0, r.2, (r.1, r.3, r.4)))
    looks-stand down (xs ▸ range e d) is clean end =
        so (four (looks-stand down xs is.0 (λ f b. clean f (inl b)) end) (value-stand e is.1.0 (λ f b. clean f (inr (inl b)))) (value-stand d is.1.1 (λ f b. clean f (inr (inr b)))) (both-stand t.memory t.cog base t.table t.hand down n.wide n.statement end))
        (λ p q r. (r.0, r.3, (r.1, r.2, r.4, r.5, r.6)))

    pub built-stand : (used : Bool) (code : ℕ) (args : Trees) → FitsUse used args code → AreProperTrees false args → (count_of_trees args == argument_count code) ≡ true → ((code == 0) ≡ false → CleanTrees args) → S (call_of_built n used code args) (BuiltAt t used code args)
    built-stand used code no_trees way is fits clean = none-built t base used code (without used code way fits) fits
    built-stand used code (no_trees ▷ e) way is fits clean = constant-or-call used code e (code == 0) refl way is.1 fits (λ other. value-stand e is.1 (λ f b. clean other f (inr b)))
    built-stand used code (no_trees ▷ e ▷ d) way is fits clean =
        let other : (code == 0) ≡ false = no-zero 2 code fits refl in
        let second = value-stand d is.1 (λ f b. clean other f (inr b)) in
        let clean_e : Clean e = λ f b. clean other f (inl (inr b)) in
        let first = value-stand e is.0.1 clean_e in
        cognew-or-call used code e d (code == 0x2C) refl (behind used no_trees e d code way) fits first second (begin-stand used e is.0.1 clean_e first d second)
    built-stand used code (no_trees ▷ e ▷ d ▷ c) way is fits clean =
        let other : (code == 0) ≡ false = no-zero 3 code fits refl in
        let first = value-stand e is.0.0.1 (λ f b. clean other f (inl (inl (inr b)))) in
        let clean_d : Clean d = λ f b. clean other f (inl (inr b)) in
        let second = value-stand d is.0.1 clean_d in
        let third = value-stand c is.1 (λ f b. clean other f (inr b)) in
        coginit-or-call used code e d c (code == 0x28) refl (behind used (no_trees ▷ e) d c code way) fits first second third (begin-stand used d is.0.1 clean_d second c third)
    built-stand used code (es ▷ b ▷ e ▷ d ▷ c) way is fits clean =
        let many : count_of_trees (es ▷ b ▷ e ▷ d ▷ c) ≡ argument_count code = equal _ _ fits in
        absurd (omega (arith, many, counts-same (es ▷ b ▷ e ▷ d ▷ c), most-arguments code))

    -- what a cog begins with
    begin-stand : (used : Bool) (m : Tree) → IsProperTree false m → Clean m → S (value n m) (ValueAt t m) → (d : Tree) → S (value n d) (ValueAt t d) → S ((if starts_method n m then arguments n m else value n m) ⨾ value n d ⨾ started n used m) (BeginsAt t used m (ValueAt t m) (ValueAt t d))
    begin-stand used (node p (Call false None i method q args)) is clean first d second =
        three (values-stand args is.3 (λ f broken. clean f (inr (inr broken)))) second
        (subst (λ (count : ℕ). S (start_of_method (method_number (n.kind method)) count ⨾ dropped used) (StartAt t used (t.file.kind t.method method) (count_of_trees args))) (sym (counts-same args))
        (start-of-stand used method (count_of_trees args) q (own-none p (Call false None i method q args) clean)))
    begin-stand used (node p (Var (Named name no_index q))) is clean first d second = begins-name used name q (own-none p (Var (Named name no_index q)) clean) first second
    begin-stand used _ is clean first d second = begins-pasm used first second
