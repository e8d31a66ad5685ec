-- Each form of a method whose code stands in a memory starts methods of the project alone.
use Rattle.std.proofs.Common.{◌≡◌, refl, sym, ap, subst, ◌∙◌, arith, ℕ, ◌+◌, ◌*◌, ◌%◌, ◌^◌, ◌<◌, ◌==◌, Bool, true, false, if◌then◌else◌, nat_lt, ltb-true, List, [], ◌∷◌, ◌++◌, length, Option, Some, None}
use Rattle.std.specs.Prelude.{slice_get}
use Rattle.std.specs.Str.{bytes_eq}
use Rattle.std.proofs.Math.ListN.{length-append}
use Rattle.p8_access.specs.declared.kinds.Origin.TheVariants.{Spin}
use Rattle.p8_access.specs.declared.kinds.Reason.TheVariants as Why
use Rattle.p8_access.specs.declared.kinds.Access.TheVariants as asked
use Rattle.p8_tree.specs.Names.{result_word}
use Rattle.p8_tree.specs.Expressions.{Tree, node, Number, Str, Strings, Here, Var, Call, Unary, Binary, Assign, Change, Address, ObjectAddress, ObjConst, Built, Look, Variable, Named, Part, Memory, Register, Index, no_index, index, Bits, whole, bits, Item, single, range, Trees, no_trees, ◌▷◌, Items, no_items, ◌▸◌}
use Rattle.p8_tree.specs.Lists.{count_of_trees, tree_list}
use Rattle.p8_tree.specs.declared.places.Place.{Place}
use Rattle.p8_tree.specs.Sources.{MethodTree}
use Rattle.p8_tree.specs.Statements.{Course as Loop, Forever, Count, Before, After, From, Statement, statement, Action, Do, If, Case, Repeat, Next, Quit, Return, Abort, arm, Otherwise, nothing_else, otherwise, Statements, no_statements, ◌▹◌, Arms, no_arms, ◌⊳◌}
use Rattle.p8_kinds.specs.declared.name_kinds.NameKind.{NameKind}
use Rattle.p8_kinds.specs.declared.name_kinds.NameKind.TheVariants as kind_case
use Rattle.p8_meaning.specs.Values.{difference, is_between, holds, stepped}
use Rattle.p8_meaning.specs.Programs.{Program, Addresses, File, Target, Scope, own_target, object_target, target_of, method_named, methods_in, instance_at, locals_size, setting_of}
use Rattle.p8_meaning.specs.Doing.{Rest, Gives}
use Rattle.p8_meaning.specs.Variables.{Location, element, named, part}
use Rattle.p8_meaning.specs.Builtins.{new_cog, cog_named, long_address}
use Rattle.p8_meaning.specs.Calls.{Returned, Value, Result, Callee, calls, starts_method, method_of}
use Rattle.p8_meaning.specs.Expressions as expressions
use Rattle.p8_meaning.specs.Statements as statements
use Rattle.p8_meaning.specs.Statements.{Body}
use Rattle.p8_meaning.specs.Lives.{IsInstance, inner_instance, scope_with}
use Rattle.p8_compiled.specs.Courses.{WhereSo}
use Rattle.p8_compiled.specs.Standing as standing
use Rattle.p8_compiled.specs.Bodies as bodies
use Rattle.p8_compiled.specs.Bodies.{Inner, plain, with_count}
use Rattle.p8_compiled.specs.Keeps.{compiled}
use Rattle.p8_compiled.specs.Told.{FramesFit}
use Rattle.p8_compiled.proofs.Starts.{StaysInProject}
use Rattle.p8_compiled.proofs.Sources as sources
use Rattle.p8_compiled.proofs.Sources.{named-number, long-frame, size-is}

-- one of two facts
where-either : (so : Bool) {A B X : Type 0} → WhereSo so A B → (A → X) → (B → X) → X
where-either true h x y = x h
where-either false h x y = y h

module _ (program : Program) (addresses : Addresses) where
  abbrev H : Rest → Type 0
  H r = sources.Holds program addresses r

  abbrev L : {A : Type 0} → (A → Rest) → Type 0
  L k = (x : _) → sources.Holds program addresses (k x)

  -- what gives a value
  pub record GivesHolds {A : Type 0} (x : Gives A) : Type 0 where
    pub by : {k : A → Rest} → L k → H (x k)

  -- a called method
  pub record CalleeHolds (callee : Callee) : Type 0 where
    pub by : (target : Target) → IsInstance program addresses target.instance → (arguments : List ℕ) (frame active : ℕ) → {r p : Returned → Rest} → L r → L p → H (callee target arguments frame active r p)

  -- a body
  pub record BodyHolds (body : Body) : Type 0 where
    pub by : {n q r : Rest} → H n → H q → H r → H (body n q r)

  -- a test by which one of two expressions stands
  where-holds : (so : Bool) {A B : Type 0} {r t : Rest} → WhereSo so A B → (A → H r) → (B → H t) → H (if so then r else t)
  where-holds true h x y = x h
  where-holds false h x y = y h

  if-leads : (x : Bool) {r p : Returned → Rest} → L r → L p → L (if x then r else p)
  if-leads true g h = g
  if-leads false g h = h

  -- ---- a method at work

  module _ (memory : List ℕ) (cog : ℕ) (fits : FramesFit program) (callee : Callee) (callee_holds : CalleeHolds callee) (par : ℕ) (target : Target) (is_instance : IsInstance program addresses target.instance) (file : File) (is_file : slice_get program target.instance.file ≡ Some file) (tree : MethodTree) (frame active : ℕ) (abort : Returned → Rest) (abort_holds : L abort) (table : List (ℕ × Place)) (hand : Place) where
    abbrev s : Scope
    s = scope_with program addresses par target file tree frame active

    abbrev t : standing.Compiled
    t = compiled memory cog program addresses table target file hand

    abbrev kind : List ℕ → Option NameKind
    kind name = file.kind target.method name

    -- ---- methods that are called

    abbrev IsGoodTarget : Option Target → Type 0
    IsGoodTarget None = Unit {0}
    IsGoodTarget (Some called) = IsInstance program addresses called.instance

    own-good : (k : Option NameKind) → IsGoodTarget (own_target s k)
    own-good (Some (kind_case.Method number params)) = is_instance
    own-good (Some (kind_case.Const value)) = tt
    own-good (Some (kind_case.Global size offset)) = tt
    own-good (Some (kind_case.Local offset)) = tt
    own-good (Some (kind_case.Label size)) = tt
    own-good (Some (kind_case.Object item position count)) = tt
    own-good None = tt

    object-good : (name : List ℕ) (item position count chosen : ℕ) → kind name ≡ Some (kind_case.Object item position count) → chosen < count → (child number : Option ℕ) → slice_get file.child_files item ≡ child →
        IsGoodTarget (target_of child number (λ file number. record { instance = instance_at addresses target.instance file (position + chosen); method = number }))
    object-good name item position count chosen is lt (Some child) (Some number) is_child = inner_instance chosen is_instance is_file is lt is_child
    object-good name item position count chosen is lt (Some child) None is_child = tt
    object-good name item position count chosen is lt None number is_child = tt

    calls-holds : (trap : Bool) (called : Option Target) → IsGoodTarget called → (arguments : List ℕ) {r : Returned → Rest} → L r → H (calls callee s trap called arguments r abort)
    calls-holds trap None good arguments g = sources.untold-holds program addresses
    calls-holds trap (Some called) good arguments g =
        sources.if-holds program addresses (nat_lt active 128)
        (sources.costs-holds program addresses (callee_holds.by called good arguments s.frame_end (active + 1) g (if-leads trap g abort_holds)))
        (sources.halts-holds program addresses Why.Deep)

    calls_own-holds : (trap : Bool) (k : Option NameKind) (arguments : List ℕ) {r : Returned → Rest} → L r → H (expressions.calls_own callee s abort trap k arguments r)
    calls_own-holds trap k arguments g = calls-holds trap (own_target s k) (own-good k) arguments g

    calls_of_object-holds : (trap : Bool) (name : List ℕ) (k : Option NameKind) → kind name ≡ k → (chosen : ℕ) (method : List ℕ) (arguments : List ℕ) {r : Returned → Rest} → L r → H (expressions.calls_of_object callee s abort trap k chosen method arguments r)
    calls_of_object-holds trap name (Some (kind_case.Object item position count)) is chosen method arguments g =
        sources.known-holds program addresses (nat_lt chosen count)
        (λ lt. calls-holds trap (object_target s item (position + chosen) method)
        (object-good name item position count chosen is (ltb-true chosen count lt) (slice_get file.child_files item) (method_named method (methods_in (slice_get file.children item)) 1) refl) arguments g)
        (sources.halts-holds program addresses Why.Table)
    calls_of_object-holds trap name (Some (kind_case.Const value)) is chosen method arguments g = sources.untold-holds program addresses
    calls_of_object-holds trap name (Some (kind_case.Global size offset)) is chosen method arguments g = sources.untold-holds program addresses
    calls_of_object-holds trap name (Some (kind_case.Local offset)) is chosen method arguments g = sources.untold-holds program addresses
    calls_of_object-holds trap name (Some (kind_case.Label size)) is chosen method arguments g = sources.untold-holds program addresses
    calls_of_object-holds trap name (Some (kind_case.Method n params)) is chosen method arguments g = sources.untold-holds program addresses
    calls_of_object-holds trap name None is chosen method arguments g = sources.untold-holds program addresses

    -- a name alone
    value_of_kind-holds : (name : List ℕ) (k : Option NameKind) {g : ℕ → Rest} → L g → H (expressions.value_of_kind callee s abort name k g)
    value_of_kind-holds name (Some (kind_case.Const value)) g = g value
    value_of_kind-holds name (Some (kind_case.Method n params)) g =
        record { by = λ b own. (calls_own-holds false (Some (kind_case.Method n params)) [] (λ x. sources.uses-holds program addresses x (λ value. sources.for_statement-holds program addresses own.statement (g value)))).by b own }
    value_of_kind-holds name (Some (kind_case.Global size offset)) g = sources.fetches-holds program addresses s (named s name 0) g
    value_of_kind-holds name (Some (kind_case.Local offset)) g = sources.fetches-holds program addresses s (named s name 0) g
    value_of_kind-holds name (Some (kind_case.Label size)) g = sources.fetches-holds program addresses s (named s name 0) g
    value_of_kind-holds name (Some (kind_case.Object item position count)) g = sources.fetches-holds program addresses s (named s name 0) g
    value_of_kind-holds name None g = sources.fetches-holds program addresses s (named s name 0) g

    value_of_name-holds : (name : List ℕ) {g : ℕ → Rest} → L g → H (expressions.value_of_name callee s abort name g)
    value_of_name-holds name g = sources.if-holds program addresses (bytes_eq name result_word) (sources.fetches-holds program addresses s (named s name 0) g) (value_of_kind-holds name (kind name) g)

    -- ---- methods that are begun in a cog

    started : (id number : ℕ) (m : MethodTree) → method_of file number ≡ Some m → (arguments : List ℕ) → length arguments ≡ length m.params → (stack : ℕ) →
        StaysInProject program addresses (asked.CogInit (cog_named id) (Spin ((target.instance.base + addresses.code target.instance.file number) % 2 ^ 16) target.instance.base target.instance.variables (long_address stack) ((4 * length arguments + locals_size (setting_of file 0) m.locals) % 2 ^ 16)))
    started id number m is_method arguments arity stack = (
      named-number id (nat_lt id 8) refl,
      record {
        target = record { instance = target.instance; method = number };
        frame = long_address stack;
        is_method = record {
          file = file;
          tree = m;
          is_instance = is_instance;
          is_file = is_file;
          is_method = is_method;
          is_frame = long-frame stack;
          is_origin = ap (Spin ((target.instance.base + addresses.code target.instance.file number) % 2 ^ 16) target.instance.base target.instance.variables (long_address stack))
              (size-is (length arguments) (length m.params) (locals_size (setting_of file 0) m.locals) arity (fits target.instance.file file is_file number m is_method));
        };
      },
    )

    starts_method-holds : (id : ℕ) (used : Bool) (k : Option NameKind) (count p q : ℕ) → standing.StartAt t used k count p q → (arguments : List ℕ) → length arguments ≡ count → (stack : ℕ) {g : ℕ → Rest} → L g → H (starts_method s id (own_target s k) arguments stack g)
    starts_method-holds id used (Some (kind_case.Method number params)) count p q h arguments arity stack g =
        sources.given-holds program addresses (method_of file number) (λ m is.
        sources.writes_longs-holds program addresses arguments _
        (sources.asks-holds program addresses _ (started id number m is arguments (arity ∙ h.0.2 ∙ ap (λ (x : MethodTree). length x.params) (same-method (sym h.0.1 ∙ is))) stack) g))
      where
        same-method : {m n : MethodTree} → Some m ≡ Some n → m ≡ n
        same-method e = cc
    starts_method-holds id used (Some (kind_case.Const value)) count p q h arguments arity stack g = absurd h
    starts_method-holds id used (Some (kind_case.Global size offset)) count p q h arguments arity stack g = absurd h
    starts_method-holds id used (Some (kind_case.Local offset)) count p q h arguments arity stack g = absurd h
    starts_method-holds id used (Some (kind_case.Label size)) count p q h arguments arity stack g = absurd h
    starts_method-holds id used (Some (kind_case.Object item position n)) count p q h arguments arity stack g = absurd h
    starts_method-holds id used None count p q h arguments arity stack g = absurd h

    begins_pasm-holds : (id : ℕ) {x y : Gives ℕ} → GivesHolds x → GivesHolds y → {g : ℕ → Rest} → L g → H (expressions.begins_pasm callee s abort id x y g)
    begins_pasm-holds id first second g = first.by (λ code. second.by (λ par. sources.asks-holds program addresses (asked.CogInit (cog_named id) _) (named-number id (nat_lt id 8) refl, tt) g))

    -- an expression, wherever its code stands
    abbrev IsEvaluated : Tree → Type 0
    IsEvaluated e = (p q : ℕ) → standing.ValueAt t e p q → GivesHolds (expressions.evaluates callee s abort e)

    -- by the two arguments
    module _ (used : Bool) (one two : Tree) (first : IsEvaluated one) (second : IsEvaluated two) where
      abbrev x : Gives ℕ
      x = expressions.evaluates callee s abort one

      abbrev y : Gives ℕ
      y = expressions.evaluates callee s abort two

      pasm-holds : (id p q : ℕ) → standing.PasmAt t used (standing.ValueAt t one) (standing.ValueAt t two) p q → {g : ℕ → Rest} → L g → H (expressions.begins_pasm callee s abort id x y g)
      pasm-holds id p q h g = begins_pasm-holds id (first p h.0 h.2) (second h.0 h.1 h.3) g

      begins_name-holds : (id : ℕ) (name : List ℕ) (k : Option NameKind) → kind name ≡ k → (p q : ℕ) → standing.BeginsNameAt t used k (standing.ValueAt t one) (standing.ValueAt t two) p q → {g : ℕ → Rest} → L g → H (expressions.begins_name callee s abort id name k x y g)
      begins_name-holds id name (Some (kind_case.Method n params)) is p q h g =
          (second p h.0 h.1).by (λ stack. starts_method-holds id used (kind name) 0 h.0 q (subst (λ (k : Option NameKind). standing.StartAt t used k 0 h.0 q) (sym is) h.2) [] refl stack g)
      begins_name-holds id name (Some (kind_case.Const value)) is p q h g = pasm-holds id p q h g
      begins_name-holds id name (Some (kind_case.Global size offset)) is p q h g = pasm-holds id p q h g
      begins_name-holds id name (Some (kind_case.Local offset)) is p q h g = pasm-holds id p q h g
      begins_name-holds id name (Some (kind_case.Label size)) is p q h g = pasm-holds id p q h g
      begins_name-holds id name (Some (kind_case.Object item position count)) is p q h g = pasm-holds id p q h g
      begins_name-holds id name None is p q h g = pasm-holds id p q h g

    -- ---- expressions

    mutual
      pub evaluates-holds : (e : Tree) (p q : ℕ) → standing.ValueAt t e p q → {g : ℕ → Rest} → L g → H (expressions.evaluates callee s abort e g)
      evaluates-holds (node place (Number n)) p q h g = g n
      evaluates-holds (node place (Str text)) p q h g = g _
      evaluates-holds (node place (Strings es)) p q h g = g _
      evaluates-holds (node place Here) p q h g = absurd h
      evaluates-holds (node place (Var v)) p q h g = evaluates_variable-holds v p q h g
      evaluates-holds (node place (Call trap None i method at arguments)) p q h g =
          record { by = λ b own. (evaluates_all-holds arguments h.0 h.1 h.3 (λ values is. calls_own-holds trap (kind method) values (λ x. sources.uses-holds program addresses x (λ value. sources.for_statement-holds program addresses own.statement (g value))))).by b own }
      evaluates-holds (node place (Call trap (Some object) i method at arguments)) p q h g =
          record {
            by = λ b own.
                (evaluates_all-holds arguments h.0 h.1 h.4 (λ values is. indexes-holds i h.1 h.2 h.5 (λ number. calls_of_object-holds trap object (kind object) refl number method values
                (λ x. sources.uses-holds program addresses x (λ value. sources.for_statement-holds program addresses own.statement (g value)))))).by b own;
          }
      evaluates-holds (node place (Unary operator e)) p q h g =
          where-either (operator == 0xEC) h (λ h0. evaluates-holds e p q h0 (λ a. g _)) (λ h1. evaluates-holds e p h1.0 h1.1 (λ a. g _))
      evaluates-holds (node place (Binary operator left right)) p q h g = evaluates-holds left p h.0 h.2 (λ a. evaluates-holds right h.0 h.1 h.3 (λ b. g _))
      evaluates-holds (node place (Assign v operator e)) p q h g =
          evaluates-holds e p h.0 h.2 (λ right. locates-holds v h.0 h.1 h.3 (λ where_is. sources.assigns-holds program addresses s operator where_is right g))
      evaluates-holds (node place (Change v change)) p q h g = locates-holds v p h.0 h.1 (λ where_is. sources.changes-holds program addresses s change where_is g)
      evaluates-holds (node place (Address v)) p q h g = locates-holds v p h.0 h.1 (λ where_is. g _)
      evaluates-holds (node place (ObjectAddress e)) p q h g = evaluates-holds e p h.0 h.1 (λ offset. g _)
      evaluates-holds (node place (ObjConst object name at)) p q h g = g _
      evaluates-holds (node place (Built code arguments)) p q h g = does-holds true code arguments p q h g
      evaluates-holds (node place (Look code e items)) p q h g =
          evaluates-holds e p h.0 h.3 (λ wanted. looks-holds (expressions.goes_up code) wanted items q h.1 h.2 h.5 g (λ count. g 0) (expressions.first_count code))

      evaluates_variable-holds : (v : Variable) (p q : ℕ) → standing.VariableAt t v p q → {g : ℕ → Rest} → L g → H (expressions.evaluates_variable callee s abort v g)
      evaluates_variable-holds (Named name no_index place) p q h g = value_of_name-holds name g
      evaluates_variable-holds (Named name (index e) place) p q h g = evaluates-holds e p h.0 h.1 (λ number. sources.fetches-holds program addresses s (named s name number) g)
      evaluates_variable-holds (Part name size i place) p q h g = indexes-holds i p h.0 h.1 (λ number. sources.fetches-holds program addresses s (part s name size number) g)
      evaluates_variable-holds (Memory size e i place) p q h g =
          evaluates-holds e p h.0 h.2 (λ address. indexes-holds i h.0 h.1 h.3 (λ number. sources.fetches-holds program addresses s (element size address number) g))
      evaluates_variable-holds (Register register x place) p q h g = selects-holds register x p h.0 h.1 (λ pins. sources.fetches-holds program addresses s pins g)

      locates-holds : (v : Variable) (p q : ℕ) → standing.NamesAt t v p q → {g : Location → Rest} → L g → H (expressions.locates callee s abort v g)
      locates-holds (Named name i place) p q h g = indexes-holds i p q h (λ number. g _)
      locates-holds (Part name size i place) p q h g = indexes-holds i p q h (λ number. g _)
      locates-holds (Memory size e i place) p q h g = evaluates-holds e p h.0 h.1 (λ address. indexes-holds i h.0 q h.2 (λ number. g _))
      locates-holds (Register register x place) p q h g = selects-holds register x p q h g

      indexes-holds : (i : Index) (p q : ℕ) → standing.IndexAt t i p q → {g : ℕ → Rest} → L g → H (expressions.indexes callee s abort i g)
      indexes-holds no_index p q h g = g 0
      indexes-holds (index e) p q h g = evaluates-holds e p q h g

      selects-holds : (register : ℕ) (x : Bits) (p q : ℕ) → standing.BitsAt t x p q → {g : Location → Rest} → L g → H (expressions.selects callee s abort register x g)
      selects-holds register whole p q h g = g _
      selects-holds register (bits (single e)) p q h g = evaluates-holds e p q h (λ pin. g _)
      selects-holds register (bits (range e f)) p q h g = evaluates-holds e p h.0 h.1 (λ high. evaluates-holds f h.0 q h.2 (λ low. g _))

      evaluates_all-holds : (es : Trees) (p q : ℕ) → standing.ValuesAt t es p q → {g : List ℕ → Rest} → ((values : List ℕ) → length values ≡ count_of_trees es → H (g values)) → H (expressions.evaluates_all callee s abort es g)
      evaluates_all-holds no_trees p q h g = g [] refl
      evaluates_all-holds (es ▷ e) p q h g =
          evaluates_all-holds es p h.0 h.1 (λ values is. evaluates-holds e h.0 q h.2 (λ value. g (values ++ value ∷ []) (omega (arith, is, length-append values (value ∷ []), length-append (tree_list es) (e ∷ [])))))

      does-holds : (used : Bool) (code : ℕ) (es : Trees) (p q : ℕ) → standing.BuiltAt t used code es p q → {g : ℕ → Rest} → L g → H (expressions.does callee s abort code es g)
      does-holds used code no_trees p q h g = sources.does_none-holds program addresses code g
      does-holds used code (no_trees ▷ e) p q h g =
          where-holds (code == 0) h (λ h0. g _) (λ h1. evaluates-holds e p h1.0 h1.1 (λ a. sources.does_one-holds program addresses code a g))
      does-holds used code (no_trees ▷ e ▷ f) p q h g =
          where-holds (code == 0x2C) h
          (λ h0. begins-holds used e f (λ a b i. record { by = evaluates-holds e a b i }) (λ a b i. record { by = evaluates-holds f a b i }) new_cog e h0.0 q h0.2 g)
          (λ h1. evaluates-holds e p h1.0 h1.2 (λ a. evaluates-holds f h1.0 h1.1 h1.3 (λ b. sources.does_two-holds program addresses code a b g)))
      does-holds used code (no_trees ▷ e ▷ f ▷ d) p q h g =
          where-holds (code == 0x28) h
          (λ h0. evaluates-holds e p h0.0 h0.1 (λ id. begins-holds used f d (λ a b i. record { by = evaluates-holds f a b i }) (λ a b i. record { by = evaluates-holds d a b i }) id f h0.0 q h0.2 g))
          (λ h1. evaluates-holds e p h1.0 h1.3 (λ a. evaluates-holds f h1.0 h1.1 h1.4 (λ b. evaluates-holds d h1.1 h1.2 h1.5 (λ c. sources.does_three-holds program addresses code a b c g))))
      does-holds used code (es ▷ a ▷ e ▷ f ▷ d) p q h g = absurd h

      begins-holds : (used : Bool) (one two : Tree) → IsEvaluated one → IsEvaluated two → (id : ℕ) (e : Tree) (p q : ℕ) → standing.BeginsAt t used e (standing.ValueAt t one) (standing.ValueAt t two) p q → {g : ℕ → Rest} → L g →
          H (expressions.begins callee s abort id e (expressions.evaluates callee s abort one) (expressions.evaluates callee s abort two) g)
      begins-holds used one two first second id (node place (Call false None i method at arguments)) p q h g =
          evaluates_all-holds arguments p h.0 h.2 (λ values is. (second h.0 h.1 h.3).by (λ stack. starts_method-holds id used (kind method) (count_of_trees arguments) h.1 q h.4 values is stack g))
      begins-holds used one two first second id (node place (Var (Named name no_index at))) p q h g = begins_name-holds used one two first second id name (kind name) refl p q h g
      begins-holds used one two first second id (node place (Call false (Some object) i method at arguments)) p q h g = pasm-holds used one two first second id p q h g
      begins-holds used one two first second id (node place (Call true object i method at arguments)) p q h g = pasm-holds used one two first second id p q h g
      begins-holds used one two first second id (node place (Var (Named name (index e) at))) p q h g = pasm-holds used one two first second id p q h g
      begins-holds used one two first second id (node place (Var (Part name size i at))) p q h g = pasm-holds used one two first second id p q h g
      begins-holds used one two first second id (node place (Var (Memory size e i at))) p q h g = pasm-holds used one two first second id p q h g
      begins-holds used one two first second id (node place (Var (Register register z at))) p q h g = pasm-holds used one two first second id p q h g
      begins-holds used one two first second id (node place (Number n)) p q h g = pasm-holds used one two first second id p q h g
      begins-holds used one two first second id (node place (Str text)) p q h g = pasm-holds used one two first second id p q h g
      begins-holds used one two first second id (node place (Strings es)) p q h g = pasm-holds used one two first second id p q h g
      begins-holds used one two first second id (node place Here) p q h g = pasm-holds used one two first second id p q h g
      begins-holds used one two first second id (node place (Unary operator e)) p q h g = pasm-holds used one two first second id p q h g
      begins-holds used one two first second id (node place (Binary operator e f)) p q h g = pasm-holds used one two first second id p q h g
      begins-holds used one two first second id (node place (Assign v operator e)) p q h g = pasm-holds used one two first second id p q h g
      begins-holds used one two first second id (node place (Change v change)) p q h g = pasm-holds used one two first second id p q h g
      begins-holds used one two first second id (node place (Address v)) p q h g = pasm-holds used one two first second id p q h g
      begins-holds used one two first second id (node place (ObjectAddress e)) p q h g = pasm-holds used one two first second id p q h g
      begins-holds used one two first second id (node place (ObjConst object name at)) p q h g = pasm-holds used one two first second id p q h g
      begins-holds used one two first second id (node place (Built code arguments)) p q h g = pasm-holds used one two first second id p q h g
      begins-holds used one two first second id (node place (Look code e items)) p q h g = pasm-holds used one two first second id p q h g

      looks-holds : (up : Bool) (wanted : ℕ) (items : Items) (target p q : ℕ) → standing.LooksAt t up items target p q → {f n : ℕ → Rest} → L f → L n → L (expressions.looks callee s abort up wanted items f n)
      looks-holds up wanted no_items target p q h found none count = none count
      looks-holds up wanted (items ▸ item) target p q h found none count = looks-holds up wanted items target p h.0 h.1 found (looks_at-holds up wanted item target h.0 q h.2 found none) count

      looks_at-holds : (up : Bool) (wanted : ℕ) (item : Item) (target p q : ℕ) → standing.LookAt t up item target p q → {f n : ℕ → Rest} → L f → L n → L (expressions.looks_at callee s abort up wanted item f n)
      looks_at-holds up wanted (single e) target p q h found none count = evaluates-holds e p h.0 h.1 (λ value. sources.tries-holds program addresses up wanted count value found none)
      looks_at-holds up wanted (range e f) target p q h found none count =
          evaluates-holds e p h.0 h.2 (λ low. evaluates-holds f h.0 h.1 h.3 (λ high. sources.tries_range-holds program addresses up wanted count low high found none))

    -- an expression alone
    acts-holds : (e : Tree) (p q : ℕ) → bodies.ActAt t e p q → {r : Rest} → H r → H (expressions.acts callee s abort e r)
    acts-holds (node place (Var (Named name no_index at))) p q h g = record { by = λ b own. (calls_own-holds false (kind name) [] (λ x. sources.for_statement-holds program addresses own.statement g)).by b own }
    acts-holds (node place (Call trap None i method at arguments)) p q h g =
        record { by = λ b own. (evaluates_all-holds arguments h.0 h.1 h.3 (λ values is. calls_own-holds trap (kind method) values (λ x. sources.for_statement-holds program addresses own.statement g))).by b own }
    acts-holds (node place (Call trap (Some object) i method at arguments)) p q h g =
        record {
          by = λ b own.
              (evaluates_all-holds arguments h.0 h.1 h.4 (λ values is. indexes-holds i h.1 h.2 h.5 (λ number. calls_of_object-holds trap object (kind object) refl number method values
              (λ x. sources.for_statement-holds program addresses own.statement g)))).by b own;
        }
    acts-holds (node place (Change v change)) p q h g = locates-holds v p h.0 h.1 (λ where_is. sources.changes_alone-holds program addresses s change where_is g)
    acts-holds (node place (Assign v operator e)) p q h g =
        evaluates-holds e p h.0 h.2 (λ right. locates-holds v h.0 h.1 h.3 (λ where_is. sources.assigns-holds program addresses s operator where_is right (λ x. g)))
    acts-holds (node place (Built code arguments)) p q h g = does-holds false code arguments p q h (λ x. g)
    acts-holds (node place (Var (Named name (index e) at))) p q h g = absurd h
    acts-holds (node place (Var (Part name size i at))) p q h g = absurd h
    acts-holds (node place (Var (Memory size e i at))) p q h g = absurd h
    acts-holds (node place (Var (Register register x at))) p q h g = absurd h
    acts-holds (node place (Number n)) p q h g = absurd h
    acts-holds (node place (Str text)) p q h g = absurd h
    acts-holds (node place (Strings es)) p q h g = absurd h
    acts-holds (node place Here) p q h g = absurd h
    acts-holds (node place (Unary operator e)) p q h g = absurd h
    acts-holds (node place (Binary operator e f)) p q h g = absurd h
    acts-holds (node place (Address v)) p q h g = absurd h
    acts-holds (node place (ObjectAddress e)) p q h g = absurd h
    acts-holds (node place (ObjConst object name at)) p q h g = absurd h
    acts-holds (node place (Look code e items)) p q h g = absurd h

    -- ---- statements

    module _ (most : ℕ) (return : Returned → Rest) (return_holds : L return) where
      decides-holds : (negated : Bool) (e : Tree) (p q : ℕ) → standing.ValueAt t e p q → {m u : Rest} → H m → H u → H (statements.decides most callee s return abort negated e m u)
      decides-holds negated e p q h met unmet = evaluates-holds e p q h (λ value. sources.if-holds program addresses (holds negated value) met unmet)

      fits-holds : (value : ℕ) (item : Item) (target p q : ℕ) → bodies.FitAt t item target p q → {m u : Rest} → H m → H u → H (statements.fits most callee s return abort value item m u)
      fits-holds value (single e) target p q h met unmet = evaluates-holds e p h.0 h.1 (λ x. sources.if-holds program addresses (value == x) met unmet)
      fits-holds value (range e f) target p q h met unmet =
          evaluates-holds e p h.0 h.2 (λ low. evaluates-holds f h.0 h.1 h.3 (λ high. sources.if-holds program addresses (is_between value low high) met unmet))

      fits_one-holds : (value : ℕ) (items : Items) (target p q : ℕ) → bodies.FitsAt t items target p q → {m u : Rest} → H m → H u → H (statements.fits_one most callee s return abort value items m u)
      fits_one-holds value no_items target p q h met unmet = unmet
      fits_one-holds value (items ▸ item) target p q h met unmet = fits_one-holds value items target p h.0 h.1 met (fits-holds value item target h.0 q h.2 met unmet)

      steps-holds : (counter : Location) (by from to : ℕ) {a r : Rest} → H a → H r → H (statements.steps most callee s return abort counter by from to a r)
      steps-holds counter by from to again g =
          sources.fetches-holds program addresses s counter (λ old. sources.stores-holds program addresses counter (stepped old by from to) (sources.if-holds program addresses (is_between (stepped old by from to) from to) again g))

      ends_pass-holds : (v : Variable) (counter : Location) (from to : Tree) (step : Option Tree) (target p q : ℕ) → bodies.PassEndAt t v from to step target p q → {a r : Rest} → H a → H r → H (statements.ends_pass most callee s return abort counter from to step a r)
      ends_pass-holds v counter from to None target p q h again g =
          evaluates-holds from p h.0 h.2 (λ a. evaluates-holds to h.0 h.1 h.3 (λ b. steps-holds counter 1 a b again g))
      ends_pass-holds v counter from to (Some e) target p q h again g =
          evaluates-holds e p h.0 h.3 (λ by. evaluates-holds from h.0 h.1 h.4 (λ a. evaluates-holds to h.1 h.2 h.5 (λ b. steps-holds counter by a b again g)))

      repeats-holds : (loop : Loop) {body : Body} (BodyAt : Inner → (p q : ℕ) → Type 0) → ((inner : Inner) (p q : ℕ) → BodyAt inner p q → BodyHolds body) → (p q : ℕ) → bodies.LoopAt t loop BodyAt p q → {r : Rest} → H r → H (statements.repeats most callee s return abort loop body r)
      repeats-holds Forever BodyAt keeps p q h g = sources.passes-holds program addresses most (record { by = λ again. (keeps (plain p q) p h.0 h.1).by again g again })
      repeats-holds (Count e) BodyAt keeps p q h g =
          evaluates-holds e p h.0 h.3 (λ count. sources.if-holds program addresses (count == 0) g
          (sources.counted-holds program addresses (difference count 1) (record { by = λ again. (keeps (with_count h.2 q) h.1 h.2 h.5).by again g again }) g))
      repeats-holds (Before until e) BodyAt keeps p q h g =
          sources.passes-holds program addresses most (record { by = λ again. decides-holds until e p h.0 h.3 ((keeps (plain p q) h.1 h.2 h.5).by again g again) g })
      repeats-holds (After until e) BodyAt keeps p q h g =
          sources.passes-holds program addresses most (record {
            by = λ again.
                (keeps (plain h.0 q) p h.0 h.2).by (decides-holds until e h.0 h.1 h.3 again g) g (decides-holds until e h.0 h.1 h.3 again g);
          })
      repeats-holds (From name from to step place) BodyAt keeps p q h g =
          evaluates-holds from p h.0 h.3 (λ first. sources.stores-holds program addresses (named s name 0) first
          (sources.passes-holds program addresses most (record {
            by = λ again.
                (keeps (plain h.2 q) h.1 h.2 h.5).by (ends_pass-holds (Named name no_index place) (named s name 0) from to step h.1 h.2 q h.6 again g) g (ends_pass-holds (Named name no_index place) (named s name 0) from to step h.1 h.2 q h.6 again g);
          })))

  -- ---- statements, each with itself at hand

  module _ (memory : List ℕ) (cog : ℕ) (fits : FramesFit program) (callee : Callee) (callee_holds : CalleeHolds callee) (par : ℕ) (target : Target) (is_instance : IsInstance program addresses target.instance) (file : File) (is_file : slice_get program target.instance.file ≡ Some file) (tree : MethodTree) (frame active : ℕ) (abort : Returned → Rest) (abort_holds : L abort) (table : List (ℕ × Place)) (most : ℕ) (return : Returned → Rest) (return_holds : L return) where
    abbrev s' : Scope
    s' = scope_with program addresses par target file tree frame active

    abbrev t' : standing.Compiled
    t' = compiled memory cog program addresses table target file tree.place

    mutual
      executes-holds : (x : Statement) (inner : Inner) (p q : ℕ) → bodies.StatementAt t' x inner p q → {n k r : Rest} → H n → H k → H r → H (statements.executes most callee s' return abort x n k r)
      executes-holds (statement place action) inner p q h next quit g = record {
        by = λ b own.
            (acts_out-holds place action inner p q h (sources.for_statement-holds program addresses own.statement next) (sources.for_statement-holds program addresses own.statement quit)
            (sources.for_statement-holds program addresses own.statement g)).by b (record own { statement = place });
      }

      acts_out-holds : (hand : Place) (action : Action) (inner : Inner) (p q : ℕ) → bodies.StatementAt t' (statement hand action) inner p q → {n k r : Rest} → H n → H k → H r → H (statements.acts_out most callee s' return abort action n k r)
      acts_out-holds hand (Do e) inner p q h next quit g = acts-holds memory cog fits callee callee_holds par target is_instance file is_file tree frame active abort abort_holds table hand e p q h g
      acts_out-holds hand (If arms rest) inner p q h next quit g = chooses-holds hand arms inner q p h.0 h.1 next quit g (executes_other-holds rest inner h.0 q h.2 next quit g)
      acts_out-holds hand (Case e arms rest) inner p q h next quit g =
          evaluates-holds memory cog fits callee callee_holds par target is_instance file is_file tree frame active abort abort_holds table hand e p h.0 h.4 (λ value. matches-holds hand value arms inner q h.0 h.1 h.5 next quit g (executes_other-holds rest inner h.2 h.3 h.7 next quit g))
      acts_out-holds hand (Repeat loop body) inner p q h next quit g = repeats-holds memory cog fits callee callee_holds par target is_instance file is_file tree frame active abort abort_holds table hand most return return_holds loop (bodies.BodyAt t' body) (λ i a b k. record { by = executes_all-holds body i a b k }) p q h g
      acts_out-holds hand Next inner p q h next quit g = next
      acts_out-holds hand Quit inner p q h next quit g = quit
      acts_out-holds hand (Return None) inner p q h next quit g = return_holds (Result frame)
      acts_out-holds hand (Return (Some e)) inner p q h next quit g = evaluates-holds memory cog fits callee callee_holds par target is_instance file is_file tree frame active abort abort_holds table hand e p h.0 h.1 (λ value. return_holds (Value value))
      acts_out-holds hand (Abort None) inner p q h next quit g = abort_holds (Result frame)
      acts_out-holds hand (Abort (Some e)) inner p q h next quit g = evaluates-holds memory cog fits callee callee_holds par target is_instance file is_file tree frame active abort abort_holds table hand e p h.0 h.1 (λ value. abort_holds (Value value))

      pub executes_all-holds : (body : Statements) (inner : Inner) (p q : ℕ) → bodies.BodyAt t' body inner p q → {n k r : Rest} → H n → H k → H r → H (statements.executes_all most callee s' return abort body n k r)
      executes_all-holds no_statements inner p q h next quit g = g
      executes_all-holds (body ▹ last) inner p q h next quit g = executes_all-holds body inner p h.0 h.1 next quit (executes-holds last inner h.0 q h.2 next quit g)

      executes_other-holds : (rest : Otherwise) (inner : Inner) (p q : ℕ) → bodies.OtherAt t' rest inner p q → {n k r : Rest} → H n → H k → H r → H (statements.executes_other most callee s' return abort rest n k r)
      executes_other-holds nothing_else inner p q h next quit g = g
      executes_other-holds (otherwise body) inner p q h next quit g = executes_all-holds body inner p q h next quit g

      chooses-holds : (hand : Place) (arms : Arms) (inner : Inner) (end p q : ℕ) → bodies.ArmsAt t' hand arms inner end p q → {n k r o : Rest} → H n → H k → H r → H o → H (statements.chooses most callee s' return abort arms n k r o)
      chooses-holds hand no_arms inner end p q h next quit g rest = rest
      chooses-holds hand (arms ⊳ arm (no_items ▸ single e) negated body) inner end p q h next quit g rest =
          chooses-holds hand arms inner end p h.0 h.4 next quit g (decides-holds memory cog fits callee callee_holds par target is_instance file is_file tree frame active abort abort_holds table hand most return return_holds negated e h.0 h.1 h.5 (executes_all-holds body inner h.2 h.3 h.7 next quit g) rest)
      chooses-holds hand (arms ⊳ arm no_items negated body) inner end p q h next quit g rest = absurd h
      chooses-holds hand (arms ⊳ arm (no_items ▸ range e f) negated body) inner end p q h next quit g rest = absurd h
      chooses-holds hand (arms ⊳ arm (xs ▸ x ▸ y) negated body) inner end p q h next quit g rest = absurd h

      matches-holds : (hand : Place) (value : ℕ) (arms : Arms) (inner : Inner) (end p q : ℕ) → bodies.ChoicesAt t' hand arms inner end p q → {n k r o : Rest} → H n → H k → H r → H o → H (statements.matches most callee s' return abort value arms n k r o)
      matches-holds hand value no_arms inner end p q h next quit g rest = rest
      matches-holds hand value (arms ⊳ arm items negated body) inner end p q h next quit g rest =
          matches-holds hand value arms inner end p h.0 h.4 next quit g (fits_one-holds memory cog fits callee callee_holds par target is_instance file is_file tree frame active abort abort_holds table hand most return return_holds value items h.1 h.0 q h.5 (executes_all-holds body inner h.2 h.3 h.7 next quit g) rest)
