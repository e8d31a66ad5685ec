-- Each bytecode of an expression is one that there is, form by form.
use Rattle.std.proofs.Common.{◌≡◌, ℕ, ◌^◌, ◌<◌, Bool, true, false, not, ◌||◌, ◌==◌, nat_le, if◌then◌else◌, inl, inr, Option, Some, None, List, [], ◌∷◌, refl, sym, ap, subst, arith}
use Rattle.std.specs.Prelude.{IsTrue, IfSome, option_map}
use Rattle.std.proofs.lemmas.List.{length-append}
use Rattle.p8_tree.specs.declared.places.Place.{Place}
use Rattle.p8_tree.specs.Expressions.{Tree, node, Form, Number, Str, Strings, Here, Var, Call, Unary, Binary, Assign, Change, Address, ObjectAddress, ObjConst, Built, Look, Variable, Named, Part, Memory, Register, Index, no_index, index, whole, bits, single, range, Trees, no_trees, ◌▷◌, Items, no_items, ◌▸◌}
use Rattle.p8_tree.specs.Lists.{tree_list, count_of_trees}
use Rattle.p8_tree.specs.Proper.{IfThere, is_binary, is_change, is_operator_alone, gives_value, gives_no_value, arguments_fit, arguments_fit_alone, IsProperTree, IsProperForm, IsProperVariable, IsProperIndex, AreProperTrees, AreProperItems, IsDoneForm, IsDone}
use Rattle.p8_bytecode.specs.Table.{rows, operands_of}
use Rattle.p8_bytecode.specs.Reading.{bare, has_base, changes_variable}
use Rattle.p8_bytecode.specs.Spelling.{IsPlace, IsChange}
use Rattle.p8_bytecode.specs.declared.operands.Operands.TheVariants as operands
use Rattle.p8_tree.specs.declared.faults.Fault.{Fault}
use Rattle.p8_tree.specs.Faults.{fault}
use Rattle.p8_tree.specs.declared.refusal.Refusal.TheVariants.{Unknown, WrongKind, WrongArity}
use Rattle.p8_words.specs.Operators.{or_zero}
use Rattle.p8_fold.specs.Values as constants
use Rattle.p8_kinds.specs.declared.name_kinds.NameKind.{NameKind}
use Rattle.p8_kinds.specs.declared.name_kinds.NameKind.TheVariants as kinds
use Rattle.p8_kinds.specs.declared.uses.Use.TheVariants as used_as
use Rattle.p8_kinds.specs.Environments.{Environment, kind_in}
use Rattle.p8_kinds.specs.Misuses.{misuse, in_method, BrokenIn, BrokenInside, BrokenInVariable, BrokenInIndex, BrokenInTrees, BrokenInItems, name_alone, MisuseDone}
use Rattle.p8_gen.specs.Names.{Names}
use Rattle.p8_gen.specs.Pieces.{◌⨾◌, byte, with_number, jump}
use Rattle.p8_gen.specs.Variables.{number, Home, home_of, home_of_kind, Operation, Push, Using, leaving, effect_for, assigned}
use Rattle.p8_gen.specs.Variables as variables
use Rattle.p8_gen.specs.Expressions.{count_of, mark, own_method, method_number, call_in, method_in, callee, constant, name_alone as code_of_name, built_value, built, dropped, built_without, starts_method, start_of_method, starts, pasm, started, looks_down, counts_from, unary, sized, pushed_home, size_of, value, value_of_form, operate, in_home, values, index_value, call_of_built, arguments, looks, alone}
use Rattle.p8_gen.specs.Operations.{HasBytes, HaveBytes}
use Rattle.p8_gen.proofs.ByteTables.{one_of, unary_bare, binary_bare, good_operator, good_change, good_operator_alone, equal}
use Rattle.p8_gen.proofs.Sound.{Sound, nothings, both, ups, either, either_by, ones, bares, one_byte, two_bytes, three_bytes, numbers, texts, jumps, Fit, IsPlaced, memory, plain, registers_sound, fits}

-- ---- calls

marks : (used trap : Bool) → Sound (mark used trap)
unfolding rows
marks true true = bares 2 refl
marks true false = bares 0 refl
marks false true = bares 3 refl
marks false false = bares 1 refl

number_small : (kind : Option NameKind) → IfSome kind HasBytes → method_number kind < 2 ^ 8
number_small None h = omega arith
number_small (Some (kinds.Method number params)) h = h.0
number_small (Some (kinds.Const v)) h = omega arith
number_small (Some (kinds.Global size offset)) h = omega arith
number_small (Some (kinds.Local offset)) h = omega arith
number_small (Some (kinds.Label size)) h = omega arith
number_small (Some (kinds.Object item position count)) h = omega arith

own_sound : (kind : Option NameKind) → IfSome kind HasBytes → Sound (own_method kind)
unfolding rows
own_sound None h = nothings
own_sound (Some (kinds.Method number params)) h = one_byte 0x05 number refl h.0
own_sound (Some (kinds.Const v)) h = nothings
own_sound (Some (kinds.Global size offset)) h = nothings
own_sound (Some (kinds.Local offset)) h = nothings
own_sound (Some (kinds.Label size)) h = nothings
own_sound (Some (kinds.Object item position count)) h = nothings

call_in_sound : (position count : ℕ) (i : Index) (m : ℕ) → position < 2 ^ 8 → count < 2 ^ 8 → m < 2 ^ 8 → Sound (call_in position count i m)
unfolding rows
call_in_sound position count no_index m p c s = two_bytes 0x06 position m refl p s
call_in_sound position count (index e) m p c s = three_bytes 0x07 position count m refl p c s

-- an argument count that a call has is that of its method, and so has a byte
bounded : (kind : Option NameKind) → IfSome kind HasBytes → (count : ℕ) (place : Place) → ((f : Fault) → ¬ (misuse (used_as.Method count) kind place ≡ Some f)) → count < 2 ^ 8
bounded None h count place clean = absurd (clean (fault Unknown place) refl)
bounded (Some (kinds.Method number params)) h count place clean = go (params == count) refl
  where
    go : (t : Bool) → (params == count) ≡ t → count < 2 ^ 8
    go true is = subst (λ n. n < 2 ^ 8) (equal params count is) h.1
    go false is = absurd (clean (fault WrongArity place) (ap (λ (t : Bool). option_map (λ refusal. fault refusal place) (if t then None else Some WrongArity)) is))
bounded (Some (kinds.Const v)) h count place clean = absurd (clean (fault WrongKind place) refl)
bounded (Some (kinds.Global size offset)) h count place clean = absurd (clean (fault WrongKind place) refl)
bounded (Some (kinds.Local offset)) h count place clean = absurd (clean (fault WrongKind place) refl)
bounded (Some (kinds.Label size)) h count place clean = absurd (clean (fault WrongKind place) refl)
bounded (Some (kinds.Object item position count')) h count place clean = absurd (clean (fault WrongKind place) refl)

counts_same : (es : Trees) → count_of_trees es ≡ count_of es
counts_same no_trees = refl
counts_same (es ▷ e) = omega (arith, counts_same es, length-append (tree_list es) (e ∷ []))

-- ---- built-ins

drops : (used : Bool) → Sound (dropped used)
unfolding rows
drops used = either used nothings (bares 0x14 refl)

cog_id : Sound (with_number 0x3F 0x89)
unfolding rows
cog_id = ones _ (fits (record (bare 0x3F) { first = 0x89 }) refl (λ range. (refl, refl, (refl, refl, refl))))

popped_long : (c : ℕ) → operands_of c ≡ Some operands.Variable → has_base c ≡ false → changes_variable c ≡ false → Sound (byte c)
popped_long c row based changed =
    ones _ (fits (bare c) row (λ range. (refl, subst (λ b. IsPlace b 0) (sym based) refl, subst (λ b. IsChange b (bare c)) (sym changed) (refl, refl, refl))))

words : (code : ℕ) → Sound (built_value code)
unfolding rows
words code =
    either (code == 0x3F) cog_id (either (code == 0xC0) (both (bares 0x35 refl) (popped_long 0xC0 refl refl refl))
    (both (one_byte 0x38 4 refl (omega arith)) (popped_long 0x80 refl refl refl)))

with_value : (used : Bool) (code : ℕ) → IsTrue (gives_value code) → Sound (built used code)
unfolding rows
with_value used code h =
    one_of (λ code. (used : Bool) → Sound (built used code)) (0x16 ∷ 0x17 ∷ 0x28 ∷ 0x29 ∷ 0x2A ∷ 0x2B ∷ 0x2C ∷ []) code h
    ((λ used. either used (bares 0x16 refl) (both (bares 0x16 refl) (bares 0x14 refl))), ((λ used. either used (bares 0x17 refl) (both (bares 0x17 refl) (bares 0x14 refl))), ((λ used. either used (bares 0x28 refl) (bares 0x28 refl)), ((λ used. either used (bares 0x29 refl) (bares 0x2D refl)), ((λ used. either used (bares 0x2A refl) (bares 0x2E refl)), ((λ used. either used (bares 0x2B refl) (bares 0x2F refl)), ((λ used. either used (bares 0x2C refl) (bares 0x2C refl)), tt))))))) used

without_value : (used : Bool) (code : ℕ) → IsTrue (gives_no_value code) → Sound (built used code)
unfolding rows
without_value used code h =
    one_of (λ code. (used : Bool) → Sound (built used code)) (0x18 ∷ 0x19 ∷ 0x1A ∷ 0x1B ∷ 0x1C ∷ 0x1D ∷ 0x1E ∷ 0x1F ∷ 0x21 ∷ 0x22 ∷ 0x23 ∷ []) code h
    ((λ used. either used (bares 0x18 refl) (bares 0x18 refl)), ((λ used. either used (bares 0x19 refl) (bares 0x19 refl)), ((λ used. either used (bares 0x1A refl) (bares 0x1A refl)), ((λ used. either used (bares 0x1B refl) (bares 0x1B refl)), ((λ used. either used (bares 0x1C refl) (bares 0x1C refl)), ((λ used. either used (bares 0x1D refl) (bares 0x1D refl)), ((λ used. either used (bares 0x1E refl) (bares 0x1E refl)), ((λ used. either used (bares 0x1F refl) (bares 0x1F refl)), ((λ used. either used (bares 0x21 refl) (bares 0x21 refl)), ((λ used. either used (bares 0x22 refl) (bares 0x22 refl)), ((λ used. either used (bares 0x23 refl) (bares 0x23 refl)), tt))))))))))) used

made : (used : Bool) (code : ℕ) → IsTrue (gives_value code || gives_no_value code) → Sound (built used code)
made used code h = go (gives_value code) refl
  where
    go : (t : Bool) → gives_value code ≡ t → Sound (built used code)
    go true is = with_value used code is
    go false is = without_value used code (subst (λ t. IsTrue (t || gives_no_value code)) is h)

value_made : (used : Bool) → Sound (built_value 0x29 ⨾ dropped used)
value_made used = both (words 0x29) (drops used)

without : (used : Bool) (code : ℕ) → Sound (built_without used code)
without used code = either_by (code == 0x29) (λ is. subst (λ c. Sound (built used c)) (sym (equal code 0x29 is)) (with_value used 0x29 refl)) (λ is. both (words code) (drops used))

not_constant : (code : ℕ) → IsTrue (gives_value code || gives_no_value code) → IsTrue (not (code == 0))
not_constant code h = go (gives_value code) refl
  where
    go : (t : Bool) → gives_value code ≡ t → IsTrue (not (code == 0))
    go true is = one_of (λ code. IsTrue (not (code == 0))) (0x16 ∷ 0x17 ∷ 0x28 ∷ 0x29 ∷ 0x2A ∷ 0x2B ∷ 0x2C ∷ []) code is (refl, (refl, (refl, (refl, (refl, (refl, (refl, tt)))))))
    go false is = one_of (λ code. IsTrue (not (code == 0))) (0x18 ∷ 0x19 ∷ 0x1A ∷ 0x1B ∷ 0x1C ∷ 0x1D ∷ 0x1E ∷ 0x1F ∷ 0x21 ∷ 0x22 ∷ 0x23 ∷ []) code (subst (λ t. IsTrue (t || gives_no_value code)) is h)
        (refl, (refl, (refl, (refl, (refl, (refl, (refl, (refl, (refl, (refl, (refl, tt)))))))))))

-- a built-in whose arguments, if it has any, are those of one that gives a value or none, or of CONSTANT
abbrev pub IsBuilt : Trees → ℕ → Type 0
IsBuilt no_trees code = Unit {0}
IsBuilt (no_trees ▷ e) code = IsTrue ((code == 0) || (gives_value code || gives_no_value code))
IsBuilt (es ▷ e) code = IsTrue (gives_value code || gives_no_value code)

or_left : (a b : Bool) → IsTrue a → IsTrue (a || b)
or_left true b h = refl
or_left false b h = absurd cc

or_right : (a b : Bool) → IsTrue b → IsTrue (a || b)
or_right true b h = refl
or_right false b h = h

gives_or_constant : (a b c : Bool) → IsTrue (a || b) → IsTrue (a || (b || c))
gives_or_constant true b c h = refl
gives_or_constant false b c h = or_left b c h

pub built_inside : (args : Trees) (code : ℕ) → IsTrue (arguments_fit args code) → IsBuilt args code
built_inside no_trees code h = tt
built_inside (no_trees ▷ e) code h = gives_or_constant (code == 0) (gives_value code) (gives_no_value code) h
built_inside (no_trees ▷ d ▷ e) code h = or_left (gives_value code) (gives_no_value code) h
built_inside (es ▷ c ▷ d ▷ e) code h = or_left (gives_value code) (gives_no_value code) h

pub built_alone_is : (args : Trees) (code : ℕ) → IsTrue (arguments_fit_alone args code) → IsBuilt args code
built_alone_is no_trees code h = tt
built_alone_is (no_trees ▷ e) code h = or_right (code == 0) (gives_value code || gives_no_value code) h
built_alone_is (no_trees ▷ d ▷ e) code h = h
built_alone_is (es ▷ c ▷ d ▷ e) code h = h

-- ---- what is started

pasms : (used : Bool) → Sound (pasm used)
unfolding rows
pasms true = bares 0x28 refl
pasms false = bares 0x2C refl

starts_counted : (number count : ℕ) → number < 2 ^ 8 → count < 2 ^ 8 → Sound (start_of_method number count)
unfolding rows
starts_counted number count n c = two_bytes 0x15 number count refl n c

counted_from : (code : ℕ) → Sound (counts_from code)
unfolding rows
counted_from code = either (nat_le 0x12 code) (bares 0x35 refl) (bares 0x36 refl)

operator_before : (code : ℕ) → operands_of code ≡ Some operands.Nothing → Sound (unary code)
operator_before code row = either (code == 0xEC) nothings (bares code row)

assigned_fit : (used : Bool) (operator : Option ℕ) → IfThere (λ k. IsTrue (is_binary k)) operator → Fit (assigned used operator)
assigned_fit true None h = refl
assigned_fit false None h = tt
assigned_fit used (Some k) h = good_operator used k h

look_jump : (wide : ℕ → Bool) (s : Place) (down : Bool) (to : ℕ) → Sound (jump wide s (if down then 0x11 else 0x10) to)
unfolding rows
look_jump wide s true to = jumps wide s 0x11 to refl
look_jump wide s false to = jumps wide s 0x10 to refl

look_range_jump : (wide : ℕ → Bool) (s : Place) (down : Bool) (to : ℕ) → Sound (jump wide s (if down then 0x13 else 0x12) to)
unfolding rows
look_range_jump wide s true to = jumps wide s 0x13 to refl
look_range_jump wide s false to = jumps wide s 0x12 to refl

end_of_look : Sound (byte 0x0F)
unfolding rows
end_of_look = bares 0x0F refl

address_of_object : Sound (byte 0x97)
unfolding rows
address_of_object = ones _ (fits (bare 0x97) refl (λ range. (refl, omega arith, (refl, refl, refl))))

new_cog : Sound (byte 0x34)
unfolding rows
new_cog = bares 0x34 refl

method_call : (number : ℕ) → number < 2 ^ 8 → Sound (with_number 0x05 number)
unfolding rows
method_call number small = one_byte 0x05 number refl small

row_3D : operands_of 0x3D ≡ Some operands.Register
unfolding rows
row_3D = refl

row_3E : operands_of 0x3E ≡ Some operands.Register
unfolding rows
row_3E = refl

row_3F : operands_of 0x3F ≡ Some operands.Register
unfolding rows
row_3F = refl

module _ (n : Names) (few : HaveBytes n) (env : Environment) (same : (name : List ℕ) → n.kind name ≡ kind_in env name) where
  -- a name's variable stands somewhere else than at an address that was pushed
  pub home_placed : (name : List ℕ) (kind : Option NameKind) → IsPlaced (home_of_kind n name kind).base (home_of_kind n name kind).offset
  home_placed name None = tt
  home_placed name (Some (kinds.Method number params)) = tt
  home_placed name (Some (kinds.Const v)) = tt
  home_placed name (Some (kinds.Global size offset)) = tt
  home_placed name (Some (kinds.Local offset)) = tt
  home_placed name (Some (kinds.Label size)) = tt
  home_placed name (Some (kinds.Object item position count)) = tt

  name_sound : (name : List ℕ) (kind : Option NameKind) → IfSome kind HasBytes → Sound (code_of_name n name kind)
  name_sound name None h = plain (home_of n name) Push (home_placed name (n.kind name)) tt
  name_sound name (Some (kinds.Const v)) h = numbers v
  name_sound name (Some (kinds.Method number params)) h = both (marks true false) (method_call number h.0)
  name_sound name (Some (kinds.Global size offset)) h = plain (home_of n name) Push (home_placed name (n.kind name)) tt
  name_sound name (Some (kinds.Local offset)) h = plain (home_of n name) Push (home_placed name (n.kind name)) tt
  name_sound name (Some (kinds.Label size)) h = plain (home_of n name) Push (home_placed name (n.kind name)) tt
  name_sound name (Some (kinds.Object item position count)) h = plain (home_of n name) Push (home_placed name (n.kind name)) tt

  in_sound : (kind : Option NameKind) → IfSome kind HasBytes → (i : Index) (method : List ℕ) → Sound (method_in n kind i method)
  in_sound None h i method = nothings
  in_sound (Some (kinds.Object item position count)) h i method = call_in_sound position count i (method_number (n.public item method)) h.0 h.1 (few.publics item method)
  in_sound (Some (kinds.Const v)) h i method = nothings
  in_sound (Some (kinds.Method number params)) h i method = nothings
  in_sound (Some (kinds.Global size offset)) h i method = nothings
  in_sound (Some (kinds.Local offset)) h i method = nothings
  in_sound (Some (kinds.Label size)) h i method = nothings

  callee_sound : (object : Option (List ℕ)) (i : Index) (method : List ℕ) → Sound (callee n object i method)
  callee_sound None i method = own_sound (n.kind method) (few.kinds method)
  callee_sound (Some object) i method = in_sound (n.kind object) (few.kinds object) i method

  starts_sound : (m : Tree) → starts_method n m ≡ true → ((f : Fault) → ¬ BrokenIn (in_method env) m f) → Sound (starts n m)
  starts_sound (node p (Call false None i method q args)) yes_it clean =
      starts_counted (method_number (n.kind method)) (count_of args) (number_small (n.kind method) (few.kinds method))
      (subst (λ c. c < 2 ^ 8) (counts_same args) (bounded (kind_in env method) (subst (λ k. IfSome k HasBytes) (same method) (few.kinds method)) (count_of_trees args) q (λ f own. clean f (inl own))))
  starts_sound (node p (Call true None i method q args)) yes_it clean = absurd cc
  starts_sound (node p (Call trap (Some object) i method q args)) yes_it clean = absurd cc
  starts_sound (node p (Var (Named name i q))) yes_it clean = starts_counted (method_number (n.kind name)) 0 (number_small (n.kind name) (few.kinds name)) (omega arith)
  starts_sound (node p (Var (Part name size i q))) yes_it clean = absurd cc
  starts_sound (node p (Number v)) yes_it clean = absurd cc
  starts_sound (node p _) yes_it clean = absurd cc

  started_sound : (used : Bool) (m : Tree) → ((f : Fault) → ¬ BrokenIn (in_method env) m f) → Sound (started n used m)
  started_sound used m clean = either_by (starts_method n m) (λ is. both (starts_sound m is clean) (drops used)) (λ is. pasms used)

  constant_sound : (e : Tree) → Sound (constant n e)
  constant_sound e = numbers (or_zero (constants.value n.constants e))

  mutual
    pub value_sound : (e : Tree) → IsProperTree false e → ((f : Fault) → ¬ BrokenIn (in_method env) e f) → Sound (value n e)
    value_sound (node place form) proper clean = form_sound place form proper (λ f b. clean f (inr b))

    form_sound : (place : Place) (form : Form) → IsProperForm false form → ((f : Fault) → ¬ BrokenInside (in_method env) form f) → Sound (value_of_form n place form)
    form_sound place (Number v) proper clean = numbers v
    form_sound place (Str letters) proper clean = texts place (n.text place)
    form_sound place (Strings es) proper clean = texts place (n.text place)
    form_sound place Here proper clean = nothings
    form_sound place (Var (Named name no_index q)) proper clean = name_sound name (n.kind name) (few.kinds name)
    form_sound place (Var (Named name (index e) q)) proper clean = operate_sound (Named name (index e) q) Push proper clean tt
    form_sound place (Var (Part name size i q)) proper clean = operate_sound (Part name size i q) Push proper clean tt
    form_sound place (Var (Memory size e i q)) proper clean = operate_sound (Memory size e i q) Push proper clean tt
    form_sound place (Var (Register address x q)) proper clean = operate_sound (Register address x q) Push proper clean tt
    form_sound place (Call trap object i method q args) proper clean =
        both (both (both (marks true trap) (values_sound args proper.3 (λ f b. clean f (inr b)))) (index_sound i proper.2 (λ f b. clean f (inl b)))) (callee_sound object i method)
    form_sound place (Unary operator e) proper clean = both (value_sound e proper.1 clean) (operator_before operator (unary_bare operator proper.0))
    form_sound place (Binary operator a b) proper clean =
        both (both (value_sound a proper.1 (λ f x. clean f (inl x))) (value_sound b proper.2 (λ f x. clean f (inr x)))) (bares operator (binary_bare operator proper.0))
    form_sound place (Assign v operator e) proper clean =
        both (value_sound e proper.3 (λ f x. clean f (inr x))) (operate_sound v (assigned true operator) proper.2 (λ f x. clean f (inl x)) (assigned_fit true operator proper.0))
    form_sound place (Change v effect) proper clean = operate_sound v (Using (leaving true (effect_for (size_of n v) effect))) proper.2 clean (good_change true (size_of n v) effect proper.0)
    form_sound place (Address v) proper clean = operate_sound v variables.Reference proper.1 clean tt
    form_sound place (ObjectAddress e) proper clean = both (value_sound e proper clean) address_of_object
    form_sound place (ObjConst object name q) proper clean = constant_sound (node place (ObjConst object name q))
    form_sound place (Built c args) proper clean = built_sound true c args (built_inside args c proper.0) proper.1 clean
    form_sound place (Look c e xs) proper clean =
        ups (λ to. both (both (both (value_sound e proper.2 (λ f x. clean f (inl x))) (counted_from c)) (looks_sound (looks_down c) to xs proper.3 (λ f x. clean f (inr x)))) end_of_look)

    pub operate_sound : (v : Variable) (o : Operation) → IsProperVariable false v → ((f : Fault) → ¬ BrokenInVariable (in_method env) v f) → Fit o → Sound (operate n v o)
    operate_sound (Named name i q) o proper clean fit = home_sound (home_of n name) i o (home_placed name (n.kind name)) proper.1 clean fit
    operate_sound (Part name size i q) o proper clean fit = home_sound (sized (home_of n name) size) i o (home_placed name (n.kind name)) proper.2 clean fit
    operate_sound (Memory size e no_index q) o proper clean fit = both (value_sound e proper.1 (λ f x. clean f (inl x))) (memory false (pushed_home size) o refl fit)
    operate_sound (Memory size e (index i) q) o proper clean fit =
        both (both (value_sound e proper.1 (λ f x. clean f (inl x))) (value_sound i proper.2 (λ f x. clean f (inr x)))) (memory true (pushed_home size) o refl fit)
    operate_sound (Register address whole q) o proper clean fit = registers_sound 0x3F address o row_3F proper.0 fit
    operate_sound (Register address (bits (single e)) q) o proper clean fit = both (value_sound e proper.2 clean) (registers_sound 0x3D address o row_3D proper.0 fit)
    operate_sound (Register address (bits (range a b)) q) o proper clean fit =
        both (both (value_sound a proper.2.0 (λ f x. clean f (inl x))) (value_sound b proper.2.1 (λ f x. clean f (inr x)))) (registers_sound 0x3E address o row_3E proper.0 fit)

    home_sound : (home : Home) (i : Index) (o : Operation) → IsPlaced home.base home.offset → IsProperIndex false i → ((f : Fault) → ¬ BrokenInIndex (in_method env) i f) → Fit o → Sound (in_home n home i o)
    home_sound home no_index o placed proper clean fit = plain home o placed fit
    home_sound home (index e) o placed proper clean fit = both (value_sound e proper clean) (memory true home o placed fit)

    values_sound : (es : Trees) → AreProperTrees false es → ((f : Fault) → ¬ BrokenInTrees (in_method env) es f) → Sound (values n es)
    values_sound no_trees proper clean = nothings
    values_sound (es ▷ e) proper clean = both (values_sound es proper.0 (λ f x. clean f (inl x))) (value_sound e proper.1 (λ f x. clean f (inr x)))

    index_sound : (i : Index) → IsProperIndex false i → ((f : Fault) → ¬ BrokenInIndex (in_method env) i f) → Sound (index_value n i)
    index_sound no_index proper clean = nothings
    index_sound (index e) proper clean = value_sound e proper clean

    -- the arguments of a built-in other than CONSTANT are looked at
    pub built_sound : (used : Bool) (c : ℕ) (args : Trees) → IsBuilt args c → AreProperTrees false args → ((f : Fault) → ¬ BrokenInside (in_method env) (Built c args) f) → Sound (call_of_built n used c args)
    built_sound used c no_trees fits_it proper clean = without used c
    built_sound used c (no_trees ▷ e) fits_it proper clean =
        either_by (c == 0) (λ is. constant_sound e) (λ is.
        both (value_sound e proper.1 (λ f x. clean f (inr (ap not is, inr x)))) (made used c (subst (λ t. IsTrue (t || (gives_value c || gives_no_value c))) is fits_it)))
    built_sound used c (no_trees ▷ a ▷ b) fits_it proper clean =
        either (not (c == 0x2C))
        (both (both (value_sound a proper.0.1 (λ f x. clean f (inr (not_constant c fits_it, inl (inr x))))) (value_sound b proper.1 (λ f x. clean f (inr (not_constant c fits_it, inr x))))) (made used c fits_it))
        (both (both (both new_cog (either (starts_method n a) (arguments_sound a proper.0.1 (λ f x. clean f (inr (not_constant c fits_it, inl (inr x))))) (value_sound a proper.0.1 (λ f x. clean f (inr (not_constant c fits_it, inl (inr x)))))))
        (value_sound b proper.1 (λ f x. clean f (inr (not_constant c fits_it, inr x))))) (started_sound used a (λ f x. clean f (inr (not_constant c fits_it, inl (inr x))))))
    built_sound used c (no_trees ▷ a ▷ b ▷ d) fits_it proper clean =
        either (not (c == 0x28))
        (both (both (both (value_sound a proper.0.0.1 (λ f x. clean f (inr (not_constant c fits_it, inl (inl (inr x)))))) (value_sound b proper.0.1 (λ f x. clean f (inr (not_constant c fits_it, inl (inr x)))))) (value_sound d proper.1 (λ f x. clean f (inr (not_constant c fits_it, inr x))))) (made used c fits_it))
        (both (both (both (value_sound a proper.0.0.1 (λ f x. clean f (inr (not_constant c fits_it, inl (inl (inr x)))))) (either (starts_method n b) (arguments_sound b proper.0.1 (λ f x. clean f (inr (not_constant c fits_it, inl (inr x))))) (value_sound b proper.0.1 (λ f x. clean f (inr (not_constant c fits_it, inl (inr x)))))))
        (value_sound d proper.1 (λ f x. clean f (inr (not_constant c fits_it, inr x))))) (started_sound used b (λ f x. clean f (inr (not_constant c fits_it, inl (inr x))))))
    built_sound used c (es ▷ e) fits_it proper clean =
        both (both (values_sound es proper.0 (λ f x. clean f (inr (not_constant c fits_it, inl x)))) (value_sound e proper.1 (λ f x. clean f (inr (not_constant c fits_it, inr x))))) (made used c fits_it)

    arguments_sound : (m : Tree) → IsProperTree false m → ((f : Fault) → ¬ BrokenIn (in_method env) m f) → Sound (arguments n m)
    arguments_sound (node p (Call trap object i method q args)) proper clean = values_sound args proper.3 (λ f x. clean f (inr (inr x)))
    arguments_sound _ proper clean = nothings

    looks_sound : (down : Bool) (to : ℕ) (xs : Items) → AreProperItems false xs → ((f : Fault) → ¬ BrokenInItems (in_method env) xs f) → Sound (looks n down to xs)
    looks_sound down to no_items proper clean = nothings
    looks_sound down to (xs ▸ single e) proper clean =
        both (both (looks_sound down to xs proper.0 (λ f x. clean f (inl x))) (value_sound e proper.1 (λ f x. clean f (inr x)))) (look_jump n.wide n.statement down to)
    looks_sound down to (xs ▸ range a b) proper clean =
        both (both (both (looks_sound down to xs proper.0 (λ f x. clean f (inl x))) (value_sound a proper.1.0 (λ f x. clean f (inr (inl x))))) (value_sound b proper.1.1 (λ f x. clean f (inr (inr x))))) (look_range_jump n.wide n.statement down to)

  change_fit : (size effect : ℕ) → IsTrue (is_change effect || is_operator_alone effect) → Fit (Using (effect_for size effect))
  change_fit size effect h = go (is_change effect) refl
    where
      go : (t : Bool) → is_change effect ≡ t → Fit (Using (effect_for size effect))
      go true is = good_change false size effect is
      go false is = good_operator_alone size effect (subst (λ t. IsTrue (t || is_operator_alone effect)) is h)

  pub alone_sound : (place : Place) (form : Form) → IsDoneForm form → ((f : Fault) → ¬ MisuseDone env (name_alone (node place form)) (node place form) f) → Sound (alone n (node place form))
  alone_sound place (Var (Named name no_index q)) proper clean = both (marks false false) (own_sound (n.kind name) (few.kinds name))
  alone_sound place (Var (Named name (index e) q)) proper clean = absurd proper
  alone_sound place (Var (Part name size i q)) proper clean = absurd proper
  alone_sound place (Var (Memory size e i q)) proper clean = absurd proper
  alone_sound place (Var (Register address x q)) proper clean = absurd proper
  alone_sound place (Call trap object i method q args) proper clean =
      both (both (both (marks false trap) (values_sound args proper.3 (λ f b. clean f (inr (inr b))))) (index_sound i proper.2 (λ f b. clean f (inr (inl b))))) (callee_sound object i method)
  alone_sound place (Assign v operator e) proper clean =
      both (value_sound e proper.3 (λ f x. clean f (inr (inr x)))) (operate_sound v (assigned false operator) proper.2 (λ f x. clean f (inr (inl x))) (assigned_fit false operator proper.0))
  alone_sound place (Change v effect) proper clean = operate_sound v (Using (effect_for (size_of n v) effect)) proper.2 (λ f x. clean f (inr x)) (change_fit (size_of n v) effect proper.0)
  alone_sound place (Built c args) proper clean = built_sound false c args (built_alone_is args c proper.0) proper.1 (λ f x. clean f (inr x))
  alone_sound place (Number v) proper clean = absurd proper
  alone_sound place _ proper clean = absurd proper

  pub alone_whole : (e : Tree) → IsDone e → ((f : Fault) → ¬ MisuseDone env (name_alone e) e f) → Sound (alone n e)
  alone_whole (node place form) proper clean = alone_sound place form proper.0 clean
