-- The code of each form of an expression, by what it holds.
use Rattle.std.proofs.Common.{◌≡◌, refl, sym, ap, ◌∙◌, subst, arith, ℕ, ◌+◌, ◌-◌, ◌^◌, ◌≤◌, max, ◌==◌, ◌&&◌, ◌||◌, Bool, true, false, not, if◌then◌else◌, inl, inr, nat_le, nat_lt, List, [], ◌∷◌, length-append, Option, Some, None}
use Rattle.std.specs.Prelude.{IsTrue}
use Rattle.p8_tree.specs.declared.places.Place.{Place}
use Rattle.p8_tree.specs.Expressions.{Tree, node, Form, Number, Str, Strings, Here, Var, Call, Unary, Binary, Assign, Change, Address, ObjectAddress, ObjConst, Built, Look, Variable, Named, Part, Memory, Register, Index, no_index, index, whole, bits, single, range, Trees, no_trees, ◌▷◌, Items, no_items, ◌▸◌}
use Rattle.p8_tree.specs.Lists.{tree_list, count_of_trees}
use Rattle.p8_tree.specs.Proper as proper
use Rattle.p8_tree.specs.Proper.{IfThere, is_binary, is_change, is_operator_alone, gives_value, gives_no_value, arguments_fit, arguments_fit_alone, IsProperTree, IsProperForm, IsProperVariable, IsProperIndex, AreProperTrees, AreProperItems, IsDoneForm, IsDone}
use Rattle.p8_tree.specs.declared.faults.Fault.{Fault}
use Rattle.p8_tree.specs.Faults.{fault}
use Rattle.p8_tree.specs.declared.refusal.Refusal.TheVariants.{Unknown, WrongKind, WrongArity}
use Rattle.p8_words.specs.Operators.{or_zero}
use Rattle.p8_bytecode.specs.declared.op.Op.{Op}
use Rattle.p8_bytecode.specs.Reading.{bare}
use Rattle.p8_bytecode.specs.Table.{rows}
use Rattle.p8_fold.specs.Values as constants
use Rattle.p8_kinds.specs.Uses.{argument_count}
use Rattle.p8_kinds.specs.declared.name_kinds.NameKind.{NameKind}
use Rattle.p8_kinds.specs.declared.name_kinds.NameKind.TheVariants as kinds
use Rattle.p8_kinds.specs.declared.uses.Use.TheVariants as used_as
use Rattle.p8_kinds.specs.Environments.{Environment, kind_in}
use Rattle.p8_kinds.specs.Misuses.{misuse, misuse_behind, misuse_of_call, misuse_of_arguments, in_method, BrokenIn, BrokenInside, BrokenInVariable, BrokenInIndex, BrokenInTrees, BrokenInItems, name_alone, MisuseDone}
use Rattle.p8_gen.specs.Names.{Names}
use Rattle.p8_gen.specs.Pieces.{Piece, nothing, one, ◌⨾◌, byte, with_number}
use Rattle.p8_gen.specs.Variables.{number, Home, Base, Pushed, OfFrame, home_of, home_of_kind, Operation, Push, Using, Reference, plain_op, effect_for, assigned}
use Rattle.p8_gen.specs.Variables as variables
use Rattle.p8_gen.specs.Expressions.{count_of, mark, own_method, method_number, method_in, callee, constant, name_alone as code_of_name, built_value, built, dropped, built_without, starts_method, is_method, starts, pasm, started, looks_down, counts_from, sized, pushed_home, size_of, value, value_of_form, operate, in_home, values, index_value, call_of_built, arguments, looks, alone}
use Rattle.p8_gen.specs.Depths.{over, arguments_of, held, held_by, held_by_naming, held_by_index, held_by_trees, held_by_items, held_by_built, held_by_arguments, held_alone}
use Rattle.p8_gen.proofs.ByteTables.{equal, one_of}
use Rattle.p8_gen.proofs.Widths.{value-alike, looks-alike, counts-alike}
use Rattle.p8_gen.proofs.Widths as widths
use Rattle.p8_depth.specs.Stack.{Opens, Calls, Works, Jumps, column}
use Rattle.p8_depth.specs.Stack as stack
use Rattle.p8_depth.proofs.Along as along
use Rattle.p8_depth.proofs.Along.{Whole, left_by}
use Rattle.p8_depth.proofs.Columns.{named, IsBased, memory-is, plain-is, one-pin-is, some-pins-is, all-pins-is, Does, pushes, pops, refers, operates, writes-left, changes, changes-alone, unary-is, binary-is}

-- ---- how much is held

pub over-is : (b k : ℕ) → 1 ≤ k → over b k ≡ b + k
over-is b k some = go (k == 0) refl
  where
    go : (t : Bool) → (k == 0) ≡ t → (if t then 0 else b + k) ≡ b + k
    go true is = absurd (let none : k ≡ 0 = equal k 0 is in omega (arith, none, some))
    go false is = refl

module _ (n : Names) where
  pub some-held : (e : Tree) → 1 ≤ held n e
  some-held (node p (Number v)) = omega arith
  some-held (node p (Str v)) = omega arith
  some-held (node p (Strings es)) = omega arith
  some-held (node p Here) = omega arith
  some-held (node p (Var v)) = omega arith
  some-held (node p (Call trap object i method q args)) = omega arith
  some-held (node p (Unary operator e)) = some-held e
  some-held (node p (Binary operator a b)) = omega arith
  some-held (node p (Assign v operator e)) = omega arith
  some-held (node p (Change v effect)) = omega arith
  some-held (node p (Address v)) = omega arith
  some-held (node p (ObjectAddress e)) = some-held e
  some-held (node p (ObjConst object name q)) = omega arith
  some-held (node p (Built code args)) = omega arith
  some-held (node p (Look code e xs)) = omega arith

-- ---- what is known of names that are used well

none-there : {X : Type 0} (o : Option X) → ((x : X) → ¬ (o ≡ Some x)) → o ≡ None
none-there None no_fault = refl
none-there (Some x) no_fault = absurd (no_fault x refl)

-- a piece that is a call's bytecode alone
record IsCall (a : Piece) : Type 0 where
  op : Op
  is : a ≡ one op
  calls : column op ≡ Calls

own-call : (kind : Option NameKind) (count : ℕ) (place : Place) → ((f : Fault) → ¬ (misuse (used_as.Method count) kind place ≡ Some f)) → IsCall (own_method kind)
unfolding stack.rows
own-call (Some (kinds.Method number params)) count place clean = record { op = record (bare 0x05) { first = number }; is = refl; calls = refl }
own-call None count place clean = absurd (clean (fault Unknown place) refl)
own-call (Some (kinds.Const v)) count place clean = absurd (clean (fault WrongKind place) refl)
own-call (Some (kinds.Global size offset)) count place clean = absurd (clean (fault WrongKind place) refl)
own-call (Some (kinds.Local offset)) count place clean = absurd (clean (fault WrongKind place) refl)
own-call (Some (kinds.Label size)) count place clean = absurd (clean (fault WrongKind place) refl)
own-call (Some (kinds.Object item position instances)) count place clean = absurd (clean (fault WrongKind place) refl)

module _ (n : Names) (env : Environment) (same : (name : List ℕ) → n.kind name ≡ kind_in env name) where
  object-call : (kind : Option NameKind) (i : Index) (method : List ℕ) (count : ℕ) (p q : Place) → ((f : Fault) → ¬ (misuse_behind env kind method count p q ≡ Some f)) → IsCall (method_in n kind i method)
  unfolding stack.rows
  object-call (Some (kinds.Object item position instances)) no_index method count p q clean = record { op = record (bare 0x06) { first = position; second = method_number (n.public item method) }; is = refl; calls = refl }
  object-call (Some (kinds.Object item position instances)) (index e) method count p q clean =
      record { op = record (bare 0x07) { first = position; second = instances; third = method_number (n.public item method) }; is = refl; calls = refl }
  object-call None i method count p q clean = absurd (clean (fault Unknown p) refl)
  object-call (Some (kinds.Const v)) i method count p q clean = absurd (clean (fault WrongKind p) refl)
  object-call (Some (kinds.Global size offset)) i method count p q clean = absurd (clean (fault WrongKind p) refl)
  object-call (Some (kinds.Local offset)) i method count p q clean = absurd (clean (fault WrongKind p) refl)
  object-call (Some (kinds.Label size)) i method count p q clean = absurd (clean (fault WrongKind p) refl)
  object-call (Some (kinds.Method number params)) i method count p q clean = absurd (clean (fault WrongKind p) refl)

  any-call : (object : Option (List ℕ)) (i : Index) (method : List ℕ) (count : ℕ) (p q : Place) → ((f : Fault) → ¬ (misuse_of_call env object method count p q ≡ Some f)) → IsCall (callee n object i method)
  any-call None i method count p q clean = subst (λ k. IsCall (own_method k)) (sym (same method)) (own-call (kind_in env method) count q clean)
  any-call (Some object) i method count p q clean = subst (λ k. IsCall (method_in n k i method)) (sym (same object)) (object-call (kind_in env object) i method count p q clean)

counts-same : (es : Trees) → count_of es ≡ count_of_trees es
counts-same no_trees = refl
counts-same (es ▷ e) = let more = length-append (tree_list es) (e ∷ []) in omega (arith, more, counts-same es)

arguments-are : (code : ℕ) (args : Trees) (place : Place) → ((f : Fault) → ¬ (misuse_of_arguments code (count_of_trees args) place ≡ Some f)) → count_of args ≡ argument_count code
arguments-are code args place clean = counts-same args ∙ equal (count_of_trees args) (argument_count code) (go (count_of_trees args == argument_count code) (none-there _ clean))
  where
    go : (t : Bool) → constants.where_so (not t) (fault WrongArity place) ≡ None → t ≡ true
    go true is = refl
    go false is = absurd cc

-- a built-in whose value may be used
abbrev FitsUse : (used : Bool) → ℕ → Type 0
FitsUse used code = IsTrue (gives_value code || (not used && gives_no_value code))

module _ (m : Whole) where
  abbrev F : Option (ℕ × ℕ) → Piece → (i j k : ℕ) → Type 0
  F out a i j k = along.Flows m out a i j k

  bytes : {out : Option (ℕ × ℕ)} (code t l : ℕ) → column (bare code) ≡ Works t l → F out (byte code) t l (max t l)
  bytes code t l is = along.works m (bare code) t l is

  -- ---- numbers, and single bytecodes

  number-flows : {out : Option (ℕ × ℕ)} (v : ℕ) → F out (number v) 0 1 1
  unfolding stack.rows
  number-flows v =
      along.either m (v == 0) (bytes 0x35 0 1 refl) (along.either m (v == 1) (bytes 0x36 0 1 refl) (along.either m (v == 2 ^ 32 - 1) (bytes 0x34 0 1 refl)
      (along.either m (nat_lt v (2 ^ 8)) (along.works m (record (bare 0x38) { first = v }) 0 1 refl) (along.either m (nat_lt v (2 ^ 16)) (along.works m (record (bare 0x39) { first = v }) 0 1 refl)
      (along.either m (nat_lt v (2 ^ 24)) (along.works m (record (bare 0x3A) { first = v }) 0 1 refl) (along.works m (record (bare 0x3B) { first = v }) 0 1 refl))))))

  drops : {out : Option (ℕ × ℕ)} (used : Bool) → F out (dropped used) 1 (left_by used) 1
  unfolding stack.rows
  drops true = along.nothings m 1
  drops false = bytes 0x14 1 0 refl

  -- a call, by what is pushed behind its mark
  opens : (used trap : Bool) → column (bare ((if used then 0 else 1) + (if trap then 2 else 0))) ≡ Opens used
  unfolding stack.rows
  opens true true = refl
  opens true false = refl
  opens false true = refl
  opens false false = refl

  marked : {out : Option (ℕ × ℕ)} {a c : Piece} {i k : ℕ} (used trap : Bool) → IsCall c → F None a 0 i k → F out (mark used trap ⨾ a ⨾ c) 0 (left_by used) (max k (left_by used))
  marked {out} {a} {c} {i} {k} used trap is f = subst (λ (c : Piece). F out (mark used trap ⨾ a ⨾ c) 0 (left_by used) (max k (left_by used))) (sym is.is) (along.calls m _ is.op used (opens used trap) is.calls f)

  -- ---- built-ins

  value-word : {out : Option (ℕ × ℕ)} (code : ℕ) → F out (built_value code) 0 1 1
  unfolding stack.rows
  value-word code =
      along.either m (code == 0x3F) (along.works m (record (bare 0x3F) { first = 0x89 }) 0 1 refl) (along.either m (code == 0xC0) (along.both m (bytes 0x35 0 1 refl) (bytes 0xC0 1 1 refl))
      (along.both m (along.works m (record (bare 0x38) { first = 4 }) 0 1 refl) (bytes 0x80 1 1 refl)))

  abbrev IsBuilt : (used : Bool) → ℕ → Type 0
  IsBuilt used code = (code == 0x28) ≡ false → (code == 0x2C) ≡ false → F None (built used code) (argument_count code) (left_by used) (max (argument_count code) (left_by used))

  used-built : (code : ℕ) → IsTrue (gives_value code) → IsBuilt true code
  unfolding stack.rows
  used-built code h =
      one_of (IsBuilt true) (0x16 ∷ 0x17 ∷ 0x28 ∷ 0x29 ∷ 0x2A ∷ 0x2B ∷ 0x2C ∷ []) code h
      ((λ a b. bytes 0x16 1 1 refl), ((λ a b. bytes 0x17 2 1 refl), ((λ a b. absurd cc), ((λ a b. bytes 0x29 0 1 refl), ((λ a b. bytes 0x2A 1 1 refl), ((λ a b. bytes 0x2B 1 1 refl), ((λ a b. absurd cc), tt)))))))

  alone-built : (code : ℕ) → IsTrue (gives_value code) → IsBuilt false code
  unfolding stack.rows
  alone-built code h =
      one_of (IsBuilt false) (0x16 ∷ 0x17 ∷ 0x28 ∷ 0x29 ∷ 0x2A ∷ 0x2B ∷ 0x2C ∷ []) code h
      ((λ a b. along.both m (bytes 0x16 1 1 refl) (bytes 0x14 1 0 refl)), ((λ a b. along.both m (bytes 0x17 2 1 refl) (bytes 0x14 1 0 refl)), ((λ a b. absurd cc), ((λ a b. bytes 0x2D 0 0 refl), ((λ a b. bytes 0x2E 1 0 refl), ((λ a b. bytes 0x2F 1 0 refl), ((λ a b. absurd cc), tt)))))))

  alone-only : (code : ℕ) → IsTrue (gives_no_value code) → IsBuilt false code
  unfolding stack.rows
  alone-only code h =
      one_of (IsBuilt false) (0x18 ∷ 0x19 ∷ 0x1A ∷ 0x1B ∷ 0x1C ∷ 0x1D ∷ 0x1E ∷ 0x1F ∷ 0x21 ∷ 0x22 ∷ 0x23 ∷ []) code h
      ((λ a b. bytes 0x18 3 0 refl), ((λ a b. bytes 0x19 3 0 refl), ((λ a b. bytes 0x1A 3 0 refl), ((λ a b. bytes 0x1B 3 0 refl), ((λ a b. bytes 0x1C 3 0 refl), ((λ a b. bytes 0x1D 3 0 refl), ((λ a b. bytes 0x1E 3 0 refl), ((λ a b. bytes 0x1F 3 0 refl), ((λ a b. bytes 0x21 1 0 refl), ((λ a b. bytes 0x22 1 0 refl), ((λ a b. bytes 0x23 1 0 refl), tt)))))))))))

  built-flows : (used : Bool) (code : ℕ) → FitsUse used code → IsBuilt used code
  built-flows used code fits = go (gives_value code) refl used fits
    where
      go : (t : Bool) → gives_value code ≡ t → (used : Bool) → FitsUse used code → IsBuilt used code
      go true is true fits = used-built code is
      go true is false fits = alone-built code is
      go false is true fits = absurd (let never : (gives_value code || false) ≡ true = fits in let none : (false || false) ≡ true = subst (λ t. (t || false) ≡ true) is never in cc)
      go false is false fits = alone-only code (subst (λ t. IsTrue (t || gives_no_value code)) is fits)

  with-count : (used : Bool) (code count : ℕ) → count ≡ argument_count code → FitsUse used code → (code == 0x28) ≡ false → (code == 0x2C) ≡ false → F None (built used code) count (left_by used) (max count (left_by used))
  with-count used code count is fits a b = subst (λ c. F None (built used code) c (left_by used) (max c (left_by used))) (sym is) (built-flows used code fits a b)

  without : (used : Bool) (code : ℕ) → F None (built_without used code) 0 (left_by used) (max (left_by used) (if code == 0x29 then 0 else 1))
  unfolding stack.rows
  without used code = go (code == 0x29) refl used
    where
      go : (t : Bool) → (code == 0x29) ≡ t → (used : Bool) → F None (if t then built used code else built_value code ⨾ dropped used) 0 (left_by used) (max (left_by used) (if t then 0 else 1))
      go true is true = subst (λ c. F None (built true c) 0 1 1) (sym (equal code 0x29 is)) (bytes 0x29 0 1 refl)
      go true is false = subst (λ c. F None (built false c) 0 0 0) (sym (equal code 0x29 is)) (bytes 0x2D 0 0 refl)
      go false is true = along.both m (value-word code) (drops true)
      go false is false = along.both m (value-word code) (drops false)

  pasm-flows : (used : Bool) → F None (pasm used) 3 (left_by used) 3
  unfolding stack.rows
  pasm-flows true = bytes 0x28 3 1 refl
  pasm-flows false = bytes 0x2C 3 0 refl

  -- ---- items of LOOK

  item-jump : (down : Bool) → along.IsJump m (if down then 0x11 else 0x10) (Jumps 3 2 1)
  unfolding rows stack.rows
  item-jump true = record { operands = refl; column = λ wide off. refl; low = refl }
  item-jump false = record { operands = refl; column = λ wide off. refl; low = refl }

  range-jump : (down : Bool) → along.IsJump m (if down then 0x13 else 0x12) (Jumps 4 2 1)
  unfolding rows stack.rows
  range-jump true = record { operands = refl; column = λ wide off. refl; low = refl }
  range-jump false = record { operands = refl; column = λ wide off. refl; low = refl }

  counted-from : {out : Option (ℕ × ℕ)} (code : ℕ) → F out (counts_from code) 0 1 1
  unfolding stack.rows
  counted-from code = along.either m (nat_le 0x12 code) (bytes 0x35 0 1 refl) (bytes 0x36 0 1 refl)

  look-end : {out : Option (ℕ × ℕ)} → F out (byte 0x0F) 2 1 2
  unfolding stack.rows
  look-end = bytes 0x0F 2 1 refl

  new-cog : F None (byte 0x34) 0 1 1
  unfolding stack.rows
  new-cog = bytes 0x34 0 1 refl

-- ---- counts

left-few : (used : Bool) → left_by used ≤ 1
left-few true = omega arith
left-few false = omega arith

few-arguments : (code : ℕ) → argument_count code ≤ 3
few-arguments code = go (proper.is_one_of (0x00 ∷ 0x16 ∷ 0x21 ∷ 0x22 ∷ 0x23 ∷ 0x2A ∷ 0x2B ∷ []) code) (proper.is_one_of (0x17 ∷ 0x2C ∷ []) code) (proper.is_one_of (0x18 ∷ 0x19 ∷ 0x1A ∷ 0x1B ∷ 0x1C ∷ 0x1D ∷ 0x1E ∷ 0x1F ∷ 0x28 ∷ []) code)
  where
    go : (a b c : Bool) → (if a then 1 else if b then 2 else if c then 3 else 0) ≤ 3
    go true b c = omega arith
    go false true c = omega arith
    go false false true = omega arith
    go false false false = omega arith

-- a code with another number of arguments is another one
other-code : (code k count : ℕ) → count ≡ argument_count code → ¬ (count ≡ argument_count k) → (code == k) ≡ false
other-code code k count is other = go (code == k) refl
  where
    go : (t : Bool) → (code == k) ≡ t → t ≡ false
    go true same = absurd (other (is ∙ ap argument_count (equal code k same)))
    go false same = refl

-- the arguments of a built-in fit its use
abbrev FitsArguments : (used : Bool) → Trees → ℕ → Type 0
FitsArguments used no_trees code = Unit {0}
FitsArguments used (no_trees ▷ e) code = IsTrue ((used && (code == 0)) || (gives_value code || (not used && gives_no_value code)))
FitsArguments used (es ▷ e) code = FitsUse used code

or-none : (a : Bool) → IsTrue a → IsTrue (a || false)
or-none true h = refl
or-none false h = h

fits-inside : (args : Trees) (code : ℕ) → IsTrue (arguments_fit args code) → FitsArguments true args code
fits-inside no_trees code h = tt
fits-inside (no_trees ▷ e) code h = go (code == 0) h
  where
    go : (t : Bool) → IsTrue (t || gives_value code) → IsTrue (t || (gives_value code || false))
    go true h = refl
    go false h = or-none (gives_value code) h
fits-inside (no_trees ▷ d ▷ e) code h = or-none (gives_value code) h
fits-inside (es ▷ c ▷ d ▷ e) code h = or-none (gives_value code) h

fits-alone : (args : Trees) (code : ℕ) → IsTrue (arguments_fit_alone args code) → FitsArguments false args code
fits-alone no_trees code h = tt
fits-alone (no_trees ▷ e) code h = h
fits-alone (no_trees ▷ d ▷ e) code h = h
fits-alone (es ▷ c ▷ d ▷ e) code h = h

named-one : (base : Base) → IsBased base → named true base ≡ 1
named-one Pushed based = absurd based
named-one variables.OfObject based = refl
named-one variables.OfVariables based = refl
named-one OfFrame based = refl

either-most : (t : Bool) (h a b : ℕ) → max h (if t then a else b) ≡ (if t then max h a else max h b)
either-most true h a b = refl
either-most false h a b = refl

some-begun : (t : Bool) (a b c d : ℕ) → 1 ≤ (if t then max (1 + a) (1 + b + d) else max (1 + c) (2 + d))
some-begun true a b c d = omega arith
some-begun false a b c d = omega arith

assign-does : (used : Bool) (operator : Option ℕ) → IfThere (λ k. IsTrue (is_binary k)) operator → Does (assigned used operator) 1 (left_by used)
assign-does true None h = writes-left
assign-does false None h = pops
assign-does used (Some k) h = operates used k h

change-does : (size effect : ℕ) → IsTrue (is_change effect || is_operator_alone effect) → Does (Using (effect_for size effect)) 0 0
change-does size effect h = go (is_change effect) refl
  where
    go : (t : Bool) → is_change effect ≡ t → Does (Using (effect_for size effect)) 0 0
    go true is = (changes size effect is).1
    go false is = changes-alone size effect (subst (λ t. IsTrue (t || is_operator_alone effect)) is h)

-- ---- expressions

-- the names of a statement, and those of the method, by which it is told what is held
module _ (m : Whole) (n h : Names) (env : Environment) (same : (name : List ℕ) → n.kind name ≡ kind_in env name) (kinds_same : (name : List ℕ) → n.kind name ≡ h.kind name) where
  abbrev V : Option (ℕ × ℕ) → Piece → (i j k : ℕ) → Type 0
  V out a i j k = along.Flows m out a i j k

  abbrev pub Clean : Tree → Type 0
  Clean e = (f : Fault) → ¬ BrokenIn (in_method env) e f

  based : (name : List ℕ) (kind : Option NameKind) → IsBased (home_of_kind n name kind).base
  based name None = tt
  based name (Some (kinds.Method number params)) = tt
  based name (Some (kinds.Const v)) = tt
  based name (Some (kinds.Global size offset)) = tt
  based name (Some (kinds.Local offset)) = tt
  based name (Some (kinds.Label size)) = tt
  based name (Some (kinds.Object item position count)) = tt

  pub home-based : (name : List ℕ) → IsBased (home_of n name).base
  home-based name = based name (n.kind name)

  -- what is done with a variable that so many longs name
  acts : {out : Option (ℕ × ℕ)} (op : Op) (k t l : ℕ) (o : Operation) → column op ≡ stack.on_variable k (variables.action_of o) (variables.effect_of o) → Does o t l → V out (one op) (k + t) l (max (k + t) l)
  acts op k t l o is does = along.works m op (k + t) l (is ∙ does.by k)

  pub acts-plain : {out : Option (ℕ × ℕ)} (home : Home) (t l : ℕ) (o : Operation) → IsBased home.base → Does o t l → V out (one (plain_op home o)) t l (max t l)
  acts-plain home t l o is does = along.works m (plain_op home o) t l (plain-is home is o (plain_op home o).second (plain_op home o).long_form ∙ does.by 0 ∙ ap (λ k. Works k l) (let none : 0 + t ≡ t = omega arith in none))

  constant-flows : (e : Tree) → V None (constant n e) 0 1 1
  constant-flows e = number-flows m (or_zero (constants.value n.constants e))

  name-flows : (name : List ℕ) (kind : Option NameKind) → V None (code_of_name n name kind) 0 1 1
  unfolding stack.rows
  name-flows name None = acts-plain (home_of n name) 0 1 Push (home-based name) pushes
  name-flows name (Some (kinds.Const v)) = number-flows m v
  name-flows name (Some (kinds.Method number params)) =
      along.told-as m (marked m {a = nothing} {c = with_number 0x05 number} true false (record { op = record (bare 0x05) { first = number }; is = refl; calls = refl }) (along.nothings m 0)) (omega arith)
  name-flows name (Some (kinds.Global size offset)) = acts-plain (home_of n name) 0 1 Push (home-based name) pushes
  name-flows name (Some (kinds.Local offset)) = acts-plain (home_of n name) 0 1 Push (home-based name) pushes
  name-flows name (Some (kinds.Label size)) = acts-plain (home_of n name) 0 1 Push (home-based name) pushes
  name-flows name (Some (kinds.Object item position count)) = acts-plain (home_of n name) 0 1 Push (home-based name) pushes

  starts-flows : (e : Tree) → starts_method n e ≡ true → V None (starts n e) (arguments_of e + 2) 1 (max (arguments_of e + 2) 1)
  starts-flows (node p (Call trap object i method q args)) is = along.works m _ (count_of args + 2) 1 refl
  starts-flows (node p (Var (Named name no_index q))) is = along.works m _ 2 1 refl
  starts-flows (node p (Var (Named name (index e) q))) is = absurd cc
  starts-flows (node p (Var (Part name size i q))) is = absurd cc
  starts-flows (node p (Number v)) is = absurd cc
  starts-flows (node p _) is = absurd cc

  same-starts : (e : Tree) → starts_method n e ≡ starts_method h e
  same-starts (node p (Call trap object i method q args)) = refl
  same-starts (node p (Var (Named name no_index q))) = ap is_method (kinds_same name)
  same-starts (node p (Var (Named name (index e) q))) = refl
  same-starts (node p (Var (Part name size i q))) = refl
  same-starts (node p (Number v)) = refl
  same-starts (node p _) = refl

  -- a value above some longs
  over-longs : {out : Option (ℕ × ℕ)} {a : Piece} {k : ℕ} (d : ℕ) {y : ℕ} → V None a 0 1 k → d + 1 ≡ y → V out a d y (d + k)
  over-longs d f is = along.above m d f (omega arith) is refl

  -- the start of a method or of PASM, after the number of the cog
  start-flows : (used : Bool) (a b : Tree) (t u : Bool) → starts_method n a ≡ t → t ≡ u → V None (value n a) 0 1 (held h a) → V None (arguments n a) 0 (arguments_of a) (held_by_arguments h a) → V None (value n b) 0 1 (held h b) →
      V None ((if t then arguments n a else value n a) ⨾ value n b ⨾ (if t then starts n a ⨾ dropped used else pasm used)) 1 (left_by used)
      (if u then max (1 + held_by_arguments h a) (1 + arguments_of a + held h b) else max (1 + held h a) (2 + held h b))
  start-flows used a b true true is so f args g =
      let some = some-held h b in
      along.told-as m
      (along.both m (along.both m (along.above m 1 args (omega arith) refl refl) (over-longs (1 + arguments_of a) g (omega arith))) (along.both m (starts-flows a is) (drops m used)))
      (omega (arith, some))
  start-flows used a b false false is so f args g =
      let some = some-held h b in
      along.told-as m (along.both m (along.both m (over-longs 1 f refl) (over-longs 2 g refl)) (pasm-flows m used)) (omega (arith, some))
  start-flows used a b true false is so f args g = absurd cc
  start-flows used a b false true is so f args g = absurd cc

  one-argument : (used : Bool) (c : ℕ) (e : Tree) (t : Bool) → (c == 0) ≡ t → FitsArguments used (no_trees ▷ e) c → 1 ≡ argument_count c → (t ≡ false → V None (value n e) 0 1 (held h e)) →
      V None (if t then constant n e else value n e ⨾ built used c) 0 (left_by used) (max (left_by used) (if t then 1 else held h e))
  one-argument true c e true is fits count f = constant-flows e
  one-argument false c e true is fits count f = absurd (let never : IsTrue (gives_value 0 || gives_no_value 0) = subst (λ c. IsTrue (gives_value c || gives_no_value c)) (equal c 0 is) fits in cc)
  one-argument used c e false is fits count f =
      let some = some-held h e in
      let few = left-few used in
      along.told-as m (along.both m (f refl) (with-count m used c 1 count (behind-zero used (c == 0) is fits) (other-code c 0x28 1 count (λ same. absurd cc)) (other-code c 0x2C 1 count (λ same. absurd cc)))) (omega (arith, some, few))
    where
      behind-zero : (used t : Bool) → t ≡ false → IsTrue ((used && t) || (gives_value c || (not used && gives_no_value c))) → FitsUse used c
      behind-zero true false is h = h
      behind-zero false false is h = h
      behind-zero used true is h = absurd cc

  two-arguments : (used : Bool) (c : ℕ) (a b : Tree) (t : Bool) → (c == 0x2C) ≡ t → FitsUse used c → 2 ≡ argument_count c → V None (value n a) 0 1 (held h a) → V None (arguments n a) 0 (arguments_of a) (held_by_arguments h a) → V None (value n b) 0 1 (held h b) →
      V None (if not t then value n a ⨾ value n b ⨾ built used c else byte 0x34 ⨾ (if starts_method n a then arguments n a else value n a) ⨾ value n b ⨾ started n used a) 0 (left_by used)
      (max (left_by used) (if not t then max (held h a) (1 + held h b) else if starts_method h a then max (1 + held_by_arguments h a) (1 + arguments_of a + held h b) else max (1 + held h a) (2 + held h b)))
  two-arguments used c a b true is fits count f args g =
      let begun = start-flows used a b (starts_method n a) (starts_method h a) refl (same-starts a) f args g in
      let few = left-few used in
      let most = begun.high in
      let least : 1 ≤ (if starts_method h a then max (1 + held_by_arguments h a) (1 + arguments_of a + held h b) else max (1 + held h a) (2 + held h b)) = some-begun (starts_method h a) (held_by_arguments h a) (arguments_of a) (held h a) (held h b) in
      along.told-as m (along.both m (new-cog m) begun) (omega (arith, least, most, few))
  two-arguments used c a b false is fits count f args g =
      let some = some-held h b in
      let few = left-few used in
      along.told-as m (along.both m (along.both m f (over-longs 1 g refl)) (with-count m used c 2 count fits (other-code c 0x28 2 count (λ same. absurd cc)) is)) (omega (arith, some, few))

  three-arguments : (used : Bool) (c : ℕ) (id a b : Tree) (t : Bool) → (c == 0x28) ≡ t → FitsUse used c → 3 ≡ argument_count c → V None (value n id) 0 1 (held h id) → V None (value n a) 0 1 (held h a) → V None (arguments n a) 0 (arguments_of a) (held_by_arguments h a) → V None (value n b) 0 1 (held h b) →
      V None (if not t then value n id ⨾ value n a ⨾ value n b ⨾ built used c else value n id ⨾ (if starts_method n a then arguments n a else value n a) ⨾ value n b ⨾ started n used a) 0 (left_by used)
      (max (left_by used) (if t && starts_method h a then max (held h id) (max (1 + held_by_arguments h a) (1 + arguments_of a + held h b)) else max (held h id) (max (1 + held h a) (2 + held h b))))
  three-arguments used c id a b true is fits count first f args g =
      let begun = start-flows used a b (starts_method n a) (starts_method h a) refl (same-starts a) f args g in
      let few = left-few used in
      let most = begun.high in
      let some = some-held h id in
      let both_ways = either-most (starts_method h a) (held h id) (max (1 + held_by_arguments h a) (1 + arguments_of a + held h b)) (max (1 + held h a) (2 + held h b)) in
      along.told-as m (along.both m first begun) (omega (arith, both_ways, most, some, few))
  three-arguments used c id a b false is fits count first f args g =
      let some = some-held h b in
      let few = left-few used in
      along.told-as m
      (along.both m (along.both m (along.both m first (over-longs 1 f refl)) (over-longs 2 g refl)) (with-count m used c 3 count fits is (other-code c 0x2C 3 count (λ same. absurd cc))))
      (omega (arith, some, few))

  mutual
    pub value-flows : (e : Tree) → IsProperTree false e → Clean e → V None (value n e) 0 1 (held h e)
    value-flows (node place form) is clean = form-flows place form is clean

    form-flows : (place : Place) (form : Form) → IsProperForm false form → ((f : Fault) → ¬ BrokenIn (in_method env) (node place form) f) → V None (value_of_form n place form) 0 1 (held_by h form)
    form-flows place (Number v) is clean = number-flows m v
    form-flows place (Str letters) is clean = along.texts m place _ refl
    form-flows place (Strings es) is clean = along.texts m place _ refl
    form-flows place Here is clean = absurd cc
    form-flows place (Var (Named name no_index q)) is clean = along.told-as m (name-flows name (n.kind name)) (omega arith)
    form-flows place (Var (Named name (index e) q)) is clean = along.told-as m (operate-flows (Named name (index e) q) Push 0 1 is (λ f x. clean f (inr x)) pushes) (omega arith)
    form-flows place (Var (Part name size i q)) is clean = along.told-as m (operate-flows (Part name size i q) Push 0 1 is (λ f x. clean f (inr x)) pushes) (omega arith)
    form-flows place (Var (Memory size e i q)) is clean = along.told-as m (operate-flows (Memory size e i q) Push 0 1 is (λ f x. clean f (inr x)) pushes) (omega arith)
    form-flows place (Var (Register address x q)) is clean = along.told-as m (operate-flows (Register address x q) Push 0 1 is (λ f x. clean f (inr x)) pushes) (omega arith)
    form-flows place (Call trap object i method q args) is clean =
        let vs = values-flows args is.3 (λ f x. clean f (inr (inr x))) in
        let count : count_of args ≤ held_by_trees h args = vs.high in
        let at = index-flows i (count_of args) is.2 (λ f x. clean f (inr (inl x))) in
        along.told-as m (marked m true trap (any-call n env same object i method (count_of_trees args) place q (λ f x. clean f (inl x))) (along.both m vs at.1)) (omega (arith, count))
    form-flows place (Unary operator e) is clean =
        let some = some-held h e in
        along.told-as m (along.both m (value-flows e is.1 (λ f x. clean f (inr x))) (along.either-by m (operator == 0xEC) (λ no. along.nothings m 1) (λ yes. bytes m operator 1 1 (unary-is operator is.0 yes)))) (omega (arith, some))
    form-flows place (Binary operator a b) is clean =
        let some = some-held h b in
        along.told-as m (along.both m (along.both m (value-flows a is.1 (λ f x. clean f (inr (inl x)))) (over-longs 1 (value-flows b is.2 (λ f x. clean f (inr (inr x)))) refl)) (bytes m operator 2 1 (binary-is operator is.0))) (omega (arith, some))
    form-flows place (Assign v operator e) is clean =
        along.told-as m (along.both m (value-flows e is.3 (λ f x. clean f (inr (inr x)))) (operate-flows v (assigned true operator) 1 1 is.2 (λ f x. clean f (inr (inl x))) (assign-does true operator is.0))) (omega arith)
    form-flows place (Change v effect) is clean = along.told-as m (operate-flows v _ 0 1 is.2 (λ f x. clean f (inr x)) (changes (size_of n v) effect is.0).0) (omega arith)
    form-flows place (Address v) is clean = along.told-as m (operate-flows v Reference 0 1 is.1 (λ f x. clean f (inr x)) refers) (omega arith)
    form-flows place (ObjectAddress e) is clean =
        let some = some-held h e in
        along.told-as m (along.both m (value-flows e is (λ f x. clean f (inr x))) (bytes m 0x97 1 1 refl)) (omega (arith, some))
    form-flows place (ObjConst object name q) is clean = constant-flows (node place (ObjConst object name q))
    form-flows place (Built code args) is clean =
        built-form true code args (fits-inside args code is.0) is.1 (λ f x. clean f (inr x)) (arguments-are code args place (λ f x. clean f (inl x)))
    form-flows place (Look code e xs) is clean =
        along.told-as m
        (along.ups m (λ x y. widths.both (widths.both (widths.both (value-alike n n.text n.statement e) (counts-alike code)) (looks-alike n n.text n.statement (looks_down code) x y xs)) (widths.bytes 0x0F))
        (λ end. along.both m (along.both m (along.both m (along.above m 0 (value-flows e is.2 (λ f x. clean f (inr (inl x)))) refl refl refl) (over-longs 1 (counted-from m code) refl))
        (looks-flows (looks_down code) end xs is.3 (λ f x. clean f (inr (inr x))))) (look-end m)))
        (omega arith)

    pub operate-flows : (v : Variable) (o : Operation) (t l : ℕ) → IsProperVariable false v → ((f : Fault) → ¬ BrokenInVariable (in_method env) v f) → Does o t l → V None (operate n v o) t l (max (t + held_by_naming h v) (max t l))
    operate-flows (Named name i q) o t l is clean does = home-flows (home_of n name) i o t l (home-based name) is.1 clean does
    operate-flows (Part name size i q) o t l is clean does = home-flows (sized (home_of n name) size) i o t l (home-based name) is.2 clean does
    operate-flows (Memory size e no_index q) o t l is clean does =
        let some = some-held h e in
        along.told-as m (along.both m (over-longs t (value-flows e is.1 (λ f x. clean f (inl x))) (omega arith)) (acts _ 1 t l o (memory-is false (pushed_home size) o 0 false) does)) (omega (arith, some))
    operate-flows (Memory size e (index i) q) o t l is clean does =
        let some = some-held h e in
        let more = some-held h i in
        let above = over-is 1 (held h i) more in
        along.told-as m
        (along.both m (along.both m (over-longs t (value-flows e is.1 (λ f x. clean f (inl x))) refl) (over-longs (t + 1) (value-flows i is.2 (λ f x. clean f (inr x))) (omega arith)))
        (acts _ 2 t l o (memory-is true (pushed_home size) o 0 false) does))
        (omega (arith, some, more, above))
    operate-flows (Register address whole q) o t l is clean does = along.told-as m (along.works m _ t l (all-pins-is address o is.0 ∙ does.by 0 ∙ ap (λ k. Works k l) (let none : 0 + t ≡ t = omega arith in none))) (omega arith)
    operate-flows (Register address (bits (single e)) q) o t l is clean does =
        let some = some-held h e in
        along.told-as m (along.both m (over-longs t (value-flows e is.2 clean) (omega arith)) (acts _ 1 t l o (one-pin-is address o is.0) does)) (omega (arith, some))
    operate-flows (Register address (bits (range a b)) q) o t l is clean does =
        let some = some-held h a in
        let more = some-held h b in
        along.told-as m
        (along.both m (along.both m (over-longs t (value-flows a is.2.0 (λ f x. clean f (inl x))) refl) (over-longs (t + 1) (value-flows b is.2.1 (λ f x. clean f (inr x))) (omega arith)))
        (acts _ 2 t l o (some-pins-is address o is.0) does))
        (omega (arith, some, more))

    home-flows : (home : Home) (i : Index) (o : Operation) (t l : ℕ) → IsBased home.base → IsProperIndex false i → ((f : Fault) → ¬ BrokenInIndex (in_method env) i f) → Does o t l → V None (in_home n home i o) t l (max (t + held_by_index h i) (max t l))
    home-flows home no_index o t l on is clean does = along.told-as m (acts-plain home t l o on does) (omega arith)
    home-flows home (index e) o t l on is clean does =
        let some = some-held h e in
        along.told-as m
        (along.both m (over-longs t (value-flows e is clean) (omega arith)) (acts _ 1 t l o (memory-is true home o 0 false ∙ ap (λ k. stack.on_variable k (variables.action_of o) (variables.effect_of o)) (named-one home.base on)) does))
        (omega (arith, some))

    pub values-flows : (es : Trees) → AreProperTrees false es → ((f : Fault) → ¬ BrokenInTrees (in_method env) es f) → V None (values n es) 0 (count_of es) (held_by_trees h es)
    values-flows no_trees is clean = along.nothings m 0
    values-flows (es ▷ e) is clean = along.both m (values-flows es is.0 (λ f x. clean f (inl x))) (over-longs (count_of es) (value-flows e is.1 (λ f x. clean f (inr x))) refl)

    -- an index above some longs
    index-flows : (i : Index) (c : ℕ) → IsProperIndex false i → ((f : Fault) → ¬ BrokenInIndex (in_method env) i f) → (j : ℕ) × V None (index_value n i) c j (max c (over c (held_by_index h i)))
    index-flows no_index c is clean = (c, along.told-as m (along.nothings m c) (omega arith))
    index-flows (index e) c is clean =
        let some = some-held h e in
        let above = over-is c (held h e) some in
        (c + 1, along.told-as m (over-longs c (value-flows e is clean) refl) (omega (arith, above)))

    looks-flows : (down : Bool) (end : ℕ) (xs : Items) → AreProperItems false xs → ((f : Fault) → ¬ BrokenInItems (in_method env) xs f) → V (Some (end, 1)) (looks n down end xs) 2 2 (max 2 (held_by_items h xs))
    looks-flows down end no_items is clean = along.nothings m 2
    looks-flows down end (xs ▸ single e) is clean =
        let some = some-held h e in
        along.told-as m
        (along.both m (along.both m (looks-flows down end xs is.0 (λ f x. clean f (inl x))) (over-longs 2 (value-flows e is.1 (λ f x. clean f (inr x))) refl)) (along.jumps m n.wide n.statement _ end 3 2 1 (item-jump m down)))
        (omega (arith, some))
    looks-flows down end (xs ▸ range a b) is clean =
        let some = some-held h a in
        let more = some-held h b in
        along.told-as m
        (along.both m (along.both m (along.both m (looks-flows down end xs is.0 (λ f x. clean f (inl x))) (over-longs 2 (value-flows a is.1.0 (λ f x. clean f (inr (inl x)))) refl))
        (over-longs 3 (value-flows b is.1.1 (λ f x. clean f (inr (inr x)))) refl)) (along.jumps m n.wide n.statement _ end 4 2 1 (range-jump m down)))
        (omega (arith, some, more))

    -- ---- built-ins

    built-form : (used : Bool) (c : ℕ) (args : Trees) → FitsArguments used args c → AreProperTrees false args → ((f : Fault) → ¬ BrokenInside (in_method env) (Built c args) f) → count_of args ≡ argument_count c → V None (call_of_built n used c args) 0 (left_by used) (max (left_by used) (held_by_built h c args))
    built-form used c no_trees fits is clean count = without m used c
    built-form used c (no_trees ▷ e) fits is clean count = one-argument used c e (c == 0) refl fits count (λ other. value-flows e is.1 (λ f x. clean f (inr (ap not other, inr x))))
    built-form used c (no_trees ▷ a ▷ b) fits is clean count =
        let other : (c == 0) ≡ false = other-code c 0 2 count (λ same. absurd cc) in
        two-arguments used c a b (c == 0x2C) refl fits count (value-flows a is.0.1 (λ f x. clean f (inr (ap not other, inl (inr x))))) (arguments-flows a is.0.1 (λ f x. clean f (inr (ap not other, inl (inr x))))) (value-flows b is.1 (λ f x. clean f (inr (ap not other, inr x))))
    built-form used c (no_trees ▷ id ▷ a ▷ b) fits is clean count =
        let other : (c == 0) ≡ false = other-code c 0 3 count (λ same. absurd cc) in
        three-arguments used c id a b (c == 0x28) refl fits count (value-flows id is.0.0.1 (λ f x. clean f (inr (ap not other, inl (inl (inr x)))))) (value-flows a is.0.1 (λ f x. clean f (inr (ap not other, inl (inr x))))) (arguments-flows a is.0.1 (λ f x. clean f (inr (ap not other, inl (inr x))))) (value-flows b is.1 (λ f x. clean f (inr (ap not other, inr x))))
    built-form used c (es ▷ a ▷ b ▷ d ▷ e) fits is clean count = let few = few-arguments c in absurd (let never : count_of (es ▷ a ▷ b ▷ d ▷ e) ≤ 3 = subst (λ k. k ≤ 3) (sym count) few in omega (arith, never))

    arguments-flows : (a : Tree) → IsProperTree false a → Clean a → V None (arguments n a) 0 (arguments_of a) (held_by_arguments h a)
    arguments-flows (node p (Call trap object i method q args)) is clean = values-flows args is.3 (λ f x. clean f (inr (inr x)))
    arguments-flows (node p (Number v)) is clean = along.nothings m 0
    arguments-flows _ is clean = along.nothings m 0

  -- ---- expressions that stand alone

  alone-form : (place : Place) (form : Form) → IsDoneForm form → ((f : Fault) → ¬ MisuseDone env (name_alone (node place form)) (node place form) f) → V None (alone n (node place form)) 0 0 (held_alone h (node place form))
  alone-form place (Var (Named name no_index q)) is clean =
      along.told-as m (marked m {a = nothing} false false (subst (λ k. IsCall (own_method k)) (sym (same name)) (own-call (kind_in env name) 0 q clean)) (along.nothings m 0)) (omega arith)
  alone-form place (Var (Named name (index e) q)) is clean = absurd is
  alone-form place (Var (Part name size i q)) is clean = absurd is
  alone-form place (Var (Memory size e i q)) is clean = absurd is
  alone-form place (Var (Register address x q)) is clean = absurd is
  alone-form place (Call trap object i method q args) is clean =
      let vs = values-flows args is.3 (λ f x. clean f (inr (inr x))) in
      let count : count_of args ≤ held_by_trees h args = vs.high in
      let at = index-flows i (count_of args) is.2 (λ f x. clean f (inr (inl x))) in
      along.told-as m (marked m false trap (any-call n env same object i method (count_of_trees args) place q (λ f x. clean f (inl x))) (along.both m vs at.1)) (omega (arith, count))
  alone-form place (Assign v operator e) is clean =
      along.told-as m (along.both m (value-flows e is.3 (λ f x. clean f (inr (inr x)))) (operate-flows v (assigned false operator) 1 0 is.2 (λ f x. clean f (inr (inl x))) (assign-does false operator is.0))) (omega arith)
  alone-form place (Change v effect) is clean = along.told-as m (operate-flows v _ 0 0 is.2 (λ f x. clean f (inr x)) (change-does (size_of n v) effect is.0)) (omega arith)
  alone-form place (Built c args) is clean =
      along.told-as m (built-form false c args (fits-alone args c is.0) is.1 (λ f x. clean f (inr x)) (arguments-are c args place (λ f x. clean f (inl x)))) (omega arith)
  alone-form place (Number v) is clean = absurd is
  alone-form place _ is clean = absurd is

  pub alone-flows : (e : Tree) → IsDone e → ((f : Fault) → ¬ MisuseDone env (name_alone e) e f) → V None (alone n e) 0 0 (held_alone h e)
  alone-flows (node place form) is clean = alone-form place form is.0 clean
