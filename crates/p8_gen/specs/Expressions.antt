-- The code of expressions, a clause a form.
-- Sources: the public Spin bytecode listing of the Propeller P8X32A and the Propeller Manual v1.2, Spin chapter; the order
-- of evaluation and the choice of forms are this project's profile.
use Rattle.std.specs.Prelude.{ℕ, ◌+◌, ◌%◌, ◌^◌, ◌==◌, nat_le, ◌&&◌, ◌||◌, Bool, true, false, not, if◌then◌else◌, List, Option, Some, None}
use Rattle.p8_tree.specs.declared.places.Place.{Place}
use Rattle.p8_tree.specs.Expressions.{Tree, node, Form, Number, Str, Strings, Here, Var, Call, Unary, Binary, Assign, Change, Address, ObjectAddress}
use Rattle.p8_tree.specs.Expressions.{ObjConst, Built, Look, Variable, Named, Part, Memory, Register, Index, no_index, index, whole, bits, single}
use Rattle.p8_tree.specs.Expressions.{range, Trees, no_trees, ◌▷◌, Items, no_items, ◌▸◌}
use Rattle.p8_bytecode.specs.Reading.{bare}
use Rattle.p8_kinds.specs.declared.name_kinds.NameKind.{NameKind}
use Rattle.p8_kinds.specs.declared.name_kinds.NameKind.TheVariants as kinds
use Rattle.p8_words.specs.Operators.{or_zero}
use Rattle.p8_fold.specs.Values as constants
use Rattle.p8_gen.specs.Names.{Names}
use Rattle.p8_gen.specs.Pieces.{Piece, nothing, one, ◌⨾◌, up_to_end, byte, with_number, text, jump}
use Rattle.p8_gen.specs.Variables as variables
use Rattle.p8_gen.specs.Variables.{number, Home, home_at, home_of, Operation, Push, memory_op, plain_op, register, effect_for, leaving, assigned}

-- a name's home, taken as one of another size
abbrev pub sized : Home → ℕ → Home
sized home size = record home { size = size }

-- memory from an address that was pushed
abbrev pub pushed_home : ℕ → Home
pushed_home size = home_at variables.Pushed 0 size

-- the size of a variable, 0 for a register
abbrev pub size_of : Names → Variable → ℕ
size_of names (Named name i place) = (home_of names name).size
size_of names (Part name size i place) = size
size_of names (Memory size e i place) = size
size_of names (Register address x place) = 0

abbrev pub count_of : Trees → ℕ
count_of no_trees = 0
count_of (es ▷ e) = count_of es + 1

-- ---- calls

-- the mark of a call: bit 0 where its value isn't used, bit 1 where it stops aborts
abbrev pub mark : (used trap : Bool) → Piece
mark used trap = byte ((if used then 0 else 1) + (if trap then 2 else 0))

-- a method of the same object
abbrev pub own_method : Option NameKind → Piece
own_method (Some (kinds.Method number params)) = with_number 0x05 number
own_method _ = nothing

-- a method's number
abbrev pub method_number : Option NameKind → ℕ
method_number (Some (kinds.Method number params)) = number
method_number _ = 0

-- a method of an object, which is alone or is told by an index
abbrev pub call_in : (position count : ℕ) → Index → (number : ℕ) → Piece
call_in position count no_index number = one (record (bare 0x06) { first = position; second = number })
call_in position count (index e) number = one (record (bare 0x07) { first = position; second = count; third = number })

abbrev pub method_in : Names → Option NameKind → Index → List ℕ → Piece
method_in names (Some (kinds.Object item position count)) i method = call_in position count i (method_number (names.public item method))
method_in names _ i method = nothing

-- the bytecode of a call
abbrev pub callee : Names → Option (List ℕ) → Index → List ℕ → Piece
callee names None i method = own_method (names.kind method)
callee names (Some object) i method = method_in names (names.kind object) i method

-- ---- names alone

-- a constant expression is a number
abbrev pub constant : Names → Tree → Piece
constant names e = number (or_zero (constants.value names.constants e))

-- a constant is a number, a method is called, a variable's value is pushed
abbrev pub name_alone : Names → List ℕ → Option NameKind → Piece
name_alone names name (Some (kinds.Const v)) = number v
name_alone names name (Some (kinds.Method number params)) = mark true false ⨾ with_number 0x05 number
name_alone names name _ = one (plain_op (home_of names name) Push)

-- ---- built-ins

-- COGID, CLKFREQ and CLKMODE; the clock's frequency is the long at 0000, its mode the byte at 0004
abbrev pub built_value : (code : ℕ) → Piece
built_value code =
    if code == 0x3F then with_number 0x3F 0x89
    else if code == 0xC0 then byte 0x35 ⨾ byte 0xC0
    else with_number 0x38 4 ⨾ byte 0x80

-- a built-in after its arguments, where it stands alone: LOCKNEW, LOCKSET and LOCKCLR have a form that leaves nothing; the
-- values of STRSIZE and STRCOMP are dropped
abbrev pub built_alone : (code : ℕ) → Piece
built_alone code =
    if nat_le 0x29 code && nat_le code 0x2B then byte (code + 4)
    else if code == 0x16 || code == 0x17 then byte code ⨾ byte 0x14
    else byte code

abbrev pub built : (used : Bool) (code : ℕ) → Piece
built used code = if used then byte code else built_alone code

-- a value that isn't used is dropped
abbrev pub dropped : (used : Bool) → Piece
dropped used = if used then nothing else byte 0x14

-- a word without arguments
abbrev pub built_without : (used : Bool) (code : ℕ) → Piece
built_without used code = if code == 0x29 then built used code else built_value code ⨾ dropped used

-- ---- COGNEW and COGINIT, after the number of the cog

abbrev pub is_method : Option NameKind → Bool
is_method (Some (kinds.Method number params)) = true
is_method _ = false

-- a call of a method of the same object that stops no abort
abbrev pub calls_own : (trap : Bool) → Option (List ℕ) → Bool
calls_own false None = true
calls_own trap object = false

-- a method of the file is started, alone or with arguments; anything else is the address of code in PASM
abbrev pub starts_method : Names → Tree → Bool
starts_method names (node p (Call trap object i method q args)) = calls_own trap object
starts_method names (node p (Var (Named name no_index q))) = is_method (names.kind name)
starts_method names _ = false

abbrev pub start_of_method : (number count : ℕ) → Piece
start_of_method number count = one (record (bare 0x15) { first = number; second = count })

-- the start of a method, after its arguments and the address of its frame
abbrev pub starts : Names → Tree → Piece
starts names (node p (Call trap object i method q args)) = start_of_method (method_number (names.kind method)) (count_of args)
starts names (node p (Var (Named name i q))) = start_of_method (method_number (names.kind name)) 0
starts names _ = nothing

-- the start of PASM, after its address and PAR
abbrev pub pasm : (used : Bool) → Piece
pasm used = byte (if used then 0x28 else 0x2C)

-- the start of either
abbrev pub started : Names → (used : Bool) → Tree → Piece
started names used m = if starts_method names m then starts names m ⨾ dropped used else pasm used

-- ---- LOOKUP and LOOKDOWN, and their forms that count from 0

abbrev pub looks_down : ℕ → Bool
looks_down code = code % 2 == 1

abbrev pub counts_from : ℕ → Piece
counts_from code = if nat_le 0x12 code then byte 0x35 else byte 0x36

-- ---- expressions

-- the sign `+` adds nothing
abbrev pub unary : (operator : ℕ) → Piece
unary operator = if operator == 0xEC then nothing else byte operator

abbrev mutual
  -- the code that leaves an expression's value
  pub value : Names → Tree → Piece
  value names (node place form) = value_of_form names place form

  pub value_of_form : Names → Place → Form → Piece
  value_of_form names place (Number n) = number n
  value_of_form names place (Str letters) = text place (names.text place % 2 ^ 15)
  value_of_form names place (Strings es) = text place (names.text place % 2 ^ 15)
  value_of_form names place Here = nothing
  value_of_form names place (Var (Named name no_index q)) = name_alone names name (names.kind name)
  value_of_form names place (Var v) = operate names v Push
  value_of_form names place (Call trap object i method q args) =
      mark true trap ⨾ values names args ⨾ index_value names i ⨾ callee names object i method
  value_of_form names place (Unary operator e) = value names e ⨾ unary operator
  value_of_form names place (Binary operator a b) = value names a ⨾ value names b ⨾ byte operator
  value_of_form names place (Assign v operator e) = value names e ⨾ operate names v (assigned true operator)
  value_of_form names place (Change v effect) = operate names v (variables.Using (leaving true (effect_for (size_of names v) effect)))
  value_of_form names place (Address v) = operate names v variables.Reference
  value_of_form names place (ObjectAddress e) = value names e ⨾ byte 0x97
  value_of_form names place (ObjConst object name q) = constant names (node place (ObjConst object name q))
  value_of_form names place (Built code args) = call_of_built names true code args
  value_of_form names place (Look code e xs) =
      up_to_end (λ end. value names e ⨾ counts_from code ⨾ looks names (looks_down code) end xs ⨾ byte 0x0F)

  -- what names a variable, and what is done with it
  pub operate : Names → Variable → Operation → Piece
  operate names (Named name i q) operation = in_home names (home_of names name) i operation
  operate names (Part name size i q) operation = in_home names (sized (home_of names name) size) i operation
  operate names (Memory size e no_index q) operation = value names e ⨾ one (memory_op false (pushed_home size) operation)
  operate names (Memory size e (index i) q) operation = value names e ⨾ value names i ⨾ one (memory_op true (pushed_home size) operation)
  operate names (Register address whole q) operation = register 0x3F address operation
  operate names (Register address (bits (single e)) q) operation = value names e ⨾ register 0x3D address operation
  operate names (Register address (bits (range a b)) q) operation = value names a ⨾ value names b ⨾ register 0x3E address operation

  pub in_home : Names → Home → Index → Operation → Piece
  in_home names home no_index operation = one (plain_op home operation)
  in_home names home (index e) operation = value names e ⨾ one (memory_op true home operation)

  -- arguments, from left to right
  pub values : Names → Trees → Piece
  values names no_trees = nothing
  values names (es ▷ e) = values names es ⨾ value names e

  pub index_value : Names → Index → Piece
  index_value names no_index = nothing
  index_value names (index e) = value names e

  pub call_of_built : Names → (used : Bool) → ℕ → Trees → Piece
  call_of_built names used code no_trees = built_without used code
  call_of_built names used code (no_trees ▷ e) = if code == 0 then constant names e else value names e ⨾ built used code
  call_of_built names used code (no_trees ▷ m ▷ s) =
      if not (code == 0x2C) then value names m ⨾ value names s ⨾ built used code
      else byte 0x34 ⨾ (if starts_method names m then arguments names m else value names m) ⨾ value names s ⨾ started names used m
  call_of_built names used code (no_trees ▷ id ▷ m ▷ s) =
      if not (code == 0x28) then value names id ⨾ value names m ⨾ value names s ⨾ built used code
      else value names id ⨾ (if starts_method names m then arguments names m else value names m) ⨾ value names s ⨾ started names used m
  call_of_built names used code (es ▷ e) = values names es ⨾ value names e ⨾ built used code

  -- the arguments of a method that is started
  pub arguments : Names → Tree → Piece
  arguments names (node p (Call trap object i method q args)) = values names args
  arguments names _ = nothing

  -- the items of a LOOK function, each of which jumps to its end
  pub looks : Names → (down : Bool) → (end : ℕ) → Items → Piece
  looks names down end no_items = nothing
  looks names down end (xs ▸ single e) =
      looks names down end xs ⨾ value names e ⨾ jump names.wide names.statement (if down then 0x11 else 0x10) end
  looks names down end (xs ▸ range a b) =
      looks names down end xs ⨾ value names a ⨾ value names b ⨾ jump names.wide names.statement (if down then 0x13 else 0x12) end

-- ---- expressions that stand alone as statements

abbrev pub alone : Names → Tree → Piece
alone names (node place (Var (Named name i q))) = mark false false ⨾ own_method (names.kind name)
alone names (node place (Call trap object i method q args)) =
    mark false trap ⨾ values names args ⨾ index_value names i ⨾ callee names object i method
alone names (node place (Assign v operator e)) = value names e ⨾ operate names v (assigned false operator)
alone names (node place (Change v effect)) = operate names v (variables.Using (effect_for (size_of names v) effect))
alone names (node place (Built code args)) = call_of_built names false code args
alone names _ = nothing
