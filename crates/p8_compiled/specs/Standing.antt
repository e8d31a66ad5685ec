-- Where the code of an expression stands: which bytecodes there are from one place to another. It says what each bytecode does, and not
-- how it is spelled, so that it holds for code of each length and at each place.
use Rattle.std.specs.Prelude.{ℕ, suc, ◌+◌, ◌-◌, ◌%◌, ◌^◌, ◌==◌, ◌≡◌, ◌<◌, not, nat_le, Bool, true, false, List, [], ◌∷◌, length, slice_get, Option}
use Rattle.std.specs.Prelude.{Some, None, if◌then◌else◌}
use Rattle.std.specs.Str.{bytes_eq}
use Rattle.p8_access.specs.declared.kinds.Width.TheVariants.{Byte, Word, Long}
use Rattle.p8_access.specs.declared.kinds.Test.TheVariants as test_case
use Rattle.p8_access.specs.declared.kinds.Reason.TheVariants as Why
use Rattle.p8_access.specs.declared.kinds.Access.TheVariants as access_case
use Rattle.p8_access.specs.Courses.{Course, Finish, Stop}
use Rattle.p8_tree.specs.declared.places.Place.{Place}
use Rattle.p8_tree.specs.Names.{result_word}
use Rattle.p8_tree.specs.Expressions.{Tree, node, Number, Str, Strings, Here, Var, Call, Unary, Binary, Assign, Change, Address, ObjectAddress}
use Rattle.p8_tree.specs.Expressions.{ObjConst, Built, Look, Variable, Named, Part, Memory, Register, Index, no_index, index, Bits, whole, bits}
use Rattle.p8_tree.specs.Expressions.{Item, single, range, Trees, no_trees, ◌▷◌, Items, no_items, ◌▸◌}
use Rattle.p8_words.specs.Operators.{unary_value, binary_value, or_zero}
use Rattle.p8_fold.specs.Values as constants
use Rattle.p8_kinds.specs.declared.name_kinds.NameKind.{NameKind}
use Rattle.p8_kinds.specs.declared.name_kinds.NameKind.TheVariants as kind_case
use Rattle.p8_bcog.specs.declared.state.SpinState.{SpinState}
use Rattle.p8_bcog.specs.declared.variable_place.VariablePlace as place
use Rattle.p8_bcog.specs.declared.step.Wanted.TheVariants as wanted_case
use Rattle.p8_access.specs.declared.kinds.Width.{Width}
use Rattle.p8_access.specs.declared.kinds.Access.{Access}
use Rattle.p8_access.specs.declared.kinds.Origin.TheVariants as origin_case
use Rattle.p8_bcog.specs.declared.variable_place.VariablePlace.TheVariants as place_case
use Rattle.p8_bcog.specs.Accesses.{ends, gets}
use Rattle.p8_bcog.specs.Moves as moving
use Rattle.p8_bcog.specs.Cogs as cogs
use Rattle.p8_bcog.specs.Operands.{pushed}
use Rattle.p8_bcog.specs.Places as places
use Rattle.p8_bcog.specs.Calls as calling
use Rattle.p8_tree.specs.Lists.{count_of_trees}
use Rattle.p8_tree.specs.Sources.{MethodTree}
use Rattle.p8_meaning.specs.Calls.{method_of}
use Rattle.p8_meaning.specs.Builtins.{new_cog}
use Rattle.p8_meaning.specs.Values.{changed, gives_old, is_between, sum_of, difference, distance, toward}
use Rattle.p8_meaning.specs.Expressions.{behind_range, goes_up, first_count}
use Rattle.p8_meaning.specs.Programs.{Program, Addresses, File, Scope, object_constant, setting_of, method_named, methods_in}
use Rattle.p8_meaning.specs.Variables.{Location, Pins, element, named, part, address_at}
use Rattle.p8_compiled.specs.Courses.{Does, gives, takes_none, drops, takes_one, takes_two, takes_three, takes_four, takes_names, takes_value}
use Rattle.p8_compiled.specs.Courses.{place_of, leaves_if, if_used, goes_to, WhereSo}

-- ---- variables

-- how many operands name a variable
abbrev pub index_count : Index → ℕ
index_count no_index = 0
index_count (index e) = 1

abbrev pub bits_count : Bits → ℕ
bits_count whole = 0
bits_count (bits (single e)) = 1
bits_count (bits (range e f)) = 2

abbrev pub names_count : Variable → ℕ
names_count (Named name i place) = index_count i
names_count (Part name size i place) = index_count i
names_count (Memory size e i place) = suc (index_count i)
names_count (Register register x place) = bits_count x

-- the operands of a list by their number from 0
abbrev pub at_number : List ℕ → (number : ℕ) → ℕ
at_number [] number = 0
at_number (x ∷ xs) number = if number == 0 then x else at_number xs (number - 1)

-- an index, or 0
abbrev pub index_in : Index → ℕ → ℕ
index_in no_index operand = 0
index_in (index e) operand = operand

abbrev pub pins_in : (register : ℕ) → Bits → List ℕ → Location
pins_in register whole names = Pins register 31 0
pins_in register (bits (single e)) names = Pins register (at_number names 0 % 32) (at_number names 0 % 32)
pins_in register (bits (range e f)) names = Pins register (at_number names 0 % 32) (at_number names 1 % 32)

-- where a variable is, by the operands that name it
abbrev pub site : Scope → Variable → List ℕ → Location
site s (Named name i place) names = named s name (index_in i (at_number names 0))
site s (Part name size i place) names = part s name size (index_in i (at_number names 0))
site s (Memory size e i place) names = element size (at_number names 0) (index_in i (at_number names 1))
site s (Register register x place) names = pins_in register x names

-- the registers that can be named in a method; OUTA and DIRA can be written
pub data IsRegister : (written : Bool) → ℕ → Type 0 where
  is_par : IsRegister false 0x1F0
  is_cnt : IsRegister false 0x1F1
  is_ina : IsRegister false 0x1F2
  is_outa : {written : Bool} → IsRegister written 0x1F4
  is_dira : {written : Bool} → IsRegister written 0x1F6

abbrev pub HasRegister : (written : Bool) → Variable → Type 0
HasRegister written (Named name i place) = Unit {0}
HasRegister written (Part name size i place) = Unit {0}
HasRegister written (Memory size e i place) = Unit {0}
HasRegister written (Register register x place) = IsRegister written register

-- an effect byte that makes this change, and leaves a value where it is used
pub record IsEffect (effect : ℕ) (used : Bool) (change : ℕ) : Type 0 where
  pub updates : (value : ℕ) → places.updated (effect % 128) value 0 ≡ changed change value
  pub old : places.leaves_old (effect % 128) ≡ gives_old change
  pub leaves : nat_le 128 effect ≡ used

-- one that applies an operator
pub record IsOperation (effect : ℕ) (used : Bool) (operator : ℕ) : Type 0 where
  pub updates : (value right : ℕ) → places.updated (effect % 128) value right ≡ binary_value operator value right
  pub old : places.leaves_old (effect % 128) ≡ false
  pub leaves : nat_le 128 effect ≡ used

-- ---- the code of a method

-- which method, of which file of a project, in which memory; a table of addresses, with the places of the statements from which the bytecodes there
-- are made; and the place of the statement whose code this is
pub record Compiled : Type 0 where
  pub memory : List ℕ
  pub cog : ℕ
  pub program : Program
  pub addresses : Addresses
  pub number : ℕ
  pub file : File
  pub method : ℕ
  pub table : List (ℕ × Place)
  pub hand : Place

-- the code of a statement
abbrev pub with_hand : Compiled → Place → Compiled
with_hand t hand = record t { hand = hand }

-- where the method is read, as the cog stands there
abbrev pub scope_of : Compiled → SpinState → Scope
scope_of t st = record {
  program = t.program;
  addresses = t.addresses;
  par = st.par;
  instance = record { file = t.number; base = st.pbase; variables = st.vbase };
  file = t.file;
  method = t.method;
  frame = st.frame;
  frame_end = (st.frame + 4 + st.size) % 2 ^ 16;
  active = length st.calls + 1;
}

-- which names are those of methods of the file
abbrev pub is_method_kind : Option NameKind → Bool
is_method_kind (Some (kind_case.Method n params)) = true
is_method_kind kind = false

abbrev pub names_method : Compiled → List ℕ → Bool
names_method t name = is_method_kind (t.file.kind t.method name)

abbrev pub At : Compiled → (p : ℕ) → (SpinState → Course SpinState) → (q : ℕ) → Type 0
At t p course q = Does t.memory t.cog t.table t.hand p course q

abbrev pub site_of : Compiled → Variable → List ℕ → SpinState → place.VariablePlace
site_of t v names st = place_of (site (scope_of t st) v names)

-- ---- what a bytecode does with a variable, by the operands that name it

abbrev pub reads : Compiled → Variable → List ℕ → SpinState → Course SpinState
reads t v names st = places.reads_place wanted_case.Pushed (site_of t v names st) st

abbrev pub writes : Compiled → (used : Bool) → Variable → List ℕ → ℕ → SpinState → Course SpinState
writes t used v names value st = places.writes_place (site_of t v names st) value (if_used used value) st

abbrev pub operates : Compiled → (effect : ℕ) → Variable → List ℕ → ℕ → SpinState → Course SpinState
operates t effect v names right st = places.reads_place (wanted_case.Changed effect right) (site_of t v names st) st

abbrev pub updates : Compiled → (effect : ℕ) → Variable → List ℕ → SpinState → Course SpinState
updates t effect v names st = places.reads_place (wanted_case.Changed effect 0) (site_of t v names st) st

-- the old value is read where it is used
abbrev pub replaces : Compiled → (used : Bool) → (value : ℕ) → Variable → List ℕ → SpinState → Course SpinState
replaces t true value v names st = places.reads_place (wanted_case.Replaced value) (site_of t v names st) st
replaces t false value v names st = places.writes_place (site_of t v names st) value None st

abbrev pub addresses_of : Compiled → Variable → List ℕ → SpinState → Course SpinState
addresses_of t v names st = Finish (pushed (address_at (site (scope_of t st) v names)) st)

abbrev pub ReadAt : Compiled → Variable → (p q : ℕ) → Type 0
ReadAt t v p q = At t p (takes_names (names_count v) 1 (reads t v)) q

abbrev pub OperateAt : Compiled → (used : Bool) → (operator : ℕ) → Variable → (p q : ℕ) → Type 0
OperateAt t used operator v p q = (effect : ℕ) × IsOperation effect used operator ×
    At t p (takes_value (names_count v) (leaves_if used) (operates t effect v)) q

abbrev pub AssignAt : Compiled → (used : Bool) → Option ℕ → Variable → (p q : ℕ) → Type 0
AssignAt t used None v p q = At t p (takes_value (names_count v) (leaves_if used) (writes t used v)) q
AssignAt t used (Some operator) v p q = OperateAt t used operator v p q

abbrev pub ReplaceAt : Compiled → (used : Bool) → (value : ℕ) → Variable → (p q : ℕ) → Type 0
ReplaceAt t used value v p q = At t p (takes_names (names_count v) (leaves_if used) (replaces t used value v)) q

abbrev pub UpdateAt : Compiled → (used : Bool) → (change : ℕ) → Variable → (p q : ℕ) → Type 0
UpdateAt t used change v p q = (effect : ℕ) × IsEffect effect used change × At t p (takes_names (names_count v) (leaves_if used) (updates t effect v)) q

-- 18 and 1C write 0 and -1
abbrev pub ChangeAt : Compiled → (used : Bool) → (change : ℕ) → Variable → (p q : ℕ) → Type 0
ChangeAt t used change v p q =
    WhereSo (change == 0x18) (ReplaceAt t used 0 v p q) (WhereSo (change == 0x1C) (ReplaceAt t used (2 ^ 32 - 1) v p q) (UpdateAt t used change v p q))

abbrev pub AddressAt : Compiled → Variable → (p q : ℕ) → Type 0
AddressAt t v p q = At t p (takes_names (names_count v) 1 (addresses_of t v)) q

-- ---- operators

abbrev pub applies_one : (operator a : ℕ) → SpinState → Course SpinState
applies_one operator a st = Finish (pushed (unary_value operator a) st)

abbrev pub applies_two : (operator a b : ℕ) → SpinState → Course SpinState
applies_two operator a b st = Finish (pushed (binary_value operator a b) st)

-- `@@`
abbrev pub object_address : (a : ℕ) → SpinState → Course SpinState
object_address a st = Finish (pushed ((st.pbase + a) % 2 ^ 16) st)

-- the address of a text
abbrev pub gives_text : (offset : ℕ) → SpinState → Course SpinState
gives_text offset st = gives ((st.pbase + offset) % 2 ^ 16) st

-- ---- calls

-- a mark is opened, above which the arguments of a call are
abbrev pub opens : (unused traps : Bool) → SpinState → Course SpinState
opens unused traps st =
    if nat_le 16384 (length st.marks) then Stop Why.Stack
    else Finish (record st { marks = record { outer = st.base; unused = unused; traps = traps } ∷ st.marks; base = length st.stack })

-- a method of a file, with so many parameters
abbrev pub Fits : File → (number count : ℕ) → Type 0
Fits file number count = (tree : MethodTree) × (method_of file number ≡ Some tree) × (count ≡ length tree.params)

-- a call of a method of the same object, by the kind of its name
abbrev pub OwnCallAt : Compiled → Option NameKind → (count p q : ℕ) → Type 0
OwnCallAt t (Some (kind_case.Method n params)) count p q = Fits t.file n count × At t p (calling.call_own t.memory n) q
OwnCallAt t kind count p q = ⊥

-- one of a method of an object: of the instance at its place, or of the one that an index tells
abbrev pub ObjectOpAt : Compiled → Index → (position count number p q : ℕ) → Type 0
ObjectOpAt t no_index position count n p q = (0 < count) × At t p (calling.call_object t.memory position n) q
ObjectOpAt t (index e) position count n p q = At t p (calling.call_indexed t.memory position count n) q

-- the file of an object and the number of its method
pub record IsObjectMethod (t : Compiled) (item : ℕ) (name : List ℕ) (count : ℕ) (n : ℕ) : Type 0 where
  pub child : ℕ
  pub is_child : slice_get t.file.child_files item ≡ Some child
  pub file : File
  pub is_file : slice_get t.program child ≡ Some file
  pub is_named : method_named name (methods_in (slice_get t.file.children item)) 1 ≡ Some n
  pub fits : Fits file n count

abbrev pub ObjectCallAt : Compiled → Option NameKind → Index → (name : List ℕ) → (count p q : ℕ) → Type 0
ObjectCallAt t (Some (kind_case.Object item position instances)) i name count p q =
    (n : ℕ) × IsObjectMethod t item name count n × ObjectOpAt t i position instances n p q
ObjectCallAt t kind i name count p q = ⊥

-- ---- a name alone: a constant, a variable, or a call without arguments

abbrev pub KindAt : Compiled → Variable → Option NameKind → (p q : ℕ) → Type 0
KindAt t v (Some (kind_case.Const value)) p q = At t p (gives value) q
KindAt t v (Some (kind_case.Method n params)) p q =
    (p1 : ℕ) × At t p (opens false false) p1 × OwnCallAt t (Some (kind_case.Method n params)) 0 p1 q
KindAt t v kind p q = ReadAt t v p q

abbrev pub NameAt : Compiled → (name : List ℕ) → Variable → (p q : ℕ) → Type 0
NameAt t name v p q = WhereSo (bytes_eq name result_word) (ReadAt t v p q) (KindAt t v (t.file.kind t.method name) p q)

-- ---- LOOK functions: what is looked for lies on the stack, and above it the count of the next item

-- an item is tried
abbrev pub tries_item : (up : Bool) → (target wanted count value : ℕ) → SpinState → Course SpinState
tries_item true target wanted count value st =
    Finish (if wanted == count then goes_to target (pushed value st) else pushed (sum_of count 1) (pushed wanted st))
tries_item false target wanted count value st =
    Finish (if wanted == value then goes_to target (pushed count st) else pushed (sum_of count 1) (pushed wanted st))

-- a range is tried
abbrev pub tries_both : (up : Bool) → (target wanted count low high : ℕ) → SpinState → Course SpinState
tries_both true target wanted count low high st =
    Finish (if nat_le (difference wanted count) (distance low high) then goes_to target (pushed (toward low high (difference wanted count)) st)
    else pushed (behind_range count low high) (pushed wanted st))
tries_both false target wanted count low high st =
    Finish (if is_between wanted low high then goes_to target (pushed (sum_of count (distance wanted low)) st)
    else pushed (behind_range count low high) (pushed wanted st))

-- no item fits
abbrev pub look_fails : (wanted count : ℕ) → SpinState → Course SpinState
look_fails wanted count st = Finish (pushed 0 st)

-- ---- built-ins, by what lies on the stack and by whether their value is used

-- the word of an access is left where it is used
abbrev pub word_if : (used : Bool) → Access → SpinState → Course SpinState
word_if true access st = gets access st
word_if false access st = ends access None st

abbrev pub cog_id : SpinState → Course SpinState
cog_id st = gets access_case.CogId st

abbrev pub reads_hub : (width : Width) (a : ℕ) → SpinState → Course SpinState
reads_hub width a st = places.reads_place wanted_case.Pushed (place_case.Memory width (a % 2 ^ 16)) st

abbrev pub measures_text : (a : ℕ) → SpinState → Course SpinState
measures_text a st = moving.counts (moving.room_from (a % 2 ^ 16)) (a % 2 ^ 16) 0 st

abbrev pub compares_texts : (a b : ℕ) → SpinState → Course SpinState
compares_texts a b st = moving.compares (moving.room_from (a % 2 ^ 16)) (a % 2 ^ 16) (b % 2 ^ 16) st

abbrev pub stops_cog : (a : ℕ) → SpinState → Course SpinState
stops_cog a st = ends (access_case.CogStop (a % 8)) None st

abbrev pub returns_lock : (a : ℕ) → SpinState → Course SpinState
returns_lock a st = ends (access_case.LockRet (a % 8)) None st

abbrev pub waits_until : (a : ℕ) → SpinState → Course SpinState
waits_until a st = ends (access_case.Wait (test_case.Count a)) None st

abbrev pub sets_lock : (used : Bool) → (a : ℕ) → SpinState → Course SpinState
sets_lock used a st = word_if used (access_case.LockSet (a % 8)) st

abbrev pub clears_lock : (used : Bool) → (a : ℕ) → SpinState → Course SpinState
clears_lock used a st = word_if used (access_case.LockClr (a % 8)) st

abbrev pub fills_row : Width → (a b c : ℕ) → SpinState → Course SpinState
fills_row width a b c st = moving.fills width (a % 2 ^ 16) b (moving.count_of c) st

abbrev pub moves_row : Width → (a b c : ℕ) → SpinState → Course SpinState
moves_row width a b c st = moving.moves width (a % 2 ^ 16) (b % 2 ^ 16) (moving.count_of c) st

abbrev pub waits_equal : (a b c : ℕ) → SpinState → Course SpinState
waits_equal a b c st = if c == 0 then ends (access_case.Wait (test_case.PinsEqual a b)) None st else Stop Why.Port

abbrev pub waits_differ : (a b c : ℕ) → SpinState → Course SpinState
waits_differ a b c st = if c == 0 then ends (access_case.Wait (test_case.PinsDiffer a b)) None st else Stop Why.Port

abbrev pub starts_pasm : (used : Bool) → (id code par : ℕ) → SpinState → Course SpinState
starts_pasm used id code par st = word_if used (access_case.CogInit (cogs.target_of id) (origin_case.Pasm (cogs.long_address code) (cogs.long_address par))) st

-- a value that is left, or dropped at once
abbrev pub Kept : Compiled → (used : Bool) → (ℕ → Type 0) → (q : ℕ) → Type 0
Kept t true Ends q = Ends q
Kept t false Ends q = (p1 : ℕ) × Ends p1 × At t p1 (takes_one 0 drops) q

-- what leaves no value stands alone
abbrev pub Alone : (used : Bool) → Type 0 → Type 0
Alone true fact = ⊥
Alone false fact = fact

abbrev pub NoneAt : Compiled → (used : Bool) → (code p q : ℕ) → Type 0
NoneAt t used code p q =
    WhereSo (code == 0x3F) (Kept t used (λ e. At t p (takes_none 1 cog_id) e) q)
    (WhereSo (code == 0xC0) (Kept t used (λ e. (p1 : ℕ) × At t p (gives 0) p1 × At t p1 (takes_one 1 (reads_hub Long)) e) q)
    (WhereSo (code == 0x80) (Kept t used (λ e. (p1 : ℕ) × At t p (gives 4) p1 × At t p1 (takes_one 1 (reads_hub Byte)) e) q)
    (WhereSo (code == 0x29) (At t p (takes_none (leaves_if used) (word_if used access_case.LockNew)) q) ⊥)))

abbrev pub OneAt : Compiled → (used : Bool) → (code p q : ℕ) → Type 0
OneAt t used code p q =
    WhereSo (code == 0x16) (Kept t used (λ e. At t p (takes_one 1 measures_text) e) q)
    (WhereSo (code == 0x21) (Alone used (At t p (takes_one 0 stops_cog) q))
    (WhereSo (code == 0x22) (Alone used (At t p (takes_one 0 returns_lock) q))
    (WhereSo (code == 0x23) (Alone used (At t p (takes_one 0 waits_until) q))
    (WhereSo (code == 0x2A) (At t p (takes_one (leaves_if used) (sets_lock used)) q)
    (WhereSo (code == 0x2B) (At t p (takes_one (leaves_if used) (clears_lock used)) q) ⊥)))))

abbrev pub TwoAt : Compiled → (used : Bool) → (code p q : ℕ) → Type 0
TwoAt t used code p q = WhereSo (code == 0x17) (Kept t used (λ e. At t p (takes_two 1 compares_texts) e) q) ⊥

abbrev pub ThreeAt : Compiled → (used : Bool) → (code p q : ℕ) → Type 0
ThreeAt t used code p q =
    WhereSo (code == 0x18) (Alone used (At t p (takes_three 0 (fills_row Byte)) q))
    (WhereSo (code == 0x19) (Alone used (At t p (takes_three 0 (fills_row Word)) q))
    (WhereSo (code == 0x1A) (Alone used (At t p (takes_three 0 (fills_row Long)) q))
    (WhereSo (code == 0x1B) (Alone used (At t p (takes_three 0 waits_equal) q))
    (WhereSo (code == 0x1C) (Alone used (At t p (takes_three 0 (moves_row Byte)) q))
    (WhereSo (code == 0x1D) (Alone used (At t p (takes_three 0 (moves_row Word)) q))
    (WhereSo (code == 0x1E) (Alone used (At t p (takes_three 0 (moves_row Long)) q))
    (WhereSo (code == 0x1F) (Alone used (At t p (takes_three 0 waits_differ) q)) ⊥)))))))

-- a start of a method of the same object, whose arguments and stack lie above the cog's number
abbrev pub StartAt : Compiled → (used : Bool) → Option NameKind → (count p q : ℕ) → Type 0
StartAt t used (Some (kind_case.Method n params)) count p q = Fits t.file n count × Kept t used (λ e. At t p (cogs.start_method t.memory n count) e) q
StartAt t used kind count p q = ⊥

abbrev pub PasmAt : Compiled → (used : Bool) → (First Second : (p q : ℕ) → Type 0) → (p q : ℕ) → Type 0
PasmAt t used First Second p q = (p1 p2 : ℕ) × First p p1 × Second p1 p2 × At t p2 (takes_three (leaves_if used) (starts_pasm used)) q

abbrev pub BeginsNameAt : Compiled → (used : Bool) → Option NameKind → (First Second : (p q : ℕ) → Type 0) → (p q : ℕ) → Type 0
BeginsNameAt t used (Some (kind_case.Method n params)) First Second p q = (p1 : ℕ) × Second p p1 × StartAt t used (Some (kind_case.Method n params)) 0 p1 q
BeginsNameAt t used kind First Second p q = PasmAt t used First Second p q

-- ---- expressions

abbrev mutual
  pub ValueAt : Compiled → Tree → (p q : ℕ) → Type 0
  ValueAt t (node place (Number n)) p q = At t p (gives n) q
  ValueAt t (node place (Str text)) p q = At t p (gives_text (t.addresses.text t.number place)) q
  ValueAt t (node place (Strings es)) p q = At t p (gives_text (t.addresses.text t.number place)) q
  ValueAt t (node place Here) p q = ⊥
  ValueAt t (node place (Var v)) p q = VariableAt t v p q
  ValueAt t (node place (Call stops None i name inside arguments)) p q =
      (p1 p2 : ℕ) × At t p (opens false stops) p1 × ValuesAt t arguments p1 p2 × OwnCallAt t (t.file.kind t.method name) (count_of_trees arguments) p2 q
  ValueAt t (node place (Call stops (Some object) i name inside arguments)) p q =
      (p1 p2 p3 : ℕ) × At t p (opens false stops) p1 × ValuesAt t arguments p1 p2 × IndexAt t i p2 p3 ×
      ObjectCallAt t (t.file.kind t.method object) i name (count_of_trees arguments) p3 q
  -- the sign `+` is EC, and has no code
  ValueAt t (node place (Unary operator e)) p q =
      WhereSo (operator == 0xEC) (ValueAt t e p q) ((p1 : ℕ) × ValueAt t e p p1 × At t p1 (takes_one 1 (applies_one operator)) q)
  ValueAt t (node place (Binary operator left right)) p q =
      (p1 p2 : ℕ) × ValueAt t left p p1 × ValueAt t right p1 p2 × At t p2 (takes_two 1 (applies_two operator)) q
  ValueAt t (node place (Assign v operator e)) p q =
      (p1 p2 : ℕ) × ValueAt t e p p1 × NamesAt t v p1 p2 × HasRegister true v × AssignAt t true operator v p2 q
  ValueAt t (node place (Change v change)) p q = (p1 : ℕ) × NamesAt t v p p1 × HasRegister true v × ChangeAt t true change v p1 q
  ValueAt t (node place (Address v)) p q = (p1 : ℕ) × NamesAt t v p p1 × AddressAt t v p1 q
  ValueAt t (node place (ObjectAddress e)) p q = (p1 : ℕ) × ValueAt t e p p1 × At t p1 (takes_one 1 object_address) q
  ValueAt t (node place (ObjConst object name inside)) p q = At t p (gives (or_zero (object_constant t.file (t.file.kind t.method object) name))) q
  ValueAt t (node place (Built code arguments)) p q = BuiltAt t true code arguments p q
  ValueAt t (node place (Look code e items)) p q =
      (p1 p2 p3 : ℕ) × ValueAt t e p p1 × At t p1 (gives (first_count code)) p2 × LooksAt t (goes_up code) items q p2 p3 × At t p3 (takes_two 1 look_fails) q

  -- a variable that is read
  pub VariableAt : Compiled → Variable → (p q : ℕ) → Type 0
  VariableAt t (Named name no_index place) p q = NameAt t name (Named name no_index place) p q
  VariableAt t (Named name (index e) place) p q = (p1 : ℕ) × ValueAt t e p p1 × ReadAt t (Named name (index e) place) p1 q
  VariableAt t (Part name size i place) p q = (p1 : ℕ) × IndexAt t i p p1 × ReadAt t (Part name size i place) p1 q
  VariableAt t (Memory size e i place) p q = (p1 p2 : ℕ) × ValueAt t e p p1 × IndexAt t i p1 p2 × ReadAt t (Memory size e i place) p2 q
  VariableAt t (Register register x place) p q = (p1 : ℕ) × BitsAt t x p p1 × IsRegister false register × ReadAt t (Register register x place) p1 q

  -- the operands that name a variable
  pub NamesAt : Compiled → Variable → (p q : ℕ) → Type 0
  NamesAt t (Named name i place) p q = IndexAt t i p q
  NamesAt t (Part name size i place) p q = IndexAt t i p q
  NamesAt t (Memory size e i place) p q = (p1 : ℕ) × ValueAt t e p p1 × IndexAt t i p1 q
  NamesAt t (Register register x place) p q = BitsAt t x p q

  pub IndexAt : Compiled → Index → (p q : ℕ) → Type 0
  IndexAt t no_index p q = p ≡ q
  IndexAt t (index e) p q = ValueAt t e p q

  pub BitsAt : Compiled → Bits → (p q : ℕ) → Type 0
  BitsAt t whole p q = p ≡ q
  BitsAt t (bits (single e)) p q = ValueAt t e p q
  BitsAt t (bits (range e f)) p q = (p1 : ℕ) × ValueAt t e p p1 × ValueAt t f p1 q

  -- arguments, one above the other
  pub ValuesAt : Compiled → Trees → (p q : ℕ) → Type 0
  ValuesAt t no_trees p q = p ≡ q
  ValuesAt t (es ▷ e) p q = (p1 : ℕ) × ValuesAt t es p p1 × ValueAt t e p1 q

  -- the items of a LOOK function, each of which may lead after the whole
  pub LooksAt : Compiled → (up : Bool) → Items → (target p q : ℕ) → Type 0
  LooksAt t up no_items target p q = p ≡ q
  LooksAt t up (items ▸ item) target p q = (p1 : ℕ) × LooksAt t up items target p p1 × LookAt t up item target p1 q

  pub LookAt : Compiled → (up : Bool) → Item → (target p q : ℕ) → Type 0
  LookAt t up (single e) target p q = (p1 : ℕ) × ValueAt t e p p1 × At t p1 (takes_three 2 (tries_item up target)) q
  LookAt t up (range e f) target p q = (p1 p2 : ℕ) × ValueAt t e p p1 × ValueAt t f p1 p2 × At t p2 (takes_four 2 (tries_both up target)) q

  -- a built-in; CONSTANT is 00, COGNEW 2C and COGINIT 28
  pub BuiltAt : Compiled → (used : Bool) → (code : ℕ) → Trees → (p q : ℕ) → Type 0
  BuiltAt t used code no_trees p q = NoneAt t used code p q
  BuiltAt t used code (no_trees ▷ e) p q =
      WhereSo (code == 0) (Alone (not used) (At t p (gives (or_zero (constants.value (setting_of t.file t.method) e))) q))
      ((p1 : ℕ) × ValueAt t e p p1 × OneAt t used code p1 q)
  BuiltAt t used code (no_trees ▷ e ▷ f) p q =
      WhereSo (code == 0x2C) ((p1 : ℕ) × At t p (gives new_cog) p1 × BeginsAt t used e (ValueAt t e) (ValueAt t f) p1 q)
      ((p1 p2 : ℕ) × ValueAt t e p p1 × ValueAt t f p1 p2 × TwoAt t used code p2 q)
  BuiltAt t used code (no_trees ▷ e ▷ f ▷ g) p q =
      WhereSo (code == 0x28) ((p1 : ℕ) × ValueAt t e p p1 × BeginsAt t used f (ValueAt t f) (ValueAt t g) p1 q)
      ((p1 p2 p3 : ℕ) × ValueAt t e p p1 × ValueAt t f p1 p2 × ValueAt t g p2 p3 × ThreeAt t used code p3 q)
  BuiltAt t used code (es ▷ d ▷ e ▷ f ▷ g) p q = ⊥

  -- a method is begun where its call is written without `\`
  pub BeginsAt : Compiled → (used : Bool) → Tree → (First Second : (p q : ℕ) → Type 0) → (p q : ℕ) → Type 0
  BeginsAt t used (node place (Call false None i name inside arguments)) First Second p q =
      (p1 p2 : ℕ) × ValuesAt t arguments p p1 × Second p1 p2 × StartAt t used (t.file.kind t.method name) (count_of_trees arguments) p2 q
  BeginsAt t used (node place (Var (Named name no_index inside))) First Second p q = BeginsNameAt t used (t.file.kind t.method name) First Second p q
  BeginsAt t used e First Second p q = PasmAt t used First Second p q
