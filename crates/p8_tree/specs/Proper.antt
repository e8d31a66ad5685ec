-- What a tree that was read satisfies, beside its form: numbers in their ranges, operators where they may stand, names that
-- are names, instructions with their operands, heights and depths within the limits.
--
-- `dat` says whether an expression stands in DAT, where `$`, local labels and all registers may stand.
use Rattle.std.specs.Prelude.{◌≡◌, ℕ, ◌^◌, ◌<◌, ◌≤◌, Bool, true, false, nat_le, ◌==◌, ◌&&◌, ◌||◌, not, IsTrue, List, [], ◌∷◌, length, Option, Some}
use Rattle.std.specs.Prelude.{None, codes, All}
use Rattle.p8_tree.specs.declared.places.Place.{Place}
use Rattle.p8_tree.specs.Expressions.{Tree, node, Form, Number, Str, Strings, Here, Var, Call, Unary, Binary, Assign, Change, Address, ObjectAddress}
use Rattle.p8_tree.specs.Expressions.{ObjConst, Built, Look, Variable, Named, Part, Memory, Register, Index, no_index, index, Bits, whole, bits}
use Rattle.p8_tree.specs.Expressions.{Item, single, range, Trees, no_trees, ◌▷◌, Items, no_items, ◌▸◌}
use Rattle.p8_tree.specs.Statements.{Course, Forever, Count, Before, After, From, Statement, statement, Action, Do, If, Case, Repeat, Next, Quit}
use Rattle.p8_tree.specs.Statements.{Return, Abort, Arm, arm, Otherwise, nothing_else, otherwise, Statements, no_statements, ◌▹◌, Arms, no_arms, ◌⊳◌}
use Rattle.p8_tree.specs.Sources as sources
use Rattle.p8_tree.specs.Sources.{Constant, Declared, Child, MethodTree, Datum, Instruction, Contents, Line, BlockTree, Source}
use Rattle.p8_tree.specs.Heights.{height}
use Rattle.p8_tree.specs.Nesting.{leave_loops, depth}
use Rattle.p8_tree.specs.Names.{is_among, two_operands, on_memory, one_operand, IsName, IsLabel, IsVariableName, IsString, IsFileName}

-- what there is, if there is anything, is so
abbrev pub IfThere : {A : Type 0} → (A → Type 0) → Option A → Type 0
IfThere P None = Unit {0}
IfThere P (Some x) = P x

-- there is something, and it is so
abbrev pub IsThere : {A : Type 0} → (A → Type 0) → Option A → Type 0
IsThere P None = ⊥
IsThere P (Some x) = P x

abbrev pub is_nothing : {A : Type 0} → Option A → Bool
is_nothing None = true
is_nothing (Some x) = false

-- whether a number is one of these
abbrev pub is_one_of : List ℕ → ℕ → Bool
is_one_of [] k = false
is_one_of (n ∷ ns) k = (k == n) || is_one_of ns k

-- expressions

-- operators before their operand: `-`, `!`, `||`, the sign `+`, `>|`, `|<`, `^^` and NOT
abbrev pub is_unary : ℕ → Bool
is_unary k = is_one_of (0xE6 ∷ 0xE7 ∷ 0xE9 ∷ 0xEC ∷ 0xF1 ∷ 0xF3 ∷ 0xF8 ∷ 0xFF ∷ []) k

-- operators between their operands: the others from E0 to FF, and `+`
abbrev pub is_binary : ℕ → Bool
is_binary k = nat_le 0xE0 k && (nat_le k 0xFF && ((k == 0xEC) || not (is_unary k)))

-- `++`, `--`, `~` and `~~`, before a variable and after it
abbrev pub is_change : ℕ → Bool
is_change k = is_one_of (0x20 ∷ 0x28 ∷ 0x30 ∷ 0x38 ∷ 0x10 ∷ 0x18 ∷ 0x14 ∷ 0x1C ∷ []) k

-- an operator but for `+` that stands alone with a variable, as a statement
abbrev pub is_operator_alone : ℕ → Bool
is_operator_alone k = is_one_of (0x46 ∷ 0x47 ∷ 0x49 ∷ 0x51 ∷ 0x53 ∷ 0x58 ∷ 0x5F ∷ []) k

-- LOOKUP, LOOKDOWN, LOOKUPZ and LOOKDOWNZ
abbrev pub is_look : ℕ → Bool
is_look k = is_one_of (0x10 ∷ 0x11 ∷ 0x12 ∷ 0x13 ∷ []) k

-- COGID, CLKMODE and CLKFREQ
abbrev pub is_value : ℕ → Bool
is_value k = is_one_of (0x3F ∷ 0x80 ∷ 0xC0 ∷ []) k

-- the built-ins with arguments that give a value: STRSIZE, STRCOMP, COGINIT, LOCKNEW, LOCKSET, LOCKCLR and COGNEW
abbrev pub gives_value : ℕ → Bool
gives_value k = is_one_of (0x16 ∷ 0x17 ∷ 0x28 ∷ 0x29 ∷ 0x2A ∷ 0x2B ∷ 0x2C ∷ []) k

-- those that give none: the FILL words, WAITPEQ, the MOVE words, WAITPNE, COGSTOP, LOCKRET and WAITCNT
abbrev pub gives_no_value : ℕ → Bool
gives_no_value k = is_one_of (0x18 ∷ 0x19 ∷ 0x1A ∷ 0x1B ∷ 0x1C ∷ 0x1D ∷ 0x1E ∷ 0x1F ∷ 0x21 ∷ 0x22 ∷ 0x23 ∷ []) k

-- a size in bytes: BYTE, WORD or LONG
abbrev pub is_size : ℕ → Bool
is_size z = is_one_of (1 ∷ 2 ∷ 4 ∷ []) z

-- OUTA and DIRA, which are written too
abbrev pub is_written_register : ℕ → Bool
is_written_register a = is_one_of (0x1F4 ∷ 0x1F6 ∷ []) a

-- INA, OUTA and DIRA
abbrev pub has_bits : ℕ → Bool
has_bits a = is_one_of (0x1F2 ∷ 0x1F4 ∷ 0x1F6 ∷ []) a

-- all registers in DAT; PAR, CNT, INA, OUTA and DIRA elsewhere
abbrev pub is_register : Bool → ℕ → Bool
is_register dat a = nat_le 0x1F0 a && (nat_le a 0x1FF && (dat || is_one_of (0x1F0 ∷ 0x1F1 ∷ 0x1F2 ∷ 0x1F4 ∷ 0x1F6 ∷ []) a))

-- a variable in main memory, which has an address
abbrev pub is_in_memory : Variable → Bool
is_in_memory (Register a x p) = false
is_in_memory v = true

abbrev pub is_written : Variable → Bool
is_written (Register a x p) = is_written_register a
is_written v = true

-- how many bits there may be said of
abbrev pub may_have : Bits → ℕ → Bool
may_have whole a = true
may_have (bits x) a = has_bits a

-- COGID, CLKMODE and CLKFREQ have no arguments
abbrev pub arguments_fit : Trees → ℕ → Bool
arguments_fit no_trees k = is_value k || gives_value k
-- CONSTANT has one
arguments_fit (no_trees ▷ e) k = (k == 0) || gives_value k
arguments_fit (es ▷ e) k = gives_value k

abbrev pub arguments_fit_alone : Trees → ℕ → Bool
arguments_fit_alone no_trees k = is_value k || (gives_value k || gives_no_value k)
arguments_fit_alone (es ▷ e) k = gives_value k || gives_no_value k

abbrev pub is_no_index : Index → Bool
is_no_index no_index = true
is_no_index (index e) = false

abbrev pub is_no_tree : Trees → Bool
is_no_tree no_trees = true
is_no_tree (es ▷ e) = false

abbrev pub is_no_item : Items → Bool
is_no_item no_items = true
is_no_item (xs ▸ x) = false

-- An object may have an index; a method of the same object has arguments, where its call stops no abort.
abbrev pub IsCalled : Bool → Option (List ℕ) → Index → Trees → Type 0
IsCalled trap None i es = IsTrue (is_no_index i) × IsTrue (trap || not (is_no_tree es))
IsCalled trap (Some object) i es = IsName object

abbrev mutual
  pub IsProperTree : Bool → Tree → Type 0
  IsProperTree dat (node place form) = IsProperForm dat form

  pub IsProperForm : Bool → Form → Type 0
  IsProperForm dat (Number n) = n < 2 ^ 32
  IsProperForm dat (Str text) = IsString text
  IsProperForm dat (Strings items) = IsTrue (not (is_no_tree items)) × AreProperTrees dat items
  IsProperForm dat Here = IsTrue dat
  IsProperForm dat (Var v) = IsProperVariable dat v
  IsProperForm dat (Call trap object i n place args) = IsName n × IsCalled trap object i args × IsProperIndex dat i × AreProperTrees dat args
  IsProperForm dat (Unary operator e) = IsTrue (is_unary operator) × IsProperTree dat e
  IsProperForm dat (Binary operator a b) = IsTrue (is_binary operator) × IsProperTree dat a × IsProperTree dat b
  IsProperForm dat (Assign v operator e) = IfThere (λ k. IsTrue (is_binary k)) operator × IsTrue (is_written v) × IsProperVariable dat v × IsProperTree dat e
  IsProperForm dat (Change v effect) = IsTrue (is_change effect) × IsTrue (is_written v) × IsProperVariable dat v
  IsProperForm dat (Address v) = IsTrue (is_in_memory v) × IsProperVariable dat v
  IsProperForm dat (ObjectAddress e) = IsProperTree dat e
  IsProperForm dat (ObjConst object n place) = IsName object × IsName n
  IsProperForm dat (Built code args) = IsTrue (arguments_fit args code) × AreProperTrees dat args
  IsProperForm dat (Look code e xs) = IsTrue (is_look code) × IsTrue (not (is_no_item xs)) × IsProperTree dat e × AreProperItems dat xs

  pub IsProperVariable : Bool → Variable → Type 0
  IsProperVariable dat (Named n i place) = IsVariableName dat n × IsProperIndex dat i
  IsProperVariable dat (Part n size i place) = IsVariableName dat n × IsTrue (is_size size) × IsProperIndex dat i
  IsProperVariable dat (Memory size e i place) = IsTrue (is_size size) × IsProperTree dat e × IsProperIndex dat i
  IsProperVariable dat (Register address x place) = IsTrue (is_register dat address) × IsTrue (may_have x address) × AreProperBits dat x

  pub IsProperIndex : Bool → Index → Type 0
  IsProperIndex dat no_index = Unit {0}
  IsProperIndex dat (index e) = IsProperTree dat e

  pub AreProperBits : Bool → Bits → Type 0
  AreProperBits dat whole = Unit {0}
  AreProperBits dat (bits x) = IsProperItem dat x

  pub IsProperItem : Bool → Item → Type 0
  IsProperItem dat (single e) = IsProperTree dat e
  IsProperItem dat (range low high) = IsProperTree dat low × IsProperTree dat high

  pub AreProperTrees : Bool → Trees → Type 0
  AreProperTrees dat no_trees = Unit {0}
  AreProperTrees dat (es ▷ e) = AreProperTrees dat es × IsProperTree dat e

  pub AreProperItems : Bool → Items → Type 0
  AreProperItems dat no_items = Unit {0}
  AreProperItems dat (xs ▸ x) = AreProperItems dat xs × IsProperItem dat x

-- the greatest height of an expression
abbrev pub greatest_height : ℕ
greatest_height = 64

-- an expression
abbrev pub IsProperExpression : Bool → Tree → Type 0
IsProperExpression dat e = IsProperTree dat e × (height e ≤ greatest_height)

-- the values and ranges that a CASE tests
abbrev pub IsProperTest : Item → Type 0
IsProperTest (single e) = IsProperExpression false e
IsProperTest (range low high) = IsProperExpression false low × IsProperExpression false high

abbrev pub AreProperTests : Items → Type 0
AreProperTests no_items = Unit {0}
AreProperTests (xs ▸ x) = AreProperTests xs × IsProperTest x

-- statements

abbrev pub IsNameAlone : Variable → Type 0
IsNameAlone (Named n no_index place) = IsName n
IsNameAlone v = ⊥

-- An expression whose value isn't used: a name alone, which is a call; an assignment; a change of a variable; a call; a
-- built-in.
abbrev pub IsDoneForm : Form → Type 0
IsDoneForm (Var v) = IsNameAlone v
IsDoneForm (Assign v operator e) = IsProperForm false (Assign v operator e)
IsDoneForm (Change v effect) = IsTrue (is_change effect || is_operator_alone effect) × IsTrue (is_written v) × IsProperVariable false v
IsDoneForm (Call trap object i n place args) = IsProperForm false (Call trap object i n place args)
IsDoneForm (Built code args) = IsTrue (arguments_fit_alone args code) × AreProperTrees false args
IsDoneForm f = ⊥

abbrev pub IsDone : Tree → Type 0
IsDone (node place form) = IsDoneForm form × (height (node place form) ≤ greatest_height)

-- how a REPEAT goes on: its counter is a name or RESULT
abbrev pub IsProperCourse : Course → Type 0
IsProperCourse Forever = Unit {0}
IsProperCourse (Count e) = IsProperExpression false e
IsProperCourse (Before until e) = IsProperExpression false e
IsProperCourse (After until e) = IsProperExpression false e
IsProperCourse (From n a b step place) = IsVariableName false n × IsProperExpression false a × IsProperExpression false b ×
    IfThere (IsProperExpression false) step

-- an arm of an IF chain has one test, a value
abbrev pub IsCondition : Items → Type 0
IsCondition (no_items ▸ single e) = IsProperExpression false e
IsCondition xs = ⊥

abbrev pub is_no_arm : Arms → Bool
is_no_arm no_arms = true
is_no_arm (xs ⊳ x) = false

abbrev mutual
  pub IsProperStatement : Statement → Type 0
  IsProperStatement (statement place action) = IsProperAction action

  pub IsProperAction : Action → Type 0
  IsProperAction (Do e) = IsDone e
  IsProperAction (If arms other) = IsTrue (not (is_no_arm arms)) × AreProperArms arms × IsProperOtherwise other
  IsProperAction (Case e arms other) = IsProperExpression false e × AreProperChoices arms × IsProperOtherwise other
  IsProperAction (Repeat course body) = IsProperCourse course × AreProperStatements body
  IsProperAction Next = Unit {0}
  IsProperAction Quit = Unit {0}
  IsProperAction (Return e) = IfThere (IsProperExpression false) e
  IsProperAction (Abort e) = IfThere (IsProperExpression false) e

  -- the arms of an IF chain
  pub AreProperArms : Arms → Type 0
  AreProperArms no_arms = Unit {0}
  AreProperArms (xs ⊳ x) = AreProperArms xs × IsProperArm x

  pub IsProperArm : Arm → Type 0
  IsProperArm (arm tests negated body) = IsCondition tests × AreProperStatements body

  -- the items of a CASE
  pub AreProperChoices : Arms → Type 0
  AreProperChoices no_arms = Unit {0}
  AreProperChoices (xs ⊳ x) = AreProperChoices xs × IsProperChoice x

  pub IsProperChoice : Arm → Type 0
  IsProperChoice (arm tests negated body) = (negated ≡ false) × IsTrue (not (is_no_item tests)) × AreProperTests tests × AreProperStatements body

  pub IsProperOtherwise : Otherwise → Type 0
  IsProperOtherwise nothing_else = Unit {0}
  IsProperOtherwise (otherwise body) = AreProperStatements body

  pub AreProperStatements : Statements → Type 0
  AreProperStatements no_statements = Unit {0}
  AreProperStatements (ss ▹ s) = AreProperStatements ss × IsProperStatement s

-- declarations

abbrev pub IsSize : ℕ → Type 0
IsSize z = IsTrue (is_size z)

-- `#e`, or a name with a value, a step or neither
pub data IsProperConstant : Constant → Type 0 where
  setting : {p : Place} {e : Tree} → IsProperExpression false e → IsProperConstant (record { place = p; name = None; value = Some e; step = None; sets = true })
  with_value : {p : Place} {n : List ℕ} {e : Tree} → IsName n → IsProperExpression false e →
      IsProperConstant (record { place = p; name = Some n; value = Some e; step = None; sets = false })
  counted : {p : Place} {n : List ℕ} {step : Option Tree} → IsName n → IfThere (IsProperExpression false) step →
      IsProperConstant (record { place = p; name = Some n; value = None; step = step; sets = false })

pub record IsProperDeclared (x : Declared) : Type 0 where
  pub size : IsSize x.size
  pub name : IsName x.name
  pub count : IfThere (IsProperExpression false) x.count

pub record IsProperLocal (x : Declared) : Type 0 where
  pub long : x.size ≡ 4
  pub name : IsName x.name
  pub count : IfThere (IsProperExpression false) x.count

pub record IsProperChild (x : Child) : Type 0 where
  pub name : IsName x.name
  pub count : IfThere (IsProperExpression false) x.count
  pub file : IsFileName x.file

-- With the method itself at most 64 blocks are open.
pub record IsProperMethod (x : MethodTree) : Type 0 where
  pub name : IsName x.name
  pub params : All IsName x.params
  pub param_places : length x.param_places ≡ length x.params
  pub result_name : IfThere IsName x.result_name
  pub result_place : is_nothing x.result_place ≡ is_nothing x.result_name
  pub locals : All IsProperLocal x.locals
  pub body : AreProperStatements x.body
  pub loops : IsTrue (leave_loops false x.body)
  pub shallow : depth x.body < 64

-- DAT

pub record IsProperDatum (x : Datum) : Type 0 where
  pub size : IfThere IsSize x.size
  pub value : IsProperExpression true x.value
  pub count : IfThere (IsProperExpression true) x.count

-- a label as an expression
abbrev pub IsLabelAlone : Tree → Type 0
IsLabelAlone (node p (Var (Named n no_index q))) = IsLabel n
IsLabelAlone e = ⊥

-- The operands that the word of an instruction takes, and the effects that it may have: WZ is 1, WC 2, WR 4 and NR 8.
pub data HasOperands (x : Instruction) : Type 0 where
  two : IsTrue (is_among two_operands x.word) → IsThere (IsProperExpression true) x.dest → IsThere (IsProperExpression true) x.source →
      x.effects < 16 → HasOperands x
  memory : IsTrue (is_among on_memory x.word) → IsThere (IsProperExpression true) x.dest → IsThere (IsProperExpression true) x.source →
      x.effects < 4 → HasOperands x
  one : IsTrue (is_among one_operand x.word) → IsThere (IsProperExpression true) x.dest → x.source ≡ None → x.immediate ≡ false → x.effects < 16 → HasOperands x
  jump : x.word ≡ codes "JMP" → x.dest ≡ None → IsThere (IsProperExpression true) x.source → x.effects < 16 → HasOperands x
  call : x.word ≡ codes "CALL" → x.dest ≡ None → IsThere IsLabelAlone x.source → x.immediate ≡ true → x.effects < 16 → HasOperands x
  return : x.word ≡ codes "RET" → x.dest ≡ None → x.source ≡ None → x.immediate ≡ false → x.effects < 16 → HasOperands x
  nothing : x.word ≡ codes "NOP" → x.dest ≡ None → x.source ≡ None → x.immediate ≡ false → x.effects ≡ 0 → HasOperands x

pub record IsProperInstruction (x : Instruction) : Type 0 where
  pub cond : x.cond < 16
  pub operands : HasOperands x

abbrev pub AreProperContents : Contents → Type 0
AreProperContents sources.Nothing = Unit {0}
AreProperContents (sources.Data size xs) = IsSize size × All IsProperDatum xs
AreProperContents (sources.Org e) = IfThere (IsProperExpression true) e
AreProperContents (sources.Res e) = IfThere (IsProperExpression true) e
AreProperContents (sources.Fit e) = IfThere (IsProperExpression true) e
AreProperContents (sources.Instr x) = IsProperInstruction x

abbrev pub is_empty : Contents → Bool
is_empty sources.Nothing = true
is_empty c = false

-- a line has a label, or something stands in it
pub record IsProperLine (x : Line) : Type 0 where
  pub label : IfThere IsLabel x.label
  pub contents : AreProperContents x.contents
  pub something : IsTrue (not (is_nothing x.label && is_empty x.contents))

-- files

abbrev pub IsProperBlock : BlockTree → Type 0
IsProperBlock (sources.Con xs) = All IsProperConstant xs
IsProperBlock (sources.Var xs) = All IsProperDeclared xs
IsProperBlock (sources.Obj xs) = All IsProperChild xs
IsProperBlock (sources.Method x) = IsProperMethod x
IsProperBlock (sources.Dat xs) = All IsProperLine xs

-- a tree that was read
abbrev pub IsProperFile : Source → Type 0
IsProperFile blocks = All IsProperBlock blocks
