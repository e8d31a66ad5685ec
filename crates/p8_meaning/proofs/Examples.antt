-- Runs of small programs, by computation: the accesses of their methods, in order, with these answers.
use Rattle.std.proofs.Common.{◌≡◌, refl, ℕ, zero, suc, ◌+◌, Bool, true, false, if◌then◌else◌, List, [], ◌∷◌, ◌++◌, map, Option, Some, None}
use Rattle.std.specs.Prelude.{codes, replicate, ◌==◌, ◌^◌, ◌-◌}
use Rattle.std.specs.Str.{bytes_eq}
use Rattle.p8_access.specs.declared.kinds.Width.TheVariants.{Byte, Word, Long}
use Rattle.p8_access.specs.declared.kinds.Origin.TheVariants.{Spin}
use Rattle.p8_access.specs.declared.kinds.Test.TheVariants as test_case
use Rattle.p8_access.specs.declared.kinds.Reason.TheVariants as Why
use Rattle.p8_access.specs.declared.kinds.Access.{Access}
use Rattle.p8_access.specs.declared.kinds.Access.TheVariants.{Read, Write, CogInit, CogStop, OutSet, DirSet, Clock, Wait, Halt}
use Rattle.p8_access.specs.declared.kinds.Answer.{Answer}
use Rattle.p8_access.specs.declared.kinds.Answer.TheVariants.{Done, Value, Number}
use Rattle.p8_access.specs.Courses.{Told, Wants, Leaves, Closes}
use Rattle.p8_tree.specs.declared.places.Place.{Place}
use Rattle.p8_tree.specs.Expressions as expressions
use Rattle.p8_tree.specs.Expressions.{Tree, node, Form, Var, Call, Binary, Assign, Change, Address, Built, Look, Variable, Named, Register, no_index, index, bits, whole, single, range, no_trees, ◌▷◌, no_items, ◌▸◌}
use Rattle.p8_tree.specs.Statements.{Statement, statement, Action, Do, If, Case, Repeat, Next, Quit, Forever, Count, After, From, Return, Abort, Statements, no_statements, ◌▹◌, arm, no_arms, ◌⊳◌, nothing_else, otherwise}
use Rattle.p8_tree.specs.Sources.{MethodTree, Method, Declared}
use Rattle.p8_kinds.specs.declared.name_kinds.NameKind.{NameKind}
use Rattle.p8_kinds.specs.declared.name_kinds.NameKind.TheVariants as kind
use Rattle.p8_words.specs.Operators.{unary_values, binary_values}
use Rattle.p8_meaning.specs.Programs.{File, Program, Addresses, Instance, Target}
use Rattle.p8_meaning.specs.Lives.{says, says_for}

-- ---- trees, all at one place

abbrev here : Place
here = record { line = 1; column = 1 }

abbrev number : ℕ → Tree
number n = node here (expressions.Number n)

abbrev variable : List ℕ → Variable
variable name = Named name no_index here

abbrev read : List ℕ → Tree
read name = node here (Var (variable name))

abbrev act : Action → Statement
act action = statement here action

abbrev alone : Form → Statement
alone form = act (Do (node here form))

abbrev local : List ℕ → Declared
local name = record { place = here; size = 4; name = name; count = None }

abbrev method : (public : Bool) → (name : List ℕ) → (params locals : List (List ℕ)) → Statements → MethodTree
method public name params locals body = record {
  place = here;
  public = public;
  name = name;
  params = params;
  param_places = map (λ p. here) params;
  result_name = None;
  result_place = None;
  locals = map local locals;
  body = body;
}

-- ---- projects of one file

abbrev beside : List ℕ → List (List ℕ × NameKind) → Option NameKind
beside name [] = None
beside name (line ∷ lines) = if bytes_eq name line.0 then Some line.1 else beside name lines

abbrev kinds : List (List ℕ × NameKind) → (method : ℕ) → List ℕ → Option NameKind
kinds lines method name = beside name lines

abbrev file : List MethodTree → List (List ℕ × NameKind) → File
file methods names = record { source = map Method methods; kind = kinds names; children = []; child_files = [] }

abbrev top : (variables : ℕ) → Instance
top variables = record { file = 0; base = 16; variables = variables }

abbrev addresses : (variables : ℕ) → Addresses
addresses variables = record {
  label = λ file name. 0;
  text = λ file place. 0;
  code = λ file method. 0;
  object_base = λ file position. 0;
  object_variables = λ file position. 0;
  top = top variables;
}

abbrev main : (variables : ℕ) → Target
main variables = record { instance = top variables; method = 1 }

abbrev runs : (file : File) (variables frame : ℕ) → List Answer → (bound : ℕ) → Told (Unit {0})
runs file variables frame answers bound = says (file ∷ []) (addresses variables) (main variables) frame 0 answers bound

-- PUB main
empty : runs (file (method true (codes "MAIN") [] [] no_statements ∷ []) []) 0x24 0x24 (Done ∷ Done ∷ []) 0 ≡ Closes (Write Long 0x24 0 ∷ CogStop 0 ∷ [])
unfolding says
empty = refl

-- VAR
--   long a
-- PUB main | i
--   repeat i from 0 to 2
--     a := i
abbrev counting : File
counting = file
    (method true (codes "MAIN") [] (codes "I" ∷ [])
    (no_statements ▹ act (Repeat (From (codes "I") (number 0) (number 2) None here) (no_statements ▹ alone (Assign (variable (codes "A")) None (read (codes "I"))))))
    ∷ [])
    ((codes "A", kind.Global 4 0) ∷ (codes "I", kind.Local 4) ∷ [])

abbrev pass : ℕ → List Access
pass j = Read Long 0x34 ∷ Write Long 0x24 j ∷ Read Long 0x34 ∷ Write Long 0x34 (j + 1) ∷ []

abbrev answered : ℕ → List Answer
answered j = Value j ∷ Done ∷ Value j ∷ Done ∷ []

counts : runs counting 0x24 0x30 (Done ∷ Done ∷ answered 0 ++ (answered 1 ++ (answered 2 ++ Done ∷ []))) 2 ≡ Closes (Write Long 0x30 0 ∷ Write Long 0x34 0 ∷ pass 0 ++ (pass 1 ++ (pass 2 ++ CogStop 0 ∷ [])))
unfolding says
counts = refl

-- with a bound of 1 the third pass isn't told
bounded : runs counting 0x24 0x30 (Done ∷ Done ∷ answered 0 ++ (answered 1 ++ Value 2 ∷ [])) 1 ≡ Leaves (Write Long 0x30 0 ∷ Write Long 0x34 0 ∷ pass 0 ++ pass 1) tt (Value 2 ∷ [])
unfolding says
bounded = refl

-- PUB main
--   repeat
--     repeat
--       return
-- A loop's first pass takes nothing of the bound.
abbrev looping : File
looping = file
    (method true (codes "MAIN") [] [] (no_statements ▹ act (Repeat Forever (no_statements ▹ act (Repeat Forever (no_statements ▹ act (Return None))))))
    ∷ [])
    []

returns : runs looping 0x24 0x24 (Done ∷ []) 1 ≡ Wants (Write Long 0x24 0 ∷ []) (CogStop 0)
unfolding says
returns = refl

-- PUB main
--   \f
-- PRI f
--   abort 5
abbrev stopping : File
stopping = file
    (method true (codes "MAIN") [] [] (no_statements ▹ alone (Call true None no_index (codes "F") here no_trees))
    ∷ method false (codes "F") [] [] (no_statements ▹ act (Abort (Some (number 5))))
    ∷ [])
    ((codes "MAIN", kind.Method 1 0) ∷ (codes "F", kind.Method 2 0) ∷ [])

stops : runs stopping 0x24 0x24 (Done ∷ Done ∷ []) 1 ≡ Wants (Write Long 0x24 0 ∷ Write Long 0x28 0 ∷ []) (CogStop 0)
unfolding says
stops = refl

-- VAR
--   long a
-- PUB main
--   a[f] := g
--   a := f and g
-- PRI f
--   return 2
-- PRI g
--   return 7
-- The right side comes before the index, and AND has both sides.
abbrev two_calls : File
two_calls = file
    (method true (codes "MAIN") [] []
    (no_statements ▹ alone (Assign (Named (codes "A") (index (read (codes "F"))) here) None (read (codes "G")))
    ▹ alone (Assign (variable (codes "A")) None (node here (Binary 0xF0 (read (codes "F")) (read (codes "G"))))))
    ∷ method false (codes "F") [] [] (no_statements ▹ act (Return (Some (number 2))))
    ∷ method false (codes "G") [] (codes "X" ∷ []) (no_statements ▹ alone (Assign (variable (codes "X")) None (number 9)) ▹ act (Return (Some (number 7))))
    ∷ [])
    ((codes "A", kind.Global 4 0) ∷ (codes "F", kind.Method 2 0) ∷ (codes "G", kind.Method 3 0) ∷ (codes "X", kind.Local 4) ∷ [])

ordered : runs two_calls 0x80 0x100 (replicate 8 Done) 4 ≡ Wants (Write Long 0x100 0 ∷ Write Long 0x104 0 ∷ Write Long 0x108 9 ∷ Write Long 0x104 0 ∷ Write Long 0x88 7 ∷ Write Long 0x104 0 ∷ Write Long 0x104 0 ∷ Write Long 0x108 9 ∷ []) (Write Long 0x80 (2 ^ 32 - 1))
unfolding says binary_values
ordered = refl

-- PUB main
--   main
-- 128 methods are active at most.
abbrev deep : File
deep = file
    (method true (codes "MAIN") [] [] (no_statements ▹ alone (Var (variable (codes "MAIN"))))
    ∷ [])
    ((codes "MAIN", kind.Method 1 0) ∷ [])

abbrev results_from : (address count : ℕ) → List Access
results_from address zero = []
results_from address (suc n) = Write Long address 0 ∷ results_from (address + 4) n

too_deep : runs deep 0x24 0x24 (replicate 128 Done) 1000 ≡ Wants (results_from 0x24 128) (Halt Why.Deep)
unfolding says
too_deep = refl

-- ---- a project of two files
--
-- main.spin: OBJ
--              led : "blink"
--            PUB main
--              led.start(4)
-- blink.spin: VAR
--               long stack[8]
--             PUB start(pin) : ok
--               ok := cognew(run(pin), @stack) + 1
--             PRI run(pin)
--               dira[pin]~~
--               repeat
--                 !outa[pin]
--                 waitcnt(clkfreq / 1000 + cnt)

abbrev starting : MethodTree
starting = method true (codes "START") (codes "PIN" ∷ []) []
    (no_statements ▹ alone (Assign (variable (codes "OK")) None
    (node here (Binary 0xEC
    (node here (Built 0x2C (no_trees ▷ node here (Call false None no_index (codes "RUN") here (no_trees ▷ read (codes "PIN"))) ▷ node here (Address (variable (codes "STACK"))))))
    (number 1)))))

abbrev at_pin : (register : ℕ) → Variable
at_pin register = Register register (bits (single (read (codes "PIN")))) here

abbrev running : MethodTree
running = method false (codes "RUN") (codes "PIN" ∷ []) []
    (no_statements ▹ alone (Change (at_pin 0x1F6) 0x1C)
    ▹ act (Repeat Forever (no_statements ▹ alone (Change (at_pin 0x1F4) 0x47)
    ▹ alone (Built 0x23 (no_trees ▷ node here (Binary 0xEC (node here (Binary 0xF6 (node here (Built 0xC0 no_trees)) (number 1000))) (node here (Var (Register 0x1F1 whole here)))))))))

abbrev blink : File
blink = file (starting ∷ running ∷ [])
    ((codes "STACK", kind.Global 4 0) ∷ (codes "START", kind.Method 1 1) ∷ (codes "RUN", kind.Method 2 1) ∷ (codes "PIN", kind.Local 4) ∷ (codes "OK", kind.Local 0) ∷ [])

abbrev blinking : Program
blinking = record {
  source = Method (method true (codes "MAIN") [] [] (no_statements ▹ alone (Call false (Some (codes "LED")) no_index (codes "START") here (no_trees ▷ number 4)))) ∷ [];
  kind = kinds ((codes "LED", kind.Object 0 0 1) ∷ (codes "MAIN", kind.Method 1 0) ∷ []);
  children = record { methods = record { name = codes "START"; params = 1 } ∷ []; consts = [] } ∷ [];
  child_files = 1 ∷ [];
} ∷ blink ∷ []

abbrev blink_addresses : Addresses
blink_addresses = record {
  label = λ file name. 0;
  text = λ file place. 0;
  code = λ file method. if method == 1 then 0x0C else 0x16;
  object_base = λ file position. 0x14;
  object_variables = λ file position. 0;
  top = top 0x50;
}

first_cog : says blinking blink_addresses (main 0x50) 0x78 0 (Done ∷ Done ∷ Done ∷ Value 4 ∷ Done ∷ Number (Some 1) ∷ Done ∷ Done ∷ []) 1
    ≡ Closes (Write Long 0x78 0 ∷ Write Long 0x7C 0 ∷ Write Long 0x80 4 ∷ Read Long 0x80 ∷ Write Long 0x54 4 ∷ CogInit None (Spin 0x3A 0x24 0x50 0x50 4) ∷ Write Long 0x7C 2 ∷ CogStop 0 ∷ [])
unfolding says binary_values
first_cog = refl

second_cog : says blinking blink_addresses (record { instance = record { file = 1; base = 0x24; variables = 0x50 }; method = 2 }) 0x50 1 (Done ∷ Value 4 ∷ Done ∷ Value 4 ∷ Done ∷ Value 80_000_000 ∷ Value 0x44BB ∷ []) 0
    ≡ Wants (Write Long 0x50 0 ∷ Read Long 0x54 ∷ DirSet 0x10 ∷ Read Long 0x54 ∷ OutSet 0x10 ∷ Read Long 0 ∷ Clock ∷ []) (Wait (test_case.Count 0x17D3B))
unfolding says unary_values binary_values
second_cog = refl

-- ---- statements

abbrev a : Variable
a = variable (codes "A")

abbrev gets : (value : ℕ) → Statement
gets value = alone (Assign a None (number value))

-- A is a byte of VAR at $24 and B a word after it
abbrev one_method : Statements → File
one_method body = file (method true (codes "MAIN") [] [] body ∷ []) ((codes "A", kind.Global 1 0) ∷ (codes "B", kind.Global 2 2) ∷ [])

-- case 5
--   1, 3: a := 1
--   9..4: a := 2
--   5: a := 3
--   other: a := 4
-- A range fits in either order of its ends, and the first arm that fits is taken.
chosen : runs (one_method (no_statements ▹ act (Case (number 5)
    (no_arms ⊳ arm (no_items ▸ single (number 1) ▸ single (number 3)) false (no_statements ▹ gets 1)
    ⊳ arm (no_items ▸ range (number 9) (number 4)) false (no_statements ▹ gets 2)
    ⊳ arm (no_items ▸ single (number 5)) false (no_statements ▹ gets 3))
    (otherwise (no_statements ▹ gets 4))))) 0x24 0x28 (Done ∷ Done ∷ []) 0 ≡ Wants (Write Long 0x28 0 ∷ Write Byte 0x24 2 ∷ []) (CogStop 0)
unfolding says
chosen = refl

-- b := lookup(4: 7, 10..12)
-- a := lookdownz(11: 7, 12..10)
looked_up : runs (one_method (no_statements ▹ alone (Assign (variable (codes "B")) None (node here (Look 0x10 (number 4) (no_items ▸ single (number 7) ▸ range (number 10) (number 12)))))
    ▹ alone (Assign a None (node here (Look 0x13 (number 11) (no_items ▸ single (number 7) ▸ range (number 12) (number 10)))))))
    0x24 0x28 (Done ∷ Done ∷ Done ∷ []) 0 ≡ Wants (Write Long 0x28 0 ∷ Write Word 0x26 12 ∷ Write Byte 0x24 2 ∷ []) (CogStop 0)
unfolding says
looked_up = refl

-- repeat 3
--   if a~
--     next
--   elseifnot a++ == 7
--     quit
-- `~` reads the variable where its value is used, and `++` after it gives the old value.
in_turn : runs (one_method (no_statements ▹ act (Repeat (Count (number 3)) (no_statements ▹ act (If
    (no_arms ⊳ arm (no_items ▸ single (node here (Change a 0x18))) false (no_statements ▹ act Next)
    ⊳ arm (no_items ▸ single (node here (Binary 0xFC (node here (Change a 0x28)) (number 7)))) true (no_statements ▹ act Quit))
    nothing_else))))) 0x24 0x28 (Done ∷ Value 1 ∷ Done ∷ Value 0 ∷ Done ∷ Value 7 ∷ Done ∷ Value 0 ∷ Done ∷ Value 0xFF ∷ Done ∷ []) 2
    ≡ Wants (Write Long 0x28 0 ∷ Read Byte 0x24 ∷ Write Byte 0x24 0 ∷ Read Byte 0x24 ∷ Write Byte 0x24 0 ∷ Read Byte 0x24 ∷ Write Byte 0x24 8 ∷ Read Byte 0x24 ∷ Write Byte 0x24 0 ∷ Read Byte 0x24 ∷ Write Byte 0x24 0 ∷ []) (CogStop 0)
unfolding says binary_values
in_turn = refl

-- repeat a from 254 to 256
-- The new value is compared before it is reduced to the counter's size.
reduced_late : runs (one_method (no_statements ▹ act (Repeat (From (codes "A") (number 254) (number 256) None here) no_statements))) 0x24 0x28
    (Done ∷ Done ∷ Value 254 ∷ Done ∷ Value 255 ∷ Done ∷ Value 0 ∷ Done ∷ []) 2
    ≡ Wants (Write Long 0x28 0 ∷ Write Byte 0x24 254 ∷ Read Byte 0x24 ∷ Write Byte 0x24 255 ∷ Read Byte 0x24 ∷ Write Byte 0x24 0 ∷ Read Byte 0x24 ∷ Write Byte 0x24 1 ∷ []) (CogStop 0)
unfolding says
reduced_late = refl

-- repeat
--   a~~
-- until strsize(0)
-- A text at 0 of three characters.
measured : runs (one_method (no_statements ▹ act (Repeat (After true (node here (Built 0x16 (no_trees ▷ number 0)))) (no_statements ▹ alone (Change a 0x1C))))) 0x24 0x28
    (Done ∷ Done ∷ Value 65 ∷ Value 66 ∷ Value 67 ∷ Value 0 ∷ []) 0
    ≡ Wants (Write Long 0x28 0 ∷ Write Byte 0x24 255 ∷ Read Byte 0 ∷ Read Byte 1 ∷ Read Byte 2 ∷ Read Byte 3 ∷ []) (CogStop 0)
unfolding says
measured = refl

-- VAR
--   long a
-- PUB main | i
--   a := 1
--   repeat i from 0 to 2
--     a := i
abbrev place : ℕ → Place
place line = record { line = line; column = 3 }

abbrev placed : File
placed = file
    (method true (codes "MAIN") [] (codes "I" ∷ [])
    (no_statements ▹ statement (place 4) (Do (node here (Assign (variable (codes "A")) None (number 1))))
    ▹ statement (place 5) (Repeat (From (codes "I") (number 0) (number 2) None here) (no_statements ▹ statement (place 6) (Do (node here (Assign (variable (codes "A")) None (read (codes "I"))))))))
    ∷ [])
    ((codes "A", kind.Global 4 0) ∷ (codes "I", kind.Local 4) ∷ [])

-- the statement for which the access is asked that comes after these answers
abbrev asks : List Answer → Option Place
asks answers = says_for (placed ∷ []) (addresses 0x24) (main 0x24) 0x30 0 answers 3

-- `a := 1`, the loop's begin, `a := i`, and the loop again at the end of the pass
first : asks (Done ∷ []) ≡ Some (place 4)
unfolding says_for
first = refl

second : asks (Done ∷ Done ∷ []) ≡ Some (place 5)
unfolding says_for
second = refl

third : asks (Done ∷ Done ∷ Done ∷ []) ≡ Some (place 6)
unfolding says_for
third = refl

fifth : asks (Done ∷ Done ∷ Done ∷ Value 0 ∷ Done ∷ []) ≡ Some (place 5)
unfolding says_for
fifth = refl

-- the cog's stop of itself is the method's own, at the place of its name
last : asks (Done ∷ Done ∷ Done ∷ Value 0 ∷ Done ∷ Value 2 ∷ Done ∷ []) ≡ Some here
unfolding says_for
last = refl

-- VAR
--   long a
-- PUB main
--   a := one
-- PRI one
--   return
abbrev calling : File
calling = file
    (method true (codes "MAIN") [] [] (no_statements ▹ statement (place 4) (Do (node here (Assign (variable (codes "A")) None (read (codes "ONE"))))))
    ∷ method false (codes "ONE") [] [] (no_statements ▹ statement (place 6) (Return None))
    ∷ [])
    ((codes "A", kind.Global 4 0) ∷ (codes "ONE", kind.Method 2 0) ∷ [])

abbrev asks_of_call : List Answer → Option Place
asks_of_call answers = says_for (calling ∷ []) (addresses 0x24) (main 0x24) 0x30 0 answers 3

-- the frame is begun for the call, the result is read for the `return`, and then the call's statement goes on
frame_begun : asks_of_call (Done ∷ []) ≡ Some (place 4)
unfolding says_for
frame_begun = refl

result_read : asks_of_call (Done ∷ Done ∷ []) ≡ Some (place 6)
unfolding says_for
result_read = refl

result_stored : asks_of_call (Done ∷ Done ∷ Value 0 ∷ []) ≡ Some (place 4)
unfolding says_for
result_stored = refl
