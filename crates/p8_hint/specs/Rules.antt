-- The rules: what is accepted and is most likely a slip of the pen, and what isn't told because it may be meant (this project's profile; what the lines do is
-- from the Propeller Manual v1.2).
use Rattle.std.specs.Prelude.{ℕ, ◌-◌, nat_lt, Bool, true, false, ◌==◌, ◌&&◌, ◌||◌, not, List, [], ◌∷◌, ◌++◌, length, drop, codes}
use Rattle.std.specs.Prelude.{Option, Some, None, is_some, if◌then◌else◌}
use Rattle.std.specs.List.{flat_map}
use Rattle.std.specs.Str.{bytes_eq}
use Rattle.p8_tree.specs.declared.places.Place.{Place}
use Rattle.p8_tree.specs.Names.{result_word}
use Rattle.p8_tree.specs.Expressions.{Tree, node, Number, Var, Call, Assign, Address}
use Rattle.p8_tree.specs.Expressions.{ObjConst, Variable, Named, no_index}
use Rattle.p8_tree.specs.Sources as trees
use Rattle.p8_tree.specs.Sources.{Contents, Declared, MethodTree}
use Rattle.p8_constants.specs.FileItems.{Item, variable, method, line}
use Rattle.p8_hint.specs.declared.hint.Hint.{Hint}
use Rattle.p8_hint.specs.declared.hint.Slip.{Slip}
use Rattle.p8_hint.specs.declared.hint.Slip.TheVariants as slip
use Rattle.p8_hint.specs.Spots as spots
use Rattle.p8_hint.specs.Spots.{Spot, spots_in}

-- ---- what is known of a file

pub record Facts : Type 0 where
  -- by the name of one of its methods, how many bytes its result, its parameters, its locals and its operands take
  pub needed : List ℕ → Option ℕ
  -- by the name of a VAR with a count, how many bytes it has
  pub array : List ℕ → Option ℕ
  -- by a name that its methods mention, 1 where they do so once, and else 2
  pub times : List ℕ → Option ℕ
  -- by a label, 1 where an instruction stands at each label of this name, and else 0
  pub on_code : List ℕ → Option ℕ
  -- whether a VAR without a count may stand for those behind it
  pub exposed : Bool

abbrev pub hint : Place → Slip → Hint
hint place why = record { place = place; slip = why }

abbrev pub told : Bool → Place → Slip → List Hint
told true place why = hint place why ∷ []
told false place why = []

-- ---- how often names are mentioned

-- a number in place of the one that was there, if it is to be changed
abbrev pub after : Bool → (Option ℕ → ℕ) → Option ℕ → Option ℕ
after true f o = Some (f o)
after false f o = o

-- one time more: 2 stands for more than once
abbrev pub once_more : Option ℕ → ℕ
once_more None = 1
once_more (Some k) = 2

abbrev pub mentions : (name : List ℕ) → Spot → Bool
mentions name (spots.name n) = bytes_eq name n
mentions name s = false

abbrev pub times_in : List Spot → (name : List ℕ) → Option ℕ
times_in [] name = None
times_in (s ∷ ss) name = after (mentions name s) once_more (times_in ss name)

abbrev pub reaches : (name : List ℕ) → Spot → Bool
reaches name (spots.reach n) = bytes_eq name n
reaches name s = false

abbrev pub reached_in : List Spot → (name : List ℕ) → Option ℕ
reached_in [] name = None
reached_in (s ∷ ss) name = after (reaches name s) once_more (reached_in ss name)

-- ---- AssignsInTest

-- a name that stands alone
abbrev pub lone_name : Variable → Option (List ℕ)
lone_name (Named name no_index q) = Some name
lone_name v = None

abbrev pub is_value : Facts → Option (List ℕ) → Bool
is_value f None = false
is_value f (Some name) = not (is_some (f.needed name))

-- what could be compared as well, and has no effect of its own: a number, a constant, or a name that isn't a method's
abbrev pub is_plain : Facts → Tree → Bool
is_plain f (node p (Number n)) = true
is_plain f (node p (ObjConst object name q)) = true
is_plain f (node p (Var v)) = is_value f (lone_name v)
is_plain f e = false

-- `<=` is F9 with `=`, `>=` FA, and `===` FC; the others may well be meant
abbrev pub compared : Place → (operator : ℕ) → List Hint
compared p operator =
    if operator == 0xF9 then hint p slip.AssignsLessInTest ∷ [] else
    (if operator == 0xFA then hint p slip.AssignsGreaterInTest ∷ [] else
    (if operator == 0xFC then hint p slip.AssignsEqualInTest ∷ [] else []))

abbrev pub assigned : Facts → Place → Option ℕ → Tree → List Hint
assigned f p None e = told (is_plain f e) p slip.AssignsInTest
assigned f p (Some operator) e = compared p operator

abbrev pub in_test : Facts → Tree → List Hint
in_test f (node p (Assign v operator e)) = assigned f p operator e
in_test f e = []

-- ---- NoAddress and ShortStack

-- a method of the same object
abbrev pub own_method : Option (List ℕ) → List ℕ → Option (List ℕ)
own_method None name = Some name
own_method (Some object) name = None

-- the method that is started, where it is one
abbrev pub begun_name : Tree → Option (List ℕ)
begun_name (node p (Call trap object i name q args)) = own_method object name
begun_name (node p (Var v)) = lone_name v
begun_name e = None

abbrev pub needed_by : Facts → Option (List ℕ) → Option ℕ
needed_by f None = None
needed_by f (Some name) = f.needed name

-- an array that is mentioned once, as a stack for so many bytes
abbrev pub is_short : (times : Option ℕ) → (bytes needed : ℕ) → Bool
is_short (Some times) bytes needed = (times == 1) && nat_lt bytes needed
is_short None bytes needed = false

abbrev pub short : Place → (array times : Option ℕ) → (needed : ℕ) → List Hint
short p None times needed = []
short p (Some bytes) times needed = told (is_short times bytes needed) p (slip.ShortStack bytes needed)

abbrev pub of_value : Facts → Place → Option (List ℕ) → List Hint
of_value f p None = []
of_value f p (Some name) = told (is_some (f.array name)) p slip.NoAddress

abbrev pub of_address : Facts → (needed : ℕ) → Place → Option (List ℕ) → List Hint
of_address f needed p None = []
of_address f needed p (Some name) = short p (f.array name) (f.times name) needed

-- the stack of a method that takes so many bytes
abbrev pub of_stack : Facts → (needed : ℕ) → Tree → List Hint
of_stack f needed (node p (Number n)) = told (n == 0) p slip.NoAddressAtAll
of_stack f needed (node p (Var v)) = of_value f p (lone_name v)
of_stack f needed (node p (Address v)) = of_address f needed p (lone_name v)
of_stack f needed e = []

-- PASM has a parameter in the stack's place
abbrev pub in_start : Facts → (needed : Option ℕ) → (stack : Tree) → List Hint
in_start f None stack = []
in_start f (Some needed) stack = of_stack f needed stack

-- ---- NotPortA

abbrev pub in_port : Tree → List Hint
in_port (node p (Number n)) = told (not (n == 0)) p slip.NotPortA
in_port e = []

-- ---- what stands in a method's body

abbrev pub in_spot : Facts → Spot → List Hint
in_spot f (spots.name n) = []
in_spot f (spots.reach n) = []
in_spot f (spots.start begun stack) = in_start f (needed_by f (begun_name begun)) stack
in_spot f (spots.port e) = in_port e
in_spot f (spots.test e) = in_test f e
in_spot f (spots.bare p) = hint p slip.NoBody ∷ []
in_spot f (spots.behind p) = hint p slip.NeverEnds ∷ []

-- ---- Unused

abbrev pub of_variable : Facts → Declared → List Hint
of_variable f x = told (not (f.exposed || is_some (f.times x.name))) x.place slip.UnusedVariable

abbrev pub of_private : Facts → MethodTree → List Hint
of_private f m = told (not (m.public || is_some (f.times m.name))) m.place slip.UnusedMethod

-- a name without a count that may stand for what is behind it
abbrev pub is_open : (reached : List ℕ → Option ℕ) → Declared → Bool
is_open reached x = not (is_some x.count) && is_some (reached x.name)

abbrev pub any_open : (reached : List ℕ → Option ℕ) → List Declared → Bool
any_open reached [] = false
any_open reached (x ∷ xs) = is_open reached x || any_open reached xs

abbrev pub any_reached : (reached : List ℕ → Option ℕ) → List (List ℕ) → Bool
any_reached reached [] = false
any_reached reached (n ∷ ns) = is_some (reached n) || any_reached reached ns

abbrev pub is_reached : (reached : List ℕ → Option ℕ) → Option (List ℕ) → Bool
is_reached reached None = false
is_reached reached (Some n) = is_some (reached n)

-- the result, a parameter or a local of a method
abbrev pub own_open : (reached : List ℕ → Option ℕ) → MethodTree → Bool
own_open reached m =
    is_reached reached (Some result_word) || (is_reached reached m.result_name || (any_reached reached m.params || any_open reached m.locals))

abbrev pub of_local : (times : List ℕ → Option ℕ) → Declared → List Hint
of_local times x = told (not (is_some (times x.name))) x.place slip.UnusedLocal

abbrev pub locals_by : (reached times : List ℕ → Option ℕ) → MethodTree → List Hint
locals_by reached times m = if own_open reached m then [] else flat_map (of_local times) m.locals

abbrev pub of_locals : List Spot → MethodTree → List Hint
of_locals body m = locals_by (reached_in body) (times_in body) m

abbrev pub of_body : Facts → MethodTree → List Spot → List Hint
of_body f m body = of_private f m ++ (of_locals body m ++ flat_map (in_spot f) body)

abbrev pub of_method : Facts → MethodTree → List Hint
of_method f m = of_body f m (spots_in m.body)

-- ---- NoNumberSign

abbrev pub is_jump : (word : List ℕ) → Bool
is_jump word =
    bytes_eq word (codes "JMP") || (bytes_eq word (codes "DJNZ") ||
    (bytes_eq word (codes "TJNZ") || (bytes_eq word (codes "TJZ") || bytes_eq word (codes "JMPRET"))))

-- x_RET holds the address to which the routine x returns
abbrev pub is_return : (label : List ℕ) → Bool
is_return label = bytes_eq (drop (length label - 4) label) (codes "_RET")

abbrev pub is_one : Option ℕ → Bool
is_one None = false
is_one (Some n) = n == 1

abbrev pub of_label : Facts → (word : List ℕ) → Place → Option (List ℕ) → List Hint
of_label f word p None = []
of_label f word p (Some label) = told (is_jump word && (is_one (f.on_code label) && not (is_return label))) p slip.NoNumberSignInJump

-- a source operand without `#`: up to 15 it may be a register of this cog's own count, and from 496 on it is a register of the chip
abbrev pub of_source : Facts → (word : List ℕ) → Place → Tree → List Hint
of_source f word p (node q (Number n)) = told (nat_lt 15 n && nat_lt n 496) p slip.NoNumberSign
of_source f word p (node q (Var v)) = of_label f word p (lone_name v)
of_source f word p e = []

abbrev pub of_operand : Facts → (word : List ℕ) → (immediate : Bool) → Place → Option Tree → List Hint
of_operand f word true p source = []
of_operand f word false p None = []
of_operand f word false p (Some e) = of_source f word p e

abbrev pub of_contents : Facts → Contents → List Hint
of_contents f (trees.Instr x) = of_operand f x.word x.immediate x.source_place x.source
of_contents f c = []

-- ---- a file

abbrev pub of_item : Facts → Item → List Hint
of_item f (variable x) = of_variable f x
of_item f (method m) = of_method f m
of_item f (line x) = of_contents f x.contents
of_item f x = []

-- in the order of the source
abbrev pub hints_in : Facts → List Item → List Hint
hints_in f xs = flat_map (of_item f) xs
