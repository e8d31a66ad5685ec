-- What an expression does, and its value, which is handed on to what follows. Operands, arguments and indexes go from left to right.
-- Sources: the Propeller Manual v1.2, "Operators", "LOOKUP", "LOOKDOWN", "CONSTANT", "STRING", "COGNEW" and "COGINIT" of the Spin chapter.
use Rattle.std.specs.Prelude.{ℕ, ◌+◌, ◌%◌, ◌^◌, ◌==◌, nat_le, Bool, false, List, [], ◌∷◌, ◌++◌, Option, Some, None, if◌then◌else◌}
use Rattle.std.specs.Str.{bytes_eq}
use Rattle.p8_tree.specs.Names.{result_word}
use Rattle.p8_tree.specs.Expressions.{Tree, node, Number, Str, Strings, Here, Var, Call, Unary, Binary, Assign, Change, Address, ObjectAddress}
use Rattle.p8_tree.specs.Expressions.{ObjConst, Built, Look, Variable, Named, Part, Memory, Register, Index, no_index, index, Bits, whole, bits}
use Rattle.p8_tree.specs.Expressions.{Item, single, range, Trees, no_trees, ◌▷◌, Items, no_items, ◌▸◌}
use Rattle.p8_words.specs.Operators.{unary_value, binary_value, or_zero}
use Rattle.p8_fold.specs.Values as constants
use Rattle.p8_kinds.specs.declared.name_kinds.NameKind.{NameKind}
use Rattle.p8_kinds.specs.declared.name_kinds.NameKind.TheVariants as kind_case
use Rattle.p8_meaning.specs.Values.{is_between, sum_of, difference, distance, toward}
use Rattle.p8_meaning.specs.Programs.{Scope, kind_of, object_constant, scope_setting, own_target}
use Rattle.p8_meaning.specs.Doing.{Rest, Gives, untold}
use Rattle.p8_meaning.specs.Variables.{Location, Pins, element, named, part, address_at, fetches, assigns, changes, changes_alone}
use Rattle.p8_meaning.specs.Builtins.{new_cog, starts_pasm, does_none, does_one, does_two, does_three}
use Rattle.p8_meaning.specs.Calls.{Callee, Returned, calls, calls_object, used, unused, starts_method}

-- ---- LOOKUP and LOOKDOWN: an item is tried with the count of its first value. Items are evaluated up to the first that has what is looked
-- for (profile).

-- LOOKUP finds the value whose count is looked for
abbrev pub looks_up : (wanted count value : ℕ) → (found none : ℕ → Rest) → Rest
looks_up wanted count value found none = if wanted == count then found value else none (sum_of count 1)

-- LOOKDOWN finds the count of the value that is looked for
abbrev pub looks_down : (wanted count value : ℕ) → (found none : ℕ → Rest) → Rest
looks_down wanted count value found none = if wanted == value then found count else none (sum_of count 1)

-- a range counts as the values from one end toward the other, one apart
abbrev pub behind_range : (count low high : ℕ) → ℕ
behind_range count low high = sum_of (sum_of count (distance low high)) 1

abbrev pub looks_up_range : (wanted count low high : ℕ) → (found none : ℕ → Rest) → Rest
looks_up_range wanted count low high found none =
    if nat_le (difference wanted count) (distance low high) then found (toward low high (difference wanted count)) else none (behind_range count low high)

abbrev pub looks_down_range : (wanted count low high : ℕ) → (found none : ℕ → Rest) → Rest
looks_down_range wanted count low high found none =
    if is_between wanted low high then found (sum_of count (distance wanted low)) else none (behind_range count low high)

-- LOOKUP is 10, LOOKDOWN 11, LOOKUPZ 12 and LOOKDOWNZ 13; items are counted from 1, and from 0 by the last two
abbrev pub goes_up : (code : ℕ) → Bool
goes_up code = code % 2 == 0

abbrev pub first_count : (code : ℕ) → ℕ
first_count code = if nat_le 0x12 code then 0 else 1

abbrev pub tries : (up : Bool) (wanted count value : ℕ) → (found none : ℕ → Rest) → Rest
tries up wanted count value found none = if up then looks_up wanted count value found none else looks_down wanted count value found none

abbrev pub tries_range : (up : Bool) (wanted count low high : ℕ) → (found none : ℕ → Rest) → Rest
tries_range up wanted count low high found none =
    if up then looks_up_range wanted count low high found none else looks_down_range wanted count low high found none

-- ---- expressions, in a method's body, by what its calls do and by what follows an abort

module _ (callee : Callee) (s : Scope) (abort : Returned → Rest) where
  -- a call of a method of the same object, by the kind of its name
  abbrev pub calls_own : (stops : Bool) → Option NameKind → List ℕ → Gives Returned
  calls_own stops kind arguments go = calls callee s stops (own_target s kind) arguments go abort

  -- a call of a method of an object, by the kind of the object's name
  abbrev pub calls_of_object : (stops : Bool) → Option NameKind → (number : ℕ) → (method : List ℕ) → List ℕ → Gives Returned
  calls_of_object stops (Some (kind_case.Object item position count)) number method arguments go =
      calls_object callee s stops item position count number method arguments go abort
  calls_of_object stops _ number method arguments go = untold

  -- the arguments come before the index of the object (profile)
  abbrev pub makes_call : (stops : Bool) → (object : Option (List ℕ)) (method : List ℕ) → (arguments : Gives (List ℕ)) (number : Gives ℕ) → Gives Returned
  makes_call stops None method arguments number go = arguments (λ values. calls_own stops (kind_of s method) values go)
  makes_call stops (Some object) method arguments number go =
      arguments (λ values. number (λ n. calls_of_object stops (kind_of s object) n method values go))

  -- a name alone: a constant, a call of a method without parameters, or a variable
  abbrev pub value_of_kind : (name : List ℕ) → Option NameKind → Gives ℕ
  value_of_kind name (Some (kind_case.Const value)) go = go value
  value_of_kind name (Some (kind_case.Method number params)) go = used (calls_own false (Some (kind_case.Method number params)) []) go
  value_of_kind name kind go = fetches s (named s name 0) go

  abbrev pub value_of_name : (name : List ℕ) → Gives ℕ
  value_of_name name go = if bytes_eq name result_word then fetches s (named s name 0) go else value_of_kind name (kind_of s name) go

  -- COGNEW and COGINIT of a method, or of Propeller Assembly at an address; the second argument is its stack, or PAR
  abbrev pub begins_method : (id : ℕ) → (method : List ℕ) → (arguments : Gives (List ℕ)) (second : Gives ℕ) → Gives ℕ
  begins_method id method arguments second go =
      arguments (λ values. second (λ stack. starts_method s id (own_target s (kind_of s method)) values stack go))

  abbrev pub begins_pasm : (id : ℕ) → (first second : Gives ℕ) → Gives ℕ
  begins_pasm id first second go = first (λ code. second (λ par. starts_pasm id code par go))

  -- a name alone is that of a method, or gives an address
  abbrev pub begins_name : (id : ℕ) → (name : List ℕ) → Option NameKind → (first second : Gives ℕ) → Gives ℕ
  begins_name id name (Some (kind_case.Method number params)) first second go = begins_method id name (λ f. f []) second go
  begins_name id name kind first second go = begins_pasm id first second go

  abbrev mutual
    pub evaluates : Tree → Gives ℕ
    evaluates (node place (Number n)) go = go n
    evaluates (node place (Str text)) go = go ((s.instance.base + s.addresses.text s.instance.file place) % 2 ^ 16)
    evaluates (node place (Strings es)) go = go ((s.instance.base + s.addresses.text s.instance.file place) % 2 ^ 16)
    evaluates (node place Here) go = untold
    evaluates (node place (Var v)) go = evaluates_variable v go
    evaluates (node place (Call stops object i method at arguments)) go =
        used (makes_call stops object method (evaluates_all arguments) (indexes i)) go
    evaluates (node place (Unary operator e)) go = evaluates e (λ a. go (unary_value operator a))
    evaluates (node place (Binary operator left right)) go = evaluates left (λ a. evaluates right (λ b. go (binary_value operator a b)))
    evaluates (node place (Assign v operator e)) go = evaluates e (λ right. locates v (λ where_is. assigns s operator where_is right go))
    evaluates (node place (Change v change)) go = locates v (λ where_is. changes s change where_is go)
    evaluates (node place (Address v)) go = locates v (λ where_is. go (address_at where_is))
    evaluates (node place (ObjectAddress e)) go = evaluates e (λ offset. go ((s.instance.base + offset) % 2 ^ 16))
    evaluates (node place (ObjConst object name at)) go = go (or_zero (object_constant s.file (kind_of s object) name))
    evaluates (node place (Built code arguments)) go = does code arguments go
    evaluates (node place (Look code e items)) go =
        evaluates e (λ wanted. looks (goes_up code) wanted items go (λ count. go 0) (first_count code))

    pub evaluates_variable : Variable → Gives ℕ
    evaluates_variable (Named name no_index place) go = value_of_name name go
    evaluates_variable (Named name (index e) place) go = evaluates e (λ number. fetches s (named s name number) go)
    evaluates_variable (Part name size i place) go = indexes i (λ number. fetches s (part s name size number) go)
    evaluates_variable (Memory size e i place) go = evaluates e (λ address. indexes i (λ number. fetches s (element size address number) go))
    evaluates_variable (Register register x place) go = selects register x (λ pins. fetches s pins go)

    -- where a variable is: its address comes first, and then its index. An assignment's right side comes before both (profile).
    pub locates : Variable → Gives Location
    locates (Named name i place) go = indexes i (λ number. go (named s name number))
    locates (Part name size i place) go = indexes i (λ number. go (part s name size number))
    locates (Memory size e i place) go = evaluates e (λ address. indexes i (λ number. go (element size address number)))
    locates (Register register x place) go = selects register x go

    -- with no index it is the first element
    pub indexes : Index → Gives ℕ
    indexes no_index go = go 0
    indexes (index e) go = evaluates e go

    -- the whole register, one of its pins, or a row of them
    pub selects : (register : ℕ) → Bits → Gives Location
    selects register whole go = go (Pins register 31 0)
    selects register (bits (single e)) go = evaluates e (λ pin. go (Pins register (pin % 32) (pin % 32)))
    selects register (bits (range e f)) go = evaluates e (λ high. evaluates f (λ low. go (Pins register (high % 32) (low % 32))))

    pub evaluates_all : Trees → Gives (List ℕ)
    evaluates_all no_trees go = go []
    evaluates_all (es ▷ e) go = evaluates_all es (λ values. evaluates e (λ value. go (values ++ value ∷ [])))

    -- a built-in; CONSTANT is 00, COGNEW 2C, COGINIT 28
    pub does : (code : ℕ) → Trees → Gives ℕ
    does code no_trees go = does_none code go
    does code (no_trees ▷ e) go =
        if code == 0 then go (or_zero (constants.value (scope_setting s) e)) else evaluates e (λ a. does_one code a go)
    does code (no_trees ▷ e ▷ f) go =
        if code == 0x2C then begins new_cog e (evaluates e) (evaluates f) go
        else evaluates e (λ a. evaluates f (λ b. does_two code a b go))
    does code (no_trees ▷ e ▷ f ▷ g) go =
        if code == 0x28 then evaluates e (λ id. begins id f (evaluates f) (evaluates g) go)
        else evaluates e (λ a. evaluates f (λ b. evaluates g (λ c. does_three code a b c go)))
    does code (es ▷ d ▷ e ▷ f ▷ g) go = untold

    -- a method of the same object is begun where its call is written without `\`
    pub begins : (id : ℕ) → Tree → (first second : Gives ℕ) → Gives ℕ
    begins id (node place (Call false None i method at arguments)) first second go = begins_method id method (evaluates_all arguments) second go
    begins id (node place (Var (Named name no_index at))) first second go = begins_name id name (kind_of s name) first second go
    begins id e first second go = begins_pasm id first second go

    -- the items of a LOOK are evaluated in order, up to the first that has what is looked for (profile); `none` follows with the count after them
    pub looks : (up : Bool) (wanted : ℕ) → Items → (found none : ℕ → Rest) → (count : ℕ) → Rest
    looks up wanted no_items found none count = none count
    looks up wanted (items ▸ item) found none count = looks up wanted items found (looks_at up wanted item found none) count

    pub looks_at : (up : Bool) (wanted : ℕ) → Item → (found none : ℕ → Rest) → (count : ℕ) → Rest
    looks_at up wanted (single e) found none count = evaluates e (λ value. tries up wanted count value found none)
    looks_at up wanted (range e f) found none count = evaluates e (λ low. evaluates f (λ high. tries_range up wanted count low high found none))

  -- ---- an expression alone, whose value isn't used

  abbrev pub acts : Tree → Rest → Rest
  acts (node place (Var (Named name no_index at))) go = unused (calls_own false (kind_of s name) []) go
  acts (node place (Call stops object i method at arguments)) go = unused (makes_call stops object method (evaluates_all arguments) (indexes i)) go
  acts (node place (Change v change)) go = locates v (λ where_is. changes_alone s change where_is go)
  acts e go = evaluates e (λ value. go)
