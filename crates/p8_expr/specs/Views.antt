-- internal: what the reader's values stand for.
use Rattle.std.specs.Prelude.{◌≡◌, ℕ, min, max, Bool, true, false, Option, Some, None, List, [], ◌∷◌}
use Rattle.p8_tree.specs.Expressions.{Tree, Variable, Named, Part, Memory, Register, no_index, index, whole, bits}
use Rattle.p8_tree.specs.Views.{tree_of, trees_of, items_of, item_of, variable_of}
use Rattle.p8_tree.specs.Bridges.{boxed_index}
use Rattle.p8_grammar.specs.Grammar as grammar
use Rattle.p8_grammar.specs.Machine as machine
use Rattle.p8_grammar.specs.Lexemes as lexemes
use Rattle.p8_grammar.specs.Lexemes.{memory}
use Rattle.p8_grammar.specs.Grammar.{calls, built}
use Rattle.p8_grammar.specs.Machine.{left_tree, left_variable}
use Rattle.p8_grammar.specs.Heights.{height, height_in_variable, height_in_index, height_of_trees, height_of_items, height_in_bits}
use Rattle.p8_grammar.specs.Least.{high_in_hole, high_in_frame, depth, base, need, operand_least}
use Rattle.p8_grammar.specs.declared.lexemes.Lexeme as lexeme
use Rattle.p8_grammar.specs.declared.lexemes.Lexeme.TheVariants as lexeme_case
use Rattle.p8_grammar.specs.Views.{setting_of, access_of}
use Rattle.p8_expr.specs.declared.parts.Use as use_
use Rattle.p8_expr.specs.declared.parts.Use.TheVariants as use_case
use Rattle.p8_expr.specs.declared.parts.Parts as parts
use Rattle.p8_expr.specs.declared.form.Stage as stage
use Rattle.p8_expr.specs.declared.form.Stage.TheVariants as stage_case
use Rattle.p8_expr.specs.declared.form.Hole as hole
use Rattle.p8_expr.specs.declared.form.Hole.TheVariants as hole_case
use Rattle.p8_expr.specs.declared.form.Grown as grown
use Rattle.p8_expr.specs.declared.form.Grown.TheVariants as grown_case
use Rattle.p8_expr.specs.declared.form.Form as form
use Rattle.p8_expr.specs.declared.value.Value as value
use Rattle.p8_expr.specs.declared.value.Value.TheVariants as value_case
use Rattle.p8_expr.specs.declared.stack.Prefix as prefix
use Rattle.p8_expr.specs.declared.stack.Prefix.TheVariants as prefix_case
use Rattle.p8_expr.specs.declared.stack.Frame as frame
use Rattle.p8_expr.specs.declared.stack.Frame.TheVariants as frame_case
use Rattle.p8_expr.specs.declared.stack.Level as level

abbrev pub use_of : use_.Use → machine.Use
use_of use_case.Reading = machine.reading
use_of (use_case.Addressing p) = machine.addressing p
use_of (use_case.Changing p b) = machine.changing p b

abbrev pub is_reading : machine.Use → Bool
is_reading machine.reading = true
is_reading u = false

abbrev pub prefix_in : prefix.Prefix → grammar.Prefix
prefix_in prefix_case.ObjectAddress = grammar.at_object
prefix_in (prefix_case.Unary r k) = grammar.unary r k

abbrev pub left_of : value.Value → machine.Left
left_of (value_case.Variable v h a) = left_variable (variable_of v)
left_of (value_case.Tree e h) = left_tree (tree_of e.value)

abbrev pub target_in : value.Value → Option Variable
target_in (value_case.Variable v h a) = Some (variable_of v)
target_in (value_case.Tree e h) = None

abbrev pub is_alone : value.Value → Bool
is_alone (value_case.Variable v h a) = a
is_alone (value_case.Tree e h) = false

-- a value keeps a height, counted up to 65
abbrev pub IsHigh : value.Value → Type 0
IsHigh (value_case.Variable v h a) = h ≡ min 65 (height_in_variable (variable_of v))
IsHigh (value_case.Tree e h) = h ≡ min 65 (height (tree_of e.value))

abbrev pub shape_at : stage.Stage → parts.Parts → machine.Shape
shape_at stage_case.Using p = machine.using (use_of p.usage)
shape_at stage_case.Coloned p = machine.coloned (use_of p.usage) p.place
shape_at stage_case.Sized p = machine.sized (use_of p.usage) p.place p.number
shape_at stage_case.Named p = machine.named p.plain (use_of p.usage) p.place p.name
shape_at (stage_case.Element e) p = machine.element p.place p.name (tree_of e.value)
shape_at stage_case.Dotted p = machine.dotted p.plain (use_of p.usage) p.place p.name
shape_at stage_case.Parted p = machine.part (use_of p.usage) (Part p.name p.number no_index p.place) memory
shape_at (stage_case.Memory e) p = machine.part (use_of p.usage) (Memory p.number (tree_of e.value) no_index p.place) memory
shape_at stage_case.Register p = machine.part (use_of p.usage) (Register p.register whole p.place) (access_of p.access)
shape_at (stage_case.Indexed e) p = machine.part (use_of p.usage) (Named p.name (index (tree_of e.value)) p.place) memory
shape_at (stage_case.PartIndexed e) p = machine.part (use_of p.usage) (Part p.name p.number (index (tree_of e.value)) p.place) memory
shape_at (stage_case.MemoryIndexed a e) p = machine.part (use_of p.usage) (Memory p.number (tree_of a.value) (index (tree_of e.value)) p.place) memory
shape_at (stage_case.Bits i) p = machine.part (use_of p.usage) (Register p.register (bits (item_of i.value)) p.place) (access_of p.access)
shape_at stage_case.Trapping p = machine.trapping
shape_at stage_case.Trapped p = machine.headed (calls true None no_index p.name p.at p.place)
shape_at (stage_case.TrappedElement e) p = machine.trapped_element p.place p.name (tree_of e.value)
shape_at (stage_case.ObjectDot i) p = machine.object_dot p.trap p.place p.name (boxed_index i)
shape_at (stage_case.Method o i) p = machine.headed (calls p.trap (Some o) (boxed_index i) p.name p.at p.place)
shape_at stage_case.Built p = machine.headed (built p.number p.place)
shape_at stage_case.Hashed p = machine.hashed p.place p.name
shape_at stage_case.StringWord p = machine.opening p.place lexemes.string_word
shape_at stage_case.ConstantWord p = machine.opening p.place lexemes.constant_word
shape_at stage_case.LookWord p = machine.opening p.place (lexemes.look p.number)
shape_at stage_case.StringOpened p = machine.string_opened p.place
shape_at stage_case.StringRead p = machine.string_read p.place p.at p.name
shape_at (stage_case.StringsRead es) p = machine.strings_read p.place (trees_of es.items)
shape_at (stage_case.ChoicesRead e xs) p = machine.choices_read p.place p.number (tree_of e.value) (items_of xs.items)
shape_at (stage_case.Done e) p = machine.done (tree_of e.value)

abbrev pub shape_of : form.Form → machine.Shape
shape_of f = shape_at f.stage f.parts

abbrev pub hole_at : hole.Hole → parts.Parts → machine.Hole
hole_at hole_case.Parenthesis p = machine.parenthesis
hole_at hole_case.NameIndex p = machine.name_index p.plain (use_of p.usage) p.place p.name
hole_at hole_case.PartIndex p = machine.part_index (use_of p.usage) p.place p.name p.number
hole_at hole_case.MemoryAddress p = machine.memory_address (use_of p.usage) p.place p.number
hole_at (hole_case.MemoryIndex a) p = machine.memory_index (use_of p.usage) p.place p.number (tree_of a.value)
hole_at hole_case.FirstBit p = machine.first_bit (use_of p.usage) p.place p.register (access_of p.access)
hole_at (hole_case.LastBit low) p = machine.last_bit (use_of p.usage) p.place p.register (access_of p.access) (tree_of low.value)
hole_at hole_case.TrappedIndex p = machine.trapped_index p.place p.name
hole_at (hole_case.Arguments o i es) p = machine.argument_of (calls p.trap o (boxed_index i) p.name p.at p.place) (trees_of es.items)
hole_at (hole_case.BuiltArguments es) p = machine.argument_of (built p.number p.place) (trees_of es.items)
hole_at hole_case.FirstItem p = machine.first_item p.place
hole_at (hole_case.NextItem es) p = machine.item_of p.place (trees_of es.items)
hole_at hole_case.Constant p = machine.constant_of p.place
hole_at hole_case.LookFor p = machine.look_for p.place p.number
hole_at (hole_case.Choice e xs) p = machine.choice_of p.place p.number (tree_of e.value) (items_of xs.items)
hole_at (hole_case.ChoiceTo e xs low) p = machine.choice_to p.place p.number (tree_of e.value) (items_of xs.items) (tree_of low.value)

-- what a word has made of a form
abbrev pub Grows : Option machine.Next → form.Form → grown.Grown → form.Form → Type 0
Grows o old grown_case.Not new = (o ≡ None) × (shape_of new ≡ shape_of old)
Grows o old grown_case.Stays new = o ≡ Some (machine.stays (shape_of new))
Grows o old (grown_case.Opens h n) new = o ≡ Some (machine.opens (hole_at h new.parts))

-- the height of the highest expression in a form, or of the whole form itself
abbrev pub inner_height : stage.Stage → ℕ
inner_height (stage_case.Element e) = height (tree_of e.value)
inner_height (stage_case.Memory e) = height (tree_of e.value)
inner_height (stage_case.Indexed e) = height (tree_of e.value)
inner_height (stage_case.PartIndexed e) = height (tree_of e.value)
inner_height (stage_case.MemoryIndexed a e) = max (height (tree_of a.value)) (height (tree_of e.value))
inner_height (stage_case.Bits i) = height_in_bits (bits (item_of i.value))
inner_height (stage_case.TrappedElement e) = height (tree_of e.value)
inner_height (stage_case.ObjectDot i) = height_in_index (boxed_index i)
inner_height (stage_case.Method o i) = height_in_index (boxed_index i)
inner_height (stage_case.StringsRead es) = height_of_trees (trees_of es.items)
inner_height (stage_case.ChoicesRead e xs) = max (height (tree_of e.value)) (height_of_items (items_of xs.items))
inner_height (stage_case.Done e) = height (tree_of e.value)
inner_height _ = 0

-- a form keeps it, counted up to 65
abbrev pub IsTall : form.Form → Type 0
IsTall f = f.high ≡ min 65 (inner_height f.stage)

abbrev pub IsTallAs : grown.Grown → form.Form → Type 0
IsTallAs (grown_case.Opens h n) f = (n ≡ min 65 (high_in_hole (hole_at h f.parts))) × IsTall f
IsTallAs g f = IsTall f

-- so where the word belongs to it
abbrev pub IsTallWhere : grown.Grown → form.Form → Type 0
IsTallWhere grown_case.Not f = Unit {0}
IsTallWhere g f = IsTallAs g f

-- so with the expression that the form waits for
abbrev pub IsFilled : form.Form → hole.Hole → Tree → Type 0
IsFilled f h e = f.high ≡ min 65 (max (high_in_hole (hole_at h f.parts)) (height e))

-- the variable of a form that is one, whatever it is read for
abbrev pub variable_in : machine.Shape → Option Variable
variable_in (machine.named b u p n) = Some (Named n no_index p)
variable_in (machine.element p n e) = Some (Named n (index e) p)
variable_in (machine.part u v x) = Some v
variable_in _ = None

abbrev pub HasVariable : Option Variable → Type 0
HasVariable None = ⊥
HasVariable (Some v) = Unit {0}

-- the operand that a form is, where it's whole
abbrev pub Gives : machine.Shape → Option value.Value → Type 0
Gives sh None = machine.tree sh ≡ None
Gives sh (Some v) = (machine.tree sh ≡ Some (machine.tree_in (left_of v))) × (machine.target sh ≡ target_in v) × (machine.is_plain sh ≡ is_alone v)

abbrev pub IsHighIn : Option value.Value → Type 0
IsHighIn None = Unit {0}
IsHighIn (Some v) = IsHigh v

abbrev pub IsUsing : form.Form → Type 0
IsUsing f = f.stage ≡ stage_case.Using

abbrev pub frame_of : frame.Frame → machine.Frame
frame_of (frame_case.Prefix o p) = machine.prefix_frame (prefix_in o) p
frame_of (frame_case.Infix r k p a) = machine.infix_frame r k p (left_of a)
frame_of (frame_case.Assign o p v) = machine.assign_frame o p (variable_of v)
frame_of (frame_case.Inside s h p) = machine.inside_frame (setting_of s) (hole_at h p)

-- the frames of a stack's levels, the last first
abbrev pub frames_in : List level.Level → List machine.Frame
frames_in [] = []
frames_in (x ∷ xs) = frame_of x.frame ∷ frames_in xs

-- a variable that may be assigned keeps its height
abbrev pub IsHighLeft : frame.Frame → Type 0
IsHighLeft (frame_case.Infix r k p a) = IsHigh a
IsHighLeft f = Unit {0}

-- each level keeps the height of what is in its frame, and what the frames below do to the height of what comes next, counted up to 65
abbrev pub IsMeasured : List level.Level → Type 0
IsMeasured [] = Unit {0}
IsMeasured (x ∷ xs) = (x.high ≡ min 65 (high_in_frame (frame_of x.frame))) × (x.below.base ≡ min 65 (base (frames_in xs))) ×
    (x.below.depth ≡ min 65 (depth (frames_in xs))) × IsHighLeft x.frame × IsMeasured xs

abbrev pub first_level : List level.Level → Option level.Level
first_level [] = None
first_level (x ∷ xs) = Some x

-- whether a word of letters may mean this
abbrev pub is_lettered : lexemes.Lexeme → Bool
is_lettered (lexemes.mark m) = false
is_lettered (lexemes.sign k j) = false
is_lettered (lexemes.assigns o) = false
is_lettered lexemes.object_address = false
is_lettered x = true

-- what has a meaning to some expression
abbrev pub is_word : lexemes.Lexeme → Bool
is_word lexemes.other = false
is_word x = true

-- a form in which what a reserved word means counts
abbrev pub is_open : machine.Shape → Bool
is_open (machine.coloned u p) = false
is_open sh = true

-- the form that is waited for takes a string of several characters as an item
abbrev pub takes_text : List machine.Frame → Bool
takes_text (machine.inside_frame s (machine.item_of p es) ∷ k) = true
takes_text (machine.inside_frame s (machine.choice_of p c e xs) ∷ k) = true
takes_text k = false

-- the least height of what a frame may become without its operand, or none, where the operand comes first
abbrev pub Alone : Option ℕ → machine.Frame → List machine.Frame → Type 0
Alone None f k = operand_least (f ∷ k) ≡ need 1 (f ∷ k)
Alone (Some h) f k = (n : ℕ) × (h ≡ min 65 n) × (operand_least (f ∷ k) ≡ need n k)

-- a word that is no name, string, mark, size, register or change
abbrev pub is_other : lexeme.Lexeme → Bool
is_other lexeme_case.Name = false
is_other lexeme_case.MethodResult = false
is_other lexeme_case.Str = false
is_other (lexeme_case.Mark m) = false
is_other (lexeme_case.Size z) = false
is_other (lexeme_case.Register a x) = false
is_other (lexeme_case.Changes b a) = false
is_other x = true

-- nor one that begins a form both where values stand and as an action
abbrev pub is_rest : lexeme.Lexeme → Bool
is_rest (lexeme_case.Value k) = false
is_rest (lexeme_case.BuiltIn k) = false
is_rest lexeme_case.Here = false
is_rest x = is_other x

-- a form with its expression, where a word ends that
abbrev pub closed_by : lexemes.Lexeme → machine.Hole → Tree → Option machine.Next
closed_by (lexemes.mark m) h e = machine.close m h e
closed_by x h e = None

-- a form that takes a string of several characters as an item
abbrev pub takes_texts : hole.Hole → Bool
takes_texts (hole_case.NextItem es) = true
takes_texts (hole_case.Choice x xs) = true
takes_texts h = false

-- the only character of a string
abbrev pub lone : List ℕ → Option ℕ
lone (c ∷ []) = Some c
lone t = None
