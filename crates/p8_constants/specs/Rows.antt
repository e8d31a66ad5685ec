-- The items of all blocks of CON in one row, and what depends on what among them.
use Rattle.std.specs.Prelude.{◌≡◌, ◌↔◌, ◌<◌, ◌≤◌, ℕ, zero, suc, ◌+◌, ◌*◌, ◌%◌, ◌^◌, Bool, true, false, nat_lt, if◌then◌else◌, List, [], ◌∷◌, ◌++◌}
use Rattle.std.specs.Prelude.{length, map, slice_index, slice_index_or, Contains, Option, Some, None, IsSome, MatchOption, is_some, option_map}
use Rattle.std.specs.List.{filter_map}
use Rattle.std.specs.Str.{bytes_eq}
use Rattle.p8_tree.specs.declared.sources.ConItem.{ConItem}
use Rattle.p8_tree.specs.Views.{constant_of}
use Rattle.p8_tree.specs.Expressions.{Tree}
use Rattle.p8_tree.specs.Sources.{Constant, Source, Con}
use Rattle.p8_constants.specs.Graphs.{IsEdge, Reaches}
use Rattle.p8_constants.specs.Orders.{ComesNoLater}
use Rattle.p8_tree.specs.declared.faults.Fault.{Fault}
use Rattle.p8_tree.specs.Faults.{earlier, IsFirstFault}
use Rattle.p8_fold.specs.declared.meanings.Meaning.{Meaning}
use Rattle.p8_fold.specs.declared.meanings.Meaning.TheVariants.{Value, Other}
use Rattle.p8_fold.specs.Meanings.{Setting}
use Rattle.p8_fold.specs.Values.{value, FaultIn}
use Rattle.p8_constants.specs.declared.rows.Move.{Move}
use Rattle.p8_constants.specs.declared.rows.Move.TheVariants.{Sets, Stays, Counts, Steps}
use Rattle.p8_constants.specs.Items.{Term, Sum, zero_sum, after}
use Rattle.p8_constants.specs.Mentions.{mentioned}
use Rattle.p8_constants.specs.Constants.{Scope, IsRightFor, Adds, counted}

-- an item, and whether it is the first of its block
pub record Row : Type 0 where
  pub item : Constant
  pub first : Bool

abbrev pub rows_in : Bool → List Constant → List Row
rows_in first [] = []
rows_in first (x ∷ xs) = record { item = x; first = first } ∷ rows_in false xs

abbrev pub rows_of : Source → List Row
rows_of [] = []
rows_of (Con xs ∷ bs) = rows_in true xs ++ rows_of bs
rows_of (b ∷ bs) = rows_of bs

-- a row as it lies in memory
abbrev pub row_from : ConItem × Bool → Row
row_from (item, first) = record { item = constant_of item; first = first }

abbrev pub rows_from : List (ConItem × Bool) → List Row
rows_from xs = map row_from xs

-- the value and the step of each, one after the other: an expression's number is its index
abbrev pub expressions_of : List Row → List (Option Tree)
expressions_of [] = []
expressions_of (r ∷ rs) = r.item.value ∷ r.item.step ∷ expressions_of rs

abbrev pub expression_at : List Row → ℕ → Option Tree
expression_at rows n = slice_index_or (expressions_of rows) n None

abbrev pub no_row : Row
no_row = record { item = record { place = record { line = 0; column = 0 }; name = None; value = None; step = None; sets = false }; first = true }

abbrev pub row_at : List Row → ℕ → Row
row_at rows k = slice_index_or rows k no_row

-- ---- counters

abbrev pub begun : Bool → Sum → Sum
begun true counter = zero_sum
begun false counter = counter

-- the counter as it comes to each item
abbrev pub counters : Sum → ℕ → List Row → List Sum
counters counter k [] = []
counters counter k (r ∷ rs) = begun r.first counter ∷ counters (after (begun r.first counter) k r.item) (k + 1) rs

abbrev pub counter_at : List Row → ℕ → Sum
counter_at rows k = slice_index_or (counters zero_sum 0 rows) k zero_sum

-- how an item moves the counter
abbrev pub set_by : Option Tree → Move
set_by None = Stays
set_by (Some e) = Sets

abbrev pub moved_by : Option Tree → Option Tree → Move
moved_by (Some e) step = Stays
moved_by None None = Counts
moved_by None (Some e) = Steps

abbrev pub move_of : Constant → Move
move_of x = if x.sets then set_by x.value else moved_by x.value x.step

-- ---- names

abbrev pub is_named : List ℕ → Option (List ℕ) → Bool
is_named n None = false
is_named n (Some m) = bytes_eq n m

-- the first item with this name
abbrev pub first_named : List Row → List ℕ → Option ℕ
first_named [] n = None
first_named (r ∷ rs) n = if is_named n r.item.name then Some 0 else option_map suc (first_named rs n)

abbrev pub unless_given : Option Meaning → Option ℕ → Option ℕ
unless_given None k = k
unless_given (Some m) k = None

-- the item that a name of the file's constants stands for
abbrev pub constant_at : Setting → List Row → List ℕ → Option ℕ
constant_at outside rows n = unless_given (outside.name n) (first_named rows n)

-- what a row with a name says of a name, where the node is that of its item
abbrev pub given_here : Option Meaning → Bool → ℕ → Option ℕ
given_here None true node = Some node
given_here None false node = None
given_here (Some m) b node = None

abbrev pub named_here : Setting → List ℕ → Option (List ℕ) → ℕ → Option ℕ
named_here outside n name node = given_here (outside.name n) (is_named n name) node

abbrev pub or_else : Option ℕ → Option ℕ → Option ℕ
or_else (Some k) other = Some k
or_else None other = other

-- ---- the graph: its nodes are the expressions, by their numbers, and then the counters as they come to each item

-- the node that gives an item's value: its own expression, or else the counter
abbrev pub node_of : List Row → ℕ → ℕ
node_of rows k = if is_some (row_at rows k).item.value then 2 * k else 2 * length rows + k

-- an expression leads to the nodes of the constants that it mentions
abbrev pub nodes_by : (List ℕ → Option ℕ) → Option Tree → List ℕ
nodes_by find None = []
nodes_by find (Some e) = filter_map find (mentioned e)

abbrev pub find_in : Setting → List Row → List ℕ → Option ℕ
find_in outside rows n = option_map (node_of rows) (constant_at outside rows n)

-- a counter leads to what the item k, the last one, has made of it
abbrev pub nodes_behind : ℕ → ℕ → Move → List ℕ
nodes_behind count k Sets = 2 * k ∷ []
nodes_behind count k Stays = (2 * count + k) ∷ []
nodes_behind count k Counts = (2 * count + k) ∷ []
nodes_behind count k Steps = (2 * count + k) ∷ (2 * k + 1) ∷ []

abbrev pub nodes_of_counter : List Row → ℕ → List ℕ
nodes_of_counter rows zero = []
nodes_of_counter rows (suc k) = if (row_at rows (suc k)).first then [] else nodes_behind (length rows) k (move_of (row_at rows k).item)

-- the graph of a file's constants, as far as its first expressions and counters
pub record IsGraphBy (find : List ℕ → Option ℕ) (rows : List Row) (items count : ℕ) (g : List (List ℕ)) : Type 0 where
  pub size : length g ≡ 2 * items + count
  pub expressions : (n : ℕ) → n < 2 * items → slice_index_or g n [] ≡ nodes_by find (expression_at rows n)
  pub counters : (k : ℕ) → k < count → slice_index_or g (2 * items + k) [] ≡ nodes_of_counter rows k

abbrev pub IsGraph : Setting → List Row → List (List ℕ) → Type 0
IsGraph outside rows g = IsGraphBy (find_in outside rows) rows (length rows) (length rows) g

-- ---- evaluation

-- the index of names, the numbers of the nodes' components and the nodes in order, for a file whose other names mean this
pub record IsPlan (outside : Setting) (rows : List Row) (index : List ℕ → Option ℕ) (numbers order : List ℕ) : Type 0 where
  pub index_is : (n : List ℕ) → index n ≡ find_in outside rows n
  pub graph : List (List ℕ)
  pub is_graph : IsGraph outside rows graph
  pub size : length numbers ≡ 2 * length rows + length rows
  pub falls : (a b : ℕ) → IsEdge graph a b → slice_index numbers b ≤ slice_index numbers a
  pub same : (a b : ℕ) → a < length graph → b < length graph → (slice_index numbers a ≡ slice_index numbers b) ↔ (Reaches graph a b × Reaches graph b a)
  pub nodes : (a : ℕ) → Contains order a ↔ (a < length numbers)
  pub ordered : (i j : ℕ) → i ≤ j → j < length order → ComesNoLater numbers (slice_index order i) (slice_index order j)

-- what a constant whose node is this one means in the expression of a node: a value that was found, where its component is a lower one
abbrev pub meaning_in : List ℕ → List ℕ → ℕ → ℕ → Meaning
meaning_in numbers values node constant = if nat_lt (slice_index numbers constant) (slice_index numbers node) then Value
    (slice_index values constant) else Other

-- the value of a counter as it comes to the item k
abbrev pub moved : ℕ → List ℕ → ℕ → Move → ℕ
moved count values k Sets = slice_index values (2 * k)
moved count values k Stays = slice_index values (2 * count + k)
moved count values k Counts = (slice_index values (2 * count + k) + 1) % 2 ^ 32
moved count values k Steps = (slice_index values (2 * count + k) + slice_index values (2 * k + 1)) % 2 ^ 32

abbrev pub counter_value : List Row → List ℕ → ℕ → ℕ
counter_value rows values zero = 0
counter_value rows values (suc k) = if (row_at rows (suc k)).first then 0 else moved (length rows) values k (move_of (row_at rows k).item)

-- a table in which each of these names that is a constant means what it does in the expression of a node
pub record IsPrepared (index : List ℕ → Option ℕ) (numbers values : List ℕ) (node : ℕ) (names : List (List ℕ)) (old new : Setting) : Type 0 where
  pub entered : (n : List ℕ) (k : ℕ) → Contains names n → index n ≡ Some k → new.name n ≡ Some (meaning_in numbers values node k)
  pub others : (n : List ℕ) → index n ≡ None → new.name n ≡ old.name n
  pub constants : (object name : List ℕ) → new.constant object name ≡ old.constant object name
  pub here : new.here ≡ old.here

-- the first fault so far, with those of a further expression
abbrev pub with_first : Option Fault → Fault → Fault
with_first None f = f
with_first (Some g) f = earlier g f

pub data Joins (s : Setting) (e : Tree) (old new : Option Fault) : Type 0 where
  clean : ((f : Fault) → ¬ FaultIn s e f) → new ≡ old → Joins s e old new
  refused : (f : Fault) → IsFirstFault (FaultIn s e) f → new ≡ Some (with_first old f) → Joins s e old new

-- the value of a node: of its expression, by what the names mean there, or of its counter
pub record IsValue (c : Scope) (rows : List Row) (values : List ℕ) (node : ℕ) : Type 0 where
  pub expression : (t : Term) → expression_at rows t.number ≡ Some t.tree → t.number ≡ node →
      (s : Setting) × IsRightFor c t s × (slice_index values node ≡ counted (value s t.tree)) × (slice_index values node < 2 ^ 32)
  pub counter : (k : ℕ) → k < length rows → node ≡ 2 * length rows + k →
      (w : ℕ) × Adds c (counter_at rows k).terms w × (slice_index values node ≡ ((counter_at rows k).whole + w) % 2 ^ 32)

-- a node that stands before a place in the order
abbrev pub IsBefore : List ℕ → ℕ → ℕ → Type 0
IsBefore order place node = (q : ℕ) × (q < place) × (q < length order) × (slice_index order q ≡ node)

-- a fault of an expression before a place
pub record IsFaultBefore (c : Scope) (rows : List Row) (order : List ℕ) (place : ℕ) (f : Fault) : Type 0 where
  pub expression : Term
  pub listed : expression_at rows expression.number ≡ Some expression.tree
  pub before : IsBefore order place expression.number
  pub setting : Setting
  pub right : IsRightFor c expression setting
  pub fault : FaultIn setting expression.tree f

-- a table that says what stands outside; of other names it has entries for constants alone
pub record IsTable (outside : Setting) (rows : List Row) (s : Setting) : Type 0 where
  pub given : (n : List ℕ) → IsSome (outside.name n) → s.name n ≡ outside.name n
  pub unknown : (n : List ℕ) → outside.name n ≡ None → constant_at outside rows n ≡ None → s.name n ≡ None
  pub constants : (object name : List ℕ) → s.constant object name ≡ outside.constant object name
  pub here : s.here ≡ outside.here

-- what is evaluated before a place in the order
pub record IsEvaluated (c : Scope) (rows : List Row) (order : List ℕ) (place : ℕ) (values : List ℕ) (s : Setting) (fault : Option Fault) : Type 0 where
  pub size : length values ≡ 2 * length rows + length rows
  pub known : (node : ℕ) → IsBefore order place node → IsValue c rows values node
  pub table : IsTable c.outside rows s
  pub faults : MatchOption fault ((f : Fault) → ¬ IsFaultBefore c rows order place f) (IsFirstFault (IsFaultBefore c rows order place))

-- ---- steps of the code

-- all that is read and written by number is there
pub record IsSized (count : ℕ) (index : List ℕ → Option ℕ) (numbers order values : List ℕ) : Type 0 where
  pub numbers_size : length numbers ≡ 2 * count + count
  pub values_size : length values ≡ 2 * count + count
  pub order_within : (place : ℕ) → place < length order → slice_index order place < length numbers
  pub index_within : (n : List ℕ) (k : ℕ) → index n ≡ Some k → k < length numbers

-- a table in which one name means this, if it is to mean something
pub record IsSameBut (name : List ℕ) (meaning : Option Meaning) (old new : Setting) : Type 0 where
  pub entered : (m : Meaning) → meaning ≡ Some m → new.name name ≡ Some m
  pub kept : meaning ≡ None → new.name name ≡ old.name name
  pub others : (n : List ℕ) → ¬ (n ≡ name) → new.name n ≡ old.name n
  pub constants : (object n : List ℕ) → new.constant object n ≡ old.constant object n
  pub here : new.here ≡ old.here

-- a table in which a name of an item has its value
pub record IsNameEntered (index : List ℕ → Option ℕ) (name : Option (List ℕ)) (values : List ℕ) (old new : Setting) : Type 0 where
  pub entered : (n : List ℕ) (k : ℕ) → name ≡ Some n → index n ≡ Some k → new.name n ≡ Some (Value (slice_index values k))
  pub others : (n : List ℕ) → ¬ (name ≡ Some n) → new.name n ≡ old.name n
  pub unknown : (n : List ℕ) → index n ≡ None → new.name n ≡ old.name n
  pub constants : (object n : List ℕ) → new.constant object n ≡ old.constant object n
  pub here : new.here ≡ old.here

-- a table in which the names of the first items have their values
pub record IsEntered (index : List ℕ → Option ℕ) (rows : List Row) (values : List ℕ) (count : ℕ) (old new : Setting) : Type 0 where
  pub entered : (j : ℕ) (n : List ℕ) (k : ℕ) → j < count → (row_at rows j).item.name ≡ Some n → index n ≡ Some k →
      new.name n ≡ Some (Value (slice_index values k))
  pub unknown : (n : List ℕ) → index n ≡ None → new.name n ≡ old.name n
  pub constants : (object n : List ℕ) → new.constant object n ≡ old.constant object n
  pub here : new.here ≡ old.here
