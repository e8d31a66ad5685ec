-- What the rules know of a file (this project's profile).
use Rattle.std.specs.Prelude.{ℕ, ◌+◌, ◌*◌, Bool, true, false, ◌&&◌, ◌||◌, List, [], ◌∷◌, length, Option, Some, None, is_some}
use Rattle.std.specs.List.{flat_map}
use Rattle.std.specs.Str.{bytes_eq}
use Rattle.p8_tree.specs.Sources as trees
use Rattle.p8_tree.specs.Sources.{Contents, MethodTree}
use Rattle.p8_fold.specs.Meanings.{Setting}
use Rattle.p8_constants.specs.FileItems.{Item, variable, method, line}
use Rattle.p8_constants.specs.Rules.{count_in}
use Rattle.p8_names.specs.Kinds.{numbered}
use Rattle.p8_stmt.specs.declared.code.MethodCode.{MethodCode}
use Rattle.p8_hint.specs.Spots.{Spot, spots_in}
use Rattle.p8_hint.specs.Rules.{Facts, after, is_open, reached_in, times_in}

-- ---- methods

-- a method's result, parameters and locals, and what it holds on the operand stack, without the methods that it calls
abbrev pub bytes_of : MethodTree → MethodCode → ℕ
bytes_of m code = 4 * (1 + length m.params) + code.locals + 4 * code.depth

-- of methods with their codes, by their names
abbrev pub needed_in : List MethodTree → List MethodCode → (name : List ℕ) → Option ℕ
needed_in (m ∷ ms) (code ∷ codes) name = after (bytes_eq name m.name) (λ before. bytes_of m code) (needed_in ms codes name)
needed_in ms codes name = None

abbrev pub spots_of_item : Item → List Spot
spots_of_item (method m) = spots_in m.body
spots_of_item x = []

abbrev pub spots_of_items : List Item → List Spot
spots_of_items xs = flat_map spots_of_item xs

-- ---- VAR

abbrev pub is_array : (name : List ℕ) → Item → Bool
is_array name (variable x) = is_some x.count && bytes_eq name x.name
is_array name x = false

abbrev pub bytes_in : Setting → Item → ℕ
bytes_in s (variable x) = x.size * count_in s x.count
bytes_in s x = 0

abbrev pub array_in : Setting → List Item → (name : List ℕ) → Option ℕ
array_in s [] name = None
array_in s (x ∷ xs) name = after (is_array name x) (λ before. bytes_in s x) (array_in s xs name)

abbrev pub item_open : (reached : List ℕ → Option ℕ) → Item → Bool
item_open reached (variable x) = is_open reached x
item_open reached x = false

abbrev pub exposed_in : (reached : List ℕ → Option ℕ) → List Item → Bool
exposed_in reached [] = false
exposed_in reached (x ∷ xs) = item_open reached x || exposed_in reached xs

-- ---- labels

-- whether a line of DAT has an instruction; a label alone stands at the next line's
abbrev pub has_code : Contents → Option Bool
has_code trees.Nothing = None
has_code (trees.Instr x) = Some true
has_code c = Some false

abbrev pub code_at : Item → Option Bool
code_at (line x) = has_code x.contents
code_at x = None

abbrev pub or_behind : Option Bool → Bool → Bool
or_behind None behind = behind
or_behind (Some own) behind = own

-- whether an instruction stands at a label on the first of these items
abbrev pub is_code : List Item → Bool
is_code [] = false
is_code (x ∷ xs) = or_behind (code_at x) (is_code xs)

abbrev pub is_named : (name : List ℕ) → Option (List ℕ) → Bool
is_named name None = false
is_named name (Some label) = bytes_eq name label

abbrev pub has_label : (name : List ℕ) → Item → Bool
has_label name (line x) = is_named name x.label
has_label name x = false

-- 1 where an instruction stands at this label and at those of its name before, of which that is 1
abbrev pub and_code : Bool → Option ℕ → ℕ
and_code false before = 0
and_code true None = 1
and_code true (Some k) = k

abbrev pub on_code_in : List Item → (name : List ℕ) → Option ℕ
on_code_in [] name = None
on_code_in (x ∷ xs) name = after (has_label name x) (and_code (is_code (x ∷ xs))) (on_code_in xs name)

-- ---- all of it

abbrev pub facts_by : List MethodCode → Setting → List Item → Facts
facts_by codes s xs = record {
  needed = needed_in (numbered xs) codes;
  array = array_in s xs;
  times = times_in (spots_of_items xs);
  on_code = on_code_in xs;
  exposed = exposed_in (reached_in (spots_of_items xs)) xs;
}
