-- What is known of a tree while it is copied: its value, and how long its code is, up to 5 bytes. Internal.
use Rattle.std.specs.Prelude.{ℕ, ◌+◌, ◌==◌, ◌&&◌, min, Option, Some, None, if◌then◌else◌}
use Rattle.p8_tree.specs.Expressions.{Tree, node, Number, Var, Unary, Binary, ObjConst}
use Rattle.p8_words.specs.Operators.{unary_value, binary_value}
use Rattle.p8_meaning.specs.Constants.{Constants, value_of_name, number_length, unary_length, within, shorter_number}
use Rattle.p8_meaning.specs.declared.known.Numbers.{Numbers}
use Rattle.p8_meaning.specs.declared.known.Numbers.TheVariants.{Shorter, Kept}
use Rattle.p8_meaning.specs.declared.known.Known.{Known}

-- the number in place of a tree
abbrev pub number_by : Numbers → Constants → Tree → Option ℕ
number_by Shorter c = shorter_number c
number_by Kept c = λ e. None

-- what stands in CONSTANT, which is 00, is kept
abbrev pub for_arguments : Numbers → (code count : ℕ) → Numbers
for_arguments numbers code count = if (code == 0) && (count == 1) then Kept else numbers

-- two lengths together
abbrev pub longer : (length more : ℕ) → ℕ
longer length more = min (length + more) 5

abbrev pub known_number : Numbers → Option ℕ → Option Known
known_number Shorter (Some v) = Some (record { value = v; length = number_length v })
known_number Shorter None = None
known_number Kept value = None

abbrev pub known_before : (operator : ℕ) → Option Known → Option Known
known_before operator (Some k) =
    Some (record { value = unary_value operator k.value; length = longer k.length (unary_length operator) })
known_before operator None = None

abbrev pub known_between : (operator : ℕ) → (left right : Option Known) → Option Known
known_between operator (Some a) (Some b) =
    Some (record { value = binary_value operator a.value b.value; length = longer (longer a.length b.length) 1 })
known_between operator (Some a) None = None
known_between operator None right = None

abbrev pub known_of : Numbers → Constants → Tree → Option Known
known_of numbers c (node place (Number n)) = known_number numbers (Some n)
known_of numbers c (node place (Var v)) = known_number numbers (value_of_name c v)
known_of numbers c (node place (ObjConst object name at)) = known_number numbers (c.behind object name)
known_of numbers c (node place (Unary operator e)) = known_before operator (known_of numbers c e)
known_of numbers c (node place (Binary operator a b)) =
    known_between operator (known_of numbers c a) (known_of numbers c b)
known_of numbers c e = None

-- the value, where its number isn't longer than the tree
abbrev pub shorter_known : Option Known → Option ℕ
shorter_known None = None
shorter_known (Some k) = within k.length (Some k.value)
