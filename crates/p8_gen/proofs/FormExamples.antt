-- The code of each form of an expression, on small statements.
use Rattle.std.proofs.Common.{◌≡◌, ℕ, List, [], ◌∷◌, Some, None, true, false, refl}
use Rattle.std.specs.Prelude.{codes, flat_map}
use Rattle.std.specs.Map.{lookup}
use Rattle.std.specs.Str.{bytes_eq}
use Rattle.p8_tree.specs.declared.places.Place.{Place}
use Rattle.p8_tree.specs.Expressions.{Tree, node, Number, Str, Strings, Var, Call, Unary, Binary, Assign, Change, Address, ObjectAddress, Built, Look, Named, Part, Memory, Register, no_index, index, whole, bits, single, range, no_trees, ◌▷◌, no_items, ◌▸◌}
use Rattle.p8_words.specs.Operators.{binary_values}
use Rattle.p8_kinds.specs.declared.name_kinds.NameKind.{NameKind}
use Rattle.p8_kinds.specs.declared.name_kinds.NameKind.TheVariants as kinds
use Rattle.p8_fold.specs.declared.meanings.Meaning.{Meaning}
use Rattle.p8_fold.specs.declared.meanings.Meaning.TheVariants as meaning
use Rattle.p8_fold.specs.Meanings.{outside_operands}
use Rattle.p8_bytecode.specs.Spelling.{spelled}
use Rattle.p8_bytecode.specs.Table.{rows}
use Rattle.p8_gen.specs.Names.{Names, all_wide}
use Rattle.p8_gen.specs.Pieces.{empty}
use Rattle.p8_gen.specs.Expressions.{alone}

abbrev p : Place
p = record { line = 1; column = 1 }

-- longs of VAR, the last of them after the first eight; a label; a constant; methods; objects, four of them
abbrev found : List (List ℕ × NameKind)
found =
    (codes "A", kinds.Global 4 0) ∷ (codes "B", kinds.Global 4 4) ∷ (codes "V", kinds.Global 4 32) ∷ (codes "T", kinds.Label 1) ∷ (codes "K", kinds.Const 10) ∷
    (codes "F", kinds.Method 2 0) ∷ (codes "G", kinds.Method 3 2) ∷ (codes "O", kinds.Object 0 3 4) ∷ []

-- a PUB of the objects
abbrev of_objects : List (List ℕ × NameKind)
of_objects = (codes "M", kinds.Method 1 1) ∷ []

abbrev constants : List (List ℕ × Meaning)
constants = (codes "K", meaning.Value 10) ∷ []

abbrev names : Names
names = record {
  kind = λ n. lookup (bytes_eq n) found;
  public = λ item n. lookup (bytes_eq n) of_objects;
  constants = record { name = λ n. lookup (bytes_eq n) constants; constant = λ o n. None; here = outside_operands None };
  label = λ n. 8;
  text = λ q. 0;
  wide = all_wide;
  statement = p;
}

abbrev number : ℕ → Tree
number v = node p (Number v)

abbrev code_of : Tree → List ℕ
code_of e = flat_map spelled (alone names e empty).ops

-- a := 128
a_byte : code_of (node p (Assign (Named (codes "A") no_index p) None (number 128))) ≡ 0x38 ∷ 0x80 ∷ 0x41 ∷ []
unfolding rows
a_byte = refl

-- a := 256
a_word : code_of (node p (Assign (Named (codes "A") no_index p) None (number 0x100))) ≡ 0x39 ∷ 0x01 ∷ 0x00 ∷ 0x41 ∷ []
unfolding rows
a_word = refl

-- a := 65536
three_bytes : code_of (node p (Assign (Named (codes "A") no_index p) None (number 0x10000))) ≡ 0x3A ∷ 0x01 ∷ 0x00 ∷ 0x00 ∷ 0x41 ∷ []
unfolding rows
three_bytes = refl

-- a := $1_000_000
a_long : code_of (node p (Assign (Named (codes "A") no_index p) None (number 0x1000000))) ≡ 0x3B ∷ 0x01 ∷ 0x00 ∷ 0x00 ∷ 0x00 ∷ 0x41 ∷ []
unfolding rows
a_long = refl

-- a := $FFFF_FFFF
all_ones : code_of (node p (Assign (Named (codes "A") no_index p) None (number 0xFFFFFFFF))) ≡ 0x34 ∷ 0x41 ∷ []
unfolding rows
all_ones = refl

-- v := a
behind_the_short_ones : code_of (node p (Assign (Named (codes "V") no_index p) None (node p (Var (Named (codes "A") no_index p))))) ≡ 0x40 ∷ 0xC9 ∷ 0x20 ∷ []
unfolding rows
behind_the_short_ones = refl

-- byte[a] := b
address_last : code_of (node p (Assign (Memory 1 (node p (Var (Named (codes "A") no_index p))) no_index p) None (node p (Var (Named (codes "B") no_index p))))) ≡ 0x44 ∷ 0x40 ∷ 0x81 ∷ []
unfolding rows
address_last = refl

-- a[b] := 1
with_an_index : code_of (node p (Assign (Named (codes "A") (index (node p (Var (Named (codes "B") no_index p)))) p) None (number 1))) ≡ 0x36 ∷ 0x44 ∷ 0xD9 ∷ 0x00 ∷ []
unfolding rows
with_an_index = refl

-- a.byte[b] := 1
as_bytes : code_of (node p (Assign (Part (codes "A") 1 (index (node p (Var (Named (codes "B") no_index p)))) p) None (number 1))) ≡ 0x36 ∷ 0x44 ∷ 0x99 ∷ 0x00 ∷ []
unfolding rows
as_bytes = refl

-- a := @t
address_of_a_label : code_of (node p (Assign (Named (codes "A") no_index p) None (node p (Address (Named (codes "T") no_index p))))) ≡ 0x87 ∷ 0x80 ∷ 0x08 ∷ 0x41 ∷ []
unfolding rows
address_of_a_label = refl

-- a := @b
address_of_a_short_one : code_of (node p (Assign (Named (codes "A") no_index p) None (node p (Address (Named (codes "B") no_index p))))) ≡ 0x47 ∷ 0x41 ∷ []
unfolding rows
address_of_a_short_one = refl

-- a := @@b
in_the_object : code_of (node p (Assign (Named (codes "A") no_index p) None (node p (ObjectAddress (node p (Var (Named (codes "B") no_index p))))))) ≡ 0x44 ∷ 0x97 ∷ 0x00 ∷ 0x41 ∷ []
unfolding rows
in_the_object = refl

-- outa[1..0]~~
pins : code_of (node p (Change (Register 0x1F4 (bits (range (number 1) (number 0))) p) 0x1C)) ≡ 0x36 ∷ 0x35 ∷ 0x3E ∷ 0xD4 ∷ 0x1C ∷ []
unfolding rows
pins = refl

-- a := ina[b]
a_pin : code_of (node p (Assign (Named (codes "A") no_index p) None (node p (Var (Register 0x1F2 (bits (single (node p (Var (Named (codes "B") no_index p))))) p))))) ≡ 0x44 ∷ 0x3D ∷ 0x92 ∷ 0x41 ∷ []
unfolding rows
a_pin = refl

-- dira := a
a_register : code_of (node p (Assign (Register 0x1F6 whole p) None (node p (Var (Named (codes "A") no_index p))))) ≡ 0x40 ∷ 0x3F ∷ 0xB6 ∷ []
unfolding rows
a_register = refl

-- a += 1
adding : code_of (node p (Assign (Named (codes "A") no_index p) (Some 0xEC) (number 1))) ≡ 0x36 ∷ 0x42 ∷ 0x4C ∷ []
unfolding rows
adding = refl

-- a := b += 1
adding_inside : code_of (node p (Assign (Named (codes "A") no_index p) None (node p (Assign (Named (codes "B") no_index p) (Some 0xEC) (number 1))))) ≡ 0x36 ∷ 0x46 ∷ 0xCC ∷ 0x41 ∷ []
unfolding rows
adding_inside = refl

-- a++
counting_up : code_of (node p (Change (Named (codes "A") no_index p) 0x28)) ≡ 0x42 ∷ 0x2E ∷ []
unfolding rows
counting_up = refl

-- a := ++b
counting_up_inside : code_of (node p (Assign (Named (codes "A") no_index p) None (node p (Change (Named (codes "B") no_index p) 0x20)))) ≡ 0x46 ∷ 0xA6 ∷ 0x41 ∷ []
unfolding rows
counting_up_inside = refl

-- -a
an_operator_alone : code_of (node p (Change (Named (codes "A") no_index p) 0x46)) ≡ 0x42 ∷ 0x46 ∷ []
unfolding rows
an_operator_alone = refl

-- a := +b
a_plus_sign : code_of (node p (Assign (Named (codes "A") no_index p) None (node p (Unary 0xEC (node p (Var (Named (codes "B") no_index p))))))) ≡ 0x44 ∷ 0x41 ∷ []
unfolding rows
a_plus_sign = refl

-- f
called_alone : code_of (node p (Var (Named (codes "F") no_index p))) ≡ 0x01 ∷ 0x05 ∷ 0x02 ∷ []
unfolding rows
called_alone = refl

-- a := f
called_inside : code_of (node p (Assign (Named (codes "A") no_index p) None (node p (Var (Named (codes "F") no_index p))))) ≡ 0x00 ∷ 0x05 ∷ 0x02 ∷ 0x41 ∷ []
unfolding rows
called_inside = refl

-- g(1, a)
with_arguments : code_of (node p (Call false None no_index (codes "G") p (no_trees ▷ (number 1) ▷ (node p (Var (Named (codes "A") no_index p)))))) ≡ 0x01 ∷ 0x36 ∷ 0x40 ∷ 0x05 ∷ 0x03 ∷ []
unfolding rows
with_arguments = refl

-- a := \g(1, b)
stopping_aborts : code_of (node p (Assign (Named (codes "A") no_index p) None (node p (Call true None no_index (codes "G") p (no_trees ▷ (number 1) ▷ (node p (Var (Named (codes "B") no_index p)))))))) ≡ 0x02 ∷ 0x36 ∷ 0x44 ∷ 0x05 ∷ 0x03 ∷ 0x41 ∷ []
unfolding rows
stopping_aborts = refl

-- o.m
of_an_object : code_of (node p (Call false (Some (codes "O")) no_index (codes "M") p (no_trees))) ≡ 0x01 ∷ 0x06 ∷ 0x03 ∷ 0x01 ∷ []
unfolding rows
of_an_object = refl

-- o[a].m(1)
of_one_object_of_many : code_of (node p (Call false (Some (codes "O")) (index (node p (Var (Named (codes "A") no_index p)))) (codes "M") p (no_trees ▷ (number 1)))) ≡ 0x01 ∷ 0x36 ∷ 0x40 ∷ 0x07 ∷ 0x03 ∷ 0x04 ∷ 0x01 ∷ []
unfolding rows
of_one_object_of_many = refl

-- cognew(g(1, a), @b)
method_in_a_new_cog : code_of (node p (Built 0x2C (no_trees ▷ (node p (Call false None no_index (codes "G") p (no_trees ▷ (number 1) ▷ (node p (Var (Named (codes "A") no_index p)))))) ▷ (node p (Address (Named (codes "B") no_index p)))))) ≡ 0x34 ∷ 0x36 ∷ 0x40 ∷ 0x47 ∷ 0x15 ∷ 0x03 ∷ 0x02 ∷ 0x14 ∷ []
unfolding rows
method_in_a_new_cog = refl

-- coginit(1, f, @b)
method_in_a_cog : code_of (node p (Built 0x28 (no_trees ▷ (number 1) ▷ (node p (Var (Named (codes "F") no_index p))) ▷ (node p (Address (Named (codes "B") no_index p)))))) ≡ 0x36 ∷ 0x47 ∷ 0x15 ∷ 0x02 ∷ 0x00 ∷ 0x14 ∷ []
unfolding rows
method_in_a_cog = refl

-- a := cognew(@t, b)
assembly_in_a_new_cog : code_of (node p (Assign (Named (codes "A") no_index p) None (node p (Built 0x2C (no_trees ▷ (node p (Address (Named (codes "T") no_index p))) ▷ (node p (Var (Named (codes "B") no_index p)))))))) ≡ 0x34 ∷ 0x87 ∷ 0x80 ∷ 0x08 ∷ 0x44 ∷ 0x28 ∷ 0x41 ∷ []
unfolding rows
assembly_in_a_new_cog = refl

-- coginit(1, @t, a)
assembly_in_a_cog : code_of (node p (Built 0x28 (no_trees ▷ (number 1) ▷ (node p (Address (Named (codes "T") no_index p))) ▷ (node p (Var (Named (codes "A") no_index p)))))) ≡ 0x36 ∷ 0x87 ∷ 0x80 ∷ 0x08 ∷ 0x40 ∷ 0x2C ∷ []
unfolding rows
assembly_in_a_cog = refl

-- strsize(a)
size_of_a_text : code_of (node p (Built 0x16 (no_trees ▷ (node p (Var (Named (codes "A") no_index p)))))) ≡ 0x40 ∷ 0x16 ∷ 0x14 ∷ []
unfolding rows
size_of_a_text = refl

-- a := strsize(b)
size_of_a_text_inside : code_of (node p (Assign (Named (codes "A") no_index p) None (node p (Built 0x16 (no_trees ▷ (node p (Var (Named (codes "B") no_index p)))))))) ≡ 0x44 ∷ 0x16 ∷ 0x41 ∷ []
unfolding rows
size_of_a_text_inside = refl

-- lockset(a)
a_lock : code_of (node p (Built 0x2A (no_trees ▷ (node p (Var (Named (codes "A") no_index p)))))) ≡ 0x40 ∷ 0x2E ∷ []
unfolding rows
a_lock = refl

-- a := lockset(b)
a_lock_inside : code_of (node p (Assign (Named (codes "A") no_index p) None (node p (Built 0x2A (no_trees ▷ (node p (Var (Named (codes "B") no_index p)))))))) ≡ 0x44 ∷ 0x2A ∷ 0x41 ∷ []
unfolding rows
a_lock_inside = refl

-- locknew
a_new_lock : code_of (node p (Built 0x29 (no_trees))) ≡ 0x2D ∷ []
unfolding rows
a_new_lock = refl

-- longfill(@a, 1, 2)
three_arguments : code_of (node p (Built 0x1A (no_trees ▷ (node p (Address (Named (codes "A") no_index p))) ▷ (number 1) ▷ (number 2)))) ≡ 0x43 ∷ 0x36 ∷ 0x38 ∷ 0x02 ∷ 0x1A ∷ []
unfolding rows
three_arguments = refl

-- a := cogid
number_of_the_cog : code_of (node p (Assign (Named (codes "A") no_index p) None (node p (Built 0x3F (no_trees))))) ≡ 0x3F ∷ 0x89 ∷ 0x41 ∷ []
unfolding rows
number_of_the_cog = refl

-- a := clkfreq
frequency : code_of (node p (Assign (Named (codes "A") no_index p) None (node p (Built 0xC0 (no_trees))))) ≡ 0x35 ∷ 0xC0 ∷ 0x41 ∷ []
unfolding rows
frequency = refl

-- clkmode
clock_mode_alone : code_of (node p (Built 0x80 (no_trees))) ≡ 0x38 ∷ 0x04 ∷ 0x80 ∷ 0x14 ∷ []
unfolding rows
clock_mode_alone = refl

-- a := lookup(b : 1, 2..3)
looking_up : code_of (node p (Assign (Named (codes "A") no_index p) None (node p (Look 0x10 (node p (Var (Named (codes "B") no_index p))) (no_items ▸ single (number 1) ▸ range (number 2) (number 3)))))) ≡ 0x44 ∷ 0x36 ∷ 0x36 ∷ 0x10 ∷ 0x80 ∷ 0x08 ∷ 0x38 ∷ 0x02 ∷ 0x38 ∷ 0x03 ∷ 0x12 ∷ 0x80 ∷ 0x01 ∷ 0x0F ∷ 0x41 ∷ []
unfolding rows
looking_up = refl

-- a := lookdownz(b : 1)
looking_down_from_0 : code_of (node p (Assign (Named (codes "A") no_index p) None (node p (Look 0x13 (node p (Var (Named (codes "B") no_index p))) (no_items ▸ single (number 1)))))) ≡ 0x44 ∷ 0x35 ∷ 0x36 ∷ 0x11 ∷ 0x80 ∷ 0x01 ∷ 0x0F ∷ 0x41 ∷ []
unfolding rows
looking_down_from_0 = refl

-- a := string("hi")
a_text : code_of (node p (Assign (Named (codes "A") no_index p) None (node p (Str (codes "hi"))))) ≡ 0x87 ∷ 0x80 ∷ 0x00 ∷ 0x41 ∷ []
unfolding rows
a_text = refl

-- a := string("hi", 13)
a_list : code_of (node p (Assign (Named (codes "A") no_index p) None (node p (Strings (no_trees ▷ node p (Str (codes "hi")) ▷ number 13))))) ≡ 0x87 ∷ 0x80 ∷ 0x00 ∷ 0x41 ∷ []
unfolding rows
a_list = refl

-- a := constant(k + 1)
a_constant : code_of (node p (Assign (Named (codes "A") no_index p) None (node p (Built 0x00 (no_trees ▷ (node p (Binary 0xEC (node p (Var (Named (codes "K") no_index p))) (number 1)))))))) ≡ 0x38 ∷ 0x0B ∷ 0x41 ∷ []
unfolding rows binary_values
a_constant = refl
