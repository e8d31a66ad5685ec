-- Pieces without jumps: each is as long as it is, wherever it stands.
use Rattle.std.proofs.Common.{◌≡◌, ℕ, ◌+◌, ◌-◌, ◌^◌, ◌==◌, ◌&&◌, ◌||◌, nat_le, nat_lt, Bool, true, false, if◌then◌else◌, List, length, Option, Some, None, refl, ◌∙◌, arith}
use Rattle.p8_tree.specs.declared.places.Place.{Place}
use Rattle.p8_tree.specs.Expressions.{Tree, node, Number, Var, Call, Named, Part, Index, no_index, index}
use Rattle.p8_bytecode.specs.declared.op.Op.{Op}
use Rattle.p8_bytecode.specs.Spelling.{spelled}
use Rattle.p8_kinds.specs.declared.name_kinds.NameKind.{NameKind}
use Rattle.p8_kinds.specs.declared.name_kinds.NameKind.TheVariants as kinds
use Rattle.p8_gen.specs.Names.{Names}
use Rattle.p8_gen.specs.Pieces.{Written, Piece, nothing, one, ◌⨾◌, byte, text}
use Rattle.p8_gen.specs.Variables.{number}
use Rattle.p8_gen.specs.Expressions.{started, built_without, own_method, method_in, callee, name_alone, counts_from, dropped, built_value, built, starts, starts_method}

pub record Fixed (a : Piece) : Type 0 where
  pub size : ℕ
  pub ends : (w : Written) → (a w).end ≡ w.end + size
  pub far : (w : Written) → (a w).too_far ≡ w.too_far

pub nothings : Fixed nothing
nothings = record { size = 0; ends = λ w. omega arith; far = λ w. refl }

pub ones : (op : Op) → Fixed (one op)
ones op = record { size = length (spelled op); ends = λ w. refl; far = λ w. refl }

pub bytes : (code : ℕ) → Fixed (byte code)
bytes code = ones _

pub texts : (place : Place) (at : ℕ) → Fixed (text place at)
texts place at = record { size = _; ends = λ w. refl; far = λ w. refl }

pub both : {a b : Piece} → Fixed a → Fixed b → Fixed (a ⨾ b)
both {a} {b} x y = record {
  size = x.size + y.size;
  ends = λ w. let first = x.ends w in let second = y.ends (a w) in omega (arith, first, second);
  far = λ w. y.far (a w) ∙ x.far w;
}

pub either : {a b : Piece} (t : Bool) → Fixed a → Fixed b → Fixed (if t then a else b)
either true x y = x
either false x y = y

pub number-fixed : (v : ℕ) → Fixed (number v)
number-fixed v =
    either (v == 0) (bytes _) (either (v == 1) (bytes _) (either (v == 2 ^ 32 - 1) (bytes _)
    (either (nat_lt v (2 ^ 8)) (ones _) (either (nat_lt v (2 ^ 16)) (ones _) (either (nat_lt v (2 ^ 24)) (ones _) (ones _))))))

pub name-fixed : (n : Names) (name : List ℕ) (kind : Option NameKind) → Fixed (name_alone n name kind)
name-fixed n name (Some (kinds.Const v)) = number-fixed v
name-fixed n name (Some (kinds.Method number params)) = both (bytes _) (ones _)
name-fixed n name (Some (kinds.Global size offset)) = ones _
name-fixed n name _ = ones _

pub own-fixed : (kind : Option NameKind) → Fixed (own_method kind)
own-fixed (Some (kinds.Method number params)) = ones _
own-fixed (Some (kinds.Const v)) = nothings
own-fixed _ = nothings

in-fixed : (n : Names) (kind : Option NameKind) (i : Index) (method : List ℕ) → Fixed (method_in n kind i method)
in-fixed n (Some (kinds.Object item position count)) no_index method = ones _
in-fixed n (Some (kinds.Object item position count)) (index e) method = ones _
in-fixed n (Some (kinds.Const v)) i method = nothings
in-fixed n _ i method = nothings

pub callee-fixed : (n : Names) (object : Option (List ℕ)) (i : Index) (method : List ℕ) → Fixed (callee n object i method)
callee-fixed n None i method = own-fixed (n.kind method)
callee-fixed n (Some object) i method = in-fixed n (n.kind object) i method

pub counts-fixed : (code : ℕ) → Fixed (counts_from code)
counts-fixed code = either (nat_le 0x12 code) (bytes _) (bytes _)

dropped-fixed : (used : Bool) → Fixed (dropped used)
dropped-fixed used = either used nothings (bytes _)

built-value-fixed : (code : ℕ) → Fixed (built_value code)
built-value-fixed code = either (code == 0x3F) (ones _) (either (code == 0xC0) (both (bytes _) (bytes _)) (both (ones _) (bytes _)))

pub made-fixed : (used : Bool) (code : ℕ) → Fixed (built used code)
made-fixed used code =
    either used (bytes _)
    (either (nat_le 0x29 code && nat_le code 0x2B) (bytes _) (either (code == 0x16 || code == 0x17) (both (bytes _) (bytes _)) (bytes _)))

pub without-fixed : (used : Bool) (code : ℕ) → Fixed (built_without used code)
without-fixed used code = either (code == 0x29) (made-fixed used code) (both (built-value-fixed code) (dropped-fixed used))

pub starts-fixed : (n : Names) (m : Tree) → Fixed (starts n m)
starts-fixed n (node place (Call stops object i method at es)) = ones _
starts-fixed n (node place (Var (Named name i at))) = ones _
starts-fixed n (node place (Var (Part name size i at))) = nothings
starts-fixed n (node place (Number v)) = nothings
starts-fixed n _ = nothings

pub started-fixed : (n : Names) (used : Bool) (m : Tree) → Fixed (started n used m)
started-fixed n used m = either (starts_method n m) (both (starts-fixed n m) (dropped-fixed used)) (bytes _)
