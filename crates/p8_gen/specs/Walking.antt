-- Pieces of expressions as the code cuts them: internal.
use Rattle.std.specs.Prelude.{◌≡◌, ℕ, Bool, if◌then◌else◌}
use Rattle.p8_tree.specs.Expressions.{Tree, Form, Call, Items}
use Rattle.p8_gen.specs.declared.expressions.BuiltForm.{BuiltForm}
use Rattle.p8_gen.specs.declared.expressions.BuiltForm.TheVariants as built_form
use Rattle.p8_gen.specs.Names.{Names}
use Rattle.p8_gen.specs.Pieces.{Piece, nothing, ◌⨾◌, byte}
use Rattle.p8_gen.specs.Expressions.{mark, values, index_value, callee, starts_method, arguments, value, looks}

-- a call
abbrev pub call_piece : Names → (used : Bool) → Form → Piece
call_piece names used (Call trap object i method q args) = mark used trap ⨾ values names args ⨾ index_value names i ⨾ callee names object i method
call_piece names used _ = nothing

-- what stands before the start of a method, or of PASM
abbrev pub started_value : Names → Tree → Piece
started_value names m = if starts_method names m then arguments names m else value names m

-- the items of a LOOK function with the end after them
abbrev pub looked : Names → (down : Bool) → Items → (end : ℕ) → Piece
looked names down xs end = looks names down end xs ⨾ byte 0x0F

-- how a built-in of so many arguments is written
abbrev pub IsBuiltForm : BuiltForm → (code count : ℕ) → Type 0
IsBuiltForm built_form.Word code count = count ≡ 0
IsBuiltForm built_form.Constant code count = (count ≡ 1) × (code ≡ 0)
IsBuiltForm built_form.NewCog code count = (count ≡ 2) × (code ≡ 0x2C)
IsBuiltForm built_form.ToldCog code count = (count ≡ 3) × (code ≡ 0x28)
IsBuiltForm built_form.Plain code count =
    ¬ (count ≡ 0) × ¬ ((count ≡ 1) × (code ≡ 0)) × ¬ ((count ≡ 2) × (code ≡ 0x2C)) × ¬ ((count ≡ 3) × (code ≡ 0x28))
