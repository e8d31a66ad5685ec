-- What a method is compiled to, and which method can't be.
-- Sources: the public Spin bytecode listing of the Propeller P8X32A; the limits, numbers and places are this project's profile.
use Rattle.std.specs.Prelude.{◌≡◌, ℕ, ◌+◌, ◌-◌, ◌*◌, ◌^◌, ◌<◌, min, List, [], ◌∷◌, length, map, flat_map, take, Contains, Option, Some, None}
use Rattle.p8_tree.specs.declared.places.Place.{Place}
use Rattle.p8_tree.specs.Expressions.{Tree}
use Rattle.p8_tree.specs.Proper.{AreProperStatements}
use Rattle.p8_tree.specs.Sources.{Declared, MethodTree}
use Rattle.p8_tree.specs.Statements.{Statements}
use Rattle.p8_tree.specs.declared.faults.Fault.{Fault}
use Rattle.p8_tree.specs.Faults.{fault}
use Rattle.p8_tree.specs.declared.refusal.Refusal.TheVariants.{JumpTooFar, FrameTooLarge}
use Rattle.p8_words.specs.Operators.{or_zero}
use Rattle.p8_fold.specs.Meanings.{Setting}
use Rattle.p8_fold.specs.Values.{value}
use Rattle.p8_kinds.specs.Environments.{Environment, kind_in}
use Rattle.p8_kinds.specs.Misuses.{MisuseInStatements}
use Rattle.p8_bytecode.specs.Spelling.{spelled}
use Rattle.p8_gen.specs.Names.{Names}
use Rattle.p8_gen.specs.Operations.{HaveBytes}
use Rattle.p8_gen.specs.Pieces.{Written}
use Rattle.p8_gen.specs.Methods.{bytes_of, method_code}
use Rattle.p8_gen.specs.Depths.{held_in}
use Rattle.p8_gen.specs.Uses.{line_of, use_of}
use Rattle.p8_stmt.specs.declared.code.MethodCode.{MethodCode}
use Rattle.p8_stmt.specs.declared.frames.MethodSize.{MethodSize}

-- ---- what is compiled

-- Statements that were read and whose names were resolved: no name is used against its kind, and the numbers of methods and the
-- places of objects have a byte.
pub record AreResolved (names : Names) (ss : Statements) : Type 0 where
  pub proper : AreProperStatements ss
  pub bytes : HaveBytes names
  -- what was known of names when they were resolved
  pub environment : Environment
  pub kinds : (name : List ℕ) → names.kind name ≡ kind_in environment name
  pub clean : (f : Fault) → ¬ MisuseInStatements environment ss f

-- a method with another body
abbrev pub rebodied : MethodTree → Statements → MethodTree
rebodied m body = record m { body = body }

-- ---- code

-- a local has as many longs as its count says, or one where it has none
abbrev pub count_in : Setting → Option Tree → ℕ
count_in s None = 1
count_in s (Some e) = or_zero (value s e)

-- the longs of a method's locals
abbrev pub longs_in : Setting → List Declared → ℕ
longs_in s [] = 0
longs_in s (x ∷ xs) = count_in s x.count + longs_in s xs

-- a use of a text in code: where among the bytes the two bytes of the text's offset stand, and where the text stands in the source
abbrev pub use_in : Written → ℕ × Place → ℕ × Place
use_in w u = (length (flat_map spelled (take u.0 w.ops)) + 1, u.1)

-- The code of a method: its bytes, with 0 for the offset of each text; the bytes of its locals; how many longs it holds at once
-- on the operand stack; its uses of texts; and its lines.
pub record IsCodeOf (names : Names) (m : MethodTree) (code : MethodCode) : Type 0 where
  pub bytes : code.bytes ≡ bytes_of (method_code names m.body)
  pub locals : code.locals ≡ 4 * longs_in names.constants m.locals
  pub depth : code.depth ≡ held_in names m.body
  pub strings : map use_of code.strings ≡ map (use_in (method_code names m.body)) (method_code names m.body).texts
  pub lines : map line_of code.lines ≡ (method_code names m.body).lines

-- ---- how large a method is

-- the longs of its frame: its result, its parameters and its locals
abbrev pub frame_longs : Names → MethodTree → ℕ
frame_longs names m = 1 + length m.params + longs_in names.constants m.locals

-- what 26 compares with its limits: the longs of the frame, and how many longs are held at once on the operand stack; the greatest number of 32 bits, and
-- of 16, stands for itself and for all above it
abbrev pub size_of : Names → MethodTree → MethodSize
size_of names m = record { longs = min (frame_longs names m) (2 ^ 32 - 1); held = min (held_in names m.body) (2 ^ 16 - 1) }

-- ---- refusals

-- how many longs a frame may have, with its result, and how many a method may hold on the operand stack
abbrev pub most_longs : ℕ
most_longs = 2048

abbrev pub most_held : ℕ
most_held = 128

-- 25 at a statement with a jump that goes too far for its width; 26 at the name of a method whose frame is too large, or that holds too much
pub data IsMethodFault (names : Names) (m : MethodTree) (f : Fault) : Type 0 where
  jump_too_far : (place : Place) → Contains (method_code names m.body).too_far place → fault JumpTooFar place ≡ f → IsMethodFault names m f
  frame_too_large : most_longs < frame_longs names m → fault FrameTooLarge m.place ≡ f → IsMethodFault names m f
  holds_too_much : most_held < held_in names m.body → fault FrameTooLarge m.place ≡ f → IsMethodFault names m f
