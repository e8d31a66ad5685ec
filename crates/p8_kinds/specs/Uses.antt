-- Which kind of name fits which use (Propeller Manual v1.2, the Spin chapter: "Elements of the Spin language", "PUB", "VAR",
-- "OBJ"; the numbers of refusals are this project's profile).
use Rattle.std.specs.Prelude.{ℕ, ◌==◌, if◌then◌else◌, [], ◌∷◌, Option, Some, None}
use Rattle.p8_tree.specs.Proper.{is_one_of}
use Rattle.p8_tree.specs.declared.refusal.Refusal.{Refusal}
use Rattle.p8_tree.specs.declared.refusal.Refusal.TheVariants.{Unknown, WrongKind, WrongArity}
use Rattle.p8_kinds.specs.declared.name_kinds.NameKind.{NameKind}
use Rattle.p8_kinds.specs.declared.name_kinds.NameKind.TheVariants as kind
use Rattle.p8_kinds.specs.declared.uses.Use.{Use}
use Rattle.p8_kinds.specs.declared.uses.Use.TheVariants as used

-- a method has as many parameters as its call has arguments
abbrev pub unless_called_with : ℕ → ℕ → Option Refusal
unless_called_with params arguments = if params == arguments then None else Some WrongArity

-- the refusal of a kind in a use, where it has one
abbrev pub misfit : Use → NameKind → Option Refusal
-- as a value: a method without parameters is called there, and an object has no value
misfit used.Value (kind.Method number params) = unless_called_with params 0
misfit used.Value (kind.Object item position count) = Some WrongKind
misfit used.Value k = None
-- as a variable: one of VAR, a parameter, a result or a local, or a label
misfit used.Variable (kind.Global size offset) = None
misfit used.Variable (kind.Local offset) = None
misfit used.Variable (kind.Label size) = None
misfit used.Variable k = Some WrongKind
-- as a method that is called, or that is a whole statement
misfit (used.Method arguments) (kind.Method number params) = unless_called_with params arguments
misfit (used.Method arguments) k = Some WrongKind
-- before `.` and `#`
misfit used.Object (kind.Object item position count) = None
misfit used.Object k = Some WrongKind

-- the refusal of a name in a use
abbrev pub wrong : Use → Option NameKind → Option Refusal
wrong way None = Some Unknown
wrong way (Some k) = misfit way k

-- the number of arguments of a built-in: 1 for CONSTANT, STRSIZE, COGSTOP, LOCKRET, WAITCNT, LOCKSET and LOCKCLR, 2 for
-- STRCOMP and COGNEW, 3 for the FILL words, WAITPEQ, the MOVE words, WAITPNE and COGINIT, none for LOCKNEW, COGID, CLKMODE and
-- CLKFREQ
abbrev pub argument_count : ℕ → ℕ
argument_count code =
    if is_one_of (0x00 ∷ 0x16 ∷ 0x21 ∷ 0x22 ∷ 0x23 ∷ 0x2A ∷ 0x2B ∷ []) code then 1 else
    if is_one_of (0x17 ∷ 0x2C ∷ []) code then 2 else
    if is_one_of (0x18 ∷ 0x19 ∷ 0x1A ∷ 0x1B ∷ 0x1C ∷ 0x1D ∷ 0x1E ∷ 0x1F ∷ 0x28 ∷ []) code then 3 else 0
