-- The refusals of a source, each with its number and its name (this project's profile).
use Rattle.std.specs.Prelude.{ℕ, ◌==◌, List, [], ◌∷◌, codes, find, Option}
use Rattle.std.specs.Option.{option_map_or}
use Rattle.p8_tree.specs.declared.refusal.Refusal.{Refusal}
use Rattle.p8_tree.specs.declared.refusal.Refusal.TheVariants as refusal

abbrev pub refusal_number : Refusal → ℕ
refusal_number refusal.BadByte = 1
refusal_number refusal.BadNumber = 2
refusal_number refusal.OpenComment = 3
refusal_number refusal.OpenString = 4
refusal_number refusal.NameTooLong = 5
refusal_number refusal.Unexpected = 6
refusal_number refusal.BadIndent = 7
refusal_number refusal.TooNested = 8
refusal_number refusal.Float = 9
refusal_number refusal.Unsupported = 10
refusal_number refusal.LoopWord = 11
refusal_number refusal.NotConstant = 12
refusal_number refusal.ZeroDivisor = 13
refusal_number refusal.Duplicate = 14
refusal_number refusal.Unknown = 15
refusal_number refusal.WrongKind = 16
refusal_number refusal.WrongArity = 17
refusal_number refusal.NoPub = 18
refusal_number refusal.Cycle = 19
refusal_number refusal.TooManyObjects = 20
refusal_number refusal.OperandRange = 21
refusal_number refusal.FitExceeded = 22
refusal_number refusal.OrgRange = 23
refusal_number refusal.NoRetLabel = 24
refusal_number refusal.JumpTooFar = 25
refusal_number refusal.FrameTooLarge = 26
refusal_number refusal.TooManyMethods = 27
refusal_number refusal.ImageTooLarge = 28
refusal_number refusal.BadClock = 29
refusal_number refusal.FileTooLong = 30
refusal_number refusal.NotCharacter = 31

abbrev pub name_of : Refusal → List ℕ
name_of refusal.BadByte = codes "BadByte"
name_of refusal.BadNumber = codes "BadNumber"
name_of refusal.OpenComment = codes "OpenComment"
name_of refusal.OpenString = codes "OpenString"
name_of refusal.NameTooLong = codes "NameTooLong"
name_of refusal.Unexpected = codes "Unexpected"
name_of refusal.BadIndent = codes "BadIndent"
name_of refusal.TooNested = codes "TooNested"
name_of refusal.Float = codes "Float"
name_of refusal.Unsupported = codes "Unsupported"
name_of refusal.LoopWord = codes "LoopWord"
name_of refusal.NotConstant = codes "NotConstant"
name_of refusal.ZeroDivisor = codes "ZeroDivisor"
name_of refusal.Duplicate = codes "Duplicate"
name_of refusal.Unknown = codes "Unknown"
name_of refusal.WrongKind = codes "WrongKind"
name_of refusal.WrongArity = codes "WrongArity"
name_of refusal.NoPub = codes "NoPub"
name_of refusal.Cycle = codes "Cycle"
name_of refusal.TooManyObjects = codes "TooManyObjects"
name_of refusal.OperandRange = codes "OperandRange"
name_of refusal.FitExceeded = codes "FitExceeded"
name_of refusal.OrgRange = codes "OrgRange"
name_of refusal.NoRetLabel = codes "NoRetLabel"
name_of refusal.JumpTooFar = codes "JumpTooFar"
name_of refusal.FrameTooLarge = codes "FrameTooLarge"
name_of refusal.TooManyMethods = codes "TooManyMethods"
name_of refusal.ImageTooLarge = codes "ImageTooLarge"
name_of refusal.BadClock = codes "BadClock"
name_of refusal.FileTooLong = codes "FileTooLong"
name_of refusal.NotCharacter = codes "NotCharacter"

-- all of them
abbrev pub refusals : List Refusal
refusals =
    refusal.BadByte ∷ refusal.BadNumber ∷ refusal.OpenComment ∷ refusal.OpenString ∷ refusal.NameTooLong ∷ refusal.Unexpected ∷
    refusal.BadIndent ∷ refusal.TooNested ∷ refusal.Float ∷ refusal.Unsupported ∷ refusal.LoopWord ∷ refusal.NotConstant ∷
    refusal.ZeroDivisor ∷ refusal.Duplicate ∷ refusal.Unknown ∷ refusal.WrongKind ∷ refusal.WrongArity ∷ refusal.NoPub ∷
    refusal.Cycle ∷ refusal.TooManyObjects ∷ refusal.OperandRange ∷ refusal.FitExceeded ∷ refusal.OrgRange ∷ refusal.NoRetLabel ∷
    refusal.JumpTooFar ∷ refusal.FrameTooLarge ∷ refusal.TooManyMethods ∷ refusal.ImageTooLarge ∷ refusal.BadClock ∷ refusal.FileTooLong ∷
    refusal.NotCharacter ∷ []

-- the refusal with a number, and its name; empty where there is none
unfoldable pub numbered : ℕ → Option Refusal
numbered number = find (λ r. refusal_number r == number) refusals

abbrev pub name_numbered : ℕ → List ℕ
name_numbered number = option_map_or name_of (numbered number) []
