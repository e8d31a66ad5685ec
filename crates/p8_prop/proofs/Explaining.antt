-- Each refusal is explained by its number.
use Rattle.std.proofs.Common.{◌≡◌, refl, Some}
use Rattle.std.specs.Fmt.{decimal, digits}
use Rattle.p8_tree.specs.declared.refusal.Refusal.{Refusal}
use Rattle.p8_tree.specs.declared.refusal.Refusal.TheVariants as refusal
use Rattle.p8_tree.specs.Refusals.{numbered, refusal_number}
use Rattle.p8_commands.specs.Commands.{explain_of, ExplainNumber}

-- the word of a refusal asks for it, and there is one of that number
pub known : (r : Refusal) → (explain_of (decimal (refusal_number r)) ≡ Some (ExplainNumber (refusal_number r))) × (numbered (refusal_number r) ≡ Some r)
unfolding numbered digits
known refusal.BadByte = (refl, refl)
known refusal.BadNumber = (refl, refl)
known refusal.OpenComment = (refl, refl)
known refusal.OpenString = (refl, refl)
known refusal.NameTooLong = (refl, refl)
known refusal.Unexpected = (refl, refl)
known refusal.BadIndent = (refl, refl)
known refusal.TooNested = (refl, refl)
known refusal.Float = (refl, refl)
known refusal.Unsupported = (refl, refl)
known refusal.LoopWord = (refl, refl)
known refusal.NotConstant = (refl, refl)
known refusal.ZeroDivisor = (refl, refl)
known refusal.Duplicate = (refl, refl)
known refusal.Unknown = (refl, refl)
known refusal.WrongKind = (refl, refl)
known refusal.WrongArity = (refl, refl)
known refusal.NoPub = (refl, refl)
known refusal.Cycle = (refl, refl)
known refusal.TooManyObjects = (refl, refl)
known refusal.OperandRange = (refl, refl)
known refusal.FitExceeded = (refl, refl)
known refusal.OrgRange = (refl, refl)
known refusal.NoRetLabel = (refl, refl)
known refusal.JumpTooFar = (refl, refl)
known refusal.FrameTooLarge = (refl, refl)
known refusal.TooManyMethods = (refl, refl)
known refusal.ImageTooLarge = (refl, refl)
known refusal.BadClock = (refl, refl)
known refusal.FileTooLong = (refl, refl)
known refusal.NotCharacter = (refl, refl)
