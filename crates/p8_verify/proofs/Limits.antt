-- Accesses and courses within the limits of a record, where answers are within theirs.
use Rattle.std.proofs.Common.{ℕ, zero, suc, ◌^◌, ◌<◌, ◌*◌, ◌/◌, ◌%◌, arith, Bool, true, false, if◌then◌else◌, List, [], ◌∷◌, slice_index, Option, Some, None}
use Rattle.std.specs.List.{All}
use Rattle.std.proofs.lemmas.List.Elements.{All-head, All-tail}
use Rattle.p8_access.specs.declared.kinds.Width.{Width}
use Rattle.p8_access.specs.declared.kinds.Width.TheVariants.{Byte, Word, Long}
use Rattle.p8_access.specs.declared.kinds.Access.{Access}
use Rattle.p8_access.specs.declared.kinds.Answer.{Answer}
use Rattle.p8_access.specs.declared.kinds.Answer.TheVariants.{Done, Value, Number, Was}
use Rattle.p8_access.specs.declared.order.Turn.{Turn}
use Rattle.p8_access.specs.Proper.{bytes_in, value_of}
use Rattle.p8_verify.specs.Table.{IsAccessWithin, IsAnswerWithin}

abbrev pub IsWord : ℕ → Type 0
IsWord n = n < 2 ^ 32

pub index-word : (xs : List ℕ) (k : ℕ) → All IsWord xs → slice_index xs k < 2 ^ 32
index-word [] k all = omega arith
index-word (x ∷ xs) zero all = All-head IsWord x xs all
index-word (x ∷ xs) (suc k) all = index-word xs k (All-tail IsWord x xs all)

pub reduced-word : (width : Width) (value : ℕ) → value % 256 ^ bytes_in width < 2 ^ 32
reduced-word Byte value = omega arith
reduced-word Word value = omega arith
reduced-word Long value = omega arith

pub aligned-below : (width : Width) (address : ℕ) → address % 2 ^ 16 / bytes_in width * bytes_in width < 65536
aligned-below Byte address = omega arith
aligned-below Word address = omega arith
aligned-below Long address = omega arith

-- an access that may be asked
abbrev pub WithinIf : Option Access → Type 0
WithinIf None = Unit {0}
WithinIf (Some access) = IsAccessWithin access

pub record OptionWithin (o : Option Access) : Type 0 where
  pub some : WithinIf o

pub none-within : OptionWithin None
none-within = record { some = tt }

pub if-option : (b : Bool) {x y : Option Access} → OptionWithin x → OptionWithin y → OptionWithin (if b then x else y)
if-option true h k = h
if-option false h k = k

pub value-word : (answer : Answer) → IsAnswerWithin answer → value_of answer < 2 ^ 32
value-word Done h = omega arith
value-word (Value value) h = h
value-word (Number number) h = omega arith
value-word (Was set) h = omega arith

-- turns whose answers are within their limits
abbrev pub AreAnswered : List Turn → Type 0
AreAnswered [] = Unit {0}
AreAnswered (turn ∷ turns) = IsAnswerWithin turn.answer × AreAnswered turns
