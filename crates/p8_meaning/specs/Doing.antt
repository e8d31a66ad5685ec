-- How it is said what a method does: by what is still to be done. A method reads and writes hub memory, and asks of the machine whatever
-- else passes between a cog and the rest; each of these is an access with its answer, and is asked for a statement.
use Rattle.std.specs.Prelude.{ℕ, zero, suc, ◌%◌, ◌^◌, List, [], ◌∷◌, Option, Some, None, if◌then◌else◌}
use Rattle.p8_access.specs.declared.kinds.Width.{Width}
use Rattle.p8_access.specs.declared.kinds.Width.TheVariants.{Long}
use Rattle.p8_access.specs.declared.kinds.Reason.{Reason}
use Rattle.p8_access.specs.declared.kinds.Reason.TheVariants as Why
use Rattle.p8_access.specs.declared.kinds.Access.{Access}
use Rattle.p8_access.specs.declared.kinds.Access.TheVariants.{Read, Write}
use Rattle.p8_access.specs.declared.kinds.Answer.{Answer}
use Rattle.p8_access.specs.Proper.{bytes_in}
use Rattle.p8_access.specs.Courses.{Course, Finish, Stop, Ask}
use Rattle.p8_tree.specs.declared.places.Place.{Place}
pub use Rattle.p8_access.specs.Addresses.{word_in, aligned, is_readable, next_address}

-- accesses, one after the other, each with the place of the statement for which it is asked
pub data Deeds : Type 0 where
  -- what follows isn't told
  Untold : Deeds
  -- the cog halts
  HaltsFor : (statement : Place) (reason : Reason) → Deeds
  -- an access is asked, and its answer tells what follows
  AsksFor : (statement : Place) (access : Access) (go : Answer → Deeds) → Deeds

-- the accesses alone. What isn't told is the one way in which such a course finishes.
abbrev pub course_of : Deeds → Course (Unit {0})
course_of Untold = Finish tt
course_of (HaltsFor statement reason) = Stop reason
course_of (AsksFor statement access go) = Ask access (λ answer. course_of (go answer))

-- the statement for which the access is asked that comes after those with these answers
abbrev pub statement_after : Deeds → List Answer → Option Place
statement_after Untold answers = None
statement_after (HaltsFor statement reason) [] = Some statement
statement_after (HaltsFor statement reason) (answer ∷ left) = None
statement_after (AsksFor statement access go) [] = Some statement
statement_after (AsksFor statement access go) (answer ∷ left) = statement_after (go answer) left

-- the cog's own registers, which it reads by itself, and the place of the statement at hand
pub record Registers : Type 0 where
  pub outa : ℕ
  pub dira : ℕ
  pub statement : Place

-- What is still to be done, by the cog's registers and by a bound. Each pass of a loop after its first, and each call, takes one of the
-- bound. Where nothing of it is left what follows isn't told.
abbrev pub Rest : Type 0
Rest = (bound : ℕ) → Registers → Deeds

-- what is done up to a value, by what follows with that value
abbrev pub Gives : Type 0 → Type 0
Gives A = (A → Rest) → Rest

-- what isn't told: all that is after the bound, and what no accepted source asks for
abbrev pub untold : Rest
untold bound own = Untold

-- one of the bound is taken
abbrev pub costs : Rest → Rest
costs go zero own = Untold
costs go (suc bound) own = go bound own

-- a value of the cog's own registers
abbrev pub owns : (Registers → ℕ) → Gives ℕ
owns value go bound own = go (value own) bound own

abbrev pub halts : Reason → Rest
halts reason bound own = HaltsFor own.statement reason

-- ---- statements

-- the statement at this place is at hand from here on
abbrev pub for_statement : Place → Rest → Rest
for_statement place go bound own = go bound (record own { statement = place })

-- what is done up to where the statement that is at hand now is at hand again
abbrev pub comes_back : ((back : Rest → Rest) → Rest) → Rest
comes_back does bound own = does (for_statement own.statement) bound own

-- ---- accesses

abbrev pub asks : Access → Gives ℕ
asks access go bound own = AsksFor own.statement access (λ answer. go (word_in answer) bound own)

-- an access whose answer tells nothing
abbrev pub tells : Access → Rest → Rest
tells access go = asks access (λ word. go)

-- ---- hub memory

abbrev pub halts_at_rom : Width → (address : ℕ) → Rest
halts_at_rom width address = halts (Why.Rom (aligned width address))

abbrev pub asks_for : Width → (address : ℕ) → Gives ℕ
asks_for width address go = asks (Read width (aligned width address)) go

abbrev pub reads : Width → (address : ℕ) → Gives ℕ
reads width address go = if is_readable width address then asks_for width address go else halts_at_rom width address

-- a value is reduced to the width
abbrev pub writes : Width → (address value : ℕ) → Rest → Rest
writes width address value go = tells (Write width (aligned width address) (value % 256 ^ bytes_in width)) go

-- longs, one after the other
abbrev pub writes_longs : (address : ℕ) → List ℕ → Rest → Rest
writes_longs address [] go = go
writes_longs address (value ∷ values) go = writes Long address value (writes_longs (next_address Long address) values go)

-- ---- what may be missing

-- what accepted sources always have
abbrev pub given : {A : Type 0} → Option A → Gives A
given None go = untold
given (Some x) go = go x
