-- What a shelf of files answers (this project's profile). A name and a file are lists of bytes.
use Rattle.std.specs.Prelude.{ℕ, ◌≡◌, List, [], ◌∷◌, ◌++◌, Option, Some, None, Result, Ok, Err, take}
use Rattle.std.specs.declared.vec.Vec.{Vec}
use Rattle.std.specs.declared.alloc.Global.{Global}
use Rattle.p8_io.specs.declared.shelf.ShelfError.{ShelfError}
use Rattle.p8_io.specs.declared.shelf.ShelfError.TheVariants.{Missing, Failed, NoMemory}
use Rattle.p8_io.specs.Counts.{Rose}

-- the files of a shelf by name, where it tells them
abbrev pub Files : Type 0
Files = Option (List ℕ → Option (List ℕ))

-- the names that were read so far, in order and each as often as it was read, where the shelf tells them
abbrev pub Log : Type 0
Log = Option (List (List ℕ))

-- the log with a name more
abbrev pub logged : Log → List ℕ → Log
logged None name = None
logged (Some past) name = Some (past ++ name ∷ [])

-- between two logs exactly these names were read, in this order; a shelf may tell none from some read on
abbrev pub WereRead : Log → Log → List (List ℕ) → Type 0
WereRead before None names = Unit {0}
WereRead before (Some now) names = (past : List (List ℕ)) × (before ≡ Some past) × (now ≡ past ++ names)

-- how many bytes of a file are read: one more than the 1,048,576 that any file of the project may have
unfoldable pub read_limit : ℕ
read_limit = 1048577

-- these are the first bytes of that file, or all of a shorter one
abbrev pub AreStartOf : Option (List ℕ) → List ℕ → Type 0
AreStartOf None bytes = ⊥
AreStartOf (Some file) bytes = bytes ≡ take read_limit file

-- where the shelf tells its files, these bytes are the start of the one of that name
abbrev pub IsRead : Files → List ℕ → List ℕ → Type 0
IsRead None name bytes = Unit {0}
IsRead (Some files) name bytes = AreStartOf (files name) bytes

-- the shelf has no file of that name; where it doesn't tell, the count rose
abbrev pub IsLacking : ℕ → ℕ → Files → List ℕ → Type 0
IsLacking before now None name = Rose before now
IsLacking before now (Some files) name = files name ≡ None

-- each answer of a read with its cause, between the counts before it and now; `NoMemory` is free.
-- Where the shelf tells its files and lacks the name, `Ok` is impossible.
abbrev pub Reads : ℕ → ℕ → Files → List ℕ → Result (Vec ℕ Global) ShelfError → Type 0
Reads before now files name (Ok bytes) = IsRead files name bytes.items
Reads before now files name (Err Missing) = IsLacking before now files name
Reads before now files name (Err Failed) = Rose before now
Reads before now files name (Err NoMemory) = Unit {0}
