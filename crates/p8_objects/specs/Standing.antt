-- What is known of the files so far while a project is gathered: which of them are finished, that is, gathered with all
-- that they mention.
use Rattle.std.specs.Prelude.{◌≡◌, ℕ, ◌<◌, ◌≤◌, Bool, true, false, List, ◌∷◌, length, nat_eq}
use Rattle.std.specs.List.{list_any}
use Rattle.p8_tree.specs.Sources.{Child}
use Rattle.p8_tree.specs.Projects.{NamedSource}
use Rattle.p8_objects.specs.Lists.{IsAt}
use Rattle.p8_objects.specs.Sources.{mentions}
use Rattle.p8_objects.specs.Projects.{Leads}

-- whether the file of this number is among the finished ones
abbrev pub is_done : List ℕ → ℕ → Bool
is_done done i = list_any (λ j. nat_eq j i) done

-- a finished file has this name
pub record IsFinished (files : List NamedSource) (done : List ℕ) (name : List ℕ) : Type 0 where
  pub number : ℕ
  pub file : NamedSource
  pub stands : IsAt files number file
  pub named : file.name ≡ name
  pub finished : is_done done number ≡ true

-- the first of some mentions whose file isn't finished
pub data IsFirstLeft (files : List NamedSource) (done : List ℕ) : List Child → Child → Type 0 where
  here : {x : Child} {xs : List Child} → ¬ IsFinished files done x.file → IsFirstLeft files done (x ∷ xs) x
  later : {x y : Child} {xs : List Child} → IsFinished files done y.file → IsFirstLeft files done xs x → IsFirstLeft files done (y ∷ xs) x

-- the files of all of these mentions are finished
pub record AreFinished (files : List NamedSource) (done : List ℕ) (xs : List Child) : Type 0 where
  pub each : (k : ℕ) (x : Child) → IsAt xs k x → IsFinished files done x.file

pub record Stands (files : List NamedSource) (done : List ℕ) : Type 0 where
  pub within : (i : ℕ) → is_done done i ≡ true → i < length files
  pub distinct : (i j : ℕ) (f g : NamedSource) → IsAt files i f → IsAt files j g → f.name ≡ g.name → i ≡ j
  -- a finished file mentions only finished ones, and none that leads back to it
  pub finished : (i k : ℕ) (f : NamedSource) (x : Child) → IsAt files i f → is_done done i ≡ true → IsAt (mentions f.tree) k x → IsFinished files done x.file
  pub no_ring : (i k : ℕ) (f : NamedSource) (x : Child) → IsAt files i f → is_done done i ≡ true → IsAt (mentions f.tree) k x → ¬ Leads files x.file f.name
  -- those that are being gathered lead one to the next
  pub chain : (i j : ℕ) (f g : NamedSource) → i ≤ j → IsAt files i f → IsAt files j g → is_done done i ≡ false → is_done done j ≡ false →
      Leads files f.name g.name

-- all files from this number on are finished
pub record DoneFrom (files : List NamedSource) (done : List ℕ) (at : ℕ) : Type 0 where
  pub each : (i : ℕ) → at ≤ i → i < length files → is_done done i ≡ true

-- each file that is being gathered leads to this name
pub record AllLeadTo (files : List NamedSource) (done : List ℕ) (name : List ℕ) : Type 0 where
  pub each : (i : ℕ) (f : NamedSource) → IsAt files i f → is_done done i ≡ false → Leads files f.name name
