-- Gathering comes to a project exactly where that is the project of the top file.
use Rattle.std.proofs.Common.{ℕ, List, [], ◌∷◌, ◌++◌, refl, sym, subst}
use Rattle.p8_tree.specs.Sources.{Source}
use Rattle.p8_tree.specs.Projects.{NamedSource}
use Rattle.p8_io.specs.Shelves.{Files}
use Rattle.p8_objects.specs.Sources.{IsSource}
use Rattle.p8_objects.specs.Projects as projects
use Rattle.p8_objects.specs.Projects.{Calls, read}
use Rattle.p8_objects.specs.Outcomes as outcomes
use Rattle.p8_objects.specs.Outcomes.{Shelved, shelved, ComesTo, Gathers, HasBytes, named, project}
use Rattle.p8_objects.specs.Growing as growing
use Rattle.p8_objects.specs.Growing.{GrowsTo, IsProjectOf}
use Rattle.p8_objects.proofs.Wholes.{nothing_open}

-- the file that is read next is one more
read_next : {shelf : Files} {top name : List ℕ} {files all : List NamedSource} → Calls top files (read name) → (bytes : List ℕ) (s : Source)
    → HasBytes shelf name bytes → IsSource bytes s → GrowsTo shelf top (files ++ named name s ∷ []) all → GrowsTo shelf top files all
read_next {shelf = shelf} {top = top} {all = all} (projects.first_file none) bytes s has is rest =
    subst (λ (fs : List NamedSource). GrowsTo shelf top fs all) (sym none)
    (growing.first_file bytes s has is (subst (λ (fs : List NamedSource). GrowsTo shelf top (fs ++ named top s ∷ []) all) none rest))
read_next (projects.new_file f x next new room) bytes s has is rest = growing.new_file f x bytes s next new room has is rest

grows : {shelf : Shelved} {top : List ℕ} {files all : List NamedSource} → ComesTo shelf top files (project all) → GrowsTo shelf.files top files all
grows (outcomes.one_more name bytes s calls has is rest) = read_next calls bytes s has is (grows rest)
grows (outcomes.whole calls) = let ends = nothing_open calls in growing.whole ends.0 ends.1

comes : (shelf : Shelved) {top : List ℕ} {files all : List NamedSource} → GrowsTo shelf.files top files all → ComesTo shelf top files (project all)
comes shelf {top = top} (growing.first_file bytes s has is rest) = outcomes.one_more top bytes s (projects.first_file refl) has is (comes shelf rest)
comes shelf (growing.new_file f x bytes s next new room has is rest) =
    outcomes.one_more x.file bytes s (projects.new_file f x next new room) has is (comes shelf rest)
comes shelf (growing.whole some none) = outcomes.whole (projects.whole some none)

pub project-grows : (shelf : Shelved) (top : List ℕ) (files : List NamedSource) → Gathers shelf top (project files) → IsProjectOf shelf.files top files
project-grows shelf top files from = grows from

pub project-gathers : (shelf : Shelved) (top : List ℕ) (files : List NamedSource) → IsProjectOf shelf.files top files → Gathers shelf top (project files)
project-gathers shelf top files is = comes shelf is

-- whatever faults the shelf counts
pub gathers : {files : Files} {top : List ℕ} {sources : List NamedSource} → IsProjectOf files top sources → (before now : ℕ)
    → Gathers (shelved files before now) top (project sources)
gathers {files = files} is before now = comes (shelved files before now) is
