-- A top file has one project, where the shelf tells its files: what was gathered is what the sentence has.
use Rattle.std.proofs.Common.{◌≡◌, ◌∙◌, sym, ℕ, List, Option, Some, None}
use Rattle.p8_tree.specs.Sources.{Source}
use Rattle.p8_tree.specs.Projects.{NamedSource}
use Rattle.p8_io.specs.Shelves.{AreStartOf}
use Rattle.p8_objects.specs.Growing as growing
use Rattle.p8_objects.specs.Outcomes.{HasBytes}
use Rattle.p8_prop.specs.Sources as said
use Rattle.p8_prop.proofs.Saying.{source-from}
use Rattle.p8_prop.proofs.Gathering.{gathers, one-gathering}
use Rattle.p8_prop.proofs.OneSource.{one-reading}

-- a file is read with one text
pub one-start : (file : Option (List ℕ)) (bytes other : List ℕ) → AreStartOf file bytes → AreStartOf file other → other ≡ bytes
one-start None bytes other is also = absurd is
one-start (Some file) bytes other is also = also ∙ sym is

one-source : (bytes : List ℕ) (s other : Source) → said.IsSource bytes s → said.IsSource bytes other → s ≡ other
one-source bytes s other is also = one-reading bytes s other (source-from is) (source-from also)

module _ (files : List ℕ → Option (List ℕ)) (top : List ℕ) where
  one-text : (name bytes other : List ℕ) → HasBytes (Some files) name bytes → HasBytes (Some files) name other → bytes ≡ other
  one-text name bytes other has also = sym (one-start (files name) bytes other has.1 also.1)

  pub one-project : (all other : List NamedSource) → growing.IsProjectOf (Some files) top all → said.IsProjectOf (Some files) top other → other ≡ all
  one-project all other is also = sym (one-gathering (Some files) one-text one-source (gathers is) also)
