-- What a page shows of the project of what is run (this project's profile).
use Rattle.std.specs.Prelude.{ℕ, ◌≡◌, false, List, []}
use Rattle.p8_io.specs.Shelves.{Files}
use Rattle.p8_page.specs.Page.{Block}
use Rattle.p8_inputs.specs.declared.program.Format.{Format}
use Rattle.p8_inputs.specs.declared.program.Format.TheVariants.{Source}
use Rattle.p8_inputs.specs.Sources.{AreProjectBlocks}

-- The blocks of what is run: of the project of a source, whose code isn't short; anything else has none.
abbrev pub AreBlocksFrom : Files → Format → (file : List ℕ) → List Block → Type 0
AreBlocksFrom files (Source false) file blocks = AreProjectBlocks files file blocks
AreBlocksFrom files format file blocks = blocks ≡ []
