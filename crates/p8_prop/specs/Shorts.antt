-- What `run --short` prints: the same of a source, whose methods have their short codes (this project's profile).
use Rattle.std.specs.Prelude.{◌≡◌, Bool, true, List, [], ◌∷◌, ℕ, codes}
use Rattle.clap.specs.Walk.{Text}
use Rattle.p8_tree.specs.Sources.{MethodTree}
use Rattle.p8_tree.specs.Statements.{Statements}
use Rattle.p8_gen.specs.Names.{Names, widened, wide_in}
use Rattle.p8_stmt.specs.declared.code.MethodCode.{MethodCode}
use Rattle.p8_stmt.specs.Jumps.{IsLeast}
use Rattle.p8_meaning.specs.Constants.{constants_in}
use Rattle.p8_meaning.specs.Folding.{folded_body}
use Rattle.p8_io.specs.Shelves.{Files}
use Rattle.p8_prop.specs.Images.{Coding, HasCode}
use Rattle.p8_prop.specs.Runs.{PrintsRun}

-- the code of a folded body, with the least set of jumps that have two bytes for their offset
pub record HasShortCode (names : Names) (m : MethodTree) (body : Statements) (code : MethodCode) : Type 0 where
  pub widths : List Bool
  pub least : IsLeast names body widths
  pub code_is : HasCode (widened names (wide_in widths)) m body code

abbrev pub Short : Coding
Short setting names m code = HasShortCode names m (folded_body (constants_in setting) m.body) code

abbrev pub PrintsShortly : Files → List Text → (text : List ℕ) → Type 0
PrintsShortly files [] text = ⊥
PrintsShortly files (word ∷ words) text = (word ≡ codes "run") × PrintsRun true Short files (word ∷ words) text
