-- Items of data, read a part at a time.
use Rattle.std.proofs.Common.{◌≡◌, ◌≢◌, [], ◌∷◌, List, Option, Some, None, refl, sym, ◌∙◌}
use Rattle.std.specs.Prelude.{option_map, MatchOption}
use Rattle.p8_tree.specs.Sources.{Datum}
use Rattle.p8_declarations.specs.declared.data_part.Part as code
use Rattle.p8_declarations.specs.declared.data_pieces.DataPieces.{DataPieces}
use Rattle.p8_declarations.specs.declared.items.DataItemStage as code_stage
use Rattle.p8_declarations.specs.DataParts.{Part}
use Rattle.p8_declarations.specs.Lines.{Stage, items}
use Rattle.p8_declarations.specs.DataViews.{part_of, rest, from, stage_of, Steps}

-- a part that can't stand there
pub stops : (whole : Option (List Datum)) (read after : List Datum) (s : Stage) (x : Part) (row : List Part) → whole ≡ items read s (x ∷ row) → Steps read s x after None → None ≡ whole
stops whole read after s x row e h = sym (e ∙ h row)

-- a part from which reading goes on
pub goes_on : (whole : Option (List Datum)) (read after : List Datum) (s t : Stage) (x : Part) (row : List Part) → whole ≡ items read s (x ∷ row) → Steps read s x after (Some t) → whole ≡ items after t row
goes_on whole read after s t x row e h = e ∙ h row

-- what is left is the part that stands next and what is left after it
pub next_from : (o : Option code.Part) (old new : DataPieces) → MatchOption o (rest old ≡ []) (λ x. rest old ≡ part_of x ∷ rest new) → rest old ≡ from o new
next_from None old new h = h
next_from (Some x) old new h = h

pub no_stage : (o : Option code_stage.DataItemStage) → ((t : code_stage.DataItemStage) → o ≢ Some t) → option_map stage_of o ≡ None
no_stage None h = refl
no_stage (Some t) h = absurd (h t refl)
