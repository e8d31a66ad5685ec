use Rattle.std.proofs.Common.{◌∷◌, ap, ◌∙◌}
use Rattle.p8_declarations.specs.Parts.{hash}
use Rattle.p8_declarations.specs.Constants.{constants}
use Rattle.p8_declarations.proofs.declaration_pieces.DeclarationPieces.setting.Goals as goal

pub returns-clause-items : goal.returns-clause-items
returns-clause-items c = ap (λ row. constants (hash c.args.place ∷ row)) c.in_ok-value.ensures ∙ c.before-2.ensures.items
