use Rattle.std.proofs.Common.{◌∷◌, ap, sym, ◌∙◌}
use Rattle.p8_declarations.specs.Parts.{left_bracket, with_first}
use Rattle.p8_declarations.specs.Constants.{constants_named, constants_behind}
use Rattle.p8_declarations.specs.Views.{parts_in}
use Rattle.p8_declarations.proofs.declaration_pieces.DeclarationPieces.stepped.Goals as goal

pub returns-clause-items : goal.returns-clause-items
returns-clause-items c =
    ap (λ row. constants_named c.args.name c.args.place (left_bracket ∷ row)) c.in_ok-step.ensures
    ∙ ap (λ x. with_first x (constants_behind (parts_in c.count.new.self))) (sym c.named.ensures)
    ∙ c.before-2.ensures.items
