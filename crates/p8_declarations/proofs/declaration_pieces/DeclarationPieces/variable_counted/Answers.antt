use Rattle.std.proofs.Common.{◌∷◌, ap, sym, ◌∙◌}
use Rattle.p8_declarations.specs.Parts.{left_bracket, with_first}
use Rattle.p8_declarations.specs.Variables.{variables_named, variables_behind}
use Rattle.p8_declarations.specs.Views.{parts_in}
use Rattle.p8_declarations.proofs.declaration_pieces.DeclarationPieces.variable_counted.Goals as goal

pub returns-clause-items : goal.returns-clause-items
returns-clause-items c =
    ap (λ row. variables_named c.args.size c.args.name c.args.place (left_bracket ∷ row)) c.in_ok-count.ensures
    ∙ ap (λ x. with_first x (variables_behind c.args.size (parts_in c.count.new.self))) (sym c.named.ensures)
    ∙ c.before_variables.ensures.items
