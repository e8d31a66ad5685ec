use Rattle.std.proofs.Common.{ap, ◌∙◌}
use Rattle.std.specs.Prelude.{map}
use Rattle.p8_tree.specs.Views.{tree_of}
use Rattle.p8_gen.specs.Expressions.{value}
use Rattle.p8_gen.specs.Files.{first_offset}
use Rattle.p8_gen.specs.Pieces.{empty}
use Rattle.p8_gen.specs.Scopes.{names_from}
use Rattle.p8_gen.specs.Uses.{use_of}
use Rattle.p8_gen.specs.Writing.{Stands}
use Rattle.p8_gen.proofs.Tabled.{names_same, kept_ops, kept_texts}
use Rattle.p8_gen.proofs.code.expr_code.Goals as goal

pub returns-clause-ops : goal.returns-clause-ops
returns-clause-ops c =
    let found = c.args.named.now.kinds in
    let place = c.args.expr.now.place in
    let e = tree_of c.args.expr.now in
    let t = c.in_ok-tables.tables in
    let stands : Stands c.value.new.out (value (names_from found c.from.result t place) e empty) = c.in_ok-value.ensures empty c.new-out.ensures in
    let names = names_same found c.args.method t place c.args.named.now.children.now c.args.labels.now c.in_ok-tables.ensures.publics c.in_ok-tables.ensures.consts
    (λ name. c.in_ok-tables.ensures.labels name ∙ ap (λ xs. first_offset xs name) c.as_slice.ensures) in
    c.from_vec.ensures ∙ kept_ops c.value.new.out (value (names_from found c.from.result t place) e empty) c.in_ok-kept.kept stands c.in_ok-kept.ensures
    ∙ ap (λ n. (value n e empty).ops) (ap (λ m. names_from found m t place) c.from.ensures ∙ names)

pub returns-clause-strings : goal.returns-clause-strings
returns-clause-strings c =
    let found = c.args.named.now.kinds in
    let place = c.args.expr.now.place in
    let e = tree_of c.args.expr.now in
    let t = c.in_ok-tables.tables in
    let stands : Stands c.value.new.out (value (names_from found c.from.result t place) e empty) = c.in_ok-value.ensures empty c.new-out.ensures in
    let names = names_same found c.args.method t place c.args.named.now.children.now c.args.labels.now c.in_ok-tables.ensures.publics c.in_ok-tables.ensures.consts
    (λ name. c.in_ok-tables.ensures.labels name ∙ ap (λ xs. first_offset xs name) c.as_slice.ensures) in
    ap (map use_of) c.from_vec-2.ensures ∙ kept_texts c.value.new.out (value (names_from found c.from.result t place) e empty) c.in_ok-kept.kept stands c.in_ok-kept.ensures
    ∙ ap (λ n. (value n e empty).texts) (ap (λ m. names_from found m t place) c.from.ensures ∙ names)
