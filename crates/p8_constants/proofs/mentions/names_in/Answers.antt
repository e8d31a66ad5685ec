use Rattle.std.proofs.Common.{◌≡◌, ◌↔◌, sym, subst, arith}
use Rattle.std.specs.Prelude.{Contains}
use Rattle.std.proofs.lemmas.Grind.{common_steps}
use Rattle.p8_tree.specs.Views.{tree_of}
use Rattle.p8_constants.specs.Mentions.{Mentions, mentioned}
use Rattle.p8_constants.proofs.Standing.{standing}
use Rattle.p8_constants.proofs.mentions.names_in.Goals as goal

pub returns-clause-each : goal.returns-clause-each
returns-clause-each c =
    let e = tree_of c.args.expr.now in
    let all : c.in_expr.new.names ≡ mentioned e = grind (arith, common_steps) in
    λ n. subst (λ names. Contains names n ↔ Mentions e n) (sym all) (standing e n)
