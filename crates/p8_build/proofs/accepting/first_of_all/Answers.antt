use Rattle.std.proofs.Common.{◌≡◌, ℕ, length, map, subst, arith}
use Rattle.p8_tree.specs.Views.{named_source_of}
use Rattle.p8_build.specs.Phases.{IsFirstBelow}
use Rattle.p8_build.proofs.accepting.first_of_all.Goals as goal

pub returns : goal.returns
returns c =
    let all : c.loop-index.index ≡ length c.args.files.now = omega (arith, c.requires.known) in
    subst (λ (n : ℕ). IsFirstBelow (map named_source_of c.args.files.now) c.args.children.now n c.loop-index.first) all c.loop-index.invariant
