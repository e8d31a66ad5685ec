use Rattle.std.proofs.Common.{◌∙◌, ℕ, ◌<◌, sym, subst, arith}
use Rattle.p8_desk.specs.PassSets.{IsOut}
use Rattle.p8_desk_runs.proofs.Returning.{is-out, owned-here, cog-here, back-again}
use Rattle.p8_desk_runs.proofs.rows.makes_each_turn.Goals as goal

near : 0 < 8
near = omega arith

pub take-pass-requires : goal.take-pass-requires
take-pass-requires c = let p = c.requires.each 0 near in (near, p.0, p.1)

pub writes-all-requires : goal.writes-all-requires
writes-all-requires c = owned-here c.args.desk.now c.args.passes.now 0 c.take-pass.result c.requires near c.take-pass.ensures.taken

pub put-requires : goal.put-requires
put-requires c =
    let cog = c.writes-all.ensures.cog ∙ cog-here c.args.desk.now c.args.passes.now 0 c.take-pass.result c.requires near c.take-pass.ensures.taken in
    subst (λ (n : ℕ). IsOut n c.take-pass.new.passes) (sym cog) (is-out c.args.passes.now c.take-pass.new.passes 0 c.take-pass.result c.take-pass.ensures.taken c.take-pass.ensures.left)

pub returns : goal.returns
returns c =
    let cog = c.writes-all.ensures.cog ∙ cog-here c.args.desk.now c.args.passes.now 0 c.take-pass.result c.requires near c.take-pass.ensures.taken in
    back-again c.args.desk.now c.args.passes.now c.take-pass.new.passes c.put.new.passes 0 c.writes-all.new.pass c.requires near c.take-pass.ensures.left c.writes-all.ensures.owns cog c.put.ensures
