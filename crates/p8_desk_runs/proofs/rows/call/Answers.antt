use Rattle.std.proofs.Common.{◌∙◌, ℕ, sym, subst}
use Rattle.p8_desk.specs.PassSets.{IsOut}
use Rattle.p8_desk_runs.proofs.Returning.{is-out, owned-here, cog-here, back-again}
use Rattle.p8_desk_runs.proofs.rows.call.Goals as goal

pub take-pass-requires : goal.take-pass-requires
take-pass-requires c = let p = c.requires.there.each c.args.cog c.requires.near in (c.requires.near, p.0, p.1)

pub try_turn-answer-requires : goal.try_turn-answer-requires
try_turn-answer-requires c = owned-here c.args.desk.now c.args.passes.now c.args.cog c.take-pass.result c.requires.there c.requires.near c.take-pass.ensures.taken

pub put-requires : goal.put-requires
put-requires c =
    let cog = c.try_turn-answer.ensures.cog ∙ cog-here c.args.desk.now c.args.passes.now c.args.cog c.take-pass.result c.requires.there c.requires.near c.take-pass.ensures.taken in
    subst (λ (n : ℕ). IsOut n c.take-pass.new.passes) (sym cog) (is-out c.args.passes.now c.take-pass.new.passes c.args.cog c.take-pass.result c.take-pass.ensures.taken c.take-pass.ensures.left)

pub returns : goal.returns
returns c =
    let cog = c.try_turn-answer.ensures.cog ∙ cog-here c.args.desk.now c.args.passes.now c.args.cog c.take-pass.result c.requires.there c.requires.near c.take-pass.ensures.taken in
    back-again c.args.desk.now c.args.passes.now c.take-pass.new.passes c.put.new.passes c.args.cog c.try_turn-answer.new.pass c.requires.there c.requires.near c.take-pass.ensures.left c.try_turn-answer.ensures.owns cog c.put.ensures
