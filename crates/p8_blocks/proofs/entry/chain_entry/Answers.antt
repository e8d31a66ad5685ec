use Rattle.std.proofs.Common.{subst}
use Rattle.p8_columns.specs.Columns.{last_up_to, HasChain}
use Rattle.p8_blocks.proofs.Entering.{chain_begun, chain_ended, chain_missing, barred_as}
use Rattle.p8_blocks.proofs.entry.chain_entry.Goals as goal

pub returns-in-Begun-clause-enters : goal.returns-in-Begun-clause-enters
returns-in-Begun-clause-enters c = λ ls t h w p.
    let n = c.args.first.place.column in
    chain_begun ls c.args.first.begun t c.args.first.word c.args.first.place w p c.requires (subst (λ x. HasChain x n (last_up_to n ls)) c.in-Begun.is (c.chain.ensures ls h))

pub returns-in-Ended-clause-enters : goal.returns-in-Ended-clause-enters
returns-in-Ended-clause-enters c = λ ls t h w p.
    let n = c.args.first.place.column in
    barred_as ls c.args.first.begun t _ _ c.refusal_of_word.ensures (chain_ended ls c.args.first.begun t c.args.first.word c.args.first.place w p c.requires (subst (λ x. HasChain x n (last_up_to n ls)) c.in-Ended.is (c.chain.ensures ls h)))

pub returns-in-Missing-clause-enters : goal.returns-in-Missing-clause-enters
returns-in-Missing-clause-enters c = λ ls t h w p.
    let n = c.args.first.place.column in
    chain_missing ls c.args.first.begun t c.args.first.word c.args.first.place w p c.requires (subst (λ x. HasChain x n (last_up_to n ls)) c.in-Missing.is (c.chain.ensures ls h))
