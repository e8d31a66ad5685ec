use Rattle.std.proofs.Common.{subst}
use Rattle.p8_columns.specs.Columns.{innermost, HasRoom}
use Rattle.p8_blocks.proofs.Entering.{statement_fits, item_fits, nothing_fits, barred_as}
use Rattle.p8_blocks.proofs.entry.room_entry.Goals as goal

pub returns-in-Statement-clause-enters : goal.returns-in-Statement-clause-enters
returns-in-Statement-clause-enters c = λ ls t h w p.
    let n = c.args.first.place.column in
    statement_fits ls c.args.first.begun t c.args.first.word c.args.first.place w p c.requires.no_chain c.requires.no_loop_end (subst (λ x. HasRoom x (innermost n ls)) c.in-Statement.is (c.room.ensures ls h))

pub returns-in-Item-clause-enters : goal.returns-in-Item-clause-enters
returns-in-Item-clause-enters c = λ ls t h w p.
    let n = c.args.first.place.column in
    item_fits ls c.args.first.begun t c.args.first.word c.args.first.place w p c.requires.no_chain c.requires.no_loop_end (subst (λ x. HasRoom x (innermost n ls)) c.in-Item.is (c.room.ensures ls h))

pub returns-in-Nothing-clause-enters : goal.returns-in-Nothing-clause-enters
returns-in-Nothing-clause-enters c = λ ls t h w p.
    let n = c.args.first.place.column in
    barred_as ls c.args.first.begun t _ _ c.refusal_of_word.ensures (nothing_fits ls c.args.first.begun t c.args.first.word c.args.first.place w p c.requires.no_chain c.requires.no_loop_end (subst (λ x. HasRoom x (innermost n ls)) c.in-Nothing.is (c.room.ensures ls h)))
