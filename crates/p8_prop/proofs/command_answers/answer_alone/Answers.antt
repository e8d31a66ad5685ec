use Rattle.p8_commands.specs.Seen.{command_read}
use Rattle.p8_prop.proofs.Doing.{can-be-done, answer-comes}
use Rattle.p8_prop.proofs.command_answers.answer_alone.Goals as goal

pub done_alone-requires : goal.done_alone-requires
done_alone-requires g c =
    can-be-done (g.S.Shelf.files c.args.shelf.now) (command_read c.args.command) c.in_ok-work.work c.in_ok-work.ensures.work

pub returns-clause-answer : goal.returns-clause-answer
returns-clause-answer g c =
    answer-comes (g.S.Shelf.files c.args.shelf.now) (command_read c.args.command) c.in_ok-work.work c.in_ok-answer.answer c.in_ok-work.ensures.work c.in_ok-answer.ensures
