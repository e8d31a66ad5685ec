-- What comes of the work of a command is what comes of the command.
use Rattle.std.proofs.Common.{sym, subst}
use Rattle.p8_io.specs.Shelves.{Files}
use Rattle.p8_commands.specs.Commands.{Command}
use Rattle.p8_prop.specs.declared.work.Answer.{Answer}
use Rattle.p8_prop.specs.declared.work.Answer.TheVariants.{Text, Bad}
use Rattle.p8_prop.specs.declared.work.Work.{Work}
use Rattle.p8_prop.specs.declared.work.Work.TheVariants.{Done, Run, View, Page}
use Rattle.p8_prop.specs.Works.{IsAnswerTo, IsText, IsWork}
use Rattle.p8_prop.specs.Answers.{CanBeDone, IsDone}

pub can-be-done : (files : Files) (command : Command) (work : Work) → IsWork files command work → CanBeDone work
can-be-done files command (Done answer) work = tt
can-be-done files command (Run start finish) work = work.0
can-be-done files command (View start view) work = work.0
can-be-done files command (Page start page) work = work.0

pub answer-comes : (files : Files) (command : Command) (work : Work) (answer : Answer) → IsWork files command work → IsDone work answer → IsAnswerTo files command answer
answer-comes files command (Done answer) other work is = subst (IsAnswerTo files command) (sym is) work
answer-comes files command (Run start finish) (Text text) work is = subst (IsText files command) (sym is.3) (work.1 is.0 is.1 is.2)
answer-comes files command (Run start finish) (Bad history turn cause) work is = absurd is
answer-comes files command (View start view) (Text text) work is = work.1 text.items is
answer-comes files command (View start view) (Bad history turn cause) work is = absurd is
answer-comes files command (Page start page) (Text text) work is = work.1.2 text.items (is work.1.0 work.1.1)
answer-comes files command (Page start page) (Bad history turn cause) work is = absurd is
