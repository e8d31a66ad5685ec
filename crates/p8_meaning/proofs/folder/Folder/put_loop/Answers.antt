use Rattle.p8_tree.specs.Views.{statements_of}
use Rattle.p8_meaning.proofs.Bodies.{loop-put, done-as}
use Rattle.p8_meaning.proofs.folder.Folder.put_loop.Goals as goal

pub returns-in-Some : goal.returns-in-Some
returns-in-Some c =
    done-as c.push.result (statements_of c.push.new.out.items) _ _
    (loop-put (statements_of c.args.out.now.items) c.args.place c.in_ok-course.field-0 c.in-Some.course c.args.body _ c.in_ok-course.ensures c.in-Some.is) c.push.ensures
