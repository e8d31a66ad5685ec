use Rattle.std.proofs.Common.{◌∙◌, ◌<◌, arith}
use Rattle.p8_desk_runs.proofs.Spreading.{all-owned, kept-there, all-back}
use Rattle.p8_desk_runs.proofs.threads.turn_in_threads.Goals as goal

pub take_all-requires-clause-there : goal.take_all-requires-clause-there
take_all-requires-clause-there g c = λ n lt. (let one = c.requires.there.each n lt in (one.0, one.1))

pub turn_all-requires : goal.turn_all-requires
turn_all-requires g c =
    let eight = c.take_all.ensures.eight in
    (c.type_bounds.sync-R, all-owned c.args.desk.now c.take_all.new.places (λ n lt. (let near : n < 8 = omega arith in let one = c.requires.there.each n near in (one.0, c.take_all.ensures.same n near ∙ one.1, one.2))))

pub put_all-requires-clause-there : goal.put_all-requires-clause-there
put_all-requires-clause-there g c = λ n lt.
    let one = c.requires.there.each n lt in
    let now = kept-there c.args.desk.now c.take_all.new.places c.turn_all.new.places n one.0 (c.take_all.ensures.same n lt ∙ one.1) c.turn_all.ensures in
    (now.0, now.1, now.3 ∙ one.3)

pub returns : goal.returns
returns g c = all-back c.args.desk.now c.args.passes.now c.take_all.new.places c.turn_all.new.places c.put_all.new.passes c.requires.there c.take_all.ensures.same c.turn_all.ensures c.put_all.ensures.same
