use Rattle.std.proofs.Common.{[], ◌∷◌, ◌++◌, subst}
use Rattle.p8_constants.specs.Standing.{Holds}
use Rattle.p8_fold.specs.ConstantEntries.{setting_of}
use Rattle.p8_names.proofs.Objects.{one_object}
use Rattle.p8_names.proofs.outside.put_object.Goals as goal

pub returns-clause-objects : goal.returns-clause-objects
returns-clause-objects c = λ done h.
    one_object (setting_of c.args.consts.now) (setting_of c.put_unless_seen.new.consts) c.args.seen.now c.put.new.self done c.args.owner.now c.args.child.now h (c.in_ok-put_unless_seen.ensures.constants done h)
    (λ names k. subst (λ n. Holds c.put.new.self (names ++ n ∷ [])) c.as_slice.ensures (c.in_ok-put.ensures names k))
