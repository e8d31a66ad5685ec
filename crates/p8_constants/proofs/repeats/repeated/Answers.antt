use Rattle.std.proofs.Common.{ℕ, [], ◌∷◌, ◌++◌, sym, subst, ap, ◌∙◌}
use Rattle.std.specs.Prelude.{IsTrue, Contains, ◌↔◌}
use Rattle.p8_tree.specs.Faults.{fault}
use Rattle.p8_fold.specs.Values.{where_so}
use Rattle.p8_tree.specs.declared.refusal.Refusal.TheVariants.{Duplicate}
use Rattle.p8_constants.specs.Repeats.{Repeats}
use Rattle.p8_constants.specs.Standing.{defined_of, IsFirstOf, Holds}
use Rattle.p8_constants.proofs.FirstFaults.{where_so_first}
use Rattle.p8_constants.proofs.repeats.repeated.Goals as goal

pub returns-clause-told : goal.returns-clause-told
returns-clause-told c = λ before s behind h.
    subst (λ told. IsFirstOf told (Repeats (before ++ behind) (defined_of c.args.defined))) (sym (c.where_so.ensures ∙ ap (where_so c.in_ok-is_in.is_in) c.at-fault.ensures))
    (where_so_first (Contains (before ++ behind) c.args.defined.name.now) c.in_ok-is_in.is_in (fault Duplicate c.args.defined.place)
    (subst (λ n. IsTrue c.in_ok-is_in.is_in ↔ Contains (before ++ behind) n) c.as_slice.ensures (c.in_ok-is_in.ensures.told before s behind h)))

pub returns-clause-taken : goal.returns-clause-taken
returns-clause-taken c = λ names h. subst (λ n. Holds c.is_in_then_put.new.own (names ++ n ∷ [])) c.as_slice.ensures (c.in_ok-is_in.ensures.taken names h)
