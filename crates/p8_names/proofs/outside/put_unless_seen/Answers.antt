use Rattle.std.proofs.Common.{map, subst}
use Rattle.std.specs.Prelude.{IsTrue, Contains, ◌↔◌}
use Rattle.p8_fold.specs.ConstantEntries.{setting_of}
use Rattle.p8_names.proofs.Putting.{on_ok, behind_is}
use Rattle.p8_names.proofs.Objects.{seen_before, seen_first}
use Rattle.p8_names.proofs.outside.put_unless_seen.Goals as goal

pub returns-then-has-clause-constants : goal.returns-then-has-clause-constants
returns-then-has-clause-constants c = λ done h.
    let is : IsTrue c.has.result ↔ Contains (map (λ d. d.0) done) c.args.owner.now = subst (λ n. IsTrue c.has.result ↔ Contains (map (λ d. d.0) done) n) c.as_slice.ensures (c.has.ensures (map (λ d. d.0) done) h.names) in
    seen_before (setting_of c.args.consts.now) c.args.seen.now done c.args.owner.now c.args.child.now h (is.0 c.if-has.true)

pub returns-else-has-clause-constants : goal.returns-else-has-clause-constants
returns-else-has-clause-constants c =
    on_ok c.put_constants.result
    (λ put done h.
    let is : IsTrue c.has.result ↔ Contains (map (λ d. d.0) done) c.args.owner.now = subst (λ n. IsTrue c.has.result ↔ Contains (map (λ d. d.0) done) n) c.as_slice.ensures (c.has.ensures (map (λ d. d.0) done) h.names) in
    seen_first (setting_of c.args.consts.now) (setting_of c.put_constants.new.consts) c.args.seen.now done c.args.owner.now c.args.child.now h (λ there. let so = is.1 there in let not_so = c.if-has.false in absurd cc) (behind_is _ _ _ c.as_slice-else-has.ensures put))
    c.put_constants.ensures
