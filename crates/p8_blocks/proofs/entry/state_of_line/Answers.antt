use Rattle.std.proofs.Common.{◌≡◌, sym, subst}
use Rattle.std.specs.Prelude.{IsTrue}
use Rattle.std.proofs.lemmas.Result.{IfOk-weaker}
use Rattle.p8_blocks.specs.Values.{begins_line}
use Rattle.p8_blocks.specs.Reading.{Enters, barred}
use Rattle.p8_blocks.specs.Standing.{begins_entry, entry_of}
use Rattle.p8_tree.specs.Refusals.{refusal_number}
use Rattle.p8_blocks.proofs.Entering.{barred_fails, fails_as}
use Rattle.p8_blocks.proofs.entry.state_of_line.Goals as goal

pub within_depth-requires-clause-begins : goal.within_depth-requires-clause-begins
within_depth-requires-clause-begins c = subst (λ x. IsTrue (begins_entry (entry_of x))) c.in-From.is c.entry_at.ensures.begins

pub returns-in-From-clause-begins : goal.returns-in-From-clause-begins
returns-in-From-clause-begins c =
    let q = c.in-From.state in
    IfOk-weaker c.within_depth.result (λ x. x ≡ q) (λ x. IsTrue (begins_line x)) (λ x e. subst (λ x. IsTrue (begins_line x)) (sym e) (subst (λ x. IsTrue (begins_entry (entry_of x))) c.in-From.is c.entry_at.ensures.begins)) c.within_depth.ensures.same

pub returns-in-From-clause-read : goal.returns-in-From-clause-read
returns-in-From-clause-read c = λ ls t h w p. c.within_depth.ensures.read ls t h w p (subst (λ x. Enters ls c.args.first.begun t (entry_of x)) c.in-From.is (c.entry_at.ensures.enters ls t h w p))

pub returns-in-From-clause-refused : goal.returns-in-From-clause-refused
returns-in-From-clause-refused c = λ b m ls ps s h. c.within_depth.ensures.refused b m ls ps s h (λ t w p. subst (λ x. Enters ls c.args.first.begun t (entry_of x)) c.in-From.is (c.entry_at.ensures.enters ls t h w p))

pub returns-in-Barred-clause-refused : goal.returns-in-Barred-clause-refused
returns-in-Barred-clause-refused c = λ b m ls ps s h. fails_as c.at.ensures (barred_fails s m ls ps (refusal_number c.in-Barred.refusal) (subst (λ x. Enters ls x s.token (barred (refusal_number c.in-Barred.refusal))) (sym s.is.same_begun) (subst (λ x. Enters ls c.args.first.begun s.token (entry_of x)) c.in-Barred.is (c.entry_at.ensures.enters ls s.token h s.is.same_word s.is.same_place))))
