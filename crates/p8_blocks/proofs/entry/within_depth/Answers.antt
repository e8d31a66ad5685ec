use Rattle.p8_lines.specs.Tokens.{LineToken, left, word}
use Rattle.p8_blocks.specs.Reading.{at, method, is_begun, Enters, from, Fails}
use Rattle.std.proofs.Common.{◌≡◌, ◌∷◌, sym, subst}
use Rattle.p8_blocks.specs.Standing.{TellsTooDeep}
use Rattle.p8_tree.proofs.Failing.{refused_so}
use Rattle.p8_blocks.proofs.Entering.{granted, denied, fails_as, loop_fails, deep_fails}
use Rattle.p8_blocks.proofs.entry.within_depth.Goals as goal

pub returns-then-has_no_loop-clause-refused : goal.returns-then-has_no_loop-clause-refused
returns-then-has_no_loop-clause-refused c = λ b m ls ps s h f.
    let e : (t : LineToken) → word t ≡ c.args.first.word → t.place ≡ c.args.first.place → Enters ls (is_begun b) t (from c.args.state) = λ t w p. subst (λ x. Enters ls x t (from c.args.state)) (sym s.is.same_begun) (f t w p) in
    fails_as c.at.ensures (loop_fails s m ls ps c.args.state (e s.token s.is.same_word s.is.same_place) (granted c.if-has_no_loop.true (c.has_no_loop.ensures ls s.token h s.is.same_word s.is.same_place)))

pub returns-then-is_too_deep-clause-refused : goal.returns-then-is_too_deep-clause-refused
returns-then-is_too_deep-clause-refused c = λ b m ls ps s h i.
    let e : (t : LineToken) → word t ≡ c.args.first.word → t.place ≡ c.args.first.place → Enters ls (is_begun b) t (from c.args.state) = λ t w p. subst (λ x. Enters ls x t (from c.args.state)) (sym s.is.same_begun) (i t w p) in
    let ts = left c.args.here.now in
    let q = c.args.state in
    let w = s.is.same_word in
    let p = s.is.same_place in
    refused_so (λ f. TellsTooDeep q ts c.args.first.place c.args.first.begin f.number f.place) (λ f. Fails (at (method m ls ∷ ps) b) ts f.number f.place)
    (λ f. deep_fails s m ls ps q f.number f.place (e s.token w p) (denied c.if-has_no_loop.false (c.has_no_loop.ensures ls s.token h w p)) (granted c.if-is_too_deep.true (c.is_too_deep.ensures ls s.token h w p)))
    c.too_deep.result c.too_deep.ensures

pub returns-else-is_too_deep-clause-read : goal.returns-else-is_too_deep-clause-read
returns-else-is_too_deep-clause-read c = λ ls t h w p e. record {
  enters = e;
  loops = denied c.if-has_no_loop.false (c.has_no_loop.ensures ls t h w p);
  shallow = denied c.if-is_too_deep.false (c.is_too_deep.ensures ls t h w p);
}
