use Rattle.std.proofs.Common.{◌≡◌, ◌∙◌, ap, subst, ℕ, ◌+◌, ◌*◌, List, [], ◌∷◌, ◌++◌, Some, slice_get, length, length-append, arith}
use Rattle.p8_cog.specs.declared.cog_life.CogLife.{CogLife}
use Rattle.p8_cog.specs.WholeLives.{cog_of}
use Rattle.p8_machine.proofs.Rows.{own-push}
use Rattle.p8_machine.proofs.seats.empty_seats.Goals as goal

pub loop-cog-preserved : goal.loop-cog-preserved
loop-cog-preserved c =
    let items : c.push.new.self.items ≡ c.loop-cog.lives.items ++ c.in_ok-new.field-0 ∷ [] = c.in-Ok.ensures.items in
    record {
      length = ap length items ∙ (let e : length (c.loop-cog.lives.items ++ c.in_ok-new.field-0 ∷ []) ≡ length c.loop-cog.lives.items + 1 = length-append _ _ in omega (arith, c.loop-cog.invariant.length));
      left =
          (let taken : c.stack_in-stack.new.region + 16384 ≡ c.loop-cog.region = c.stack_in-stack.ensures.left in
          let before : c.loop-cog.region + 16384 * c.loop-cog.cog ≡ c.args.region.now = c.loop-cog.invariant.left in
          omega arith);
      own = λ n life at.
          let there : slice_get (c.loop-cog.lives.items ++ c.in_ok-new.field-0 ∷ []) n ≡ Some life = subst (λ (lives : List CogLife). slice_get lives n ≡ Some life) items at in
          let before : (m : ℕ) (s : CogLife) → slice_get c.loop-cog.lives.items m ≡ Some s → cog_of s ≡ 0 + m = λ m s e. (let own : cog_of s ≡ m = c.loop-cog.invariant.own m s e in omega arith) in
          let last : cog_of c.in_ok-new.field-0 ≡ 0 + length c.loop-cog.lives.items = (let own : cog_of c.in_ok-new.field-0 ≡ c.loop-cog.cog = c.in_ok-new.ensures.cog in omega (arith, c.loop-cog.invariant.length)) in
          (let e : cog_of life ≡ 0 + n = own-push c.loop-cog.lives.items c.in_ok-new.field-0 0 before last n life there in omega arith);
    }
