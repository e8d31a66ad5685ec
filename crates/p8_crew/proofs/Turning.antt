-- The turns that a pass makes by calls of `Desk::turn`.
use Rattle.std.proofs.Common.{◌≡◌, inl, inr, ◌∙◌, ap, subst, refl, ℕ, true, List, ◌∷◌, ◌++◌}
use Rattle.p8_access.specs.declared.lives.Next.{Next}
use Rattle.p8_access.specs.declared.order.Turn.{Turn}
use Rattle.p8_access.specs.Worlds.{World}
use Rattle.p8_ledger.specs.declared.steps.Step.TheVariants.{Took, Said}
use Rattle.p8_ledger.specs.Records.{Record, turns, mine}
use Rattle.p8_desk.specs.declared.turned.Turned.TheVariants.{Done, Over}
use Rattle.p8_desk.specs.Passes.{PassSteps, PassValue}
use Rattle.p8_desk.specs.Tries.{Speaks, Got}
use Rattle.p8_desk.proofs.Lookups.{test-same}
use Rattle.p8_crew.specs.Jobs.{Calls, Makes, RanOut}

module _ (w : World) (n : ℕ) where
  -- a saying is no turn
  as-said : (next : Next) (r s : Record) → Speaks w n next r s → turns (mine n s) ≡ turns (mine n r)
  as-said next r s (inr x) = ap (λ (l : Record). turns (mine n l)) x.0
  as-said next r s (inl x) = ap (λ (l : Record). turns (mine n l)) x.0 ∙ ap turns here
    where
      here : mine n (Said n next ∷ r) ≡ Said n next ∷ mine n r
      here = rw (test-same n n refl) refl

  one-turn : (b c : PassSteps) (turn : Turn) → Got w n b c (Done turn) → turns c.own ≡ turn ∷ turns b.own
  one-turn b c turn g =
      ap turns (g.mine ∙ ap (mine n) g.seen ∙ here) ∙ ap (λ (l : List Turn). turn ∷ l) (as-said g.next g.r g.s g.speaks ∙ ap turns g.own)
    where
      here : mine n (Took turn ∷ g.s) ≡ Took turn ∷ mine n g.s
      here = rw (test-same turn.key.cog n g.answers.1) refl

  no-turn : (b c : PassSteps) → Got w n b c Over → turns c.own ≡ turns b.own
  no-turn b c g = ap turns (g.mine ∙ ap (mine n) g.seen) ∙ as-said g.next g.r g.s g.speaks ∙ ap turns g.own

  all-turns : (given after : PassSteps) (made : List Turn) → Makes w n given made after → turns after.own ≡ made ++ turns given.own
  all-turns given after made Makes.no_turn = refl
  all-turns given after (turn ∷ made) (Makes.one_more {before = before} turn' after' makes call) =
      one-turn call.0 after turn call.2 ∙ ap (λ (l : List Turn). turn ∷ l) (call.1.turns_kept ∙ all-turns given before made makes)

-- one more call, by a pass whose cog is still the same
pub one-more-call : (w : World) (n here : ℕ) (given before after : PassSteps) (turn : Turn) → here ≡ n → (made : List Turn) × Makes w n given made before → Calls w here before after (Done turn) → (made : List Turn) × Makes w n given made after
one-more-call w n here given before after turn same makes call =
    (turn ∷ makes.0, Makes.one_more turn after makes.1 (subst (λ (m : ℕ). Calls w m before after (Done turn)) same call))

pub ran-out : (w : World) (given back : PassValue) (here : ℕ) (before : PassSteps) → here ≡ given.cog → back.over ≡ true → (made : List Turn) × Makes w given.cog given.steps made before → Calls w here before back.steps Over → RanOut w given back
ran-out w given back here before same over makes call = record {
  over = over;
  made = makes.0;
  before = before;
  makes = makes.1;
  ends = ends;
  own = no-turn w given.cog ends.0 back.steps ends.2 ∙ ends.1.turns_kept ∙ all-turns w given.cog given.steps before makes.0 makes.1;
}
  where
    ends : Calls w given.cog before back.steps Over
    ends = subst (λ (m : ℕ). Calls w m before back.steps Over) same call
