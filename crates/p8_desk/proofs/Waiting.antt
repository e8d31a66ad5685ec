-- A pass over tries that make no turn.
use Rattle.std.proofs.Common.{◌≡◌, inl, inr, ◌∙◌, ap, sym, subst, refl, ℕ, [], ◌∷◌, ◌++◌, arith}
use Rattle.p8_access.specs.declared.order.Turn.{Turn}
use Rattle.p8_access.specs.declared.lives.Next.{Next}
use Rattle.p8_access.specs.Worlds.{World}
use Rattle.p8_ledger.specs.declared.steps.Step.TheVariants.{Said}
use Rattle.p8_ledger.specs.Records.{Record, turns, mine, Begins}
use Rattle.p8_desk.specs.declared.turned.Turned.{Turned}
use Rattle.p8_desk.specs.declared.turned.Turned.TheVariants.{Done, Held, After, Ahead, Over}
use Rattle.p8_desk.specs.Passes.{PassSteps}
use Rattle.p8_desk.specs.Tries.{Speaks, Got, Tried, Waited, seen_by}
use Rattle.p8_desk.proofs.Lookups.{test-same}

assoc : (xs ys zs : Record) → (xs ++ ys) ++ zs ≡ xs ++ (ys ++ zs)
assoc [] ys zs = refl
assoc (x ∷ xs) ys zs = ap (λ (l : Record). x ∷ l) (assoc xs ys zs)

begins-on : (a b c : Record) → Begins a b → Begins b c → Begins a c
begins-on a b c x y = (y.0 ++ x.0, assoc y.0 x.0 a ∙ ap (λ (l : Record). y.0 ++ l) x.1 ∙ y.1)

waited-both : (a b c : PassSteps) → Waited a b → Waited b c → Waited a c
waited-both a b c x y = record {
  own = begins-on a.own b.own c.own x.own y.own;
  seen = begins-on a.seen b.seen c.seen x.seen y.seen;
  turns_kept = y.turns_kept ∙ x.turns_kept;
  won = omega (arith, x.won, y.won);
}

-- a record after what a cog has said, if anything, and the cog's own steps of it
record Spoke (n : ℕ) (r s : Record) : Type 0 where
  pub own : Begins (mine n r) (mine n s)
  pub all : Begins r s
  pub turns_kept : turns (mine n s) ≡ turns (mine n r)

spoke : (w : World) (n : ℕ) (next : Next) (r s : Record) → Speaks w n next r s → Spoke n r s
spoke w n next r s (inr x) = subst (Spoke n r) (sym x.0) (record { own = ([], refl); all = ([], refl); turns_kept = refl })
spoke w n next r s (inl x) = subst (Spoke n r) (sym x.0) (record {
  own = (Said n next ∷ [], sym here);
  all = (Said n next ∷ [], refl);
  turns_kept = ap turns here;
})
  where
    here : mine n (Said n next ∷ r) ≡ Said n next ∷ mine n r
    here = rw (test-same n n refl) refl

waited-got : (w : World) (n : ℕ) (b c : PassSteps) (answer : Turned) (g : Got w n b c answer) → seen_by answer g.s ≡ g.s → Waited b c
waited-got w n b c answer g still =
    let k = spoke w n g.next g.r g.s g.speaks in
    let seen : c.seen ≡ g.s = g.seen ∙ still in
    let own : c.own ≡ mine n g.s = g.mine ∙ ap (mine n) seen in
    let on : Waited b (record { own = mine n g.s; seen = g.s; won = c.won; found = c.found }) = record {
      own = subst (λ (l : Record). Begins l (mine n g.s)) g.own k.own;
      seen = begins-on b.seen g.r g.s g.began k.all;
      turns_kept = k.turns_kept ∙ ap turns g.own;
      won = omega (arith, g.won);
    } in
    subst (λ (y : Record × Record). Waited b (record { own = y.0; seen = y.1; won = c.won; found = c.found })) (λ i. (sym own i, sym seen i)) on

pub waited-on : (w : World) (n : ℕ) (a b c : PassSteps) (answer : Turned) → Waited a b → Tried w n b c answer → ((turn : Turn) → answer ≡ Done turn → ⊥) → (answer ≡ Over → ⊥) → Waited a c
waited-on w n a b c (Held by) was t not_done not_over = subst (Waited a) (sym t.0) (record { own = was.own; seen = was.seen; turns_kept = was.turns_kept; won = was.won })
waited-on w n a b c (After other bound) was t not_done not_over = waited-both a b c was (waited-got w n b c (After other bound) t refl)
waited-on w n a b c (Ahead bound) was t not_done not_over = waited-both a b c was (waited-got w n b c (Ahead bound) t refl)
waited-on w n a b c (Done turn) was t not_done not_over = absurd (not_done turn refl)
waited-on w n a b c Over was t not_done not_over = absurd (not_over refl)
