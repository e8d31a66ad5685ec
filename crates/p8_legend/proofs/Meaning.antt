-- A statement's code does what the statement says, and has its lines.
use Rattle.std.proofs.Common.{◌≡◌, refl, subst, ℕ, ◌+◌, Bool, true, false, Option, Some, None}
use Rattle.std.specs.Prelude.{IsTrue, is_some}
use Rattle.p8_tree.specs.Nesting.{leaves_loop}
use Rattle.p8_tree.specs.Proper.{IsProperStatement}
use Rattle.p8_tree.specs.Statements.{Statement}
use Rattle.p8_tree.specs.declared.faults.Fault.{Fault}
use Rattle.p8_kinds.specs.Misuses.{MisuseInStatement}
use Rattle.p8_gen.specs.Names.{Names}
use Rattle.p8_gen.specs.Pieces.{Written}
use Rattle.p8_gen.specs.Statements.{Loop, code}
use Rattle.p8_compiled.specs.Agreeing.{Agrees, environment}
use Rattle.p8_compiled.specs.Bodies.{Inner, StatementAt}
use Rattle.p8_compiled.specs.Placing.{HasCode, HasLines, AreOps}
use Rattle.p8_compiled.specs.Standing.{Compiled}
use Rattle.p8_compiled.proofs.Statements.{code-stand, inner_of, in_loop}
use Rattle.p8_legend.specs.Lines.{places_of}
use Rattle.p8_legend.specs.Standing.{around, StandsByLines}
use Rattle.p8_legend.proofs.Lined.{statement-lines}
use Rattle.p8_legend.proofs.Asked.{added-fetched}

module _ (t : Compiled) (base : ℕ) where
  same-loop : (counted : Bool) (next quit : ℕ) → inner_of t base (Some (record { next = next; quit = quit; counted = counted })) ≡ around base (Some (record { next = next; quit = quit; counted = counted }))
  same-loop true next quit = refl
  same-loop false next quit = refl

  same-inner : (l : Option Loop) → inner_of t base l ≡ around base l
  same-inner None = refl
  same-inner (Some loop) = same-loop loop.counted loop.next loop.quit

  same-in : (l : Option Loop) → is_some l ≡ in_loop t base l
  same-in None = refl
  same-in (Some loop) = refl

  pub stands-by-lines : (n : Names) → Agrees n t → (l : Option Loop) (x : Statement) → IsProperStatement x → IsTrue (leaves_loop (is_some l) x) → ((f : Fault) → MisuseInStatement (environment n) x f → ⊥) → (w : Written) → HasCode t.memory base (code n l x w) → HasLines t.table base (code n l x w).lines → AreOps (code n l x w).ops
      → StandsByLines t base x (around base l) w (code n l x w)
  stands-by-lines n a l x is loops clean w has lines are =
      let found = (code-stand t base w.statement n a l x is (subst (λ (b : Bool). leaves_loop b x ≡ true) (same-in l) loops) clean).by w refl (record { code = has; lines = lines }) in
      let adds = statement-lines n l x w in
      record {
        means = subst (λ (inner : Inner). StatementAt t x inner (base + w.end) (base + (code n l x w).end)) (same-inner l) found.1;
        adds = adds;
        stand = added-fetched t.memory base (places_of x) w (code n l x w) found.0.code has are adds;
      }
