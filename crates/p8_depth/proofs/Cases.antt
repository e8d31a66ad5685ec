-- The code of CASE, by what it holds. The bodies of its arms stand behind its end of tests, each where its tests lead.
use Rattle.std.proofs.Common.{IsTrue, not, ◌≡◌, refl, sym, ap, subst, arith, ℕ, ◌+◌, ◌^◌, ◌<◌, ◌≤◌, max, Bool, false, inl, inr, List, [], Option, Some, None}
use Rattle.std.proofs.lemmas.List.Elements.{All-append}
use Rattle.p8_tree.specs.Expressions.{Tree, Items, no_items, ◌▸◌, single, range}
use Rattle.p8_tree.specs.Statements.{Case, Otherwise, nothing_else, otherwise, Statements, Arms, no_arms, ◌⊳◌, arm}
use Rattle.p8_tree.specs.Proper.{is_no_item, IsProperExpression, AreProperTests, AreProperChoices}
use Rattle.p8_tree.specs.declared.faults.Fault.{Fault}
use Rattle.p8_kinds.specs.Environments.{Environment}
use Rattle.p8_kinds.specs.Misuses.{MisuseInOption, MisuseInItems, MisuseInArms}
use Rattle.p8_gen.specs.Names.{Names}
use Rattle.p8_gen.specs.Pieces.{Written, from_place, Piece, ◌⨾◌, up_to_jumps, byte, jump}
use Rattle.p8_gen.specs.Expressions.{value}
use Rattle.p8_gen.specs.Statements.{Loop, SameLoop, tests, code_of, body, other_body, all_tests, case_bodies}
use Rattle.p8_gen.specs.Depths.{held, held_by_tests, held_in, held_in_cases, held_in_other}
use Rattle.p8_gen.proofs.Widths.{Alike, body-alike, value-alike, other-alike, all-tests-alike, bodies-alike}
use Rattle.p8_gen.proofs.Widths as widths
use Rattle.p8_depth.specs.Stack.{holds}
use Rattle.p8_depth.specs.Entries.{entries, entries_inside, entries_of_cases, entries_of_other, leap}
use Rattle.p8_depth.proofs.Along as along
use Rattle.p8_depth.proofs.Along.{Whole}
use Rattle.p8_depth.proofs.Places.{split, place-is, from-real, to-real, first-entry, last-entry}
use Rattle.p8_depth.proofs.Values.{some-held}
use Rattle.p8_depth.proofs.Bodies as bodies
use Rattle.p8_depth.proofs.Bodies.{Known}

-- what the tests of all arms hold, and what their bodies do
abbrev pub tests_held : Names → Arms → ℕ
tests_held h no_arms = 0
tests_held h (arms ⊳ arm items negated ss) = max (tests_held h arms) (held_by_tests h items)

abbrev pub bodies_held : Names → Arms → ℕ
bodies_held h no_arms = 0
bodies_held h (arms ⊳ arm items negated ss) = max (bodies_held h arms) (held_in h ss)

cases-held : (h : Names) (arms : Arms) → held_in_cases h arms ≡ max (tests_held h arms) (bodies_held h arms)
cases-held h no_arms = omega arith
cases-held h (arms ⊳ arm items negated ss) = let before = cases-held h arms in omega (arith, before)

module _ (m : Whole) (h : Names) (env : Environment) where
  abbrev H : Written → Type 0
  H w = along.Here m w

  abbrev S : (d p b : ℕ) → Type 0
  S d p b = along.Safe m d p (holds b [])

  abbrev C : (p b : ℕ) → Type 0
  C p b = along.Come m p (holds b [])

  abbrev Sits : Option Loop → Piece → (b k : ℕ) → ((place jumps : ℕ) → List (ℕ × ℕ)) → Type 0
  Sits l a b k xs = bodies.Sits m h env l a b k xs

  -- ---- tests

  -- those of an arm, above the value that is compared
  pub tests-flow : (n : Names) → Known m h env n → (to : ℕ) (items : Items) → AreProperTests items → ((f : Fault) → ¬ MisuseInItems env items f) → along.Flows m (Some (to, 1)) (tests n to items) 1 1 (max 1 (held_by_tests h items))
  tests-flow n known to no_items proper clean = along.nothings m 1
  tests-flow n known to (xs ▸ single e) proper clean =
      let some = some-held h e in
      along.told-as m
      (along.both m (along.both m (tests-flow n known to xs proper.0 (λ f x. clean f (inl x))) (along.above m 1 (bodies.expression m h env n known e proper.1 (λ f x. clean f (inr x))) refl refl refl))
      (along.jumps m n.wide n.statement 0x0D to 2 1 1 (bodies.value-jump m h env)))
      (omega (arith, some))
  tests-flow n known to (xs ▸ range a c) proper clean =
      let some = some-held h a in
      let more = some-held h c in
      along.told-as m
      (along.both m (along.both m (along.both m (tests-flow n known to xs proper.0 (λ f x. clean f (inl x))) (along.above m 1 (bodies.expression m h env n known a proper.1.0 (λ f x. clean f (inr (inl x)))) refl refl refl))
      (along.above m 2 (bodies.expression m h env n known c proper.1.1 (λ f x. clean f (inr (inr x)))) refl refl refl)) (along.jumps m n.wide n.statement 0x0E to 3 1 1 (bodies.range-jump m h env)))
      (omega (arith, some, more))

  -- the last of some tests is taken
  pub tests-taken : (n : Names) → Known m h env n → (to : ℕ) (items : Items) → IsTrue (not (is_no_item items)) → AreProperTests items → ((f : Fault) → ¬ MisuseInItems env items f) → (w : Written) → H (tests n to items w) → to < 2 ^ 32 → (b : ℕ) → C w.end (b + 1) → C to (b + 1)
  tests-taken n known to no_items some proper clean w hh low b c = absurd cc
  tests-taken n known to (xs ▸ single e) some proper clean w hh low b c =
      let before = (along.jump-behind m n.wide n.statement 0x0D to (bodies.value-jump m h env) (value n e (tests n to xs w)) hh).before in
      let flow = along.both m (tests-flow n known to xs proper.0 (λ f x. clean f (inl x))) (along.above m 1 (bodies.expression m h env n known e proper.1 (λ f x. clean f (inr x))) refl refl refl) in
      along.jumped m n.wide n.statement 0x0D to 2 1 1 (bodies.value-jump m h env) (value n e (tests n to xs w)) hh low b [] (flow.goes w before b [] c)
  tests-taken n known to (xs ▸ range a e) some proper clean w hh low b c =
      let before = (along.jump-behind m n.wide n.statement 0x0E to (bodies.range-jump m h env) (value n e (value n a (tests n to xs w))) hh).before in
      let flow =
      along.both m (along.both m (tests-flow n known to xs proper.0 (λ f x. clean f (inl x))) (along.above m 1 (bodies.expression m h env n known a proper.1.0 (λ f x. clean f (inr (inl x)))) refl refl refl))
      (along.above m 2 (bodies.expression m h env n known e proper.1.1 (λ f x. clean f (inr (inr x)))) refl refl refl) in
      along.jumped m n.wide n.statement 0x0E to 3 1 1 (bodies.range-jump m h env) (value n e (value n a (tests n to xs w))) hh low b [] (flow.goes w before b [] c)

  module _ (n : Names) (l : Option Loop) (b : ℕ) where
    -- paths come to where the tests lead, which are places
    abbrev pub Lows : (first before : ℕ) → Arms → Type 0
    Lows first before no_arms = Unit {0}
    Lows first before (arms ⊳ arm items negated ss) = Lows first before arms × ((case_bodies n l 0 arms (from_place first before)).end < 2 ^ 32)

    abbrev pub AreMet : (first before : ℕ) → Arms → Type 0
    AreMet first before no_arms = Unit {0}
    AreMet first before (arms ⊳ arm items negated ss) = AreMet first before arms × C (case_bodies n l 0 arms (from_place first before)).end (b + 1)

    -- where the tests lead paths are safe
    abbrev pub Targets : (first before d : ℕ) → Arms → Type 0
    Targets first before d no_arms = Unit {0}
    Targets first before d (arms ⊳ arm items negated ss) =
        Targets first before d arms × ((case_bodies n l 0 arms (from_place first before)).end < 2 ^ 32) × S d (case_bodies n l 0 arms (from_place first before)).end (b + 1)

    -- all tests of a CASE
    pub record Tested (arms : Arms) : Type 0 where
      pub here : (first before : ℕ) (w : Written) → H (all_tests n l first before arms w) → H w
      pub safe : (first before : ℕ) (w : Written) → H (all_tests n l first before arms w) → (d : ℕ) → b + 1 ≤ m.most → b + tests_held h arms ≤ m.most → Targets first before d arms → S d (all_tests n l first before arms w).end (b + 1) → S d w.end (b + 1)
      pub goes : (first before : ℕ) (w : Written) → H (all_tests n l first before arms w) → C w.end (b + 1) → C (all_tests n l first before arms w).end (b + 1)
      pub reach : (first before : ℕ) (w : Written) → H (all_tests n l first before arms w) → C w.end (b + 1) → along.Reached m (b + tests_held h arms)
      pub covers : (first before : ℕ) (w : Written) → H (all_tests n l first before arms w) → C w.end (b + 1) → along.Covered m w → along.Covered m (all_tests n l first before arms w)
      pub meets : (first before : ℕ) (w : Written) → H (all_tests n l first before arms w) → Lows first before arms → C w.end (b + 1) → AreMet first before arms

    pub all-tested : Known m h env n → (arms : Arms) → AreProperChoices arms → ((f : Fault) → ¬ MisuseInArms env arms f) → Tested arms
    all-tested known no_arms proper clean = record {
      here = λ first before w hh. hh;
      safe = λ first before w hh d one most targets s. s;
      goes = λ first before w hh c. c;
      reach = λ first before w hh c. (w.end, holds (b + 1) [], c, omega arith);
      covers = λ first before w hh c met. met;
      meets = λ first before w hh lows c. tt;
    }
    all-tested known (arms ⊳ arm items negated ss) proper clean =
        let f = all-tested known arms proper.0 (λ f x. clean f (inl x)) in
        let g : (to : ℕ) → along.Flows m (Some (to, 1)) (tests n to items) 1 1 (max 1 (held_by_tests h items)) = λ to. tests-flow n known to items proper.1.2 (λ f x. clean f (inr (inl x))) in
        record {
          here = λ first before w hh. f.here first before w ((g (at first before)).here (all_tests n l first before arms w) hh);
          safe = λ first before w hh d one most targets s.
              let inner = (g (at first before)).here (all_tests n l first before arms w) hh in
              f.safe first before w inner d one (omega (arith, most)) targets.0
              ((g (at first before)).safe (all_tests n l first before arms w) hh d b [] (omega arith) (omega (arith, one, most)) (targets.1, targets.2) s);
          goes = λ first before w hh c.
              let inner = (g (at first before)).here (all_tests n l first before arms w) hh in
              (g (at first before)).goes (all_tests n l first before arms w) hh b [] (f.goes first before w inner c);
          reach = λ first before w hh c.
              let inner = (g (at first before)).here (all_tests n l first before arms w) hh in
              along.reached-most m b (tests_held h arms) (held_by_tests h items) (f.reach first before w inner c)
              (bodies.reached-less m h env (b + held_by_tests h items) (b + max 1 (held_by_tests h items)) (omega arith) ((g (at first before)).comes (all_tests n l first before arms w) hh b [] (f.goes first before w inner c)));
          covers = λ first before w hh c met.
              let inner = (g (at first before)).here (all_tests n l first before arms w) hh in
              (g (at first before)).covers (all_tests n l first before arms w) hh b [] (f.goes first before w inner c) (f.covers first before w inner c met);
          meets = λ first before w hh lows c.
              let inner = (g (at first before)).here (all_tests n l first before arms w) hh in
              (f.meets first before w inner lows.0 c, tests-taken n known (at first before) items proper.1.1 proper.1.2 (λ f x. clean f (inr (inl x))) (all_tests n l first before arms w) hh lows.1 b (f.goes first before w inner c));
        }
      where
        at : (first before : ℕ) → ℕ
        at first before = (case_bodies n l 0 arms (from_place first before)).end

  -- ---- bodies

  -- a path comes behind the body of OTHER
  other-ends : (n : Names) (l k : Option Loop) → SameLoop l k → (b : ℕ) (other : Otherwise) (w : Written) → bodies.AllCome m h env (entries_of_other n k other b w.end w.jumps) → C w.end b → C (other_body n l other w).end b
  other-ends n l k like b nothing_else w all c = c
  other-ends n l k like b (otherwise ss) w all c = subst (λ p. C p b) (place-is (body-alike n n.text n.statement l k like ss) w) (last-entry (bodies.IsCome m h env) n k b ss w.end w.jumps all)

  module _ (n : Names) (l k : Option Loop) (like : SameLoop l k) (b : ℕ) where
    pub record Bodied (arms : Arms) : Type 0 where
      pub here : (end : ℕ) (w : Written) → H (case_bodies n l end arms w) → H w
      pub safe : (end : ℕ) (w : Written) → H (case_bodies n l end arms w) → end < 2 ^ 32 → (d : ℕ) → b + 1 ≤ m.most → b + bodies_held h arms ≤ m.most → bodies.Around m h env l d b → S d end b
          → Targets n l b w.end w.jumps d arms × bodies.AllSafe m h env d (entries_of_cases n k arms b w.end w.jumps)
      pub reach : (end : ℕ) (w : Written) → H (case_bodies n l end arms w) → bodies.AllCome m h env (entries_of_cases n k arms b w.end w.jumps) → along.Reached m (b + 0) → along.Reached m (b + bodies_held h arms)
      pub lows : (end : ℕ) (w : Written) → H (case_bodies n l end arms w) → Lows n l b w.end w.jumps arms
      pub covers : (end : ℕ) (w : Written) → H (case_bodies n l end arms w) → bodies.Kept m h env l b → AreMet n l b w.end w.jumps arms → bodies.AllCome m h env (entries_of_cases n k arms b w.end w.jumps) → along.Covered m w → along.Covered m (case_bodies n l end arms w)

    pub no-bodies : Bodied no_arms
    no-bodies = record { here = λ end w hh. hh; safe = λ end w hh low d one most around s. (tt, bodies.none-safe m h env d); reach = λ end w hh all r. r; lows = λ end w hh. tt; covers = λ end w hh kept met all covered. covered }

    same-bodies : (end : ℕ) (arms : Arms) → Alike (case_bodies n l end arms) (case_bodies n k 0 arms)
    same-bodies end arms = bodies-alike n n.text n.statement l k like end 0 arms

    same_loop : (l : Option Loop) → SameLoop l l
    same_loop None = tt
    same_loop (Some l) = refl

    module _ (arms : Arms) (items : Items) (negated : Bool) (ss : Statements) (f : Bodied arms) (g : Sits l (body n l ss) b (held_in h ss) (entries n k ss b)) where
      module _ (end : ℕ) (w : Written) (hh : H (case_bodies n l end (arms ⊳ arm items negated ss) w)) where
        abbrev before : Written
        before = case_bodies n l end arms w

        abbrev begun : Written
        begun = byte 0x0C before

        at-body : H (body n l ss begun)
        at-body = bodies.leap-here m h env n end (body n l ss begun) hh

        at-begun : H begun
        at-begun = g.here begun at-body

        at-before : H before
        at-before = (bodies.drop-case m h env).here before at-begun

        same-begun : Alike (case_bodies n l end arms ⨾ byte 0x0C) (case_bodies n k 0 arms ⨾ byte 0x0C)
        same-begun = widths.both (same-bodies end arms) (widths.bytes 0x0C)

        arm-safe : end < 2 ^ 32 → (d : ℕ) → b + 1 ≤ m.most → b + max (bodies_held h arms) (held_in h ss) ≤ m.most → bodies.Around m h env l d b → S d end b
            → Targets n l b w.end w.jumps d (arms ⊳ arm items negated ss) × bodies.AllSafe m h env d (entries_of_cases n k (arms ⊳ arm items negated ss) b w.end w.jumps)
        arm-safe low d one most around s =
            let others = f.safe end w at-before low d one (omega (arith, most)) around s in
            let last = bodies.leap-safe m h env n end (body n l ss begun) hh low d b (omega (arith, most)) (along.earlier m d end (holds b []) s) in
            let inside = g.safe begun at-body d (omega (arith, most)) around last in
            let here : S d before.end (b + 1) = (bodies.drop-case m h env).safe before at-begun d b [] (omega arith) one tt (bodies.s-up m h env d begun.end b inside.0) in
            let there = place-is (bodies-alike n n.text n.statement l l (same_loop l) end 0 arms) w in (
              (others.0, subst (λ p. p < 2 ^ 32) (sym there) (along.low m before at-before), subst (λ p. S d p (b + 1)) (sym there) here),
              All-append (bodies.IsSafe m h env d) _ _ others.1 (from-real same-begun w (λ p j. bodies.AllSafe m h env d (entries n k ss b p j)) inside.1),
            )

        arm-reach : bodies.AllCome m h env (entries_of_cases n k (arms ⊳ arm items negated ss) b w.end w.jumps) → along.Reached m (b + 0) → along.Reached m (b + max (bodies_held h arms) (held_in h ss))
        arm-reach all r =
            let parts = split (bodies.IsCome m h env) (entries_of_cases n k arms b w.end w.jumps) _ all in
            let inside = to-real same-begun w (λ p j. bodies.AllCome m h env (entries n k ss b p j)) parts.1 in
            along.reached-most m b (bodies_held h arms) (held_in h ss) (f.reach end w at-before parts.0 r) (g.reach begun at-body inside (first-entry (bodies.IsCome m h env) n k b ss begun.end begun.jumps inside))

        there : (case_bodies n l 0 arms (from_place w.end w.jumps)).end ≡ before.end
        there = place-is (bodies-alike n n.text n.statement l l (same_loop l) end 0 arms) w

        arm-lows : Lows n l b w.end w.jumps (arms ⊳ arm items negated ss)
        arm-lows = (f.lows end w at-before, subst (λ p. p < 2 ^ 32) (sym there) (along.low m before at-before))

        arm-covers : bodies.Kept m h env l b → AreMet n l b w.end w.jumps (arms ⊳ arm items negated ss) → bodies.AllCome m h env (entries_of_cases n k (arms ⊳ arm items negated ss) b w.end w.jumps) → along.Covered m w → along.Covered m (case_bodies n l end (arms ⊳ arm items negated ss) w)
        arm-covers kept met all covered =
            let parts = split (bodies.IsCome m h env) (entries_of_cases n k arms b w.end w.jumps) _ all in
            let entered = to-real same-begun w (λ p j. bodies.AllCome m h env (entries n k ss b p j)) parts.1 in
            let come = subst (λ p. C p (b + 1)) there met.1 in
            bodies.leap-covers m h env n end (body n l ss begun) b (subst (λ p. C p b) (place-is (body-alike n n.text n.statement l k like ss) begun) (last-entry (bodies.IsCome m h env) n k b ss begun.end begun.jumps entered))
            (g.covers begun at-body kept entered (first-entry (bodies.IsCome m h env) n k b ss begun.end begun.jumps entered)
            ((bodies.drop-case m h env).covers before at-begun b [] come (f.covers end w at-before kept met.0 parts.0 covered)))

      pub one-body : Bodied (arms ⊳ arm items negated ss)
      one-body = record { here = λ end w hh. f.here end w (at-before end w hh); safe = λ end w hh low d one most around s. arm-safe end w hh low d one most around s; reach = arm-reach; lows = arm-lows; covers = arm-covers }

    -- ---- the whole

    module _ (e : Tree) (arms : Arms) (other : Otherwise) (known : Known m h env n) (proper : IsProperExpression false e) (clean : (f : Fault) → ¬ MisuseInOption env (Some e) f) (tested : Tested n l b arms) (bodied : Bodied arms) (others : Sits l (other_body n l other) b (held_in_other h other) (entries_of_other n k other b)) where
      abbrev valued : along.Flows m None (value n e) 0 1 (held h e)
      valued = bodies.expression m h env n known e proper clean

      module _ (w : Written) where
        abbrev chosen : (first before end : ℕ) → Piece
        chosen first before end = value n e ⨾ all_tests n l first before arms ⨾ byte 0x0C ⨾ other_body n l other ⨾ jump n.wide n.statement 0x04 end

        abbrev whole : ℕ → Piece
        whole end = up_to_jumps (λ first before. chosen first before end) ⨾ case_bodies n l end arms

        abbrev end : ℕ
        end = (whole 0 w).end

        abbrev first : ℕ
        first = (chosen 0 0 end w).end

        abbrev count : ℕ
        count = (chosen 0 0 end w).jumps

        abbrev at-tests : Written
        at-tests = all_tests n l first count arms (value n e w)

        abbrev at-other : Written
        at-other = byte 0x0C at-tests

        abbrev behind-other : Written
        behind-other = other_body n l other at-other

        abbrev at-bodies : Written
        at-bodies = chosen first count end w

        abbrev out : Written
        out = code_of n l (Case e arms other) w

        same-chosen : (f g i j x y : ℕ) → Alike (chosen f i x) (chosen g j y)
        same-chosen f g i j x y =
            widths.both (widths.both (widths.both (widths.both (value-alike n n.text n.statement e) (all-tests-alike n n.text n.statement l l (same_loop l) f g i j arms)) (widths.bytes 0x0C)) (other-alike n n.text n.statement l l (same_loop l) other))
            (widths.jumps n.wide n.statement n.statement 0x04 x y)

        end-is : out.end ≡ end
        end-is = along.same-end m whole w (λ x y. widths.both (widths.up-jumps (λ f g i j. same-chosen f g i j x y)) (bodies-alike n n.text n.statement l l (same_loop l) x y arms))

        first-is : at-bodies.end ≡ first
        first-is = let ends = (same-chosen first 0 count 0 end end).ends w w refl in omega (arith, ends)

        count-is : at-bodies.jumps ≡ count
        count-is = (same-chosen first 0 count 0 end end).counts w w refl

        same-tests : Alike (value n e ⨾ all_tests n l first count arms ⨾ byte 0x0C) (value n e ⨾ all_tests n k 0 0 arms ⨾ byte 0x0C)
        same-tests = widths.both (widths.both (value-alike n n.text n.statement e) (all-tests-alike n n.text n.statement l k like first 0 count 0 arms)) (widths.bytes 0x0C)

        same-whole : Alike (chosen first count end) (value n e ⨾ all_tests n k 0 0 arms ⨾ byte 0x0C ⨾ other_body n k other ⨾ leap n 0x04)
        same-whole = widths.both (widths.both same-tests (other-alike n n.text n.statement l k like other)) (widths.jumps n.wide n.statement n.statement 0x04 end 0)

        module _ (hh : H out) where
          in-bodies : H at-bodies
          in-bodies = bodied.here end at-bodies hh

          in-behind : H behind-other
          in-behind = bodies.leap-here m h env n end behind-other in-bodies

          in-other : H at-other
          in-other = others.here at-other in-behind

          in-tests : H at-tests
          in-tests = (bodies.drop-case m h env).here at-tests in-other

          in-value : H (value n e w)
          in-value = tested.here first count (value n e w) in-tests

          case-safe : (d : ℕ) → b + max (held h e) (max (held_in_cases h arms) (held_in_other h other)) ≤ m.most → bodies.Around m h env l d b → S d out.end b → S d w.end b × bodies.AllSafe m h env d (entries_inside n k (Case e arms other) b w.end w.jumps)
          case-safe d fits around s =
              let some = some-held h e in
              let parts = cases-held h arms in
              let one : b + 1 ≤ m.most = omega (arith, some, fits) in
              let low : end < 2 ^ 32 = subst (λ p. p < 2 ^ 32) end-is (along.low m out hh) in
              let last : S d end b = subst (λ p. S d p b) end-is s in
              let arms-safe = bodied.safe end at-bodies hh low d one (omega (arith, fits, parts)) around last in
              let targets : Targets n l b first count d arms = subst (λ p. Targets n l b p count d arms) first-is (subst (λ j. Targets n l b at-bodies.end j d arms) count-is arms-safe.0) in
              let after = bodies.leap-safe m h env n end behind-other in-bodies low d b (omega (arith, one)) (along.earlier m d end (holds b []) last) in
              let other-safe = others.safe at-other in-behind d (omega (arith, fits)) around after in
              let untested : S d at-tests.end (b + 1) = (bodies.drop-case m h env).safe at-tests in-other d b [] (omega arith) one tt (bodies.s-up m h env d at-other.end b other-safe.0) in
              let compared = tested.safe first count (value n e w) in-tests d one (omega (arith, fits, parts)) targets untested in (
                bodies.s-down m h env d w.end b (valued.safe w in-value d b [] (omega arith) (omega (arith, fits)) tt compared),
                All-append (bodies.IsSafe m h env d) _ _ (from-real same-tests w (λ p j. bodies.AllSafe m h env d (entries_of_other n k other b p j)) other-safe.1)
                    (from-real same-whole w (λ p j. bodies.AllSafe m h env d (entries_of_cases n k arms b p j)) arms-safe.1),
              )

          case-reach : bodies.AllCome m h env (entries_inside n k (Case e arms other) b w.end w.jumps) → C w.end b → along.Reached m (b + max (held h e) (max (held_in_cases h arms) (held_in_other h other)))
          case-reach all c =
              let parts = split (bodies.IsCome m h env) (other-entries) _ all in
              let come = bodies.c-up m h env w.end b c in
              let compared = valued.goes w in-value b [] come in
              let untested = tested.goes first count (value n e w) in-tests compared in
              let otherwise = bodies.c-down m h env at-other.end b ((bodies.drop-case m h env).goes at-tests in-other b [] untested) in
              let of-arms =
              along.reached-same m (ap (λ x. b + x) (sym (cases-held h arms)))
              (along.reached-most m b (tests_held h arms) (bodies_held h arms) (tested.reach first count (value n e w) in-tests compared)
              (bodied.reach end at-bodies hh (to-real same-whole w (λ p j. bodies.AllCome m h env (entries_of_cases n k arms b p j)) parts.1) (bodies.reached-here m h env w.end b c))) in
              along.reached-most m b (held h e) (max (held_in_cases h arms) (held_in_other h other)) (valued.comes w in-value b [] come)
              (along.reached-most m b (held_in_cases h arms) (held_in_other h other) of-arms (others.reach at-other in-behind (to-real same-tests w (λ p j. bodies.AllCome m h env (entries_of_other n k other b p j)) parts.0) otherwise))
            where
              other-entries : List (ℕ × ℕ)
              other-entries = let v = (value n e ⨾ all_tests n k 0 0 arms ⨾ byte 0x0C) (from_place w.end w.jumps) in entries_of_other n k other b v.end v.jumps

          case-covers : bodies.Kept m h env l b → bodies.AllCome m h env (entries_inside n k (Case e arms other) b w.end w.jumps) → C w.end b → along.Covered m w → along.Covered m out
          case-covers kept all c covered =
              let parts = split (bodies.IsCome m h env) other-entries _ all in
              let come = bodies.c-up m h env w.end b c in
              let compared = valued.goes w in-value b [] come in
              let untested = tested.goes first count (value n e w) in-tests compared in
              let reached = bodies.c-down m h env at-other.end b ((bodies.drop-case m h env).goes at-tests in-other b [] untested) in
              let of-other = to-real same-tests w (λ p j. bodies.AllCome m h env (entries_of_other n k other b p j)) parts.0 in
              let lows = subst (λ p. Lows n l b p count arms) first-is (subst (λ j. Lows n l b at-bodies.end j arms) count-is (bodied.lows end at-bodies hh)) in
              let met = tested.meets first count (value n e w) in-tests lows compared in
              let met-here = subst (λ p. AreMet n l b p at-bodies.jumps arms) (sym first-is) (subst (λ j. AreMet n l b first j arms) (sym count-is) met) in
              bodied.covers end at-bodies hh kept met-here (to-real same-whole w (λ p j. bodies.AllCome m h env (entries_of_cases n k arms b p j)) parts.1)
              (bodies.leap-covers m h env n end behind-other b (other-ends n l k like b other at-other of-other reached)
              (others.covers at-other in-behind kept of-other reached
              ((bodies.drop-case m h env).covers at-tests in-other b [] untested (tested.covers first count (value n e w) in-tests compared (valued.covers w in-value b [] come covered)))))
            where
              other-entries : List (ℕ × ℕ)
              other-entries = let v = (value n e ⨾ all_tests n k 0 0 arms ⨾ byte 0x0C) (from_place w.end w.jumps) in entries_of_other n k other b v.end v.jumps

      pub case-sits : Sits l (code_of n l (Case e arms other)) b (max (held h e) (max (held_in_cases h arms) (held_in_other h other))) (entries_inside n k (Case e arms other) b)
      case-sits = record { here = λ w hh. valued.here w (in-value w hh); safe = λ w hh d fits around s. case-safe w hh d fits around s; reach = case-reach; covers = case-covers }
