-- The code of a method, by what it holds.
use Rattle.std.proofs.Common.{◌≡◌, refl, sym, subst, arith, ℕ, suc, ◌+◌, ◌^◌, ◌<◌, max, true, false, inl, inr, List, [], append-nil, length, Option, Some, None}
use Rattle.std.specs.Prelude.{All}
use Rattle.std.proofs.lemmas.List.Elements.{All-append, All-nil, All-push, All-contains, Contains-get_or}
use Rattle.p8_tree.specs.Statements.{statement, Action, Do, If, Case, Repeat, Next, Quit, Return, Abort, Otherwise, nothing_else, otherwise, Statements, no_statements, ◌▹◌, Arms, no_arms, ◌⊳◌, arm}
use Rattle.p8_tree.specs.Proper.{IsProperAction, AreProperArms, AreProperChoices, IsProperOtherwise, AreProperStatements}
use Rattle.p8_tree.specs.declared.faults.Fault.{Fault}
use Rattle.p8_bytecode.specs.Reading.{bare}
use Rattle.p8_bytecode.specs.Spelling.{IsOp}
use Rattle.p8_kinds.specs.Environments.{Environment, kind_in}
use Rattle.p8_kinds.specs.Misuses.{MisuseInAction, MisuseInStatements, MisuseInArms, MisuseInOtherwise}
use Rattle.p8_gen.specs.Names.{Names}
use Rattle.p8_gen.specs.Pieces.{Written, empty, Piece, nothing, ◌⨾◌, jump}
use Rattle.p8_gen.specs.Statements.{Loop, SameLoop, code_of, body, chain, other_body}
use Rattle.p8_gen.specs.Methods.{bytes_of, method_code}
use Rattle.p8_gen.specs.Depths.{held_in, held_in_action, held_in_arms, held_in_other}
use Rattle.p8_gen.proofs.Widths.{body-alike}
use Rattle.p8_gen.proofs.Widths as widths
use Rattle.p8_stmt.proofs.Choices.{method-measured}
use Rattle.p8_depth.specs.Stack.{Stack, holds, column, Ends}
use Rattle.p8_depth.specs.Stack as stack
use Rattle.p8_depth.specs.Paths.{onward_from, Comes, IsDepth, IsComeTo}
use Rattle.p8_depth.specs.Entries.{entries, entries_inside, entries_of_arms, entries_of_other, entries_of_method}
use Rattle.p8_depth.proofs.Along as along
use Rattle.p8_depth.proofs.Along.{Whole}
use Rattle.p8_depth.proofs.Places.{split, from-real, to-real, first-entry, last-entry}
use Rattle.p8_depth.proofs.Values.{alone-flows}
use Rattle.p8_depth.proofs.Bodies as bodies
use Rattle.p8_depth.proofs.Bodies.{Known, behind}
use Rattle.p8_depth.proofs.Loops.{loop-sits}
use Rattle.p8_depth.proofs.Cases as cases

module _ (m : Whole) (h : Names) (env : Environment) where
  abbrev H : Written → Type 0
  H w = along.Here m w

  abbrev S : (d p b : ℕ) → Type 0
  S d p b = along.Safe m d p (holds b [])

  abbrev C : (p b : ℕ) → Type 0
  C p b = along.Come m p (holds b [])

  abbrev Sits : Option Loop → Piece → (b k : ℕ) → ((place jumps : ℕ) → List (ℕ × ℕ)) → Type 0
  Sits l a b k xs = bodies.Sits m h env l a b k xs

  same_loop : (l : Option Loop) → SameLoop l l
  same_loop None = tt
  same_loop (Some l) = refl

  -- ---- IF, by its arms

  module _ (n : Names) (l k : Option Loop) (like : SameLoop l k) (b : ℕ) (arms : Arms) (f : bodies.Chains m h env n l k b arms (held_in_arms h arms)) where
    module _ (w : Written) where
      abbrev alone : ℕ → Piece
      alone end = chain n l (jump n.wide n.statement 0x04 end) nothing arms

      alone-is : (alone (alone 0 w).end w).end ≡ (alone 0 w).end
      alone-is = along.same-end m alone w (λ x y. widths.chain-alike n n.text n.statement l l (same_loop l) _ _ _ _ (widths.jumps n.wide n.statement n.statement 0x04 x y) widths.nothings arms)

    if-alone : Sits l (code_of n l (If arms nothing_else)) b (max (held_in_arms h arms) 0) (entries_inside n k (If arms nothing_else) b)
    if-alone = record {
      here = λ w hh. f.here false (alone w 0 w).end w hh;
      safe = λ w hh d fits around s.
          let all = f.safe false (alone w 0 w).end w hh (subst (λ p. p < 2 ^ 32) (alone-is w) (along.low m (alone w (alone w 0 w).end w) hh)) d (omega (arith, fits)) around (subst (λ p. S d p b) (alone-is w) s) s in
          (all.0, All-append (bodies.IsSafe m h env d) _ _ all.1 (bodies.none-safe m h env d));
      reach = λ w hh all c.
          along.reached-same m (let same : b + held_in_arms h arms ≡ b + max (held_in_arms h arms) 0 = omega arith in same)
          (f.reach false (alone w 0 w).end w hh (split (bodies.IsCome m h env) (entries_of_arms n k arms b w.end w.jumps) [] all).0 c);
      covers = λ w hh kept all c met. f.covers false (alone w 0 w).end w hh kept (split (bodies.IsCome m h env) (entries_of_arms n k arms b w.end w.jumps) [] all).0 c met;
    }

    module _ (ss : Statements) (g : Sits l (body n l ss) b (held_in h ss) (entries n k ss b)) where
      module _ (w : Written) where
        abbrev both_ways : ℕ → Piece
        both_ways end = chain n l (jump n.wide n.statement 0x04 end) (jump n.wide n.statement 0x04 end) arms ⨾ body n l ss

        both-is : (both_ways (both_ways 0 w).end w).end ≡ (both_ways 0 w).end
        both-is =
            along.same-end m both_ways w
            (λ x y. widths.both (widths.chain-alike n n.text n.statement l l (same_loop l) _ _ _ _ (widths.jumps n.wide n.statement n.statement 0x04 x y) (widths.jumps n.wide n.statement n.statement 0x04 x y) arms) (body-alike n n.text n.statement l l (same_loop l) ss))

        abbrev end : ℕ
        end = (both_ways 0 w).end

        abbrev after-arms : Written
        after-arms = chain n l (jump n.wide n.statement 0x04 end) (jump n.wide n.statement 0x04 end) arms w

      if-else : Sits l (code_of n l (If arms (otherwise ss))) b (max (held_in_arms h arms) (held_in h ss)) (entries_inside n k (If arms (otherwise ss)) b)
      if-else = record {
        here = λ w hh. f.here true (end w) w (g.here (after-arms w) hh);
        safe = λ w hh d fits around s.
            let low : end w < 2 ^ 32 = subst (λ p. p < 2 ^ 32) (both-is w) (along.low m (both_ways w (end w) w) hh) in
            let second = g.safe (after-arms w) hh d (omega (arith, fits)) around s in
            let first = f.safe true (end w) w (g.here (after-arms w) hh) low d (omega (arith, fits)) around (subst (λ p. S d p b) (both-is w) s) second.0 in
            (first.0, All-append (bodies.IsSafe m h env d) _ _ first.1 (from-real (bodies.same_chain m h env n l k like b (end w) arms) w (λ p j. bodies.AllSafe m h env d (entries n k ss b p j)) second.1));
        reach = λ w hh all c.
            let parts = split (bodies.IsCome m h env) (entries_of_arms n k arms b w.end w.jumps) _ all in
            along.reached-most m b (held_in_arms h arms) (held_in h ss) (f.reach true (end w) w (g.here (after-arms w) hh) parts.0 c)
            (g.reach (after-arms w) hh (to-real (bodies.same_chain m h env n l k like b (end w) arms) w (λ p j. bodies.AllCome m h env (entries n k ss b p j)) parts.1) (f.goes true (end w) w (g.here (after-arms w) hh) c));
        covers = λ w hh kept all c met.
            let parts = split (bodies.IsCome m h env) (entries_of_arms n k arms b w.end w.jumps) _ all in
            let before = g.here (after-arms w) hh in
            g.covers (after-arms w) hh kept (to-real (bodies.same_chain m h env n l k like b (end w) arms) w (λ p j. bodies.AllCome m h env (entries n k ss b p j)) parts.1)
            (f.goes true (end w) w before c) (f.covers true (end w) w before kept parts.0 c met);
      }

  -- ---- all statements

  returns-is : (column (bare 0x32) ≡ Ends 0) × (column (bare 0x33) ≡ Ends 1)
  unfolding stack.rows
  returns-is = (refl, refl)

  aborts-is : (column (bare 0x30) ≡ Ends 0) × (column (bare 0x31) ≡ Ends 1)
  unfolding stack.rows
  aborts-is = (refl, refl)

  mutual
    pub body-sits : (n : Names) → Known m h env n → (l k : Option Loop) → SameLoop l k → (b : ℕ) (ss : Statements) → AreProperStatements ss → ((f : Fault) → ¬ MisuseInStatements env ss f) → Sits l (body n l ss) b (held_in h ss) (entries n k ss b)
    body-sits n known l k like b no_statements proper clean = record {
      here = λ w hh. hh;
      safe = λ w hh d fits around s. (s, bodies.one-safe m h env d w.end b s);
      reach = λ w hh all c. bodies.reached-here m h env w.end b c;
      covers = λ w hh kept all c met. met;
    }
    body-sits n known l k like b (ss ▹ statement q action) proper clean =
        bodies.followed m h env n l k like b ss q action (body-sits n known l k like b ss proper.0 (λ f x. clean f (inl x)))
        (action-sits (record n { statement = q }) (bodies.at m h env q known) l k like b action proper.1 (λ f x. clean f (inr x)))

    action-sits : (n : Names) → Known m h env n → (l k : Option Loop) → SameLoop l k → (b : ℕ) (action : Action) → IsProperAction action → ((f : Fault) → ¬ MisuseInAction env action f) → Sits l (code_of n l action) b (held_in_action h action) (entries_inside n k action b)
    action-sits n known l k like b (Do e) proper clean = bodies.flow-sits m h env b (alone-flows m n h env known.same known.held e proper clean)
    action-sits n known l k like b (If arms nothing_else) proper clean = if-alone n l k like b arms (chain-sits n known l k like b arms proper.1 (λ f x. clean f (inl x)))
    action-sits n known l k like b (If arms (otherwise ss)) proper clean =
        if-else n l k like b arms (chain-sits n known l k like b arms proper.1 (λ f x. clean f (inl x))) ss (body-sits n known l k like b ss proper.2 (λ f x. clean f (inr x)))
    action-sits n known l k like b (Case e arms other) proper clean =
        cases.case-sits m h env n l k like b e arms other known proper.0 (λ f x. clean f (inl (inl x))) (cases.all-tested m h env n l b known arms proper.1 (λ f x. clean f (inl (inr x))))
        (cases-sit n known l k like b arms proper.1 (λ f x. clean f (inl (inr x)))) (other-sits n known l k like b other proper.2 (λ f x. clean f (inr x)))
    action-sits n known l k like b (Repeat course ss) proper clean =
        loop-sits m h env n known l k b ss (λ inner outer alike c. body-sits n known inner outer alike c ss proper.1 (λ f x. clean f (inr x))) course proper.0 (λ f x. clean f (inl x))
    action-sits n known l k like b Next proper clean = bodies.next-sits m h env n l b
    action-sits n known l k like b Quit proper clean = bodies.quit-sits m h env n l b
    action-sits n known l k like b (Return e) proper clean = bodies.left-sits m h env n known e 0x32 0x33 b returns-is.0 returns-is.1 proper clean
    action-sits n known l k like b (Abort e) proper clean = bodies.left-sits m h env n known e 0x30 0x31 b aborts-is.0 aborts-is.1 proper clean

    chain-sits : (n : Names) → Known m h env n → (l k : Option Loop) → SameLoop l k → (b : ℕ) (arms : Arms) → AreProperArms arms → ((f : Fault) → ¬ MisuseInArms env arms f) → bodies.Chains m h env n l k b arms (held_in_arms h arms)
    chain-sits n known l k like b no_arms proper clean = bodies.no-chain m h env n l k like b
    chain-sits n known l k like b (arms ⊳ arm items negated ss) proper clean =
        bodies.one-arm m h env n l k like b arms items negated ss (chain-sits n known l k like b arms proper.0 (λ f x. clean f (inl x)))
        (body-sits n known l k like b ss proper.1.1 (λ f x. clean f (inr (inr x)))) (bodies.condition m h env n known items negated proper.1.0 (λ f x. clean f (inr (inl x))))

    cases-sit : (n : Names) → Known m h env n → (l k : Option Loop) (like : SameLoop l k) (b : ℕ) (arms : Arms) → AreProperChoices arms → ((f : Fault) → ¬ MisuseInArms env arms f) → cases.Bodied m h env n l k like b arms
    cases-sit n known l k like b no_arms proper clean = cases.no-bodies m h env n l k like b
    cases-sit n known l k like b (arms ⊳ arm items negated ss) proper clean =
        cases.one-body m h env n l k like b arms items negated ss (cases-sit n known l k like b arms proper.0 (λ f x. clean f (inl x))) (body-sits n known l k like b ss proper.1.3 (λ f x. clean f (inr (inr x))))

    other-sits : (n : Names) → Known m h env n → (l k : Option Loop) → SameLoop l k → (b : ℕ) (o : Otherwise) → IsProperOtherwise o → ((f : Fault) → ¬ MisuseInOtherwise env o f) → Sits l (other_body n l o) b (held_in_other h o) (entries_of_other n k o b)
    other-sits n known l k like b nothing_else proper clean = bodies.none-sits m h env b
    other-sits n known l k like b (otherwise ss) proper clean = body-sits n known l k like b ss proper clean

-- ---- a method

module _ (n : Names) (env : Environment) (same : (name : List ℕ) → n.kind name ≡ kind_in env name) (ss : Statements) (proper : AreProperStatements ss) (clean : (f : Fault) → ¬ MisuseInStatements env ss f) (are : All IsOp (method_code n ss).ops) (few : length (bytes_of (method_code n ss)) < 2 ^ 32) where
  ends : (method_code n ss).end ≡ length (bytes_of (method_code n ss))
  ends = method-measured n n.wide ss

  abbrev whole : Whole
  whole = record { ops = (method_code n ss).ops; are = are; few = few; most = held_in n ss; starts = entries_of_method n ss }

  at-body : along.Here whole (body n None ss empty)
  at-body =
      (along.behind whole (body n None ss empty) (method_code n ss) (bare 0x32) refl refl (record { rest = []; whole = sym (append-nil (method_code n ss).ops); ends = ends })).before

  abbrev sits : bodies.Sits whole n env None (body n None ss) 0 (held_in n ss) (entries n None ss 0)
  sits = body-sits whole n env n (record { same = same; held = λ name. refl }) None None tt 0 ss proper clean

  return-is : column (bare 0x32) ≡ Ends 0
  unfolding stack.rows
  return-is = refl

  last : (d : ℕ) → along.Safe whole d (body n None ss empty).end (holds 0 [])
  last d =
      bodies.ends-safe whole n env 0x32 0 return-is (record (body n None ss empty) { statement = n.statement })
      (record { rest = []; whole = sym (append-nil (method_code n ss).ops); ends = ends }) d 0 (omega arith)

  all-safe : (d : ℕ) → bodies.AllSafe whole n env d (entries_of_method n ss)
  all-safe d = (sits.safe empty at-body d (omega arith) tt (last d)).1

  safe-along : {p : ℕ} {s : Stack} → Comes (bytes_of (method_code n ss)) (entries_of_method n ss) p s → (d : ℕ) → along.Safe whole d p s
  safe-along (Comes.begins there) d = All-contains (bodies.IsSafe whole n env d) (entries_of_method n ss) _ (all-safe d) there
  safe-along (Comes.goes_on {place} {next} {s} {t} come leads) d = All-contains (λ (x : ℕ × Stack). along.Safe whole d x.0 x.1) (onward_from (bytes_of (method_code n ss)) place s) (next, t) (safe-along come (suc d)).2 leads

  all-come : bodies.AllCome whole n env (entries_of_method n ss)
  all-come k d lt = Comes.begins (Contains-get_or (entries_of_method n ss) k d lt)

  pub depth-is : IsDepth (bytes_of (method_code n ss)) (entries_of_method n ss) (held_in n ss)
  depth-is =
      let most = sits.reach empty at-body all-come (first-entry (bodies.IsCome whole n env) n None 0 ss 0 0 all-come) in
      let greatest = safe-along most.2 0 in
      let least = most.3 in
      record { most = λ come. safe-along come 0; enough = λ come. (safe-along come 1).1; place = most.0; held = most.1; comes = most.2; as_many = omega (arith, greatest, least) }

  begins : bodies.C whole n env 0 0
  begins = first-entry (bodies.IsCome whole n env) n None 0 ss 0 0 all-come

  pub each-line : All (IsComeTo (bytes_of (method_code n ss)) (entries_of_method n ss)) (method_code n ss).lines
  each-line =
      All-push (IsComeTo (bytes_of (method_code n ss)) (entries_of_method n ss)) (body n None ss empty).lines ((body n None ss empty).end, n.statement)
      (sits.covers empty at-body tt all-come begins (All-nil (along.IsMet whole))) (holds 0 [], last-entry (bodies.IsCome whole n env) n None 0 ss 0 0 all-come)
