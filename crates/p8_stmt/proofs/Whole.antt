-- Each bytecode of statements is one that there is, form by form.
use Rattle.std.proofs.Common.{◌≡◌, ℕ, Bool, true, false, not, inl, inr, arith, Option, Some, None, List, refl}
use Rattle.p8_tree.specs.declared.places.Place.{Place}
use Rattle.p8_tree.specs.Expressions.{Tree, Items, no_items, ◌▸◌, single, range}
use Rattle.p8_tree.specs.Statements.{Forever, Count, Before, After, From, Statement, statement, Action, Do, If, Case, Repeat, Next, Quit, Return, Abort, arm, Otherwise, nothing_else, otherwise, Statements, no_statements, ◌▹◌, Arms, no_arms, ◌⊳◌}
use Rattle.p8_tree.specs.Proper.{IfThere, IsProperExpression, IsCondition, AreProperTests, IsProperStatement, IsProperAction, AreProperArms, AreProperChoices, IsProperOtherwise, AreProperStatements}
use Rattle.p8_bytecode.specs.Table.{rows}
use Rattle.p8_tree.specs.declared.faults.Fault.{Fault}
use Rattle.p8_kinds.specs.Environments.{Environment, kind_in}
use Rattle.p8_kinds.specs.Misuses.{MisuseInOption, MisuseInItems, MisuseInStatements, MisuseInStatement, MisuseInAction, MisuseInArms, MisuseInOtherwise}
use Rattle.p8_gen.specs.Names.{Names}
use Rattle.p8_gen.specs.Pieces.{Piece, empty, from_start, byte, jump}
use Rattle.p8_gen.specs.Variables.{home_of, Pop}
use Rattle.p8_gen.specs.Expressions.{value}
use Rattle.p8_gen.specs.Operations.{HaveBytes, AreWhole}
use Rattle.p8_gen.specs.Methods.{method_code}
use Rattle.p8_gen.specs.Statements.{Loop, inside, goes_on, leaves, with_value, test_of, tests, zero_jump, step_of, step_effect, code, code_of, body, chain, other_body, all_tests, case_bodies}
use Rattle.p8_stmt.specs.Methods.{AreResolved}
use Rattle.p8_gen.proofs.Sound.{Sound, nothings, both, of, ups, up-jumps, either, bares, jumps, plain, plain_jumping, IsStepEffect}
use Rattle.p8_gen.proofs.Spelled.{value_sound, alone_whole, home_placed}

froms : {p : ℕ → Piece} → ((to : ℕ) → Sound (p to)) → Sound (from_start p)
froms each = record { keeps = λ w h. (each w.end).keeps w h }

-- ---- jumps, and bytecodes with nothing beside their byte

goto : (wide : ℕ → Bool) (s : Place) (to : ℕ) → Sound (jump wide s 0x04 to)
unfolding rows
goto wide s to = jumps wide s 0x04 to refl

goto_none : (wide : ℕ → Bool) (s : Place) (to : ℕ) → Sound (jump wide s 0x08 to)
unfolding rows
goto_none wide s to = jumps wide s 0x08 to refl

goto_more : (wide : ℕ → Bool) (s : Place) (to : ℕ) → Sound (jump wide s 0x09 to)
unfolding rows
goto_more wide s to = jumps wide s 0x09 to refl

goto_zero : (wide : ℕ → Bool) (s : Place) (negated : Bool) (to : ℕ) → Sound (jump wide s (zero_jump negated) to)
unfolding rows
goto_zero wide s true to = jumps wide s 0x0B to refl
goto_zero wide s false to = jumps wide s 0x0A to refl

goto_choice : (wide : ℕ → Bool) (s : Place) (to : ℕ) → Sound (jump wide s 0x0D to)
unfolding rows
goto_choice wide s to = jumps wide s 0x0D to refl

goto_range : (wide : ℕ → Bool) (s : Place) (to : ℕ) → Sound (jump wide s 0x0E to)
unfolding rows
goto_range wide s to = jumps wide s 0x0E to refl

drop_choice : Sound (byte 0x0C)
unfolding rows
drop_choice = bares 0x0C refl

drop_count : Sound (byte 0x14)
unfolding rows
drop_count = bares 0x14 refl

abort_alone : Sound (byte 0x30)
unfolding rows
abort_alone = bares 0x30 refl

abort_value : Sound (byte 0x31)
unfolding rows
abort_value = bares 0x31 refl

return_alone : Sound (byte 0x32)
unfolding rows
return_alone = bares 0x32 refl

return_value : Sound (byte 0x33)
unfolding rows
return_value = bares 0x33 refl

step_is : (e : Option Tree) → IsStepEffect (step_effect e)
step_is None = refl
step_is (Some e) = refl

next_sound : (n : Names) (l : Option Loop) → Sound (goes_on n l)
next_sound n None = nothings
next_sound n (Some l) = goto n.wide n.statement l.next

quit_sound : (n : Names) (l : Option Loop) → Sound (leaves n l)
quit_sound n None = nothings
quit_sound n (Some l) = both (either l.counted drop_count nothings) (goto n.wide n.statement l.quit)

module _ (env : Environment) where
  -- what is known of names in every statement
  pub record Known (n : Names) : Type 0 where
    pub few : HaveBytes n
    pub same : (name : List ℕ) → n.kind name ≡ kind_in env name

  at : {n : Names} (s : Place) → Known n → Known (record n { statement = s })
  at s k = record { few = record { kinds = k.few.kinds; publics = k.few.publics }; same = k.same }

  expression_sound : (n : Names) → Known n → (e : Tree) → IsProperExpression false e → ((f : Fault) → ¬ MisuseInOption env (Some e) f) → Sound (value n e)
  expression_sound n k e proper clean = value_sound n k.few env k.same e proper.0 clean

  with_sound : (n : Names) → Known n → (e : Option Tree) (a b : ℕ) → Sound (byte a) → Sound (byte b) → IfThere (IsProperExpression false) e → ((f : Fault) → ¬ MisuseInOption env e f) → Sound (with_value n e a b)
  with_sound n k None a b alone behind proper clean = alone
  with_sound n k (Some e) a b alone behind proper clean = both (expression_sound n k e proper clean) behind

  step_sound : (n : Names) → Known n → (e : Option Tree) → IfThere (IsProperExpression false) e → ((f : Fault) → ¬ MisuseInOption env e f) → Sound (step_of n e)
  step_sound n k None proper clean = nothings
  step_sound n k (Some e) proper clean = expression_sound n k e proper clean

  test_sound : (n : Names) → Known n → (xs : Items) → IsCondition xs → ((f : Fault) → ¬ MisuseInItems env xs f) → Sound (test_of n xs)
  test_sound n k (no_items ▸ single e) proper clean = expression_sound n k e proper (λ f x. clean f (inr x))
  test_sound n k no_items proper clean = nothings
  test_sound n k (no_items ▸ range a b) proper clean = nothings
  test_sound n k (xs ▸ y ▸ x) proper clean = nothings

  tests_sound : (n : Names) → Known n → (to : ℕ) (xs : Items) → AreProperTests xs → ((f : Fault) → ¬ MisuseInItems env xs f) → Sound (tests n to xs)
  tests_sound n k to no_items proper clean = nothings
  tests_sound n k to (xs ▸ single e) proper clean =
      both (both (tests_sound n k to xs proper.0 (λ f x. clean f (inl x))) (expression_sound n k e proper.1 (λ f x. clean f (inr x)))) (goto_choice n.wide n.statement to)
  tests_sound n k to (xs ▸ range a b) proper clean =
      both (both (both (tests_sound n k to xs proper.0 (λ f x. clean f (inl x))) (expression_sound n k a proper.1.0 (λ f x. clean f (inr (inl x)))))
      (expression_sound n k b proper.1.1 (λ f x. clean f (inr (inr x))))) (goto_range n.wide n.statement to)

  tests_of_sound : (n : Names) → Known n → (l : Option Loop) (first before : ℕ) (xs : Arms) → AreProperChoices xs → ((f : Fault) → ¬ MisuseInArms env xs f) → Sound (all_tests n l first before xs)
  tests_of_sound n k l first before no_arms proper clean = nothings
  tests_of_sound n k l first before (xs ⊳ arm items negated ss) proper clean =
      both (tests_of_sound n k l first before xs proper.0 (λ f x. clean f (inl x))) (tests_sound n k _ items proper.1.2 (λ f x. clean f (inr (inl x))))

  mutual
    pub body_sound : (n : Names) → Known n → (l : Option Loop) (ss : Statements) → AreProperStatements ss → ((f : Fault) → ¬ MisuseInStatements env ss f) → Sound (body n l ss)
    body_sound n k l no_statements proper clean = nothings
    body_sound n k l (ss ▹ s) proper clean = both (body_sound n k l ss proper.0 (λ f x. clean f (inl x))) (code_sound n k l s proper.1 (λ f x. clean f (inr x)))

    code_sound : (n : Names) → Known n → (l : Option Loop) (s : Statement) → IsProperStatement s → ((f : Fault) → ¬ MisuseInStatement env s f) → Sound (code n l s)
    code_sound n k l (statement place action) proper clean = of place (action_sound (record n { statement = place }) (at place k) l action proper clean)

    action_sound : (n : Names) → Known n → (l : Option Loop) (a : Action) → IsProperAction a → ((f : Fault) → ¬ MisuseInAction env a f) → Sound (code_of n l a)
    action_sound n k l (Do e) proper clean = alone_whole n k.few env k.same e proper clean
    action_sound n k l (If arms nothing_else) proper clean =
        ups (λ to. chain_sound n k l _ _ (goto n.wide n.statement to) nothings arms proper.1 (λ f x. clean f (inl x)))
    action_sound n k l (If arms (otherwise ss)) proper clean =
        ups (λ to. both (chain_sound n k l _ _ (goto n.wide n.statement to) (goto n.wide n.statement to) arms proper.1 (λ f x. clean f (inl x))) (body_sound n k l ss proper.2 (λ f x. clean f (inr x))))
    action_sound n k l (Case e arms other) proper clean =
        ups (λ to. both
        (up-jumps (λ first before. both (both (both (both (expression_sound n k e proper.0 (λ f x. clean f (inl (inl x)))) (tests_of_sound n k l first before arms proper.1 (λ f x. clean f (inl (inr x))))) drop_choice)
        (other_sound n k l other proper.2 (λ f x. clean f (inr x)))) (goto n.wide n.statement to)))
        (bodies_sound n k l to arms proper.1 (λ f x. clean f (inl (inr x)))))
    action_sound n k l (Repeat Forever ss) proper clean =
        ups (λ to. froms (λ start. both (body_sound n k (inside start to false) ss proper.1 (λ f x. clean f (inr x))) (goto n.wide n.statement start)))
    action_sound n k l (Repeat (Count e) ss) proper clean =
        ups (λ to. both (both (expression_sound n k e proper.0 (λ f x. clean f (inl x))) (goto_none n.wide n.statement to))
        (froms (λ start. both (ups (λ next. body_sound n k (inside next to true) ss proper.1 (λ f x. clean f (inr x)))) (goto_more n.wide n.statement start))))
    action_sound n k l (Repeat (Before until e) ss) proper clean =
        ups (λ to. froms (λ start. both (both (both (expression_sound n k e proper.0 (λ f x. clean f (inl x))) (goto_zero n.wide n.statement until to))
        (body_sound n k (inside start to false) ss proper.1 (λ f x. clean f (inr x)))) (goto n.wide n.statement start)))
    action_sound n k l (Repeat (After until e) ss) proper clean =
        ups (λ to. froms (λ start. both (both (ups (λ next. body_sound n k (inside next to false) ss proper.1 (λ f x. clean f (inr x))))
        (expression_sound n k e proper.0 (λ f x. clean f (inl x)))) (goto_zero n.wide n.statement (not until) start)))
    action_sound n k l (Repeat (From name a b step q) ss) proper clean =
        let first = expression_sound n k a proper.0.1 (λ f x. clean f (inl (inr (inl (inl x))))) in
        ups (λ to. both (both first (plain (home_of n name) Pop (home_placed n k.few env k.same name (n.kind name)) tt))
        (froms (λ start. both (both (both (both (ups (λ next. body_sound n k (inside next to false) ss proper.1 (λ f x. clean f (inr x))))
        (step_sound n k step proper.0.3 (λ f x. clean f (inl (inr (inr x)))))) first) (expression_sound n k b proper.0.2 (λ f x. clean f (inl (inr (inl (inr x)))))))
        (plain_jumping n.wide n.statement (home_of n name) (step_effect step) start (home_placed n k.few env k.same name (n.kind name)) (step_is step)))))
    action_sound n k l Next proper clean = next_sound n l
    action_sound n k l Quit proper clean = quit_sound n l
    action_sound n k l (Return e) proper clean = with_sound n k e 0x32 0x33 return_alone return_value proper clean
    action_sound n k l (Abort e) proper clean = with_sound n k e 0x30 0x31 abort_alone abort_value proper clean

    chain_sound : (n : Names) → Known n → (l : Option Loop) (further last : Piece) → Sound further → Sound last → (xs : Arms) → AreProperArms xs → ((f : Fault) → ¬ MisuseInArms env xs f) → Sound (chain n l further last xs)
    chain_sound n k l further last x y no_arms proper clean = nothings
    chain_sound n k l further last x y (xs ⊳ arm items negated ss) proper clean =
        both (chain_sound n k l further further x x xs proper.0 (λ f z. clean f (inl z)))
        (ups (λ next. both (both (both (test_sound n k items proper.1.0 (λ f z. clean f (inr (inl z)))) (goto_zero n.wide n.statement negated next))
        (body_sound n k l ss proper.1.1 (λ f z. clean f (inr (inr z))))) y))

    other_sound : (n : Names) → Known n → (l : Option Loop) (o : Otherwise) → IsProperOtherwise o → ((f : Fault) → ¬ MisuseInOtherwise env o f) → Sound (other_body n l o)
    other_sound n k l nothing_else proper clean = nothings
    other_sound n k l (otherwise ss) proper clean = body_sound n k l ss proper clean

    bodies_sound : (n : Names) → Known n → (l : Option Loop) (to : ℕ) (xs : Arms) → AreProperChoices xs → ((f : Fault) → ¬ MisuseInArms env xs f) → Sound (case_bodies n l to xs)
    bodies_sound n k l to no_arms proper clean = nothings
    bodies_sound n k l to (xs ⊳ arm items negated ss) proper clean =
        both (both (both (bodies_sound n k l to xs proper.0 (λ f x. clean f (inl x))) drop_choice) (body_sound n k l ss proper.1.3 (λ f x. clean f (inr (inr x))))) (goto n.wide n.statement to)

none_whole : AreWhole empty
none_whole = record { each = λ near k d lt. absurd (omega arith) }

pub method_whole : (n : Names) (ss : Statements) → AreResolved n ss → AreWhole (method_code n ss)
method_whole n ss is = (both (body_sound is.environment n (record { few = is.bytes; same = is.kinds }) None ss is.proper is.clean) (of n.statement return_alone)).keeps empty none_whole
