-- Proper statements, but for their places, are lines of a method that are such as are read of a source.
use Rattle.std.proofs.Common.{◌≡◌, ℕ, suc, ◌≤◌, Bool, false, List, [], ◌∷◌, ◌++◌, refl, sym, ap, subst, arith}
use Rattle.std.specs.Prelude.{IsTrue, not}
use Rattle.std.specs.List.{AllByRecursion as Each}
use Rattle.p8_tree.specs.declared.places.Place.{Place}
use Rattle.p8_tree.specs.Expressions.{Tree, Items, no_items, ◌▸◌, single}
use Rattle.p8_tree.specs.Statements as trees
use Rattle.p8_tree.specs.Statements.{Course, Forever, After, statement, Action, Do, Next, Quit, Return, Abort, arm, Otherwise, nothing_else, otherwise, Statements, no_statements, ◌▹◌, Arms, no_arms, ◌⊳◌}
use Rattle.p8_tree.specs.Forgetting.{anywhere, tree_anywhere, items_anywhere, course_anywhere, action_anywhere, otherwise_anywhere, statements_anywhere, arms_anywhere}
use Rattle.p8_tree.specs.Proper.{is_no_arm, IsProperAction, AreProperArms, AreProperChoices, AreProperStatements}
use Rattle.p8_columns.specs.Lines.{Kind, Plain, If, ElseIf, Else, Repeat, End, Case, Item, Other, Line, line}
use Rattle.p8_columns.specs.Blocks.{Bound, Anywhere, UpTo, May, body, choices, condition, Block, no_lines, plain, chain, chain_on, chain_end, loop, loop_end, cases, no_cases, item, last_item}
use Rattle.p8_printed.proofs.Elements.{each_append}
use Rattle.p8_printed.proofs.MethodLines.{IsValue, IsCourse, AreSomeTests, IsAction, IsLine}
use Rattle.p8_printed.proofs.ProperAgain.{Again, method_again}
use Rattle.p8_printed.proofs.AgainLines.{action_again, course_again, item_again}

-- lines that stand at a block's left edge

abbrev at : ℕ → Place
at c = record { line = 0; column = c }

abbrev AreLines : List Line → Type 0
AreLines ls = Each (λ l. IsLine l.kind) ls

one_more : (ls : List Line) (p : Place) (k : Kind) (ms : List Line) → AreLines ls → IsLine k → AreLines ms → AreLines (ls ++ line p k ∷ ms)
one_more ls p k ms h r i = each_append (λ l. IsLine l.kind) ls (line p k ∷ ms) h (r, i)

pub record BodyAgain (e : ℕ) (ss : Statements) : Type 0 where
  pub statements : Statements
  pub same : statements_anywhere statements ≡ statements_anywhere ss
  pub bound : Bound
  pub lines : List Line
  pub block : Block e bound (body statements) lines
  pub may : May e bound
  pub reads : AreLines lines

-- a chain that may go on
record ChainAgain (e : ℕ) (ss : Statements) (arms : Arms) : Type 0 where
  before : Statements
  same_before : statements_anywhere before ≡ statements_anywhere ss
  chained : Arms
  same : arms_anywhere chained ≡ arms_anywhere arms
  lines : List Line
  block : Block e (UpTo e) (body (before ▹ statement (at e) (trees.If chained nothing_else))) lines
  reads : AreLines lines

record ChoicesAgain (e : ℕ) (arms : Arms) (other : Otherwise) : Type 0 where
  items : Arms
  same : arms_anywhere items ≡ arms_anywhere arms
  rest : Otherwise
  same_rest : otherwise_anywhere rest ≡ otherwise_anywhere other
  bound : Bound
  lines : List Line
  block : Block e bound (choices items rest) lines
  may : May e bound
  reads : AreLines lines

no_more : (e : ℕ) → e ≤ e
no_more e = omega arith

plain_line : (e : ℕ) (ss : Statements) (p : Place) (a : Action) → BodyAgain e ss → Again IsAction action_anywhere a → BodyAgain e (ss ▹ statement p a)
plain_line e ss p a r k = record {
  statements = r.statements ▹ statement (at e) k.other;
  same = λ i. r.same i ▹ statement anywhere (k.same i);
  bound = Anywhere;
  lines = r.lines ++ line (at e) (Plain k.other) ∷ [];
  block = plain r.block r.may (no_more e);
  may = tt;
  reads = one_more r.lines (at e) (Plain k.other) [] r.reads k.holds tt;
}

first_arm : (e : ℕ) (ss inner : Statements) (negated : Bool) (test : Tree) → BodyAgain e ss → Again IsValue tree_anywhere test → BodyAgain (suc e) inner → ChainAgain e ss (no_arms ⊳ arm (no_items ▸ single test) negated inner)
first_arm e ss inner negated test r k i = record {
  before = r.statements;
  same_before = r.same;
  chained = no_arms ⊳ condition negated k.other i.statements;
  same = λ j. no_arms ⊳ arm (no_items ▸ single (k.same j)) negated (i.same j);
  lines = r.lines ++ line (at e) (If negated k.other) ∷ i.lines;
  block = chain r.block r.may (no_more e) i.block;
  reads = one_more r.lines (at e) (If negated k.other) i.lines r.reads k.holds i.reads;
}

next_arm : (e : ℕ) (ss inner : Statements) (arms : Arms) (negated : Bool) (test : Tree) → ChainAgain e ss arms → Again IsValue tree_anywhere test → BodyAgain (suc e) inner → ChainAgain e ss (arms ⊳ arm (no_items ▸ single test) negated inner)
next_arm e ss inner arms negated test r k i = record {
  before = r.before;
  same_before = r.same_before;
  chained = r.chained ⊳ condition negated k.other i.statements;
  same = λ j. r.same j ⊳ arm (no_items ▸ single (k.same j)) negated (i.same j);
  lines = r.lines ++ line (at e) (ElseIf negated k.other) ∷ i.lines;
  block = chain_on (at e) r.block i.block;
  reads = one_more r.lines (at e) (ElseIf negated k.other) i.lines r.reads k.holds i.reads;
}

chain_alone : (e : ℕ) (ss : Statements) (p : Place) (arms : Arms) → ChainAgain e ss arms → BodyAgain e (ss ▹ statement p (trees.If arms nothing_else))
chain_alone e ss p arms r = record {
  statements = r.before ▹ statement (at e) (trees.If r.chained nothing_else);
  same = λ i. r.same_before i ▹ statement anywhere (trees.If (r.same i) nothing_else);
  bound = UpTo e;
  lines = r.lines;
  block = r.block;
  may = no_more e;
  reads = r.reads;
}

chain_with_else : (e : ℕ) (ss inner : Statements) (p : Place) (arms : Arms) → ChainAgain e ss arms → BodyAgain (suc e) inner → BodyAgain e (ss ▹ statement p (trees.If arms (otherwise inner)))
chain_with_else e ss inner p arms r i = record {
  statements = r.before ▹ statement (at e) (trees.If r.chained (otherwise i.statements));
  same = λ j. r.same_before j ▹ statement anywhere (trees.If (r.same j) (otherwise (i.same j)));
  bound = UpTo e;
  lines = r.lines ++ line (at e) Else ∷ i.lines;
  block = chain_end (at e) r.block i.block;
  may = no_more e;
  reads = one_more r.lines (at e) Else i.lines r.reads tt i.reads;
}

loop_line : (e : ℕ) (ss inner : Statements) (p : Place) (c : Course) → BodyAgain e ss → Again IsCourse course_anywhere c → BodyAgain (suc e) inner → BodyAgain e (ss ▹ statement p (trees.Repeat c inner))
loop_line e ss inner p c r k i = record {
  statements = r.statements ▹ statement (at e) (trees.Repeat k.other i.statements);
  same = λ j. r.same j ▹ statement anywhere (trees.Repeat (k.same j) (i.same j));
  bound = UpTo e;
  lines = r.lines ++ line (at e) (Repeat k.other) ∷ i.lines;
  block = loop r.block r.may (no_more e) i.block;
  may = no_more e;
  reads = one_more r.lines (at e) (Repeat k.other) i.lines r.reads k.holds i.reads;
}

loop_with_end : (e : ℕ) (ss inner : Statements) (p : Place) (until : Bool) (test : Tree) → BodyAgain e ss → Again IsValue tree_anywhere test → BodyAgain (suc e) inner → BodyAgain e (ss ▹ statement p (trees.Repeat (After until test) inner))
loop_with_end e ss inner p until test r k i =
    let begun = r.lines ++ line (at e) (Repeat Forever) ∷ i.lines in
    record {
      statements = r.statements ▹ statement (at e) (trees.Repeat (After until k.other) i.statements);
      same = λ j. r.same j ▹ statement anywhere (trees.Repeat (After until (k.same j)) (i.same j));
      bound = Anywhere;
      lines = begun ++ line (at e) (End until k.other) ∷ [];
      block = loop_end (at e) until k.other (loop r.block r.may (no_more e) i.block);
      may = tt;
      reads = one_more begun (at e) (End until k.other) [] (one_more r.lines (at e) (Repeat Forever) i.lines r.reads tt i.reads) k.holds tt;
    }

case_line : (e : ℕ) (ss : Statements) (p : Place) (value : Tree) (arms : Arms) (other : Otherwise) → BodyAgain e ss → Again IsValue tree_anywhere value → ChoicesAgain (suc e) arms other → BodyAgain e (ss ▹ statement p (trees.Case value arms other))
case_line e ss p value arms other r k i = record {
  statements = r.statements ▹ statement (at e) (trees.Case k.other i.items i.rest);
  same = λ j. r.same j ▹ statement anywhere (trees.Case (k.same j) (i.same j) (i.same_rest j));
  bound = UpTo e;
  lines = r.lines ++ line (at e) (Case k.other) ∷ i.lines;
  block = cases r.block r.may (no_more e) i.block;
  may = no_more e;
  reads = one_more r.lines (at e) (Case k.other) i.lines r.reads k.holds i.reads;
}

next_item : (e : ℕ) (arms : Arms) (tests : Items) (inner : Statements) → ChoicesAgain e arms nothing_else → Again AreSomeTests items_anywhere tests → BodyAgain (suc e) inner → ChoicesAgain e (arms ⊳ arm tests false inner) nothing_else
next_item e arms tests inner r k i = go r.rest r.same_rest r.block
  where
    go : (o : Otherwise) → otherwise_anywhere o ≡ nothing_else → Block e r.bound (choices r.items o) r.lines → ChoicesAgain e (arms ⊳ arm tests false inner) nothing_else
    go nothing_else h b = record {
      items = r.items ⊳ arm k.other false i.statements;
      same = λ j. r.same j ⊳ arm (k.same j) false (i.same j);
      rest = nothing_else;
      same_rest = refl;
      bound = UpTo e;
      lines = r.lines ++ line (at e) (Item k.other) ∷ i.lines;
      block = item (at e) b r.may (no_more e) i.block;
      may = no_more e;
      reads = one_more r.lines (at e) (Item k.other) i.lines r.reads k.holds i.reads;
    }
    go (otherwise ss) h b = absurd cc

last_of_items : (e : ℕ) (arms : Arms) (inner : Statements) → ChoicesAgain e arms nothing_else → BodyAgain (suc e) inner → ChoicesAgain e arms (otherwise inner)
last_of_items e arms inner r i = go r.rest r.same_rest r.block
  where
    go : (o : Otherwise) → otherwise_anywhere o ≡ nothing_else → Block e r.bound (choices r.items o) r.lines → ChoicesAgain e arms (otherwise inner)
    go nothing_else h b = record {
      items = r.items;
      same = r.same;
      rest = otherwise i.statements;
      same_rest = ap otherwise i.same;
      bound = UpTo e;
      lines = r.lines ++ line (at e) Other ∷ i.lines;
      block = last_item (at e) b r.may (no_more e) i.block;
      may = no_more e;
      reads = one_more r.lines (at e) Other i.lines r.reads tt i.reads;
    }
    go (otherwise ss) h b = absurd cc

-- all statements

mutual
  pub body_again : (e : ℕ) (ss : Statements) → AreProperStatements ss → BodyAgain e ss
  body_again e no_statements h = record { statements = no_statements; same = refl; bound = Anywhere; lines = []; block = no_lines; may = tt; reads = tt }
  body_again e (ss ▹ statement p a) h = statement_again e ss p a (body_again e ss h.0) h.1

  statement_again : (e : ℕ) (ss : Statements) (p : Place) (a : Action) → BodyAgain e ss → IsProperAction a → BodyAgain e (ss ▹ statement p a)
  statement_again e ss p (trees.If arms nothing_else) r h = chain_alone e ss p arms (chain_again e ss arms r h.1 h.0)
  statement_again e ss p (trees.If arms (otherwise inner)) r h = chain_with_else e ss inner p arms (chain_again e ss arms r h.1 h.0) (body_again (suc e) inner h.2)
  statement_again e ss p (trees.Case value arms nothing_else) r h = case_line e ss p value arms nothing_else r (method_again value h.0) (items_again (suc e) arms h.1)
  statement_again e ss p (trees.Case value arms (otherwise inner)) r h =
      case_line e ss p value arms (otherwise inner) r (method_again value h.0) (last_of_items (suc e) arms inner (items_again (suc e) arms h.1) (body_again (suc (suc e)) inner h.2))
  statement_again e ss p (trees.Repeat (After until test) inner) r h = loop_with_end e ss inner p until test r (method_again test h.0) (body_again (suc e) inner h.1)
  statement_again e ss p (trees.Repeat Forever inner) r h = loop_line e ss inner p Forever r (course_again Forever refl h.0) (body_again (suc e) inner h.1)
  statement_again e ss p (trees.Repeat (trees.Count d) inner) r h = loop_line e ss inner p (trees.Count d) r (course_again (trees.Count d) refl h.0) (body_again (suc e) inner h.1)
  statement_again e ss p (trees.Repeat (trees.Before until d) inner) r h = loop_line e ss inner p (trees.Before until d) r (course_again (trees.Before until d) refl h.0) (body_again (suc e) inner h.1)
  statement_again e ss p (trees.Repeat (trees.From n a b step q) inner) r h = loop_line e ss inner p (trees.From n a b step q) r (course_again (trees.From n a b step q) refl h.0) (body_again (suc e) inner h.1)
  statement_again e ss p (Do d) r h = plain_line e ss p (Do d) r (action_again (Do d) refl h)
  statement_again e ss p Next r h = plain_line e ss p Next r (action_again Next refl h)
  statement_again e ss p Quit r h = plain_line e ss p Quit r (action_again Quit refl h)
  statement_again e ss p (Return o) r h = plain_line e ss p (Return o) r (action_again (Return o) refl h)
  statement_again e ss p (Abort o) r h = plain_line e ss p (Abort o) r (action_again (Abort o) refl h)

  -- the arms of a chain
  chain_again : (e : ℕ) (ss : Statements) (arms : Arms) → BodyAgain e ss → AreProperArms arms → IsTrue (not (is_no_arm arms)) → ChainAgain e ss arms
  chain_again e ss no_arms r h some = absurd cc
  chain_again e ss (no_arms ⊳ arm (no_items ▸ single d) negated inner) r h some = first_arm e ss inner negated d r (method_again d h.1.0) (body_again (suc e) inner h.1.1)
  chain_again e ss (xs ⊳ x ⊳ arm (no_items ▸ single d) negated inner) r h some = next_arm e ss inner (xs ⊳ x) negated d (chain_again e ss (xs ⊳ x) r h.0 refl) (method_again d h.1.0) (body_again (suc e) inner h.1.1)
  chain_again e ss (xs ⊳ arm tests negated inner) r h some = absurd (let z = h.1.0 in z)

  -- the items of a CASE
  items_again : (e : ℕ) (arms : Arms) → AreProperChoices arms → ChoicesAgain e arms nothing_else
  items_again e no_arms h = record { items = no_arms; same = refl; rest = nothing_else; same_rest = refl; bound = Anywhere; lines = []; block = no_cases; may = tt; reads = tt }
  items_again e (xs ⊳ arm tests negated inner) h =
      subst (λ b. ChoicesAgain e (xs ⊳ arm tests b inner) nothing_else) (sym h.1.0)
      (next_item e xs tests inner (items_again e xs h.0) (item_again tests h.1.1 h.1.2) (body_again (suc e) inner h.1.3))
