-- Which lines are which statements.
use Rattle.std.specs.Prelude.{◌≡◌, ℕ, suc, ◌≤◌, ◌<◌, ◌↔◌, Bool, false, List, [], ◌∷◌, ◌++◌, Some, None, IsTrue}
use Rattle.p8_tree.specs.declared.places.Place.{Place}
use Rattle.p8_tree.specs.Expressions.{Tree, Items, no_items, ◌▸◌, single}
use Rattle.p8_tree.specs.Statements as trees
use Rattle.p8_tree.specs.Statements.{Course, Forever, After, statement, Action, Arm, arm, Otherwise, nothing_else, otherwise, Statements}
use Rattle.p8_tree.specs.Statements.{no_statements, ◌▹◌, Arms, no_arms, ◌⊳◌}
use Rattle.p8_columns.specs.Lines.{Plain, If, ElseIf, Else, Repeat, End, Case, Item, Other, Line, line, column, is_opener}
use Rattle.p8_columns.specs.Columns.{innermost, AllFit}

-- where the next line of a block may stand: anywhere, or at most at a column
pub data Bound : Type 0 where
  Anywhere : Bound
  UpTo : ℕ → Bound

abbrev pub May : ℕ → Bound → Type 0
May c Anywhere = Unit {0}
May c (UpTo d) = c ≤ d

-- what stands in a block: statements, or the items of a CASE with its OTHER
pub data Contents : Type 0 where
  body : Statements → Contents
  choices : Arms → Otherwise → Contents

-- an arm of a chain
abbrev pub condition : Bool → Tree → Statements → Arm
condition negated test ss = arm (no_items ▸ single test) negated ss

-- These lines are a block with these contents. Each of them, or of the lines under it, stands at the
-- block's left edge or to the right of it: the edge is 0 in a method, and 1 more than the opener's
-- column in its block. A line to the right of an opener belongs to it, so what follows the opener's
-- block stands at most at the opener's column.
pub data Block : ℕ → Bound → Contents → List Line → Type 0 where
  no_lines : {e : ℕ} → Block e Anywhere (body no_statements) []
  plain : {e : ℕ} {b : Bound} {ss : Statements} {ls : List Line} {p : Place} {a : Action} → Block e b (body ss) ls → May p.column b → e ≤ p.column →
      Block e Anywhere (body (ss ▹ statement p a)) (ls ++ line p (Plain a) ∷ [])
  chain : {e : ℕ} {b b' : Bound} {ss inner : Statements} {ls ms : List Line} {p : Place} {negated : Bool} {test : Tree} → Block e b (body ss) ls →
      May p.column b → e ≤ p.column → Block (suc p.column) b' (body inner) ms →
      Block e (UpTo p.column) (body (ss ▹ statement p (trees.If (no_arms ⊳ condition negated test inner) nothing_else))) (ls ++ line p (If negated test) ∷ ms)
  -- the chain before it stands at its own column
  chain_on : {e : ℕ} {b' : Bound} {ss inner : Statements} {arms : Arms} {ls ms : List Line} {p : Place} {negated : Bool} {test : Tree} (q : Place) →
      Block e (UpTo q.column) (body (ss ▹ statement p (trees.If arms nothing_else))) ls → Block (suc q.column) b' (body inner) ms →
      Block e (UpTo q.column) (body (ss ▹ statement p (trees.If (arms ⊳ condition negated test inner) nothing_else))) (ls ++ line q (ElseIf negated test) ∷ ms)
  chain_end : {e : ℕ} {b' : Bound} {ss inner : Statements} {arms : Arms} {ls ms : List Line} {p : Place} (q : Place) →
      Block e (UpTo q.column) (body (ss ▹ statement p (trees.If arms nothing_else))) ls → Block (suc q.column) b' (body inner) ms →
      Block e (UpTo q.column) (body (ss ▹ statement p (trees.If arms (otherwise inner)))) (ls ++ line q Else ∷ ms)
  loop : {e : ℕ} {b b' : Bound} {ss inner : Statements} {ls ms : List Line} {p : Place} {course : Course} → Block e b (body ss) ls → May p.column b →
      e ≤ p.column → Block (suc p.column) b' (body inner) ms →
      Block e (UpTo p.column) (body (ss ▹ statement p (trees.Repeat course inner))) (ls ++ line p (Repeat course) ∷ ms)
  -- the plain REPEAT before it stands at its own column; no line belongs to it any more
  loop_end : {e : ℕ} {ss inner : Statements} {ls : List Line} {p : Place} (q : Place) (until : Bool) (test : Tree) →
      Block e (UpTo q.column) (body (ss ▹ statement p (trees.Repeat Forever inner))) ls →
      Block e Anywhere (body (ss ▹ statement p (trees.Repeat (After until test) inner))) (ls ++ line q (End until test) ∷ [])
  cases : {e : ℕ} {b b' : Bound} {ss : Statements} {arms : Arms} {other : Otherwise} {ls ms : List Line} {p : Place} {value : Tree} →
      Block e b (body ss) ls → May p.column b → e ≤ p.column → Block (suc p.column) b' (choices arms other) ms →
      Block e (UpTo p.column) (body (ss ▹ statement p (trees.Case value arms other))) (ls ++ line p (Case value) ∷ ms)
  no_cases : {e : ℕ} → Block e Anywhere (choices no_arms nothing_else) []
  item : {e : ℕ} {b b' : Bound} {arms : Arms} {inner : Statements} {ls ms : List Line} {tests : Items} (p : Place) →
      Block e b (choices arms nothing_else) ls → May p.column b → e ≤ p.column → Block (suc p.column) b' (body inner) ms →
      Block e (UpTo p.column) (choices (arms ⊳ arm tests false inner) nothing_else) (ls ++ line p (Item tests) ∷ ms)
  last_item : {e : ℕ} {b b' : Bound} {arms : Arms} {inner : Statements} {ls ms : List Line} (p : Place) → Block e b (choices arms nothing_else) ls →
      May p.column b → e ≤ p.column → Block (suc p.column) b' (body inner) ms →
      Block e (UpTo p.column) (choices arms (otherwise inner)) (ls ++ line p Other ∷ ms)

-- the lines of a method are these statements
abbrev pub AreStatements : Statements → List Line → Type 0
AreStatements ss lines = (b : Bound) × Block 0 b (body ss) lines

-- Lines are statements exactly where each of them fits after those before it.
abbrev pub FitTogether : Type 0
FitTogether = (lines : List Line) → AllFit lines ↔ ((ss : Statements) × AreStatements ss lines)

-- Lines are at most one list of statements.
abbrev pub OneReading : Type 0
OneReading = (lines : List Line) (ss tt' : Statements) → AreStatements ss lines → AreStatements tt' lines → ss ≡ tt'

-- In the method itself a line may stand next exactly where no line so far is open for it.
abbrev pub MethodIsInnermost : Type 0
MethodIsInnermost = (b : Bound) (x : Contents) (lines : List Line) (c : ℕ) → Block 0 b x lines → May c b ↔ (innermost c lines ≡ None)

-- In an opener's block a line may stand next exactly where that opener is its innermost open block:
-- the last opener to the left of it such that every line since is to the right of the opener.
abbrev pub OpenerIsInnermost : Type 0
OpenerIsInnermost = (before : List Line) (opener : Line) (b : Bound) (x : Contents) (lines : List Line) (c : ℕ) → IsTrue (is_opener opener.kind) →
    Block (suc (column opener)) b x lines → (May c b × (column opener < c)) ↔
    (innermost c (before ++ opener ∷ lines) ≡ Some (record { opener = opener; since = lines }))
