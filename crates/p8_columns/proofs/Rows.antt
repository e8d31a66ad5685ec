-- Worked lines, and the statements that they are.
use Rattle.std.proofs.Common.{◌≡◌, ℕ, inl, inr, List, [], ◌∷◌, ◌++◌, Bool, true, false, refl}
use Rattle.std.specs.Prelude.{◌||◌}
use Rattle.std.specs.List.{list_any}
use Rattle.p8_tree.specs.declared.places.Place.{Place}
use Rattle.p8_tree.specs.Expressions.{Tree, Items}
use Rattle.p8_tree.specs.Statements as trees
use Rattle.p8_tree.specs.Statements.{Forever, Count, After, Action, statement, arm, nothing_else, otherwise, no_statements, ◌▹◌, no_arms, ◌⊳◌}
use Rattle.p8_columns.specs.Lines.{Plain, If, ElseIf, Else, Repeat, End, Case, Item, Other, Line, line, is_other}
use Rattle.p8_columns.specs.Columns.{AllFit, Fits, OtherAfter}
use Rattle.p8_columns.specs.Blocks.{AreStatements, condition}
use Rattle.p8_columns.specs.Reader.{start, walk, whole}
use Rattle.p8_columns.proofs.Reading.{stands_all, sound}

abbrev place : ℕ → ℕ → Place
place l c = record { line = l; column = c }

-- lines that fit are what the reader reads
reads : (lines : List Line) → AllFit lines → AreStatements (whole (walk start lines)) lines
reads lines h = sound (walk start lines) lines (stands_all lines h)

neither : (a b : Bool) → (a || b) ≡ false → (a ≡ false) × (b ≡ false)
neither true b h = absurd cc
neither false b h = (refl, h)

none_other : (before ls : List Line) → list_any (λ l. is_other l.kind) ls ≡ false → ¬ OtherAfter before ls
none_other before [] h x = x
none_other before (l ∷ ls) h (inl x) = let n = (neither (is_other l.kind) _ h).0 in let y = x.0 in cc
none_other before (l ∷ ls) h (inr x) = none_other (before ++ l ∷ []) ls (neither (is_other l.kind) _ h).1 x

-- REPEAT at column 3, and lines at the columns 7 and 5
pub two_under_a_loop : (a b : Action) → AreStatements (no_statements ▹ statement (place 1 3) (trees.Repeat Forever (no_statements ▹ statement (place 2 7) a ▹ statement (place 3 5) b))) (line (place 1 3) (Repeat Forever) ∷ line (place 2 7) (Plain a) ∷ line (place 3 5) (Plain b) ∷ [])
two_under_a_loop a b = reads (line (place 1 3) (Repeat Forever) ∷ line (place 2 7) (Plain a) ∷ line (place 3 5) (Plain b) ∷ []) (tt, (λ h. cc, (λ h. cc, tt)))

-- IF, ELSEIFNOT and ELSE
pub chain_of_three : (t u : Tree) (a b c : Action) → AreStatements (no_statements ▹ statement (place 1 3) (trees.If (no_arms ⊳ condition false t (no_statements ▹ statement (place 2 5) a) ⊳ condition true u (no_statements ▹ statement (place 4 5) b)) (otherwise (no_statements ▹ statement (place 6 5) c)))) (line (place 1 3) (If false t) ∷ line (place 2 5) (Plain a) ∷ line (place 3 3) (ElseIf true u) ∷ line (place 4 5) (Plain b) ∷ line (place 5 3) Else ∷ line (place 6 5) (Plain c) ∷ [])
chain_of_three t u a b c = reads (line (place 1 3) (If false t) ∷ line (place 2 5) (Plain a) ∷ line (place 3 3) (ElseIf true u) ∷ line (place 4 5) (Plain b) ∷ line (place 5 3) Else ∷ line (place 6 5) (Plain c) ∷ []) (tt, (λ h. cc, ((refl, refl), (λ h. cc, ((refl, refl), (λ h. cc, tt))))))

-- CASE with an item, whose first statement stands after its colon, and OTHER
pub case_with_other : (e : Tree) (ts : Items) (a b c : Action) → AreStatements (no_statements ▹ statement (place 1 3) (trees.Case e (no_arms ⊳ arm ts false (no_statements ▹ statement (place 2 8) a ▹ statement (place 3 7) b)) (otherwise (no_statements ▹ statement (place 4 12) c)))) (line (place 1 3) (Case e) ∷ line (place 2 5) (Item ts) ∷ line (place 2 8) (Plain a) ∷ line (place 3 7) (Plain b) ∷ line (place 4 5) Other ∷ line (place 4 12) (Plain c) ∷ [])
case_with_other e ts a b c = reads (line (place 1 3) (Case e) ∷ line (place 2 5) (Item ts) ∷ line (place 2 8) (Plain a) ∷ line (place 3 7) (Plain b) ∷ line (place 4 5) Other ∷ line (place 4 12) (Plain c) ∷ []) (tt, ((refl, λ h. h), (λ h. cc, (λ h. cc, ((refl, none_other [] (line (place 2 5) (Item ts) ∷ line (place 2 8) (Plain a) ∷ line (place 3 7) (Plain b) ∷ []) refl), (λ h. cc, tt))))))

-- a REPEAT that UNTIL ends, and a line to the right of both
pub loop_with_until : (t : Tree) (a b : Action) → AreStatements (no_statements ▹ statement (place 1 3) (trees.Repeat (After true t) (no_statements ▹ statement (place 2 5) a)) ▹ statement (place 4 7) b) (line (place 1 3) (Repeat Forever) ∷ line (place 2 5) (Plain a) ∷ line (place 3 3) (End true t) ∷ line (place 4 7) (Plain b) ∷ [])
loop_with_until t a b = reads (line (place 1 3) (Repeat Forever) ∷ line (place 2 5) (Plain a) ∷ line (place 3 3) (End true t) ∷ line (place 4 7) (Plain b) ∷ []) (tt, (λ h. cc, ((refl, refl), (tt, tt))))

-- an ELSE at the outer IF's column
pub else_by_column : (t u : Tree) (a b : Action) → AreStatements (no_statements ▹ statement (place 1 3) (trees.If (no_arms ⊳ condition false t (no_statements ▹ statement (place 2 5) (trees.If (no_arms ⊳ condition false u (no_statements ▹ statement (place 3 7) a)) nothing_else))) (otherwise (no_statements ▹ statement (place 5 5) b)))) (line (place 1 3) (If false t) ∷ line (place 2 5) (If false u) ∷ line (place 3 7) (Plain a) ∷ line (place 4 3) Else ∷ line (place 5 5) (Plain b) ∷ [])
else_by_column t u a b = reads (line (place 1 3) (If false t) ∷ line (place 2 5) (If false u) ∷ line (place 3 7) (Plain a) ∷ line (place 4 3) Else ∷ line (place 5 5) (Plain b) ∷ []) (tt, (λ h. cc, (λ h. cc, ((refl, refl), (λ h. cc, tt)))))

-- an ELSE at the column of a line under the IF
pub else_without_chain : (t : Tree) (a : Action) → ¬ Fits (line (place 1 3) (If false t) ∷ line (place 2 5) (Plain a) ∷ []) (line (place 3 5) Else)
else_without_chain t a h = let e = h.1 in cc

-- UNTIL below a REPEAT with a count
pub until_without_loop : (n t : Tree) → ¬ Fits (line (place 1 3) (Repeat (Count n)) ∷ []) (line (place 2 3) (End true t))
until_without_loop n t h = let e = h.1 in cc

-- an item after OTHER
pub item_behind_other : (e : Tree) (ts : Items) → ¬ Fits (line (place 1 3) (Case e) ∷ line (place 2 5) Other ∷ []) (line (place 3 5) (Item ts))
item_behind_other e ts h = h.1 (inl (refl, refl))
