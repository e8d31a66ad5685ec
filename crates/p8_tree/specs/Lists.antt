-- The trees of a list in their order, and with them how many there are, the one of a number, counted from 0, and a fold
-- from the first one on: of arguments, of items, of arms and of statements.
use Rattle.std.specs.Prelude.{ℕ, List, [], ◌∷◌, ◌++◌, length, slice_get, Option}
use Rattle.p8_tree.specs.Expressions.{Tree, Item, Trees, no_trees, ◌▷◌, Items, no_items, ◌▸◌}
use Rattle.p8_tree.specs.Statements.{Statement, Arm, Statements, no_statements, ◌▹◌, Arms, no_arms, ◌⊳◌}

abbrev pub tree_list : Trees → List Tree
tree_list no_trees = []
tree_list (es ▷ e) = tree_list es ++ e ∷ []

abbrev pub count_of_trees : Trees → ℕ
count_of_trees es = length (tree_list es)

abbrev pub tree_at : Trees → ℕ → Option Tree
tree_at es n = slice_get (tree_list es) n

abbrev pub fold_trees : {X : Type 0} → (X → Tree → X) → X → Trees → X
fold_trees f x no_trees = x
fold_trees f x (es ▷ e) = f (fold_trees f x es) e

abbrev pub item_list : Items → List Item
item_list no_items = []
item_list (xs ▸ x) = item_list xs ++ x ∷ []

abbrev pub count_of_items : Items → ℕ
count_of_items xs = length (item_list xs)

abbrev pub item_at : Items → ℕ → Option Item
item_at xs n = slice_get (item_list xs) n

abbrev pub fold_items : {X : Type 0} → (X → Item → X) → X → Items → X
fold_items f x no_items = x
fold_items f x (xs ▸ y) = f (fold_items f x xs) y

abbrev pub arm_list : Arms → List Arm
arm_list no_arms = []
arm_list (xs ⊳ x) = arm_list xs ++ x ∷ []

abbrev pub count_of_arms : Arms → ℕ
count_of_arms xs = length (arm_list xs)

abbrev pub arm_at : Arms → ℕ → Option Arm
arm_at xs n = slice_get (arm_list xs) n

abbrev pub fold_arms : {X : Type 0} → (X → Arm → X) → X → Arms → X
fold_arms f x no_arms = x
fold_arms f x (xs ⊳ y) = f (fold_arms f x xs) y

abbrev pub statement_list : Statements → List Statement
statement_list no_statements = []
statement_list (ss ▹ s) = statement_list ss ++ s ∷ []

abbrev pub count_of_statements : Statements → ℕ
count_of_statements ss = length (statement_list ss)

abbrev pub statement_at : Statements → ℕ → Option Statement
statement_at ss n = slice_get (statement_list ss) n

abbrev pub fold_statements : {X : Type 0} → (X → Statement → X) → X → Statements → X
fold_statements f x no_statements = x
fold_statements f x (ss ▹ s) = f (fold_statements f x ss) s
