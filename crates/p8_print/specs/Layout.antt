-- The text of a tree: each block's word on a line of its own, two blanks before each item, and two more before the
-- statements of each block in another.
use Rattle.std.specs.Prelude.{ℕ, ◌+◌, Bool, true, false, if◌then◌else◌, List, [], ◌∷◌, ◌++◌, map}
use Rattle.std.specs.List.{flat_map}
use Rattle.p8_tree.specs.Statements as trees
use Rattle.p8_tree.specs.Statements.{Course, Forever, After, Statement, statement, Action, arm, Otherwise, nothing_else, otherwise, Statements}
use Rattle.p8_tree.specs.Statements.{no_statements, ◌▹◌, Arms, no_arms, ◌⊳◌}
use Rattle.p8_tree.specs.Expressions.{Tree, Items, ◌▸◌, single, node, Here}
use Rattle.p8_tree.specs.Forgetting.{anywhere}
use Rattle.p8_tree.specs.Sources as sources
use Rattle.p8_tree.specs.Sources.{BlockTree, Source, MethodTree}
use Rattle.p8_lexer.specs.declared.word.Word.TheVariants as word
use Rattle.p8_columns.specs.Lines.{Kind, Plain, If, ElseIf, Else, Repeat, End, Case, Item, Other}
use Rattle.p8_print.specs.Spelled.{Spelled, reserved, SpelledLine}
use Rattle.p8_print.specs.StatementWords.{words_of_kind}
use Rattle.p8_print.specs.DeclarationWords.{words_of_constant, words_of_variable, words_of_child, words_of_head}
use Rattle.p8_print.specs.DataWords.{words_of_line}

-- a line of a method, with the blanks before it
pub record Indented : Type 0 where
  pub indent : ℕ
  pub kind : Kind

abbrev pub indented : ℕ → Kind → Indented
indented n k = record { indent = n; kind = k }

-- the test of an IF's arm
abbrev pub test_of : Items → Tree
test_of (xs ▸ single e) = e
test_of xs = node anywhere Here

abbrev pub is_first : Arms → Bool
is_first no_arms = true
is_first (xs ⊳ x) = false

-- IF begins a chain, ELSEIF goes on with it
abbrev pub arm_kind : Bool → Bool → Tree → Kind
arm_kind true negated e = If negated e
arm_kind false negated e = ElseIf negated e

-- what stands after REPEAT itself
abbrev pub head_course : Course → Course
head_course (After until e) = Forever
head_course course = course

-- the test after a REPEAT's statements, if it stands there
abbrev pub end_lines : ℕ → Course → List Indented
end_lines n (After until e) = indented n (End until e) ∷ []
end_lines n course = []

abbrev mutual
  -- the lines of statements, with n blanks before each of them
  pub lines_of_statements : ℕ → Statements → List Indented
  lines_of_statements n no_statements = []
  lines_of_statements n (ss ▹ s) = lines_of_statements n ss ++ lines_of_statement n s

  pub lines_of_statement : ℕ → Statement → List Indented
  lines_of_statement n (statement p a) = lines_of_action n a

  pub lines_of_action : ℕ → Action → List Indented
  lines_of_action n (trees.If arms other) = lines_of_arms n arms ++ lines_of_else n other
  lines_of_action n (trees.Case e arms other) = indented n (Case e) ∷ (lines_of_items (n + 2) arms ++ lines_of_other (n + 2) other)
  lines_of_action n (trees.Repeat course ss) = indented n (Repeat (head_course course)) ∷ (lines_of_statements (n + 2) ss ++ end_lines n course)
  lines_of_action n a = indented n (Plain a) ∷ []

  pub lines_of_arms : ℕ → Arms → List Indented
  lines_of_arms n no_arms = []
  lines_of_arms n (xs ⊳ arm tests negated ss) = lines_of_arms n xs ++ indented n (arm_kind (is_first xs) negated (test_of tests)) ∷
      lines_of_statements (n + 2) ss

  pub lines_of_else : ℕ → Otherwise → List Indented
  lines_of_else n nothing_else = []
  lines_of_else n (otherwise ss) = indented n Else ∷ lines_of_statements (n + 2) ss

  -- the items of a CASE, and its OTHER
  pub lines_of_items : ℕ → Arms → List Indented
  lines_of_items n no_arms = []
  lines_of_items n (xs ⊳ arm tests negated ss) = lines_of_items n xs ++ indented n (Item tests) ∷ lines_of_statements (n + 2) ss

  pub lines_of_other : ℕ → Otherwise → List Indented
  lines_of_other n nothing_else = []
  lines_of_other n (otherwise ss) = indented n Other ∷ lines_of_statements (n + 2) ss

abbrev pub line : ℕ → List Spelled → SpelledLine
line n ws = record { indent = n; words = ws }

abbrev pub spelled_line : Indented → SpelledLine
spelled_line x = line x.indent (words_of_kind x.kind)

abbrev pub lines_of_method : MethodTree → List SpelledLine
lines_of_method m = line 0 (reserved (if m.public then word.Pub else word.Pri) ∷ words_of_head m) ∷ map spelled_line (lines_of_statements 2 m.body)

abbrev pub lines_of_block : BlockTree → List SpelledLine
lines_of_block (sources.Con xs) = line 0 (reserved word.Con ∷ []) ∷ map (λ x. line 2 (words_of_constant x)) xs
lines_of_block (sources.Var xs) = line 0 (reserved word.Var ∷ []) ∷ map (λ x. line 2 (words_of_variable x)) xs
lines_of_block (sources.Obj xs) = line 0 (reserved word.Obj ∷ []) ∷ map (λ x. line 2 (words_of_child x)) xs
lines_of_block (sources.Method m) = lines_of_method m
lines_of_block (sources.Dat xs) = line 0 (reserved word.Dat ∷ []) ∷ map (λ x. line 2 (words_of_line x)) xs

-- the lines of a source
abbrev pub lines_of : Source → List SpelledLine
lines_of blocks = flat_map lines_of_block blocks
