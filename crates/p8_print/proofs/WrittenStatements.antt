-- Lines of a method written one after the other, and the lines of trees as the code has them.
use Rattle.std.proofs.Common.{◌≡◌, ℕ, zero, suc, ◌+◌, ◌<◌, Bool, true, false, List, [], ◌∷◌, ◌++◌, length, map, take, get_or, Option, None, Some, Vec, refl, sym, ap, ap₂, ◌∙◌, append_assoc, append-nil, arith}
use Rattle.std.specs.Prelude.{◌==◌, if◌then◌else◌}
use Rattle.std.specs.declared.alloc.Global.{Global}
use Rattle.std.proofs.lemmas.Grind.{flat_map-append}
use Rattle.std.proofs.lemmas.List.{map-append, take_more}
use Rattle.p8_lexer.specs.declared.word.Word.{Word}
use Rattle.p8_lexer.specs.declared.word.Word.TheVariants as word_case
use Rattle.p8_tree.specs.declared.expressions.Expr as expr
use Rattle.p8_tree.specs.declared.expressions.Item as item
use Rattle.p8_tree.specs.declared.statements.StmtKind as stmt_kind
use Rattle.p8_tree.specs.declared.statements.StmtKind.TheVariants as stmt_case
use Rattle.p8_tree.specs.declared.statements.Stmt as stmt
use Rattle.p8_tree.specs.declared.statements.Arm as code_arm
use Rattle.p8_tree.specs.declared.statements.Arm.{out-Arm, roll-out-Arm}
use Rattle.p8_tree.specs.declared.statements.Loop as loop
use Rattle.p8_tree.specs.Expressions.{Tree}
use Rattle.p8_tree.specs.Statements.{Course, After, Otherwise, nothing_else, otherwise, Arm, arm, Arms, no_arms, ◌⊳◌}
use Rattle.p8_tree.specs.Views.{tree_of, items_of, course_of, action_of, arm_of, statement_of, statements_of, arms_of, arms_after}
use Rattle.p8_tree.specs.Bridges.{other_body, arm_is, if_is, case_is, repeat_is, statements_of-push, arms_of-push}
use Rattle.p8_columns.specs.Lines.{Repeat, Case, Item}
use Rattle.p8_print.specs.Spelled.{reserved, text_of_line, text_of_lines}
use Rattle.p8_print.specs.Wording.{wrapped}
use Rattle.p8_print.specs.StatementWords.{if_word, else_if_word, words_of_course, words_of_tests, words_of_kind}
use Rattle.p8_print.specs.Layout.{Indented, indented, test_of, is_first, arm_kind, head_course, end_lines, line, spelled_line, lines_of_statements, lines_of_statement, lines_of_action, lines_of_arms, lines_of_else, lines_of_items, lines_of_other}
use Rattle.p8_print.specs.Writing.{text_of, lines_of_arm, lines_of_item}
use Rattle.p8_print.proofs.Appending.{not_first}

lines_append : (xs ys : List Indented) → text_of (xs ++ ys) ≡ text_of xs ++ text_of ys
lines_append xs ys = ap text_of_lines (map-append spelled_line xs ys) ∙ flat_map-append text_of_line (map spelled_line xs) (map spelled_line ys)

and_lines : (a : List ℕ) {b c : List ℕ} (xs ys : List Indented) → b ≡ a ++ text_of xs → c ≡ b ++ text_of ys → c ≡ a ++ text_of (xs ++ ys)
and_lines a xs ys h k = k ∙ ap (λ t. t ++ text_of ys) h ∙ append_assoc a (text_of xs) (text_of ys) ∙ ap (λ t. a ++ t) (sym (lines_append xs ys))

-- a line, and the lines after it
and_block : (a : List ℕ) {b c : List ℕ} (x : Indented) (ys : List Indented) → b ≡ a ++ text_of_line (spelled_line x) → c ≡ b ++ text_of ys → c ≡ a ++ text_of (x ∷ ys)
and_block a x ys h k = and_lines a (x ∷ []) ys (h ∙ ap (λ t. a ++ t) (sym (append-nil (text_of_line (spelled_line x))))) k

-- arms and items

arm_form : (x : code_arm.Arm) → arm_of x ≡ arm (items_of (out-Arm x).tests) (out-Arm x).negated (statements_of (out-Arm x).body.items)
arm_form x = ap arm_of (sym (roll-out-Arm x)) ∙ arm_is (out-Arm x).tests (out-Arm x).negated (out-Arm x).body

arm_words : (f n : Bool) (e : Tree) → reserved (if f then if_word n else else_if_word n) ∷ wrapped e ≡ words_of_kind (arm_kind f n e)
arm_words true n e = refl
arm_words false n e = refl

pub arm_written : (f : Bool) (n : ℕ) (x : code_arm.Arm) (a : List ℕ) {b c : List ℕ} (w : Word) (ts : List item.Item) (inner : ℕ) (ss : List stmt.Stmt) → w ≡ (if f then if_word (out-Arm x).negated else else_if_word (out-Arm x).negated) → ts ≡ (out-Arm x).tests → inner ≡ n + 2 → ss ≡ (out-Arm x).body.items
    → b ≡ a ++ text_of_line (line n (reserved w ∷ wrapped (test_of (items_of ts)))) → c ≡ b ++ text_of (lines_of_statements inner (statements_of ss)) → c ≡ a ++ text_of (lines_of_arm n f (arm_of x))
arm_written f n x a {b} {c} w ts inner ss e g i j h k =
    let negated = (out-Arm x).negated in
    let body = (out-Arm x).body.items in
    let test = test_of (items_of (out-Arm x).tests) in
    let head : b ≡ a ++ text_of_line (spelled_line (indented n (arm_kind f negated test))) = h ∙ ap₂ (λ w ts. a ++ text_of_line (line n (reserved w ∷ wrapped (test_of (items_of ts))))) e g ∙ ap (λ ws. a ++ text_of_line (line n ws)) (arm_words f negated test) in
    and_block a (indented n (arm_kind f negated test)) (lines_of_statements (n + 2) (statements_of body)) head (k ∙ ap₂ (λ m ss. b ++ text_of (lines_of_statements m (statements_of ss))) i j)
    ∙ ap (λ y. a ++ text_of (lines_of_arm n f y)) (sym (arm_form x))

pub item_written : (n : ℕ) (x : code_arm.Arm) (a : List ℕ) {b c : List ℕ} (ts : List item.Item) (inner : ℕ) (ss : List stmt.Stmt) → ts ≡ (out-Arm x).tests → inner ≡ n + 2 → ss ≡ (out-Arm x).body.items
    → b ≡ a ++ text_of_line (line n (words_of_tests (items_of ts) ++ reserved word_case.Colon ∷ [])) → c ≡ b ++ text_of (lines_of_statements inner (statements_of ss)) → c ≡ a ++ text_of (lines_of_item n (arm_of x))
item_written n x a {b} {c} ts inner ss g i j h k =
    let body = (out-Arm x).body.items in
    let tests = items_of (out-Arm x).tests in
    let head : b ≡ a ++ text_of_line (spelled_line (indented n (Item tests))) = h ∙ ap (λ ts. a ++ text_of_line (line n (words_of_tests (items_of ts) ++ reserved word_case.Colon ∷ []))) g in
    and_block a (indented n (Item tests)) (lines_of_statements (n + 2) (statements_of body)) head (k ∙ ap₂ (λ m ss. b ++ text_of (lines_of_statements m (statements_of ss))) i j)
    ∙ ap (λ y. a ++ text_of (lines_of_item n y)) (sym (arm_form x))

-- one more

statements_next : (n : ℕ) (xs : List stmt.Stmt) (i : ℕ) (d : stmt.Stmt) → i < length xs → lines_of_statements n (statements_of (take (i + 1) xs)) ≡ lines_of_statements n (statements_of (take i xs)) ++ lines_of_statement n (statement_of (get_or xs i d))
statements_next n xs i d lt = ap (λ xs. lines_of_statements n (statements_of xs)) (take_more xs i d lt) ∙ ap (lines_of_statements n) (statements_of-push (take i xs) (get_or xs i d))

pub statement_written : (n : ℕ) (xs : List stmt.Stmt) (i : ℕ) (d : stmt.Stmt) (a b : List ℕ) {c : List ℕ} → i < length xs → d ≡ get_or xs i d → b ≡ a ++ text_of (lines_of_statements n (statements_of (take i xs))) → c ≡ b ++ text_of (lines_of_statement n (statement_of d))
    → c ≡ a ++ text_of (lines_of_statements n (statements_of (take (i + 1) xs)))
statement_written n xs i d a b lt at h k =
    and_lines a (lines_of_statements n (statements_of (take i xs))) (lines_of_statement n (statement_of d)) h k
    ∙ ap (λ d. a ++ text_of (lines_of_statements n (statements_of (take i xs)) ++ lines_of_statement n (statement_of d))) at
    ∙ ap (λ ls. a ++ text_of ls) (sym (statements_next n xs i d lt))

more_arms : (n : ℕ) (xs : Arms) (x : Arm) → lines_of_arms n (xs ⊳ x) ≡ lines_of_arms n xs ++ lines_of_arm n (is_first xs) x
more_arms n xs (arm tests negated ss) = refl

more_items : (n : ℕ) (xs : Arms) (x : Arm) → lines_of_items n (xs ⊳ x) ≡ lines_of_items n xs ++ lines_of_item n x
more_items n xs (arm tests negated ss) = refl

after_first : (xs : Arms) (x : Arm) (ys : List code_arm.Arm) → is_first (arms_after (xs ⊳ x) ys) ≡ false
after_first xs x [] = refl
after_first xs x (y ∷ ys) = after_first (xs ⊳ x) (arm_of y) ys

first_at : (xs : List code_arm.Arm) (i : ℕ) → i < length xs → is_first (arms_of (take i xs)) ≡ (i == 0)
first_at [] i lt = absurd (omega (arith, lt))
first_at (x ∷ xs) zero lt = refl
first_at (x ∷ xs) (suc i) lt = after_first no_arms (arm_of x) (take i xs) ∙ sym (not_first i)

pub one_arm_written : (n : ℕ) (xs : List code_arm.Arm) (i : ℕ) (d : code_arm.Arm) (a b : List ℕ) {c : List ℕ} → i < length xs → d ≡ get_or xs i d → b ≡ a ++ text_of (lines_of_arms n (arms_of (take i xs))) → c ≡ b ++ text_of (lines_of_arm n (i == 0) (arm_of d))
    → c ≡ a ++ text_of (lines_of_arms n (arms_of (take (i + 1) xs)))
one_arm_written n xs i d a b lt at h k =
    let before = arms_of (take i xs) in
    and_lines a (lines_of_arms n before) (lines_of_arm n (i == 0) (arm_of d)) h k
    ∙ ap₂ (λ f d. a ++ text_of (lines_of_arms n before ++ lines_of_arm n f (arm_of d))) (sym (first_at xs i lt)) at
    ∙ ap (λ ls. a ++ text_of ls) (sym (ap (λ xs. lines_of_arms n (arms_of xs)) (take_more xs i d lt) ∙ ap (lines_of_arms n) (arms_of-push (take i xs) (get_or xs i d)) ∙ more_arms n before (arm_of (get_or xs i d))))

pub one_item_written : (n : ℕ) (xs : List code_arm.Arm) (i : ℕ) (d : code_arm.Arm) (a b : List ℕ) {c : List ℕ} → i < length xs → d ≡ get_or xs i d → b ≡ a ++ text_of (lines_of_items n (arms_of (take i xs))) → c ≡ b ++ text_of (lines_of_item n (arm_of d))
    → c ≡ a ++ text_of (lines_of_items n (arms_of (take (i + 1) xs)))
one_item_written n xs i d a b lt at h k =
    let before = arms_of (take i xs) in
    and_lines a (lines_of_items n before) (lines_of_item n (arm_of d)) h k
    ∙ ap (λ d. a ++ text_of (lines_of_items n before ++ lines_of_item n (arm_of d))) at
    ∙ ap (λ ls. a ++ text_of ls) (sym (ap (λ xs. lines_of_items n (arms_of xs)) (take_more xs i d lt) ∙ ap (lines_of_items n) (arms_of-push (take i xs) (get_or xs i d)) ∙ more_items n before (arm_of (get_or xs i d))))

-- what stands in no arm, or nothing

pub no_rest : (f : Otherwise → List Indented) → f nothing_else ≡ [] → (o : Option (Vec stmt.Stmt Global)) (b : List ℕ) → o ≡ None → b ≡ b ++ text_of (f (other_body o))
no_rest f none o b is = sym (append-nil b) ∙ ap (λ ls. b ++ text_of ls) (sym none) ∙ ap (λ o. b ++ text_of (f (other_body o))) (sym is)

pub some_rest : (f : Otherwise → List Indented) (o : Option (Vec stmt.Stmt Global)) (v : Vec stmt.Stmt Global) (ss : List stmt.Stmt) (b : List ℕ) {c : List ℕ} → o ≡ Some v → ss ≡ v.items → c ≡ b ++ text_of (f (otherwise (statements_of ss))) → c ≡ b ++ text_of (f (other_body o))
some_rest f o v ss b is e h = h ∙ ap (λ ss. b ++ text_of (f (otherwise (statements_of ss)))) e ∙ ap (λ o. b ++ text_of (f (other_body o))) (sym is)

-- statements with lines of their own

pub if_written : (n : ℕ) (k : stmt_kind.StmtKind) (v : Vec code_arm.Arm Global) (o : Option (Vec stmt.Stmt Global)) (a : List ℕ) {b c : List ℕ} (xs : List code_arm.Arm) → k ≡ stmt_case.If v o → xs ≡ v.items
    → b ≡ a ++ text_of (lines_of_arms n (arms_of xs)) → c ≡ b ++ text_of (lines_of_else n (other_body o)) → c ≡ a ++ text_of (lines_of_action n (action_of k))
if_written n k v o a xs is e h g =
    and_lines a (lines_of_arms n (arms_of v.items)) (lines_of_else n (other_body o)) (h ∙ ap (λ xs. a ++ text_of (lines_of_arms n (arms_of xs))) e) g
    ∙ ap (λ x. a ++ text_of (lines_of_action n x)) (sym (ap action_of is ∙ if_is v o))

pub case_written : (n inner : ℕ) (k : stmt_kind.StmtKind) (e : expr.Expr) (v : Vec code_arm.Arm Global) (o : Option (Vec stmt.Stmt Global)) (a : List ℕ) {b c d : List ℕ} (xs : List code_arm.Arm) → k ≡ stmt_case.Case e v o → inner ≡ n + 2 → xs ≡ v.items
    → b ≡ a ++ text_of_line (line n (reserved word_case.Case ∷ wrapped (tree_of e))) → c ≡ b ++ text_of (lines_of_items inner (arms_of xs)) → d ≡ c ++ text_of (lines_of_other inner (other_body o)) → d ≡ a ++ text_of (lines_of_action n (action_of k))
case_written n inner k e v o a {b} {c} xs is i j h g f =
    and_block a (indented n (Case (tree_of e))) (lines_of_items (n + 2) (arms_of v.items) ++ lines_of_other (n + 2) (other_body o)) h (and_lines b (lines_of_items (n + 2) (arms_of v.items)) (lines_of_other (n + 2) (other_body o)) (g ∙ ap₂ (λ m xs. b ++ text_of (lines_of_items m (arms_of xs))) i j) (f ∙ ap (λ m. c ++ text_of (lines_of_other m (other_body o))) i))
    ∙ ap (λ x. a ++ text_of (lines_of_action n x)) (sym (ap action_of is ∙ case_is e v o))

head_words : (c : Course) → words_of_course c ≡ words_of_course (head_course c)
head_words (After until e) = refl
head_words c = refl

pub repeat_written : (n inner : ℕ) (k : stmt_kind.StmtKind) (x : loop.Loop) (v : Vec stmt.Stmt Global) (a : List ℕ) {b c d : List ℕ} (xs : List stmt.Stmt) → k ≡ stmt_case.Repeat x v → inner ≡ n + 2 → xs ≡ v.items
    → b ≡ a ++ text_of_line (line n (reserved word_case.Repeat ∷ words_of_course (course_of x))) → c ≡ b ++ text_of (lines_of_statements inner (statements_of xs)) → d ≡ c ++ text_of (end_lines n (course_of x)) → d ≡ a ++ text_of (lines_of_action n (action_of k))
repeat_written n inner k x v a {b} {c} xs is i j h g f =
    and_block a (indented n (Repeat (head_course (course_of x)))) (lines_of_statements (n + 2) (statements_of v.items) ++ end_lines n (course_of x)) (h ∙ ap (λ ws. a ++ text_of_line (line n (reserved word_case.Repeat ∷ ws))) (head_words (course_of x)))
    (and_lines b (lines_of_statements (n + 2) (statements_of v.items)) (end_lines n (course_of x)) (g ∙ ap₂ (λ m xs. b ++ text_of (lines_of_statements m (statements_of xs))) i j) f)
    ∙ ap (λ x. a ++ text_of (lines_of_action n x)) (sym (ap action_of is ∙ repeat_is x v))
