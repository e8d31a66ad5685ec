-- Statements by their lines don't depend on places: they are forgotten first or afterwards.
use Rattle.std.proofs.Common.{◌≡◌, ℕ, suc, Bool, refl, sym, ap, ◌∙◌, subst}
use Rattle.p8_tree.specs.declared.places.Place.{Place}
use Rattle.p8_tree.specs.Expressions.{Tree}
use Rattle.p8_tree.specs.Statements as trees
use Rattle.p8_tree.specs.Statements.{Course, Forever, Statement, statement, Arm, arm, Otherwise, nothing_else, otherwise, Statements, no_statements, ◌▹◌, Arms}
use Rattle.p8_tree.specs.Forgetting.{anywhere, tree_anywhere, course_anywhere, statement_anywhere, arm_anywhere, statements_anywhere, arms_anywhere, otherwise_anywhere}
use Rattle.p8_columns.specs.Lines.{Kind, Plain, ElseIf, Else, End, Case, Item, Line, line, is_opener}
use Rattle.p8_columns.specs.Blocks.{Bound, Anywhere, UpTo, Contents, body, choices}
use Rattle.p8_columns.specs.Reader.{begun, chained, with_arm, ended, with_else, closing, tested, with_end, with_body, with_choices, with_item, closed}
use Rattle.p8_columns.proofs.Made.{is_statement, is_case_line, is_else_kind, Joins, joins_statement, joins_case, joins_chain, joins_loop, fresh}
use Rattle.p8_printed.specs.Kinds.{kind_anywhere}

abbrev pub contents_anywhere : Contents → Contents
contents_anywhere (body ss) = body (statements_anywhere ss)
contents_anywhere (choices arms other) = choices (arms_anywhere arms) (otherwise_anywhere other)

abbrev pub line_anywhere : Line → Line
line_anywhere l = line anywhere (kind_anywhere l.kind)

-- what is told of a kind without its places is the same for kinds that are the same but for places
pub told : {A : Type 0} (f : Kind → A) → ((k : Kind) → f (kind_anywhere k) ≡ f k) → (k k' : Kind) → kind_anywhere k' ≡ kind_anywhere k → f k' ≡ f k
told f h k k' e = sym (h k') ∙ ap f e ∙ h k

pub opener_same : (k : Kind) → is_opener (kind_anywhere k) ≡ is_opener k
opener_same (Plain a) = refl
opener_same k = refl

statement_same : (k : Kind) → is_statement (kind_anywhere k) ≡ is_statement k
statement_same (Plain a) = refl
statement_same k = refl

case_same : (k : Kind) → is_case_line (kind_anywhere k) ≡ is_case_line k
case_same (Plain a) = refl
case_same k = refl

else_same : (k : Kind) → is_else_kind (kind_anywhere k) ≡ is_else_kind k
else_same (Plain a) = refl
else_same k = refl

pub begun_same : (k : Kind) → begun (kind_anywhere k) ≡ begun k
begun_same (Plain a) = refl
begun_same k = refl

pub fresh_same : (x : Contents) → fresh (contents_anywhere x) ≡ fresh x
fresh_same (body ss) = refl
fresh_same (choices arms other) = refl

-- contents with one more line

chained_same : (s : Statement) (x : Arm) → statement_anywhere (chained s x) ≡ chained (statement_anywhere s) (arm_anywhere x)
chained_same (statement p (trees.If arms nothing_else)) x = refl
chained_same s x = refl

ended_same : (s : Statement) (inner : Statements) → statement_anywhere (ended s inner) ≡ ended (statement_anywhere s) (statements_anywhere inner)
ended_same (statement p (trees.If arms nothing_else)) inner = refl
ended_same s inner = refl

closing_same : (c : Course) (until : Bool) (test : Tree) → course_anywhere (closing c until test) ≡ closing (course_anywhere c) until (tree_anywhere test)
closing_same Forever until test = refl
closing_same c until test = refl

tested_same : (s : Statement) (until : Bool) (test : Tree) → statement_anywhere (tested s until test) ≡ tested (statement_anywhere s) until (tree_anywhere test)
tested_same (statement p (trees.Repeat c inner)) until test = ap (λ c. statement anywhere (trees.Repeat c (statements_anywhere inner))) (closing_same c until test)
tested_same s until test = refl

arm_same : (ss : Statements) (x : Arm) → statements_anywhere (with_arm ss x) ≡ with_arm (statements_anywhere ss) (arm_anywhere x)
arm_same no_statements x = refl
arm_same (ss ▹ s) x = ap (λ s. statements_anywhere ss ▹ s) (chained_same s x)

else_kept : (ss inner : Statements) → statements_anywhere (with_else ss inner) ≡ with_else (statements_anywhere ss) (statements_anywhere inner)
else_kept no_statements inner = refl
else_kept (ss ▹ s) inner = ap (λ s. statements_anywhere ss ▹ s) (ended_same s inner)

end_same : (ss : Statements) (until : Bool) (test : Tree) → statements_anywhere (with_end ss until test) ≡ with_end (statements_anywhere ss) until (tree_anywhere test)
end_same no_statements until test = refl
end_same (ss ▹ s) until test = ap (λ s. statements_anywhere ss ▹ s) (tested_same s until test)

body_same : (ss : Statements) (p : Place) (k : Kind) (inner : Statements) → statements_anywhere (with_body ss p k inner) ≡ with_body (statements_anywhere ss) anywhere (kind_anywhere k) (statements_anywhere inner)
body_same ss p (ElseIf n t) inner = arm_same ss (arm _ n inner)
body_same ss p Else inner = else_kept ss inner
body_same ss p (End u t) inner = end_same ss u t
body_same ss p k inner = refl

choices_same : (ss : Statements) (p : Place) (k : Kind) (arms : Arms) (other : Otherwise) → statements_anywhere (with_choices ss p k arms other) ≡ with_choices (statements_anywhere ss) anywhere (kind_anywhere k) (arms_anywhere arms) (otherwise_anywhere other)
choices_same ss p (Case v) arms other = refl
choices_same ss p k arms other = refl

item_same : (arms : Arms) (other : Otherwise) (k : Kind) (inner : Statements) → contents_anywhere (with_item arms other k inner) ≡ with_item (arms_anywhere arms) (otherwise_anywhere other) (kind_anywhere k) (statements_anywhere inner)
item_same arms other (Item ts) inner = refl
item_same arms other k inner = refl

closed_same : (x : Contents) (l : Line) (y : Contents) → contents_anywhere (closed x l y) ≡ closed (contents_anywhere x) (line_anywhere l) (contents_anywhere y)
closed_same (body ss) l (body inner) = ap body (body_same ss l.place l.kind inner)
closed_same (body ss) l (choices arms other) = ap body (choices_same ss l.place l.kind arms other)
closed_same (choices arms other) l (body inner) = item_same arms other l.kind inner
closed_same (choices arms other) l (choices xs o) = refl

pub closed_alike : (x x' : Contents) (l l' : Line) (y y' : Contents) → contents_anywhere x' ≡ contents_anywhere x → kind_anywhere l'.kind ≡ kind_anywhere l.kind → contents_anywhere y' ≡ contents_anywhere y → contents_anywhere (closed x' l' y') ≡ contents_anywhere (closed x l y)
closed_alike x x' l l' y y' e f g = closed_same x' l' y' ∙ (λ i. closed (e i) (line anywhere (f i)) (g i)) ∙ sym (closed_same x l y)

-- the bound that lines leave which were printed so far to the right
abbrev pub bound_at : ℕ → Bound → Bound
bound_at n Anywhere = Anywhere
bound_at n (UpTo c) = UpTo (suc n)

-- a line goes on from contents that are the same but for places, at the indentation at which all were printed
pub joins_alike : (n : ℕ) {b : Bound} {x : Contents} {l : Line} (x' : Contents) (p : Place) (k : Kind) → Joins b x l → contents_anywhere x' ≡ contents_anywhere x → p.column ≡ suc n → kind_anywhere k ≡ kind_anywhere l.kind → Joins (bound_at n b) x' (line p k)
joins_alike n (body ss') p k (joins_statement q j t) e s h = joins_statement p k (told is_statement statement_same j k h ∙ t)
joins_alike n (choices arms other) p k (joins_statement q j t) e s h = absurd cc
joins_alike n (choices arms nothing_else) p k (joins_case q j t) e s h = joins_case p k (told is_case_line case_same j k h ∙ t)
joins_alike n (choices arms (otherwise inner)) p k (joins_case q j t) e s h = absurd cc
joins_alike n (body ss') p k (joins_case q j t) e s h = absurd cc
joins_alike n (body (ss' ▹ statement o (trees.If arms nothing_else))) p k (joins_chain q j t) e s h = subst (λ c. Joins (UpTo c) (body (ss' ▹ statement o (trees.If arms nothing_else))) (line p k)) s (joins_chain p k (told is_else_kind else_same j k h ∙ t))
joins_alike n (body (ss' ▹ statement o (trees.If arms (otherwise inner)))) p k (joins_chain q j t) e s h = absurd cc
joins_alike n (body (ss' ▹ statement o a)) p k (joins_chain q j t) e s h = absurd cc
joins_alike n (body no_statements) p k (joins_chain q j t) e s h = absurd cc
joins_alike n (choices arms other) p k (joins_chain q j t) e s h = absurd cc
joins_alike n (body (ss' ▹ statement o (trees.Repeat Forever inner))) p (End u t) (joins_loop q v w) e s h = subst (λ c. Joins (UpTo c) (body (ss' ▹ statement o (trees.Repeat Forever inner))) (line p (End u t))) s (joins_loop p u t)
joins_alike n (body (ss' ▹ statement o (trees.Repeat Forever inner))) p k (joins_loop q v w) e s h = absurd cc
joins_alike n (body (ss' ▹ statement o (trees.Repeat c inner))) p k (joins_loop q v w) e s h = absurd cc
joins_alike n (body (ss' ▹ statement o a)) p k (joins_loop q v w) e s h = absurd cc
joins_alike n (body no_statements) p k (joins_loop q v w) e s h = absurd cc
joins_alike n (choices arms other) p k (joins_loop q v w) e s h = absurd cc
