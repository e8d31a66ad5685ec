-- Statements that are printed are found again: by their columns the printed lines are the same statements, but for places.
use Rattle.std.proofs.Common.{◌≡◌, ℕ, suc, ◌+◌, ◌≤◌, List, [], ◌∷◌, ◌++◌, Bool, true, false, IsTrue, refl, sym, ap, ◌∙◌, subst, subst₂, append_assoc, append-nil, arith}
use Rattle.std.specs.List.{AllByRecursion as Each}
use Rattle.p8_tree.specs.Statements as trees
use Rattle.p8_tree.specs.Statements.{Course, Forever, After, statement, Action, Statements, no_statements, ◌▹◌, Arms, nothing_else}
use Rattle.p8_tree.specs.Forgetting.{statements_anywhere}
use Rattle.p8_columns.specs.Lines.{Kind, Plain, If, ElseIf, Else, Repeat, End, Case, Item, Other, Line, column, is_opener}
use Rattle.p8_columns.specs.Blocks.{Bound, Anywhere, UpTo, May, Contents, body, choices, Block, chain, chain_on, AreStatements}
use Rattle.p8_columns.specs.Reader.{begun, closed}
use Rattle.p8_columns.proofs.Made.{Joins, joins_statement, joins_case, joins_chain, joins_loop, fresh, Made, nothing, leaf, under, made, block_of}
use Rattle.p8_print.specs.Layout.{Indented, indented, is_first, arm_kind, lines_of_statements, lines_of_action, lines_of_arms, lines_of_items, lines_of_other}
use Rattle.p8_printed.proofs.Elements.{each_append, each_first, each_rest}
use Rattle.p8_printed.proofs.Found.{AreFound, none_found, split_at}
use Rattle.p8_printed.proofs.Forgotten.{contents_anywhere, told, opener_same, begun_same, fresh_same, closed_alike, bound_at, joins_alike}

-- what a line of a method can be: a statement without lines of its own, and a REPEAT whose test stands with it, if it has one

abbrev pub is_simple : Action → Bool
is_simple (trees.If arms other) = false
is_simple (trees.Case value arms other) = false
is_simple (trees.Repeat course inner) = false
is_simple a = true

abbrev pub is_headed : Course → Bool
is_headed (After until test) = false
is_headed course = true

abbrev pub is_line : Kind → Bool
is_line (Plain a) = is_simple a
is_line (Repeat course) = is_headed course
is_line k = true

abbrev pub lines_of_contents : ℕ → Contents → List Indented
lines_of_contents n (body ss) = lines_of_statements n ss
lines_of_contents n (choices arms other) = lines_of_items n arms ++ lines_of_other n other

-- the lines of contents with one more line

simple_lines : (n : ℕ) (a : Action) → IsTrue (is_simple a) → lines_of_action n a ≡ indented n (Plain a) ∷ []
simple_lines n (trees.If arms other) h = absurd cc
simple_lines n (trees.Case value arms other) h = absurd cc
simple_lines n (trees.Repeat course inner) h = absurd cc
simple_lines n a h = refl

one_behind : (xs ys : List Indented) (x y : Indented) → xs ++ (x ∷ (ys ++ y ∷ [])) ≡ (xs ++ (x ∷ (ys ++ []))) ++ y ∷ []
one_behind xs ys x y = ap (λ z. xs ++ (x ∷ (z ++ y ∷ []))) (sym (append-nil ys)) ∙ sym (append_assoc xs (x ∷ (ys ++ [])) (y ∷ []))

leaf_lines : (n : ℕ) {b : Bound} {x : Contents} (l : Line) → Joins b x l → is_opener l.kind ≡ false → IsTrue (is_line l.kind) → lines_of_contents n (closed x l (body no_statements)) ≡ lines_of_contents n x ++ indented n l.kind ∷ []
leaf_lines n l (joins_statement {ss = ss} p (Plain a) t) o h = ap (λ z. lines_of_statements n ss ++ z) (simple_lines n a h)
leaf_lines n l (joins_statement p k t) o h = absurd cc
leaf_lines n l (joins_case p (Item ts) t) o h = absurd cc
leaf_lines n l (joins_case p Other t) o h = absurd cc
leaf_lines n l (joins_case p k t) o h = absurd cc
leaf_lines n l (joins_chain p (ElseIf m e) t) o h = absurd cc
leaf_lines n l (joins_chain p Else t) o h = absurd cc
leaf_lines n l (joins_chain p k t) o h = absurd cc
leaf_lines n l (joins_loop {ss = ss} {inner = inner} p u t) o h = one_behind (lines_of_statements n ss) (lines_of_statements (n + 2) inner) (indented n (Repeat Forever)) (indented n (End u t))

-- a chain that goes on has an arm
has_arm : {e d : ℕ} {ss : Statements} {p : _} {arms : Arms} {ls : List Line} → Block e (UpTo d) (body (ss ▹ statement p (trees.If arms nothing_else))) ls → is_first arms ≡ false
has_arm (chain r m le i) = refl
has_arm (chain_on q r i) = refl

headed_lines : (n : ℕ) (c : Course) (inner : Statements) → IsTrue (is_headed c) → lines_of_action n (trees.Repeat c inner) ≡ indented n (Repeat c) ∷ lines_of_statements (n + 2) inner
headed_lines n (After u t) inner h = absurd cc
headed_lines n c inner h = ap (λ z. indented n (Repeat c) ∷ z) (append-nil (lines_of_statements (n + 2) inner))

in_front : (xs ys : List Indented) → (xs ++ ys) ++ [] ≡ (xs ++ []) ++ ys
in_front xs ys = append-nil (xs ++ ys) ∙ ap (λ z. z ++ ys) (sym (append-nil xs))

in_place : (xs ys : List Indented) → xs ++ ys ≡ (xs ++ []) ++ ys
in_place xs ys = ap (λ z. z ++ ys) (sym (append-nil xs))

no_lines : (n : ℕ) (x : Contents) → fresh x ≡ x → lines_of_contents n x ≡ []
no_lines n (body ss) h = ap (lines_of_contents n) (sym h)
no_lines n (choices arms other) h = ap (lines_of_contents n) (sym h)

under_lines : (n : ℕ) {e : ℕ} {b : Bound} {x : Contents} {ls : List Line} (l : Line) (y : Contents) → Made e b x ls → Joins b x l → is_opener l.kind ≡ true → begun l.kind ≡ fresh y → IsTrue (is_line l.kind) → lines_of_contents n (closed x l y) ≡ lines_of_contents n x ++ indented n l.kind ∷ lines_of_contents (n + 2) y
under_lines n l (body inner) r (joins_statement {ss = ss} p (If m t) u) o g h = ap (λ z. lines_of_statements n ss ++ z) (append-nil (indented n (If m t) ∷ lines_of_statements (n + 2) inner))
under_lines n l (body inner) r (joins_statement {ss = ss} p (Repeat c) u) o g h = ap (λ z. lines_of_statements n ss ++ z) (headed_lines n c inner h)
under_lines n l (choices arms other) r (joins_statement p (Case v) u) o g h = refl
under_lines n l y r (joins_statement p k u) o g h = absurd cc
under_lines n l (body inner) r (joins_case {arms = arms} p (Item ts) u) o g h = in_front (lines_of_items n arms) (indented n (Item ts) ∷ lines_of_statements (n + 2) inner)
under_lines n l (body inner) r (joins_case {arms = arms} p Other u) o g h = in_place (lines_of_items n arms) (indented n Other ∷ lines_of_statements (n + 2) inner)
under_lines n l (choices xs other) r (joins_case p (Item ts) u) o g h = absurd cc
under_lines n l (choices xs other) r (joins_case p Other u) o g h = absurd cc
under_lines n l y r (joins_case p k u) o g h = absurd cc
under_lines n l (body inner) r (joins_chain {ss = ss} {arms = arms} p (ElseIf m t) u) o g h =
    ap (λ first. lines_of_statements n ss ++ ((lines_of_arms n arms ++ indented n (arm_kind first m t) ∷ lines_of_statements (n + 2) inner) ++ [])) (has_arm (block_of r))
    ∙ ap (λ z. lines_of_statements n ss ++ z) (in_front (lines_of_arms n arms) (indented n (ElseIf m t) ∷ lines_of_statements (n + 2) inner))
    ∙ sym (append_assoc (lines_of_statements n ss) (lines_of_arms n arms ++ []) (indented n (ElseIf m t) ∷ lines_of_statements (n + 2) inner))
under_lines n l (body inner) r (joins_chain {ss = ss} {arms = arms} p Else u) o g h =
    ap (λ z. lines_of_statements n ss ++ z) (in_place (lines_of_arms n arms) (indented n Else ∷ lines_of_statements (n + 2) inner))
    ∙ sym (append_assoc (lines_of_statements n ss) (lines_of_arms n arms ++ []) (indented n Else ∷ lines_of_statements (n + 2) inner))
under_lines n l (choices xs other) r (joins_chain p (ElseIf m t) u) o g h = absurd cc
under_lines n l (choices xs other) r (joins_chain p Else u) o g h = absurd cc
under_lines n l y r (joins_chain p k u) o g h = absurd cc
under_lines n l y r (joins_loop p u t) o g h = absurd cc

-- what holds of the kinds of lines holds of those of the lines that are printed for them
pub kinds_kept : (P : Kind → Type 0) {e : ℕ} {b : Bound} {x : Contents} {ls : List Line} → Made e b x ls → Each (λ l. IsTrue (is_line l.kind)) ls → Each (λ l. P l.kind) ls → (n : ℕ) → Each (λ i. P i.kind) (lines_of_contents n x)
kinds_kept P (nothing x h) t a n = subst (λ z. Each (λ i. P i.kind) z) (sym (no_lines n x h)) tt
kinds_kept P (leaf {x = x} {ls = ls} l r m le j o) t a n =
    let own = each_rest (λ l. P l.kind) ls (l ∷ []) a in
    subst (λ z. Each (λ i. P i.kind) z) (sym (leaf_lines n l j o (each_rest (λ l. IsTrue (is_line l.kind)) ls (l ∷ []) t).0))
    (each_append (λ i. P i.kind) (lines_of_contents n x) (indented n l.kind ∷ []) (kinds_kept P r (each_first (λ l. IsTrue (is_line l.kind)) ls (l ∷ []) t) (each_first (λ l. P l.kind) ls (l ∷ []) a) n) (own.0, tt))
kinds_kept P (under {x = x} {ls = ls} {ms = ms} l y r m le j o g i) t a n =
    let own = each_rest (λ l. P l.kind) ls (l ∷ ms) a in
    let lines = each_rest (λ l. IsTrue (is_line l.kind)) ls (l ∷ ms) t in
    subst (λ z. Each (λ i. P i.kind) z) (sym (under_lines n l y r j o g lines.0))
    (each_append (λ i. P i.kind) (lines_of_contents n x) (indented n l.kind ∷ lines_of_contents (n + 2) y) (kinds_kept P r (each_first (λ l. IsTrue (is_line l.kind)) ls (l ∷ ms) t) (each_first (λ l. P l.kind) ls (l ∷ ms) a) n) (own.0, kinds_kept P i lines.1 own.1 (n + 2)))

-- lines that are these contents again, but for places
pub record Rebuilt (e n : ℕ) (b : Bound) (x : Contents) (ls : List Line) : Type 0 where
  pub contents : Contents
  pub made : Made e (bound_at n b) contents ls
  pub same : contents_anywhere contents ≡ contents_anywhere x

may_stand : (n c : ℕ) (b : Bound) → c ≡ suc n → May c (bound_at n b)
may_stand n c Anywhere h = tt
may_stand n c (UpTo d) h = omega (arith, h)

pub rebuilt : {e : ℕ} {b : Bound} {x : Contents} {ls : List Line} → Made e b x ls → Each (λ l. IsTrue (is_line l.kind)) ls → (d n : ℕ) → d ≤ suc n → (ms : List Line) → AreFound (lines_of_contents n x) ms → Rebuilt d n b x ms
rebuilt (nothing x h) t d n le ms f =
    let none = none_found ms (subst (λ z. AreFound z ms) (no_lines n x h) f) in
    record { contents = x; made = subst (Made d Anywhere x) (sym none) (nothing x h); same = refl }
rebuilt (leaf {b = b} {x = x} {ls = ls} l r m le j o) t d n e ms f =
    let own = each_rest (λ l. IsTrue (is_line l.kind)) ls (l ∷ []) t in
    let s = split_at (lines_of_contents n x) (indented n l.kind) [] ms (subst (λ z. AreFound z ms) (leaf_lines n l j o own.0) f) in
    let outer = rebuilt r (each_first (λ l. IsTrue (is_line l.kind)) ls (l ∷ []) t) d n e s.before s.first in
    let stands = s.found.stands in
    let again = leaf s.at outer.made (may_stand n (column s.at) b stands) (omega (arith, e, stands)) (joins_alike n outer.contents s.at.place s.at.kind j outer.same stands s.found.same) (told is_opener opener_same l.kind s.at.kind s.found.same ∙ o) in
    record {
      contents = closed outer.contents s.at (body no_statements);
      made = subst (Made d Anywhere (closed outer.contents s.at (body no_statements))) (sym (s.split ∙ ap (λ z. s.before ++ s.at ∷ z) (none_found s.behind s.rest))) again;
      same = closed_alike x outer.contents l s.at (body no_statements) (body no_statements) outer.same s.found.same refl;
    }
rebuilt (under {b = b} {x = x} {ls = ls} {ms = own_lines} l y r m le j o g i) t d n e ms f =
    let own = each_rest (λ l. IsTrue (is_line l.kind)) ls (l ∷ own_lines) t in
    let s = split_at (lines_of_contents n x) (indented n l.kind) (lines_of_contents (n + 2) y) ms (subst (λ z. AreFound z ms) (under_lines n l y r j o g own.0) f) in
    let outer = rebuilt r (each_first (λ l. IsTrue (is_line l.kind)) ls (l ∷ own_lines) t) d n e s.before s.first in
    let stands = s.found.stands in
    let inner = rebuilt i own.1 (suc (column s.at)) (n + 2) (omega (arith, stands)) s.behind s.rest in
    let begins = told begun begun_same l.kind s.at.kind s.found.same ∙ g ∙ (sym (fresh_same y) ∙ ap fresh (sym inner.same) ∙ fresh_same inner.contents) in
    let again = under s.at inner.contents outer.made (may_stand n (column s.at) b stands) (omega (arith, e, stands)) (joins_alike n outer.contents s.at.place s.at.kind j outer.same stands s.found.same) (told is_opener opener_same l.kind s.at.kind s.found.same ∙ o) begins inner.made in
    record {
      contents = closed outer.contents s.at inner.contents;
      made = subst₂ (λ b z. Made d b (closed outer.contents s.at inner.contents) z) (ap UpTo stands) (sym s.split) again;
      same = closed_alike x outer.contents l s.at y inner.contents outer.same s.found.same inner.same;
    }

-- statements that are printed n blanks to the right are found again as statements of a method
pub record Again (ss : Statements) (ls : List Line) : Type 0 where
  pub statements : Statements
  pub are : AreStatements statements ls
  pub same : statements_anywhere statements ≡ statements_anywhere ss

pub statements_again : (n : ℕ) (ss : Statements) (ls : List Line) → AreStatements ss ls → Each (λ l. IsTrue (is_line l.kind)) ls → (ms : List Line) → AreFound (lines_of_statements n ss) ms → Again ss ms
statements_again n ss ls r t ms f = go (rebuilt (made r.1) t 0 n (omega arith) ms f)
  where
    go : Rebuilt 0 n r.0 (body ss) ms → Again ss ms
    go x = among x.contents x.made x.same
      where
        among : (c : Contents) → Made 0 (bound_at n r.0) c ms → contents_anywhere c ≡ contents_anywhere (body ss) → Again ss ms
        among (body tt') k e = record { statements = tt'; are = (bound_at n r.0, block_of k); same = cc }
        among (choices arms other) k e = absurd cc
