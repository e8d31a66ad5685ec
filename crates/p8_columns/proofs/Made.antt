-- Blocks as the reader makes them: one line with its own block after another.
use Rattle.std.proofs.Common.{◌≡◌, ℕ, suc, ◌≤◌, ◌⊎◌, inl, inr, List, [], ◌∷◌, ◌++◌, Bool, true, false, refl, sym, ap, ◌∙◌, subst, arith}
use Rattle.std.proofs.lemmas.Bool.{false≢true}
use Rattle.p8_tree.specs.declared.places.Place.{Place}
use Rattle.p8_tree.specs.Expressions.{Tree}
use Rattle.p8_tree.specs.Statements as trees
use Rattle.p8_tree.specs.Statements.{Course, Forever, Count, Before, After, From, statement, Statements, no_statements, ◌▹◌, Arms, no_arms, nothing_else, otherwise}
use Rattle.p8_columns.specs.Lines.{Kind, Plain, If, ElseIf, Else, Repeat, End, Case, Item, Other, Line, line, column, is_opener, is_arm, is_plain_repeat}
use Rattle.p8_columns.specs.Columns.{open_for, OtherAfter, HasOther}
use Rattle.p8_columns.specs.Blocks.{Bound, Anywhere, UpTo, May, Contents, body, choices, Block, no_lines, plain, chain, chain_on, chain_end, loop, loop_end, cases, no_cases, item, last_item}
use Rattle.p8_columns.specs.Reader.{begun, with_item, closed}
use Rattle.p8_columns.proofs.Opens.{Past, past_append, past_less, unseen, none_right, skips, other_right, other_split, other_inside}

-- a line that stands among statements, under a CASE, or in the place of an ELSE kind
abbrev pub is_statement : Kind → Bool
is_statement (Plain a) = true
is_statement (If n e) = true
is_statement (ElseIf n e) = false
is_statement Else = false
is_statement (Repeat c) = true
is_statement (End u e) = false
is_statement (Case e) = true
is_statement (Item ts) = false
is_statement Other = false

abbrev pub is_case_line : Kind → Bool
is_case_line (Item ts) = true
is_case_line Other = true
is_case_line _ = false

abbrev pub is_else_kind : Kind → Bool
is_else_kind (ElseIf n e) = true
is_else_kind Else = true
is_else_kind _ = false

-- a line goes on from these contents
pub data Joins : Bound → Contents → Line → Type 0 where
  joins_statement : {b : Bound} {ss : Statements} (p : Place) (k : Kind) → is_statement k ≡ true → Joins b (body ss) (line p k)
  joins_case : {b : Bound} {arms : Arms} (p : Place) (k : Kind) → is_case_line k ≡ true → Joins b (choices arms nothing_else) (line p k)
  joins_chain : {ss : Statements} {arms : Arms} {q : Place} (p : Place) (k : Kind) → is_else_kind k ≡ true → Joins (UpTo p.column) (body (ss ▹ statement q (trees.If arms nothing_else))) (line p k)
  joins_loop : {ss inner : Statements} {q : Place} (p : Place) (until : Bool) (test : Tree) → Joins (UpTo p.column) (body (ss ▹ statement q (trees.Repeat Forever inner))) (line p (End until test))

-- the beginning of a block with contents of such a kind
abbrev pub fresh : Contents → Contents
fresh (body ss) = body no_statements
fresh (choices arms other) = choices no_arms nothing_else

pub fresh_begun : (k : Kind) → fresh (begun k) ≡ begun k
fresh_begun (Plain a) = refl
fresh_begun (If n e) = refl
fresh_begun (ElseIf n e) = refl
fresh_begun Else = refl
fresh_begun (Repeat c) = refl
fresh_begun (End u e) = refl
fresh_begun (Case e) = refl
fresh_begun (Item ts) = refl
fresh_begun Other = refl

pub fresh_closed : (x : Contents) (l : Line) (y : Contents) → fresh (closed x l y) ≡ fresh x
fresh_closed (body ss) l (body inner) = refl
fresh_closed (body ss) l (choices arms o) = refl
fresh_closed (choices arms o) l (choices xs p) = refl
fresh_closed (choices arms o) l (body inner) = go l.kind
  where
    go : (k : Kind) → fresh (with_item arms o k inner) ≡ choices no_arms nothing_else
    go (Plain a) = refl
    go (If n e) = refl
    go (ElseIf n e) = refl
    go Else = refl
    go (Repeat c) = refl
    go (End u e) = refl
    go (Case e) = refl
    go (Item ts) = refl
    go Other = refl

pub data Made : ℕ → Bound → Contents → List Line → Type 0 where
  nothing : {e : ℕ} (x : Contents) → fresh x ≡ x → Made e Anywhere x []
  leaf : {e : ℕ} {b : Bound} {x : Contents} {ls : List Line} (l : Line) → Made e b x ls → May (column l) b → e ≤ column l → Joins b x l → is_opener l.kind ≡ false → Made e Anywhere (closed x l (body no_statements)) (ls ++ l ∷ [])
  under : {e : ℕ} {b b' : Bound} {x : Contents} {ls ms : List Line} (l : Line) (y : Contents) → Made e b x ls → May (column l) b → e ≤ column l → Joins b x l → is_opener l.kind ≡ true → begun l.kind ≡ fresh y → Made (suc (column l)) b' y ms → Made e (UpTo (column l)) (closed x l y) (ls ++ l ∷ ms)

-- the last opener of a block stands at its edge or to the right of it
edge : {e : ℕ} {b : Bound} {x : Contents} {ls : List Line} → Block e b x ls → (d : ℕ) → b ≡ UpTo d → e ≤ d
edge no_lines d h = absurd cc
edge (plain r m le) d h = absurd cc
edge (chain {p = p} r m le i) d h = let s : p.column ≡ d = cc in omega arith
edge (chain_on q r i) d h = edge r d h
edge (chain_end q r i) d h = edge r d h
edge (loop {p = p} r m le i) d h = let s : p.column ≡ d = cc in omega arith
edge (loop_end q u t r) d h = absurd cc
edge (cases {p = p} r m le i) d h = let s : p.column ≡ d = cc in omega arith
edge no_cases d h = absurd cc
edge (item p r m le i) d h = let s : p.column ≡ d = cc in omega arith
edge (last_item p r m le i) d h = let s : p.column ≡ d = cc in omega arith

pub made : {e : ℕ} {b : Bound} {x : Contents} {ls : List Line} → Block e b x ls → Made e b x ls
made no_lines = nothing (body no_statements) refl
made (plain {p = p} {a = a} r m le) = leaf (line p (Plain a)) (made r) m le (joins_statement p (Plain a) refl) refl
made (chain {inner = inner} {p = p} {negated = n} {test = t} r m le i) = under (line p (If n t)) (body inner) (made r) m le (joins_statement p (If n t) refl) refl refl (made i)
made (chain_on {inner = inner} {negated = n} {test = t} q r i) = under (line q (ElseIf n t)) (body inner) (made r) (omega arith) (edge r q.column refl) (joins_chain q (ElseIf n t) refl) refl refl (made i)
made (chain_end {inner = inner} q r i) = under (line q Else) (body inner) (made r) (omega arith) (edge r q.column refl) (joins_chain q Else refl) refl refl (made i)
made (loop {inner = inner} {p = p} {course = c} r m le i) = under (line p (Repeat c)) (body inner) (made r) m le (joins_statement p (Repeat c) refl) refl refl (made i)
made (loop_end q u t r) = leaf (line q (End u t)) (made r) (omega arith) (edge r q.column refl) (joins_loop q u t) refl
made (cases {arms = arms} {other = o} {p = p} {value = v} r m le i) = under (line p (Case v)) (choices arms o) (made r) m le (joins_statement p (Case v) refl) refl refl (made i)
made no_cases = nothing (choices no_arms nothing_else) refl
made (item {inner = inner} {tests = ts} p r m le i) = under (line p (Item ts)) (body inner) (made r) m le (joins_case p (Item ts) refl) refl refl (made i)
made (last_item {inner = inner} p r m le i) = under (line p Other) (body inner) (made r) m le (joins_case p Other refl) refl refl (made i)

none_block : {e : ℕ} (x : Contents) → fresh x ≡ x → Block e Anywhere x []
none_block {e} (body ss) h = subst (λ x. Block e Anywhere x []) h no_lines
none_block {e} (choices arms o) h = subst (λ x. Block e Anywhere x []) h no_cases

case_opens : (k : Kind) → is_case_line k ≡ true → (is_opener k ≡ true) × (begun k ≡ body no_statements)
case_opens (Item ts) h = (refl, refl)
case_opens Other h = (refl, refl)
case_opens k h = absurd cc

else_opens : (k : Kind) → is_else_kind k ≡ true → (is_opener k ≡ true) × (begun k ≡ body no_statements)
else_opens (ElseIf n e) h = (refl, refl)
else_opens Else h = (refl, refl)
else_opens k h = absurd cc

leaf_block : {e : ℕ} {b : Bound} {x : Contents} {ls : List Line} (l : Line) → Block e b x ls → May (column l) b → e ≤ column l → Joins b x l → is_opener l.kind ≡ false → Block e Anywhere (closed x l (body no_statements)) (ls ++ l ∷ [])
leaf_block l r m le (joins_statement p (Plain a) s) o = plain r m le
leaf_block l r m le (joins_statement p k s) o = absurd cc
leaf_block l r m le (joins_case p k s) o = absurd (let f = case_opens k s in cc)
leaf_block l r m le (joins_chain p k s) o = absurd (let f = else_opens k s in cc)
leaf_block l r m le (joins_loop p u t) o = loop_end p u t r

under_block : {e : ℕ} {b b' : Bound} {x : Contents} {ls ms : List Line} (l : Line) (y : Contents) → Block e b x ls → May (column l) b → e ≤ column l → Joins b x l → is_opener l.kind ≡ true → begun l.kind ≡ fresh y → Block (suc (column l)) b' y ms → Block e (UpTo (column l)) (closed x l y) (ls ++ l ∷ ms)
under_block l (body inner) r m le (joins_statement p (If n t) s) o g i = chain r m le i
under_block l (body inner) r m le (joins_statement p (Repeat c) s) o g i = loop r m le i
under_block l (choices arms q) r m le (joins_statement p (Case v) s) o g i = cases r m le i
under_block l y r m le (joins_statement p k s) o g i = absurd cc
under_block l (body inner) r m le (joins_case p (Item ts) s) o g i = item p r m le i
under_block l (body inner) r m le (joins_case p Other s) o g i = last_item p r m le i
under_block l (choices arms q) r m le (joins_case p k s) o g i = absurd (let f = case_opens k s in cc)
under_block l (body inner) r m le (joins_case p k s) o g i = absurd cc
under_block l (body inner) r m le (joins_chain p (ElseIf n t) s) o g i = chain_on p r i
under_block l (body inner) r m le (joins_chain p Else s) o g i = chain_end p r i
under_block l (choices arms q) r m le (joins_chain p k s) o g i = absurd (let f = else_opens k s in cc)
under_block l (body inner) r m le (joins_chain p k s) o g i = absurd cc
under_block l y r m le (joins_loop p u t) o g i = absurd cc

pub block_of : {e : ℕ} {b : Bound} {x : Contents} {ls : List Line} → Made e b x ls → Block e b x ls
block_of (nothing x h) = none_block x h
block_of (leaf l r m le j o) = leaf_block l (block_of r) m le j o
block_of (under l y r m le j o g i) = under_block l y (block_of r) m le j o g (block_of i)

-- all lines of a block stand at its edge or to the right of it
pub past : {e : ℕ} {b : Bound} {x : Contents} {ls : List Line} → Made e b x ls → Past e ls
past (nothing x h) = tt
past {e} (leaf {ls = ls} l r m le j o) = past_append e ls (l ∷ []) (past r) (le, tt)
past {e} (under {ls = ls} {ms = ms} l y r m le j o g i) = past_append e ls (l ∷ ms) (past r) (le, past_less e (suc (column l)) ms (omega arith) (past i))

-- where the next line may stand no line of the block is open for it
pub none_open : {e : ℕ} {b : Bound} {x : Contents} {ls : List Line} → Made e b x ls → (c : ℕ) → May c b → open_for c ls ≡ []
none_open (nothing x h) c m = refl
none_open (leaf {ls = ls} l r n le j o) c m = skips c ls l [] (none_open r (column l) n) ∙ unseen c l [] (λ h. let f = h.0 in cc)
none_open (under {ls = ls} {ms = ms} l y r n le j o g i) c m = skips c ls l ms (none_open r (column l) n) ∙ none_right c (l ∷ ms) (m, past_less c (suc (column l)) ms (omega arith) (past i))

-- a place at or before the edge
pub may_edge : {e : ℕ} {b : Bound} {x : Contents} {ls : List Line} → Made e b x ls → (c : ℕ) → c ≤ e → May c b
may_edge (nothing x h) c le = tt
may_edge (leaf l r n lo j o) c le = tt
may_edge (under l y r n lo j o g i) c le = omega arith

-- the last opener of a block that has one still open
pub record Tail (e d : ℕ) (x : Contents) (ls : List Line) : Type 0 where
  pub opener : Line
  pub before : List Line
  pub since : List Line
  pub is : ls ≡ before ++ opener ∷ since
  pub opens : is_opener opener.kind ≡ true
  pub stands : column opener ≡ d
  pub first : open_for d before ≡ []
  pub right : Past (suc d) since
  pub arm : is_arm opener.kind ≡ true → (ss : Statements) × (p : Place) × (arms : Arms) × (x ≡ body (ss ▹ statement p (trees.If arms nothing_else)))
  pub loops : is_plain_repeat opener.kind ≡ true → (ss : Statements) × (p : Place) × (inner : Statements) × (x ≡ body (ss ▹ statement p (trees.Repeat Forever inner)))

pub up_to_same : {c d : ℕ} → UpTo c ≡ UpTo d → c ≡ d
up_to_same h = cc

pub nowhere : {d : ℕ} → ¬ (Anywhere ≡ UpTo d)
nowhere h = cc

abbrev tail_at : {e : ℕ} {b b' : Bound} {x : Contents} {ls ms : List Line} (l : Line) (y z : Contents) (d : ℕ) → Made e b x ls → May (column l) b → is_opener l.kind ≡ true → Made (suc (column l)) b' y ms → UpTo (column l) ≡ UpTo d → (is_arm l.kind ≡ true → (ss : Statements) × (p : Place) × (arms : Arms) × (z ≡ body (ss ▹ statement p (trees.If arms nothing_else)))) → (is_plain_repeat l.kind ≡ true → (ss : Statements) × (p : Place) × (inner : Statements) × (z ≡ body (ss ▹ statement p (trees.Repeat Forever inner)))) → Tail e d z (ls ++ l ∷ ms)
tail_at {e} {ls = ls} {ms = ms} l y z d r m o i h a w =
    let s : column l ≡ d = up_to_same h in
    record {
      opener = l;
      before = ls;
      since = ms;
      is = refl;
      opens = o;
      stands = s;
      first = ap (λ c. open_for c ls) (sym s) ∙ none_open r (column l) m;
      right = past_less (suc d) (suc (column l)) ms (omega arith) (past i);
      arm = a;
      loops = w;
    }

abbrev pub tail : {e : ℕ} {b : Bound} {x : Contents} {ls : List Line} → Block e b x ls → (d : ℕ) → b ≡ UpTo d → Tail e d x ls
tail no_lines d h = absurd (nowhere h)
tail (plain r m le) d h = absurd (nowhere h)
tail (chain {ss = ss} {inner = inner} {p = p} {negated = n} {test = t} r m le i) d h = tail_at (line p (If n t)) (body inner) _ d (made r) m refl (made i) h (λ _. (ss, p, _, refl)) (λ f. absurd (false≢true f))
tail (chain_on {ss = ss} {inner = inner} {p = p} {negated = n} {test = t} q r i) d h = tail_at (line q (ElseIf n t)) (body inner) _ d (made r) (omega arith) refl (made i) h (λ _. (ss, p, _, refl)) (λ f. absurd (false≢true f))
tail (chain_end {inner = inner} q r i) d h = tail_at (line q Else) (body inner) _ d (made r) (omega arith) refl (made i) h (λ f. absurd (false≢true f)) (λ f. absurd (false≢true f))
tail (loop {ss = ss} {inner = inner} {p = p} {course = c} r m le i) d h = tail_at (line p (Repeat c)) (body inner) _ d (made r) m refl (made i) h (λ f. absurd (false≢true f)) (forever c)
  where
    forever : (c : Course) → is_plain_repeat (Repeat c) ≡ true → (us : Statements) × (q : Place) × (vs : Statements) × (body (ss ▹ statement p (trees.Repeat c inner)) ≡ body (us ▹ statement q (trees.Repeat Forever vs)))
    forever Forever f = (ss, p, inner, refl)
    forever (Count e) f = absurd (false≢true f)
    forever (Before u e) f = absurd (false≢true f)
    forever (After u e) f = absurd (false≢true f)
    forever (From n a z s q) f = absurd (false≢true f)
tail (loop_end q u t r) d h = absurd (nowhere h)
tail (cases {arms = arms} {other = o} {p = p} {value = v} r m le i) d h = tail_at (line p (Case v)) (choices arms o) _ d (made r) m refl (made i) h (λ f. absurd (false≢true f)) (λ f. absurd (false≢true f))
tail no_cases d h = absurd (nowhere h)
tail (item {inner = inner} {tests = ts} p r m le i) d h = tail_at (line p (Item ts)) (body inner) _ d (made r) m refl (made i) h (λ f. absurd (false≢true f)) (λ f. absurd (false≢true f))
tail (last_item {inner = inner} p r m le i) d h = tail_at (line p Other) (body inner) _ d (made r) m refl (made i) h (λ f. absurd (false≢true f)) (λ f. absurd (false≢true f))

-- a chain that may go on is that of the last opener
pub last_arm : {e d : ℕ} {ss : Statements} {p : Place} {arms : Arms} {ls : List Line} → Block e (UpTo d) (body (ss ▹ statement p (trees.If arms nothing_else))) ls → (t : Tail e d (body (ss ▹ statement p (trees.If arms nothing_else))) ls) × (is_arm t.opener.kind ≡ true)
last_arm {d = d} (chain r m le i) = (tail (chain r m le i) d refl, refl)
last_arm {d = d} (chain_on q r i) = (tail (chain_on q r i) d refl, refl)

-- a plain loop is the last opener
pub last_loop : {e d : ℕ} {ss inner : Statements} {p : Place} {ls : List Line} → Block e (UpTo d) (body (ss ▹ statement p (trees.Repeat Forever inner))) ls → (t : Tail e d (body (ss ▹ statement p (trees.Repeat Forever inner))) ls) × (is_plain_repeat t.opener.kind ≡ true)
last_loop {d = d} (loop r m le i) = (tail (loop r m le i) d refl, refl)

-- whether a CASE has its OTHER
pub no_other : {e : ℕ} {b : Bound} {arms : Arms} {ls : List Line} → Block e b (choices arms nothing_else) ls → ¬ HasOther ls
no_other no_cases h = h
no_other (item {inner = inner} {ls = ls} {ms = ms} {tests = ts} p r m le i) h = go (no_other r) (other_split [] ls (line p (Item ts) ∷ ms) h)
  where
    go : ¬ HasOther ls → OtherAfter [] ls ⊎ OtherAfter ls (line p (Item ts) ∷ ms) → ⊥
    go n (inl x) = n x
    go n (inr (inl x)) = let f = x.0 in cc
    go n (inr (inr x)) = other_inside ls (line p (Item ts)) [] ms refl tt (past (made i)) x

pub some_other : {e : ℕ} {b : Bound} {arms : Arms} {inner : Statements} {ls : List Line} → Block e b (choices arms (otherwise inner)) ls → HasOther ls
some_other (last_item {ls = ls} {ms = ms} p r m le i) = other_right [] ls (line p Other ∷ ms) (inl (refl, none_open (made r) p.column m))
