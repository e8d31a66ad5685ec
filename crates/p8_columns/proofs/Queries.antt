-- What the open blocks tell of the next line.
use Rattle.std.proofs.Common.{◌≡◌, ℕ, zero, suc, ◌+◌, ◌-◌, List, [], ◌∷◌, ◌++◌, length, drop, Option, Some, None, Bool, true, false, refl, sym, ap, ◌∙◌, subst, arith, length-drop}
use Rattle.std.specs.Prelude.{nat_le, if◌then◌else◌, IsTrue, ◌↔◌}
use Rattle.std.specs.List.{list_any}
use Rattle.p8_tree.specs.Statements.{Statements, no_statements, Arms, Otherwise, nothing_else, otherwise}
use Rattle.p8_columns.specs.Lines.{Kind, Plain, If, ElseIf, Else, Repeat, End, Case, Item, Other, Line, column, is_opener, is_arm, is_else, is_repeat, is_plain_repeat, is_case, is_other}
use Rattle.p8_columns.specs.Columns.{OpenBlock, open_for, innermost, last_up_to, IsAt, HasOther, HasRoom, HasChain, Fits}
use Rattle.p8_columns.specs.declared.room.Room.TheVariants as room_case
use Rattle.p8_columns.specs.declared.room.Chain.{Chain}
use Rattle.p8_columns.specs.declared.room.Chain.TheVariants as chain_case
use Rattle.p8_columns.specs.Blocks.{Bound, Anywhere, UpTo, Contents, body, choices, Block, AreStatements}
use Rattle.p8_columns.specs.Reader.{Frame, State, state, begun, closed, close, put, step, start, whole, right_of, opener_at, opener_before, passes}
use Rattle.p8_columns.specs.Taken.{HasTaken, state_of}
use Rattle.p8_columns.specs.declared.blocks.Blocks.{Blocks}
use Rattle.p8_columns.proofs.Opens.{at_is_innermost, innermost_is_at}
use Rattle.p8_columns.proofs.Made.{Joins, joins_statement, joins_case, joins_chain, joins_loop, fresh, Made, nothing, leaf, under, block_of, is_statement, no_other, some_other}
use Rattle.p8_columns.proofs.Standing.{base, Pending, inside, Stands, closes, ended, inner, sees, Seen}
use Rattle.p8_columns.proofs.Fitting.{case_begun, in_case, arm_opens, else_opens, loop_opens}
use Rattle.p8_columns.proofs.Reading.{walk_append, stands_all, sound}
use Rattle.p8_columns.proofs.Meaning.{fit_append}

pub stands : (lines : List Line) (b : Blocks) → HasTaken lines b → Stands Anywhere (state_of b).contents (state_of b).frames lines
stands lines b h = subst (λ (s : State). Stands Anywhere s.contents s.frames lines) (sym h.kept) (stands_all lines h.fit)

-- the frames that are left
pub frames_left : (c : ℕ) (x : Contents) (k : List Frame) → (close c x k).frames ≡ drop (right_of c k) k
frames_left c x [] = refl
frames_left c x (f ∷ k) = go (nat_le c (column f.opener)) (frames_left c (closed f.outer f.opener x) k)
  where
    go : (t : Bool) → (close c (closed f.outer f.opener x) k).frames ≡ drop (right_of c k) k → (if t then close c (closed f.outer f.opener x) k else state x (f ∷ k)).frames ≡ drop (if t then suc (right_of c k) else 0) (f ∷ k)
    go true e = e
    go false e = refl

abbrev opener_in : Option OpenBlock → Option Line
opener_in None = None
opener_in (Some b) = Some b.opener

outer_is : (c : ℕ) (x : Contents) (k : List Frame) (vs : List Line) → opener_at k (right_of c k) ≡ opener_in (inner (close c x k).frames vs)
outer_is c x [] vs = refl
outer_is c x (f ∷ k) vs = go (nat_le c (column f.opener)) (outer_is c (closed f.outer f.opener x) k vs)
  where
    go : (t : Bool) → opener_at k (right_of c k) ≡ opener_in (inner (close c (closed f.outer f.opener x) k).frames vs) → opener_at (f ∷ k) (if t then suc (right_of c k) else 0) ≡ opener_in (inner (if t then close c (closed f.outer f.opener x) k else state x (f ∷ k)).frames vs)
    go true e = e
    go false e = refl

-- whether contents are those of a CASE with its OTHER
abbrev other_in : Contents → Bool
other_in (body ss) = false
other_in (choices arms nothing_else) = false
other_in (choices arms (otherwise ss)) = true

statement_no_other : (k : Kind) → is_statement k ≡ true → false ≡ is_other k
statement_no_other Other h = absurd cc
statement_no_other (Plain a) h = refl
statement_no_other (If n e) h = refl
statement_no_other (ElseIf n e) h = refl
statement_no_other Else h = refl
statement_no_other (Repeat c) h = refl
statement_no_other (End u e) h = refl
statement_no_other (Case v) h = refl
statement_no_other (Item ts) h = refl

other_closed : (b : Bound) (x : Contents) (l : Line) (y : Contents) → Joins b x l → is_opener l.kind ≡ true → fresh y ≡ begun l.kind → other_in (closed x l y) ≡ is_other l.kind
other_closed b x l (body ss) (joins_statement p k t) o e = statement_no_other k t
other_closed b x l (choices arms q) (joins_statement p k t) o e = statement_no_other k t
other_closed b x l (body ss) (joins_case p (Item ts) t) o e = refl
other_closed b x l (body ss) (joins_case p Other t) o e = refl
other_closed b x l (body ss) (joins_case p k t) o e = absurd cc
other_closed b x l (choices arms q) (joins_case p (Item ts) t) o e = absurd cc
other_closed b x l (choices arms q) (joins_case p Other t) o e = absurd cc
other_closed b x l (choices arms q) (joins_case p k t) o e = absurd cc
other_closed b x l (body ss) (joins_chain p (ElseIf n e') t) o e = refl
other_closed b x l (body ss) (joins_chain p Else t) o e = refl
other_closed b x l (body ss) (joins_chain p k t) o e = absurd cc
other_closed b x l (choices arms q) (joins_chain p (ElseIf n e') t) o e = refl
other_closed b x l (choices arms q) (joins_chain p Else t) o e = refl
other_closed b x l (choices arms q) (joins_chain p k t) o e = absurd cc
other_closed b x l y (joins_loop p u t) o e = absurd cc

pending_other : {f : Frame} {k : List Frame} {us : List Line} → Pending (f ∷ k) us → (y : Contents) → fresh y ≡ begun f.opener.kind → other_in (closed f.outer f.opener y) ≡ is_other f.opener.kind
pending_other (inside {b = b} f p r s m le j o) y e = other_closed b f.outer f.opener y j o e

abbrev flag_at : Bool → List Frame → ℕ → Bool
flag_at t k zero = t
flag_at t k (suc i) = passes is_other (opener_at k i)

shifts : (f : Frame) (k : List Frame) (n : ℕ) → flag_at (is_other f.opener.kind) k n ≡ passes is_other (opener_at (f ∷ k) n)
shifts f k zero = refl
shifts f k (suc n) = refl

pub other_left : (k : List Frame) (c : ℕ) (b : Bound) (x : Contents) (ls : List Line) → Stands b x k ls → other_in (close c x k).contents ≡ flag_at (other_in x) k (right_of c k)
other_left [] c b x ls w = refl
other_left (f ∷ k) c b x ls w =
    let y = ended w.pending b x w.vs w.made w.sort in
    let e = other_left k c (UpTo (column f.opener)) (closed f.outer f.opener x) (w.us ++ w.vs) y in
    go (nat_le c (column f.opener)) (e ∙ ap (λ t. flag_at t k (right_of c k)) (pending_other w.pending x w.sort) ∙ shifts f k (right_of c k))
  where
    go : (t : Bool) → other_in (close c (closed f.outer f.opener x) k).contents ≡ passes is_other (opener_at (f ∷ k) (right_of c k)) → other_in (if t then close c (closed f.outer f.opener x) k else state x (f ∷ k)).contents ≡ flag_at (other_in x) (f ∷ k) (if t then suc (right_of c k) else 0)
    go true e = e
    go false e = refl

-- at rest no OTHER is closed
nothing_other : (x : Contents) → fresh x ≡ x → other_in x ≡ false
nothing_other (body ss) h = refl
nothing_other (choices arms nothing_else) h = refl
nothing_other (choices arms (otherwise ss)) h = absurd cc

leaf_other : (b : Bound) (x : Contents) (l : Line) → Joins b x l → is_opener l.kind ≡ false → other_in (closed x l (body no_statements)) ≡ false
leaf_other b x l (joins_statement p k t) o = refl
leaf_other b x l (joins_case p (Item ts) t) o = absurd cc
leaf_other b x l (joins_case p Other t) o = absurd cc
leaf_other b x l (joins_case p k t) o = absurd cc
leaf_other b x l (joins_chain p k t) o = refl
leaf_other b x l (joins_loop p u t) o = refl

at_rest : {e : ℕ} {b : Bound} {x : Contents} {ls : List Line} → Made e b x ls → b ≡ Anywhere → other_in x ≡ false
at_rest (nothing x h) s = nothing_other x h
at_rest (leaf {b = b} {x = x} l r m le j o) s = leaf_other b x l j o
at_rest (under l y r m le j o g i) s = absurd cc

before_is : (k : List Frame) (n : ℕ) → passes is_other (opener_before k n) ≡ flag_at false k n
before_is k zero = refl
before_is k (suc n) = refl

-- what a query at column c finds
record Found (c : ℕ) (lines : List Line) (k : List Frame) (fs : List Frame) (x : Contents) (vs : List Line) : Type 0 where
  innermost : innermost c lines ≡ inner fs vs
  opener : opener_at k (right_of c k) ≡ opener_in (inner fs vs)
  other : passes is_other (opener_before k (right_of c k)) ≡ other_in x
  e : ℕ
  b : Bound
  made : Made e b x vs
  sort : fresh x ≡ base fs

finds : (c : ℕ) (lines : List Line) (x : Contents) (k : List Frame) → Stands Anywhere x k lines → (fs : List Frame) × (y : Contents) × (vs : List Line) × Found c lines k fs y vs
finds c lines x k w =
    let z = closes k c Anywhere x lines tt w in
    let y = z.stands in (
      (close c x k).frames,
      (close c x k).contents,
      y.vs,
      record {
        innermost = (sees c (close c x k) lines z).innermost;
        opener = outer_is c x k y.vs;
        other = before_is k (right_of c k) ∙ ap (λ t. flag_at t k (right_of c k)) (sym (at_rest w.made refl)) ∙ sym (other_left k c Anywhere x lines w);
        e = _;
        b = z.b;
        made = y.made;
        sort = y.sort;
      },
    )

statement_room : (fs : List Frame) (vs : List Line) → passes is_case (opener_in (inner fs vs)) ≡ false → HasRoom room_case.Statement (inner fs vs)
statement_room [] vs h = tt
statement_room (f ∷ fs) vs h = λ t. cc

nothing_room : (fs : List Frame) (x : Contents) (vs : List Line) {e : ℕ} {b : Bound} → Made e b x vs → fresh x ≡ base fs → passes is_case (opener_in (inner fs vs)) ≡ true → other_in x ≡ true → HasRoom room_case.Nothing (inner fs vs)
nothing_room [] x vs m s h o = absurd cc
nothing_room (f ∷ fs) x vs {e} {b} m s h o = let y = in_case x (s ∙ case_begun f.opener.kind h) in (h, go y.0 y.1 y.2)
  where
    go : (arms : Arms) (q : Otherwise) → x ≡ choices arms q → HasOther vs
    go arms nothing_else i = absurd (let j = ap other_in i in cc)
    go arms (otherwise ss) i = some_other (subst (λ x. Block e b x vs) i (block_of m))

item_room : (fs : List Frame) (x : Contents) (vs : List Line) {e : ℕ} {b : Bound} → Made e b x vs → fresh x ≡ base fs → passes is_case (opener_in (inner fs vs)) ≡ true → other_in x ≡ false → HasRoom room_case.Item (inner fs vs)
item_room [] x vs m s h o = absurd cc
item_room (f ∷ fs) x vs {e} {b} m s h o = let y = in_case x (s ∙ case_begun f.opener.kind h) in (h, go y.0 y.1 y.2)
  where
    go : (arms : Arms) (q : Otherwise) → x ≡ choices arms q → ¬ HasOther vs
    go arms nothing_else i = no_other (subst (λ x. Block e b x vs) i (block_of m))
    go arms (otherwise ss) i = absurd (let j = ap other_in i in cc)

pub room_statement : (c : ℕ) (lines : List Line) (b : Blocks) → HasTaken lines b → passes is_case (opener_at (state_of b).frames (right_of c (state_of b).frames)) ≡ false → HasRoom room_case.Statement (innermost c lines)
room_statement c lines b h p =
    let f = finds c lines (state_of b).contents (state_of b).frames (stands lines b h) in
    subst (λ o. HasRoom room_case.Statement o) (sym f.3.innermost) (statement_room f.0 f.2 (sym (ap (λ o. passes is_case o) f.3.opener) ∙ p))

pub room_nothing : (c : ℕ) (lines : List Line) (b : Blocks) → HasTaken lines b → passes is_case (opener_at (state_of b).frames (right_of c (state_of b).frames)) ≡ true → passes is_other (opener_before (state_of b).frames (right_of c (state_of b).frames)) ≡ true → HasRoom room_case.Nothing (innermost c lines)
room_nothing c lines b h p q =
    let f = finds c lines (state_of b).contents (state_of b).frames (stands lines b h) in
    subst (λ o. HasRoom room_case.Nothing o) (sym f.3.innermost) (nothing_room f.0 f.1 f.2 f.3.made f.3.sort (sym (ap (λ o. passes is_case o) f.3.opener) ∙ p) (sym f.3.other ∙ q))

pub room_item : (c : ℕ) (lines : List Line) (b : Blocks) → HasTaken lines b → passes is_case (opener_at (state_of b).frames (right_of c (state_of b).frames)) ≡ true → passes is_other (opener_before (state_of b).frames (right_of c (state_of b).frames)) ≡ false → HasRoom room_case.Item (innermost c lines)
room_item c lines b h p q =
    let f = finds c lines (state_of b).contents (state_of b).frames (stands lines b h) in
    subst (λ o. HasRoom room_case.Item o) (sym f.3.innermost) (item_room f.0 f.1 f.2 f.3.made f.3.sort (sym (ap (λ o. passes is_case o) f.3.opener) ∙ p) (sym f.3.other ∙ q))

-- the last line up to a column, by the frames
same_at : (test : Kind → Bool) → ((k : Kind) → test k ≡ true → is_opener k ≡ true) → (c : ℕ) (lines : List Line) (x : Contents) (k : List Frame) → Stands Anywhere x k lines → IsAt test c (opener_at k (right_of (suc c) k)) ↔ IsAt test c (last_up_to c lines)
same_at test opens c lines x k w = let f = finds (suc c) lines x k w in (to (innermost (suc c) lines) refl (f.3.opener ∙ ap opener_in (sym f.3.innermost)), from (f.3.opener ∙ ap opener_in (sym f.3.innermost)))
  where
    to : (i : Option OpenBlock) → innermost (suc c) lines ≡ i → opener_at k (right_of (suc c) k) ≡ opener_in (innermost (suc c) lines) → IsAt test c (opener_at k (right_of (suc c) k)) → IsAt test c (last_up_to c lines)
    to None e o h = absurd (subst (λ l. IsAt test c l) (o ∙ ap opener_in e) h)
    to (Some b) e o h =
        let g : IsAt test c (Some b.opener) = subst (λ l. IsAt test c l) (o ∙ ap opener_in e) h in
        subst (λ l. IsAt test c l) (sym (innermost_is_at c lines b e g.0)) g

    from : opener_at k (right_of (suc c) k) ≡ opener_in (innermost (suc c) lines) → IsAt test c (last_up_to c lines) → IsAt test c (opener_at k (right_of (suc c) k))
    from o h =
        let i = at_is_innermost test opens c lines h in
        subst (λ l. IsAt test c l) (sym (o ∙ ap opener_in i.2)) (i.3, i.4)

pub chain_is : (c : ℕ) (lines : List Line) (b : Blocks) → HasTaken lines b → (r : Chain) → HasChain r c (opener_at (state_of b).frames (right_of (suc c) (state_of b).frames)) → HasChain r c (last_up_to c lines)
chain_is c lines b h chain_case.Begun g = (same_at is_arm arm_opens c lines (state_of b).contents (state_of b).frames (stands lines b h)).0 g
chain_is c lines b h chain_case.Ended g = (same_at is_else else_opens c lines (state_of b).contents (state_of b).frames (stands lines b h)).0 g
chain_is c lines b h chain_case.Missing g =
    let w = stands lines b h in
    (λ x. g.0 ((same_at is_arm arm_opens c lines (state_of b).contents (state_of b).frames w).1 x), λ x. g.1 ((same_at is_else else_opens c lines (state_of b).contents (state_of b).frames w).1 x))

pub loop_is : (c : ℕ) (lines : List Line) (b : Blocks) → HasTaken lines b → IsAt is_plain_repeat c (opener_at (state_of b).frames (right_of (suc c) (state_of b).frames)) ↔ IsAt is_plain_repeat c (last_up_to c lines)
loop_is c lines b h = same_at is_plain_repeat loop_opens c lines (state_of b).contents (state_of b).frames (stands lines b h)

-- the open blocks, counted and searched
seen_all : (c : ℕ) (lines : List Line) (x : Contents) (k : List Frame) → Stands Anywhere x k lines → (vs : List Line) × Seen c (close c x k).frames vs lines
seen_all c lines x k w = let z = closes k c Anywhere x lines tt w in (z.stands.vs, sees c (close c x k) lines z)

pub depth_is : (c : ℕ) (lines : List Line) (b : Blocks) → HasTaken lines b → length (open_for c lines) ≡ length (state_of b).frames - right_of c (state_of b).frames
depth_is c lines b h =
    let k = (state_of b).frames in
    (seen_all c lines (state_of b).contents k (stands lines b h)).1.count ∙ ap (λ k. length k) (frames_left c (state_of b).contents k) ∙ length-drop (right_of c k) k

pub loops_is : (c : ℕ) (lines : List Line) (b : Blocks) → HasTaken lines b → list_any (λ f. is_repeat f.opener.kind) (drop (right_of c (state_of b).frames) (state_of b).frames) ≡ list_any (λ b. is_repeat b.opener.kind) (open_for c lines)
loops_is c lines b h =
    let k = (state_of b).frames in
    ap (λ k. list_any (λ f. is_repeat f.opener.kind) k) (sym (frames_left c (state_of b).contents k)) ∙ sym (seen_all c lines (state_of b).contents k (stands lines b h)).1.loops

-- one line more, and all lines
pub taken_more : (lines : List Line) (b : Blocks) (l : Line) (b' : Blocks) → HasTaken lines b → Fits lines l → step (state_of b) l ≡ state_of b' → HasTaken (lines ++ l ∷ []) b'
taken_more lines b l b' h f e = record {
  fit = fit_append [] lines (l ∷ []) h.fit (f, tt);
  kept = sym e ∙ ap (λ s. step s l) h.kept ∙ sym (walk_append start lines (l ∷ []));
}

-- the blocks that a line closes, and then the line
pub took : (lines : List Line) (b b' : Blocks) (l : Line) (c : ℕ) (x y : Contents) (k : List Frame) → HasTaken lines b → Fits lines l → c ≡ column l → x ≡ (state_of b).contents → close c x (state_of b).frames ≡ state y k → put (state y k) l ≡ state_of b' → HasTaken (lines ++ l ∷ []) b'
took lines b b' l c x y k h f s t e g = taken_more lines b l b' h f (ap (λ s. put s l) (ap (λ c. close c (state_of b).contents (state_of b).frames) (sym s) ∙ ap (λ x. close c x (state_of b).frames) (sym t) ∙ e) ∙ g)

pub finished : (lines : List Line) (b : Blocks) → HasTaken lines b → (ss : Statements) → whole (state_of b) ≡ ss → AreStatements ss lines
finished lines b h ss e = subst (λ ss. AreStatements ss lines) e (sound (state_of b) lines (stands lines b h))

-- the queries by the index that the code finds
right_at : (c e r : ℕ) (k : List Frame) → e ≡ c → r ≡ right_of (e + 1) k → right_of (suc c) k ≡ r
right_at c e r k s h = let n : suc c ≡ e + 1 = omega arith in ap (λ n. right_of n k) n ∙ sym h

pub chain_found : (c : ℕ) (lines : List Line) (b : Blocks) → HasTaken lines b → (e r : ℕ) → e ≡ c → r ≡ right_of (e + 1) (state_of b).frames → (o : Option Line) → opener_at (state_of b).frames r ≡ o → (q : Chain) → HasChain q c o → HasChain q c (last_up_to c lines)
chain_found c lines b h e r s n o f q g = chain_is c lines b h q (subst (λ o. HasChain q c o) (sym (ap (λ r. opener_at (state_of b).frames r) (right_at c e r (state_of b).frames s n) ∙ f)) g)

pub loop_found : (c : ℕ) (lines : List Line) (b : Blocks) → HasTaken lines b → (e r : ℕ) → e ≡ c → r ≡ right_of (e + 1) (state_of b).frames → (o : Option Line) → opener_at (state_of b).frames r ≡ o → (t : Bool) → IsTrue t ↔ IsAt is_plain_repeat c o → IsTrue t ↔ IsAt is_plain_repeat c (last_up_to c lines)
loop_found c lines b h e r s n o f t g =
    let i = loop_is c lines b h in
    let same : opener_at (state_of b).frames (right_of (suc c) (state_of b).frames) ≡ o = ap (λ r. opener_at (state_of b).frames r) (right_at c e r (state_of b).frames s n) ∙ f in
    (λ x. i.0 (subst (λ o. IsAt is_plain_repeat c o) (sym same) (g.0 x)), λ x. g.1 (subst (λ o. IsAt is_plain_repeat c o) same (i.1 x)))

pub found_at : (test : Kind → Bool) (c e r : ℕ) (k : List Frame) (t v : Bool) → e ≡ c → r ≡ right_of e k → t ≡ passes test (opener_at k r) → t ≡ v → passes test (opener_at k (right_of c k)) ≡ v
found_at test c e r k t v s n f g = ap (λ c. passes test (opener_at k (right_of c k))) (sym s) ∙ ap (λ r. passes test (opener_at k r)) (sym n) ∙ sym f ∙ g

pub found_before : (test : Kind → Bool) (c e r : ℕ) (k : List Frame) (t v : Bool) → e ≡ c → r ≡ right_of e k → t ≡ passes test (opener_before k r) → t ≡ v → passes test (opener_before k (right_of c k)) ≡ v
found_before test c e r k t v s n f g = ap (λ c. passes test (opener_before k (right_of c k))) (sym s) ∙ ap (λ r. passes test (opener_before k r)) (sym n) ∙ sym f ∙ g
