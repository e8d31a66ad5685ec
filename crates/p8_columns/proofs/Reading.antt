-- The reader reads what the definitions say.
use Rattle.std.proofs.Common.{◌≡◌, ℕ, ◌≤◌, List, [], ◌∷◌, ◌++◌, true, false, refl, sym, ap, ◌∙◌, subst, arith, le-leb, append_assoc, append-nil}
use Rattle.std.specs.Prelude.{if◌then◌else◌}
use Rattle.std.proofs.lemmas.Bool.{lt-leb}
use Rattle.p8_tree.specs.Statements.{Statements, no_statements}
use Rattle.p8_columns.specs.Lines.{Line, column, is_opener}
use Rattle.p8_columns.specs.Columns.{FitAfter, AllFit}
use Rattle.p8_columns.specs.Blocks.{Bound, Anywhere, May, Contents, body, choices, Block, AreStatements}
use Rattle.p8_columns.specs.Reader.{Frame, State, state, frame, begun, closed, close, put, step, start, walk, statements_in, whole}
use Rattle.p8_columns.proofs.Made.{fresh, fresh_closed, Made, nothing, leaf, under, made, block_of, may_edge}
use Rattle.p8_columns.proofs.Standing.{top, Pending, outside, Stands, Closed, closes, steps}
use Rattle.p8_columns.proofs.Fitting.{joins}

pub walk_append : (s : State) (ls ms : List Line) → walk s (ls ++ ms) ≡ walk (walk s ls) ms
walk_append s [] ms = refl
walk_append s (l ∷ ls) ms = walk_append (step s l) ls ms

-- no open block stands at column c or to the right of it
pub kept : (c : ℕ) (x : Contents) (k : List Frame) → top k ≤ c → close c x k ≡ state x k
kept c x [] le = refl
kept c x (f ∷ k) le = rw (lt-leb c (column f.opener) le) refl

pub ends : (c : ℕ) (x : Contents) (f : Frame) (k : List Frame) → c ≤ column f.opener → close c x (f ∷ k) ≡ close c (closed f.outer f.opener x) k
ends c x f k le = rw (le-leb c (column f.opener) le) refl

put_opener : (x : Contents) (k : List Frame) (l : Line) → is_opener l.kind ≡ true → put (state x k) l ≡ state (begun l.kind) (frame l x ∷ k)
put_opener x k l o = ap (λ b. if b then state (begun l.kind) (frame l x ∷ k) else state (closed x l (body no_statements)) k) o

put_leaf : (x : Contents) (k : List Frame) (l : Line) → is_opener l.kind ≡ false → put (state x k) l ≡ state (closed x l (body no_statements)) k
put_leaf x k l o = ap (λ b. if b then state (begun l.kind) (frame l x ∷ k) else state (closed x l (body no_statements)) k) o

-- once a block is read and closed, its contents stand there
pub arrives : {e : ℕ} {b : Bound} {x : Contents} {ls : List Line} → Made e b x ls → (k : List Frame) → top k ≡ e → (c : ℕ) → May c b → close c (walk (state (fresh x) k) ls).contents (walk (state (fresh x) k) ls).frames ≡ close c x k
arrives (nothing x h) k e c m = ap (λ x. close c x k) h
arrives (leaf {x = x} {ls = ls} l r n le j o) k e c m =
    let y : step (walk (state (fresh x) k) ls) l ≡ state (closed x l (body no_statements)) k = ap (λ s. put s l) (arrives r k e (column l) n ∙ kept (column l) x k (omega arith)) ∙ put_leaf x k l o in
    let w : walk (state (fresh (closed x l (body no_statements))) k) (ls ++ l ∷ []) ≡ state (closed x l (body no_statements)) k = ap (λ x. walk (state x k) (ls ++ l ∷ [])) (fresh_closed x l (body no_statements)) ∙ walk_append (state (fresh x) k) ls (l ∷ []) ∙ y in
    ap (λ (s : State). close c s.contents s.frames) w
arrives (under {x = x} {ls = ls} {ms = ms} l y r n le j o g i) k e c m =
    let v : step (walk (state (fresh x) k) ls) l ≡ state (fresh y) (frame l x ∷ k) = ap (λ s. put s l) (arrives r k e (column l) n ∙ kept (column l) x k (omega arith)) ∙ put_opener x k l o ∙ ap (λ x'. state x' (frame l x ∷ k)) g in
    let w : walk (state (fresh (closed x l y)) k) (ls ++ l ∷ ms) ≡ walk (state (fresh y) (frame l x ∷ k)) ms = ap (λ x. walk (state x k) (ls ++ l ∷ ms)) (fresh_closed x l y) ∙ walk_append (state (fresh x) k) ls (l ∷ ms) ∙ ap (λ s. walk s ms) v in
    ap (λ (s : State). close c s.contents s.frames) w
    ∙ arrives i (frame l x ∷ k) refl c (may_edge i c (omega arith))
    ∙ ends c y (frame l x) k m

-- the lines of a method are read as its statements
pub complete : (ss : Statements) (lines : List Line) → AreStatements ss lines → whole (walk start lines) ≡ ss
complete ss lines r = let m = made r.1 in ap (λ (s : State). statements_in s.contents) (arrives m [] refl 0 (may_edge m 0 (omega arith)))

-- lines that fit are read
pub stands_after : (s : State) (before ls : List Line) → Stands Anywhere s.contents s.frames before → FitAfter before ls → Stands Anywhere (walk s ls).contents (walk s ls).frames (before ++ ls)
stands_after s before [] w h = subst (λ l. Stands Anywhere s.contents s.frames l) (sym (append-nil before)) w
stands_after s before (l ∷ ls) w h =
    let n = steps s l before w (λ z. joins (close (column l) s.contents s.frames) l before z h.0) in
    subst (λ x. Stands Anywhere (walk s (l ∷ ls)).contents (walk s (l ∷ ls)).frames x) (append_assoc before (l ∷ []) ls) (stands_after (step s l) (before ++ l ∷ []) ls n h.1)

pub stands_start : Stands Anywhere start.contents start.frames []
stands_start = record { us = []; vs = []; pending = outside; made = nothing (body no_statements) refl; sort = refl; is = refl }

pub stands_all : (lines : List Line) → AllFit lines → Stands Anywhere (walk start lines).contents (walk start lines).frames lines
stands_all lines h = stands_after start [] lines stands_start h

no_frames : (k : List Frame) → top k ≤ 0 → k ≡ []
no_frames [] le = refl
no_frames (f ∷ k) le = absurd (omega arith)

bodies : (x : Contents) → fresh x ≡ body no_statements → x ≡ body (statements_in x)
bodies (body ss) h = refl
bodies (choices arms o) h = absurd cc

-- all blocks closed, the lines are the statements
pub sound : (s : State) (lines : List Line) → Stands Anywhere s.contents s.frames lines → AreStatements (whole s) lines
sound s lines w = let z = closes s.frames 0 Anywhere s.contents lines tt w in from (close 0 s.contents s.frames) (no_frames (close 0 s.contents s.frames).frames z.below) z
  where
    at_start : {us vs : List Line} {b : Bound} {x : Contents} → Pending [] us → Block 0 b x vs → Block 0 b x (us ++ vs)
    at_start outside r = r

    settled : {b : Bound} {x : Contents} → Stands b x [] lines → AreStatements (statements_in x) lines
    settled {b} {x} y = (b, subst (λ l. Block 0 b (body (statements_in x)) l) (sym y.is) (at_start y.pending (subst (λ c. Block 0 b c y.vs) (bodies x y.sort) (block_of y.made))))

    from : (t : State) → t.frames ≡ [] → Closed 0 t lines → AreStatements (statements_in t.contents) lines
    from t e z = settled (subst (λ k. Stands z.b t.contents k lines) e z.stands)
