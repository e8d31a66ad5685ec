-- What the reader keeps stands for the lines so far.
use Rattle.std.proofs.Common.{◌≡◌, ℕ, suc, ◌≤◌, List, [], ◌∷◌, ◌++◌, length, Option, Some, None, Bool, true, false, refl, sym, ap, ◌∙◌, arith, append_assoc, append-nil, length-append}
use Rattle.std.specs.Prelude.{nat_le, ◌||◌, if◌then◌else◌}
use Rattle.std.specs.List.{list_any, last_or}
use Rattle.std.proofs.lemmas.Bool.{leb-true, leb-false}
use Rattle.std.proofs.lemmas.List.Folds.{list_any-append}
use Rattle.p8_tree.specs.Statements.{no_statements}
use Rattle.p8_columns.specs.Lines.{Line, column, is_opener, is_repeat}
use Rattle.p8_columns.specs.Columns.{OpenBlock, open_for, innermost}
use Rattle.p8_columns.specs.Blocks.{Bound, Anywhere, UpTo, May, Contents, body}
use Rattle.p8_columns.specs.Reader.{Frame, State, state, frame, begun, closed, close, put, step}
use Rattle.p8_columns.proofs.Opens.{Past, past_append, past_less, block, seen, skips, last_is}
use Rattle.p8_columns.proofs.Made.{Joins, fresh, fresh_begun, fresh_closed, Made, nothing, leaf, under, past, none_open}

-- the left edge and the beginning of the innermost block
abbrev pub top : List Frame → ℕ
top [] = 0
top (f ∷ k) = suc (column f.opener)

abbrev pub base : List Frame → Contents
base [] = body no_statements
base (f ∷ k) = begun f.opener.kind

-- the lines up to the innermost opener
pub data Pending : List Frame → List Line → Type 0 where
  outside : Pending [] []
  inside : {k : List Frame} {us vs : List Line} {b : Bound} (f : Frame) → Pending k us → Made (top k) b f.outer vs → fresh f.outer ≡ base k → May (column f.opener) b → top k ≤ column f.opener → Joins b f.outer f.opener → is_opener f.opener.kind ≡ true → Pending (f ∷ k) (us ++ (vs ++ f.opener ∷ []))

pub record Stands (b : Bound) (x : Contents) (k : List Frame) (ls : List Line) : Type 0 where
  pub us : List Line
  pub vs : List Line
  pub pending : Pending k us
  pub made : Made (top k) b x vs
  pub sort : fresh x ≡ base k
  pub is : ls ≡ us ++ vs

-- a block that is closed stands in the one around it
pub ended : {f : Frame} {k : List Frame} {us : List Line} → Pending (f ∷ k) us → (b : Bound) (y : Contents) (vs : List Line) → Made (suc (column f.opener)) b y vs → fresh y ≡ begun f.opener.kind → Stands (UpTo (column f.opener)) (closed f.outer f.opener y) k (us ++ vs)
ended (inside {us = us} {vs = ws} f p r s m le j o) b y vs i e = record {
  us = us;
  vs = ws ++ f.opener ∷ vs;
  pending = p;
  made = under f.opener y r m le j o (sym e) i;
  sort = fresh_closed f.outer f.opener y ∙ s;
  is = simp append_assoc;
}

pub record Closed (c : ℕ) (s : State) (ls : List Line) : Type 0 where
  pub b : Bound
  pub may : May c b
  pub stands : Stands b s.contents s.frames ls
  pub below : top s.frames ≤ c

pub closes : (k : List Frame) (c : ℕ) (b : Bound) (x : Contents) (ls : List Line) → May c b → Stands b x k ls → Closed c (close c x k) ls
closes [] c b x ls m s = record { b = b; may = m; stands = s; below = omega arith }
closes (f ∷ k) c b x ls m s = go (λ b' x' ls'. closes k c b' x' ls') (nat_le c (column f.opener)) refl
  where
    go : ((b' : Bound) (x' : Contents) (ls' : List Line) → May c b' → Stands b' x' k ls' → Closed c (close c x' k) ls') → (t : Bool) → nat_le c (column f.opener) ≡ t → Closed c (if t then close c (closed f.outer f.opener x) k else state x (f ∷ k)) ls
    go ih true e = let y = ended s.pending b x s.vs s.made s.sort in ih (UpTo (column f.opener)) (closed f.outer f.opener x) ls (leb-true c (column f.opener) e) (record { us = y.us; vs = y.vs; pending = y.pending; made = y.made; sort = y.sort; is = s.is ∙ y.is })
    go ih false e = record { b = b; may = m; stands = s; below = leb-false c (column f.opener) e }

-- a line after the blocks that it closes
puts : (s : State) (l : Line) (ls : List Line) (b : Bound) → May (column l) b → Stands b s.contents s.frames ls → top s.frames ≤ column l → Joins b s.contents l → Stands Anywhere (put s l).contents (put s l).frames (ls ++ l ∷ [])
puts s l ls b m w le j = go (is_opener l.kind) refl
  where
    go : (t : Bool) → is_opener l.kind ≡ t → Stands Anywhere (if t then state (begun l.kind) (frame l s.contents ∷ s.frames) else state (closed s.contents l (body no_statements)) s.frames).contents (if t then state (begun l.kind) (frame l s.contents ∷ s.frames) else state (closed s.contents l (body no_statements)) s.frames).frames (ls ++ l ∷ [])
    go true o = record {
      us = w.us ++ (w.vs ++ l ∷ []);
      vs = [];
      pending = inside (frame l s.contents) w.pending w.made w.sort m le j o;
      made = nothing (begun l.kind) (fresh_begun l.kind);
      sort = fresh_begun l.kind;
      is = ap (λ x. x ++ l ∷ []) w.is ∙ append_assoc w.us w.vs (l ∷ []) ∙ sym (append-nil _);
    }
    go false o = record {
      us = w.us;
      vs = w.vs ++ l ∷ [];
      pending = w.pending;
      made = leaf l w.made m le j o;
      sort = fresh_closed s.contents l (body no_statements) ∙ w.sort;
      is = ap (λ x. x ++ l ∷ []) w.is ∙ append_assoc w.us w.vs (l ∷ []);
    }

pub steps : (s : State) (l : Line) (ls : List Line) → Stands Anywhere s.contents s.frames ls → ((z : Closed (column l) (close (column l) s.contents s.frames) ls) → Joins z.b (close (column l) s.contents s.frames).contents l) → Stands Anywhere (step s l).contents (step s l).frames (ls ++ l ∷ [])
steps s l ls w j = let z = closes s.frames (column l) Anywhere s.contents ls tt w in puts (close (column l) s.contents s.frames) l ls z.b z.may z.stands z.below (j z)

-- the innermost block of frames
abbrev pub inner : List Frame → List Line → Option OpenBlock
inner [] vs = None
inner (f ∷ k) vs = Some (block f.opener vs)

abbrev Last : List Frame → List OpenBlock → List Line → Type 0
Last [] A vs = A ≡ []
Last (f ∷ k) A vs = (B : List OpenBlock) × (A ≡ B ++ block f.opener vs ∷ [])

-- the frames are the blocks that are open for a line to their right
pub record Opened (k : List Frame) (c : ℕ) (us vs : List Line) : Type 0 where
  pub blocks : List OpenBlock
  pub is : open_for c (us ++ vs) ≡ blocks ++ open_for c vs
  pub count : length blocks ≡ length k
  pub loops : list_any (λ b. is_repeat b.opener.kind) blocks ≡ list_any (λ f. is_repeat f.opener.kind) k
  pub last : Last k blocks vs

flip : (a b : Bool) → (a || (b || false)) ≡ (b || a)
flip true true = refl
flip true false = refl
flip false true = refl
flip false false = refl

pub opened : {k : List Frame} {us : List Line} → Pending k us → (c : ℕ) (vs : List Line) → top k ≤ c → Past (top k) vs → Opened k c us vs
opened outside c vs le p = record { blocks = []; is = refl; count = refl; loops = refl; last = refl }
opened (inside {k = k} {us = us} {vs = ws} f p r s m lo j o) c vs le q =
    let x = opened p c (ws ++ f.opener ∷ vs) (omega arith) (past_append (top k) ws (f.opener ∷ vs) (past r) (lo, past_less (top k) (suc (column f.opener)) vs (omega arith) q)) in
    record {
      blocks = x.blocks ++ block f.opener vs ∷ [];
      is =
          ap (λ l. open_for c l) (append_assoc us (ws ++ f.opener ∷ []) vs ∙ ap (λ l. us ++ l) (append_assoc ws (f.opener ∷ []) vs))
          ∙ x.is
          ∙ ap (λ l. x.blocks ++ l) (skips c ws f.opener vs (none_open r (column f.opener) m) ∙ seen c f.opener vs (o, le, q))
          ∙ sym (append_assoc x.blocks (block f.opener vs ∷ []) (open_for c vs));
      count = length-append x.blocks (block f.opener vs ∷ []) ∙ omega (arith, x.count);
      loops = list_any-append (λ b. is_repeat b.opener.kind) x.blocks (block f.opener vs ∷ []) ∙ flip (list_any (λ b. is_repeat b.opener.kind) x.blocks) (is_repeat f.opener.kind) ∙ ap (λ t. is_repeat f.opener.kind || t) x.loops;
      last = (x.blocks, refl);
    }

last_block : (k : List Frame) (A : List OpenBlock) (vs : List Line) → Last k A vs → last_or None A ≡ inner k vs
last_block [] A vs e = ap (λ x. last_or None x) e
last_block (f ∷ k) A vs e = ap (λ x. last_or None x) e.1 ∙ last_is e.0 (block f.opener vs)

-- where the blocks up to a column are closed, the frames that are left are those open for a line there
pub record Seen (c : ℕ) (k : List Frame) (vs lines : List Line) : Type 0 where
  pub innermost : innermost c lines ≡ inner k vs
  pub count : length (open_for c lines) ≡ length k
  pub loops : list_any (λ b. is_repeat b.opener.kind) (open_for c lines) ≡ list_any (λ f. is_repeat f.opener.kind) k

pub seen_of : {k : List Frame} {us vs lines : List Line} → (c : ℕ) → Opened k c us vs → lines ≡ us ++ vs → open_for c vs ≡ [] → Seen c k vs lines
seen_of {k} {us} {vs} {lines} c x is n =
    let e : open_for c lines ≡ x.blocks = ap (λ l. open_for c l) is ∙ x.is ∙ ap (λ l. x.blocks ++ l) n ∙ append-nil x.blocks in
    record {
      innermost = ap (λ l. last_or None l) e ∙ last_block k x.blocks vs x.last;
      count = ap (λ l. length l) e ∙ x.count;
      loops = ap (λ l. list_any (λ b. is_repeat b.opener.kind) l) e ∙ x.loops;
    }

pub sees : (c : ℕ) (s : State) (lines : List Line) (z : Closed c s lines) → Seen c s.frames z.stands.vs lines
sees c s lines z = let w = z.stands in seen_of c (opened w.pending c w.vs z.below (past w.made)) w.is (none_open w.made c z.may)
