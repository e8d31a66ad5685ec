-- A line that fits goes on from what the reader keeps.
use Rattle.std.proofs.Common.{◌≡◌, ℕ, suc, ◌<◌, ◌≤◌, ◌⊎◌, inl, inr, List, [], ◌∷◌, ◌++◌, Some, None, Bool, true, refl, sym, ap, ◌∙◌, subst, arith}
use Rattle.std.specs.Prelude.{IsTrue}
use Rattle.std.specs.List.{last_or}
use Rattle.std.proofs.lemmas.Bool.{cases_lt}
use Rattle.p8_tree.specs.Statements as trees
use Rattle.p8_tree.specs.Statements.{Statements, no_statements, Arms, Otherwise, nothing_else, otherwise}
use Rattle.p8_columns.specs.Lines.{Kind, Plain, If, ElseIf, Else, Repeat, End, Case, Item, Other, Line, line, column, is_opener, is_arm, is_else, is_plain_repeat, is_case}
use Rattle.p8_columns.specs.Columns.{OpenBlock, open_for, innermost, last_up_to, IsAt, HasRoom, FitsAs, Fits}
use Rattle.p8_columns.specs.declared.room.Room.TheVariants as room_case
use Rattle.p8_columns.specs.Blocks.{Bound, Anywhere, UpTo, May, Contents, body, choices, Block}
use Rattle.p8_columns.specs.Reader.{Frame, State, begun}
use Rattle.p8_columns.proofs.Opens.{past_less, block, seen, skips, none_right, last_is, at_is_innermost}
use Rattle.p8_columns.proofs.Made.{Joins, joins_statement, joins_case, joins_chain, joins_loop, is_statement, is_case_line, is_else_kind, fresh, Made, block_of, past, none_open, Tail, tail, some_other}
use Rattle.p8_columns.proofs.Standing.{top, base, Closed, inner, opened, seen_of, sees}

-- the last opener of a block that stands at column c
record AtTail (test : Kind → Bool) (e c : ℕ) (b : Bound) (x : Contents) (vs : List Line) : Type 0 where
  bound : b ≡ UpTo c
  tail : Tail e c x vs
  passes : test tail.opener.kind ≡ true

some_block : {a b : OpenBlock} → Some a ≡ Some b → a ≡ b
some_block h = cc

block_opener : {a b : OpenBlock} → Some a ≡ Some b → a.opener ≡ b.opener
block_opener h = ap (λ (b : OpenBlock). b.opener) (some_block h)

inner_top : (k : List Frame) (vs : List Line) (l : Line) (since : List Line) → inner k vs ≡ Some (block l since) → top k ≡ suc (column l)
inner_top [] vs l since h = absurd cc
inner_top (f ∷ k) vs l since h = let s : f.opener ≡ l = block_opener h in ap (λ l. suc (column l)) s

at_tail : (test : Kind → Bool) → ((k : Kind) → test k ≡ true → is_opener k ≡ true) → (c : ℕ) (s : State) (lines : List Line) (z : Closed c s lines) → IsAt test c (last_up_to c lines) → AtTail test (top s.frames) c z.b s.contents z.stands.vs
at_tail test opens c s lines z h =
    let w = z.stands in
    go z.b w.made z.may (at_is_innermost test opens c lines h)
  where
    not_seen : open_for (suc c) z.stands.vs ≡ [] → (l : Line) (since : List Line) → innermost (suc c) lines ≡ Some (block l since) → column l ≡ c → ⊥
    not_seen n l since e f =
        let w = z.stands in
        let below = z.below in
        let x = opened w.pending (suc c) w.vs (omega arith) (past w.made) in
        let y = seen_of (suc c) x w.is n in
        let t = inner_top s.frames w.vs l since (sym y.innermost ∙ e) in
        omega (arith, t, f, below)

    found : (d : ℕ) → d ≡ c → (t : Tail (top s.frames) d s.contents z.stands.vs) → (l : Line) (since : List Line) → innermost (suc c) lines ≡ Some (block l since) → t.opener ≡ l
    found d e t l since h =
        let w = z.stands in
        let below = z.below in
        let lo = t.stands in
        let x = opened w.pending (suc c) w.vs (omega arith) (past w.made) in
        let n : open_for (suc c) w.vs ≡ block t.opener t.since ∷ [] =
        ap (λ l. open_for (suc c) l) t.is
        ∙ skips (suc c) t.before t.opener t.since (ap (λ c. open_for c t.before) lo ∙ t.first)
        ∙ seen (suc c) t.opener t.since (t.opens, omega arith, past_less (suc (column t.opener)) (suc d) t.since (omega arith) t.right)
        ∙ ap (λ l. block t.opener t.since ∷ l) (none_right (suc c) t.since (past_less (suc c) (suc d) t.since (omega arith) t.right)) in
        let i : innermost (suc c) lines ≡ Some (block t.opener t.since) =
        ap (λ l. last_or None (open_for (suc c) l)) w.is ∙ ap (λ l. last_or None l) (x.is ∙ ap (λ l. x.blocks ++ l) n) ∙ last_is x.blocks (block t.opener t.since) in
        block_opener (sym i ∙ h)

    go : (b : Bound) → Made (top s.frames) b s.contents z.stands.vs → May c b → (l : Line) × (since : List Line) × (innermost (suc c) lines ≡ Some (block l since)) × (column l ≡ c) × (test l.kind ≡ true) → AtTail test (top s.frames) c b s.contents z.stands.vs
    go Anywhere m may i = absurd (not_seen (none_open m (suc c) tt) i.0 i.1 i.2 i.3)
    go (UpTo d) m may i = at_column (cases_lt c d)
      where
        at_column : (c < d) ⊎ (d ≤ c) → AtTail test (top s.frames) c (UpTo d) s.contents z.stands.vs
        at_column (inl lt) = absurd (not_seen (none_open m (suc c) lt) i.0 i.1 i.2 i.3)
        at_column (inr le) =
            let e : d ≡ c = omega arith in
            let t = tail (block_of m) d refl in
            let s' = found d e t i.0 i.1 i.2 in
            subst (λ n. AtTail test (top s.frames) n (UpTo d) s.contents z.stands.vs) e (record { bound = refl; tail = t; passes = ap (λ (l : Line). test l.kind) s' ∙ i.4 })

pub arm_opens : (k : Kind) → is_arm k ≡ true → is_opener k ≡ true
arm_opens (If n e) h = refl
arm_opens (ElseIf n e) h = refl
arm_opens k h = absurd cc

pub else_opens : (k : Kind) → is_else k ≡ true → is_opener k ≡ true
else_opens Else h = refl
else_opens k h = absurd cc

pub loop_opens : (k : Kind) → is_plain_repeat k ≡ true → is_opener k ≡ true
loop_opens (Repeat c) h = refl
loop_opens k h = absurd cc

-- blocks of statements and of a CASE's items
body_begun : (k : Kind) → ¬ IsTrue (is_case k) → begun k ≡ body no_statements
body_begun (Case v) n = absurd (n refl)
body_begun (Plain a) n = refl
body_begun (If m e) n = refl
body_begun (ElseIf m e) n = refl
body_begun Else n = refl
body_begun (Repeat c) n = refl
body_begun (End u e) n = refl
body_begun (Item ts) n = refl
body_begun Other n = refl

pub case_begun : (k : Kind) → IsTrue (is_case k) → begun k ≡ choices trees.no_arms nothing_else
case_begun (Case v) h = refl
case_begun k h = absurd cc

in_body : (x : Contents) → fresh x ≡ body no_statements → (ss : Statements) × (x ≡ body ss)
in_body (body ss) h = (ss, refl)
in_body (choices arms o) h = absurd cc

pub in_case : (x : Contents) → fresh x ≡ choices trees.no_arms nothing_else → (arms : Arms) × (o : Otherwise) × (x ≡ choices arms o)
in_case (body ss) h = absurd cc
in_case (choices arms o) h = (arms, o, refl)

statement_room : (k : List Frame) (vs : List Line) (x : Contents) → fresh x ≡ base k → HasRoom room_case.Statement (inner k vs) → (ss : Statements) × (x ≡ body ss)
statement_room [] vs x e h = in_body x e
statement_room (f ∷ k) vs x e h = in_body x (e ∙ body_begun f.opener.kind h)

item_room : (k : List Frame) (vs : List Line) (x : Contents) → {e : ℕ} {b : Bound} → Made e b x vs → fresh x ≡ base k → HasRoom room_case.Item (inner k vs) → (arms : Arms) × (x ≡ choices arms nothing_else)
item_room [] vs x m e h = absurd h
item_room (f ∷ k) vs x {e} {b} m s h = let y = in_case x (s ∙ case_begun f.opener.kind h.0) in go y.0 y.1 y.2
  where
    go : (arms : Arms) (o : Otherwise) → x ≡ choices arms o → (arms : Arms) × (x ≡ choices arms nothing_else)
    go arms nothing_else q = (arms, q)
    go arms (otherwise ss) q = absurd (h.1 (some_other (subst (λ x. Block e b x vs) q (block_of m))))

-- what fits goes on
pub joins : (s : State) (l : Line) (lines : List Line) (z : Closed (column l) s lines) → Fits lines l → Joins z.b s.contents l
joins s l lines z h = go l.kind h
  where
    statement_joins : (k : Kind) → is_statement k ≡ true → HasRoom room_case.Statement (innermost (column l) lines) → Joins z.b s.contents (line l.place k)
    statement_joins k t r =
        let y = statement_room s.frames z.stands.vs s.contents z.stands.sort (subst (λ o. HasRoom room_case.Statement o) (sees (column l) s lines z).innermost r) in
        subst (λ x. Joins z.b x (line l.place k)) (sym y.1) (joins_statement l.place k t)

    case_joins : (k : Kind) → is_case_line k ≡ true → HasRoom room_case.Item (innermost (column l) lines) → Joins z.b s.contents (line l.place k)
    case_joins k t r =
        let y = item_room s.frames z.stands.vs s.contents z.stands.made z.stands.sort (subst (λ o. HasRoom room_case.Item o) (sees (column l) s lines z).innermost r) in
        subst (λ x. Joins z.b x (line l.place k)) (sym y.1) (joins_case l.place k t)

    chain_joins : (k : Kind) → is_else_kind k ≡ true → IsAt is_arm (column l) (last_up_to (column l) lines) → Joins z.b s.contents (line l.place k)
    chain_joins k t r =
        let y = at_tail is_arm arm_opens (column l) s lines z r in
        let a = y.tail.arm y.passes in
        subst (λ b. Joins b s.contents (line l.place k)) (sym y.bound) (subst (λ x. Joins (UpTo (column l)) x (line l.place k)) (sym a.3) (joins_chain l.place k t))

    go : (k : Kind) → FitsAs k (column l) lines → Joins z.b s.contents (line l.place k)
    go (Plain a) r = statement_joins (Plain a) refl r
    go (If n e) r = statement_joins (If n e) refl r
    go (ElseIf n e) r = chain_joins (ElseIf n e) refl r
    go Else r = chain_joins Else refl r
    go (Repeat c) r = statement_joins (Repeat c) refl r
    go (End u e) r =
        let y = at_tail is_plain_repeat loop_opens (column l) s lines z r in
        let a = y.tail.loops y.passes in
        subst (λ b. Joins b s.contents (line l.place (End u e))) (sym y.bound) (subst (λ x. Joins (UpTo (column l)) x (line l.place (End u e))) (sym a.3) (joins_loop l.place u e))
    go (Case v) r = statement_joins (Case v) refl r
    go (Item ts) r = case_joins (Item ts) refl r
    go Other r = case_joins Other refl r
