-- Statements keep NEXT and QUIT in loops exactly where each line of them does.
use Rattle.std.proofs.Common.{◌≡◌, ℕ, List, [], ◌∷◌, ◌++◌, Bool, true, false, IsTrue, refl, sym, ap, ◌∙◌, subst, append_assoc, arith}
use Rattle.std.specs.Prelude.{◌&&◌, ◌||◌, ◌↔◌}
use Rattle.std.specs.List.{list_any}
use Rattle.p8_tree.specs.Statements.{Statements, no_statements}
use Rattle.p8_columns.specs.Lines.{Kind, Plain, If, ElseIf, Else, Repeat, Case, Item, Other, Line, column, is_opener, is_repeat}
use Rattle.p8_columns.specs.Columns.{open_for}
use Rattle.p8_columns.specs.Blocks.{Bound, Contents, body, choices, AreStatements}
use Rattle.p8_columns.specs.Reader.{Frame, frame, begun, closed}
use Rattle.p8_columns.proofs.Made.{Joins, joins_statement, joins_case, joins_chain, joins_loop, fresh, fresh_closed, Made, nothing, leaf, under, made}
use Rattle.p8_columns.proofs.Standing.{top, base, Pending, outside, inside}
use Rattle.p8_tree.specs.Nesting.{leave_loops, action_leaves, arms_leave, other_leaves}
use Rattle.p8_blocks.proofs.After.{After, after_append, after_first, after_rest, seen_next}

-- a line keeps to the loops around it
abbrev pub line_leaves : Bool → Kind → Bool
line_leaves in_loop (Plain a) = action_leaves in_loop a
line_leaves in_loop k = true

abbrev pub is_in_loop : ℕ → List Line → Bool
is_in_loop c before = list_any (λ b. is_repeat b.opener.kind) (open_for c before)

abbrev pub Leaves : List Line → Line → Type 0
Leaves before l = IsTrue (line_leaves (is_in_loop (column l) before) l.kind)

-- contents keep to the loops around them
abbrev contents_leave : Bool → Contents → Bool
contents_leave in_loop (body ss) = leave_loops in_loop ss
contents_leave in_loop (choices arms other) = arms_leave in_loop arms && other_leaves in_loop other

and_true : (a : Bool) → (a && true) ≡ a
and_true true = refl
and_true false = refl

first_arm : (a b : Bool) → (a && ((true && b) && true)) ≡ (a && b)
first_arm true true = refl
first_arm true false = refl
first_arm false b = refl

next_arm : (a b c : Bool) → (a && ((b && c) && true)) ≡ ((a && (b && true)) && c)
next_arm true true c = and_true c
next_arm true false c = refl
next_arm false b c = refl

last_arm : (a b c : Bool) → (a && (b && c)) ≡ ((a && (b && true)) && c)
last_arm true true c = refl
last_arm true false c = refl
last_arm false b c = refl

next_item : (a b : Bool) → ((a && b) && true) ≡ ((a && true) && b)
next_item true b = and_true b
next_item false b = refl

last_item : (a b : Bool) → (a && b) ≡ ((a && true) && b)
last_item true b = refl
last_item false b = refl

leaf_leaves : (i : Bool) (b : Bound) (x : Contents) (l : Line) → Joins b x l → is_opener l.kind ≡ false → contents_leave i (closed x l (body no_statements)) ≡ (contents_leave i x && line_leaves i l.kind)
leaf_leaves i b x l (joins_statement p (Plain a) t) o = refl
leaf_leaves i b x l (joins_statement p k t) o = absurd cc
leaf_leaves i b x l (joins_case p (Item ts) t) o = absurd cc
leaf_leaves i b x l (joins_case p Other t) o = absurd cc
leaf_leaves i b x l (joins_case p k t) o = absurd cc
leaf_leaves i b x l (joins_chain p (ElseIf n e) t) o = absurd cc
leaf_leaves i b x l (joins_chain p Else t) o = absurd cc
leaf_leaves i b x l (joins_chain p k t) o = absurd cc
leaf_leaves i b x l (joins_loop {ss = ss} {inner = inner} p u t) o = sym (and_true (leave_loops i ss && leave_loops true inner))

under_leaves : (i : Bool) (b : Bound) (x : Contents) (l : Line) (y : Contents) → Joins b x l → is_opener l.kind ≡ true → begun l.kind ≡ fresh y → contents_leave i (closed x l y) ≡ (contents_leave i x && contents_leave (is_repeat l.kind || i) y)
under_leaves i b x l (body inner) (joins_statement {ss = ss} p (If n t) s) o g = first_arm (leave_loops i ss) (leave_loops i inner)
under_leaves i b x l (body inner) (joins_statement p (Repeat c) s) o g = refl
under_leaves i b x l (choices arms q) (joins_statement p (Case v) s) o g = refl
under_leaves i b x l y (joins_statement p k s) o g = absurd cc
under_leaves i b x l (body inner) (joins_case {arms = arms} p (Item ts) s) o g = next_item (arms_leave i arms) (leave_loops i inner)
under_leaves i b x l (body inner) (joins_case {arms = arms} p Other s) o g = last_item (arms_leave i arms) (leave_loops i inner)
under_leaves i b x l (choices xs q) (joins_case p (Item ts) s) o g = absurd cc
under_leaves i b x l (choices xs q) (joins_case p Other s) o g = absurd cc
under_leaves i b x l y (joins_case p k s) o g = absurd cc
under_leaves i b x l (body inner) (joins_chain {ss = ss} {arms = arms} p (ElseIf n t) s) o g = next_arm (leave_loops i ss) (arms_leave i arms) (leave_loops i inner)
under_leaves i b x l (body inner) (joins_chain {ss = ss} {arms = arms} p Else s) o g = last_arm (leave_loops i ss) (arms_leave i arms) (leave_loops i inner)
under_leaves i b x l (choices xs q) (joins_chain p (ElseIf n t) s) o g = absurd cc
under_leaves i b x l (choices xs q) (joins_chain p Else s) o g = absurd cc
under_leaves i b x l y (joins_chain p k s) o g = absurd cc
under_leaves i b x l y (joins_loop p u t) o g = absurd cc

nothing_leaves : (i : Bool) (x : Contents) → fresh x ≡ x → contents_leave i x ≡ true
nothing_leaves i (body ss) h = ap (λ x. contents_leave i x) (sym h)
nothing_leaves i (choices arms other) h = ap (λ x. contents_leave i x) (sym h)

opener_leaves : (i : Bool) (k : Kind) → is_opener k ≡ true → IsTrue (line_leaves i k)
opener_leaves i (Plain a) h = absurd cc
opener_leaves i k h = refl

both : (a b : Bool) → IsTrue a → IsTrue b → IsTrue (a && b)
both true b h g = g
both false b h g = absurd cc

halves : (a b : Bool) → IsTrue (a && b) → IsTrue a × IsTrue b
halves true b h = (refl, h)
halves false b h = absurd cc

abbrev loops_in : List Frame → Bool
loops_in k = list_any (λ f. is_repeat f.opener.kind) k

leaves_made : {e : ℕ} {b : Bound} {x : Contents} {ls : List Line} → Made e b x ls → (k : List Frame) (us : List Line) → Pending k us → top k ≡ e → fresh x ≡ base k → After Leaves us ls ↔ IsTrue (contents_leave (loops_in k) x)
leaves_made (nothing x h) k us w e s = (λ _. nothing_leaves (loops_in k) x h, λ _. tt)
leaves_made (leaf {b = b} {x = x} {ls = ls} l r m le j o) k us w e s =
    let s' = sym (fresh_closed x l (body no_statements)) ∙ s in
    let there = (seen_next k us (column l) w (subst (λ e. Made e b x ls) (sym e) r) s' m (omega (arith, e, le))).loops in
    let same : line_leaves (is_in_loop (column l) (us ++ ls)) l.kind ≡ line_leaves (loops_in k) l.kind = ap (λ i. line_leaves i l.kind) there in
    let before = leaves_made r k us w e s' in
    let whole = leaf_leaves (loops_in k) b x l j o in (
      λ h. subst IsTrue (sym whole) (both (contents_leave (loops_in k) x) (line_leaves (loops_in k) l.kind) (before.0 (after_first Leaves us ls (l ∷ []) h)) (subst IsTrue same ((after_rest Leaves us ls (l ∷ []) h).0))),
      λ h. let y = halves (contents_leave (loops_in k) x) (line_leaves (loops_in k) l.kind) (subst IsTrue whole h) in after_append Leaves us ls (l ∷ []) (before.1 y.0) (subst IsTrue (sym same) y.1, tt),
    )
leaves_made (under {b = b} {x = x} {ls = ls} {ms = ms} l y r m le j o g i) k us w e s =
    let s' = sym (fresh_closed x l y) ∙ s in
    let r' = subst (λ e. Made e b x ls) (sym e) r in
    let p : Pending (frame l x ∷ k) (us ++ (ls ++ l ∷ [])) = inside (frame l x) w r' s' m (omega (arith, e, le)) j o in
    let before = leaves_made r k us w e s' in
    let inner = leaves_made i (frame l x ∷ k) (us ++ (ls ++ l ∷ [])) p refl (sym g) in
    let whole = under_leaves (loops_in k) b x l y j o g in
    let grouped = append_assoc us ls (l ∷ []) in (
      λ h.
          let rest = after_rest Leaves us ls (l ∷ ms) h in
          subst IsTrue (sym whole) (both (contents_leave (loops_in k) x) (contents_leave (is_repeat l.kind || loops_in k) y) (before.0 (after_first Leaves us ls (l ∷ ms) h)) (inner.0 (subst (λ z. After Leaves z ms) grouped rest.1))),
      λ h.
          let z = halves (contents_leave (loops_in k) x) (contents_leave (is_repeat l.kind || loops_in k) y) (subst IsTrue whole h) in
          after_append Leaves us ls (l ∷ ms) (before.1 z.0) (opener_leaves (is_in_loop (column l) (us ++ ls)) l.kind o, subst (λ z. After Leaves z ms) (sym grouped) (inner.1 z.1)),
    )

-- the lines of a method
pub all_leave : (ss : Statements) (ls : List Line) → AreStatements ss ls → After Leaves [] ls ↔ IsTrue (leave_loops false ss)
all_leave ss ls r = leaves_made (made r.1) [] [] outside refl refl
