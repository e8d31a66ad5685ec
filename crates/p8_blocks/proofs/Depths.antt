-- Blocks of statements stand as deep in one another as the lines that open them.
use Rattle.std.proofs.Common.{◌≡◌, ℕ, zero, suc, ◌+◌, ◌<◌, ◌≤◌, List, [], ◌∷◌, ◌++◌, length, true, false, refl, sym, ap, ◌∙◌, subst, append_assoc, arith}
use Rattle.std.specs.Prelude.{max, ◌↔◌}
use Rattle.p8_tree.specs.Statements as trees
use Rattle.p8_tree.specs.Statements.{statement, Statements, no_statements, ◌▹◌, Arms, nothing_else}
use Rattle.p8_columns.specs.Lines.{Kind, Plain, If, ElseIf, Else, Repeat, End, Case, Item, Other, Line, column, is_opener}
use Rattle.p8_columns.specs.Columns.{open_for}
use Rattle.p8_columns.specs.Blocks.{Bound, UpTo, Contents, body, choices, Block, chain, chain_on, AreStatements}
use Rattle.p8_columns.specs.Reader.{Frame, frame, begun, closed}
use Rattle.p8_columns.proofs.Made.{Joins, joins_statement, joins_case, joins_chain, joins_loop, fresh, fresh_closed, Made, nothing, leaf, under, made, block_of}
use Rattle.p8_columns.proofs.Standing.{top, base, Pending, outside, inside}
use Rattle.p8_tree.specs.Nesting.{depth, action_depth, arms_depth, other_depth}
use Rattle.p8_blocks.proofs.After.{After, after_append, after_first, after_rest, seen_next}

-- How many blocks a line opens. Those of the ELSE kinds stand beside that of their IF.
abbrev pub line_depth : Kind → ℕ
line_depth (Plain a) = action_depth a
line_depth (If n t) = 1
line_depth (ElseIf n t) = 0
line_depth Else = 0
line_depth (Repeat c) = 1
line_depth (End u t) = 0
line_depth (Case v) = 1
line_depth (Item ts) = 1
line_depth Other = 1

abbrev pub Shallow : List Line → Line → Type 0
Shallow before l = 0 < line_depth l.kind → length (open_for (column l) before) + line_depth l.kind < 64

abbrev contents_depth : Contents → ℕ
contents_depth (body ss) = depth ss
contents_depth (choices arms other) = max (arms_depth arms) (other_depth other)

record Both (n a b m : ℕ) : Type 0 where
  to : n ≤ m → (a ≤ m) × (b ≤ m)
  from : a ≤ m → b ≤ m → n ≤ m

leaf_depth : (b : Bound) (x : Contents) (l : Line) (m : ℕ) → Joins b x l → is_opener l.kind ≡ false → Both (contents_depth (closed x l (body no_statements))) (contents_depth x) (line_depth l.kind) m
leaf_depth b x l m (joins_statement {ss = ss} p (Plain a) t) o = record { to = λ h. (omega (arith, h), omega (arith, h)); from = λ h g. omega (arith, h, g) }
leaf_depth b x l m (joins_statement p k t) o = absurd cc
leaf_depth b x l m (joins_case p (Item ts) t) o = absurd cc
leaf_depth b x l m (joins_case p Other t) o = absurd cc
leaf_depth b x l m (joins_case p k t) o = absurd cc
leaf_depth b x l m (joins_chain p (ElseIf n e) t) o = absurd cc
leaf_depth b x l m (joins_chain p Else t) o = absurd cc
leaf_depth b x l m (joins_chain p k t) o = absurd cc
leaf_depth b x l m (joins_loop p u t) o = record { to = λ h. (h, omega arith); from = λ h g. h }

under_depth : (b : Bound) (x : Contents) (l : Line) (y : Contents) (m : ℕ) → Joins b x l → is_opener l.kind ≡ true → begun l.kind ≡ fresh y → Both (contents_depth (closed x l y)) (contents_depth x) (suc (contents_depth y)) m
under_depth b x l (body inner) m (joins_statement {ss = ss} p (If n t) s) o g = record { to = λ h. (omega (arith, h), omega (arith, h)); from = λ h g. omega (arith, h, g) }
under_depth b x l (body inner) m (joins_statement p (Repeat c) s) o g = record { to = λ h. (omega (arith, h), omega (arith, h)); from = λ h g. omega (arith, h, g) }
under_depth b x l (choices arms q) m (joins_statement p (Case v) s) o g = record { to = λ h. (omega (arith, h), omega (arith, h)); from = λ h g. omega (arith, h, g) }
under_depth b x l y m (joins_statement p k s) o g = absurd cc
under_depth b x l (body inner) m (joins_case {arms = arms} p (Item ts) s) o g = record { to = λ h. (omega (arith, h), omega (arith, h)); from = λ h g. omega (arith, h, g) }
under_depth b x l (body inner) m (joins_case {arms = arms} p Other s) o g = record { to = λ h. (omega (arith, h), omega (arith, h)); from = λ h g. omega (arith, h, g) }
under_depth b x l (choices xs q) m (joins_case p (Item ts) s) o g = absurd cc
under_depth b x l (choices xs q) m (joins_case p Other s) o g = absurd cc
under_depth b x l y m (joins_case p k s) o g = absurd cc
under_depth b x l (body inner) m (joins_chain {ss = ss} {arms = arms} p (ElseIf n t) s) o g = record { to = λ h. (omega (arith, h), omega (arith, h)); from = λ h g. omega (arith, h, g) }
under_depth b x l (body inner) m (joins_chain {ss = ss} {arms = arms} p Else s) o g = record { to = λ h. (omega (arith, h), omega (arith, h)); from = λ h g. omega (arith, h, g) }
under_depth b x l (choices xs q) m (joins_chain p (ElseIf n t) s) o g = absurd cc
under_depth b x l (choices xs q) m (joins_chain p Else s) o g = absurd cc
under_depth b x l y m (joins_chain p k s) o g = absurd cc
under_depth b x l y m (joins_loop p u t) o g = absurd cc

nothing_deep : (x : Contents) → fresh x ≡ x → contents_depth x ≡ 0
nothing_deep (body ss) h = ap (λ x. contents_depth x) (sym h)
nothing_deep (choices arms other) h = ap (λ x. contents_depth x) (sym h)

-- a chain has an arm, which is a block
chain_deep : {e d : ℕ} {ss : Statements} {p : _} {arms : Arms} {ls : List Line} → Block e (UpTo d) (body (ss ▹ statement p (trees.If arms nothing_else))) ls → 1 ≤ depth (ss ▹ statement p (trees.If arms nothing_else))
chain_deep (chain r m le i) = omega arith
chain_deep (chain_on q r i) = omega arith

-- a line that opens a block has room for it
has_room : {e : ℕ} {ls : List Line} (n m : ℕ) (b : Bound) (x : Contents) (l : Line) → n + m ≡ 63 → Made e b x ls → Joins b x l → is_opener l.kind ≡ true → contents_depth x ≤ m → (0 < line_depth l.kind → n + line_depth l.kind < 64) → 1 ≤ m
has_room n m b x l e r (joins_statement p (If c t) s) o h g = let y = g (omega arith) in omega (arith, e, y)
has_room n m b x l e r (joins_statement p (Repeat c) s) o h g = let y = g (omega arith) in omega (arith, e, y)
has_room n m b x l e r (joins_statement p (Case v) s) o h g = let y = g (omega arith) in omega (arith, e, y)
has_room n m b x l e r (joins_statement p k s) o h g = absurd cc
has_room n m b x l e r (joins_case p (Item ts) s) o h g = let y = g (omega arith) in omega (arith, e, y)
has_room n m b x l e r (joins_case p Other s) o h g = let y = g (omega arith) in omega (arith, e, y)
has_room n m b x l e r (joins_case p k s) o h g = absurd cc
has_room n m b x l e r (joins_chain p k s) o h g = let y = chain_deep (block_of r) in omega (arith, y, h)
has_room n m b x l e r (joins_loop p u t) o h g = absurd cc

one_block : (k : Kind) → is_opener k ≡ true → line_depth k ≤ 1
one_block (Plain a) h = absurd cc
one_block (If n t) h = omega arith
one_block (ElseIf n t) h = omega arith
one_block Else h = omega arith
one_block (Repeat c) h = omega arith
one_block (End u t) h = omega arith
one_block (Case v) h = omega arith
one_block (Item ts) h = omega arith
one_block Other h = omega arith

within : (d n m : ℕ) → n + m ≡ 63 → (0 < d → n + d < 64) → d ≤ m
within zero n m e h = omega arith
within (suc d) n m e h = let y = h (omega arith) in omega (arith, e, y)

deep_made : {e : ℕ} {b : Bound} {x : Contents} {ls : List Line} → Made e b x ls → (k : List Frame) (us : List Line) (m : ℕ) → Pending k us → top k ≡ e → fresh x ≡ base k → length k + m ≡ 63 → After Shallow us ls ↔ (contents_depth x ≤ m)
deep_made (nothing x h) k us m w e s f = (λ _. let z = nothing_deep x h in omega (arith, z), λ _. tt)
deep_made (leaf {b = b} {x = x} {ls = ls} l r may le j o) k us m w e s f =
    let s' = sym (fresh_closed x l (body no_statements)) ∙ s in
    let there = (seen_next k us (column l) w (subst (λ e. Made e b x ls) (sym e) r) s' may (omega (arith, e, le))).count in
    let before = deep_made r k us m w e s' f in
    let whole = leaf_depth b x l m j o in (
      λ h. let y = (after_rest Shallow us ls (l ∷ []) h).0 in whole.from (before.0 (after_first Shallow us ls (l ∷ []) h)) (within (line_depth l.kind) (length (open_for (column l) (us ++ ls))) m (omega (arith, there, f)) y),
      λ h. let y = whole.to h in after_append Shallow us ls (l ∷ []) (before.1 y.0) (λ _. (let z = y.1 in omega (arith, z, there, f)), tt),
    )
deep_made (under {b = b} {x = x} {ls = ls} {ms = ms} l y r may le j o g i) k us m w e s f =
    let s' = sym (fresh_closed x l y) ∙ s in
    let r' = subst (λ e. Made e b x ls) (sym e) r in
    let there = (seen_next k us (column l) w r' s' may (omega (arith, e, le))).count in
    let p : Pending (frame l x ∷ k) (us ++ (ls ++ l ∷ [])) = inside (frame l x) w r' s' may (omega (arith, e, le)) j o in
    let before = deep_made r k us m w e s' f in
    let whole = under_depth b x l y m j o g in
    let inner = λ (m : ℕ) (f : length (frame l x ∷ k) + m ≡ 63). deep_made i (frame l x ∷ k) (us ++ (ls ++ l ∷ [])) m p refl (sym g) f in
    go m f there before whole inner
  where
    go : (m : ℕ) → length k + m ≡ 63 → length (open_for (column l) (us ++ ls)) ≡ length k → After Shallow us ls ↔ (contents_depth x ≤ m) → Both (contents_depth (closed x l y)) (contents_depth x) (suc (contents_depth y)) m → ((m : ℕ) → length (frame l x ∷ k) + m ≡ 63 → After Shallow (us ++ (ls ++ l ∷ [])) ms ↔ (contents_depth y ≤ m)) → After Shallow us (ls ++ l ∷ ms) ↔ (contents_depth (closed x l y) ≤ m)
    go zero f there before whole inner = (
      λ h. let a = (after_rest Shallow us ls (l ∷ ms) h).0 in let z = has_room (length k) 0 b x l f r j o (before.0 (after_first Shallow us ls (l ∷ ms) h)) (λ z. let y = a z in omega (arith, y, there)) in absurd (omega (arith, z)),
      λ h. let z = (whole.to h).1 in absurd (omega (arith, z)),
    )
    go (suc m) f there before whole inner = (
      λ h.
          let rest = after_rest Shallow us ls (l ∷ ms) h in
          let z = (inner m (omega (arith, f))).0 (subst (λ z. After Shallow z ms) (append_assoc us ls (l ∷ [])) rest.1) in
          whole.from (before.0 (after_first Shallow us ls (l ∷ ms) h)) (omega (arith, z)),
      λ h.
          let z = whole.to h in
          let d = z.1 in
          let c = one_block l.kind o in
          after_append Shallow us ls (l ∷ ms) (before.1 z.0) (λ _. omega (arith, c, there, f), subst (λ z. After Shallow z ms) (sym (append_assoc us ls (l ∷ []))) ((inner m (omega (arith, f))).1 (omega (arith, d)))),
    )

-- the lines of a method
pub all_shallow : (ss : Statements) (ls : List Line) → AreStatements ss ls → After Shallow [] ls ↔ (depth ss < 64)
all_shallow ss ls r = let x = deep_made (made r.1) [] [] 63 outside refl refl refl in (λ h. let y = x.0 h in omega (arith, y), λ h. x.1 (omega (arith, h)))
