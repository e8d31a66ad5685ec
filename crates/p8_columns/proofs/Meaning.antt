-- Blocks by what the columns say: the laws.
use Rattle.std.proofs.Common.{◌≡◌, ℕ, suc, ◌<◌, ◌≤◌, ◌⊎◌, inl, inr, List, [], ◌∷◌, ◌++◌, length, Option, Some, None, Bool, true, refl, sym, ap, ◌∙◌, subst, arith, append_assoc, append-nil, length-append}
use Rattle.std.specs.Prelude.{IsTrue}
use Rattle.std.specs.List.{last_or}
use Rattle.std.proofs.lemmas.Bool.{cases_lt}
use Rattle.p8_tree.specs.Statements as trees
use Rattle.p8_tree.specs.Statements.{no_statements, nothing_else}
use Rattle.p8_columns.specs.Lines.{Kind, Plain, If, ElseIf, Else, Repeat, End, Case, Item, Other, Line, column, is_arm, is_plain_repeat, is_case}
use Rattle.p8_columns.specs.Columns.{OpenBlock, open_for, innermost, last_up_to, IsAt, HasOther, HasRoom, FitsAs, Fits, FitAfter}
use Rattle.p8_columns.specs.declared.room.Room.TheVariants as room_case
use Rattle.p8_columns.specs.Blocks.{Bound, Anywhere, UpTo, May, Contents, body, choices, Block, FitTogether, OneReading, MethodIsInnermost, OpenerIsInnermost}
use Rattle.p8_columns.specs.Reader.{Frame, state, frame, begun, start, walk, whole}
use Rattle.p8_columns.proofs.Opens.{past_less, block, among, last_at, last_is, none_last, innermost_split}
use Rattle.p8_columns.proofs.Made.{Joins, joins_statement, joins_case, joins_chain, joins_loop, is_statement, is_case_line, is_else_kind, fresh, fresh_closed, Made, nothing, leaf, under, made, block_of, past, none_open, Tail, tail, last_arm, last_loop, no_other}
use Rattle.p8_columns.proofs.Standing.{top, base, Pending, outside, inside, Closed, inner, sees}
use Rattle.p8_columns.proofs.Fitting.{case_begun}
use Rattle.p8_columns.proofs.Reading.{complete, stands_all, sound}

pub fit_append : (before xs ys : List Line) → FitAfter before xs → FitAfter (before ++ xs) ys → FitAfter before (xs ++ ys)
fit_append before [] ys h g = subst (λ b. FitAfter b ys) (append-nil before) g
fit_append before (x ∷ xs) ys h g = (h.0, fit_append (before ++ x ∷ []) xs ys h.1 (subst (λ b. FitAfter b ys) (sym (append_assoc before (x ∷ []) xs)) g))

-- a tail's opener is the last line up to its column
tail_is_last : {e c : ℕ} {x : Contents} {vs : List Line} → (us : List Line) (t : Tail e c x vs) → last_up_to c (us ++ vs) ≡ Some t.opener
tail_is_last {c = c} us t =
    let lo = t.stands in
    ap (λ l. last_up_to c (us ++ l)) t.is ∙ ap (λ l. last_up_to c l) (sym (append_assoc us t.before (t.opener ∷ t.since))) ∙ last_at c (us ++ t.before) t.opener t.since (omega arith) t.right

statement_fits : (k : Kind) (c : ℕ) (lines : List Line) → is_statement k ≡ true → HasRoom room_case.Statement (innermost c lines) → FitsAs k c lines
statement_fits (Plain a) c lines h r = r
statement_fits (If n e) c lines h r = r
statement_fits (ElseIf n e) c lines h r = absurd cc
statement_fits Else c lines h r = absurd cc
statement_fits (Repeat x) c lines h r = r
statement_fits (End u e) c lines h r = absurd cc
statement_fits (Case v) c lines h r = r
statement_fits (Item ts) c lines h r = absurd cc
statement_fits Other c lines h r = absurd cc

case_fits : (k : Kind) (c : ℕ) (lines : List Line) → is_case_line k ≡ true → HasRoom room_case.Item (innermost c lines) → FitsAs k c lines
case_fits (Item ts) c lines h r = r
case_fits Other c lines h r = r
case_fits k c lines h r = absurd cc

else_fits : (k : Kind) (c : ℕ) (lines : List Line) → is_else_kind k ≡ true → IsAt is_arm c (last_up_to c lines) → FitsAs k c lines
else_fits (ElseIf n e) c lines h r = r
else_fits Else c lines h r = r
else_fits k c lines h r = absurd cc

at_some : (test : Kind → Bool) (c : ℕ) (o : Option Line) (l : Line) → o ≡ Some l → column l ≡ c → test l.kind ≡ true → IsAt test c o
at_some test c o l e s t = subst (λ o. IsAt test c o) (sym e) (s, t)

inner_body : (k : List Frame) (vs : List Line) → body no_statements ≡ base k → HasRoom room_case.Statement (inner k vs)
inner_body [] vs h = tt
inner_body (f ∷ k) vs h = λ t. let e = case_begun f.opener.kind t in cc

is_case_begun : (k : Kind) → begun k ≡ choices trees.no_arms nothing_else → IsTrue (is_case k)
is_case_begun (Case v) h = refl
is_case_begun k h = absurd cc

inner_case : (k : List Frame) (vs : List Line) → choices trees.no_arms nothing_else ≡ base k → ¬ HasOther vs → HasRoom room_case.Item (inner k vs)
inner_case [] vs h n = absurd cc
inner_case (f ∷ k) vs h n = (is_case_begun f.opener.kind (sym h), n)

-- a line that goes on from a block fits
fits_of : (b : Bound) (x : Contents) (l : Line) → Joins b x l → (k : List Frame) (us vs : List Line) → Pending k us → Made (top k) b x vs → fresh x ≡ base k → May (column l) b → top k ≤ column l → Fits (us ++ vs) l
fits_of b x l (joins_statement p k t) fs us vs w m s may le =
    let z : Closed p.column (state x fs) (us ++ vs) = record { b = b; may = may; stands = record { us = us; vs = vs; pending = w; made = m; sort = s; is = refl }; below = le } in
    statement_fits k p.column (us ++ vs) t (subst (λ o. HasRoom room_case.Statement o) (sym (sees p.column (state x fs) (us ++ vs) z).innermost) (inner_body fs vs s))
fits_of b x l (joins_case p k t) fs us vs w m s may le =
    let z : Closed p.column (state x fs) (us ++ vs) = record { b = b; may = may; stands = record { us = us; vs = vs; pending = w; made = m; sort = s; is = refl }; below = le } in
    case_fits k p.column (us ++ vs) t (subst (λ o. HasRoom room_case.Item o) (sym (sees p.column (state x fs) (us ++ vs) z).innermost) (inner_case fs vs s (no_other (block_of m))))
fits_of b x l (joins_chain p k t) fs us vs w m s may le =
    let y = last_arm (block_of m) in
    else_fits k p.column (us ++ vs) t (at_some is_arm p.column (last_up_to p.column (us ++ vs)) y.0.opener (tail_is_last us y.0) y.0.stands y.1)
fits_of b x l (joins_loop p u e) fs us vs w m s may le =
    let y = last_loop (block_of m) in
    at_some is_plain_repeat p.column (last_up_to p.column (us ++ vs)) y.0.opener (tail_is_last us y.0) y.0.stands y.1

-- the lines of a block fit
fits_made : {e : ℕ} {b : Bound} {x : Contents} {ls : List Line} → Made e b x ls → (k : List Frame) (us : List Line) → Pending k us → top k ≡ e → fresh x ≡ base k → FitAfter us ls
fits_made (nothing x h) k us w e s = tt
fits_made (leaf {b = b} {x = x} {ls = ls} l r m le j o) k us w e s =
    let s' = sym (fresh_closed x l (body no_statements)) ∙ s in
    let r' = subst (λ e. Made e b x ls) (sym e) r in
    fit_append us ls (l ∷ []) (fits_made r k us w e s') (fits_of b x l j k us ls w r' s' m (omega arith), tt)
fits_made (under {b = b} {x = x} {ls = ls} {ms = ms} l y r m le j o g i) k us w e s =
    let s' = sym (fresh_closed x l y) ∙ s in
    let r' = subst (λ e. Made e b x ls) (sym e) r in
    let here = fits_of b x l j k us ls w r' s' m (omega arith) in
    let p : Pending (frame l x ∷ k) (us ++ (ls ++ l ∷ [])) = inside (frame l x) w r' s' m (omega arith) j o in
    fit_append us ls (l ∷ ms) (fits_made r k us w e s')
    (here, subst (λ z. FitAfter z ms) (sym (append_assoc us ls (l ∷ []))) (fits_made i (frame l x ∷ k) (us ++ (ls ++ l ∷ [])) p refl (sym g)))

pub fit_together : FitTogether
fit_together lines = (
  λ h. (whole (walk start lines), sound (walk start lines) lines (stands_all lines h)),
  λ r. fits_made (made r.1.1) [] [] outside refl refl,
)

pub one_reading : OneReading
one_reading lines ss us r q = sym (complete ss lines r) ∙ complete us lines q

-- an opener that stands to the left is open
may_of : {e : ℕ} {b : Bound} {x : Contents} {ls : List Line} → Block e b x ls → (c : ℕ) → open_for c ls ≡ [] → May c b
may_of {e} {b} {x} {ls} r c h = go b r
  where
    clash : (A : List OpenBlock) (y : OpenBlock) (B : List OpenBlock) → ¬ (A ++ y ∷ B ≡ [])
    clash [] y B g = cc
    clash (a ∷ A) y B g = cc

    go : (b : Bound) → Block e b x ls → May c b
    go Anywhere r = tt
    go (UpTo d) r = at_column (cases_lt d c)
      where
        at_column : (d < c) ⊎ (c ≤ d) → c ≤ d
        at_column (inr le) = le
        at_column (inl lt) =
            let t = tail r d refl in
            let lo = t.stands in
            let a = among c t.before t.opener t.since (t.opens, omega arith, past_less (suc (column t.opener)) (suc d) t.since (omega arith) t.right) in
            absurd (clash a.0 (block t.opener t.since) (open_for c t.since) (sym a.1 ∙ ap (λ l. open_for c l) (sym t.is) ∙ h))

pub method_is_innermost : MethodIsInnermost
method_is_innermost b x lines c r = (
  λ m. ap (λ l. last_or None l) (none_open (made r) c m),
  λ h. may_of r c (none_last (open_for c lines) h),
)

last_more : (o : Option OpenBlock) (A : List OpenBlock) (x : OpenBlock) (xs : List OpenBlock) → last_or o (A ++ x ∷ xs) ≡ last_or (Some x) xs
last_more o [] x xs = refl
last_more o (a ∷ A) x xs = last_more (Some a) A x xs

not_longer : (before : List Line) (l : Line) (lines : List Line) → ¬ (lines ≡ before ++ l ∷ lines)
not_longer before l lines h = absurd (omega (arith, ap (λ x. length x) h, length-append before (l ∷ lines)))

pub opener_is_innermost : OpenerIsInnermost
opener_is_innermost before opener b x lines c o r = (to, from)
  where
    to : May c b × (column opener < c) → innermost c (before ++ opener ∷ lines) ≡ Some (block opener lines)
    to m =
        let a = among c before opener lines (o, m.1, past (made r)) in
        ap (λ l. last_or None l) (a.1 ∙ ap (λ l. a.0 ++ block opener lines ∷ l) (none_open (made r) c m.0)) ∙ last_is a.0 (block opener lines)

    from : innermost c (before ++ opener ∷ lines) ≡ Some (block opener lines) → May c b × (column opener < c)
    from h =
        let s = innermost_split c (before ++ opener ∷ lines) (block opener lines) h in
        let a = among c before opener lines s.holds in
        (may_of r c (go (open_for c lines) refl (sym (ap (λ l. last_or None l) a.1 ∙ last_more None a.0 (block opener lines) (open_for c lines)) ∙ h)), s.holds.1)
      where
        go : (xs : List OpenBlock) → open_for c lines ≡ xs → last_or (Some (block opener lines)) xs ≡ Some (block opener lines) → open_for c lines ≡ []
        go [] e g = e
        go (y ∷ ys) e g =
            let t = innermost_split c lines (block opener lines) (ap (λ l. last_or None l) e ∙ g) in
            absurd (not_longer t.before opener lines t.is)
