-- Which lines are open, by columns alone.
use Rattle.std.proofs.Common.{◌≡◌, ℕ, suc, ◌<◌, ◌≤◌, ◌⊎◌, inl, inr, List, [], ◌∷◌, ◌++◌, Option, Some, None, Bool, true, false, refl, sym, ap, ◌∙◌, subst, arith, append_assoc, append-nil, le-leb}
use Rattle.std.specs.Prelude.{nat_le, nat_lt, ◌&&◌, if◌then◌else◌}
use Rattle.std.specs.List.{list_all, last_or}
use Rattle.std.proofs.lemmas.Bool.{lt-leb, lt-ltb, ltb-true, leb-true, leb-false}
use Rattle.p8_columns.specs.Lines.{Kind, Line, column, is_opener}
use Rattle.p8_columns.specs.Columns.{OpenBlock, is_open, open_for, innermost, last_up_to, IsAt, OtherAfter}

-- each of these lines stands at an edge or to the right of it
abbrev pub Past : ℕ → List Line → Type 0
Past e [] = Unit {0}
Past e (l ∷ ls) = (e ≤ column l) × Past e ls

pub past_append : (e : ℕ) (xs ys : List Line) → Past e xs → Past e ys → Past e (xs ++ ys)
past_append e [] ys p q = q
past_append e (x ∷ xs) ys p q = (p.0, past_append e xs ys p.1 q)

pub past_split : (e : ℕ) (xs ys : List Line) → Past e (xs ++ ys) → Past e xs × Past e ys
past_split e [] ys p = (tt, p)
past_split e (x ∷ xs) ys p = let q = past_split e xs ys p.1 in ((p.0, q.0), q.1)

pub past_less : (d e : ℕ) (xs : List Line) → d ≤ e → Past e xs → Past d xs
past_less d e [] le p = tt
past_less d e (x ∷ xs) le p = (omega (arith, p.0), past_less d e xs le p.1)

-- an opener that is open for a line at column c
abbrev pub Holds : ℕ → Line → List Line → Type 0
Holds c l since = (is_opener l.kind ≡ true) × (column l < c) × Past (suc (column l)) since

both : (a b : Bool) → (a && b) ≡ true → (a ≡ true) × (b ≡ true)
both true b h = (refl, h)
both false b h = absurd cc

past_from : (n : ℕ) (xs : List Line) → list_all (λ x. nat_lt n (column x)) xs ≡ true → Past (suc n) xs
past_from n [] h = tt
past_from n (x ∷ xs) h = let b = both (nat_lt n (column x)) _ h in (ltb-true n (column x) b.0, past_from n xs b.1)

all_from : (n : ℕ) (xs : List Line) → Past (suc n) xs → list_all (λ x. nat_lt n (column x)) xs ≡ true
all_from n [] p = refl
all_from n (x ∷ xs) p = rw (lt-ltb n (column x) p.0) (all_from n xs p.1)

pub holds_from : (c : ℕ) (l : Line) (since : List Line) → is_open c l since ≡ true → Holds c l since
holds_from c l since h =
    let b = both (is_opener l.kind) _ h in
    let d = both (nat_lt (column l) c) _ b.1 in
    (b.0, ltb-true (column l) c d.0, past_from (column l) since d.1)

pub open_from : (c : ℕ) (l : Line) (since : List Line) → Holds c l since → is_open c l since ≡ true
open_from c l since h = rw (h.0, lt-ltb (column l) c h.1) (all_from (column l) since h.2)

abbrev pub block : Line → List Line → OpenBlock
block l since = record { opener = l; since = since }

pub seen : (c : ℕ) (l : Line) (since : List Line) → Holds c l since → open_for c (l ∷ since) ≡ block l since ∷ open_for c since
seen c l since h = ap (λ b. if b then block l since ∷ open_for c since else open_for c since) (open_from c l since h)

pub unseen : (c : ℕ) (l : Line) (since : List Line) → ¬ Holds c l since → open_for c (l ∷ since) ≡ open_for c since
unseen c l since n = go (is_open c l since) refl
  where
    go : (b : Bool) → is_open c l since ≡ b → (if b then block l since ∷ open_for c since else open_for c since) ≡ open_for c since
    go true e = absurd (n (holds_from c l since e))
    go false e = refl

-- lines to the right of a column are not open for it
pub none_right : (c : ℕ) (xs : List Line) → Past c xs → open_for c xs ≡ []
none_right c [] p = refl
none_right c (x ∷ xs) p = unseen c x xs (λ h. absurd (omega (arith, h.1, p.0))) ∙ none_right c xs p.1

-- where no line is open for a later one, none is open after it
pub skips : (c : ℕ) (ws : List Line) (l : Line) (vs : List Line) → open_for (column l) ws ≡ [] → open_for c (ws ++ l ∷ vs) ≡ open_for c (l ∷ vs)
skips c [] l vs h = refl
skips c (w ∷ ws) l vs h = go (λ g. skips c ws l vs g) (is_open (column l) w ws) refl h
  where
    go : (open_for (column l) ws ≡ [] → open_for c (ws ++ l ∷ vs) ≡ open_for c (l ∷ vs)) → (b : Bool) → is_open (column l) w ws ≡ b → (if b then block w ws ∷ open_for (column l) ws else open_for (column l) ws) ≡ [] → open_for c (w ∷ (ws ++ l ∷ vs)) ≡ open_for c (l ∷ vs)
    go ih true e g = absurd cc
    go ih false e g = unseen c w (ws ++ l ∷ vs) (λ x. let p = past_split (suc (column w)) ws (l ∷ vs) x.2 in let y = open_from (column l) w ws (x.0, p.1.0, p.0) in absurd cc) ∙ ih g

-- an open line among others
pub among : (c : ℕ) (ws : List Line) (l : Line) (vs : List Line) → Holds c l vs → (A : List OpenBlock) × (open_for c (ws ++ l ∷ vs) ≡ A ++ block l vs ∷ open_for c vs)
among c [] l vs h = ([], seen c l vs h)
among c (w ∷ ws) l vs h = let r = among c ws l vs h in go r.0 r.1 (is_open c w (ws ++ l ∷ vs))
  where
    go : (A : List OpenBlock) → open_for c (ws ++ l ∷ vs) ≡ A ++ block l vs ∷ open_for c vs → (b : Bool) → (B : List OpenBlock) × ((if b then block w (ws ++ l ∷ vs) ∷ open_for c (ws ++ l ∷ vs) else open_for c (ws ++ l ∷ vs)) ≡ B ++ block l vs ∷ open_for c vs)
    go A e true = (block w (ws ++ l ∷ vs) ∷ A, ap (λ x. block w (ws ++ l ∷ vs) ∷ x) e)
    go A e false = (A, e)

last_from : (o : Option OpenBlock) (A : List OpenBlock) (b : OpenBlock) → last_or o (A ++ b ∷ []) ≡ Some b
last_from o [] b = refl
last_from o (x ∷ A) b = last_from (Some x) A b

pub last_is : (A : List OpenBlock) (b : OpenBlock) → last_or None (A ++ b ∷ []) ≡ Some b
last_is A b = last_from None A b

some_last : (x : OpenBlock) (xs : List OpenBlock) → ¬ (last_or (Some x) xs ≡ None)
some_last x [] h = cc
some_last x (y ∷ xs) h = some_last y xs h

-- no line is open where there is no innermost one
pub none_last : (xs : List OpenBlock) → last_or None xs ≡ None → xs ≡ []
none_last [] h = refl
none_last (x ∷ xs) h = absurd (some_last x xs h)

-- the last line up to a column
pub last_none : (c : ℕ) (xs : List Line) → Past (suc c) xs → last_up_to c xs ≡ None
last_none c [] p = refl
last_none c (x ∷ xs) p = go (last_up_to c xs) (last_none c xs p.1)
  where
    go : (o : Option Line) → o ≡ None → (elim o as (λ _. Option Line) [ None ↦ if nat_le (column x) c then Some x else None | Some m ↦ Some m ]) ≡ None
    go o e = subst (λ o. (elim o as (λ _. Option Line) [ None ↦ if nat_le (column x) c then Some x else None | Some m ↦ Some m ]) ≡ None) (sym e) (rw (lt-leb (column x) c p.0) refl)

pub last_at : (c : ℕ) (ws : List Line) (l : Line) (vs : List Line) → column l ≤ c → Past (suc c) vs → last_up_to c (ws ++ l ∷ vs) ≡ Some l
last_at c [] l vs le p = subst (λ o. (elim o as (λ _. Option Line) [ None ↦ if nat_le (column l) c then Some l else None | Some m ↦ Some m ]) ≡ Some l) (sym (last_none c vs p)) (rw (le-leb (column l) c le) refl)
last_at c (w ∷ ws) l vs le p = ap (λ o. elim o as (λ _. Option Line) [ None ↦ if nat_le (column w) c then Some w else None | Some m ↦ Some m ]) (last_at c ws l vs le p)

pub record LastAt (c : ℕ) (xs : List Line) (l : Line) : Type 0 where
  pub before : List Line
  pub later : List Line
  pub is : xs ≡ before ++ l ∷ later
  pub low : column l ≤ c
  pub right : Past (suc c) later

pub record LastOf (c : ℕ) (xs : List Line) (o : Option Line) : Type 0 where
  pub at_none : o ≡ None → Past (suc c) xs
  pub at_some : (l : Line) → o ≡ Some l → LastAt c xs l

pub last_of : (c : ℕ) (xs : List Line) → LastOf c xs (last_up_to c xs)
last_of c [] = record { at_none = λ _. tt; at_some = λ l h. absurd cc }
last_of c (x ∷ xs) = go (last_up_to c xs) (last_of c xs) (nat_le (column x) c) refl
  where
    same : {l m : Line} → Some m ≡ Some l → m ≡ l
    same h = cc

    go : (o : Option Line) → LastOf c xs o → (b : Bool) → nat_le (column x) c ≡ b → LastOf c (x ∷ xs) (elim o as (λ _. Option Line) [ None ↦ if b then Some x else None | Some m ↦ Some m ])
    go None r true e = record {
      at_none = λ h. absurd cc;
      at_some = λ l h. let s = same h in record { before = []; later = xs; is = ap (λ y. y ∷ xs) s; low = omega (arith, leb-true (column x) c e, ap column s); right = r.at_none refl };
    }
    go None r false e = record { at_none = λ h. (leb-false (column x) c e, r.at_none refl); at_some = λ l h. absurd cc }
    go (Some m) r b e = record {
      at_none = λ h. absurd cc;
      at_some = λ l h. let s = r.at_some l h in record { before = x ∷ s.before; later = s.later; is = ap (λ y. x ∷ y) s.is; low = s.low; right = s.right };
    }

-- an opener that is the last line up to its column is the innermost open block right of it
pub at_is_innermost : (test : Kind → Bool) → ((k : Kind) → test k ≡ true → is_opener k ≡ true) → (c : ℕ) (lines : List Line) → IsAt test c (last_up_to c lines) → (l : Line) × (since : List Line) × (innermost (suc c) lines ≡ Some (block l since)) × (column l ≡ c) × (test l.kind ≡ true)
at_is_innermost test opens c lines h = go (last_up_to c lines) refl h
  where
    go : (o : Option Line) → last_up_to c lines ≡ o → IsAt test c o → (l : Line) × (since : List Line) × (innermost (suc c) lines ≡ Some (block l since)) × (column l ≡ c) × (test l.kind ≡ true)
    go None e i = absurd i
    go (Some l) e i =
        let s = (last_of c lines).at_some l e in
        let a = among (suc c) s.before l s.later (opens l.kind i.1, omega (arith, i.0), past_less (suc (column l)) (suc c) s.later (omega (arith, i.0)) s.right) in
        let f : open_for (suc c) lines ≡ a.0 ++ block l s.later ∷ [] = ap (λ x. open_for (suc c) x) s.is ∙ a.1 ∙ ap (λ x. a.0 ++ block l s.later ∷ x) (none_right (suc c) s.later s.right) in
        (l, s.later, ap (λ x. last_or None x) f ∙ last_is a.0 (block l s.later), i.0, i.1)

-- an OTHER among lines and more lines
pub other_left : (before xs ys : List Line) → OtherAfter before xs → OtherAfter before (xs ++ ys)
other_left before [] ys h = absurd h
other_left before (x ∷ xs) ys (inl h) = inl h
other_left before (x ∷ xs) ys (inr h) = inr (other_left (before ++ x ∷ []) xs ys h)

pub other_right : (before xs ys : List Line) → OtherAfter (before ++ xs) ys → OtherAfter before (xs ++ ys)
other_right before [] ys h = subst (λ b. OtherAfter b ys) (append-nil before) h
other_right before (x ∷ xs) ys h = inr (other_right (before ++ x ∷ []) xs ys (subst (λ b. OtherAfter b ys) (sym (append_assoc before (x ∷ []) xs)) h))

pub other_split : (before xs ys : List Line) → OtherAfter before (xs ++ ys) → OtherAfter before xs ⊎ OtherAfter (before ++ xs) ys
other_split before [] ys h = inr (subst (λ b. OtherAfter b ys) (sym (append-nil before)) h)
other_split before (x ∷ xs) ys (inl h) = inl (inl h)
other_split before (x ∷ xs) ys (inr h) = go (other_split (before ++ x ∷ []) xs ys h)
  where
    go : OtherAfter (before ++ x ∷ []) xs ⊎ OtherAfter ((before ++ x ∷ []) ++ xs) ys → OtherAfter before (x ∷ xs) ⊎ OtherAfter (before ++ x ∷ xs) ys
    go (inl g) = inl (inr g)
    go (inr g) = inr (subst (λ b. OtherAfter b ys) (append_assoc before (x ∷ []) xs) g)

-- lines in a block are no OTHER outside it
pub other_inside : (before : List Line) (l : Line) (mid ms : List Line) → is_opener l.kind ≡ true → Past (suc (column l)) mid → Past (suc (column l)) ms → ¬ OtherAfter (before ++ l ∷ mid) ms
other_inside before l mid [] o p q h = h
other_inside before l mid (x ∷ ms) o p q (inl h) = let a = among (column x) before l mid (o, q.0, p) in clash a.0 (sym a.1 ∙ h.1)
  where
    clash : (A : List OpenBlock) → ¬ (A ++ block l mid ∷ open_for (column x) mid ≡ [])
    clash [] g = cc
    clash (y ∷ A) g = cc
other_inside before l mid (x ∷ ms) o p q (inr h) = other_inside before l (mid ++ x ∷ []) ms o (past_append (suc (column l)) mid (x ∷ []) p (q.0, tt)) q.1 (subst (λ b. OtherAfter b ms) (append_assoc before (l ∷ mid) (x ∷ [])) h)

pub record Split (c : ℕ) (lines : List Line) (b : OpenBlock) : Type 0 where
  pub before : List Line
  pub is : lines ≡ before ++ b.opener ∷ b.since
  pub holds : Holds c b.opener b.since

last_split : (c : ℕ) (lines : List Line) (o : Option OpenBlock) (b : OpenBlock) → last_or o (open_for c lines) ≡ Some b → (o ≡ Some b) ⊎ Split c lines b
last_split c [] o b h = inl h
last_split c (x ∷ xs) o b h = go (λ o g. last_split c xs o b g) (is_open c x xs) refl h
  where
    same : {p q : OpenBlock} → Some p ≡ Some q → p ≡ q
    same g = cc

    wider : Split c xs b → Split c (x ∷ xs) b
    wider s = record { before = x ∷ s.before; is = ap (λ l. x ∷ l) s.is; holds = s.holds }

    go : ((o : Option OpenBlock) → last_or o (open_for c xs) ≡ Some b → (o ≡ Some b) ⊎ Split c xs b) → (t : Bool) → is_open c x xs ≡ t → last_or o (if t then block x xs ∷ open_for c xs else open_for c xs) ≡ Some b → (o ≡ Some b) ⊎ Split c (x ∷ xs) b
    go ih true e g = here (ih (Some (block x xs)) g)
      where
        here : (Some (block x xs) ≡ Some b) ⊎ Split c xs b → (o ≡ Some b) ⊎ Split c (x ∷ xs) b
        here (inl s) = inr (subst (λ b. Split c (x ∷ xs) b) (same s) (record { before = []; is = refl; holds = holds_from c x xs e }))
        here (inr s) = inr (wider s)
    go ih false e g = there (ih o g)
      where
        there : (o ≡ Some b) ⊎ Split c xs b → (o ≡ Some b) ⊎ Split c (x ∷ xs) b
        there (inl s) = inl s
        there (inr s) = inr (wider s)

-- where the innermost open block stands among the lines
pub innermost_split : (c : ℕ) (lines : List Line) (b : OpenBlock) → innermost c lines ≡ Some b → Split c lines b
innermost_split c lines b h = go (last_split c lines None b h)
  where
    go : (None ≡ Some b) ⊎ Split c lines b → Split c lines b
    go (inl e) = absurd cc
    go (inr s) = s

-- an open block that stands just left of column c + 1 is the last line up to column c
pub innermost_is_at : (c : ℕ) (lines : List Line) (b : OpenBlock) → innermost (suc c) lines ≡ Some b → column b.opener ≡ c → last_up_to c lines ≡ Some b.opener
innermost_is_at c lines b h e =
    let s = innermost_split (suc c) lines b h in
    ap (λ x. last_up_to c x) s.is ∙ last_at c s.before b.opener b.since (omega (arith, e)) (past_less (suc c) (suc (column b.opener)) b.since (omega (arith, e)) s.holds.2)
