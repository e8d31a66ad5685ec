-- Over the same tokens there is one way.
use Rattle.std.proofs.Common.{◌≡◌, ◌⊎◌, inl, inr, List, [], ◌∷◌, ◌++◌, refl, sym, ap, ◌∙◌, subst, append_assoc, append-nil, false}
use Rattle.p8_columns.specs.Lines as lines
use Rattle.p8_statements.specs.Statements.{kind_of_row}
use Rattle.p8_lines.specs.Tokens.{LineToken, word}
use Rattle.p8_lines.proofs.Ways.{cancel}
use Rattle.p8_blocks.specs.Reading.{method, IsHead, Enters, from}
use Rattle.p8_blocks.specs.Files.{Heights, any_height, is_item}
use Rattle.p8_blocks.proofs.Answering.{carried, Same, end_begins_none}
use Rattle.p8_blocks.proofs.Entries.{one_state}
use Rattle.p8_blocks.proofs.Walks.{Valued, one_value, OpensAs, Line, blank, head, declaration, method_line, Progress, Walk, none, more, one_opening, one_addition, not_added}

pub one_line : {ps qs rs : Progress} {us vs : List LineToken} (rest rest' : List LineToken) → Line any_height ps us qs → Line any_height ps vs rs → us ++ rest ≡ vs ++ rest' → Same qs rs us vs
one_line rest rest' (blank t e) (blank u f) split = let firsts : t ≡ u = cc in record { values = refl; rests = λ i. firsts i ∷ [] }
one_line rest rest' (blank t e) (head u i o) split = let firsts : t ≡ u = cc in absurd (end_begins_none u (ap word (sym firsts) ∙ e) i)
one_line rest rest' (blank t e) (declaration u n i x) split = let firsts : t ≡ u = cc in absurd (n (ap word (sym firsts) ∙ e))
one_line rest rest' (blank t e) (method_line u q n i x l v) split = let firsts : t ≡ u = cc in absurd (n (ap word (sym firsts) ∙ e))
one_line rest rest' (head t i o) (blank u e) split = let firsts : t ≡ u = cc in absurd (end_begins_none t (ap word firsts ∙ e) i)
one_line rest rest' (head {ps = ps} {p = p} {us = us} t i o) (head {p = p'} {us = vs} u i' o') split =
    let firsts : t ≡ u = cc in
    let tails : us ++ rest ≡ vs ++ rest' = cc in
    let z = one_opening (word t) us vs rest rest' p p' o (subst (λ t. OpensAs any_height (word t) vs p') (sym firsts) o') tails in
    record { values = ap (λ p. (p ∷ ps, false)) z.values; rests = λ i. firsts i ∷ z.rests i }
one_line rest rest' (head t i o) (declaration u n i' x) split = let firsts : t ≡ u = cc in absurd (i' (subst IsHead firsts i))
one_line rest rest' (head t i o) (method_line u q n i' x l v) split = let firsts : t ≡ u = cc in absurd (i' (subst IsHead firsts i))
one_line rest rest' (declaration t n i x) (blank u e) split = let firsts : t ≡ u = cc in absurd (n (ap word firsts ∙ e))
one_line rest rest' (declaration t n i x) (head u i' o) split = let firsts : t ≡ u = cc in absurd (i (subst IsHead (sym firsts) i'))
one_line rest rest' (declaration t n i x) (declaration u n' i' y) split = carried (λ qs. (qs, false)) (one_addition rest rest' x y split)
one_line rest rest' (declaration t n i x) (method_line u q n' i' e l v) split = absurd (not_added x)
one_line rest rest' (method_line t q n i x l v) (blank u e) split = let firsts : t ≡ u = cc in absurd (n (ap word firsts ∙ e))
one_line rest rest' (method_line t q n i x l v) (head u i' o) split = let firsts : t ≡ u = cc in absurd (i (subst IsHead (sym firsts) i'))
one_line rest rest' (method_line t q n i e l v) (declaration u n' i' x) split = absurd (not_added x)
one_line rest rest' (method_line {m = m} {ls = ls} {ps = ps} {b = b} t q n i e l v) (method_line {us = vs} {k = k} u r n' i' e' l' v') split =
    let firsts : t ≡ u = cc in
    let states : q ≡ r = one_state ls b t e (subst (λ u. Enters ls b u (from r)) (sym firsts) e') in
    let z = one_value rest rest' v (subst (λ r. Valued any_height kind_of_row r (u ∷ vs) k) (sym states) v') split in
    record { values = λ i. (method m (ls ++ lines.line (firsts i).place (z.values i) ∷ []) ∷ ps, is_item (z.values i)); rests = z.rests }

-- each line takes a token
pub takes_some : {h : Heights} {ps qs : Progress} {us : List LineToken} → Line h ps us qs → (t : LineToken) × (ts : List LineToken) × (us ≡ t ∷ ts)
takes_some (blank t e) = (t, [], refl)
takes_some (head {us = us} t i o) = (t, us, refl)
takes_some (declaration {us = us} t n i x) = (t, us, refl)
takes_some (method_line {us = us} t q n i e l v) = (t, us, refl)

-- Lines lead from blocks, with these tokens to come, to others.
pub data Run : Progress → List LineToken → Progress → List LineToken → Type 0 where
  stay : {ps : Progress} {ts : List LineToken} → Run ps ts ps ts
  go_on : {ps qs rs : Progress} {ts vs : List LineToken} (us ws : List LineToken) → Run ps ts qs ws → ws ≡ us ++ vs → Line any_height qs us rs → Run ps ts rs vs

pub walk_run : {ps : Progress} {ts : List LineToken} → Walk any_height ps ts → (rest : List LineToken) → Run ([], false) (ts ++ rest) ps rest
walk_run none rest = stay
walk_run (more {x = ps} {ts = ts} {us = us} w l) rest = go_on us (us ++ rest) (subst (λ l. Run ([], false) l ps (us ++ rest)) (sym (append_assoc ts us rest)) (walk_run w (us ++ rest))) refl l

-- the first of them
pub data Gone (ps : Progress) (ts : List LineToken) (rs : Progress) (vs : List LineToken) : Type 0 where
  nowhere : rs ≡ ps → vs ≡ ts → Gone ps ts rs vs
  further : {qs : Progress} (us ws : List LineToken) → Line any_height ps us qs → ts ≡ us ++ ws → Run qs ws rs vs → Gone ps ts rs vs

pub gone : {ps rs : Progress} {ts vs : List LineToken} → Run ps ts rs vs → Gone ps ts rs vs
gone stay = nowhere refl refl
gone {ps} {rs} {ts} {vs} (go_on {qs = qs} us ws g e l) = later (gone g)
  where
    later : Gone ps ts qs ws → Gone ps ts rs vs
    later (nowhere a b) = further us vs (subst (λ qs. Line any_height qs us rs) a l) (sym b ∙ e) stay
    later (further xs ys k f r) = further xs ys k f (go_on us ws r e l)

-- of two runs one goes on with the other
pub compare : {ps qs rs : Progress} {ts us vs : List LineToken} → Run ps ts qs us → Run ps ts rs vs → Run qs us rs vs ⊎ Run rs vs qs us
compare stay h = inl h
compare {qs = qs} {rs = rs} {us = us} {vs = vs} (go_on {qs = ps'} xs ws g e l) h = later (compare g h)
  where
    later : Run ps' ws rs vs ⊎ Run rs vs ps' ws → Run qs us rs vs ⊎ Run rs vs qs us
    later (inr k) = inr (go_on xs ws k e l)
    later (inl k) = from_there (gone k)
      where
        from_there : Gone ps' ws rs vs → Run qs us rs vs ⊎ Run rs vs qs us
        from_there (nowhere a b) = inr (go_on xs vs stay (b ∙ e) (subst (λ ps'. Line any_height ps' xs qs) (sym a) l))
        from_there (further {qs = ns} ys zs k f r) =
            let o = one_line zs us k l (sym f ∙ e) in
            let rests : zs ≡ us = cancel xs zs us (ap (λ l. l ++ zs) (sym o.rests) ∙ sym f ∙ e) in
            inl (subst (λ qs. Run qs us rs vs) o.values (subst (λ zs. Run ns zs rs vs) rests r))

-- no line after the last token
pub nothing_left : {ps rs : Progress} {vs : List LineToken} → Run ps [] rs vs → vs ≡ []
nothing_left {ps} {rs} {vs} g = go (gone g)
  where
    go : Gone ps [] rs vs → vs ≡ []
    go (nowhere a b) = b
    go (further us ws l e r) = let y = takes_some l in let z = e ∙ ap (λ l. l ++ ws) y.2 in absurd cc

-- a line of it, and where the other leads from there
pub record Next (x z : Progress) (ts : List LineToken) : Type 0 where
  pub progress : Progress
  pub tokens : List LineToken
  pub rest : List LineToken
  pub line : Line any_height x tokens progress
  pub split : ts ≡ tokens ++ rest
  pub run : Run progress rest z []

-- Where a walk leads over all of some tokens, another over a part of them that isn't all leads to a line of it.
pub next_run : {x z : Progress} {us : List LineToken} (t : LineToken) (ts : List LineToken) → Walk any_height x us → Walk any_height z (us ++ t ∷ ts) → Next x z (t ∷ ts)
next_run {x} {z} {us} t ts w v = go (compare (walk_run w (t ∷ ts)) (subst (λ l. Run ([], false) l z []) (append-nil (us ++ t ∷ ts)) (walk_run v [])))
  where
    from_there : Gone x (t ∷ ts) z [] → Next x z (t ∷ ts)
    from_there (nowhere a b) = absurd cc
    from_there (further xs ys l e r) = record { progress = _; tokens = xs; rest = ys; line = l; split = e; run = r }

    go : Run x (t ∷ ts) z [] ⊎ Run z [] x (t ∷ ts) → Next x z (t ∷ ts)
    go (inl r) = from_there (gone r)
    go (inr r) = absurd (let n = nothing_left r in cc)

pub next_line : {x z : Progress} {us : List LineToken} (t : LineToken) (ts : List LineToken) → Walk any_height x us → Walk any_height z (us ++ t ∷ ts) → (y : Progress) × (xs : List LineToken) × (ys : List LineToken) × Line any_height x xs y × (t ∷ ts ≡ xs ++ ys)
next_line t ts w v = let n = next_run t ts w v in (n.progress, n.tokens, n.rest, n.line, n.split)
