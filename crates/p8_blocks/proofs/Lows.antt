-- What begins a line and isn't too high can be ended to a line within the limits.
use Rattle.std.proofs.Common.{◌≡◌, ℕ, ◌<◌, ◌≤◌, ◌⊎◌, inl, inr, Bool, true, false, List, [], ◌∷◌, ◌++◌, Option, Some, None, refl, sym, ap, ◌∙◌, subst, append_assoc, append-nil, arith}
use Rattle.std.proofs.lemmas.Bool.{cases_lt}
use Rattle.std.specs.Prelude.{if◌then◌else◌}
use Rattle.p8_tree.specs.declared.places.Place.{Place}
use Rattle.p8_tree.specs.Expressions.{Tree, node, Built, no_trees}
use Rattle.p8_lexer.specs.declared.token.TokenKind.TheVariants as kind
use Rattle.p8_lexer.specs.Words.{symbols, reserved_words, every_word}
use Rattle.p8_tree.specs.declared.refusal.Refusal.TheVariants as refusal
use Rattle.p8_tree.specs.Refusals.{refusal_number}
use Rattle.p8_grammar.specs.Lexemes as lexemes
use Rattle.p8_grammar.specs.Lexemes.{Setting, in_method, in_declaration, in_dat, in_data_item, in_action, Lexeme, name, method_result, token}
use Rattle.p8_grammar.specs.Grammar.{a_value, operand, nothing, a_reserved_word, result_name, IsExpression, IsFront}
use Rattle.p8_grammar.specs.Heights as heights
use Rattle.p8_grammar.specs.Heights.{height}
use Rattle.p8_grammar.specs.Machine as machine
use Rattle.p8_grammar.specs.Machine.{reading, named, walk, start}
use Rattle.p8_grammar.specs.Least.{least}
use Rattle.p8_grammar.proofs.Tall.{too_high}
use Rattle.p8_grammar.proofs.Live as live
use Rattle.p8_grammar.proofs.Live.{dead, not_too_high}
use Rattle.p8_grammar.proofs.Readings.{shows}
use Rattle.p8_expr.specs.Words.{lexeme_of_word}
use Rattle.p8_lexer.specs.Pieces.{Piece, tree}
use Rattle.p8_lines.specs.declared.state.LineState.{LineState}
use Rattle.p8_lines.specs.declared.state.LineState.TheVariants as state
use Rattle.p8_lines.specs.Diagram.{Phrase, choices, setting_at}
use Rattle.p8_lines.specs.Tokens.{LineToken, word, lexeme, terms, piece}
use Rattle.p8_lines.specs.Lines as lines
use Rattle.p8_lines.specs.Lines.{Follows, is_name_word, behind, Row, over, Begins, greatest_height, Leads, nowhere, by_token, by_phrase, IsTooHigh, HasTooHigh, Reads, refused}
use Rattle.p8_lines.proofs.Splits.{Compared, same, beyond, short, compare}
use Rattle.p8_lines.proofs.Ways.{terms_append}
use Rattle.p8_lines.proofs.Begun.{real_all, not_nothing, nothing_begins, nothing_high, front_of}
use Rattle.p8_lines.proofs.Completing.{follower}
use Rattle.p8_blocks.proofs.Pieces.{is_named, unnamed}
use Rattle.p8_blocks.proofs.Passing.{not_nested}
use Rattle.p8_lines.proofs.Rows.{leads_way, leads_on, way_begins, front_begins, completed, limit_positive}

-- expressions

-- an expression no higher than n that goes on so
pub record Low (s : Setting) (n : ℕ) (ts : List LineToken) : Type 0 where
  pub rest : List LineToken
  pub tree : Tree
  pub reads : IsExpression s tree (terms (ts ++ rest))
  pub low : height tree ≤ n

-- what begins an expression is too high, or is ended by one that isn't higher
pub low_or_high : (s : Setting) (n : ℕ) (ts : List LineToken) → IsFront s (terms ts) → heights.IsTooHigh s n (terms ts) ⊎ Low s n ts
low_or_high s n ts f = go (walk (start s) (terms ts)) refl
  where
    go : (o : Option machine.State) → walk (start s) (terms ts) ≡ o → heights.IsTooHigh s n (terms ts) ⊎ Low s n ts
    go None h = absurd (dead s (terms ts) h f)
    go (Some st) h = from_there (cases_lt n (least st))
      where
        from_there : (n < least st) ⊎ (least st ≤ n) → heights.IsTooHigh s n (terms ts) ⊎ Low s n ts
        from_there (inl lt) = inl (too_high s n (terms ts) st h lt)
        from_there (inr le) =
            let y = live.live s (terms ts) st h in
            let r = real_all y.endings in
            inr (record { rest = r.0; tree = y.top; reads = subst (IsExpression s y.top) (ap (λ l. terms ts ++ l) (sym r.1) ∙ sym (terms_append ts r.0)) y.reads; low = omega (arith, le, y.low) })

-- an expression that isn't higher
low_tree : (s : Setting) (n : ℕ) (ts : List LineToken) (e : Tree) → IsExpression s e (terms ts) → ¬ heights.IsTooHigh s n (terms ts) → height e ≤ n
low_tree s n ts e x not_high = go (cases_lt n (height e))
  where
    go : (n < height e) ⊎ (height e ≤ n) → height e ≤ n
    go (inl lt) = absurd (not_high ((shows s n (terms ts) e x).1 lt))
    go (inr le) = le

-- each state can be ended

-- a name alone isn't high
named_low : (s : Setting) (n : ℕ) (p : Place) (x : Lexeme) (b : Bool) (m : List ℕ) → walk (start s) (token p x ∷ []) ≡ Some (machine.state s (named b reading p m) []) → 0 < n → ¬ heights.IsTooHigh s n (token p x ∷ [])
named_low s n p x b m h lt = not_too_high s n (token p x ∷ []) (machine.state s (named b reading p m) []) h (omega (arith, lt))

name_low : (s : Setting) (n : ℕ) (p : Place) (x : Lexeme) → 0 < n → is_named x ≡ false → is_name_word x ≡ true → ¬ heights.IsTooHigh s n (token p x ∷ [])
name_low in_method n p (name m) lt u h = named_low in_method n p (name m) true m refl lt
name_low in_declaration n p (name m) lt u h = named_low in_declaration n p (name m) true m refl lt
name_low in_dat n p (name m) lt u h = named_low in_dat n p (name m) true m refl lt
name_low in_data_item n p (name m) lt u h = named_low in_data_item n p (name m) true m refl lt
name_low in_action n p (name m) lt u h = named_low in_action n p (name m) true m refl lt
name_low in_method n p method_result lt u h = named_low in_method n p method_result false result_name refl lt
name_low in_declaration n p method_result lt u h = named_low in_declaration n p method_result false result_name refl lt
name_low in_dat n p method_result lt u h = named_low in_dat n p method_result false result_name refl lt
name_low in_data_item n p method_result lt u h = named_low in_data_item n p method_result false result_name refl lt
name_low in_action n p method_result lt u h = named_low in_action n p method_result false result_name refl lt
name_low in_method n p (lexemes.reserved m method_result) lt u h = named_low in_method n p (lexemes.reserved m method_result) false result_name refl lt
name_low in_declaration n p (lexemes.reserved m method_result) lt u h = named_low in_declaration n p (lexemes.reserved m method_result) false result_name refl lt
name_low in_dat n p (lexemes.reserved m method_result) lt u h = named_low in_dat n p (lexemes.reserved m method_result) false result_name refl lt
name_low in_data_item n p (lexemes.reserved m method_result) lt u h = named_low in_data_item n p (lexemes.reserved m method_result) false result_name refl lt
name_low in_action n p (lexemes.reserved m method_result) lt u h = named_low in_action n p (lexemes.reserved m method_result) false result_name refl lt
name_low s n p (lexemes.reserved m (name k)) lt u h = absurd cc
name_low s n p x lt u h = absurd cc

abbrev somewhere : Place
somewhere = record { line = 0; column = 0 }

-- COGID, which is an expression and an action
abbrev value_token : LineToken
value_token = record { place = somewhere; text = 67 ∷ 79 ∷ 71 ∷ 73 ∷ 68 ∷ []; kind = kind.Name }

value_lexeme : lexeme value_token ≡ lexemes.reserved (67 ∷ 79 ∷ 71 ∷ 73 ∷ 68 ∷ []) (lexemes.value 0x3F)
unfolding every_word symbols reserved_words lexeme_of_word
value_lexeme = refl

value_is_no_name : is_name_word (lexeme value_token) ≡ false
value_is_no_name = ap is_name_word value_lexeme

value_reads : (s : Setting) → (e : Tree) × IsExpression s e (terms (value_token ∷ [])) × (height e ≡ 1)
value_reads s = (node somewhere (Built 0x3F no_trees), subst (λ x. IsExpression s (node somewhere (Built 0x3F no_trees)) (token somewhere x ∷ [])) (sym value_lexeme) (operand a_value (a_reserved_word (67 ∷ 79 ∷ 71 ∷ 73 ∷ 68 ∷ []) refl nothing)), refl)

-- a line within the limits from a state
pub record LowLine (q : LineState) (ts : List LineToken) : Type 0 where
  pub rest : List LineToken
  pub row : List Piece
  pub leads : Leads q (ts ++ rest) row state.End

-- an expression and what follows it, and COGID in its place where it isn't a name
zeroed : {q r : LineState} {h : Phrase} {e : Tree} {t : LineToken} (first : LineToken) (others : List LineToken) → (choices q).phrase ≡ Some h → IsExpression h.setting e (terms (first ∷ others)) → Follows (behind h (first ∷ others)) t r → LowLine r [] → LowLine q []
zeroed {q} {r} {h} {e} {t} first others p x f z = go others x f
  where
    value : Follows h.behind_other t r → LowLine q []
    value f = let x = value_reads h.setting in record { rest = value_token ∷ t ∷ z.rest; row = _; leads = by_phrase [] p x.1 (let one = x.2 in omega (arith, one)) (subst (λ b. Follows (if b then h.behind_name else h.behind_other) t r) (sym value_is_no_name) f) z.leads }

    alone : (b : Bool) → is_name_word (lexeme first) ≡ b → IsExpression h.setting e (terms (first ∷ [])) → Follows (behind h (first ∷ [])) t r → LowLine q []
    alone true n x f = record { rest = first ∷ t ∷ z.rest; row = _; leads = by_phrase [] p x (low_tree h.setting greatest_height (first ∷ []) e x (name_low h.setting greatest_height first.place (lexeme first) limit_positive (unnamed first) n)) f z.leads }
    alone false n x f = value (subst (λ b. Follows (if b then h.behind_name else h.behind_other) t r) n f)

    go : (others : List LineToken) → IsExpression h.setting e (terms (first ∷ others)) → Follows (behind h (first ∷ others)) t r → LowLine q []
    go [] x f = alone (is_name_word (lexeme first)) refl x f
    go (u ∷ us) x f = value f

-- with COGID in the place of each expression but names
lowered : {q : LineState} {row : List Piece} {ts : List LineToken} → Row q row ts → LowLine q []
lowered over = record { rest = []; row = []; leads = nowhere }
lowered (lines.token {t = t} f x) = let y = lowered x in record { rest = t ∷ y.rest; row = _; leads = by_token f y.leads }
lowered (lines.phrase {first = first} others p x f y) = zeroed first others p x f (lowered y)

pub from_state : (q : LineState) → LowLine q []
from_state q = lowered (completed q).2

-- a low expression at a state, and what follows it
pub low_phrase : (q : LineState) (h : Phrase) (ts : List LineToken) → (choices q).phrase ≡ Some h → Low h.setting greatest_height ts → LowLine q ts
low_phrase q h ts p y = go (ts ++ y.rest) refl
  where
    go : (l : List LineToken) → ts ++ y.rest ≡ l → LowLine q ts
    go [] e = absurd (not_nothing h.setting y.tree (subst (λ l. IsExpression h.setting y.tree (terms l)) e y.reads))
    go (first ∷ others) e =
        let n = follower q h p (first ∷ others) in
        let z = from_state n.1 in
        record {
          rest = y.rest ++ n.0 ∷ z.rest;
          row = tree y.tree first.place ∷ piece n.0 ∷ z.row;
          leads = subst (λ l. Leads q l (tree y.tree first.place ∷ piece n.0 ∷ z.row) state.End) (sym (ap (λ l. l ++ n.0 ∷ z.rest) e) ∙ append_assoc ts y.rest (n.0 ∷ z.rest)) (by_phrase others p (subst (λ l. IsExpression h.setting y.tree (terms l)) e y.reads) y.low n.2 z.leads);
        }

-- what is read first
pub led : {q r : LineState} {us : List LineToken} {row : List Piece} (vs : List LineToken) → Leads q us row r → LowLine r vs → LowLine q (us ++ vs)
led {q = q} {us = us} {row = row} vs l y = record { rest = y.rest; row = row ++ y.row; leads = subst (λ l. Leads q l (row ++ y.row) state.End) (sym (append_assoc us vs y.rest)) (leads_on l y.leads) }

further_high : {q r : LineState} {us : List LineToken} {row : List Piece} (vs : List LineToken) → Leads q us row r → HasTooHigh r vs → HasTooHigh q (us ++ vs)
further_high {us = us} vs l h = record {
  before = us ++ h.before;
  after = h.after;
  split = ap (λ l. us ++ l) h.split ∙ sym (append_assoc us h.before h.after);
  row = _;
  at = h.at;
  leads = leads_on l h.leads;
  phrase = h.phrase;
  expects = h.expects;
  high = h.high;
}

-- tokens of an expression and of what follows it
phrase_lows : {q r : LineState} {h : Phrase} {tree : Tree} {t : LineToken} (first u : LineToken) (us rest others ts : List LineToken) → (choices q).phrase ≡ Some h → IsExpression h.setting tree (terms (first ∷ others)) → Follows (behind h (first ∷ others)) t r → (first ∷ others) ++ t ∷ ts ≡ (u ∷ us) ++ rest → ¬ HasTooHigh q (u ∷ us) → ((vs : List LineToken) → ts ≡ vs ++ rest → ¬ HasTooHigh r vs → LowLine r vs) → LowLine q (u ∷ us)
phrase_lows {q} {r} {h} {tree} {t} first u us rest others ts p x f e n later = go (compare (u ∷ us) rest (first ∷ others) (t ∷ ts) (sym e))
  where
    not_high : (front after : List LineToken) → u ∷ us ≡ front ++ after → IsFront h.setting (terms front) → ¬ heights.IsTooHigh h.setting greatest_height (terms front)
    not_high front after split b high = n (record { before = []; after = u ∷ us; split = refl; row = []; at = q; leads = nowhere; phrase = h; expects = p; high = record { front = front; rest = after; split = split; begins = b; high = high } })

    part : (vs : List LineToken) → first ∷ others ≡ (u ∷ us) ++ vs → LowLine q (u ∷ us)
    part vs a = from_there (low_or_high h.setting greatest_height (u ∷ us) b)
      where
        b : IsFront h.setting (terms (u ∷ us))
        b = (terms vs, tree, subst (IsExpression h.setting tree) (ap terms a ∙ terms_append (u ∷ us) vs) x)

        from_there : heights.IsTooHigh h.setting greatest_height (terms (u ∷ us)) ⊎ Low h.setting greatest_height (u ∷ us) → LowLine q (u ∷ us)
        from_there (inl high) = absurd (not_high (u ∷ us) [] (sym (append-nil (u ∷ us))) b high)
        from_there (inr low) = low_phrase q h (u ∷ us) p low

    behind_it : (w : LineToken) (vs : List LineToken) → u ∷ us ≡ (first ∷ others) ++ w ∷ vs → t ≡ w → ts ≡ vs ++ rest → LowLine q (u ∷ us)
    behind_it w vs a i j =
        let low = low_tree h.setting greatest_height (first ∷ others) tree x (not_high (first ∷ others) (w ∷ vs) a ([], tree, subst (IsExpression h.setting tree) (sym (append-nil (terms (first ∷ others)))) x)) in
        let l : Leads q ((first ∷ others) ++ w ∷ []) _ r = by_phrase others p x low (subst (λ t. Follows (behind h (first ∷ others)) t r) i f) nowhere in
        let whole : u ∷ us ≡ ((first ∷ others) ++ w ∷ []) ++ vs = a ∙ sym (append_assoc (first ∷ others) (w ∷ []) vs) in
        subst (LowLine q) (sym whole) (led vs l (later vs j (λ k. n (subst (HasTooHigh q) (sym whole) (further_high vs l k)))))

    go : Compared (u ∷ us) rest (first ∷ others) (t ∷ ts) → LowLine q (u ∷ us)
    go (same a b) = part [] (sym a ∙ sym (append-nil (u ∷ us)))
    go (short v vs a b) = part (v ∷ vs) a
    go (beyond v vs a b) =
        let i : t ≡ v = cc in
        let j : ts ≡ vs ++ rest = cc in
        behind_it v vs a i j

-- what begins a line and isn't too high
lows : {q : LineState} {row : List Piece} {ts : List LineToken} (us rest : List LineToken) → Row q row ts → ts ≡ us ++ rest → ¬ HasTooHigh q us → LowLine q us
lows {q = q} [] rest r e n = from_state q
lows (u ∷ us) rest over e n = absurd cc
lows (u ∷ us) rest (lines.token {q = q} {r = r} {t = t} {ts = ts} f x) e n =
    let firsts : t ≡ u = cc in
    let tails : ts ≡ us ++ rest = cc in
    let l : Leads q (u ∷ []) _ r = by_token (subst (λ t. Follows (choices q).arrows t r) firsts f) nowhere in
    let low : ¬ HasTooHigh r us = λ h. n (further_high us l h) in
    led us l (lows us rest x tails low)
lows (u ∷ us) rest (lines.phrase {r = r} {first = first} others {ts = ts} p x f y) e n =
    let later : (vs : List LineToken) → ts ≡ vs ++ rest → ¬ HasTooHigh r vs → LowLine r vs = λ vs j k. lows vs rest y j k in
    phrase_lows first u us rest others ts p x f e n later

pub low_line : {q : LineState} (us : List LineToken) → Begins q us → ¬ HasTooHigh q us → LowLine q us
low_line us (rest, row, r) n = lows us rest r refl n

-- the first token with which an expression is too high
pub record FirstHigh (s : Setting) (n : ℕ) (ts : List LineToken) : Type 0 where
  pub front : List LineToken
  pub token : LineToken
  pub rest : List LineToken
  pub split : ts ≡ front ++ token ∷ rest
  pub low : Low s n front
  pub high : heights.IsTooHigh s n (terms (front ++ token ∷ []))
  pub begins : IsFront s (terms (front ++ token ∷ []))

not_both : (s : Setting) (n : ℕ) (ts us : List LineToken) → Low s n ts → ts ≡ us → ¬ heights.IsTooHigh s n (terms us)
not_both s n ts us y e high =
    let lt = high (terms y.rest) y.tree (subst (IsExpression s y.tree) (terms_append ts y.rest ∙ ap (λ l. terms l ++ terms y.rest) e) y.reads) in
    omega (arith, lt, y.low)

one_more : (s : Setting) (n : ℕ) (before : List LineToken) (u : LineToken) (us : List LineToken) → IsFront s (terms (before ++ u ∷ us)) → Low s n before → (Low s n (before ++ u ∷ []) → FirstHigh s n ((before ++ u ∷ []) ++ us)) → FirstHigh s n (before ++ u ∷ us)
one_more s n before u us f y later = go (low_or_high s n (before ++ u ∷ []) b)
  where
    grouped : (before ++ u ∷ []) ++ us ≡ before ++ u ∷ us
    grouped = append_assoc before (u ∷ []) us

    b : IsFront s (terms (before ++ u ∷ []))
    b = front_of s (before ++ u ∷ []) us (subst (λ l. IsFront s (terms l)) (sym grouped) f)

    go : heights.IsTooHigh s n (terms (before ++ u ∷ [])) ⊎ Low s n (before ++ u ∷ []) → FirstHigh s n (before ++ u ∷ us)
    go (inl high) = record { front = before; token = u; rest = us; split = refl; low = y; high = high; begins = b }
    go (inr low) = subst (FirstHigh s n) grouped (later low)

first_high : (s : Setting) (n : ℕ) (before us : List LineToken) → IsFront s (terms (before ++ us)) → Low s n before → heights.IsTooHigh s n (terms (before ++ us)) → FirstHigh s n (before ++ us)
first_high s n before [] f y high = absurd (not_both s n before (before ++ []) y (sym (append-nil before)) high)
first_high s n before (u ∷ us) f y high =
    let grouped : (before ++ u ∷ []) ++ us ≡ before ++ u ∷ us = append_assoc before (u ∷ []) us in
    let later : Low s n (before ++ u ∷ []) → FirstHigh s n ((before ++ u ∷ []) ++ us) = λ low. first_high s n (before ++ u ∷ []) us (subst (λ l. IsFront s (terms l)) (sym grouped) f) low (subst (λ l. heights.IsTooHigh s n (terms l)) (sym grouped) high) in
    one_more s n before u us f y later

nothing_low : (s : Setting) (n : ℕ) → 0 < n → Low s n []
nothing_low s n lt = go (low_or_high s n [] (nothing_begins s))
  where
    go : heights.IsTooHigh s n [] ⊎ Low s n [] → Low s n []
    go (inl high) = absurd (nothing_high s n lt high)
    go (inr low) = low

-- the first token with which a line is too high: up to it the line can be ended within the limits, with it only past them
pub record HighAt (q : LineState) (ts : List LineToken) (p : Place) : Type 0 where
  pub front : List LineToken
  pub token : LineToken
  pub rest : List LineToken
  pub split : ts ≡ front ++ token ∷ rest
  pub low : LowLine q front
  pub begins : Begins q (front ++ token ∷ [])
  pub again : (more : List LineToken) → Reads q (front ++ token ∷ more) (refused (refusal_number refusal.TooNested) p)
  pub at_once : front ≡ [] → p ≡ token.place

-- lists with the same beginning have the same first token
pub same_first : {X : Type 0} (first : X) {others : List X} (xs : List X) (x : X) (ys zs : List X) → xs ++ x ∷ ys ≡ first ∷ others → (more : List X) × (xs ++ x ∷ zs ≡ first ∷ more)
same_first first [] x ys zs e = (zs, (let h : x ≡ first = cc in ap (λ y. y ∷ zs) h))
same_first first (y ∷ xs) x ys zs e = (xs ++ x ∷ zs, (let h : y ≡ first = cc in ap (λ y. y ∷ (xs ++ x ∷ zs)) h))

pub high_at : {q : LineState} {ts : List LineToken} {n : ℕ} {p : Place} → Reads q ts (refused n p) → n ≡ refusal_number refusal.TooNested → HighAt q ts p
high_at {q} {ts} (lines.too_high {row = row} {us = us} {vs = vs} {t = t} {r = r} {h = h} f leads expects high) n = record {
  front = us ++ fh.front;
  token = fh.token;
  rest = fh.rest ++ high.rest;
  split = f ∙ ap (λ l. us ++ l) whole ∙ sym (append_assoc us fh.front (fh.token ∷ (fh.rest ++ high.rest)));
  low = led fh.front leads (low_phrase r h fh.front expects fh.low);
  begins = subst (Begins q) (sym (append_assoc us fh.front (fh.token ∷ []))) (way_begins (fh.front ++ fh.token ∷ []) (leads_way leads) (front_begins r h (fh.front ++ fh.token ∷ []) expects fh.begins));
  again = again;
  at_once = λ z. at_once us fh.front z f whole;
}
  where
    fh : FirstHigh h.setting greatest_height high.front
    fh = first_high h.setting greatest_height [] high.front high.begins (nothing_low h.setting greatest_height limit_positive) high.high

    whole : t ∷ vs ≡ fh.front ++ fh.token ∷ (fh.rest ++ high.rest)
    whole = high.split ∙ ap (λ l. l ++ high.rest) fh.split ∙ append_assoc fh.front (fh.token ∷ fh.rest) high.rest

    again : (more : List LineToken) → Reads q ((us ++ fh.front) ++ fh.token ∷ more) (refused (refusal_number refusal.TooNested) t.place)
    again more =
        let x = same_first t fh.front fh.token (fh.rest ++ high.rest) more (sym whole) in
        let there : (us ++ fh.front) ++ fh.token ∷ more ≡ us ++ t ∷ x.0 = append_assoc us fh.front (fh.token ∷ more) ∙ ap (λ l. us ++ l) x.1 in
        let split : t ∷ x.0 ≡ (fh.front ++ fh.token ∷ []) ++ more = sym x.1 ∙ sym (append_assoc fh.front (fh.token ∷ []) more) in
        lines.too_high there leads expects (record { front = fh.front ++ fh.token ∷ []; rest = more; split = split; begins = fh.begins; high = fh.high })

    at_once : (us front : List LineToken) → us ++ front ≡ [] → ts ≡ us ++ t ∷ vs → t ∷ vs ≡ front ++ fh.token ∷ (fh.rest ++ high.rest) → t.place ≡ fh.token.place
    at_once [] [] z f w =
        let j : t ≡ fh.token = cc in
        ap (λ x. x.place) j
    at_once [] (x ∷ front) z f w = absurd cc
    at_once (x ∷ us) front z f w = absurd cc
high_at {q} (lines.stopped {us = us} t vs e begins no_line ends low) n = absurd (not_nested (setting_at q) (word t) n)
