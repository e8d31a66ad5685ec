-- Within a line there is no word that begins a block, but behind the colon of a local label, so the tokens tell in which
-- setting what follows stands.
use Rattle.std.proofs.Common.{◌≡◌, ℕ, List, [], ◌∷◌, ◌++◌, map, Option, Some, None, Bool, true, false, refl, sym, ap, ◌∙◌, subst}
use Rattle.std.specs.Prelude.{IsTrue, if◌then◌else◌, ◌&&◌, not}
use Rattle.p8_tree.specs.Expressions.{Tree}
use Rattle.p8_lexer.specs.declared.word.Word.{Word}
use Rattle.p8_lexer.specs.declared.word.Word.TheVariants as word_case
use Rattle.p8_lexer.specs.declared.token.TokenKind.{TokenKind}
use Rattle.p8_lexer.specs.declared.token.TokenKind.TheVariants as kind
use Rattle.p8_lexer.specs.Words.{capital, word_of_kind}
use Rattle.p8_grammar.specs.Lexemes.{Setting, is_dat, Lexeme, plain}
use Rattle.p8_grammar.specs.Grammar.{IsExpression}
use Rattle.p8_grammar.proofs.Complete.{complete}
use Rattle.p8_grammar.proofs.Labels as labels
use Rattle.p8_grammar.proofs.Labels.{is_other, is_colon as is_mark_colon, Labelled, labelled}
use Rattle.p8_expr.specs.Words.{lexeme_of_word, lexeme_by_word, lexeme_by_kind, reserved_as}
use Rattle.p8_lexer.specs.Pieces.{Piece}
use Rattle.p8_lines.specs.declared.sign.Sign.{Sign}
use Rattle.p8_lines.specs.declared.sign.Sign.TheVariants as sign
use Rattle.p8_lines.specs.declared.arrow.Arrow.{Arrow}
use Rattle.p8_lines.specs.declared.state.LineState.{LineState}
use Rattle.p8_lines.specs.declared.state.LineState.TheVariants as state
use Rattle.p8_lines.specs.Signs.{is_size, is_condition, takes_two, is_on_memory, takes_one, is_flag, is_write, Matches}
use Rattle.p8_lines.specs.Diagram.{Phrase, choices, setting_at}
use Rattle.p8_lines.specs.Tokens.{LineToken, word, lexeme, terms, string_length}
use Rattle.p8_lines.specs.Lines as line_specs
use Rattle.p8_lines.specs.Lines.{IsOn, Row}
use Rattle.p8_lines.proofs.Arrows.{all_good, taken, all_good_behind, taken_behind}
use Rattle.p8_lines.proofs.Lexemes.{IsOther, the_word, the_reserved, other_word, line_end_lexeme}
use Rattle.p8_blocks.specs.Reading.{is_block_word}
use Rattle.p8_blocks.specs.Refusals.{is_line_end, is_colon}
use Rattle.p8_blocks.proofs.Ends.{is_over, in_item, none_left}
use Rattle.p8_blocks.proofs.Closed.{is_closed, own_next, own_behind}
use Rattle.p8_blocks.proofs.Pieces.{is_labelled}

-- no word of these signs begins a block

abbrev block_in : Bool → Bool → Bool
block_in is block = if is then block else false

not_block : (is block : Bool) → block_in is block ≡ false → IsTrue is → block ≡ false
not_block true block h y = h
not_block false block h y = absurd cc

sizes : (w : Word) → block_in (is_size w) (is_block_word w) ≡ false
sizes word_case.PlusPlus = refl
sizes w = refl

conditions : (w : Word) → block_in (is_condition w) (is_block_word w) ≡ false
conditions word_case.PlusPlus = refl
conditions w = refl

pairs : (w : Word) → block_in (takes_two w) (is_block_word w) ≡ false
pairs word_case.PlusPlus = refl
pairs w = refl

memory : (w : Word) → block_in (is_on_memory w) (is_block_word w) ≡ false
memory word_case.PlusPlus = refl
memory w = refl

singles : (w : Word) → block_in (takes_one w) (is_block_word w) ≡ false
singles word_case.PlusPlus = refl
singles w = refl

flags : (w : Word) → block_in (is_flag w) (is_block_word w) ≡ false
flags word_case.PlusPlus = refl
flags w = refl

writes : (w : Word) → block_in (is_write w) (is_block_word w) ≡ false
writes word_case.PlusPlus = refl
writes w = refl

abbrev begins_no_block : Sign → Bool
begins_no_block (sign.Word w) = if is_block_word w then false else true
begins_no_block sign.Label = false
begins_no_block x = true

refuted : (b : Bool) → IsTrue (if b then false else true) → b ≡ false
refuted true h = absurd cc
refuted false h = refl

on_sign : (x : Sign) (v : Word) (n : ℕ) → Matches x v n → IsTrue (begins_no_block x) → is_block_word v ≡ false
on_sign (sign.Word w) v n m h = ap is_block_word m ∙ refuted (is_block_word w) h
on_sign sign.Size v n m h = not_block (is_size v) (is_block_word v) (sizes v) m
on_sign sign.Condition v n m h = not_block (is_condition v) (is_block_word v) (conditions v) m
on_sign sign.TwoOperands v n m h = not_block (takes_two v) (is_block_word v) (pairs v) m
on_sign sign.Memory v n m h = not_block (is_on_memory v) (is_block_word v) (memory v) m
on_sign sign.OneOperand v n m h = not_block (takes_one v) (is_block_word v) (singles v) m
on_sign sign.Flag v n m h = not_block (is_flag v) (is_block_word v) (flags v) m
on_sign sign.Write v n m h = not_block (is_write v) (is_block_word v) (writes v) m
on_sign sign.Label v n m h = absurd cc
on_sign sign.Text v n m h = ap is_block_word m.0
on_sign sign.LongText v n m h = ap is_block_word m.0

-- no expression has one, but behind the colon of a local label

block_lexeme : (t : LineToken) (w : Word) → word t ≡ w → IsTrue (is_block_word w) → IsOther (lexeme t)
unfolding lexeme_of_word
block_lexeme t word_case.Con e h = other_word t word_case.Con refl refl e
block_lexeme t word_case.Var e h = other_word t word_case.Var refl refl e
block_lexeme t word_case.Obj e h = other_word t word_case.Obj refl refl e
block_lexeme t word_case.Pub e h = other_word t word_case.Pub refl refl e
block_lexeme t word_case.Pri e h = other_word t word_case.Pri refl refl e
block_lexeme t word_case.Dat e h = other_word t word_case.Dat refl refl e
block_lexeme t w e h = absurd cc

pub other_plain : {x : Lexeme} → IsOther x → is_other (plain x) ≡ true
other_plain the_word = refl
other_plain (the_reserved n) = refl

abbrev if_colon : Lexeme → Bool → Bool
if_colon x b = if is_mark_colon (plain x) then b else true

colons : (text : List ℕ) (w : Word) → IsTrue (if_colon (lexeme_by_word text w) (is_colon w))
unfolding lexeme_of_word
colons text word_case.Name = refl
colons text w = refl

reserved_colons : (n text : List ℕ) (w : Word) → IsTrue (if_colon (reserved_as n (lexeme_by_word text w)) (is_colon w))
unfolding lexeme_of_word
reserved_colons n text word_case.Name = refl
reserved_colons n text w = refl

colon_word : (t : LineToken) → IsTrue (if_colon (lexeme t) (is_colon (word t)))
colon_word t = go t.kind
  where
    go : (k : TokenKind) → IsTrue (if_colon (lexeme_by_kind t.text (word_of_kind t.text k) k) (is_colon (word_of_kind t.text k)))
    go (kind.Number n) = refl
    go kind.Str = refl
    go kind.Name = reserved_colons (map capital t.text) t.text (word_of_kind t.text kind.Name)
    go kind.Float = colons t.text (word_of_kind t.text kind.Float)
    go (kind.Symbol n) = colons t.text (word_of_kind t.text (kind.Symbol n))
    go kind.LineEnd = colons t.text (word_of_kind t.text kind.LineEnd)

-- none of these words is such a one
pub data NoneOf (test : Word → Bool) : List LineToken → Type 0 where
  none : NoneOf test []
  another : {t : LineToken} {ts : List LineToken} → test (word t) ≡ false → NoneOf test ts → NoneOf test (t ∷ ts)

no_other : (b : Bool) → IsTrue (if b then false else true) → b ≡ false
no_other true h = absurd cc
no_other false h = refl

module _ (test : Word → Bool) (apart : (t : LineToken) (w : Word) → word t ≡ w → IsTrue (test w) → IsOther (lexeme t)) where
  in_terms : (c : Bool) (us : List LineToken) → Labelled false c (terms us) → NoneOf test us
  in_terms c [] h = none
  in_terms c (u ∷ us) (labels.another o l) = another (go (test (word u)) refl) (in_terms (is_mark_colon (plain (lexeme u))) us l)
    where
      go : (b : Bool) → test (word u) ≡ b → b ≡ false
      go false e = refl
      go true e = absurd (let z = sym (other_plain (apart u (word u) refl e)) ∙ no_other (is_other (plain (lexeme u))) o in cc)

  in_expression : (s : Setting) (e : Tree) (us : List LineToken) → is_dat s ≡ false → IsExpression s e (terms us) → NoneOf test us
  in_expression s e us d x = let c = complete s x in in_terms false us (subst (λ d. Labelled d false (terms us)) d (labelled s (terms us) c.0 c.1))

both : {test : Word → Bool} {us vs : List LineToken} → NoneOf test us → NoneOf test vs → NoneOf test (us ++ vs)
both none y = y
both (another e x) y = another e (both x y)

-- Words of a line that begin no block, or are names of local labels: each stands behind a colon, in DAT.

pub data Quiet (dat : Bool) : Bool → List LineToken → Type 0 where
  over : {c : Bool} → Quiet dat c []
  next : {c : Bool} {t : LineToken} {ts : List LineToken} → IsTrue (if is_block_word (word t) then dat && c else true) → Quiet dat (is_colon (word t)) ts → Quiet dat c (t ∷ ts)

-- whether the last of these is a colon
abbrev pub colon_after : Bool → List LineToken → Bool
colon_after c [] = c
colon_after c (t ∷ ts) = colon_after (is_colon (word t)) ts

pub after_append : (c : Bool) (us vs : List LineToken) → colon_after c (us ++ vs) ≡ colon_after (colon_after c us) vs
after_append c [] vs = refl
after_append c (u ∷ us) vs = after_append (is_colon (word u)) us vs

abbrev pub implies : Bool → Bool → Bool
implies a b = if a then b else true

more : (b d d' c c' : Bool) → IsTrue (implies d d') → IsTrue (implies c c') → IsTrue (if b then d && c else true) → IsTrue (if b then d' && c' else true)
more false d d' c c' x y h = refl
more true true true true true x y h = refl
more true true true true false x y h = absurd cc
more true true true false c' x y h = absurd cc
more true true false c c' x y h = absurd cc
more true false d' c c' x y h = absurd cc

implied : (a : Bool) → IsTrue (implies a a)
implied true = refl
implied false = refl

-- in more places
wider : (d d' c c' : Bool) {ts : List LineToken} → IsTrue (implies d d') → IsTrue (implies c c') → Quiet d c ts → Quiet d' c' ts
wider d d' c c' x y over = over
wider d d' c c' x y (next {t = t} h q) = next (more (is_block_word (word t)) d d' c c' x y h) (wider d d' (is_colon (word t)) (is_colon (word t)) x (implied (is_colon (word t))) q)

quiet_both : {d : Bool} (us : List LineToken) {c : Bool} (vs : List LineToken) → Quiet d c us → Quiet d (colon_after c us) vs → Quiet d c (us ++ vs)
quiet_both [] vs x y = y
quiet_both (u ∷ us) vs (next h x) y = next h (quiet_both us vs x y)

pub first_quiet : {d : Bool} (us : List LineToken) {c : Bool} (vs : List LineToken) → Quiet d c (us ++ vs) → Quiet d c us
first_quiet [] vs x = over
first_quiet (u ∷ us) vs (next h x) = next h (first_quiet us vs x)

quiet_terms : (d c c' : Bool) (us : List LineToken) → IsTrue (implies c c') → Labelled d c (terms us) → Quiet d c' us
quiet_terms d c c' [] y h = over
quiet_terms d c c' (u ∷ us) y (labels.another o l) = next (go (is_block_word (word u)) refl) (quiet_terms d (is_mark_colon (plain (lexeme u))) (is_colon (word u)) us (colon_word u) l)
  where
    go : (b : Bool) → is_block_word (word u) ≡ b → IsTrue (if b then d && c' else true)
    go false e = refl
    go true e = more true d d c c' (implied d) y (subst (λ b. IsTrue (if b then d && c else true)) (other_plain (block_lexeme u (word u) refl e)) o)

-- the arrows: only behind a colon in DAT a local label's name stands

abbrev good_sign : LineState → Sign → Bool
good_sign q sign.Label = is_dat (setting_at q) && is_labelled q
good_sign q x = begins_no_block x

abbrev is_colon_sign : Sign → Bool
is_colon_sign (sign.Word word_case.Colon) = true
is_colon_sign x = false

abbrev good_arrow : LineState → Arrow → Bool
good_arrow q a = good_sign q a.sign && (implies (is_labelled a.to) (is_colon_sign a.sign) && implies (is_dat (setting_at a.to)) (is_dat (setting_at q)))

arrows_good : (q : LineState) → IsTrue (all_good (good_arrow q) (choices q).arrows)
arrows_good state.End = refl
arrows_good q = refl

abbrev no_label : Sign → Bool
no_label sign.Label = false
no_label x = true

abbrev good_behind : LineState → Arrow → Bool
good_behind q a = no_label a.sign && good_arrow q a

abbrev good_phrase : LineState → Option Phrase → Bool
good_phrase q None = true
good_phrase q (Some h) = implies (is_dat h.setting) (is_dat (setting_at q)) && all_good_behind (good_behind q) h

phrases_good : (q : LineState) → IsTrue (good_phrase q (choices q).phrase)
phrases_good state.End = refl
phrases_good q = refl

halves : (a b : Bool) → IsTrue (a && b) → IsTrue a × IsTrue b
halves true b h = (refl, h)
halves false b h = absurd cc

-- a word of an arrow
arrow_word : (q : LineState) (x : Sign) (v : Word) (n : ℕ) (c : Bool) → Matches x v n → IsTrue (good_sign q x) → IsTrue (implies (is_labelled q) c) → IsTrue (if is_block_word v then is_dat (setting_at q) && c else true)
arrow_word q sign.Label v n c m g l = go (is_block_word v) (is_labelled q) (halves (is_dat (setting_at q)) (is_labelled q) g) l
  where
    go : (b k : Bool) → IsTrue (is_dat (setting_at q)) × IsTrue k → IsTrue (implies k c) → IsTrue (if b then is_dat (setting_at q) && c else true)
    go false k g l = refl
    go true true g l = subst (λ d. IsTrue (d && c)) (sym g.0) l
    go true false g l = absurd (let z = g.1 in cc)
arrow_word q x v n c m g l = ap (λ b. if b then is_dat (setting_at q) && c else true) (on_sign x v n m g)

colon_matches : (x : Sign) (v : Word) (n : ℕ) → Matches x v n → IsTrue (is_colon_sign x) → IsTrue (is_colon v)
colon_matches (sign.Word word_case.Colon) v n m h = ap is_colon m
colon_matches x v n m h = absurd cc

-- what follows an arrow
behind_arrow : (q r : LineState) (t : LineToken) (a : Arrow) {ts : List LineToken} → IsOn a t → a.to ≡ r → IsTrue (good_arrow q a) → ((c : Bool) → IsTrue (implies (is_labelled r) c) → Quiet (is_dat (setting_at r)) c ts) → Quiet (is_dat (setting_at q)) (is_colon (word t)) ts
behind_arrow q r t a {ts} m e g later =
    let x = halves (good_sign q a.sign) (implies (is_labelled a.to) (is_colon_sign a.sign) && implies (is_dat (setting_at a.to)) (is_dat (setting_at q))) g in
    let y = halves (implies (is_labelled a.to) (is_colon_sign a.sign)) (implies (is_dat (setting_at a.to)) (is_dat (setting_at q))) x.1 in
    wider (is_dat (setting_at r)) (is_dat (setting_at q)) (is_colon (word t)) (is_colon (word t)) (subst (λ r. IsTrue (implies (is_dat (setting_at r)) (is_dat (setting_at q)))) e y.1) (implied (is_colon (word t))) (later (is_colon (word t)) (subst (λ r. IsTrue (implies (is_labelled r) (is_colon (word t)))) e (so (is_labelled a.to) (is_colon_sign a.sign) refl y.0)))
  where
    so : (l k : Bool) → is_colon_sign a.sign ≡ k → IsTrue (implies l k) → IsTrue (implies l (is_colon (word t)))
    so false k s h = refl
    so true true s h = colon_matches a.sign (word t) (string_length t) m s
    so true false s h = absurd cc

any_flag : (d c : Bool) (w : Word) → is_block_word w ≡ false → IsTrue (if is_block_word w then d && c else true)
any_flag d c w e = ap (λ b. if b then d && c else true) e

unlabelled_word : (q : LineState) (x : Sign) (v : Word) (n : ℕ) → Matches x v n → IsTrue (no_label x) → IsTrue (good_sign q x) → is_block_word v ≡ false
unlabelled_word q sign.Label v n m u g = absurd cc
unlabelled_word q x v n m u g = on_sign x v n m g

pub in_row : {q : LineState} {row : List Piece} {us : List LineToken} → Row q row us → (c : Bool) → IsTrue (implies (is_labelled q) c) → Quiet (is_dat (setting_at q)) c us
in_row line_specs.over c l = over
in_row (line_specs.token {q = q} {r = r} {t = t} f x) c l =
    let y = taken (good_arrow q) f (arrows_good q) in
    let g = halves (good_sign q y.arrow.sign) (implies (is_labelled y.arrow.to) (is_colon_sign y.arrow.sign) && implies (is_dat (setting_at y.arrow.to)) (is_dat (setting_at q))) y.good in
    next (arrow_word q y.arrow.sign (word t) (string_length t) c y.is g.0 l) (behind_arrow q r t y.arrow y.is y.goes y.good (λ c l. in_row x c l))
in_row (line_specs.phrase {q = q} {r = r} {h = h} {e = e} {first = first} {t = t} others p x f y) c l =
    let good = halves (implies (is_dat h.setting) (is_dat (setting_at q))) (all_good_behind (good_behind q) h) (subst (λ o. IsTrue (good_phrase q o)) p (phrases_good q)) in
    let z = taken_behind (good_behind q) h (first ∷ others) f good.1 in
    let g = halves (no_label z.arrow.sign) (good_arrow q z.arrow) z.good in
    let s = halves (good_sign q z.arrow.sign) (implies (is_labelled z.arrow.to) (is_colon_sign z.arrow.sign) && implies (is_dat (setting_at z.arrow.to)) (is_dat (setting_at q))) g.1 in
    let v = complete h.setting x in
    let inner : Quiet (is_dat (setting_at q)) c (first ∷ others) = wider (is_dat h.setting) (is_dat (setting_at q)) c c good.0 (implied c) (quiet_terms (is_dat h.setting) false c (first ∷ others) refl (labelled h.setting (terms (first ∷ others)) v.0 v.1)) in
    quiet_both (first ∷ others) _ inner (next (any_flag (is_dat (setting_at q)) (colon_after c (first ∷ others)) (word t) (unlabelled_word q z.arrow.sign (word t) (string_length t) z.is g.0 s.0)) (behind_arrow q r t z.arrow z.is z.goes g.1 (λ c l. in_row y c l)))

-- a line of DAT doesn't end with a colon

abbrev pub in_dat_line : LineState → Bool
in_dat_line state.End = true
in_dat_line state.LineEnd = true
in_dat_line q = is_dat (setting_at q)

dat_closed : (q : LineState) → IsTrue (is_closed in_dat_line q)
dat_closed state.End = refl
dat_closed q = refl

abbrev is_end_sign : Sign → Bool
is_end_sign (sign.Word word_case.LineEnd) = true
is_end_sign x = false

abbrev ends_well : Arrow → Bool
ends_well a = implies (is_over a.to) (is_end_sign a.sign)

abbrev ending : LineState → Bool
ending q = implies (in_dat_line q) (all_good ends_well (choices q).arrows)

endings : (q : LineState) → IsTrue (ending q)
endings state.End = refl
endings q = refl

abbrev phrase_ends : Option Phrase → Bool
phrase_ends None = true
phrase_ends (Some h) = all_good_behind ends_well h

ending_phrases : (q : LineState) → IsTrue (implies (in_dat_line q) (phrase_ends (choices q).phrase))
ending_phrases state.End = refl
ending_phrases q = refl

implied_by : (a b : Bool) → IsTrue (implies a b) → IsTrue a → IsTrue b
implied_by true b h i = h
implied_by false b h i = absurd cc

end_matches : (x : Sign) (v : Word) (n : ℕ) → Matches x v n → IsTrue (is_end_sign x) → is_colon v ≡ false
end_matches (sign.Word word_case.LineEnd) v n m h = ap is_colon m
end_matches x v n m h = absurd cc

ends_so : (r : LineState) (t : LineToken) (a : Arrow) → IsOn a t → a.to ≡ r → IsTrue (ends_well a) → IsTrue (implies (is_over r) (not (is_colon (word t))))
ends_so r t a m e g = subst (λ r. IsTrue (implies (is_over r) (not (is_colon (word t))))) e (go (is_over a.to) (is_end_sign a.sign) refl g)
  where
    go : (o k : Bool) → is_end_sign a.sign ≡ k → IsTrue (implies o k) → IsTrue (implies o (not (is_colon (word t))))
    go false k s h = refl
    go true true s h = ap not (end_matches a.sign (word t) (string_length t) m s)
    go true false s h = absurd cc

pub row_end : {q : LineState} {row : List Piece} {us : List LineToken} → Row q row us → IsTrue (in_dat_line q) → (c : Bool) → IsTrue (implies (is_over q) (not c)) → colon_after c us ≡ false
row_end line_specs.over i true h = absurd cc
row_end line_specs.over i false h = refl
row_end (line_specs.token {q = q} {r = r} {t = t} f x) i c h =
    let y = taken ends_well f (implied_by (in_dat_line q) (all_good ends_well (choices q).arrows) (endings q) i) in
    row_end x (own_next in_dat_line dat_closed q r t f i) (is_colon (word t)) (ends_so r t y.arrow y.is y.goes y.good)
row_end (line_specs.phrase {q = q} {r = r} {h = h} {first = first} {t = t} others {ts = ts} p x f y) i c e =
    let z = taken_behind ends_well h (first ∷ others) f (implied_by (in_dat_line q) (all_good_behind ends_well h) (subst (λ o. IsTrue (implies (in_dat_line q) (phrase_ends o))) p (ending_phrases q)) i) in
    after_append c (first ∷ others) (t ∷ ts) ∙ row_end y (own_behind in_dat_line dat_closed q r h (first ∷ others) t p f i) (is_colon (word t)) (ends_so r t z.arrow z.is z.goes z.good)

-- no word of an item, or of OTHER, ends a line

abbrev ends_no_line : Sign → Bool
ends_no_line (sign.Word w) = if is_line_end w then false else true
ends_no_line x = false

abbrev item_arrow : Arrow → Bool
item_arrow a = if ends_no_line a.sign then (if is_over a.to then true else in_item a.to) else false

abbrev item_arrows : LineState → Bool
item_arrows q = if in_item q then all_good item_arrow (choices q).arrows else true

item_states : (q : LineState) → IsTrue (item_arrows q)
item_states state.End = refl
item_states q = refl

abbrev item_behind : Bool → Option Phrase → Bool
item_behind i None = true
item_behind i (Some h) = if i then not (is_dat h.setting) && all_good_behind item_arrow h else true

item_phrases : (q : LineState) → IsTrue (item_behind (in_item q) (choices q).phrase)
item_phrases state.End = refl
item_phrases q = refl

where_so : (a b : Bool) → IsTrue (if a then b else true) → IsTrue a → IsTrue b
where_so true b h i = h
where_so false b h i = absurd cc

line_end_lexeme_of : (t : LineToken) (w : Word) → word t ≡ w → IsTrue (is_line_end w) → IsOther (lexeme t)
line_end_lexeme_of t word_case.LineEnd e h = line_end_lexeme t e
line_end_lexeme_of t w e h = absurd cc

no_line_end : (x : Sign) (v : Word) (n : ℕ) → Matches x v n → IsTrue (ends_no_line x) → is_line_end v ≡ false
no_line_end (sign.Word w) v n m h = ap is_line_end m ∙ refuted (is_line_end w) h
no_line_end x v n m h = absurd cc

-- an arrow of an item leads to its end, or stays in it
item_step : {r : LineState} {row : List Piece} {ts : List LineToken} (t : LineToken) (a : Arrow) → Matches a.sign (word t) (string_length t) → a.to ≡ r → IsTrue (item_arrow a) → Row r row ts → (IsTrue (in_item r) → NoneOf is_line_end ts) → NoneOf is_line_end (t ∷ ts)
item_step {r} {row} {ts} t a m e h x later = go (ends_no_line a.sign) refl (is_over r) refl (subst (λ r. IsTrue (if ends_no_line a.sign then (if is_over r then true else in_item r) else false)) e h)
  where
    go : (b : Bool) → ends_no_line a.sign ≡ b → (c : Bool) → is_over r ≡ c → IsTrue (if b then (if c then true else in_item r) else false) → NoneOf is_line_end (t ∷ ts)
    go true g true o h = another (no_line_end a.sign (word t) (string_length t) m g) (subst (NoneOf is_line_end) (sym (none_left x o)) none)
    go true g false o h = another (no_line_end a.sign (word t) (string_length t) m g) (later h)
    go false g c o h = absurd cc

pub in_item_row : {q : LineState} {row : List Piece} {us : List LineToken} → Row q row us → IsTrue (in_item q) → NoneOf is_line_end us
in_item_row line_specs.over h = absurd cc
in_item_row (line_specs.token {q = q} {t = t} f x) h =
    let y = taken item_arrow f (where_so (in_item q) (all_good item_arrow (choices q).arrows) (item_states q) h) in
    item_step t y.arrow y.is y.goes y.good x (λ i. in_item_row x i)
in_item_row (line_specs.phrase {q = q} {h = h} {e = e} {first = first} {t = t} others p x f y) i =
    let good = halves (not (is_dat h.setting)) (all_good_behind item_arrow h) (where_so (in_item q) (not (is_dat h.setting) && all_good_behind item_arrow h) (subst (λ o. IsTrue (item_behind (in_item q) o)) p (item_phrases q)) i) in
    let z = taken_behind item_arrow h (first ∷ others) f good.1 in
    both (in_expression is_line_end line_end_lexeme_of h.setting e (first ∷ others) (isnt (is_dat h.setting) good.0) x) (item_step t z.arrow z.is z.goes z.good y (λ j. in_item_row y j))
  where
    isnt : (b : Bool) → IsTrue (not b) → b ≡ false
    isnt true h = absurd cc
    isnt false h = refl
