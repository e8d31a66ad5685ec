-- One word of the reader: where it is behind it, and how reading ends before it.
use Rattle.std.proofs.Common.{◌≡◌, ℕ, ◌+◌, ◌<◌, ◌≤◌, min, max, length, map, List, ◌∷◌, Option, Some, None, Bool, true, false, refl, sym, ap, ◌∙◌, subst, arith}
use Rattle.std.specs.Prelude.{IsTrue, ◌↔◌}
use Rattle.p8_lexer.specs.Words.{capital}
use Rattle.p8_tree.specs.declared.places.Place.{Place}
use Rattle.p8_tree.specs.Expressions.{Variable}
use Rattle.p8_grammar.specs.Lexemes.{Setting, behind, equal, Lexeme, mark, token}
use Rattle.p8_grammar.specs.Machine.{Shape, using, reading, fresh, loose, Frame, assign_frame, State, state, becoming, step, accept}
use Rattle.p8_grammar.specs.Heights.{height_in_variable}
use Rattle.p8_grammar.specs.Least.{shape_least, need, least}
use Rattle.p8_grammar.specs.Outcomes.{outcome, run}
use Rattle.p8_grammar.specs.Views.{mark_of, lexeme_of}
use Rattle.p8_grammar.specs.declared.lexemes.Lexeme as lexeme_type
use Rattle.p8_grammar.specs.declared.lexemes.Lexeme.TheVariants as lexeme_case
use Rattle.p8_grammar.specs.declared.lexemes.Punctuation.{Punctuation}
use Rattle.p8_grammar.specs.declared.lexemes.Punctuation.TheVariants as mark_case
use Rattle.p8_grammar.specs.Lexemes as lexemes
use Rattle.p8_grammar.proofs.Steps.{loose_mark}
use Rattle.p8_expr.specs.Cursors.{Spot}
use Rattle.p8_expr.specs.declared.lookahead.Lookahead.{Lookahead}
use Rattle.p8_expr.specs.declared.reading.Reader.{Reader}
use Rattle.p8_expr.specs.declared.reading.Ended.TheVariants as ended
use Rattle.p8_expr.specs.Parsing.{tokens_from}
use Rattle.p8_expr.specs.Cursors.{place_at, text_at, lexeme_at, from}
use Rattle.p8_expr.specs.Words.{between_quotes}
use Rattle.p8_expr.specs.Views.{is_word}
use Rattle.p8_expr.specs.Lookaheads.{left, next_place, next_word, next_lexeme, next_text, next_token, HasNext, Fits, IsBehind}
use Rattle.p8_expr.specs.Reading.{state_of, IsPast, Takes, Turns}
use Rattle.p8_expr.proofs.Places.{within_word, stops_at, steps_at}

-- what the next word is
pub word_is : (ahead : Lookahead) (x : lexeme_type.Lexeme) → Fits ahead → ahead.lexeme ≡ x → next_lexeme ahead ≡ lexeme_of (map capital (next_text ahead)) (between_quotes (next_text ahead)) x
word_is ahead x f e = f.knows ∙ ap (lexeme_of (map capital (next_text ahead)) (between_quotes (next_text ahead))) e

pub has_mark : (ahead : Lookahead) (m : Punctuation) (b : Bool) → Fits ahead → ahead.lexeme ≡ lexeme_case.Mark m → (IsTrue b ↔ (mark_of m ≡ equal)) → IsTrue b ↔ HasNext ahead (mark equal)
has_mark ahead m b f is told =
    let k : next_lexeme ahead ≡ mark (mark_of m) = word_is ahead (lexeme_case.Mark m) f is in (
      λ t. k ∙ ap mark (told.0 t),
      λ h. told.1 (same (mark_of m) (sym k ∙ h)),
    )
  where
    same : (m : lexemes.Mark) → mark m ≡ mark equal → m ≡ equal
    same m e = cc

pub has_no_mark : (ahead : Lookahead) → Fits ahead → ((m : Punctuation) → ahead.lexeme ≡ lexeme_case.Mark m → ⊥) → IsTrue false ↔ HasNext ahead (mark equal)
has_no_mark ahead f other = (λ t. absurd (never t), λ h. absurd (go ahead.lexeme other (sym f.knows ∙ h)))
  where
    never : false ≡ true → ⊥
    never e = cc

    go : (x : lexeme_type.Lexeme) → ((m : Punctuation) → x ≡ lexeme_case.Mark m → ⊥) → lexeme_of (map capital (next_text ahead)) (between_quotes (next_text ahead)) x ≡ mark equal → ⊥
    go (lexeme_case.Mark m) other e = other m refl
    go x other e = cc

pub no_equal : (m : Punctuation) → (m ≡ mark_case.Equal → ⊥) → mark_of m ≡ equal → IsTrue false
no_equal mark_case.Equal other e = absurd (other refl)
no_equal m other e = absurd cc

pub within_here : (ahead : Lookahead) → IsTrue (is_word (next_lexeme ahead)) → ahead.here.at < length ahead.here.tokens
within_here ahead w = within_word ahead.here.bytes ahead.here.tokens ahead.here.at w

abbrev Knows : Spot → lexeme_type.Lexeme → Type 0
Knows c x =
    loose (lexeme_at c.bytes c.tokens c.at) ≡
    lexeme_of (map capital (text_at c.bytes c.tokens c.at)) (between_quotes (text_at c.bytes c.tokens c.at)) x

-- the setting doesn't matter to what is next
pub fits_there : (ahead last : Lookahead) → last.here ≡ ahead.here → last.lexeme ≡ ahead.lexeme → Fits ahead → Fits last
fits_there ahead last h l f = record {
  within = subst (λ c. c.at ≤ length c.tokens) (sym h) f.within;
  knows = subst (λ c. Knows c last.lexeme) (sym h) (subst (λ x. Knows ahead.here x) (sym l) f.knows);
}

pub past : (ahead next : Lookahead) → IsBehind ahead next → IsPast ahead next
past ahead next b = record { at_is = b.at_is; bytes_are = b.bytes_are; tokens_are = b.tokens_are; fits = b.fits }

pub past_within : (ahead next last : Lookahead) → IsBehind ahead next → last.here ≡ next.here → last.lexeme ≡ next.lexeme → IsPast ahead last
past_within ahead next last b h l = record { fits = fits_there next last h l b.fits; at_is = ap (λ c. c.at) h ∙ b.at_is; bytes_are = ap (λ c. c.bytes) h ∙ b.bytes_are; tokens_are = ap (λ c. c.tokens) h ∙ b.tokens_are }

pub past_from : (ahead mid next : Lookahead) → mid.here ≡ ahead.here → IsBehind mid next → IsPast ahead next
past_from ahead mid next h b = record { fits = b.fits; at_is = b.at_is ∙ ap (λ c. min (c.at + 1) (length c.tokens)) h; bytes_are = b.bytes_are ∙ ap (λ c. c.bytes) h; tokens_are = b.tokens_are ∙ ap (λ c. c.tokens) h }

-- a word that goes on is a turn
pub takes_turn : (l : ℕ) (st : State) (ahead : Lookahead) (new : Reader) → Takes st ahead true new → Turns l st ahead None new
takes_turn l st ahead new (h, lt, p, tall) = (
  record { later = omega (arith, p.at_is, lt); bytes_are = p.bytes_are; tokens_are = p.tokens_are; fits = p.fits },
  omega (arith, p.at_is, lt),
  steps_at ahead.here.bytes ahead.here.tokens ahead.here.at st (state_of new) lt h
      ∙ (λ i. run (state_of new) (tokens_from (sym p.bytes_are i) (sym p.tokens_are i) (sym p.at_is i))),
  tall,
)

-- where none does, and what was read is no expression, reading ends
pub breaks_turn : (l : ℕ) (st : State) (ahead : Lookahead) (new : Reader) (n h : ℕ) → n ≡ ahead.here.at → Fits ahead → step st (next_token ahead) ≡ None → accept st ≡ None → h ≡ min 65 (least st) → Turns l st ahead (Some (ended.Broken n h)) new
breaks_turn l st ahead new n h at f none ended_none low = (
  least st,
  low,
  subst (λ n. n ≤ length ahead.here.tokens) (sym at) f.within,
  stops_at ahead.here.bytes ahead.here.tokens ahead.here.at st none
      ∙ (λ i. outcome (ended_none i) (least st) (tokens_from ahead.here.bytes ahead.here.tokens (sym at i))),
)

-- ---- AND or OR behind an action's variable

becoming_stops : (s : Setting) (c : ℕ) (p q : Place) (v : Variable) (k : List Frame) (x : Lexeme) → ¬ (loose x ≡ mark equal) → step (becoming s c p v k) (token q x) ≡ None
becoming_stops s c p q v k (mark equal) h = absurd (h refl)
becoming_stops s c p q v k x h = refl

-- what it comes to with the word behind it
waits_run : (ahead next : Lookahead) (st to : State) → ahead.here.at < length ahead.here.tokens → step st (next_token ahead) ≡ Some to → IsBehind ahead next → run st (left ahead) ≡ run to (left next)
waits_run ahead next st to lt h b =
    steps_at ahead.here.bytes ahead.here.tokens ahead.here.at st to lt h
    ∙ (λ i. run to (tokens_from (sym b.bytes_are i) (sym b.tokens_are i) (sym b.at_is i)))

pub becoming_breaks : (l : ℕ) (st : State) (ahead next : Lookahead) (new : Reader) (s : Setting) (c : ℕ) (p : Place) (v : Variable) (k : List Frame) (high r n : ℕ) → n ≡ next.here.at → IsBehind ahead next → ahead.here.at < length ahead.here.tokens →
    step st (next_token ahead) ≡ Some (becoming s c p v k) → ¬ HasNext next (mark equal) → high ≡ min 65 (1 + max (height_in_variable v) 1) → ((h : ℕ) → high ≡ min 65 h → r ≡ min 65 (need h k)) →
    Turns l st ahead (Some (ended.Broken n r)) new
becoming_breaks l st ahead next new s c p v k high r n at b lt h none low told =
    let to = becoming s c p v k in (
      least to,
      told (1 + max (height_in_variable v) 1) low,
      subst (λ n. n ≤ length ahead.here.tokens) (sym at) (subst (λ ts. next.here.at ≤ length ts) b.tokens_are b.fits.within),
      waits_run ahead next st to lt h b
          ∙ stops_at next.here.bytes next.here.tokens next.here.at to (becoming_stops s c p (next_place next) v k (next_word next) none)
          ∙ (λ i. outcome None (least to) (tokens_from (b.bytes_are i) (b.tokens_are i) (sym at i))),
    )

-- `=` behind them
pub equal_becomes : (s : Setting) (c : ℕ) (p q : Place) (v : Variable) (k : List Frame) (x : Lexeme) → loose x ≡ mark equal → step (becoming s c p v k) (token q x) ≡ Some (state (behind s) fresh (assign_frame (Some c) p v ∷ k))
equal_becomes s c p q v k x h = ap (λ x. step (becoming s c p v k) (token q x)) (loose_mark x equal h)

pub equal_turns : (l : ℕ) (st to : State) (ahead mid : Lookahead) (new : Reader) → IsBehind ahead mid → ahead.here.at < length ahead.here.tokens → step st (next_token ahead) ≡ Some to → Takes to mid true new → Turns l st ahead None new
equal_turns l st to ahead mid new b lt h t =
    let m = takes_turn l to mid new t in (
      record { later = omega (arith, b.later, m.1); bytes_are = m.0.bytes_are ∙ b.bytes_are; tokens_are = m.0.tokens_are ∙ b.tokens_are; fits = m.0.fits },
      omega (arith, b.later, m.1),
      waits_run ahead mid st to lt h b ∙ m.2,
      m.3,
    )

-- ---- the least height of a state

pub least_shape : (s : Setting) (sh : Shape) (k : List Frame) → (sh ≡ fresh → ⊥) → least (state s sh k) ≡ need (shape_least sh) k
least_shape s (using reading) k h = absurd (h refl)
least_shape s sh k h = refl

-- ---- a word that is known to go on

pub turned_there : (l : ℕ) (st : State) (ahead mid : Lookahead) (new : Reader) → mid.here ≡ ahead.here → Turns l st mid None new → Turns l st ahead None new
turned_there l st ahead mid new h (f, lt, e, tall) = (
  record {
    later = subst (λ c. c.at ≤ new.ahead.here.at) h f.later;
    bytes_are = f.bytes_are ∙ ap (λ c. c.bytes) h;
    tokens_are = f.tokens_are ∙ ap (λ c. c.tokens) h;
    fits = f.fits;
  },
  subst (λ c. c.at < new.ahead.here.at) h lt,
  ap (λ c. run st (from c)) (sym h) ∙ e,
  tall,
)

pub token_there : (st : State) (ahead mid : Lookahead) (o : Option State) → mid.here ≡ ahead.here → step st (next_token ahead) ≡ o → step st (next_token mid) ≡ o
token_there st ahead mid o h e = ap (λ c. step st (token (place_at c.tokens c.at) (lexeme_at c.bytes c.tokens c.at))) h ∙ e

-- the same word goes on with another state the same
pub takes_there : (b : Bool) (st st' : State) (ahead mid : Lookahead) (new : Reader) → mid.here ≡ ahead.here → step st (next_token ahead) ≡ step st' (next_token ahead) → Takes st' mid b new → Takes st ahead b new
takes_there true st st' ahead mid new h e (g, lt, p, tall) = (
  e ∙ sym (token_there st' ahead mid (step st' (next_token ahead)) h refl) ∙ g,
  subst (λ c. c.at < length c.tokens) h lt,
  record { at_is = p.at_is ∙ ap (λ c. min (c.at + 1) (length c.tokens)) h; bytes_are = p.bytes_are ∙ ap (λ c. c.bytes) h; tokens_are = p.tokens_are ∙ ap (λ c. c.tokens) h; fits = p.fits },
  tall,
)
takes_there false st st' ahead mid new h e g = e ∙ sym (token_there st' ahead mid (step st' (next_token ahead)) h refl) ∙ g

-- what goes on from a reader in another state at the same place
pub takes_from : (st : State) (ahead mid : Lookahead) (new : Reader) (to : Place → State) → mid.here ≡ ahead.here → ahead.here.at < length ahead.here.tokens → step st (next_token ahead) ≡ Some (to (next_place ahead)) →
    ((st : State) → mid.here.at < length mid.here.tokens → step st (next_token mid) ≡ Some (to (next_place mid)) → Takes st mid true new) → Takes st ahead true new
takes_from st ahead mid new to h lt e told =
    takes_there true st st ahead mid new h refl
    (told st (subst (λ c. c.at < length c.tokens) (sym h) lt)
    (token_there st ahead mid (Some (to (next_place ahead))) h e ∙ ap (λ c. Some (to (place_at c.tokens c.at))) (sym h)))
