-- What holds of each line from a state on, where it holds at the line's end and each arrow keeps it.
use Rattle.std.proofs.Common.{◌≡◌, List, [], ◌∷◌, map, Option, Some, None, Bool, true, false, refl, sym, subst}
use Rattle.std.specs.Prelude.{IsTrue, if◌then◌else◌, option_map}
use Rattle.p8_tree.specs.declared.places.Place.{Place}
use Rattle.p8_tree.specs.Expressions.{Tree, node, Var, Named, no_index}
use Rattle.p8_grammar.specs.Lexemes as lexemes
use Rattle.p8_grammar.specs.Lexemes.{Setting, Lexeme, is_value}
use Rattle.p8_grammar.specs.Grammar.{IsExpression, operand, variable, named, plain_name, result_word, result_name, nothing, a_word, a_reserved_word}
use Rattle.p8_grammar.proofs.Live.{one_tree}
use Rattle.p8_lexer.specs.Pieces.{Piece, tree}
use Rattle.p8_lines.specs.declared.sign.Sign.{Sign}
use Rattle.p8_lines.specs.declared.arrow.Arrow.{Arrow}
use Rattle.p8_lines.specs.declared.state.LineState.{LineState}
use Rattle.p8_lines.specs.declared.state.LineState.TheVariants as state
use Rattle.p8_lines.specs.Signs.{Matches}
use Rattle.p8_lines.specs.Diagram.{Phrase, choices, behind_in}
use Rattle.p8_lines.specs.Tokens as tokens
use Rattle.p8_lines.specs.Tokens.{LineToken, lexeme, terms, string_length, piece}
use Rattle.p8_lines.specs.Lines.{Follows, here, further, is_name_word, is_name, behind, Row, over, token, phrase}
use Rattle.p8_statements.specs.Statements.{counter}
use Rattle.p8_blocks.proofs.Closed.{is_closed, own_next, own_behind}
use Rattle.p8_blocks.proofs.Pieces.{is_named, unnamed, own_piece}

-- a row has a value
pub record Has {V : Type 0} (o : Option V) : Type 0 where
  pub value : V
  pub is : o ≡ Some value

pub found : {V : Type 0} (v : V) → Has (Some v)
found v = record { value = v; is = refl }

pub mapped : {A B : Type 0} (f : A → B) {o : Option A} → Has o → Has (option_map f o)
mapped f h = subst (λ o. Has (option_map f o)) (sym h.is) (found (f h.value))

-- an expression of one name is a counter
name_tree : (s : Setting) (p : Place) (x : Lexeme) (e : Tree) → IsTrue (is_value s) → is_named x ≡ false → IsTrue (is_name_word x) → IsExpression s e (lexemes.token p x ∷ []) → Has (counter e)
name_tree s p (lexemes.name n) e v u h r = subst (λ e. Has (counter e)) (one_tree s (lexemes.token p (lexemes.name n) ∷ []) (node p (Var (Named n no_index p))) e (operand (variable v (named plain_name)) (a_word nothing)) r) (found (n, p))
name_tree s p lexemes.method_result e v u h r = subst (λ e. Has (counter e)) (one_tree s (lexemes.token p lexemes.method_result ∷ []) (node p (Var (Named result_name no_index p))) e (operand (variable v (named result_word)) (a_word nothing)) r) (found (result_name, p))
name_tree s p (lexemes.reserved m lexemes.method_result) e v u h r = subst (λ e. Has (counter e)) (one_tree s (lexemes.token p (lexemes.reserved m lexemes.method_result) ∷ []) (node p (Var (Named result_name no_index p))) e (operand (variable v (named result_word)) (a_reserved_word m refl nothing)) r) (found (result_name, p))
name_tree s p (lexemes.reserved m (lexemes.name n)) e v u h r = absurd cc
name_tree s p x e v u h r = absurd cc

-- what is known of a value after which stands what may follow a name alone
abbrev pub Known : (value alone : Bool) → Tree → Type 0
Known true true e = Has (counter e)
Known true false e = Unit {0}
Known false alone e = Unit {0}

known : (s : Setting) (e : Tree) (first : LineToken) (others : List LineToken) → IsExpression s e (terms (first ∷ others)) → Known (is_value s) (is_name (first ∷ others)) e
known s e first [] r = go (is_value s) refl (is_name_word (lexeme first)) refl
  where
    go : (v : Bool) → is_value s ≡ v → (b : Bool) → is_name_word (lexeme first) ≡ b → Known v b e
    go true v true h = name_tree s first.place (lexeme first) e v (unnamed first) h r
    go true v false h = tt
    go false v b h = tt
known s e first (t ∷ ts) r = nothing_known (is_value s)
  where
    nothing_known : (v : Bool) → Known v false e
    nothing_known true = tt
    nothing_known false = tt

abbrev is_value_in : Option Phrase → Bool
is_value_in None = true
is_value_in (Some h) = is_value h.setting

-- What these arrows owe: where the goal holds of the parts at the state to which one of them leads, this holds of each
-- part that a token of that arrow is.
abbrev pub Owes : {P : Type 0} → (Sign → (P → Type 0) → Type 0) → (LineState → List P → Type 0) → List P → (P → Type 0) → List Arrow → Type 0
Owes Each Goal ps R [] = Unit {0}
Owes Each Goal ps R (a ∷ others) = (Goal a.to ps → Each a.sign R) × Owes Each Goal ps R others

-- with an expression before that part
abbrev pub Behind : {P : Type 0} → (Piece → P) → (LineState → List P → Type 0) → LineState → List P → (value alone : Bool) → P → Type 0
Behind part Goal q ps v b x = (e : Tree) (p : Place) → Known v b e → Goal q (part (tree e p) ∷ x ∷ ps)

abbrev pub OwesBehind : {P : Type 0} → (Piece → P) → (Sign → (P → Type 0) → Type 0) → (LineState → List P → Type 0) → LineState → List P → Option Phrase → Type 0
OwesBehind part Each Goal q ps None = Unit {0}
OwesBehind part Each Goal q ps (Some h) = Owes Each Goal ps (Behind part Goal q ps (is_value h.setting) true) h.behind_name × Owes Each Goal ps (Behind part Goal q ps (is_value h.setting) false) h.behind_other

-- what a state owes
pub record Keeps {P : Type 0} (part : Piece → P) (Each : Sign → (P → Type 0) → Type 0) (Goal : LineState → List P → Type 0) (q : LineState) (ps : List P) : Type 0 where
  pub arrows : Owes Each Goal ps (λ x. Goal q (x ∷ ps)) (choices q).arrows
  pub phrase : OwesBehind part Each Goal q ps (choices q).phrase

-- what the arrows after an expression owe, be it a name or not
abbrev pub Outs : {P : Type 0} → (Piece → P) → (Sign → (P → Type 0) → Type 0) → (LineState → List P → Type 0) → LineState → List P → Bool → Type 0
Outs part Each Goal q ps b = Owes Each Goal ps (Behind part Goal q ps (is_value_in (choices q).phrase) b) (behind_in (choices q).phrase)

pub both : {P : Type 0} (part : Piece → P) (Each : Sign → (P → Type 0) → Type 0) (Goal : LineState → List P → Type 0) (q : LineState) (ps : List P) → ((b : Bool) → Outs part Each Goal q ps b) → Outs part Each Goal q ps true × Outs part Each Goal q ps false
both part Each Goal q ps x = (x true, x false)

module _ {P : Type 0} (part : Piece → P) (Each : Sign → (P → Type 0) → Type 0) (each : (s : Sign) (R : P → Type 0) (t : LineToken) → Matches s (tokens.word t) (string_length t) → Each s R → R (part (piece t))) where
  by_arrow : (Goal : LineState → List P → Type 0) (ps : List P) (R : P → Type 0) {l : List Arrow} {t : LineToken} {r : LineState} → Follows l t r → Owes Each Goal ps R l → Goal r ps → R (part (piece t))
  by_arrow Goal ps R (here {a = a} {t = t} is) owes y = each a.sign R t is (owes.0 y)
  by_arrow Goal ps R (further n f) owes y = by_arrow Goal ps R f owes.1 y

  behind_phrase : (Goal : LineState → List P → Type 0) (q : LineState) (ps : List P) (h : Phrase) (us : List LineToken) {t : LineToken} {r : LineState} → Follows (behind h us) t r → OwesBehind part Each Goal q ps (Some h) → Goal r ps → (e : Tree) (p : Place) → Known (is_value h.setting) (is_name us) e → Goal q (part (tree e p) ∷ part (piece t) ∷ ps)
  behind_phrase Goal q ps h us {t = t} {r = r} f owes y = go (is_name us) f
    where
      go : (b : Bool) → Follows (if b then h.behind_name else h.behind_other) t r → (e : Tree) (p : Place) → Known (is_value h.setting) b e → Goal q (part (tree e p) ∷ part (piece t) ∷ ps)
      go true f = by_arrow Goal ps (Behind part Goal q ps (is_value h.setting) true) f owes.0 y
      go false f = by_arrow Goal ps (Behind part Goal q ps (is_value h.setting) false) f owes.1 y

  module _ (own : LineState → Bool) (closed : (q : LineState) → IsTrue (is_closed own q)) (labels : (own state.DatLabel ≡ false) × (own state.CallLocal ≡ false)) (Goal : LineState → List P → Type 0) (at_end : Goal state.End []) (keeps : (q : LineState) (ps : List P) → IsTrue (own q) → Keeps part Each Goal q ps) where
    pub holds : {q : LineState} {row : List Piece} {ts : List LineToken} → Row q row ts → IsTrue (own q) → Goal q (map part row)
    holds over h = at_end
    holds (token {q = q} {r = r} {row = row} {t = t} f y) h =
        subst (λ x. Goal q (part x ∷ map part row)) (sym (own_piece own labels q t h)) (by_arrow Goal (map part row) (λ x. Goal q (x ∷ map part row)) f ((keeps q (map part row) h).arrows) (holds y (own_next own closed q r t f h)))
    holds (phrase {q = q} {r = r} {h = p} {e = e} {row = row} {first = first} {t = t} others some is f y) h =
        behind_phrase Goal q (map part row) p (first ∷ others) f (subst (λ o. OwesBehind part Each Goal q (map part row) o) some ((keeps q (map part row) h).phrase)) (holds y (own_behind own closed q r p (first ∷ others) t some f h)) e first.place (known p.setting e first others is)
