-- What begins an expression is ended by tokens that a source may have.
use Rattle.std.proofs.Common.{◌≡◌, ℕ, ◌<◌, ◌≤◌, List, [], ◌∷◌, ◌++◌, Bool, true, false, Option, Some, None, refl, sym, ap, ◌∙◌, subst, append_assoc, arith}
use Rattle.std.specs.Prelude.{not}
use Rattle.p8_tree.specs.declared.places.Place.{Place}
use Rattle.p8_tree.specs.Expressions.{Tree, node, Number, Var, Named, no_index}
use Rattle.p8_lexer.specs.declared.token.TokenKind.TheVariants as kind
use Rattle.p8_lexer.specs.Words.{symbols, reserved_words, every_word}
use Rattle.p8_grammar.specs.Lexemes as lexemes
use Rattle.p8_grammar.specs.Lexemes.{Setting, is_value, Mark, left_parenthesis, right_parenthesis, left_bracket, right_bracket, comma, colon, dot, dot_dot, hash, backslash, equal, Lexeme, number, name, mark, token}
use Rattle.p8_grammar.specs.Grammar.{a_number, name_alone, operand, nothing, a_word, IsExpression, IsFront}
use Rattle.p8_grammar.specs.Heights as heights
use Rattle.p8_grammar.specs.Heights.{height}
use Rattle.p8_grammar.specs.Machine.{fresh, whole_in, accepted, accept, start}
use Rattle.p8_grammar.proofs.FormsRead.{whole_tree}
use Rattle.p8_grammar.proofs.Complete.{complete}
use Rattle.p8_grammar.proofs.Live as live
use Rattle.p8_grammar.proofs.Live.{IsEnding, AreEndings, front_ends}
use Rattle.p8_grammar.proofs.Readings.{fronts, shows}
use Rattle.p8_expr.specs.Words.{lexeme_of_word}
use Rattle.p8_lines.specs.Tokens.{LineToken, term, terms}
use Rattle.p8_lines.proofs.Ways.{terms_append}

record Real (t : lexemes.Token) : Type 0 where
  is : LineToken
  same : term is ≡ t

real_mark : (p : Place) (m : Mark) → Real (token p (mark m))
unfolding symbols lexeme_of_word
real_mark p left_parenthesis = record { is = record { place = p; text = []; kind = kind.Symbol 58 }; same = refl }
real_mark p right_parenthesis = record { is = record { place = p; text = []; kind = kind.Symbol 59 }; same = refl }
real_mark p left_bracket = record { is = record { place = p; text = []; kind = kind.Symbol 60 }; same = refl }
real_mark p right_bracket = record { is = record { place = p; text = []; kind = kind.Symbol 61 }; same = refl }
real_mark p comma = record { is = record { place = p; text = []; kind = kind.Symbol 62 }; same = refl }
real_mark p colon = record { is = record { place = p; text = []; kind = kind.Symbol 63 }; same = refl }
real_mark p dot = record { is = record { place = p; text = []; kind = kind.Symbol 64 }; same = refl }
real_mark p dot_dot = record { is = record { place = p; text = []; kind = kind.Symbol 65 }; same = refl }
real_mark p hash = record { is = record { place = p; text = []; kind = kind.Symbol 67 }; same = refl }
real_mark p backslash = record { is = record { place = p; text = []; kind = kind.Symbol 69 }; same = refl }
real_mark p equal = record { is = record { place = p; text = []; kind = kind.Symbol 66 }; same = refl }

real : (p : Place) {x : Lexeme} → IsEnding x → Real (token p x)
unfolding every_word symbols reserved_words lexeme_of_word
real p live.a_name = record { is = record { place = p; text = 65 ∷ []; kind = kind.Name }; same = refl }
real p live.a_number = record { is = record { place = p; text = 48 ∷ []; kind = kind.Number 0 }; same = refl }
real p live.a_string = record { is = record { place = p; text = 34 ∷ 65 ∷ 34 ∷ []; kind = kind.Str }; same = refl }
real p live.a_change = record { is = record { place = p; text = []; kind = kind.Symbol 0 }; same = refl }
real p live.a_size = record { is = record { place = p; text = live.byte_word; kind = kind.Name }; same = refl }
real p (live.a_mark m) = real_mark p m

pub real_all : {ts : List lexemes.Token} → AreEndings ts → (us : List LineToken) × (terms us ≡ ts)
real_all live.none = ([], refl)
real_all (live.another {p = p} x y) =
    let r = real p x in
    let rs = real_all y in
    (r.is ∷ rs.0, λ i. r.same i ∷ rs.1 i)

-- an expression that goes on so
pub record Ended (s : Setting) (ts : List LineToken) : Type 0 where
  pub rest : List LineToken
  pub tree : Tree
  pub reads : IsExpression s tree (terms (ts ++ rest))

pub ended : (s : Setting) (ts : List LineToken) → IsFront s (terms ts) → Ended s ts
ended s ts f =
    let y = (front_ends s (terms ts) f).1 in
    let r = real_all y.endings in
    record { rest = r.0; tree = y.top; reads = subst (IsExpression s y.top) (ap (λ l. terms ts ++ l) (sym r.1) ∙ sym (terms_append ts r.0)) y.reads }

-- no tokens are an expression, and they begin one that isn't high
pub not_nothing : (s : Setting) (e : Tree) → ¬ IsExpression s e []
not_nothing s e x = let c = complete s x in let same = c.1 in let is : accept (start s) ≡ Some e = (let z : c.0 ≡ start s = cc in ap accept (sym z) ∙ c.2) in go (whole_in s fresh) refl is
  where
    go : (o : Option Tree) → whole_in s fresh ≡ o → accepted o [] ≡ Some e → ⊥
    go None h is = cc
    go (Some t) h is = let y = whole_tree s fresh t h in cc

-- some expression, and some action, has height 1
low_front : (s : Setting) → (ts : List lexemes.Token) × (e : Tree) × IsExpression s e ts × (height e ≡ 1)
low_front s = go (is_value s) refl
  where
    p : Place
    p = record { line = 1; column = 1 }

    go : (b : Bool) → is_value s ≡ b → (ts : List lexemes.Token) × (e : Tree) × IsExpression s e ts × (height e ≡ 1)
    go true d = (token p (number 0) ∷ [], node p (Number 0), operand (a_number d) (a_word nothing), refl)
    go false d = (token p (name (65 ∷ [])) ∷ [], node p (Var (Named (65 ∷ []) no_index p)), operand (name_alone (ap not d)) (a_word nothing), refl)

pub nothing_begins : (s : Setting) → IsFront s []
nothing_begins s = let x = low_front s in (x.0, x.1, x.2)

pub nothing_high : (s : Setting) (n : ℕ) → 0 < n → ¬ heights.IsTooHigh s n []
nothing_high s n lt high =
    let x = low_front s in
    let h : n < height x.1 = high x.0 x.1 x.2 in
    omega (arith, h, lt, x.3)

-- what is too high stays so
pub stays_high : (s : Setting) (n : ℕ) (us vs : List LineToken) → heights.IsTooHigh s n (terms us) → heights.IsTooHigh s n (terms (us ++ vs))
stays_high s n us vs high rest e x = high (terms vs ++ rest) e (subst (IsExpression s e) (ap (λ l. l ++ rest) (terms_append us vs) ∙ append_assoc (terms us) (terms vs) rest) x)

-- an expression that isn't higher isn't too high
pub not_high : (s : Setting) (n : ℕ) (us : List LineToken) (e : Tree) → IsExpression s e (terms us) → height e ≤ n → ¬ heights.IsTooHigh s n (terms us)
not_high s n us e x le high = let lt = (shows s n (terms us) e x).0 high in omega (arith, lt, le)

-- the first tokens of what begins an expression
pub front_of : (s : Setting) (us vs : List LineToken) → IsFront s (terms (us ++ vs)) → IsFront s (terms us)
front_of s us vs f = fronts s (terms us) (terms vs) (subst (IsFront s) (terms_append us vs) f)

pub front_with : (s : Setting) (us : List LineToken) (t : LineToken) (vs : List LineToken) → IsFront s (terms (us ++ t ∷ vs)) → IsFront s (terms us ++ term t ∷ [])
front_with s us t vs f = fronts s (terms us ++ term t ∷ []) (terms vs) (subst (IsFront s) (terms_append us (t ∷ vs) ∙ sym (append_assoc (terms us) (term t ∷ []) (terms vs))) f)
