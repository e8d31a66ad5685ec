-- Where a table of states tells which piece may stand next, one row of pieces stands for given tokens: no token that may stand at a state begins an
-- expression there, and none that may stand behind an expression goes on with it.
use Rattle.std.proofs.Common.{◌≡◌, ◌⊎◌, inl, inr, ◌∙◌, sym, ap, subst, refl, ℕ, Bool, false, List, [], ◌∷◌, ◌++◌, map, Option, Some, None, append_assoc}
use Rattle.std.specs.Prelude.{IsTrue}
use Rattle.p8_tree.specs.declared.places.Place.{Place}
use Rattle.p8_tree.specs.Expressions.{Tree}
use Rattle.p8_lexer.specs.declared.word.Word.{Word}
use Rattle.p8_lexer.specs.declared.word.Word.TheVariants as words
use Rattle.p8_lexer.specs.Pieces.{Piece, tree, label}
use Rattle.p8_grammar.specs.Lexemes.{Setting, Token, name_in}
use Rattle.p8_grammar.specs.Grammar.{IsExpression}
use Rattle.p8_grammar.proofs.Live.{one_tree}
use Rattle.p8_lines.specs.Tokens.{LineToken, word, lexeme, terms, piece}
use Rattle.p8_lines.proofs.Splits.{Compared, same, beyond, short, compare}
use Rattle.p8_lines.proofs.Ways.{terms_append}
use Rattle.p8_prop.proofs.Reading as said
use Rattle.p8_prop.proofs.Reading.{Spelling}
use Rattle.p8_prop.proofs.Barred.{Bars, Alike, no-longer}

-- what a piece is to the table, where an expression stands by the word behind it, which state follows, and which is one of whole rows
pub record Table (P Q : Type 0) : Type 0 where
  pub part : Piece → P
  pub setting : Q → Word → Setting
  pub go : Q → P → Option Q
  pub ended : Q → Bool

-- from a state on these tokens are a row with these parts
pub data Reads {P Q : Type 0} (d : Table P Q) : Q → List P → List LineToken → Type 0 where
  last : {q r : Q} (t : LineToken) → (word t ≡ words.LineEnd) ⊎ (word t ≡ words.Colon) → d.go q (d.part (piece t)) ≡ Some r → IsTrue (d.ended r)
      → Reads d q (d.part (piece t) ∷ []) (t ∷ [])
  a_token : {q r : Q} {ps : List P} {ts : List LineToken} (t : LineToken) → (word t ≡ words.LineEnd → ⊥) → d.go q (d.part (piece t)) ≡ Some r
      → Reads d r ps ts → Reads d q (d.part (piece t) ∷ ps) (t ∷ ts)
  a_label : {q r : Q} {ps : List P} {ts : List LineToken} {n : List ℕ} (t : LineToken) → name_in (lexeme t) ≡ Some n
      → d.go q (d.part (label n t.place)) ≡ Some r → Reads d r ps ts → Reads d q (d.part (label n t.place) ∷ ps) (t ∷ ts)
  an_expression : {q r : Q} {ps : List P} {ts : List LineToken} {e : Tree} (first : LineToken) (others : List LineToken) (t : LineToken)
      → IsExpression (d.setting q (word t)) e (terms (first ∷ others)) → d.go q (d.part (tree e first.place)) ≡ Some r → Reads d r ps (t ∷ ts)
      → Reads d q (d.part (tree e first.place) ∷ ps) ((first ∷ others) ++ t ∷ ts)

-- what a table has to keep
pub record IsClear {P Q : Type 0} (d : Table P Q) : Type 0 where
  pub token-tree : (q r r' : Q) (t : LineToken) (e : Tree) (p : Place) → d.go q (d.part (piece t)) ≡ Some r → d.go q (d.part (tree e p)) ≡ Some r'
      → (w : Word) (e' : Tree) (us : List LineToken) → IsExpression (d.setting q w) e' (terms (t ∷ us)) → ⊥
  pub token-label : (q r r' : Q) (t : LineToken) (n : List ℕ) (p : Place) → d.go q (d.part (piece t)) ≡ Some r → d.go q (d.part (label n p)) ≡ Some r' → ⊥
  pub label-tree : (q r r' : Q) (n : List ℕ) (p : Place) (e : Tree) (p' : Place) → d.go q (d.part (label n p)) ≡ Some r
      → d.go q (d.part (tree e p')) ≡ Some r' → ⊥
  pub behind-token : (q r r' : Q) (e : Tree) (p : Place) (t : LineToken) → d.go q (d.part (tree e p)) ≡ Some r → d.go r (d.part (piece t)) ≡ Some r'
      → (w : Word) → Bars (d.setting q w) (lexeme t)
  pub behind-label : (q r r' : Q) (e : Tree) (p : Place) (n : List ℕ) (p' : Place) → d.go q (d.part (tree e p)) ≡ Some r
      → d.go r (d.part (label n p')) ≡ Some r' → ⊥
  pub behind-tree : (q r r' : Q) (e : Tree) (p : Place) (e' : Tree) (p' : Place) → d.go q (d.part (tree e p)) ≡ Some r
      → d.go r (d.part (tree e' p')) ≡ Some r' → ⊥
  pub ends : (q r r' : Q) (t : LineToken) (y : P) → word t ≡ words.Colon → d.go q (d.part (piece t)) ≡ Some r → IsTrue (d.ended r) → d.go r y ≡ Some r' → ⊥
  pub alike : (q : Q) (v w : Word) → Alike (d.setting q v) (d.setting q w)

pub record Same {P : Type 0} (ps ps' : List P) (ts ts' : List LineToken) : Type 0 where
  pub parts : ps ≡ ps'
  pub tokens : ts ≡ ts'

pub some-one : {X : Type 0} {x y : X} → Some x ≡ Some y → x ≡ y
some-one h = cc

module _ {P Q : Type 0} (d : Table P Q) (clear : IsClear d) where
  -- a row begins with some part
  begins : {q : Q} {ps : List P} {ts : List LineToken} → Reads d q ps ts → (y : P) × (r : Q) × (d.go q y ≡ Some r)
  begins (last t e g h) = (_, _, g)
  begins (a_token t n g x) = (_, _, g)
  begins (a_label t is g x) = (_, _, g)
  begins (an_expression first others t is g x) = (_, _, g)

  one-state : {q r r' : Q} {t u : LineToken} → t ≡ u → d.go q (d.part (piece t)) ≡ Some r → d.go q (d.part (piece u)) ≡ Some r' → r' ≡ r
  one-state {q = q} firsts g g' = some-one (sym g' ∙ ap (λ (t : LineToken). d.go q (d.part (piece t))) (sym firsts) ∙ g)

  -- where a row ends, no other one goes on
  ends-here : {q r r' : Q} {ps : List P} {ts : List LineToken} (t u : LineToken) → t ≡ u → (word t ≡ words.LineEnd) ⊎ (word t ≡ words.Colon)
      → d.go q (d.part (piece t)) ≡ Some r → IsTrue (d.ended r) → (word u ≡ words.LineEnd → ⊥) → d.go q (d.part (piece u)) ≡ Some r' → Reads d r' ps ts → ⊥
  ends-here t u firsts (inl e) g h n g' x = n (ap word (sym firsts) ∙ e)
  ends-here {q = q} {r = r} {r' = r'} t u firsts (inr e) g h n g' x =
      let it = begins x in
      clear.ends q r it.1 t it.0 e g h (subst (λ (r : Q). d.go r it.0 ≡ Some it.1) (one-state firsts g g') it.2)

  no-tree : {q r r' : Q} {e : Tree} (t first : LineToken) (others : List LineToken) (w : Word) → t ≡ first → d.go q (d.part (piece t)) ≡ Some r
      → IsExpression (d.setting q w) e (terms (first ∷ others)) → d.go q (d.part (tree e first.place)) ≡ Some r' → ⊥
  no-tree {q = q} {r = r} {r' = r'} {e = e} t first others w firsts g is g' =
      clear.token-tree q r r' t e first.place g g' w e others (subst (λ (u : LineToken). IsExpression (d.setting q w) e (terms (u ∷ others))) (sym firsts) is)

  -- a token behind an expression doesn't go on with it
  next : {q r : Q} {ps : List P} {ts : List LineToken} {e : Tree} {p : Place} (t : LineToken) (rest : List LineToken) → d.go q (d.part (tree e p)) ≡ Some r
      → Reads d r ps ts → ts ≡ t ∷ rest → (w : Word) → Bars (d.setting q w) (lexeme t)
  next {q = q} {r = r} {e = e} {p = p} t rest g (last {r = r'} u e' g' h) split w =
      let firsts : u ≡ t = cc in subst (λ (t : LineToken). Bars (d.setting q w) (lexeme t)) firsts (clear.behind-token q r r' e p u g g' w)
  next {q = q} {r = r} {e = e} {p = p} t rest g (a_token {r = r'} u n g' x) split w =
      let firsts : u ≡ t = cc in subst (λ (t : LineToken). Bars (d.setting q w) (lexeme t)) firsts (clear.behind-token q r r' e p u g g' w)
  next {q = q} {r = r} {e = e} {p = p} t rest g (a_label {r = r'} {n = n} u is g' x) split w = absurd (clear.behind-label q r r' e p n u.place g g')
  next {q = q} {r = r} {e = e} {p = p} t rest g (an_expression {r = r'} {e = e'} first others u is g' x) split w =
      absurd (clear.behind-tree q r r' e p e' first.place g g')

  -- an expression, and what stands behind it
  record Read (q : Q) (e : Tree) (first : LineToken) (others : List LineToken) (t : LineToken) (ps : List P) (ts : List LineToken) : Type 0 where
    state : Q
    is : IsExpression (d.setting q (word t)) e (terms (first ∷ others))
    goes : d.go q (d.part (tree e first.place)) ≡ Some state
    rest : Reads d state ps (t ∷ ts)

  longer : {q : Q} {e e' : Tree} {first first' t t' u : LineToken} {others others' ts ts' : List LineToken} {ps ps' : List P} (more : List LineToken)
      → Read q e first others t ps ts
      → Read q e' first' others' t' ps' ts' → first ∷ others ≡ (first' ∷ others') ++ u ∷ more → t' ≡ u → ⊥
  longer {q = q} {e = e} {first' = first'} {t = t} {t' = t'} {u = u} {others' = others'} {ts' = ts'} more x y split firsts =
      no-longer (d.setting q (word t')) (d.setting q (word t)) (terms (first' ∷ others')) (terms more) u.place (lexeme u) (clear.alike q (word t') (word t))
      (subst (λ (u : LineToken). Bars (d.setting q (word t)) (lexeme u)) firsts (next t' ts' y.goes y.rest refl (word t))) y.is
      (subst (λ (l : List Token). IsExpression (d.setting q (word t)) e l) (ap terms split ∙ terms_append (first' ∷ others') (u ∷ more)) x.is)

  two : {q : Q} {e e' : Tree} {first first' t t' : LineToken} {others others' ts ts' : List LineToken} {ps ps' : List P} (rest rest' : List LineToken)
      (x : Read q e first others t ps ts) → Read q e' first' others' t' ps' ts'
      → ((ps' : List P) (vs : List LineToken) → Reads d x.state ps' vs → (t ∷ ts) ++ rest ≡ vs ++ rest' → Same ps ps' (t ∷ ts) vs)
      → ((first ∷ others) ++ t ∷ ts) ++ rest ≡ ((first' ∷ others') ++ t' ∷ ts') ++ rest'
      → Same (d.part (tree e first.place) ∷ ps) (d.part (tree e' first'.place) ∷ ps') ((first ∷ others) ++ t ∷ ts) ((first' ∷ others') ++ t' ∷ ts')
  two {q = q} {e = e} {e' = e'} {first = first} {first' = first'} {t = t} {t' = t'} {others = others} {others' = others'} {ts = ts} {ts' = ts'} {ps = ps}
      {ps' = ps'} rest rest' x y later split =
      decide (compare (first ∷ others) (t ∷ (ts ++ rest)) (first' ∷ others') (t' ∷ (ts' ++ rest'))
      (sym (append_assoc (first ∷ others) (t ∷ ts) rest) ∙ split ∙ append_assoc (first' ∷ others') (t' ∷ ts') rest'))
    where
      decide : Compared (first ∷ others) (t ∷ (ts ++ rest)) (first' ∷ others') (t' ∷ (ts' ++ rest'))
          → Same (d.part (tree e first.place) ∷ ps) (d.part (tree e' first'.place) ∷ ps') ((first ∷ others) ++ t ∷ ts) ((first' ∷ others') ++ t' ∷ ts')
      decide (same a b) =
          let firsts : first ≡ first' = cc in
          let lasts : t ≡ t' = cc in
          let mine : IsExpression (d.setting q (word t')) e (terms (first' ∷ others')) =
          subst (λ (l : List LineToken). IsExpression (d.setting q (word t')) e (terms l)) a
          (subst (λ (t : LineToken). IsExpression (d.setting q (word t)) e (terms (first ∷ others))) lasts x.is) in
          let trees : e ≡ e' = one_tree (d.setting q (word t')) (terms (first' ∷ others')) e e' mine y.is in
          let heads : d.part (tree e first.place) ≡ d.part (tree e' first'.place) = λ i. d.part (tree (trees i) (firsts i).place) in
          let states : y.state ≡ x.state = some-one (sym y.goes ∙ ap (d.go q) (sym heads) ∙ x.goes) in
          let z = later ps' (t' ∷ ts') (subst (λ (r : Q). Reads d r ps' (t' ∷ ts')) states y.rest) b in
          record { parts = λ i. heads i ∷ z.parts i; tokens = λ i. a i ++ z.tokens i }
      decide (beyond u more a b) = let next : t' ≡ u = cc in absurd (longer more x y a next)
      decide (short u more a b) = let next : t ≡ u = cc in absurd (longer more y x a next)

  pub one : {q : Q} {ps ps' : List P} {ts ts' : List LineToken} (rest rest' : List LineToken) → Reads d q ps ts → Reads d q ps' ts' → ts ++ rest ≡ ts' ++ rest'
      → Same ps ps' ts ts'
  one rest rest' (last t e g h) (last u f g' h') split =
      let firsts : t ≡ u = cc in record { parts = λ i. d.part (piece (firsts i)) ∷ []; tokens = λ i. firsts i ∷ [] }
  one rest rest' (last t e g h) (a_token u n g' x) split = let firsts : t ≡ u = cc in absurd (ends-here t u firsts e g h n g' x)
  one {q = q} rest rest' (last {r = r} t e g h) (a_label {r = r'} {n = n} u is g' x) split = absurd (clear.token-label q r r' t n u.place g g')
  one rest rest' (last t e g h) (an_expression first others u is g' x) split =
      let firsts : t ≡ first = cc in
      absurd (no-tree t first others (word u) firsts g is g')
  one rest rest' (a_token t n g x) (last u e g' h) split = let firsts : u ≡ t = cc in absurd (ends-here u t firsts e g' h n g x)
  one {q = q} rest rest' (a_token {ps = ps} t n g x) (a_token {ps = ps'} {ts = ts'} u m g' y) split =
      let firsts : t ≡ u = cc in
      let z = one rest rest' x (subst (λ (r : Q). Reads d r ps' ts') (one-state firsts g g') y) cc in
      record { parts = λ i. d.part (piece (firsts i)) ∷ z.parts i; tokens = λ i. firsts i ∷ z.tokens i }
  one {q = q} rest rest' (a_token {r = r} t n g x) (a_label {r = r'} {n = l} u is g' y) split = absurd (clear.token-label q r r' t l u.place g g')
  one rest rest' (a_token t n g x) (an_expression first others u is g' y) split =
      let firsts : t ≡ first = cc in absurd (no-tree t first others (word u) firsts g is g')
  one {q = q} rest rest' (a_label {r = r'} {n = n} u is g' x) (last {r = r} t e g h) split = absurd (clear.token-label q r r' t n u.place g g')
  one {q = q} rest rest' (a_label {r = r'} {n = l} u is g' y) (a_token {r = r} t n g x) split = absurd (clear.token-label q r r' t l u.place g g')
  one {q = q} rest rest' (a_label {ps = ps} {n = n} t is g x) (a_label {ps = ps'} {ts = ts'} {n = m} u is' g' y) split =
      let firsts : t ≡ u = cc in
      let names : n ≡ m = some-one (sym is ∙ ap (λ (t : LineToken). name_in (lexeme t)) firsts ∙ is') in
      let heads : d.part (label n t.place) ≡ d.part (label m u.place) = λ i. d.part (label (names i) (firsts i).place) in
      let z = one rest rest' x (subst (λ (r : Q). Reads d r ps' ts') (some-one (sym g' ∙ ap (d.go q) (sym heads) ∙ g)) y) cc in
      record { parts = λ i. heads i ∷ z.parts i; tokens = λ i. firsts i ∷ z.tokens i }
  one {q = q} rest rest' (a_label {r = r} {n = n} t is g x) (an_expression {r = r'} {e = e} first others u is' g' y) split =
      absurd (clear.label-tree q r r' n t.place e first.place g g')
  one rest rest' (an_expression first others u is g' x) (last t e g h) split =
      let firsts : t ≡ first = cc in
      absurd (no-tree t first others (word u) firsts g is g')
  one rest rest' (an_expression first others u is g' y) (a_token t n g x) split =
      let firsts : t ≡ first = cc in absurd (no-tree t first others (word u) firsts g is g')
  one {q = q} rest rest' (an_expression {r = r'} {e = e} first others u is' g' y) (a_label {r = r} {n = n} t is g x) split =
      absurd (clear.label-tree q r r' n t.place e first.place g g')
  one rest rest' (an_expression first others t is g x) (an_expression first' others' t' is' g' y) split =
      two rest rest' (record { state = _; is = is; goes = g; rest = x }) (record { state = _; is = is'; goes = g'; rest = y })
      (λ ps' vs z s. one rest rest' x z s) split

-- ---- rows of the sentence

abbrev pub goes : {Q : Type 0} → (Q → Bool) → Option Q → Bool
goes f None = false
goes f (Some r) = f r

-- the table leads along these parts to a whole row
abbrev pub run : {P Q : Type 0} → Table P Q → Q → List P → Bool
run d q [] = d.ended q
run d q (x ∷ ps) = goes (λ r. run d r ps) (d.go q x)

pub gone : {Q : Type 0} (f : Q → Bool) (o : Option Q) → IsTrue (goes f o) → (r : Q) × (o ≡ Some r) × IsTrue (f r)
gone f None h = absurd cc
gone f (Some r) h = (r, refl, h)

module _ {P Q : Type 0} (d : Table P Q) (spelled : Spelling) (Known : Q → List Word → Type 0)
    (fits : (q r : Q) (before : List Word) (e : Tree) (p : Place) (w : Word) → Known q before → d.go q (d.part (tree e p)) ≡ Some r
    → spelled before w ≡ d.setting q w)
    (by-token : (q r : Q) (before : List Word) (t : LineToken) → Known q before → d.go q (d.part (piece t)) ≡ Some r → Known r (word t ∷ before))
    (by-label : (q r : Q) (before : List Word) (n : List ℕ) (p : Place) → Known q before → d.go q (d.part (label n p)) ≡ Some r → Known r (words.Name ∷ before))
    (by-tree : (q r : Q) (before : List Word) (e : Tree) (p : Place) → Known q before → d.go q (d.part (tree e p)) ≡ Some r → Known r before) where
  pub reads : {before : List Word} {row : List Piece} {ts : List LineToken} → said.Row spelled before row ts → (q : Q) → Known q before
      → IsTrue (run d q (map d.part row)) → Reads d q (map d.part row) ts
  reads (said.last t e) q known h = let it = gone (λ r. run d r []) (d.go q (d.part (piece t))) h in last t e it.1 it.2
  reads {before = before} (said.a_token {row = row} t n x) q known h =
      let it = gone (λ r. run d r (map d.part row)) (d.go q (d.part (piece t))) h in a_token t n it.1 (reads x it.0 (by-token q it.0 before t known it.1) it.2)
  reads {before = before} (said.a_label {row = row} {n = n} t is x) q known h =
      let it = gone (λ r. run d r (map d.part row)) (d.go q (d.part (label n t.place))) h in
      a_label t is it.1 (reads x it.0 (by-label q it.0 before n t.place known it.1) it.2)
  reads {before = before} (said.an_expression {row = row} {e = e} first others t is x) q known h =
      let it = gone (λ r. run d r (map d.part row)) (d.go q (d.part (tree e first.place))) h in
      an_expression first others t
      (subst (λ (s : Setting). IsExpression s e (terms (first ∷ others))) (fits q it.0 before e first.place (word t) known it.1) is) it.1
      (reads x it.0 (by-tree q it.0 before e first.place known it.1) it.2)
