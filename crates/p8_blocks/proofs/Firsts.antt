-- With which words lines begin.
use Rattle.std.proofs.Common.{◌≡◌, ℕ, List, [], ◌∷◌, Some, None, Bool, true, false, refl, sym, ap, ◌∙◌, subst}
use Rattle.std.specs.Prelude.{IsTrue, ◌≢◌, if◌then◌else◌, option_and_then}
use Rattle.p8_lexer.specs.declared.word.Word.{Word}
use Rattle.p8_lexer.specs.declared.word.Word.TheVariants as word_case
use Rattle.p8_grammar.specs.Lexemes.{Setting}
use Rattle.p8_grammar.specs.Grammar.{IsFront}
use Rattle.p8_grammar.specs.Machine.{fresh, step, walk, start}
use Rattle.p8_grammar.proofs.Labels.{other_step}
use Rattle.p8_grammar.proofs.Live.{dead}
use Rattle.p8_expr.specs.Words.{lexeme_of_word}
use Rattle.p8_lexer.specs.Pieces.{Piece}
use Rattle.p8_lines.specs.declared.sign.Sign.{Sign}
use Rattle.p8_lines.specs.declared.sign.Sign.TheVariants as sign
use Rattle.p8_lines.specs.declared.state.LineState.{LineState}
use Rattle.p8_lines.specs.declared.state.LineState.TheVariants as state
use Rattle.p8_lines.specs.Signs.{is_size, is_condition, takes_two, is_on_memory, takes_one, Matches}
use Rattle.p8_lines.specs.Diagram.{Phrase, choices}
use Rattle.p8_lines.specs.Tokens.{LineToken, word, lexeme, term, string_length}
use Rattle.p8_lines.specs.Lines as line_specs
use Rattle.p8_lines.specs.Lines.{Follows, Row, over}
use Rattle.p8_lines.proofs.Arrows.{all_good, taken}
use Rattle.p8_lines.proofs.Lexemes.{IsOther, other_word}
use Rattle.p8_lines.proofs.Ways.{begins}
use Rattle.p8_blocks.specs.Values.{begins_line}
use Rattle.p8_blocks.specs.Reading.{is_block_word}
use Rattle.p8_blocks.specs.Files.{is_chain_word, is_loop_end_word}
use Rattle.p8_blocks.proofs.Inside.{other_plain}

-- The first token of a line takes an arrow, or begins an expression.
pub data Taken (q : LineState) (t : LineToken) : Type 0 where
  by_arrow : {r : LineState} → Follows (choices q).arrows t r → Taken q t
  by_phrase : (h : Phrase) → (choices q).phrase ≡ Some h → IsFront h.setting (term t ∷ []) → Taken q t

pub first_taken : {q : LineState} {row : List Piece} {ts : List LineToken} (t : LineToken) (us : List LineToken) → Row q row ts → ts ≡ t ∷ us → Taken q t
first_taken t us over e = absurd cc
first_taken t us (line_specs.token {q = q} {r = r} {t = first} f x) e =
    let firsts : first ≡ t = cc in
    by_arrow (subst (λ t. Follows (choices q).arrows t r) firsts f)
first_taken t us (line_specs.phrase {q = q} {h = h} {e = tree} {first = first} others p x f y) e =
    let firsts : first ≡ t = cc in
    by_phrase h p (subst (λ t. IsFront h.setting (term t ∷ [])) firsts (begins h.setting tree (first ∷ []) others x))

-- The end of a line, the words that begin blocks, and those that go on with a chain or end a loop.

abbrev is_end : Word → Bool
is_end word_case.LineEnd = true
is_end w = false

abbrev pub is_apart : Word → Bool
is_apart w = if is_end w then true else if is_block_word w then true else if is_chain_word w then true else is_loop_end_word w

pub record Inside (w : Word) : Type 0 where
  pub not_end : w ≢ word_case.LineEnd
  pub not_head : is_block_word w ≡ false
  pub not_chain : is_chain_word w ≡ false
  pub not_loop_end : is_loop_end_word w ≡ false

inside : (w : Word) → is_apart w ≡ false → Inside w
inside w h = go (is_end w) refl (is_block_word w) refl (is_chain_word w) refl (is_loop_end_word w) refl h
  where
    go : (a : Bool) → is_end w ≡ a → (b : Bool) → is_block_word w ≡ b → (c : Bool) → is_chain_word w ≡ c → (d : Bool) → is_loop_end_word w ≡ d → (if a then true else if b then true else if c then true else d) ≡ false → Inside w
    go false a false b false c false d h = record { not_end = λ e. (let z = sym (ap is_end e) ∙ a in cc); not_head = b; not_chain = c; not_loop_end = d }
    go true a x b y c z d h = absurd cc
    go false a true b y c z d h = absurd cc
    go false a false b true c z d h = absurd cc
    go false a false b false c true d h = absurd cc

-- no word of these signs is one of them

abbrev apart_in : Bool → Bool → Bool
apart_in is apart = if is then apart else false

not_apart : (is apart : Bool) → apart_in is apart ≡ false → IsTrue is → apart ≡ false
not_apart true apart h y = h
not_apart false apart h y = absurd cc

sizes : (w : Word) → apart_in (is_size w) (is_apart w) ≡ false
sizes word_case.PlusPlus = refl
sizes w = refl

conditions : (w : Word) → apart_in (is_condition w) (is_apart w) ≡ false
conditions word_case.PlusPlus = refl
conditions w = refl

pairs : (w : Word) → apart_in (takes_two w) (is_apart w) ≡ false
pairs word_case.PlusPlus = refl
pairs w = refl

memory : (w : Word) → apart_in (is_on_memory w) (is_apart w) ≡ false
memory word_case.PlusPlus = refl
memory w = refl

singles : (w : Word) → apart_in (takes_one w) (is_apart w) ≡ false
singles word_case.PlusPlus = refl
singles w = refl

abbrev stays_inside : Sign → Bool
stays_inside (sign.Word w) = if is_apart w then false else true
stays_inside sign.Size = true
stays_inside sign.Condition = true
stays_inside sign.TwoOperands = true
stays_inside sign.Memory = true
stays_inside sign.OneOperand = true
stays_inside x = false

refuted : (b : Bool) → IsTrue (if b then false else true) → b ≡ false
refuted true h = absurd cc
refuted false h = refl

sign_inside : (x : Sign) (v : Word) (n : ℕ) → Matches x v n → IsTrue (stays_inside x) → is_apart v ≡ false
sign_inside (sign.Word w) v n m h = ap is_apart m ∙ refuted (is_apart w) h
sign_inside sign.Size v n m h = not_apart (is_size v) (is_apart v) (sizes v) m
sign_inside sign.Condition v n m h = not_apart (is_condition v) (is_apart v) (conditions v) m
sign_inside sign.TwoOperands v n m h = not_apart (takes_two v) (is_apart v) (pairs v) m
sign_inside sign.Memory v n m h = not_apart (is_on_memory v) (is_apart v) (memory v) m
sign_inside sign.OneOperand v n m h = not_apart (takes_one v) (is_apart v) (singles v) m
sign_inside x v n m h = absurd cc

-- nor begins one of them an expression

apart_lexeme : (t : LineToken) (w : Word) → word t ≡ w → IsTrue (is_apart w) → IsOther (lexeme t)
unfolding lexeme_of_word
apart_lexeme t word_case.LineEnd e h = other_word t word_case.LineEnd refl refl e
apart_lexeme t word_case.Con e h = other_word t word_case.Con refl refl e
apart_lexeme t word_case.Var e h = other_word t word_case.Var refl refl e
apart_lexeme t word_case.Obj e h = other_word t word_case.Obj refl refl e
apart_lexeme t word_case.Pub e h = other_word t word_case.Pub refl refl e
apart_lexeme t word_case.Pri e h = other_word t word_case.Pri refl refl e
apart_lexeme t word_case.Dat e h = other_word t word_case.Dat refl refl e
apart_lexeme t word_case.Else e h = other_word t word_case.Else refl refl e
apart_lexeme t word_case.Elseif e h = other_word t word_case.Elseif refl refl e
apart_lexeme t word_case.Elseifnot e h = other_word t word_case.Elseifnot refl refl e
apart_lexeme t word_case.While e h = other_word t word_case.While refl refl e
apart_lexeme t word_case.Until e h = other_word t word_case.Until refl refl e
apart_lexeme t w e h = absurd cc

front_inside : (s : Setting) (t : LineToken) → IsFront s (term t ∷ []) → is_apart (word t) ≡ false
front_inside s t f = go (is_apart (word t)) refl
  where
    go : (b : Bool) → is_apart (word t) ≡ b → b ≡ false
    go false e = refl
    go true e =
        let none : step (start s) (term t) ≡ None = other_step s fresh [] t.place (lexeme t) (other_plain (apart_lexeme t (word t) refl e)) refl in
        absurd (dead s (term t ∷ []) (ap (λ o. option_and_then (λ st. walk st []) o) none) f)

-- the states from which lines are read that begin with none of them
abbrev pub begins_inside : LineState → Bool
begins_inside state.ConItem = true
begins_inside state.VarLine = true
begins_inside state.ObjLine = true
begins_inside state.DatLine = true
begins_inside state.Statement = true
begins_inside state.CaseItem = true
begins_inside q = false

arrows_inside : (q : LineState) → IsTrue (begins_inside q) → IsTrue (all_good (λ a. stays_inside a.sign) (choices q).arrows)
arrows_inside state.ConItem h = refl
arrows_inside state.VarLine h = refl
arrows_inside state.ObjLine h = refl
arrows_inside state.DatLine h = refl
arrows_inside state.Statement h = refl
arrows_inside state.CaseItem h = refl
arrows_inside q h = absurd cc

pub first_inside : (q : LineState) (t : LineToken) → IsTrue (begins_inside q) → Taken q t → Inside (word t)
first_inside q t h (by_arrow f) =
    let x = taken (λ a. stays_inside a.sign) f (arrows_inside q h) in
    inside (word t) (sign_inside x.arrow.sign (word t) (string_length t) x.is x.good)
first_inside q t h (by_phrase p e f) = inside (word t) (front_inside p.setting t f)

-- lines that go on with a chain, and those that end a loop

abbrev is_word : (Word → Bool) → Sign → Bool
is_word test (sign.Word w) = test w
is_word test x = false

sign_is_word : (test : Word → Bool) (x : Sign) (v : Word) (n : ℕ) → Matches x v n → IsTrue (is_word test x) → IsTrue (test v)
sign_is_word test (sign.Word w) v n m h = ap test m ∙ h
sign_is_word test x v n m h = absurd cc

no_phrase : {h : Phrase} → ¬ (None ≡ Some h)
no_phrase e = cc

pub first_of_chain : (t : LineToken) → Taken state.ChainLine t → IsTrue (is_chain_word (word t))
first_of_chain t (by_arrow f) = let x = taken (λ a. is_word is_chain_word a.sign) f refl in sign_is_word is_chain_word x.arrow.sign (word t) (string_length t) x.is x.good
first_of_chain t (by_phrase h e f) = absurd (no_phrase e)

pub first_of_loop_end : (t : LineToken) → Taken state.LoopEndLine t → IsTrue (is_loop_end_word (word t))
first_of_loop_end t (by_arrow f) = let x = taken (λ a. is_word is_loop_end_word a.sign) f refl in sign_is_word is_loop_end_word x.arrow.sign (word t) (string_length t) x.is x.good
first_of_loop_end t (by_phrase h e f) = absurd (no_phrase e)

abbrev is_outside : Word → Bool
is_outside w = if is_end w then true else is_block_word w

chain_words : (w : Word) → apart_in (is_chain_word w) (is_outside w) ≡ false
chain_words word_case.PlusPlus = refl
chain_words w = refl

loop_end_words : (w : Word) → apart_in (is_loop_end_word w) (is_outside w) ≡ false
loop_end_words word_case.PlusPlus = refl
loop_end_words w = refl

-- each line of a method begins with neither the end of a line nor a block's word
pub record Inner (w : Word) : Type 0 where
  pub not_end : w ≢ word_case.LineEnd
  pub not_head : is_block_word w ≡ false

inner : (w : Word) → is_outside w ≡ false → Inner w
inner w h = go (is_end w) refl h
  where
    go : (b : Bool) → is_end w ≡ b → (if b then true else is_block_word w) ≡ false → Inner w
    go true e h = absurd cc
    go false e h = record { not_end = λ x. (let z = sym (ap is_end x) ∙ e in cc); not_head = h }

pub first_inner : (q : LineState) (t : LineToken) → IsTrue (begins_line q) → Taken q t → Inner (word t)
first_inner state.Statement t h x = let y = first_inside state.Statement t refl x in record { not_end = y.not_end; not_head = y.not_head }
first_inner state.CaseItem t h x = let y = first_inside state.CaseItem t refl x in record { not_end = y.not_end; not_head = y.not_head }
first_inner state.ChainLine t h x = inner (word t) (not_apart (is_chain_word (word t)) (is_outside (word t)) (chain_words (word t)) (first_of_chain t x))
first_inner state.LoopEndLine t h x = inner (word t) (not_apart (is_loop_end_word (word t)) (is_outside (word t)) (loop_end_words (word t)) (first_of_loop_end t x))
first_inner q t h x = absurd cc
