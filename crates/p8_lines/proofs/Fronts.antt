-- No expression begins with a token that has an arrow beside it, and none goes on with a token that may stand
-- after it.
use Rattle.std.proofs.Common.{◌≡◌, ℕ, ◌<◌, length, List, [], ◌∷◌, ◌++◌, Option, Some, None, Bool, true, false, refl, sym, ap, ◌∙◌, subst, arith}
use Rattle.std.specs.Prelude.{IsTrue, option_and_then}
use Rattle.p8_tree.specs.declared.places.Place.{Place}
use Rattle.p8_tree.specs.Expressions.{Tree, Variable, Part, Memory, Register, no_index as without_index, whole as whole_register}
use Rattle.p8_lexer.specs.declared.word.Word.{Word}
use Rattle.p8_lexer.specs.declared.word.Word.TheVariants as word
use Rattle.p8_grammar.specs.Lexemes.{Setting, in_method, in_declaration, in_dat, in_data_item, in_action, is_value, Lexeme, left_bracket, right_bracket, right_parenthesis, comma, colon, dot_dot, string, mark, size, Token, token}
use Rattle.p8_grammar.specs.Grammar.{calls, IsExpression, IsFront}
use Rattle.p8_grammar.specs.Machine.{Shape, using, part, headed, tree, whole_in, bracketed, grow, Frame, wrap, reduce, State, state, becoming, fill_hole, go_on, beyond, step, walk, all_of, accepted, accept, start}
use Rattle.p8_grammar.proofs.Walks.{walk_append, wraps}
use Rattle.p8_grammar.proofs.FormsRead.{whole_tree}
use Rattle.p8_grammar.proofs.Steps.{whole_step, closer_step, other_stops, reserved_stops}
use Rattle.p8_grammar.proofs.Complete.{complete}
use Rattle.p8_grammar.proofs.Sound.{Pending, nothing_pending, after_operator, in_hole, in_first, start_stands, walk_stands}
use Rattle.p8_grammar.proofs.Live.{dead}
use Rattle.p8_lines.specs.declared.sign.Sign.{Sign}
use Rattle.p8_lines.specs.declared.sign.Sign.TheVariants as sign
use Rattle.p8_lines.specs.declared.arrow.Arrow.{Arrow}
use Rattle.p8_lines.specs.declared.state.LineState as line_state
use Rattle.p8_lines.specs.declared.state.LineState.TheVariants as states
use Rattle.p8_lines.specs.Signs.{Matches}
use Rattle.p8_lines.specs.Diagram.{Phrase, choices}
use Rattle.p8_lines.specs.Tokens as tokens
use Rattle.p8_lines.specs.Tokens.{LineToken, lexeme, term, terms, string_length}
use Rattle.p8_lines.specs.Lines.{Follows, behind}
use Rattle.p8_lines.proofs.Arrows.{all_good, all_good_behind, taken, taken_behind}
use Rattle.p8_lines.proofs.Lexemes.{IsLike, the_word, the_reserved, IsOther, comma_lexeme, colon_lexeme, range_lexeme, left_bracket_lexeme, right_bracket_lexeme, right_parenthesis_lexeme, hash_lexeme, line_end_lexeme, while_lexeme, until_lexeme, other_lexeme, if_lexeme, ifnot_lexeme, case_lexeme, repeat_lexeme, next_lexeme, quit_lexeme, return_lexeme, abort_lexeme, from_lexeme, to_lexeme, step_lexeme, size_lexeme, flag_lexeme, write_lexeme, string_lexeme}

-- before an expression

abbrev begins_nothing : Word → Bool
begins_nothing word.LineEnd = true
begins_nothing word.While = true
begins_nothing word.Until = true
begins_nothing word.Other = true
begins_nothing word.Hash = true
begins_nothing word.If = true
begins_nothing word.Ifnot = true
begins_nothing word.Case = true
begins_nothing word.Repeat = true
begins_nothing word.Next = true
begins_nothing word.Quit = true
begins_nothing word.Return = true
begins_nothing word.Abort = true
begins_nothing w = false

abbrev is_item : Setting → Bool
is_item in_method = false
is_item in_declaration = false
is_item in_dat = false
is_item in_data_item = true
is_item in_action = false

-- tokens of this sign begin no expression there
abbrev opens_nothing : Setting → Sign → Bool
opens_nothing s (sign.Word w) = begins_nothing w
opens_nothing s sign.Size = is_item s
opens_nothing s sign.LongText = true
opens_nothing s x = false

abbrev good_before : Option Phrase → List Arrow → Bool
good_before None l = true
good_before (Some h) l = all_good (λ a. opens_nothing h.setting a.sign) l

states_before : (q : line_state.LineState) → IsTrue (good_before (choices q).phrase (choices q).arrows)
states_before states.End = refl
states_before q = refl

long_fails : (s : Setting) (p : Place) (cs : List ℕ) → 1 < length cs → step (start s) (token p (string cs)) ≡ None
long_fails s p [] n = absurd (omega arith)
long_fails s p (c ∷ []) n = absurd (omega arith)
long_fails s p (c ∷ d ∷ cs) n = refl

size_fails : (s : Setting) (p : Place) (z : ℕ) → IsTrue (is_item s) → step (start s) (token p (size z)) ≡ None
size_fails in_data_item p z h = refl
size_fails s p z h = absurd cc

abbrev first_step : Setting → LineToken → Lexeme → Option State
first_step s t x = step (start s) (token t.place x)

other_fails : (s : Setting) (t : LineToken) {x : Lexeme} → IsOther x → first_step s t x ≡ None
other_fails s t the_word = refl
other_fails s t (the_reserved n) = refl

size_like_fails : (s : Setting) (t : LineToken) (z : ℕ) {x : Lexeme} → IsLike (size z) x → IsTrue (is_item s) → first_step s t x ≡ None
size_like_fails s t z the_word h = size_fails s t.place z h
size_like_fails in_data_item t z (the_reserved n) h = refl
size_like_fails s t z (the_reserved n) h = absurd cc

word_fails : (s : Setting) (t : LineToken) (w : Word) → tokens.word t ≡ w → IsTrue (begins_nothing w) → first_step s t (lexeme t) ≡ None
word_fails s t word.LineEnd e h = other_fails s t (line_end_lexeme t e)
word_fails s t word.While e h = other_fails s t (while_lexeme t e)
word_fails s t word.Until e h = other_fails s t (until_lexeme t e)
word_fails s t word.Other e h = other_fails s t (other_lexeme t e)
word_fails s t word.Hash e h = ap (first_step s t) (hash_lexeme t e)
word_fails s t word.If e h = other_fails s t (if_lexeme t e)
word_fails s t word.Ifnot e h = other_fails s t (ifnot_lexeme t e)
word_fails s t word.Case e h = other_fails s t (case_lexeme t e)
word_fails s t word.Repeat e h = other_fails s t (repeat_lexeme t e)
word_fails s t word.Next e h = other_fails s t (next_lexeme t e)
word_fails s t word.Quit e h = other_fails s t (quit_lexeme t e)
word_fails s t word.Return e h = other_fails s t (return_lexeme t e)
word_fails s t word.Abort e h = other_fails s t (abort_lexeme t e)
word_fails s t w e h = absurd cc

sign_fails : (s : Setting) (t : LineToken) (x : Sign) → Matches x (tokens.word t) (string_length t) → IsTrue (opens_nothing s x) → first_step s t (lexeme t) ≡ None
sign_fails s t (sign.Word w) m h = word_fails s t w m h
sign_fails s t sign.Size m h = let z = size_lexeme t m in size_like_fails s t z.0 z.1 h
sign_fails s t sign.LongText m h = ap (first_step s t) (string_lexeme t m.0) ∙ long_fails s t.place _ m.1
sign_fails s t x m h = absurd cc

-- a token that has an arrow begins no expression there
pub before_fails : (q : line_state.LineState) (h : Phrase) (t : LineToken) (r : line_state.LineState) → (choices q).phrase ≡ Some h → Follows (choices q).arrows t r → ¬ IsFront h.setting (term t ∷ [])
before_fails q h t r e f =
    let good : IsTrue (all_good (λ a. opens_nothing h.setting a.sign) (choices q).arrows) = subst (λ o. IsTrue (good_before o (choices q).arrows)) e (states_before q) in
    let x = taken (λ a. opens_nothing h.setting a.sign) f good in
    let none = sign_fails h.setting t x.arrow.sign x.is x.good in
    dead h.setting (term t ∷ []) (ap (λ o. option_and_then (λ st. walk st []) o) none)

-- after an expression

abbrev ends_any : Word → Bool
ends_any word.Comma = true
ends_any word.Colon = true
ends_any word.DotDot = true
ends_any word.RightBracket = true
ends_any word.RightParenthesis = true
ends_any word.LineEnd = true
ends_any word.From = true
ends_any word.To = true
ends_any word.Step = true
ends_any w = false

abbrev ends_by_word : Setting → Word → Bool
ends_by_word s word.LeftBracket = is_item s
ends_by_word s w = ends_any w

-- no expression goes on there with tokens of this sign
abbrev ends_in : Setting → Sign → Bool
ends_in s (sign.Word w) = ends_by_word s w
ends_in s sign.Flag = true
ends_in s sign.Write = true
ends_in s x = false

abbrev good_behind : Option Phrase → Bool
good_behind None = true
good_behind (Some h) = all_good_behind (λ a. ends_in h.setting a.sign) h

states_behind : (q : line_state.LineState) → IsTrue (good_behind (choices q).phrase)
states_behind states.End = refl
states_behind q = refl

-- what an expression doesn't go on with
data Ends (s : Setting) : Lexeme → Type 0 where
  by_other : {x : Lexeme} → IsOther x → Ends s x
  by_comma : Ends s (mark comma)
  by_colon : Ends s (mark colon)
  by_range : Ends s (mark dot_dot)
  by_right_bracket : Ends s (mark right_bracket)
  by_right_parenthesis : Ends s (mark right_parenthesis)
  by_left_bracket : IsTrue (is_item s) → Ends s (mark left_bracket)

no_index : (s : Setting) (sh : Shape) (p : Place) → IsTrue (is_item s) → (top : Tree) → tree sh ≡ Some top → grow s sh p (mark left_bracket) ≡ None
no_index s (using u) p i top h = absurd cc
no_index in_data_item (part u v x) p i top h = bracket v
  where
    bracket : (v : Variable) → bracketed in_data_item u v x ≡ None
    bracket (Part n z without_index q) = refl
    bracket (Memory z e without_index q) = refl
    bracket (Register a whole_register q) = refl
    bracket v = refl
no_index in_data_item (headed (calls true None without_index n r q)) p i top h = refl
no_index in_data_item sh p i top h = refl
no_index s sh p i top h = absurd cc

-- after a whole expression the reader has no step
no_step : (s : Setting) (sh : Shape) (k : List Frame) (top e : Tree) (p : Place) (x : Lexeme) → tree sh ≡ Some top → reduce 22 top k ≡ (e, []) → Ends s x → step (state s sh k) (token p x) ≡ None
no_step s sh k top e p x h r (by_other the_word) = other_stops (state s sh k) p
no_step s sh k top e p x h r (by_other (the_reserved n)) = reserved_stops n p top s sh k h
no_step s sh k top e p x h r by_comma = closer_step s sh k p comma top h refl ∙ ap (λ q. fill_hole comma q.0 q.1) r
no_step s sh k top e p x h r by_range = closer_step s sh k p dot_dot top h refl ∙ ap (λ q. fill_hole dot_dot q.0 q.1) r
no_step s sh k top e p x h r by_right_bracket = closer_step s sh k p right_bracket top h refl ∙ ap (λ q. fill_hole right_bracket q.0 q.1) r
no_step s sh k top e p x h r by_colon = closer_step s sh k p colon top h refl ∙ ap (λ q. fill_hole colon q.0 q.1) r
no_step s sh k top e p x h r by_right_parenthesis = closer_step s sh k p right_parenthesis top h refl ∙ ap (λ q. fill_hole right_parenthesis q.0 q.1) r
no_step s sh k top e p x h r (by_left_bracket i) =
    whole_step s sh k p (mark left_bracket) top h
    ∙ ap (λ n. go_on n s sh k p (mark left_bracket)) (no_index s sh p i top h)
    ∙ ap (λ o. beyond o s sh k p (mark left_bracket)) h
    ∙ ap (λ q. fill_hole left_bracket q.0 q.1) r

record Whole (s : Setting) (st : State) (e : Tree) : Type 0 where
  setting : Setting
  shape : Shape
  frames : List Frame
  top : Tree
  is : st ≡ state setting shape frames
  has : tree shape ≡ Some top
  ended : reduce 22 top frames ≡ (e, [])

whole : (s : Setting) (st : State) (e : Tree) → accept st ≡ Some e → Whole s st e
whole s (becoming s' c p v k) e h = absurd cc
whole s (state s' sh k) e h = go (whole_in s' sh) refl h
  where
    ends_so : (q : Tree × List Frame) → all_of q.0 q.1 ≡ Some e → q ≡ (e, [])
    ends_so (x, []) h = let y : x ≡ e = cc in ap (λ z. (z, [])) y
    ends_so (x, f ∷ k) h = absurd cc

    go : (o : Option Tree) → whole_in s' sh ≡ o → accepted o k ≡ Some e → Whole s (state s' sh k) e
    go None t h = absurd cc
    go (Some top) t h = record { setting = s'; shape = sh; frames = k; top = top; is = refl; has = whole_tree s' sh top t; ended = ends_so (reduce 22 top k) h }

-- where nothing is open after a value, the setting is the first one
same_setting : {s s' : Setting} {k : List Frame} {us : List Token} → IsTrue (is_value s) → Pending s s' k us → (top e : Tree) → reduce 22 top k ≡ (e, []) → s' ≡ s
same_setting d nothing_pending top e h = refl
same_setting {s = s} {s' = s'} d (after_operator {s = s1} {f = f} {k = k} vs l pending value same kept alike le low bar w may reads) top e h =
    let below : s1 ≡ s = same_setting d pending (wrap f top) e (sym (wraps 22 top f k bar) ∙ h) in
    sym (kept (subst (λ s. IsTrue (is_value s)) (sym below) d)) ∙ below
same_setting d (in_hole pending stands spells apart) top e h = let y = ap (λ q. q.1) h in absurd cc
same_setting d (in_first pending value spells apart) top e h = let y = ap (λ q. q.1) h in absurd cc

setting_kept : (s s' : Setting) (sh : Shape) (k : List Frame) (ts : List Token) (top e : Tree) → IsTrue (is_value s) → walk (start s) ts ≡ Some (state s' sh k) → reduce 22 top k ≡ (e, []) → s' ≡ s
setting_kept s s' sh k ts top e d w h = let b = walk_stands s ts [] (start s) (state s' sh k) (start_stands s) w in same_setting d b.pending top e h

item_value : (s : Setting) → IsTrue (is_item s) → IsTrue (is_value s)
item_value in_data_item h = refl
item_value s h = absurd cc

-- what it doesn't go on with is the same in another setting, but for a bracket
moved : {s s' : Setting} {x : Lexeme} → Ends s x → (IsTrue (is_item s) → s' ≡ s) → Ends s' x
moved (by_other o) f = by_other o
moved by_comma f = by_comma
moved by_colon f = by_colon
moved by_range f = by_range
moved by_right_bracket f = by_right_bracket
moved by_right_parenthesis f = by_right_parenthesis
moved (by_left_bracket i) f = by_left_bracket (subst (λ s. IsTrue (is_item s)) (sym (f i)) i)

-- an expression doesn't go on with them
expression_ends : (s : Setting) (e : Tree) (ts : List Token) (p : Place) (x : Lexeme) → IsExpression s e ts → Ends s x → ¬ IsFront s (ts ++ token p x ∷ [])
expression_ends s e ts p x r y =
    let c = complete s r in
    let w = whole s c.0 e c.2 in
    let walked = c.1 ∙ ap Some w.is in
    let there : walk (start s) (ts ++ token p x ∷ []) ≡ None =
    walk_append (start s) ts (token p x ∷ [])
    ∙ ap (λ o. option_and_then (λ st. walk st (token p x ∷ [])) o) walked
    ∙ ap (λ o. option_and_then (λ st. walk st []) o) (no_step w.setting w.shape w.frames w.top e p x w.has w.ended (moved y (λ i. setting_kept s w.setting w.shape w.frames ts w.top e (item_value s i) walked w.ended))) in
    dead s (ts ++ token p x ∷ []) there

ending : (s : Setting) (x y : Lexeme) → x ≡ y → Ends s y → Ends s x
ending s x y e h = subst (Ends s) (sym e) h

any_ends : (s : Setting) (t : LineToken) (w : Word) → tokens.word t ≡ w → IsTrue (ends_any w) → Ends s (lexeme t)
any_ends s t word.Comma e h = ending s (lexeme t) _ (comma_lexeme t e) by_comma
any_ends s t word.Colon e h = ending s (lexeme t) _ (colon_lexeme t e) by_colon
any_ends s t word.DotDot e h = ending s (lexeme t) _ (range_lexeme t e) by_range
any_ends s t word.RightBracket e h = ending s (lexeme t) _ (right_bracket_lexeme t e) by_right_bracket
any_ends s t word.RightParenthesis e h = ending s (lexeme t) _ (right_parenthesis_lexeme t e) by_right_parenthesis
any_ends s t word.LineEnd e h = by_other (line_end_lexeme t e)
any_ends s t word.From e h = by_other (from_lexeme t e)
any_ends s t word.To e h = by_other (to_lexeme t e)
any_ends s t word.Step e h = by_other (step_lexeme t e)
any_ends s t w e h = absurd cc

word_ends : (s : Setting) (t : LineToken) (w : Word) → tokens.word t ≡ w → IsTrue (ends_by_word s w) → Ends s (lexeme t)
word_ends s t word.LeftBracket e h = ending s (lexeme t) _ (left_bracket_lexeme t e) (by_left_bracket h)
word_ends s t w e h = any_ends s t w e h

sign_ends : (s : Setting) (t : LineToken) (x : Sign) → Matches x (tokens.word t) (string_length t) → IsTrue (ends_in s x) → Ends s (lexeme t)
sign_ends s t (sign.Word w) m h = word_ends s t w m h
sign_ends s t sign.Flag m h = by_other (flag_lexeme t m)
sign_ends s t sign.Write m h = by_other (write_lexeme t m)
sign_ends s t x m h = absurd cc

-- a token that may stand after an expression does not go on with it
pub behind_fails : (q : line_state.LineState) (h : Phrase) (e : Tree) (us : List LineToken) (t : LineToken) (r : line_state.LineState) → (choices q).phrase ≡ Some h → IsExpression h.setting e (terms us) → Follows (behind h us) t r → ¬ IsFront h.setting (terms us ++ term t ∷ [])
behind_fails q h e us t r is x f =
    let y = taken_behind (λ a. ends_in h.setting a.sign) h us f (subst (λ o. IsTrue (good_behind o)) is (states_behind q)) in
    expression_ends h.setting e (terms us) t.place (lexeme t) x (sign_ends h.setting t y.arrow.sign y.is y.good)
