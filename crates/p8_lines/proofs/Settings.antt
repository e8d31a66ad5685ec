-- Where a line's words stand: it stays so along a line, and which words are refused there goes by it.
use Rattle.std.proofs.Common.{◌≡◌, ◌⊎◌, inl, inr, List, Option, Some, None, Bool, true, false, refl, ap, ◌∙◌, subst}
use Rattle.std.specs.Prelude.{IsTrue}
use Rattle.p8_lexer.specs.declared.word.Word.{Word}
use Rattle.p8_lexer.specs.declared.word.Word.TheVariants as word
use Rattle.p8_grammar.specs.Lexemes.{Setting, in_method, in_declaration, in_dat, in_data_item, in_action}
use Rattle.p8_expr.specs.Refusals.{refusal_of}
use Rattle.p8_lines.specs.declared.sign.Sign.{Sign}
use Rattle.p8_lines.specs.declared.sign.Sign.TheVariants as sign
use Rattle.p8_lines.specs.declared.arrow.Arrow.{Arrow}
use Rattle.p8_lines.specs.declared.state.LineState.{LineState}
use Rattle.p8_lines.specs.declared.state.LineState.TheVariants as state
use Rattle.p8_lines.specs.Signs.{Matches, is_flag, is_write}
use Rattle.p8_lines.specs.Diagram.{Phrase, choices, setting_at}
use Rattle.p8_lines.specs.Tokens as tokens
use Rattle.p8_lines.specs.Tokens.{LineToken, string_length}
use Rattle.p8_lines.specs.Lines.{Follows, behind}
use Rattle.p8_lines.proofs.Arrows.{all_good, all_good_behind, taken, taken_behind}

-- the setting of an expression in a line

abbrev fits : Setting → Setting → Bool
fits in_method in_method = true
fits in_declaration in_declaration = true
fits in_dat in_dat = true
fits in_data_item in_dat = true
fits in_action in_method = true
fits s s' = false

item_refused : (w : Word) → refusal_of in_data_item w ≡ refusal_of in_dat w
unfolding refusal_of
item_refused word.FloatNumber = refl
item_refused w = refl

action_refused : (w : Word) → refusal_of in_action w ≡ refusal_of in_method w
unfolding refusal_of
action_refused word.FloatNumber = refl
action_refused w = refl

fitting : (s s' : Setting) (w : Word) → IsTrue (fits s s') → refusal_of s w ≡ refusal_of s' w
fitting in_method in_method w h = refl
fitting in_declaration in_declaration w h = refl
fitting in_dat in_dat w h = refl
fitting in_data_item in_dat w h = item_refused w
fitting in_action in_method w h = action_refused w
fitting s s' w h = absurd cc

abbrev phrase_fits : Option Phrase → Setting → Bool
phrase_fits None s = true
phrase_fits (Some h) s = fits h.setting s

states_fit : (q : LineState) → IsTrue (phrase_fits (choices q).phrase (setting_at q))
states_fit state.End = refl
states_fit q = refl

pub setting_fits : (q : LineState) (h : Phrase) (w : Word) → (choices q).phrase ≡ Some h → refusal_of h.setting w ≡ refusal_of (setting_at q) w
setting_fits q h w e = fitting h.setting (setting_at q) w (subst (λ o. IsTrue (phrase_fits o (setting_at q))) e (states_fit q))

-- the setting of the next state

abbrev is_same : Setting → Setting → Bool
is_same in_method in_method = true
is_same in_declaration in_declaration = true
is_same in_dat in_dat = true
is_same in_data_item in_data_item = true
is_same s s' = false

same_if : (s s' : Setting) → IsTrue (is_same s s') → s ≡ s'
same_if in_method in_method h = refl
same_if in_declaration in_declaration h = refl
same_if in_dat in_dat h = refl
same_if in_data_item in_data_item h = refl
same_if s s' h = absurd cc

abbrev keeps_to : Setting → LineState → Bool
keeps_to s state.End = true
keeps_to s state.LineEnd = true
keeps_to s q = is_same (setting_at q) s

abbrev keeps : Setting → Arrow → Bool
keeps s a = keeps_to s a.to

kept_to : (s : Setting) (r : LineState) → IsTrue (keeps_to s r) → (r ≡ state.End) ⊎ ((r ≡ state.LineEnd) ⊎ (setting_at r ≡ s))
kept_to s state.End h = inl refl
kept_to s state.LineEnd h = inr (inl refl)
kept_to s r h = inr (inr (same_if (setting_at r) s h))

states_keep : (q : LineState) → IsTrue (all_good (keeps (setting_at q)) (choices q).arrows)
states_keep state.End = refl
states_keep q = refl

pub keeps_setting : (q r : LineState) (t : LineToken) → Follows (choices q).arrows t r → (r ≡ state.End) ⊎ ((r ≡ state.LineEnd) ⊎ (setting_at r ≡ setting_at q))
keeps_setting q r t f =
    let x = taken (keeps (setting_at q)) f (states_keep q) in
    kept_to (setting_at q) r (subst (λ r. IsTrue (keeps_to (setting_at q) r)) x.goes x.good)

abbrev phrase_keeps : Option Phrase → Setting → Bool
phrase_keeps None s = true
phrase_keeps (Some h) s = all_good_behind (keeps s) h

phrases_keep : (q : LineState) → IsTrue (phrase_keeps (choices q).phrase (setting_at q))
phrases_keep state.End = refl
phrases_keep q = refl

pub keeps_setting_behind : (q r : LineState) (h : Phrase) (us : List LineToken) (t : LineToken) → (choices q).phrase ≡ Some h → Follows (behind h us) t r → (r ≡ state.End) ⊎ ((r ≡ state.LineEnd) ⊎ (setting_at r ≡ setting_at q))
keeps_setting_behind q r h us t e f =
    let x = taken_behind (keeps (setting_at q)) h us f (subst (λ o. IsTrue (phrase_keeps o (setting_at q))) e (phrases_keep q)) in
    kept_to (setting_at q) r (subst (λ r. IsTrue (keeps_to (setting_at q) r)) x.goes x.good)

-- the words after an expression

abbrev is_good_word : Word → Bool
is_good_word word.Comma = true
is_good_word word.Colon = true
is_good_word word.DotDot = true
is_good_word word.LeftBracket = true
is_good_word word.RightBracket = true
is_good_word word.RightParenthesis = true
is_good_word word.LineEnd = true
is_good_word word.From = true
is_good_word word.To = true
is_good_word word.Step = true
is_good_word w = false

word_good : (s : Setting) (w : Word) → IsTrue (is_good_word w) → refusal_of s w ≡ None
unfolding refusal_of
word_good s word.Comma h = refl
word_good s word.Colon h = refl
word_good s word.DotDot h = refl
word_good s word.LeftBracket h = refl
word_good s word.RightBracket h = refl
word_good s word.RightParenthesis h = refl
word_good s word.LineEnd h = refl
word_good s word.From h = refl
word_good s word.To h = refl
word_good s word.Step h = refl
word_good s w h = absurd cc

flag_good : (s : Setting) (w : Word) → IsTrue (is_flag w) → refusal_of s w ≡ None
unfolding refusal_of
flag_good s word.Wz h = refl
flag_good s word.Wc h = refl
flag_good s w h = absurd cc

write_good : (s : Setting) (w : Word) → IsTrue (is_write w) → refusal_of s w ≡ None
unfolding refusal_of
write_good s word.Wr h = refl
write_good s word.Nr h = refl
write_good s w h = absurd cc

abbrev is_good : Sign → Bool
is_good (sign.Word w) = is_good_word w
is_good sign.Flag = true
is_good sign.Write = true
is_good x = false

sign_good : (s : Setting) (t : LineToken) (x : Sign) → Matches x (tokens.word t) (string_length t) → IsTrue (is_good x) → refusal_of s (tokens.word t) ≡ None
sign_good s t (sign.Word w) m h = ap (refusal_of s) m ∙ word_good s w h
sign_good s t sign.Flag m h = flag_good s (tokens.word t) m
sign_good s t sign.Write m h = write_good s (tokens.word t) m
sign_good s t x m h = absurd cc

abbrev phrase_good : Option Phrase → Bool
phrase_good None = true
phrase_good (Some h) = all_good_behind (λ a. is_good a.sign) h

phrases_good : (q : LineState) → IsTrue (phrase_good (choices q).phrase)
phrases_good state.End = refl
phrases_good q = refl

pub behind_good : (q : LineState) (h : Phrase) (us : List LineToken) (t : LineToken) (r : LineState) (s : Setting) → (choices q).phrase ≡ Some h → Follows (behind h us) t r → refusal_of s (tokens.word t) ≡ None
behind_good q h us t r s e f =
    let x = taken_behind (λ a. is_good a.sign) h us f (subst (λ o. IsTrue (phrase_good o)) e (phrases_good q)) in
    sign_good s t x.arrow.sign x.is x.good

-- the end of a line
