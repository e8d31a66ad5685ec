-- The tokens of a text from one on, and what lines lead to.
use Rattle.std.proofs.Common.{◌≡◌, ◌∙◌, ℕ, suc, ◌+◌, ◌<◌, ◌≤◌, ◌⊎◌, inl, inr, List, [], ◌∷◌, ◌++◌, Option, None, refl, sym, ap, subst, length, map, drop, arith}
use Rattle.std.specs.Prelude.{unwrap_or}
use Rattle.std.proofs.lemmas.Bool.{cases_lt}
use Rattle.std.proofs.lemmas.List.{length-map}
use Rattle.p8_tree.specs.declared.places.Place.{Place}
use Rattle.p8_tree.specs.Sources.{Source}
use Rattle.p8_lexer.specs.declared.word.Word.TheVariants as word_case
use Rattle.p8_lexer.specs.declared.token.Token as lexer_token
use Rattle.p8_expr.specs.Cursors.{Spot, word_there, place_there}
use Rattle.p8_lines.specs.Tokens.{LineToken, word, line_token, text_end, all_tokens, tokens_from, left, left_behind}
use Rattle.p8_lines.specs.Stopping.{next}
use Rattle.p8_lines.proofs.Texts.{first_at}
use Rattle.p8_lines.proofs.Targets.{word_here, place_here}
use Rattle.p8_blocks.specs.Reading.{Position, at, start, blank, Goes, stay, go_on, Fails, AreBlocks, Parses, whole, fails, source, fault, is_begun}
use Rattle.p8_blocks.specs.Standing.{StandsFor, Starts, Continues, Reached}
use Rattle.p8_blocks.specs.declared.first.First.{First}
use Rattle.p8_blocks.specs.declared.growing.Growing.{Growing}

drop_all : {A : Type 0} (xs : List A) (e : A) → drop (length xs) (xs ++ e ∷ []) ≡ e ∷ []
drop_all [] e = refl
drop_all (x ∷ xs) e = drop_all xs e

drop_more : {A : Type 0} (xs : List A) (e : A) → drop (suc (length xs)) (xs ++ e ∷ []) ≡ []
drop_more [] e = refl
drop_more (x ∷ xs) e = drop_more xs e

pub starts : (s : Spot) (b : Option Place) (first : First) → s.at < length s.tokens → first.word ≡ word_there s → first.place ≡ place_there s → first.begin ≡ unwrap_or b first.place → first.begun ≡ is_begun b → Starts (left s) (left_behind s) b first
starts s b first lt w p e g =
    let same_word = w ∙ word_here s in
    let same_place = p ∙ place_here s in
    record {
      token = next s;
      tokens = first_at s.bytes s.tokens s.at (omega (arith, lt));
      is = record { same_begun = sym g; same_word = sym same_word; same_place = sym same_place; same_begin = ap (unwrap_or b) (sym same_place) ∙ sym e };
    }

pub begun_reached : {ts : List LineToken} (file : Growing) → StandsFor start file → Reached ts ts file
begun_reached file s = record { position = start; goes = stay; stands = s }

pub more_reached : {ts us vs : List LineToken} {old new : Growing} (r : Reached ts us old) → Continues r.position us new vs → Reached ts vs new
more_reached {ts} {us} {vs} {old} {new} r c = record { position = c.next; goes = go_on r.goes c.step; stands = c.stands }

pub refused_there : {ts us : List LineToken} {file : Growing} (n : ℕ) (p : Place) (r : Reached ts us file) → Fails r.position us n p → Parses ts (fault n p)
refused_there n p r f = fails r.goes f

-- after the last token
ends : {ts : List LineToken} (us : List LineToken) {x : Position} (e : LineToken) (s : Source) → Goes start ts x us → us ≡ e ∷ [] → word e ≡ word_case.LineEnd → AreBlocks x.parts s → Parses ts (source s)
ends {ts} us {x} e s g h w b = whole {x = at x.parts None} (go_on (subst (λ us. Goes start ts x us) h g) (blank w)) b

pub all_reached : (bytes : List ℕ) (tokens : List lexer_token.Token) (at : ℕ) (s : Source) {file : Growing} (r : Reached (all_tokens bytes tokens) (tokens_from bytes tokens at) file) → length tokens ≤ at → at ≤ length tokens + 1 → AreBlocks r.position.parts s → Parses (all_tokens bytes tokens) (source s)
all_reached bytes tokens at s r low high b = go (cases_lt (length tokens) at)
  where
    count : length (map (line_token bytes) tokens) ≡ length tokens
    count = length-map tokens (line_token bytes)

    go : (length tokens < at) ⊎ (at ≤ length tokens) → Parses (all_tokens bytes tokens) (source s)
    go (inl lt) =
        let n : at ≡ suc (length tokens) = omega (arith, lt, high) in
        let h : tokens_from bytes tokens at ≡ [] = ap (λ n. tokens_from bytes tokens n) (n ∙ ap suc (sym count)) ∙ drop_more (map (line_token bytes) tokens) (text_end (map (line_token bytes) tokens)) in
        whole (subst (λ us. Goes start (all_tokens bytes tokens) r.position us) h r.goes) b
    go (inr le) =
        let n : at ≡ length tokens = omega (arith, le, low) in
        let e = text_end (map (line_token bytes) tokens) in
        let h : tokens_from bytes tokens at ≡ e ∷ [] = ap (λ n. tokens_from bytes tokens n) (n ∙ sym count) ∙ drop_all (map (line_token bytes) tokens) e in
        ends (tokens_from bytes tokens at) e s r.goes h refl b
