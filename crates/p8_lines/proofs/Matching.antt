-- Which arrow a token takes is computed.
use Rattle.std.proofs.Common.{◌≡◌, ℕ, ◌<◌, List, [], ◌∷◌, Option, Some, None, Bool, true, false, refl, sym, ◌∙◌, subst, arith, rules}
use Rattle.std.specs.Prelude.{IsTrue, nat_lt, if◌then◌else◌}
use Rattle.std.proofs.lemmas.Bool.Decides.{nat_tests}
use denote.Enum.Bare.{sameb, same_true, same_false}
use Rattle.p8_lexer.specs.contracts.word.Word.{the_type}
use Rattle.p8_lexer.specs.declared.word.Word.{Word}
use Rattle.p8_lexer.specs.declared.word.Word.TheVariants as word
use Rattle.p8_lines.specs.declared.sign.Sign.{Sign}
use Rattle.p8_lines.specs.declared.sign.Sign.TheVariants as sign
use Rattle.p8_lines.specs.declared.arrow.Arrow.{Arrow}
use Rattle.p8_lines.specs.declared.state.LineState.{LineState}
use Rattle.p8_lines.specs.Signs.{is_size, is_condition, takes_two, is_on_memory, takes_one, is_flag, is_write, is_label, Matches}
use Rattle.p8_lines.specs.Tokens as tokens
use Rattle.p8_lines.specs.Tokens.{LineToken, string_length}
use Rattle.p8_lines.specs.Lines.{Follows, here, further}

-- a string of more characters than k
abbrev pub is_longer : ℕ → Word → ℕ → Bool
is_longer k v n = if sameb the_type v word.Str then nat_lt k n else false

abbrev pub matches : Sign → Word → ℕ → Bool
matches (sign.Word w) v n = sameb the_type v w
matches sign.Size v n = is_size v
matches sign.Text v n = is_longer 0 v n
matches sign.LongText v n = is_longer 1 v n
matches sign.Condition v n = is_condition v
matches sign.TwoOperands v n = takes_two v
matches sign.Memory v n = is_on_memory v
matches sign.OneOperand v n = takes_one v
matches sign.Flag v n = is_flag v
matches sign.Write v n = is_write v
matches sign.Label v n = is_label v

same_word : (v w : Word) → sameb the_type v w ≡ true → v ≡ w
same_word v w h = same_true the_type (search rules) v w h

longer : (k : ℕ) (v : Word) (n : ℕ) → is_longer k v n ≡ true → (v ≡ word.Str) × (k < n)
longer k v n h = go (sameb the_type v word.Str) refl h
  where
    go : (b : Bool) → sameb the_type v word.Str ≡ b → (if b then nat_lt k n else false) ≡ true → (v ≡ word.Str) × (k < n)
    go true e h = (same_word v word.Str e, grind (arith, nat_tests))
    go false e h = absurd cc

not_longer : (k : ℕ) (v : Word) (n : ℕ) → is_longer k v n ≡ false → v ≡ word.Str → k < n → ⊥
not_longer k v n h e lt = go (sameb the_type v word.Str) refl h
  where
    go : (b : Bool) → sameb the_type v word.Str ≡ b → (if b then nat_lt k n else false) ≡ false → ⊥
    go true y h = grind (arith, nat_tests)
    go false y h = same_false the_type v word.Str y e

pub does_match : (x : Sign) (v : Word) (n : ℕ) → matches x v n ≡ true → Matches x v n
does_match (sign.Word w) v n h = same_word v w h
does_match sign.Size v n h = h
does_match sign.Text v n h = longer 0 v n h
does_match sign.LongText v n h = longer 1 v n h
does_match sign.Condition v n h = h
does_match sign.TwoOperands v n h = h
does_match sign.Memory v n h = h
does_match sign.OneOperand v n h = h
does_match sign.Flag v n h = h
does_match sign.Write v n h = h
does_match sign.Label v n h = h

differs : (b : Bool) → b ≡ false → IsTrue b → ⊥
differs b e h = let z = sym e ∙ h in cc

pub does_not_match : (x : Sign) (v : Word) (n : ℕ) → matches x v n ≡ false → ¬ Matches x v n
does_not_match (sign.Word w) v n h m = same_false the_type v w h m
does_not_match sign.Size v n h m = differs (is_size v) h m
does_not_match sign.Text v n h m = not_longer 0 v n h m.0 m.1
does_not_match sign.LongText v n h m = not_longer 1 v n h m.0 m.1
does_not_match sign.Condition v n h m = differs (is_condition v) h m
does_not_match sign.TwoOperands v n h m = differs (takes_two v) h m
does_not_match sign.Memory v n h m = differs (is_on_memory v) h m
does_not_match sign.OneOperand v n h m = differs (takes_one v) h m
does_not_match sign.Flag v n h m = differs (is_flag v) h m
does_not_match sign.Write v n h m = differs (is_write v) h m
does_not_match sign.Label v n h m = differs (is_label v) h m

-- where a token with this word, and with so many characters between its quotes, leads
abbrev pub target : List Arrow → Word → ℕ → Option LineState
target [] v n = None
target (a ∷ others) v n = if matches a.sign v n then Some a.to else target others v n

pub follows : (l : List Arrow) (t : LineToken) (r : LineState) → target l (tokens.word t) (string_length t) ≡ Some r → Follows l t r
follows [] t r h = absurd cc
follows (a ∷ others) t r h = go (matches a.sign (tokens.word t) (string_length t)) refl h (follows others t r)
  where
    go : (b : Bool) → matches a.sign (tokens.word t) (string_length t) ≡ b → (if b then Some a.to else target others (tokens.word t) (string_length t)) ≡ Some r → (target others (tokens.word t) (string_length t) ≡ Some r → Follows others t r) → Follows (a ∷ others) t r
    go true e h later = let y : a.to ≡ r = cc in subst (λ r. Follows (a ∷ others) t r) y (here (does_match a.sign (tokens.word t) (string_length t) e))
    go false e h later = further (does_not_match a.sign (tokens.word t) (string_length t) e) (later h)
