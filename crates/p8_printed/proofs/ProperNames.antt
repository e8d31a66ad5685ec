-- Names, numbers and strings of proper trees are such as a source has.
use Rattle.std.proofs.Common.{◌≡◌, ℕ, ◌<◌, List, [], ◌∷◌, length, map, get_or, refl, arith}
use Rattle.std.specs.Prelude.{IsTrue, All}
use Rattle.std.proofs.lemmas.Bool.Decides.{nat_tests}
use Rattle.std.proofs.lemmas.List.Elements.{All-head, All-tail}
use Rattle.p8_tree.specs.Names as names
use Rattle.p8_tree.specs.Names.{is_capital, is_in_name, begins_name, IsName, IsQuoted}
use Rattle.p8_lexer.proofs.ReservedWords.{name_free}
use Rattle.p8_lexer.specs.declared.piece.Class.TheVariants as class
use Rattle.p8_lexer.specs.Lexing.{is_letter, is_in}
use Rattle.p8_lexer.specs.Words.{capital}
use Rattle.p8_grammar.specs.Lexemes.{name, string}
use Rattle.p8_expr.specs.Sources.{IsLexeme}
use Rattle.p8_printed.proofs.LabelWords.{IsWord}

letter : (c : ℕ) → IsTrue (is_capital c) → IsTrue (is_letter c)
letter c h = grind (arith, nat_tests)

in_name : (c : ℕ) → IsTrue (is_in_name c) → IsTrue (is_in class.Name c)
in_name c h = grind (arith, nat_tests)

already_capital : (c : ℕ) → IsTrue (is_in_name c) → capital c ≡ c
already_capital c h = grind (arith, nat_tests)

in_capitals : (n : List ℕ) → All (λ c. IsTrue (is_in_name c)) n → map capital n ≡ n
in_capitals [] h = refl
in_capitals (c ∷ cs) h = λ i. already_capital c (All-head (λ c. IsTrue (is_in_name c)) c cs h) i ∷ in_capitals cs (All-tail (λ c. IsTrue (is_in_name c)) c cs h) i

begins : (n : List ℕ) → IsTrue (begins_name n) → (0 < length n) × IsTrue (is_letter (get_or n 0 0))
begins [] h = absurd cc
begins (c ∷ cs) h = (omega arith, letter c h)

pub name_lexeme : (n : List ℕ) → IsName n → IsLexeme (name n)
name_lexeme n h =
    let capitals = in_capitals n h.characters in
    let first = begins n h.begins in
    ((first.0, h.short, first.1, λ i from to. in_name (get_or n i 0) (h.characters i 0 to), name_free n h.begins capitals h.free), capitals)

-- the word behind a local label's colon
pub label_word : (n : List ℕ) → names.IsWord n → IsWord n
label_word n h = let first = begins n h.begins in ((first.0, h.short, first.1, λ i from to. in_name (get_or n i 0) (h.characters i 0 to)), in_capitals n h.characters)

quoted : (c : ℕ) → IsQuoted c → IsTrue (is_in class.Quoted c)
quoted c h = let a = h.1 in let b = h.2 in let d = h.3 in grind (arith, nat_tests)

pub string_lexeme : (t : List ℕ) → All IsQuoted t → IsLexeme (string t)
string_lexeme t h = (λ i from to. quoted (get_or t i 0) (h i 0 to), λ i to. (h i 0 to).0)
