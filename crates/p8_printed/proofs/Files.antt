-- A tree whose blocks can be printed is read from what is printed of it, but for places.
use Rattle.std.proofs.Common.{◌≡◌, ℕ, ◌<◌, List, [], ◌∷◌, map, EachIndex, refl, sym, subst}
use Rattle.std.specs.Prelude.{slice_index}
use Rattle.std.specs.List.{AllByRecursion as Each}
use Rattle.std.proofs.lemmas.List.Elements.{recursion_from_All, All-from_recursion}
use Rattle.p8_tree.specs.Sources.{Source}
use Rattle.p8_tree.specs.Forgetting.{IsSameSource}
use Rattle.p8_lexer.specs.declared.token.Token as lexer_token
use Rattle.p8_lexer.specs.declared.word.Word.TheVariants as word_case
use Rattle.p8_lexer.specs.Lexing.{AreTokens}
use Rattle.p8_grammar.specs.Lexemes.{other}
use Rattle.p8_expr.specs.Words.{token_of, lexeme_of_token, lexeme_of_word}
use Rattle.p8_lines.specs.Tokens.{LineToken, lexeme, term, terms, line_token, text_end, all_tokens}
use Rattle.p8_blocks.specs.Trees.{IsShallow}
use Rattle.p8_blocks.specs.Files.{IsFileWithinLimits}
use Rattle.p8_lines.proofs.Texts.{text_end_other}
use Rattle.p8_print.specs.Spelled.{text_of_lines}
use Rattle.p8_printed.proofs.SpelledLines.{read_back}
use Rattle.p8_grammar.specs.Proper.{lexeme_in}
use Rattle.p8_expr.specs.Sources.{IsLexeme, AreLexemes}
use Rattle.p8_print.specs.Layout.{lines_of}
use Rattle.p8_printed.specs.Rereading.{AreOfSource}
use Rattle.p8_printed.specs.Trees.{IsOfFile}
use Rattle.p8_printed.proofs.Elements.{each_append, each_map}
use Rattle.p8_printed.proofs.Spelt.{spelled_lines}
use Rattle.p8_printed.proofs.Printable.{IsPrintable, source_readable}
use Rattle.p8_printed.proofs.Reread.{reread}

-- a token that a source can have
abbrev IsOfSource : LineToken → Type 0
IsOfSource t = IsLexeme (lexeme t)

of_source : (ts : List LineToken) → Each IsOfSource ts → AreOfSource ts
of_source ts h = All-from_recursion (λ t. IsLexeme (lexeme_in t)) (terms ts) (each_map (λ t. IsLexeme (lexeme_in t)) term ts h)

same_lexeme : (bytes : List ℕ) (t : lexer_token.Token) → lexeme_in (token_of bytes t) ≡ lexeme (line_token bytes t)
unfolding token_of lexeme_of_token
same_lexeme bytes t = refl

of_tokens : (bytes : List ℕ) (tokens : List lexer_token.Token) → Each (λ t. IsLexeme (lexeme_in t)) (map (token_of bytes) tokens) → Each IsOfSource (map (line_token bytes) tokens)
of_tokens bytes [] h = tt
of_tokens bytes (t ∷ tokens) h = (subst IsLexeme (same_lexeme bytes t) h.0, of_tokens bytes tokens h.1)

other_word : IsLexeme other
unfolding lexeme_of_word
other_word = (word_case.LineEnd, refl)

end_of_source : (ts : List LineToken) → IsOfSource (text_end ts)
end_of_source ts = subst IsLexeme (sym (text_end_other ts)) other_word

-- the tokens of a file are those that a source can have
abbrev AreLexemesRead : Type 0
AreLexemesRead = (bytes : List ℕ) (tokens : List lexer_token.Token) → EachIndex bytes (λ i. slice_index bytes i < 256) → AreTokens bytes tokens → AreLexemes (map (token_of bytes) tokens)

pub tree_of_file : AreLexemesRead → (bytes : List ℕ) (tokens : List lexer_token.Token) (s : Source) → EachIndex bytes (λ i. slice_index bytes i < 256) → AreTokens bytes tokens → IsFileWithinLimits s (all_tokens bytes tokens) → IsOfFile s
tree_of_file are_lexemes bytes tokens s small are file =
    let ts = map (line_token bytes) tokens in
    let lexemes = of_tokens bytes tokens (recursion_from_All (λ t. IsLexeme (lexeme_in t)) (map (token_of bytes) tokens) (are_lexemes bytes tokens small are)) in
    record { tokens = all_tokens bytes tokens; of_source = of_source (all_tokens bytes tokens) (each_append IsOfSource ts (text_end ts ∷ []) lexemes (end_of_source ts, tt)); file = file }

-- a tree whose blocks can be printed
pub printable_again : (s : Source) → Each IsPrintable s → IsShallow s → (tokens : List lexer_token.Token) × (s' : Source) × AreTokens (text_of_lines (lines_of s)) tokens × IsFileWithinLimits s' (all_tokens (text_of_lines (lines_of s)) tokens) × IsSameSource s' s
printable_again s printable shallow =
    let text = text_of_lines (lines_of s) in
    let again = read_back (lines_of s) (source_readable s printable) in
    let us = map (line_token text) again.0 in
    let read = reread s us (text_end us) printable shallow (spelled_lines text 1 (lines_of s) again.0 again.2) refl in
    (again.0, read.source, again.1, (read.file, read.shallow), read.same)
