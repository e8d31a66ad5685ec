-- The sentence's sources are those by the code's table of words and by the code's functions of rows, both ways.
use Rattle.std.proofs.Common.{◌≡◌, ◌⊎◌, inl, inr, ◌∙◌, sym, ap, ap₂, subst, refl, ℕ, Bool, List, [], ◌∷◌, Option}
use Rattle.std.specs.Prelude.{IsTrue, if◌then◌else◌, ◌&&◌, ◌||◌, not}
use Rattle.std.specs.List.{list_any}
use Rattle.p8_tree.specs.Sources.{BlockTree, Source}
use Rattle.p8_lexer.specs.declared.word.Word.{Word}
use Rattle.p8_lexer.specs.declared.word.Word.TheVariants as words
use Rattle.p8_lexer.specs.Pieces.{Piece}
use Rattle.p8_grammar.specs.Lexemes as lexemes
use Rattle.p8_grammar.specs.Lexemes.{Setting, in_dat, in_data_item}
use Rattle.p8_grammar.specs.Grammar.{IsExpression}
use Rattle.p8_columns.specs.Lines as lines
use Rattle.p8_lines.specs.Signs as signs
use Rattle.p8_lines.specs.Tokens as old
use Rattle.p8_lines.specs.Tokens.{LineToken}
use Rattle.p8_declarations.specs.Constants.{constants_of_row}
use Rattle.p8_declarations.specs.Variables.{variables_of_row}
use Rattle.p8_declarations.specs.Objects.{objects_of_row}
use Rattle.p8_declarations.specs.Methods.{method_of_row}
use Rattle.p8_statements.specs.Statements.{kind_of_row}
use Rattle.p8_blocks.specs.Files as files
use Rattle.p8_prop.specs.Tokens as tokens
use Rattle.p8_prop.specs.DeclaredLines.{constants_of, variables_of, objects_of, method_of}
use Rattle.p8_prop.specs.DataLines.{lines_of}
use Rattle.p8_prop.specs.StatementLines.{kind_of}
use Rattle.p8_prop.specs.Sources as said
use Rattle.p8_prop.specs.Sources.{Spelling, declared, headed, in_text, is_open}
use Rattle.p8_prop.proofs.Reading as read
use Rattle.p8_prop.proofs.Reading.{data_of_row}
use Rattle.p8_prop.proofs.SaidWords.{token-word, token-lexeme, terms-same, piece-same, size-same}
use Rattle.p8_prop.proofs.Closing.{closed, row-closed}
use Rattle.p8_prop.proofs.SaidStatements.{kind-same}
use Rattle.p8_prop.proofs.SaidDeclarations.{constants-same, variables-same, objects-same, method-same}
use Rattle.p8_prop.proofs.SaidData.{lines-same}

-- ---- settings and ends

sizes-same : (ws : List Word) → list_any tokens.is_size ws ≡ list_any signs.is_size ws
sizes-same [] = refl
sizes-same (w ∷ ws) = ap₂ (λ (b : Bool) (c : Bool). b || c) (size-same w) (sizes-same ws)

data-same : (before : List Word) (w : Word) → said.in_data before w ≡ read.in_data before w
data-same before w = ap (λ (b : Bool). if b && not (is_open before) then in_data_item else in_dat) (sizes-same before)

end-to : (t : LineToken) → (old.word t ≡ words.LineEnd) ⊎ (old.word t ≡ words.Colon) → (tokens.word t ≡ words.LineEnd) ⊎ (tokens.word t ≡ words.Colon)
end-to t (inl e) = inl (token-word t ∙ e)
end-to t (inr e) = inr (token-word t ∙ e)

end-from : (t : LineToken) → (tokens.word t ≡ words.LineEnd) ⊎ (tokens.word t ≡ words.Colon) → (old.word t ≡ words.LineEnd) ⊎ (old.word t ≡ words.Colon)
end-from t (inl e) = inl (sym (token-word t) ∙ e)
end-from t (inr e) = inr (sym (token-word t) ∙ e)

head-to : {w : Word} {t : LineToken} → files.IsHead w t → tokens.IsHead w t
head-to {t = t} h = record { is = token-word t ∙ h.is; first = h.first }

head-from : {w : Word} {t : LineToken} → tokens.IsHead w t → files.IsHead w t
head-from {t = t} h = record { is = sym (token-word t) ∙ h.is; first = h.first }

-- ---- lines

module _ (new spelled : Spelling) (same : (before : List Word) (w : Word) → new before w ≡ spelled before w) where
  setting-same : (before : List Word) (t : LineToken) → new before (tokens.word t) ≡ spelled before (old.word t)
  setting-same before t = ap (new before) (token-word t) ∙ same before (old.word t)

  row-to : {before : List Word} {row : List Piece} {ts : List LineToken} → read.Row spelled before row ts → said.Row new before row ts
  row-to (read.last {before = before} t end) =
      subst (λ (x : Piece). said.Row new before (x ∷ []) (t ∷ [])) (piece-same t) (said.last t (end-to t end))
  row-to (read.a_token {before = before} {row = row} {ts = ts} t ahead rest) =
      subst (λ (x : Piece). said.Row new before (x ∷ row) (t ∷ ts)) (piece-same t)
      (said.a_token t (λ e. ahead (sym (token-word t) ∙ e)) (subst (λ (w : Word). said.Row new (w ∷ before) row ts) (sym (token-word t)) (row-to rest)))
  row-to (read.a_label t is rest) = said.a_label t (ap lexemes.name_in (token-lexeme t) ∙ is) (row-to rest)
  row-to (read.an_expression {before = before} {e = e} first others t is rest) =
      said.an_expression first others t
      (subst (λ (s : Setting). IsExpression s e (tokens.terms (first ∷ others))) (sym (setting-same before t))
      (subst (λ (us : List lexemes.Token). IsExpression (spelled before (old.word t)) e us) (sym (terms-same (first ∷ others))) is))
      (row-to rest)

  row-from : {before : List Word} {row : List Piece} {ts : List LineToken} → said.Row new before row ts → read.Row spelled before row ts
  row-from (said.last {before = before} t end) =
      subst (λ (x : Piece). read.Row spelled before (x ∷ []) (t ∷ [])) (sym (piece-same t)) (read.last t (end-from t end))
  row-from (said.a_token {before = before} {row = row} {ts = ts} t ahead rest) =
      subst (λ (x : Piece). read.Row spelled before (x ∷ row) (t ∷ ts)) (sym (piece-same t))
      (read.a_token t (λ e. ahead (token-word t ∙ e)) (subst (λ (w : Word). read.Row spelled (w ∷ before) row ts) (token-word t) (row-from rest)))
  row-from (said.a_label t is rest) = read.a_label t (sym (ap lexemes.name_in (token-lexeme t)) ∙ is) (row-from rest)
  row-from (said.an_expression {before = before} {e = e} first others t is rest) =
      read.an_expression first others t
      (subst (λ (s : Setting). IsExpression s e (old.terms (first ∷ others))) (setting-same before t)
      (subst (λ (us : List lexemes.Token). IsExpression (new before (tokens.word t)) e us) (terms-same (first ∷ others)) is))
      (row-from rest)

  module _ {X : Type 0} (value code : List Piece → Option X) (agree : (row : List Piece) → IsTrue (closed row) → value row ≡ code row) where
    line-to : {x : X} {ts : List LineToken} → read.IsLine spelled code x ts → said.IsLine new value x ts
    line-to (row, reads, is) = (row, row-to reads, agree row (row-closed reads) ∙ is)

    line-from : {x : X} {ts : List LineToken} → said.IsLine new value x ts → read.IsLine spelled code x ts
    line-from (row, reads, is) = (row, row-from reads, sym (agree row (row-closed (row-from reads))) ∙ is)

  module _ {X : Type 0} (value code : List Piece → Option (List X)) (agree : (row : List Piece) → IsTrue (closed row) → value row ≡ code row) where
    declare-to : {xs : List X} {ts : List LineToken} → read.Declare spelled code xs ts → said.Declare new value xs ts
    declare-to read.no_line = said.no_line
    declare-to (read.a_blank t is rest) = said.a_blank t (token-word t ∙ is) (declare-to rest)
    declare-to (read.a_line line rest) = said.a_line (line-to value code agree line) (declare-to rest)

    declare-from : {xs : List X} {ts : List LineToken} → said.Declare new value xs ts → read.Declare spelled code xs ts
    declare-from said.no_line = read.no_line
    declare-from (said.a_blank t is rest) = read.a_blank t (sym (token-word t) ∙ is) (declare-from rest)
    declare-from (said.a_line line rest) = read.a_line (line-from value code agree line) (declare-from rest)

same : (spelled : Spelling) (before : List Word) (w : Word) → spelled before w ≡ spelled before w
same spelled before w = refl

constants-agree : (row : List Piece) → IsTrue (closed row) → constants_of row ≡ constants_of_row row
constants-agree row ends = constants-same row

variables-agree : (row : List Piece) → IsTrue (closed row) → variables_of row ≡ variables_of_row row
variables-agree row ends = variables-same row

objects-agree : (row : List Piece) → IsTrue (closed row) → objects_of row ≡ objects_of_row row
objects-agree row ends = objects-same row

heads-agree : (public : Bool) (row : List Piece) → IsTrue (closed row) → method_of public row ≡ method_of_row public row
heads-agree public row ends = method-same public row

kinds-agree : (row : List Piece) → IsTrue (closed row) → kind_of row ≡ kind_of_row row
kinds-agree row ends = kind-same row

texts-to : {ls : List lines.Line} {ts : List LineToken} → read.AreLines ls ts → said.AreLines ls ts
texts-to read.no_line = said.no_line
texts-to (read.a_blank t is rest) = said.a_blank t (token-word t ∙ is) (texts-to rest)
texts-to (read.a_line t line rest) = said.a_line t (line-to in_text in_text (same in_text) kind_of kind_of_row kinds-agree line) (texts-to rest)

texts-from : {ls : List lines.Line} {ts : List LineToken} → said.AreLines ls ts → read.AreLines ls ts
texts-from said.no_line = read.no_line
texts-from (said.a_blank t is rest) = read.a_blank t (sym (token-word t) ∙ is) (texts-from rest)
texts-from (said.a_line t line rest) = read.a_line t (line-from in_text in_text (same in_text) kind_of kind_of_row kinds-agree line) (texts-from rest)

-- ---- blocks and files

block-to : {b : BlockTree} {ts : List LineToken} → read.IsBlock b ts → said.IsBlock b ts
block-to (read.con t head line rest) =
    said.con t (head-to head) (line-to declared declared (same declared) constants_of constants_of_row constants-agree line)
    (declare-to declared declared (same declared) constants_of constants_of_row constants-agree rest)
block-to (read.var t head line rest) =
    said.var t (head-to head) (line-to declared declared (same declared) variables_of variables_of_row variables-agree line)
    (declare-to declared declared (same declared) variables_of variables_of_row variables-agree rest)
block-to (read.obj t head line rest) =
    said.obj t (head-to head) (line-to declared declared (same declared) objects_of objects_of_row objects-agree line)
    (declare-to declared declared (same declared) objects_of objects_of_row objects-agree rest)
block-to (read.dat t head line rest) =
    said.dat t (head-to head) (line-to said.in_data read.in_data data-same lines_of data_of_row lines-same line)
    (declare-to said.in_data read.in_data data-same lines_of data_of_row lines-same rest)
block-to (read.method public t head line rest are) =
    said.method public t (head-to head) (line-to headed headed (same headed) (method_of public) (method_of_row public) (heads-agree public) line)
    (texts-to rest) are

block-from : {b : BlockTree} {ts : List LineToken} → said.IsBlock b ts → read.IsBlock b ts
block-from (said.con t head line rest) =
    read.con t (head-from head) (line-from declared declared (same declared) constants_of constants_of_row constants-agree line)
    (declare-from declared declared (same declared) constants_of constants_of_row constants-agree rest)
block-from (said.var t head line rest) =
    read.var t (head-from head) (line-from declared declared (same declared) variables_of variables_of_row variables-agree line)
    (declare-from declared declared (same declared) variables_of variables_of_row variables-agree rest)
block-from (said.obj t head line rest) =
    read.obj t (head-from head) (line-from declared declared (same declared) objects_of objects_of_row objects-agree line)
    (declare-from declared declared (same declared) objects_of objects_of_row objects-agree rest)
block-from (said.dat t head line rest) =
    read.dat t (head-from head) (line-from said.in_data read.in_data data-same lines_of data_of_row lines-same line)
    (declare-from said.in_data read.in_data data-same lines_of data_of_row lines-same rest)
block-from (said.method public t head line rest are) =
    read.method public t (head-from head) (line-from headed headed (same headed) (method_of public) (method_of_row public) (heads-agree public) line)
    (texts-from rest) are

file-to : {s : Source} {ts : List LineToken} → read.IsFile s ts → said.IsFile s ts
file-to (read.first rest) = said.first (declare-to declared declared (same declared) constants_of constants_of_row constants-agree rest)
file-to (read.one_more before last) = said.one_more (file-to before) (block-to last)

file-from : {s : Source} {ts : List LineToken} → said.IsFile s ts → read.IsFile s ts
file-from (said.first rest) = read.first (declare-from declared declared (same declared) constants_of constants_of_row constants-agree rest)
file-from (said.one_more before last) = read.one_more (file-from before) (block-from last)

pub source-to : {bytes : List ℕ} {s : Source} → read.IsSource bytes s → said.IsSource bytes s
source-to is = record { whole = is.whole; tokens = is.tokens; cut = is.cut; is = file-to is.is }

pub source-from : {bytes : List ℕ} {s : Source} → said.IsSource bytes s → read.IsSource bytes s
source-from is = record { whole = is.whole; tokens = is.tokens; cut = is.cut; is = file-from is.is }
