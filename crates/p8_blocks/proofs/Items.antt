-- A line of CON that isn't its first declares something.
use Rattle.std.proofs.Common.{◌≡◌, ℕ, List, [], ◌∷◌, Option, Some, None, Bool, true, false, refl, sym, ap, ◌∙◌}
use Rattle.std.specs.Prelude.{◌≢◌, if◌then◌else◌}
use Rattle.p8_tree.specs.declared.places.Place.{Place}
use Rattle.p8_tree.specs.Sources.{Constant}
use Rattle.p8_lexer.specs.declared.word.Word.{Word}
use Rattle.p8_lexer.specs.declared.word.Word.TheVariants as word_case
use Rattle.p8_grammar.specs.Lexemes as lexemes
use Rattle.p8_grammar.specs.Lexemes.{Lexeme}
use Rattle.p8_lexer.specs.Pieces.{Piece}
use Rattle.p8_lines.specs.declared.state.LineState.TheVariants as state
use Rattle.p8_lines.specs.Tokens.{LineToken, word, lexeme, piece_from, piece}
use Rattle.p8_declarations.specs.Parts.{Part, line_end, comma, equals, hash, left_bracket, right_bracket, name, tree, part_of_word, part_of_piece, parts, is_line_end, ended, with_first}
use Rattle.p8_declarations.specs.Constants.{setting, constant, constants, constants_named, constants_behind, constants_of_row}
use Rattle.p8_blocks.specs.Files.{Heights}
use Rattle.p8_blocks.proofs.Firsts.{first_taken, first_inside}
use Rattle.p8_blocks.proofs.Saying.{begins_with}
use Rattle.p8_blocks.proofs.Walks.{Valued, row_of_line}

-- a list with something in it
pub record Filled {A : Type 0} (xs : List A) : Type 0 where
  pub first : A
  pub others : List A
  pub is : xs ≡ first ∷ others

with_more : (x : Constant) (o : Option (List Constant)) (ys : List Constant) → with_first x o ≡ Some ys → Filled ys
with_more x None ys e = absurd cc
with_more x (Some xs) ys e = let z : x ∷ xs ≡ ys = cc in record { first = x; others = xs; is = sym z }

named : (n : List ℕ) (p : Place) (ps : List Part) (ys : List Constant) → constants_named n p ps ≡ Some ys → Filled ys
named n p (equals ∷ tree e ∷ rest) ys h = with_more (constant n p (Some e) None) (constants_behind rest) ys h
named n p (left_bracket ∷ tree e ∷ right_bracket ∷ rest) ys h = with_more (constant n p None (Some e)) (constants_behind rest) ys h
named n p (comma ∷ rest) ys h = with_more (constant n p None None) (constants rest) ys h
named n p (line_end ∷ rest) ys h = with_more (constant n p None None) (ended rest) ys h
named n p ps ys h = absurd cc

some_constants : (ps : List Part) (ys : List Constant) → constants ps ≡ Some ys → Filled ys
some_constants (hash p ∷ tree e ∷ rest) ys h = with_more (setting p e) (constants_behind rest) ys h
some_constants (name n p ∷ rest) ys h = named n p rest ys h
some_constants ps ys h = absurd cc

end_of_word : (w : Word) (p : Place) (ps : List Part) → is_line_end (part_of_word w p ∷ ps) ≡ true → w ≡ word_case.LineEnd
unfolding part_of_word
end_of_word word_case.LineEnd p ps h = refl
end_of_word w p ps h = absurd cc

end_of_piece : (t : LineToken) (ps : List Part) → is_line_end (part_of_piece (piece t) ∷ ps) ≡ true → word t ≡ word_case.LineEnd
end_of_piece t ps h = go (lexeme t) h
  where
    go : (l : Lexeme) → is_line_end (part_of_piece (piece_from l (word t) t.place) ∷ ps) ≡ true → word t ≡ word_case.LineEnd
    go (lexemes.name n) h = absurd cc
    go (lexemes.string s) h = absurd cc
    go l h = end_of_word (word t) t.place ps h

pub item_declares : (h : Heights) (t : LineToken) (us : List LineToken) (xs : List Constant) → Valued h constants_of_row state.ConItem (t ∷ us) xs → Filled xs
item_declares h t us xs v =
    let x = row_of_line h state.ConItem v.row (t ∷ us) v.line in
    let y = begins_with t us x refl refl refl in
    let no_end = (first_inside state.ConItem t refl (first_taken t us x refl)).not_end in
    go y.0 (is_line_end (parts (piece t ∷ y.0))) refl no_end (ap constants_of_row (sym y.1) ∙ v.is)
  where
    go : (row : List Piece) (b : Bool) → is_line_end (parts (piece t ∷ row)) ≡ b → word t ≢ word_case.LineEnd → (if b then Some [] else constants (parts (piece t ∷ row))) ≡ Some xs → Filled xs
    go row true e n f = absurd (n (end_of_piece t (parts row) e))
    go row false e n f = some_constants (parts (piece t ∷ row)) xs f
