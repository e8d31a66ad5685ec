-- What a row of a method's line says by its words is what it says by its roles.
use Rattle.std.proofs.Common.{◌≡◌, ap, refl, List, [], ◌∷◌, Some, None}
use Rattle.std.specs.Prelude.{true, false, option_map, option_and_then}
use Rattle.p8_tree.specs.Expressions.{Tree, node, Var, Named, no_index, single, range, Items, no_items, ◌▸◌}
use Rattle.p8_tree.specs.declared.places.Place.{Place}
use Rattle.p8_tree.specs.Statements.{Before, From, Next, Quit, Return, Abort}
use Rattle.p8_lexer.specs.declared.word.Word.TheVariants as words
use Rattle.p8_lexer.specs.Pieces.{Piece, word, tree}
use Rattle.p8_columns.specs.Lines as lines
use Rattle.p8_statements.specs.Roles.{role_of}
use Rattle.p8_statements.specs.Rows as rows
use Rattle.p8_statements.specs.Statements as old
use Rattle.p8_prop.specs.StatementLines.{ended, value, maybe_value, counts, course, tests, kind_of}

ended-same : {X : Type 0} (x : X) (row : List Piece) → ended x row ≡ rows.ending x row
unfolding role_of
ended-same x (word words.LineEnd p ∷ []) = refl
ended-same x (word words.LineEnd p ∷ z ∷ row) = refl
ended-same x (word w p ∷ row) = refl
ended-same x row = refl

value-same : (row : List Piece) → value row ≡ rows.value_in row
unfolding role_of
value-same (tree e p ∷ word words.LineEnd q ∷ []) = refl
value-same (tree e p ∷ word words.LineEnd q ∷ z ∷ row) = refl
value-same (tree e p ∷ word w q ∷ row) = refl
value-same row = refl

maybe-same : (row : List Piece) → maybe_value row ≡ old.maybe_value row
unfolding role_of
maybe-same (tree e p ∷ row) = ended-same (Some e) row
maybe-same (word words.LineEnd p ∷ []) = refl
maybe-same (word words.LineEnd p ∷ z ∷ row) = refl
maybe-same (word w p ∷ row) = refl
maybe-same row = refl

counts-same : (e : Tree) (row : List Piece) → counts e row ≡ option_and_then (λ c. old.counting c.0 c.1 row) (old.counter e)
unfolding role_of
counts-same (node q (Var (Named n no_index p))) (tree a r ∷ word words.To s ∷ tree b t ∷ word words.Step u ∷ row) =
    ap (option_map (λ c. From n a b (Some c) p)) (value-same row)
counts-same (node q (Var (Named n no_index p))) (tree a r ∷ word words.To s ∷ tree b t ∷ word words.LineEnd u ∷ []) = refl
counts-same (node q (Var (Named n no_index p))) (tree a r ∷ word words.To s ∷ tree b t ∷ word words.LineEnd u ∷ z ∷ row) = refl
counts-same (node q (Var (Named n no_index p))) (tree a r ∷ word words.To s ∷ tree b t ∷ word w u ∷ row) = refl
counts-same (node q (Var (Named n no_index p))) (tree a r ∷ word words.To s ∷ row) = refl
counts-same (node q (Var (Named n no_index p))) (tree a r ∷ word w s ∷ row) = refl
counts-same e row = refl

course-same : (row : List Piece) → course row ≡ old.course row
unfolding role_of
course-same (word words.While p ∷ row) = ap (option_map (Before false)) (value-same row)
course-same (word words.Until p ∷ row) = ap (option_map (Before true)) (value-same row)
course-same (word words.LineEnd p ∷ []) = refl
course-same (word words.LineEnd p ∷ z ∷ row) = refl
course-same (word w p ∷ row) = refl
course-same (tree e p ∷ word words.From q ∷ row) = counts-same e row
course-same (tree e p ∷ word words.LineEnd q ∷ []) = refl
course-same (tree e p ∷ word words.LineEnd q ∷ z ∷ row) = refl
course-same (tree e p ∷ word w q ∷ row) = refl
course-same row = refl

tests-same : (row : List Piece) (xs : Items) → tests xs row ≡ old.tests_after xs None row
unfolding role_of
tests-same (tree a p ∷ word words.DotDot q ∷ tree b r ∷ word words.Comma s ∷ row) xs = tests-same row (xs ▸ range a b)
tests-same (tree a p ∷ word words.DotDot q ∷ tree b r ∷ word words.Colon s ∷ []) xs = refl
tests-same (tree a p ∷ word words.DotDot q ∷ tree b r ∷ word words.Colon s ∷ z ∷ row) xs = refl
tests-same (tree a p ∷ word words.DotDot q ∷ tree b r ∷ word w s ∷ row) xs = refl
tests-same (tree a p ∷ word words.DotDot q ∷ row) xs = refl
tests-same (tree a p ∷ word words.Comma q ∷ row) xs = tests-same row (xs ▸ single a)
tests-same (tree a p ∷ word words.Colon q ∷ []) xs = refl
tests-same (tree a p ∷ word words.Colon q ∷ z ∷ row) xs = refl
tests-same (tree a p ∷ word w q ∷ row) xs = refl
tests-same row xs = refl

other-same : (row : List Piece) (p : Place) → kind_of (word words.Other p ∷ row) ≡ old.other_line row
unfolding role_of
other-same (word words.Colon q ∷ []) p = refl
other-same (word words.Colon q ∷ z ∷ row) p = refl
other-same (word w q ∷ row) p = refl
other-same row p = refl

pub kind-same : (row : List Piece) → kind_of row ≡ old.kind_of_row row
unfolding role_of
kind-same (word words.If p ∷ row) = ap (option_map (lines.If false)) (value-same row)
kind-same (word words.Ifnot p ∷ row) = ap (option_map (lines.If true)) (value-same row)
kind-same (word words.Elseif p ∷ row) = ap (option_map (lines.ElseIf false)) (value-same row)
kind-same (word words.Elseifnot p ∷ row) = ap (option_map (lines.ElseIf true)) (value-same row)
kind-same (word words.Else p ∷ row) = ended-same lines.Else row
kind-same (word words.Case p ∷ row) = ap (option_map lines.Case) (value-same row)
kind-same (word words.Other p ∷ row) = other-same row p
kind-same (word words.Repeat p ∷ row) = ap (option_map lines.Repeat) (course-same row)
kind-same (word words.While p ∷ row) = ap (option_map (lines.End false)) (value-same row)
kind-same (word words.Until p ∷ row) = ap (option_map (lines.End true)) (value-same row)
kind-same (word words.Next p ∷ row) = ended-same (lines.Plain Next) row
kind-same (word words.Quit p ∷ row) = ended-same (lines.Plain Quit) row
kind-same (word words.Return p ∷ row) = ap (option_map (λ e. lines.Plain (Return e))) (maybe-same row)
kind-same (word words.Abort p ∷ row) = ap (option_map (λ e. lines.Plain (Abort e))) (maybe-same row)
kind-same (word w p ∷ row) = refl
kind-same (tree e p ∷ word words.LineEnd q ∷ []) = refl
kind-same (tree e p ∷ word words.LineEnd q ∷ z ∷ row) = refl
kind-same (tree e p ∷ word w q ∷ row) = ap (option_map lines.Item) (tests-same (tree e p ∷ word w q ∷ row) no_items)
kind-same row = refl
