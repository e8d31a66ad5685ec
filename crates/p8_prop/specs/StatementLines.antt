-- The lines of a method (Propeller Manual v1.2, "Spin Language Reference": IF, CASE, REPEAT, NEXT, QUIT, RETURN and ABORT). A line ends with the end of
-- its line, an item of a CASE and its OTHER with the colon.
use Rattle.std.specs.Prelude.{true, false, List, [], ◌∷◌, Option, None, Some, option_map}
use Rattle.p8_tree.specs.Expressions.{Tree, node, Var, Named, no_index, single, range, Items, no_items, ◌▸◌}
use Rattle.p8_tree.specs.Statements.{Course, Forever, Count, Before, From as counting, Do, Next as next, Quit as quit, Return as return, Abort as abort}
use Rattle.p8_lexer.specs.declared.word.Word.TheVariants.{LineEnd, Comma, Colon, DotDot, If, Ifnot, Elseif, Elseifnot, Else, Case, Other, Repeat, While}
use Rattle.p8_lexer.specs.declared.word.Word.TheVariants.{Until, Next, Quit, Return, Abort, From, To, Step}
use Rattle.p8_lexer.specs.Pieces.{Piece, word, tree}
use Rattle.p8_columns.specs.Lines as lines
use Rattle.p8_columns.specs.Lines.{Kind, Plain, ElseIf, End, Item}

-- this where the line ends, and a value up to there
abbrev pub ended : {X : Type 0} → X → List Piece → Option X
ended x (word LineEnd p ∷ []) = Some x
ended x _ = None

abbrev pub value : List Piece → Option Tree
value (tree e p ∷ row) = ended e row
value _ = None

-- a value after RETURN and ABORT, or none
abbrev pub maybe_value : List Piece → Option (Option Tree)
maybe_value (tree e p ∷ row) = ended (Some e) row
maybe_value row = ended None row

-- a TO b and a TO b STEP c, behind a counter, which is a name, and FROM
abbrev pub counts : Tree → List Piece → Option Course
counts (node q (Var (Named n no_index p))) (tree a r ∷ word To s ∷ tree b t ∷ word Step u ∷ row) = option_map (λ c. counting n a b (Some c) p) (value row)
counts (node q (Var (Named n no_index p))) (tree a r ∷ word To s ∷ tree b t ∷ row) = ended (counting n a b None p) row
counts e row = None

-- what stands behind REPEAT
abbrev pub course : List Piece → Option Course
course (word While p ∷ row) = option_map (Before false) (value row)
course (word Until p ∷ row) = option_map (Before true) (value row)
course (tree e p ∷ word From q ∷ row) = counts e row
course (tree e p ∷ row) = ended (Count e) row
course row = ended Forever row

-- the tests e and e..e of a CASE's item, after these
abbrev pub tests : Items → List Piece → Option Items
tests xs (tree a p ∷ word DotDot q ∷ tree b r ∷ word Comma s ∷ row) = tests (xs ▸ range a b) row
tests xs (tree a p ∷ word DotDot q ∷ tree b r ∷ word Colon s ∷ []) = Some (xs ▸ range a b)
tests xs (tree a p ∷ word Comma q ∷ row) = tests (xs ▸ single a) row
tests xs (tree a p ∷ word Colon q ∷ []) = Some (xs ▸ single a)
tests xs _ = None

-- what a line is
abbrev pub kind_of : List Piece → Option Kind
kind_of (word If p ∷ row) = option_map (lines.If false) (value row)
kind_of (word Ifnot p ∷ row) = option_map (lines.If true) (value row)
kind_of (word Elseif p ∷ row) = option_map (ElseIf false) (value row)
kind_of (word Elseifnot p ∷ row) = option_map (ElseIf true) (value row)
kind_of (word Else p ∷ row) = ended lines.Else row
kind_of (word Case p ∷ row) = option_map lines.Case (value row)
kind_of (word Other p ∷ word Colon q ∷ []) = Some lines.Other
kind_of (word Repeat p ∷ row) = option_map lines.Repeat (course row)
kind_of (word While p ∷ row) = option_map (End false) (value row)
kind_of (word Until p ∷ row) = option_map (End true) (value row)
kind_of (word Next p ∷ row) = ended (Plain next) row
kind_of (word Quit p ∷ row) = ended (Plain quit) row
kind_of (word Return p ∷ row) = option_map (λ e. Plain (return e)) (maybe_value row)
kind_of (word Abort p ∷ row) = option_map (λ e. Plain (abort e)) (maybe_value row)
kind_of (tree e p ∷ word LineEnd q ∷ []) = Some (Plain (Do e))
kind_of row = option_map Item (tests no_items row)
