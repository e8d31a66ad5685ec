-- Each row from the beginning of a method's line on is a line of a kind that suits that beginning.
use Rattle.std.proofs.Common.{◌≡◌, ℕ, List, [], ◌∷◌, map, Option, Some, None, Bool, true, false, refl, ap, subst}
use Rattle.std.specs.Prelude.{IsTrue, if◌then◌else◌, option_map, option_and_then}
use Rattle.p8_tree.specs.declared.places.Place.{Place}
use Rattle.p8_tree.specs.Expressions.{Tree, single, range, Items, no_items, ◌▸◌}
use Rattle.p8_tree.specs.Statements.{Before, From, Do, Next, Quit, Return, Abort}
use Rattle.p8_lexer.specs.declared.word.Word.TheVariants as words
use Rattle.p8_columns.specs.Lines.{Kind, Plain, If, ElseIf, Else, Repeat, End, Case, Item as ItemLine, Other}
use Rattle.p8_lexer.specs.Pieces.{Piece, word}
use Rattle.p8_lines.specs.declared.state.LineState.{LineState}
use Rattle.p8_lines.specs.declared.state.LineState.TheVariants as state
use Rattle.p8_lines.specs.Tokens.{LineToken}
use Rattle.p8_lines.specs.Lines.{Row}
use Rattle.p8_statements.specs.Roles.{role_of}
use Rattle.p8_statements.specs.Rows.{◌▶◌, phrase, is_empty, ends, ending, value_in}
use Rattle.p8_statements.specs.Statements.{maybe_value, counted, counting, course, tests_after, other_line, kind_of_row}
use Rattle.p8_blocks.specs.Values.{HaveKinds, suits}
use Rattle.p8_blocks.proofs.Closed.{is_closed}
use Rattle.p8_blocks.proofs.Following.{Has, found, mapped, Keeps, both, holds}
use Rattle.p8_blocks.proofs.StatementPieces.{Each, each}

abbrev own : LineState → Bool
own state.End = true
own state.LineEnd = true
own state.Statement = true
own state.ChainLine = true
own state.LoopEndLine = true
own state.CaseItem = true
own state.LastValue = true
own state.Repeat = true
own state.From = true
own state.To = true
own state.MaybeValue = true
own state.CaseTest = true
own state.CaseRange = true
own state.OtherColon = true
own q = false

closed : (q : LineState) → IsTrue (is_closed own q)
closed state.End = refl
closed q = refl

-- a row is a line of a kind that suits the state
abbrev pub HasKind : LineState → Option Kind → Type 0
HasKind q o = (k : Kind) × (o ≡ Some k) × IsTrue (suits q k)

-- what is left of a line at each state
abbrev Goal : LineState → List Piece → Type 0
Goal state.End row = IsTrue (is_empty row)
Goal state.LineEnd row = IsTrue (ends row)
Goal state.Statement row = HasKind state.Statement (kind_of_row row)
Goal state.ChainLine row = HasKind state.ChainLine (kind_of_row row)
Goal state.LoopEndLine row = HasKind state.LoopEndLine (kind_of_row row)
Goal state.CaseItem row = HasKind state.CaseItem (kind_of_row row)
Goal state.LastValue row = Has (value_in row)
Goal state.Repeat row = Has (course row)
Goal state.From row = (n : List ℕ) (p : Place) → Has (counting n p row)
Goal state.To row = (n : List ℕ) (p : Place) (a : Tree) → Has (phrase row ▶ λ b row. counted n p a b.0 b.1 row)
Goal state.MaybeValue row = Has (maybe_value row)
Goal state.CaseTest row = (xs : Items) → Has (tests_after xs None row)
Goal state.CaseRange row = (xs : Items) (low : Tree) → Has (tests_after xs (Some low) row)
Goal state.OtherColon row = other_line row ≡ Some Other
Goal q row = Unit {0}

abbrev same : Piece → Piece
same x = x

-- kinds that suit by their values, and lines that end at once

kind : (q : LineState) {V : Type 0} (f : V → Kind) {o : Option V} → ((v : V) → IsTrue (suits q (f v))) → Has o → HasKind q (option_map f o)
kind q f s h = (f h.value, ap (option_map f) h.is, s h.value)

chosen : {X : Type 0} (x : X) (b : Bool) → IsTrue b → Has (if b then Some x else None)
chosen x true h = found x
chosen x false h = absurd cc

kind_at_end : (q : LineState) (k : Kind) (row : List Piece) → IsTrue (suits q k) → IsTrue (ends row) → HasKind q (ending k row)
kind_at_end q k row s h = go (ends row) h
  where
    go : (b : Bool) → IsTrue b → HasKind q (if b then Some k else None)
    go true h = (k, refl, s)
    go false h = absurd cc

item : {o : Option Items} → Has o → HasKind state.CaseItem (option_map ItemLine o)
item h = kind state.CaseItem ItemLine (λ v. refl) h

from_counter : (row : List Piece) (o : Option (List ℕ × Place)) → Has o → ((n : List ℕ) (p : Place) → Has (counting n p row)) → Has (option_and_then (λ c. counting c.0 c.1 row) o)
from_counter row None h g = let none = h.is in absurd cc
from_counter row (Some c) h g = g c.0 c.1

keeps : (q : LineState) (row : List Piece) → IsTrue (own q) → Keeps same Each Goal q row
unfolding role_of
keeps state.End row h = record { arrows = tt; phrase = tt }
keeps state.LineEnd row h = record { arrows = ((λ g p. g), tt); phrase = tt }
keeps state.Statement row h = record {
  arrows = (
    (λ g p. kind state.Statement (If false) (λ v. refl) g),
    (
      (λ g p. kind state.Statement (If true) (λ v. refl) g),
      (
        (λ g p. kind state.Statement Case (λ v. refl) g),
        (
          (λ g p. kind state.Statement Repeat (λ v. refl) g),
          (
            (λ g p. kind_at_end state.Statement (Plain Next) row refl g),
            (
              (λ g p. kind_at_end state.Statement (Plain Quit) row refl g),
              (
                (λ g p. kind state.Statement (λ e. Plain (Return e)) (λ v. refl) g),
                ((λ g p. kind state.Statement (λ e. Plain (Abort e)) (λ v. refl) g), tt),
              ),
            ),
          ),
        ),
      ),
    ),
  );
  phrase = both same Each Goal state.Statement row (λ b. ((λ g q e p k. kind_at_end state.Statement (Plain (Do e)) (word words.LineEnd q ∷ row) refl g), tt));
}
keeps state.ChainLine row h = record {
  arrows = (
    (λ g p. kind_at_end state.ChainLine Else row refl g),
    (
      (λ g p. kind state.ChainLine (ElseIf false) (λ v. refl) g),
      ((λ g p. kind state.ChainLine (ElseIf true) (λ v. refl) g), tt),
    ),
  );
  phrase = tt;
}
keeps state.LoopEndLine row h = record {
  arrows = ((λ g p. kind state.LoopEndLine (End false) (λ v. refl) g), ((λ g p. kind state.LoopEndLine (End true) (λ v. refl) g), tt));
  phrase = tt;
}
keeps state.CaseItem row h = record {
  arrows = ((λ g p. (Other, g, refl)), tt);
  phrase = both same Each Goal state.CaseItem row (λ b. ((λ g q e p k. item (g no_items e)), ((λ g q e p k. item (g (no_items ▸ single e))), ((λ g q e p k. item (chosen (no_items ▸ single e) (is_empty row) g)), tt))));
}
keeps state.LastValue row h = record { arrows = tt; phrase = both same Each Goal state.LastValue row (λ b. ((λ g q e p k. chosen e (is_empty row) g), tt)) }
keeps state.Repeat row h = record {
  arrows = ((λ g p. chosen _ (is_empty row) g), ((λ g p. mapped (Before false) g), ((λ g p. mapped (Before true) g), tt)));
  phrase = (((λ g q e p k. chosen _ (is_empty row) g), ((λ g q e p k. from_counter row _ k g), tt)), ((λ g q e p k. chosen _ (is_empty row) g), tt));
}
keeps state.From row h = record { arrows = tt; phrase = both same Each Goal state.From row (λ b. ((λ g q a o k n p. g n p a), tt)) }
keeps state.To row h = record {
  arrows = tt;
  phrase = both same Each Goal state.To row (λ b. ((λ g q e o k n p a. mapped (λ c. From n a e (Some c) p) g), ((λ g q e o k n p a. chosen _ (is_empty row) g), tt)));
}
keeps state.MaybeValue row h = record { arrows = ((λ g p. chosen _ (is_empty row) g), tt); phrase = both same Each Goal state.MaybeValue row (λ b. ((λ g q e p k. chosen _ (is_empty row) g), tt)) }
keeps state.CaseTest row h = record {
  arrows = tt;
  phrase = both same Each Goal state.CaseTest row (λ b. ((λ g q e p k xs. g xs e), ((λ g q e p k xs. g (xs ▸ single e)), ((λ g q e p k xs. chosen (xs ▸ single e) (is_empty row) g), tt))));
}
keeps state.CaseRange row h = record {
  arrows = tt;
  phrase = both same Each Goal state.CaseRange row (λ b. ((λ g q e p k xs low. g (xs ▸ range low e)), ((λ g q e p k xs low. chosen (xs ▸ range low e) (is_empty row) g), tt)));
}
keeps state.OtherColon row h = record { arrows = ((λ g p. ap (λ b. if b then Some Other else None) g), tt); phrase = tt }
keeps q row h = absurd cc

reached : {q : LineState} {row : List Piece} {ts : List LineToken} → Row q row ts → IsTrue (own q) → Goal q row
reached {q = q} {row = row} r h = subst (Goal q) (same_row row) (holds same Each each own closed (refl, refl) Goal refl keeps r h)
  where
    same_row : (row : List Piece) → map same row ≡ row
    same_row [] = refl
    same_row (x ∷ row) = ap (λ row. x ∷ row) (same_row row)

pub statements_have_kinds : HaveKinds kind_of_row state.Statement
statements_have_kinds row ts r = reached r refl

pub chain_lines_have_kinds : HaveKinds kind_of_row state.ChainLine
chain_lines_have_kinds row ts r = reached r refl

pub loop_ends_have_kinds : HaveKinds kind_of_row state.LoopEndLine
loop_ends_have_kinds row ts r = reached r refl

pub case_items_have_kinds : HaveKinds kind_of_row state.CaseItem
case_items_have_kinds row ts r = reached r refl
