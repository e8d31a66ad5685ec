-- A line of a method that was read is of a kind that suits the state.
use Rattle.std.proofs.Common.{◌≡◌, List, Option, Some, None, refl, sym, ap, ◌∙◌}
use Rattle.std.specs.Prelude.{IsTrue, IsSome, option_map}
use Rattle.p8_lexer.specs.Pieces.{Piece}
use Rattle.p8_columns.specs.Lines.{Kind}
use Rattle.p8_lines.specs.declared.state.LineState.{LineState}
use Rattle.p8_lines.specs.declared.state.LineState.TheVariants as state
use Rattle.p8_lines.specs.Tokens.{LineToken}
use Rattle.p8_lines.specs.Lines.{read, Reads, line}
use Rattle.p8_statements.specs.Statements.{kind_of_row}
use Rattle.p8_blocks.specs.Values.{HaveKinds, suits, begins_line}
use Rattle.p8_lines.proofs.Readings.{leads_row}
use Rattle.p8_blocks.proofs.StatementLines.{HasKind, statements_have_kinds, chain_lines_have_kinds, loop_ends_have_kinds, case_items_have_kinds}

kinds : (q : LineState) → IsTrue (begins_line q) → HaveKinds kind_of_row q
kinds state.Statement h = statements_have_kinds
kinds state.ChainLine h = chain_lines_have_kinds
kinds state.LoopEndLine h = loop_ends_have_kinds
kinds state.CaseItem h = case_items_have_kinds
kinds q h = absurd cc

pub read_kind : {q : LineState} {ts rest : List LineToken} {row : List Piece} → IsTrue (begins_line q) → Reads q ts (read row rest) → HasKind q (kind_of_row row)
read_kind {q = q} {row = row} h (line {us = us} split leads) = kinds q h row us (leads_row leads)

-- so what its row is, is known
pub is_read : {V : Type 0} (view : V → Kind) (q : LineState) (o : Option V) (row : List Piece) → option_map view o ≡ kind_of_row row → HasKind q (kind_of_row row) → IsSome o
is_read view q None row e h = let z = e ∙ h.1 in absurd cc
is_read view q (Some v) row e h = refl

pub suited : {V : Type 0} (view : V → Kind) (q : LineState) (o : Option V) (v : V) (row : List Piece) → o ≡ Some v → option_map view o ≡ kind_of_row row → HasKind q (kind_of_row row) → IsTrue (suits q (view v))
suited view q o v row i e h = ap (suits q) (same (view v) h.0 (sym (ap (option_map view) i) ∙ e ∙ h.1)) ∙ h.2
  where
    same : (k l : Kind) → Some k ≡ Some l → k ≡ l
    same k l z = cc
