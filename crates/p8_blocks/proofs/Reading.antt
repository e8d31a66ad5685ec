-- What a reading of a line from tokens holds: a row, and its value.
use Rattle.std.proofs.Common.{◌≡◌, ◌⊎◌, inl, inr, List, Option, Some, None, refl, sym, ap, ◌∙◌, subst}
use Rattle.std.specs.Prelude.{IsSome, option_map}
use Rattle.p8_tree.specs.Sources.{Line}
use Rattle.p8_lexer.specs.Pieces.{Piece}
use Rattle.p8_lines.specs.declared.state.LineState.{LineState}
use Rattle.p8_lines.specs.Tokens.{LineToken}
use Rattle.p8_lines.specs.Lines.{read, line, Reads, Row}
use Rattle.p8_declarations.specs.declared.lines.DatRow.{DatRow}
use Rattle.p8_declarations.specs.declared.lines.DatRow.TheVariants as row_case
use Rattle.p8_declarations.specs.Rows.{outcome_of}
use Rattle.p8_blocks.specs.Values.{HaveValues}
use Rattle.p8_lines.proofs.Readings.{leads_row}
use Rattle.p8_blocks.proofs.Following.{Has}

-- the row that was read, with its tokens
record Read (q : LineState) (row : List Piece) : Type 0 where
  tokens : List LineToken
  is : Row q row tokens

row_read : {q : LineState} {ts rest : List LineToken} {row : List Piece} → Reads q ts (read row rest) → Read q row
row_read (line {us = us} split leads) = record { tokens = us; is = leads_row leads }

-- what is read from one of two states has a value, where all lines from both have
pub value_read : {V : Type 0} (value : List Piece → Option V) (a b : LineState) → HaveValues value a → HaveValues value b → (q : LineState) → (q ≡ a) ⊎ (q ≡ b) → {ts rest : List LineToken} {row : List Piece} → Reads q ts (read row rest) → Has (value row)
value_read value a b x y q (inl e) {row = row} r =
    let z = row_read r in
    let v = x row z.tokens (subst (λ q. Row q row z.tokens) e z.is) in
    record { value = v.0; is = v.1 }
value_read value a b x y q (inr e) {row = row} r =
    let z = row_read r in
    let v = y row z.tokens (subst (λ q. Row q row z.tokens) e z.is) in
    record { value = v.0; is = v.1 }

-- a call that turns a row with a value into that value, or into none where it has none, gives it
pub there : {A B : Type 0} (o : Option A) (f : A → B) {p : Option B} → option_map f o ≡ p → Has p → IsSome o
there None f e h = let z = e ∙ h.is in absurd cc
there (Some x) f e h = refl

pub known : (r : DatRow) {o : Option (Option Line)} → outcome_of r ≡ o → r ≡ row_case.Unknown → Has o → ⊥
known r e u h = let z : None ≡ Some h.value = sym (ap outcome_of u) ∙ (e ∙ h.is) in cc
