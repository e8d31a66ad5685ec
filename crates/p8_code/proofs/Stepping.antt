-- The lines of a code, one after the other.
use Rattle.std.proofs.Common.{◌≡◌, ◌∙◌, ap, sym, ℕ, ◌+◌, ◌≤◌, List, ◌∷◌, ◌++◌, Option, length, append_assoc, take, drop}
use Rattle.std.proofs.lemmas.List.{length-take-le}
use Rattle.p8_gen.specs.declared.writer.Line.{Line}
use Rattle.p8_image.specs.Listing.{address_after, line_size, pieces_of}
use Rattle.p8_image.proofs.Cutting.{pieces-step}
use Rattle.p8_code.specs.Operations.{Scope}
use Rattle.p8_code.specs.Listing.{heading, op_line, op_lines, statement_line}

-- the first line of a code, and then those of the rest
pub lines-step : (scope : Option Scope) (at place previous : ℕ) (lines : List Line) (code : List ℕ) (size : ℕ) → size ≡ line_size code → 1 ≤ length code → size ≤ length code
    → op_lines (λ text. text) scope at place previous lines (pieces_of code)
    ≡ heading scope previous (statement_line previous lines) ++ op_line (λ text. text) scope (at + 1) place (take size code)
    ++ op_lines (λ text. text) scope (at + size) (address_after place size) (statement_line previous lines) (drop 1 lines) (pieces_of (drop size code))
lines-step scope at place previous lines code size is some within =
    let cut : pieces_of code ≡ take size code ∷ pieces_of (drop size code) =
    pieces-step code some ∙ ap (λ (s : ℕ). take s code ∷ pieces_of (drop s code)) (sym is) in
    let long : length (take size code) ≡ size = length-take-le size code within in
    ap (λ (pieces : List (List ℕ)). op_lines (λ text. text) scope at place previous lines pieces) cut
    ∙ ap (λ (s : ℕ). heading scope previous (statement_line previous lines) ++ op_line (λ text. text) scope (at + 1) place (take size code)
    ++ op_lines (λ text. text) scope (at + s) (address_after place s) (statement_line previous lines) (drop 1 lines) (pieces_of (drop size code))) long

-- one line more
pub one-line : (scope : Option Scope) (at place previous : ℕ) (lines : List Line) (code : List ℕ) (size : ℕ) (out first second whole : List ℕ) (line there next here : ℕ) (others : List Line) (rest : List ℕ)
    → size ≡ line_size code → 1 ≤ length code → size ≤ length code → line ≡ statement_line previous lines
    → first ≡ out ++ heading scope previous line → here ≡ at + 1 → second ≡ first ++ op_line (λ text. text) scope here place (take size code)
    → there ≡ address_after place size → next ≡ at + size → others ≡ drop 1 lines → rest ≡ drop size code
    → out ++ op_lines (λ text. text) scope at place previous lines (pieces_of code) ≡ whole
    → second ++ op_lines (λ text. text) scope next there line others (pieces_of rest) ≡ whole
one-line scope at place previous lines code size out first second whole line there next here others rest is some within e_line e_first e_here e_second e_there e_next e_others e_rest so_far =
    let x = heading scope previous (statement_line previous lines) in
    let y = op_line (λ text. text) scope (at + 1) place (take size code) in
    let z = op_lines (λ text. text) scope (at + size) (address_after place size) (statement_line previous lines) (drop 1 lines) (pieces_of (drop size code)) in
    (λ i. (e_second i) ++ op_lines (λ text. text) scope (e_next i) (e_there i) (e_line i) (e_others i) (pieces_of (e_rest i)))
    ∙ ap (λ (n : ℕ). (first ++ op_line (λ text. text) scope n place (take size code)) ++ z) e_here
    ∙ ap (λ (o : List ℕ). (o ++ y) ++ z) (e_first ∙ ap (λ (n : ℕ). out ++ heading scope previous n) e_line)
    ∙ ap (λ (o : List ℕ). o ++ z) (append_assoc out x y)
    ∙ append_assoc out (x ++ y) z
    ∙ ap (λ (o : List ℕ). out ++ o) (sym (lines-step scope at place previous lines code size is some within))
    ∙ so_far
