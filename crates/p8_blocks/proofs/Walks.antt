-- Lines one after the other, of any height or within the limits, without their places in a text.
use Rattle.std.proofs.Common.{◌≡◌, List, [], ◌∷◌, ◌++◌, Option, Some, true, false, refl, sym, ap, ◌∙◌, append-nil, Bool}
use Rattle.std.specs.Prelude.{◌≢◌}
use Rattle.p8_tree.specs.Sources as trees
use Rattle.p8_tree.specs.Sources.{Constant, Declared, Child, MethodTree}
use Rattle.p8_lexer.specs.declared.word.Word.{Word}
use Rattle.p8_lexer.specs.declared.word.Word.TheVariants as word_case
use Rattle.p8_columns.specs.Lines as lines
use Rattle.p8_columns.specs.Lines.{Kind}
use Rattle.p8_lexer.specs.Pieces.{Piece}
use Rattle.p8_lines.specs.declared.state.LineState.{LineState}
use Rattle.p8_lines.specs.declared.state.LineState.TheVariants as state
use Rattle.p8_lines.specs.Tokens.{LineToken, word}
use Rattle.p8_lines.specs.Lines.{Row}
use Rattle.p8_lines.proofs.Splits.{Compared, same, beyond, short, compare}
use Rattle.p8_lines.proofs.Ways.{goes_on}
use Rattle.p8_lines.proofs.Rows.{row_way, at_end}
use Rattle.p8_lines.proofs.Readings.{leads_row}
use Rattle.p8_declarations.specs.Constants.{constants_of_row}
use Rattle.p8_declarations.specs.Variables.{variables_of_row}
use Rattle.p8_declarations.specs.Objects.{objects_of_row}
use Rattle.p8_declarations.specs.Methods.{method_of_row}
use Rattle.p8_declarations.specs.Lines.{line_of_row}
use Rattle.p8_statements.specs.Statements.{kind_of_row}
use Rattle.p8_blocks.specs.Reading.{Part, constants, variables, objects, assembly, method, IsHead, Enters, from, HasNoLoop}
use Rattle.p8_blocks.specs.Files.{Heights, any_height, within_limits, IsLine, lines_in, is_item}
use Rattle.p8_blocks.proofs.Answering.{Same, carried, ends_same}

-- lines with their values

-- these tokens are a line from this state on, with this value
pub record Valued (h : Heights) {V : Type 0} (value : List Piece → Option V) (q : LineState) (ts : List LineToken) (v : V) : Type 0 where
  pub row : List Piece
  pub line : IsLine h q row ts
  pub is : value row ≡ Some v

pub row_of_line : (h : Heights) (q : LineState) (row : List Piece) (us : List LineToken) → IsLine h q row us → Row q row us
row_of_line any_height q row us x = x
row_of_line within_limits q row us x = leads_row x

pub of_any_height : (h : Heights) {V : Type 0} {value : List Piece → Option V} {q : LineState} {ts : List LineToken} {v : V} → Valued h value q ts v → Valued any_height value q ts v
of_any_height h {q = q} {ts = ts} x = record { row = x.row; line = row_of_line h q x.row ts x.line; is = x.is }

-- One of two lines over the same tokens isn't longer.
pub record OneRow (us vs : List LineToken) (row row' : List Piece) : Type 0 where
  pub tokens : us ≡ vs
  pub pieces : row ≡ row'

pub one_row : {q : LineState} {us vs : List LineToken} {row row' : List Piece} (rest rest' : List LineToken) → Row q row us → Row q row' vs → us ++ rest ≡ vs ++ rest' → OneRow us vs row row'
one_row {us = us} {vs = vs} {row = row} {row' = row'} rest rest' x y split = go (compare us rest vs rest' split)
  where
    go : Compared us rest vs rest' → OneRow us vs row row'
    go (same a b) =
        let z = goes_on [] (row_way x) (row_way y) (sym a ∙ sym (append-nil us)) in
        let e = at_end z.way refl in
        record { tokens = a; pieces = sym (z.pieces ∙ ap (λ l. row ++ l) e.pieces ∙ append-nil row) }
    go (beyond u ws a b) = let z = goes_on (u ∷ ws) (row_way y) (row_way x) a in let f = (at_end z.way refl).tokens in absurd cc
    go (short u ws a b) = let z = goes_on (u ∷ ws) (row_way x) (row_way y) a in let f = (at_end z.way refl).tokens in absurd cc

pub one_value : {V : Type 0} {value : List Piece → Option V} {q : LineState} {us vs : List LineToken} {a b : V} (rest rest' : List LineToken) → Valued any_height value q us a → Valued any_height value q vs b → us ++ rest ≡ vs ++ rest' → Same a b us vs
one_value {value = value} {a = a} {b = b} rest rest' x y split =
    let z = one_row rest rest' x.line y.line split in
    let found : Some a ≡ Some b = sym x.is ∙ ap value z.pieces ∙ y.is in
    record { values = cc; rests = z.tokens }

-- steps

-- what follows a block's word on its line, and the block that begins so
abbrev pub OpensAs : Heights → Word → List LineToken → Part → Type 0
OpensAs h word_case.Con ts p = (xs : List Constant) × Valued h constants_of_row state.ConHead ts xs × (p ≡ constants xs)
OpensAs h word_case.Var ts p = (xs : List Declared) × Valued h variables_of_row state.VarHead ts xs × (p ≡ variables xs)
OpensAs h word_case.Obj ts p = (xs : List Child) × Valued h objects_of_row state.ObjHead ts xs × (p ≡ objects xs)
OpensAs h word_case.Pub ts p = (m : MethodTree) × Valued h (method_of_row true) state.MethodName ts m × (p ≡ method m [])
OpensAs h word_case.Pri ts p = (m : MethodTree) × Valued h (method_of_row false) state.MethodName ts m × (p ≡ method m [])
OpensAs h word_case.Dat ts p = (o : Option trees.Line) × Valued h line_of_row state.DatHead ts o × (p ≡ assembly (lines_in o))
OpensAs h w ts p = ⊥

-- a line of a block that isn't a method
pub data Adds (h : Heights) (ts : List LineToken) : List Part → List Part → Type 0 where
  first_constants : {xs : List Constant} → Valued h constants_of_row state.ConItem ts xs → Adds h ts [] (constants xs ∷ [])
  more_constants : {xs ys : List Constant} {ps : List Part} → Valued h constants_of_row state.ConItem ts ys → Adds h ts (constants xs ∷ ps) (constants (xs ++ ys) ∷ ps)
  more_variables : {xs ys : List Declared} {ps : List Part} → Valued h variables_of_row state.VarLine ts ys → Adds h ts (variables xs ∷ ps) (variables (xs ++ ys) ∷ ps)
  more_objects : {xs ys : List Child} {ps : List Part} → Valued h objects_of_row state.ObjLine ts ys → Adds h ts (objects xs ∷ ps) (objects (xs ++ ys) ∷ ps)
  more_assembly : {xs : List trees.Line} {o : Option trees.Line} {ps : List Part} → Valued h line_of_row state.DatLine ts o → Adds h ts (assembly xs ∷ ps) (assembly (xs ++ lines_in o) ∷ ps)

-- the blocks so far, the newest first, and whether a line of the text is begun
abbrev pub Progress : Type 0
Progress = List Part × Bool

-- One line leads from what is so far to what is then.
pub data Line (h : Heights) : Progress → List LineToken → Progress → Type 0 where
  blank : {ps : List Part} {b : Bool} (t : LineToken) → word t ≡ word_case.LineEnd → Line h (ps, b) (t ∷ []) (ps, false)
  head : {ps : List Part} {b : Bool} {p : Part} {us : List LineToken} (t : LineToken) → IsHead t → OpensAs h (word t) us p → Line h (ps, b) (t ∷ us) (p ∷ ps, false)
  declaration : {ps qs : List Part} {b : Bool} {us : List LineToken} (t : LineToken) → word t ≢ word_case.LineEnd → ¬ IsHead t → Adds h (t ∷ us) ps qs → Line h (ps, b) (t ∷ us) (qs, false)
  method_line : {m : MethodTree} {ls : List lines.Line} {ps : List Part} {b : Bool} {us : List LineToken} {k : Kind} (t : LineToken) (q : LineState) → word t ≢ word_case.LineEnd → ¬ IsHead t → Enters ls b t (from q) → ¬ HasNoLoop ls q t → Valued h kind_of_row q (t ∷ us) k → Line h (method m ls ∷ ps, b) (t ∷ us) (method m (ls ++ lines.line t.place k ∷ []) ∷ ps, is_item k)

-- They lead from the begin over these tokens so far.
pub data Walk (h : Heights) : Progress → List LineToken → Type 0 where
  none : Walk h ([], false) []
  more : {x y : Progress} {ts us : List LineToken} → Walk h x ts → Line h x us y → Walk h y (ts ++ us)

-- of any height

opens_any : (h : Heights) (w : Word) (ts : List LineToken) (p : Part) → OpensAs h w ts p → OpensAs any_height w ts p
opens_any h word_case.Con ts p x = (x.0, of_any_height h x.1, x.2)
opens_any h word_case.Var ts p x = (x.0, of_any_height h x.1, x.2)
opens_any h word_case.Obj ts p x = (x.0, of_any_height h x.1, x.2)
opens_any h word_case.Pub ts p x = (x.0, of_any_height h x.1, x.2)
opens_any h word_case.Pri ts p x = (x.0, of_any_height h x.1, x.2)
opens_any h word_case.Dat ts p x = (x.0, of_any_height h x.1, x.2)
opens_any h w ts p x = x

adds_any : (h : Heights) {ts : List LineToken} {ps qs : List Part} → Adds h ts ps qs → Adds any_height ts ps qs
adds_any h (first_constants x) = first_constants (of_any_height h x)
adds_any h (more_constants x) = more_constants (of_any_height h x)
adds_any h (more_variables x) = more_variables (of_any_height h x)
adds_any h (more_objects x) = more_objects (of_any_height h x)
adds_any h (more_assembly x) = more_assembly (of_any_height h x)

pub line_any : (h : Heights) {x y : Progress} {us : List LineToken} → Line h x us y → Line any_height x us y
line_any h (blank t e) = blank t e
line_any h (head {p = p} {us = us} t i o) = head t i (opens_any h (word t) us p o)
line_any h (declaration t e n x) = declaration t e n (adds_any h x)
line_any h (method_line t q e n i l x) = method_line t q e n i l (of_any_height h x)

pub walk_any : (h : Heights) {x : Progress} {ts : List LineToken} → Walk h x ts → Walk any_height x ts
walk_any h none = none
walk_any h (more w l) = more (walk_any h w) (line_any h l)

-- one line over the same tokens

pub one_opening : (w : Word) (us vs rest rest' : List LineToken) (p q : Part) → OpensAs any_height w us p → OpensAs any_height w vs q → us ++ rest ≡ vs ++ rest' → Same p q us vs
one_opening word_case.Con us vs rest rest' p q x y e = ends_same x.2 y.2 (carried constants (one_value rest rest' x.1 y.1 e))
one_opening word_case.Var us vs rest rest' p q x y e = ends_same x.2 y.2 (carried variables (one_value rest rest' x.1 y.1 e))
one_opening word_case.Obj us vs rest rest' p q x y e = ends_same x.2 y.2 (carried objects (one_value rest rest' x.1 y.1 e))
one_opening word_case.Pub us vs rest rest' p q x y e = ends_same x.2 y.2 (carried (λ m. method m []) (one_value rest rest' x.1 y.1 e))
one_opening word_case.Pri us vs rest rest' p q x y e = ends_same x.2 y.2 (carried (λ m. method m []) (one_value rest rest' x.1 y.1 e))
one_opening word_case.Dat us vs rest rest' p q x y e = ends_same x.2 y.2 (carried (λ o. assembly (lines_in o)) (one_value rest rest' x.1 y.1 e))
one_opening w us vs rest rest' p q x y e = absurd x

pub one_addition : {us vs : List LineToken} {ps qs rs : List Part} (rest rest' : List LineToken) → Adds any_height us ps qs → Adds any_height vs ps rs → us ++ rest ≡ vs ++ rest' → Same qs rs us vs
one_addition rest rest' (first_constants x) (first_constants y) e = carried (λ xs. constants xs ∷ []) (one_value rest rest' x y e)
one_addition rest rest' (more_constants {xs = xs} {ps = ps} x) (more_constants y) e = carried (λ ys. constants (xs ++ ys) ∷ ps) (one_value rest rest' x y e)
one_addition rest rest' (more_variables {xs = xs} {ps = ps} x) (more_variables y) e = carried (λ ys. variables (xs ++ ys) ∷ ps) (one_value rest rest' x y e)
one_addition rest rest' (more_objects {xs = xs} {ps = ps} x) (more_objects y) e = carried (λ ys. objects (xs ++ ys) ∷ ps) (one_value rest rest' x y e)
one_addition rest rest' (more_assembly {xs = xs} {ps = ps} x) (more_assembly y) e = carried (λ o. assembly (xs ++ lines_in o) ∷ ps) (one_value rest rest' x y e)

pub not_added : {us : List LineToken} {m : MethodTree} {ls : List lines.Line} {ps qs : List Part} {h : Heights} → Adds h us (method m ls ∷ ps) qs → ⊥
not_added x = elim x [ ]
