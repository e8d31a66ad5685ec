-- A line of CON, VAR or OBJ, and the head of a method, is read in one way.
use Rattle.std.proofs.Common.{◌≡◌, ◌∙◌, sym, ap, subst, refl, ℕ, Bool, true, false, List, [], ◌∷◌, ◌++◌, Option, Some, None}
use Rattle.std.specs.Prelude.{IsTrue, if◌then◌else◌, option_map}
use Rattle.p8_tree.specs.declared.places.Place.{Place}
use Rattle.p8_tree.specs.Expressions.{Tree}
use Rattle.p8_tree.specs.Sources.{Constant, Declared, Child, MethodTree}
use Rattle.p8_lexer.specs.declared.word.Word.{Word}
use Rattle.p8_lexer.specs.declared.word.Word.TheVariants as words
use Rattle.p8_lexer.specs.Pieces as pieces
use Rattle.p8_lexer.specs.Pieces.{Piece}
use Rattle.p8_grammar.specs.Lexemes.{Setting, in_method, in_declaration}
use Rattle.p8_lines.specs.Tokens.{LineToken, word, lexeme, piece}
use Rattle.p8_declarations.specs.Parts.{Part, line_end, comma, equals, hash, colon, bar, left_parenthesis, right_parenthesis, left_bracket}
use Rattle.p8_declarations.specs.Parts.{right_bracket, size, name, text, tree, other, part_of_word, part_of_piece, parts, is_line_end, ended}
use Rattle.p8_declarations.specs.Parts.{with_first}
use Rattle.p8_declarations.specs.Constants.{constants, constants_named, constants_behind, constants_of_row}
use Rattle.p8_declarations.specs.Variables.{variables, variables_named, variables_behind, sized_variables, variables_of_row}
use Rattle.p8_declarations.specs.Objects.{in_file, object_named, object, alone, objects_of_row}
use Rattle.p8_declarations.specs.Methods.{behind_result, result_named, behind_parameters, parameters, behind_parameter, behind_name, head, method_of_row}
use Rattle.p8_prop.proofs.Reading as said
use Rattle.p8_prop.proofs.Reading.{Spelling, declared, headed}
use Rattle.p8_prop.proofs.Barred.{Bars}
use Rattle.p8_prop.proofs.Marks.{Sort, a_name, a_text, a_word, sort, closes, closes-bars, is_block, block-piece}
use Rattle.p8_prop.proofs.OneRow.{Table, Reads, last, a_token, a_label, an_expression, IsClear, one, some-one, run, reads}

-- ---- which part may stand next

-- a token comes, or an expression; an expression was read; the line has ended
data Stage : Type 0 where
  free : Stage
  wanted : Stage
  behind : Stage
  over : Stage

abbrev go : Stage → Part → Option Stage
go free line_end = Some over
go free equals = Some wanted
go free (hash p) = Some wanted
go free left_bracket = Some wanted
go free (tree e) = None
go free other = None
go free x = Some free
go wanted (tree e) = Some behind
go behind comma = Some free
go behind right_bracket = Some free
go behind line_end = Some over
go s x = None

abbrev is_over : Stage → Bool
is_over over = true
is_over s = false

abbrev table : Setting → Table Part Stage
table s = record { part = part_of_piece; setting = λ q w. s; go = go; ended = is_over }

-- ---- its laws

abbrev is_tree : Part → Bool
is_tree (tree e) = true
is_tree x = false

word-no-tree : (w : Word) (p : Place) → is_tree (part_of_word w p) ≡ false
unfolding part_of_word
word-no-tree words.Comma p = refl
word-no-tree w p = refl

token-no-tree : (t : LineToken) → is_tree (part_of_piece (piece t)) ≡ false
token-no-tree t = of (sort t)
  where
    of : Sort t → is_tree (part_of_piece (piece t)) ≡ false
    of (a_name n is e) = ap (λ (x : Piece). is_tree (part_of_piece x)) e
    of (a_text x is e) = ap (λ (x : Piece). is_tree (part_of_piece x)) e
    of (a_word e) = ap (λ (x : Piece). is_tree (part_of_piece x)) e ∙ word-no-tree (word t) t.place

wants-tree : (x : Part) {r : Stage} → go wanted x ≡ Some r → is_tree x ≡ true
wants-tree (tree e) h = refl
wants-tree x h = absurd cc

abbrev may_follow : Part → Bool
may_follow comma = true
may_follow right_bracket = true
may_follow line_end = true
may_follow x = false

follows-so : (x : Part) {r : Stage} → go behind x ≡ Some r → IsTrue (may_follow x)
follows-so comma h = refl
follows-so right_bracket h = refl
follows-so line_end h = refl
follows-so x h = absurd cc

word-closes : (w : Word) (p : Place) → IsTrue (if may_follow (part_of_word w p) then closes w else true)
unfolding part_of_word
word-closes words.Comma p = refl
word-closes w p = refl

when-true : (b x : Bool) → IsTrue b → IsTrue (if b then x else true) → IsTrue x
when-true true x e h = h
when-true false x e h = absurd cc

token-bars : (s : Setting) (t : LineToken) → IsTrue (may_follow (part_of_piece (piece t))) → Bars s (lexeme t)
token-bars s t h = of (sort t)
  where
    of : Sort t → Bars s (lexeme t)
    of (a_name n is e) =
        let never : IsTrue (may_follow (part_of_piece (pieces.name n t.place))) = subst (λ (x : Piece). IsTrue (may_follow (part_of_piece x))) e h in
        absurd cc
    of (a_text x is e) =
        let never : IsTrue (may_follow (part_of_piece (pieces.text x t.place))) = subst (λ (x : Piece). IsTrue (may_follow (part_of_piece x))) e h in
        absurd cc
    of (a_word e) =
        closes-bars s t (word t) refl
        (when-true (may_follow (part_of_word (word t) t.place)) (closes (word t)) (subst (λ (x : Piece). IsTrue (may_follow (part_of_piece x))) e h)
        (word-closes (word t) t.place))

no-token : (q r r' : Stage) (t : LineToken) (e : Tree) → go q (part_of_piece (piece t)) ≡ Some r → go q (tree e) ≡ Some r' → ⊥
no-token free r r' t e g g' = cc
no-token wanted r r' t e g g' = let never : false ≡ true = sym (token-no-tree t) ∙ wants-tree (part_of_piece (piece t)) g in cc
no-token behind r r' t e g g' = cc
no-token over r r' t e g g' = cc

no-label : (q : Stage) {r : Stage} → go q other ≡ Some r → ⊥
no-label free h = cc
no-label wanted h = cc
no-label behind h = cc
no-label over h = cc

follows-tree : (q r r' : Stage) (e : Tree) (x : Part) → go q (tree e) ≡ Some r → go r x ≡ Some r' → IsTrue (may_follow x)
follows-tree wanted behind r' e x g h = follows-so x h
follows-tree wanted r r' e x g h = absurd cc
follows-tree q r r' e x g h = absurd cc

nothing-over : (r r' : Stage) (y : Part) → IsTrue (is_over r) → go r y ≡ Some r' → ⊥
nothing-over over r' y h g = cc
nothing-over r r' y h g = cc

clear : (s : Setting) → IsClear (table s)
clear s = record {
  token-tree = λ q r r' t e p g g' w e' us is. no-token q r r' t e g g';
  token-label = λ q r r' t n p g g'. no-label q g';
  label-tree = λ q r r' n p e p' g g'. no-label q g;
  behind-token = λ q r r' e p t g g' w. token-bars s t (follows-tree q r r' e (part_of_piece (piece t)) g g');
  behind-label = λ q r r' e p n p' g g'. no-label r g';
  behind-tree = λ q r r' e p e' p' g g'. (let never : IsTrue (may_follow (tree e')) = follows-tree q r r' e (tree e') g g' in cc);
  ends = λ q r r' t y e g h g'. nothing-over r r' y h g';
  alike = λ q v w. (refl, refl);
}

-- ---- what has a value is such a row

first-some : {X : Type 0} (x : X) (o : Option (List X)) {ys : List X} → with_first x o ≡ Some ys → (zs : List X) × (o ≡ Some zs)
first-some x None h = absurd cc
first-some x (Some zs) h = (zs, refl)

pub mapped : {X Y : Type 0} (f : X → Y) (o : Option X) {y : Y} → option_map f o ≡ Some y → (x : X) × (o ≡ Some x)
mapped f None h = absurd cc
mapped f (Some x) h = (x, refl)

one-some : (o : Option Child) {xs : List Child} → alone o ≡ Some xs → (x : Child) × (o ≡ Some x)
one-some None h = absurd cc
one-some (Some x) h = (x, refl)

module _ (s : Setting) where
  abbrev runs : Stage → List Part → Bool
  runs q ps = run (table s) q ps

  over-run : {X : Type 0} (ps : List Part) {ys : List X} → ended ps ≡ Some ys → IsTrue (runs over ps)
  over-run [] h = refl
  over-run (x ∷ ps) h = absurd cc

  -- what may stand behind an expression may stand elsewhere
  behind-free : (ps : List Part) → IsTrue (runs behind ps) → IsTrue (runs free ps)
  behind-free (comma ∷ ps) h = h
  behind-free (right_bracket ∷ ps) h = h
  behind-free (line_end ∷ ps) h = h
  behind-free ps h = absurd cc

  mutual
    constants-run : (ps : List Part) {xs : List Constant} → constants ps ≡ Some xs → IsTrue (runs free ps)
    constants-run (hash p ∷ tree e ∷ ps) h = let it = first-some _ (constants_behind ps) h in constants_behind-run ps it.1
    constants-run (name n p ∷ ps) h = constants_named-run n p ps h
    constants-run ps h = absurd cc

    constants_named-run : (n : List ℕ) (p : Place) (ps : List Part) {xs : List Constant} → constants_named n p ps ≡ Some xs → IsTrue (runs free ps)
    constants_named-run n p (equals ∷ tree e ∷ ps) h = let it = first-some _ (constants_behind ps) h in constants_behind-run ps it.1
    constants_named-run n p (left_bracket ∷ tree e ∷ right_bracket ∷ ps) h =
        let it = first-some _ (constants_behind ps) h in behind-free ps (constants_behind-run ps it.1)
    constants_named-run n p (comma ∷ ps) h = let it = first-some _ (constants ps) h in constants-run ps it.1
    constants_named-run n p (line_end ∷ ps) h = let it = first-some _ (ended ps) h in over-run ps it.1
    constants_named-run n p ps h = absurd cc

    constants_behind-run : (ps : List Part) {xs : List Constant} → constants_behind ps ≡ Some xs → IsTrue (runs behind ps)
    constants_behind-run (comma ∷ ps) h = constants-run ps h
    constants_behind-run (line_end ∷ ps) h = over-run ps h
    constants_behind-run ps h = absurd cc

  mutual
    variables-run : (z : ℕ) (ps : List Part) {xs : List Declared} → variables z ps ≡ Some xs → IsTrue (runs free ps)
    variables-run z (name n p ∷ ps) h = variables_named-run z n p ps h
    variables-run z ps h = absurd cc

    variables_named-run : (z : ℕ) (n : List ℕ) (p : Place) (ps : List Part) {xs : List Declared} → variables_named z n p ps ≡ Some xs → IsTrue (runs free ps)
    variables_named-run z n p (left_bracket ∷ tree e ∷ right_bracket ∷ ps) h =
        let it = first-some _ (variables_behind z ps) h in variables_behind-run z ps it.1
    variables_named-run z n p (comma ∷ ps) h = let it = first-some _ (variables z ps) h in variables-run z ps it.1
    variables_named-run z n p (line_end ∷ ps) h = let it = first-some _ (ended ps) h in over-run ps it.1
    variables_named-run z n p ps h = absurd cc

    variables_behind-run : (z : ℕ) (ps : List Part) {xs : List Declared} → variables_behind z ps ≡ Some xs → IsTrue (runs free ps)
    variables_behind-run z (comma ∷ ps) h = variables-run z ps h
    variables_behind-run z (line_end ∷ ps) h = over-run ps h
    variables_behind-run z ps h = absurd cc

  sized-run : (ps : List Part) {xs : List Declared} → sized_variables ps ≡ Some xs → IsTrue (runs free ps)
  sized-run (size z ∷ ps) h = variables-run z ps h
  sized-run ps h = absurd cc

  file-run : (n : List ℕ) (p : Place) (count : Option Tree) (ps : List Part) {x : Child} → in_file n p count ps ≡ Some x → IsTrue (runs free ps)
  file-run n p count (text t q ∷ line_end ∷ []) h = refl
  file-run n p count ps h = absurd cc

  object_named-run : (n : List ℕ) (p : Place) (ps : List Part) {x : Child} → object_named n p ps ≡ Some x → IsTrue (runs free ps)
  object_named-run n p (colon ∷ ps) h = file-run n p None ps h
  object_named-run n p (left_bracket ∷ tree e ∷ right_bracket ∷ colon ∷ ps) h = file-run n p (Some e) ps h
  object_named-run n p ps h = absurd cc

  object-run : (ps : List Part) {x : Child} → object ps ≡ Some x → IsTrue (runs free ps)
  object-run (name n p ∷ ps) h = object_named-run n p ps h
  object-run ps h = absurd cc

  -- a line's end alone, or more
  row-run : {X : Type 0} (ps : List Part) (o : Option (List X)) {xs : List X} → (if is_line_end ps then Some [] else o) ≡ Some xs
      → (o ≡ Some xs → IsTrue (runs free ps)) → IsTrue (runs free ps)
  row-run (line_end ∷ []) o h k = refl
  row-run ps o h k = k h

  behind_result-run : (m : MethodTree) (ps : List Part) {x : MethodTree} → behind_result m ps ≡ Some x → IsTrue (runs free ps)
  behind_result-run m (bar ∷ ps) h = let it = mapped _ (variables 4 ps) h in variables-run 4 ps it.1
  behind_result-run m (line_end ∷ []) h = refl
  behind_result-run m ps h = absurd cc

  result_named-run : (m : MethodTree) (ps : List Part) {x : MethodTree} → result_named m ps ≡ Some x → IsTrue (runs free ps)
  result_named-run m (name n p ∷ ps) h = behind_result-run _ ps h
  result_named-run m ps h = absurd cc

  behind_parameters-run : (m : MethodTree) (ps : List Part) {x : MethodTree} → behind_parameters m ps ≡ Some x → IsTrue (runs free ps)
  behind_parameters-run m (colon ∷ ps) h = result_named-run m ps h
  behind_parameters-run m ps h = behind_result-run m ps h

  mutual
    parameters-run : (m : MethodTree) (ps : List Part) {x : MethodTree} → parameters m ps ≡ Some x → IsTrue (runs free ps)
    parameters-run m (name n p ∷ ps) h = behind_parameter-run _ ps h
    parameters-run m ps h = absurd cc

    behind_parameter-run : (m : MethodTree) (ps : List Part) {x : MethodTree} → behind_parameter m ps ≡ Some x → IsTrue (runs free ps)
    behind_parameter-run m (comma ∷ ps) h = parameters-run m ps h
    behind_parameter-run m (right_parenthesis ∷ ps) h = behind_parameters-run m ps h
    behind_parameter-run m ps h = absurd cc

  behind_name-run : (m : MethodTree) (ps : List Part) {x : MethodTree} → behind_name m ps ≡ Some x → IsTrue (runs free ps)
  behind_name-run m (left_parenthesis ∷ ps) h = parameters-run m ps h
  behind_name-run m ps h = behind_parameters-run m ps h

  method-run : (public : Bool) (ps : List Part) {x : MethodTree} → head public ps ≡ Some x → IsTrue (runs free ps)
  method-run public (name n p ∷ ps) h = behind_name-run _ ps h
  method-run public ps h = absurd cc

-- ---- lines

-- tokens begin with one line of these, with one value
abbrev pub IsReadOnce : {X : Type 0} → Spelling → (List Piece → Option X) → Type 0
IsReadOnce {X} spelled value = (x x' : X) (ts ts' rest rest' : List LineToken) → said.IsLine spelled value x ts → said.IsLine spelled value x' ts'
    → ts ++ rest ≡ ts' ++ rest' → (x ≡ x') × (ts ≡ ts')

-- no line of these begins with the word of a block
abbrev pub BeginsNoBlock : {X : Type 0} → Spelling → (List Piece → Option X) → Type 0
BeginsNoBlock {X} spelled value =
    (x : X) (t : LineToken) (ts us : List LineToken) → said.IsLine spelled value x us → us ≡ t ∷ ts → IsTrue (is_block (word t)) → ⊥

word-other : (w : Word) (p : Place) → IsTrue (is_block w) → part_of_word w p ≡ other
unfolding part_of_word
word-other words.Con p h = refl
word-other words.Var p h = refl
word-other words.Obj p h = refl
word-other words.Dat p h = refl
word-other words.Pub p h = refl
word-other words.Pri p h = refl
word-other w p h = absurd cc

-- such a word is no part of a declaration
block-other : (t : LineToken) → IsTrue (is_block (word t)) → part_of_piece (piece t) ≡ other
block-other t h = ap part_of_piece (block-piece t (word t) refl h) ∙ word-other (word t) t.place h

no-block : (s : Setting) {ps : List Part} {ts us : List LineToken} (t : LineToken) → Reads (table s) free ps us → us ≡ t ∷ ts → IsTrue (is_block (word t)) → ⊥
no-block s t (last u e g h) split b =
    let firsts : u ≡ t = cc in
    no-label free (ap (go free) (sym (block-other u (subst (λ (t : LineToken). IsTrue (is_block (word t))) (sym firsts) b))) ∙ g)
no-block s t (a_token u n g x) split b =
    let firsts : u ≡ t = cc in
    no-label free (ap (go free) (sym (block-other u (subst (λ (t : LineToken). IsTrue (is_block (word t))) (sym firsts) b))) ∙ g)
no-block s t (a_label u is g x) split b = no-label free g
no-block s t (an_expression {r = r} first others u is g x) split b = let never : None ≡ Some r = g in cc

module _ {X : Type 0} (s : Setting) (spelled : Spelling) (fits : (before : List Word) (w : Word) → spelled before w ≡ s) (value : List Part → Option X)
    (rows : (ps : List Part) (x : X) → value ps ≡ Some x → IsTrue (run (table s) free ps)) where
  read : {x : X} {ts : List LineToken} (it : said.IsLine spelled (λ row. value (parts row)) x ts) → Reads (table s) free (parts it.0) ts
  read {x = x} it =
      reads (table s) spelled (λ q before. Unit {0}) (λ q r before e p w known g. fits before w) (λ q r before t known g. tt) (λ q r before n p known g. tt)
      (λ q r before e p known g. tt) it.1 free tt (rows (parts it.0) x it.2)

  read-once : IsReadOnce spelled (λ row. value (parts row))
  read-once x x' ts ts' rest rest' it it' split =
      let z = one (table s) (clear s) rest rest' (read it) (read it') split in
      (some-one (sym it.2 ∙ ap value z.parts ∙ it'.2), z.tokens)

  begins-no-block : BeginsNoBlock spelled (λ row. value (parts row))
  begins-no-block x t ts us it split b = no-block s t (read it) split b

pub constants-once : IsReadOnce declared constants_of_row
constants-once = read-once in_declaration declared (λ before w. refl) (λ ps. if is_line_end ps then Some [] else constants ps)
    (λ ps x h. row-run in_declaration ps (constants ps) h (constants-run in_declaration ps))

pub constants-apart : BeginsNoBlock declared constants_of_row
constants-apart = begins-no-block in_declaration declared (λ before w. refl) (λ ps. if is_line_end ps then Some [] else constants ps)
    (λ ps x h. row-run in_declaration ps (constants ps) h (constants-run in_declaration ps))

pub variables-once : IsReadOnce declared variables_of_row
variables-once = read-once in_declaration declared (λ before w. refl) (λ ps. if is_line_end ps then Some [] else sized_variables ps)
    (λ ps x h. row-run in_declaration ps (sized_variables ps) h (sized-run in_declaration ps))

pub variables-apart : BeginsNoBlock declared variables_of_row
variables-apart = begins-no-block in_declaration declared (λ before w. refl) (λ ps. if is_line_end ps then Some [] else sized_variables ps)
    (λ ps x h. row-run in_declaration ps (sized_variables ps) h (sized-run in_declaration ps))

objects-run : (ps : List Part) {xs : List Child} → alone (object ps) ≡ Some xs → IsTrue (runs in_declaration free ps)
objects-run ps h = let it = one-some (object ps) h in object-run in_declaration ps it.1

pub objects-once : IsReadOnce declared objects_of_row
objects-once = read-once in_declaration declared (λ before w. refl) (λ ps. if is_line_end ps then Some [] else alone (object ps))
    (λ ps x h. row-run in_declaration ps (alone (object ps)) h (objects-run ps))

pub objects-apart : BeginsNoBlock declared objects_of_row
objects-apart = begins-no-block in_declaration declared (λ before w. refl) (λ ps. if is_line_end ps then Some [] else alone (object ps))
    (λ ps x h. row-run in_declaration ps (alone (object ps)) h (objects-run ps))

pub method-once : (public : Bool) → IsReadOnce headed (method_of_row public)
method-once public = read-once in_method headed (λ before w. refl) (head public) (λ ps x h. method-run in_method public ps h)
