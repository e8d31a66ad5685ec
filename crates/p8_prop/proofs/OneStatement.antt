-- A line of a method is read in one way.
use Rattle.std.proofs.Common.{◌≡◌, ◌∙◌, sym, ap, subst, refl, ℕ, Bool, true, false, List, [], ◌∷◌, map, Option, Some, None}
use Rattle.std.specs.Prelude.{IsTrue, if◌then◌else◌, option_map, option_and_then}
use Rattle.p8_tree.specs.declared.places.Place.{Place}
use Rattle.p8_tree.specs.Expressions.{Tree, Items, no_items, ◌▸◌}
use Rattle.p8_tree.specs.Statements.{Course, Count, From}
use Rattle.p8_columns.specs.Lines.{Kind, Item as ItemLine}
use Rattle.p8_lexer.specs.declared.word.Word.{Word}
use Rattle.p8_lexer.specs.declared.word.Word.TheVariants as words
use Rattle.p8_lexer.specs.Pieces as pieces
use Rattle.p8_lexer.specs.Pieces.{Piece}
use Rattle.p8_grammar.specs.Lexemes.{Setting, in_method, in_action, is_dat}
use Rattle.p8_lines.specs.Tokens.{LineToken, word, lexeme, terms, piece}
use Rattle.p8_statements.specs.declared.role.Role.{Role}
use Rattle.p8_statements.specs.declared.role.Role.TheVariants as role
use Rattle.p8_statements.specs.Roles.{role_of, is_to}
use Rattle.p8_statements.specs.Rows.{◌▶◌, phrase, is_end, ended, ends, ending, value_in}
use Rattle.p8_statements.specs.Statements.{maybe_value, counted, counting, counter, course_by, course_before, course, test, unless_in_range}
use Rattle.p8_statements.specs.Statements.{is_last_colon, behind_value, tests_after, other_line, line, is_item, statement, kind_of_row}
use Rattle.p8_blocks.proofs.Pieces.{word_piece}
use Rattle.p8_prop.proofs.Reading as said
use Rattle.p8_prop.proofs.Reading.{in_text}
use Rattle.p8_prop.proofs.Barred.{Bars, Alike, begins-none}
use Rattle.p8_prop.proofs.Marks.{Sort, a_name, a_text, a_word, sort, is_role, role-bars, closes-bars, is_block, block-bars, block-piece}
use Rattle.p8_prop.proofs.OneRow.{Table, Reads, last, a_token, a_label, an_expression, IsClear, one, some-one, goes, run, reads}
use Rattle.p8_prop.proofs.OneDeclaration.{IsReadOnce, BeginsNoBlock}

-- ---- which piece may stand next

-- a line begins, a word was read, or an expression; the line has ended
data Stage : Type 0 where
  first : Stage
  inner : Stage
  behind : Stage
  over : Stage

abbrev by_role : Role → Option Stage
by_role role.Nothing = None
by_role role.LineEnd = Some over
by_role role.Colon = Some over
by_role r = Some inner

abbrev by_word : Piece → Option Stage
by_word (pieces.word w p) = by_role (role_of w)
by_word x = None

abbrev with_tree : Piece → Option Stage
with_tree (pieces.tree e p) = Some behind
with_tree x = by_word x

abbrev go : Stage → Piece → Option Stage
go first x = with_tree x
go inner x = with_tree x
go behind x = by_word x
go over x = None

abbrev is_over : Stage → Bool
is_over over = true
is_over s = false

abbrev setting : Stage → Word → Setting
setting first words.LineEnd = in_action
setting s w = in_method

abbrev table : Table Piece Stage
table = record { part = λ x. x; setting = setting; go = go; ended = is_over }

-- ---- its laws

role-there : (r : Role) {q : Stage} → by_role r ≡ Some q → IsTrue (is_role r)
role-there role.Nothing h = absurd cc
role-there r h = refl

method-like : (q : Stage) (w : Word) → Alike (setting q w) in_method
method-like first words.LineEnd = (refl, refl)
method-like q w = (refl, refl)

word-bars : (s : Setting) (t : LineToken) {q : Stage} → is_dat s ≡ false → by_word (piece t) ≡ Some q → Bars s (lexeme t)
word-bars s t {q = q} d h = of (sort t)
  where
    of : Sort t → Bars s (lexeme t)
    of (a_name n is e) = let never : None ≡ Some q = ap by_word (sym e) ∙ h in absurd cc
    of (a_text x is e) = let never : None ≡ Some q = ap by_word (sym e) ∙ h in absurd cc
    of (a_word e) = role-bars s t (word t) d refl (role-there (role_of (word t)) (ap by_word (sym e) ∙ h))

-- no token is an expression
token-word : (t : LineToken) → with_tree (piece t) ≡ by_word (piece t)
token-word t = of (sort t)
  where
    of : Sort t → with_tree (piece t) ≡ by_word (piece t)
    of (a_name n is e) = ap with_tree e ∙ sym (ap by_word e)
    of (a_text x is e) = ap with_tree e ∙ sym (ap by_word e)
    of (a_word e) = ap with_tree e ∙ sym (ap by_word e)

go-word : (q : Stage) (t : LineToken) {r : Stage} → go q (piece t) ≡ Some r → by_word (piece t) ≡ Some r
go-word first t h = sym (token-word t) ∙ h
go-word inner t h = sym (token-word t) ∙ h
go-word behind t h = h
go-word over t h = absurd cc

no-label : (q : Stage) (n : List ℕ) (p : Place) {r : Stage} → go q (pieces.label n p) ≡ Some r → ⊥
no-label first n p h = cc
no-label inner n p h = cc
no-label behind n p h = cc
no-label over n p h = cc

behind-so : (q r : Stage) (e : Tree) (p : Place) → go q (pieces.tree e p) ≡ Some r → r ≡ behind
behind-so first r e p h = cc
behind-so inner r e p h = cc
behind-so behind r e p h = absurd cc
behind-so over r e p h = absurd cc

no-two : (r r' : Stage) (e : Tree) (p : Place) → r ≡ behind → go r (pieces.tree e p) ≡ Some r' → ⊥
no-two behind r' e p b h = cc
no-two r r' e p b h = cc

nothing-over : (r r' : Stage) (y : Piece) → IsTrue (is_over r) → go r y ≡ Some r' → ⊥
nothing-over over r' y h g = cc
nothing-over r r' y h g = cc

clear : IsClear table
clear = record {
  token-tree = λ q r r' t e p g g' w e' us is.
      begins-none (setting q w) (terms us) t.place (lexeme t) (word-bars (setting q w) t (method-like q w).0 (go-word q t g)) is;
  token-label = λ q r r' t n p g g'. no-label q n p g';
  label-tree = λ q r r' n p e p' g g'. no-label q n p g;
  behind-token = λ q r r' e p t g g' w. word-bars (setting q w) t (method-like q w).0 (go-word r t g');
  behind-label = λ q r r' e p n p' g g'. no-label r n p' g';
  behind-tree = λ q r r' e p e' p' g g'. no-two r r' e' p' (behind-so q r e p g) g';
  ends = λ q r r' t y e g h g'. nothing-over r r' y h g';
  alike = λ q v w. (
    (method-like q v).0 ∙ sym (method-like q w).0,
    (method-like q v).1 ∙ sym (method-like q w).1,
  );
}

-- ---- what has a value is such a row

abbrev runs : Stage → List Piece → Bool
runs q row = run table q row

-- from a word on
abbrev from_word : Role → List Piece → Bool
from_word r row = goes (λ q. runs q row) (by_role r)

if-so : {X : Type 0} (b : Bool) (x : X) {y : X} → (if b then Some x else None) ≡ Some y → IsTrue b
if-so true x h = refl
if-so false x h = absurd cc

end-run : (r : Role) (row : List Piece) → IsTrue (is_end r row) → IsTrue (from_word r row)
end-run role.LineEnd [] h = refl
end-run role.LineEnd (x ∷ row) h = absurd cc
end-run r row h = absurd cc

ended-run : {X : Type 0} (x : X) (r : Role) (row : List Piece) {y : X} → ended x r row ≡ Some y → IsTrue (from_word r row)
ended-run x r row h = end-run r row (if-so (is_end r row) x h)

ends-run : (row : List Piece) → IsTrue (ends row) → IsTrue (runs behind row)
ends-run (pieces.word w p ∷ row) h = end-run (role_of w) row h
ends-run row h = absurd cc

ending-run : {X : Type 0} (x : X) (row : List Piece) {y : X} → ending x row ≡ Some y → IsTrue (runs behind row)
ending-run x row h = ends-run row (if-so (ends row) x h)

-- a word's end is one of an expression
behind-inner : (row : List Piece) → IsTrue (runs behind row) → IsTrue (runs inner row)
behind-inner (pieces.word w p ∷ row) h = h
behind-inner row h = absurd cc

value-run : (row : List Piece) {e : Tree} → value_in row ≡ Some e → IsTrue (runs inner row)
value-run (pieces.tree e p ∷ pieces.word w q ∷ row) h = ended-run e (role_of w) row h
value-run row h = absurd cc

maybe-run : (row : List Piece) {o : Option Tree} → maybe_value row ≡ Some o → IsTrue (runs inner row)
maybe-run (pieces.word w p ∷ row) h = ended-run None (role_of w) row h
maybe-run (pieces.tree e p ∷ row) h = ending-run (Some e) row h
maybe-run row h = absurd cc

mapped : {X Y : Type 0} (f : X → Y) (o : Option X) {y : Y} → option_map f o ≡ Some y → (x : X) × (o ≡ Some x)
mapped f None h = absurd cc
mapped f (Some x) h = (x, refl)

counted-run : (n : List ℕ) (p : Place) (a b : Tree) (r : Role) (row : List Piece) {c : Course} → counted n p a b r row ≡ Some c → IsTrue (from_word r row)
counted-run n p a b role.Step row h = let it = mapped _ (value_in row) h in value-run row it.1
counted-run n p a b r row h = ended-run (From n a b None p) r row h

-- TO, the last value, and what stands behind it
to-run : (n : List ℕ) (p : Place) (a : Tree) (r : Role) (row : List Piece) {c : Course}
    → (if is_to r then (phrase row ▶ λ b row. counted n p a b.0 b.1 row) else None) ≡ Some c → IsTrue (from_word r row)
to-run n p a role.To (pieces.tree b q ∷ pieces.word w q' ∷ row) h = counted-run n p a b (role_of w) row h
to-run n p a role.To row h = absurd cc
to-run n p a r row h = absurd cc

counting-run : (n : List ℕ) (p : Place) (row : List Piece) {c : Course} → counting n p row ≡ Some c → IsTrue (runs inner row)
counting-run n p (pieces.tree a q ∷ pieces.word w q' ∷ row) h = to-run n p a (role_of w) row h
counting-run n p row h = absurd cc

course_by-run : (e : Tree) (r : Role) (row : List Piece) {c : Course} → course_by e r row ≡ Some c → IsTrue (from_word r row)
course_by-run e role.From row h = by (counter e) h
  where
    by : (o : Option (List ℕ × Place)) {c : Course} → option_and_then (λ c. counting c.0 c.1 row) o ≡ Some c → IsTrue (runs inner row)
    by None h = absurd cc
    by (Some c) h = counting-run c.0 c.1 row h
course_by-run e r row h = ended-run (Count e) r row h

course_before-run : (r : Role) (row : List Piece) {c : Course} → course_before r row ≡ Some c → IsTrue (from_word r row)
course_before-run (role.End until) row h = let it = mapped _ (value_in row) h in value-run row it.1
course_before-run role.LineEnd [] h = refl
course_before-run r row h = absurd cc

course-run : (row : List Piece) {c : Course} → course row ≡ Some c → IsTrue (runs inner row)
course-run (pieces.word w p ∷ row) h = course_before-run (role_of w) row h
course-run (pieces.tree e p ∷ pieces.word w q ∷ row) h = course_by-run e (role_of w) row h
course-run row h = absurd cc

last_colon-run : (r : Role) (row : List Piece) → IsTrue (is_last_colon r row) → IsTrue (from_word r row)
last_colon-run role.Colon [] h = refl
last_colon-run r row h = absurd cc

other-run : (row : List Piece) {k : Kind} → other_line row ≡ Some k → IsTrue (runs inner row)
other-run (pieces.word w p ∷ row) h = last_colon-run (role_of w) row (if-so (is_last_colon (role_of w) row) _ h)
other-run row h = absurd cc

out_of_range : (low : Option Tree) (o : Option Items) {xs : Items} → unless_in_range low o ≡ Some xs → o ≡ Some xs
out_of_range None o h = h
out_of_range (Some e) o h = absurd cc

test-run : (r : Role) (low : Option Tree) (xs : Items) (row : List Piece) (further final : Option Items) {ys : Items}
    → behind_value r low xs row further final ≡ Some ys → (further ≡ Some ys → IsTrue (runs inner row)) → (final ≡ Some ys → IsTrue (runs inner row))
    → IsTrue (from_word r row)
test-run role.DotDot low xs row further final h f l = l (out_of_range low final h)
test-run role.Comma low xs row further final h f l = f h
test-run role.Colon low xs [] further final h f l = refl
test-run r low xs row further final h f l = absurd cc

tests-run : (xs : Items) (low : Option Tree) (row : List Piece) {ys : Items} → tests_after xs low row ≡ Some ys → IsTrue (runs inner row)
tests-run xs low (pieces.tree e p ∷ pieces.word w q ∷ row) h =
    test-run (role_of w) low (xs ▸ test low e) row (tests_after (xs ▸ test low e) None row) (tests_after xs (Some e) row) h
    (tests-run (xs ▸ test low e) None row) (tests-run xs (Some e) row)
tests-run xs low row h = absurd cc

line-run : (r : Role) (row : List Piece) {k : Kind} → line r row ≡ Some k → IsTrue (from_word r row)
line-run (role.If negated) row h = let it = mapped _ (value_in row) h in value-run row it.1
line-run (role.ElseIf negated) row h = let it = mapped _ (value_in row) h in value-run row it.1
line-run role.Else row h = behind-inner row (ending-run _ row h)
line-run role.Case row h = let it = mapped _ (value_in row) h in value-run row it.1
line-run role.Other row h = other-run row h
line-run role.Repeat row h = let it = mapped _ (course row) h in course-run row it.1
line-run (role.End until) row h = let it = mapped _ (value_in row) h in value-run row it.1
line-run role.Next row h = behind-inner row (ending-run _ row h)
line-run role.Quit row h = behind-inner row (ending-run _ row h)
line-run role.Return row h = let it = mapped _ (maybe_value row) h in maybe-run row it.1
line-run role.Abort row h = let it = mapped _ (maybe_value row) h in maybe-run row it.1
line-run r row h = absurd cc

statement-run : (row : List Piece) {k : Kind} → statement row ≡ Some k → IsTrue (runs first row)
statement-run (pieces.word w p ∷ row) h = line-run (role_of w) row h
statement-run (pieces.tree e p ∷ row) h = ending-run _ row h
statement-run row h = absurd cc

-- an item begins with an expression
first-inner : (row : List Piece) → IsTrue (runs inner row) → IsTrue (runs first row)
first-inner [] h = h
first-inner (x ∷ row) h = h

row-run : (row : List Piece) {k : Kind} → kind_of_row row ≡ Some k → IsTrue (runs first row)
row-run row h = by (is_item row) h
  where
    by : (b : Bool) {k : Kind} → (if b then option_map ItemLine (tests_after no_items None row) else statement row) ≡ Some k → IsTrue (runs first row)
    by true h = let it = mapped _ (tests_after no_items None row) h in first-inner row (tests-run no_items None row it.1)
    by false h = statement-run row h

-- ---- lines

-- what is known of the words before
abbrev Known : Stage → List Word → Type 0
Known first before = before ≡ []
Known inner before = (w : Word) → in_text before w ≡ in_method
Known q before = Unit {0}

first-text : (w : Word) → in_text [] w ≡ setting first w
first-text words.LineEnd = refl
first-text w = refl

fits : (q r : Stage) (before : List Word) (e : Tree) (p : Place) (w : Word) → Known q before → go q (pieces.tree e p) ≡ Some r → in_text before w ≡ setting q w
fits first r before e p w known g = ap (λ (b : List Word). in_text b w) known ∙ first-text w
fits inner r before e p w known g = known w
fits behind r before e p w known g = absurd cc
fits over r before e p w known g = absurd cc

no-first : (r : Role) → by_role r ≡ Some first → ⊥
no-first role.Nothing h = cc
no-first role.LineEnd h = cc
no-first role.Colon h = cc
no-first r h = cc

word-known : (x : Piece) (r : Stage) (before : List Word) (w : Word) → by_word x ≡ Some r → Known r (w ∷ before)
word-known (pieces.word v p) first before w h = absurd (no-first (role_of v) h)
word-known x first before w h = absurd cc
word-known x inner before w h = λ v. refl
word-known x behind before w h = tt
word-known x over before w h = tt

tree-known : (q r : Stage) (before : List Word) (e : Tree) (p : Place) → go q (pieces.tree e p) ≡ Some r → Known r before
tree-known q r before e p g = subst (λ (r : Stage). Known r before) (sym (behind-so q r e p g)) tt

map-same : (row : List Piece) → map (λ (x : Piece). x) row ≡ row
map-same [] = refl
map-same (x ∷ row) = ap (λ (l : List Piece). x ∷ l) (map-same row)

read : {k : Kind} {ts : List LineToken} (it : said.IsLine in_text kind_of_row k ts) → Reads table first it.0 ts
read {ts = ts} it =
    subst (λ (row : List Piece). Reads table first row ts) (map-same it.0)
    (reads table in_text Known fits (λ q r before t known g. word-known (piece t) r before (word t) (go-word q t g))
    (λ q r before n p known g. absurd (no-label q n p g))
    (λ q r before e p known g. tree-known q r before e p g) it.1 first refl
    (subst (λ (row : List Piece). IsTrue (runs first row)) (sym (map-same it.0)) (row-run it.0 it.2)))

pub statements-once : IsReadOnce in_text kind_of_row
statements-once x x' ts ts' rest rest' it it' split =
    let z = one table clear rest rest' (read it) (read it') split in
    (some-one (sym it.2 ∙ ap kind_of_row z.parts ∙ it'.2), z.tokens)

no-role : (w : Word) → IsTrue (is_block w) → by_role (role_of w) ≡ None
unfolding role_of
no-role words.Con h = refl
no-role words.Var h = refl
no-role words.Obj h = refl
no-role words.Dat h = refl
no-role words.Pub h = refl
no-role words.Pri h = refl
no-role w h = absurd cc

block-none : (t : LineToken) {r : Stage} → IsTrue (is_block (word t)) → go first (piece t) ≡ Some r → ⊥
block-none t {r = r} b g =
    let never : None ≡ Some r = sym (ap by_word (block-piece t (word t) refl b) ∙ no-role (word t) b) ∙ go-word first t g in cc

same-block : (t u : LineToken) → u ≡ t → IsTrue (is_block (word t)) → IsTrue (is_block (word u))
same-block t u firsts b = subst (λ (t : LineToken). IsTrue (is_block (word t))) (sym firsts) b

no-block : {row : List Piece} {ts us : List LineToken} (t : LineToken) → Reads table first row us → us ≡ t ∷ ts → IsTrue (is_block (word t)) → ⊥
no-block t (last u e g h) split b = let firsts : u ≡ t = cc in block-none u (same-block t u firsts b) g
no-block t (a_token u n g x) split b = let firsts : u ≡ t = cc in block-none u (same-block t u firsts b) g
no-block t (a_label {n = n} u is g x) split b = no-label first n u.place g
no-block t (an_expression begin others u is g x) split b =
    let firsts : begin ≡ t = cc in
    begins-none (setting first (word u)) (terms others) begin.place (lexeme begin)
    (block-bars (setting first (word u)) begin (word begin) refl (same-block t begin firsts b)) is

pub statements-apart : BeginsNoBlock in_text kind_of_row
statements-apart x t ts us it split b = no-block t (read it) split b

word-none : (row : List Piece) (p : Place) → kind_of_row (pieces.word words.LineEnd p ∷ row) ≡ None
unfolding role_of
word-none row p = refl

-- no line is the end of a line alone
not-blank : {k : Kind} {row : List Piece} {ts us : List LineToken} (t : LineToken) → word t ≡ words.LineEnd → said.Row in_text [] row us
    → kind_of_row row ≡ Some k
    → us ≡ t ∷ ts → ⊥
not-blank {k = k} t e (said.last u w) is split =
    let firsts : u ≡ t = cc in
    let never : None ≡ Some k =
    sym (ap (λ (x : Piece). kind_of_row (x ∷ [])) (word_piece u words.LineEnd refl (ap word firsts ∙ e)) ∙ word-none [] u.place) ∙ is in cc
not-blank t e (said.a_token u n x) is split = let firsts : u ≡ t = cc in n (ap word firsts ∙ e)
not-blank t e (said.a_label u there x) is split = cc
not-blank t e (said.an_expression begin others u tree x) is split =
    let firsts : begin ≡ t = cc in
    begins-none (in_text [] (word u)) (terms others) begin.place (lexeme begin)
    (closes-bars (in_text [] (word u)) begin words.LineEnd (ap word firsts ∙ e) refl) tree

pub statements-not_blank : (k : Kind) (t : LineToken) (us : List LineToken) → said.IsLine in_text kind_of_row k (t ∷ us) → word t ≡ words.LineEnd → ⊥
statements-not_blank k t us it e = not-blank t e it.1 it.2 refl
