-- What rows of pieces have as values: lines that can be printed.
use Rattle.std.proofs.Common.{◌≡◌, ℕ, List, ◌∷◌, Option, Some, None, Bool, true, false, IsTrue, refl, subst}
use Rattle.std.specs.Prelude.{if◌then◌else◌, option_map, option_and_then}
use Rattle.p8_tree.specs.declared.places.Place.{Place}
use Rattle.p8_tree.specs.Expressions.{Tree}
use Rattle.p8_tree.specs.Statements.{Course, Forever, Count, Before, From, Do, Next, Quit, Return, Abort}
use Rattle.p8_columns.specs.Lines.{Kind, Plain, If, ElseIf, Else, Repeat, End, Case, Item, Other}
use Rattle.p8_lexer.specs.Pieces.{Piece, word, tree}
use Rattle.p8_statements.specs.declared.role.Role.{Role}
use Rattle.p8_statements.specs.declared.role.Role.TheVariants as role
use Rattle.p8_statements.specs.Roles.{role_of, is_to, is_step, is_from}
use Rattle.p8_statements.specs.Rows.{Reading, ◌▶◌, word_in, phrase, is_empty, is_end, ended, ends, ending, value_in}
use Rattle.p8_statements.specs.Statements.{maybe_value, counted, counting, counter, course_by, course_before, course, is_last_colon, tests_after, line, is_item, statement, kind_of_row}
use Rattle.p8_printed.proofs.Rebuilt.{is_headed, is_line}

-- what is there has this property
abbrev pub Where : {X : Type 0} → (X → Type 0) → Option X → Type 0
Where P None = Unit {0}
Where P (Some x) = P x

pub where_is : {X : Type 0} (P : X → Type 0) (o : Option X) (x : X) → Where P o → o ≡ Some x → P x
where_is P o x h e = subst (Where P) e h

-- combinators

pub where_if : {X : Type 0} (P : X → Type 0) (b : Bool) (o o' : Option X) → Where P o → Where P o' → Where P (if b then o else o')
where_if P true o o' h k = h
where_if P false o o' h k = k

pub where_map : {X Y : Type 0} (P : Y → Type 0) (f : X → Y) → ((x : X) → P (f x)) → (o : Option X) → Where P (option_map f o)
where_map P f h None = tt
where_map P f h (Some x) = h x

where_and : {X Y : Type 0} (P : Y → Type 0) (f : X → Option Y) → ((x : X) → Where P (f x)) → (o : Option X) → Where P (option_and_then f o)
where_and P f h None = tt
where_and P f h (Some x) = h x

pub where_after : {X Y : Type 0} (P : Y → Type 0) (f : X → List Piece → Option Y) → ((x : X) (row : List Piece) → Where P (f x row)) → (o : Reading X) → Where P (o ▶ f)
where_after P f h None = tt
where_after P f h (Some (x, row)) = h x row

where_ended : {X : Type 0} (P : X → Type 0) (x : X) (r : Role) (row : List Piece) → P x → Where P (ended x r row)
where_ended P x r row h = where_if P (is_end r row) (Some x) None h tt

pub where_ending : {X : Type 0} (P : X → Type 0) (x : X) (row : List Piece) → P x → Where P (ending x row)
where_ending P x row h = where_if P (ends row) (Some x) None h tt

-- what stands after REPEAT

abbrev Heads : Course → Type 0
Heads c = IsTrue (is_headed c)

heads_counting : (n : List ℕ) (p : Place) (row : List Piece) → Where Heads (counting n p row)
heads_counting n p row = where_after Heads _ (λ a row. where_if Heads (is_to a.1) _ None (where_after Heads _ (λ b row. last a.0 b.0 b.1 row) (phrase row)) tt) (phrase row)
  where
    last : (a b : Tree) (r : Role) (row : List Piece) → Where Heads (counted n p a b r row)
    last a b r row = where_if Heads (is_step r) _ _ (where_map Heads (λ c. From n a b (Some c) p) (λ c. refl) (value_in row)) (where_ended Heads (From n a b None p) r row refl)

heads_by : (e : Tree) (r : Role) (row : List Piece) → Where Heads (course_by e r row)
heads_by e r row = where_if Heads (is_from r) _ _ (where_and Heads (λ c. counting c.0 c.1 row) (λ c. heads_counting c.0 c.1 row) (counter e)) (where_ended Heads (Count e) r row refl)

heads_before : (r : Role) (row : List Piece) → Where Heads (course_before r row)
heads_before (role.End until) row = where_map Heads (Before until) (λ e. refl) (value_in row)
heads_before role.LineEnd row = where_if Heads (is_empty row) (Some Forever) None refl tt
heads_before r row = tt

heads : (row : List Piece) → Where Heads (course row)
heads (word w p ∷ row) = heads_before (role_of w) row
heads (tree e p ∷ row) = where_after Heads _ (λ s row. heads_by e s.role row) (word_in row)
heads row = tt

-- lines

abbrev IsLineKind : Kind → Type 0
IsLineKind k = IsTrue (is_line k)

repeats : (o : Option Course) → Where Heads o → Where IsLineKind (option_map Repeat o)
repeats None h = tt
repeats (Some c) h = h

lines : (r : Role) (row : List Piece) → Where IsLineKind (line r row)
lines (role.If negated) row = where_map IsLineKind (If negated) (λ e. refl) (value_in row)
lines (role.ElseIf negated) row = where_map IsLineKind (ElseIf negated) (λ e. refl) (value_in row)
lines role.Else row = where_ending IsLineKind Else row refl
lines role.Case row = where_map IsLineKind Case (λ e. refl) (value_in row)
lines role.Other row = where_after IsLineKind _ (λ s row. where_if IsLineKind (is_last_colon s.role row) (Some Other) None refl tt) (word_in row)
lines role.Repeat row = repeats (course row) (heads row)
lines (role.End until) row = where_map IsLineKind (End until) (λ e. refl) (value_in row)
lines role.Next row = where_ending IsLineKind (Plain Next) row refl
lines role.Quit row = where_ending IsLineKind (Plain Quit) row refl
lines role.Return row = where_map IsLineKind (λ e. Plain (Return e)) (λ e. refl) (maybe_value row)
lines role.Abort row = where_map IsLineKind (λ e. Plain (Abort e)) (λ e. refl) (maybe_value row)
lines r row = tt

statements : (row : List Piece) → Where IsLineKind (statement row)
statements (word w p ∷ row) = lines (role_of w) row
statements (tree e p ∷ row) = where_ending IsLineKind (Plain (Do e)) row refl
statements row = tt

pub row_is_line : (row : List Piece) (k : Kind) → kind_of_row row ≡ Some k → IsTrue (is_line k)
row_is_line row k e = where_is IsLineKind (kind_of_row row) k (where_if IsLineKind (is_item row) _ _ (where_map IsLineKind Item (λ ts. refl) (tests_after _ None row)) (statements row)) e
