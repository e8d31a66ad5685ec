-- What is read of a row whose names and expressions are proper.
use Rattle.std.proofs.Common.{ℕ, Bool, true, false, List, ◌∷◌, Option, Some, None}
use Rattle.std.specs.Prelude.{if◌then◌else◌, option_map, option_and_then}
use Rattle.p8_tree.specs.Expressions.{Tree}
use Rattle.p8_lexer.specs.Pieces.{Piece, word, tree}
use Rattle.p8_statements.specs.declared.role.Role.{Role}
use Rattle.p8_statements.specs.declared.statement_pieces.Sign.{Sign}
use Rattle.p8_statements.specs.Roles.{role_of}
use Rattle.p8_statements.specs.Rows.{Reading, ◌▶◌, word_in, phrase, is_end, ended, ends, ending, value_in}
use Rattle.p8_lexer.specs.Proper.{IsProperUpTo, AreProper}

-- what is read has this property
abbrev pub Gives : {X : Type 0} → (X → Type 0) → Option X → Type 0
Gives P None = Unit {0}
Gives P (Some x) = P x

pub after : {X Y : Type 0} (P : Y → Type 0) (Q : X × List Piece → Type 0) (o : Reading X) (f : X → List Piece → Option Y) → Gives Q o → ((x : X) (row : List Piece) → Q (x, row) → Gives P (f x row)) → Gives P (o ▶ f)
after P Q None f h k = tt
after P Q (Some (x, row)) f h k = k x row h

pub mapped : {X Y : Type 0} (P : Y → Type 0) (Q : X → Type 0) (f : X → Y) (o : Option X) → Gives Q o → ((x : X) → Q x → P (f x)) → Gives P (option_map f o)
mapped P Q f None h k = tt
mapped P Q f (Some x) h k = k x h

pub and_then : {X Y : Type 0} (P : Y → Type 0) (Q : X → Type 0) (f : X → Option Y) (o : Option X) → Gives Q o → ((x : X) → Q x → Gives P (f x)) → Gives P (option_and_then f o)
and_then P Q f None h k = tt
and_then P Q f (Some x) h k = k x h

pub either : {X : Type 0} (P : X → Type 0) (b : Bool) (x y : Option X) → Gives P x → Gives P y → Gives P (if b then x else y)
either P true x y h k = h
either P false x y h k = k

pub ended_gives : {X : Type 0} (P : X → Type 0) (x : X) (r : Role) (row : List Piece) → P x → Gives P (ended x r row)
ended_gives P x r row h = either P (is_end r row) (Some x) None h tt

pub ending_gives : {X : Type 0} (P : X → Type 0) (x : X) (row : List Piece) → P x → Gives P (ending x row)
ending_gives P x row h = either P (ends row) (Some x) None h tt

-- parts of a row, with what is left of it

pub record SignIs (h : ℕ) (x : Sign × List Piece) : Type 0 where
  pub rest : AreProper false h x.1

pub word_gives : (h : ℕ) (row : List Piece) → AreProper false h row → Gives (SignIs h) (word_in row)
word_gives h (word w p ∷ row) a = record { rest = a }
word_gives h row a = tt

pub record PhraseIs (h : ℕ) (x : (Tree × Role) × List Piece) : Type 0 where
  pub tree : IsProperUpTo false h x.0.0
  pub rest : AreProper false h x.1

pub phrase_gives : (h : ℕ) (row : List Piece) → AreProper false h row → Gives (PhraseIs h) (phrase row)
phrase_gives h (tree e p ∷ word w q ∷ row) a = record { tree = a.0; rest = a.1 }
phrase_gives h row a = tt

pub value_gives : (h : ℕ) (row : List Piece) → AreProper false h row → Gives (IsProperUpTo false h) (value_in row)
value_gives h (tree e p ∷ word w q ∷ row) a = ended_gives (IsProperUpTo false h) e (role_of w) row a.0
value_gives h row a = tt
