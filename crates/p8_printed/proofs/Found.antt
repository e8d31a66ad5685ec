-- Printed lines as a reader finds them: each where it was printed, of the same kind but for places.
use Rattle.std.proofs.Common.{◌≡◌, suc, List, [], ◌∷◌, ◌++◌, refl, ap}
use Rattle.p8_columns.specs.Lines.{Line, column}
use Rattle.p8_printed.specs.Kinds.{kind_anywhere}
use Rattle.p8_print.specs.Layout.{Indented}

pub record IsFound (x : Indented) (l : Line) : Type 0 where
  pub stands : column l ≡ suc x.indent
  pub same : kind_anywhere l.kind ≡ kind_anywhere x.kind

abbrev pub AreFound : List Indented → List Line → Type 0
AreFound [] [] = Unit {0}
AreFound (x ∷ xs) (l ∷ ls) = IsFound x l × AreFound xs ls
AreFound _ _ = ⊥

pub none_found : (ls : List Line) → AreFound [] ls → ls ≡ []
none_found [] h = refl
none_found (l ∷ ls) h = absurd h

-- the line that one in the middle is found as
pub record Split (xs : List Indented) (x : Indented) (ys : List Indented) (ls : List Line) : Type 0 where
  pub before : List Line
  pub at : Line
  pub behind : List Line
  pub split : ls ≡ before ++ at ∷ behind
  pub first : AreFound xs before
  pub found : IsFound x at
  pub rest : AreFound ys behind

pub split_at : (xs : List Indented) (x : Indented) (ys : List Indented) (ls : List Line) → AreFound (xs ++ x ∷ ys) ls → Split xs x ys ls
split_at [] x ys [] h = absurd h
split_at [] x ys (l ∷ ls) h = record { before = []; at = l; behind = ls; split = refl; first = tt; found = h.0; rest = h.1 }
split_at (z ∷ xs) x ys [] h = absurd h
split_at (z ∷ xs) x ys (l ∷ ls) h =
    let s = split_at xs x ys ls h.1 in
    record { before = l ∷ s.before; at = s.at; behind = s.behind; split = ap (λ k. l ∷ k) s.split; first = (h.0, s.first); found = s.found; rest = s.rest }
