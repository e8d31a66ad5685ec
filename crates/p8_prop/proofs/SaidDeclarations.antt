-- What a row of CON, VAR or OBJ or of a method's head says by its pieces is what it says by its parts.
use Rattle.std.proofs.Common.{◌≡◌, ◌∙◌, ap, refl, ℕ, Bool, List, [], ◌∷◌, Option, Some, None}
use Rattle.std.specs.Prelude.{option_map}
use Rattle.p8_tree.specs.declared.places.Place.{Place}
use Rattle.p8_tree.specs.Expressions.{Tree}
use Rattle.p8_tree.specs.Sources.{MethodTree}
use Rattle.p8_lexer.specs.declared.word.Word.{Word}
use Rattle.p8_lexer.specs.declared.word.Word.TheVariants as words
use Rattle.p8_lexer.specs.Pieces.{Piece, word, name, text, tree}
use Rattle.p8_declarations.specs.Parts as old
use Rattle.p8_declarations.specs.Parts.{Part, part_of_word, parts}
use Rattle.p8_declarations.specs.Constants as con
use Rattle.p8_declarations.specs.Constants.{setting, constant, constants_of_row}
use Rattle.p8_declarations.specs.Variables as var
use Rattle.p8_declarations.specs.Variables.{variable, variables_of_row}
use Rattle.p8_declarations.specs.Objects as obj
use Rattle.p8_declarations.specs.Objects.{objects_of_row}
use Rattle.p8_declarations.specs.Methods as head
use Rattle.p8_declarations.specs.Methods.{bare, with_parameter, with_result, with_locals, method_of_row}
use Rattle.p8_prop.specs.DeclaredLines.{with_first, constants, constants_behind, constants_of, variables, variables_behind, variables_of, objects_of}
use Rattle.p8_prop.specs.DeclaredLines.{behind_result, behind_parameters, parameters, method_of}

first : {A : Type 0} (x : A) (xs : Option (List A)) → with_first x xs ≡ old.with_first x xs
first x None = refl
first x (Some ys) = refl

firsts : {A : Type 0} (x : A) {new xs : Option (List A)} → new ≡ xs → with_first x new ≡ old.with_first x xs
firsts x {xs = xs} same = ap (with_first x) same ∙ first x xs

-- what holds of each part that a word can be holds of the part of a word
word-case : (P : Part → Type 0) → P old.line_end → P old.comma → P old.equals → ((p : Place) → P (old.hash p)) → P old.colon
    → P old.bar → P old.left_parenthesis → P old.right_parenthesis → P old.left_bracket → P old.right_bracket → P (old.size 1) → P (old.size 2)
    → P (old.size 4) → P old.other → (w : Word) (p : Place) → P (part_of_word w p)
unfolding part_of_word
word-case P a b c d e f g h i j k l m n words.LineEnd p = a
word-case P a b c d e f g h i j k l m n words.Comma p = b
word-case P a b c d e f g h i j k l m n words.EqualSign p = c
word-case P a b c d e f g h i j k l m n words.Hash p = d p
word-case P a b c d e f g h i j k l m n words.Colon p = e
word-case P a b c d e f g h i j k l m n words.BitOr p = f
word-case P a b c d e f g h i j k l m n words.LeftParenthesis p = g
word-case P a b c d e f g h i j k l m n words.RightParenthesis p = h
word-case P a b c d e f g h i j k l m n words.LeftBracket p = i
word-case P a b c d e f g h i j k l m n words.RightBracket p = j
word-case P a b c d e f g h i j k l m n words.ByteSize p = k
word-case P a b c d e f g h i j k l m n words.WordSize p = l
word-case P a b c d e f g h i j k l m n words.LongSize p = m
word-case P a b c d e f g h i j k l m n w p = n

-- ---- CON

-- no expression begins with a word
hash-word : (p : Place) (w : Word) (q : Place) (row : List Piece) → None ≡ con.constants (old.hash p ∷ part_of_word w q ∷ parts row)
hash-word p w q row =
    word-case (λ x. None ≡ con.constants (old.hash p ∷ x ∷ parts row)) refl refl refl (λ s. refl) refl refl refl refl refl refl refl refl refl refl w q

equals-word : (n : List ℕ) (p : Place) (w : Word) (q : Place) (row : List Piece)
    → None ≡ con.constants_named n p (old.equals ∷ part_of_word w q ∷ parts row)
equals-word n p w q row =
    word-case (λ x. None ≡ con.constants_named n p (old.equals ∷ x ∷ parts row)) refl refl refl (λ s. refl) refl refl refl refl refl refl refl refl refl
    refl w q

bracket-word : (n : List ℕ) (p : Place) (w : Word) (q : Place) (row : List Piece)
    → None ≡ con.constants_named n p (old.left_bracket ∷ part_of_word w q ∷ parts row)
bracket-word n p w q row =
    word-case (λ x. None ≡ con.constants_named n p (old.left_bracket ∷ x ∷ parts row)) refl refl refl (λ s. refl) refl refl refl refl refl refl refl
    refl refl refl w q

mutual
  unfolding part_of_word

  con-same : (row : List Piece) → constants row ≡ con.constants (parts row)
  con-same (word words.Hash p ∷ tree e q ∷ row) = firsts (setting p e) (con-behind row)
  con-same (word words.Hash p ∷ word w q ∷ row) = hash-word p w q row
  con-same (word words.Hash p ∷ row) = refl
  con-same (word w p ∷ row) = refl
  con-same (name n p ∷ row) = con-named n p row
  con-same row = refl

  con-named : (n : List ℕ) (p : Place) (row : List Piece) → constants (name n p ∷ row) ≡ con.constants_named n p (parts row)
  con-named n p (word words.EqualSign q ∷ tree e r ∷ row) = firsts (constant n p (Some e) None) (con-behind row)
  con-named n p (word words.EqualSign q ∷ word w r ∷ row) = equals-word n p w r row
  con-named n p (word words.EqualSign q ∷ row) = refl
  con-named n p (word words.LeftBracket q ∷ tree e r ∷ word words.RightBracket s ∷ row) = firsts (constant n p None (Some e)) (con-behind row)
  con-named n p (word words.LeftBracket q ∷ tree e r ∷ word w s ∷ row) = refl
  con-named n p (word words.LeftBracket q ∷ word w r ∷ row) = bracket-word n p w r row
  con-named n p (word words.LeftBracket q ∷ row) = refl
  con-named n p (word words.Comma q ∷ row) = firsts (constant n p None None) (con-same row)
  con-named n p (word words.LineEnd q ∷ []) = refl
  con-named n p (word words.LineEnd q ∷ z ∷ row) = refl
  con-named n p (word w q ∷ row) = refl
  con-named n p row = refl

  con-behind : (row : List Piece) → constants_behind row ≡ con.constants_behind (parts row)
  con-behind (word words.Comma p ∷ row) = con-same row
  con-behind (word words.LineEnd p ∷ []) = refl
  con-behind (word words.LineEnd p ∷ z ∷ row) = refl
  con-behind (word w p ∷ row) = refl
  con-behind row = refl

pub constants-same : (row : List Piece) → constants_of row ≡ constants_of_row row
unfolding part_of_word
constants-same (word words.LineEnd p ∷ []) = refl
constants-same (word words.LineEnd p ∷ z ∷ row) = refl
constants-same (word w p ∷ row) = con-same (word w p ∷ row)
constants-same row = con-same row

-- ---- VAR

module _ (s : ℕ) where
  var-word : (w : Word) (q : Place) (row : List Piece) → None ≡ var.variables s (part_of_word w q ∷ parts row)
  var-word w q row =
      word-case (λ x. None ≡ var.variables s (x ∷ parts row)) refl refl refl (λ t. refl) refl refl refl refl refl refl refl refl refl refl w q

  count-word : (n : List ℕ) (p : Place) (w : Word) (q : Place) (row : List Piece)
      → None ≡ var.variables_named s n p (old.left_bracket ∷ part_of_word w q ∷ parts row)
  count-word n p w q row =
      word-case (λ x. None ≡ var.variables_named s n p (old.left_bracket ∷ x ∷ parts row)) refl refl refl (λ t. refl) refl refl refl refl refl refl refl
      refl refl refl w q

  mutual
    unfolding part_of_word

    var-same : (row : List Piece) → variables s row ≡ var.variables s (parts row)
    var-same (name n p ∷ row) = var-named n p row
    var-same (word w p ∷ row) = var-word w p row
    var-same row = refl

    var-named : (n : List ℕ) (p : Place) (row : List Piece) → variables s (name n p ∷ row) ≡ var.variables_named s n p (parts row)
    var-named n p (word words.LeftBracket q ∷ tree e r ∷ word words.RightBracket t ∷ row) = firsts (variable s n p (Some e)) (var-behind row)
    var-named n p (word words.LeftBracket q ∷ tree e r ∷ word w t ∷ row) = refl
    var-named n p (word words.LeftBracket q ∷ word w r ∷ row) = count-word n p w r row
    var-named n p (word words.LeftBracket q ∷ row) = refl
    var-named n p (word words.Comma q ∷ row) = firsts (variable s n p None) (var-same row)
    var-named n p (word words.LineEnd q ∷ []) = refl
    var-named n p (word words.LineEnd q ∷ z ∷ row) = refl
    var-named n p (word w q ∷ row) = refl
    var-named n p row = refl

    var-behind : (row : List Piece) → variables_behind s row ≡ var.variables_behind s (parts row)
    var-behind (word words.Comma p ∷ row) = var-same row
    var-behind (word words.LineEnd p ∷ []) = refl
    var-behind (word words.LineEnd p ∷ z ∷ row) = refl
    var-behind (word w p ∷ row) = refl
    var-behind row = refl

pub variables-same : (row : List Piece) → variables_of row ≡ variables_of_row row
unfolding part_of_word
variables-same (word words.ByteSize p ∷ row) = var-same 1 row
variables-same (word words.WordSize p ∷ row) = var-same 2 row
variables-same (word words.LongSize p ∷ row) = var-same 4 row
variables-same (word words.LineEnd p ∷ []) = refl
variables-same (word words.LineEnd p ∷ z ∷ row) = refl
variables-same (word w p ∷ row) = refl
variables-same row = refl

-- ---- OBJ

file-word : (n : List ℕ) (p : Place) (count : Option Tree) (w : Word) (q : Place) (row : List Piece)
    → None ≡ obj.alone (obj.in_file n p count (part_of_word w q ∷ parts row))
file-word n p count w q row =
    word-case (λ x. None ≡ obj.alone (obj.in_file n p count (x ∷ parts row))) refl refl refl (λ t. refl) refl refl refl refl refl refl refl refl refl
    refl w q

obj-file : (n : List ℕ) (p : Place) (row : List Piece) (q : Place)
    → objects_of (name n p ∷ word words.Colon q ∷ row) ≡ obj.alone (obj.in_file n p None (parts row))
unfolding part_of_word
obj-file n p (text t r ∷ word words.LineEnd s ∷ []) q = refl
obj-file n p (text t r ∷ word words.LineEnd s ∷ z ∷ row) q = refl
obj-file n p (text t r ∷ word w s ∷ row) q = refl
obj-file n p (word w r ∷ row) q = file-word n p None w r row
obj-file n p row q = refl

obj-counted : (n : List ℕ) (p : Place) (e : Tree) (row : List Piece) (q r s u : Place)
    → objects_of (name n p ∷ word words.LeftBracket q ∷ tree e r ∷ word words.RightBracket s ∷ word words.Colon u ∷ row)
    ≡ obj.alone (obj.in_file n p (Some e) (parts row))
unfolding part_of_word
obj-counted n p e (text t v ∷ word words.LineEnd x ∷ []) q r s u = refl
obj-counted n p e (text t v ∷ word words.LineEnd x ∷ z ∷ row) q r s u = refl
obj-counted n p e (text t v ∷ word w x ∷ row) q r s u = refl
obj-counted n p e (word w v ∷ row) q r s u = file-word n p (Some e) w v row
obj-counted n p e row q r s u = refl

many-word : (n : List ℕ) (p : Place) (w : Word) (q : Place) (row : List Piece)
    → None ≡ obj.alone (obj.object_named n p (old.left_bracket ∷ part_of_word w q ∷ parts row))
many-word n p w q row =
    word-case (λ x. None ≡ obj.alone (obj.object_named n p (old.left_bracket ∷ x ∷ parts row))) refl refl refl (λ t. refl) refl refl refl refl refl
    refl refl refl refl refl w q

pub objects-same : (row : List Piece) → objects_of row ≡ objects_of_row row
unfolding part_of_word
objects-same (name n p ∷ word words.Colon q ∷ row) = obj-file n p row q
objects-same (name n p ∷ word words.LeftBracket q ∷ tree e r ∷ word words.RightBracket s ∷ word words.Colon u ∷ row) = obj-counted n p e row q r s u
objects-same (name n p ∷ word words.LeftBracket q ∷ tree e r ∷ word words.RightBracket s ∷ word w u ∷ row) = refl
objects-same (name n p ∷ word words.LeftBracket q ∷ tree e r ∷ word w s ∷ row) = refl
objects-same (name n p ∷ word words.LeftBracket q ∷ word w r ∷ row) = many-word n p w r row
objects-same (name n p ∷ word words.LeftBracket q ∷ row) = refl
objects-same (name n p ∷ word w q ∷ row) = refl
objects-same (word words.LineEnd p ∷ []) = refl
objects-same (word words.LineEnd p ∷ z ∷ row) = refl
objects-same (word w p ∷ row) = refl
objects-same row = refl

-- ---- heads of methods

result-same : (m : MethodTree) (row : List Piece) → behind_result m row ≡ head.behind_result m (parts row)
unfolding part_of_word
result-same m (word words.BitOr p ∷ row) = ap (option_map (with_locals m)) (var-same 4 row)
result-same m (word words.LineEnd p ∷ []) = refl
result-same m (word words.LineEnd p ∷ z ∷ row) = refl
result-same m (word w p ∷ row) = refl
result-same m row = refl

named-word : (m : MethodTree) (w : Word) (q : Place) (row : List Piece) → None ≡ head.result_named m (part_of_word w q ∷ parts row)
named-word m w q row =
    word-case (λ x. None ≡ head.result_named m (x ∷ parts row)) refl refl refl (λ t. refl) refl refl refl refl refl refl refl refl refl refl w q

named-same : (m : MethodTree) (row : List Piece) (p : Place) → behind_parameters m (word words.Colon p ∷ row) ≡ head.result_named m (parts row)
named-same m (name n q ∷ row) p = result-same (with_result m n q) row
named-same m (word w q ∷ row) p = named-word m w q row
named-same m row p = refl

parameters-behind : (m : MethodTree) (row : List Piece) → behind_parameters m row ≡ head.behind_parameters m (parts row)
unfolding part_of_word
parameters-behind m (word words.Colon p ∷ row) = named-same m row p
parameters-behind m (word w p ∷ row) = result-same m (word w p ∷ row)
parameters-behind m row = result-same m row

parameter-word : (m : MethodTree) (w : Word) (q : Place) (row : List Piece) → None ≡ head.parameters m (part_of_word w q ∷ parts row)
parameter-word m w q row =
    word-case (λ x. None ≡ head.parameters m (x ∷ parts row)) refl refl refl (λ t. refl) refl refl refl refl refl refl refl refl refl refl w q

parameters-same : (row : List Piece) (m : MethodTree) → parameters m row ≡ head.parameters m (parts row)
unfolding part_of_word
parameters-same (name n p ∷ word words.Comma q ∷ row) m = parameters-same row (with_parameter m n p)
parameters-same (name n p ∷ word words.RightParenthesis q ∷ row) m = parameters-behind (with_parameter m n p) row
parameters-same (name n p ∷ word w q ∷ row) m = refl
parameters-same (word w p ∷ row) m = parameter-word m w p row
parameters-same row m = refl

head-word : (public : Bool) (w : Word) (q : Place) (row : List Piece) → None ≡ head.head public (part_of_word w q ∷ parts row)
head-word public w q row =
    word-case (λ x. None ≡ head.head public (x ∷ parts row)) refl refl refl (λ t. refl) refl refl refl refl refl refl refl refl refl refl w q

pub method-same : (public : Bool) (row : List Piece) → method_of public row ≡ method_of_row public row
unfolding part_of_word
method-same public (name n p ∷ word words.LeftParenthesis q ∷ row) = parameters-same row (bare public n p)
method-same public (name n p ∷ word w q ∷ row) = parameters-behind (bare public n p) (word w q ∷ row)
method-same public (name n p ∷ row) = parameters-behind (bare public n p) row
method-same public (word w p ∷ row) = head-word public w p row
method-same public row = refl
