-- What a row of DAT says by its pieces is what it says by its parts, where each of its words is known; and it says nothing where one isn't.
use Rattle.std.proofs.Common.{◌≡◌, ◌∙◌, sym, ap, subst, refl, ℕ, Bool, true, false, List, [], ◌∷◌, ◌++◌, append_assoc, map, Option, Some, None, arith}
use Rattle.std.specs.Prelude.{IsTrue, if◌then◌else◌, bit_or, is_some, option_map, ◌&&◌, nat_lt, length}
use Rattle.std.proofs.lemmas.Bool.Decides.{nat_tests}
use Rattle.std.specs.List.{list_all}
use Rattle.p8_tree.specs.declared.places.Place.{Place}
use Rattle.p8_tree.specs.Expressions.{Tree, node, Str}
use Rattle.p8_tree.specs.Sources.{Datum, Instruction, Data, Org, Res, Fit, Instr, Line}
use Rattle.p8_instr.specs.Mnemonics.{entry_of, mnemonics}
use Rattle.p8_lexer.specs.declared.word.Word.{Word}
use Rattle.p8_lexer.specs.declared.word.Word.TheVariants as words
use Rattle.p8_lexer.specs.Words as old_words
use Rattle.p8_lexer.specs.Meanings.{meaning}
use Rattle.p8_lexer.specs.Pieces.{Piece, word, name, label, text, tree}
use Rattle.p8_declarations.specs.DataParts as part
use Rattle.p8_declarations.specs.DataParts.{Part, part_of_word, part_of_piece, parts, before_end}
use Rattle.p8_declarations.specs.Lines as old
use Rattle.p8_declarations.specs.Lines.{local, datum, direct, immediate, label as named, filled, blank, before, behind, open_bracket, over}
use Rattle.p8_blocks.specs.Files.{lines_in}
use Rattle.p8_prop.specs.Words.{spelling, condition_of}
use Rattle.p8_prop.specs.DeclaredLines.{with_first}
use Rattle.p8_prop.specs.DataLines.{items, all_items, bare, effects, source, operands, instruction, value, conditional, body, one, lines_of}
use Rattle.p8_prop.proofs.SaidWords.{spelling-same, condition_in, condition-same}
use Rattle.p8_prop.proofs.Reading.{is_known, data_of_row}
use Rattle.p8_prop.proofs.Closing.{closed}

-- ---- what is said where each word is known

-- a value, if this holds
abbrev only : {X : Type 0} → Bool → Option X → Option X
only b o = if b then o else None

-- what is said of a row where each of its words is known
abbrev known : List Piece → Bool
known row = list_all is_known (map part_of_piece row)

abbrev if_known : {X : Type 0} → List Piece → Option X → Option X
if_known row o = only (known row) o

-- nothing is said anyway
no : {X : Type 0} (row : List Piece) → None ≡ if_known {X = X} row None
no row = nothing (known row)
  where
    nothing : {X : Type 0} (b : Bool) → None ≡ only {X = X} b None
    nothing true = refl
    nothing false = refl

mapped : {X Y : Type 0} (f : X → Y) (b : Bool) (o : Option X) {new : Option X} → new ≡ only b o → option_map f new ≡ only b (option_map f o)
mapped f true o same = ap (option_map f) same
mapped f false o same = ap (option_map f) same

-- what a part that is a word is not
abbrev is_mark : Part → Bool
is_mark (part.name n p) = false
is_mark (part.behind_colon n p) = false
is_mark (part.text t p) = false
is_mark (part.tree e p) = false
is_mark x = true

marks : (w : Word) (p : Place) → IsTrue (is_mark (part_of_word w p))
unfolding part_of_word
marks words.LineEnd p = refl
marks w p = refl

-- ---- data

-- these behind those that were read before
abbrev behind_those : List Datum → Option (List Datum) → Option (List Datum)
behind_those read o = option_map (λ (ys : List Datum). read ++ ys) o

carried : (read : List Datum) (d : Datum) (o : Option (List Datum)) → behind_those read (with_first d o) ≡ behind_those (read ++ d ∷ []) o
carried read d None = refl
carried read d (Some ys) = ap (λ (zs : List Datum). Some zs) (sym (append_assoc read (d ∷ []) ys))

-- no count is a word
no-count : (read : List Datum) (s : Option ℕ) (e : Tree) (x : Part) (row : List Piece) (xs : List Part) → IsTrue (is_mark x)
    → None ≡ if_known row (old.items read (open_bracket s e) (before_end (x ∷ xs)))
no-count read s e (part.tree c p) row xs m = absurd cc
no-count read s e part.line_end row xs m = no row
no-count read s e x row xs m = no row

-- a string of two characters or more is known
two-or-more : (c d : ℕ) (t : List ℕ) → nat_lt 1 (length (c ∷ d ∷ t)) ≡ true
two-or-more c d t = grind (arith, nat_tests)

long-known : (c d : ℕ) (t : List ℕ) (row : List Piece) (o : Option (List Datum))
    → if_known row o ≡ only (nat_lt 1 (length (c ∷ d ∷ t)) && known row) o
long-known c d t row o = ap (λ (b : Bool). only (b && known row) o) (sym (two-or-more c d t))

mutual
  unfolding part_of_word

  -- a string, which has no count
  text-same : (row : List Piece) (s : Option ℕ) (c d : ℕ) (t : List ℕ) (p : Place) (read : List Datum) → IsTrue (closed row)
      → behind_those read (items s (text (c ∷ d ∷ t) p ∷ row)) ≡ if_known row (old.items read (over s (node p (Str (c ∷ d ∷ t))) None) (parts row))
  text-same [] s c d t p read e = absurd cc
  text-same (word words.Comma q ∷ row) s c d t p read e =
      carried read (datum s (node p (Str (c ∷ d ∷ t))) None) (items None row) ∙ items-same row None (read ++ datum s (node p (Str (c ∷ d ∷ t))) None ∷ []) e
  text-same (word words.LineEnd q ∷ []) s c d t p read e = refl
  text-same (word words.LineEnd q ∷ z ∷ row) s c d t p read e = absurd cc
  text-same (word w q ∷ row) s c d t p read e = no (word w q ∷ row)
  text-same row s c d t p read e = no row

  -- a value, with a count or without one
  tree-same : (row : List Piece) (s : Option ℕ) (v : Tree) (p : Place) (read : List Datum) → IsTrue (closed row)
      → behind_those read (items s (tree v p ∷ row)) ≡ if_known row (old.items read (behind s v) (parts row))
  tree-same [] s v p read e = absurd cc
  tree-same (word words.LeftBracket q ∷ tree n r ∷ word words.RightBracket u ∷ []) s v p read e = absurd cc
  tree-same (word words.LeftBracket q ∷ tree n r ∷ word words.RightBracket u ∷ word words.Comma x ∷ row) s v p read e =
      carried read (datum s v (Some n)) (items None row) ∙ items-same row None (read ++ datum s v (Some n) ∷ []) e
  tree-same (word words.LeftBracket q ∷ tree n r ∷ word words.RightBracket u ∷ word words.LineEnd x ∷ []) s v p read e = refl
  tree-same (word words.LeftBracket q ∷ tree n r ∷ word words.RightBracket u ∷ word words.LineEnd x ∷ z ∷ row) s v p read e = absurd cc
  tree-same (word words.LeftBracket q ∷ tree n r ∷ word words.RightBracket u ∷ word w x ∷ row) s v p read e =
      no (word words.LeftBracket q ∷ tree n r ∷ word words.RightBracket u ∷ word w x ∷ row)
  tree-same (word words.LeftBracket q ∷ tree n r ∷ word words.RightBracket u ∷ row) s v p read e =
      no (word words.LeftBracket q ∷ tree n r ∷ word words.RightBracket u ∷ row)
  tree-same (word words.LeftBracket q ∷ tree n r ∷ word w u ∷ row) s v p read e = no (word words.LeftBracket q ∷ tree n r ∷ word w u ∷ row)
  tree-same (word words.LeftBracket q ∷ tree n r ∷ row) s v p read e = no (word words.LeftBracket q ∷ tree n r ∷ row)
  tree-same (word words.LeftBracket q ∷ word w r ∷ row) s v p read e =
      no-count read s v (part_of_word w r) (word words.LeftBracket q ∷ word w r ∷ row) (map part_of_piece row) (marks w r)
  tree-same (word words.LeftBracket q ∷ row) s v p read e = no (word words.LeftBracket q ∷ row)
  tree-same (word words.Comma q ∷ row) s v p read e =
      carried read (datum s v None) (items None row) ∙ items-same row None (read ++ datum s v None ∷ []) e
  tree-same (word words.LineEnd q ∷ []) s v p read e = refl
  tree-same (word words.LineEnd q ∷ z ∷ row) s v p read e = absurd cc
  tree-same (word w q ∷ row) s v p read e = no (word w q ∷ row)
  tree-same row s v p read e = no row

  items-same : (row : List Piece) (s : Option ℕ) (read : List Datum) → IsTrue (closed row)
      → behind_those read (items s row) ≡ if_known row (old.items read (before s) (parts row))
  items-same [] s read e = absurd cc
  items-same (text [] p ∷ row) s read e = refl
  items-same (text (c ∷ []) p ∷ row) s read e = refl
  items-same (text (c ∷ d ∷ t) p ∷ row) None read e =
      text-same row None c d t p read e ∙ long-known c d t row (old.items read (over None (node p (Str (c ∷ d ∷ t))) None) (parts row))
  items-same (text (c ∷ d ∷ t) p ∷ row) (Some n) read e =
      text-same row (Some n) c d t p read e ∙ long-known c d t row (old.items read (over (Some n) (node p (Str (c ∷ d ∷ t))) None) (parts row))
  items-same (tree v p ∷ row) None read e = tree-same row None v p read e
  items-same (tree v p ∷ row) (Some n) read e = tree-same row (Some n) v p read e
  items-same (word words.ByteSize p ∷ row) None read e = items-same row (Some 1) read e
  items-same (word words.WordSize p ∷ row) None read e = items-same row (Some 2) read e
  items-same (word words.LongSize p ∷ row) None read e = items-same row (Some 4) read e
  items-same (word words.LineEnd p ∷ row) (Some n) read e = no (word words.LineEnd p ∷ row)
  items-same (word w p ∷ row) None read e = no (word w p ∷ row)
  items-same (word w p ∷ row) (Some n) read e = no (word w p ∷ row)
  items-same row None read e = no row
  items-same row (Some n) read e = no row

-- these behind nothing
behind-none : (o : Option (List Datum)) → o ≡ behind_those [] o
behind-none None = refl
behind-none (Some ys) = refl

from-none : (row : List Piece) → IsTrue (closed row) → items None row ≡ if_known row (old.items [] (before None) (parts row))
from-none row e = behind-none (items None row) ∙ items-same row None [] e

all-same : (row : List Piece) → IsTrue (closed row) → all_items row ≡ if_known row (old.all_items (parts row))
unfolding part_of_word
all-same [] e = absurd cc
all-same (word words.LineEnd p ∷ []) e = refl
all-same (word words.LineEnd p ∷ z ∷ row) e = absurd cc
all-same (word w p ∷ row) e = from-none (word w p ∷ row) e
all-same (tree v p ∷ row) e = from-none (tree v p ∷ row) e
all-same (text t p ∷ row) e = from-none (text t p ∷ row) e
all-same row e = no row

-- ---- instructions

effects-same : (row : List Piece) (x : Instruction) → IsTrue (closed row) → effects x row ≡ if_known row (old.effects x (parts row))
unfolding part_of_word
effects-same [] x e = absurd cc
effects-same (word words.LineEnd p ∷ []) x e = refl
effects-same (word words.LineEnd p ∷ z ∷ row) x e = absurd cc
effects-same (word words.Comma p ∷ row) x e = effects-same row x e
effects-same (word words.Wz p ∷ row) x e = effects-same row (record x { effects = bit_or x.effects 1 }) e
effects-same (word words.Wc p ∷ row) x e = effects-same row (record x { effects = bit_or x.effects 2 }) e
effects-same (word words.Wr p ∷ row) x e = effects-same row (record x { effects = bit_or x.effects 4 }) e
effects-same (word words.Nr p ∷ row) x e = effects-same row (record x { effects = bit_or x.effects 8 }) e
effects-same (word w p ∷ row) x e = no (word w p ∷ row)
effects-same row x e = no row

-- no local label is a word
no-label : (i : Instruction) (p : Place) (x : Part) (row : List Piece) (xs : List Part) → IsTrue (is_mark x)
    → None ≡ if_known row (old.behind_hash i (part.colon p ∷ before_end (x ∷ xs)))
no-label i p (part.behind_colon n q) row xs m = absurd cc
no-label i p part.line_end row xs m = no row
no-label i p x row xs m = no row

source-same : (row : List Piece) (x : Instruction) → IsTrue (closed row) → source x row ≡ if_known row (old.source x (parts row))
unfolding part_of_word
source-same (word words.Hash p ∷ tree v q ∷ row) x e = effects-same row (immediate x v q) e
source-same (word words.Hash p ∷ name n q ∷ row) x e = effects-same row (immediate x (named n q) q) e
source-same (word words.Hash p ∷ word words.Colon q ∷ label n r ∷ row) x e = effects-same row (immediate x (named (local n) q) q) e
source-same (word words.Hash p ∷ word words.Colon q ∷ word w r ∷ row) x e =
    no-label x q (part_of_word w r) (word words.Hash p ∷ word words.Colon q ∷ word w r ∷ row) (map part_of_piece row) (marks w r)
source-same (word words.Hash p ∷ word words.Colon q ∷ row) x e = no (word words.Hash p ∷ word words.Colon q ∷ row)
source-same (word words.Hash p ∷ word w q ∷ row) x e = no (word words.Hash p ∷ word w q ∷ row)
source-same (word words.Hash p ∷ row) x e = no (word words.Hash p ∷ row)
source-same (tree v p ∷ row) x e = effects-same row (direct x v p) e
source-same (word w p ∷ row) x e = effects-same (word w p ∷ row) x e
source-same row x e = effects-same row x e

abbrev to : Instruction → Tree → Place → Instruction
to x v p = record x { dest = Some v; dest_place = p }

-- no destination is a word
no-tree : (x : Instruction) (y : Part) (ys : List Part) → IsTrue (is_mark y) → old.source x (before_end (y ∷ ys)) ≡ old.operands x (before_end (y ∷ ys))
no-tree x (part.tree v p) ys m = absurd cc
no-tree x part.line_end ys m = refl
no-tree x y ys m = refl

operands-same : (row : List Piece) (x : Instruction) → IsTrue (closed row) → operands x row ≡ if_known row (old.operands x (parts row))
unfolding part_of_word
operands-same (tree v p ∷ word words.Comma q ∷ row) x e = source-same row (to x v p) e
operands-same (tree v p ∷ word w q ∷ row) x e = effects-same (word w q ∷ row) (to x v p) e
operands-same (tree v p ∷ row) x e = effects-same row (to x v p) e
operands-same (word w p ∷ row) x e =
    source-same (word w p ∷ row) x e ∙ ap (only (known (word w p ∷ row))) (no-tree x (part_of_word w p) (map part_of_piece row) (marks w p))
operands-same row x e = source-same row x e

-- the word of an instruction
bare-same : (c : ℕ) (w : Word) (p : Place) → bare c w p ≡ old.bare c w p
unfolding bare old.bare
bare-same c w p =
    ap (λ (s : List ℕ). record { cond = c; word = s; dest = None; dest_place = p; immediate = false; source = None; source_place = p; effects = 0 })
    (spelling-same w)

jump-of : (row : List Piece) → IsTrue (closed row) → (c : ℕ) (p : Place)
    → source (bare c words.Jmp p) row ≡ if_known row (old.source (old.bare c words.Jmp p) (parts row))
jump-of row e c p =
    subst (λ (x : Instruction). source (bare c words.Jmp p) row ≡ if_known row (old.source x (parts row))) (bare-same c words.Jmp p)
    (source-same row (bare c words.Jmp p) e)

operands-of : (row : List Piece) → IsTrue (closed row) → (c : ℕ) (w : Word) (p : Place)
    → operands (bare c w p) row ≡ if_known row (old.operands (old.bare c w p) (parts row))
operands-of row e c w p =
    subst (λ (x : Instruction). operands (bare c w p) row ≡ if_known row (old.operands x (parts row))) (bare-same c w p) (operands-same row (bare c w p) e)

if-one : {X Y : Type 0} (f : X → Y) (b c : Bool) (o : Option X) {new : Option X} → new ≡ only c o
    → (if b then option_map f new else None) ≡ only (b && c) (option_map f o)
if-one f true c o same = mapped f c o same
if-one f false c o same = refl

-- what is read behind a word, if it is that of an instruction
abbrev one-of : ℕ → Line → Word → Place → List Piece → Option Line
one-of c x w p row = option_map (λ i. filled x p (Instr i)) (operands (bare c w p) row)

-- whether the word is that of an instruction
known-same : (w : Word) → is_some (entry_of mnemonics (spelling w)) ≡ is_some (entry_of mnemonics (old_words.spelling w))
known-same w = ap (λ (s : List ℕ). is_some (entry_of mnemonics s)) (spelling-same w)

an-instruction : (c : ℕ) (x : Line) (w : Word) (p : Place) (row : List Piece) → IsTrue (closed row)
    → (if is_some (entry_of mnemonics (spelling w)) then one-of c x w p row else None)
    ≡ only (is_some (entry_of mnemonics (old_words.spelling w)) && known row) (option_map (λ i. filled x p (Instr i)) (old.operands (old.bare c w p) (parts row)))
an-instruction c x w p row e =
    ap (λ (b : Bool). if b then one-of c x w p row else None) (known-same w)
    ∙ if-one (λ i. filled x p (Instr i)) (is_some (entry_of mnemonics (old_words.spelling w))) (known row) (old.operands (old.bare c w p) (parts row))
    (operands-of row e c w p)

no-instruction : (c : ℕ) (x : Line) (w : Word) (p : Place) (row : List Piece) → is_some (entry_of mnemonics (old_words.spelling w)) ≡ false
    → (if is_some (entry_of mnemonics (spelling w)) then one-of c x w p row else None) ≡ if_known (word w p ∷ row) None
no-instruction c x w p row none =
    ap (λ (b : Bool). if b then one-of c x w p row else None) (known-same w ∙ none) ∙ no (word w p ∷ row)

instruction-same : (row : List Piece) (c : ℕ) (x : Line) → IsTrue (closed row) → instruction c x row ≡ if_known row (old.instruction c x (parts row))
unfolding part_of_word mnemonics
instruction-same (word words.Jmp p ∷ row) c x e =
    mapped (λ i. filled x p (Instr i)) (known row) (old.source (old.bare c words.Jmp p) (parts row)) (jump-of row e c p)
instruction-same (word words.LineEnd p ∷ row) c x e = no-instruction c x words.LineEnd p row refl
instruction-same (word words.Colon p ∷ row) c x e = no-instruction c x words.Colon p row refl
instruction-same (word words.Comma p ∷ row) c x e = no-instruction c x words.Comma p row refl
instruction-same (word words.Hash p ∷ row) c x e = no-instruction c x words.Hash p row refl
instruction-same (word words.LeftBracket p ∷ row) c x e = no-instruction c x words.LeftBracket p row refl
instruction-same (word words.RightBracket p ∷ row) c x e = no-instruction c x words.RightBracket p row refl
instruction-same (word words.ByteSize p ∷ row) c x e = no-instruction c x words.ByteSize p row refl
instruction-same (word words.WordSize p ∷ row) c x e = no-instruction c x words.WordSize p row refl
instruction-same (word words.LongSize p ∷ row) c x e = no-instruction c x words.LongSize p row refl
instruction-same (word words.Org p ∷ row) c x e = no-instruction c x words.Org p row refl
instruction-same (word words.Res p ∷ row) c x e = no-instruction c x words.Res p row refl
instruction-same (word words.Fit p ∷ row) c x e = no-instruction c x words.Fit p row refl
instruction-same (word words.Wz p ∷ row) c x e = no-instruction c x words.Wz p row refl
instruction-same (word words.Wc p ∷ row) c x e = no-instruction c x words.Wc p row refl
instruction-same (word words.Wr p ∷ row) c x e = no-instruction c x words.Wr p row refl
instruction-same (word words.Nr p ∷ row) c x e = no-instruction c x words.Nr p row refl
instruction-same (word words.IfAlways p ∷ row) c x e = no-instruction c x words.IfAlways p row refl
instruction-same (word words.IfNever p ∷ row) c x e = no-instruction c x words.IfNever p row refl
instruction-same (word words.IfE p ∷ row) c x e = no-instruction c x words.IfE p row refl
instruction-same (word words.IfNe p ∷ row) c x e = no-instruction c x words.IfNe p row refl
instruction-same (word words.IfA p ∷ row) c x e = no-instruction c x words.IfA p row refl
instruction-same (word words.IfB p ∷ row) c x e = no-instruction c x words.IfB p row refl
instruction-same (word words.IfAe p ∷ row) c x e = no-instruction c x words.IfAe p row refl
instruction-same (word words.IfBe p ∷ row) c x e = no-instruction c x words.IfBe p row refl
instruction-same (word words.IfNcAndZ p ∷ row) c x e = no-instruction c x words.IfNcAndZ p row refl
instruction-same (word words.IfCAndNz p ∷ row) c x e = no-instruction c x words.IfCAndNz p row refl
instruction-same (word words.IfCAndZ p ∷ row) c x e = no-instruction c x words.IfCAndZ p row refl
instruction-same (word words.IfCEqZ p ∷ row) c x e = no-instruction c x words.IfCEqZ p row refl
instruction-same (word words.IfCNeZ p ∷ row) c x e = no-instruction c x words.IfCNeZ p row refl
instruction-same (word words.IfCOrNz p ∷ row) c x e = no-instruction c x words.IfCOrNz p row refl
instruction-same (word words.IfNcOrZ p ∷ row) c x e = no-instruction c x words.IfNcOrZ p row refl
instruction-same (word words.IfNcOrNz p ∷ row) c x e = no-instruction c x words.IfNcOrNz p row refl
instruction-same (word w p ∷ row) c x e = an-instruction c x w p row e
instruction-same row c x e = no row

-- ---- lines

value-same : (row : List Piece) → IsTrue (closed row) → value row ≡ if_known row (old.value (parts row))
unfolding part_of_word
value-same [] e = absurd cc
value-same (word words.LineEnd p ∷ []) e = refl
value-same (word words.LineEnd p ∷ z ∷ row) e = absurd cc
value-same (word w p ∷ row) e = no (word w p ∷ row)
value-same (tree v p ∷ []) e = absurd cc
value-same (tree v p ∷ word words.LineEnd q ∷ []) e = refl
value-same (tree v p ∷ word words.LineEnd q ∷ z ∷ row) e = absurd cc
value-same (tree v p ∷ word w q ∷ row) e = no (tree v p ∷ word w q ∷ row)
value-same (tree v p ∷ row) e = no (tree v p ∷ row)
value-same row e = no row

data-same : (n : ℕ) (row : List Piece) → IsTrue (closed row) → (x : Line) (p : Place)
    → option_map (λ d. filled x p (Data n d)) (all_items row) ≡ if_known row (option_map (λ d. filled x p (Data n d)) (old.all_items (parts row)))
data-same n row e x p = mapped (λ d. filled x p (Data n d)) (known row) (old.all_items (parts row)) (all-same row e)

behind-condition : (w : Word) (p : Place) (x : Line) (row : List Piece) → conditional (condition_of w) w p x row ≡ conditional (condition_in (meaning w)) w p x row
behind-condition w p x row = ap (λ (o : Option ℕ). conditional o w p x row) (condition-same w)

body-same : (row : List Piece) → IsTrue (closed row) → (x : Line) → body x row ≡ if_known row (old.body x (parts row))
unfolding part_of_word
body-same [] e x = absurd cc
body-same (word words.LineEnd p ∷ []) e x = refl
body-same (word words.LineEnd p ∷ z ∷ row) e x = absurd cc
body-same (word words.ByteSize p ∷ row) e x = data-same 1 row e x p
body-same (word words.WordSize p ∷ row) e x = data-same 2 row e x p
body-same (word words.LongSize p ∷ row) e x = data-same 4 row e x p
body-same (word words.Org p ∷ row) e x = mapped (λ v. filled x p (Org v)) (known row) (old.value (parts row)) (value-same row e)
body-same (word words.Res p ∷ row) e x = mapped (λ v. filled x p (Res v)) (known row) (old.value (parts row)) (value-same row e)
body-same (word words.Fit p ∷ row) e x = mapped (λ v. filled x p (Fit v)) (known row) (old.value (parts row)) (value-same row e)
body-same (word words.IfAlways p ∷ row) e x = behind-condition words.IfAlways p x row ∙ instruction-same row 15 x e
body-same (word words.IfNever p ∷ row) e x = behind-condition words.IfNever p x row ∙ instruction-same row 0 x e
body-same (word words.IfE p ∷ row) e x = behind-condition words.IfE p x row ∙ instruction-same row 10 x e
body-same (word words.IfNe p ∷ row) e x = behind-condition words.IfNe p x row ∙ instruction-same row 5 x e
body-same (word words.IfA p ∷ row) e x = behind-condition words.IfA p x row ∙ instruction-same row 1 x e
body-same (word words.IfB p ∷ row) e x = behind-condition words.IfB p x row ∙ instruction-same row 12 x e
body-same (word words.IfAe p ∷ row) e x = behind-condition words.IfAe p x row ∙ instruction-same row 3 x e
body-same (word words.IfBe p ∷ row) e x = behind-condition words.IfBe p x row ∙ instruction-same row 14 x e
body-same (word words.IfNcAndZ p ∷ row) e x = behind-condition words.IfNcAndZ p x row ∙ instruction-same row 2 x e
body-same (word words.IfCAndNz p ∷ row) e x = behind-condition words.IfCAndNz p x row ∙ instruction-same row 4 x e
body-same (word words.IfCAndZ p ∷ row) e x = behind-condition words.IfCAndZ p x row ∙ instruction-same row 8 x e
body-same (word words.IfCEqZ p ∷ row) e x = behind-condition words.IfCEqZ p x row ∙ instruction-same row 9 x e
body-same (word words.IfCNeZ p ∷ row) e x = behind-condition words.IfCNeZ p x row ∙ instruction-same row 6 x e
body-same (word words.IfCOrNz p ∷ row) e x = behind-condition words.IfCOrNz p x row ∙ instruction-same row 13 x e
body-same (word words.IfNcOrZ p ∷ row) e x = behind-condition words.IfNcOrZ p x row ∙ instruction-same row 11 x e
body-same (word words.IfNcOrNz p ∷ row) e x = behind-condition words.IfNcOrNz p x row ∙ instruction-same row 7 x e
body-same (word w p ∷ row) e x = behind-condition w p x row ∙ instruction-same (word w p ∷ row) 15 x e
body-same row e x = no row

one-same : (b : Bool) (o : Option Line) {new : Option Line} → new ≡ only b o
    → one new ≡ only b (option_map lines_in (option_map (λ (x : Line). Some x) o))
one-same true None same = ap one same
one-same true (Some y) same = ap one same
one-same false o same = ap one same

line-same : (row : List Piece) → IsTrue (closed row) → (x : Line)
    → one (body x row) ≡ if_known row (option_map lines_in (option_map (λ (x : Line). Some x) (old.body x (parts row))))
line-same row e x = one-same (known row) (old.body x (parts row)) (body-same row e x)

-- no label is a word
no-own : (p q : Place) (x : Part) (row : List Piece) (xs : List Part) → IsTrue (is_mark x)
    → None ≡ if_known row (option_map lines_in (old.maybe_line p (part.colon q ∷ before_end (x ∷ xs))))
no-own p q (part.behind_colon n r) row xs m = absurd cc
no-own p q part.line_end row xs m = no row
no-own p q x row xs m = no row

-- a colon without a label is no line
colon-alone : (p : Place) (row : List Piece) → one (body (blank p None) (word words.Colon p ∷ row)) ≡ if_known (word words.Colon p ∷ row) None
unfolding part_of_word mnemonics
colon-alone p row =
    ap one (behind-condition words.Colon p (blank p None) row ∙ no-instruction 15 (blank p None) words.Colon p row refl) ∙ none-one (known row)
  where
    none-one : (b : Bool) → one (only b None) ≡ only b None
    none-one true = refl
    none-one false = refl

pub lines-same : (row : List Piece) → IsTrue (closed row) → lines_of row ≡ data_of_row row
unfolding part_of_word
lines-same [] e = absurd cc
lines-same (word words.LineEnd p ∷ []) e = refl
lines-same (word words.LineEnd p ∷ z ∷ row) e = absurd cc
lines-same (name n p ∷ row) e = line-same row e (blank p (Some n))
lines-same (word words.Colon p ∷ label n q ∷ row) e = line-same row e (blank p (Some (local n)))
lines-same (word words.Colon p ∷ word w q ∷ row) e =
    colon-alone p (word w q ∷ row) ∙ sym (no (word words.Colon p ∷ word w q ∷ row))
    ∙ no-own p p (part_of_word w q) (word words.Colon p ∷ word w q ∷ row) (map part_of_piece row) (marks w q)
lines-same (word words.Colon p ∷ row) e = colon-alone p row
lines-same (word w p ∷ row) e = line-same (word w p ∷ row) e (blank p None)
lines-same row e = no row
