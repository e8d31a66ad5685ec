-- A word is found by its first character and its length, and each spelling is of one word.
use Rattle.std.proofs.Common.{◌≡◌, ℕ, ◌<◌, Bool, true, false, List, [], ◌∷◌, length, map, get_or, Option, Some, None, refl, sym, ap, ◌∙◌, subst, arith}
use Rattle.std.specs.Prelude.{◌==◌, ◌&&◌, ◌||◌, if◌then◌else◌, slice_get}
use Rattle.std.specs.List.{list_all}
use Rattle.std.proofs.lemmas.Bool.Decides.{nat_tests}
use Rattle.std.proofs.lemmas.List.{get_or-map, ext_get_or, length-map}
use Rattle.p8_lexer.specs.declared.word.Word.{Word}
use Rattle.p8_lexer.specs.declared.word.Word.TheVariants as word
use Rattle.p8_lexer.specs.Words.{entry, first_of, spelling, symbols, reserved_words, every_word, capital, same, is_among, is_spelled, first_spelled, word_spelled}
use Rattle.p8_lexer.specs.Table.{Row, rows, key, numbers_at, word_of_row, or_else, word_in, found}
use Rattle.p8_lexer.proofs.Symbols.{passes_at}

-- texts

pub same-refl : (t : List ℕ) → same t t ≡ true
same-refl [] = refl
same-refl (c ∷ cs) = let h = same-refl cs in grind (arith, nat_tests)

both : (a b : Bool) → a && b ≡ true → (a ≡ true) × (b ≡ true)
both true b h = (refl, h)
both false b h = absurd cc

equal : (x y : ℕ) → (x == y) ≡ true → x ≡ y
equal x y h = grind (arith, nat_tests)

pub same-true : (s t : List ℕ) → same s t ≡ true → s ≡ t
same-true [] [] h = refl
same-true [] (y ∷ ys) h = absurd cc
same-true (x ∷ xs) [] h = absurd cc
same-true (x ∷ xs) (y ∷ ys) h =
    let p = both (x == y) (same xs ys) h in
    let e = equal x y p.0 in
    let f = same-true xs ys p.1 in
    cc

is_false : (b : Bool) → (b ≡ true → ⊥) → b ≡ false
is_false true h = absurd (h refl)
is_false false h = refl

pub same_false : (s t : List ℕ) → (s ≡ t → ⊥) → same s t ≡ false
same_false s t h = is_false (same s t) (λ e. h (same-true s t e))

pub same_if : (s t : List ℕ) → s ≡ t → same s t ≡ true
same_if s t e = ap (same s) (sym e) ∙ same-refl s

-- a spelling and characters that agree everywhere, or differ somewhere
pub same_capitals : (s t : List ℕ) → length s ≡ length t → ((k : ℕ) → k < length s → get_or s k 0 ≡ capital (get_or t k 0)) → same s (map capital t) ≡ true
same_capitals s t l h =
    same_if s (map capital t) (ext_get_or 0 s (map capital t) (l ∙ sym (length-map t capital)) (λ k lt. h k lt ∙ sym (get_or-map capital t k 0 0 (omega arith))))

pub other_length : (s t : List ℕ) → (length s ≡ length t → ⊥) → same s (map capital t) ≡ false
other_length s t h = same_false s (map capital t) (λ e. h (ap length e ∙ length-map t capital))

pub other_character : (s t : List ℕ) (k : ℕ) → k < length t → (get_or s k 0 ≡ capital (get_or t k 0) → ⊥) → same s (map capital t) ≡ false
other_character s t k lt h = same_false s (map capital t) (λ e. h (ap (λ l. get_or l k 0) e ∙ get_or-map capital t k 0 0 lt))

first_among : (ts : List (List ℕ)) → 0 < length (first_of ts) → is_among ts (first_of ts) ≡ true
first_among [] long = absurd (omega arith)
first_among (t ∷ ts) long = ap (λ b. b || is_among ts t) (same-refl t)

-- a word is spelled as its spelling says
pub spells_itself : (w : Word) → 0 < length (spelling w) → is_spelled w (spelling w) ≡ true
spells_itself w long = first_among (entry w).spellings long

-- searches

pub spells : (t : List ℕ) (ws : List Word) (w : Word) → first_spelled t ws ≡ Some w → is_spelled w t ≡ true
spells t [] w e = absurd cc
spells t (v ∷ vs) w e = go (is_spelled v t) refl (spells t vs w)
  where
    go : (b : Bool) → is_spelled v t ≡ b → (first_spelled t vs ≡ Some w → is_spelled w t ≡ true) → is_spelled w t ≡ true
    go true h later = let e' : Some v ≡ Some w = sym (ap (λ b. if b then Some v else first_spelled t vs) h) ∙ e in let same : v ≡ w = cc in ap (λ v. is_spelled v t) (sym same) ∙ h
    go false h later = later (sym (ap (λ b. if b then Some v else first_spelled t vs) h) ∙ e)

-- each spelling reads as its word, and is found among the rows of its key

Reads : Word → List ℕ → Type 0
Reads w t = (first_spelled t every_word ≡ Some w) × (found t ≡ Some w)

AllRead : Word → List (List ℕ) → Type 0
AllRead w [] = Unit {0}
AllRead w (t ∷ ts) = Reads w t × AllRead w ts

all_read : (w : Word) → AllRead w (entry w).spellings
unfolding every_word symbols reserved_words rows numbers_at Reads AllRead
all_read word.Name = tt
all_read word.Number = tt
all_read word.FloatNumber = tt
all_read word.Str = tt
all_read word.LineEnd = tt
all_read word.IfA = ((refl, refl), ((refl, refl), ((refl, refl), tt)))
all_read word.IfBe = ((refl, refl), ((refl, refl), ((refl, refl), tt)))
all_read word.IfE = ((refl, refl), ((refl, refl), tt))
all_read word.IfNe = ((refl, refl), ((refl, refl), tt))
all_read word.IfB = ((refl, refl), ((refl, refl), tt))
all_read word.IfAe = ((refl, refl), ((refl, refl), tt))
all_read word.IfNcAndZ = ((refl, refl), ((refl, refl), tt))
all_read word.IfCAndNz = ((refl, refl), ((refl, refl), tt))
all_read word.IfCAndZ = ((refl, refl), ((refl, refl), tt))
all_read word.IfCEqZ = ((refl, refl), ((refl, refl), tt))
all_read word.IfCNeZ = ((refl, refl), ((refl, refl), tt))
all_read word.IfCOrNz = ((refl, refl), ((refl, refl), tt))
all_read word.IfNcOrZ = ((refl, refl), ((refl, refl), tt))
all_read word.IfNcOrNz = ((refl, refl), ((refl, refl), tt))
all_read _ = ((refl, refl), tt)

among : (w : Word) (ts : List (List ℕ)) (t : List ℕ) → AllRead w ts → is_among ts t ≡ true → Reads w t
unfolding AllRead
among w [] t r h = absurd cc
among w (s ∷ ss) t r h = go (same s t) refl (among w ss t r.1)
  where
    go : (b : Bool) → same s t ≡ b → (is_among ss t ≡ true → Reads w t) → Reads w t
    go true e later = subst (Reads w) (same-true s t e) r.0
    go false e later = later (sym (ap (λ b. b || is_among ss t) e) ∙ h)

pub read_back : (w : Word) (t : List ℕ) → is_spelled w t ≡ true → first_spelled t every_word ≡ Some w
unfolding Reads
read_back w t h = (among w (entry w).spellings t (all_read w) h).0

found_back : (w : Word) (t : List ℕ) → is_spelled w t ≡ true → found t ≡ Some w
unfolding Reads
found_back w t h = (among w (entry w).spellings t (all_read w) h).1

-- a row's spelling is one of its word, or there is none
all_spell : list_all (λ r. same r.0 [] || is_spelled r.1 r.0) rows ≡ true
unfolding rows every_word symbols reserved_words
all_spell = refl

empty_only : (s : List ℕ) → 0 < length s → same s [] ≡ false
empty_only [] h = absurd (omega arith)
empty_only (c ∷ cs) h = refl

row_spells : (t : List ℕ) (n : ℕ) (r : Row) → 0 < length t → slice_get rows n ≡ Some r → same r.0 t ≡ true → is_spelled r.1 t ≡ true
row_spells t n r long at e =
    let s = same-true r.0 t e in
    let some = empty_only r.0 (omega (arith, ap length s)) in
    ap (is_spelled r.1) (sym s) ∙ sym (ap (λ b. b || is_spelled r.1 r.0) some) ∙ passes_at (λ r. same r.0 [] || is_spelled r.1 r.0) rows all_spell n r at

spells_in : (t : List ℕ) (ns : List ℕ) (w : Word) → 0 < length t → word_in rows ns t ≡ Some w → is_spelled w t ≡ true
spells_in t [] w long e = absurd cc
spells_in t (n ∷ ns) w long e = go (slice_get rows n) refl (spells_in t ns w long)
  where
    is_row : (r : Row) → slice_get rows n ≡ Some r → (b : Bool) → same r.0 t ≡ b → (word_in rows ns t ≡ Some w → is_spelled w t ≡ true) → is_spelled w t ≡ true
    is_row r at true f later =
        let is : Some r.1 ≡ Some w = sym (ap (λ o. or_else (word_of_row o t) (word_in rows ns t)) at ∙ ap (λ b. or_else (if b then Some r.1 else None) (word_in rows ns t)) f) ∙ e in
        let word_is : r.1 ≡ w = cc in
        ap (λ v. is_spelled v t) (sym word_is) ∙ row_spells t n r long at f
    is_row r at false f later =
        later (sym (ap (λ o. or_else (word_of_row o t) (word_in rows ns t)) at ∙ ap (λ b. or_else (if b then Some r.1 else None) (word_in rows ns t)) f) ∙ e)

    go : (o : Option Row) → slice_get rows n ≡ o → (word_in rows ns t ≡ Some w → is_spelled w t ≡ true) → is_spelled w t ≡ true
    go None at later = later (sym (ap (λ o. or_else (word_of_row o t) (word_in rows ns t)) at) ∙ e)
    go (Some r) at later = is_row r at (same r.0 t) refl later

-- so the search of some rows gives what the search of all words gives
same_search : (t : List ℕ) → 0 < length t → found t ≡ first_spelled t every_word
same_search t long = go (found t) (first_spelled t every_word) refl refl
  where
    go : (a b : Option Word) → found t ≡ a → first_spelled t every_word ≡ b → found t ≡ first_spelled t every_word
    go (Some w) b p q = p ∙ sym (read_back w t (spells_in t (numbers_at (key (get_or t 0 0) (length t))) w long p))
    go None (Some w) p q = found_back w t (spells t every_word w q) ∙ sym q
    go None None p q = p ∙ sym q

pub empty_is_none : word_spelled [] ≡ None
unfolding every_word symbols reserved_words
empty_is_none = refl

-- the search of characters
pub named_is : (text : List ℕ) (rs : List Row) (ns : List ℕ) (k c : ℕ) (r : Option Word) → 0 < length text → c ≡ capital (get_or text 0 0) → k ≡ key c (length text) → ns ≡ numbers_at k → rs ≡ rows → r ≡ word_in rs ns (map capital text) → r ≡ word_spelled text
named_is text rs ns k c r long first_is key_is numbers_are rows_are e =
    let first : c ≡ get_or (map capital text) 0 0 = first_is ∙ sym (get_or-map capital text 0 0 0 long) in
    let place : k ≡ key (get_or (map capital text) 0 0) (length (map capital text)) =
    key_is ∙ ap (λ c. key c (length text)) first ∙ ap (key (get_or (map capital text) 0 0)) (sym (length-map text capital)) in
    e ∙ ap (λ rs. word_in rs ns (map capital text)) rows_are ∙ ap (λ ns. word_in rows ns (map capital text)) (numbers_are ∙ ap numbers_at place)
    ∙ same_search (map capital text) (omega (arith, length-map text capital))

-- loops

pub nonempty : (t : List ℕ) → (t ≡ [] → ⊥) → 0 < length t
nonempty [] h = absurd (h refl)
nonempty (c ∷ cs) h = omega arith
