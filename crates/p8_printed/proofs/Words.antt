-- The words of instructions, of conditions and of effects, as a listing prints them.
use Rattle.std.proofs.Common.{◌≡◌, ℕ, zero, suc, ◌<◌, ◌≤◌, inl, inr, Bool, true, false, List, [], length, get_or, Option, Some, None, refl, sym, ap, ◌∙◌, subst, arith}
use Rattle.std.specs.Prelude.{◌==◌, ◌&&◌, not, nat_lt, nat_le, if◌then◌else◌, unwrap_or, IsTrue}
use Rattle.std.specs.List.{list_all}
use Rattle.std.proofs.lemmas.Bool.{cases_eq}
use Rattle.std.proofs.lemmas.Bool.Decides.{nat_tests}
use Rattle.p8_lexer.specs.declared.word.Word.{Word}
use Rattle.p8_lexer.specs.declared.word.Word.TheVariants as word
use Rattle.p8_lexer.specs.declared.piece.Class.TheVariants as class
use Rattle.p8_lexer.specs.Lexing.{is_letter, is_in, AllIn}
use Rattle.p8_lexer.specs.Words.{spelling, same, word_spelled, every_word, symbols, reserved_words}
use Rattle.p8_lexer.proofs.Searches.{same-true}
use Rattle.p8_lines.specs.Signs.{takes_two, is_on_memory, is_condition}
use Rattle.p8_declarations.specs.DataParts.{part_of_word}
use Rattle.p8_instr.specs.Conditions.{conditions}
use Rattle.p8_instr.specs.Mnemonics.{mnemonics, word_where, is_named_by}
use Rattle.p8_print.specs.Spelled.{is_free}
use Rattle.p8_printed.proofs.SpelledWords.{both, all_at, reserved_is}
use Rattle.p8_printed.proofs.Made.{condition_number}

-- ---- words of letters

-- reserved, and a name to the lexer
abbrev is_lettered : Word → Bool
is_lettered w = not (is_free w) && (is_letter (get_or (spelling w) 0 0) && (list_all (is_in class.Name) (spelling w) && nat_le (length (spelling w)) 30))

pub record Lettered (w : Word) : Type 0 where
  pub free : is_free w ≡ false
  pub some : 0 < length (spelling w)
  pub first : IsTrue (is_letter (get_or (spelling w) 0 0))
  pub all : AllIn class.Name (spelling w) 1 (length (spelling w))
  pub short : length (spelling w) ≤ 30

from_not : (b : Bool) → not b ≡ true → b ≡ false
from_not true h = absurd cc
from_not false h = refl

at_most : (a b : ℕ) → nat_le a b ≡ true → a ≤ b
at_most a b h = grind (arith, nat_tests)

pub lettered : (w : Word) → is_lettered w ≡ true → Lettered w
lettered w h =
    let letter = is_letter (get_or (spelling w) 0 0) in
    let names = list_all (is_in class.Name) (spelling w) in
    let short = nat_le (length (spelling w)) 30 in
    let p = both (not (is_free w)) (letter && (names && short)) h in
    let q = both letter (names && short) p.1 in
    let r = both names short q.1 in
    let free = from_not (is_free w) p.0 in
    record {
      free = free;
      some = (reserved_is w free).some;
      first = q.0;
      all = λ i le lt. all_at (is_in class.Name) (spelling w) r.0 i lt;
      short = at_most (length (spelling w)) 30 r.1;
    }

abbrev AreLettered : (Word → Bool) → Type 0
AreLettered class = (w : Word) → IsTrue (if class w then is_lettered w else true)

of_class : (class : Word → Bool) → AreLettered class → (w : Word) → IsTrue (class w) → Lettered w
of_class class h w is = lettered w (subst (λ b. IsTrue (if b then is_lettered w else true)) is (h w))

two_lettered : AreLettered takes_two
two_lettered word.Add = refl
two_lettered w = refl

memory_lettered : AreLettered is_on_memory
memory_lettered word.Rdbyte = refl
memory_lettered w = refl

conditions_lettered : AreLettered is_condition
conditions_lettered word.IfE = refl
conditions_lettered w = refl

pub condition_lettered : (w : Word) → IsTrue (is_condition w) → Lettered w
condition_lettered = of_class is_condition conditions_lettered

-- the instructions on main memory have the opcodes 0 to 2
abbrev pub has_class : Bool → Word → Bool
has_class low w = if low then is_on_memory w else takes_two w

pub instruction_lettered : (low : Bool) (w : Word) → IsTrue (has_class low w) → Lettered w
instruction_lettered true = of_class is_on_memory memory_lettered
instruction_lettered false = of_class takes_two two_lettered

-- ---- all numbers below a bound, by a test

all_below : (ℕ → Bool) → ℕ → Bool
all_below test zero = true
all_below test (suc n) = test n && all_below test n

all_below-at : (test : ℕ → Bool) (n k : ℕ) → all_below test n ≡ true → k < n → test k ≡ true
unfolding all_below
all_below-at test zero k h within = absurd (omega arith)
all_below-at test (suc n) k h within =
    let p = both (test n) (all_below test n) h in
    elim (cases_eq k n) [
      | inl same ↦ ap test same ∙ p.0
      | inr other ↦ all_below-at test n k p.1 (omega arith)
    ]

-- ---- the words of opcodes

-- a text that is spelled as a word of this kind
abbrev is_word_for : (Word → Bool) → List ℕ → Option Word → Bool
is_word_for test text None = false
is_word_for test text (Some w) = same (spelling w) text && test w

abbrev is_text_for : (Word → Bool) → Option (List ℕ) → Bool
is_text_for test None = false
is_text_for test (Some text) = is_word_for test text (word_spelled text)

-- a word of this kind, and its text
pub record WordFor (test : Word → Bool) (text : List ℕ) : Type 0 where
  pub word : Word
  pub spelled : text ≡ spelling word
  pub kind : IsTrue (test word)

word_for : (test : Word → Bool) (text : List ℕ) (o : Option Word) → is_word_for test text o ≡ true → WordFor test text
word_for test text None h = absurd cc
word_for test text (Some w) h =
    let p = both (same (spelling w) text) (test w) h in
    record { word = w; spelled = sym (same-true (spelling w) text p.0); kind = p.1 }

text_for : (test : Word → Bool) (o : Option (List ℕ)) → is_text_for test o ≡ true → WordFor test (unwrap_or o [])
text_for test None h = absurd cc
text_for test (Some text) h = word_for test text (word_spelled text) h

row_fits : Bool → ℕ → Bool
row_fits r opcode = is_text_for (has_class (nat_lt opcode 3)) (word_where (is_named_by opcode r) mnemonics)

rows_fit : (r : Bool) → all_below (row_fits r) 64 ≡ true
unfolding all_below row_fits mnemonics every_word symbols reserved_words
rows_fit true = refl
rows_fit false = refl

pub opcode_word : (opcode : ℕ) (r : Bool) → opcode < 64 → WordFor (has_class (nat_lt opcode 3)) (unwrap_or (word_where (is_named_by opcode r) mnemonics) [])
unfolding row_fits
opcode_word opcode r within = text_for (has_class (nat_lt opcode 3)) (word_where (is_named_by opcode r) mnemonics) (all_below-at (row_fits r) 64 opcode (rows_fit r) within)

-- ---- the words of conditions

-- a condition's word with this field
abbrev pub is_condition_for : ℕ → Word → Bool
is_condition_for field w = is_condition w && (condition_number w == field)

condition_fits : ℕ → Bool
condition_fits field = is_text_for (is_condition_for field) (word_where (λ f. f == field) conditions)

conditions_fit : all_below condition_fits 16 ≡ true
unfolding all_below condition_fits conditions every_word symbols reserved_words condition_number part_of_word
conditions_fit = refl

pub condition_word : (field : ℕ) → field < 16 → WordFor (is_condition_for field) (unwrap_or (word_where (λ f. f == field) conditions) [])
unfolding condition_fits
condition_word field within = text_for (is_condition_for field) (word_where (λ f. f == field) conditions) (all_below-at condition_fits 16 field conditions_fit within)

equal : (a b : ℕ) → (a == b) ≡ true → a ≡ b
equal a b h = grind (arith, nat_tests)

pub condition_is : (field : ℕ) (w : Word) → IsTrue (is_condition_for field w) → IsTrue (is_condition w) × (condition_number w ≡ field)
condition_is field w h =
    let p = both (is_condition w) (condition_number w == field) h in
    (p.0, equal (condition_number w) field p.1)
