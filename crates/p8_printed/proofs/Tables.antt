-- For each number that a proper tree may have there is a word.
use Rattle.std.proofs.Common.{◌≡◌, ℕ, zero, suc, ◌+◌, ◌≤◌, ◌<◌, Bool, true, false, List, [], ◌∷◌, Some, refl, subst, arith}
use Rattle.std.specs.Prelude.{◌&&◌, ◌||◌, ◌==◌, not, nat_le, IsTrue}
use Rattle.std.proofs.lemmas.Bool.Decides.{nat_tests}
use Rattle.p8_lexer.specs.declared.word.Word.{Word}
use Rattle.p8_lexer.specs.declared.word.Word.TheVariants as word
use Rattle.p8_tree.specs.Proper.{is_one_of, is_unary, is_binary, is_change, is_operator_alone, is_look, is_value, gives_value, gives_no_value, is_size, is_written_register, has_bits, is_register}
use Rattle.p8_grammar.specs.Lexemes as lexemes
use Rattle.p8_grammar.specs.Lexemes.{Setting, is_dat, Access, pins, input_pins, input, assembly, is_in, Lexeme, prefix_word, infix_word, sign, assigns, changes, size, register, look, value, built_in, command, plain}
use Rattle.p8_grammar.specs.Grammar.{Prefix, unary, prefix_of, effect_of, infix_of, is_boolean}
use Rattle.p8_expr.specs.Words.{lexeme_of_word}
use Rattle.p8_expr.specs.Sources.{IsLexeme}

-- numbers of a table

infixr 20 ◌&◌
-- an entry for each of these numbers
pub data Table (P : ℕ → Type 0) : List ℕ → Type 0 where
  table_end : Table P []
  ◌&◌ : {n : ℕ} {ns : List ℕ} → P n → Table P ns → Table P (n ∷ ns)

pub one_of : (P : ℕ → Type 0) (ns : List ℕ) (k : ℕ) → Table P ns → IsTrue (is_one_of ns k) → P k
one_of P [] k table_end h = absurd cc
one_of P (n ∷ ns) k (p & table) h = go (k == n) refl h (λ y. one_of P ns k table y)
  where
    go : (b : Bool) → (k == n) ≡ b → IsTrue (b || is_one_of ns k) → (IsTrue (is_one_of ns k) → P k) → P k
    go true e y later = let is : n ≡ k = grind (arith, nat_tests) in subst P is p
    go false e y later = later y

-- the numbers from one on
abbrev count_from : ℕ → ℕ → List ℕ
count_from n zero = []
count_from n (suc m) = n ∷ count_from (n + 1) m

pub all_from : (P : ℕ → Type 0) (n m k : ℕ) → Table P (count_from n m) → n ≤ k → k < n + m → P k
all_from P n zero k table low high = absurd (omega (arith, low, high))
all_from P n (suc m) k (p & table) low high = go (n == k) refl (λ l h. all_from P (n + 1) m k table l h)
  where
    go : (b : Bool) → (n == k) ≡ b → (n + 1 ≤ k → k < n + 1 + m → P k) → P k
    go true e later = let is : n ≡ k = grind (arith, nat_tests) in subst P is p
    go false e later = let differs : ¬ (n ≡ k) = grind (arith, nat_tests) in later (omega (arith, low, differs)) (omega (arith, high))

-- either of two tests
pub either : {P : Type 0} (a b : Bool) → IsTrue (a || b) → (IsTrue a → P) → (IsTrue b → P) → P
either true b h f g = f refl
either false b h f g = g h

pub within : (a b : ℕ) (c : Bool) (k : ℕ) → IsTrue (nat_le a k && (nat_le k b && c)) → (a ≤ k) × (k ≤ b) × IsTrue c
within a b c k h = go (nat_le a k) (nat_le k b) refl refl h
  where
    go : (x y : Bool) → nat_le a k ≡ x → nat_le k b ≡ y → IsTrue (x && (y && c)) → (a ≤ k) × (k ≤ b) × IsTrue c
    go true true e f h = (grind (arith, nat_tests), grind (arith, nat_tests), h)
    go true false e f h = absurd cc
    go false y e f h = absurd cc

pub given : (w : Word) (x : Lexeme) → lexeme_of_word w ≡ x → (w : Word) × (lexeme_of_word w ≡ x)
given w x e = (w, e)

-- operators before their operand

pub record IsPrefix (k : ℕ) : Type 0 where
  pub lexeme : Lexeme
  pub good : IsLexeme lexeme
  pub rank : ℕ
  pub low : rank ≤ 8
  pub is : prefix_of (plain lexeme) ≡ Some (unary rank k)

pub prefix_operator : (k : ℕ) → IsTrue (is_unary k) → IsPrefix k
unfolding lexeme_of_word
prefix_operator k h = one_of IsPrefix (0xE6 ∷ 0xE7 ∷ 0xE9 ∷ 0xEC ∷ 0xF1 ∷ 0xF3 ∷ 0xF8 ∷ 0xFF ∷ []) k (
    record { lexeme = sign 0xE6 0xED; good = (word.Minus, refl); rank = 1; low = omega arith; is = refl } &
    record { lexeme = prefix_word 1 0xE7; good = (word.Invert, refl); rank = 1; low = omega arith; is = refl } &
    record { lexeme = prefix_word 1 0xE9; good = (word.Absolute, refl); rank = 1; low = omega arith; is = refl } &
    record { lexeme = sign 0xEC 0xEC; good = (word.Plus, refl); rank = 1; low = omega arith; is = refl } &
    record { lexeme = prefix_word 1 0xF1; good = (word.EncodeBit, refl); rank = 1; low = omega arith; is = refl } &
    record { lexeme = prefix_word 1 0xF3; good = (word.DecodeBit, refl); rank = 1; low = omega arith; is = refl } &
    record { lexeme = prefix_word 1 0xF8; good = (word.SquareRoot, refl); rank = 1; low = omega arith; is = refl } &
    record { lexeme = prefix_word 8 0xFF; good = (word.Not, refl); rank = 8; low = omega arith; is = refl } &
    table_end
    ) h

-- operators between their operands, and assignments by them

pub data Assigning (k : ℕ) : Type 0 where
  one_word : IsLexeme (assigns (Some k)) → Assigning k
  two_words : (r : ℕ) → IsTrue (is_boolean r) → IsLexeme (infix_word r k) → Assigning k

pub record IsInfix (k : ℕ) : Type 0 where
  pub lexeme : Lexeme
  pub good : IsLexeme lexeme
  pub rank : ℕ
  pub is : infix_of (plain lexeme) ≡ Some (suc rank, k)
  pub low : suc rank ≤ 10
  pub assigning : Assigning k

abbrev May : ℕ → Type 0
May k = IsTrue ((k == 0xEC) || not (is_unary k)) → IsInfix k

plain_infix : (r k : ℕ) (w v : Word) → lexeme_of_word w ≡ infix_word (suc r) k → lexeme_of_word v ≡ assigns (Some k) → suc r ≤ 10 → IsInfix k
plain_infix r k w v e f low = record { lexeme = infix_word (suc r) k; good = (w, e); rank = r; is = refl; low = low; assigning = one_word (v, f) }

pub infix_operator : (k : ℕ) → IsTrue (is_binary k) → IsInfix k
unfolding lexeme_of_word
infix_operator k h =
    let range = within 0xE0 0xFF ((k == 0xEC) || not (is_unary k)) k h in
    all_from May 0xE0 32 k (
    (λ y. plain_infix 1 0xE0 word.RotateRight word.RotateRightAssign refl refl (omega arith)) &
    (λ y. plain_infix 1 0xE1 word.RotateLeft word.RotateLeftAssign refl refl (omega arith)) &
    (λ y. plain_infix 1 0xE2 word.ShiftRight word.ShiftRightAssign refl refl (omega arith)) &
    (λ y. plain_infix 1 0xE3 word.ShiftLeft word.ShiftLeftAssign refl refl (omega arith)) &
    (λ y. plain_infix 6 0xE4 word.LimitMinimum word.LimitMinimumAssign refl refl (omega arith)) &
    (λ y. plain_infix 6 0xE5 word.LimitMaximum word.LimitMaximumAssign refl refl (omega arith)) &
    (λ y. absurd cc) &
    (λ y. absurd cc) &
    (λ y. plain_infix 2 0xE8 word.BitAnd word.BitAndAssign refl refl (omega arith)) &
    (λ y. absurd cc) &
    (λ y. plain_infix 3 0xEA word.BitOr word.BitOrAssign refl refl (omega arith)) &
    (λ y. plain_infix 3 0xEB word.BitXor word.BitXorAssign refl refl (omega arith)) &
    (λ y. record { lexeme = sign 0xEC 0xEC; good = (word.Plus, refl); rank = 5; is = refl; low = omega arith; assigning = one_word (word.PlusAssign, refl) }) &
    (λ y. record { lexeme = sign 0xE6 0xED; good = (word.Minus, refl); rank = 5; is = refl; low = omega arith; assigning = one_word (word.MinusAssign, refl) }) &
    (λ y. plain_infix 1 0xEE word.ArithmeticShift word.ArithmeticShiftAssign refl refl (omega arith)) &
    (λ y. plain_infix 1 0xEF word.Reverse word.ReverseAssign refl refl (omega arith)) &
    (λ y. record { lexeme = infix_word 9 0xF0; good = (word.And, refl); rank = 8; is = refl; low = omega arith; assigning = two_words 9 refl (word.And, refl) }) &
    (λ y. absurd cc) &
    (λ y. record { lexeme = infix_word 10 0xF2; good = (word.Or, refl); rank = 9; is = refl; low = omega arith; assigning = two_words 10 refl (word.Or, refl) }) &
    (λ y. absurd cc) &
    (λ y. plain_infix 4 0xF4 word.Multiply word.MultiplyAssign refl refl (omega arith)) &
    (λ y. plain_infix 4 0xF5 word.MultiplyHigh word.MultiplyHighAssign refl refl (omega arith)) &
    (λ y. plain_infix 4 0xF6 word.Divide word.DivideAssign refl refl (omega arith)) &
    (λ y. plain_infix 4 0xF7 word.Remainder word.RemainderAssign refl refl (omega arith)) &
    (λ y. absurd cc) &
    (λ y. plain_infix 7 0xF9 word.Less word.LessAssign refl refl (omega arith)) &
    (λ y. plain_infix 7 0xFA word.Greater word.GreaterAssign refl refl (omega arith)) &
    (λ y. plain_infix 7 0xFB word.NotEqual word.NotEqualAssign refl refl (omega arith)) &
    (λ y. plain_infix 7 0xFC word.Equal word.EqualAssign refl refl (omega arith)) &
    (λ y. plain_infix 7 0xFD word.LessOrEqual word.LessOrEqualAssign refl refl (omega arith)) &
    (λ y. plain_infix 7 0xFE word.GreaterOrEqual word.GreaterOrEqualAssign refl refl (omega arith)) &
    (λ y. absurd cc) &
    table_end
    ) range.0 (omega (arith, range.1)) range.2

-- changes, before their variable or after it

pub data IsChange (k : ℕ) : Type 0 where
  before : (a : ℕ) → IsLexeme (changes k a) → IsChange k
  behind : (b : ℕ) → IsLexeme (changes b k) → IsChange k

pub change : (k : ℕ) → IsTrue (is_change k) → IsChange k
unfolding lexeme_of_word
change k h = one_of IsChange (0x20 ∷ 0x28 ∷ 0x30 ∷ 0x38 ∷ 0x10 ∷ 0x18 ∷ 0x14 ∷ 0x1C ∷ []) k (
    before 0x28 (word.PlusPlus, refl) &
    behind 0x20 (word.PlusPlus, refl) &
    before 0x38 (word.MinusMinus, refl) &
    behind 0x30 (word.MinusMinus, refl) &
    before 0x18 (word.Tilde, refl) &
    behind 0x10 (word.Tilde, refl) &
    before 0x1C (word.TildeTilde, refl) &
    behind 0x14 (word.TildeTilde, refl) &
    table_end
    ) h

-- operators that stand alone before their variable

pub record IsAlone (k : ℕ) : Type 0 where
  pub lexeme : Lexeme
  pub good : IsLexeme lexeme
  pub operator : Prefix
  pub is : prefix_of lexeme ≡ Some operator
  pub effect : effect_of operator ≡ Some k

pub operator_alone : (k : ℕ) → IsTrue (is_operator_alone k) → IsAlone k
unfolding lexeme_of_word
operator_alone k h = one_of IsAlone (0x46 ∷ 0x47 ∷ 0x49 ∷ 0x51 ∷ 0x53 ∷ 0x58 ∷ 0x5F ∷ []) k (
    record { lexeme = sign 0xE6 0xED; good = (word.Minus, refl); operator = unary 1 0xE6; is = refl; effect = refl } &
    record { lexeme = prefix_word 1 0xE7; good = (word.Invert, refl); operator = unary 1 0xE7; is = refl; effect = refl } &
    record { lexeme = prefix_word 1 0xE9; good = (word.Absolute, refl); operator = unary 1 0xE9; is = refl; effect = refl } &
    record { lexeme = prefix_word 1 0xF1; good = (word.EncodeBit, refl); operator = unary 1 0xF1; is = refl; effect = refl } &
    record { lexeme = prefix_word 1 0xF3; good = (word.DecodeBit, refl); operator = unary 1 0xF3; is = refl; effect = refl } &
    record { lexeme = prefix_word 1 0xF8; good = (word.SquareRoot, refl); operator = unary 1 0xF8; is = refl; effect = refl } &
    record { lexeme = prefix_word 8 0xFF; good = (word.Not, refl); operator = unary 8 0xFF; is = refl; effect = refl } &
    table_end
    ) h

-- sizes and built-ins

pub size_lexeme : (z : ℕ) → IsTrue (is_size z) → IsLexeme (size z)
unfolding lexeme_of_word
size_lexeme z h = one_of (λ z. IsLexeme (size z)) (1 ∷ 2 ∷ 4 ∷ []) z ((word.ByteSize, refl) & (word.WordSize, refl) & (word.LongSize, refl) & table_end) h

pub look_lexeme : (k : ℕ) → IsTrue (is_look k) → IsLexeme (look k)
unfolding lexeme_of_word
look_lexeme k h = one_of (λ k. IsLexeme (look k)) (0x10 ∷ 0x11 ∷ 0x12 ∷ 0x13 ∷ []) k ((word.Lookup, refl) & (word.Lookdown, refl) & (word.Lookupz, refl) & (word.Lookdownz, refl) & table_end) h

pub value_lexeme : (k : ℕ) → IsTrue (is_value k) → IsLexeme (value k)
unfolding lexeme_of_word
value_lexeme k h = one_of (λ k. IsLexeme (value k)) (0x3F ∷ 0x80 ∷ 0xC0 ∷ []) k ((word.Cogid, refl) & (word.Clkmode, refl) & (word.Clkfreq, refl) & table_end) h

pub built_lexeme : (k : ℕ) → IsTrue (gives_value k) → IsLexeme (built_in k)
unfolding lexeme_of_word
built_lexeme k h = one_of (λ k. IsLexeme (built_in k)) (0x16 ∷ 0x17 ∷ 0x28 ∷ 0x29 ∷ 0x2A ∷ 0x2B ∷ 0x2C ∷ []) k (
    (word.Strsize, refl) &
    (word.Strcomp, refl) &
    (word.Coginit, refl) &
    (word.Locknew, refl) &
    (word.Lockset, refl) &
    (word.Lockclr, refl) &
    (word.Cognew, refl) &
    table_end
    ) h

pub command_lexeme : (k : ℕ) → IsTrue (gives_no_value k) → IsLexeme (command k)
unfolding lexeme_of_word
command_lexeme k h = one_of (λ k. IsLexeme (command k)) (0x18 ∷ 0x19 ∷ 0x1A ∷ 0x1B ∷ 0x1C ∷ 0x1D ∷ 0x1E ∷ 0x1F ∷ 0x21 ∷ 0x22 ∷ 0x23 ∷ []) k (
    (word.Bytefill, refl) &
    (word.Wordfill, refl) &
    (word.Longfill, refl) &
    (word.Waitpeq, refl) &
    (word.Bytemove, refl) &
    (word.Wordmove, refl) &
    (word.Longmove, refl) &
    (word.Waitpne, refl) &
    (word.Cogstop, refl) &
    (word.Lockret, refl) &
    (word.Waitcnt, refl) &
    table_end
    ) h

-- registers

pub record IsAt (s : Setting) (a : ℕ) : Type 0 where
  pub access : Access
  pub good : IsLexeme (register a access)
  pub allowed : IsTrue (is_in s access)
  pub written : IsTrue (is_written_register a) → IsTrue (lexemes.is_written access)
  pub bits : IsTrue (has_bits a) → IsTrue (lexemes.has_bits access)

abbrev MayStand : Setting → ℕ → Type 0
MayStand s a = IsTrue (is_dat s || is_one_of (0x1F0 ∷ 0x1F1 ∷ 0x1F2 ∷ 0x1F4 ∷ 0x1F6 ∷ []) a) → IsAt s a

in_dat_alone : (b : Bool) → IsTrue (b || false) → IsTrue b
in_dat_alone true h = refl
in_dat_alone false h = absurd cc

pub register_lexeme : (s : Setting) (a : ℕ) → IsTrue (lexemes.is_value s) → IsTrue (is_register (is_dat s) a) → IsAt s a
unfolding lexeme_of_word
register_lexeme s a v h =
    let range = within 0x1F0 0x1FF (is_dat s || is_one_of (0x1F0 ∷ 0x1F1 ∷ 0x1F2 ∷ 0x1F4 ∷ 0x1F6 ∷ []) a) a h in
    all_from (MayStand s) 0x1F0 16 a (
    (λ y. record { access = input; good = (word.Par, refl); allowed = v; written = λ h. absurd cc; bits = λ h. absurd cc }) &
    (λ y. record { access = input; good = (word.Cnt, refl); allowed = v; written = λ h. absurd cc; bits = λ h. absurd cc }) &
    (λ y. record { access = input_pins; good = (word.Ina, refl); allowed = v; written = λ h. absurd cc; bits = λ h. refl }) &
    (λ y. record { access = assembly; good = (word.Inb, refl); allowed = in_dat_alone (is_dat s) y; written = λ h. absurd cc; bits = λ h. absurd cc }) &
    (λ y. record { access = pins; good = (word.Outa, refl); allowed = refl; written = λ h. refl; bits = λ h. refl }) &
    (λ y. record { access = assembly; good = (word.Outb, refl); allowed = in_dat_alone (is_dat s) y; written = λ h. absurd cc; bits = λ h. absurd cc }) &
    (λ y. record { access = pins; good = (word.Dira, refl); allowed = refl; written = λ h. refl; bits = λ h. refl }) &
    (λ y. record { access = assembly; good = (word.Dirb, refl); allowed = in_dat_alone (is_dat s) y; written = λ h. absurd cc; bits = λ h. absurd cc }) &
    (λ y. record { access = assembly; good = (word.Ctra, refl); allowed = in_dat_alone (is_dat s) y; written = λ h. absurd cc; bits = λ h. absurd cc }) &
    (λ y. record { access = assembly; good = (word.Ctrb, refl); allowed = in_dat_alone (is_dat s) y; written = λ h. absurd cc; bits = λ h. absurd cc }) &
    (λ y. record { access = assembly; good = (word.Frqa, refl); allowed = in_dat_alone (is_dat s) y; written = λ h. absurd cc; bits = λ h. absurd cc }) &
    (λ y. record { access = assembly; good = (word.Frqb, refl); allowed = in_dat_alone (is_dat s) y; written = λ h. absurd cc; bits = λ h. absurd cc }) &
    (λ y. record { access = assembly; good = (word.Phsa, refl); allowed = in_dat_alone (is_dat s) y; written = λ h. absurd cc; bits = λ h. absurd cc }) &
    (λ y. record { access = assembly; good = (word.Phsb, refl); allowed = in_dat_alone (is_dat s) y; written = λ h. absurd cc; bits = λ h. absurd cc }) &
    (λ y. record { access = assembly; good = (word.Vcfg, refl); allowed = in_dat_alone (is_dat s) y; written = λ h. absurd cc; bits = λ h. absurd cc }) &
    (λ y. record { access = assembly; good = (word.Vscl, refl); allowed = in_dat_alone (is_dat s) y; written = λ h. absurd cc; bits = λ h. absurd cc }) &
    table_end
    ) range.0 (omega (arith, range.1)) range.2
