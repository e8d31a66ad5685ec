-- The code of a constant tree is at least as long as its length says, so the number that it becomes is no longer.
use Rattle.std.proofs.Common.{◌≡◌, ℕ, ◌+◌, ◌-◌, ◌^◌, ◌≤◌, ◌==◌, ◌||◌, nat_le, nat_lt, Bool, true, false, if◌then◌else◌, List, Option, Some, None, option_map, refl, ap, subst, ◌∙◌, arith}
use Rattle.std.proofs.lemmas.Bool.Decides.{nat_tests}
use Rattle.p8_tree.specs.Expressions.{Tree, node, Number, Str, Strings, Here, Var, Call, Unary, Binary, Assign, Change, Address, ObjectAddress, ObjConst, Built, Look, Named, Part, Memory, Register, no_index, index}
use Rattle.p8_bytecode.specs.Table.{rows}
use Rattle.p8_words.specs.Operators.{or_zero, unary_value, binary_value}
use Rattle.p8_fold.specs.declared.meanings.Meaning.{Meaning}
use Rattle.p8_fold.specs.declared.meanings.Meaning.TheVariants as meaning_case
use Rattle.p8_fold.specs.Meanings.{Setting, meaning_of, value_of_meaning, given}
use Rattle.p8_fold.specs.Values as constants
use Rattle.p8_gen.specs.Names.{Names}
use Rattle.p8_gen.specs.Pieces.{Written, nothing, byte, with_number}
use Rattle.p8_gen.specs.Variables.{number}
use Rattle.p8_gen.specs.Expressions.{starts_method, is_method, name_alone, value}
use Rattle.p8_meaning.specs.Constants.{constants_in, value_meant, value_behind, both, constant_value, number_length, code_length, within, shorter_number}
use Rattle.p8_opt.specs.Asked.{HideNoConstant}
use Rattle.p8_opt.proofs.Starting.{StartsNothing}

-- ---- numbers

-- a number, by what it is below
long-if : (n : ℕ) (w : Written) (a b d e f g : Bool)
    → ((if a then byte 0x35 else if b then byte 0x36 else if d then byte 0x34 else if e then with_number 0x38 n else if f then with_number 0x39 n else if g then with_number 0x3A n else with_number 0x3B n) w).end
    ≡ w.end + (if a || b || d then 1 else if e then 2 else if f then 3 else if g then 4 else 5)
unfolding rows
long-if n w true b d e f g = refl
long-if n w false true d e f g = refl
long-if n w false false true e f g = refl
long-if n w false false false true f g = refl
long-if n w false false false false true g = refl
long-if n w false false false false false true = refl
long-if n w false false false false false false = refl

pub number-long : (n : ℕ) (w : Written) → (number n w).end ≡ w.end + number_length n
number-long n w = long-if n w (n == 0) (n == 1) (n == 2 ^ 32 - 1) (nat_lt n (2 ^ 8)) (nat_lt n (2 ^ 16)) (nat_lt n (2 ^ 24))

-- ---- constant trees

-- there is a value
abbrev IsThere : Option ℕ → Type 0
IsThere None = ⊥
IsThere (Some v) = Unit {0}

before-there : (f : ℕ → ℕ) (o : Option ℕ) → IsThere (option_map f o) → IsThere o
before-there f None h = h
before-there f (Some v) h = tt

first-there : (f : ℕ → ℕ → ℕ) (o p : Option ℕ) → IsThere (both o p f) → IsThere o
first-there f None p h = h
first-there f (Some v) p h = tt

second-there : (f : ℕ → ℕ → ℕ) (o p : Option ℕ) → IsThere (both o p f) → IsThere p
second-there f None p h = absurd h
second-there f (Some v) None h = h
second-there f (Some v) (Some u) h = tt

-- a constant behind an object's name
meant-given : (m : Option Meaning) → IsThere (value_meant m) → given value_of_meaning m ≡ value_meant m
meant-given None h = absurd h
meant-given (Some (meaning_case.Value v)) h = refl
meant-given (Some (meaning_case.Label cog offset)) h = absurd h
meant-given (Some meaning_case.Object) h = absurd h
meant-given (Some meaning_case.Other) h = absurd h

behind-given : (s : Setting) (m : Option Meaning) (object name : List ℕ) → IsThere (value_behind m (s.constant object name)) → constants.constant_of s m object name ≡ value_behind m (s.constant object name)
behind-given s None object name h = absurd h
behind-given s (Some (meaning_case.Value v)) object name h = absurd h
behind-given s (Some (meaning_case.Label cog offset)) object name h = absurd h
behind-given s (Some meaning_case.Object) object name h = meant-given (s.constant object name) h
behind-given s (Some meaning_case.Other) object name h = absurd h

-- an operator has a byte, at least
unary-long : (operator : ℕ) (t : Bool) (w : Written) → w.end + (if t then 0 else 1) ≤ ((if t then nothing else byte operator) w).end
unary-long operator true w = omega arith
unary-long operator false w = omega arith

binary-long : (operator : ℕ) (w : Written) → w.end + 1 ≤ (byte operator w).end
binary-long operator w = omega arith

module _ (n : Names) (hides : HideNoConstant n) where
  named-long : (name : List ℕ) (o : Option ℕ) → (constants_in n.constants).named name ≡ o → IsThere o → (w : Written) → w.end + number_length (or_zero o) ≤ (name_alone n name (n.kind name) w).end
  named-long name None is h w = absurd h
  named-long name (Some v) is h w =
      let same : (name_alone n name (n.kind name) w).end ≡ w.end + number_length v = ap (λ kind. (name_alone n name kind w).end) (hides.named name v is) ∙ number-long v w in
      omega (arith, same)

  pub constant-long : (e : Tree) → IsThere (constant_value (constants_in n.constants) e) → (w : Written) → w.end + code_length (constants_in n.constants) e ≤ (value n e w).end
  constant-long (node place (Number v)) h w = let same = number-long v w in omega (arith, same)
  constant-long (node place (Var (Named name no_index at))) h w = named-long name ((constants_in n.constants).named name) refl h w
  constant-long (node place (ObjConst object name at)) h w =
      let o : Option ℕ = value_behind (meaning_of n.constants object) (n.constants.constant object name) in
      let same : (number (or_zero (constants.constant_of n.constants (meaning_of n.constants object) object name)) w).end ≡ w.end + number_length (or_zero o) =
      ap (λ p. (number (or_zero p) w).end) (behind-given n.constants (meaning_of n.constants object) object name h) ∙ number-long (or_zero o) w in
      omega (arith, same)
  constant-long (node place (Unary operator e)) h w =
      let inner = constant-long e (before-there (unary_value operator) (constant_value (constants_in n.constants) e) h) w in
      let sign = unary-long operator (operator == 0xEC) (value n e w) in
      omega (arith, inner, sign)
  constant-long (node place (Binary operator a b)) h w =
      let one = constant-long a (first-there (binary_value operator) (constant_value (constants_in n.constants) a) (constant_value (constants_in n.constants) b) h) w in
      let two = constant-long b (second-there (binary_value operator) (constant_value (constants_in n.constants) a) (constant_value (constants_in n.constants) b) h) (value n a w) in
      let last = binary-long operator (value n b (value n a w)) in
      omega (arith, one, two, last)
  constant-long (node place (Var (Named name (index e) at))) h w = absurd h
  constant-long (node place (Var (Part name size i at))) h w = absurd h
  constant-long (node place (Var (Memory size e i at))) h w = absurd h
  constant-long (node place (Var (Register register x at))) h w = absurd h
  constant-long (node place (Str text)) h w = absurd h
  constant-long (node place (Strings es)) h w = absurd h
  constant-long (node place Here) h w = absurd h
  constant-long (node place (Call stops object i method at es)) h w = absurd h
  constant-long (node place (Assign v operator e)) h w = absurd h
  constant-long (node place (Change v change)) h w = absurd h
  constant-long (node place (Address v)) h w = absurd h
  constant-long (node place (ObjectAddress e)) h w = absurd h
  constant-long (node place (Built code es)) h w = absurd h
  constant-long (node place (Look code e xs)) h w = absurd h

-- ---- what a tree becomes

within-if : (t : Bool) (o room v : ℕ) → nat_le (number_length o) room ≡ t → (if t then Some o else None) ≡ Some v → (o ≡ v) × (number_length o ≤ room)
within-if true o room v low is = (cc, at-most (number_length o) room low)
  where
    at-most : (a b : ℕ) → nat_le a b ≡ true → a ≤ b
    at-most a b h = grind (arith, nat_tests)
within-if false o room v low is = absurd (cc)

-- the value of a constant tree, and that it is short
record IsShort (o : Option ℕ) (room v : ℕ) : Type 0 where
  is : o ≡ Some v
  short : number_length v ≤ room

within-short : (room : ℕ) (o : Option ℕ) (v : ℕ) → within room o ≡ Some v → IsShort o room v
within-short room None v is = absurd (cc)
within-short room (Some u) v is =
    let h = within-if (nat_le (number_length u) room) u room v refl is in
    record { is = ap Some h.0; short = subst (λ k. number_length k ≤ room) h.0 h.1 }

there-is : (o : Option ℕ) (v : ℕ) → o ≡ Some v → IsThere o
there-is None v is = absurd (cc)
there-is (Some u) v is = tt

-- what is asked of the numbers that stand in place of trees
pub record Suits (n : Names) (number_of : Tree → Option ℕ) : Type 0 where
  pub starts : StartsNothing n number_of
  pub short : (e : Tree) (v : ℕ) → number_of e ≡ Some v → (x w : Written) → (number v x).end + w.end ≤ (value n e w).end + x.end

constant-name : (n : Names) → HideNoConstant n → (name : List ℕ) (v : ℕ) → (constants_in n.constants).named name ≡ Some v → is_method (n.kind name) ≡ false
constant-name n hides name v is = ap is_method (hides.named name v is)

no-call : {A : Type 0} (room v : ℕ) → within room None ≡ Some v → A
no-call room v is = absurd (cc)

starts-nothing : (n : Names) → HideNoConstant n → (e : Tree) (v : ℕ) → shorter_number (constants_in n.constants) e ≡ Some v → starts_method n e ≡ false
starts-nothing n hides (node place (Call stops object i method at es)) v is = no-call 0 v is
starts-nothing n hides (node place (Var (Named name no_index at))) v is =
    constant-name n hides name v (within-short (code_length (constants_in n.constants) (node place (Var (Named name no_index at)))) ((constants_in n.constants).named name) v is).is
starts-nothing n hides (node place (Var (Named name (index e) at))) v is = refl
starts-nothing n hides (node place (Var (Part name size i at))) v is = refl
starts-nothing n hides (node place (Var (Memory size e i at))) v is = refl
starts-nothing n hides (node place (Var (Register register x at))) v is = refl
starts-nothing n hides (node place (Number u)) v is = refl
starts-nothing n hides e v is = refl

pub suits-of : (n : Names) → HideNoConstant n → Suits n (shorter_number (constants_in n.constants))
suits-of n hides = record {
  starts = record { plain = starts-nothing n hides };
  short = λ e v is x w.
      let c = constants_in n.constants in
      let h = within-short (code_length c e) (constant_value c e) v is in
      let whole = constant-long n hides e (there-is (constant_value c e) v h.is) w in
      let small = h.short in
      let one = number-long v x in
      omega (arith, whole, small, one);
}
