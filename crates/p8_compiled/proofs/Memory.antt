-- The bytecodes of memory: where their variable is, and which operations they are.
use Rattle.std.proofs.Common.{◌≡◌, refl, sym, ap, ◌∙◌, subst, arith, ℕ, ◌+◌, ◌*◌, ◌/◌, ◌%◌, ◌^◌, ◌<◌, ◌≤◌, ◌==◌, ◌&&◌, Bool, true, false, if◌then◌else◌, nat_lt, List, Option, Some, IsTrue}
use Rattle.p8_access.specs.declared.kinds.Width.TheVariants.{Long}
use Rattle.p8_access.specs.Proper.{bytes_in}
use Rattle.p8_tree.specs.Proper.{is_size}
use Rattle.p8_access.specs.Courses.{Course, Finish}
use Rattle.p8_bytecode.specs.declared.op.Op.{Op}
use Rattle.p8_bytecode.specs.declared.operands.Operands.{Operands}
use Rattle.p8_bytecode.specs.declared.operands.Operands.TheVariants.{ShortVariable, Variable}
use Rattle.p8_bytecode.specs.Table.{rows, operands_of}
use Rattle.p8_bytecode.specs.Reading.{bare, changes_variable, has_base}
use Rattle.p8_bytecode.specs.Spelling.{FitsOperands, IsChange, IsPlace, IsOp}
use Rattle.p8_bcog.specs.declared.state.SpinState.{SpinState}
use Rattle.p8_bcog.specs.declared.variable_place.VariablePlace as place
use Rattle.p8_bcog.specs.declared.variable_place.VariablePlace.TheVariants.{Memory, Pins}
use Rattle.p8_bcog.specs.declared.step.Wanted.TheVariants as wanted_case
use Rattle.p8_bcog.specs.Places.{reads_place}
use Rattle.p8_bcog.specs.Operands.{operand, taken, replaced, tested}
use Rattle.p8_bcog.specs.Changes.{pushes, pops, changes}
use Rattle.p8_bcog.specs.Variables.{acts, short_variable, short_address, variable}
use Rattle.p8_bcog.specs.Bytecodes.{row}
use Rattle.p8_meaning.specs.Variables.{width_of}
use Rattle.p8_gen.specs.Variables.{Base, Pushed, OfObject, OfVariables, OfFrame, Home, home_at, Operation, Push, Pop, Using, Reference, action_of, effect_of, size_bits, base_bits, memory_op, is_short, plain_op}
use Rattle.p8_compiled.proofs.Choices.{by-size, all_from, within-row}
use Rattle.p8_compiled.proofs.Truths.{below, both-true, equal, if-no, if-yes, less, not-less}

-- ---- what a bytecode does with its variable

-- an address is that of memory alone
abbrev pub referenced : (named : ℕ) → place.VariablePlace → SpinState → Course SpinState
referenced named (Memory width address) s = Finish (replaced named address s)
referenced named (Pins register high low) s = reads_place wanted_case.Pushed (Pins register high low) (taken named s)

abbrev pub done : Operation → (named : ℕ) → Op → place.VariablePlace → SpinState → Course SpinState
done Push named op at s = pushes named at s
done Pop named op at s = pops named at s
done (Using effect) named op at s = changes named op at s
done Reference named op at s = tested named 1 s (referenced named at s)

-- the effect byte of an operation, and the jump of one that has a jump
abbrev pub FitsEffect : Operation → Op → Type 0
FitsEffect (Using effect) op = IsChange true op
FitsEffect _ op = IsChange false op

abbrev pub is_using : Operation → Bool
is_using (Using effect) = true
is_using _ = false

pub change-fits : (o : Operation) (op : Op) → FitsEffect o op → IsChange (is_using o) op
change-fits (Using effect) op fits = fits
change-fits Push op fits = fits
change-fits Pop op fits = fits
change-fits Reference op fits = fits

-- ---- where a variable is that stands from a base on

abbrev pub index_count : (indexed : Bool) → ℕ
index_count indexed = if indexed then 1 else 0

-- how many operands name it
abbrev pub named_by : (indexed : Bool) → Base → ℕ
named_by indexed Pushed = index_count indexed + 1
named_by indexed _ = index_count indexed

abbrev pub start_of : (indexed : Bool) → Base → SpinState → ℕ
start_of indexed Pushed s = operand s (index_count indexed)
start_of indexed OfObject s = s.pbase
start_of indexed OfVariables s = s.vbase
start_of indexed OfFrame s = s.frame

abbrev pub index_of : (indexed : Bool) → SpinState → ℕ
index_of true s = operand s 0
index_of false s = 0

abbrev pub memory_at : (indexed : Bool) → Home → SpinState → place.VariablePlace
memory_at indexed home s = Memory (width_of home.size) ((start_of indexed home.base s + home.offset + index_of indexed s * bytes_in (width_of home.size)) % 2 ^ 16)

-- ---- the bytecodes with a base and a size

abbrev pub is_based : Base → Bool
is_based Pushed = false
is_based _ = true

abbrev code_of : (indexed : Bool) → (size : ℕ) → Base → Operation → ℕ
code_of indexed size base o = 0x80 + size_bits size + (if indexed then 0x10 else 0) + base_bits base + action_of o

abbrev op_with : (code first effect second : ℕ) → (long_form : Bool) → Op
op_with code first effect second long_form = record (bare code) { first = first; effect = effect; second = second; long_form = long_form }

-- what such a bytecode is, and does
pub record IsMemory (memory : List ℕ) (cog : ℕ) (size : ℕ) (indexed : Bool) (base : Base) (o : Operation) : Type 0 where
  pub operands : operands_of (code_of indexed size base o) ≡ Some Variable
  pub based : has_base (code_of indexed size base o) ≡ is_based base
  pub changes : changes_variable (code_of indexed size base o) ≡ is_using o
  pub does : (first effect second : ℕ) (long_form : Bool) (s : SpinState) →
      row memory cog (op_with (code_of indexed size base o) first effect second long_form) s
      ≡ done o (named_by indexed base) (op_with (code_of indexed size base o) first effect second long_form) (Memory (width_of size) ((start_of indexed base s + first + index_of indexed s * bytes_in (width_of size)) % 2 ^ 16)) s

memory-1 : (memory : List ℕ) (cog : ℕ) (indexed : Bool) (base : Base) (o : Operation) → IsMemory memory cog 1 indexed base o
unfolding rows row variable acts
memory-1 memory cog true Pushed Push = record { operands = refl; based = refl; changes = refl; does = λ first effect second long_form s. refl }
memory-1 memory cog true OfObject Push = record { operands = refl; based = refl; changes = refl; does = λ first effect second long_form s. refl }
memory-1 memory cog true OfVariables Push = record { operands = refl; based = refl; changes = refl; does = λ first effect second long_form s. refl }
memory-1 memory cog true OfFrame Push = record { operands = refl; based = refl; changes = refl; does = λ first effect second long_form s. refl }
memory-1 memory cog false Pushed Push = record { operands = refl; based = refl; changes = refl; does = λ first effect second long_form s. refl }
memory-1 memory cog false OfObject Push = record { operands = refl; based = refl; changes = refl; does = λ first effect second long_form s. refl }
memory-1 memory cog false OfVariables Push = record { operands = refl; based = refl; changes = refl; does = λ first effect second long_form s. refl }
memory-1 memory cog false OfFrame Push = record { operands = refl; based = refl; changes = refl; does = λ first effect second long_form s. refl }
memory-1 memory cog _ _ _ = record { operands = refl; based = refl; changes = refl; does = λ first effect second long_form s. refl }

memory-2 : (memory : List ℕ) (cog : ℕ) (indexed : Bool) (base : Base) (o : Operation) → IsMemory memory cog 2 indexed base o
unfolding rows row variable acts
memory-2 memory cog true Pushed Push = record { operands = refl; based = refl; changes = refl; does = λ first effect second long_form s. refl }
memory-2 memory cog true OfObject Push = record { operands = refl; based = refl; changes = refl; does = λ first effect second long_form s. refl }
memory-2 memory cog true OfVariables Push = record { operands = refl; based = refl; changes = refl; does = λ first effect second long_form s. refl }
memory-2 memory cog true OfFrame Push = record { operands = refl; based = refl; changes = refl; does = λ first effect second long_form s. refl }
memory-2 memory cog false Pushed Push = record { operands = refl; based = refl; changes = refl; does = λ first effect second long_form s. refl }
memory-2 memory cog false OfObject Push = record { operands = refl; based = refl; changes = refl; does = λ first effect second long_form s. refl }
memory-2 memory cog false OfVariables Push = record { operands = refl; based = refl; changes = refl; does = λ first effect second long_form s. refl }
memory-2 memory cog false OfFrame Push = record { operands = refl; based = refl; changes = refl; does = λ first effect second long_form s. refl }
memory-2 memory cog _ _ _ = record { operands = refl; based = refl; changes = refl; does = λ first effect second long_form s. refl }

memory-4 : (memory : List ℕ) (cog : ℕ) (indexed : Bool) (base : Base) (o : Operation) → IsMemory memory cog 4 indexed base o
unfolding rows row variable acts
memory-4 memory cog true Pushed Push = record { operands = refl; based = refl; changes = refl; does = λ first effect second long_form s. refl }
memory-4 memory cog true OfObject Push = record { operands = refl; based = refl; changes = refl; does = λ first effect second long_form s. refl }
memory-4 memory cog true OfVariables Push = record { operands = refl; based = refl; changes = refl; does = λ first effect second long_form s. refl }
memory-4 memory cog true OfFrame Push = record { operands = refl; based = refl; changes = refl; does = λ first effect second long_form s. refl }
memory-4 memory cog false Pushed Push = record { operands = refl; based = refl; changes = refl; does = λ first effect second long_form s. refl }
memory-4 memory cog false OfObject Push = record { operands = refl; based = refl; changes = refl; does = λ first effect second long_form s. refl }
memory-4 memory cog false OfVariables Push = record { operands = refl; based = refl; changes = refl; does = λ first effect second long_form s. refl }
memory-4 memory cog false OfFrame Push = record { operands = refl; based = refl; changes = refl; does = λ first effect second long_form s. refl }
memory-4 memory cog _ _ _ = record { operands = refl; based = refl; changes = refl; does = λ first effect second long_form s. refl }

pub is-memory : (memory : List ℕ) (cog size : ℕ) (indexed : Bool) (base : Base) (o : Operation) → IsTrue (is_size size) → IsMemory memory cog size indexed base o
is-memory memory cog size indexed base o is =
    by-size (λ z. IsMemory memory cog z indexed base o) (memory-1 memory cog indexed base o) (memory-2 memory cog indexed base o) (memory-4 memory cog indexed base o) size is

-- ---- what a bytecode does with a variable at a place, also where it has a jump

abbrev pub with_jump : Op → (off : ℕ) → (long_form : Bool) → Op
with_jump op off long_form = record op { second = off; long_form = long_form }

pub record Acts (memory : List ℕ) (cog : ℕ) (op : Op) (o : Operation) (named : ℕ) (at : SpinState → place.VariablePlace) : Type 0 where
  pub plain : with_jump op 0 false ≡ op
  pub effect : op.effect ≡ effect_of o
  pub is_op : (off : ℕ) (long_form : Bool) → FitsEffect o (with_jump op off long_form) → IsOp (with_jump op off long_form)
  pub does : (off : ℕ) (long_form : Bool) (s : SpinState) → row memory cog (with_jump op off long_form) s ≡ done o named (with_jump op off long_form) (at s) s

-- a home within reach of a bytecode
pub record IsHome (home : Home) : Type 0 where
  pub size : IsTrue (is_size home.size)
  pub place : IsPlace (is_based home.base) home.offset

within-place : (based : Bool) (offset : ℕ) → IsPlace based offset → offset % 2 ^ 15 ≡ offset
within-place true offset is = omega (arith, is)
within-place false offset is = ap (λ n. n % 2 ^ 15) is ∙ sym is

pub memory-acts : (memory : List ℕ) (cog : ℕ) (indexed : Bool) (home : Home) (o : Operation) → IsHome home → Acts memory cog (memory_op indexed home o) o (named_by indexed home.base) (memory_at indexed home)
memory-acts memory cog indexed home o is =
    let m : IsMemory memory cog home.size indexed home.base o = is-memory memory cog home.size indexed home.base o is.size in
    let same : home.offset % 2 ^ 15 ≡ home.offset = within-place (is_based home.base) home.offset is.place in
    record {
      plain = refl;
      effect = refl;
      is_op = λ off long_form fits.
          let op : Op = with_jump (memory_op indexed home o) off long_form in
          record {
            operands = subst (λ (found : Option Operands). FitsOperands found op) (sym m.operands) (
              refl,
              subst (λ (based : Bool). IsPlace based (home.offset % 2 ^ 15)) (sym m.based) (subst (IsPlace (is_based home.base)) (sym same) is.place),
              subst (λ (changes : Bool). IsChange changes op) (sym m.changes) (change-fits o op fits),
            );
          };
      does = λ off long_form s.
          m.does (home.offset % 2 ^ 15) (effect_of o) off long_form s
          ∙ ap (λ n. done o (named_by indexed home.base) (with_jump (memory_op indexed home o) off long_form) (Memory (width_of home.size) ((start_of indexed home.base s + n + index_of indexed s * bytes_in (width_of home.size)) % 2 ^ 16)) s) same;
    }

-- ---- longs among the first eight

none-more : (a b : ℕ) → a ≡ a + 0 * b
none-more a b = omega arith

short-row : (memory : List ℕ) (cog : ℕ) (op : Op) (s : SpinState) → 0x40 ≤ op.code → op.code < 0x80 → row memory cog op s ≡ short_variable op s
unfolding row
short-row memory cog op s least most =
    if-no (nat_lt op.code 0x08) _ _ (not-less op.code 0x08 (omega (arith, least)))
    ∙ if-no (nat_lt op.code 0x10) _ _ (not-less op.code 0x10 (omega (arith, least)))
    ∙ if-no (nat_lt op.code 0x16) _ _ (not-less op.code 0x16 (omega (arith, least)))
    ∙ if-no (nat_lt op.code 0x20) _ _ (not-less op.code 0x20 (omega (arith, least)))
    ∙ if-no (nat_lt op.code 0x30) _ _ (not-less op.code 0x30 (omega (arith, least)))
    ∙ if-no (nat_lt op.code 0x40) _ _ (not-less op.code 0x40 least)
    ∙ if-yes (nat_lt op.code 0x80) _ _ (less op.code 0x80 most)

short-acts-as : (o : Operation) (op : Op) (address : ℕ) (s : SpinState) → acts (action_of o) 0 op Long address s ≡ done o 0 op (Memory Long address) s
unfolding acts
short-acts-as Push op address s = refl
short-acts-as _ op address s = refl

abbrev pub has_short : Option Operands → Bool
has_short (Some ShortVariable) = true
has_short found = false

pub short-there : (found : Option Operands) → has_short found ≡ true → found ≡ Some ShortVariable
short-there (Some ShortVariable) is = refl
short-there _ is = absurd (cc)

pub all-short : all_from (λ k. has_short (operands_of k)) 0x40 64 ≡ true
unfolding rows
all-short = refl

action-small : (o : Operation) → action_of o < 4
action-small Push = omega arith
action-small Pop = omega arith
action-small (Using effect) = omega arith
action-small Reference = omega arith

using-is : (o : Operation) → (action_of o == 2) ≡ is_using o
using-is Push = refl
using-is _ = refl

-- the byte of such a long, where bit 5 says the base
pub record IsShort (code bits offset : ℕ) (o : Operation) : Type 0 where
  pub least : 0x40 ≤ code
  pub most : code < 0x80
  pub action : code % 4 ≡ action_of o
  pub which : code / 4 % 8 * 4 ≡ offset
  pub base : code / 32 % 2 ≡ bits

pub short-code : (bits offset : ℕ) (o : Operation) → bits < 2 → offset < 32 → offset % 4 ≡ 0 → IsShort (0x40 + bits * 0x20 + offset + action_of o) bits offset o
short-code bits offset o b lt fours =
    let small : action_of o < 4 = action-small o in
    record {
      least = omega arith;
      most = omega (arith, b, lt, small, fours);
      action = omega (arith, b, lt, small, fours);
      which = omega (arith, b, lt, small, fours);
      base = omega (arith, b, lt, small, fours);
    }

short-acts : (memory : List ℕ) (cog : ℕ) (code bits : ℕ) (base : Base) (offset size : ℕ) (o : Operation) → IsShort code bits offset o → size ≡ 4 → named_by false base ≡ 0 →
    ((s : SpinState) → (if bits == 0 then s.vbase else s.frame) ≡ start_of false base s) → Acts memory cog (record (bare code) { effect = effect_of o }) o (named_by false base) (memory_at false (home_at base offset size))
unfolding short_variable
short-acts memory cog code bits base offset size o c long none starts =
    record {
      plain = refl;
      effect = refl;
      is_op = λ off long_form fits.
          let op : Op = with_jump (record (bare code) { effect = effect_of o }) off long_form in
          let found : operands_of code ≡ Some ShortVariable = short-there (operands_of code) (within-row (λ k. has_short (operands_of k)) 0x40 64 all-short code c.least (omega (arith, c.most))) in
          record {
            operands = subst (λ (x : Option Operands). FitsOperands x op) (sym found)
                (refl, refl, subst (λ (changes : Bool). IsChange changes op) (sym (ap (λ n. n == 2) c.action ∙ using-is o)) (change-fits o op fits));
          };
      does = λ off long_form s.
          let op : Op = with_jump (record (bare code) { effect = effect_of o }) off long_form in
          let address : ((if code / 32 % 2 == 0 then s.vbase else s.frame) + code / 4 % 8 * 4) % 2 ^ 16 ≡ (start_of false base s + offset + 0 * bytes_in (width_of size)) % 2 ^ 16 =
          ap (λ b. ((if b == 0 then s.vbase else s.frame) + code / 4 % 8 * 4) % 2 ^ 16) c.base
          ∙ ap (λ a. (a + code / 4 % 8 * 4) % 2 ^ 16) (starts s)
          ∙ ap (λ x. (start_of false base s + x) % 2 ^ 16) c.which
          ∙ ap (λ x. x % 2 ^ 16) (none-more (start_of false base s + offset) (bytes_in (width_of size))) in
          short-row memory cog op s c.least c.most
          ∙ ap (λ action. acts action 0 op Long (short_address code s) s) c.action
          ∙ short-acts-as o op (short_address code s) s
          ∙ ap (λ x. done o 0 op (Memory Long x) s) address
          ∙ ap (λ z. done o 0 op (Memory (width_of z) ((start_of false base s + offset + 0 * bytes_in (width_of size)) % 2 ^ 16)) s) (sym long)
          ∙ ap (λ named. done o named op (memory_at false (home_at base offset size) s) s) (sym none);
    }

short-or-long : (memory : List ℕ) (cog : ℕ) (bits : ℕ) (base : Base) (offset size : ℕ) (o : Operation) (short : Bool) → is_short (home_at base offset size) ≡ short → bits < 2 → named_by false base ≡ 0 →
    ((s : SpinState) → (if bits == 0 then s.vbase else s.frame) ≡ start_of false base s) → IsHome (home_at base offset size) →
    Acts memory cog (if short then record (bare (0x40 + bits * 0x20 + offset + action_of o)) { effect = effect_of o } else memory_op false (home_at base offset size) o) o (named_by false base) (memory_at false (home_at base offset size))
short-or-long memory cog bits base offset size o true short b none starts is =
    let one : ((size == 4 && nat_lt offset 32) ≡ true) × ((offset % 4 == 0) ≡ true) = both-true _ _ short in
    let two : ((size == 4) ≡ true) × (nat_lt offset 32 ≡ true) = both-true _ _ one.0 in
    short-acts memory cog _ bits base offset size o (short-code bits offset o b (below offset 32 two.1) (equal (offset % 4) 0 one.1)) (equal size 4 two.0) none starts
short-or-long memory cog bits base offset size o false short b none starts is = memory-acts memory cog false (home_at base offset size) o is

pub plain-acts : (memory : List ℕ) (cog : ℕ) (base : Base) (offset size : ℕ) (o : Operation) → IsHome (home_at base offset size) → Acts memory cog (plain_op (home_at base offset size) o) o (named_by false base) (memory_at false (home_at base offset size))
plain-acts memory cog Pushed offset size o is = memory-acts memory cog false (home_at Pushed offset size) o is
plain-acts memory cog OfObject offset size o is = memory-acts memory cog false (home_at OfObject offset size) o is
plain-acts memory cog OfVariables offset size o is = short-or-long memory cog 0 OfVariables offset size o _ refl (omega arith) refl (λ s. refl) is
plain-acts memory cog OfFrame offset size o is = short-or-long memory cog 1 OfFrame offset size o _ refl (omega arith) refl (λ s. refl) is
