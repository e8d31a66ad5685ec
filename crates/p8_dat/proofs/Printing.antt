-- The line that is printed for a long is assembled to it: a row of the table of words for each opcode, and sixteen flags.
use Rattle.std.proofs.Common.{◌≡◌, inl, inr, ℕ, zero, suc, ◌+◌, ◌*◌, ◌/◌, ◌%◌, ◌^◌, ◌<◌, Bool, true, false, ◌&&◌, nat_lt, List, [], Option, Some, None, refl, sym, ap, ◌∙◌, arith, codes}
use Rattle.std.specs.Prelude.{◌==◌, ◌||◌, not, if◌then◌else◌, unwrap_or}
use Rattle.std.specs.Int.{from_bool}
use Rattle.std.specs.Str.{bytes_eq}
use Rattle.std.proofs.lemmas.Bool.{cases_eq}
use Rattle.std.proofs.lemmas.Bool.Decides.{nat_tests}
use Rattle.p8_tree.specs.declared.places.Place.{Place}
use Rattle.p8_tree.specs.Expressions.{node, Number}
use Rattle.p8_tree.specs.Sources.{Instruction}
use Rattle.p8_tree.specs.declared.faults.Fault.{Fault}
use Rattle.p8_tree.specs.Faults.{fault}
use Rattle.p8_tree.specs.declared.refusal.Refusal.TheVariants.{OperandRange}
use Rattle.p8_fold.specs.Meanings.{Setting}
use Rattle.p8_fold.specs.Values.{where_so}
use Rattle.p8_instr.specs.declared.instruction.Instr.{Instr}
use Rattle.p8_instr.specs.Instruction.{instr_of, long_of, writes_result, is_immediate}
use Rattle.p8_instr.specs.Mnemonics.{mnemonics, word_where, is_named_by, entry_of}
use Rattle.p8_dat.specs.Encoding.{is_address, field, label_field, return_meaning, return_fault, bit, writes, flags_of, instr_with, long_with, long_of_line, dest_of, field_of, FaultInOperand, FaultInInstruction}
use Rattle.p8_dat.specs.Printed.{effects_of, printed_line}

-- ---- all numbers below a bound, by a test

all_below : (ℕ → Bool) → ℕ → Bool
all_below test zero = true
all_below test (suc n) = test n && all_below test n

both : (a b : Bool) → (a && b) ≡ true → (a ≡ true) × (b ≡ true)
both true b h = (refl, h)
both false b h = absurd (cc)

all_below-at : (test : ℕ → Bool) (n k : ℕ) → all_below test n ≡ true → k < n → test k ≡ true
unfolding all_below
all_below-at test zero k h within = absurd (omega arith)
all_below-at test (suc n) k h within =
    let p = both (test n) (all_below test n) h in
    elim (cases_eq k n) [
      | inl same ↦ ap test same ∙ p.0
      | inr other ↦ all_below-at test n k p.1 (omega arith)
    ]

-- ---- the table of words

same : Bool → Bool → Bool
same true b = b
same false b = not b

entry_fits : ℕ → Bool → Option Instr → Bool
entry_fits opcode r None = false
entry_fits opcode r (Some d) = (d.opcode == opcode) && (not (is_immediate d) && (if nat_lt opcode 3 then same (writes_result d) r else true))

word_fits : ℕ → Bool → Option (List ℕ) → Bool
word_fits opcode r None = false
word_fits opcode r (Some w) = not (bytes_eq w (codes "NOP")) && (not (bytes_eq w (codes "CALL")) && entry_fits opcode r (entry_of mnemonics w))

row_fits : Bool → ℕ → Bool
row_fits r opcode = word_fits opcode r (word_where (is_named_by opcode r) mnemonics)

rows_fit : (r : Bool) → all_below (row_fits r) 64 ≡ true
unfolding all_below row_fits word_fits entry_fits same mnemonics
rows_fit true = refl
rows_fit false = refl

record Row (opcode : ℕ) (r : Bool) : Type 0 where
  word : List ℕ
  named : word_where (is_named_by opcode r) mnemonics ≡ Some word
  no_nop : bytes_eq word (codes "NOP") ≡ false
  no_call : bytes_eq word (codes "CALL") ≡ false
  entry : Instr
  found : entry_of mnemonics word ≡ Some entry
  its_opcode : entry.opcode ≡ opcode
  direct : is_immediate entry ≡ false
  its_result : nat_lt opcode 3 ≡ true → writes_result entry ≡ r

from_not : (b : Bool) → not b ≡ true → b ≡ false
from_not true h = absurd cc
from_not false h = refl

from_same : (a b : Bool) → same a b ≡ true → a ≡ b
unfolding same
from_same true b h = sym h
from_same false b h = sym (from_not b h)

row_entry : (opcode : ℕ) (r : Bool) (w : List ℕ) (o : Option Instr) → word_where (is_named_by opcode r) mnemonics ≡ Some w → bytes_eq w (codes "NOP") ≡ false → bytes_eq w (codes "CALL") ≡ false → entry_of mnemonics w ≡ o → entry_fits opcode r o ≡ true → Row opcode r
unfolding entry_fits
row_entry opcode r w None name nop call is h = absurd cc
row_entry opcode r w (Some d) name nop call is h =
    let p = both (d.opcode == opcode) (not (is_immediate d) && (if nat_lt opcode 3 then same (writes_result d) r else true)) h in
    let q = both (not (is_immediate d)) (if nat_lt opcode 3 then same (writes_result d) r else true) p.1 in
    record {
      word = w;
      named = name;
      no_nop = nop;
      no_call = call;
      entry = d;
      found = is;
      its_opcode = grind (arith, nat_tests, p.0);
      direct = from_not (is_immediate d) q.0;
      its_result = λ low. from_same (writes_result d) r (ap (λ b. if b then same (writes_result d) r else true) (sym low) ∙ q.1);
    }

row_word : (opcode : ℕ) (r : Bool) (o : Option (List ℕ)) → word_where (is_named_by opcode r) mnemonics ≡ o → word_fits opcode r o ≡ true → Row opcode r
unfolding word_fits
row_word opcode r None is h = absurd cc
row_word opcode r (Some w) is h =
    let p = both (not (bytes_eq w (codes "NOP"))) (not (bytes_eq w (codes "CALL")) && entry_fits opcode r (entry_of mnemonics w)) h in
    let q = both (not (bytes_eq w (codes "CALL"))) (entry_fits opcode r (entry_of mnemonics w)) p.1 in
    row_entry opcode r w (entry_of mnemonics w) is (from_not (bytes_eq w (codes "NOP")) p.0) (from_not (bytes_eq w (codes "CALL")) q.0) refl q.1

row_of : (opcode : ℕ) (r : Bool) → opcode < 64 → Row opcode r
unfolding row_fits
row_of opcode r within = row_word opcode r (word_where (is_named_by opcode r) mnemonics) refl (all_below-at (row_fits r) 64 opcode (rows_fit r) within)

-- ---- the flags

-- the effects that are printed, by the flags and whether the word says if the result is written
effects_by : ℕ → Bool → ℕ
effects_by f low = from_bool (f / 8 % 2 == 1) + 2 * from_bool (f / 4 % 2 == 1) + (if low then 0 else (if f / 2 % 2 == 1 then 4 else 8))

flags_back : ℕ → Bool → Bool → ℕ
flags_back f low wd =
    8 * from_bool (bit 0 (effects_by f low)) + 4 * from_bool (bit 1 (effects_by f low)) + 2 * from_bool (if wd then not (bit 3 (effects_by f low)) else bit 2 (effects_by f low)) + from_bool (f % 2 == 1)

flags_fit : ℕ → Bool
flags_fit f = (flags_back f true (f / 2 % 2 == 1) == f) && ((flags_back f false true == f) && (flags_back f false false == f))

all_flags : all_below flags_fit 16 ≡ true
unfolding all_below flags_fit flags_back effects_by
all_flags = refl

flags_by_low : (f : ℕ) (low wd : Bool) → flags_fit f ≡ true → (low ≡ true → wd ≡ (f / 2 % 2 == 1)) → flags_back f low wd ≡ f
unfolding flags_fit
flags_by_low f true wd fit result =
    let p = both (flags_back f true (f / 2 % 2 == 1) == f) ((flags_back f false true == f) && (flags_back f false false == f)) fit in
    ap (flags_back f true) (result refl) ∙ grind (arith, nat_tests, p.0)
flags_by_low f false true fit result =
    let p = both (flags_back f true (f / 2 % 2 == 1) == f) ((flags_back f false true == f) && (flags_back f false false == f)) fit in
    let q = both (flags_back f false true == f) (flags_back f false false == f) p.1 in
    grind (arith, nat_tests, q.0)
flags_by_low f false false fit result =
    let p = both (flags_back f true (f / 2 % 2 == 1) == f) ((flags_back f false true == f) && (flags_back f false false == f)) fit in
    let q = both (flags_back f false true == f) (flags_back f false false == f) p.1 in
    grind (arith, nat_tests, q.1)

or_false : (a b : Bool) → b ≡ false → (a || b) ≡ a
or_false true b h = refl
or_false false b h = h

flags_are : (i : Instr) → i.flags < 16 → (d : Instr) → is_immediate d ≡ false → (nat_lt i.opcode 3 ≡ true → writes_result d ≡ writes_result i) → flags_of d (is_immediate i) (effects_of i) ≡ i.flags
unfolding flags_back effects_by
flags_are i fits d direct result =
    ap (λ b. 8 * from_bool (bit 0 (effects_of i)) + 4 * from_bool (bit 1 (effects_of i)) + 2 * from_bool (writes d (effects_of i)) + from_bool b) (or_false (is_immediate i) (is_immediate d) direct)
    ∙ flags_by_low i.flags (nat_lt i.opcode 3) (writes_result d) (all_below-at flags_fit 16 i.flags all_flags fits) result

-- ---- the line

field_is : (n : ℕ) → n < 512 → field (Some n) ≡ n
field_is n fits = let below : is_address n ≡ true = grind (arith, nat_tests) in ap (λ b. if b then n else 0) below

-- the line of a row of the table
line_by : (s : Setting) (i : Instr) (p q : Place) (x : ℕ) (row : Row i.opcode (writes_result i)) → i.flags < 16 → i.cond < 16 → i.dest < 512 → i.source < 512 → long_of i ≡ x → long_of_line s (printed_line i p q) ≡ x
line_by s i p q x row flags cond dest source is =
    let line = printed_line i p q in
    let word : line.word ≡ row.word = ap (λ o. unwrap_or o []) row.named in
    let d = row.entry in
    let nop : bytes_eq line.word (codes "NOP") ≡ false = ap (λ w. bytes_eq w (codes "NOP")) word ∙ row.no_nop in
    let call : bytes_eq line.word (codes "CALL") ≡ false = ap (λ w. bytes_eq w (codes "CALL")) word ∙ row.no_call in
    let found : entry_of mnemonics line.word ≡ Some d = ap (entry_of mnemonics) word ∙ row.found in
    let to : dest_of s line ≡ i.dest = ap (λ b. if b then label_field (return_meaning s line.source) else field (Some i.dest)) call ∙ field_is i.dest dest in
    let from : field (Some i.source) ≡ i.source = field_is i.source source in
    let same_flags : flags_of d (is_immediate i) (effects_of i) ≡ i.flags = flags_are i flags d row.direct row.its_result in
    let opcode : d.opcode ≡ i.opcode = row.its_opcode in
    let condition : i.cond % 16 ≡ i.cond = omega arith in
    ap (λ b. if b then 0 else long_with line (entry_of mnemonics line.word) (dest_of s line) (field (Some i.source))) nop
    ∙ ap (λ o. long_with line o (dest_of s line) (field (Some i.source))) found
    ∙ ap (λ n. long_of (instr_with line d n (field (Some i.source)))) to
    ∙ ap (λ n. long_of (instr_with line d i.dest n)) from
    ∙ ap (λ n. n * 2 ^ 26 + flags_of d (is_immediate i) (effects_of i) * 2 ^ 22 + i.cond % 16 * 2 ^ 18 + i.dest * 2 ^ 9 + i.source) opcode
    ∙ ap (λ n. i.opcode * 2 ^ 26 + n * 2 ^ 22 + i.cond % 16 * 2 ^ 18 + i.dest * 2 ^ 9 + i.source) same_flags
    ∙ ap (λ n. i.opcode * 2 ^ 26 + i.flags * 2 ^ 22 + n * 2 ^ 18 + i.dest * 2 ^ 9 + i.source) condition ∙ is

pub printed_long : (s : Setting) (p q : Place) (x : ℕ) → x < 2 ^ 32 → long_of_line s (printed_line (instr_of x) p q) ≡ x
printed_long s p q x fits =
    let i = instr_of x in
    let opcode : i.opcode < 64 = omega arith in
    let flags : i.flags < 16 = omega arith in
    let cond : i.cond < 16 = omega arith in
    let dest : i.dest < 512 = omega arith in
    let source : i.source < 512 = omega arith in
    let whole : long_of i ≡ x = omega arith in
    line_by s i p q x (row_of i.opcode (writes_result i) opcode) flags cond dest source whole

operand_good : (s : Setting) (p q : Place) (n : ℕ) (f : Fault) → n < 512 → ¬ FaultInOperand s (Some (node p (Number n))) q f
operand_good s p q n f fits (inl (inl e)) = absurd cc
operand_good s p q n f fits (inl (inr b)) = b
operand_good s p q n f fits (inr e) =
    let below : is_address n ≡ true = grind (arith, nat_tests) in
    let none : None ≡ Some f = sym (ap (λ b. where_so (not b || false) (fault OperandRange q)) below) ∙ e in
    absurd cc

pub printed_good : (s : Setting) (p q : Place) (x : ℕ) → x < 2 ^ 32 → (f : Fault) → ¬ FaultInInstruction s (printed_line (instr_of x) p q) f
printed_good s p q x fits f (inl (inl h)) = operand_good s p p (instr_of x).dest f (omega arith) h
printed_good s p q x fits f (inl (inr h)) = operand_good s q q (instr_of x).source f (omega arith) h
printed_good s p q x fits f (inr e) =
    let i = instr_of x in
    let row = row_of i.opcode (writes_result i) (omega arith) in
    let line = printed_line i p q in
    let call : bytes_eq line.word (codes "CALL") ≡ false = ap (λ w. bytes_eq (unwrap_or w []) (codes "CALL")) row.named ∙ row.no_call in
    let none : None ≡ Some f = sym (ap (λ b. if b then return_fault (return_meaning s line.source) p q else None) call) ∙ e in
    absurd cc

pub nop_long : (s : Setting) (x : Instruction) → x.word ≡ codes "NOP" → long_of_line s x ≡ 0
nop_long s x word = ap (λ w. if bytes_eq w (codes "NOP") then 0 else long_with x (entry_of mnemonics w) (dest_of s x) (field_of s x.source)) word
