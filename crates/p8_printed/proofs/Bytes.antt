-- The DAT of the file with a long's line: its bytes are the long, and nothing is wrong with it.
use Rattle.std.proofs.Common.{◌≡◌, ℕ, ◌^◌, ◌<◌, inl, inr, Bool, true, false, [], ◌++◌, None, refl, sym, ap, ◌∙◌, subst, append-nil, arith}
use Rattle.std.specs.Prelude.{◌==◌, if◌then◌else◌}
use Rattle.std.specs.Int.{to_le_bytes, w32}
use Rattle.std.proofs.lemmas.Bool.Decides.{nat_tests}
use Rattle.p8_tree.specs.declared.places.Place.{Place}
use Rattle.p8_tree.specs.Sources.{Instruction, Instr, Line}
use Rattle.p8_tree.specs.declared.faults.Fault.{Fault}
use Rattle.p8_fold.specs.Meanings.{Setting}
use Rattle.p8_instr.specs.Instruction.{instr_of}
use Rattle.p8_dat.specs.Encoding.{long_of_line, FaultInInstruction}
use Rattle.p8_dat.specs.Printed.{printed_line}
use Rattle.p8_dat.proofs.Printing.{printed_long, printed_good, nop_long}
use Rattle.p8_dat.specs.declared.spots.Spot.{Spot}
use Rattle.p8_dat.specs.Spots.{begun}
use Rattle.p8_dat.specs.Names.{names_in}
use Rattle.p8_dat.specs.Bytes.{element, in_instruction}
use Rattle.p8_dat.specs.Blocks.{first_spot, counts_setting, placed_lines, values_setting, dat_bytes, IsDatFault}
use Rattle.p8_printed.specs.ReadBack.{nop_line, read_line, IsLineOf, file_with, start}

-- ---- the instruction

-- it puts this long, and nothing is wrong with it
record Puts (long : ℕ) (x : Instruction) : Type 0 where
  puts : (s : Setting) → long_of_line s x ≡ long
  clean : (s : Setting) (f : Fault) → ¬ FaultInInstruction s x f

nop_clean : (s : Setting) (p : Place) (f : Fault) → ¬ FaultInInstruction s (nop_line p) f
nop_clean s p f (inl (inl b)) = b
nop_clean s p f (inl (inr b)) = b
nop_clean s p f (inr e) = absurd cc

zero_is : (n : ℕ) → (n == 0) ≡ true → 0 ≡ n
zero_is n h = grind (arith, nat_tests)

puts_long : (long : ℕ) (p q : Place) → long < 2 ^ 32 → Puts long (read_line long p q)
puts_long long p q small = go (long == 0) refl
  where
    go : (b : Bool) → (long == 0) ≡ b → Puts long (if b then nop_line p else printed_line (instr_of long) p q)
    go true e = record { puts = λ s. nop_long s (nop_line p) refl ∙ zero_is long e; clean = λ s f. nop_clean s p f }
    go false e = record { puts = λ s. printed_long s p q long small; clean = λ s f. printed_good s p q long small f }

-- ---- the file

abbrev at : Place → Place → Instruction → Line
at p w x = record { place = p; label = None; word_place = w; contents = Instr x }

abbrev spot : Setting → Instruction → Spot
spot s x = begun s (Instr x) (first_spot start)

module _ (base : Setting) (p w : Place) (x : Instruction) where
  setting : Setting
  setting = in_instruction (names_in (values_setting base start (file_with (at p w x))) (placed_lines base start (file_with (at p w x)))) (spot (counts_setting base (file_with (at p w x))) x)

  four_bytes : (v : ℕ) → element 4 v (spot (counts_setting base (file_with (at p w x))) x) ≡ to_le_bytes w32 v
  four_bytes v = refl

  put_there : (long : ℕ) → Puts long x → dat_bytes base start (file_with (at p w x)) ≡ to_le_bytes w32 long
  unfolding setting
  put_there long h =
      let bytes = element 4 (long_of_line setting x) (spot (counts_setting base (file_with (at p w x))) x) in
      append-nil (bytes ++ []) ∙ append-nil bytes ∙ four_bytes (long_of_line setting x) ∙ ap (to_le_bytes w32) (h.puts setting)

  no_fault : (long : ℕ) → Puts long x → (f : Fault) → ¬ IsDatFault base start (file_with (at p w x)) f
  unfolding setting
  no_fault long h f (inl (inl y)) = h.clean setting f y
  no_fault long h f (inl (inr b)) = b
  no_fault long h f (inr b) = b

module _ (base : Setting) (long : ℕ) (line : Line) (is : IsLineOf long line) (small : long < 2 ^ 32) where
  its_line : at line.place line.word_place (read_line long is.destination is.source) ≡ line
  its_line = λ i. record { place = line.place; label = sym is.label i; word_place = line.word_place; contents = sym is.contents i }

  pub bytes_are : dat_bytes base start (file_with line) ≡ to_le_bytes w32 long
  bytes_are =
      subst (λ l. dat_bytes base start (file_with l) ≡ to_le_bytes w32 long) its_line
      (put_there base line.place line.word_place (read_line long is.destination is.source) long (puts_long long is.destination is.source small))

  pub clean : (f : Fault) → ¬ IsDatFault base start (file_with line) f
  clean f =
      subst (λ l. ¬ IsDatFault base start (file_with l) f) its_line
      (no_fault base line.place line.word_place (read_line long is.destination is.source) long (puts_long long is.destination is.source small) f)
