-- The bytecodes of built-ins.
use Rattle.std.proofs.Common.{◌≡◌, refl, ap, ◌∙◌, subst, arith, ℕ, ◌+◌, ◌-◌, ◌*◌, ◌%◌, ◌^◌, ◌<◌, ◌==◌, ◌||◌, Bool, true, false, List, [], ◌∷◌, length, take, None}
use Rattle.std.proofs.Math.Seq.{take-length}
use Rattle.p8_access.specs.declared.kinds.Width.{Width}
use Rattle.p8_access.specs.declared.kinds.Width.TheVariants.{Byte, Long}
use Rattle.p8_access.specs.declared.kinds.Access.TheVariants as access_case
use Rattle.p8_access.specs.Proper.{bytes_in}
use Rattle.p8_access.specs.Courses.{Course, Finish}
use Rattle.p8_tree.specs.declared.places.Place.{Place}
use Rattle.p8_tree.specs.Proper as proper
use Rattle.p8_bytecode.specs.declared.op.Op.{Op}
use Rattle.p8_bytecode.specs.Table.{rows}
use Rattle.p8_bytecode.specs.Reading.{bare}
use Rattle.p8_bytecode.specs.Spelling.{IsOp}
use Rattle.p8_bcog.specs.declared.state.SpinState.{SpinState}
use Rattle.p8_bcog.specs.declared.variable_place.VariablePlace as place
use Rattle.p8_bcog.specs.declared.variable_place.VariablePlace.TheVariants as place_case
use Rattle.p8_bcog.specs.declared.step.Wanted.TheVariants as wanted_case
use Rattle.p8_bcog.specs.Accesses.{gets, ends}
use Rattle.p8_bcog.specs.Operands.{operand, taken, pushed, tested}
use Rattle.p8_bcog.specs.Places as places
use Rattle.p8_bcog.specs.Changes.{pushes}
use Rattle.p8_bcog.specs.Cogs.{tells, asks_word, waits_for_pins}
use Rattle.p8_bcog.specs.Moves.{fill, move_elements, text_size, text_compare}
use Rattle.p8_bcog.specs.Variables.{whole_register}
use Rattle.p8_bcog.specs.Bytecodes.{row, move_row, wait_row, cog_row, return_row}
use Rattle.p8_kinds.specs.Uses.{argument_count}
use Rattle.p8_gen.specs.Pieces.{Piece, one, byte, with_number, text, ◌⨾◌}
use Rattle.p8_gen.specs.Variables.{OfObject, Pushed, home_at, Operation, Push, Reference, memory_op}
use Rattle.p8_gen.specs.Expressions.{dropped, built, built_without, pasm}
use Rattle.p8_compiled.specs.Courses.{takes_none, takes_one, takes_two, takes_three, leaves_if}
use Rattle.p8_compiled.specs.Standing.{Compiled, At, gives_text, object_address, cog_id, reads_hub, word_if, measures_text, compares_texts, sets_lock, clears_lock, Kept, NoneAt, OneAt, TwoAt, ThreeAt, starts_pasm}
use Rattle.p8_compiled.proofs.Choices.{EachOf, each}
use Rattle.p8_compiled.proofs.Standing.{Stand, both, one-stand, text-stand}
use Rattle.p8_compiled.proofs.Bytecodes.{byte-stand, zero-stand, byte-number-stand, drop-stand}
use Rattle.p8_compiled.proofs.Memory.{Acts, done, with_jump, FitsEffect, memory-acts}
use Rattle.p8_compiled.proofs.Truths.{or-either}

-- nothing is taken
taken-none : (s : SpinState) → taken 0 s ≡ s
taken-none s = ap (λ xs. record s { stack = xs }) (ap (λ k. take k s.stack) (none-less (length s.stack)) ∙ take-length s.stack)
  where
    none-less : (k : ℕ) → k - 0 ≡ k
    none-less k = omega arith

whole-place : (width : Width) (a : ℕ) → ◌≡◌ {A = place.VariablePlace} (place_case.Memory width ((a + 0 + 0 * bytes_in width) % 2 ^ 16)) (place_case.Memory width (a % 2 ^ 16))
whole-place width a = ap (λ x. place_case.Memory width (x % 2 ^ 16)) (nothing-more a (bytes_in width))
  where
    nothing-more : (a b : ℕ) → a + 0 + 0 * b ≡ a
    nothing-more a b = omega arith

-- a built-in with arguments, which gives a value or stands alone
pub data IsWord (k : ℕ) : (used : Bool) → Type 0 where
  giving : {used : Bool} → proper.gives_value k ≡ true → IsWord k used
  silent_word : proper.gives_no_value k ≡ true → IsWord k false

module _ (t : Compiled) (base : ℕ) where
  abbrev pub S : Piece → ((p q : ℕ) → Type 0) → Type 0
  S a R = Stand t.memory base t.table t.hand a R

  -- ---- memory, without a name

  acts-stand : (op : Op) (o : Operation) (course : SpinState → Course SpinState) {named : ℕ} {at : SpinState → place.VariablePlace} → Acts t.memory t.cog op o named at → FitsEffect o (with_jump op 0 false) → ((s : SpinState) → done o named op (at s) s ≡ course s) → S (one op) (λ p q. At t p course q)
  acts-stand op o course {named} {at} a fits same =
      one-stand t.memory t.cog base t.table t.hand op course (subst IsOp a.plain (a.is_op 0 false fits))
      (λ s. subst (λ (x : Op). row t.memory t.cog x s ≡ done o named x (at s) s) a.plain (a.does 0 false s) ∙ same s)

  pub text-of-stand : (place : Place) (offset : ℕ) → offset < 2 ^ 15 → S (text place (offset % 2 ^ 15)) (λ p q. At t p (gives_text offset) q)
  text-of-stand place offset lt =
      let a = memory-acts t.memory t.cog false (home_at OfObject offset 1) Reference (record { size = refl; place = lt }) in
      text-stand t.memory t.cog base t.table t.hand place (offset % 2 ^ 15) (gives_text offset) (a.is_op 0 false (refl, refl, refl))
      (λ s. a.does 0 false s
      ∙ ap (λ x. tested 0 1 s (Finish (pushed (x % 2 ^ 16) (taken 0 s)))) (nothing-else (s.pbase + offset))
      ∙ ap (λ st. tested 0 1 s (Finish (pushed ((s.pbase + offset) % 2 ^ 16) st))) (taken-none s))
    where
      nothing-else : (a : ℕ) → a + 0 * 1 ≡ a
      nothing-else a = omega arith

  pub object-address-stand : S (byte 0x97) (λ p q. At t p (takes_one 1 object_address) q)
  object-address-stand =
      acts-stand (memory_op true (home_at OfObject 0 1) Reference) Reference (takes_one 1 object_address)
      (memory-acts t.memory t.cog true (home_at OfObject 0 1) Reference (record { size = refl; place = omega arith })) (refl, refl, refl)
      (λ s. ap (λ x. tested 1 1 s (Finish (pushed (x % 2 ^ 16) (taken 1 s)))) (only-base s.pbase (operand s 0)))
    where
      only-base : (a b : ℕ) → a + 0 + b * 1 ≡ a + b
      only-base a b = omega arith

  hub-long-stand : S (byte 0xC0) (λ p q. At t p (takes_one 1 (reads_hub Long)) q)
  unfolding pushes
  hub-long-stand =
      acts-stand (memory_op false (home_at Pushed 0 4) Push) Push (takes_one 1 (reads_hub Long))
      (memory-acts t.memory t.cog false (home_at Pushed 0 4) Push (record { size = refl; place = refl })) (refl, refl, refl)
      (λ s. ap (λ x. tested 1 1 s (places.reads_place wanted_case.Pushed x (taken 1 s))) (whole-place Long (operand s 0)))

  hub-byte-stand : S (byte 0x80) (λ p q. At t p (takes_one 1 (reads_hub Byte)) q)
  unfolding pushes
  hub-byte-stand =
      acts-stand (memory_op false (home_at Pushed 0 1) Push) Push (takes_one 1 (reads_hub Byte))
      (memory-acts t.memory t.cog false (home_at Pushed 0 1) Push (record { size = refl; place = refl })) (refl, refl, refl)
      (λ s. ap (λ x. tested 1 1 s (places.reads_place wanted_case.Pushed x (taken 1 s))) (whole-place Byte (operand s 0)))

  -- ---- values that may be dropped

  pub kept : (used : Bool) {a : Piece} {R : (p q : ℕ) → Type 0} → S a R → S (a ⨾ dropped used) (λ p q. Kept t used (λ e. R p e) q)
  kept true x = x
  kept false x = both x (drop-stand t.memory t.cog base t.table t.hand)

  -- a word without arguments
  cog-id-stand : S (with_number 0x3F 0x89) (λ p q. At t p (takes_none 1 cog_id) q)
  unfolding rows row return_row whole_register asks_word
  cog-id-stand =
      one-stand t.memory t.cog base t.table t.hand (record (bare 0x3F) { first = 0x89 }) (takes_none 1 cog_id) (record { operands = (refl, refl, (refl, refl, refl)) })
      (λ s. ap (λ st. tested 0 1 s (gets access_case.CogId st)) (taken-none s))

  new-lock-stand : (used : Bool) → S (built used 0x29) (λ p q. At t p (takes_none (leaves_if used) (word_if used access_case.LockNew)) q)
  unfolding rows row cog_row tells asks_word
  new-lock-stand true = byte-stand t.memory t.cog base t.table t.hand 0x29 _ refl (λ s. ap (λ st. tested 0 1 s (gets access_case.LockNew st)) (taken-none s))
  new-lock-stand false = byte-stand t.memory t.cog base t.table t.hand 0x2D _ refl (λ s. ap (λ st. tested 0 0 s (ends access_case.LockNew None st)) (taken-none s))

  abbrev Without : (used : Bool) → ℕ → Type 0
  Without used k = (0 == argument_count k) ≡ true → S (built_without used k) (NoneAt t used k)

  values-stand : (used : Bool) → EachOf (Without used) (0x3F ∷ 0x80 ∷ 0xC0 ∷ [])
  values-stand used = (
    λ fits. kept used cog-id-stand,
    (
      λ fits. kept used (both (byte-number-stand t.memory t.cog base t.table t.hand 4 (omega arith)) hub-byte-stand),
      (λ fits. kept used (both (zero-stand t.memory t.cog base t.table t.hand) hub-long-stand), tt),
    ),
  )

  locks-stand : (used : Bool) → EachOf (Without used) (0x16 ∷ 0x17 ∷ 0x28 ∷ 0x29 ∷ 0x2A ∷ 0x2B ∷ 0x2C ∷ [])
  locks-stand used = (λ fits. absurd (cc), (λ fits. absurd (cc), (λ fits. absurd (cc), (λ fits. new-lock-stand used, (λ fits. absurd (cc), (λ fits. absurd (cc), (λ fits. absurd (cc), tt)))))))

  -- ---- after arguments

  abbrev One : (used : Bool) → ℕ → Type 0
  One used k = (1 == argument_count k) ≡ true → S (built used k) (OneAt t used k)

  size-stand : S (byte 0x16) (λ p q. At t p (takes_one 1 measures_text) q)
  unfolding rows row move_row text_size
  size-stand = byte-stand t.memory t.cog base t.table t.hand 0x16 _ refl (λ s. refl)

  set-lock-stand : (used : Bool) → S (built used 0x2A) (λ p q. At t p (takes_one (leaves_if used) (sets_lock used)) q)
  unfolding rows row cog_row tells asks_word
  set-lock-stand true = byte-stand t.memory t.cog base t.table t.hand 0x2A _ refl (λ s. refl)
  set-lock-stand false = byte-stand t.memory t.cog base t.table t.hand 0x2E _ refl (λ s. refl)

  clear-lock-stand : (used : Bool) → S (built used 0x2B) (λ p q. At t p (takes_one (leaves_if used) (clears_lock used)) q)
  unfolding rows row cog_row tells asks_word
  clear-lock-stand true = byte-stand t.memory t.cog base t.table t.hand 0x2B _ refl (λ s. refl)
  clear-lock-stand false = byte-stand t.memory t.cog base t.table t.hand 0x2F _ refl (λ s. refl)

  text-size-stand : (used : Bool) → S (built used 0x16) (λ p q. Kept t used (λ e. At t p (takes_one 1 measures_text) e) q)
  text-size-stand true = size-stand
  text-size-stand false = both size-stand (drop-stand t.memory t.cog base t.table t.hand)

  one-stands : (used : Bool) → EachOf (One used) (0x16 ∷ 0x17 ∷ 0x28 ∷ 0x29 ∷ 0x2A ∷ 0x2B ∷ 0x2C ∷ [])
  one-stands used = (λ fits. text-size-stand used, (λ fits. absurd (cc), (λ fits. absurd (cc), (λ fits. absurd (cc), (λ fits. set-lock-stand used, (λ fits. clear-lock-stand used, (λ fits. absurd (cc), tt)))))))

  abbrev silent : List ℕ
  silent = 0x18 ∷ 0x19 ∷ 0x1A ∷ 0x1B ∷ 0x1C ∷ 0x1D ∷ 0x1E ∷ 0x1F ∷ 0x21 ∷ 0x22 ∷ 0x23 ∷ []

  one-alone : EachOf (One false) silent
  unfolding rows row cog_row tells
  one-alone = (
    λ fits. absurd (cc),
    (
      λ fits. absurd (cc),
      (
        λ fits. absurd (cc),
        (
          λ fits. absurd (cc),
          (
            λ fits. absurd (cc),
            (
              λ fits. absurd (cc),
              (
                λ fits. absurd (cc),
                (
                  λ fits. absurd (cc),
                  (
                    λ fits. byte-stand t.memory t.cog base t.table t.hand 0x21 _ refl (λ s. refl),
                    (
                      λ fits. byte-stand t.memory t.cog base t.table t.hand 0x22 _ refl (λ s. refl),
                      (λ fits. byte-stand t.memory t.cog base t.table t.hand 0x23 _ refl (λ s. refl), tt),
                    ),
                  ),
                ),
              ),
            ),
          ),
        ),
      ),
    ),
  )

  abbrev Two : (used : Bool) → ℕ → Type 0
  Two used k = (2 == argument_count k) ≡ true → (k == 0x2C) ≡ false → S (built used k) (TwoAt t used k)

  compare-stand : S (byte 0x17) (λ p q. At t p (takes_two 1 compares_texts) q)
  unfolding rows row move_row text_compare
  compare-stand = byte-stand t.memory t.cog base t.table t.hand 0x17 _ refl (λ s. refl)

  text-compare-stand : (used : Bool) → S (built used 0x17) (λ p q. Kept t used (λ e. At t p (takes_two 1 compares_texts) e) q)
  text-compare-stand true = compare-stand
  text-compare-stand false = both compare-stand (drop-stand t.memory t.cog base t.table t.hand)

  two-stands : (used : Bool) → EachOf (Two used) (0x16 ∷ 0x17 ∷ 0x28 ∷ 0x29 ∷ 0x2A ∷ 0x2B ∷ 0x2C ∷ [])
  two-stands used = (λ fits other. absurd (cc), (λ fits other. text-compare-stand used, (λ fits other. absurd (cc), (λ fits other. absurd (cc), (λ fits other. absurd (cc), (λ fits other. absurd (cc), (λ fits other. absurd (cc), tt)))))))

  two-alone : EachOf (Two false) silent
  two-alone = (λ fits other. absurd (cc), (λ fits other. absurd (cc), (λ fits other. absurd (cc), (λ fits other. absurd (cc), (λ fits other. absurd (cc), (λ fits other. absurd (cc), (λ fits other. absurd (cc), (λ fits other. absurd (cc), (λ fits other. absurd (cc), (λ fits other. absurd (cc), (λ fits other. absurd (cc), tt)))))))))))

  abbrev Three : (used : Bool) → ℕ → Type 0
  Three used k = (3 == argument_count k) ≡ true → (k == 0x28) ≡ false → S (built used k) (ThreeAt t used k)

  three-stands : (used : Bool) → EachOf (Three used) (0x16 ∷ 0x17 ∷ 0x28 ∷ 0x29 ∷ 0x2A ∷ 0x2B ∷ 0x2C ∷ [])
  three-stands used = (λ fits other. absurd (cc), (λ fits other. absurd (cc), (λ fits other. absurd (cc), (λ fits other. absurd (cc), (λ fits other. absurd (cc), (λ fits other. absurd (cc), (λ fits other. absurd (cc), tt)))))))

  three-alone : EachOf (Three false) silent
  unfolding rows row move_row wait_row fill move_elements waits_for_pins
  three-alone = (
    λ fits other. byte-stand t.memory t.cog base t.table t.hand 0x18 _ refl (λ s. refl),
    (
      λ fits other. byte-stand t.memory t.cog base t.table t.hand 0x19 _ refl (λ s. refl),
      (
        λ fits other. byte-stand t.memory t.cog base t.table t.hand 0x1A _ refl (λ s. refl),
        (
          λ fits other. byte-stand t.memory t.cog base t.table t.hand 0x1B _ refl (λ s. refl),
          (
            λ fits other. byte-stand t.memory t.cog base t.table t.hand 0x1C _ refl (λ s. refl),
            (
              λ fits other. byte-stand t.memory t.cog base t.table t.hand 0x1D _ refl (λ s. refl),
              (
                λ fits other. byte-stand t.memory t.cog base t.table t.hand 0x1E _ refl (λ s. refl),
                (
                  λ fits other. byte-stand t.memory t.cog base t.table t.hand 0x1F _ refl (λ s. refl),
                  (λ fits other. absurd (cc), (λ fits other. absurd (cc), (λ fits other. absurd (cc), tt))),
                ),
              ),
            ),
          ),
        ),
      ),
    ),
  )

  -- ---- built-ins that there are, of which a value is used or not

  pub one-built : (used : Bool) (k : ℕ) → IsWord k used → (1 == argument_count k) ≡ true → S (built used k) (OneAt t used k)
  one-built used k (giving is) fits = each (One used) (0x16 ∷ 0x17 ∷ 0x28 ∷ 0x29 ∷ 0x2A ∷ 0x2B ∷ 0x2C ∷ []) (one-stands used) k is fits
  one-built used k (silent_word is) fits = each (One false) silent one-alone k is fits

  pub two-built : (used : Bool) (k : ℕ) → IsWord k used → (2 == argument_count k) ≡ true → (k == 0x2C) ≡ false → S (built used k) (TwoAt t used k)
  two-built used k (giving is) fits other = each (Two used) (0x16 ∷ 0x17 ∷ 0x28 ∷ 0x29 ∷ 0x2A ∷ 0x2B ∷ 0x2C ∷ []) (two-stands used) k is fits other
  two-built used k (silent_word is) fits other = each (Two false) silent two-alone k is fits other

  pub three-built : (used : Bool) (k : ℕ) → IsWord k used → (3 == argument_count k) ≡ true → (k == 0x28) ≡ false → S (built used k) (ThreeAt t used k)
  three-built used k (giving is) fits other = each (Three used) (0x16 ∷ 0x17 ∷ 0x28 ∷ 0x29 ∷ 0x2A ∷ 0x2B ∷ 0x2C ∷ []) (three-stands used) k is fits other
  three-built used k (silent_word is) fits other = each (Three false) silent three-alone k is fits other

  pub none-built : (used : Bool) (k : ℕ) → (proper.is_value k || proper.gives_value k) ≡ true → (0 == argument_count k) ≡ true → S (built_without used k) (NoneAt t used k)
  none-built used k is fits =
      or-either (proper.is_value k) (proper.gives_value k) is
      (λ value. each (Without used) (0x3F ∷ 0x80 ∷ 0xC0 ∷ []) (values-stand used) k value fits)
      (λ giving. each (Without used) (0x16 ∷ 0x17 ∷ 0x28 ∷ 0x29 ∷ 0x2A ∷ 0x2B ∷ 0x2C ∷ []) (locks-stand used) k giving fits)

  -- ---- PASM

  pub pasm-stand : (used : Bool) → S (pasm used) (λ p q. At t p (takes_three (leaves_if used) (starts_pasm used)) q)
  unfolding rows row cog_row tells asks_word
  pasm-stand true = byte-stand t.memory t.cog base t.table t.hand 0x28 _ refl (λ s. refl)
  pasm-stand false = byte-stand t.memory t.cog base t.table t.hand 0x2C _ refl (λ s. refl)
