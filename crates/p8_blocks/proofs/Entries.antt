-- A line of a method is entered in one way.
use Rattle.std.proofs.Common.{◌≡◌, ℕ, List, Option, Some, None, Bool, true, false, refl, sym, ap, ◌∙◌, subst}
use Rattle.std.specs.Prelude.{IsTrue, if◌then◌else◌}
use Rattle.p8_lexer.specs.declared.word.Word.{Word}
use Rattle.p8_lexer.specs.declared.word.Word.TheVariants as word_case
use Rattle.p8_tree.specs.declared.refusal.Refusal.TheVariants.{BadIndent}
use Rattle.p8_tree.specs.Refusals.{refusal_number}
use Rattle.p8_grammar.specs.Lexemes.{in_method}
use Rattle.p8_columns.specs.declared.room.Room.{Room}
use Rattle.p8_columns.specs.declared.room.Room.TheVariants as room
use Rattle.p8_columns.specs.declared.room.Chain.{Chain}
use Rattle.p8_columns.specs.declared.room.Chain.TheVariants as chain
use Rattle.p8_columns.specs.Lines.{Kind, If, ElseIf, Line, is_arm, is_else, is_plain_repeat}
use Rattle.p8_columns.specs.Columns.{OpenBlock, innermost, last_up_to, IsAt, HasRoom, HasChain}
use Rattle.p8_lines.specs.declared.state.LineState.{LineState}
use Rattle.p8_lines.specs.declared.state.LineState.TheVariants as state
use Rattle.p8_lines.specs.Tokens.{LineToken, word}
use Rattle.p8_lines.specs.Lines.{number_of}
use Rattle.p8_blocks.specs.Reading.{Entry, from, barred, Enters, goes_on, chain_over, no_chain, loop_end, no_loop, statement, item, after_other, goes_on_chain, ends_loop}
use Rattle.p8_blocks.specs.Files.{is_chain_word, is_loop_end_word}

-- what stands at a column

arm_or_else : (k : Kind) → IsTrue (is_arm k) → IsTrue (is_else k) → ⊥
arm_or_else (If n t) h g = absurd cc
arm_or_else (ElseIf n t) h g = absurd cc
arm_or_else k h g = absurd cc

both_at : (c : ℕ) (o : Option Line) → IsAt is_arm c o → IsAt is_else c o → ⊥
both_at c None h g = h
both_at c (Some l) h g = arm_or_else l.kind h.1 g.1

one_chain : (r s : Chain) (c : ℕ) (o : Option Line) → HasChain r c o → HasChain s c o → r ≡ s
one_chain chain.Begun chain.Begun c o h g = refl
one_chain chain.Begun chain.Ended c o h g = absurd (both_at c o h g)
one_chain chain.Begun chain.Missing c o h g = absurd (g.0 h)
one_chain chain.Ended chain.Begun c o h g = absurd (both_at c o g h)
one_chain chain.Ended chain.Ended c o h g = refl
one_chain chain.Ended chain.Missing c o h g = absurd (g.1 h)
one_chain chain.Missing chain.Begun c o h g = absurd (h.0 g)
one_chain chain.Missing chain.Ended c o h g = absurd (h.1 g)
one_chain chain.Missing chain.Missing c o h g = refl

one_room : (r s : Room) (o : Option OpenBlock) → HasRoom r o → HasRoom s o → r ≡ s
one_room room.Statement room.Statement o h g = refl
one_room room.Item room.Item o h g = refl
one_room room.Nothing room.Nothing o h g = refl
one_room room.Statement room.Item None h g = absurd g
one_room room.Statement room.Nothing None h g = absurd g
one_room room.Item room.Statement None h g = absurd h
one_room room.Item room.Nothing None h g = absurd h
one_room room.Nothing room.Statement None h g = absurd h
one_room room.Nothing room.Item None h g = absurd h
one_room room.Statement room.Item (Some b) h g = absurd (h g.0)
one_room room.Statement room.Nothing (Some b) h g = absurd (h g.0)
one_room room.Item room.Statement (Some b) h g = absurd (g h.0)
one_room room.Item room.Nothing (Some b) h g = absurd (h.1 g.1)
one_room room.Nothing room.Statement (Some b) h g = absurd (g h.0)
one_room room.Nothing room.Item (Some b) h g = absurd (g.1 h.1)

-- entries by what was found

abbrev chain_entry : Chain → Word → Entry
chain_entry chain.Begun w = from state.ChainLine
chain_entry chain.Ended w = barred (number_of in_method w)
chain_entry chain.Missing w = barred (refusal_number BadIndent)

abbrev loop_entry : Bool → Entry
loop_entry true = from state.LoopEndLine
loop_entry false = barred (refusal_number BadIndent)

abbrev room_entry : Room → Word → Entry
room_entry room.Statement w = from state.Statement
room_entry room.Item w = from state.CaseItem
room_entry room.Nothing w = barred (number_of in_method w)

abbrev IsLoop : Bool → ℕ → Option Line → Type 0
IsLoop true c o = IsAt is_plain_repeat c o
IsLoop false c o = ¬ IsAt is_plain_repeat c o

one_loop : (a b : Bool) (c : ℕ) (o : Option Line) → IsLoop a c o → IsLoop b c o → a ≡ b
one_loop true true c o h g = refl
one_loop true false c o h g = absurd (g h)
one_loop false true c o h g = absurd (h g)
one_loop false false c o h g = refl

-- the same by whether the first word is of an ELSE kind, or ends a loop
abbrev Entered : Bool → Bool → List Line → LineToken → Entry → Type 0
Entered true b ls t e = (r : Chain) × HasChain r t.place.column (last_up_to t.place.column ls) × (e ≡ chain_entry r (word t))
Entered false true ls t e = (b : Bool) × IsLoop b t.place.column (last_up_to t.place.column ls) × (e ≡ loop_entry b)
Entered false false ls t e = (r : Room) × HasRoom r (innermost t.place.column ls) × (e ≡ room_entry r (word t))

abbrev other_word : Word → Bool
other_word w = if is_loop_end_word w then is_chain_word w else false

no_chain_word : (w : Word) → other_word w ≡ false
no_chain_word word_case.While = refl
no_chain_word w = refl

loop_is_no_chain : (b : Bool) (w : Word) → IsTrue (ends_loop b w) → goes_on_chain b w ≡ false
loop_is_no_chain true w h = refl
loop_is_no_chain false w h = ap (λ b. if b then is_chain_word w else false) (sym h) ∙ no_chain_word w

module _ (ls : List Line) (b : Bool) (t : LineToken) where
  in_chain : {e : Entry} → IsTrue (goes_on_chain b (word t)) → Entered true (ends_loop b (word t)) ls t e → Entered (goes_on_chain b (word t)) (ends_loop b (word t)) ls t e
  in_chain {e} h x = subst (λ x. Entered x (ends_loop b (word t)) ls t e) (sym h) x

  at_loop : {e : Entry} → IsTrue (ends_loop b (word t)) → Entered false true ls t e → Entered (goes_on_chain b (word t)) (ends_loop b (word t)) ls t e
  at_loop {e} h x = subst (λ x. Entered x (ends_loop b (word t)) ls t e) (sym (loop_is_no_chain b (word t) h)) (subst (λ x. Entered false x ls t e) (sym h) x)

  in_room : {e : Entry} → goes_on_chain b (word t) ≡ false → ends_loop b (word t) ≡ false → Entered false false ls t e → Entered (goes_on_chain b (word t)) (ends_loop b (word t)) ls t e
  in_room {e} h g x = subst (λ x. Entered x (ends_loop b (word t)) ls t e) (sym h) (subst (λ x. Entered false x ls t e) (sym g) x)

  entered : {e : Entry} → Enters ls b t e → Entered (goes_on_chain b (word t)) (ends_loop b (word t)) ls t e
  entered (goes_on h c) = in_chain h (chain.Begun, c, refl)
  entered (chain_over h c) = in_chain h (chain.Ended, c, refl)
  entered (no_chain h c) = in_chain h (chain.Missing, c, refl)
  entered (loop_end h c) = at_loop h (true, c, refl)
  entered (no_loop h c) = at_loop h (false, c, refl)
  entered (statement h g c) = in_room h g (room.Statement, c, refl)
  entered (item h g c) = in_room h g (room.Item, c, refl)
  entered (after_other h g c) = in_room h g (room.Nothing, c, refl)

  same : {e f : Entry} (a c : Bool) → Entered a c ls t e → Entered a c ls t f → e ≡ f
  same true c x y = x.2 ∙ ap (λ r. chain_entry r (word t)) (one_chain x.0 y.0 t.place.column (last_up_to t.place.column ls) x.1 y.1) ∙ sym y.2
  same false true x y = x.2 ∙ ap loop_entry (one_loop x.0 y.0 t.place.column (last_up_to t.place.column ls) x.1 y.1) ∙ sym y.2
  same false false x y = x.2 ∙ ap (λ r. room_entry r (word t)) (one_room x.0 y.0 (innermost t.place.column ls) x.1 y.1) ∙ sym y.2

  pub one_entry : {e f : Entry} → Enters ls b t e → Enters ls b t f → e ≡ f
  one_entry x y = same (goes_on_chain b (word t)) (ends_loop b (word t)) (entered x) (entered y)

  pub one_state : {q r : LineState} → Enters ls b t (from q) → Enters ls b t (from r) → q ≡ r
  one_state x y = let z = one_entry x y in cc

  pub not_barred : {q : LineState} {n : ℕ} → Enters ls b t (from q) → Enters ls b t (barred n) → ⊥
  not_barred x y = let z = one_entry x y in cc

  pub one_number : {n m : ℕ} → Enters ls b t (barred n) → Enters ls b t (barred m) → n ≡ m
  one_number x y = let z = one_entry x y in cc
