-- Instructions, read back.
use Rattle.std.proofs.Common.{◌≡◌, ℕ, List, [], ◌∷◌, ◌++◌, Option, Some, None, option_map, Bool, true, false, refl, ap, ap₂, ◌∙◌, subst, append_assoc, rules}
use Rattle.std.specs.Prelude.{IsTrue, not, if◌then◌else◌, unwrap_or}
use denote.Enum.Bare.{sameb, same_true}
use Rattle.p8_tree.specs.declared.places.Place.{Place}
use Rattle.p8_tree.specs.Expressions.{Tree}
use Rattle.p8_tree.specs.Forgetting.{anywhere, IsSameTree, instruction_anywhere}
use Rattle.p8_tree.specs.Sources.{Instruction, Instr, Line}
use Rattle.p8_lexer.specs.declared.word.Word.{Word}
use Rattle.p8_lexer.specs.declared.word.Word.TheVariants as word
use Rattle.p8_lexer.specs.Words.{spelling}
use Rattle.p8_lines.specs.contracts.state.LineState.{the_type}
use Rattle.p8_lines.specs.declared.arrow.Arrow.{Arrow}
use Rattle.p8_lines.specs.declared.state.LineState.{LineState}
use Rattle.p8_lines.specs.declared.state.LineState.TheVariants as state
use Rattle.p8_lines.specs.Signs.{takes_two, is_on_memory, takes_one}
use Rattle.p8_lines.specs.Diagram.{choices}
use Rattle.p8_lines.specs.Tokens as tokens
use Rattle.p8_lines.specs.Tokens.{LineToken, piece}
use Rattle.p8_lines.proofs.Matching.{target}
use Rattle.p8_declarations.specs.DataParts.{Part, other, jump, part_of_word, part_of_piece}
use Rattle.p8_declarations.specs.Lines.{label, bare, operands, filled, instruction, body, blank, maybe_line}
use Rattle.p8_print.specs.Spelled.{reserved, is_free}
use Rattle.p8_printed.proofs.SpelledWords.{reserved_is, spelled_back}
use Rattle.p8_print.specs.Wording.{wrapped}
use Rattle.p8_print.specs.DataWords.{instruction_word, is_call, source_with, words_of_operands, words_of_effects}
use Rattle.p8_printed.proofs.Made.{made, IsInstruction, two, on_memory, one, call, return, nothing}
use Rattle.p8_printed.proofs.Made as made_of
use Rattle.p8_blocks.proofs.DataWords.{plain_part, two_part, memory_part, one_part}
use Rattle.p8_printed.proofs.Going.{AreEnded, Going, by_arrow, on_word, at_end}
use Rattle.p8_printed.proofs.Operands.{plain_source, two_read, memory_read, one_read, none_read, call_read}

-- The words of instructions are reserved, and none but CALL is CALL.

abbrev pub suits : (Word → Bool) → Word → Bool
suits class w = if class w then (if is_free w then false else not (is_call (spelling w))) else true

pub two_suits : (w : Word) → IsTrue (suits takes_two w)
two_suits word.Add = refl
two_suits w = refl

pub memory_suits : (w : Word) → IsTrue (suits is_on_memory w)
memory_suits word.Rdbyte = refl
memory_suits w = refl

pub one_suits : (w : Word) → IsTrue (suits takes_one w)
one_suits word.Clkset = refl
one_suits w = refl

pub suiting : (class : Word → Bool) (w : Word) → IsTrue (suits class w) → IsTrue (class w) → (is_free w ≡ false) × (is_call (spelling w) ≡ false)
suiting class w h is = go (is_free w) (is_call (spelling w)) (subst (λ b. IsTrue (if b then (if is_free w then false else not (is_call (spelling w))) else true)) is h)
  where
    go : (b c : Bool) → IsTrue (if b then false else not c) → (b ≡ false) × (c ≡ false)
    go true c h = absurd cc
    go false true h = absurd cc
    go false false h = (refl, refl)

pub own_word : (w : Word) → is_free w ≡ false → instruction_word (spelling w) ≡ w
own_word w free = ap (λ o. unwrap_or o word.Nop) (spelled_back w (reserved_is w free))

-- where the words of instructions lead

abbrev leads : Option LineState → LineState → Bool
leads None r = false
leads (Some q) r = sameb the_type q r

leads_there : (o : Option LineState) (r : LineState) → IsTrue (leads o r) → o ≡ Some r
leads_there None r h = absurd cc
leads_there (Some q) r h = ap (λ q. Some q) (same_true the_type (search rules) q r h)

abbrev Lead : (Word → Bool) → List Arrow → LineState → Type 0
Lead class l r = (n : ℕ) (w : Word) → IsTrue (if class w then leads (target l w n) r else true)

lead : (class : Word → Bool) (l : List Arrow) (r : LineState) → Lead class l r → (w : Word) (n : ℕ) → IsTrue (class w) → target l w n ≡ Some r
lead class l r h w n is = leads_there (target l w n) r (subst (λ b. IsTrue (if b then leads (target l w n) r else true)) is (h n w))

-- these arrows have those of instructions
pub record Starts (l : List Arrow) : Type 0 where
  pub two : (w : Word) (n : ℕ) → IsTrue (takes_two w) → target l w n ≡ Some state.Destination
  pub memory : (w : Word) (n : ℕ) → IsTrue (is_on_memory w) → target l w n ≡ Some state.MemoryDestination
  pub one : (w : Word) (n : ℕ) → IsTrue (takes_one w) → target l w n ≡ Some state.OnlyDestination
  pub jump : (n : ℕ) → target l word.Jmp n ≡ Some state.Source
  pub call : (n : ℕ) → target l word.Call n ≡ Some state.CallHash
  pub ret : (n : ℕ) → target l word.Ret n ≡ Some state.Effects
  pub nop : (n : ℕ) → target l word.Nop n ≡ Some state.LineEnd

two_line : Lead takes_two (choices state.DatLine).arrows state.Destination
two_line n word.Add = refl
two_line n w = refl

memory_line : Lead is_on_memory (choices state.DatLine).arrows state.MemoryDestination
memory_line n word.Rdbyte = refl
memory_line n w = refl

one_line : Lead takes_one (choices state.DatLine).arrows state.OnlyDestination
one_line n word.Clkset = refl
one_line n w = refl

pub line_starts : Starts (choices state.DatLine).arrows
line_starts = record { two = lead takes_two (choices state.DatLine).arrows state.Destination two_line; memory = lead is_on_memory (choices state.DatLine).arrows state.MemoryDestination memory_line; one = lead takes_one (choices state.DatLine).arrows state.OnlyDestination one_line; jump = λ n. refl; call = λ n. refl; ret = λ n. refl; nop = λ n. refl }

two_body : Lead takes_two (choices state.DatBody).arrows state.Destination
two_body n word.Add = refl
two_body n w = refl

memory_body : Lead is_on_memory (choices state.DatBody).arrows state.MemoryDestination
memory_body n word.Rdbyte = refl
memory_body n w = refl

one_body : Lead takes_one (choices state.DatBody).arrows state.OnlyDestination
one_body n word.Clkset = refl
one_body n w = refl

pub body_starts : Starts (choices state.DatBody).arrows
body_starts = record { two = lead takes_two (choices state.DatBody).arrows state.Destination two_body; memory = lead is_on_memory (choices state.DatBody).arrows state.MemoryDestination memory_body; one = lead takes_one (choices state.DatBody).arrows state.OnlyDestination one_body; jump = λ n. refl; call = λ n. refl; ret = λ n. refl; nop = λ n. refl }

two_conditioned : Lead takes_two (choices state.Conditioned).arrows state.Destination
two_conditioned n word.Add = refl
two_conditioned n w = refl

memory_conditioned : Lead is_on_memory (choices state.Conditioned).arrows state.MemoryDestination
memory_conditioned n word.Rdbyte = refl
memory_conditioned n w = refl

one_conditioned : Lead takes_one (choices state.Conditioned).arrows state.OnlyDestination
one_conditioned n word.Clkset = refl
one_conditioned n w = refl

pub conditioned_starts : Starts (choices state.Conditioned).arrows
conditioned_starts = record { two = lead takes_two (choices state.Conditioned).arrows state.Destination two_conditioned; memory = lead is_on_memory (choices state.Conditioned).arrows state.MemoryDestination memory_conditioned; one = lead takes_one (choices state.Conditioned).arrows state.OnlyDestination one_conditioned; jump = λ n. refl; call = λ n. refl; ret = λ n. refl; nop = λ n. refl }

-- an instruction from its word on
pub record HasInstruction (i : Instruction) (ps : List Part) : Type 0 where
  pub place : Place
  pub other : Instruction
  pub given : (x : Line) → instruction i.cond x ps ≡ Some (filled x place (Instr other))
  pub same : instruction_anywhere other ≡ instruction_anywhere i
  pub as_body : (x : Line) → body x ps ≡ instruction 15 x ps
  pub as_line : (p : Place) → maybe_line p ps ≡ option_map (λ x. Some x) (body (blank p None) ps)

-- after a word but JMP
from_word : (i j : Instruction) (w : Word) (p : Place) (ps : List Part) → operands (made i.cond w None p false None p 0) ps ≡ Some j → instruction_anywhere j ≡ instruction_anywhere i → HasInstruction i (other w p ∷ ps)
unfolding bare
from_word i j w p ps e same = record {
  place = p;
  other = j;
  given = λ x. ap (option_map (λ j. filled x p (Instr j))) e;
  same = same;
  as_body = λ x. refl;
  as_line = λ p. refl;
}

jump_part : (t : LineToken) → tokens.word t ≡ word.Jmp → part_of_piece (piece t) ≡ jump t.place
unfolding part_of_word
jump_part t m = plain_part t word.Jmp refl m

call_part : (t : LineToken) → tokens.word t ≡ word.Call → part_of_piece (piece t) ≡ other word.Call t.place
unfolding part_of_word
call_part t m = plain_part t word.Call refl m

ret_part : (t : LineToken) → tokens.word t ≡ word.Ret → part_of_piece (piece t) ≡ other word.Ret t.place
unfolding part_of_word
ret_part t m = plain_part t word.Ret refl m

nop_part : (t : LineToken) → tokens.word t ≡ word.Nop → part_of_piece (piece t) ≡ other word.Nop t.place
unfolding part_of_word
nop_part t m = plain_part t word.Nop refl m

same_operands : (c : ℕ) (w : Word) (d d' e e' : Tree) (p p' q q' : Place) (b : Bool) (f : ℕ) → IsSameTree d' d → IsSameTree e' e → instruction_anywhere (made c w (Some d') p' b (Some e') q' f) ≡ instruction_anywhere (made c w (Some d) p b (Some e) q f)
same_operands c w d d' e e' p p' q q' b f x y = ap₂ (λ d e. made c w (Some d) anywhere b (Some e) anywhere f) x y

both_words : (w : Word) (d : Tree) (b : Bool) (e : Tree) (f : ℕ) (ts : List LineToken) → is_call (spelling w) ≡ false → AreEnded ((wrapped d ++ reserved word.Comma ∷ source_with (is_call (spelling w)) b e) ++ words_of_effects f) ts → AreEnded (wrapped d ++ reserved word.Comma ∷ (source_with false b e ++ words_of_effects f)) ts
both_words w d b e f ts calls are =
    subst (λ ws. AreEnded ws ts)
    (append_assoc (wrapped d) (reserved word.Comma ∷ source_with (is_call (spelling w)) b e) (words_of_effects f) ∙ ap (λ c. wrapped d ++ reserved word.Comma ∷ (source_with c b e ++ words_of_effects f)) calls)
    are

module _ (l : List Arrow) (starts : Starts l) where
  pub word_read : (i : Instruction) (ts : List LineToken) → IsInstruction i → AreEnded (reserved (instruction_word i.word) ∷ (words_of_operands i ++ words_of_effects i.effects)) ts → Going l ts (HasInstruction i)
  unfolding bare
  word_read i [] h are = absurd are
  word_read i (t ∷ ts) (two w {c = c} {f = f} {d = d} {e = e} {p = p} {q = q} {b = b} h k wd we ef) are =
      let suit = suiting takes_two w (two_suits w) h in
      let m = are.0.word ∙ own_word w suit.0 in
      on_word l t w state.Destination (other w t.place) (HasInstruction (made c w (Some d) p b (Some e) q f)) m (λ n. starts.two w n h) (two_part t w m h) refl
      (two_read d b e f ts wd we ef (both_words w d b e f ts suit.1 are.1))
      (λ ps k. from_word (made c w (Some d) p b (Some e) q f) (made c w (Some k.first) k.first_place b (Some k.second) k.second_place f) w t.place ps (k.given c w t.place t.place) (same_operands c w d k.first e k.second p k.first_place q k.second_place b f k.first_same k.second_same))
  word_read i (t ∷ ts) (on_memory w {c = c} {f = f} {d = d} {e = e} {p = p} {q = q} {b = b} h k wd we ef) are =
      let suit = suiting is_on_memory w (memory_suits w) h in
      let m = are.0.word ∙ own_word w suit.0 in
      on_word l t w state.MemoryDestination (other w t.place) (HasInstruction (made c w (Some d) p b (Some e) q f)) m (λ n. starts.memory w n h) (memory_part t w m h) refl
      (memory_read d b e f ts wd we ef (both_words w d b e f ts suit.1 are.1))
      (λ ps k. from_word (made c w (Some d) p b (Some e) q f) (made c w (Some k.first) k.first_place b (Some k.second) k.second_place f) w t.place ps (k.given c w t.place t.place) (same_operands c w d k.first e k.second p k.first_place q k.second_place b f k.first_same k.second_same))
  word_read i (t ∷ ts) (one w {c = c} {f = f} {d = d} {p = p} {q = q} h k wd ef) are =
      let suit = suiting takes_one w (one_suits w) h in
      let m = are.0.word ∙ own_word w suit.0 in
      on_word l t w state.OnlyDestination (other w t.place) (HasInstruction (made c w (Some d) p false None q f)) m (λ n. starts.one w n h) (one_part t w m h) refl
      (one_read d f ts wd ef are.1)
      (λ ps k. from_word (made c w (Some d) p false None q f) (made c w (Some k.other) k.place false None t.place f) w t.place ps (k.given c w t.place t.place) (ap (λ d. made c w (Some d) anywhere false None anywhere f) k.same))
  word_read i (t ∷ ts) (made_of.jump {c = c} {f = f} {e = e} {p = p} {q = q} {b = b} k we ef) are =
      let m = are.0.word ∙ own_word word.Jmp refl in
      on_word l t word.Jmp state.Source (jump t.place) (HasInstruction (made c word.Jmp None p b (Some e) q f)) m starts.jump (jump_part t m) refl
      (plain_source b e f ts we ef are.1)
      (λ ps k. record {
        place = t.place;
        other = made c word.Jmp None t.place b (Some k.other) k.place f;
        given = λ x. ap (option_map (λ j. filled x t.place (Instr j))) (k.given c word.Jmp None t.place t.place);
        same = ap (λ e. made c word.Jmp None anywhere b (Some e) anywhere f) k.same;
        as_body = λ x. refl;
        as_line = λ p. refl;
      })
  word_read i (t ∷ ts) (call {c = c} {f = f} {n = n} {p = p} {q = q} {r = r} k is ef) are =
      let m = are.0.word ∙ own_word word.Call refl in
      on_word l t word.Call state.CallHash (other word.Call t.place) (HasInstruction (made c word.Call None p true (Some (label n q)) r f)) m starts.call (call_part t m) refl
      (call_read n q f ts is ef are.1)
      (λ ps k. from_word (made c word.Call None p true (Some (label n q)) r f) (made c word.Call None t.place true (Some (label n k.place)) k.place f) word.Call t.place ps (k.given c word.Call t.place t.place) refl)
  word_read i (t ∷ ts) (return {c = c} {f = f} {p = p} {q = q} k ef) are =
      let m = are.0.word ∙ own_word word.Ret refl in
      on_word l t word.Ret state.Effects (other word.Ret t.place) (HasInstruction (made c word.Ret None p false None q f)) m starts.ret (ret_part t m) refl
      (none_read f ts ef are.1)
      (λ ps k. from_word (made c word.Ret None p false None q f) (made c word.Ret None t.place false None t.place f) word.Ret t.place ps (k.given c word.Ret t.place t.place) refl)
  word_read i (t ∷ ts) (nothing {c = c} {p = p} {q = q} k) are =
      let m = are.0.word ∙ own_word word.Nop refl in
      on_word l t word.Nop state.LineEnd (other word.Nop t.place) (HasInstruction (made c word.Nop None p false None q 0)) m starts.nop (nop_part t m) refl
      (by_arrow state.LineEnd refl (at_end (choices state.LineEnd).arrows ts {K = λ ps. ps ≡ []} are.1 (λ n. refl) refl))
      (λ ps k. from_word (made c word.Nop None p false None q 0) (made c word.Nop None t.place false None t.place 0) word.Nop t.place ps (ap (operands (made c word.Nop None t.place false None t.place 0)) k) refl)
