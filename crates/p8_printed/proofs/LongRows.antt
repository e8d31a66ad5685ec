-- The tokens of a long's text as a row of DAT, and which line that is.
use Rattle.std.proofs.Common.{◌≡◌, ℕ, List, [], ◌∷◌, Option, Some, None, option_map, Bool, true, false, refl, sym, ap, ◌∙◌, subst, arith, rules}
use Rattle.std.specs.Prelude.{IsTrue, nat_lt, if◌then◌else◌}
use denote.Enum.Bare.{sameb, same_true}
use Rattle.p8_tree.specs.declared.places.Place.{Place}
use Rattle.p8_tree.specs.Expressions.{Tree, node, Number}
use Rattle.p8_tree.specs.Sources.{Instruction, Instr, Line}
use Rattle.p8_lexer.specs.declared.word.Word.{Word}
use Rattle.p8_lexer.specs.declared.word.Word.TheVariants as word
use Rattle.p8_lexer.specs.declared.token.TokenKind.TheVariants as kind
use Rattle.p8_grammar.specs.Lexemes as lexemes
use Rattle.p8_grammar.specs.Lexemes.{in_dat, token}
use Rattle.p8_grammar.specs.Grammar.{IsExpression, a_number, operand, a_word as spells_word, nothing}
use Rattle.p8_expr.specs.Words.{lexeme_by_kind}
use Rattle.p8_lexer.specs.Pieces as pieces
use Rattle.p8_lines.specs.contracts.state.LineState.{the_type}
use Rattle.p8_lines.specs.declared.arrow.Arrow.{Arrow}
use Rattle.p8_lines.specs.declared.state.LineState.{LineState}
use Rattle.p8_lines.specs.declared.state.LineState.TheVariants as state
use Rattle.p8_lines.specs.Signs.{is_condition}
use Rattle.p8_lines.specs.Diagram.{◌⇒◌, outer, choices}
use Rattle.p8_lines.specs.Tokens as tokens
use Rattle.p8_lines.specs.Tokens.{LineToken, terms, lexeme, piece}
use Rattle.p8_lines.specs.Lines.{Follows, is_name, Leads, by_phrase}
use Rattle.p8_lines.proofs.Matching.{target}
use Rattle.p8_declarations.specs.DataParts.{Part, tree, comma, hash, condition, other, part_of_word, part_of_piece, parts}
use Rattle.p8_declarations.specs.Lines.{bare, operands, source, behind_hash, behind_destination, filled, instruction, body, blank, maybe_line}
use Rattle.p8_print.specs.DataWords.{words_of_effects}
use Rattle.p8_printed.proofs.Made.{made, condition_number, IsEffects, some_effects, IsFlags, some_flags, sixteen}
use Rattle.p8_blocks.proofs.DataWords.{plain_part, two_part, memory_part, condition_part}
use Rattle.p8_printed.proofs.Going.{AreEnded, Leading, Going, by_arrow, on_word, at_end, so, with_phrase}
use Rattle.p8_printed.proofs.Effects.{HasEffects, behind_operands, behind_memory, effects_read, flags_read}
use Rattle.p8_printed.proofs.Operands.{hash_part, comma_part, ReadsEffects}
use Rattle.p8_printed.proofs.InstructionsRead.{Starts, line_starts, conditioned_starts}
use Rattle.p8_instr.specs.declared.instruction.Instr as instr
use Rattle.p8_instr.specs.Instruction.{writes_z, writes_c, writes_result, is_immediate}
use Rattle.p8_dat.specs.Printed.{effects_of, printed_line}
use Rattle.p8_instr.specs.Instructions.{word_text}
use Rattle.p8_printed.specs.ReadBack.{read_line}
use Rattle.p8_printed.proofs.Words.{has_class, WordFor, condition_is}
use Rattle.p8_printed.proofs.LongReading.{Worded, Numbered}
use Rattle.p8_printed.proofs.Texts.{SourceOf, FromWord, LineOf, always, conditional, effects_by}

-- ---- numbers

number_lexeme : (t : LineToken) (v : ℕ) → t.kind ≡ kind.Number v → lexeme t ≡ lexemes.number v
number_lexeme t v e = ap (lexeme_by_kind t.text (tokens.word t)) e

number_is : (t : LineToken) (v : ℕ) → t.kind ≡ kind.Number v → IsExpression in_dat (node t.place (Number v)) (terms (t ∷ []))
number_is t v e = subst (λ x. IsExpression in_dat (node t.place (Number v)) (token t.place x ∷ [])) (sym (number_lexeme t v e)) (operand (a_number refl) (spells_word nothing))

either_way : (b : Bool) (l : List Arrow) {t : LineToken} {r : LineState} → Follows l t r → Follows (if b then l else l) t r
either_way true l f = f
either_way false l f = f

-- a number where an expression stands, and what is after it
behind_number : (q : LineState) (l : List Arrow) (v : ℕ) (t : LineToken) (us : List LineToken) {K : List Part → Type 0} (K' : List Part → Type 0) → (choices q).phrase ≡ Some (outer in_dat l) → t.kind ≡ kind.Number v → Going l us K → ((ps : List Part) → K ps → K' (tree (node t.place (Number v)) t.place ∷ ps)) → Leading q (t ∷ us) K'
behind_number q l v t us K' some e g f =
    let row = pieces.tree (node t.place (Number v)) t.place ∷ piece g.token ∷ g.row in
    let leads = by_phrase [] some (number_is t v e) (omega arith) (either_way (is_name (t ∷ [])) l g.follows) g.leads in
    record { row = row; leads = subst (λ us. Leads q (t ∷ us) row state.End) (sym g.is) leads; value = f (parts (piece g.token ∷ g.row)) g.value }

-- ---- operands

-- what stands for an instruction, of which the condition, the word and a destination were read
record HasSource (b : Bool) (v f : ℕ) (read : Instruction → List Part → Option Instruction) (ps : List Part) : Type 0 where
  place : Place
  given : (c : ℕ) (w : Word) (d : Option Tree) (p q : Place) → read (made c w d p false None q 0) ps ≡ Some (made c w d p b (Some (node place (Number v))) place f)

-- a destination and a source
record HasBoth (d : ℕ) (b : Bool) (e f : ℕ) (ps : List Part) : Type 0 where
  first : Place
  second : Place
  given : (c : ℕ) (w : Word) (p q : Place) → operands (made c w None p false None q 0) ps ≡ Some (made c w (Some (node first (Number d))) first b (Some (node second (Number e))) second f)

module _ (E : ℕ → Type 0) (l : List Arrow) (reads : ReadsEffects E l) where
  number_read : (q : LineState) (b : Bool) (read : Instruction → List Part → Option Instruction) → (choices q).phrase ≡ Some (outer in_dat l) → (v f : ℕ) → E f → (ts : List LineToken) → Numbered v (AreEnded (words_of_effects f)) ts
      → ((p : Place) (ps : List Part) → HasEffects f ps → HasSource b v f read (tree (node p (Number v)) p ∷ ps)) → Leading q ts (HasSource b v f read)
  number_read q b read some v f ef ts n given =
      subst (λ ts. Leading q ts (HasSource b v f read)) (sym n.is)
      (behind_number q l v n.token n.others (HasSource b v f read) some n.kind (reads f n.others ef n.rest) (given n.token.place))

  source_read : (q r : LineState) → (choices q).phrase ≡ Some (outer in_dat l) → (choices r).phrase ≡ Some (outer in_dat l) → ((n : ℕ) → target (choices q).arrows word.Hash n ≡ Some r) → (b : Bool) (v f : ℕ) → E f → (ts : List LineToken) → SourceOf b v f ts → Leading q ts (HasSource b v f source)
  source_read q r some value goes false v f ef ts h =
      number_read q false source some v f ef ts h (λ p ps k. record { place = p; given = λ c w d p' q'. k.given c w d p' false (Some (node p (Number v))) p })
  source_read q r some value goes true v f ef ts h =
      subst (λ ts. Leading q ts (HasSource true v f source)) (sym h.is)
      (by_arrow q (with_phrase q some) (on_word (choices q).arrows h.token word.Hash r hash (HasSource true v f source) h.word_is goes (hash_part h.token h.word_is) refl
      (number_read r true behind_hash value v f ef h.others h.rest (λ p ps k. record { place = p; given = λ c w d p' q'. k.given c w d p' true (Some (node p (Number v))) p }))
      (λ ps k. record { place = k.place; given = k.given })))

both_read : (q r : LineState) → (choices q).phrase ≡ Some (outer in_dat (word.Comma ⇒ r ∷ [])) → (d : ℕ) (b : Bool) (e f : ℕ) (ts : List LineToken) → Numbered d (Worded word.Comma (SourceOf b e f)) ts → ((us : List LineToken) → SourceOf b e f us → Leading r us (HasSource b e f source)) → Leading q ts (HasBoth d b e f)
both_read q r some d b e f ts n next =
    let h = n.rest in
    let l = word.Comma ⇒ r ∷ [] in
    let second : Going l (h.token ∷ h.others) (HasSource b e f behind_destination)
    = on_word l h.token word.Comma r comma (HasSource b e f behind_destination) h.word_is (λ n. refl) (comma_part h.token h.word_is) refl (next h.others h.rest) (λ ps k. record { place = k.place; given = k.given }) in
    subst (λ ts. Leading q ts (HasBoth d b e f)) (sym n.is)
    (behind_number q l d n.token n.others (HasBoth d b e f) some n.kind (subst (λ us. Going l us (HasSource b e f behind_destination)) (sym h.is) second)
    (λ ps k. record { first = n.token.place; second = k.place; given = λ c w p q. k.given c w (Some (node n.token.place (Number d))) n.token.place q }))

-- ---- effects by their numbers

effects_are : (z c low r : Bool) → IsEffects (effects_by z c low r)
effects_are = sixteen (λ z c low r. IsEffects (effects_by z c low r)) (some_effects true true false false, some_effects true true false false, some_effects true true true false, some_effects true true false true, some_effects true false false false, some_effects true false false false, some_effects true false true false, some_effects true false false true, some_effects false true false false, some_effects false true false false, some_effects false true true false, some_effects false true false true, some_effects false false false false, some_effects false false false false, some_effects false false true false, some_effects false false false true)

flags_are : (z c r : Bool) → IsFlags (effects_by z c true r)
flags_are true true r = some_flags true true
flags_are true false r = some_flags true false
flags_are false true r = some_flags false true
flags_are false false r = some_flags false false

-- ---- an instruction from its word on

record HasInstruction (i : instr.Instr) (w : Word) (ps : List Part) : Type 0 where
  at : Place
  first : Place
  second : Place
  given : (c : ℕ) (x : Line) → instruction c x ps ≡ Some (filled x at (Instr (made c w (Some (node first (Number i.dest))) first (is_immediate i) (Some (node second (Number i.source))) second (effects_of i))))
  as_body : (x : Line) → body x ps ≡ instruction 15 x ps
  as_line : (p : Place) → maybe_line p ps ≡ option_map (λ x. Some x) (body (blank p None) ps)

from_operands : (i : instr.Instr) (w : Word) (p : Place) (ps : List Part) → HasBoth i.dest (is_immediate i) i.source (effects_of i) ps → HasInstruction i w (other w p ∷ ps)
unfolding bare
from_operands i w p ps k = record {
  at = p;
  first = k.first;
  second = k.second;
  given = λ c x. ap (option_map (λ j. filled x p (Instr j))) (k.given c w p p);
  as_body = λ x. refl;
  as_line = λ q. refl;
}

module _ (l : List Arrow) (starts : Starts l) (i : instr.Instr) (w : Word) where
  instruction_read : (low : Bool) → nat_lt i.opcode 3 ≡ low → IsTrue (has_class low w) → (ts : List LineToken) → FromWord i w ts → Going l ts (HasInstruction i w)
  instruction_read true low is ts h =
      let flags : IsFlags (effects_of i) = subst (λ b. IsFlags (effects_by (writes_z i) (writes_c i) b (writes_result i))) (sym low) (flags_are (writes_z i) (writes_c i) (writes_result i)) in
      subst (λ ts. Going l ts (HasInstruction i w)) (sym h.is)
      (on_word l h.token w state.MemoryDestination (other w h.token.place) (HasInstruction i w) h.word_is (λ n. starts.memory w n is) (memory_part h.token w h.word_is is) refl
      (both_read state.MemoryDestination state.MemorySource refl i.dest (is_immediate i) i.source (effects_of i) h.others h.rest
      (λ us k. source_read IsFlags behind_memory flags_read state.MemorySource state.MemorySourceValue refl refl (λ n. refl) (is_immediate i) i.source (effects_of i) flags us k))
      (λ ps k. from_operands i w h.token.place ps k))
  instruction_read false low is ts h =
      subst (λ ts. Going l ts (HasInstruction i w)) (sym h.is)
      (on_word l h.token w state.Destination (other w h.token.place) (HasInstruction i w) h.word_is (λ n. starts.two w n is) (two_part h.token w h.word_is is) refl
      (both_read state.Destination state.Source refl i.dest (is_immediate i) i.source (effects_of i) h.others h.rest
      (λ us k. source_read IsEffects behind_operands effects_read state.Source state.SourceValue refl refl (λ n. refl) (is_immediate i) i.source (effects_of i) (effects_are (writes_z i) (writes_c i) (nat_lt i.opcode 3) (writes_result i)) us k))
      (λ ps k. from_operands i w h.token.place ps k))

-- ---- the line

pub record HasLine (x : Place → Place → Instruction) (ps : List Part) : Type 0 where
  pub at : Place
  pub first : Place
  pub second : Place
  pub given : (p : Place) → maybe_line p ps ≡ Some (Some (filled (blank p None) at (Instr (x first second))))

-- where the words of conditions lead

abbrev leads : Option LineState → LineState → Bool
leads None r = false
leads (Some q) r = sameb the_type q r

leads_there : (o : Option LineState) (r : LineState) → IsTrue (leads o r) → o ≡ Some r
leads_there None r h = absurd cc
leads_there (Some q) r h = ap (λ q. Some q) (same_true the_type (search rules) q r h)

conditions_lead : (n : ℕ) (w : Word) → IsTrue (if is_condition w then leads (target (choices state.DatLine).arrows w n) state.Conditioned else true)
conditions_lead n word.IfE = refl
conditions_lead n w = refl

condition_leads : (w : Word) (n : ℕ) → IsTrue (is_condition w) → target (choices state.DatLine).arrows w n ≡ Some state.Conditioned
condition_leads w n is =
    leads_there (target (choices state.DatLine).arrows w n) state.Conditioned
    (subst (λ b. IsTrue (if b then leads (target (choices state.DatLine).arrows w n) state.Conditioned else true)) is (conditions_lead n w))

module _ (i : instr.Instr) (named : WordFor (has_class (nat_lt i.opcode 3)) (word_text i)) where
  line_made : (p q : Place) → made i.cond named.word (Some (node p (Number i.dest))) p (is_immediate i) (Some (node q (Number i.source))) q (effects_of i) ≡ printed_line i p q
  line_made p q = ap (λ t. record (printed_line i p q) { word = t }) (sym named.spelled)

  unconditional : (ps : List Part) → i.cond ≡ 15 → HasInstruction i named.word ps → HasLine (printed_line i) ps
  unconditional ps e k = record {
    at = k.at;
    first = k.first;
    second = k.second;
    given = λ p.
        k.as_line p ∙ ap (option_map (λ x. Some x)) (k.as_body (blank p None) ∙ ap (λ c. instruction c (blank p None) ps) (sym e) ∙ k.given i.cond (blank p None))
        ∙ ap (λ x. Some (Some (filled (blank p None) k.at (Instr x)))) (line_made k.first k.second);
  }

  under_condition : (c : Word) (ps : List Part) → condition_number c ≡ i.cond → HasInstruction i named.word ps → HasLine (printed_line i) (condition (condition_number c) ∷ ps)
  under_condition c ps e k = record {
    at = k.at;
    first = k.first;
    second = k.second;
    given = λ p.
        ap (option_map (λ x. Some x)) (ap (λ c. instruction c (blank p None) ps) e ∙ k.given i.cond (blank p None))
        ∙ ap (λ x. Some (Some (filled (blank p None) k.at (Instr x)))) (line_made k.first k.second);
  }

  pub line_row : (ts : List LineToken) → LineOf i named.word ts → Going (choices state.DatLine).arrows ts (HasLine (printed_line i))
  line_row ts (always e h) =
      so (instruction_read (choices state.DatLine).arrows line_starts i named.word (nat_lt i.opcode 3) refl named.kind ts h) (λ ps k. unconditional ps e k)
  line_row ts (conditional c is h) =
      let y = condition_is i.cond c is in
      subst (λ ts. Going (choices state.DatLine).arrows ts (HasLine (printed_line i))) (sym h.is)
      (on_word (choices state.DatLine).arrows h.token c state.Conditioned (condition (condition_number c)) (HasLine (printed_line i)) h.word_is (λ n. condition_leads c n y.0) (condition_part h.token c h.word_is y.0) refl
      (by_arrow state.Conditioned refl (instruction_read (choices state.Conditioned).arrows conditioned_starts i named.word (nat_lt i.opcode 3) refl named.kind h.others h.rest))
      (λ ps k. under_condition c ps y.1 k))

-- ---- NOP

nop_part : (t : LineToken) → tokens.word t ≡ word.Nop → part_of_piece (piece t) ≡ other word.Nop t.place
unfolding part_of_word
nop_part t m = plain_part t word.Nop refl m

nop_given : (p : Place) (ps : List Part) → ps ≡ [] → HasLine (read_line 0) (other word.Nop p ∷ ps)
unfolding bare
nop_given p ps e = record {
  at = p;
  first = p;
  second = p;
  given = λ q. ap (λ ps. maybe_line q (other word.Nop p ∷ ps)) e;
}

pub nop_row : (ts : List LineToken) → Worded word.Nop (AreEnded []) ts → Going (choices state.DatLine).arrows ts (HasLine (read_line 0))
nop_row ts h =
    subst (λ ts. Going (choices state.DatLine).arrows ts (HasLine (read_line 0))) (sym h.is)
    (on_word (choices state.DatLine).arrows h.token word.Nop state.LineEnd (other word.Nop h.token.place) (HasLine (read_line 0)) h.word_is (λ n. refl) (nop_part h.token h.word_is) refl
    (by_arrow state.LineEnd refl (at_end (choices state.LineEnd).arrows h.others {K = λ ps. ps ≡ []} h.rest (λ n. refl) refl))
    (λ ps e. nop_given h.token.place ps e))
