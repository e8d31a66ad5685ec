-- Proper lines of DAT, but for their places, are such as are read of a source.
use Rattle.std.proofs.Common.{◌≡◌, ℕ, ◌<◌, Bool, true, false, List, [], ◌∷◌, map, Option, Some, None, option_map, refl, sym, ap, subst, arith}
use Rattle.std.specs.Prelude.{IsTrue, ◌&&◌, ◌||◌, not}
use Rattle.std.specs.List.{AllByRecursion as Each, list_all}
use Rattle.std.proofs.lemmas.List.Elements.{recursion_from_All}
use Rattle.p8_tree.specs.Expressions.{Tree, node, Var, Named, no_index}
use Rattle.p8_tree.specs.Sources as sources
use Rattle.p8_tree.specs.Sources.{Datum, Instruction, Contents, Line}
use Rattle.p8_tree.specs.Forgetting.{anywhere, tree_anywhere, datum_anywhere, instruction_anywhere, contents_anywhere, line_anywhere}
use Rattle.p8_tree.specs.Names as names
use Rattle.p8_tree.specs.Names.{same, is_among, two_operands, on_memory, one_operand}
use Rattle.p8_tree.specs.Proper as proper
use Rattle.p8_tree.specs.Proper.{IfThere, IsThere, is_nothing, IsSize, IsProperExpression, IsProperDatum, IsLabelAlone, HasOperands, IsProperInstruction, AreProperContents, is_empty, IsProperLine}
use Rattle.p8_lexer.specs.declared.word.Word.{Word}
use Rattle.p8_lexer.specs.declared.word.Word.TheVariants as word
use Rattle.p8_lexer.specs.Words.{spelling}
use Rattle.p8_lexer.proofs.Searches.{same-true}
use Rattle.p8_grammar.specs.Lexemes.{in_dat}
use Rattle.p8_declarations.specs.DataParts.{part_of_word}
use Rattle.p8_declarations.specs.Lines.{label}
use Rattle.p8_lines.specs.Signs.{takes_two, is_on_memory, takes_one}
use Rattle.p8_printed.proofs.Readings as readings
use Rattle.p8_printed.proofs.Readings.{IsRead}
use Rattle.p8_printed.proofs.Made as made
use Rattle.p8_printed.proofs.Made.{condition_number, IsCondition, a_condition, no_condition, IsEffects, some_effects, IsFlags, some_flags, IsInstruction, IsContents, IsDatum, AreData, IsLabel}
use Rattle.p8_printed.proofs.ProperNames.{name_lexeme, label_word}
use Rattle.p8_printed.proofs.Tables.{table_end, ◌&◌, all_from}
use Rattle.p8_printed.proofs.ProperAgain.{Again, size_is, dat_again, data_again, there_again}

-- conditions and effects by their numbers

condition_is : (c : ℕ) → c < 16 → IsCondition c
unfolding condition_number part_of_word
condition_is c h = all_from IsCondition 0 16 c (
    a_condition word.IfNever refl &
    a_condition word.IfA refl &
    a_condition word.IfNcAndZ refl &
    a_condition word.IfAe refl &
    a_condition word.IfCAndNz refl &
    a_condition word.IfNe refl &
    a_condition word.IfCNeZ refl &
    a_condition word.IfNcOrNz refl &
    a_condition word.IfCAndZ refl &
    a_condition word.IfCEqZ refl &
    a_condition word.IfE refl &
    a_condition word.IfNcOrZ refl &
    a_condition word.IfB refl &
    a_condition word.IfCOrNz refl &
    a_condition word.IfBe refl &
    no_condition &
    table_end
    ) (omega arith) (omega (arith, h))

effects_are : (f : ℕ) → f < 16 → IsEffects f
effects_are f h = all_from IsEffects 0 16 f (
    some_effects false false false false &
    some_effects true false false false &
    some_effects false true false false &
    some_effects true true false false &
    some_effects false false true false &
    some_effects true false true false &
    some_effects false true true false &
    some_effects true true true false &
    some_effects false false false true &
    some_effects true false false true &
    some_effects false true false true &
    some_effects true true false true &
    some_effects false false true true &
    some_effects true false true true &
    some_effects false true true true &
    some_effects true true true true &
    table_end
    ) (omega arith) (omega (arith, h))

flags_are : (f : ℕ) → f < 4 → IsFlags f
flags_are f h = all_from IsFlags 0 4 f (some_flags false false & some_flags true false & some_flags false true & some_flags true true & table_end) (omega arith) (omega (arith, h))

-- words of instructions by their spellings

both : (a b : Bool) → IsTrue (a && b) → IsTrue a × IsTrue b
both true b h = (refl, h)
both false b h = absurd cc

-- a word among these that is spelled so
spelled_among : (f : Word → Bool) (ws : List Word) (text : List ℕ) → IsTrue (list_all f ws) → IsTrue (is_among (map spelling ws) text) → (w : Word) × (spelling w ≡ text) × IsTrue (f w)
spelled_among f [] text h y = absurd cc
spelled_among f (w ∷ ws) text h y = go (same (spelling w) text) refl y (both (f w) (list_all f ws) h).0 (λ z. spelled_among f ws text (both (f w) (list_all f ws) h).1 z)
  where
    go : (b : Bool) → same (spelling w) text ≡ b → IsTrue (b || is_among (map spelling ws) text) → IsTrue (f w) → (IsTrue (is_among (map spelling ws) text) → (w : Word) × (spelling w ≡ text) × IsTrue (f w)) → (w : Word) × (spelling w ≡ text) × IsTrue (f w)
    go true e y is later = (w, same-true (spelling w) text e, is)
    go false e y is later = later y

abbrev two_words : List Word
two_words =
    word.Hubop ∷ word.Mul ∷ word.Muls ∷ word.Enc ∷ word.Ones ∷ word.Ror ∷ word.Rol ∷ word.Shr ∷
    word.Shl ∷ word.Rcr ∷ word.Rcl ∷ word.Sar ∷ word.Rev ∷ word.Mins ∷ word.Maxs ∷ word.Min ∷
    word.Max ∷ word.Movs ∷ word.Movd ∷ word.Movi ∷ word.Jmpret ∷ word.And ∷ word.Andn ∷ word.Or ∷
    word.Xor ∷ word.Muxc ∷ word.Muxnc ∷ word.Muxz ∷ word.Muxnz ∷ word.Add ∷ word.Sub ∷
    word.Addabs ∷ word.Subabs ∷ word.Sumc ∷ word.Sumnc ∷ word.Sumz ∷ word.Sumnz ∷ word.Mov ∷
    word.Neg ∷ word.Abs ∷ word.Absneg ∷ word.Negc ∷ word.Negnc ∷ word.Negz ∷ word.Negnz ∷
    word.Cmps ∷ word.Cmpsx ∷ word.Addx ∷ word.Subx ∷ word.Adds ∷ word.Subs ∷ word.Addsx ∷
    word.Subsx ∷ word.Cmpsub ∷ word.Djnz ∷ word.Tjnz ∷ word.Tjz ∷ word.Test ∷ word.Testn ∷
    word.Cmp ∷ word.Cmpx ∷ word.Waitpeq ∷ word.Waitpne ∷ word.Waitcnt ∷ word.Waitvid ∷ []

two_spelled : map spelling two_words ≡ two_operands
unfolding two_operands
two_spelled = refl

abbrev memory_words : List Word
memory_words = word.Rdbyte ∷ word.Rdword ∷ word.Rdlong ∷ word.Wrbyte ∷ word.Wrword ∷ word.Wrlong ∷ []

memory_spelled : map spelling memory_words ≡ on_memory
unfolding on_memory
memory_spelled = refl

abbrev one_words : List Word
one_words = word.Clkset ∷ word.Cogid ∷ word.Coginit ∷ word.Cogstop ∷ word.Locknew ∷ word.Lockret ∷ word.Lockset ∷ word.Lockclr ∷ []

one_spelled : map spelling one_words ≡ one_operand
unfolding one_operand
one_spelled = refl

two_word : (text : List ℕ) → IsTrue (is_among two_operands text) → (w : Word) × (spelling w ≡ text) × IsTrue (takes_two w)
two_word text h = spelled_among takes_two two_words text refl (subst (λ ts. IsTrue (is_among ts text)) (sym two_spelled) h)

memory_word : (text : List ℕ) → IsTrue (is_among on_memory text) → (w : Word) × (spelling w ≡ text) × IsTrue (is_on_memory w)
memory_word text h = spelled_among is_on_memory memory_words text refl (subst (λ ts. IsTrue (is_among ts text)) (sym memory_spelled) h)

one_word : (text : List ℕ) → IsTrue (is_among one_operand text) → (w : Word) × (spelling w ≡ text) × IsTrue (takes_one w)
one_word text h = spelled_among takes_one one_words text refl (subst (λ ts. IsTrue (is_among ts text)) (sym one_spelled) h)

-- instructions

-- an operand that is there
record Operand (o : Option Tree) : Type 0 where
  other : Tree
  read : IsRead in_dat other
  same : Some (tree_anywhere other) ≡ option_map tree_anywhere o

operand : (o : Option Tree) → IsThere (IsProperExpression true) o → Operand o
operand None h = absurd h
operand (Some e) h = let x = dat_again e h in record { other = x.other; read = x.holds; same = ap (λ e. Some e) x.same }

record LabelAlone (o : Option Tree) : Type 0 where
  name : List ℕ
  label_is : IsLabel name
  same : Some (tree_anywhere (label name anywhere)) ≡ option_map tree_anywhere o

pub label_is : (n : List ℕ) → names.IsLabel n → IsLabel n
label_is n (names.plain h) = made.plain (name_lexeme n h)
label_is n (names.behind_colon {n = m} h) = made.behind_colon (label_word m h)

label_alone : (o : Option Tree) → IsThere IsLabelAlone o → LabelAlone o
label_alone None h = absurd h
label_alone (Some (node p (Var (Named n no_index q)))) h = record { name = n; label_is = label_is n h; same = refl }
label_alone (Some e) h = absurd h

no_operand : (o : Option Tree) → o ≡ None → None ≡ option_map tree_anywhere o
no_operand o e = sym (ap (option_map tree_anywhere) e)

-- an instruction anywhere
abbrev placeless : ℕ → List ℕ → Option Tree → Bool → Option Tree → ℕ → Instruction
placeless c w d b s f = record { cond = c; word = w; dest = d; dest_place = anywhere; immediate = b; source = s; source_place = anywhere; effects = f }

instruction_again : (x : Instruction) → IsProperInstruction x → Again IsInstruction instruction_anywhere x
instruction_again x h = go h.operands
  where
    go : HasOperands x → Again IsInstruction instruction_anywhere x
    go (proper.two is d s small) =
        let w = two_word x.word is in
        let a = operand x.dest d in
        let b = operand x.source s in
        record {
          other = made.made x.cond w.0 (Some a.other) anywhere x.immediate (Some b.other) anywhere x.effects;
          holds = made.two w.0 w.2 (condition_is x.cond h.cond) a.read b.read (effects_are x.effects small);
          same = λ i. placeless x.cond (w.1 i) (a.same i) x.immediate (b.same i) x.effects;
        }
    go (proper.memory is d s small) =
        let w = memory_word x.word is in
        let a = operand x.dest d in
        let b = operand x.source s in
        record {
          other = made.made x.cond w.0 (Some a.other) anywhere x.immediate (Some b.other) anywhere x.effects;
          holds = made.on_memory w.0 w.2 (condition_is x.cond h.cond) a.read b.read (flags_are x.effects small);
          same = λ i. placeless x.cond (w.1 i) (a.same i) x.immediate (b.same i) x.effects;
        }
    go (proper.one is d s b small) =
        let w = one_word x.word is in
        let a = operand x.dest d in
        record {
          other = made.made x.cond w.0 (Some a.other) anywhere false None anywhere x.effects;
          holds = made.one w.0 w.2 (condition_is x.cond h.cond) a.read (effects_are x.effects small);
          same = λ i. placeless x.cond (w.1 i) (a.same i) (sym b i) (no_operand x.source s i) x.effects;
        }
    go (proper.jump w d s small) =
        let b = operand x.source s in
        record {
          other = made.made x.cond word.Jmp None anywhere x.immediate (Some b.other) anywhere x.effects;
          holds = made.jump (condition_is x.cond h.cond) b.read (effects_are x.effects small);
          same = λ i. placeless x.cond (sym w i) (no_operand x.dest d i) x.immediate (b.same i) x.effects;
        }
    go (proper.call w d s b small) =
        let l = label_alone x.source s in
        record {
          other = made.made x.cond word.Call None anywhere true (Some (label l.name anywhere)) anywhere x.effects;
          holds = made.call (condition_is x.cond h.cond) l.label_is (effects_are x.effects small);
          same = λ i. placeless x.cond (sym w i) (no_operand x.dest d i) (sym b i) (l.same i) x.effects;
        }
    go (proper.return w d s b small) = record {
      other = made.made x.cond word.Ret None anywhere false None anywhere x.effects;
      holds = made.return (condition_is x.cond h.cond) (effects_are x.effects small);
      same = λ i. placeless x.cond (sym w i) (no_operand x.dest d i) (sym b i) (no_operand x.source s i) x.effects;
    }
    go (proper.nothing w d s b none) = record {
      other = made.made x.cond word.Nop None anywhere false None anywhere 0;
      holds = made.nothing (condition_is x.cond h.cond);
      same = λ i. placeless x.cond (sym w i) (no_operand x.dest d i) (sym b i) (no_operand x.source s i) (sym none i);
    }

-- data

size_there : (o : Option ℕ) → IfThere IsSize o → IfThere readings.IsSize o
size_there None h = tt
size_there (Some z) h = size_is z h

datum_again : (x : Datum) → IsProperDatum x → Again IsDatum datum_anywhere x
datum_again x h =
    let v = data_again x.value h.value in
    let c = there_again true (IsRead in_dat) dat_again x.count h.count in
    record {
      other = record { size = x.size; value = v.other; count = c.other };
      holds = record { size = size_there x.size h.size; value = v.holds; count = c.holds };
      same = λ i. record { size = x.size; value = v.same i; count = c.same i };
    }

data_are : (xs : List Datum) → Each IsProperDatum xs → Again AreData (map datum_anywhere) xs
data_are [] h = record { other = []; holds = tt; same = refl }
data_are (x ∷ xs) h =
    let y = datum_again x h.0 in
    let r = data_are xs h.1 in
    record { other = y.other ∷ r.other; holds = (y.holds, r.holds); same = λ i. y.same i ∷ r.same i }

-- lines

value_again : (o : Option Tree) → IfThere (IsProperExpression true) o → Again (IfThere (IsRead in_dat)) (option_map tree_anywhere) o
value_again o h = there_again true (IsRead in_dat) dat_again o h

contents_again : (c : Contents) → AreProperContents c → is_empty c ≡ false → Again IsContents contents_anywhere c
contents_again sources.Nothing h some = absurd cc
contents_again (sources.Data z xs) h some =
    let r = data_are xs (recursion_from_All IsProperDatum xs h.1) in
    record { other = sources.Data z r.other; holds = made.of_data (size_is z h.0) r.holds; same = ap (sources.Data z) r.same }
contents_again (sources.Org e) h some = let r = value_again e h in record { other = sources.Org r.other; holds = made.of_org r.holds; same = ap sources.Org r.same }
contents_again (sources.Res e) h some = let r = value_again e h in record { other = sources.Res r.other; holds = made.of_res r.holds; same = ap sources.Res r.same }
contents_again (sources.Fit e) h some = let r = value_again e h in record { other = sources.Fit r.other; holds = made.of_fit r.holds; same = ap sources.Fit r.same }
contents_again (sources.Instr x) h some = let r = instruction_again x h in record { other = sources.Instr r.other; holds = made.of_instruction r.holds; same = ap sources.Instr r.same }

label_there : (o : Option (List ℕ)) → IfThere names.IsLabel o → IfThere IsLabel o
label_there None h = tt
label_there (Some n) h = label_is n h

abbrev at : Option (List ℕ) → Contents → Line
at l c = record { place = anywhere; label = l; word_place = anywhere; contents = c }

filled_again : (l : Option (List ℕ)) (c : Contents) → IfThere names.IsLabel l → AreProperContents c → is_empty c ≡ false → Again made.IsLine line_anywhere (at l c)
filled_again l c k h some =
    let r = contents_again c h some in
    record { other = at l r.other; holds = made.with_contents (label_there l k) r.holds; same = ap (at l) r.same }

empty_again : (l : Option (List ℕ)) → IfThere names.IsLabel l → is_nothing l ≡ false → Again made.IsLine line_anywhere (at l sources.Nothing)
empty_again None k some = absurd cc
empty_again (Some n) k some = record { other = at (Some n) sources.Nothing; holds = made.label_alone (label_is n k); same = refl }

not_both : (a : Bool) → IsTrue (not (a && true)) → a ≡ false
not_both true h = absurd cc
not_both false h = refl

line_of : (l : Option (List ℕ)) (c : Contents) → IfThere names.IsLabel l → AreProperContents c → IsTrue (not (is_nothing l && is_empty c)) → Again made.IsLine line_anywhere (at l c)
line_of l sources.Nothing k h some = empty_again l k (not_both (is_nothing l) some)
line_of l (sources.Data z xs) k h some = filled_again l (sources.Data z xs) k h refl
line_of l (sources.Org e) k h some = filled_again l (sources.Org e) k h refl
line_of l (sources.Res e) k h some = filled_again l (sources.Res e) k h refl
line_of l (sources.Fit e) k h some = filled_again l (sources.Fit e) k h refl
line_of l (sources.Instr x) k h some = filled_again l (sources.Instr x) k h refl

pub line_again : (x : Line) → IsProperLine x → Again made.IsLine line_anywhere x
line_again x h =
    let r = line_of x.label x.contents h.label h.contents h.something in
    record { other = r.other; holds = r.holds; same = r.same }
