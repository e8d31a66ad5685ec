-- Each line of DAT has a value, and is made of what is known of its pieces.
use Rattle.std.proofs.Common.{◌≡◌, ℕ, List, [], ◌∷◌, ◌++◌, Option, Some, None, Bool, true, false, refl, sym, subst}
use Rattle.std.specs.Prelude.{IsTrue, bit_or}
use Rattle.p8_tree.specs.declared.places.Place.{Place}
use Rattle.p8_tree.specs.Expressions.{Tree, node, Str}
use Rattle.p8_tree.specs.Sources.{Datum, Instruction, Data, Org, Res, Fit, Instr, Line}
use Rattle.p8_tree.specs.Proper.{IfThere}
use Rattle.p8_lexer.specs.declared.word.Word.{Word}
use Rattle.p8_lexer.specs.declared.word.Word.TheVariants as word
use Rattle.p8_grammar.specs.Lexemes.{in_dat, in_data_item}
use Rattle.p8_lexer.specs.Pieces.{Piece}
use Rattle.p8_lines.specs.declared.state.LineState.{LineState}
use Rattle.p8_lines.specs.declared.state.LineState.TheVariants as state
use Rattle.p8_lines.specs.Signs.{takes_two, is_on_memory, takes_one}
use Rattle.p8_lines.specs.Tokens.{LineToken}
use Rattle.p8_lines.specs.Lines as lines
use Rattle.p8_lines.specs.Lines.{Row}
use Rattle.p8_declarations.specs.DataParts.{Part, colon, effect, size, org, res, fit, jump, other, place_of, before_end}
use Rattle.p8_declarations.specs.Lines as stages
use Rattle.p8_declarations.specs.Lines.{local, value, before, open_bracket, datum, items, all_items, bare, effects, direct, immediate, label, behind_hash, source, operands, filled, instruction, body, blank, line, maybe_line, line_of_row}
use Rattle.p8_blocks.proofs.DataMade.{Facts, IsLabel, plain, behind_colon, IsSize, IsDatum, AreData, IsCondition, a_condition, no_condition, effects_number, IsEffects, some_effects, IsFlags, some_flags, sixteen, IsInstruction, two, on_memory, one, call, of_data, of_org, of_res, of_fit, of_instruction, IsLine, label_alone, with_contents}
use Rattle.p8_blocks.proofs.DataMade as made
use Rattle.p8_blocks.proofs.Closed.{is_closed}
use Rattle.p8_blocks.proofs.DataWords.{Has, found, mapped, AreKnown, Keeps, holds}

abbrev own : LineState → Bool
own state.End = true
own state.LineEnd = true
own state.DatHead = true
own state.DatLine = true
own state.DatLabel = true
own state.DatBody = true
own state.DatValue = true
own state.FirstData = true
own state.Data = true
own state.DataValue = true
own state.DataCount = true
own state.MoreData = true
own state.Conditioned = true
own state.Destination = true
own state.Source = true
own state.SourceValue = true
own state.MemoryDestination = true
own state.MemorySource = true
own state.MemorySourceValue = true
own state.OnlyDestination = true
own state.CallHash = true
own state.CallLabel = true
own state.CallLocal = true
own state.Effects = true
own state.MoreEffects = true
own state.Effect = true
own state.MoreFlags = true
own state.FlagEffect = true
own q = false

own_closed : (q : LineState) → IsTrue (is_closed own q)
own_closed state.End = refl
own_closed q = refl

module _ (F : Facts) where
  -- what an instruction takes, of which a part has been read

  -- any effects of a kind
  abbrev Ends : (ℕ → Type 0) → Instruction → Type 0
  Ends E i = (f : ℕ) → E f → IsInstruction F (record i { effects = f })

  abbrev TakesSource : (ℕ → Type 0) → Instruction → Type 0
  TakesSource E i = (b : Bool) (e : Tree) (p : Place) → F.IsValue in_dat e → Ends E (record i { immediate = b; source = Some e; source_place = p })

  abbrev to : Instruction → Tree → Place → Instruction
  to i e p = record i { dest = Some e; dest_place = p }

  abbrev TakesBoth : (ℕ → Type 0) → Instruction → Type 0
  TakesBoth E i = (e : Tree) (p : Place) → F.IsValue in_dat e → TakesSource E (to i e p)

  abbrev TakesOne : Instruction → Type 0
  TakesOne i = (e : Tree) (p : Place) → F.IsValue in_dat e → Ends IsEffects (to i e p)

  abbrev TakesLabel : Instruction → Type 0
  TakesLabel i = (n : List ℕ) (p : Place) → IsLabel F n → Ends IsEffects (immediate i (label n p) p)

  -- What is left of a line, as this function reads it, makes an instruction whole that takes this.
  abbrev Makes : (ℕ → Type 0) → (Instruction → Type 0) → (Instruction → Option Instruction) → Type 0
  Makes E Takes read = (i : Instruction) → E i.effects → Takes i → Has (IsInstruction F) (read i)

  -- what is left of a line at each state
  abbrev Goal : LineState → List Part → Type 0
  Goal state.LineEnd ps = (i : Instruction) → IsInstruction F i → Has (IsInstruction F) (operands i (before_end ps))
  Goal state.DatHead ps = (p : Place) → Has (IfThere (IsLine F)) (maybe_line p (before_end ps))
  Goal state.DatLine ps = (p : Place) → Has (IfThere (IsLine F)) (maybe_line p (before_end ps))
  Goal state.DatLabel ps = (p q : Place) → Has (IsLine F) (line p (colon q ∷ before_end ps))
  Goal state.DatBody ps = (p : Place) (n : List ℕ) → IsLabel F n → Has (IsLine F) (body (blank p (Some n)) (before_end ps))
  Goal state.DatValue ps = Has (IfThere (F.IsValue in_dat)) (value (before_end ps))
  Goal state.FirstData ps = Has (AreData F) (all_items (before_end ps))
  Goal state.Data ps = (read : List Datum) → AreData F read → Has (AreData F) (items read (before None) (before_end ps))
  Goal state.DataValue ps = (read : List Datum) (n : ℕ) → AreData F read → IsSize n → Has (AreData F) (items read (before (Some n)) (before_end ps))
  Goal state.DataCount ps = (read : List Datum) (s : Option ℕ) (e : Tree) → AreData F read → IfThere IsSize s → F.IsValue in_data_item e → Has (AreData F) (items read (open_bracket s e) (before_end ps))
  Goal state.MoreData ps = (read : List Datum) (s : Option ℕ) (e : Tree) (c : Option Tree) → AreData F read → IfThere IsSize s → F.IsValue in_data_item e → IfThere (F.IsValue in_dat) c → Has (AreData F) (items read (stages.over s e c) (before_end ps))
  Goal state.Conditioned ps = (c : ℕ) (x : Line) → IsCondition c → IfThere (IsLabel F) x.label → Has (IsLine F) (instruction c x (before_end ps))
  Goal state.Destination ps = Makes IsEffects (TakesBoth IsEffects) (λ i. operands i (before_end ps))
  Goal state.Source ps = Makes IsEffects (TakesSource IsEffects) (λ i. source i (before_end ps))
  Goal state.SourceValue ps = Makes IsEffects (TakesSource IsEffects) (λ i. behind_hash i (before_end ps))
  Goal state.MemoryDestination ps = Makes IsFlags (TakesBoth IsFlags) (λ i. operands i (before_end ps))
  Goal state.MemorySource ps = Makes IsFlags (TakesSource IsFlags) (λ i. source i (before_end ps))
  Goal state.MemorySourceValue ps = Makes IsFlags (TakesSource IsFlags) (λ i. behind_hash i (before_end ps))
  Goal state.OnlyDestination ps = Makes IsEffects TakesOne (λ i. operands i (before_end ps))
  Goal state.CallHash ps = Makes IsEffects TakesLabel (λ i. operands i (before_end ps))
  Goal state.CallLabel ps = Makes IsEffects TakesLabel (λ i. behind_hash i (before_end ps))
  Goal state.CallLocal ps = (p : Place) → Makes IsEffects TakesLabel (λ i. behind_hash i (colon p ∷ before_end ps))
  Goal state.Effects ps = Makes IsEffects (Ends IsEffects) (λ i. effects i (before_end ps)) × Makes IsEffects (Ends IsEffects) (λ i. operands i (before_end ps))
  Goal state.MoreEffects ps = Makes IsEffects (Ends IsEffects) (λ i. effects i (before_end ps))
  Goal state.Effect ps = Makes IsEffects (Ends IsEffects) (λ i. effects i (before_end ps))
  Goal state.MoreFlags ps = Makes IsFlags (Ends IsFlags) (λ i. effects i (before_end ps))
  Goal state.FlagEffect ps = Makes IsFlags (Ends IsFlags) (λ i. effects i (before_end ps))
  Goal q ps = Unit {0}

  -- effects

  or_wz : (z c w n : Bool) → bit_or (effects_number z c w n) 1 ≡ effects_number true c w n
  or_wz = sixteen (λ z c w n. bit_or (effects_number z c w n) 1 ≡ effects_number true c w n) (refl, refl, refl, refl, refl, refl, refl, refl, refl, refl, refl, refl, refl, refl, refl, refl)

  or_wc : (z c w n : Bool) → bit_or (effects_number z c w n) 2 ≡ effects_number z true w n
  or_wc = sixteen (λ z c w n. bit_or (effects_number z c w n) 2 ≡ effects_number z true w n) (refl, refl, refl, refl, refl, refl, refl, refl, refl, refl, refl, refl, refl, refl, refl, refl)

  or_wr : (z c w n : Bool) → bit_or (effects_number z c w n) 4 ≡ effects_number z c true n
  or_wr = sixteen (λ z c w n. bit_or (effects_number z c w n) 4 ≡ effects_number z c true n) (refl, refl, refl, refl, refl, refl, refl, refl, refl, refl, refl, refl, refl, refl, refl, refl)

  or_nr : (z c w n : Bool) → bit_or (effects_number z c w n) 8 ≡ effects_number z c w true
  or_nr = sixteen (λ z c w n. bit_or (effects_number z c w n) 8 ≡ effects_number z c w true) (refl, refl, refl, refl, refl, refl, refl, refl, refl, refl, refl, refl, refl, refl, refl, refl)

  -- a kind of effects to which this one may be added
  abbrev HasBit : (ℕ → Type 0) → ℕ → Type 0
  HasBit E b = (f : ℕ) → E f → E (bit_or f b)

  with_wz : HasBit IsEffects 1
  with_wz f (some_effects z c w n) = subst IsEffects (sym (or_wz z c w n)) (some_effects true c w n)

  with_wc : HasBit IsEffects 2
  with_wc f (some_effects z c w n) = subst IsEffects (sym (or_wc z c w n)) (some_effects z true w n)

  with_wr : HasBit IsEffects 4
  with_wr f (some_effects z c w n) = subst IsEffects (sym (or_wr z c w n)) (some_effects z c true n)

  with_nr : HasBit IsEffects 8
  with_nr f (some_effects z c w n) = subst IsEffects (sym (or_nr z c w n)) (some_effects z c w true)

  flag_wz : HasBit IsFlags 1
  flag_wz f (some_flags z c) = subst IsFlags (sym (or_wz z c false false)) (some_flags true c)

  flag_wc : HasBit IsFlags 2
  flag_wc f (some_flags z c) = subst IsFlags (sym (or_wc z c false false)) (some_flags z true)

  affected : (E : ℕ → Type 0) (b : ℕ) → HasBit E b → (row : List Part) → Makes E (Ends E) (λ i. effects i row) → Makes E (Ends E) (λ i. effects i (effect b ∷ row))
  affected E b has row y i ef ends = y (record i { effects = bit_or i.effects b }) (has i.effects ef) ends

  no_effects : IsEffects 0
  no_effects = some_effects false false false false

  no_flags : IsFlags 0
  no_flags = some_flags false false

  -- expressions before effects

  direct_end : (E : ℕ → Type 0) (e : Tree) (p : Place) → F.IsValue in_dat e → (row : List Part) → Makes E (Ends E) (λ i. effects i row) → Makes E (TakesSource E) (λ i. effects (direct i e p) row)
  direct_end E e p we row y i ef takes = y (direct i e p) ef (takes i.immediate e p we)

  immediate_end : (E : ℕ → Type 0) (e : Tree) (p : Place) → F.IsValue in_dat e → (row : List Part) → Makes E (Ends E) (λ i. effects i row) → Makes E (TakesSource E) (λ i. effects (immediate i e p) row)
  immediate_end E e p we row y i ef takes = y (immediate i e p) ef (takes true e p we)

  only_end : (e : Tree) (p : Place) → F.IsValue in_dat e → (row : List Part) → Makes IsEffects (Ends IsEffects) (λ i. effects i row) → Makes IsEffects TakesOne (λ i. effects (to i e p) row)
  only_end e p we row y i ef takes = y (to i e p) ef (takes e p we)

  -- no effect is left
  over : (E : ℕ → Type 0) → Makes E (Ends E) (λ i. effects i [])
  over E i ef ends = found i (ends i.effects ef)

  -- contents

  sized : (row : List Part) → Has (AreData F) (all_items row) → (x : Line) (n : ℕ) (p : Place) → IfThere (IsLabel F) x.label → IsSize n → Has (IsLine F) (body x (size n p ∷ row))
  sized row y x n p l s = mapped (λ d. filled x p (Data n d)) (λ d are. with_contents l (of_data s are)) y

  with_org : (row : List Part) → Has (IfThere (F.IsValue in_dat)) (value row) → (x : Line) (p : Place) → IfThere (IsLabel F) x.label → Has (IsLine F) (body x (org p ∷ row))
  with_org row y x p l = mapped (λ v. filled x p (Org v)) (λ v is. with_contents l (of_org is)) y

  with_res : (row : List Part) → Has (IfThere (F.IsValue in_dat)) (value row) → (x : Line) (p : Place) → IfThere (IsLabel F) x.label → Has (IsLine F) (body x (res p ∷ row))
  with_res row y x p l = mapped (λ v. filled x p (Res v)) (λ v is. with_contents l (of_res is)) y

  with_fit : (row : List Part) → Has (IfThere (F.IsValue in_dat)) (value row) → (x : Line) (p : Place) → IfThere (IsLabel F) x.label → Has (IsLine F) (body x (fit p ∷ row))
  with_fit row y x p l = mapped (λ v. filled x p (Fit v)) (λ v is. with_contents l (of_fit is)) y

  -- an instruction's word, with what stands after it

  as_line : (x : Line) (p : Place) → IfThere (IsLabel F) x.label → (i : Instruction) → IsInstruction F i → IsLine F (filled x p (Instr i))
  as_line x p l i h = with_contents l (of_instruction h)

  with_two : (ps : List Part) → Goal state.Destination ps → (c : ℕ) (x : Line) (w : Word) (p : Place) → IsCondition c → IfThere (IsLabel F) x.label → IsTrue (takes_two w) → Has (IsLine F) (instruction c x (other w p ∷ before_end ps))
  unfolding bare
  with_two ps y c x w p k l h = mapped (λ i. filled x p (Instr i)) (as_line x p l) (y (bare c w p) no_effects (λ d q wd b e r we f ef. two w h k wd we ef))

  with_memory : (ps : List Part) → Goal state.MemoryDestination ps → (c : ℕ) (x : Line) (w : Word) (p : Place) → IsCondition c → IfThere (IsLabel F) x.label → IsTrue (is_on_memory w) → Has (IsLine F) (instruction c x (other w p ∷ before_end ps))
  unfolding bare
  with_memory ps y c x w p k l h = mapped (λ i. filled x p (Instr i)) (as_line x p l) (y (bare c w p) no_flags (λ d q wd b e r we f ef. on_memory w h k wd we ef))

  with_one : (ps : List Part) → Goal state.OnlyDestination ps → (c : ℕ) (x : Line) (w : Word) (p : Place) → IsCondition c → IfThere (IsLabel F) x.label → IsTrue (takes_one w) → Has (IsLine F) (instruction c x (other w p ∷ before_end ps))
  unfolding bare
  with_one ps y c x w p k l h = mapped (λ i. filled x p (Instr i)) (as_line x p l) (y (bare c w p) no_effects (λ d q wd f ef. one w h k wd ef))

  with_jump : (ps : List Part) → Goal state.Source ps → (c : ℕ) (x : Line) (p : Place) → IsCondition c → IfThere (IsLabel F) x.label → Has (IsLine F) (instruction c x (jump p ∷ before_end ps))
  unfolding bare
  with_jump ps y c x p k l = mapped (λ i. filled x p (Instr i)) (as_line x p l) (y (bare c word.Jmp p) no_effects (λ b e r we f ef. made.jump k we ef))

  with_call : (ps : List Part) → Goal state.CallHash ps → (c : ℕ) (x : Line) (p : Place) → IsCondition c → IfThere (IsLabel F) x.label → Has (IsLine F) (instruction c x (other word.Call p ∷ before_end ps))
  unfolding bare
  with_call ps y c x p k l = mapped (λ i. filled x p (Instr i)) (as_line x p l) (y (bare c word.Call p) no_effects (λ n q is f ef. call k is ef))

  with_ret : (ps : List Part) → Goal state.Effects ps → (c : ℕ) (x : Line) (p : Place) → IsCondition c → IfThere (IsLabel F) x.label → Has (IsLine F) (instruction c x (other word.Ret p ∷ before_end ps))
  unfolding bare
  with_ret ps y c x p k l = mapped (λ i. filled x p (Instr i)) (as_line x p l) (y.1 (bare c word.Ret p) no_effects (λ f ef. made.return k ef))

  with_nop : (ps : List Part) → Goal state.LineEnd ps → (c : ℕ) (x : Line) (p : Place) → IsCondition c → IfThere (IsLabel F) x.label → Has (IsLine F) (instruction c x (other word.Nop p ∷ before_end ps))
  unfolding bare
  with_nop ps y c x p k l = mapped (λ i. filled x p (Instr i)) (as_line x p l) (y (bare c word.Nop p) (made.nothing k))

  -- items of data

  one_more : (read : List Datum) (x : Datum) → AreData F read → IsDatum F x → AreData F (read ++ x ∷ [])
  one_more [] x are is = (is, tt)
  one_more (r ∷ read) x are is = (are.0, one_more read x are.1 is)

  item : (read : List Datum) (s : Option ℕ) (e : Tree) (c : Option Tree) → AreData F read → IfThere IsSize s → F.IsValue in_data_item e → IfThere (F.IsValue in_dat) c → AreData F (read ++ datum s e c ∷ [])
  item read s e c are is we wc = one_more read (datum s e c) are (record { size = is; value = we; count = wc })

  last_item : (read : List Datum) (s : Option ℕ) (e : Tree) (c : Option Tree) → AreData F read → IfThere IsSize s → F.IsValue in_data_item e → IfThere (F.IsValue in_dat) c → Has (AreData F) (Some (read ++ datum s e c ∷ []))
  last_item read s e c are is we wc = found (read ++ datum s e c ∷ []) (item read s e c are is we wc)

  next_item : (ps : List Part) → Goal state.Data ps → (read : List Datum) (s : Option ℕ) (e : Tree) (c : Option Tree) → AreData F read → IfThere IsSize s → F.IsValue in_data_item e → IfThere (F.IsValue in_dat) c → Has (AreData F) (items (read ++ datum s e c ∷ []) (before None) (before_end ps))
  next_item ps y read s e c are is we wc = y (read ++ datum s e c ∷ []) (item read s e c are is we wc)

  -- what each state owes

  keeps : (q : LineState) (ps : List Part) → IsTrue (own q) → Keeps F Goal q ps
  keeps state.End ps h = record {
    arrows = tt;
    phrase = tt;
  }
  keeps state.LineEnd ps h = record {
    arrows = ((λ y i is. found i is), tt);
    phrase = tt;
  }
  keeps state.DatHead ps h = record {
    arrows = ((λ y p. found None tt), ((λ y n q is p. mapped Some (λ x h. h) (y p n (plain is))), ((λ y q p. mapped Some (λ x h. h) (y p q)), ((λ y n q s p. mapped Some (λ x h. h) (sized (before_end ps) y (blank p None) n q tt s)), ((λ y q p. mapped Some (λ x h. h) (with_org (before_end ps) y (blank p None) q tt)), ((λ y q p. mapped Some (λ x h. h) (with_res (before_end ps) y (blank p None) q tt)), ((λ y q p. mapped Some (λ x h. h) (with_fit (before_end ps) y (blank p None) q tt)), ((λ y w k p. mapped Some (λ x h. h) (y (made.condition_number w) (blank p None) (a_condition w k) tt)), ((λ y w q h p. mapped Some (λ x h. h) (with_two ps y 15 (blank p None) w q no_condition tt h)), ((λ y w q h p. mapped Some (λ x h. h) (with_memory ps y 15 (blank p None) w q no_condition tt h)), ((λ y w q h p. mapped Some (λ x h. h) (with_one ps y 15 (blank p None) w q no_condition tt h)), ((λ y q p. mapped Some (λ x h. h) (with_jump ps y 15 (blank p None) q no_condition tt)), ((λ y q p. mapped Some (λ x h. h) (with_call ps y 15 (blank p None) q no_condition tt)), ((λ y q p. mapped Some (λ x h. h) (with_ret ps y 15 (blank p None) q no_condition tt)), ((λ y q p. mapped Some (λ x h. h) (with_nop ps y 15 (blank p None) q no_condition tt)), tt)))))))))))))));
    phrase = tt;
  }
  keeps state.DatLine ps h = record {
    arrows = ((λ y n q is p. mapped Some (λ x h. h) (y p n (plain is))), ((λ y q p. mapped Some (λ x h. h) (y p q)), ((λ y n q s p. mapped Some (λ x h. h) (sized (before_end ps) y (blank p None) n q tt s)), ((λ y q p. mapped Some (λ x h. h) (with_org (before_end ps) y (blank p None) q tt)), ((λ y q p. mapped Some (λ x h. h) (with_res (before_end ps) y (blank p None) q tt)), ((λ y q p. mapped Some (λ x h. h) (with_fit (before_end ps) y (blank p None) q tt)), ((λ y w k p. mapped Some (λ x h. h) (y (made.condition_number w) (blank p None) (a_condition w k) tt)), ((λ y w q h p. mapped Some (λ x h. h) (with_two ps y 15 (blank p None) w q no_condition tt h)), ((λ y w q h p. mapped Some (λ x h. h) (with_memory ps y 15 (blank p None) w q no_condition tt h)), ((λ y w q h p. mapped Some (λ x h. h) (with_one ps y 15 (blank p None) w q no_condition tt h)), ((λ y q p. mapped Some (λ x h. h) (with_jump ps y 15 (blank p None) q no_condition tt)), ((λ y q p. mapped Some (λ x h. h) (with_call ps y 15 (blank p None) q no_condition tt)), ((λ y q p. mapped Some (λ x h. h) (with_ret ps y 15 (blank p None) q no_condition tt)), ((λ y q p. mapped Some (λ x h. h) (with_nop ps y 15 (blank p None) q no_condition tt)), tt))))))))))))));
    phrase = tt;
  }
  keeps state.DatLabel ps h = record {
    arrows = ((λ y n r is p q. y p (local n) (behind_colon is)), tt);
    phrase = tt;
  }
  keeps state.DatBody ps h = record {
    arrows = ((λ y p n is. found (blank p (Some n)) (label_alone is)), ((λ y n q s p m is. sized (before_end ps) y (blank p (Some m)) n q is s), ((λ y q p m is. with_org (before_end ps) y (blank p (Some m)) q is), ((λ y q p m is. with_res (before_end ps) y (blank p (Some m)) q is), ((λ y q p m is. with_fit (before_end ps) y (blank p (Some m)) q is), ((λ y w k p m is. y (made.condition_number w) (blank p (Some m)) (a_condition w k) is), ((λ y w q h p m is. with_two ps y 15 (blank p (Some m)) w q no_condition is h), ((λ y w q h p m is. with_memory ps y 15 (blank p (Some m)) w q no_condition is h), ((λ y w q h p m is. with_one ps y 15 (blank p (Some m)) w q no_condition is h), ((λ y q p m is. with_jump ps y 15 (blank p (Some m)) q no_condition is), ((λ y q p m is. with_call ps y 15 (blank p (Some m)) q no_condition is), ((λ y q p m is. with_ret ps y 15 (blank p (Some m)) q no_condition is), ((λ y q p m is. with_nop ps y 15 (blank p (Some m)) q no_condition is), tt)))))))))))));
    phrase = tt;
  }
  keeps state.DatValue ps h = record {
    arrows = ((λ y. found None tt), tt);
    phrase = (((λ y e p we. found (Some e) we), tt), ((λ y e p we. found (Some e) we), tt));
  }
  keeps state.FirstData ps h = record {
    arrows = ((λ y. found [] tt), ((λ y n p is. y [] n tt is), ((λ y t p is. y [] None (node p (Str t)) None tt tt (F.of_text t p is) tt), tt)));
    phrase = (((λ y e p we. y [] None e tt tt we), ((λ y e p we. next_item ps y [] None e None tt tt we tt), ((λ y e p we. last_item [] None e None tt tt we tt), tt))), ((λ y e p we. y [] None e tt tt we), ((λ y e p we. next_item ps y [] None e None tt tt we tt), ((λ y e p we. last_item [] None e None tt tt we tt), tt))));
  }
  keeps state.Data ps h = record {
    arrows = ((λ y n p is read are. y read n are is), ((λ y t p is read are. y read None (node p (Str t)) None are tt (F.of_text t p is) tt), tt));
    phrase = (((λ y e p we read are. y read None e are tt we), ((λ y e p we read are. next_item ps y read None e None are tt we tt), ((λ y e p we read are. last_item read None e None are tt we tt), tt))), ((λ y e p we read are. y read None e are tt we), ((λ y e p we read are. next_item ps y read None e None are tt we tt), ((λ y e p we read are. last_item read None e None are tt we tt), tt))));
  }
  keeps state.DataValue ps h = record {
    arrows = ((λ y t p is read n are s. y read (Some n) (node p (Str t)) None are s (F.of_text t p is) tt), tt);
    phrase = (((λ y e p we read n are s. y read (Some n) e are s we), ((λ y e p we read n are s. next_item ps y read (Some n) e None are s we tt), ((λ y e p we read n are s. last_item read (Some n) e None are s we tt), tt))), ((λ y e p we read n are s. y read (Some n) e are s we), ((λ y e p we read n are s. next_item ps y read (Some n) e None are s we tt), ((λ y e p we read n are s. last_item read (Some n) e None are s we tt), tt))));
  }
  keeps state.DataCount ps h = record {
    arrows = tt;
    phrase = (((λ y c p wc read s e are is we. y read s e (Some c) are is we wc), tt), ((λ y c p wc read s e are is we. y read s e (Some c) are is we wc), tt));
  }
  keeps state.MoreData ps h = record {
    arrows = ((λ y read s e c are is we wc. next_item ps y read s e c are is we wc), ((λ y read s e c are is we wc. last_item read s e c are is we wc), tt));
    phrase = tt;
  }
  keeps state.Conditioned ps h = record {
    arrows = ((λ y w q h c x k l. with_two ps y c x w q k l h), ((λ y w q h c x k l. with_memory ps y c x w q k l h), ((λ y w q h c x k l. with_one ps y c x w q k l h), ((λ y q c x k l. with_jump ps y c x q k l), ((λ y q c x k l. with_call ps y c x q k l), ((λ y q c x k l. with_ret ps y c x q k l), ((λ y q c x k l. with_nop ps y c x q k l), tt)))))));
    phrase = tt;
  }
  keeps state.Destination ps h = record {
    arrows = tt;
    phrase = (((λ y e p we i ef takes. y (to i e p) ef (takes e p we)), tt), ((λ y e p we i ef takes. y (to i e p) ef (takes e p we)), tt));
  }
  keeps state.Source ps h = record {
    arrows = ((λ y i ef takes. y i ef takes), tt);
    phrase = (((λ y. ((λ e p we. direct_end IsEffects e p we (effect 1 ∷ before_end ps) (affected IsEffects 1 with_wz (before_end ps) y)), (λ e p we. direct_end IsEffects e p we (effect 2 ∷ before_end ps) (affected IsEffects 2 with_wc (before_end ps) y)))), ((λ y. ((λ e p we. direct_end IsEffects e p we (effect 4 ∷ before_end ps) (affected IsEffects 4 with_wr (before_end ps) y)), (λ e p we. direct_end IsEffects e p we (effect 8 ∷ before_end ps) (affected IsEffects 8 with_nr (before_end ps) y)))), ((λ y e p we. direct_end IsEffects e p we [] (over IsEffects)), tt))), ((λ y. ((λ e p we. direct_end IsEffects e p we (effect 1 ∷ before_end ps) (affected IsEffects 1 with_wz (before_end ps) y)), (λ e p we. direct_end IsEffects e p we (effect 2 ∷ before_end ps) (affected IsEffects 2 with_wc (before_end ps) y)))), ((λ y. ((λ e p we. direct_end IsEffects e p we (effect 4 ∷ before_end ps) (affected IsEffects 4 with_wr (before_end ps) y)), (λ e p we. direct_end IsEffects e p we (effect 8 ∷ before_end ps) (affected IsEffects 8 with_nr (before_end ps) y)))), ((λ y e p we. direct_end IsEffects e p we [] (over IsEffects)), tt))));
  }
  keeps state.SourceValue ps h = record {
    arrows = tt;
    phrase = (((λ y. ((λ e p we. immediate_end IsEffects e p we (effect 1 ∷ before_end ps) (affected IsEffects 1 with_wz (before_end ps) y)), (λ e p we. immediate_end IsEffects e p we (effect 2 ∷ before_end ps) (affected IsEffects 2 with_wc (before_end ps) y)))), ((λ y. ((λ e p we. immediate_end IsEffects e p we (effect 4 ∷ before_end ps) (affected IsEffects 4 with_wr (before_end ps) y)), (λ e p we. immediate_end IsEffects e p we (effect 8 ∷ before_end ps) (affected IsEffects 8 with_nr (before_end ps) y)))), ((λ y e p we. immediate_end IsEffects e p we [] (over IsEffects)), tt))), ((λ y. ((λ e p we. immediate_end IsEffects e p we (effect 1 ∷ before_end ps) (affected IsEffects 1 with_wz (before_end ps) y)), (λ e p we. immediate_end IsEffects e p we (effect 2 ∷ before_end ps) (affected IsEffects 2 with_wc (before_end ps) y)))), ((λ y. ((λ e p we. immediate_end IsEffects e p we (effect 4 ∷ before_end ps) (affected IsEffects 4 with_wr (before_end ps) y)), (λ e p we. immediate_end IsEffects e p we (effect 8 ∷ before_end ps) (affected IsEffects 8 with_nr (before_end ps) y)))), ((λ y e p we. immediate_end IsEffects e p we [] (over IsEffects)), tt))));
  }
  keeps state.MemoryDestination ps h = record {
    arrows = tt;
    phrase = (((λ y e p we i ef takes. y (to i e p) ef (takes e p we)), tt), ((λ y e p we i ef takes. y (to i e p) ef (takes e p we)), tt));
  }
  keeps state.MemorySource ps h = record {
    arrows = ((λ y i ef takes. y i ef takes), tt);
    phrase = (((λ y. ((λ e p we. direct_end IsFlags e p we (effect 1 ∷ before_end ps) (affected IsFlags 1 flag_wz (before_end ps) y)), (λ e p we. direct_end IsFlags e p we (effect 2 ∷ before_end ps) (affected IsFlags 2 flag_wc (before_end ps) y)))), ((λ y e p we. direct_end IsFlags e p we [] (over IsFlags)), tt)), ((λ y. ((λ e p we. direct_end IsFlags e p we (effect 1 ∷ before_end ps) (affected IsFlags 1 flag_wz (before_end ps) y)), (λ e p we. direct_end IsFlags e p we (effect 2 ∷ before_end ps) (affected IsFlags 2 flag_wc (before_end ps) y)))), ((λ y e p we. direct_end IsFlags e p we [] (over IsFlags)), tt)));
  }
  keeps state.MemorySourceValue ps h = record {
    arrows = tt;
    phrase = (((λ y. ((λ e p we. immediate_end IsFlags e p we (effect 1 ∷ before_end ps) (affected IsFlags 1 flag_wz (before_end ps) y)), (λ e p we. immediate_end IsFlags e p we (effect 2 ∷ before_end ps) (affected IsFlags 2 flag_wc (before_end ps) y)))), ((λ y e p we. immediate_end IsFlags e p we [] (over IsFlags)), tt)), ((λ y. ((λ e p we. immediate_end IsFlags e p we (effect 1 ∷ before_end ps) (affected IsFlags 1 flag_wz (before_end ps) y)), (λ e p we. immediate_end IsFlags e p we (effect 2 ∷ before_end ps) (affected IsFlags 2 flag_wc (before_end ps) y)))), ((λ y e p we. immediate_end IsFlags e p we [] (over IsFlags)), tt)));
  }
  keeps state.OnlyDestination ps h = record {
    arrows = tt;
    phrase = (((λ y. ((λ e p we. only_end e p we (effect 1 ∷ before_end ps) (affected IsEffects 1 with_wz (before_end ps) y)), (λ e p we. only_end e p we (effect 2 ∷ before_end ps) (affected IsEffects 2 with_wc (before_end ps) y)))), ((λ y. ((λ e p we. only_end e p we (effect 4 ∷ before_end ps) (affected IsEffects 4 with_wr (before_end ps) y)), (λ e p we. only_end e p we (effect 8 ∷ before_end ps) (affected IsEffects 8 with_nr (before_end ps) y)))), ((λ y e p we. only_end e p we [] (over IsEffects)), tt))), ((λ y. ((λ e p we. only_end e p we (effect 1 ∷ before_end ps) (affected IsEffects 1 with_wz (before_end ps) y)), (λ e p we. only_end e p we (effect 2 ∷ before_end ps) (affected IsEffects 2 with_wc (before_end ps) y)))), ((λ y. ((λ e p we. only_end e p we (effect 4 ∷ before_end ps) (affected IsEffects 4 with_wr (before_end ps) y)), (λ e p we. only_end e p we (effect 8 ∷ before_end ps) (affected IsEffects 8 with_nr (before_end ps) y)))), ((λ y e p we. only_end e p we [] (over IsEffects)), tt))));
  }
  keeps state.CallHash ps h = record {
    arrows = ((λ y i ef takes. y i ef takes), tt);
    phrase = tt;
  }
  keeps state.CallLabel ps h = record {
    arrows = ((λ y n p is i ef takes. y.0 (immediate i (label n p) p) ef (takes n p (plain is))), ((λ y p. y p), tt));
    phrase = tt;
  }
  keeps state.CallLocal ps h = record {
    arrows = ((λ y n q is p i ef takes. y.0 (immediate i (label (local n) p) p) ef (takes (local n) p (behind_colon is))), tt);
    phrase = tt;
  }
  keeps state.Effects ps h = record {
    arrows = ((λ y. ((affected IsEffects 1 with_wz (before_end ps) y, affected IsEffects 1 with_wz (before_end ps) y), (affected IsEffects 2 with_wc (before_end ps) y, affected IsEffects 2 with_wc (before_end ps) y))), ((λ y. ((affected IsEffects 4 with_wr (before_end ps) y, affected IsEffects 4 with_wr (before_end ps) y), (affected IsEffects 8 with_nr (before_end ps) y, affected IsEffects 8 with_nr (before_end ps) y))), ((λ y. (over IsEffects, over IsEffects)), tt)));
    phrase = tt;
  }
  keeps state.MoreEffects ps h = record {
    arrows = ((λ y. (affected IsEffects 1 with_wz (before_end ps) y, affected IsEffects 2 with_wc (before_end ps) y)), ((λ y. (affected IsEffects 4 with_wr (before_end ps) y, affected IsEffects 8 with_nr (before_end ps) y)), ((λ y i ef ends. y i ef ends), ((λ y. over IsEffects), tt))));
    phrase = tt;
  }
  keeps state.Effect ps h = record {
    arrows = ((λ y. (affected IsEffects 1 with_wz (before_end ps) y, affected IsEffects 2 with_wc (before_end ps) y)), ((λ y. (affected IsEffects 4 with_wr (before_end ps) y, affected IsEffects 8 with_nr (before_end ps) y)), tt));
    phrase = tt;
  }
  keeps state.MoreFlags ps h = record {
    arrows = ((λ y. (affected IsFlags 1 flag_wz (before_end ps) y, affected IsFlags 2 flag_wc (before_end ps) y)), ((λ y i ef ends. y i ef ends), ((λ y. over IsFlags), tt)));
    phrase = tt;
  }
  keeps state.FlagEffect ps h = record {
    arrows = ((λ y. (affected IsFlags 1 flag_wz (before_end ps) y, affected IsFlags 2 flag_wc (before_end ps) y)), tt);
    phrase = tt;
  }
  keeps q ps h = absurd cc

empty_row : {q : LineState} {ts : List LineToken} → Row q [] ts → q ≡ state.End
empty_row lines.over = refl

line_made : (F : Facts) (q : LineState) → IsTrue (own q) → (q ≡ state.End → ⊥) → ((row : List Part) → Goal F q row → (p : Place) → Has (IfThere (IsLine F)) (maybe_line p (before_end row))) → (row : List Piece) (ts : List LineToken) → Row q row ts → AreKnown F row → Has (IfThere (IsLine F)) (line_of_row row)
line_made F q o n goal [] ts r a = absurd (n (empty_row r))
line_made F q o n goal (x ∷ row) ts r a = goal _ (holds F own own_closed (Goal F) tt (keeps F) r a o) (place_of x)

pub from_head : (F : Facts) (row : List Piece) (ts : List LineToken) → Row state.DatHead row ts → AreKnown F row → Has (IfThere (IsLine F)) (line_of_row row)
from_head F = line_made F state.DatHead refl (λ e. cc) (λ row g. g)

pub from_line : (F : Facts) (row : List Piece) (ts : List LineToken) → Row state.DatLine row ts → AreKnown F row → Has (IfThere (IsLine F)) (line_of_row row)
from_line F = line_made F state.DatLine refl (λ e. cc) (λ row g. g)
