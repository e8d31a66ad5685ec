-- Lines of DAT, read back.
use Rattle.std.proofs.Common.{◌≡◌, ◌⊎◌, inl, inr, ℕ, List, [], ◌∷◌, ◌++◌, Option, Some, None, option_map, refl, sym, ap, ◌∙◌, subst, append-nil}
use Rattle.std.specs.Prelude.{IsTrue}
use Rattle.p8_tree.specs.declared.places.Place.{Place}
use Rattle.p8_tree.specs.Expressions.{Tree}
use Rattle.p8_tree.specs.Forgetting.{anywhere, tree_anywhere, contents_anywhere, line_anywhere}
use Rattle.p8_tree.specs.Sources.{Instruction, Contents, Nothing, Data, Org, Res, Fit, Instr, Line}
use Rattle.p8_lexer.specs.declared.word.Word.{Word}
use Rattle.p8_lexer.specs.Words.{symbols, reserved_words, every_word}
use Rattle.p8_lexer.specs.Meanings.{word_by}
use Rattle.p8_lexer.specs.Table.{rows}
use Rattle.p8_lexer.specs.declared.word.Word.TheVariants as word
use Rattle.p8_grammar.specs.Lexemes.{in_dat}
use Rattle.p8_lexer.specs.Pieces.{Piece}
use Rattle.p8_lines.specs.declared.arrow.Arrow.{Arrow}
use Rattle.p8_lines.specs.declared.state.LineState.TheVariants as state
use Rattle.p8_lines.specs.Signs.{is_condition}
use Rattle.p8_lines.specs.Diagram.{◌⇒◌, choices}
use Rattle.p8_lines.specs.Tokens as tokens
use Rattle.p8_lines.specs.Tokens.{LineToken, piece}
use Rattle.p8_lines.specs.Lines.{Leads}
use Rattle.p8_lines.proofs.Matching.{target}
use Rattle.p8_declarations.specs.DataParts.{Part, tree, colon, name, size, org, res, fit, condition, place_of, part_of_word, part_of_piece, parts}
use Rattle.p8_declarations.specs.Lines.{value, filled, instruction, body, blank, maybe_line, line_of_row}
use Rattle.p8_print.specs.Spelled as spelled
use Rattle.p8_print.specs.Spelled.{Spelled, reserved}
use Rattle.p8_print.specs.Tables.{size_word}
use Rattle.p8_print.specs.Wording.{words_of_name, words_of_value}
use Rattle.p8_printed.specs.Rereading.{AreSpelled}
use Rattle.p8_print.specs.DataWords.{words_of_condition, instruction_word, words_of_operands, words_of_effects, words_of_instruction, words_of_contents, words_of_line}
use Rattle.p8_printed.proofs.Readings.{IsRead, IsSize, byte_size, word_size, long_size}
use Rattle.p8_printed.proofs.Made.{IfThere, IsLabel, plain, behind_colon, condition_number, IsCondition, a_condition, no_condition, IsInstruction, two, on_memory, one, jump, call, return, nothing, IsContents, of_data, of_org, of_res, of_fit, of_instruction, IsLine, label_alone, with_contents}
use Rattle.p8_blocks.proofs.DataWords.{plain_part, condition_part}
use Rattle.p8_printed.proofs.DataNames.{part_of_name, name_words}
use Rattle.p8_printed.proofs.Going.{AreEnded, ended, Leading, Going, by_arrow, by_label, on_word, at_end, so, tree_read, behind_tree}
use Rattle.p8_printed.proofs.Operands.{colon_part}
use Rattle.p8_printed.proofs.Items.{size_part, data_read}
use Rattle.p8_printed.proofs.InstructionsRead.{Starts, line_starts, body_starts, conditioned_starts, word_read}

-- the value after ORG, RES or FIT
record HasValue (v : Option Tree) (ps : List Part) : Type 0 where
  pub other : Option Tree
  pub is : value ps ≡ Some other
  pub same : option_map tree_anywhere other ≡ option_map tree_anywhere v

abbrev line_end_alone : List Arrow
line_end_alone = word.LineEnd ⇒ state.End ∷ []

value_read : (v : Option Tree) (ts : List LineToken) → IfThere (IsRead in_dat) v → AreEnded (words_of_value v) ts → Leading state.DatValue ts (HasValue v)
value_read None ts was are = by_arrow state.DatValue refl (at_end (choices state.DatValue).arrows ts are (λ n. refl) (record { other = None; is = refl; same = refl }))
value_read (Some e) ts was are =
    let y = tree_read in_dat e [] ts was (subst (λ ws. AreEnded ws ts) (sym (append-nil (words_of_value (Some e)))) are) in
    behind_tree state.DatValue in_dat line_end_alone (HasValue (Some e)) refl y (at_end line_end_alone y.right {K = λ ps. ps ≡ []} y.rest (λ n. refl) refl)
    (λ ps k. record { other = Some y.other; is = ap (λ ps. value (tree y.other y.first.place ∷ ps)) k; same = ap (λ e. Some e) y.same })

-- what a line has after its label
record HasBody (c : Contents) (ps : List Part) : Type 0 where
  pub place : Place
  pub other : Contents
  pub given : (x : Line) → body x ps ≡ Some (filled x place other)
  pub same : contents_anywhere other ≡ contents_anywhere c
  pub as_line : (p : Place) → maybe_line p ps ≡ option_map (λ x. Some x) (body (blank p None) ps)

-- conditions

pub condition_of : {i : Instruction} → IsInstruction i → IsCondition i.cond
condition_of (two w h k wd we ef) = k
condition_of (on_memory w h k wd we ef) = k
condition_of (one w h k wd ef) = k
condition_of (jump k we ef) = k
condition_of (call k is ef) = k
condition_of (return k ef) = k
condition_of (nothing k) = k

pub condition_words : (w : Word) → IsTrue (is_condition w) → ((words_of_condition (condition_number w) ≡ []) × (condition_number w ≡ 15)) ⊎ (words_of_condition (condition_number w) ≡ reserved w ∷ [])
unfolding part_of_word condition_number word_by rows every_word symbols reserved_words
condition_words word.IfAlways h = inl (refl, refl)
condition_words word.IfNever h = inr refl
condition_words word.IfE h = inr refl
condition_words word.IfNe h = inr refl
condition_words word.IfA h = inr refl
condition_words word.IfB h = inr refl
condition_words word.IfAe h = inr refl
condition_words word.IfBe h = inr refl
condition_words word.IfNcAndZ h = inr refl
condition_words word.IfCAndNz h = inr refl
condition_words word.IfCAndZ h = inr refl
condition_words word.IfCEqZ h = inr refl
condition_words word.IfCNeZ h = inr refl
condition_words word.IfCOrNz h = inr refl
condition_words word.IfNcOrZ h = inr refl
condition_words word.IfNcOrNz h = inr refl
condition_words w h = absurd cc

-- these arrows have those of contents
record StartsBody (l : List Arrow) : Type 0 where
  pub instructions : Starts l
  pub conditions : (w : Word) (n : ℕ) → IsTrue (is_condition w) → target l w n ≡ Some state.Conditioned
  pub sizes : (n m : ℕ) → IsSize n → target l (size_word n) m ≡ Some state.FirstData
  pub org : (n : ℕ) → target l word.Org n ≡ Some state.DatValue
  pub res : (n : ℕ) → target l word.Res n ≡ Some state.DatValue
  pub fit : (n : ℕ) → target l word.Fit n ≡ Some state.DatValue

conditions_line : (w : Word) (n : ℕ) → IsTrue (is_condition w) → target (choices state.DatLine).arrows w n ≡ Some state.Conditioned
conditions_line word.IfAlways n h = refl
conditions_line word.IfNever n h = refl
conditions_line word.IfE n h = refl
conditions_line word.IfNe n h = refl
conditions_line word.IfA n h = refl
conditions_line word.IfB n h = refl
conditions_line word.IfAe n h = refl
conditions_line word.IfBe n h = refl
conditions_line word.IfNcAndZ n h = refl
conditions_line word.IfCAndNz n h = refl
conditions_line word.IfCAndZ n h = refl
conditions_line word.IfCEqZ n h = refl
conditions_line word.IfCNeZ n h = refl
conditions_line word.IfCOrNz n h = refl
conditions_line word.IfNcOrZ n h = refl
conditions_line word.IfNcOrNz n h = refl
conditions_line w n h = absurd cc

sizes_line : (n m : ℕ) → IsSize n → target (choices state.DatLine).arrows (size_word n) m ≡ Some state.FirstData
unfolding word_by rows every_word symbols reserved_words
sizes_line n m byte_size = refl
sizes_line n m word_size = refl
sizes_line n m long_size = refl

starts_line : StartsBody (choices state.DatLine).arrows
starts_line = record { instructions = line_starts; conditions = conditions_line; sizes = sizes_line; org = λ n. refl; res = λ n. refl; fit = λ n. refl }

conditions_body : (w : Word) (n : ℕ) → IsTrue (is_condition w) → target (choices state.DatBody).arrows w n ≡ Some state.Conditioned
conditions_body word.IfAlways n h = refl
conditions_body word.IfNever n h = refl
conditions_body word.IfE n h = refl
conditions_body word.IfNe n h = refl
conditions_body word.IfA n h = refl
conditions_body word.IfB n h = refl
conditions_body word.IfAe n h = refl
conditions_body word.IfBe n h = refl
conditions_body word.IfNcAndZ n h = refl
conditions_body word.IfCAndNz n h = refl
conditions_body word.IfCAndZ n h = refl
conditions_body word.IfCEqZ n h = refl
conditions_body word.IfCNeZ n h = refl
conditions_body word.IfCOrNz n h = refl
conditions_body word.IfNcOrZ n h = refl
conditions_body word.IfNcOrNz n h = refl
conditions_body w n h = absurd cc

sizes_body : (n m : ℕ) → IsSize n → target (choices state.DatBody).arrows (size_word n) m ≡ Some state.FirstData
unfolding word_by rows every_word symbols reserved_words
sizes_body n m byte_size = refl
sizes_body n m word_size = refl
sizes_body n m long_size = refl

starts_body : StartsBody (choices state.DatBody).arrows
starts_body = record { instructions = body_starts; conditions = conditions_body; sizes = sizes_body; org = λ n. refl; res = λ n. refl; fit = λ n. refl }

org_part : (t : LineToken) → tokens.word t ≡ word.Org → part_of_piece (piece t) ≡ org t.place
unfolding part_of_word
org_part t m = plain_part t word.Org refl m

res_part : (t : LineToken) → tokens.word t ≡ word.Res → part_of_piece (piece t) ≡ res t.place
unfolding part_of_word
res_part t m = plain_part t word.Res refl m

fit_part : (t : LineToken) → tokens.word t ≡ word.Fit → part_of_piece (piece t) ≡ fit t.place
unfolding part_of_word
fit_part t m = plain_part t word.Fit refl m

-- what a line has after its label, if its word is another than that of an instruction
module _ (l : List Arrow) (starts : StartsBody l) where
  without_condition : (i : Instruction) (ts : List LineToken) → IsInstruction i → i.cond ≡ 15 → AreEnded (reserved (instruction_word i.word) ∷ (words_of_operands i ++ words_of_effects i.effects)) ts → Going l ts (HasBody (Instr i))
  without_condition i ts is e are =
      so (word_read l starts.instructions i ts is are)
      (λ ps k. record { place = k.place; other = Instr k.other; given = λ x. k.as_body x ∙ (ap (λ c. instruction c x ps) (sym e) ∙ k.given x); same = ap (λ i. Instr i) k.same; as_line = k.as_line })

  with_condition : (w : Word) (i : Instruction) (ts : List LineToken) → IsTrue (is_condition w) → IsInstruction i → i.cond ≡ condition_number w → AreEnded (reserved w ∷ reserved (instruction_word i.word) ∷ (words_of_operands i ++ words_of_effects i.effects)) ts → Going l ts (HasBody (Instr i))
  with_condition w i [] h is e are = absurd are
  with_condition w i (t ∷ ts) h is e are =
      on_word l t w state.Conditioned (condition (condition_number w)) (HasBody (Instr i)) are.0.word (λ n. starts.conditions w n h) (condition_part t w are.0.word h) refl
      (by_arrow state.Conditioned refl (word_read (choices state.Conditioned).arrows conditioned_starts i ts is are.1))
      (λ ps k. record { place = k.place; other = Instr k.other; given = λ x. ap (λ c. instruction c x ps) (sym e) ∙ k.given x; same = ap (λ i. Instr i) k.same; as_line = λ p. refl })

  instruction_read : (i : Instruction) (ts : List LineToken) → IsInstruction i → AreEnded (words_of_instruction i) ts → Going l ts (HasBody (Instr i))
  instruction_read i ts is are = go i.cond (condition_of is) refl are
    where
      go : (c : ℕ) → IsCondition c → i.cond ≡ c → AreEnded (words_of_condition c ++ reserved (instruction_word i.word) ∷ (words_of_operands i ++ words_of_effects i.effects)) ts → Going l ts (HasBody (Instr i))
      go c no_condition e are = without_condition i ts is e are
      go c (a_condition w h) e are = by_words w h (condition_words w h) e are
        where
          by_words : (w : Word) → IsTrue (is_condition w) → ((words_of_condition (condition_number w) ≡ []) × (condition_number w ≡ 15)) ⊎ (words_of_condition (condition_number w) ≡ reserved w ∷ []) → i.cond ≡ condition_number w → AreEnded (words_of_condition (condition_number w) ++ reserved (instruction_word i.word) ∷ (words_of_operands i ++ words_of_effects i.effects)) ts → Going l ts (HasBody (Instr i))
          by_words w h (inl y) e are = without_condition i ts is (e ∙ y.1) (subst (λ ws. AreEnded (ws ++ reserved (instruction_word i.word) ∷ (words_of_operands i ++ words_of_effects i.effects)) ts) y.0 are)
          by_words w h (inr y) e are = with_condition w i ts h is e (subst (λ ws. AreEnded (ws ++ reserved (instruction_word i.word) ∷ (words_of_operands i ++ words_of_effects i.effects)) ts) y are)

  contents_read : (c : Contents) (ts : List LineToken) → IsContents c → AreEnded (words_of_contents c) ts → Going l ts (HasBody c)
  contents_read c [] (of_data is kinds) are = absurd are
  contents_read c (t ∷ ts) (of_data {n = n} {xs = xs} is kinds) are =
      on_word l t (size_word n) state.FirstData (size n t.place) (HasBody (Data n xs)) are.0.word (λ m. starts.sizes n m is) (size_part n t is are.0.word) refl (data_read xs ts kinds are.1)
      (λ ps k. record { place = t.place; other = Data n k.others; given = λ x. ap (option_map (λ d. filled x t.place (Data n d))) k.is; same = ap (λ d. Data n d) k.same; as_line = λ p. refl })
  contents_read c [] (of_org is) are = absurd are
  contents_read c (t ∷ ts) (of_org {v = v} is) are =
      on_word l t word.Org state.DatValue (org t.place) (HasBody (Org v)) are.0.word starts.org (org_part t are.0.word) refl (value_read v ts is are.1)
      (λ ps k. record { place = t.place; other = Org k.other; given = λ x. ap (option_map (λ v. filled x t.place (Org v))) k.is; same = ap (λ v. Org v) k.same; as_line = λ p. refl })
  contents_read c [] (of_res is) are = absurd are
  contents_read c (t ∷ ts) (of_res {v = v} is) are =
      on_word l t word.Res state.DatValue (res t.place) (HasBody (Res v)) are.0.word starts.res (res_part t are.0.word) refl (value_read v ts is are.1)
      (λ ps k. record { place = t.place; other = Res k.other; given = λ x. ap (option_map (λ v. filled x t.place (Res v))) k.is; same = ap (λ v. Res v) k.same; as_line = λ p. refl })
  contents_read c [] (of_fit is) are = absurd are
  contents_read c (t ∷ ts) (of_fit {v = v} is) are =
      on_word l t word.Fit state.DatValue (fit t.place) (HasBody (Fit v)) are.0.word starts.fit (fit_part t are.0.word) refl (value_read v ts is are.1)
      (λ ps k. record { place = t.place; other = Fit k.other; given = λ x. ap (option_map (λ v. filled x t.place (Fit v))) k.is; same = ap (λ v. Fit v) k.same; as_line = λ p. refl })
  contents_read c ts (of_instruction {i = i} is) are = instruction_read i ts is are

-- a line
record HasLine (x : Line) (o : Option (Option Line)) : Type 0 where
  pub other : Line
  pub is : o ≡ Some (Some other)
  pub same : line_anywhere other ≡ line_anywhere x

abbrev Whole : Line → List Part → Type 0
Whole x ps = (p : Place) → HasLine x (maybe_line p ps)

-- a line with this label, of which the rest was read
abbrev Labelled : List ℕ → Line → List Part → Type 0
Labelled n x ps = (p : Place) → HasLine x (option_map (λ x. Some x) (body (blank p (Some n)) ps))

labels_read : (n : List ℕ) (x : Line) (rest : List Spelled) (ts : List LineToken) → IsLabel n → ((us : List LineToken) → AreEnded rest us → Leading state.DatBody us (Labelled n x)) → AreEnded (words_of_name n ++ rest) ts → Leading state.DatLine ts (Whole x)
labels_read n x rest ts (plain is) next are = go ts (subst (λ ws. AreEnded (ws ++ rest) ts) (name_words n is) are)
  where
    go : (ts : List LineToken) → AreEnded (spelled.name n ∷ rest) ts → Leading state.DatLine ts (Whole x)
    go [] are = absurd are
    go (t ∷ ts) are = by_arrow state.DatLine refl (on_word (choices state.DatLine).arrows t word.Name state.DatBody (name n t.place) (Whole x) are.0.word (λ m. refl) (part_of_name n t is are.0) refl (next ts are.1) (λ ps k p. k p))
labels_read n x rest [] (behind_colon is) next are = absurd are
labels_read n x rest (t ∷ []) (behind_colon is) next are = absurd are.1
labels_read n x rest (t ∷ u ∷ ts) (behind_colon {n = m} is) next are =
    let named : Leading state.DatLabel (u ∷ ts) (λ ps. Whole x (colon t.place ∷ ps))
    = by_label state.DatLabel state.DatBody refl refl m u (λ ps. Whole x (colon t.place ∷ ps)) is are.1.0 (next ts are.1.1) (λ ps k p. k p) in
    by_arrow state.DatLine refl (on_word (choices state.DatLine).arrows t word.Colon state.DatLabel (colon t.place) (Whole x) are.0.word (λ m. refl) (colon_part t are.0.word) refl named (λ ps k. k))

body_line : (p q : Place) (l : Option (List ℕ)) (c : Contents) (ps : List Part) → HasBody c ps → (r : Place) → HasLine (record { place = p; label = l; word_place = q; contents = c }) (option_map (λ x. Some x) (body (blank r l) ps))
body_line p q l c ps k r = record {
  other = filled (blank r l) k.place k.other;
  is = ap (option_map (λ x. Some x)) (k.given (blank r l));
  same = ap (λ c. record { place = anywhere; label = l; word_place = anywhere; contents = c }) k.same;
}

line_read : (x : Line) (ts : List LineToken) → IsLine x → AreEnded (words_of_line x) ts → Leading state.DatLine ts (Whole x)
line_read x ts (label_alone {p = p} {q = q} {n = n} is) are =
    labels_read n (record { place = p; label = Some n; word_place = q; contents = Nothing }) [] ts is
    (λ us are. by_arrow state.DatBody refl (at_end (choices state.DatBody).arrows us are (λ m. refl) (λ r. record { other = blank r (Some n); is = refl; same = refl })))
    are
line_read x ts (with_contents {p = p} {q = q} {l = None} {x = c} is kinds) are =
    by_arrow state.DatLine refl (so (contents_read (choices state.DatLine).arrows starts_line c ts kinds are)
    (λ ps k r. let y = body_line p q None c ps k r in record { other = y.other; is = k.as_line r ∙ y.is; same = y.same }))
line_read x ts (with_contents {p = p} {q = q} {l = Some n} {x = c} is kinds) are =
    labels_read n (record { place = p; label = Some n; word_place = q; contents = c }) (words_of_contents c) ts is
    (λ us are. by_arrow state.DatBody refl (so (contents_read (choices state.DatBody).arrows starts_body c us kinds are) (λ ps k. body_line p q (Some n) c ps k)))
    are

-- what was read of a line's words
pub record Reread (x : Line) (ts : List LineToken) : Type 0 where
  pub row : List Piece
  pub other : Line
  pub leads : Leads state.DatLine ts row state.End
  pub is : line_of_row row ≡ Some (Some other)
  pub same : line_anywhere other ≡ line_anywhere x

pub reread : (x : Line) (ts : List LineToken) (t : LineToken) → IsLine x → AreSpelled (words_of_line x) ts → tokens.word t ≡ word.LineEnd → Reread x (ts ++ t ∷ [])
reread x ts t is are e = go y.row y.leads y.value
  where
    y : Leading state.DatLine (ts ++ t ∷ []) (Whole x)
    y = line_read x (ts ++ t ∷ []) is (ended (words_of_line x) ts t are e)

    go : (row : List Piece) → Leads state.DatLine (ts ++ t ∷ []) row state.End → Whole x (parts row) → Reread x (ts ++ t ∷ [])
    go [] leads whole = let z = (whole anywhere).is in absurd cc
    go (z ∷ row) leads whole = let k = whole (place_of z) in record { row = z ∷ row; other = k.other; leads = leads; is = k.is; same = k.same }
