-- The items of a line of data, read back.
use Rattle.std.proofs.Common.{◌≡◌, ℕ, List, [], ◌∷◌, ◌++◌, map, Option, Some, None, option_map, refl, sym, ap, ap₂, ◌∙◌, subst, append_assoc, append-nil}
use Rattle.p8_tree.specs.declared.places.Place.{Place}
use Rattle.p8_tree.specs.Expressions.{Tree}
use Rattle.p8_tree.specs.Forgetting.{IsSameTree, tree_anywhere, datum_anywhere}
use Rattle.p8_tree.specs.Sources.{Datum}
use Rattle.p8_lexer.specs.declared.word.Word.TheVariants as word
use Rattle.p8_lexer.specs.Words.{symbols, reserved_words, every_word}
use Rattle.p8_lexer.specs.Meanings.{word_by}
use Rattle.p8_lexer.specs.Table.{rows}
use Rattle.p8_grammar.specs.Lexemes.{in_dat, in_data_item}
use Rattle.p8_lines.specs.declared.arrow.Arrow.{Arrow}
use Rattle.p8_lines.specs.declared.state.LineState.{LineState}
use Rattle.p8_lines.specs.declared.state.LineState.TheVariants as state
use Rattle.p8_lines.specs.Diagram.{◌⇒◌, outer, choices}
use Rattle.p8_lines.specs.Tokens as tokens
use Rattle.p8_lines.specs.Tokens.{LineToken, piece}
use Rattle.p8_lines.proofs.Matching.{target}
use Rattle.p8_declarations.specs.DataParts.{Part, tree, comma, left_bracket, right_bracket, size, part_of_word, part_of_piece}
use Rattle.p8_declarations.specs.Lines.{Stage, before, behind, open_bracket, counted, over, datum, items, all_items}
use Rattle.p8_print.specs.Spelled.{reserved}
use Rattle.p8_print.specs.Tables.{size_word}
use Rattle.p8_print.specs.Wording.{wrapped, words_of_count}
use Rattle.p8_print.specs.DataWords.{words_of_datum, more_data, words_of_data}
use Rattle.p8_printed.proofs.Readings.{IsRead, IsSize, byte_size, word_size, long_size}
use Rattle.p8_printed.proofs.Made.{IfThere, IsDatum, AreData}
use Rattle.p8_blocks.proofs.DataWords.{plain_part}
use Rattle.p8_printed.proofs.Going.{AreEnded, Leading, Going, by_arrow, on_word, at_end, so, tree_read, behind_tree, with_phrase}
use Rattle.p8_printed.proofs.Operands.{comma_part}

left_bracket_part : (t : LineToken) → tokens.word t ≡ word.LeftBracket → part_of_piece (piece t) ≡ left_bracket
unfolding part_of_word
left_bracket_part t m = plain_part t word.LeftBracket refl m

right_bracket_part : (t : LineToken) → tokens.word t ≡ word.RightBracket → part_of_piece (piece t) ≡ right_bracket
unfolding part_of_word
right_bracket_part t m = plain_part t word.RightBracket refl m

pub size_part : (n : ℕ) (t : LineToken) → IsSize n → tokens.word t ≡ size_word n → part_of_piece (piece t) ≡ size n t.place
unfolding part_of_word word_by rows every_word symbols reserved_words
size_part n t byte_size m = plain_part t word.ByteSize refl m
size_part n t word_size m = plain_part t word.WordSize refl m
size_part n t long_size m = plain_part t word.LongSize refl m

-- the items that stand for these, after those that were read
pub record Gives (xs read : List Datum) (o : Option (List Datum)) : Type 0 where
  pub others : List Datum
  pub is : o ≡ Some (read ++ others)
  pub same : map datum_anywhere others ≡ map datum_anywhere xs

gives_as : {xs read : List Datum} {o o' : Option (List Datum)} → o ≡ o' → Gives xs read o' → Gives xs read o
gives_as e g = record { others = g.others; is = e ∙ g.is; same = g.same }

-- at this stage an item is whole
record IsWhole (stage : Stage) (d : Datum) : Type 0 where
  pub last : (read : List Datum) → items read stage [] ≡ Some (read ++ d ∷ [])
  pub next : (read : List Datum) (row : List Part) → items read stage (comma ∷ row) ≡ items (read ++ d ∷ []) (before None) row

-- items after one that is whole
abbrev HasMore : List Datum → List Part → Type 0
HasMore xs ps = (stage : Stage) (d : Datum) → IsWhole stage d → (read : List Datum) → Gives xs (read ++ d ∷ []) (items read stage ps)

abbrev ReadsMore : List Datum → Type 0
ReadsMore xs = (l : List Arrow) → ((n : ℕ) → target l word.Comma n ≡ Some state.Data) → ((n : ℕ) → target l word.LineEnd n ≡ Some state.End) → (ts : List LineToken) → AreEnded (more_data xs) ts → Going l ts (HasMore xs)

-- items from the begin of one on
record HasItems (xs : List Datum) (ps : List Part) : Type 0 where
  pub given : (read : List Datum) → Gives xs read (items read (before None) ps)
  pub whole : all_items ps ≡ items [] (before None) ps

-- a count and the items after it
record HasCount (c : Option Tree) (xs read : List Datum) (s : Option ℕ) (e : Tree) (o : Option (List Datum)) : Type 0 where
  pub count : Option Tree
  pub same : option_map tree_anywhere count ≡ option_map tree_anywhere c
  pub given : Gives xs (read ++ datum s e count ∷ []) o

abbrev behind_item : List Arrow
behind_item = word.LeftBracket ⇒ state.DataCount ∷ word.Comma ⇒ state.Data ∷ word.LineEnd ⇒ state.End ∷ []

behind_is_whole : (s : Option ℕ) (e : Tree) → IsWhole (behind s e) (datum s e None)
behind_is_whole s e = record { last = λ read. refl; next = λ read row. refl }

closed_is_whole : (s : Option ℕ) (e c : Tree) → IsWhole (over s e (Some c)) (datum s e (Some c))
closed_is_whole s e c = record { last = λ read. refl; next = λ read row. refl }

abbrev HasClosed : List Datum → (Option ℕ → Tree → Tree → Stage) → List Part → Type 0
HasClosed xs stage ps = (read : List Datum) (s : Option ℕ) (e c : Tree) → Gives xs (read ++ datum s e (Some c) ∷ []) (items read (stage s e c) ps)

abbrev HasCounts : Option Tree → List Datum → (Option ℕ → Tree → Stage) → List Part → Type 0
HasCounts c xs stage ps = (read : List Datum) (s : Option ℕ) (e : Tree) → HasCount c xs read s e (items read (stage s e) ps)

closing : (xs : List Datum) → ReadsMore xs → (ts : List LineToken) → AreEnded (reserved word.RightBracket ∷ more_data xs) ts → Going (word.RightBracket ⇒ state.MoreData ∷ []) ts (HasClosed xs counted)
closing xs more [] are = absurd are
closing xs more (t ∷ ts) are =
    on_word (word.RightBracket ⇒ state.MoreData ∷ []) t word.RightBracket state.MoreData right_bracket (HasClosed xs counted) are.0.word (λ n. refl) (right_bracket_part t are.0.word) refl
    (by_arrow state.MoreData refl (more (choices state.MoreData).arrows (λ n. refl) (λ n. refl) ts are.1))
    (λ ps k read s e c. k (over s e (Some c)) (datum s e (Some c)) (closed_is_whole s e c) read)

counting : (c : Tree) (xs : List Datum) → IsRead in_dat c → ReadsMore xs → (ts : List LineToken) → AreEnded (wrapped c ++ reserved word.RightBracket ∷ more_data xs) ts → Leading state.DataCount ts (HasCounts (Some c) xs open_bracket)
counting c xs was more ts are =
    let y = tree_read in_dat c (reserved word.RightBracket ∷ more_data xs) ts was are in
    behind_tree state.DataCount in_dat (word.RightBracket ⇒ state.MoreData ∷ []) (HasCounts (Some c) xs open_bracket) refl y (closing xs more y.right y.rest)
    (λ ps k read s e. record { count = Some y.other; same = ap (λ x. Some x) y.same; given = k read s e y.other })

count_read : (c : Option Tree) (xs : List Datum) → IfThere (IsRead in_dat) c → ReadsMore xs → (ts : List LineToken) → AreEnded (words_of_count c ++ more_data xs) ts → Going behind_item ts (HasCounts c xs behind)
count_read None xs was more ts are =
    so (more behind_item (λ n. refl) (λ n. refl) ts are) (λ ps k read s e. record { count = None; same = refl; given = k (behind s e) (datum s e None) (behind_is_whole s e) read })
count_read (Some c) xs was more [] are = absurd are
count_read (Some c) xs was more (t ∷ ts) are =
    let words = subst (λ ws. AreEnded ws ts) (append_assoc (wrapped c) (reserved word.RightBracket ∷ []) (more_data xs)) are.1 in
    on_word behind_item t word.LeftBracket state.DataCount left_bracket (HasCounts (Some c) xs behind) are.0.word (λ n. refl) (left_bracket_part t are.0.word) refl (counting c xs was more ts words) (λ ps k. k)

-- a value, its count and the items after it
value_read : (q : LineState) → (choices q).phrase ≡ Some (outer in_data_item behind_item) → (s : Option ℕ) (v : Tree) (c : Option Tree) (xs : List Datum) (K : List Part → Type 0) → IsRead in_data_item v → IfThere (IsRead in_dat) c → ReadsMore xs → (ts : List LineToken) → AreEnded ((wrapped v ++ words_of_count c) ++ more_data xs) ts → ((e : Tree) → IsSameTree e v → (ps : List Part) → HasCounts c xs behind ps → (p : Place) → K (tree e p ∷ ps)) → Leading q ts K
value_read q some s v c xs K was counts more ts are f =
    let words = subst (λ ws. AreEnded ws ts) (append_assoc (wrapped v) (words_of_count c) (more_data xs)) are in
    let y = tree_read in_data_item v (words_of_count c ++ more_data xs) ts was words in
    behind_tree q in_data_item behind_item K some y (count_read c xs counts more y.right y.rest) (λ ps k. f y.other y.same ps k y.first.place)

one_more : (s : Option ℕ) (v e : Tree) (c : Option Tree) (xs read : List Datum) (o : Option (List Datum)) → IsSameTree e v → HasCount c xs read s e o → Gives (datum s v c ∷ xs) read o
one_more s v e c xs read o same k = record {
  others = datum s e k.count ∷ k.given.others;
  is = k.given.is ∙ ap (λ xs. Some xs) (append_assoc read (datum s e k.count ∷ []) k.given.others);
  same = ap₂ (λ x xs. x ∷ xs) (ap₂ (λ e c. datum s e c) same k.same) k.given.same;
}

item_read : (q : LineState) → (choices q).phrase ≡ Some (outer in_data_item behind_item) → ((n m : ℕ) → IsSize n → target (choices q).arrows (size_word n) m ≡ Some state.DataValue) → (s : Option ℕ) (v : Tree) (c : Option Tree) (xs : List Datum) → IsDatum (datum s v c) → ReadsMore xs → (ts : List LineToken) → AreEnded (words_of_datum (datum s v c) ++ more_data xs) ts → Leading q ts (HasItems (datum s v c ∷ xs))
item_read q some goes None v c xs is more ts are =
    value_read q some None v c xs (HasItems (datum None v c ∷ xs)) is.value is.count more ts are
    (λ e same ps k p. record { given = λ read. one_more None v e c xs read (items read (behind None e) ps) same (k read None e); whole = refl })
item_read q some goes (Some n) v c xs is more [] are = absurd are
item_read q some goes (Some n) v c xs is more (t ∷ ts) are =
    by_arrow q (with_phrase q some) (on_word (choices q).arrows t (size_word n) state.DataValue (size n t.place) (HasItems (datum (Some n) v c ∷ xs)) are.0.word (λ m. goes n m is.size) (size_part n t is.size are.0.word) refl
    (value_read state.DataValue refl (Some n) v c xs (λ ps. (read : List Datum) → Gives (datum (Some n) v c ∷ xs) read (items read (before (Some n)) ps)) is.value is.count more ts are.1
    (λ e same ps k p read. one_more (Some n) v e c xs read (items read (behind (Some n) e) ps) same (k read (Some n) e)))
    (λ ps k. record { given = k; whole = refl }))

size_in_data : (n m : ℕ) → IsSize n → target (choices state.Data).arrows (size_word n) m ≡ Some state.DataValue
unfolding word_by rows every_word symbols reserved_words
size_in_data n m byte_size = refl
size_in_data n m word_size = refl
size_in_data n m long_size = refl

size_first : (n m : ℕ) → IsSize n → target (choices state.FirstData).arrows (size_word n) m ≡ Some state.DataValue
unfolding word_by rows every_word symbols reserved_words
size_first n m byte_size = refl
size_first n m word_size = refl
size_first n m long_size = refl

more_read : (xs : List Datum) → AreData xs → ReadsMore xs
more_read [] kinds l comes ends ts are =
    at_end l ts are ends (λ stage d whole read. record { others = []; is = whole.last read ∙ ap (λ xs. Some xs) (sym (append-nil (read ++ d ∷ []))); same = refl })
more_read (x ∷ xs) kinds l comes ends [] are = absurd are
more_read (x ∷ xs) kinds l comes ends (t ∷ ts) are =
    on_word l t word.Comma state.Data comma (HasMore (x ∷ xs)) are.0.word comes (comma_part t are.0.word) refl
    (item_read state.Data refl size_in_data x.size x.value x.count xs kinds.0 (more_read xs kinds.1) ts are.1)
    (λ ps k stage d whole read. gives_as (whole.next read ps) (k.given (read ++ d ∷ [])))

-- all items
pub data_read : (xs : List Datum) (ts : List LineToken) → AreData xs → AreEnded (words_of_data xs) ts → Leading state.FirstData ts (λ ps. Gives xs [] (all_items ps))
data_read [] ts kinds are = by_arrow state.FirstData refl (at_end (choices state.FirstData).arrows ts are (λ n. refl) (record { others = []; is = refl; same = refl }))
data_read (x ∷ xs) ts kinds are =
    let y = item_read state.FirstData refl size_first x.size x.value x.count xs kinds.0 (more_read xs kinds.1) ts are in
    record { row = y.row; leads = y.leads; value = gives_as y.value.whole (y.value.given []) }
