-- Words and lines written one after the other.
use Rattle.std.proofs.Common.{◌≡◌, ℕ, ◌+◌, ◌<◌, List, [], ◌∷◌, ◌++◌, length, map, take, replicate, get_or, refl, sym, ap, ◌∙◌, append_assoc, append-nil, arith}
use Rattle.std.specs.Prelude.{if◌then◌else◌}
use Rattle.std.proofs.lemmas.Grind.{flat_map-append}
use Rattle.std.proofs.lemmas.List.{map-append, take_more, length-take-le}
use Rattle.p8_tree.specs.declared.expressions.Item as item
use Rattle.p8_tree.specs.Expressions.{Item, single, range, Items, no_items, ◌▸◌}
use Rattle.p8_tree.specs.declared.sources.Block as block
use Rattle.p8_tree.specs.Views.{item_of, items_of, items_after, block_of}
use Rattle.p8_tree.specs.Bridges.{items_of-push}
use Rattle.p8_print.specs.Spelled.{Spelled, SpelledLine, text_of_words, text_of_line, text_of_lines}
use Rattle.p8_print.specs.StatementWords.{words_of_test, tests_before, words_of_tests}
use Rattle.p8_print.specs.Layout.{line, test_of, lines_of_block, lines_of}
use Rattle.p8_print.specs.Writing.{separator}
use Rattle.p8_print.proofs.Appending.{comma, and_written, not_first}

-- the last test is that of an arm

test_at_end : (xs : Items) (x : Item) → test_of (xs ▸ x) ≡ test_of (no_items ▸ x)
test_at_end xs (single e) = refl
test_at_end xs (range low high) = refl

pub last_test : (xs rest : List item.Item) (x : item.Item) → xs ≡ rest ++ x ∷ [] → test_of (items_of xs) ≡ test_of (no_items ▸ item_of x)
last_test xs rest x h = ap (λ xs. test_of (items_of xs)) h ∙ ap test_of (items_of-push rest x) ∙ test_at_end (items_of rest) (item_of x)

-- tests, one after the other

-- some tests, by the last of them
data Some : Items → Type 0 where
  some : (xs : Items) (x : Item) → Some (xs ▸ x)

some_after : (xs : Items) (x : Item) (ys : List item.Item) → Some (items_after (xs ▸ x) ys)
some_after xs x [] = some xs x
some_after xs x (y ∷ ys) = some_after (xs ▸ x) (item_of y) ys

behind_some : {xs : Items} (x : Item) → Some xs → words_of_tests (xs ▸ x) ≡ words_of_tests xs ++ comma ∷ words_of_test x
behind_some x (some xs y) = append_assoc (tests_before xs) (words_of_test y ++ comma ∷ []) (words_of_test x) ∙ ap (λ ws. tests_before xs ++ ws) (append_assoc (words_of_test y) (comma ∷ []) (words_of_test x)) ∙ sym (append_assoc (tests_before xs) (words_of_test y) (comma ∷ words_of_test x))

one_more : (ys : List item.Item) (x : Item) → words_of_tests (items_of ys ▸ x) ≡ words_of_tests (items_of ys) ++ (separator (length ys) ++ words_of_test x)
one_more [] x = refl
one_more (y ∷ ys) x =
    behind_some x (some_after no_items (item_of y) ys)
    ∙ ap (λ b. words_of_tests (items_of (y ∷ ys)) ++ ((if b then [] else comma ∷ []) ++ words_of_test x)) (sym (not_first (length ys)))

tests_next : (ys : List item.Item) (i : ℕ) (d : item.Item) → i < length ys → words_of_tests (items_of (take (i + 1) ys)) ≡ words_of_tests (items_of (take i ys)) ++ (separator i ++ words_of_test (item_of (get_or ys i d)))
tests_next ys i d lt =
    ap (λ xs. words_of_tests (items_of xs)) (take_more ys i d lt) ∙ ap words_of_tests (items_of-push (take i ys) (get_or ys i d))
    ∙ one_more (take i ys) (item_of (get_or ys i d))
    ∙ ap (λ n. words_of_tests (items_of (take i ys)) ++ (separator n ++ words_of_test (item_of (get_or ys i d)))) (length-take-le i ys (omega arith))

-- a further test is written
pub test_written : (ys : List item.Item) (i : ℕ) (d : item.Item) (a b : List ℕ) {c e : List ℕ} → i < length ys → d ≡ get_or ys i d → b ≡ a ++ text_of_words (words_of_tests (items_of (take i ys)))
    → c ≡ b ++ text_of_words (separator i) → e ≡ c ++ text_of_words (words_of_test (item_of d)) → e ≡ a ++ text_of_words (words_of_tests (items_of (take (i + 1) ys)))
test_written ys i d a b lt at h k l =
    and_written a (words_of_tests (items_of (take i ys))) (separator i ++ words_of_test (item_of d)) h (and_written b (separator i) (words_of_test (item_of d)) k l)
    ∙ ap (λ d. a ++ text_of_words (words_of_tests (items_of (take i ys)) ++ (separator i ++ words_of_test (item_of d)))) at
    ∙ ap (λ ws. a ++ text_of_words ws) (sym (tests_next ys i d lt))

-- items, each in a line of its own

one_line : (a : List ℕ) {b c d : List ℕ} (n : ℕ) (ws : List Spelled) → b ≡ a ++ replicate n 32 → c ≡ b ++ text_of_words ws → d ≡ c ++ 10 ∷ [] → d ≡ a ++ text_of_line (line n ws)
one_line a n ws h k l =
    l ∙ ap (λ t. t ++ 10 ∷ []) (k ∙ ap (λ t. t ++ text_of_words ws) h ∙ append_assoc a (replicate n 32) (text_of_words ws)) ∙ append_assoc a (replicate n 32 ++ text_of_words ws) (10 ∷ [])
    ∙ ap (λ t. a ++ t) (append_assoc (replicate n 32) (text_of_words ws) (10 ∷ []))

module _ {X Y : Type 0} (view : X → Y) (words : Y → List Spelled) where
  abbrev lines : List X → List SpelledLine
  lines xs = map (λ x. line 2 (words x)) (map view xs)

  one_line_more : (xs : List X) (x : X) → text_of_lines (lines (xs ++ x ∷ [])) ≡ text_of_lines (lines xs) ++ text_of_line (line 2 (words (view x)))
  one_line_more xs x =
      ap (λ ys. text_of_lines (map (λ x. line 2 (words x)) ys)) (map-append view xs (x ∷ []))
      ∙ ap text_of_lines (map-append (λ x. line 2 (words x)) (map view xs) (view x ∷ []))
      ∙ flat_map-append text_of_line (lines xs) (line 2 (words (view x)) ∷ [])
      ∙ ap (λ t. text_of_lines (lines xs) ++ t) (append-nil (text_of_line (line 2 (words (view x)))))

  -- a further item is written
  pub line_written : (xs : List X) (i : ℕ) (d : X) (a b : List ℕ) {c e f : List ℕ} → i < length xs → d ≡ get_or xs i d → b ≡ a ++ text_of_lines (map (λ x. line 2 (words x)) (map view (take i xs)))
      → c ≡ b ++ replicate 2 32 → e ≡ c ++ text_of_words (words (view d)) → f ≡ e ++ 10 ∷ [] → f ≡ a ++ text_of_lines (map (λ x. line 2 (words x)) (map view (take (i + 1) xs)))
  line_written xs i d a b lt at h k l m =
      one_line b 2 (words (view d)) k l m
      ∙ ap (λ t. t ++ text_of_line (line 2 (words (view d)))) h
      ∙ append_assoc a (text_of_lines (lines (take i xs))) (text_of_line (line 2 (words (view d))))
      ∙ ap (λ t. a ++ t) (sym (one_line_more (take i xs) d))
      ∙ ap (λ d. a ++ text_of_lines (lines (take i xs ++ d ∷ []))) at
      ∙ ap (λ ys. a ++ text_of_lines (lines ys)) (sym (take_more xs i d lt))

-- blocks, one after the other

abbrev block_lines : List block.Block → List SpelledLine
block_lines xs = lines_of (map block_of xs)

one_block_more : (xs : List block.Block) (x : block.Block) → text_of_lines (block_lines (xs ++ x ∷ [])) ≡ text_of_lines (block_lines xs) ++ text_of_lines (lines_of_block (block_of x))
one_block_more xs x =
    ap (λ ys. text_of_lines (lines_of ys)) (map-append block_of xs (x ∷ []))
    ∙ ap text_of_lines (flat_map-append lines_of_block (map block_of xs) (block_of x ∷ []) ∙ ap (λ ls. block_lines xs ++ ls) (append-nil (lines_of_block (block_of x))))
    ∙ flat_map-append text_of_line (block_lines xs) (lines_of_block (block_of x))

-- a further block is written
pub block_written : (xs : List block.Block) (i : ℕ) (d : block.Block) (a b : List ℕ) {c : List ℕ} → i < length xs → d ≡ get_or xs i d → b ≡ a ++ text_of_lines (lines_of (map block_of (take i xs))) → c ≡ b ++ text_of_lines (lines_of_block (block_of d))
    → c ≡ a ++ text_of_lines (lines_of (map block_of (take (i + 1) xs)))
block_written xs i d a b lt at h k =
    k ∙ ap (λ t. t ++ text_of_lines (lines_of_block (block_of d))) h
    ∙ append_assoc a (text_of_lines (block_lines (take i xs))) (text_of_lines (lines_of_block (block_of d)))
    ∙ ap (λ t. a ++ t) (sym (one_block_more (take i xs) d))
    ∙ ap (λ d. a ++ text_of_lines (block_lines (take i xs ++ d ∷ []))) at
    ∙ ap (λ ys. a ++ text_of_lines (block_lines ys)) (sym (take_more xs i d lt))
