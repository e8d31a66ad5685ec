-- The words of trees as the code has them, and of arguments and items one after the other.
use Rattle.std.proofs.Common.{◌≡◌, ℕ, ◌+◌, ◌<◌, false, List, [], ◌∷◌, ◌++◌, length, take, get_or, refl, sym, ap, ◌∙◌, append_assoc, arith}
use Rattle.std.specs.Prelude.{if◌then◌else◌}
use Rattle.std.proofs.lemmas.List.{take_more, length-take-le}
use Rattle.p8_lexer.specs.declared.word.Word.{Word}
use Rattle.p8_lexer.specs.declared.word.Word.TheVariants as word_case
use Rattle.p8_tree.specs.declared.places.Place.{Place}
use Rattle.p8_tree.specs.declared.expressions.ExprKind as kind
use Rattle.p8_tree.specs.declared.expressions.Expr as expr
use Rattle.p8_tree.specs.declared.expressions.Item as item
use Rattle.p8_tree.specs.declared.expressions.Call as call
use Rattle.p8_tree.specs.declared.expressions.Call.{out-Call, roll-out-Call}
use Rattle.p8_tree.specs.Expressions.{Tree, node, Call, Item, Trees, no_trees, ◌▷◌, Items, no_items, ◌▸◌}
use Rattle.p8_tree.specs.Views.{form_of, call_of, tree_of, trees_of, trees_after, item_of, items_of, items_after}
use Rattle.p8_tree.specs.Bridges.{boxed_index, call_is, trees_of-push, items_of-push}
use Rattle.p8_print.specs.Spelled.{Spelled, reserved, text_of_words}
use Rattle.p8_print.specs.Wording.{is_number, words_of, words_of_item, words_of_arguments, words_before, choices_before}
use Rattle.p8_print.specs.Writing.{word_before, separator, arguments_begun, choices_begun}
use Rattle.p8_print.proofs.Appending.{comma, and_written, not_first}

pub not_number : (p : Place) (k : kind.ExprKind) → ((n : ℕ) → k ≡ kind.Number n → ⊥) → false ≡ is_number (node p (form_of k))
not_number p (kind.Number n) h = absurd (h n refl)
not_number p (kind.Call (call.Call' t o i m q shape row)) h = refl
not_number p _ h = refl

pub call_form : (x : call.Call) → call_of x ≡ Call (out-Call x).trap (out-Call x).object (boxed_index (out-Call x).index) (out-Call x).method (out-Call x).method_place (trees_of (out-Call x).args.items)
call_form x = ap call_of (sym (roll-out-Call x)) ∙ call_is (out-Call x).trap (out-Call x).object (out-Call x).index (out-Call x).method (out-Call x).method_place (out-Call x).args

-- words one after the other

-- arguments and items, one after the other

abbrev left : Spelled
left = reserved word_case.LeftParenthesis

abbrev right : Spelled
right = reserved word_case.RightParenthesis

-- some trees, by the last of them
data Some : Trees → Type 0 where
  some : (es : Trees) (e : Tree) → Some (es ▷ e)

some_after : (es : Trees) (e : Tree) (xs : List expr.Expr) → Some (trees_after (es ▷ e) xs)
some_after es e [] = some es e
some_after es e (x ∷ xs) = some_after (es ▷ e) (tree_of x) xs

behind_some : {ts : Trees} (e : Tree) → Some ts → arguments_begun (ts ▷ e) ≡ arguments_begun ts ++ comma ∷ words_of e
behind_some e (some es d) =
    ap (λ ws. left ∷ ws) (append_assoc (words_before es) (words_of d ++ comma ∷ []) (words_of e) ∙ ap (λ ws. words_before es ++ ws) (append_assoc (words_of d) (comma ∷ []) (words_of e)) ∙ sym (append_assoc (words_before es) (words_of d) (comma ∷ words_of e)))

one_more : (xs : List expr.Expr) (e : Tree) → arguments_begun (trees_of xs ▷ e) ≡ arguments_begun (trees_of xs) ++ reserved (word_before (length xs)) ∷ words_of e
one_more [] e = refl
one_more (x ∷ xs) e =
    behind_some e (some_after no_trees (tree_of x) xs)
    ∙ ap (λ b. arguments_begun (trees_of (x ∷ xs)) ++ reserved (if b then word_case.LeftParenthesis else word_case.Comma) ∷ words_of e) (sym (not_first (length xs)))

arguments_next : (xs : List expr.Expr) (i : ℕ) (d : expr.Expr) → i < length xs → arguments_begun (trees_of (take (i + 1) xs)) ≡ arguments_begun (trees_of (take i xs)) ++ reserved (word_before i) ∷ words_of (tree_of (get_or xs i d))
arguments_next xs i d lt =
    ap (λ es. arguments_begun (trees_of es)) (take_more xs i d lt) ∙ ap arguments_begun (trees_of-push (take i xs) (get_or xs i d))
    ∙ one_more (take i xs) (tree_of (get_or xs i d))
    ∙ ap (λ n. arguments_begun (trees_of (take i xs)) ++ reserved (word_before n) ∷ words_of (tree_of (get_or xs i d))) (length-take-le i xs (omega arith))

-- a further argument is written
pub argument_written : (xs : List expr.Expr) (i : ℕ) (d : expr.Expr) (w : Word) (a b : List ℕ) {c e : List ℕ} → i < length xs → d ≡ get_or xs i d → w ≡ word_before i → b ≡ a ++ text_of_words (arguments_begun (trees_of (take i xs)))
    → c ≡ b ++ text_of_words (reserved w ∷ []) → e ≡ c ++ text_of_words (words_of (tree_of d)) → e ≡ a ++ text_of_words (arguments_begun (trees_of (take (i + 1) xs)))
argument_written xs i d w a b lt at is h k l =
    and_written a (arguments_begun (trees_of (take i xs))) (reserved w ∷ words_of (tree_of d)) h (and_written b (reserved w ∷ []) (words_of (tree_of d)) k l)
    ∙ ap (λ w. a ++ text_of_words (arguments_begun (trees_of (take i xs)) ++ reserved w ∷ words_of (tree_of d))) is
    ∙ ap (λ d. a ++ text_of_words (arguments_begun (trees_of (take i xs)) ++ reserved (word_before i) ∷ words_of (tree_of d))) at
    ∙ ap (λ ws. a ++ text_of_words ws) (sym (arguments_next xs i d lt))

ended : {ts : Trees} → Some ts → words_of_arguments ts ≡ arguments_begun ts ++ right ∷ []
ended (some es e) = ap (λ ws. left ∷ ws) (sym (append_assoc (words_before es) (words_of e) (right ∷ [])))

pub arguments_ended : (xs : List expr.Expr) → 0 < length xs → words_of_arguments (trees_of xs) ≡ arguments_begun (trees_of xs) ++ right ∷ []
arguments_ended [] lt = absurd (omega arith)
arguments_ended (x ∷ xs) lt = ended (some_after no_trees (tree_of x) xs)

-- some items, by the last of them
data SomeItems : Items → Type 0 where
  some_items : (xs : Items) (x : Item) → SomeItems (xs ▸ x)

items_some : (xs : Items) (x : Item) (ys : List item.Item) → SomeItems (items_after (xs ▸ x) ys)
items_some xs x [] = some_items xs x
items_some xs x (y ∷ ys) = items_some (xs ▸ x) (item_of y) ys

behind_items : {xs : Items} (x : Item) → SomeItems xs → choices_begun (xs ▸ x) ≡ choices_begun xs ++ comma ∷ words_of_item x
behind_items x (some_items xs y) =
    append_assoc (choices_before xs) (words_of_item y ++ comma ∷ []) (words_of_item x) ∙ ap (λ ws. choices_before xs ++ ws) (append_assoc (words_of_item y) (comma ∷ []) (words_of_item x)) ∙ sym (append_assoc (choices_before xs) (words_of_item y) (comma ∷ words_of_item x))

one_item_more : (ys : List item.Item) (x : Item) → choices_begun (items_of ys ▸ x) ≡ choices_begun (items_of ys) ++ (separator (length ys) ++ words_of_item x)
one_item_more [] x = refl
one_item_more (y ∷ ys) x =
    behind_items x (items_some no_items (item_of y) ys)
    ∙ ap (λ b. choices_begun (items_of (y ∷ ys)) ++ ((if b then [] else comma ∷ []) ++ words_of_item x)) (sym (not_first (length ys)))

choices_next : (ys : List item.Item) (i : ℕ) (d : item.Item) → i < length ys → choices_begun (items_of (take (i + 1) ys)) ≡ choices_begun (items_of (take i ys)) ++ (separator i ++ words_of_item (item_of (get_or ys i d)))
choices_next ys i d lt =
    ap (λ xs. choices_begun (items_of xs)) (take_more ys i d lt) ∙ ap choices_begun (items_of-push (take i ys) (get_or ys i d))
    ∙ one_item_more (take i ys) (item_of (get_or ys i d))
    ∙ ap (λ n. choices_begun (items_of (take i ys)) ++ (separator n ++ words_of_item (item_of (get_or ys i d)))) (length-take-le i ys (omega arith))

-- a further item is written
pub choice_written : (ys : List item.Item) (i : ℕ) (d : item.Item) (a b : List ℕ) {c e : List ℕ} → i < length ys → d ≡ get_or ys i d → b ≡ a ++ text_of_words (choices_begun (items_of (take i ys)))
    → c ≡ b ++ text_of_words (separator i) → e ≡ c ++ text_of_words (words_of_item (item_of d)) → e ≡ a ++ text_of_words (choices_begun (items_of (take (i + 1) ys)))
choice_written ys i d a b lt at h k l =
    and_written a (choices_begun (items_of (take i ys))) (separator i ++ words_of_item (item_of d)) h (and_written b (separator i) (words_of_item (item_of d)) k l)
    ∙ ap (λ d. a ++ text_of_words (choices_begun (items_of (take i ys)) ++ (separator i ++ words_of_item (item_of d)))) at
    ∙ ap (λ ws. a ++ text_of_words ws) (sym (choices_next ys i d lt))
