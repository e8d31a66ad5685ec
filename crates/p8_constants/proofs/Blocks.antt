-- The items of one block more.
use Rattle.std.proofs.Common.{◌≡◌, ℕ, ◌+◌, ◌<◌, List, [], ◌∷◌, ◌++◌, length, map, take, get_or, refl, ap, sym, ◌∙◌, append_assoc, append-nil}
use Rattle.std.proofs.lemmas.List.{take_more, map-append}
use Rattle.p8_tree.specs.Sources.{Source}
use Rattle.p8_tree.specs.declared.sources.Block.{Block}
use Rattle.p8_tree.specs.Views.{block_of}
use Rattle.p8_constants.specs.FileItems.{Item, block_items, items}

items-append : (xs ys : Source) → items (xs ++ ys) ≡ items xs ++ items ys
items-append [] ys = refl
items-append (b ∷ xs) ys = ap (λ m. block_items b ++ m) (items-append xs ys) ∙ sym (append_assoc (block_items b) (items xs) (items ys))

items-push : (xs : List Block) (b : Block) → items (map block_of (xs ++ b ∷ [])) ≡ items (map block_of xs) ++ block_items (block_of b)
items-push xs b =
    ap items (map-append block_of xs (b ∷ []))
    ∙ (items-append (map block_of xs) (block_of b ∷ []) ∙ ap (λ m. items (map block_of xs) ++ m) (append-nil (block_items (block_of b))))

-- with the next block
pub items_more : (bs : List Block) (i : ℕ) (b : Block) (before after : List Item) → i < length bs → b ≡ get_or bs i b → before ≡ items (map block_of (take i bs)) → after ≡ before ++ block_items (block_of b) → after ≡ items (map block_of (take (i + 1) bs))
items_more bs i b before after l e was is =
    is ∙ ap (λ m. m ++ block_items (block_of b)) was
    ∙ sym (ap (λ (cs : List Block). items (map block_of cs)) (take_more bs i b l ∙ ap (λ (c : Block). take i bs ++ c ∷ []) (sym e)) ∙ items-push (take i bs) b)
