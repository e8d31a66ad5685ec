-- The items of OBJ of a file, block by block.
use Rattle.std.proofs.Common.{◌≡◌, ℕ, ◌+◌, ◌<◌, ◌≤◌, List, [], ◌∷◌, ◌++◌, length, map, take, drop, get_or, refl, ap, sym, ◌∙◌, subst, arith, append_assoc, append-nil, length-append, ◌-◌}
use Rattle.std.proofs.lemmas.List.{length-map, take_more, take-append-drop, map-append, take_all}
use Rattle.p8_tree.specs.Sources.{Child, Source}
use Rattle.p8_tree.specs.Projects.{NamedSource}
use Rattle.p8_tree.specs.declared.sources.Block.{Block}
use Rattle.p8_tree.specs.declared.sources.ObjItem.{ObjItem}
use Rattle.p8_tree.specs.Views.{block_of, child_of}
use Rattle.p8_objects.specs.Lists.{IsAt}
use Rattle.p8_objects.specs.Sources.{mentions_in, mentions}
use Rattle.p8_objects.specs.Standing.{IsFirstLeft, AreFinished}
use Rattle.p8_objects.proofs.Elements.{at_front, at_behind}
use Rattle.p8_objects.proofs.Finishing.{first_left_in_front, first_left_behind, both_finished}

mentions-append : (xs ys : Source) → mentions (xs ++ ys) ≡ mentions xs ++ mentions ys
mentions-append [] ys = refl
mentions-append (b ∷ xs) ys = ap (λ m. mentions_in b ++ m) (mentions-append xs ys) ∙ sym (append_assoc (mentions_in b) (mentions xs) (mentions ys))

-- the items of the blocks before a number
abbrev pub before : List Block → ℕ → List Child
before bs i = mentions (map block_of (take i bs))

before_pushed : (xs : List Block) (b : Block) → mentions (map block_of (xs ++ b ∷ [])) ≡ mentions (map block_of xs) ++ mentions_in (block_of b)
before_pushed xs b =
    ap mentions (map-append block_of xs (b ∷ []))
    ∙ (mentions-append (map block_of xs) (block_of b ∷ []) ∙ ap (λ m. mentions (map block_of xs) ++ m) (append-nil (mentions_in (block_of b))))

-- with the next block
pub before_more : (bs : List Block) (i : ℕ) (b : Block) (xs : List Child) → i < length bs → b ≡ get_or bs i b → xs ≡ mentions_in (block_of b) → before bs (i + 1) ≡ before bs i ++ xs
before_more bs i b xs l e m =
    ap (λ (cs : List Block). mentions (map block_of cs)) (take_more bs i b l ∙ ap (λ (c : Block). take i bs ++ c ∷ []) (sym e))
    ∙ (before_pushed (take i bs) b ∙ ap (λ ys. before bs i ++ ys) (sym m))

-- the items of all blocks begin with these
pub before_all : (bs : List Block) (i : ℕ) → mentions (map block_of bs) ≡ before bs i ++ mentions (map block_of (drop i bs))
before_all bs i =
    ap (λ (cs : List Block). mentions (map block_of cs)) (sym (take-append-drop i bs))
    ∙ (ap mentions (map-append block_of (take i bs) (drop i bs)) ∙ mentions-append (map block_of (take i bs)) (map block_of (drop i bs)))

pub before_end : (bs cs : List Block) (i : ℕ) → bs ≡ cs → length bs ≤ i → before bs i ≡ mentions (map block_of cs)
before_end bs cs i e l = ap (λ (ds : List Block). mentions (map block_of ds)) (take_all i bs l ∙ e)

-- an item that is found in a block is one of the file
pub in_block : (bs cs : List Block) (i : ℕ) (b : Block) (xs : List Child) (P : List Child → Type 0) → bs ≡ cs → i < length bs → b ≡ get_or bs i b → xs ≡ mentions_in (block_of b) → P ((before bs i ++ xs) ++ mentions (map block_of (drop (i + 1) bs))) → P (mentions (map block_of cs))
in_block bs cs i b xs P s l e m p =
    subst P (ap (λ ys. ys ++ mentions (map block_of (drop (i + 1) bs))) (sym (before_more bs i b xs l e m)) ∙ (sym (before_all bs (i + 1)) ∙ ap (λ (ds : List Block). mentions (map block_of ds)) s)) p

pub first_left_in_block : {files : List NamedSource} {done : List ℕ} (bs cs : List Block) (i : ℕ) (b : Block) (xs : List Child) (x : Child) → bs ≡ cs → i < length bs → b ≡ get_or bs i b → xs ≡ mentions_in (block_of b) → AreFinished files done (before bs i) → IsFirstLeft files done xs x → IsFirstLeft files done (mentions (map block_of cs)) x
first_left_in_block {files = files} {done = done} bs cs i b xs x s l e m a f =
    in_block bs cs i b xs (λ ys. IsFirstLeft files done ys x) s l e m (first_left_in_front (mentions (map block_of (drop (i + 1) bs))) (first_left_behind (before bs i) a f))

pub finished_block : {files : List NamedSource} {done : List ℕ} (bs : List Block) (i : ℕ) (b : Block) (xs : List Child) → i < length bs → b ≡ get_or bs i b → xs ≡ mentions_in (block_of b) → AreFinished files done (before bs i) → AreFinished files done xs → AreFinished files done (before bs (i + 1))
finished_block {files = files} {done = done} bs i b xs l e m a f =
    subst (λ ys. AreFinished files done ys) (sym (before_more bs i b xs l e m)) (both_finished (before bs i) xs a f)

-- the item of this number stands in this block, so many items after those before it
pub at_in_block : (bs cs : List Block) (i : ℕ) (b : Block) (xs : List Child) (x : Child) (n k : ℕ) → bs ≡ cs → i < length bs → b ≡ get_or bs i b → xs ≡ mentions_in (block_of b) → k + length (before bs i) ≡ n → IsAt xs k x → IsAt (mentions (map block_of cs)) n x
at_in_block bs cs i b xs x n k s l e m c at =
    in_block bs cs i b xs (λ ys. IsAt ys n x) s l e m
    (let numbered : length (before bs i) + k ≡ n = omega (arith, c) in
    at_front (before bs i ++ xs) (mentions (map block_of (drop (i + 1) bs))) (subst (λ (j : ℕ). IsAt (before bs i ++ xs) j x) numbered (at_behind (before bs i) at)))

-- how many more items there may be
pub still_left : (a b : List Child) (xs : List ObjItem) (left n : ℕ) → b ≡ a ++ map child_of xs → length xs ≤ left → left + length a ≡ n → (left - length xs) + length b ≡ n
still_left a b xs left n e l s = omega (arith, ap length e ∙ length-append a (map child_of xs), length-map xs child_of)
