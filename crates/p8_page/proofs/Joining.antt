-- Texts that are appended one after another.
use Rattle.std.proofs.Common.{◌≡◌, ◌∙◌, ap, sym, List, [], ◌∷◌, ◌++◌, ℕ, ◌+◌, append_assoc, arith}
use Rattle.std.specs.List.{flat_map, range_with_len}
use Rattle.std.proofs.lemmas.List.{append-nil, map-id}
use Rattle.std.proofs.lemmas.List.Concat.{flat_map-append}
use Rattle.std.proofs.lemmas.List.FromFn.{map-range_with_len_more}
use Rattle.p8_page.specs.Blocks.{block_text}
use Rattle.p8_page.specs.Page.{Block, blocks_text}

more : (out a rest x y : List ℕ) → x ≡ out ++ a → y ≡ x ++ rest → y ≡ out ++ (a ++ rest)
more out a rest x y first second = second ∙ ap (λ text. text ++ rest) first ∙ append_assoc out a rest

-- the last text, as the last one of a list
pub one : (out a y : List ℕ) → y ≡ out ++ a → y ≡ out ++ (a ++ [])
one out a y last = last ∙ ap (λ text. out ++ text) (sym (append-nil a))

pub two : (out a b x y : List ℕ) → x ≡ out ++ a → y ≡ x ++ b → y ≡ out ++ (a ++ (b ++ []))
two out a b x y first second = more out a (b ++ []) x y first (one x b y second)

pub three : (out a b c x y z : List ℕ) → x ≡ out ++ a → y ≡ x ++ b → z ≡ y ++ c → z ≡ out ++ (a ++ b ++ c)
three out a b c x y z first second third = more out (a ++ b) c y z (more out a b x y first second) third

pub five : (out a b c d e v w x y z : List ℕ) → v ≡ out ++ a → w ≡ v ++ b → x ≡ w ++ c → y ≡ x ++ d → z ≡ y ++ e → z ≡ out ++ (a ++ (b ++ (c ++ (d ++ (e ++ [])))))
five out a b c d e v w x y z first second third fourth fifth =
    more out a (b ++ (c ++ (d ++ (e ++ [])))) v z first
    (more v b (c ++ (d ++ (e ++ []))) w z second
    (more w c (d ++ (e ++ [])) x z third (two x d e y z fourth fifth)))

-- a head, the blocks of a run and then those of a project, and a tail
pub whole : (head tail project v w x y : List ℕ) (run blocks : List Block) → project ≡ blocks_text blocks
    → v ≡ head → w ≡ v ++ blocks_text run → x ≡ w ++ project → y ≡ x ++ tail → y ≡ head ++ blocks_text (run ++ blocks) ++ tail
whole head tail project v w x y run blocks are first second third fourth =
    fourth ∙ ap (λ text. text ++ tail) (third ∙ ap (λ text. text ++ project) (second ∙ ap (λ text. text ++ blocks_text run) first) ∙ append_assoc head (blocks_text run) project ∙ ap (λ text. head ++ text) both)
  where
    both : blocks_text run ++ project ≡ blocks_text (run ++ blocks)
    both = ap (λ text. blocks_text run ++ text) are ∙ sym (flat_map-append (λ (block : Block). block_text block.kind block.bytes) run blocks)

-- the numbers below n + 1
numbers_more : (n : ℕ) → range_with_len 0 (n + 1) ≡ range_with_len 0 n ++ n ∷ []
numbers_more n =
    sym (map-id (range_with_len 0 (n + 1))) ∙ map-range_with_len_more (λ (k : ℕ). k) 0 n n (omega arith) ∙ ap (λ (xs : List ℕ). xs ++ n ∷ []) (map-id (range_with_len 0 n))

-- the text of one more number
pub each_more : (text : ℕ → List ℕ) (n : ℕ) (out x y : List ℕ) → x ≡ out ++ flat_map text (range_with_len 0 n) → y ≡ x ++ text n → y ≡ out ++ flat_map text (range_with_len 0 (n + 1))
each_more text n out x y so_far last =
    let all : flat_map text (range_with_len 0 (n + 1)) ≡ flat_map text (range_with_len 0 n) ++ text n =
    ap (flat_map text) (numbers_more n) ∙ flat_map-append text (range_with_len 0 n) (n ∷ []) ∙ ap (λ xs. flat_map text (range_with_len 0 n) ++ xs) (append-nil (text n)) in
    more out (flat_map text (range_with_len 0 n)) (text n) x y so_far last ∙ ap (λ xs. out ++ xs) (sym all)
