-- Locals one after the other, and where bytecodes begin.
use Rattle.std.proofs.Common.{◌≡◌, ℕ, ◌+◌, ◌-◌, ◌^◌, ◌<◌, ◌≤◌, zero, suc, min, List, [], ◌∷◌, ◌++◌, map, length, take, get_or, refl, sym, ap, ◌∙◌, subst, arith}
use Rattle.std.specs.Prelude.{flat_map, option_map}
use Rattle.std.proofs.lemmas.List.{take_more, take_all, length-append, map-append}
use Rattle.p8_tree.specs.declared.sources.VarItem.{VarItem}
use Rattle.p8_tree.specs.Sources.{Declared}
use Rattle.p8_tree.specs.Views.{declared_of, tree_of}
use Rattle.p8_bytecode.specs.declared.op.Op.{Op}
use Rattle.p8_bytecode.specs.Spelling.{spelled}
use Rattle.p8_fold.specs.Meanings.{Setting}
use Rattle.p8_stmt.specs.Cutting.{cut_longs}
use Rattle.p8_stmt.specs.Methods.{count_in, longs_in}
use Rattle.p8_stmt.specs.Spelled.{begins_of}

longs_push : (s : Setting) (xs : List Declared) (x : Declared) → longs_in s (xs ++ x ∷ []) ≡ longs_in s xs + count_in s x.count
longs_push s [] x = omega arith
longs_push s (y ∷ xs) x = omega (arith, longs_push s xs x)

pub longs_next : (s : Setting) (xs : List VarItem) (i : ℕ) (d : VarItem) → i < length xs → min (cut_longs (longs_in s (map declared_of (take i xs))) + count_in s (option_map tree_of (get_or xs i d).count)) (2 ^ 32 - 1) ≡ cut_longs (longs_in s (map declared_of (take (i + 1) xs)))
longs_next s xs i d lt =
    let more : map declared_of (take (i + 1) xs) ≡ map declared_of (take i xs) ++ declared_of (get_or xs i d) ∷ [] = ap (map declared_of) (take_more xs i d lt) ∙ map-append declared_of (take i xs) (get_or xs i d ∷ []) in
    let sum : longs_in s (map declared_of (take (i + 1) xs)) ≡ longs_in s (map declared_of (take i xs)) + count_in s (option_map tree_of (get_or xs i d).count) = ap (longs_in s) more ∙ longs_push s (map declared_of (take i xs)) (declared_of (get_or xs i d)) in
    omega (arith, sum)

pub begins_count : (b : ℕ) (ops : List Op) → length (begins_of b ops) ≡ length ops
begins_count b [] = refl
begins_count b (op ∷ ops) = ap suc (begins_count (b + length (spelled op)) ops)

begins_at : (b : ℕ) (ops : List Op) (k d : ℕ) → k < length ops → get_or (begins_of b ops) k d ≡ b + length (flat_map spelled (take k ops))
begins_at b [] k d lt = absurd (omega arith)
begins_at b (op ∷ ops) zero d lt = omega arith
begins_at b (op ∷ ops) (suc k) d lt =
    begins_at (b + length (spelled op)) ops k d (omega (arith, lt)) ∙ omega (arith, length-append (spelled op) (flat_map spelled (take k ops)))

none_before : (k : ℕ) → 0 + k ≡ k
none_before k = omega arith

-- a bytecode's begin, where there is one, and else the end of all
pub begin_there : (ops : List Op) (begins : List ℕ) (k d : ℕ) → begins ≡ begins_of 0 ops → k < length begins → get_or begins k d ≡ length (flat_map spelled (take k ops))
begin_there ops begins k d is lt =
    ap (λ xs. get_or xs k d) is ∙ begins_at 0 ops k d (subst (λ n. k < n) (ap length is ∙ begins_count 0 ops) lt) ∙ none_before _

pub begin_past : (ops : List Op) (begins : List ℕ) (k total : ℕ) → begins ≡ begins_of 0 ops → length begins ≤ k → total ≡ length (flat_map spelled ops) → total ≡ length (flat_map spelled (take k ops))
begin_past ops begins k total is le t =
    t ∙ ap (λ xs. length (flat_map spelled xs)) (sym (take_all k ops (subst (λ n. n ≤ k) (ap length is ∙ begins_count 0 ops) le)))
