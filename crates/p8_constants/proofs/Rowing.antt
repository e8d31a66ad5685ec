-- Rows with one item, or one block, more at their end.
use Rattle.std.proofs.Common.{◌≡◌, ℕ, suc, ◌+◌, ◌-◌, ◌<◌, ◌≤◌, Bool, true, false, List, [], ◌∷◌, ◌++◌, length, take, drop, get_or, map, refl, sym, ap, ◌∙◌, append_assoc, arith}
use Rattle.std.specs.Prelude.{◌==◌, if◌then◌else◌, Option, Some, None, option_map}
use Rattle.std.specs.Str.{bytes_eq}
use Rattle.std.proofs.lemmas.Bool.Decides.{nat_tests}
use Rattle.std.proofs.lemmas.Bool.{false≢true}
use Rattle.std.proofs.lemmas.List.{length-map, length-take-le, take_more, drop_more, drop_all, map_push, get_or-map}
use Rattle.std.proofs.lemmas.Slice.Eq.{bytes_eq-Decides}
use Rattle.p8_tree.specs.declared.sources.ConItem.{ConItem}
use Rattle.p8_tree.specs.declared.sources.Block.{Block}
use Rattle.p8_tree.specs.Views.{constant_of, block_of}
use Rattle.p8_tree.specs.Sources as sources
use Rattle.p8_tree.specs.Sources.{Constant, Source, Con}
use Rattle.p8_constants.specs.Rows.{Row, rows_in, rows_of, row_from, rows_from, row_at, no_row, or_else, first_named, is_named, unless_given, given_here, named_here, constant_at}
use Rattle.p8_fold.specs.declared.meanings.Meaning.{Meaning}
use Rattle.p8_fold.specs.Meanings.{Setting}

later : (xs : List Constant) (x : Constant) → rows_in false (xs ++ x ∷ []) ≡ rows_in false xs ++ record { item = x; first = false } ∷ []
later [] x = refl
later (y ∷ xs) x = ap (λ rs. record { item = y; first = false } ∷ rs) (later xs x)

pub rows_in-push : (xs : List Constant) (x : Constant) → rows_in true (xs ++ x ∷ []) ≡ rows_in true xs ++ record { item = x; first = length xs == 0 } ∷ []
rows_in-push [] x = refl
rows_in-push (y ∷ xs) x =
    let some : (length (y ∷ xs) == 0) ≡ false = grind (arith, nat_tests) in
    let one : Constant → Bool → Row = λ x b. record { item = x; first = b } in
    ap (λ rs. one y true ∷ rs) (later xs x) ∙ ap (λ b. one y true ∷ (rows_in false xs ++ one x b ∷ [])) (sym some)

pub rows_of-append : (bs cs : Source) → rows_of (bs ++ cs) ≡ rows_of bs ++ rows_of cs
rows_of-append [] cs = refl
rows_of-append (Con xs ∷ bs) cs = ap (λ rs. rows_in true xs ++ rs) (rows_of-append bs cs) ∙ sym (append_assoc (rows_in true xs) (rows_of bs) (rows_of cs))
rows_of-append (sources.Var x ∷ bs) cs = rows_of-append bs cs
rows_of-append (sources.Obj x ∷ bs) cs = rows_of-append bs cs
rows_of-append (sources.Method x ∷ bs) cs = rows_of-append bs cs
rows_of-append (sources.Dat x ∷ bs) cs = rows_of-append bs cs

pub items_more : (xs : List ConItem) (i : ℕ) (x : ConItem) (a b d : List (ConItem × Bool)) → i < length xs → x ≡ get_or xs i x → rows_from b ≡ rows_from a ++ rows_in true (map constant_of (take i xs)) → d ≡ b ++ (x, i == 0) ∷ [] → rows_from d ≡ rows_from a ++ rows_in true (map constant_of (take (i + 1) xs))
items_more xs i x a b d lt is before now =
    let count : length (map constant_of (take i xs)) ≡ i = length-map (take i xs) constant_of ∙ length-take-le i xs (omega arith) in
    let more : take (i + 1) xs ≡ take i xs ++ x ∷ [] = take_more xs i x lt ∙ ap (λ y. take i xs ++ y ∷ []) (sym is) in
    let mapped : map constant_of (take (i + 1) xs) ≡ map constant_of (take i xs) ++ constant_of x ∷ [] = ap (map constant_of) more ∙ map_push constant_of (take i xs) x in
    let one : Bool → Row = λ b. record { item = constant_of x; first = b } in
    let rows : rows_in true (map constant_of (take (i + 1) xs)) ≡ rows_in true (map constant_of (take i xs)) ++ one (i == 0) ∷ [] = ap (rows_in true) mapped ∙ (rows_in-push (map constant_of (take i xs)) (constant_of x) ∙ ap (λ n. rows_in true (map constant_of (take i xs)) ++ one (n == 0) ∷ []) count) in
    ap rows_from now ∙ (map_push row_from b (x, i == 0) ∙ (ap (λ rs. rs ++ one (i == 0) ∷ []) before
    ∙ (append_assoc (rows_from a) (rows_in true (map constant_of (take i xs))) (one (i == 0) ∷ []) ∙ ap (λ rs. rows_from a ++ rs) (sym rows))))

pub blocks_more : (xs : List Block) (i : ℕ) (x : Block) (b d : List (ConItem × Bool)) → i < length xs → x ≡ get_or xs i x → rows_from b ≡ rows_of (map block_of (take i xs)) → rows_from d ≡ rows_from b ++ rows_of (block_of x ∷ []) → rows_from d ≡ rows_of (map block_of (take (i + 1) xs))
blocks_more xs i x b d lt is before now =
    let more : take (i + 1) xs ≡ take i xs ++ x ∷ [] = take_more xs i x lt ∙ ap (λ y. take i xs ++ y ∷ []) (sym is) in
    let mapped : map block_of (take (i + 1) xs) ≡ map block_of (take i xs) ++ block_of x ∷ [] = ap (map block_of) more ∙ map_push block_of (take i xs) x in
    now ∙ (ap (λ rs. rs ++ rows_of (block_of x ∷ [])) before ∙ (sym (rows_of-append (map block_of (take i xs)) (block_of x ∷ [])) ∙ ap rows_of (sym mapped)))

-- a row that is read
pub row_read : {E : Type 0} (v : E → ConItem × Bool) (es : List E) (k : ℕ) (e : E) (rows : List (ConItem × Bool)) → map v es ≡ rows → k < length rows → e ≡ get_or es k e → row_at (rows_from rows) k ≡ row_from (v e)
row_read v es k e rows view lt is =
    let within : k < length es = omega (arith, ap length view, length-map es v) in
    ap (λ rs. row_at (rows_from rs) k) (sym view)
    ∙ (get_or-map row_from (map v es) k (v e) no_row (omega (arith, length-map es v))
    ∙ ap row_from (get_or-map v es k e (v e) within ∙ ap v (sym is)))

-- ---- names

-- one name more, in front of those behind it

given_or : (g : Option Meaning) (b : Bool) (node : ℕ) (o : Option ℕ) → (b ≡ true → g ≡ None → ⊥) → o ≡ or_else (given_here g b node) o
given_or None true node o h = absurd (h refl refl)
given_or None false node o h = refl
given_or (Some m) b node o h = refl

entered_or : (g : Option Meaning) (b : Bool) (node : ℕ) (new old : Option ℕ) → (b ≡ true → (g ≡ None) × (new ≡ Some node)) → (b ≡ false → new ≡ old) → new ≡ or_else (given_here g b node) old
entered_or None true node new old here others = (here refl).1
entered_or None false node new old here others = others refl
entered_or (Some m) true node new old here others = let none = (here refl).0 in absurd cc
entered_or (Some m) false node new old here others = others refl

-- an item without a name
pub unnamed_more : (outside : Setting) (n : List ℕ) (name : Option (List ℕ)) (node : ℕ) (o : Option ℕ) → name ≡ None → o ≡ or_else (named_here outside n name node) o
unnamed_more outside n name node o none = given_or (outside.name n) (is_named n name) node o (λ named free. false≢true (sym (ap (is_named n) none) ∙ named))

-- a name that means something outside
pub outside_more : (outside : Setting) (name : List ℕ) (m : Meaning) → outside.name name ≡ Some m → (n : List ℕ) (node : ℕ) (o : Option ℕ) → o ≡ or_else (named_here outside n (Some name) node) o
outside_more outside name m given n node o =
    given_or (outside.name n) (bytes_eq n name) node o (λ same none. let is : n ≡ name = (bytes_eq-Decides n name).0 same in let both : Some m ≡ None = sym given ∙ ap outside.name (sym is) ∙ none in absurd cc)

-- a name that is entered
pub entered_more : (outside : Setting) (name : List ℕ) (node : ℕ) (new old : List ℕ → Option ℕ) → outside.name name ≡ None → new name ≡ Some node → ((n : List ℕ) → ¬ (n ≡ name) → new n ≡ old n)
    → (n : List ℕ) → new n ≡ or_else (named_here outside n (Some name) node) (old n)
entered_more outside name node new old free is others n =
    entered_or (outside.name n) (bytes_eq n name) node (new n) (old n) (λ same. let at : n ≡ name = (bytes_eq-Decides n name).0 same in (ap outside.name at ∙ free, ap new at ∙ is))
    (λ apart. others n (λ e. false≢true (sym apart ∙ (bytes_eq-Decides n name).1 e)))

front_cases : (f : ℕ → ℕ) (j : ℕ) (g : Option Meaning) (b : Bool) (o : Option ℕ) → option_map (λ i. f (j + i)) (unless_given g (if b then Some 0 else option_map suc o)) ≡ or_else (given_here g b (f j)) (option_map (λ i. f ((j + 1) + i)) (unless_given g o))
front_cases f j None true o = ap (λ (m : ℕ). Some (f m)) (let e : j + 0 ≡ j = omega arith in e)
front_cases f j None false None = refl
front_cases f j None false (Some i) = ap (λ (m : ℕ). Some (f m)) (let e : j + suc i ≡ (j + 1) + i = omega arith in e)
front_cases f j (Some m) b o = refl

-- what a name stands for from an item on, counted from there, and from the one before it on
abbrev pub index_from : Setting → List Row → ℕ → (ℕ → ℕ) → List ℕ → Option ℕ
index_from outside rows k f n = option_map (λ i. f (k + i)) (constant_at outside (drop k rows) n)

pub index_more : (outside : Setting) (rows : List Row) (k : ℕ) (f : ℕ → ℕ) (n : List ℕ) → 0 < k → k ≤ length rows → index_from outside rows (k - 1) f n ≡ or_else (named_here outside n (row_at rows (k - 1)).item.name (f (k - 1))) (index_from outside rows k f n)
index_more outside rows k f n some within =
    let j : ℕ = k - 1 in
    let next : j + 1 ≡ k = omega arith in
    ap (λ rs. option_map (λ i. f (j + i)) (constant_at outside rs n)) (drop_more rows j no_row (omega arith))
    ∙ front_cases f j (outside.name n) (is_named n (row_at rows j).item.name) (first_named (drop (j + 1) rows) n)
    ∙ ap (λ (m : ℕ). or_else (named_here outside n (row_at rows j).item.name (f j)) (index_from outside rows m f n)) next

none_given : (g : Option Meaning) → unless_given g None ≡ None
none_given None = refl
none_given (Some m) = refl

pub index_begin : (outside : Setting) (rows : List Row) (k : ℕ) (f : ℕ → ℕ) (n : List ℕ) → length rows ≤ k → index_from outside rows k f n ≡ None
index_begin outside rows k f n past =
    ap (λ rs. option_map (λ i. f (k + i)) (constant_at outside rs n)) (drop_all k rows past) ∙ ap (option_map (λ i. f (k + i))) (none_given (outside.name n))

pub index_end : (outside : Setting) (rows : List Row) (f : ℕ → ℕ) (n : List ℕ) → index_from outside rows 0 f n ≡ option_map f (constant_at outside rows n)
index_end outside rows f n = same_from (constant_at outside rows n)
  where
    same_from : (o : Option ℕ) → option_map (λ i. f (0 + i)) o ≡ option_map f o
    same_from None = refl
    same_from (Some i) = ap (λ (m : ℕ). Some (f m)) (let e : 0 + i ≡ i = omega arith in e)
