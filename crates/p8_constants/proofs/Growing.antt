-- The graph with an item, or a counter, more; and tables with a name more.
use Rattle.std.proofs.Common.{◌≡◌, ◌⊎◌, inl, inr, ℕ, zero, suc, ◌+◌, ◌*◌, ◌-◌, ◌<◌, Bool, true, false, List, [], ◌∷◌, ◌++◌, length, take, get_or, map, Option, Some, None, refl, sym, ap, ◌∙◌, subst, arith}
use Rattle.std.specs.Prelude.{Contains, option_map, if◌then◌else◌}
use Rattle.std.specs.Option.{option_to_list}
use Rattle.std.specs.Borrow.{Bor}
use Rattle.std.specs.List.{filter_map, cons_option}
use Rattle.std.specs.Str.{bytes_eq}
use Rattle.std.proofs.lemmas.Bool.{cases_Bool, cases_lt}
use Rattle.std.proofs.lemmas.Slice.Eq.{bytes_eq-Decides}
use Rattle.std.proofs.lemmas.List.{length_push, get_or_append_left, get_or_push, take_more, get_or-map, length-map}
use Rattle.p8_tree.specs.declared.sources.ConItem.{ConItem}
use Rattle.std.proofs.lemmas.List.Elements.{Contains-push_cases, filter_map-append}
use Rattle.p8_tree.specs.Expressions.{Tree}
use Rattle.p8_fold.specs.declared.meanings.Meaning.{Meaning}
use Rattle.p8_fold.specs.Meanings.{Setting}
use Rattle.p8_constants.specs.Graphs.{HasItsTargets}
use Rattle.p8_constants.proofs.Numbers.{edge_within}
use Rattle.p8_constants.specs.declared.rows.Move.{Move}
use Rattle.p8_constants.specs.declared.rows.Move.TheVariants.{Sets, Stays, Counts, Steps}
use Rattle.p8_constants.specs.Items.{zero_sum}
use Rattle.p8_constants.specs.Mentions.{mentioned}
use Rattle.p8_constants.specs.Rows.{Row, row_at, row_from, rows_from, IsGraph, expression_at, first_named, constant_at, node_of, find_in, moved, counter_value, move_of, nodes_by, nodes_behind, nodes_of_counter, IsGraphBy, meaning_in, IsPrepared, IsSameBut, IsNameEntered, IsEntered}
use Rattle.p8_constants.proofs.Listing.{value_at, step_at, first_defined, contains_none, contains_one, contains_cons, from_filter}
use Rattle.p8_constants.proofs.Graphs.{node_choice, free_and_named}

-- ---- the graph

pub item_added : (find : List ℕ → Option ℕ) (rows : List Row) (k : ℕ) (g g2 : List (List ℕ)) (a b : List ℕ) → IsGraphBy find rows k 0 g → g2 ≡ g ++ a ∷ [] ++ b ∷ [] → a ≡ nodes_by find (row_at rows k).item.value → b ≡ nodes_by find (row_at rows k).item.step → IsGraphBy find rows (k + 1) 0 g2
item_added find rows k g g2 a b h now ea eb =
    let count : length (g ++ a ∷ []) ≡ 2 * k + 1 = omega (arith, length_push g a, h.size) in
    let size : length g2 ≡ 2 * (k + 1) + 0 = omega (arith, ap length now, length_push (g ++ a ∷ []) b, count) in
    record {
      size = size;
      expressions = λ n lt. ap (λ xs. get_or xs n []) now ∙ elim (cases_lt n (2 * k + 1)) [
        | inl low ↦ get_or_append_left (g ++ a ∷ []) (b ∷ []) [] n (omega (arith, count)) ∙ elim (cases_lt n (2 * k)) [
          | inl old ↦ get_or_append_left g (a ∷ []) [] n (omega (arith, h.size)) ∙ h.expressions n old
          | inr at ↦
              let same : n ≡ 2 * k = omega arith in
              get_or_push g a [] n (omega (arith, h.size)) ∙ (ea ∙ ap (nodes_by find) (sym (value_at rows k) ∙ ap (expression_at rows) (sym same)))
        ]
        | inr high ↦
            let same : n ≡ 2 * k + 1 = omega arith in
            get_or_push (g ++ a ∷ []) b [] n (omega (arith, count)) ∙ (eb ∙ ap (nodes_by find) (sym (step_at rows k) ∙ ap (expression_at rows) (sym same)))
      ];
      counters = λ j lt. absurd (omega arith);
    }

pub counter_added : (find : List ℕ → Option ℕ) (rows : List Row) (count k : ℕ) (g g2 : List (List ℕ)) (v : List ℕ) → IsGraphBy find rows count k g → g2 ≡ g ++ v ∷ [] → v ≡ nodes_of_counter rows k → IsGraphBy find rows count (k + 1) g2
counter_added find rows count k g g2 v h now ev = record {
  size = omega (arith, ap length now, length_push g v, h.size);
  expressions = λ n lt. ap (λ xs. get_or xs n []) now ∙ (get_or_append_left g (v ∷ []) [] n (omega (arith, h.size)) ∙ h.expressions n lt);
  counters = λ j lt. ap (λ xs. get_or xs (2 * count + j) []) now ∙ elim (cases_lt j k) [
    | inl old ↦ get_or_append_left g (v ∷ []) [] (2 * count + j) (omega (arith, h.size)) ∙ h.counters j old
    | inr at ↦ let same : j ≡ k = omega arith in get_or_push g v [] (2 * count + j) (omega (arith, h.size)) ∙ (ev ∙ ap (nodes_of_counter rows) (sym same))
  ];
}

as_list : (o : Option ℕ) → cons_option o [] ≡ option_to_list o
as_list None = refl
as_list (Some x) = refl

pub nodes_more : (find : List ℕ → Option ℕ) (xs : List (List ℕ)) (i : ℕ) (x : List ℕ) (a b : List ℕ) → i < length xs → x ≡ get_or xs i [] → a ≡ filter_map find (take i xs) → b ≡ a ++ option_to_list (find x) → b ≡ filter_map find (take (i + 1) xs)
nodes_more find xs i x a b lt is before now =
    let more : take (i + 1) xs ≡ take i xs ++ x ∷ [] = take_more xs i [] lt ∙ ap (λ y. take i xs ++ y ∷ []) (sym is) in
    now ∙ (ap (λ a. a ++ option_to_list (find x)) before
    ∙ (ap (λ o. filter_map find (take i xs) ++ o) (sym (as_list (find x)))
    ∙ (sym (filter_map-append find (take i xs) (x ∷ [])) ∙ ap (filter_map find) (sym more))))

-- ---- names

pub name_read : (xs : List (Bor (List ℕ))) (i : ℕ) (x : Bor (List ℕ)) → i < length xs → x ≡ get_or xs i x → x.now ≡ get_or (map (λ t. t.now) xs) i []
name_read xs i x lt is = ap (λ t. t.now) is ∙ sym (get_or-map (λ t. t.now) xs i x [] lt)

refuted : {b : Bool} {P : Type 0} → (P → b ≡ true) → b ≡ false → ¬ P
refuted to false_ p = let so = to p in absurd cc

pub same_or_apart : (m n : List ℕ) → (m ≡ n) ⊎ (¬ (m ≡ n))
same_or_apart m n = elim (cases_Bool (bytes_eq m n)) [ inl yes_ ↦ inl ((bytes_eq-Decides m n).0 yes_) | inr no_ ↦ inr (refuted (bytes_eq-Decides m n).1 no_) ]

pub prepared_more : (index : List ℕ → Option ℕ) (numbers values : List ℕ) (node : ℕ) (xs : List (List ℕ)) (i : ℕ) (x : List ℕ) (s0 s s2 : Setting) (o : Option Meaning) → i < length xs → x ≡ get_or xs i [] → IsPrepared index numbers values node (take i xs) s0 s → (values2 : List ℕ) → values2 ≡ values → o ≡ option_map (meaning_in numbers values2 node) (index x) → IsSameBut x o s s2 → IsPrepared index numbers values node (take (i + 1) xs) s0 s2
prepared_more index numbers values node xs i x s0 s s2 o lt is before values2 same_values told same =
    let meaning : o ≡ option_map (meaning_in numbers values node) (index x) = told ∙ ap (λ vs. option_map (meaning_in numbers vs node) (index x)) same_values in
    let more : take (i + 1) xs ≡ take i xs ++ x ∷ [] = take_more xs i [] lt ∙ ap (λ y. take i xs ++ y ∷ []) (sym is) in
    let at_x : (n : List ℕ) (k : ℕ) → n ≡ x → index n ≡ Some k → s2.name n ≡ Some (meaning_in numbers values node k) = λ n k e at.
    let here : index x ≡ Some k = ap index (sym e) ∙ at in
    ap s2.name e ∙ same.entered (meaning_in numbers values node k) (meaning ∙ ap (option_map (meaning_in numbers values node)) here) in
    record {
      entered = λ n k there at. elim (same_or_apart n x) [
        | inl e ↦ at_x n k e at
        | inr differs ↦ elim (Contains-push_cases (take i xs) x n (subst (λ ys. Contains ys n) more there)) [
          | inl old ↦ same.others n differs ∙ before.entered n k old at
          | inr new ↦ absurd (differs (sym new))
        ]
      ];
      others = λ n none. elim (same_or_apart n x) [
        | inl e ↦
            let here : index x ≡ None = ap index (sym e) ∙ none in
            ap s2.name e ∙ (same.kept (meaning ∙ ap (option_map (meaning_in numbers values node)) here) ∙ (ap s.name (sym e) ∙ before.others n none))
        | inr differs ↦ same.others n differs ∙ before.others n none
      ];
      constants = λ object n. same.constants object n ∙ before.constants object n;
      here = same.here ∙ before.here;
    }

is_or_not : (o : Option (List ℕ)) (n : List ℕ) → (o ≡ Some n) ⊎ (¬ (o ≡ Some n))
is_or_not None n = inr (λ e. cc)
is_or_not (Some m) n = elim (same_or_apart m n) [ inl same ↦ inl (ap Some same) | inr differs ↦ inr (λ e. differs (let is : m ≡ n = cc in is)) ]

pub entered_more : (index : List ℕ → Option ℕ) (rows : List Row) (values : List ℕ) (k : ℕ) (s0 s s2 : Setting) → IsEntered index rows values k s0 s → IsNameEntered index (row_at rows k).item.name values s s2 → IsEntered index rows values (k + 1) s0 s2
entered_more index rows values k s0 s s2 before now = record {
  entered = λ j n node lt named at. elim (is_or_not (row_at rows k).item.name n) [
    | inl here_ ↦ now.entered n node here_ at
    | inr other ↦ elim (cases_lt j k) [
      | inl old ↦ now.others n other ∙ before.entered j n node old named at
      | inr last ↦ absurd (let same : j ≡ k = omega arith in other (ap (λ i. (row_at rows i).item.name) (sym same) ∙ named))
    ]
  ];
  unknown = λ n none. now.unknown n none ∙ before.unknown n none;
  constants = λ object n. now.constants object n ∙ before.constants object n;
  here = now.here ∙ before.here;
}

-- ---- counters

pub none_before : (rows : List Row) (k : ℕ) → (k ≡ 0) ⊎ ((row_at rows k).first ≡ true) → nodes_of_counter rows k ≡ []
none_before rows zero h = refl
none_before rows (suc k) (inl e) = absurd (omega arith)
none_before rows (suc k) (inr first) = ap (λ b. if b then [] else nodes_behind (length rows) k (move_of (row_at rows k).item)) first

pub counter_before : (rows : List Row) (k : ℕ) → 0 < k → (row_at rows k).first ≡ false → nodes_of_counter rows k ≡ nodes_behind (length rows) (k - 1) (move_of (row_at rows (k - 1)).item)
counter_before rows zero lt later = absurd (omega arith)
counter_before rows (suc k) lt later =
    let one : suc k - 1 ≡ k = omega arith in
    ap (λ b. if b then [] else nodes_behind (length rows) k (move_of (row_at rows k).item)) later ∙ ap (λ j. nodes_behind (length rows) j (move_of (row_at rows j).item)) (sym one)

pub value_before : (rows : List Row) (values : List ℕ) (k : ℕ) → 0 < k → (row_at rows k).first ≡ false → counter_value rows values k ≡ moved (length rows) values (k - 1) (move_of (row_at rows (k - 1)).item)
value_before rows values zero lt later = absurd (omega arith)
value_before rows values (suc k) lt later =
    let one : suc k - 1 ≡ k = omega arith in
    ap (λ b. if b then 0 else moved (length rows) values k (move_of (row_at rows k).item)) later ∙ ap (λ j. moved (length rows) values j (move_of (row_at rows j).item)) (sym one)

-- two look-ups that agree
filter_agrees : (f h : List ℕ → Option ℕ) → ((n : List ℕ) → f n ≡ h n) → (xs : List (List ℕ)) → filter_map f xs ≡ filter_map h xs
filter_agrees f h same [] = refl
filter_agrees f h same (x ∷ xs) = ap (λ o. cons_option o (filter_map f xs)) (same x) ∙ ap (cons_option (h x)) (filter_agrees f h same xs)

nodes_agree : (f h : List ℕ → Option ℕ) → ((n : List ℕ) → f n ≡ h n) → (o : Option Tree) → nodes_by f o ≡ nodes_by h o
nodes_agree f h same None = refl
nodes_agree f h same (Some e) = filter_agrees f h same (mentioned e)

pub graph_agrees : (f h : List ℕ → Option ℕ) → ((n : List ℕ) → f n ≡ h n) → (rows : List Row) (items count : ℕ) (g : List (List ℕ)) → IsGraphBy f rows items count g → IsGraphBy h rows items count g
graph_agrees f h same rows items count g k = record { size = k.size; expressions = λ n lt. k.expressions n lt ∙ nodes_agree f h same (expression_at rows n); counters = k.counters }

pub graph_of_all : (outside : Setting) (raw : List (ConItem × Bool)) (find : List ℕ → Option ℕ) (g : List (List ℕ)) → ((n : List ℕ) → find n ≡ find_in outside (rows_from raw) n) → IsGraphBy find (rows_from raw) (length raw) (length raw) g → IsGraph outside (rows_from raw) g
graph_of_all outside raw find g same k =
    let count : length raw ≡ length (rows_from raw) = sym (length-map raw row_from) in
    subst (λ n. IsGraphBy (find_in outside (rows_from raw)) (rows_from raw) n n g) count (graph_agrees find (find_in outside (rows_from raw)) same (rows_from raw) (length raw) (length raw) g k)

-- each edge leads to a node
module _ (outside : Setting) (rows : List Row) (g : List (List ℕ)) (graph : IsGraphBy (find_in outside rows) rows (length rows) (length rows) g) where
  node_low : (i : ℕ) → i < length rows → node_of rows i < length g
  node_low i lt = elim (node_choice (row_at rows i).item.value (2 * i) (2 * length rows + i)) [
    | inl (none, node) ↦ omega (arith, graph.size)
    | inr (e, some, node) ↦ omega (arith, graph.size)
  ]

  found_low : (o : Option ℕ) (b : ℕ) → ((i : ℕ) → o ≡ Some i → i < length rows) → option_map (node_of rows) o ≡ Some b → b < length g
  found_low None b low e = absurd cc
  found_low (Some i) b low e = let same : node_of rows i ≡ b = cc in omega (arith, node_low i (low i refl))

  named_low : (n : List ℕ) (i : ℕ) → constant_at outside rows n ≡ Some i → i < length rows
  named_low n i e = (first_defined rows zero_sum 0 n i (free_and_named (outside.name n) (first_named rows n) i e).1).0

  expression_low : (o : Option Tree) (b : ℕ) → Contains (nodes_by (find_in outside rows) o) b → b < length g
  expression_low None b at = absurd (contains_none b at)
  expression_low (Some e) b at = let (n, there, is) = from_filter (find_in outside rows) (mentioned e) b at in found_low (constant_at outside rows n) b (named_low n) is

  behind_low : (k : ℕ) (m : Move) (b : ℕ) → k < length rows → Contains (nodes_behind (length rows) k m) b → b < length g
  behind_low k Sets b lt at = omega (arith, contains_one (2 * k) b at, graph.size)
  behind_low k Stays b lt at = omega (arith, contains_one (2 * length rows + k) b at, graph.size)
  behind_low k Counts b lt at = omega (arith, contains_one (2 * length rows + k) b at, graph.size)
  behind_low k Steps b lt at = elim (contains_cons (2 * length rows + k) ((2 * k + 1) ∷ []) b at) [
    | inl e ↦ omega (arith, graph.size)
    | inr rest ↦ omega (arith, contains_one (2 * k + 1) b rest, graph.size)
  ]

  counter_low : (k b : ℕ) → k < length rows → Contains (nodes_of_counter rows k) b → b < length g
  counter_low zero b lt at = absurd (contains_none b at)
  counter_low (suc k) b lt at = elim (cases_Bool (row_at rows (suc k)).first) [
    | inl first ↦ absurd (contains_none b (subst (λ t. Contains (if t then [] else nodes_behind (length rows) k (move_of (row_at rows k).item)) b) first at))
    | inr later ↦ behind_low k (move_of (row_at rows k).item) b (omega arith) (subst (λ t. Contains (if t then [] else nodes_behind (length rows) k (move_of (row_at rows k).item)) b) later at)
  ]

  pub has_its_targets : HasItsTargets g
  has_its_targets a b e =
      let within = edge_within g a b e in
      elim (cases_lt a (2 * length rows)) [
        | inl low ↦ expression_low (expression_at rows a) b (subst (λ ts. Contains ts b) (graph.expressions a low) e.target)
        | inr high ↦
            let k : a - 2 * length rows < length rows = omega (arith, graph.size) in
            let same : 2 * length rows + (a - 2 * length rows) ≡ a = omega arith in
            counter_low (a - 2 * length rows) b k (subst (λ ts. Contains ts b) (ap (λ n. get_or g n []) (sym same) ∙ graph.counters (a - 2 * length rows) k) e.target)
      ]
