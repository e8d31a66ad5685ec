-- One file more has been looked at; and all have.
use Rattle.std.proofs.Common.{◌≡◌, inl, inr, ℕ, zero, suc, ◌+◌, ◌<◌, ◌≤◌, ◌↔◌, List, [], ◌∷◌, length, map, set, get_or, Some, slice_get, refl, sym, ap, ◌∙◌, subst, arith}
use Rattle.std.specs.Prelude.{Contains, All}
use Rattle.std.specs.List.{filter_map, cons_option}
use Rattle.std.proofs.lemmas.Bool.{cases_eq, cases_lt}
use Rattle.std.proofs.lemmas.List.{length-set, length-map, get_or_default}
use Rattle.std.proofs.lemmas.List.Elements.{Contains-get_or}
use Rattle.std.proofs.lemmas.Option.{slice_get_within}
use Rattle.p8_tree.specs.Sources as trees
use Rattle.p8_tree.specs.Projects.{NamedSource}
use Rattle.p8_tree.specs.Views.{source_of, named_source_of}
use Rattle.p8_tree.specs.declared.projects.ProjectFile.{ProjectFile}
use Rattle.p8_constants.specs.Graphs.{targets_of, IsEdge, Reaches}
use Rattle.p8_constants.specs.Orders.{ComesNoLater}
use Rattle.p8_constants.proofs.Numbers.{edge_within}
use Rattle.p8_kinds.specs.declared.children.Child.{Child}
use Rattle.p8_kinds.specs.declared.children.Children.{Children}
use Rattle.p8_names.specs.Mentions.{mentions, HaveNoRing}
use Rattle.p8_names.specs.Children.{IsSeen, AreSeen, AreChildren}
use Rattle.p8_names.specs.Finding.{AreTargets, IsGraphOf, IsLookedAt, IsDone, AreDone, NoneLeadsOn}
use Rattle.p8_names.proofs.Numbering.{item_stands, one_file, some_same, named_within}
use Rattle.p8_names.proofs.Targets.{edge_mentions, leads}

set_same : {X : Type 0} (xs : List X) (i : ℕ) (x : X) → i < length xs → slice_get (set xs i x) i ≡ Some x
set_same [] i x lt = absurd (omega arith)
set_same (y ∷ ys) zero x lt = refl
set_same (y ∷ ys) (suc i) x lt = set_same ys i x (omega arith)

set_other : {X : Type 0} (xs : List X) (i j : ℕ) (x : X) → ¬ (j ≡ i) → slice_get (set xs i x) j ≡ slice_get xs j
set_other [] i j x differs = refl
set_other (y ∷ ys) zero zero x differs = absurd (differs refl)
set_other (y ∷ ys) zero (suc j) x differs = refl
set_other (y ∷ ys) (suc i) zero x differs = refl
set_other (y ∷ ys) (suc i) (suc j) x differs = set_other ys i j x (λ e. differs (ap suc e))

-- numbers of which none is that of the file that was looked at
same_seen : (seen : List Child) (node : ℕ) (c : Child) (ts : List ℕ) → ((t : ℕ) → Contains ts t → ¬ (t ≡ node)) → filter_map (slice_get (set seen node c)) ts ≡ filter_map (slice_get seen) ts
same_seen seen node c [] apart = refl
same_seen seen node c (t ∷ ts) apart =
    let head = set_other seen node t c (apart t (0, omega arith, refl)) in
    let rest : filter_map (slice_get (set seen node c)) ts ≡ filter_map (slice_get seen) ts = same_seen seen node c ts (λ u (i, lt, is). apart u (suc i, omega arith, is)) in
    ap (λ o. cons_option o (filter_map (slice_get (set seen node c)) ts)) head ∙ ap (cons_option (slice_get seen t)) rest

-- ---- the order

-- no file leads to one of its number or a greater one
pub strict : (files : List NamedSource) (g : List (List ℕ)) (numbers : List ℕ) → HaveNoRing files → IsGraphOf files g → ((a b : ℕ) → IsEdge g a b → get_or numbers b 0 ≤ get_or numbers a 0) → ((a b : ℕ) → a < length g → b < length g → (get_or numbers a 0 ≡ get_or numbers b 0) ↔ (Reaches g a b × Reaches g b a)) → (a b : ℕ) → IsEdge g a b → get_or numbers b 0 < get_or numbers a 0
strict files g numbers no_ring graph falls same a b e =
    let m = edge_mentions files g graph a b e in
    elim (cases_lt (get_or numbers b 0) (get_or numbers a 0)) [
      | inl lower ↦ lower
      | inr not_lower ↦ absurd (
          let equal : get_or numbers a 0 ≡ get_or numbers b 0 = omega (arith, falls a b e) in
          no_ring a b m (leads files g graph b a ((same a b (edge_within g a b e) (omega (arith, named_within files b m.item.file m.named, graph.size))).0 equal).1)
          )
    ]

pub none_leads_on : (g : List (List ℕ)) (order numbers : List ℕ) → ((a b : ℕ) → IsEdge g a b → get_or numbers b 0 < get_or numbers a 0) → ((i j : ℕ) → i ≤ j → j < length order → ComesNoLater numbers (get_or order i 0) (get_or order j 0)) → NoneLeadsOn g order
none_leads_on g order numbers falls ordered q place t le lt among same =
    let low : get_or numbers t 0 < get_or numbers (get_or order q 0) 0 = falls (get_or order q 0) t (record { target = among }) in
    let equal : get_or numbers t 0 ≡ get_or numbers (get_or order place 0) 0 = ap (λ n. get_or numbers n 0) same in
    elim (ordered q place le lt) [ inl less ↦ omega (arith, low, equal, less) | inr both ↦ omega (arith, low, equal, both.0) ]

module _ (files : List NamedSource) (g : List (List ℕ)) (order : List ℕ) (apart : NoneLeadsOn g order) where
  module _ (place : ℕ) (children now : List Children) (seen seen_now : List Child) (f : NamedSource) (lt : place < length order) (stands : slice_get files (get_or order place 0) ≡ Some f) (before : AreDone files g order place children seen) (l : IsLookedAt f.tree (targets_of g (get_or order place 0)) (get_or order place 0) children seen now seen_now) where
    abbrev node : ℕ
    node = get_or order place 0

    within : get_or order place 0 < length files
    within = slice_get_within files (get_or order place 0) f stands

    same_targets : (q : ℕ) → q ≤ place → filter_map (slice_get seen_now) (targets_of g (get_or order q 0)) ≡ filter_map (slice_get seen) (targets_of g (get_or order q 0))
    same_targets q le =
        ap (λ s. filter_map (slice_get s) (targets_of g (get_or order q 0))) l.puts_child
        ∙ same_seen seen node l.child (targets_of g (get_or order q 0)) (λ t among. apart q place t le lt among)

    here : IsDone files g now seen_now (get_or order place 0)
    here = record {
      file = f;
      stands = stands;
      own = l.own;
      beside = ap (λ cs. slice_get cs node) l.puts_own ∙ set_same children node l.own (omega (arith, within, before.one_each));
      child = l.child;
      shown = ap (λ s. slice_get s node) l.puts_child ∙ set_same seen node l.child (omega (arith, within, before.one_seen));
      from = l.from ∙ sym (same_targets place (omega arith));
      is = l.is;
    }

    kept : (q : ℕ) → q < place → ¬ (get_or order q 0 ≡ get_or order place 0) → IsDone files g now seen_now (get_or order q 0)
    kept q low differs =
        let d = before.done q low in
        let i = get_or order q 0 in
        record {
          file = d.file;
          stands = d.stands;
          own = d.own;
          beside = ap (λ cs. slice_get cs i) l.puts_own ∙ (set_other children node i l.own differs ∙ d.beside);
          child = d.child;
          shown = ap (λ s. slice_get s i) l.puts_child ∙ (set_other seen node i l.child differs ∙ d.shown);
          from = d.from ∙ sym (same_targets q (omega arith));
          is = d.is;
        }

    pub one_more : AreDone files g order (place + 1) now seen_now
    one_more = record {
      one_each = ap length l.puts_own ∙ (length-set children node l.own ∙ before.one_each);
      one_seen = ap length l.puts_child ∙ (length-set seen node l.child ∙ before.one_seen);
      done = λ q low. elim (cases_eq (get_or order q 0) (get_or order place 0)) [
        | inl same ↦ subst (IsDone files g now seen_now) (sym same) here
        | inr differs ↦ elim (cases_lt q place) [
          | inl earlier ↦ kept q earlier differs
          | inr last ↦ absurd (let same : q ≡ place = omega arith in differs (ap (λ p. get_or order p 0) same))
        ]
      ];
    }

-- by what the code reads
pub one_found : (raw all : List ProjectFile) (g : List (List ℕ)) (order : List ℕ) (place : ℕ) (r : ProjectFile) (ts : List ℕ) (children now : List Children) (seen seen_now : List Child) → NoneLeadsOn g order → All (λ a. a < length (map named_source_of raw)) order → all ≡ raw → place < length order → r ≡ get_or all (get_or order place 0) r → ts ≡ targets_of g (get_or order place 0)
    → AreDone (map named_source_of raw) g order place children seen → IsLookedAt (source_of (get_or all (get_or order place 0) r).tree) ts (get_or order place 0) children seen now seen_now → AreDone (map named_source_of raw) g order (place + 1) now seen_now
one_found raw all g order place r ts children now seen seen_now apart nodes same lt is targets before l =
    let node = get_or order place 0 in
    let low : get_or order place 0 < length all = omega (arith, nodes place 0 lt, length-map raw named_source_of, ap length same) in
    one_more (map named_source_of raw) g order apart place children now seen seen_now (named_source_of r) lt (item_stands raw all node r same low is) before
    (subst (λ ts. IsLookedAt (source_of r.tree) ts (get_or order place 0) children seen now seen_now) targets (subst (λ r. IsLookedAt (source_of r.tree) ts (get_or order place 0) children seen now seen_now) (sym is) l))

-- ---- the order that components give

abbrev AreNodes : List ℕ → List ℕ → Type 0
AreNodes order numbers = (a : ℕ) → Contains order a ↔ (a < length numbers)

abbrev AreOrdered : List ℕ → List ℕ → Type 0
AreOrdered order numbers = (i j : ℕ) → i ≤ j → j < length order → ComesNoLater numbers (get_or order i 0) (get_or order j 0)

pub are_low : (order read numbers : List ℕ) (count : ℕ) → AreNodes order numbers → length numbers ≡ count → read ≡ order → All (λ a. a < count) read
are_low order read numbers count nodes size same k d lt =
    let among : Contains order (get_or read k d) = subst (λ xs. Contains xs (get_or read k d)) same (Contains-get_or read k d lt) in
    omega (arith, (nodes (get_or read k d)).0 among, size)

pub none_leads : (files : List NamedSource) (g : List (List ℕ)) (order read numbers numbers_read : List ℕ) → HaveNoRing files → IsGraphOf files g → ((a b : ℕ) → IsEdge g a b → get_or numbers b 0 ≤ get_or numbers a 0) → ((a b : ℕ) → a < length g → b < length g → (get_or numbers a 0 ≡ get_or numbers b 0) ↔ (Reaches g a b × Reaches g b a)) → numbers_read ≡ numbers → AreOrdered order numbers_read → read ≡ order → NoneLeadsOn g read
none_leads files g order read numbers numbers_read no_ring graph falls same numbers_same ordered read_same =
    subst (NoneLeadsOn g) (sym read_same) (none_leads_on g order numbers (strict files g numbers no_ring graph falls same) (subst (AreOrdered order) numbers_same ordered))

-- ---- all of them

is_done : (files : List NamedSource) (g : List (List ℕ)) (order numbers : List ℕ) (children : List Children) (seen : List Child) → ((a : ℕ) → Contains order a ↔ (a < length numbers)) → length numbers ≡ length files → AreDone files g order (length order) children seen → (i : ℕ) → i < length files → IsDone files g children seen i
is_done files g order numbers children seen nodes size all i lt =
    let (q, low, is) = (nodes i).1 (omega (arith, size)) in
    subst (IsDone files g children seen) (get_or_default order q 0 i low ∙ is) (all.done q low)

all_seen : (files : List NamedSource) (g : List (List ℕ)) (children : List Children) (seen : List Child) → ((i : ℕ) → i < length files → IsDone files g children seen i) → (xs : List trees.Child) (js : List ℕ) → AreTargets files xs js → AreSeen files children xs (filter_map (slice_get seen) js)
all_seen files g children seen done [] [] h = tt
all_seen files g children seen done (x ∷ xs) (j ∷ js) h =
    let named = h.0 in
    let d = done j (named_within files j x.file named) in
    let is : IsSeen files children x.file d.child = record {
      number = j;
      file = d.file;
      stands = d.stands;
      named = ap (λ f. f.name) (one_file files j d.file named.file d.stands named.stands) ∙ named.named;
      children = d.own;
      beside = d.beside;
      is = d.is;
    } in
    let rest : AreSeen files children xs (filter_map (slice_get seen) js) = all_seen files g children seen done xs js h.1 in
    subst (λ o. AreSeen files children (x ∷ xs) (cons_option o (filter_map (slice_get seen) js))) (sym d.shown) (is, rest)
all_seen files g children seen done [] (j ∷ js) h = absurd h
all_seen files g children seen done (x ∷ xs) [] h = absurd h

pub are_children : (files : List NamedSource) (g : List (List ℕ)) (order read numbers : List ℕ) (children : List Children) (seen : List Child) → IsGraphOf files g → AreNodes order numbers → length numbers ≡ length files → read ≡ order → AreDone files g read (length read) children seen → AreChildren files children
are_children files g order read numbers children seen graph nodes_of_order size same all =
    let nodes : AreNodes read numbers = subst (λ xs. AreNodes xs numbers) (sym same) nodes_of_order in
    record {
      one_each = all.one_each;
      each = λ i f c stands beside.
          let done = is_done files g read numbers children seen nodes size all in
          let d = done i (slice_get_within files i f stands) in
          let own : d.own ≡ c = some_same (sym d.beside ∙ beside) in
          let items : c.items ≡ filter_map (slice_get seen) (targets_of g i) = ap (λ c. c.items) (sym own) ∙ d.from in
          subst (AreSeen files children (mentions f.tree)) (sym items) (all_seen files g children seen done (mentions f.tree) (targets_of g i) (graph.each i f stands));
    }
