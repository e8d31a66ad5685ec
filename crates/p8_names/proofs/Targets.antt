-- The graph of a project's mentions: its edges are the mentions.
use Rattle.std.proofs.Common.{◌≡◌, ℕ, zero, suc, ◌<◌, List, [], ◌∷◌, length, map, take, get_or, Option, Some, None, option_map, slice_get, refl, sym, ap, ◌∙◌, subst, arith}
use Rattle.std.specs.Prelude.{Contains}
use Rattle.std.specs.List.{filter_map, cons_option}
use Rattle.std.proofs.lemmas.List.{length-map, take_all}
use Rattle.std.proofs.lemmas.Option.{slice_get-map, get_or_from_slice_get}
use Rattle.p8_tree.specs.Sources.{Child}
use Rattle.p8_tree.specs.Projects.{NamedSource}
use Rattle.p8_tree.specs.Views.{source_of, named_source_of}
use Rattle.p8_tree.specs.declared.projects.ProjectFile.{ProjectFile}
use Rattle.p8_constants.specs.Graphs.{targets_of, IsEdge, HasItsTargets, Reaches, itself, along}
use Rattle.p8_constants.proofs.Numbers.{edge_within}
use Rattle.p8_names.specs.Mentions.{mentions, IsNamed, Mentions, Leads, there, over, HaveMentioned}
use Rattle.p8_names.specs.Finding.{HasNumbers, AreTargets, IsGraphOf}
use Rattle.p8_names.proofs.Numbering.{given, named_within}

pub first : {X : Type 0} (x : X) (xs : List X) → Contains (x ∷ xs) x
first x xs = (0, omega arith, refl)

pub later : {X : Type 0} (x : X) (xs : List X) (y : X) → Contains xs y → Contains (x ∷ xs) y
later x xs y (i, lt, is) = (suc i, omega arith, is)

pub at_within : {X : Type 0} (xs : List X) (i : ℕ) → i < length xs → (x : X) × (slice_get xs i ≡ Some x)
at_within [] i lt = absurd (omega arith)
at_within (x ∷ xs) zero lt = (x, refl)
at_within (x ∷ xs) (suc i) lt = at_within xs i (omega arith)

mapped : {A B : Type 0} (f : A → B) (o : Option A) (y : B) → option_map f o ≡ Some y → (x : A) × (o ≡ Some x) × (f x ≡ y)
mapped f None y e = absurd cc
mapped f (Some x) y e = (x, refl, cc)

-- ---- what the code finds

abbrev found : (List ℕ → Option ℕ) → NamedSource → List ℕ
found at f = filter_map (λ x. at x.file) (mentions f.tree)

are_targets : (files : List NamedSource) (at : List ℕ → Option ℕ) (xs : List Child) → ((x : Child) → Contains xs x → (j : ℕ) × (at x.file ≡ Some j) × IsNamed files j x.file) → AreTargets files xs (filter_map (λ x. at x.file) xs)
are_targets files at [] h = tt
are_targets files at (x ∷ xs) h =
    let (j, is, named) = h x (first x xs) in
    let rest : AreTargets files xs (filter_map (λ x. at x.file) xs) = are_targets files at xs (λ y among. h y (later x xs y among)) in
    subst (λ o. AreTargets files (x ∷ xs) (cons_option o (filter_map (λ x. at x.file) xs))) (sym is) (named, rest)

pub is_graph : (raw : List ProjectFile) (at : List ℕ → Option ℕ) (g : List (List ℕ)) → g ≡ map (λ r. filter_map (λ x. at x.file) (mentions (source_of r.tree))) raw → HasNumbers (map named_source_of raw) (length (map named_source_of raw)) at → HaveMentioned (map named_source_of raw) → IsGraphOf (map named_source_of raw) g
is_graph raw at g is numbers mentioned =
    let files = map named_source_of raw in
    let row : ProjectFile → List ℕ = λ r. filter_map (λ x. at x.file) (mentions (source_of r.tree)) in
    let targets : (f : NamedSource) (i : ℕ) → slice_get files i ≡ Some f → AreTargets files (mentions f.tree) (filter_map (λ x. at x.file) (mentions f.tree)) = λ f i stands.
    are_targets files at (mentions f.tree) (λ x among.
    let (j, named) = mentioned i f x stands among in
    let (k, entry) = given (at x.file) (numbers.complete x.file j (named_within files j x.file named) named) in
    (k, entry, numbers.sound x.file k entry)) in
    record {
      size = ap length is ∙ (length-map raw row ∙ sym (length-map raw named_source_of));
      each = λ i f stands.
          let (r, read, view) = mapped named_source_of (slice_get raw i) f (sym (slice_get-map named_source_of raw i) ∙ stands) in
          let at_i : targets_of g i ≡ row r = ap (λ ts. get_or ts i []) is ∙ get_or_from_slice_get (map row raw) i (row r) [] (slice_get-map row raw i ∙ ap (option_map row) read) in
          let same : row r ≡ filter_map (λ x. at x.file) (mentions f.tree) = ap (λ f. filter_map (λ x. at x.file) (mentions f.tree)) view in
          subst (AreTargets files (mentions f.tree)) (sym (at_i ∙ same)) (targets f i stands);
    }

-- ---- what its edges are

target_named : (files : List NamedSource) (xs : List Child) (js : List ℕ) (k : ℕ) → AreTargets files xs js → Contains js k → (x : Child) × Contains xs x × IsNamed files k x.file
target_named files [] [] k h (i, lt, is) = absurd (omega arith)
target_named files (x ∷ xs) (j ∷ js) k h (zero, lt, is) = (x, first x xs, subst (λ k. IsNamed files k x.file) is h.0)
target_named files (x ∷ xs) (j ∷ js) k h (suc i, lt, is) =
    let (y, among, named) = target_named files xs js k h.1 (i, omega arith, is) in
    (y, later x xs y among, named)
target_named files [] (j ∷ js) k h c = absurd h
target_named files (x ∷ xs) [] k h c = absurd h

pub edge_mentions : (files : List NamedSource) (g : List (List ℕ)) → IsGraphOf files g → (a b : ℕ) → IsEdge g a b → Mentions files a b
edge_mentions files g graph a b e =
    let (f, stands) = at_within files a (omega (arith, edge_within g a b e, graph.size)) in
    let (x, among, named) = target_named files (mentions f.tree) (targets_of g a) b (graph.each a f stands) e.target in
    record { file = f; stands = stands; item = x; among = among; named = named }

pub has_its_targets : (files : List NamedSource) (g : List (List ℕ)) → IsGraphOf files g → HasItsTargets g
has_its_targets files g graph a b e =
    let m = edge_mentions files g graph a b e in
    omega (arith, named_within files b m.item.file m.named, graph.size)

pub leads : (files : List NamedSource) (g : List (List ℕ)) → IsGraphOf files g → (a b : ℕ) → Reaches g a b → Leads files a b
leads files g graph a b itself = there
leads files g graph a b (along {b = c} e more) = over (edge_mentions files g graph a c e) (leads files g graph c b more)

-- all of a list has been gone through
pub all_taken : {X : Type 0} (xs ys : List X) (i : ℕ) → ys ≡ xs → ¬ (i < length ys) → take i ys ≡ xs
all_taken xs ys i same past = take_all i ys (omega (arith, past)) ∙ same
