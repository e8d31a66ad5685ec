-- What the names of an accepted project mean: each constant is worth what its item says by the meanings of the whole file.
use Rattle.std.proofs.Common.{◌≡◌, ◌⊎◌, inl, inr, ◌∙◌, sym, ap, ap₂, subst, refl, arith, ℕ, zero, suc, ◌+◌, ◌%◌, ◌^◌, Bool, true, false, List, [], ◌∷◌, ◌++◌, length, slice_get, Option, Some, None}
use Rattle.std.specs.Prelude.{Contains, cond, if◌then◌else◌, IsSome, option_map}
use Rattle.std.specs.Option.{option_or}
use Rattle.std.specs.Str.{bytes_eq}
use Rattle.std.proofs.lemmas.Option.{same_Some}
use Rattle.p8_tree.specs.declared.places.Place.{Place}
use Rattle.p8_tree.specs.declared.faults.Fault.{Fault}
use Rattle.p8_tree.specs.declared.refusal.Refusal.TheVariants.{NotConstant, WrongKind}
use Rattle.p8_tree.specs.Faults.{fault}
use Rattle.p8_tree.specs.Names.{result_word}
use Rattle.p8_tree.specs.Expressions.{Tree, node, Form, Number, Str, Strings, Here, Var, Call, Unary, Binary, Assign, Change, Address, ObjectAddress}
use Rattle.p8_tree.specs.Expressions.{ObjConst, Built, Look, Variable, Named, Part, Memory, Register, no_index, index, whole, bits, Trees, no_trees, ◌▷◌}
use Rattle.p8_tree.specs.Sources as trees
use Rattle.p8_tree.specs.Sources.{Constant, Source, Con, Obj, Method, Dat}
use Rattle.p8_tree.specs.Projects.{NamedSource}
use Rattle.p8_fold.specs.declared.meanings.Meaning.{Meaning}
use Rattle.p8_fold.specs.declared.meanings.Meaning.TheVariants.{Value, Other}
use Rattle.p8_fold.specs.Meanings.{Setting, meaning_of, value_of_meaning, address_of_meaning, given}
use Rattle.p8_fold.specs.Values.{value, value_of_variable, address_of, unless, fault_of_variable, fault_of_call, fault_of_constant, own_fault, FaultIn, FaultInside, FaultInTrees}
use Rattle.p8_fold.proofs.Agreeing.{value_same}
use Rattle.p8_constants.specs.Items.{Term, Sum, value_term, step_term, zero_sum, sum_of, stepped, after, with_name, named_from, definitions_from, definitions, definition, with_term, terms_in, expressions_from, expressions}
use Rattle.p8_constants.specs.Mentions.{Mentions, FormMentions, VariableMentions, TreesMention}
use Rattle.p8_constants.specs.Constants.{Scope, scope_of, Means, from_outside, nothing, circular, constant, IsRightFor, right, Adds, none, further, Has, has, counted}
use Rattle.p8_constants.proofs.Agreeing.{Alike, agree}
use Rattle.p8_constants.proofs.OneValue.{has_one}
use Rattle.p8_constants.proofs.Graphs.{option_cases}
use Rattle.p8_constants.proofs.Listing.{contains_here, contains_there}
use Rattle.p8_kinds.specs.declared.children.Child.{Child}
use Rattle.p8_kinds.specs.declared.children.Children.{Children}
use Rattle.p8_names.specs.Settings.{outside}
use Rattle.p8_names.specs.Settings as settings
use Rattle.p8_names.specs.Children as children_specs
use Rattle.p8_names.specs.Faults.{IsNameFault, of_constant}
use Rattle.p8_names.specs.Mentions.{mentions}
use Rattle.p8_prop.specs.Names.{IsSetting, IsSeen, AreSeen, AreChildren}
use Rattle.p8_prop.proofs.Worth.{added, worth, IsSettingBySums, setting-to}

-- ---- a name that is no constant where it stands is a fault there

module _ (t : Setting) (n : List ℕ) (other : t.name n ≡ Some Other) where
  unless-result : (b : Bool) (x : Option Meaning) → x ≡ Some Other → (if b then Some Other else x) ≡ Some Other
  unless-result true x e = refl
  unless-result false x e = e

  meaning-other : (name : List ℕ) → n ≡ name → meaning_of t name ≡ Some Other
  meaning-other name same = unless-result (bytes_eq name result_word) (t.name name) (ap (λ (k : List ℕ). t.name k) (sym same) ∙ other)

  no-value : (v : Variable) → VariableMentions v n → value_of_variable t v ≡ None
  no-value (Named name no_index q) (inl same) = ap (given value_of_meaning) (meaning-other name same)
  no-value (Named name no_index q) (inr m) = absurd m
  no-value (Named name (index e) q) m = refl
  no-value (Part name size i q) m = refl
  no-value (Memory size e i q) m = refl
  no-value (Register address whole q) m = absurd m
  no-value (Register address (bits x) q) m = refl

  no-address : (v : Variable) → VariableMentions v n → address_of t v ≡ None
  no-address (Named name no_index q) (inl same) = ap (given address_of_meaning) (meaning-other name same)
  no-address (Named name no_index q) (inr m) = absurd m
  no-address (Named name (index e) q) m = refl
  no-address (Part name size i q) m = refl
  no-address (Memory size e i q) m = refl
  no-address (Register address x q) m = refl

  mutual
    pub other-fault : (e : Tree) → Mentions e n → (f : Fault) × FaultIn t e f
    other-fault (node p form) m = other-in p form m

    other-in : (p : Place) (form : Form) → FormMentions form n → (f : Fault) × ((own_fault t p form ≡ Some f) ⊎ FaultInside t form f)
    other-in p (Number v) m = absurd m
    other-in p (Str text) m = absurd m
    other-in p (Strings items) m = (fault NotConstant p, inl refl)
    other-in p Here m = absurd m
    other-in p (Var v) m = (fault_of_variable t v, inl (ap (λ (x : Option ℕ). unless x (fault_of_variable t v)) (no-value v m)))
    other-in p (Address v) m = (fault_of_variable t v, inl (ap (λ (x : Option ℕ). unless x (fault_of_variable t v)) (no-address v m)))
    other-in p (Call trap object i method q args) m = (fault_of_call t object method p q, inl refl)
    other-in p (Unary k e) m = let it = other-fault e m in (it.0, inr it.1)
    other-in p (Binary k a b) (inl m) = let it = other-fault a m in (it.0, inr (inl it.1))
    other-in p (Binary k a b) (inr m) = let it = other-fault b m in (it.0, inr (inr it.1))
    other-in p (Assign v k e) m = (fault_of_variable t v, inl refl)
    other-in p (Change v k) m = (fault_of_variable t v, inl refl)
    other-in p (ObjectAddress e) m = (fault NotConstant p, inl refl)
    other-in p (ObjConst object name q) m =
        (fault WrongKind p, inl (ap (λ (x : Option Meaning). fault_of_constant t x object name p q) (meaning-other object m)))
    other-in p (Built code args) m = let it = other-trees args m in (it.0, inr it.1)
    other-in p (Look k e xs) m = (fault NotConstant p, inl refl)

    other-trees : (es : Trees) → TreesMention es n → (f : Fault) × FaultInTrees t es f
    other-trees no_trees m = absurd m
    other-trees (es ▷ e) (inl m) = let it = other-trees es m in (it.0, inl it.1)
    other-trees (es ▷ e) (inr m) = let it = other-fault e m in (it.0, inr it.1)

-- ---- the expressions for which a constant stands are among those of the file

module _ (Good : Term → Type 0) where
  abbrev pub All : List Term → Type 0
  All [] = Unit {0}
  All (t ∷ ts) = Good t × All ts

  abbrev pub Says : List (List ℕ × Sum) → Type 0
  Says [] = Unit {0}
  Says (d ∷ ds) = All d.1.terms × Says ds

  pub all-of : (ts : List Term) → ((t : Term) → Contains ts t → Good t) → All ts
  all-of [] good = tt
  all-of (t ∷ ts) good = (good t (contains_here t ts), all-of ts (λ u at. good u (contains_there t ts u at)))

  all-left : (ts us : List Term) → All (ts ++ us) → All ts
  all-left [] us all = tt
  all-left (t ∷ ts) us all = (all.0, all-left ts us all.1)

  all-right : (ts us : List Term) → All (ts ++ us) → All us
  all-right [] us all = all
  all-right (t ∷ ts) us all = all-right ts us all.1

  all-push : (ts : List Term) (t : Term) → All ts → Good t → All (ts ++ t ∷ [])
  all-push [] t all good = (good, tt)
  all-push (u ∷ ts) t all good = (all.0, all-push ts t all.1 good)

  all-rest : (f : Tree → Term) (o : Option Tree) (rest : List Term) → All (with_term f o rest) → All rest
  all-rest f None rest all = all
  all-rest f (Some e) rest all = all.1

  all-sum : (c : Sum) (k : ℕ) (o : Option Tree) (rest : List Term) → All c.terms → All (with_term (value_term k) o rest) → All (sum_of c k o).terms
  all-sum c k None rest before all = before
  all-sum c k (Some e) rest before all = (all.0, tt)

  all-stepped : (c : Sum) (k : ℕ) (o step : Option Tree) (rest : List Term) → All c.terms → All (with_term (step_term k) step rest)
      → All (stepped c k o step).terms
  all-stepped c k (Some e) step rest before all = before
  all-stepped c k None None rest before all = before
  all-stepped c k None (Some e) rest before all = all-push c.terms (step_term k e) before all.0

  all-by : (b : Bool) (c d : Sum) → All c.terms → All d.terms → All (if b then c else d).terms
  all-by true c d one other = one
  all-by false c d one other = other

  all-after : (c : Sum) (k : ℕ) (x : Constant) (rest : List Term) → All c.terms
      → All (with_term (value_term k) x.value (with_term (step_term k) x.step rest)) → All (after c k x).terms
  all-after c k x rest before all =
      let behind = with_term (step_term k) x.step rest in
      all-by x.sets (sum_of c k x.value) (stepped c k x.value x.step) (all-sum c k x.value behind before all)
      (all-stepped c k x.value x.step rest before (all-rest (value_term k) x.value behind all))

  says-name : (name : Option (List ℕ)) (sum : Sum) (rest : List (List ℕ × Sum)) → All sum.terms → Says rest → Says (with_name name sum rest)
  says-name None sum rest all says = says
  says-name (Some name) sum rest all says = (all, says)

  says-named : (xs : List Constant) (c : Sum) (k : ℕ) → All c.terms → All (terms_in k xs) → Says (named_from c k xs)
  says-named [] c k before all = tt
  says-named (x ∷ xs) c k before all =
      let rest = terms_in (k + 1) xs in
      let behind = with_term (step_term k) x.step rest in
      says-name x.name (sum_of c k x.value) (named_from (after c k x) (k + 1) xs) (all-sum c k x.value behind before all)
      (says-named xs (after c k x) (k + 1) (all-after c k x rest before all) (all-rest (step_term k) x.step rest (all-rest (value_term k) x.value behind all)))

  says-both : (ds es : List (List ℕ × Sum)) → Says ds → Says es → Says (ds ++ es)
  says-both [] es one other = other
  says-both (d ∷ ds) es one other = (one.0, says-both ds es one.1 other)

  pub says-file : (file : Source) (k : ℕ) → All (expressions_from k file) → Says (definitions_from k file)
  says-file [] k all = tt
  says-file (Con xs ∷ bs) k all =
      let rest = expressions_from (k + length xs) bs in
      says-both (named_from zero_sum k xs) (definitions_from (k + length xs) bs) (says-named xs zero_sum k tt (all-left (terms_in k xs) rest all))
      (says-file bs (k + length xs) (all-right (terms_in k xs) rest all))
  says-file (trees.Var xs ∷ bs) k all = says-file bs k all
  says-file (Obj xs ∷ bs) k all = says-file bs k all
  says-file (Method m ∷ bs) k all = says-file bs k all
  says-file (Dat xs ∷ bs) k all = says-file bs k all

  found-by : (b : Bool) (one sum : Sum) (rest : Option Sum) → All one.terms → (rest ≡ Some sum → All sum.terms) → cond b (Some one) rest ≡ Some sum
      → All sum.terms
  found-by true one sum rest all later is = subst (λ (s : Sum). All s.terms) (same_Some _ _ is) all
  found-by false one sum rest all later is = later is

  pub found : (ds : List (List ℕ × Sum)) (n : List ℕ) (sum : Sum) → Says ds → definition ds n ≡ Some sum → All sum.terms
  found [] n sum says is = absurd cc
  found (d ∷ ds) n sum says is = found-by (bytes_eq n d.0) d.1 sum (definition ds n) says.0 (found ds n sum says.1) is

-- ---- an accepted file

pub is-some : {A : Type 0} {o : Option A} {a : A} → o ≡ Some a → IsSome o
is-some e = subst (λ o. IsSome o) (sym e) refl

has-some : {c : Scope} {n : List ℕ} {v : ℕ} → Has c n v → IsSome (definition c.constants n)
has-some (has d adds) = is-some d

module _ (file : Source) (children : Children) (top : Bool) (clean : (f : Fault) → ¬ IsNameFault file children top f) (s : Setting)
    (is : settings.IsSetting file children.items s) where
  abbrev o : Setting
  o = outside file children.items

  abbrev c : Scope
  c = scope_of o file

  abbrev Stands : Term → Type 0
  Stands e = Contains (expressions file) e

  mean-is : (e : Term) (n : List ℕ) (x : Option Meaning) → Means c e n x → (x ≡ Some Other → ⊥) → x ≡ s.name n
  mean-is e n x (from_outside h) never = sym (is.others n (is-some h) ∙ h)
  mean-is e n x (nothing h d) never = sym (is.nothing n h d)
  mean-is e n x (circular u h) never = absurd (never refl)
  mean-is e n x (constant {v = v} u h known) never =
      let it = is.constants n (h, has-some known) in
      ap (λ (v : ℕ). Some (Value v)) (has_one c n v it.0 known it.2) ∙ sym it.1

  term-is : (e : Term) (t : Setting) → IsRightFor c e t → Stands e → value t e.tree ≡ value s e.tree
  term-is e t (right means constants here) stands =
      let same : Alike t s = record { constants = λ object n. constants object n ∙ sym (is.behind object n); here = here ∙ sym is.here } in
      value_same t s e.tree (agree t s same e.tree (λ n at. mean-is e n (t.name n) (means n at) (λ other.
      let it = other-fault t n other e.tree at in
      clean it.0 (of_constant (record { expression = e; stands = stands; setting = t; right = right means constants here; fault = it.1 })))))

  adds-is : {es : List Term} {w : ℕ} → Adds c es w → All Stands es → w ≡ added s es
  adds-is none all = refl
  adds-is (further {e = e} {s = t} rightly adds) all =
      ap₂ (λ (a : Option ℕ) (b : ℕ). (counted a + b) % 2 ^ 32) (term-is e t rightly all.0) (adds-is adds all.1)

  says : Says Stands (definitions file)
  says = says-file Stands file 0 (all-of Stands (expressions file) (λ t at. at))

  worth-is : (n : List ℕ) (v : ℕ) (sum : Sum) → Has c n v → definition (definitions file) n ≡ Some sum → Value v ≡ worth s sum
  worth-is n v sum (has {sum = x} {w = w} d adds) at =
      let same : x ≡ sum = same_Some _ _ (sym d ∙ at) in
      ap (λ (w : ℕ). Value ((x.whole + w) % 2 ^ 32)) (adds-is adds (found Stands (definitions file) n x says d)) ∙ ap (worth s) same

  name-is : (n : List ℕ) → s.name n ≡ option_or (o.name n) (option_map (worth s) (definition (definitions file) n))
  name-is n = elim (option_cases (o.name n)) [
    | inl free ↦ elim (option_cases (definition (definitions file) n)) [
      | inl lacks ↦ is.nothing n free lacks ∙ sym (ap₂ (λ (x : Option Meaning) (d : Option Sum). option_or x (option_map (worth s) d)) free lacks)
      | inr (sum, at) ↦
          let it = is.constants n (free, is-some at) in
          it.1 ∙ ap (λ (m : Meaning). Some m) (worth-is n it.0 sum it.2 at)
          ∙ sym (ap₂ (λ (x : Option Meaning) (d : Option Sum). option_or x (option_map (worth s) d)) free at)
    ]
    | inr (m, some) ↦
        is.others n (is-some some) ∙ some ∙ sym (ap (λ (x : Option Meaning). option_or x (option_map (worth s) (definition (definitions file) n))) some)
  ]

  by-sums : IsSettingBySums file children.items s
  by-sums = record { names = name-is; behind = is.behind; here = is.here }

  pub setting-is : IsSetting file children.items s
  setting-is = setting-to s by-sums

-- ---- an accepted project

-- beside an element of a list stands one of another list of the same length
pub beside : {A B : Type 0} (xs : List A) (ys : List B) (i : ℕ) (y : B) → length ys ≡ length xs → slice_get ys i ≡ Some y → (x : A) × (slice_get xs i ≡ Some x)
beside [] [] i y long there = absurd (cc)
beside [] (z ∷ ys) i y long there = absurd (omega (arith, long))
beside (x ∷ xs) [] i y long there = absurd (omega (arith, long))
beside (x ∷ xs) (z ∷ ys) zero y long there = (x, refl)
beside (x ∷ xs) (z ∷ ys) (suc i) y long there = beside xs ys i y (omega (arith, long)) there

-- nothing is wrong with the names of any file
abbrev pub AreClean : List NamedSource → List Children → Type 0
AreClean files all = (i : ℕ) (file : NamedSource) (seen : Children) → slice_get files i ≡ Some file → slice_get all i ≡ Some seen
    → (top : Bool) × ((f : Fault) → ¬ IsNameFault file.tree seen top f)

module _ (files : List NamedSource) (all : List Children) (clean : AreClean files all) where
  seen-is : {name : List ℕ} {child : Child} → children_specs.IsSeen files all name child → IsSeen files all name child
  seen-is it =
      let nothing_wrong = clean it.number it.file it.children it.stands it.beside in
      record {
        number = it.number;
        file = it.file;
        stands = it.stands;
        named = it.named;
        children = it.children;
        beside = it.beside;
        is = record {
          methods = it.is.methods;
          setting = it.is.setting;
          right = setting-is it.file.tree it.children nothing_wrong.0 nothing_wrong.1 it.is.setting it.is.right;
          constants = it.is.constants;
        };
      }

  are-seen : (xs : List trees.Child) (cs : List Child) → children_specs.AreSeen files all xs cs → AreSeen files all xs cs
  are-seen [] [] seen = tt
  are-seen [] (c ∷ cs) seen = absurd seen
  are-seen (x ∷ xs) [] seen = absurd seen
  are-seen (x ∷ xs) (c ∷ cs) seen = (seen-is seen.0, are-seen xs cs seen.1)

  pub children-are : children_specs.AreChildren files all → AreChildren files all
  children-are are =
      record { one_each = are.one_each; each = λ i f c at at'. are-seen (mentions f.tree) c.items (are.each i f c at at') }
