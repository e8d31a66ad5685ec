-- The text of a section, by snapshots and by values.
use Rattle.std.proofs.Common.{◌≡◌, ◌∙◌, refl, ap, ℕ, ◌-◌, List, [], ◌∷◌, ◌++◌, map, Bool, true, false, not, nat_eq, ◌||◌, if◌then◌else◌, filter, codes, rules}
use Rattle.std.specs.Fmt.{decimal}
use Rattle.std.specs.List.{list_any, flat_map}
use Rattle.p8_access.specs.declared.order.Turn.{Turn}
use Rattle.p8_access.specs.Worlds.{World}
use Rattle.p8_wave.specs.declared.entries.Entry.{Entry}
use Rattle.p8_wave.specs.declared.snapshot.Snapshot.{Snapshot}
use Rattle.p8_wave.specs.declared.variables.Scope.{Scope}
use Rattle.p8_wave.specs.declared.variables.Variable.{Variable}
use Rattle.p8_wave.specs.Variables.{variables, IsVariable, width_of, mark_of, is_in}
use Rattle.p8_wave.specs.Values.{value_at, changes_at}
use Rattle.p8_wave.specs.Scale.{time_of}
use Rattle.p8_wave.specs.Wave.{value_text, variable_text, values_text, section_text, scope_text, scope_with}
use Rattle.p8_wave.specs.Following.{snapshot_value, differs}
use Rattle.p8_wave.specs.Walks.{Shows}
use Rattle.p8_wave.specs.Sections.{AreVariables, entry_of, marked, some_differ, entry_text, change_text, section_of, declared_in, scope_of}

pub all_variables : (pins_only : Bool) → AreVariables (variables pins_only)
unfolding variables
all_variables true = search rules
all_variables false = search rules

module _ (w : World) (past : List Turn) (clock before : ℕ) (old new : Snapshot) (prior : before ≡ clock - 1) (shown_old : Shows w past before old) (shown_new : Shows w past clock new) where
  same_change : (v : Variable) → IsVariable v → differs old new v ≡ changes_at w past clock v
  same_change v is =
      ap (λ n. not (nat_eq n (snapshot_value new v))) (shown_old.values v is ∙ ap (λ c. value_at w past c v) prior)
      ∙ ap (λ n. not (nat_eq (value_at w past (clock - 1) v) n)) (shown_new.values v is)

  module _ (p : Variable → Bool) where
    pub any_from : (vs : List Variable) → AreVariables vs → some_differ old new (map (entry_of p) vs) ≡ list_any (changes_at w past clock) vs
    any_from [] all = refl
    any_from (v ∷ vs) (is, all) = rw (same_change v is, any_from vs all) refl

    pub marked_from : (vs : List Variable) → AreVariables vs → map (marked old new) (map (entry_of p) vs) ≡ map (entry_of (λ (v : Variable). changes_at w past clock v || p v)) vs
    marked_from [] all = refl
    marked_from (v ∷ vs) (is, all) = rw (same_change v is, marked_from vs all) refl

    one_change : (v : Variable) → IsVariable v → (b : Bool) → differs old new v ≡ b → change_text old new (entry_of p v) ≡ (if b then value_text (width_of v) (mark_of v) (value_at w past clock v) else [])
    one_change v is true e = rw (e, shown_new.values v is) refl
    one_change v is false e = rw e refl

    step : (b : Bool) (v : Variable) (vs : List Variable) → (if b then value_text (width_of v) (mark_of v) (value_at w past clock v) else []) ++ values_text w past clock vs ≡ values_text w past clock (if b then v ∷ vs else vs)
    step true v vs = refl
    step false v vs = refl

    values_from : (vs : List Variable) → AreVariables vs → flat_map (change_text old new) (map (entry_of p) vs) ≡ values_text w past clock (filter (changes_at w past clock) vs)
    values_from [] all = refl
    values_from (v ∷ vs) (is, all) =
        ap (λ xs. xs ++ flat_map (change_text old new) (map (entry_of p) vs)) (one_change v is (changes_at w past clock v) (same_change v is))
        ∙ ap (λ xs. (if changes_at w past clock v then value_text (width_of v) (mark_of v) (value_at w past clock v) else []) ++ xs) (values_from vs all)
        ∙ step (changes_at w past clock v) v (filter (changes_at w past clock) vs)

    pub section_all : (vs : List Variable) → AreVariables vs → (time : ℕ) → time ≡ time_of w clock → section_of time old new (map (entry_of p) vs) ≡ section_text w past vs clock
    section_all vs all time e =
        ap (λ n. codes "#" ++ decimal n ++ codes "\n" ++ flat_map (change_text old new) (map (entry_of p) vs)) e
        ∙ ap (λ xs. codes "#" ++ decimal (time_of w clock) ++ codes "\n" ++ xs) (values_from vs all)

-- what is declared in a scope
module _ (p : Variable → Bool) where
  declared : (scope : Scope) (vs : List Variable) → flat_map (declared_in scope) (map (entry_of p) vs) ≡ flat_map (λ (v : Variable). variable_text (mark_of v) v) (filter (is_in scope) vs)
  declared scope [] = refl
  declared scope (v ∷ vs) = declared_step (is_in scope v) scope v _ _ (declared scope vs)
    where
      declared_step : (b : Bool) (scope : Scope) (v : Variable) (xs : List ℕ) (vs : List Variable) → xs ≡ flat_map (λ (v : Variable). variable_text (mark_of v) v) vs → (if b then variable_text (mark_of v) v else []) ++ xs ≡ flat_map (λ (v : Variable). variable_text (mark_of v) v) (if b then v ∷ vs else vs)
      declared_step true scope v xs vs e = ap (λ ys. variable_text (mark_of v) v ++ ys) e
      declared_step false scope v xs vs e = e

  pub scope_all : (scope : Scope) (vs : List Variable) → scope_of (map (entry_of p) vs) scope ≡ scope_text vs scope
  scope_all scope vs = ap (scope_with scope) (declared scope vs)

  -- the entries that are shown
  pub shown_entries : (all : Bool) (vs : List Variable) → filter (λ (e : Entry). all || e.changes) (map (entry_of p) vs) ≡ map (entry_of p) (filter (λ (v : Variable). all || p v) vs)
  shown_entries all [] = refl
  shown_entries all (v ∷ vs) = shown_step (all || p v) v _ _ (shown_entries all vs)
    where
      shown_step : (b : Bool) (v : Variable) (es : List Entry) (vs : List Variable) → es ≡ map (entry_of p) vs → (if b then entry_of p v ∷ es else es) ≡ map (entry_of p) (if b then v ∷ vs else vs)
      shown_step true v es vs e = ap (λ xs. entry_of p v ∷ xs) e
      shown_step false v es vs e = e

-- the values of those that are shown, in a snapshot
module _ (w : World) (past : List Turn) (clock : ℕ) (snapshot : Snapshot) (shows : Shows w past clock snapshot) (p : Variable → Bool) where
  pub values_shown : (q : Variable → Bool) (vs : List Variable) → AreVariables vs → flat_map (entry_text snapshot) (map (entry_of p) (filter q vs)) ≡ values_text w past clock (filter q vs)
  values_shown q [] all = refl
  values_shown q (v ∷ vs) (is, all) = shown_step (q v) v (filter q vs) is (values_shown q vs all)
    where
      shown_step : (b : Bool) (v : Variable) (vs : List Variable) → IsVariable v → flat_map (entry_text snapshot) (map (entry_of p) vs) ≡ values_text w past clock vs → flat_map (entry_text snapshot) (map (entry_of p) (if b then v ∷ vs else vs)) ≡ values_text w past clock (if b then v ∷ vs else vs)
      shown_step true v vs is e = rw (shows.values v is) (ap (λ xs. value_text (width_of v) (mark_of v) (value_at w past clock v) ++ xs) e)
      shown_step false v vs is e = e
