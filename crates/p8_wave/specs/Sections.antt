-- internal
-- The text of a wave over the entries that the code keeps.
use Rattle.std.specs.Prelude.{ℕ, ◌-◌, ◌≡◌, ◌<◌, ◌≤◌, ◌||◌, if◌then◌else◌, Bool, false, Option, List, [], ◌∷◌, ◌++◌, codes, map, flat_map, filter}
use Rattle.std.specs.Fmt.{decimal}
use Rattle.std.specs.List.{range_with_len, list_any}
use Rattle.p8_access.specs.declared.order.Turn.{Turn}
use Rattle.p8_access.specs.Worlds.{World}
use Rattle.p8_pins.specs.Levels.{end_of}
use Rattle.p8_wave.specs.declared.courses.Course.{Course}
use Rattle.p8_wave.specs.declared.entries.Entry.{Entry}
use Rattle.p8_wave.specs.declared.snapshot.Snapshot.{Snapshot}
use Rattle.p8_wave.specs.declared.walks.Walk.{Walk}
use Rattle.p8_wave.specs.declared.variables.Scope.{Scope}
use Rattle.p8_wave.specs.declared.variables.Variable.{Variable}
use Rattle.p8_wave.specs.Variables.{scopes, IsVariable, mark_of, width_of, is_in}
use Rattle.p8_wave.specs.Values.{changes_at, changes}
use Rattle.p8_wave.specs.Scale.{scale_text}
use Rattle.p8_wave.specs.Wave.{value_text, variable_text, scope_with, section_text, changes_text}
use Rattle.p8_wave.specs.Following.{snapshot_value, differs}
use Rattle.p8_wave.specs.Walks.{IsAt, Shows}
use Rattle.p8_wave.specs.Parts.{together}

-- each of these is one of the variables
abbrev pub AreVariables : List Variable → Type 0
AreVariables [] = Unit {0}
AreVariables (v ∷ vs) = IsVariable v × AreVariables vs

-- an entry that is not marked
abbrev pub unmarked : Variable → (mark : ℕ) → Entry
unmarked v mark = record { variable = v; mark = mark; changes = false }

-- the entry of a variable, with what is known of its changes
abbrev pub entry_of : (Variable → Bool) → Variable → Entry
entry_of p v = record { variable = v; mark = mark_of v; changes = p v }

-- nothing has changed so far
abbrev pub still : Variable → Entry
still v = entry_of (λ _. false) v

-- an entry when two snapshots have been compared
abbrev pub marked : Snapshot → Snapshot → Entry → Entry
marked old new e = record { variable = e.variable; mark = e.mark; changes = differs old new e.variable || e.changes }

-- some entry differs in two snapshots
abbrev pub some_differ : Snapshot → Snapshot → List Entry → Bool
some_differ old new entries = list_any (λ (e : Entry). differs old new e.variable) entries

-- the value of an entry in a snapshot
abbrev pub entry_text : Snapshot → Entry → List ℕ
entry_text p e = value_text (width_of e.variable) e.mark (snapshot_value p e.variable)

-- an entry where it differs
abbrev pub change_text : Snapshot → Snapshot → Entry → List ℕ
change_text old new e = if differs old new e.variable then entry_text new e else []

-- a time, and the entries that differ
abbrev pub section_of : (time : ℕ) → Snapshot → Snapshot → List Entry → List ℕ
section_of time old new entries = codes "#" ++ decimal time ++ codes "\n" ++ flat_map (change_text old new) entries

-- the declaration of an entry where it stands in a scope
abbrev pub declared_in : Scope → Entry → List ℕ
declared_in scope e = if is_in scope e.variable then variable_text e.mark e.variable else []

abbrev pub scope_of : List Entry → Scope → List ℕ
scope_of entries scope = scope_with scope (flat_map (declared_in scope) entries)

-- the time scale and the declarations of some entries
abbrev pub head_of : (f : ℕ) → Option ℕ → List Entry → List ℕ
head_of f period entries =
    codes "$version Propeller P8X32A $end\n" ++ scale_text f period ++ flat_map (scope_of entries) scopes ++ codes "$enddefinitions $end\n"

-- the values of some entries at clock 0
abbrev pub first_of : Snapshot → List Entry → List ℕ
first_of snapshot entries = codes "#0\n$dumpvars\n" ++ flat_map (entry_text snapshot) entries ++ codes "$end\n"

-- a variable has changed by a clock
abbrev pub changed_by : World → List Turn → ℕ → Variable → Bool
changed_by w past clock v = list_any (λ (c : ℕ). changes_at w past c v) (range_with_len 1 clock)

-- the sections of the clocks after 0 up to a clock at which one of some variables changes
abbrev pub sections_by : World → List Turn → List Variable → ℕ → List ℕ
sections_by w past vs clock = flat_map (section_text w past vs) (filter (λ (c : ℕ). list_any (changes_at w past c) vs) (range_with_len 1 clock))

-- all that comes before a clock is written: a walk has come to the clock before, a snapshot shows the values at
-- it, and each entry tells whether its variable has changed
pub record IsDone (w : World) (past : List Turn) (vs : List Variable) (next : ℕ) (left : List Turn) (course : Course) (old : Snapshot)
    (entries : List Entry) (before text : List ℕ) : Type 0 where
  pub within : next ≤ end_of w past
  pub some : next < end_of w past → 0 < next
  pub at : IsAt w past (next - 1) left course
  pub shows : Shows w past (next - 1) old
  pub told : entries ≡ map (entry_of (changed_by w past (next - 1))) vs
  pub written : text ≡ before ++ sections_by w past vs (next - 1)

-- what a walk along a history has written of some variables
pub record IsWalked (w : World) (past : List Turn) (vs : List Variable) (walk : Walk) : Type 0 where
  pub text : walk.sections.text.items ≡ changes_text w past vs
  pub entries : together walk.sections.parts.items ≡ map (entry_of (changes w past)) vs
  pub first : Shows w past 0 walk.first
