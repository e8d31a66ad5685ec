-- The text of a wave (IEEE 1364-2005, section 18, "Value change dump files"). Where the standard leaves a
-- choice it is this project's profile. A past is a list of turns, the newest first.
use Rattle.std.specs.Prelude.{ℕ, ◌+◌, ◌-◌, ◌/◌, ◌%◌, ◌^◌, nat_eq, if◌then◌else◌, List, [], ◌∷◌, ◌++◌, codes, map, flat_map, filter}
use Rattle.std.specs.Fmt.{decimal}
use Rattle.std.specs.List.{range_with_len}
use Rattle.p8_access.specs.declared.order.Turn.{Turn}
use Rattle.p8_access.specs.Worlds.{World}
use Rattle.p8_pins.specs.Levels.{end_of}
use Rattle.p8_wave.specs.declared.variables.Scope.{Scope}
use Rattle.p8_wave.specs.declared.variables.Selection.{Selection}
use Rattle.p8_wave.specs.declared.variables.Variable.{Variable}
use Rattle.p8_wave.specs.Variables.{scopes, variables, width_of, mark_of, name_of, scope_name, is_in}
use Rattle.p8_wave.specs.Values.{value_at, changes_at, shown, change_clocks}
use Rattle.p8_wave.specs.Scale.{frequency, period_of, scale_text, time_of}
use Rattle.p8_wave.specs.Ending.{end_text}

-- a number in this many binary digits
unfoldable pub binary : ℕ → ℕ → List ℕ
binary width n = map (λ (k : ℕ). 48 + n / 2 ^ (width - 1 - k) % 2) (range_with_len 0 width)

-- the declaration of a variable, and of the character that stands for it
abbrev pub variable_text : (mark : ℕ) → Variable → List ℕ
variable_text mark v = codes "$var wire " ++ decimal (width_of v) ++ codes " " ++ mark ∷ codes " " ++ name_of v ++ codes " $end\n"

-- a variable of this width has this value from now on
abbrev pub value_text : (width mark : ℕ) → ℕ → List ℕ
value_text width mark n =
    if nat_eq width 1 then binary 1 n ++ mark ∷ codes "\n"
    else codes "b" ++ binary width n ++ codes " " ++ mark ∷ codes "\n"

-- a scope with these declarations; one without any doesn't stand
abbrev pub scope_with : Scope → List ℕ → List ℕ
scope_with scope [] = []
scope_with scope (c ∷ cs) =
    codes "$scope module " ++ scope_name scope ++ codes " $end\n" ++ c ∷ cs ++ codes "$upscope $end\n"

-- a scope with those of some variables that stand in it
abbrev pub scope_text : List Variable → Scope → List ℕ
scope_text vs scope = scope_with scope (flat_map (λ (v : Variable). variable_text (mark_of v) v) (filter (is_in scope) vs))

-- the values of some variables at a clock
abbrev pub values_text : World → List Turn → ℕ → List Variable → List ℕ
values_text w past clock vs = flat_map (λ (v : Variable). value_text (width_of v) (mark_of v) (value_at w past clock v)) vs

abbrev pub time_text : World → ℕ → List ℕ
time_text w clock = codes "#" ++ decimal (time_of w clock) ++ codes "\n"

-- a clock, and those of some variables that change at it
abbrev pub section_text : World → List Turn → List Variable → ℕ → List ℕ
section_text w past vs clock = time_text w clock ++ values_text w past clock (filter (changes_at w past clock) vs)

-- the time scale and the variables that are shown
abbrev pub head_text : World → List Variable → List ℕ
head_text w vs =
    codes "$version Propeller P8X32A $end\n" ++ scale_text (frequency w) (period_of (frequency w))
    ++ flat_map (scope_text vs) scopes ++ codes "$enddefinitions $end\n"

-- their values at clock 0
abbrev pub first_text : World → List Turn → List Variable → List ℕ
first_text w past vs = codes "#0\n$dumpvars\n" ++ values_text w past 0 vs ++ codes "$end\n"

-- the section of the end; one at clock 0 has none, since the values at clock 0 stand already
abbrev pub end_section : World → List Turn → List Variable → (end : ℕ) → List ℕ
end_section w past vs end = if nat_eq end 0 then [] else section_text w past vs end

-- a section for each clock at which one of some variables changes, and one for the end
abbrev pub changes_text : World → List Turn → List Variable → List ℕ
changes_text w past vs = flat_map (section_text w past vs) (change_clocks w past vs) ++ end_section w past vs (end_of w past)

-- what ended the run
abbrev pub end_comment : World → List Turn → List ℕ
end_comment w past = codes "$comment " ++ end_text w past ++ codes " $end\n"

-- all that is told of the variables
abbrev pub signals_of : World → List Turn → Selection → List ℕ
signals_of w past selection =
    head_text w (shown w past selection) ++ first_text w past (shown w past selection)
    ++ changes_text w past (variables selection.pins_only)

-- the whole text
abbrev pub wave_of : World → List Turn → Selection → List ℕ
wave_of w past selection = signals_of w past selection ++ end_comment w past
