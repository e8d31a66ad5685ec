-- How long the lines of a picture are.
use Rattle.std.proofs.Common.{◌≡◌, ◌∙◌, ap, refl, ℕ, zero, suc, ◌+◌, ◌-◌, ◌*◌, ◌%◌, ◌==◌, ◌<◌, ◌≤◌, ◌||◌, inl, inr, Bool, true, false, if◌then◌else◌, nat_lt, List, [], ◌∷◌, ◌++◌, codes, length, max, replicate, map, flat_map, filter, length-append, arith}
use Rattle.std.specs.Fmt.{decimal}
use Rattle.std.specs.Int.{div_ceil}
use Rattle.std.specs.List.{list_all, list_any, range_with_len}
use Rattle.std.proofs.lemmas.Bool.{cases_lt}
use Rattle.std.proofs.lemmas.Bool.Decides.{nat_tests}
use Rattle.std.proofs.lemmas.Fmt.{length-decimal-le}
use Rattle.std.proofs.lemmas.List.{length-replicate}
use Rattle.std.proofs.lemmas.Nat.{mul-le}
use Rattle.p8_wave.specs.declared.axes.Axis.{Axis}
use Rattle.p8_wave.specs.declared.axes.Axis.TheVariants.{Clocks, Times}
use Rattle.p8_wave.specs.declared.axes.TimeUnit.{TimeUnit}
use Rattle.p8_wave.specs.declared.axes.TimeUnit.TheVariants.{Microseconds, Milliseconds}
use Rattle.p8_wave.specs.declared.grid.Column.{Column}
use Rattle.p8_wave.specs.declared.pin_level.PinLevel.{PinLevel}
use Rattle.p8_wave.specs.declared.pin_level.PinLevel.TheVariants.{Low, High, Changing}
use Rattle.p8_wave.specs.Axes.{apart, axis_by, axis_label, axis_line, every, text_at, tick_line, unit_for, AreApart}
use Rattle.p8_wave.specs.Plot.{width_of, column_at, columns_of, mark_of, text_of_mark, label_of, pin_line}
use Rattle.p8_wave.proofs.Columns.{begins-inside}
use Rattle.p8_wave.proofs.Covering.{few-columns, columns-fit}
use Rattle.p8_wave.proofs.Lasting.{clock-long, time-long, any-time-long}

-- ---- texts that begin at ticks

-- texts of at most so many characters
abbrev AreShort : (long : ℕ) → List (List ℕ) → Type 0
AreShort long [] = Unit {0}
AreShort long (text ∷ texts) = (length text ≤ long) × AreShort long texts

-- texts that begin so far apart, with one after another
apart-fits : (step before long : ℕ) (text : List ℕ) (texts : List (List ℕ)) → long ≤ step → AreShort long (text ∷ texts) → length (apart step before (text ∷ texts)) ≤ before + long + step * length texts
apart-fits step before long text [] wide short =
    omega (arith, short.0, length-append (replicate before 32 ++ text) [], length-append (replicate before 32) text, length-replicate {A = ℕ} before 32)
apart-fits step before long text (next ∷ texts) wide short =
    let rest : length (apart step (step - length text) (next ∷ texts)) ≤ step - length text + long + step * length texts = apart-fits step (step - length text) long next texts wide short.1 in
    let one : step * (length texts + 1) ≡ step * length texts + step = omega arith in
    omega (arith, wide, short.0, rest, one, length-append (replicate before 32 ++ text) (apart step (step - length text) (next ∷ texts)), length-append (replicate before 32) text, length-replicate {A = ℕ} before 32)

length-of : {A : Type 0} (f : A → List ℕ) (xs : List A) → length (map f xs) ≡ length xs
length-of f [] = refl
length-of f (x ∷ xs) = ap suc (length-of f xs)

-- those of so many columns, with one after another
texts-fit : (step before long more : ℕ) (f : Column → List ℕ) (columns : List Column) → long ≤ step → AreShort long (map f columns) → length columns ≤ more + 1 → length (apart step before (map f columns)) ≤ before + long + step * more
texts-fit step before long more f [] wide short few = omega arith
texts-fit step before long more f (column ∷ columns) wide short few =
    let rest : step * length columns ≤ step * more = mul-le step (length columns) step more (omega arith) (omega (arith, few)) in
    let texts : step * length (map f columns) ≡ step * length columns = ap (λ (n : ℕ). step * n) (length-of f columns) in
    omega (arith, apart-fits step before long (f column) (map f columns) wide short, texts, rest)

-- ---- how many columns have a text

-- one of ten, or one of twenty
abbrev step_by : (wide : Bool) → ℕ
step_by wide = if wide then 20 else 10

numbers : (step : ℕ) → List ℕ → List ℕ
numbers step ns = filter (λ (n : ℕ). n % step == 0) ns

one-if : (b : Bool) (n : ℕ) (ns : List ℕ) → length (if b then n ∷ ns else ns) ≡ (if b then 1 else 0) + length ns
one-if true n ns = omega arith
one-if false n ns = omega arith

next-by : (wide : Bool) (i : ℕ) → (if i % step_by wide == 0 then 1 else 0) + div_ceil i (step_by wide) ≡ div_ceil (i + 1) (step_by wide)
next-by true i = elim (cases_lt 0 (i % 20)) [
  | inl some ↦ let test : (i % 20 == 0) ≡ false = grind (arith, nat_tests) in rw test (omega (arith, some))
  | inr none ↦ let test : (i % 20 == 0) ≡ true = grind (arith, nat_tests) in rw test (omega (arith, none))
]
next-by false i = elim (cases_lt 0 (i % 10)) [
  | inl some ↦ let test : (i % 10 == 0) ≡ false = grind (arith, nat_tests) in rw test (omega (arith, some))
  | inr none ↦ let test : (i % 10 == 0) ≡ true = grind (arith, nat_tests) in rw test (omega (arith, none))
]

count-by : (wide : Bool) (i n : ℕ) → length (numbers (step_by wide) (range_with_len i n)) + div_ceil i (step_by wide) ≡ div_ceil (i + n) (step_by wide)
unfolding numbers
count-by wide i zero =
    let none : 0 + div_ceil i (step_by wide) ≡ div_ceil i (step_by wide) = omega arith in
    none ∙ ap (λ (k : ℕ). div_ceil k (step_by wide)) (omega arith)
count-by wide i (suc n) =
    let here = one-if (i % step_by wide == 0) i (numbers (step_by wide) (range_with_len (i + 1) n)) in
    let rest : length (numbers (step_by wide) (range_with_len i (suc n))) + div_ceil i (step_by wide) ≡ div_ceil (i + 1 + n) (step_by wide) = omega (arith, here, next-by wide i, count-by wide (i + 1) n) in
    rest ∙ ap (λ (k : ℕ). div_ceil k (step_by wide)) (omega arith)

same-count : (b : Bool) (column : Column) (columns : List Column) (n : ℕ) (ns : List ℕ) → length columns ≡ length ns → length (if b then column ∷ columns else columns) ≡ length (if b then n ∷ ns else ns)
same-count true column columns n ns same = ap suc same
same-count false column columns n ns same = same

every-numbers : (step from end width i n : ℕ) → length (every step (map (column_at from end width) (range_with_len i n))) ≡ length (numbers step (range_with_len i n))
unfolding numbers
every-numbers step from end width i zero = refl
every-numbers step from end width i (suc n) =
    same-count (i % step == 0) (column_at from end width i) (every step (map (column_at from end width) (range_with_len (i + 1) n))) i (numbers step (range_with_len (i + 1) n)) (every-numbers step from end width (i + 1) n)

count-within : (wide : Bool) (n most : ℕ) → n ≤ most → div_ceil n (step_by wide) ≤ div_ceil most (step_by wide)
count-within true n most le = omega (arith, le)
count-within false n most le = omega (arith, le)

every-few : (wide : Bool) (most from end : ℕ) → 0 < most → length (every (step_by wide) (columns_of most from end)) ≤ div_ceil most (step_by wide)
unfolding columns_of
every-few wide most from end some =
    let width = width_of (max most 1) (end - from) in
    let count = div_ceil (end - from) width in
    let none : div_ceil 0 (step_by wide) ≡ 0 = no-columns wide in
    let start : 0 + count ≡ count = omega arith in
    omega (arith, every-numbers (step_by wide) from end width 0 count, count-by wide 0 count, none, ap (λ (n : ℕ). div_ceil n (step_by wide)) start, count-within wide count most (few-columns most from end some))
  where
    no-columns : (w : Bool) → div_ceil 0 (step_by w) ≡ 0
    no-columns true = refl
    no-columns false = refl

-- ---- how long the texts are

-- each column begins at a clock that is shown
abbrev AreShown : (from end : ℕ) → List Column → Type 0
AreShown from end [] = Unit {0}
AreShown from end (column ∷ columns) = (from ≤ column.first) × (column.first < end) × AreShown from end columns

shown-by : (from end width i n : ℕ) → 0 < width → i + n ≤ div_ceil (end - from) width → AreShown from end (map (column_at from end width) (range_with_len i n))
shown-by from end width i zero wide inside = tt
shown-by from end width i (suc n) wide inside =
    let here : i * width < end - from = begins-inside (end - from) width i wide (omega (arith, inside)) in
    (omega arith, omega (arith, here), shown-by from end width (i + 1) n wide (omega (arith, inside)))

are-shown : (most from end : ℕ) → AreShown from end (columns_of most from end)
unfolding columns_of
are-shown most from end =
    let width = width_of (max most 1) (end - from) in
    shown-by from end width 0 (div_ceil (end - from) width) (omega arith) (omega arith)

-- what is told of each column has at most so many characters
abbrev AreAtMost : (long : ℕ) (f : ℕ → List ℕ) → List Column → Type 0
AreAtMost long f [] = Unit {0}
AreAtMost long f (column ∷ columns) = (length (f column.first) ≤ long) × AreAtMost long f columns

at-most : (from end long : ℕ) (f : ℕ → List ℕ) → ((clock : ℕ) → from ≤ clock → clock < end → length (f clock) ≤ long) → (columns : List Column) → AreShown from end columns → AreAtMost long f columns
at-most from end long f room [] shown = tt
at-most from end long f room (column ∷ columns) shown = (room column.first shown.0 shown.1, at-most from end long f room columns shown.2)

neither : (a b : Bool) → (a || b) ≡ false → (a ≡ false) × (b ≡ false)
neither true b is = absurd cc
neither false b is = (refl, is)

none-long : (f : ℕ → List ℕ) (columns : List Column) → list_any (λ (column : Column). nat_lt 9 (length (f column.first))) columns ≡ false → AreAtMost 9 f columns
none-long f [] none = tt
none-long f (column ∷ columns) none =
    let both = neither (nat_lt 9 (length (f column.first))) (list_any (λ (c : Column). nat_lt 9 (length (f c.first))) columns) none in
    let here = both.0 in
    (grind (arith, nat_tests), none-long f columns both.1)

short-if : (b : Bool) (long : ℕ) (f : ℕ → List ℕ) (column : Column) (columns : List Column) → length (f column.first) ≤ long → AreShort long (map (λ (c : Column). f c.first) columns) → AreShort long (map (λ (c : Column). f c.first) (if b then column ∷ columns else columns))
short-if true long f column columns here rest = (here, rest)
short-if false long f column columns here rest = rest

every-short : (step long : ℕ) (f : ℕ → List ℕ) (columns : List Column) → AreAtMost long f columns → AreShort long (map (λ (c : Column). f c.first) (every step columns))
every-short step long f [] short = tt
every-short step long f (column ∷ columns) short = short-if (column.number % step == 0) long f column (every step columns) short.0 (every-short step long f columns short.1)

-- ---- the lines of clocks and times

label-four : (axis : Axis) → length (axis_label axis) ≡ 4
label-four Clocks = refl
label-four (Times frequency Microseconds) = refl
label-four (Times frequency Milliseconds) = refl

axis-by-fits : (step long more : ℕ) (axis : Axis) (columns : List Column) → long ≤ step → AreAtMost long (text_at axis) columns → length (every step columns) ≤ more + 1 → length (axis_by step axis columns) ≤ 5 + long + step * more
axis-by-fits step long more axis columns wide short few =
    let f : Column → List ℕ = λ column. text_at axis column.first in
    let texts = apart step 0 (map f (every step columns)) in
    omega (arith, length-append (axis_label axis ++ texts) (codes "\n"), length-append (axis_label axis) texts, label-four axis, texts-fit step 0 long more f (every step columns) wide (every-short step long (text_at axis) columns short) few)

axis-fits-by : (wide : Bool) (axis : Axis) (most from end long : ℕ) → 0 < most → 10 ≤ long → long ≤ 20 → AreAtMost long (text_at axis) (columns_of most from end)
    → list_any (λ (column : Column). nat_lt 9 (length (text_at axis column.first))) (columns_of most from end) ≡ wide
    → length (axis_by (step_by wide) axis (columns_of most from end)) + 5 ≤ long + 10 * div_ceil most 10
axis-fits-by true axis most from end long some least greatest short is =
    let line = axis-by-fits 20 long (div_ceil most 20 - 1) axis (columns_of most from end) greatest short (omega (arith, some, every-few true most from end some)) in
    omega (arith, line, some)
axis-fits-by false axis most from end long some least greatest short is =
    let line = axis-by-fits 10 9 (div_ceil most 10 - 1) axis (columns_of most from end) (omega arith) (none-long (text_at axis) (columns_of most from end) is) (omega (arith, some, every-few false most from end some)) in
    omega (arith, line, some, least)

axis-fits : (axis : Axis) (most from end long : ℕ) → 0 < most → 10 ≤ long → long ≤ 20 → ((clock : ℕ) → from ≤ clock → clock < end → length (text_at axis clock) ≤ long) → length (axis_line axis (columns_of most from end)) + 5 ≤ long + 10 * div_ceil most 10
axis-fits axis most from end long some least greatest room =
    axis-fits-by (list_any (λ (column : Column). nat_lt 9 (length (text_at axis column.first))) (columns_of most from end)) axis most from end long some least greatest
    (at-most from end long (text_at axis) room (columns_of most from end) (are-shown most from end)) refl

pub clocks-fit : (most from end : ℕ) → 0 < most → end ≤ 4000000000 → length (axis_line Clocks (columns_of most from end)) ≤ 5 + 10 * div_ceil most 10
clocks-fit most from end some early =
    omega (arith, axis-fits Clocks most from end 10 some (omega arith) (omega arith) (λ clock after before. clock-long clock (omega (arith, before, early))))

pub times-fit : (most from end frequency : ℕ) (unit : TimeUnit) → 0 < most → end ≤ 4000000000 → 1000000 ≤ frequency → length (axis_line (Times frequency unit) (columns_of most from end)) ≤ 9 + 10 * div_ceil most 10
times-fit most from end frequency unit some early fast =
    omega (arith, axis-fits (Times frequency unit) most from end 14 some (omega arith) (omega arith) (λ clock after before. time-long frequency unit clock fast (omega (arith, before, early))))

-- ---- each text is shorter than its place

all-shorter : (long step : ℕ) (f : ℕ → List ℕ) (columns : List Column) → long < step → AreAtMost long f columns → list_all (λ (column : Column). nat_lt (length (f column.first)) step) columns ≡ true
all-shorter long step f [] less short = refl
all-shorter long step f (column ∷ columns) less short =
    let below : length (f column.first) < step = omega (arith, less, short.0) in
    let here : nat_lt (length (f column.first)) step ≡ true = grind (arith, nat_tests) in
    rw here (all-shorter long step f columns less short.1)

spaced-by : (wide : Bool) (f : ℕ → List ℕ) (columns : List Column) → AreAtMost 19 f columns → list_any (λ (column : Column). nat_lt 9 (length (f column.first))) columns ≡ wide
    → list_all (λ (column : Column). nat_lt (length (f column.first)) (step_by wide)) columns ≡ true
spaced-by true f columns short is = all-shorter 19 20 f columns (omega arith) short
spaced-by false f columns short is = all-shorter 9 10 f columns (omega arith) (none-long f columns is)

spaced : (axis : Axis) (most from end : ℕ) → ((clock : ℕ) → from ≤ clock → clock < end → length (text_at axis clock) ≤ 19) → AreApart axis (columns_of most from end)
spaced axis most from end room =
    spaced-by (list_any (λ (column : Column). nat_lt 9 (length (text_at axis column.first))) (columns_of most from end)) (text_at axis) (columns_of most from end)
    (at-most from end 19 (text_at axis) room (columns_of most from end) (are-shown most from end)) refl

pub clocks-spaced : (most from end : ℕ) → end ≤ 4000000000 → AreApart Clocks (columns_of most from end)
clocks-spaced most from end early =
    spaced Clocks most from end (λ clock after before. let short = clock-long clock (omega (arith, before, early)) in omega (arith, short))

pub times-spaced : (most from end frequency : ℕ) → end ≤ 4000000000 → 0 < frequency → AreApart (Times frequency (unit_for frequency (end - from))) (columns_of most from end)
times-spaced most from end frequency early some =
    spaced (Times frequency (unit_for frequency (end - from))) most from end (λ clock after before. any-time-long frequency (end - from) clock some (omega (arith, after, before)) (omega (arith, before, early)))

-- ---- ticks, and the lines of pins

ticks-short : (columns : List Column) → AreShort 1 (map (λ (column : Column). codes "|") columns)
ticks-short [] = tt
ticks-short (column ∷ columns) = (omega arith, ticks-short columns)

pub ticks-fit : (most from end : ℕ) → 0 < most → length (tick_line (columns_of most from end)) ≤ 5 + most
ticks-fit most from end some =
    let f : Column → List ℕ = λ column. codes "|" in
    let ticks = every 10 (columns_of most from end) in
    let few : length ticks ≤ div_ceil most 10 - 1 + 1 = omega (arith, some, every-few false most from end some) in
    omega (arith, length-append (apart 10 4 (map f ticks)) (codes "\n"), texts-fit 10 4 1 (div_ceil most 10 - 1) f ticks (omega arith) (ticks-short ticks) few, some)

mark-one : (mark : PinLevel) → length (text_of_mark true mark) ≡ 1
mark-one Low = refl
mark-one High = refl
mark-one Changing = refl

marks-count : (high : ℕ → Bool) (columns : List Column) → length (flat_map (λ (column : Column). text_of_mark true (mark_of high column)) columns) ≡ length columns
marks-count high [] = refl
marks-count high (column ∷ columns) =
    let rest = flat_map (λ (c : Column). text_of_mark true (mark_of high c)) columns in
    length-append (text_of_mark true (mark_of high column)) rest ∙ omega (arith, mark-one (mark_of high column), marks-count high columns)

label-fits : (pin : ℕ) → pin < 32 → length (label_of pin) ≤ 4
label-fits pin fits = elim (cases_lt pin 10) [
  | inl one ↦ let short = length-decimal-le 1 pin (omega arith) one (omega (arith, one)) in parts (codes "  ") (omega (arith, short)) (grind (arith, nat_tests))
  | inr two ↦ let short = length-decimal-le 2 pin (omega arith) (omega (arith, fits)) (omega (arith, fits)) in parts (codes " ") (omega (arith, short)) (grind (arith, nat_tests))
]
  where
    parts : (spaces : List ℕ) → length (decimal pin) + length spaces ≤ 3 → (if nat_lt pin 10 then codes "  " else codes " ") ≡ spaces → length (label_of pin) ≤ 4
    parts spaces le is = omega (arith, le, ap length is, length-append (codes "P") (decimal pin ++ (if nat_lt pin 10 then codes "  " else codes " ")), length-append (decimal pin) (if nat_lt pin 10 then codes "  " else codes " "))

pub pins-fit : (high : ℕ → Bool) (most from end pin : ℕ) → 0 < most → pin < 32 → length (pin_line high true (columns_of most from end) pin) ≤ 5 + most
pins-fit high most from end pin some fits =
    let marks = flat_map (λ (column : Column). text_of_mark true (mark_of high column)) (columns_of most from end) in
    omega (arith, length-append (label_of pin ++ marks) (codes "\n"), length-append (label_of pin) marks, marks-count high (columns_of most from end), label-fits pin fits, columns-fit most from end some)
