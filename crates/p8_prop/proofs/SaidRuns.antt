-- What the words of `raw` and `run` say.
use Rattle.std.proofs.Common.{◌≡◌, ◌∙◌, sym, ap, refl, ℕ, ◌+◌, ◌-◌, ◌*◌, ◌==◌, ◌&&◌, ◌||◌, Bool, true, false, nat_le, nat_lt, List, [], ◌∷◌, length, Option, Some, None, arith}
use Rattle.std.specs.Prelude.{codes, cond, if◌then◌else◌, option_and_then, option_map}
use Rattle.std.specs.Char.{digit_value}
use Rattle.std.specs.List.{list_all, ends_with}
use Rattle.std.specs.Str.Parse.{digits_value, digits_value_after}
use Rattle.std.proofs.lemmas.Bool.{and_parts}
use Rattle.std.proofs.lemmas.Bool.Decides.{nat_tests}
use Rattle.std.proofs.lemmas.Option.{same_Some}
use Rattle.clap.specs.Faults.{fault_of}
use Rattle.clap.specs.Kinds.{Kinds}
use Rattle.clap.specs.Simple.{App}
use Rattle.clap.specs.Walk.{Text}
use Rattle.p8_commands.specs.declared.image_kind.ImageKind.{ImageKind}
use Rattle.p8_commands.specs.declared.table.Subcommand.TheVariants as named
use Rattle.p8_commands.specs.Kinds.{kind_named}
use Rattle.p8_commands.specs.declared.image_kind.ImageKind.TheVariants.{Binary, Eeprom as EepromFile}
use Rattle.p8_commands.specs.Numbers.{is_digit, value_from, value_within, number_of, is_hexadecimal, hexadecimal_value, hexadecimal_digit, address_by, count_of, range_by, range_of, most_clocks, most_turns, usual_turns}
use Rattle.p8_commands.specs.Table.{subcommand_named}
use Rattle.p8_commands.specs.Commands.{Command, Running, RunMemory, RunProgram, faultless, has_flag, meaning_of, program_of, run_named, said_to, command_of, number_by, dump_by, run_by, traced_of}
use Rattle.p8_inputs.specs.declared.program.Format.TheVariants.{Image, Eeprom, Source}
use Rattle.p8_inputs.specs.Programs as programs
use Rattle.p8_inputs.specs.Programs.{format_by}
use Rattle.p8_prop.specs.Runs.{SayRun, raw_app, run_app, value_in, number_or, range_in, format_named}

none-not_some : {A : Type 0} {a : A} → None ≡ Some a → ⊥
none-not_some e = cc

faultless-some : {A : Type 0} (faults : Kinds) (said : Option A) (a : A) → faultless faults said ≡ Some a → (faults ≡ []) × (said ≡ Some a)
faultless-some [] said a e = (refl, e)
faultless-some (fault ∷ faults) said a e = absurd (none-not_some e)

then-some : {A B : Type 0} (f : A → Option B) (x : Option A) (b : B) → option_and_then f x ≡ Some b → (a : A) × (x ≡ Some a) × (f a ≡ Some b)
then-some f None b e = absurd (none-not_some e)
then-some f (Some a) b e = (a, refl, e)

map-some : {A B : Type 0} (f : A → B) (x : Option A) (b : B) → option_map f x ≡ Some b → (a : A) × (x ≡ Some a) × (Some (f a) ≡ Some b)
map-some f None b e = absurd (none-not_some e)
map-some f (Some a) b e = (a, refl, e)

if-some : {A : Type 0} (b : Bool) (x : Option A) (a : A) → (if b then x else None) ≡ Some a → (b ≡ true) × (x ≡ Some a)
if-some true x a e = (refl, e)
if-some false x a e = absurd (none-not_some e)

-- ---- numbers

is-decimal : (c : ℕ) → is_digit c ≡ true → (nat_lt c 48 ≡ false) × (nat_lt c 58 ≡ true)
is-decimal c is = let both = and_parts (nat_le 48 c) (nat_le c 57) is in (low c both.0, high c both.1)
  where
    low : (c : ℕ) → nat_le 48 c ≡ true → nat_lt c 48 ≡ false
    low c e = grind (arith, nat_tests)

    high : (c : ℕ) → nat_le c 57 ≡ true → nat_lt c 58 ≡ true
    high c e = grind (arith, nat_tests)

decimal-value : (c : ℕ) → is_digit c ≡ true → digit_value c ≡ c - 48
decimal-value c is =
    let it = is-decimal c is in
    ap (λ (b : Bool). cond b 36 (cond (nat_lt c 58) (c - 48) (cond (nat_lt c 65) 36 (cond (nat_lt c 91) (c - 55) (cond (nat_lt c 97) 36 (cond (nat_lt c 123) (c - 87) 36)))))) it.0
    ∙ ap (λ (b : Bool). cond b (c - 48) (cond (nat_lt c 65) 36 (cond (nat_lt c 91) (c - 55) (cond (nat_lt c 97) 36 (cond (nat_lt c 123) (c - 87) 36))))) it.1

-- decimal digits say the number that the library reads in them
digits-say : (digits : List ℕ) (n : ℕ) → list_all is_digit digits ≡ true → value_from n digits ≡ digits_value_after 10 n digits
digits-say [] n are = refl
digits-say (c ∷ cs) n are =
    let both = and_parts (is_digit c) (list_all is_digit cs) are in
    digits-say cs (10 * n + (c - 48)) both.1
    ∙ ap (λ (m : ℕ). digits_value_after 10 m cs) (turned n (c - 48) (digit_value c) (decimal-value c both.0))
  where
    turned : (n v d : ℕ) → d ≡ v → 10 * n + v ≡ n * 10 + d
    turned n v d e = omega (arith, e)

within-says : (limit : ℕ) (text : List ℕ) (n : ℕ) → value_within limit text ≡ Some n → digits_value 10 text ≡ n
within-says limit text n e =
    let it = if-some (list_all is_digit text && nat_le (value_from 0 text) limit) (Some (value_from 0 text)) n e in
    sym (digits-say text 0 (and_parts (list_all is_digit text) (nat_le (value_from 0 text) limit) it.0).0) ∙ same_Some _ _ it.1

number-says : (limit : ℕ) (text : List ℕ) (n : ℕ) → number_of limit text ≡ Some n → digits_value 10 text ≡ n
number-says limit text n e =
    within-says limit text n (if-some (nat_le 1 (length text) && nat_le (length text) 10) (value_within limit text) n e).1

count-says : (text : List ℕ) (n : ℕ) → count_of text ≡ Some n → digits_value 10 text ≡ n
count-says text n e =
    within-says 99999 text n (if-some (nat_le 1 (length text) && nat_le (length text) 5) (value_within 99999 text) n e).1

option-says : (most usual : ℕ) (o : Option Text) (n : ℕ) → number_by most usual o ≡ Some n → n ≡ number_or usual o
option-says most usual None n e = sym (same_Some _ _ e)
option-says most usual (Some text) n e = sym (number-says most text n e)

-- hexadecimal digits do too
module _ (c : ℕ) where
  small-letter : nat_le 97 c ≡ true → nat_le c 102 ≡ true → digit_value c ≡ hexadecimal_value c
  small-letter low high = grind (arith, nat_tests)

  capital-letter : nat_le 65 c ≡ true → nat_le c 70 ≡ true → digit_value c ≡ hexadecimal_value c
  capital-letter low high = grind (arith, nat_tests)

  figure : nat_le 48 c ≡ true → nat_le c 57 ≡ true → digit_value c ≡ hexadecimal_value c
  figure low high = grind (arith, nat_tests)

  hexadecimal-says : (v : ℕ) → hexadecimal_digit c ≡ Some v → digit_value c ≡ v
  hexadecimal-says v e =
      let it = if-some (is_hexadecimal c) (Some (hexadecimal_value c)) v e in
      by-class (is_digit c) (nat_le 65 c && nat_le c 70) (nat_le 97 c && nat_le c 102) refl refl refl it.0 ∙ same_Some _ _ it.1
    where
      by-class : (figures capitals smalls : Bool) → is_digit c ≡ figures → (nat_le 65 c && nat_le c 70) ≡ capitals → (nat_le 97 c && nat_le c 102) ≡ smalls
          → (figures || capitals || smalls) ≡ true → digit_value c ≡ hexadecimal_value c
      by-class true b d one two three any = let both = and_parts (nat_le 48 c) (nat_le c 57) one in figure both.0 both.1
      by-class false true d one two three any = let both = and_parts (nat_le 65 c) (nat_le c 70) two in capital-letter both.0 both.1
      by-class false false true one two three any = let both = and_parts (nat_le 97 c) (nat_le c 102) three in small-letter both.0 both.1
      by-class false false false one two three any = absurd cc

record Four (x y z u : Option ℕ) (n : ℕ) : Type 0 where
  p : ℕ
  q : ℕ
  r : ℕ
  s : ℕ
  first : x ≡ Some p
  second : y ≡ Some q
  third : z ≡ Some r
  fourth : u ≡ Some s
  sum : 4096 * p + 256 * q + 16 * r + s ≡ n

four : (x y z u : Option ℕ) (n : ℕ) → address_by x y z u ≡ Some n → Four x y z u n
four (Some p) (Some q) (Some r) (Some s) n e =
    record { p = p; q = q; r = r; s = s; first = refl; second = refl; third = refl; fourth = refl; sum = same_Some _ _ e }
four None y z u n e = absurd (none-not_some e)
four (Some p) None z u n e = absurd (none-not_some e)
four (Some p) (Some q) None u n e = absurd (none-not_some e)
four (Some p) (Some q) (Some r) None n e = absurd (none-not_some e)

summed : (n p q r s a b c d : ℕ) → a ≡ p → b ≡ q → c ≡ r → d ≡ s → 4096 * p + 256 * q + 16 * r + s ≡ n
    → (((0 * 16 + a) * 16 + b) * 16 + c) * 16 + d ≡ n
summed n p q r s a b c d one two three last sum = omega (arith, one, two, three, last, sum)

address-says : (a b c d n : ℕ) → address_by (hexadecimal_digit a) (hexadecimal_digit b) (hexadecimal_digit c) (hexadecimal_digit d) ≡ Some n
    → digits_value 16 (a ∷ b ∷ c ∷ d ∷ []) ≡ n
address-says a b c d n e =
    let it = four (hexadecimal_digit a) (hexadecimal_digit b) (hexadecimal_digit c) (hexadecimal_digit d) n e in
    summed n it.p it.q it.r it.s (digit_value a) (digit_value b) (digit_value c) (digit_value d) (hexadecimal-says a it.p it.first)
    (hexadecimal-says b it.q it.second) (hexadecimal-says c it.r it.third) (hexadecimal-says d it.s it.fourth) it.sum

pair-some : (x y : Option ℕ) (range : ℕ × ℕ) → range_by x y ≡ Some range → (x ≡ Some range.0) × (y ≡ Some range.1)
pair-some (Some x) (Some y) range e =
    let it = if-some (nat_le 1 y && nat_le (x + y) 32768) (Some (x, y)) range e in
    (ap (option_map (λ (p : ℕ × ℕ). p.0)) it.1, ap (option_map (λ (p : ℕ × ℕ). p.1)) it.1)
pair-some None y range e = absurd (none-not_some e)
pair-some (Some x) None range e = absurd (none-not_some e)

range-says : (text : Text) (range : ℕ × ℕ) → range_of text ≡ Some range → Some range ≡ range_in text
range-says (a ∷ b ∷ c ∷ d ∷ colon ∷ count) range e =
    let address = address_by (hexadecimal_digit a) (hexadecimal_digit b) (hexadecimal_digit c) (hexadecimal_digit d) in
    let it = pair-some address (count_of count) range (if-some (colon == 58) (range_by address (count_of count)) range e).1 in
    λ i. Some (sym (address-says a b c d range.0 it.0) i, sym (count-says count range.1 it.1) i)
range-says text range e = absurd (none-not_some e)

dump-says : (o : Option Text) (dump : Option (ℕ × ℕ)) → dump_by o ≡ Some dump → dump ≡ option_and_then range_in o
dump-says None dump e = sym (same_Some _ _ e)
dump-says (Some text) dump e =
    let it = map-some Some (range_of text) dump e in
    sym (same_Some _ _ it.2) ∙ range-says text it.0 it.1

-- ---- a run

record Given (file : Option Text) (clocks : Option ℕ) (script : Option Text) (turns : Option ℕ) (dump : Option (Option (ℕ × ℕ))) (run : Running)
    : Type 0 where
  file_is : file ≡ Some run.file
  clocks_are : clocks ≡ Some run.clocks
  script_is : run.script ≡ script
  turns_are : turns ≡ Some run.turns
  dump_is : dump ≡ Some run.dump

given : (file : Option Text) (clocks : Option ℕ) (script : Option Text) (turns : Option ℕ) (dump : Option (Option (ℕ × ℕ))) (run : Running)
    → run_by file clocks script turns dump ≡ Some run → Given file clocks script turns dump run
given (Some file) (Some clocks) script (Some turns) (Some dump) run e =
    let same = same_Some _ _ e in
    record {
      file_is = ap (λ (r : Running). Some r.file) same;
      clocks_are = ap (λ (r : Running). Some r.clocks) same;
      script_is = sym (ap (λ (r : Running). r.script) same);
      turns_are = ap (λ (r : Running). Some r.turns) same;
      dump_is = ap (λ (r : Running). Some r.dump) same;
    }
given None clocks script turns dump run e = absurd (none-not_some e)
given (Some file) None script turns dump run e = absurd (none-not_some e)
given (Some file) (Some clocks) script None dump run e = absurd (none-not_some e)
given (Some file) (Some clocks) script (Some turns) None run e = absurd (none-not_some e)

say-run : (app : App) (words : List Text) (run : Running) → fault_of app words ≡ [] → traced_of (value_in app words) ≡ Some run → SayRun app words run
say-run app words run none e =
    let value = value_in app words in
    let it = given (value (codes "FILE")) (option_and_then (number_of most_clocks) (value (codes "CLOCKS"))) (value (codes "pins"))
    (number_by most_turns usual_turns (value (codes "turns"))) (dump_by (value (codes "dump"))) run e in
    let clocks = then-some (number_of most_clocks) (value (codes "CLOCKS")) run.clocks it.clocks_are in
    record {
      faultless = none;
      file = it.file_is;
      clocks = ap (option_map (digits_value 10)) clocks.1 ∙ ap (λ (n : ℕ). Some n) (number-says most_clocks clocks.0 run.clocks clocks.2);
      script = it.script_is;
      turns = option-says most_turns usual_turns (value (codes "turns")) run.turns it.turns_are;
      dump = dump-says (value (codes "dump")) run.dump it.dump_is;
    }

-- words say one run
pub one-run : (app : App) (words : List Text) (run other : Running) → SayRun app words run → SayRun app words other → other ≡ run
one-run app words run other is also =
    λ i. record {
      file = same_Some _ _ (sym also.file ∙ is.file) i;
      clocks = same_Some _ _ (sym also.clocks ∙ is.clocks) i;
      script = (also.script ∙ sym is.script) i;
      turns = (also.turns ∙ sym is.turns) i;
      dump = (also.dump ∙ sym is.dump) i;
    }

-- ---- what a file is taken for

pub format-same : (short : Bool) (name : List ℕ) → format_named short name ≡ programs.format_named short name
format-same short name = by-ends (ends_with (λ (a b : ℕ). a == b) name (codes ".binary")) (ends_with (λ (a b : ℕ). a == b) name (codes ".eeprom"))
  where
    by-ends : (binary eeprom : Bool) → (if binary then Image else if eeprom then Eeprom else Source short)
        ≡ format_by short (if binary then Some Binary else if eeprom then Some EepromFile else None)
    by-ends true eeprom = refl
    by-ends false true = refl
    by-ends false false = refl

-- ---- commands

-- a file with the ending of an image has no short code, and any other is run as it is said
named-run : (alone short : Bool) (run : Running) (kind : Option ImageKind) (command : Command) → run_named alone short run kind ≡ Some command
    → Some (RunProgram alone short run) ≡ Some command
named-run alone true run (Some kind) command e = absurd (none-not_some e)
named-run alone true run None command e = e
named-run alone false run kind command e = e

pub said-raw : (words : List Text) (command : Command) → said_to named.Raw words ≡ Some command
    → (run : Running) × SayRun raw_app words run × (Some (RunMemory run) ≡ Some command)
unfolding said_to
said-raw words command e =
    let value = value_in raw_app words in
    let said = faultless-some (fault_of raw_app words) (meaning_of named.Raw value) command e in
    let traced = map-some RunMemory (traced_of value) command said.1 in
    (traced.0, say-run raw_app words traced.0 said.0 traced.1, traced.2)

pub said-run : (words : List Text) (command : Command) → said_to named.Run words ≡ Some command
    → (run : Running) × SayRun run_app words run
    × (Some (RunProgram (has_flag (codes "alone") (value_in run_app words)) (has_flag (codes "short") (value_in run_app words)) run) ≡ Some command)
unfolding said_to
said-run words command e =
    let value = value_in run_app words in
    let alone = has_flag (codes "alone") value in
    let short = has_flag (codes "short") value in
    let said = faultless-some (fault_of run_app words) (meaning_of named.Run value) command e in
    let traced = then-some (program_of alone short) (traced_of value) command said.1 in
    (traced.0, say-run run_app words traced.0 said.0 traced.1, named-run alone short traced.0 (kind_named traced.0.file) command traced.2)

pub command-raw : (words : List Text) → command_of (codes "raw" ∷ words) ≡ said_to named.Raw (codes "raw" ∷ words)
unfolding command_of subcommand_named
command-raw words = refl

pub command-run : (words : List Text) → command_of (codes "run" ∷ words) ≡ said_to named.Run (codes "run" ∷ words)
unfolding command_of subcommand_named
command-run words = refl
