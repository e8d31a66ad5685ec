-- What a line of DAT is made of that was read.
use Rattle.std.specs.Prelude.{ℕ, ◌+◌, Bool, true, false, if◌then◌else◌, IsTrue, List, [], ◌∷◌, Option, Some, None}
use Rattle.p8_tree.specs.declared.places.Place.{Place}
use Rattle.p8_tree.specs.Forgetting.{anywhere}
use Rattle.p8_tree.specs.Expressions.{Tree, node, Str}
use Rattle.p8_tree.specs.Sources.{Datum, Instruction, Contents, Nothing, Data, Org, Res, Fit, Instr, Line}
use Rattle.p8_tree.specs.Proper.{IfThere}
use Rattle.p8_lexer.specs.declared.word.Word.{Word}
use Rattle.p8_lexer.specs.declared.word.Word.TheVariants as word
use Rattle.p8_lexer.specs.Words.{spelling}
use Rattle.p8_grammar.specs.Lexemes.{Setting, in_dat, in_data_item}
use Rattle.p8_lines.specs.Signs.{takes_two, is_on_memory, takes_one, is_condition}
use Rattle.p8_declarations.specs.DataParts.{Part, condition, part_of_word}
use Rattle.p8_declarations.specs.Lines.{local, label}

-- what is known of the expressions, the names and the strings of a line
pub record Facts : Type 1 where
  pub IsValue : Setting → Tree → Type 0
  pub IsName : List ℕ → Type 0
  pub IsWord : List ℕ → Type 0
  pub IsText : List ℕ → Type 0
  pub of_text : (t : List ℕ) (p : Place) → IsText t → IsValue in_data_item (node p (Str t))

pub data IsLabel (F : Facts) : List ℕ → Type 0 where
  plain : {n : List ℕ} → F.IsName n → IsLabel F n
  behind_colon : {n : List ℕ} → F.IsWord n → IsLabel F (local n)

-- BYTE, WORD or LONG
pub data IsSize : ℕ → Type 0 where
  byte_size : IsSize 1
  word_size : IsSize 2
  long_size : IsSize 4

pub record IsDatum (F : Facts) (x : Datum) : Type 0 where
  pub size : IfThere IsSize x.size
  pub value : F.IsValue in_data_item x.value
  pub count : IfThere (F.IsValue in_dat) x.count

abbrev pub AreData : Facts → List Datum → Type 0
AreData F [] = Unit {0}
AreData F (x ∷ xs) = IsDatum F x × AreData F xs

-- the number of a condition's word
abbrev pub number_of : Part → ℕ
number_of (condition c) = c
number_of x = 15

unfoldable pub condition_number : Word → ℕ
unfolding part_of_word
condition_number w = number_of (part_of_word w anywhere)

-- the word of a condition, or none for that of each instruction without one
pub data IsCondition : ℕ → Type 0 where
  a_condition : (w : Word) → IsTrue (is_condition w) → IsCondition (condition_number w)
  no_condition : IsCondition 15

-- some of WZ, WC, WR and NR
abbrev pub effects_number : Bool → Bool → Bool → Bool → ℕ
effects_number z c w n = (if z then 1 else 0) + ((if c then 2 else 0) + ((if w then 4 else 0) + (if n then 8 else 0)))

pub data IsEffects : ℕ → Type 0 where
  some_effects : (z c w n : Bool) → IsEffects (effects_number z c w n)

-- WZ and WC alone
pub data IsFlags : ℕ → Type 0 where
  some_flags : (z c : Bool) → IsFlags (effects_number z c false false)

-- what holds in each of the sixteen cases holds of all four
abbrev Sixteen : (Bool → Bool → Bool → Bool → Type 0) → Type 0
Sixteen P = P true true true true × P true true true false × P true true false true × P true true false false × P true false true true × P true false true false × P true false false true × P true false false false × P false true true true × P false true true false × P false true false true × P false true false false × P false false true true × P false false true false × P false false false true × P false false false false

pub sixteen : (P : Bool → Bool → Bool → Bool → Type 0) → Sixteen P → (z c w n : Bool) → P z c w n
sixteen P h true true true true = h.0
sixteen P h true true true false = h.1
sixteen P h true true false true = h.2
sixteen P h true true false false = h.3
sixteen P h true false true true = h.4
sixteen P h true false true false = h.5
sixteen P h true false false true = h.6
sixteen P h true false false false = h.7
sixteen P h false true true true = h.8
sixteen P h false true true false = h.9
sixteen P h false true false true = h.10
sixteen P h false true false false = h.11
sixteen P h false false true true = h.12
sixteen P h false false true false = h.13
sixteen P h false false false true = h.14
sixteen P h false false false false = h.15

-- an instruction with this condition, word, destination and source
abbrev pub made : ℕ → Word → Option Tree → Place → Bool → Option Tree → Place → ℕ → Instruction
made c w d p b e q f = record { cond = c; word = spelling w; dest = d; dest_place = p; immediate = b; source = e; source_place = q; effects = f }

pub data IsInstruction (F : Facts) : Instruction → Type 0 where
  two : (w : Word) {c f : ℕ} {d e : Tree} {p q : Place} {b : Bool} → IsTrue (takes_two w) → IsCondition c → F.IsValue in_dat d → F.IsValue in_dat e → IsEffects f → IsInstruction F (made c w (Some d) p b (Some e) q f)
  on_memory : (w : Word) {c f : ℕ} {d e : Tree} {p q : Place} {b : Bool} → IsTrue (is_on_memory w) → IsCondition c → F.IsValue in_dat d → F.IsValue in_dat e → IsFlags f → IsInstruction F (made c w (Some d) p b (Some e) q f)
  one : (w : Word) {c f : ℕ} {d : Tree} {p q : Place} → IsTrue (takes_one w) → IsCondition c → F.IsValue in_dat d → IsEffects f → IsInstruction F (made c w (Some d) p false None q f)
  jump : {c f : ℕ} {e : Tree} {p q : Place} {b : Bool} → IsCondition c → F.IsValue in_dat e → IsEffects f → IsInstruction F (made c word.Jmp None p b (Some e) q f)
  call : {c f : ℕ} {n : List ℕ} {p q r : Place} → IsCondition c → IsLabel F n → IsEffects f → IsInstruction F (made c word.Call None p true (Some (label n q)) r f)
  return : {c f : ℕ} {p q : Place} → IsCondition c → IsEffects f → IsInstruction F (made c word.Ret None p false None q f)
  nothing : {c : ℕ} {p q : Place} → IsCondition c → IsInstruction F (made c word.Nop None p false None q 0)

pub data IsContents (F : Facts) : Contents → Type 0 where
  of_data : {n : ℕ} {xs : List Datum} → IsSize n → AreData F xs → IsContents F (Data n xs)
  of_org : {v : Option Tree} → IfThere (F.IsValue in_dat) v → IsContents F (Org v)
  of_res : {v : Option Tree} → IfThere (F.IsValue in_dat) v → IsContents F (Res v)
  of_fit : {v : Option Tree} → IfThere (F.IsValue in_dat) v → IsContents F (Fit v)
  of_instruction : {i : Instruction} → IsInstruction F i → IsContents F (Instr i)

-- a label alone, or contents after a label or without one
pub data IsLine (F : Facts) : Line → Type 0 where
  label_alone : {p q : Place} {n : List ℕ} → IsLabel F n → IsLine F (record { place = p; label = Some n; word_place = q; contents = Nothing })
  with_contents : {p q : Place} {l : Option (List ℕ)} {x : Contents} → IfThere (IsLabel F) l → IsContents F x → IsLine F (record { place = p; label = l; word_place = q; contents = x })
