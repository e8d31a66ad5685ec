-- Each line of DAT has a value, and a proper one where its pieces are proper.
use Rattle.std.proofs.Common.{arith, ◌≡◌, ℕ, ◌<◌, List, [], ◌∷◌, Option, Some, None, Bool, true, false, refl, sym, ◌∙◌, subst}
use Rattle.std.specs.Prelude.{IsTrue, if◌then◌else◌, ◌&&◌, not, All}
use Rattle.std.proofs.lemmas.List.Elements.{All-nil, All-cons}
use Rattle.p8_tree.specs.Sources.{Datum, Instruction, Contents, Line}
use Rattle.p8_tree.specs.Names as names
use Rattle.p8_tree.specs.Names.{IsName, IsWord, IsString, is_among, two_operands, on_memory, one_operand}
use Rattle.p8_tree.specs.Proper as proper
use Rattle.p8_tree.specs.Proper.{IfThere, is_nothing, is_empty, is_size, IsProperExpression, IsProperDatum, IsProperInstruction, AreProperContents, IsProperLine}
use Rattle.p8_lexer.specs.declared.word.Word.{Word}
use Rattle.p8_lexer.specs.declared.word.Word.TheVariants as word
use Rattle.p8_lexer.specs.Words.{spelling}
use Rattle.p8_lexer.specs.Pieces as pieces
use Rattle.p8_lexer.specs.Pieces.{Piece}
use Rattle.p8_lexer.specs.Proper.{AreProper}
use Rattle.p8_lines.specs.declared.state.LineState.TheVariants as state
use Rattle.p8_lines.specs.Signs.{is_condition, takes_two, is_on_memory, takes_one}
use Rattle.p8_declarations.specs.DataParts.{part_of_word}
use Rattle.p8_declarations.specs.Lines.{line_of_row}
use Rattle.p8_blocks.specs.Values.{HaveValues}
use Rattle.p8_blocks.specs.Proper.{LinesAreProper}
use Rattle.p8_blocks.proofs.DataMade as made
use Rattle.p8_blocks.proofs.DataMade.{Facts, IsLabel, IsSize, IsDatum, AreData, condition_number, IsCondition, effects_number, IsEffects, some_effects, IsFlags, some_flags, sixteen, IsInstruction, IsContents, IsLine}
use Rattle.p8_blocks.proofs.DataWords.{Has, AreKnown}
use Rattle.p8_blocks.proofs.Data.{from_head, from_line}

-- nothing is known, and the line has a value

abbrev no_facts : Facts
no_facts = record { IsValue = λ s e. Unit {0}; IsName = λ n. Unit {0}; IsWord = λ n. Unit {0}; IsText = λ t. Unit {0}; of_text = λ t p h. tt }

nothing_known : (row : List Piece) → AreKnown no_facts row
nothing_known [] = tt
nothing_known (pieces.word w p ∷ row) = (tt, nothing_known row)
nothing_known (pieces.name n p ∷ row) = (tt, nothing_known row)
nothing_known (pieces.label n p ∷ row) = (tt, nothing_known row)
nothing_known (pieces.text t p ∷ row) = (tt, nothing_known row)
nothing_known (pieces.tree e p ∷ row) = ((λ s. tt), nothing_known row)

pub head_has_value : HaveValues line_of_row state.DatHead
head_has_value row ts r = let x = from_head no_facts row ts r (nothing_known row) in (x.value, x.is)

pub line_has_value : HaveValues line_of_row state.DatLine
line_has_value row ts r = let x = from_line no_facts row ts r (nothing_known row) in (x.value, x.is)

-- proper pieces

abbrev proper_facts : Facts
proper_facts = record {
  IsValue = λ s e. IsProperExpression true e;
  IsName = λ n. IsName n;
  IsWord = λ n. IsWord n;
  IsText = λ t. IsString t;
  of_text = λ t p h. (h, omega arith);
}

known : (row : List Piece) → AreProper true 64 row → AreKnown proper_facts row
known [] a = tt
known (pieces.word w p ∷ row) a = (tt, known row a)
known (pieces.name n p ∷ row) a = (a.0, known row a.1)
known (pieces.label n p ∷ row) a = (a.0, known row a.1)
known (pieces.text t p ∷ row) a = (a.0, known row a.1)
known (pieces.tree e p ∷ row) a = ((λ s. a.0), known row a.1)

-- numbers in their ranges

size_proper : (n : ℕ) → IsSize n → IsTrue (is_size n)
size_proper n made.byte_size = refl
size_proper n made.word_size = refl
size_proper n made.long_size = refl

effects_low : (f : ℕ) → IsEffects f → f < 16
effects_low f (some_effects z c w n) = sixteen (λ z c w n. effects_number z c w n < 16) (omega arith, omega arith, omega arith, omega arith, omega arith, omega arith, omega arith, omega arith, omega arith, omega arith, omega arith, omega arith, omega arith, omega arith, omega arith, omega arith) z c w n

flags_low : (f : ℕ) → IsFlags f → f < 4
flags_low f (some_flags true true) = omega arith
flags_low f (some_flags true false) = omega arith
flags_low f (some_flags false true) = omega arith
flags_low f (some_flags false false) = omega arith

number_low : (w : Word) → IsTrue (is_condition w) → condition_number w < 16
unfolding condition_number part_of_word
number_low word.IfAlways h = omega arith
number_low word.IfNever h = omega arith
number_low word.IfE h = omega arith
number_low word.IfNe h = omega arith
number_low word.IfA h = omega arith
number_low word.IfB h = omega arith
number_low word.IfAe h = omega arith
number_low word.IfBe h = omega arith
number_low word.IfNcAndZ h = omega arith
number_low word.IfCAndNz h = omega arith
number_low word.IfCAndZ h = omega arith
number_low word.IfCEqZ h = omega arith
number_low word.IfCNeZ h = omega arith
number_low word.IfCOrNz h = omega arith
number_low word.IfNcOrZ h = omega arith
number_low word.IfNcOrNz h = omega arith
number_low w h = absurd cc

condition_low : (c : ℕ) → IsCondition c → c < 16
condition_low c (made.a_condition w h) = number_low w h
condition_low c made.no_condition = omega arith

-- words of instructions

abbrev among : (Word → Bool) → List (List ℕ) → Word → Bool
among class texts w = if class w then is_among texts (spelling w) else true

two_among : (w : Word) → IsTrue (among takes_two two_operands w)
unfolding two_operands
two_among word.Add = refl
two_among w = refl

memory_among : (w : Word) → IsTrue (among is_on_memory on_memory w)
unfolding on_memory
memory_among word.Rdbyte = refl
memory_among w = refl

one_among : (w : Word) → IsTrue (among takes_one one_operand w)
unfolding one_operand
one_among word.Clkset = refl
one_among w = refl

of_class : (class : Word → Bool) (texts : List (List ℕ)) (w : Word) → IsTrue (among class texts w) → IsTrue (class w) → IsTrue (is_among texts (spelling w))
of_class class texts w h is = subst (λ b. IsTrue (if b then is_among texts (spelling w) else true)) is h

-- parts of a line

label_proper : (n : List ℕ) → IsLabel proper_facts n → names.IsLabel n
label_proper n (made.plain is) = names.plain is
label_proper n (made.behind_colon is) = names.behind_colon is

there : {A : Type 0} {P Q : A → Type 0} → ((x : A) → P x → Q x) → (o : Option A) → IfThere P o → IfThere Q o
there f None h = tt
there f (Some x) h = f x h

instruction_proper : (i : Instruction) → IsInstruction proper_facts i → IsProperInstruction i
instruction_proper i (made.two w {c = c} {f = f} h k d e ef) = record { cond = condition_low c k; operands = proper.two (of_class takes_two two_operands w (two_among w) h) d e (effects_low f ef) }
instruction_proper i (made.on_memory w {c = c} {f = f} h k d e ef) = record { cond = condition_low c k; operands = proper.memory (of_class is_on_memory on_memory w (memory_among w) h) d e (flags_low f ef) }
instruction_proper i (made.one w {c = c} {f = f} h k d ef) = record { cond = condition_low c k; operands = proper.one (of_class takes_one one_operand w (one_among w) h) d refl refl (effects_low f ef) }
instruction_proper i (made.jump {c = c} {f = f} k e ef) = record { cond = condition_low c k; operands = proper.jump refl refl e (effects_low f ef) }
instruction_proper i (made.call {c = c} {f = f} {n = n} k is ef) = record { cond = condition_low c k; operands = proper.call refl refl (label_proper n is) refl (effects_low f ef) }
instruction_proper i (made.return {c = c} {f = f} k ef) = record { cond = condition_low c k; operands = proper.return refl refl refl refl (effects_low f ef) }
instruction_proper i (made.nothing {c = c} k) = record { cond = condition_low c k; operands = proper.nothing refl refl refl refl refl }

datum_proper : (x : Datum) → IsDatum proper_facts x → IsProperDatum x
datum_proper x h = record { size = there size_proper x.size h.size; value = h.value; count = h.count }

data_proper : (xs : List Datum) → AreData proper_facts xs → All IsProperDatum xs
data_proper [] h = All-nil IsProperDatum
data_proper (x ∷ xs) h = All-cons IsProperDatum x xs (datum_proper x h.0) (data_proper xs h.1)

contents_proper : (x : Contents) → IsContents proper_facts x → AreProperContents x
contents_proper x (made.of_data {n = n} {xs = xs} s are) = (size_proper n s, data_proper xs are)
contents_proper x (made.of_org h) = h
contents_proper x (made.of_res h) = h
contents_proper x (made.of_fit h) = h
contents_proper x (made.of_instruction {i = i} h) = instruction_proper i h

something_there : (x : Contents) (b : Bool) → IsContents proper_facts x → IsTrue (not (b && is_empty x))
something_there x false h = refl
something_there x true (made.of_data s are) = refl
something_there x true (made.of_org h) = refl
something_there x true (made.of_res h) = refl
something_there x true (made.of_fit h) = refl
something_there x true (made.of_instruction h) = refl

line_proper : (x : Line) → IsLine proper_facts x → IsProperLine x
line_proper x (made.label_alone {n = n} is) = record { label = label_proper n is; contents = tt; something = refl }
line_proper x (made.with_contents {l = l} {x = c} is h) = record { label = there label_proper l is; contents = contents_proper c h; something = something_there c (is_nothing l) h }

got : {o : Option (Option Line)} {x : Line} → Has (IfThere (IsLine proper_facts)) o → o ≡ Some (Some x) → IsLine proper_facts x
got {x = x} h e = let same : h.value ≡ Some x = (let z = sym h.is ∙ e in cc) in subst (IfThere (IsLine proper_facts)) same h.good

pub head_proper : LinesAreProper state.DatHead
head_proper row ts x r a e = line_proper x (got (from_head proper_facts row ts r (known row a)) e)

pub lines_proper : LinesAreProper state.DatLine
lines_proper row ts x r a e = line_proper x (got (from_line proper_facts row ts r (known row a)) e)
