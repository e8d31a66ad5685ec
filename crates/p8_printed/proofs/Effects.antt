-- Effects after an instruction's operands, read back.
use Rattle.std.proofs.Common.{◌≡◌, ℕ, List, [], ◌∷◌, ◌++◌, map, Option, Some, Bool, true, false, All, refl, sym, ap, subst}
use Rattle.std.specs.Prelude.{IsTrue, if◌then◌else◌}
use Rattle.std.proofs.lemmas.List.Elements.{All-nil, All-cons}
use Rattle.p8_tree.specs.declared.places.Place.{Place}
use Rattle.p8_tree.specs.Expressions.{Tree}
use Rattle.p8_tree.specs.Sources.{Instruction}
use Rattle.p8_lexer.specs.declared.word.Word.{Word}
use Rattle.p8_lexer.specs.declared.word.Word.TheVariants as word
use Rattle.p8_lines.specs.declared.sign.Sign.TheVariants as sign
use Rattle.p8_lines.specs.declared.arrow.Arrow.{Arrow}
use Rattle.p8_lines.specs.declared.state.LineState.{LineState}
use Rattle.p8_lines.specs.declared.state.LineState.TheVariants as state
use Rattle.p8_lines.specs.Signs.{is_flag}
use Rattle.p8_lines.specs.Diagram.{◌⇒◌, any, choices}
use Rattle.p8_lines.specs.Tokens as tokens
use Rattle.p8_lines.specs.Tokens.{LineToken, piece}
use Rattle.p8_lines.proofs.Matching.{target}
use Rattle.p8_declarations.specs.DataParts.{Part, effect, part_of_word, part_of_piece}
use Rattle.p8_declarations.specs.Lines.{effects, behind_destination, operands}
use Rattle.p8_print.specs.Spelled.{Spelled, reserved, is_free}
use Rattle.p8_print.specs.DataWords.{words_of_effects}
use Rattle.p8_printed.proofs.Made.{effects_number, IsEffects, some_effects, IsFlags, some_flags, sixteen, made}
use Rattle.p8_blocks.proofs.Closed.{halves}
use Rattle.p8_blocks.proofs.DataWords.{plain_part}
use Rattle.p8_printed.proofs.RowSteps.{unlabelled_end}
use Rattle.p8_printed.proofs.Going.{AreEnded, Going, by_arrow, ends_here, on_word, at_end, so}

-- the words of effects

abbrev chosen : Bool → Word → List Word
chosen b w = if b then w ∷ [] else []

abbrev effect_words : Bool → Bool → Bool → Bool → List Word
effect_words z c w n = chosen z word.Wz ++ (chosen c word.Wc ++ (chosen w word.Wr ++ chosen n word.Nr))

are_words : (z c w n : Bool) → words_of_effects (effects_number z c w n) ≡ map reserved (effect_words z c w n)
are_words = sixteen (λ z c w n. words_of_effects (effects_number z c w n) ≡ map reserved (effect_words z c w n)) (refl, refl, refl, refl, refl, refl, refl, refl, refl, refl, refl, refl, refl, refl, refl, refl)

abbrev is_effect_word : Word → Bool
is_effect_word word.Wz = true
is_effect_word word.Wc = true
is_effect_word word.Wr = true
is_effect_word word.Nr = true
is_effect_word w = false

abbrev all_are : (Word → Bool) → List Word → Bool
all_are class [] = true
all_are class (w ∷ ws) = if class w then all_are class ws else false

all_effects : (z c w n : Bool) → IsTrue (all_are is_effect_word (effect_words z c w n))
all_effects = sixteen (λ z c w n. IsTrue (all_are is_effect_word (effect_words z c w n))) (refl, refl, refl, refl, refl, refl, refl, refl, refl, refl, refl, refl, refl, refl, refl, refl)

all_flags : (z c : Bool) → IsTrue (all_are is_flag (effect_words z c false false))
all_flags true true = refl
all_flags true false = refl
all_flags false true = refl
all_flags false false = refl

abbrev effect_part : Word → Part
effect_part word.Wz = effect 1
effect_part word.Wc = effect 2
effect_part word.Wr = effect 4
effect_part w = effect 8

inside : (w : Word) → ends_here (effect_part w) ≡ false
inside word.Wz = refl
inside w = refl

part_of_effect : (t : LineToken) (w : Word) → IsTrue (is_effect_word w) → tokens.word t ≡ w → part_of_piece (piece t) ≡ effect_part w
unfolding part_of_word
part_of_effect t word.Wz h m = plain_part t word.Wz refl m
part_of_effect t word.Wc h m = plain_part t word.Wc refl m
part_of_effect t word.Wr h m = plain_part t word.Wr refl m
part_of_effect t word.Nr h m = plain_part t word.Nr refl m
part_of_effect t w h m = absurd cc

part_of_flag : (t : LineToken) (w : Word) → IsTrue (is_flag w) → tokens.word t ≡ w → part_of_piece (piece t) ≡ effect_part w
part_of_flag t word.Wz h m = part_of_effect t word.Wz refl m
part_of_flag t word.Wc h m = part_of_effect t word.Wc refl m
part_of_flag t w h m = absurd cc

-- What an instruction is with these effects, before which nothing else stands.
pub record HasEffects (f : ℕ) (ps : List Part) : Type 0 where
  pub given : (c : ℕ) (w : Word) (d : Option Tree) (p : Place) (b : Bool) (e : Option Tree) (q : Place) → effects (made c w d p b e q 0) ps ≡ Some (made c w d p b e q f)
  pub behind : (i : Instruction) → behind_destination i ps ≡ effects i ps
  pub alone : (i : Instruction) → operands i ps ≡ effects i ps

value_of : (z c w n : Bool) → HasEffects (effects_number z c w n) (map effect_part (effect_words z c w n))
value_of z c w n = record {
  given = λ k v d p b e q. sixteen (λ z c w n. effects (made k v d p b e q 0) (map effect_part (effect_words z c w n)) ≡ Some (made k v d p b e q (effects_number z c w n))) (refl, refl, refl, refl, refl, refl, refl, refl, refl, refl, refl, refl, refl, refl, refl, refl) z c w n;
  behind = λ i. sixteen (λ z c w n. behind_destination i (map effect_part (effect_words z c w n)) ≡ effects i (map effect_part (effect_words z c w n))) (refl, refl, refl, refl, refl, refl, refl, refl, refl, refl, refl, refl, refl, refl, refl, refl) z c w n;
  alone = λ i. sixteen (λ z c w n. operands i (map effect_part (effect_words z c w n)) ≡ effects i (map effect_part (effect_words z c w n))) (refl, refl, refl, refl, refl, refl, refl, refl, refl, refl, refl, refl, refl, refl, refl, refl) z c w n;
}

-- Words of a class lead from arrows to a state, and from there on to it again, up to the line's end.
module _ (class : Word → Bool) (q : LineState) (part : (t : LineToken) (w : Word) → IsTrue (class w) → tokens.word t ≡ w → part_of_piece (piece t) ≡ effect_part w) (again : (w : Word) (n : ℕ) → IsTrue (class w) → target (choices q).arrows w n ≡ Some q) (over : (n : ℕ) → target (choices q).arrows word.LineEnd n ≡ Some state.End) where
  run : (l : List Arrow) → ((w : Word) (n : ℕ) → IsTrue (class w) → target l w n ≡ Some q) → ((n : ℕ) → target l word.LineEnd n ≡ Some state.End) → (ws : List Word) → IsTrue (all_are class ws) → (ts : List LineToken) → AreEnded (map reserved ws) ts → Going l ts (λ ps. ps ≡ map effect_part ws)
  run l takes ends [] h ts are = at_end l ts are ends refl
  run l takes ends (w ∷ ws) h [] are = absurd are
  run l takes ends (w ∷ ws) h (t ∷ ts) are =
      let y = halves (class w) (all_are class ws) h in
      on_word l t w q (effect_part w) (λ ps. ps ≡ map effect_part (w ∷ ws)) are.0.word (λ n. takes w n y.0) (part t w y.0 are.0.word) (inside w)
      (by_arrow q (unlabelled_end q over) (run (choices q).arrows again over ws y.1 ts are.1)) (λ ps e. ap (λ ps. effect_part w ∷ ps) e)

-- after the operands of an instruction
abbrev pub behind_operands : List Arrow
behind_operands = any sign.Flag state.MoreEffects ∷ any sign.Write state.MoreEffects ∷ word.LineEnd ⇒ state.End ∷ []

-- and of one on main memory
abbrev pub behind_memory : List Arrow
behind_memory = any sign.Flag state.MoreFlags ∷ word.LineEnd ⇒ state.End ∷ []

takes_effect : (w : Word) (n : ℕ) → IsTrue (is_effect_word w) → target behind_operands w n ≡ Some state.MoreEffects
takes_effect word.Wz n h = refl
takes_effect word.Wc n h = refl
takes_effect word.Wr n h = refl
takes_effect word.Nr n h = refl
takes_effect w n h = absurd cc

takes_more : (w : Word) (n : ℕ) → IsTrue (is_effect_word w) → target (choices state.MoreEffects).arrows w n ≡ Some state.MoreEffects
takes_more word.Wz n h = refl
takes_more word.Wc n h = refl
takes_more word.Wr n h = refl
takes_more word.Nr n h = refl
takes_more w n h = absurd cc

takes_flag : (w : Word) (n : ℕ) → IsTrue (is_flag w) → target behind_memory w n ≡ Some state.MoreFlags
takes_flag word.Wz n h = refl
takes_flag word.Wc n h = refl
takes_flag w n h = absurd cc

takes_more_flags : (w : Word) (n : ℕ) → IsTrue (is_flag w) → target (choices state.MoreFlags).arrows w n ≡ Some state.MoreFlags
takes_more_flags word.Wz n h = refl
takes_more_flags word.Wc n h = refl
takes_more_flags w n h = absurd cc

has : (z c w n : Bool) (ps : List Part) → ps ≡ map effect_part (effect_words z c w n) → HasEffects (effects_number z c w n) ps
has z c w n ps e = subst (HasEffects (effects_number z c w n)) (sym e) (value_of z c w n)

-- the words as they are written
spelled_so : (z c w n : Bool) (ts : List LineToken) → AreEnded (words_of_effects (effects_number z c w n)) ts → AreEnded (map reserved (effect_words z c w n)) ts
spelled_so z c w n ts are = subst (λ ws. AreEnded ws ts) (are_words z c w n) are

pub effects_read : (f : ℕ) (ts : List LineToken) → IsEffects f → AreEnded (words_of_effects f) ts → Going behind_operands ts (HasEffects f)
effects_read f ts (some_effects z c w n) are =
    so (run is_effect_word state.MoreEffects part_of_effect takes_more (λ n. refl) behind_operands takes_effect (λ n. refl) (effect_words z c w n) (all_effects z c w n) ts (spelled_so z c w n ts are)) (has z c w n)

pub flags_read : (f : ℕ) (ts : List LineToken) → IsFlags f → AreEnded (words_of_effects f) ts → Going behind_memory ts (HasEffects f)
flags_read f ts (some_flags z c) are =
    so (run is_flag state.MoreFlags part_of_flag takes_more_flags (λ n. refl) behind_memory takes_flag (λ n. refl) (effect_words z c false false) (all_flags z c) ts (spelled_so z c false false ts are)) (has z c false false)

-- What holds of each reserved word holds of those of effects.

not_free : (w : Word) → IsTrue (is_effect_word w) → is_free w ≡ false
not_free word.Wz h = refl
not_free word.Wc h = refl
not_free word.Wr h = refl
not_free word.Nr h = refl
not_free w h = absurd cc

all_reserved : (P : Spelled → Type 0) → ((w : Word) → is_free w ≡ false → P (reserved w)) → (ws : List Word) → IsTrue (all_are is_effect_word ws) → All P (map reserved ws)
all_reserved P each [] h = All-nil P
all_reserved P each (w ∷ ws) h =
    let y = halves (is_effect_word w) (all_are is_effect_word ws) h in
    All-cons P (reserved w) (map reserved ws) (each w (not_free w y.0)) (all_reserved P each ws y.1)

pub effects_all : (P : Spelled → Type 0) → ((w : Word) → is_free w ≡ false → P (reserved w)) → (f : ℕ) → IsEffects f → All P (words_of_effects f)
effects_all P each f (some_effects z c w n) = subst (All P) (sym (are_words z c w n)) (all_reserved P each (effect_words z c w n) (all_effects z c w n))

pub flags_all : (P : Spelled → Type 0) → ((w : Word) → is_free w ≡ false → P (reserved w)) → (f : ℕ) → IsFlags f → All P (words_of_effects f)
flags_all P each f (some_flags z c) = effects_all P each f (some_effects z c false false)
