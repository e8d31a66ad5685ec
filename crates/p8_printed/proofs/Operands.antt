-- The operands of an instruction and its effects, read back.
use Rattle.std.proofs.Common.{◌≡◌, ℕ, List, [], ◌∷◌, ◌++◌, Option, Some, None, Bool, true, false, refl, ◌∙◌, subst, append-nil}
use Rattle.p8_tree.specs.declared.places.Place.{Place}
use Rattle.p8_tree.specs.Expressions.{Tree}
use Rattle.p8_tree.specs.Forgetting.{IsSameTree}
use Rattle.p8_tree.specs.Sources.{Instruction}
use Rattle.p8_lexer.specs.declared.word.Word.{Word}
use Rattle.p8_lexer.specs.declared.word.Word.TheVariants as word
use Rattle.p8_grammar.specs.Lexemes.{in_dat}
use Rattle.p8_lines.specs.declared.arrow.Arrow.{Arrow}
use Rattle.p8_lines.specs.declared.state.LineState.{LineState}
use Rattle.p8_lines.specs.declared.state.LineState.TheVariants as state
use Rattle.p8_lines.specs.Diagram.{◌⇒◌, outer, choices}
use Rattle.p8_lines.specs.Tokens as tokens
use Rattle.p8_lines.specs.Tokens.{LineToken, piece}
use Rattle.p8_lines.proofs.Matching.{target}
use Rattle.p8_declarations.specs.DataParts.{Part, hash, comma, colon, name, part_of_word, part_of_piece}
use Rattle.p8_declarations.specs.Lines.{local, behind_destination, operands, source, behind_hash, label}
use Rattle.p8_print.specs.Spelled as spelled
use Rattle.p8_print.specs.Spelled.{reserved}
use Rattle.p8_print.specs.Wording.{words_of_name, wrapped}
use Rattle.p8_print.specs.DataWords.{source_with, words_of_effects}
use Rattle.p8_printed.proofs.Readings.{IsRead}
use Rattle.p8_printed.proofs.Made.{IsLabel, plain, behind_colon, IsEffects, IsFlags, made}
use Rattle.p8_blocks.proofs.DataWords.{plain_part}
use Rattle.p8_printed.proofs.DataNames.{part_of_name, name_words}
use Rattle.p8_printed.proofs.Going.{AreEnded, Leading, Going, by_arrow, with_phrase, by_label, on_word, tree_read, behind_tree}
use Rattle.p8_printed.proofs.Effects.{HasEffects, behind_operands, behind_memory, effects_read, flags_read}

pub hash_part : (t : LineToken) → tokens.word t ≡ word.Hash → part_of_piece (piece t) ≡ hash
unfolding part_of_word
hash_part t m = plain_part t word.Hash refl m

pub comma_part : (t : LineToken) → tokens.word t ≡ word.Comma → part_of_piece (piece t) ≡ comma
unfolding part_of_word
comma_part t m = plain_part t word.Comma refl m

pub colon_part : (t : LineToken) → tokens.word t ≡ word.Colon → part_of_piece (piece t) ≡ colon t.place
unfolding part_of_word
colon_part t m = plain_part t word.Colon refl m

-- what stands for an instruction, of which the condition, the word and a destination were read
pub record HasSource (b : Bool) (e : Tree) (f : ℕ) (read : Instruction → List Part → Option Instruction) (ps : List Part) : Type 0 where
  pub other : Tree
  pub place : Place
  pub same : IsSameTree other e
  pub given : (c : ℕ) (w : Word) (d : Option Tree) (p q : Place) → read (made c w d p false None q 0) ps ≡ Some (made c w d p b (Some other) place f)

-- an expression and effects after it
abbrev pub ReadsEffects : (ℕ → Type 0) → List Arrow → Type 0
ReadsEffects E l = (f : ℕ) (ts : List LineToken) → E f → AreEnded (words_of_effects f) ts → Going l ts (HasEffects f)

module _ (E : ℕ → Type 0) (l : List Arrow) (reads : ReadsEffects E l) where
  value_read : (v : LineState) → (choices v).phrase ≡ Some (outer in_dat l) → (e : Tree) (f : ℕ) (ts : List LineToken) → IsRead in_dat e → E f → AreEnded (wrapped e ++ words_of_effects f) ts → Leading v ts (HasSource true e f behind_hash)
  value_read v some e f ts was ef are =
      let y = tree_read in_dat e (words_of_effects f) ts was are in
      behind_tree v in_dat l (HasSource true e f behind_hash) some y (reads f y.right ef y.rest)
      (λ ps k. record { other = y.other; place = y.first.place; same = y.same; given = λ c w d p q. k.given c w d p true (Some y.other) y.first.place })

  source_read : (q v : LineState) → (choices q).phrase ≡ Some (outer in_dat l) → (choices v).phrase ≡ Some (outer in_dat l) → ((n : ℕ) → target (choices q).arrows word.Hash n ≡ Some v) → (b : Bool) (e : Tree) (f : ℕ) (ts : List LineToken) → IsRead in_dat e → E f → AreEnded (source_with false b e ++ words_of_effects f) ts → Leading q ts (HasSource b e f source)
  source_read q v some value goes false e f ts was ef are =
      let y = tree_read in_dat e (words_of_effects f) ts was are in
      behind_tree q in_dat l (HasSource false e f source) some y (reads f y.right ef y.rest)
      (λ ps k. record { other = y.other; place = y.first.place; same = y.same; given = λ c w d p q. k.given c w d p false (Some y.other) y.first.place })
  source_read q v some value goes true e f [] was ef are = absurd are
  source_read q v some value goes true e f (t ∷ ts) was ef are =
      by_arrow q (with_phrase q some) (on_word (choices q).arrows t word.Hash v hash (HasSource true e f source) are.0.word goes (hash_part t are.0.word) refl (value_read v value e f ts was ef are.1)
      (λ ps k. record { other = k.other; place = k.place; same = k.same; given = k.given }))

-- a destination and a source
pub record HasBoth (d : Tree) (b : Bool) (e : Tree) (f : ℕ) (ps : List Part) : Type 0 where
  pub first : Tree
  pub first_place : Place
  pub first_same : IsSameTree first d
  pub second : Tree
  pub second_place : Place
  pub second_same : IsSameTree second e
  pub given : (c : ℕ) (w : Word) (p q : Place) → operands (made c w None p false None q 0) ps ≡ Some (made c w (Some first) first_place b (Some second) second_place f)

-- the second of two operands, after its comma
abbrev HasSecond : Bool → Tree → ℕ → List Part → Type 0
HasSecond b e f ps = HasSource b e f behind_destination ps

both_read : (q r : LineState) → (choices q).phrase ≡ Some (outer in_dat (word.Comma ⇒ r ∷ [])) → (d : Tree) (b : Bool) (e : Tree) (f : ℕ) (ts : List LineToken) → IsRead in_dat d → AreEnded (wrapped d ++ reserved word.Comma ∷ (source_with false b e ++ words_of_effects f)) ts → ((us : List LineToken) → AreEnded (source_with false b e ++ words_of_effects f) us → Leading r us (HasSource b e f source)) → Leading q ts (HasBoth d b e f)
both_read q r some d b e f ts was are next =
    let y = tree_read in_dat d (reserved word.Comma ∷ (source_with false b e ++ words_of_effects f)) ts was are in
    behind_tree q in_dat (word.Comma ⇒ r ∷ []) (HasBoth d b e f) some y (behind y.right y.rest)
    (λ ps k. record { first = y.other; first_place = y.first.place; first_same = y.same; second = k.other; second_place = k.place; second_same = k.same; given = λ c w p q. k.given c w (Some y.other) y.first.place q })
  where
    behind : (us : List LineToken) → AreEnded (reserved word.Comma ∷ (source_with false b e ++ words_of_effects f)) us → Going (word.Comma ⇒ r ∷ []) us (HasSecond b e f)
    behind [] are = absurd are
    behind (t ∷ us) are = on_word (word.Comma ⇒ r ∷ []) t word.Comma r comma (HasSecond b e f) are.0.word (λ n. refl) (comma_part t are.0.word) refl (next us are.1) (λ ps k. record { other = k.other; place = k.place; same = k.same; given = k.given })

pub plain_source : (b : Bool) (e : Tree) (f : ℕ) (ts : List LineToken) → IsRead in_dat e → IsEffects f → AreEnded (source_with false b e ++ words_of_effects f) ts → Leading state.Source ts (HasSource b e f source)
plain_source b e f ts was ef are = source_read IsEffects behind_operands effects_read state.Source state.SourceValue refl refl (λ n. refl) b e f ts was ef are

pub two_read : (d : Tree) (b : Bool) (e : Tree) (f : ℕ) (ts : List LineToken) → IsRead in_dat d → IsRead in_dat e → IsEffects f → AreEnded (wrapped d ++ reserved word.Comma ∷ (source_with false b e ++ words_of_effects f)) ts → Leading state.Destination ts (HasBoth d b e f)
two_read d b e f ts wd we ef are = both_read state.Destination state.Source refl d b e f ts wd are (λ us are. plain_source b e f us we ef are)

pub memory_read : (d : Tree) (b : Bool) (e : Tree) (f : ℕ) (ts : List LineToken) → IsRead in_dat d → IsRead in_dat e → IsFlags f → AreEnded (wrapped d ++ reserved word.Comma ∷ (source_with false b e ++ words_of_effects f)) ts → Leading state.MemoryDestination ts (HasBoth d b e f)
memory_read d b e f ts wd we ef are = both_read state.MemoryDestination state.MemorySource refl d b e f ts wd are (λ us are. source_read IsFlags behind_memory flags_read state.MemorySource state.MemorySourceValue refl refl (λ n. refl) b e f us we ef are)

-- a destination alone
pub record HasOne (d : Tree) (f : ℕ) (ps : List Part) : Type 0 where
  pub other : Tree
  pub place : Place
  pub same : IsSameTree other d
  pub given : (c : ℕ) (w : Word) (p q : Place) → operands (made c w None p false None q 0) ps ≡ Some (made c w (Some other) place false None q f)

pub one_read : (d : Tree) (f : ℕ) (ts : List LineToken) → IsRead in_dat d → IsEffects f → AreEnded (wrapped d ++ words_of_effects f) ts → Leading state.OnlyDestination ts (HasOne d f)
one_read d f ts was ef are =
    let y = tree_read in_dat d (words_of_effects f) ts was are in
    behind_tree state.OnlyDestination in_dat behind_operands (HasOne d f) refl y (effects_read f y.right ef y.rest)
    (λ ps k. record { other = y.other; place = y.first.place; same = y.same; given = λ c w p q. k.behind (made c w (Some y.other) y.first.place false None q 0) ∙ k.given c w (Some y.other) y.first.place false None q })

-- effects alone
pub record HasNone (f : ℕ) (ps : List Part) : Type 0 where
  pub given : (c : ℕ) (w : Word) (p q : Place) → operands (made c w None p false None q 0) ps ≡ Some (made c w None p false None q f)

pub none_read : (f : ℕ) (ts : List LineToken) → IsEffects f → AreEnded (words_of_effects f) ts → Leading state.Effects ts (HasNone f)
none_read f ts ef are =
    let y = by_arrow state.Effects refl (effects_read f ts ef are) in
    record { row = y.row; leads = y.leads; value = record { given = λ c w p q. y.value.alone (made c w None p false None q 0) ∙ y.value.given c w None p false None q } }

-- a label that is called
pub record HasLabel (n : List ℕ) (f : ℕ) (read : Instruction → List Part → Option Instruction) (ps : List Part) : Type 0 where
  pub place : Place
  pub given : (c : ℕ) (w : Word) (p q : Place) → read (made c w None p false None q 0) ps ≡ Some (made c w None p true (Some (label n place)) place f)

-- effects after a label
effects_behind : (f : ℕ) (ts : List LineToken) → IsEffects f → AreEnded (words_of_effects f) ts → Leading state.Effects ts (HasEffects f)
effects_behind f ts ef are = by_arrow state.Effects refl (effects_read f ts ef are)

label_read : (n : List ℕ) (f : ℕ) (ts : List LineToken) → IsLabel n → IsEffects f → AreEnded (words_of_name n ++ words_of_effects f) ts → Leading state.CallLabel ts (HasLabel n f behind_hash)
label_read n f ts (plain is) ef are = go ts (subst (λ ws. AreEnded (ws ++ words_of_effects f) ts) (name_words n is) are)
  where
    go : (ts : List LineToken) → AreEnded (spelled.name n ∷ words_of_effects f) ts → Leading state.CallLabel ts (HasLabel n f behind_hash)
    go [] are = absurd are
    go (t ∷ ts) are =
        by_arrow state.CallLabel refl (on_word (choices state.CallLabel).arrows t word.Name state.Effects (name n t.place) (HasLabel n f behind_hash) are.0.word (λ m. refl) (part_of_name n t is are.0) refl (effects_behind f ts ef are.1)
        (λ ps k. record { place = t.place; given = λ c w p q. k.given c w None p true (Some (label n t.place)) t.place }))
label_read n f [] (behind_colon is) ef are = absurd are
label_read n f (t ∷ []) (behind_colon is) ef are = absurd are.1
label_read n f (t ∷ u ∷ ts) (behind_colon {n = m} is) ef are =
    let name_goes : Leading state.CallLocal (u ∷ ts) (λ ps. HasLabel (local m) f behind_hash (colon t.place ∷ ps))
    = by_label state.CallLocal state.Effects refl refl m u (λ ps. HasLabel (local m) f behind_hash (colon t.place ∷ ps)) is are.1.0 (effects_behind f ts ef are.1.1)
    (λ ps k. record { place = t.place; given = λ c w p q. k.given c w None p true (Some (label (local m) t.place)) t.place }) in
    by_arrow state.CallLabel refl (on_word (choices state.CallLabel).arrows t word.Colon state.CallLocal (colon t.place) (HasLabel (local m) f behind_hash) are.0.word (λ m. refl) (colon_part t are.0.word) refl name_goes (λ ps k. k))

pub call_read : (n : List ℕ) (p : Place) (f : ℕ) (ts : List LineToken) → IsLabel n → IsEffects f → AreEnded (source_with true true (label n p) ++ words_of_effects f) ts → Leading state.CallHash ts (HasLabel n f operands)
call_read n p f [] is ef are = absurd are
call_read n p f (t ∷ ts) is ef are =
    let words = subst (λ ws. AreEnded (ws ++ words_of_effects f) ts) (append-nil (words_of_name n)) are.1 in
    by_arrow state.CallHash refl (on_word (choices state.CallHash).arrows t word.Hash state.CallLabel hash (HasLabel n f operands) are.0.word (λ m. refl) (hash_part t are.0.word) refl (label_read n f ts is ef words)
    (λ ps k. record { place = k.place; given = k.given }))
