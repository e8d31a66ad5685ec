-- Each item of a line of CON is read back.
use Rattle.std.proofs.Common.{◌≡◌, ℕ, List, [], ◌∷◌, map, Option, Some, None, refl, ap}
use Rattle.std.specs.Prelude.{if◌then◌else◌}
use Rattle.p8_tree.specs.declared.places.Place.{Place}
use Rattle.p8_tree.specs.Expressions.{Tree}
use Rattle.p8_tree.specs.Sources.{Constant}
use Rattle.p8_tree.specs.Forgetting.{anywhere, constant_anywhere}
use Rattle.p8_lexer.specs.declared.word.Word.TheVariants as word_case
use Rattle.p8_grammar.specs.Lexemes.{in_declaration}
use Rattle.p8_lines.specs.declared.state.LineState.TheVariants as state
use Rattle.p8_declarations.specs.Parts.{Part, part_of_word, is_line_end}
use Rattle.p8_declarations.specs.Constants.{setting, constant, constants, constants_of_row}
use Rattle.p8_printed.specs.Rereading.{ReadsBack}
use Rattle.p8_print.specs.DeclarationWords.{words_of_constant}
use Rattle.p8_printed.proofs.Readings.{IsRead, IsName}
use Rattle.p8_printed.proofs.Steps.{Back, ends, a_word, a_name, last, before, reads_back}

-- an item that was read from tokens of a source
pub data IsItem : Constant → Type 0 where
  sets : {p : Place} {e : Tree} → IsRead in_declaration e → IsItem (setting p e)
  alone : {n : List ℕ} {p : Place} → IsName n → IsItem (constant n p None None)
  valued : {n : List ℕ} {p : Place} {e : Tree} → IsName n → IsRead in_declaration e → IsItem (constant n p (Some e) None)
  stepped : {n : List ℕ} {p : Place} {e : Tree} → IsName n → IsRead in_declaration e → IsItem (constant n p None (Some e))

-- what the parts of a line declare
abbrev constants_of_parts : List Part → Option (List Constant)
constants_of_parts ps = if is_line_end ps then Some [] else constants ps

-- parts declare this item alone, but for places
abbrev Declares : Constant → List Part → Type 0
Declares x ps = (xs : List Constant) × (constants_of_parts ps ≡ Some xs) × (map constant_anywhere xs ≡ constant_anywhere x ∷ [])

item_back : (x : Constant) → IsItem x → Back state.ConItem (words_of_constant x) (Declares x)
unfolding part_of_word
item_back _ (sets {e = e} r) =
    a_word state.ConItem state.ConValue refl word_case.Hash refl (λ k. refl)
    (last state.ConValue in_declaration e refl r (λ k. refl) (λ e' same p. (setting p e' ∷ [], refl, ap (λ t. setting anywhere t ∷ []) same)))
item_back _ (alone {n = n} y) =
    a_name state.ConItem state.ConName refl n y (λ k. refl)
    (ends state.ConName (λ k. refl) (λ p. (constant n p None None ∷ [], refl, refl)))
item_back _ (valued {n = n} {e = e} y r) =
    a_name state.ConItem state.ConName refl n y (λ k. refl)
    (a_word state.ConName state.ConValue refl word_case.EqualSign refl (λ k. refl)
    (last state.ConValue in_declaration e refl r (λ k. refl) (λ e' same q p. (constant n p (Some e') None ∷ [], refl, ap (λ t. constant n anywhere (Some t) None ∷ []) same))))
item_back _ (stepped {n = n} {e = e} y r) =
    a_name state.ConItem state.ConName refl n y (λ k. refl)
    (a_word state.ConName state.ConStep refl word_case.LeftBracket refl (λ k. refl)
    (before state.ConStep state.ConMore in_declaration e word_case.RightBracket refl r refl (λ k. refl)
    (ends state.ConMore (λ k. refl) (λ b e' same q p. (constant n p None (Some e') ∷ [], refl, ap (λ t. constant n anywhere None (Some t) ∷ []) same)))))

abbrev pub IsReadBack : Constant → Type 0
IsReadBack x = ReadsBack constants_of_row (map constant_anywhere) state.ConItem (words_of_constant x) (x ∷ [])

pub read_back : (x : Constant) → IsItem x → IsReadBack x
read_back x y = reads_back constants_of_row constants_of_parts (map constant_anywhere) state.ConItem (words_of_constant x) (x ∷ []) (λ row. refl) (item_back x y)
