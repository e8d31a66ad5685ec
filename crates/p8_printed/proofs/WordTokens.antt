-- Tokens that are words, taken apart as the words are.
use Rattle.std.proofs.Common.{◌≡◌, List, [], ◌∷◌, ◌++◌, refl, sym, ap, ap₂, ◌∙◌, subst}
use Rattle.std.specs.Prelude.{All}
use Rattle.std.proofs.lemmas.List.Elements.{All-nil, All-cons, All-head, All-tail}
use Rattle.p8_tree.specs.declared.places.Place.{Place}
use Rattle.p8_grammar.specs.Lexemes.{Lexeme, Token, token}
use Rattle.p8_print.specs.Spelled.{Spelled}
use Rattle.p8_grammar.specs.Proper.{lexeme_in}
use Rattle.p8_printed.specs.Lexemes.{lexeme_of_spelled, AreWords}
use Rattle.p8_printed.proofs.TableWords.{Prints}

pub none_left : (us : List Token) → AreWords us [] → us ≡ []
none_left [] h = refl
none_left (u ∷ us) h = absurd cc

-- the first token
pub record First (us : List Token) (x : Lexeme) (rest : List Spelled) : Type 0 where
  pub place : Place
  pub others : List Token
  pub is : us ≡ token place x ∷ others
  pub words : AreWords others rest

pub next_word : (us : List Token) (w : Spelled) (rest : List Spelled) → AreWords us (w ∷ rest) → First us (lexeme_of_spelled w) rest
next_word [] w rest h = absurd cc
next_word (token p y ∷ us) w rest h =
    let first : y ≡ lexeme_of_spelled w = cc in
    let words : AreWords us rest = cc in
    record { place = p; others = us; is = ap (λ z. token p z ∷ us) first; words = words }

pub first_word : (us : List Token) (w : Spelled) (x : Lexeme) (rest : List Spelled) → Prints w x → AreWords us (w ∷ rest) → First us x rest
first_word us w x rest pr h = subst (λ x. First us x rest) pr.is (next_word us w rest h)

pub record Split (us : List Token) (xs ys : List Spelled) : Type 0 where
  pub left : List Token
  pub right : List Token
  pub is : us ≡ left ++ right
  pub words_left : AreWords left xs
  pub words_right : AreWords right ys

pub split_words : (us : List Token) (xs ys : List Spelled) → AreWords us (xs ++ ys) → Split us xs ys
split_words us [] ys h = record { left = []; right = us; is = refl; words_left = refl; words_right = h }
split_words [] (x ∷ xs) ys h = absurd cc
split_words (u ∷ us) (x ∷ xs) ys h =
    let first : lexeme_in u ≡ lexeme_of_spelled x = cc in
    let words : AreWords us (xs ++ ys) = cc in
    one_more u us x xs ys first (split_words us xs ys words)
  where
    one_more : (u : Token) (us : List Token) (x : Spelled) (xs ys : List Spelled) → lexeme_in u ≡ lexeme_of_spelled x → Split us xs ys → Split (u ∷ us) (x ∷ xs) ys
    one_more u us x xs ys first r =
        record { left = u ∷ r.left; right = r.right; is = ap (λ ts. u ∷ ts) r.is; words_left = ap₂ (λ y ys. y ∷ ys) first r.words_left; words_right = r.words_right }

-- the last token
pub record Last (us : List Token) (xs : List Spelled) (x : Lexeme) : Type 0 where
  pub left : List Token
  pub place : Place
  pub is : us ≡ left ++ token place x ∷ []
  pub words : AreWords left xs

pub final_word : (us : List Token) (xs : List Spelled) (w : Spelled) → AreWords us (xs ++ w ∷ []) → Last us xs (lexeme_of_spelled w)
final_word us xs w h =
    let y = split_words us xs (w ∷ []) h in
    let z = next_word y.right w [] y.words_right in
    record {
      left = y.left;
      place = z.place;
      is = y.is ∙ ap (λ ts. y.left ++ ts) (z.is ∙ ap (λ ts. token z.place (lexeme_of_spelled w) ∷ ts) (none_left z.others z.words));
      words = y.words_left;
    }

pub last_word : (us : List Token) (xs : List Spelled) (w : Spelled) (x : Lexeme) → Prints w x → AreWords us (xs ++ w ∷ []) → Last us xs x
last_word us xs w x pr h = subst (λ x. Last us xs x) pr.is (final_word us xs w h)

-- what holds of all elements holds of those of both parts
module _ {X : Type 0} (P : X → Type 0) where
  pub all_left : (xs ys : List X) → All P (xs ++ ys) → All P xs
  all_left [] ys h = All-nil P
  all_left (x ∷ xs) ys h = All-cons P x xs (All-head P x (xs ++ ys) h) (all_left xs ys (All-tail P x (xs ++ ys) h))

  pub all_right : (xs ys : List X) → All P (xs ++ ys) → All P ys
  all_right [] ys h = h
  all_right (x ∷ xs) ys h = all_right xs ys (All-tail P x (xs ++ ys) h)

  pub all_same : {xs ys : List X} → xs ≡ ys → All P ys → All P xs
  all_same e h = subst (All P) (sym e) h
