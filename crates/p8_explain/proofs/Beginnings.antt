-- What a name and a text begin with, where one of them ends.
use Rattle.std.proofs.Common.{◌≡◌, ℕ, ◌<◌, ◌≤◌, false, List, [], length, drop, get_or, ap, ◌∙◌}
use Rattle.std.specs.Prelude.{not}
use Rattle.std.proofs.Math.ListN.{drop_of_length-le}
use Rattle.std.proofs.lemmas.List.{drop_more}
use Rattle.p8_explain.specs.Causes.{is_of_word}
use Rattle.p8_explain.specs.Standing.{begins_with}

-- a text that ends before the name does doesn't begin with it
pub ends_before : (name text : List ℕ) (i : ℕ) → i < length name → length text ≤ i → begins_with (drop i name) (drop i text) ≡ false
ends_before name text i more short =
    ap (λ rest. begins_with (drop i name) rest) (drop_of_length-le text short)
    ∙ ap (λ left. begins_with left []) (drop_more name i 0 more)

-- after the whole name no more of a word may stand
pub ends_name : (name text : List ℕ) (i : ℕ) → length name ≤ i → i < length text → begins_with (drop i name) (drop i text) ≡ not (is_of_word (get_or text i 0))
ends_name name text i read more =
    ap (λ left. begins_with left (drop i text)) (drop_of_length-le name read)
    ∙ ap (λ rest. begins_with [] rest) (drop_more text i 0 more)
