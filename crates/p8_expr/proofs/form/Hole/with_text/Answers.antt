use Rattle.std.proofs.Common.{◌≡◌, ℕ, List, sym, ap, ◌∙◌}
use Rattle.std.specs.Prelude.{min, max}
use Rattle.p8_tree.specs.Expressions.{◌▷◌}
use Rattle.p8_tree.specs.Views.{tree_of, trees_of, items_of}
use Rattle.p8_tree.specs.Bridges.{trees_of-push}
use Rattle.p8_grammar.specs.Lexemes.{string}
use Rattle.p8_grammar.specs.Grammar.{quoted, with_characters}
use Rattle.p8_grammar.specs.Least.{high_in_hole}
use Rattle.p8_grammar.specs.Machine.{on_item}
use Rattle.p8_expr.specs.Views.{hole_at}
use Rattle.p8_expr.specs.Lookaheads.{next_place, next_lexeme, next_text}
use Rattle.p8_expr.proofs.Taking.{quoted_is, no_texts}
use Rattle.p8_expr.proofs.HoleRows.{item_taken, choice_taken, item_high, choices_high}
use Rattle.p8_expr.proofs.form.Hole.with_text.Goals as goal

pub returns-in_ok-push-in-NextItem : goal.returns-in_ok-push-in-NextItem
returns-in_ok-push-in-NextItem c =
    let ahead = c.args.ahead.now in
    let es = trees_of c.in-NextItem.items.items in
    let told : (t : List ℕ) → next_lexeme ahead ≡ string t → trees_of c.push.new.self.items ≡ es ▷ quoted (next_place ahead) t = λ t next. ap trees_of c.in_ok-push-in-NextItem.ensures.items ∙ trees_of-push c.in-NextItem.items.items c.quoted-in-NextItem.result
    ∙ ap (λ e. es ▷ e) (c.quoted-in-NextItem.ensures ∙ (λ j. quoted (c.place-place.ensures j) ((c.in_ok-text.ensures ∙ quoted_is (next_text ahead) ahead.lexeme t c.requires.fits.knows next) j))) in
    record {
      stage = λ t p next more. ap (λ h. on_item (next_place ahead) t (hole_at h p)) c.in-NextItem.is ∙ item_taken (next_place ahead) p.place t es (trees_of c.push.new.self.items) more (told t next);
      tall = λ t p high next more low. low ∙ ap (λ h. min 65 (max (high_in_hole (hole_at h p)) 1)) c.in-NextItem.is
          ∙ ap (min 65) (sym (item_high (next_place ahead) t es (trees_of c.push.new.self.items) (told t next)));
    }

pub returns-in_ok-items-in-Choice : goal.returns-in_ok-items-in-Choice
returns-in_ok-items-in-Choice c =
    let ahead = c.args.ahead.now in
    let a = c.in-Choice in
    let xs = items_of a.items.items in
    let told : (t : List ℕ) → next_lexeme ahead ≡ string t → items_of c.in_ok-items-in-Choice.items.items ≡ with_characters (next_place ahead) t xs = λ t next. c.in_ok-items-in-Choice.ensures
    ∙ (λ j. with_characters (c.place-place.ensures j) ((c.as_slice.ensures ∙ c.in_ok-text.ensures ∙ quoted_is (next_text ahead) ahead.lexeme t c.requires.fits.knows next) j) xs) in
    record {
      stage = λ t p next more. ap (λ h. on_item (next_place ahead) t (hole_at h p)) a.is
          ∙ choice_taken (next_place ahead) p.place p.number (tree_of a.value.value) t xs (items_of c.in_ok-items-in-Choice.items.items) more (told t next);
      tall = λ t p high next more low. low ∙ ap (λ h. min 65 (max (high_in_hole (hole_at h p)) 1)) a.is
          ∙ ap (min 65) (sym (choices_high (next_place ahead) t (tree_of a.value.value) xs (items_of c.in_ok-items-in-Choice.items.items) (told t next)));
    }

pub unreachable-requires : goal.unreachable-requires
unreachable-requires c = no_texts c.args.self c.in_default.not-NextItem c.in_default.not-Choice c.requires.takes
