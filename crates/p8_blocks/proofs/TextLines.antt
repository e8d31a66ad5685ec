-- Where the line of the text at hand begins is told by the tokens.
use Rattle.std.proofs.Common.{◌≡◌, List, [], ◌∷◌, ◌++◌, Option, Some, None, Bool, true, false, refl, sym, ap, ◌∙◌}
use Rattle.std.specs.Prelude.{if◌then◌else◌, unwrap_or}
use Rattle.p8_tree.specs.declared.places.Place.{Place}
use Rattle.p8_lexer.specs.declared.word.Word.TheVariants as word_case
use Rattle.p8_lines.specs.Tokens.{LineToken, word}
use Rattle.p8_blocks.specs.Reading as reading
use Rattle.p8_blocks.specs.Reading.{Position, start, is_begun, begin, begun_by, Step, Goes, stay, go_on}
use Rattle.p8_blocks.specs.Files.{any_height, within_limits, is_item, EndsLine, nothing, line_end}
use Rattle.p8_blocks.specs.Refusals.{is_line_end, begun_with, begun_from}
use Rattle.p8_blocks.proofs.Walks.{Progress, Line, line_any, Walk, walk_any}
use Rattle.p8_blocks.proofs.Runs.{takes_some}
use Rattle.p8_blocks.proofs.Going.{gone, Stepped, stepped, begun_behind}
use Rattle.p8_blocks.proofs.Stopping.{AllValues}
use Rattle.p8_blocks.proofs.Limits.{line_ends, item_line}
use Rattle.p8_blocks.proofs.Inside as inside
use Rattle.p8_blocks.proofs.Inside.{NoneOf, in_item_row}

begun_append : (o : Option Place) (xs ys : List LineToken) → begun_from o (xs ++ ys) ≡ begun_from (begun_from o xs) ys
begun_append o [] ys = refl
begun_append o (x ∷ xs) ys = begun_append (begun_with o x) xs ys

-- the end of a line
over : (o : Option Place) (us : List LineToken) (t : LineToken) → word t ≡ word_case.LineEnd → begun_from o (us ++ t ∷ []) ≡ None
over o us t e = begun_append o us (t ∷ []) ∙ ap (λ w. if is_line_end w then None else Some (unwrap_or (begun_from o us) t.place)) e

ended : (o : Option Place) {us : List LineToken} (t : LineToken) (ts : List LineToken) → us ≡ t ∷ ts → EndsLine us → begun_from o us ≡ None
ended o t ts e nothing = absurd cc
ended o t ts e (line_end us u h) = over o us u h

-- no end of a line
kept : (p : Place) {ts : List LineToken} → NoneOf is_line_end ts → begun_from (Some p) ts ≡ Some p
kept p inside.none = refl
kept p (inside.another {t = t} {ts = ts} e x) = ap (λ b. begun_from (if b then None else Some p) ts) e ∙ kept p x

begins : (o : Option Place) (t : LineToken) (ts : List LineToken) → NoneOf is_line_end (t ∷ ts) → begun_from o (t ∷ ts) ≡ Some (unwrap_or o t.place)
begins o t ts (inside.another e x) = ap (λ b. begun_from (if b then None else Some (unwrap_or o t.place)) ts) e ∙ kept (unwrap_or o t.place) x

module _ (all : AllValues) where
  line_over : {x y : Progress} {us : List LineToken} (o : Option Place) → Line any_height x us y → y.1 ≡ false → begun_from o us ≡ None
  line_over o l e = let f = takes_some l in ended o f.0 f.1 f.2 (line_ends all l e [])

  step_begun : {x y : Position} {us rest : List LineToken} (ts : List LineToken) → Walk any_height (x.parts, is_begun x.begun) ts → Step x us y rest → (z : Stepped x us y rest) → begun_from x.begun z.tokens ≡ y.begun
  step_begun {x} ts w (reading.blank e) z = line_over x.begun (line_any within_limits z.line) refl
  step_begun {x} ts w (reading.head i o) z = line_over x.begun (line_any within_limits z.line) refl
  step_begun {x} ts w (reading.declaration n i d) z = line_over x.begun (line_any within_limits z.line) refl
  step_begun {x} {rest = rest} ts w (reading.method_line {b = c} {t = u} {ts = us} {k = k} n i e l d r) z = go (is_item k) refl
    where
      as_begun : (o : Option Place) → begun_by k c u ≡ o → begun_from c z.tokens ≡ o → begun_from c z.tokens ≡ begun_by k c u
      as_begun o f h = h ∙ sym f

      go : (i : Bool) → is_item k ≡ i → begun_from c z.tokens ≡ begun_by k c u
      go false f = as_begun None (ap (λ i. if i then Some (begin c u) else None) f) (line_over c (line_any within_limits z.line) (begun_behind k c u ∙ f))
      go true f =
          let y = item_line all w (line_any within_limits z.line) (begun_behind k c u ∙ f) in
          let split : u ∷ us ≡ y.first ∷ (y.others ++ rest) = z.split ∙ ap (λ l. l ++ rest) y.are in
          let same : y.first ≡ u = cc in
          as_begun (Some (begin c u)) (ap (λ i. if i then Some (begin c u) else None) f)
          (ap (begun_from c) y.are ∙ begins c y.first y.others (in_item_row y.is refl) ∙ ap (λ t. Some (unwrap_or c t.place)) same)

  pub lines_begun : {y : Position} {ts rest : List LineToken} (g : Goes start ts y rest) → begun_from None (gone all.kinds g).tokens ≡ y.begun
  unfolding gone
  lines_begun stay = refl
  lines_begun (go_on g s) =
      let x = gone all.kinds g in
      let z = stepped all.kinds s in
      begun_append None x.tokens z.tokens ∙ ap (λ o. begun_from o z.tokens) (lines_begun g) ∙ step_begun x.tokens (walk_any within_limits x.walk) s z
