use Rattle.std.proofs.Common.{◌≡◌, ◌∙◌, ◌++◌, ◌+◌, ◌<◌, ◌≤◌, ◌∷◌, drop, length, refl, ap, sym, subst, append-nil, arith}
use Rattle.std.specs.Prelude.{nat_lt}
use Rattle.std.proofs.lemmas.List.{drop_more, drop_all}
use Rattle.p8_tree.specs.declared.places.Place.{Place}
use Rattle.p8_lexer.specs.Places.{start}
use Rattle.p8_explain.specs.Explaining.{cell, line_from}
use Rattle.p8_hint.specs.declared.lines.Lines.{Lines}
use Rattle.p8_hint.specs.Shown.{items_of, line_in}
use Rattle.p8_hint.proofs.Lined.{behind_line, line_next, lines_over, lines_done, ended_or_not}
use Rattle.p8_hint.proofs.lines.lines_of.Goals as goal

pub loop-i-preserved : goal.loop-i-preserved
loop-i-preserved c =
    let text = c.args.text.now in
    let i = c.loop-i.i in
    let ch = c.at-c.result in
    let place = c.loop-i.place in
    let next = c.behind-next.result in
    let rest = drop (i + 1) text in
    let ls = items_of c.loop-i.all.lines.items in
    let last = c.loop-i.all.last.items in
    let middle : Lines = record { lines = c.loop-i.all.lines; last = c.push_cell.new.out } in
    let ends = nat_lt place.line next.line in
    let within : i < length text = omega arith in
    let here : drop i text ≡ ch ∷ rest = drop_more text i 0 within ∙ ap (λ k. k ∷ rest) (sym c.at-c.ensures) in
    let further : place.line ≤ next.line = subst (λ (q : Place). place.line ≤ q.line) (sym c.behind-next.ensures.place) (behind_line c.loop-i.before place ch) in
    record {
      text = λ n.
          ap (λ m. m ++ line_from (n + 1) ch next rest) (ended_or_not ends middle c.end_line.new.all c.in_ok-end_line.ensures n ∙ ap (λ l. line_in ls l n) c.in_ok-push_cell.ensures)
          ∙ ap (λ q. line_in ls (last ++ cell place ch) n ++ line_from (n + 1) ch q rest) c.behind-next.ensures.place
          ∙ line_next ls last rest (line_from (n + 1) 0 start text) c.loop-i.before place ch n c.loop-i.invariant.over
          (ap (λ t. line_in ls last n ++ line_from (n + 1) c.loop-i.before place t) (sym here) ∙ c.loop-i.invariant.text n);
      over = lines_over ends middle c.end_line.new.all place.line next.line c.in_ok-end_line.ensures refl further c.behind-next.ensures.line c.loop-i.invariant.over;
      line = omega (arith, c.behind-next.ensures.line, c.loop-i.invariant.line);
      counted = c.behind-next.ensures.counted;
      column = omega (arith, c.behind-next.ensures.column, c.loop-i.invariant.column);
    }

pub returns : goal.returns
returns c =
    let text = c.args.text.now in
    let all = c.loop-i.all in
    lines_done all text (λ n.
    sym (append-nil (line_in (items_of all.lines.items) all.last.items n))
    ∙ ap (λ t. line_in (items_of all.lines.items) all.last.items n ++ line_from (n + 1) c.loop-i.before c.loop-i.place t) (sym (drop_all c.loop-i.i text (omega arith)))
    ∙ c.loop-i.invariant.text n)
