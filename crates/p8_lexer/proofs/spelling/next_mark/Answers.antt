use Rattle.std.proofs.Common.{◌+◌, sym, subst, arith}
use Rattle.p8_tree.specs.declared.places.Place.{Place}
use Rattle.p8_tree.specs.Places.{PlaceBefore}
use Rattle.p8_lexer.specs.Marks.{LeadsTo}
use Rattle.p8_lexer.proofs.Marking.{leads-on}
use Rattle.p8_lexer.proofs.spelling.next_mark.Goals as goal

pub behind-requires-clause-line : goal.behind-requires-clause-line
behind-requires-clause-line c = let far = c.requires.mark.0.1 in omega (arith, far)

pub behind-requires-clause-counted : goal.behind-requires-clause-counted
behind-requires-clause-counted c = c.requires.mark.0.2

pub behind-requires-clause-column : goal.behind-requires-clause-column
behind-requires-clause-column c = let far = c.requires.mark.0.3 in omega (arith, far)

pub returns-clause-mark : goal.returns-clause-mark
returns-clause-mark c =
    let line = c.requires.mark.0.1 in
    let column = c.requires.mark.0.3 in (
      (omega arith, omega (arith, line), omega arith, omega (arith, column)),
      subst (λ (q : Place). (place : Place) → PlaceBefore q place → LeadsTo c.args.text.now place (record { at = c.args.mark.at + 1; before = c.at-c.result; place = q })) (sym c.behind.ensures.place)
          (leads-on c.args.text.now c.args.mark c.at-c.result c.requires.within c.requires.mark.0.2 c.at-c.ensures c.requires.mark.1),
    )
