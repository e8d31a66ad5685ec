use Rattle.std.proofs.Common.{Some, sym, ap, ◌∙◌, subst}
use Rattle.p8_grammar.specs.Machine.{entered_all, state}
use Rattle.p8_grammar.specs.Views.{setting_of}
use Rattle.p8_expr.specs.Views.{shape_of, frames_in, Grows, IsTallAs}
use Rattle.p8_expr.proofs.Stepping.{past, past_from, fits_there}
use Rattle.p8_expr.proofs.reading.Reader.goes.Goals as goal

pub returns-in-Stays : goal.returns-in-Stays
returns-in-Stays c = λ st o f g e lt.
    let old = c.args.self.now in (
      e ∙ ap (entered_all (setting_of old.ahead.setting) (frames_in old.stack)) (subst (λ x. Grows o f x old.form) c.in-Stays.is g)
          ∙ ap (λ s. Some (state (setting_of s) (shape_of old.form) (frames_in old.stack))) (sym c.advance.ensures.setting_is),
      lt,
      past old.ahead c.advance.new.self c.advance.ensures,
      subst (λ x. IsTallAs x old.form) c.in-Stays.is c.requires.tall,
    )

pub open-requires : goal.open-requires
open-requires c = (subst (λ x. IsTallAs x c.args.self.now.form) c.in-Opens.is c.requires.tall).0

pub advance-requires-in-Opens : goal.advance-requires-in-Opens
advance-requires-in-Opens c = fits_there c.args.self.now.ahead c.open.new.self.ahead c.in_ok-open-in-Opens.ensures.3 c.in_ok-open-in-Opens.ensures.4 c.requires.fits

pub returns-in_ok-open-in-Opens : goal.returns-in_ok-open-in-Opens
returns-in_ok-open-in-Opens c = λ st o f g e lt.
    let old = c.args.self.now in
    let to = c.in_ok-open-in-Opens.ensures in
    let next = c.advance-in-Opens.new.self in
    let b = c.advance-in-Opens.ensures in (
      e ∙ ap (entered_all (setting_of old.ahead.setting) (frames_in old.stack)) (subst (λ x. Grows o f x old.form) c.in-Opens.is g)
          ∙ (λ i. Some (state (sym (ap setting_of b.setting_is ∙ to.0) i) (sym to.1 i) (sym to.2 i))),
      lt,
      past_from old.ahead c.open.new.self.ahead next to.3 b,
      to.5,
    )
