use Rattle.std.proofs.Common.{true, false, refl, ap, subst}
use Rattle.p8_grammar.specs.Least.{least}
use Rattle.p8_grammar.specs.Machine.{tree}
use Rattle.p8_grammar.specs.Views.{setting_of}
use Rattle.p8_expr.specs.Views.{shape_of, frames_in, Gives, IsHighIn}
use Rattle.p8_expr.specs.Lookaheads.{next_place, next_word}
use Rattle.p8_expr.specs.Reading.{state_of, Takes}
use Rattle.p8_expr.proofs.Taking.{inner_stops, read_string, string_stage, no_tree_accepts}
use Rattle.p8_expr.proofs.Stepping.{takes_turn, breaks_turn}
use Rattle.p8_expr.proofs.reading.Reader.beyond.Goals as goal

pub returns-then-branch : goal.returns-then-branch
returns-then-branch c =
    let old = c.args.self.now in
    takes_turn (least (state_of old)) (state_of old) old.ahead c.character.new.self (subst (λ b. Takes (state_of old) old.ahead b c.character.new.self) c.if-branch.true c.in_ok-character-in-StringRead.ensures)

pub returns-else-branch : goal.returns-else-branch
returns-else-branch c =
    let old = c.args.self.now in
    breaks_turn (least (state_of old)) (state_of old) old.ahead old c.at-at.result c.args.low c.at-at.ensures c.requires.fits (subst (λ b. Takes (state_of old) old.ahead b c.character.new.self) c.if-branch.false c.in_ok-character-in-StringRead.ensures)
    (no_tree_accepts (setting_of old.ahead.setting) (shape_of old.form) (frames_in old.stack) (ap tree (string_stage old.form.stage old.form.parts c.in-StringRead.is))) c.requires.low

pub returns-in-Some : goal.returns-in-Some
returns-in-Some c =
    let old = c.args.self.now in
    let told = subst (Gives (shape_of old.form)) c.in-Some.is c.in_ok-value-in_default.ensures.gives in
    c.go_on.ensures (state_of old) (
      shape_of old.form,
      record { tree_is = told.0; target_is = told.1; plain_is = told.2; high_is = subst IsHighIn c.in-Some.is (c.in_ok-value-in_default.ensures.high c.requires.tall); ends = c.requires.stuck },
      refl,
    )

pub returns-in-None : goal.returns-in-None
returns-in-None c =
    let old = c.args.self.now in
    let s = setting_of old.ahead.setting in
    let sh = shape_of old.form in
    let k = frames_in old.stack in
    let none = subst (Gives sh) c.in-None.is c.in_ok-value-in_default.ensures.gives in
    breaks_turn (least (state_of old)) (state_of old) old.ahead old c.at-at.result c.args.low c.at-at.ensures c.requires.fits
    (inner_stops s sh k (next_place old.ahead) (next_word old.ahead) c.requires.inner none (read_string old.form.stage old.form.parts c.in_default.not-StringRead) c.requires.stuck)
    (no_tree_accepts s sh k none) c.requires.low

pub go_on-requires-clause-high : goal.go_on-requires-clause-high
go_on-requires-clause-high c = subst IsHighIn c.in-Some.is (c.in_ok-value-in_default.ensures.high c.requires.tall)
