use Rattle.std.proofs.Common.{◌≡◌, ◌++◌, ◌∷◌, OnOk, sym, subst}
use Rattle.p8_print.specs.Spelled.{reserved, text_of_line}
use Rattle.p8_print.specs.Wording.{wrapped}
use Rattle.p8_print.specs.Layout.{line}
use Rattle.p8_print.proofs.WrittenItems.{last_test}
use Rattle.p8_print.proofs.lines.write_arm_line.Goals as goal

pub returns : goal.returns
returns c =
    subst (λ e. OnOk c.write_test_line.result (c.write_test_line.new.script ≡ c.args.script.now ++ text_of_line (line c.args.indent (reserved c.args.word ∷ wrapped e)))) (sym (last_test c.args.tests.now c.in-Some.field-0-1.now c.in-Some.test.now c.in-Some.ensures.cases.0))
    c.write_test_line.ensures
