use Rattle.std.proofs.Common.{◌≡◌, ◌++◌, OnOk, ◌<◌, length, take, arith, sym, ap, ◌∙◌, subst}
use Rattle.std.proofs.lemmas.Bool.Decides.{nat_tests}
use Rattle.std.proofs.lemmas.List.{take_all}
use Rattle.std.proofs.lemmas.Grind.{common_steps}
use Rattle.p8_tree.specs.Views.{form_of, trees_of}
use Rattle.p8_tree.specs.Bridges.{strings_is, built_is, look_is}
use Rattle.p8_print.specs.Spelled.{text_of_words}
use Rattle.p8_print.specs.Wording.{words_of_form}
use Rattle.p8_print.specs.Writing.{arguments_begun}
use Rattle.p8_print.proofs.WrittenExpressions.{call_form, argument_written, arguments_ended, choice_written}
use Rattle.p8_print.proofs.expressions.+writing.Goals as goal

pub write_call-returns : goal.write_call-returns
write_call-returns t c =
    subst (λ f. OnOk c.write_arguments.result (c.write_arguments.new.script ≡ c.args.script.now ++ text_of_words (words_of_form f))) (sym (call_form c.args.call.now)) (grind (arith, common_steps))

pub write_expr-returns-in_ok-write_word-in-Strings : goal.write_expr-returns-in_ok-write_word-in-Strings
write_expr-returns-in_ok-write_word-in-Strings t c =
    subst (λ f. OnOk c.write_arguments-in-Strings.result (c.write_arguments-in-Strings.new.script ≡ c.args.script.now ++ text_of_words (words_of_form f))) (sym (ap form_of c.in-Strings.is ∙ strings_is c.in-Strings.items)) (grind (arith, common_steps))

pub write_expr-returns-in_ok-write_word-in-Built : goal.write_expr-returns-in_ok-write_word-in-Built
write_expr-returns-in_ok-write_word-in-Built t c =
    subst (λ f. OnOk c.write_arguments.result (c.write_arguments.new.script ≡ c.args.script.now ++ text_of_words (words_of_form f))) (sym (ap form_of c.in-Built.is ∙ built_is c.in-Built.code c.in-Built.arguments)) (grind (arith, common_steps))

pub write_expr-returns-in_ok-write_looked_for-in-Look : goal.write_expr-returns-in_ok-write_looked_for-in-Look
write_expr-returns-in_ok-write_looked_for-in-Look t c =
    subst (λ f. OnOk c.write_choices.result (c.write_choices.new.script ≡ c.args.script.now ++ text_of_words (words_of_form f))) (sym (ap form_of c.in-Look.is ∙ look_is c.in-Look.code c.in-Look.value c.in-Look.items)) (grind (arith, common_steps))

pub write_arguments-loop-i-preserved : goal.write_arguments-loop-i-preserved
write_arguments-loop-i-preserved t c =
    argument_written c.args.arguments.now c.loop-i.i c.index-arguments-i.result c.word_before.result c.args.script.now c.loop-i.script c.loop-i-test.true c.index-arguments-i.is c.word_before.ensures c.loop-i.invariant c.in_ok-write_word.ensures c.in_ok-write_expr.ensures

pub write_arguments-returns-else-is_empty : goal.write_arguments-returns-else-is_empty
write_arguments-returns-else-is_empty t c =
    let all : take c.loop-i.i c.args.arguments.now ≡ c.args.arguments.now = take_all c.loop-i.i c.args.arguments.now c.loop-i-test.false in
    let some : 0 < length c.args.arguments.now = grind (arith, nat_tests) in
    let end = arguments_ended c.args.arguments.now some in
    let begun : c.loop-i.script ≡ c.args.script.now ++ text_of_words (arguments_begun (trees_of c.args.arguments.now)) = c.loop-i.invariant ∙ ap (λ xs. c.args.script.now ++ text_of_words (arguments_begun (trees_of xs))) all in
    subst (λ ws. OnOk c.write_word-else-is_empty.result (c.write_word-else-is_empty.new.script ≡ c.args.script.now ++ text_of_words ws)) (sym end) (grind (arith, common_steps))

pub write_choices-loop-i-preserved : goal.write_choices-loop-i-preserved
write_choices-loop-i-preserved t c =
    choice_written c.args.items.now c.loop-i.i c.index-items-i.result c.args.script.now c.loop-i.script c.loop-i-test.true c.index-items-i.is c.loop-i.invariant c.in_ok-write_separator.ensures c.in_ok-write_item.ensures
