use Rattle.std.proofs.Common.{true, false, ap, ◌∙◌}
use Rattle.std.specs.Prelude.{map}
use Rattle.p8_lexer.specs.Words.{capital}
use Rattle.p8_grammar.specs.Lexemes.{equal}
use Rattle.p8_grammar.specs.Machine.{fresh, otherwise, assigned, prefixed}
use Rattle.p8_grammar.specs.Grammar.{prefix_of}
use Rattle.p8_grammar.specs.Views.{setting_of}
use Rattle.p8_grammar.proofs.Stuck.{denied}
use Rattle.p8_expr.specs.Words.{between_quotes}
use Rattle.p8_expr.specs.Views.{is_word, frames_in}
use Rattle.p8_expr.specs.Lookaheads.{next_place, next_lexeme, next_text}
use Rattle.p8_expr.proofs.Taking.{otherwise_prefixed, no_prefix_of}
use Rattle.p8_expr.proofs.Stepping.{word_is, within_here}
use Rattle.p8_expr.proofs.reading.Reader.before.Goals as goal

pub returns-in_ok-assign_to-in-Some : goal.returns-in_ok-assign_to-in-Some
returns-in_ok-assign_to-in-Some c = λ st steps.
    let old = c.args.self.now in
    let s = setting_of old.ahead.setting in
    let p = next_place old.ahead in
    let equal = c.has_equal.ensures.0 c.if-has_equal.true in
    let a = c.in-Some.ensures.1 in
    c.in_ok-assign_to-in-Some.ensures st (within_here old.ahead (ap is_word equal))
    (steps ∙ ap (otherwise s fresh (frames_in old.stack) p) equal ∙ ap (assigned s) a.1)

pub returns-in-None : goal.returns-in-None
returns-in-None c = λ st steps.
    let old = c.args.self.now in
    let s = setting_of old.ahead.setting in
    steps ∙ ap (otherwise s fresh (frames_in old.stack) (next_place old.ahead)) (c.has_equal.ensures.0 c.if-has_equal.true) ∙ c.in-None.ensures s

pub returns-in-Prefix : goal.returns-in-Prefix
returns-in-Prefix c = λ st steps.
    let old = c.args.self.now in
    let is = word_is old.ahead _ c.requires.fits c.in-Prefix.is in
    c.prefix.ensures st (ap prefix_of is)
    (steps ∙ otherwise_prefixed (setting_of old.ahead.setting) (frames_in old.stack) (next_place old.ahead) (next_lexeme old.ahead) (denied c.has_equal.result c.if-has_equal.false c.has_equal.ensures.1)
    ∙ ap (λ y. prefixed (setting_of old.ahead.setting) (prefix_of y) (next_place old.ahead) (frames_in old.stack)) is)

pub returns-in-Sign : goal.returns-in-Sign
returns-in-Sign c = λ st steps.
    let old = c.args.self.now in
    let is = word_is old.ahead _ c.requires.fits c.in-Sign.is in
    c.prefix-in-Sign.ensures st (ap prefix_of is)
    (steps ∙ otherwise_prefixed (setting_of old.ahead.setting) (frames_in old.stack) (next_place old.ahead) (next_lexeme old.ahead) (denied c.has_equal.result c.if-has_equal.false c.has_equal.ensures.1)
    ∙ ap (λ y. prefixed (setting_of old.ahead.setting) (prefix_of y) (next_place old.ahead) (frames_in old.stack)) is)

pub returns-in-ObjectAddress : goal.returns-in-ObjectAddress
returns-in-ObjectAddress c = λ st steps.
    let old = c.args.self.now in
    let is = word_is old.ahead _ c.requires.fits c.in-ObjectAddress.is in
    c.prefix-in-ObjectAddress.ensures st (ap prefix_of is)
    (steps ∙ otherwise_prefixed (setting_of old.ahead.setting) (frames_in old.stack) (next_place old.ahead) (next_lexeme old.ahead) (denied c.has_equal.result c.if-has_equal.false c.has_equal.ensures.1)
    ∙ ap (λ y. prefixed (setting_of old.ahead.setting) (prefix_of y) (next_place old.ahead) (frames_in old.stack)) is)

pub returns-in_default : goal.returns-in_default
returns-in_default c = λ st steps.
    let old = c.args.self.now in
    let d = c.in_default in
    let none = ap prefix_of c.requires.fits.knows ∙ no_prefix_of (map capital (next_text old.ahead)) (between_quotes (next_text old.ahead)) old.ahead.lexeme d.not-Prefix d.not-Sign d.not-ObjectAddress in
    steps ∙ otherwise_prefixed (setting_of old.ahead.setting) (frames_in old.stack) (next_place old.ahead) (next_lexeme old.ahead) (denied c.has_equal.result c.if-has_equal.false c.has_equal.ensures.1)
    ∙ ap (λ o. prefixed (setting_of old.ahead.setting) o (next_place old.ahead) (frames_in old.stack)) none
