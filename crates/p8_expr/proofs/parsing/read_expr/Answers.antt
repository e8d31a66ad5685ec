use Rattle.std.proofs.Common.{ℕ, ◌≡◌, sym, ap, ◌∙◌, subst}
use Rattle.p8_tree.specs.Views.{tree_of}
use Rattle.p8_tree.specs.declared.faults.Fault.{Fault}
use Rattle.p8_grammar.specs.Lexemes.{Setting}
use Rattle.p8_grammar.specs.Views.{setting_of}
use Rattle.p8_expr.specs.Refusals.{refusal_of}
use Rattle.p8_expr.specs.Parsing.{tree, Parses}
use Rattle.p8_expr.specs.Cursors.{Spot, moved, word_there, place_there}
use Rattle.p8_expr.specs.declared.reading.Ended.{Ended}
use Rattle.p8_expr.specs.declared.reading.Ended.TheVariants as ended
use Rattle.p8_expr.specs.Reading.{IsEnded}
use Rattle.p8_expr.proofs.Runs.{refusal_there, whole_read}
use Rattle.p8_expr.proofs.Answered.{high_fault, whole_fault, too_high_fault, broken_fault}
use Rattle.p8_expr.proofs.parsing.read_expr.Goals as goal

ends : (s : Setting) (limit : ℕ) (x y : Spot) (e : Ended) → x ≡ y → IsEnded s limit x.bytes x.tokens x.at e → IsEnded s limit y.bytes y.tokens y.at e
ends s limit x y e same h = subst (λ (x : Spot). IsEnded s limit x.bytes x.tokens x.at e) same h

pub returns-in-TooHigh-clause-refused : goal.returns-in-TooHigh-clause-refused
returns-in-TooHigh-clause-refused c =
    let s = setting_of c.args.setting in
    let old = c.args.here.now in
    high_fault s c.args.height old.bytes old.tokens old.at c.at.result c.requires.within
    (ends s c.args.height c.copied.result old ended.TooHigh c.copied.ensures (subst (IsEnded s c.args.height c.copied.result.bytes c.copied.result.tokens c.copied.result.at) c.in-TooHigh.is c.in_ok-read.ensures))
    (ap (λ (f : Fault). f.number) c.at.ensures) (ap (λ (f : Fault). f.place) c.at.ensures ∙ c.place-begin.ensures)

pub returns-in-Some-clause-refused : goal.returns-in-Some-clause-refused
returns-in-Some-clause-refused c =
    let s = setting_of c.args.setting in
    let old = c.args.here.now in
    let there = moved old c.in-Whole.end in
    let same = c.go_to.ensures in
    whole_fault s c.args.height old.bytes old.tokens old.at c.in-Whole.end c.in-Whole.expr c.in-Some.refusal c.at-in-Some.result
    (ends s c.args.height c.copied.result old (ended.Whole c.in-Whole.expr c.in-Whole.end) c.copied.ensures (subst (IsEnded s c.args.height c.copied.result.bytes c.copied.result.tokens c.copied.result.at) c.in-Whole.is c.in_ok-read.ensures))
    (sym (refusal_there s there) ∙ ap (refusal_of s) (sym (c.word.ensures ∙ ap word_there same)) ∙ sym c.refusal_of.ensures ∙ c.in-Some.is)
    (ap (λ (f : Fault). f.number) c.at-in-Some.ensures) (ap (λ (f : Fault). f.place) c.at-in-Some.ensures ∙ c.place.ensures ∙ ap place_there same)

pub returns-in-None-clause-moved : goal.returns-in-None-clause-moved
returns-in-None-clause-moved c = c.go_to.ensures ∙ ap (moved c.args.here.now) (sym (ap (λ (s : Spot). s.at) c.go_to.ensures))

pub returns-in-None-clause-read : goal.returns-in-None-clause-read
returns-in-None-clause-read c =
    let s = setting_of c.args.setting in
    let old = c.args.here.now in
    let there = moved old c.in-Whole.end in
    let same = c.go_to.ensures in
    subst (λ n. Parses s c.args.height old.bytes old.tokens old.at (tree (tree_of c.in-Whole.expr) n)) (sym (ap (λ (s : Spot). s.at) same))
    (whole_read s c.args.height old.bytes old.tokens old.at c.in-Whole.end c.in-Whole.expr
    (ends s c.args.height c.copied.result old (ended.Whole c.in-Whole.expr c.in-Whole.end) c.copied.ensures (subst (IsEnded s c.args.height c.copied.result.bytes c.copied.result.tokens c.copied.result.at) c.in-Whole.is c.in_ok-read.ensures))
    (sym (refusal_there s there) ∙ ap (refusal_of s) (sym (c.word.ensures ∙ ap word_there same)) ∙ sym c.refusal_of.ensures ∙ c.in-None.is))

pub returns-then-least-height-clause-refused : goal.returns-then-least-height-clause-refused
returns-then-least-height-clause-refused c =
    let s = setting_of c.args.setting in
    let old = c.args.here.now in
    too_high_fault s c.args.height old.bytes old.tokens old.at c.in-Broken.end c.in-Broken.least c.at-then-least-height.result c.requires.within
    (ends s c.args.height c.copied.result old (ended.Broken c.in-Broken.end c.in-Broken.least) c.copied.ensures (subst (IsEnded s c.args.height c.copied.result.bytes c.copied.result.tokens c.copied.result.at) c.in-Broken.is c.in_ok-read.ensures)) c.if-least-height.true
    (ap (λ (f : Fault). f.number) c.at-then-least-height.ensures) (ap (λ (f : Fault). f.place) c.at-then-least-height.ensures ∙ c.place-begin.ensures)

pub returns-else-least-height-clause-refused : goal.returns-else-least-height-clause-refused
returns-else-least-height-clause-refused c =
    let s = setting_of c.args.setting in
    let old = c.args.here.now in
    let there = moved old c.in-Broken.end in
    let same = c.go_to-in-Broken.ensures in
    broken_fault s c.args.height old.bytes old.tokens old.at c.in-Broken.end c.in-Broken.least c.refusal_of-in-Broken.result c.unwrap_or-refusal.result
    c.at-in-Broken.result c.requires.within c.requires.limit
    (ends s c.args.height c.copied.result old (ended.Broken c.in-Broken.end c.in-Broken.least) c.copied.ensures (subst (IsEnded s c.args.height c.copied.result.bytes c.copied.result.tokens c.copied.result.at) c.in-Broken.is c.in_ok-read.ensures)) c.if-least-height.false
    (c.refusal_of-in-Broken.ensures ∙ ap (refusal_of s) (c.word-in-Broken.ensures ∙ ap word_there same) ∙ refusal_there s there) c.unwrap_or-refusal.ensures
    (ap (λ (f : Fault). f.number) c.at-in-Broken.ensures) (ap (λ (f : Fault). f.place) c.at-in-Broken.ensures ∙ c.place-in-Broken.ensures ∙ ap place_there same)
