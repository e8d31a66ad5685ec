use Rattle.std.proofs.Common.{◌≡◌, ℕ}
use Rattle.std.proofs.lemmas.Result.{IfOk-weaker}
use Rattle.p8_tree.specs.declared.places.Place as place
use Rattle.p8_tree.specs.Views.{source_of}
use Rattle.p8_tree.specs.declared.refusal.Refusal.TheVariants.{TooNested}
use Rattle.p8_tree.specs.Refusals.{refusal_number}
use Rattle.p8_lines.specs.Tokens.{all_tokens}
use Rattle.p8_blocks.specs.Files.{PassesAt}
use Rattle.p8_blocks.specs.Reading.{Parses, fault, source}
use Rattle.p8_blocks.specs.Refusals.{IsRefused}
use Rattle.p8_tree.proofs.Failing.{err_so}
use Rattle.p8_blocks.proofs.parsing.parse.Goals as goal

pub returns-clause-passes_there : goal.returns-clause-passes_there
returns-clause-passes_there c =
    let ts = all_tokens c.args.bytes.now c.args.tokens.now in
    err_so (λ f. Parses ts (fault f.number f.place)) (λ f. f.number ≡ refusal_number TooNested → PassesAt ts f.place) (λ f h e. c.refusals_pass_limits.ensures.there ts f.number f.place h e) c.read_lines.result c.read_lines.ensures.refused

pub returns-clause-one_number : goal.returns-clause-one_number
returns-clause-one_number c =
    let ts = all_tokens c.args.bytes.now c.args.tokens.now in
    err_so (λ f. Parses ts (fault f.number f.place)) (λ f. (n : ℕ) (p : place.Place) → IsRefused ts n p → n ≡ f.number)
    (λ f h n p x. c.one_refusal.ensures.number ts n f.number p f.place x (c.refusals_are_read.ensures ts f.number f.place h)) c.read_lines.result c.read_lines.ensures.refused

pub returns-clause-one_place : goal.returns-clause-one_place
returns-clause-one_place c =
    let ts = all_tokens c.args.bytes.now c.args.tokens.now in
    err_so (λ f. Parses ts (fault f.number f.place)) (λ f. (n : ℕ) (p : place.Place) → IsRefused ts n p → p ≡ f.place)
    (λ f h n p x. c.one_refusal.ensures.place ts n f.number p f.place x (c.refusals_are_read.ensures ts f.number f.place h)) c.read_lines.result c.read_lines.ensures.refused

pub returns-clause-none_refused : goal.returns-clause-none_refused
returns-clause-none_refused c =
    let ts = all_tokens c.args.bytes.now c.args.tokens.now in
    IfOk-weaker c.read_lines.result (λ file. Parses ts (source (source_of file))) (λ file. (n : ℕ) (p : place.Place) → ¬ IsRefused ts n p)
    (λ file h n p. c.files_are_not_refused.ensures ts (source_of file) n p ((c.files_are_read.ensures ts (source_of file)).0 h)) c.read_lines.ensures.read
