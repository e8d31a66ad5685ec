use Rattle.std.proofs.Common.{◌≡◌, sym}
use Rattle.std.proofs.lemmas.Result.{IfErr-weaker, IfOk-weaker}
use Rattle.p8_tree.specs.Sources.{Source}
use Rattle.p8_tree.specs.Views.{source_of}
use Rattle.p8_tree.specs.declared.faults.Fault.{Fault}
use Rattle.p8_tree.specs.Faults.{IfRefused}
use Rattle.p8_tree.proofs.Failing.{only_memory}
use Rattle.p8_lines.specs.Tokens.{all_tokens}
use Rattle.p8_blocks.specs.Files.{IsFileWithinLimits}
use Rattle.p8_printed.specs.ReadBack.{file_with, IsFileOf, IsNotRefused}
use Rattle.p8_printed.proofs.Calling.{file_read}
use Rattle.p8_printed.proofs.assembled.tree_of.Goals as goal

pub returns-clause-file : goal.returns-clause-file
returns-clause-file c =
    let r = file_read c.args.long c.ranges.long.fits c.args.source.now c.requires.source c.args.tokens.now c.requires.tokens in
    IfOk-weaker c.parse.result (λ file. (s : Source) → IsFileWithinLimits s (all_tokens c.args.source.now c.args.tokens.now) → s ≡ source_of file) (λ file. IsFileOf c.args.long (source_of file))
    (λ file one. (r.0, r.1, sym (one (file_with r.0) r.2))) c.parse.ensures.one_tree

pub returns-clause-accepted : goal.returns-clause-accepted
returns-clause-accepted c =
    let r = file_read c.args.long c.ranges.long.fits c.args.source.now c.requires.source c.args.tokens.now c.requires.tokens in
    let none : Fault → Type 0 = λ f. (s : Source) → ¬ IsFileWithinLimits s (all_tokens c.args.source.now c.args.tokens.now) in
    IfErr-weaker c.parse.result (IfRefused none) IsNotRefused (only_memory none (λ f no_file. no_file (file_with r.0) r.2)) c.parse.ensures.no_file
