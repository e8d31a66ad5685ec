use Rattle.std.proofs.Common.{sym, ap, ◌∙◌, IfErr}
use Rattle.p8_tree.specs.declared.refusal.Refusal.TheVariants.{TooManyObjects}
use Rattle.p8_tree.specs.Faults.{fault, IfRefused}
use Rattle.p8_tree.specs.Views.{source_of}
use Rattle.p8_tree.proofs.Failing.{refused_so}
use Rattle.p8_lexer.specs.Lexing.{IsFault}
use Rattle.p8_lines.specs.Tokens.{all_tokens}
use Rattle.p8_blocks.specs.Reading as reading
use Rattle.p8_blocks.specs.Reading.{Parses}
use Rattle.p8_objects.specs.Sources.{ReadsAs, IsRefused, no_tokens, no_file, too_many}
use Rattle.p8_objects.proofs.Calling.{told}
use Rattle.p8_objects.proofs.source.read_source.Goals as goal

pub returns-in_err-tokens-clause-refused : goal.returns-in_err-tokens-clause-refused
returns-in_err-tokens-clause-refused c =
    let bytes = c.args.bytes.now in
    told c.from_residual.result _ (λ o. IfErr o (IfRefused (IsRefused bytes))) c.from_residual.ensures.1
    (refused_so (IsFault bytes) (IsRefused bytes) (λ f. no_tokens) _ c.in_err-tokens.ensures.refused)

pub returns-in_err-file-clause-refused : goal.returns-in_err-file-clause-refused
returns-in_err-file-clause-refused c =
    let bytes = c.args.bytes.now in
    let tokens = c.in_ok-tokens.tokens in
    told c.from_residual-in_err-file.result _ (λ o. IfErr o (IfRefused (IsRefused bytes))) c.from_residual-in_err-file.ensures.1
    (refused_so (λ f. Parses (all_tokens bytes tokens) (reading.fault f.number f.place)) (IsRefused bytes) (λ f. no_file tokens c.in_ok-tokens.ensures.short c.in_ok-tokens.ensures.tokens) _ c.in_err-file.ensures.lines_refused)

pub returns-in-Some-clause-refused : goal.returns-in-Some-clause-refused
returns-in-Some-clause-refused c =
    let h = c.in-Some.ensures in
    let reads : ReadsAs c.args.bytes.now (source_of c.in_ok-file.file) = record {
      short = c.in_ok-tokens.ensures.short;
      tokens = c.in_ok-tokens.tokens;
      cut = c.in_ok-tokens.ensures.tokens;
      is = c.in_ok-file.ensures.read;
    } in
    too_many (source_of c.in_ok-file.file) h.item reads h.stands (c.at.ensures ∙ ap (fault TooManyObjects) (sym h.there))
