use Rattle.std.proofs.Common.{ap₂, ◌∙◌}
use Rattle.std.specs.Prelude.{bytes_eq}
use Rattle.p8_lexer.specs.declared.word.Word.TheVariants.{Call}
use Rattle.p8_lexer.specs.Words.{spelling}
use Rattle.p8_print.proofs.WrittenData.{bytes_same}
use Rattle.p8_print.proofs.instructions.is_call.Goals as goal

pub returns : goal.returns
returns c = c.eq.ensures ∙ (ap₂ bytes_eq c.as_slice.ensures (c.as_bytes.ensures.value ∙ c.spelling.ensures) ∙ bytes_same c.args.text.now (spelling Call))
