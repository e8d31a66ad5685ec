use Rattle.p8_report.proofs.LongText.{long_text}
use Rattle.p8_report.proofs.line.write_long.Goals as goal

pub returns-clause-text : goal.returns-clause-text
returns-clause-text c = long_text c.args.value _ c.args.text.now _ _ _ _ c.write_byte-at.ensures.text c.write_byte-at-2.ensures.text c.write_byte-at-3.ensures.text c.write_byte.ensures.text
