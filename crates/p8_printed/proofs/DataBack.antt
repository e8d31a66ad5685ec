-- A line of DAT that was read is read back from its words, but for places.
use Rattle.std.proofs.Common.{Some, option_map, ap}
use Rattle.p8_tree.specs.Sources.{Line}
use Rattle.p8_tree.specs.Forgetting.{line_anywhere}
use Rattle.p8_lines.specs.declared.state.LineState.TheVariants as state
use Rattle.p8_declarations.specs.Lines.{line_of_row}
use Rattle.p8_print.specs.Spelled.{IsReadable}
use Rattle.p8_printed.specs.Lexemes.{IsInCapitals}
use Rattle.p8_printed.specs.Rereading.{ReadsBack}
use Rattle.p8_print.specs.DataWords.{words_of_line}
use Rattle.p8_printed.proofs.LabelWords.{label_readable, label_capitals}
use Rattle.p8_printed.proofs.Made.{IsLine}
use Rattle.p8_printed.proofs.Printed.{wrapped_printed}
use Rattle.p8_printed.proofs.DataLinesRead.{reread}
use Rattle.p8_printed.proofs.DataWordsAll.{all_line}

pub reads_back : (x : Line) → IsLine x → ReadsBack line_of_row (option_map line_anywhere) state.DatLine (words_of_line x) (Some x)
reads_back x is = record {
  readable = all_line IsReadable (λ w free. free) (λ n named. named.0) label_readable (λ s e was. λ k d lt. (wrapped_printed was.is was.good k d lt).0) x is;
  capitals = all_line IsInCapitals (λ w free. tt) (λ n named. named.1) label_capitals (λ s e was. λ k d lt. (wrapped_printed was.is was.good k d lt).1) x is;
  read = λ ts t are e. let y = reread x ts t is are e in (y.row, Some y.other, y.leads, y.is, ap (λ x. Some x) y.same);
}
