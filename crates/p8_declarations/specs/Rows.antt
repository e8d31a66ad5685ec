-- What reading a row of pieces answers.
use Rattle.std.specs.Prelude.{Option, Some, None}
use Rattle.p8_tree.specs.Sources.{Line}
use Rattle.p8_tree.specs.Views.{line_of}
use Rattle.p8_declarations.specs.declared.lines.DatRow.{DatRow}
use Rattle.p8_declarations.specs.declared.lines.DatRow.TheVariants as row_case

-- a line, no line, or no row of DAT
abbrev pub outcome_of : DatRow → Option (Option Line)
outcome_of row_case.Empty = Some None
outcome_of (row_case.Line x) = Some (Some (line_of x))
outcome_of row_case.Unknown = None
