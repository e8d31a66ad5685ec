-- The sources of an accepted project are sources without the limits of the profile.
use Rattle.std.proofs.Common.{◌≡◌, ◌∙◌, ap, ℕ, List, Bool, true, false, Option, Some, None, refl, map}
use Rattle.std.specs.Prelude.{IsTrue, if◌then◌else◌}
use Rattle.std.specs.List.{list_all}
use Rattle.p8_tree.specs.Sources as sources
use Rattle.p8_tree.specs.Sources.{BlockTree, Source}
use Rattle.p8_lexer.specs.Pieces.{Piece}
use Rattle.p8_columns.specs.Lines as lines
use Rattle.p8_lines.specs.declared.state.LineState.{LineState}
use Rattle.p8_lines.specs.declared.state.LineState.TheVariants as state
use Rattle.p8_lines.specs.Tokens.{LineToken, line_token}
use Rattle.p8_lines.proofs.Readings.{leads_row}
use Rattle.p8_blocks.specs.Values.{begins_line}
use Rattle.p8_blocks.specs.Files as files
use Rattle.p8_blocks.specs.Files.{within_limits, lines_of_row}
use Rattle.p8_declarations.specs.Constants.{constants_of_row}
use Rattle.p8_declarations.specs.Variables.{variables_of_row}
use Rattle.p8_declarations.specs.Objects.{objects_of_row}
use Rattle.p8_declarations.specs.DataParts.{part_of_piece}
use Rattle.p8_objects.specs.Sources as within
use Rattle.p8_prop.proofs.Reading as said
use Rattle.p8_prop.proofs.Reading.{is_known, data_of_row}
use Rattle.p8_prop.proofs.SaidCutting.{tokens-to}
use Rattle.p8_prop.proofs.Lining.{outer, starts, is_end, declared-line, head-line, text-line}
use Rattle.p8_prop.proofs.DataLining.{data-head-line, data-line, head-known, line-known}

-- ---- lines

declared : {X : Type 0} {q : LineState} {value : List Piece → Option X} {x : X} {us : List LineToken} (row : List Piece) → IsTrue (outer q) → is_end q ≡ false
    → files.IsLine within_limits q row us → value row ≡ Some x → said.IsLine said.declared value x us
declared row own ahead leads is = (row, declared-line (leads_row leads) own ahead, is)

-- the words of a line of DAT are known
data-is : (row : List Piece) (xs : List sources.Line) → list_all is_known (map part_of_piece row) ≡ true → lines_of_row row ≡ Some xs → data_of_row row ≡ Some xs
data-is row xs known is = ap (λ (b : Bool). if b then lines_of_row row else None) known ∙ is

data-head : {xs : List sources.Line} {us : List LineToken} (row : List Piece) → files.IsLine within_limits state.DatHead row us → lines_of_row row ≡ Some xs
    → said.IsLine said.in_data data_of_row xs us
data-head {xs = xs} row leads is = (row, data-head-line (leads_row leads), data-is row xs (head-known (leads_row leads)) is)

data-one : {xs : List sources.Line} {us : List LineToken} (row : List Piece) → files.IsLine within_limits state.DatLine row us → lines_of_row row ≡ Some xs
    → said.IsLine said.in_data data_of_row xs us
data-one {xs = xs} row leads is = (row, data-line (leads_row leads), data-is row xs (line-known (leads_row leads)) is)

-- the lines of a block that isn't a method
module _ {X : Type 0} (spelled : said.Spelling) (value new : List Piece → Option (List X)) (q : LineState)
    (one : (xs : List X) (us : List LineToken) (row : List Piece) → files.IsLine within_limits q row us → value row ≡ Some xs → said.IsLine spelled new xs us) where
  declares : {xs : List X} {ts : List LineToken} → files.Declare within_limits value q xs ts → said.Declare spelled new xs ts
  declares files.no_line = said.no_line
  declares (files.a_blank t is rest) = said.a_blank t is (declares rest)
  declares (files.a_line us row leads is rest) = said.a_line (one _ us row leads is) (declares rest)

text-starts : (q : LineState) → IsTrue (begins_line q) → IsTrue (starts q)
text-starts state.Statement h = refl
text-starts state.ChainLine h = refl
text-starts state.LoopEndLine h = refl
text-starts state.CaseItem h = refl
text-starts q h = absurd cc

lines-of : {ls : List lines.Line} {b : Bool} {ts : List LineToken} → files.AreLines within_limits ls b ts → said.AreLines ls ts
lines-of files.no_line = said.no_line
lines-of (files.a_blank t is rest) = said.a_blank t is (lines-of rest)
lines-of (files.a_line q row t us begins alone leads is rest) = said.a_line t (row, text-line (leads_row leads) (text-starts q begins), is) (lines-of rest)

-- ---- blocks and files

con-lines : {xs : List sources.Constant} {ts : List LineToken} → files.Declare within_limits constants_of_row state.ConItem xs ts
    → said.Declare said.declared constants_of_row xs ts
con-lines x = declares said.declared constants_of_row constants_of_row state.ConItem (λ xs us row leads is. declared row refl refl leads is) x

block : {b : BlockTree} {ts : List LineToken} → files.IsBlock within_limits b ts → said.IsBlock b ts
block (files.con t us row head leads is rest) = said.con t head (declared row refl refl leads is) (con-lines rest)
block (files.var t us row head leads is rest) =
    said.var t head (declared row refl refl leads is)
    (declares said.declared variables_of_row variables_of_row state.VarLine (λ xs us row leads is. declared row refl refl leads is) rest)
block (files.obj t us row head leads is rest) =
    said.obj t head (declared row refl refl leads is)
    (declares said.declared objects_of_row objects_of_row state.ObjLine (λ xs us row leads is. declared row refl refl leads is) rest)
block (files.dat t us row head leads is rest) =
    said.dat t head (data-head row leads is) (declares said.in_data lines_of_row data_of_row state.DatLine (λ xs us row leads is. data-one row leads is) rest)
block (files.method public t us row head leads is rest are inside) =
    said.method public t head (row, head-line (leads_row leads), is) (lines-of rest) are

file : {s : Source} {ts : List LineToken} → files.IsFile within_limits s ts → said.IsFile s ts
file (files.first rest) = said.first (con-lines rest)
file (files.one_more before last) = said.one_more (file before) (block last)

pub source : {bytes : List ℕ} {s : Source} → within.IsSource bytes s → said.IsSource bytes s
source {bytes = bytes} is = record {
  whole = is.reads.short;
  tokens = map (line_token bytes) is.reads.tokens;
  cut = tokens-to bytes is.reads.tokens is.reads.cut;
  is = file is.reads.is.0;
}
