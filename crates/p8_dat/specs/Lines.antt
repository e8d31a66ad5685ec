-- Where the lines of a file's DAT begin.
use Rattle.p8_dat.specs.declared.assembling.LineBegin.{LineBegin}
use Rattle.p8_dat.specs.Spots.{Placed}

-- a line that stands there: where its contents begin in the object, and its place in the source
abbrev pub begin_of : Placed → LineBegin
begin_of x = record { offset = x.at.offset; place = x.line.place }
