-- The header of an image: its first 16 bytes (Propeller Manual v1.2 and the public form of Spin images).
--
--   0000  long   clock frequency
--   0004  byte   clock mode
--   0005  byte   checksum: all bytes of the file add to $14 mod 256
--   0006  word   pbase, where the first object begins
--   0008  word   vbase, where the objects end and the variables begin
--   000A  word   dbase, where the frame of the first method begins
--   000C  word   pcurr, where the code of the first method begins
--   000E  word   dcurr, where the frame of the first method ends
use Rattle.std.specs.Prelude.{ℕ, ◌+◌, ◌*◌, List, slice_index}
use Rattle.p8_image.specs.declared.header.Header.{Header}

-- the word at a place of these bytes, its low byte first
abbrev pub word_at : List ℕ → ℕ → ℕ
word_at bytes place = slice_index bytes place + 256 * slice_index bytes (place + 1)

-- the places that a header names
abbrev pub header_of : List ℕ → Header
header_of bytes = record {
  pbase = word_at bytes 6;
  vbase = word_at bytes 8;
  dbase = word_at bytes 10;
  pcurr = word_at bytes 12;
  dcurr = word_at bytes 14;
}
