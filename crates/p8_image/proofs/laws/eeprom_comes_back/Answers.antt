use Rattle.std.proofs.Common.{arith}
use Rattle.p8_image.proofs.Memories.{memory-is-eeprom, there-and-back, binary-is-image, header-of-binary, lies-of}
use Rattle.p8_image.proofs.laws.eeprom_comes_back.Goals as goal

pub returns : goal.returns
returns c = record {
  there = memory-is-eeprom;
  back = λ file bytes is. there-and-back file is (bytes 5 0 (let low = (lies-of file is).low in omega (arith, low)));
  loads = λ memory is. (binary-is-image memory is, header-of-binary memory is);
}
