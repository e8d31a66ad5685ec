use Rattle.std.proofs.Common.{◌∙◌, sym, rules}
use Rattle.p8_image.proofs.Memories.{eeprom-stands}
use Rattle.p8_image.proofs.image.load_eeprom.Goals as goal

pub invariant_of-result : goal.invariant_of-result
invariant_of-result c =
    eeprom-stands _ _ c.args.bytes.now (sym c.eeprom_fault.ensures ∙ c.in-None.is) c.in_ok-binary_in-in-None.ensures (search rules)
