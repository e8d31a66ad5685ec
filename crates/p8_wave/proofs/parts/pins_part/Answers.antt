use Rattle.std.specs.List.{range_with_len}
use Rattle.p8_wave.proofs.Together.{inside-pins}
use Rattle.p8_wave.proofs.parts.pins_part.Goals as goal

pub new-requires : goal.new-requires
new-requires c = rw (c.in_ok-push_pins.ensures, c.new-entries.ensures.items) (inside-pins (range_with_len 0 32))
