-- A world of bytes: its numbers fit their places.
use Rattle.std.specs.Prelude.{◌^◌, ◌<◌}
use Rattle.std.specs.List.{All}
use Rattle.p8_access.specs.Worlds.{World, Line}
use Rattle.p8_verify.specs.Table.{IsOriginWithin}

-- hub memory is bytes, what cog 0 is started with is numbers below 65,536, and the levels of the pins are words
pub record IsOfBytes (w : World) : Type 0 where
  pub memory : All (λ byte. byte < 256) w.memory
  pub first : IsOriginWithin w.first
  pub script : All (λ (line : Line). line.levels < 2 ^ 32) w.script
