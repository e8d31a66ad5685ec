-- internal
-- How numbers of bytes are kept that an input may make as great as it likes: exactly below 2^31, and above as that and the last 16 bits.
-- So it is known whether an image fits the hub, and what stands in its words.
use Rattle.std.specs.Prelude.{ℕ, ◌+◌, ◌%◌, nat_lt, if◌then◌else◌, List, map, slice_index}
use Rattle.p8_image.specs.declared.parts.ObjectPart.{ObjectPart}
use Rattle.p8_image.specs.Layout.{total, own_variables}

unfoldable pub kept : ℕ → ℕ
kept n = if nat_lt n 2147483648 then n else 2147483648 + n % 65536

-- one depth more of objects inside objects, over kept sizes
abbrev pub deepened : List ObjectPart → List ℕ → List ℕ
deepened objects sizes =
    map (λ (object : ObjectPart). kept (own_variables object + total (slice_index sizes) object.instances)) objects
