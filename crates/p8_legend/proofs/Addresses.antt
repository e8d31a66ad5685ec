-- Bytes further, mod 65,536.
use Rattle.std.proofs.Common.{◌≡◌, ℕ, ◌%◌, arith}
use Rattle.p8_image.specs.Listing.{address_after}

pub address_after_low : (place bytes : ℕ) → address_after place (bytes % 65536) ≡ address_after place bytes
address_after_low place bytes = omega arith
