-- A hexadecimal digit in print.
use Rattle.std.proofs.Common.{◌≡◌, ◌∙◌, ap, arith, ℕ, ◌+◌, ◌<◌, ◌≤◌, Bool, true, false, [], ◌∷◌, nat_lt, if◌then◌else◌}
use Rattle.std.proofs.lemmas.Bool.Decides.{nat_tests}
use Rattle.std.proofs.lemmas.Fmt.{hex_one_digit}
use Rattle.p8_image.specs.Messages.{hex_digit}

pub low-digit : (digit : ℕ) → digit < 10 → hex_digit digit ≡ (48 + digit) ∷ []
low-digit digit small =
    let test : nat_lt digit 10 ≡ true = grind (arith, nat_tests) in
    hex_one_digit true digit (omega arith) ∙ ap (λ (b : Bool). (if b then 48 + digit else 55 + digit) ∷ []) test

pub high-digit : (digit : ℕ) → 10 ≤ digit → digit < 16 → hex_digit digit ≡ (55 + digit) ∷ []
high-digit digit great small =
    let test : nat_lt digit 10 ≡ false = grind (arith, nat_tests) in
    hex_one_digit true digit small ∙ ap (λ (b : Bool). (if b then 48 + digit else 55 + digit) ∷ []) test
