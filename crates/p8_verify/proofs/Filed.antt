-- The ended history of a world of bytes has a file.
use Rattle.std.proofs.Common.{refl, ◌≤◌, List, [], ◌∷◌, arith}
use Rattle.std.specs.List.{All}
use Rattle.std.proofs.lemmas.List.Elements.{All-nil, All-cons}
use Rattle.p8_access.specs.declared.order.Turn.{Turn}
use Rattle.p8_access.specs.Worlds.{World}
use Rattle.p8_access.specs.Histories.{Legal}
use Rattle.p8_cog.specs.Lives.{asks}
use Rattle.p8_verify.specs.Bytes.{IsOfBytes}
use Rattle.p8_verify.specs.Table.{IsWithin}
use Rattle.p8_verify.specs.Files.{HasFile}
use Rattle.p8_verify.proofs.Appending.{all-reversed}
use Rattle.p8_verify.proofs.Clocks.{legal-length}
use Rattle.p8_verify.proofs.TurnsWithin.{AreWithin, turns-within}

each-within : (past : List Turn) → AreWithin past → All IsWithin past
each-within [] are = All-nil IsWithin
each-within (turn ∷ past) are = All-cons IsWithin turn past are.0 (each-within past are.1)

pub has-file : (w : World) → IsOfBytes w → w.clocks ≤ 100000000 → w.turns ≤ 40000 → (past : List Turn) → Legal asks w past → HasFile w past
has-file w of clocks turns past legal =
    let long = legal-length w past legal in
    record {
      head = record { clocks = clocks; turns = turns; count = omega (arith, long, turns) };
      turns = all-reversed IsWithin past (each-within past (turns-within w of (omega (arith, clocks)) past legal));
      bytes_are = refl;
    }
