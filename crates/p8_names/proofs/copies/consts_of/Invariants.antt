use Rattle.std.proofs.Common.{◌≡◌, take}
use Rattle.p8_names.proofs.copies.consts_of.Given as goal

abbrev pub invariant-loop-constant : goal.invariant-loop-constant
invariant-loop-constant l = l.copies ≡ take l.constant-index l.consts
