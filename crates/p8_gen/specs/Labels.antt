-- The offsets of labels, by their names: internal.
use Rattle.std.specs.Prelude.{ℕ, List, Option}
use Rattle.p8_fold.specs.ConstantEntries.{at_bytes}
use Rattle.p8_gen.specs.declared.labels.Labels.{Labels}

abbrev pub offset_in : Labels → List ℕ → Option ℕ
offset_in labels name = at_bytes name labels.offsets
