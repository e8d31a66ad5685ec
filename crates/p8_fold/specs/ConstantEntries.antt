-- The meanings that a table of constants holds.
use Rattle.std.specs.Prelude.{ℕ, List, Option, Some, None}
use Rattle.std.specs.BTreeMap.{BTreeMap, get_by}
use Rattle.std.specs.Ordering.{nat_cmp}
use Rattle.std.specs.Cmp.Lexicographic.{slice_cmp}
use Rattle.std.specs.declared.alloc.Global.{Global}
use Rattle.std.specs.Prelude.{Vec}
use Rattle.p8_fold.specs.declared.consts.Consts.{Consts}
use Rattle.p8_fold.specs.Meanings.{Setting}

-- what a map has at the key with these bytes
abbrev pub at_bytes : {X : Type 0} → List ℕ → BTreeMap (Vec ℕ Global) X → Option X
at_bytes bytes map = get_by (λ k. slice_cmp nat_cmp bytes k.items) map

-- what a map of maps has at the keys with these bytes
abbrev pub at_both : {X : Type 0} → List ℕ → Option (BTreeMap (Vec ℕ Global) X) → Option X
at_both bytes None = None
at_both bytes (Some map) = at_bytes bytes map

abbrev pub setting_of : Consts → Setting
setting_of c = record {
  name = λ name. at_bytes name c.names;
  constant = λ object name. at_both name (at_bytes object c.objects);
  here = c.here;
}
