use Rattle.std.proofs.Common.{◌≡◌, ℕ, suc, ◌+◌, arith, subst, Some, List}
use Rattle.p8_kinds.specs.declared.kinds.Kinds.{Kinds}
use Rattle.p8_kinds.specs.declared.name_kinds.NameKind.{NameKind}
use Rattle.p8_kinds.specs.Kinds.{own}
use Rattle.p8_names.proofs.Own.{apart, local}
use Rattle.p8_names.proofs.resolved_laws.own_names_are_apart.Goals as goal

at-next : (found : Kinds) (k : ℕ) (name : List ℕ) (kind : NameKind) → own found (k + 1) name ≡ Some kind → own found (suc k) name ≡ Some kind
at-next found k name kind is = let next : k + 1 ≡ suc k = omega arith in subst (λ j. own found j name ≡ Some kind) next is

pub returns : goal.returns
returns c = record {
  apart = λ source seen top found named k m at proper name kind is. apart source seen top found named k m at proper name kind (at-next found k name kind is);
  local = λ source seen top found named k m at proper name kind is. local source seen top found named k m at proper name kind (at-next found k name kind is);
}
