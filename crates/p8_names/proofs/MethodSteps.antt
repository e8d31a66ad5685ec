-- Methods that are looked at one after the other.
use Rattle.std.proofs.Common.{◌≡◌, ◌⊎◌, inl, inr, ℕ, suc, ◌+◌, List, Option, Some, refl, ap, sym, ◌∙◌, subst, arith}
use Rattle.std.proofs.lemmas.Bool.{cases_lt}
use mathlib.Core.Path.{fun_ext}
use Rattle.std.specs.Prelude.{slice_get}
use Rattle.std.specs.Map.{lookup}
use Rattle.std.specs.Str.{bytes_eq}
use Rattle.p8_tree.specs.Sources.{MethodTree}
use Rattle.p8_tree.specs.declared.faults.Fault.{Fault}
use Rattle.p8_fold.specs.Meanings.{Setting}
use Rattle.p8_constants.specs.FileItems.{Item}
use Rattle.p8_constants.specs.Standing.{IsFirstOf}
use Rattle.p8_kinds.specs.declared.kinds.Kinds.{Kinds}
use Rattle.p8_kinds.specs.Environments.{Environment}
use Rattle.p8_kinds.specs.Kinds.{own, or_else}
use Rattle.p8_kinds.specs.Misuses.{MisuseInStatements}
use Rattle.p8_names.specs.Kinds.{own_kind, own_kinds, method_setting}
use Rattle.p8_names.specs.Faults.{FaultInLocals, UnknownInLines, local_label}
use Rattle.p8_names.specs.Looking.{HasOwnKinds, IsFaultIn, environment_in}
use Rattle.p8_names.specs.Regions.{environment_at}
use Rattle.p8_names.specs.Resolving.{HasMethods}
use Rattle.p8_names.proofs.Equal.{environments_equal}

pub methods_begin : (k : Kinds) (s : Setting) (ms : List MethodTree) → HasMethods k k s ms 0
methods_begin k s ms = record { file = λ n. refl; methods = λ j n l. absurd (omega (arith, l)); others = λ m n l. refl }

-- the own names of the method at hand
own_here : (old new : Kinds) (s : Setting) (ms : List MethodTree) (i : ℕ) (m : MethodTree) → slice_get ms i ≡ Some m → HasOwnKinds old new (i + 1) s m → (n : List ℕ) → own new (suc i) n ≡ own_kind s (slice_get ms i) n
own_here old new s ms i m at put n =
    let number : suc i ≡ i + 1 = omega arith in
    ap (λ j. own new j n) number ∙ put.here n ∙ ap (λ o. own_kind s o n) (sym at)

-- one method more, whose number is after those before it
pub methods_more : (initial old new : Kinds) (s : Setting) (ms : List MethodTree) (i : ℕ) (m : MethodTree) → slice_get ms i ≡ Some m → HasMethods initial old s ms i → HasOwnKinds old new (i + 1) s m → HasMethods initial new s ms (i + 1)
methods_more initial old new s ms i m at h put = record {
  file = λ n. put.others 0 n (λ e. omega (arith, e)) ∙ h.file n;
  methods = λ k n l. elim (cases_lt k i) [
    | inl before ↦ put.others (suc k) n (λ e. omega (arith, e, before)) ∙ h.methods k n before
    | inr not_before ↦
        let is : i ≡ k = omega (arith, l, not_before) in
        subst (λ (j : ℕ). own new (suc j) n ≡ own_kind s (slice_get ms j) n) is (own_here old new s ms i m at put n)
  ];
  others = λ k n l. put.others k n (λ e. omega (arith, e, l)) ∙ h.others k n (omega (arith, l));
}

-- faults go by the names of the whole file alone
pub fault_still : (old now publics now_publics : Kinds) (s t : Setting) (m : MethodTree) (told : Option Fault) → ((n : List ℕ) → own now 0 n ≡ own old 0 n) → now_publics ≡ publics → t ≡ s → IsFirstOf told (IsFaultIn now now_publics t m) → IsFirstOf told (IsFaultIn old publics s m)
fault_still old now publics now_publics s t m told file same is h =
    subst (λ env. IsFirstOf told (λ f. FaultInLocals (method_setting s m) m.locals f ⊎ MisuseInStatements env m.body f))
    (environments_equal (environment_in now now_publics s m) (environment_in old publics s m) (λ n. ap (or_else (lookup (bytes_eq n) (own_kinds s m))) (file n)) (λ item n. ap (λ k. own k item n) same) refl)
    (subst (λ (u : Setting). IsFirstOf told (IsFaultIn now now_publics u m)) is h)

pub lines_still : (old now publics now_publics : Kinds) (s t : Setting) (labels : List (List ℕ)) (xs : List Item) (told : Option Fault) → ((n : List ℕ) → own now 0 n ≡ own old 0 n) → now_publics ≡ publics → t ≡ s → IsFirstOf told (UnknownInLines (environment_at now now_publics t) labels xs) → IsFirstOf told (UnknownInLines (environment_at old publics s) labels xs)
lines_still old now publics now_publics s t labels xs told file same is h =
    let equal : ◌≡◌ {A = List (List ℕ) → Environment} (λ region. environment_at now now_publics s region) (λ region. environment_at old publics s region) =
    fun_ext (λ region. environments_equal (environment_at now now_publics s region) (environment_at old publics s region) (λ n. ap (or_else (local_label region n)) (file n)) (λ item n. ap (λ k. own k item n) same) refl) in
    subst (λ env. IsFirstOf told (UnknownInLines env labels xs)) equal (subst (λ (u : Setting). IsFirstOf told (UnknownInLines (environment_at now now_publics u) labels xs)) is h)
