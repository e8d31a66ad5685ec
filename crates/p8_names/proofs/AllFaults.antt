-- All faults of a file's names, by one setting that is right and by the kinds in hand.
use Rattle.std.proofs.Common.{◌≡◌, ◌⊎◌, inl, inr, ℕ, Bool, List, Option, Some, None, refl, ap, sym, subst}
use mathlib.Core.Path.{fun_ext}
use Rattle.std.specs.Map.{lookup}
use Rattle.std.specs.Str.{bytes_eq}
use Rattle.p8_tree.specs.Sources.{MethodTree, Source}
use Rattle.p8_tree.specs.declared.faults.Fault.{Fault}
use Rattle.p8_tree.specs.Faults.{first_of_two}
use Rattle.p8_fold.specs.Meanings.{Setting}
use Rattle.p8_constants.specs.Constants.{IsConstantFault}
use Rattle.p8_constants.specs.FileItems.{Item, items}
use Rattle.p8_constants.specs.Standing.{IsFirstOf}
use Rattle.p8_kinds.specs.declared.children.Children.{Children}
use Rattle.p8_kinds.specs.declared.kinds.Kinds.{Kinds}
use Rattle.p8_kinds.specs.Environments.{Environment}
use Rattle.p8_kinds.specs.Kinds.{own, or_else}
use Rattle.p8_kinds.specs.Publics.{public_of}
use Rattle.p8_kinds.specs.Misuses.{MisuseInStatements}
use Rattle.p8_names.specs.Settings.{IsSetting, outside}
use Rattle.p8_names.specs.Kinds.{file_kind, own_kinds, method_setting, numbered}
use Rattle.p8_names.specs.Faults.{in_method, in_data, local_label, labels_ahead, InMethods, FaultInLocals, IsMethodFault, UnknownInLines, FaultBy, repeated, own_repeated, label_repeated, too_many_params, no_pub, count, instances, of_method, in_line, IsNameFault, of_constant, of_name}
use Rattle.p8_names.specs.Looking.{environment_in}
use Rattle.p8_names.specs.Regions.{environment_at}
use Rattle.p8_names.specs.Resolving.{MisusedBy, BrokenBy}
use Rattle.p8_names.proofs.Equal.{environments_equal}
use Rattle.p8_names.proofs.TwoFaults.{two_first}
use Rattle.p8_names.proofs.Settling.{one_setting}

-- the same faults have the same first one
pub first_same : {S T : Fault → Type 0} (o : Option Fault) → ((f : Fault) → S f → T f) → ((f : Fault) → T f → S f) → IsFirstOf o S → IsFirstOf o T
first_same None to from h = λ f t. h f (from f t)
first_same (Some g) to from h = record { holds = to g h.holds; first = λ f t. h.first f (from f t) }

-- kinds and PUBs in hand are those of the file
pub record AreOf (s : Setting) (xs : List Item) (children : Children) (kinds publics : Kinds) : Type 0 where
  pub of_file : (n : List ℕ) → own kinds 0 n ≡ file_kind s xs n
  pub of_objects : (item : ℕ) (n : List ℕ) → own publics item n ≡ public_of children item n

in_methods_same : (s : Setting) (xs : List Item) (children : Children) (kinds publics : Kinds) → AreOf s xs children kinds publics → ◌≡◌ {A = MethodTree → Environment} (λ m. environment_in kinds publics s m) (λ m. in_method s xs children m)
in_methods_same s xs children kinds publics h =
    fun_ext (λ m. environments_equal (environment_in kinds publics s m) (in_method s xs children m) (λ n. ap (or_else (lookup (bytes_eq n) (own_kinds s m))) (h.of_file n)) h.of_objects refl)

in_lines_same : (s : Setting) (xs : List Item) (children : Children) (kinds publics : Kinds) → AreOf s xs children kinds publics → ◌≡◌ {A = List (List ℕ) → Environment} (λ region. environment_at kinds publics s region) (λ region. in_data s xs children region)
in_lines_same s xs children kinds publics h =
    fun_ext (λ region. environments_equal (environment_at kinds publics s region) (in_data s xs children region) (λ n. ap (or_else (local_label region n)) (h.of_file n)) h.of_objects refl)

abbrev misused : Setting → List Item → (MethodTree → Environment) → (List (List ℕ) → Environment) → Fault → Type 0
misused s xs methods lines f =
    InMethods (λ m g. FaultInLocals (method_setting s m) m.locals g ⊎ MisuseInStatements (methods m) m.body g) (numbered xs) f ⊎ UnknownInLines lines (labels_ahead xs) xs f

misused_to : (s : Setting) (xs : List Item) (children : Children) (kinds publics : Kinds) → AreOf s xs children kinds publics → (f : Fault) → MisusedBy kinds publics s xs f → InMethods (IsMethodFault s xs children) (numbered xs) f ⊎ UnknownInLines (in_data s xs children) (labels_ahead xs) xs f
misused_to s xs children kinds publics h f m =
    subst (λ lines. misused s xs (λ m. in_method s xs children m) lines f) (in_lines_same s xs children kinds publics h)
    (subst (λ methods. misused s xs methods (λ region. environment_at kinds publics s region) f) (in_methods_same s xs children kinds publics h) m)

misused_from : (s : Setting) (xs : List Item) (children : Children) (kinds publics : Kinds) → AreOf s xs children kinds publics → (f : Fault) → InMethods (IsMethodFault s xs children) (numbered xs) f ⊎ UnknownInLines (in_data s xs children) (labels_ahead xs) xs f → MisusedBy kinds publics s xs f
misused_from s xs children kinds publics h f m =
    subst (λ lines. misused s xs (λ m. environment_in kinds publics s m) lines f) (sym (in_lines_same s xs children kinds publics h))
    (subst (λ methods. misused s xs methods (λ region. in_data s xs children region) f) (sym (in_methods_same s xs children kinds publics h)) m)

by_to : (s : Setting) (xs : List Item) (children : Children) (kinds publics : Kinds) (top : Bool) → AreOf s xs children kinds publics → (f : Fault) → BrokenBy kinds publics s xs top f → FaultBy s xs children top f
by_to s xs children kinds publics top h f (inl (inl (inl r))) = repeated r
by_to s xs children kinds publics top h f (inl (inl (inr (inl r)))) = own_repeated r
by_to s xs children kinds publics top h f (inl (inl (inr (inr r)))) = label_repeated r
by_to s xs children kinds publics top h f (inl (inr (inl (inl r)))) = too_many_params r
by_to s xs children kinds publics top h f (inl (inr (inl (inr r)))) = no_pub r
by_to s xs children kinds publics top h f (inl (inr (inr (inl r)))) = count r
by_to s xs children kinds publics top h f (inl (inr (inr (inr r)))) = instances r
by_to s xs children kinds publics top h f (inr m) = elim (misused_to s xs children kinds publics h f m) [ inl r ↦ of_method r | inr r ↦ in_line r ]

by_from : (s : Setting) (xs : List Item) (children : Children) (kinds publics : Kinds) (top : Bool) → AreOf s xs children kinds publics → (f : Fault) → FaultBy s xs children top f → BrokenBy kinds publics s xs top f
by_from s xs children kinds publics top h f (repeated r) = inl (inl (inl r))
by_from s xs children kinds publics top h f (own_repeated r) = inl (inl (inr (inl r)))
by_from s xs children kinds publics top h f (label_repeated r) = inl (inl (inr (inr r)))
by_from s xs children kinds publics top h f (too_many_params r) = inl (inr (inl (inl r)))
by_from s xs children kinds publics top h f (no_pub r) = inl (inr (inl (inr r)))
by_from s xs children kinds publics top h f (count r) = inl (inr (inr (inl r)))
by_from s xs children kinds publics top h f (instances r) = inl (inr (inr (inr r)))
by_from s xs children kinds publics top h f (of_method r) = inr (misused_from s xs children kinds publics h f (inl r))
by_from s xs children kinds publics top h f (in_line r) = inr (misused_from s xs children kinds publics h f (inr r))

name_to : (file : Source) (children : Children) (top : Bool) (s : Setting) (kinds publics : Kinds) → IsSetting file children.items s → AreOf s (items file) children kinds publics → (f : Fault) → IsConstantFault (outside file children.items) file f ⊎ BrokenBy kinds publics s (items file) top f → IsNameFault file children top f
name_to file children top s kinds publics right h f (inl c) = of_constant c
name_to file children top s kinds publics right h f (inr b) = of_name s right (by_to s (items file) children kinds publics top h f b)

name_from : (file : Source) (children : Children) (top : Bool) (s : Setting) (kinds publics : Kinds) → IsSetting file children.items s → AreOf s (items file) children kinds publics → (f : Fault) → IsNameFault file children top f → IsConstantFault (outside file children.items) file f ⊎ BrokenBy kinds publics s (items file) top f
name_from file children top s kinds publics right h f (of_constant c) = inl c
name_from file children top s kinds publics right h f (of_name t also by) =
    inr (by_from s (items file) children kinds publics top h f (subst (λ u. FaultBy u (items file) children top f) (one_setting file children.items t s also right) by))

-- the first fault of constants and that of all else
pub first_name_fault : (file : Source) (children : Children) (top : Bool) (s : Setting) (kinds publics : Kinds) (a b r : Option Fault) → IsSetting file children.items s → AreOf s (items file) children kinds publics → r ≡ first_of_two a b → IsFirstOf a (IsConstantFault (outside file children.items) file) → IsFirstOf b (BrokenBy kinds publics s (items file) top) → IsFirstOf r (IsNameFault file children top)
first_name_fault file children top s kinds publics a b r right h is constants all =
    first_same r (name_to file children top s kinds publics right h) (name_from file children top s kinds publics right h)
    (two_first (IsConstantFault (outside file children.items) file) (BrokenBy kinds publics s (items file) top) a b is constants all)
