-- The kinds of all names of a file, and the first of all faults.
use Rattle.std.proofs.Common.{◌≡◌, ℕ, zero, suc, ◌+◌, ◌≤◌, Bool, true, false, List, [], ◌∷◌, ◌++◌, length, Option, refl, ap, ◌∙◌, subst, arith, length-append}
use Rattle.std.specs.Prelude.{if◌then◌else◌}
use Rattle.p8_tree.specs.Sources.{MethodTree, Source}
use Rattle.p8_tree.specs.declared.faults.Fault.{Fault}
use Rattle.p8_tree.specs.Faults.{first_of_two}
use Rattle.p8_fold.specs.ConstantEntries.{setting_of}
use Rattle.p8_fold.specs.Meanings.{Setting}
use Rattle.p8_constants.specs.FileItems.{Item, constant, variable, object, method, line, items}
use Rattle.p8_constants.specs.Standing.{items_of, IsFirstOf}
use Rattle.p8_kinds.specs.declared.children.Children.{Children}
use Rattle.p8_kinds.specs.declared.kinds.Kinds.{Kinds}
use Rattle.p8_kinds.specs.Kinds.{own}
use Rattle.p8_names.specs.declared.beginning.Begun.{Begun}
use Rattle.p8_names.specs.Kinds.{methods, publics, privates, numbered, kinds}
use Rattle.p8_names.specs.Faults.{IsNameFault}
use Rattle.p8_names.specs.Resolution.{IsNamed}
use Rattle.p8_names.specs.Resolving.{BrokenBy, HasAllMethods}
use Rattle.p8_names.specs.Beginning.{IsBegun}
use Rattle.p8_names.proofs.AllFaults.{first_name_fault}

-- a method is numbered among the PUBs or among the PRIs
one_counted : (public : Bool) (m : MethodTree) (ps qs ms : List MethodTree) → length ps + length qs ≡ length ms → length ((if public then m ∷ [] else []) ++ ps) + length ((if public then [] else m ∷ []) ++ qs) ≡ length (m ∷ ms)
one_counted true m ps qs ms e = omega (arith, e)
one_counted false m ps qs ms e = omega (arith, e)

counted : (xs : List Item) → length (publics xs) + length (privates xs) ≡ length (methods xs)
counted [] = refl
counted (constant x ∷ xs) = counted xs
counted (variable x ∷ xs) = counted xs
counted (object x ∷ xs) = counted xs
counted (line x ∷ xs) = counted xs
counted (method m ∷ xs) = one_counted m.public m (publics xs) (privates xs) (methods xs) (counted xs)

all_numbered : (xs : List Item) → length (numbered xs) ≡ length (methods xs)
all_numbered xs = length-append (publics xs) (privates xs) ∙ counted xs

each_kind : (s : Setting) (xs : List Item) (old new : Kinds) → ((n : List ℕ) → own old 0 n ≡ kinds s xs 0 n) → HasAllMethods old new s (numbered xs) → (m : ℕ) (n : List ℕ) → m ≤ length (methods xs) → own new m n ≡ kinds s xs m n
each_kind s xs old new file h zero n l = h.file n ∙ file n
each_kind s xs old new file h (suc i) n l = h.methods i n (let e = all_numbered xs in omega (arith, l, e))

pub is_named : (file : Source) (children : Children) (top : Bool) (begun : Begun) (new : Kinds) → IsBegun file children begun → HasAllMethods begun.scope.kinds new (setting_of begun.scope.consts) (numbered (items_of begun.items.items)) → ((f : Fault) → ¬ IsNameFault file children top f) → IsNamed file children top new
is_named file children top begun new h k clean = record {
  setting = setting_of begun.scope.consts;
  right = h.setting;
  each = each_kind (setting_of begun.scope.consts) (items file) begun.scope.kinds new h.of_file (subst (λ xs. HasAllMethods begun.scope.kinds new (setting_of begun.scope.consts) (numbered xs)) h.all k);
  clean = clean;
}

pub first_of_all : (file : Source) (children : Children) (top : Bool) (begun : Begun) (fault broken told : Option Fault) → IsBegun file children begun → fault ≡ begun.fault → IsFirstOf broken (BrokenBy begun.scope.kinds begun.scope.publics (setting_of begun.scope.consts) (items_of begun.items.items) top) → told ≡ first_of_two fault broken → IsFirstOf told (IsNameFault file children top)
first_of_all file children top begun fault broken told h same all is =
    let s = setting_of begun.scope.consts in
    first_name_fault file children top s begun.scope.kinds begun.scope.publics begun.fault broken told h.setting (record { of_file = h.of_file; of_objects = h.publics }) (is ∙ ap (λ o. first_of_two o broken) same) h.constants
    (subst (λ xs. IsFirstOf broken (BrokenBy begun.scope.kinds begun.scope.publics s xs top)) h.all all)
