-- The first method of a project.
use Rattle.std.proofs.Common.{◌≡◌, Bool, true, false, ◌&&◌, ◌||◌, not, if◌then◌else◌, List, [], ◌∷◌, ◌++◌, slice_get, Some, refl, sym, ap, ◌∙◌, subst}
use Rattle.std.specs.Prelude.{IsTrue}
use Rattle.std.proofs.lemmas.Option.{same_Some, none-some}
use Rattle.p8_tree.specs.Sources.{MethodTree, Source}
use Rattle.p8_tree.specs.Faults.{fault}
use Rattle.p8_tree.specs.declared.refusal.Refusal.TheVariants.{NoPub}
use Rattle.p8_constants.specs.FileItems.{Item, constant, variable, object, method, line, items}
use Rattle.p8_constants.specs.Rules.{has_public}
use Rattle.p8_kinds.specs.declared.children.Children.{Children}
use Rattle.p8_kinds.specs.declared.kinds.Kinds.{Kinds}
use Rattle.p8_names.specs.Kinds.{publics, privates, numbered}
use Rattle.p8_names.specs.Faults.{of_name, no_pub}
use Rattle.p8_names.specs.Resolution.{IsNamed}
use Rattle.p8_image.specs.declared.parts.MethodPart.{MethodPart}
use Rattle.p8_image.specs.declared.parts.ObjectPart.{ObjectPart}
use Rattle.p8_image.specs.Projects.{IsMain, HasMain, BeginsWithMain}

nothing-public : (b : Bool) (m : MethodTree) (ps : List MethodTree) (rest : Bool) → (if b then m ∷ [] else []) ++ ps ≡ [] → (ps ≡ [] → rest ≡ false) → (b || rest) ≡ false
nothing-public true m ps rest is others = absurd (cc)
nothing-public false m ps rest is others = others is

no-publics : (xs : List Item) → publics xs ≡ [] → has_public xs ≡ false
no-publics [] is = refl
no-publics (constant x ∷ xs) is = no-publics xs is
no-publics (variable x ∷ xs) is = no-publics xs is
no-publics (object x ∷ xs) is = no-publics xs is
no-publics (method m ∷ xs) is = nothing-public m.public m (publics xs) (has_public xs) is (no-publics xs)
no-publics (line x ∷ xs) is = no-publics xs is

first-by : (ps qs : List MethodTree) → (ps ≡ [] → ⊥) → (m : MethodTree) × (slice_get (ps ++ qs) 0 ≡ Some m)
first-by [] qs some = absurd (some refl)
first-by (m ∷ ps) qs some = (m, refl)

has-one : (b : Bool) → (IsTrue (true && not b) → ⊥) → b ≡ true
has-one true never = refl
has-one false never = absurd (never refl)

-- the top file has a first method
pub first-method : (source : Source) (children : Children) (found : Kinds) → IsNamed source children true found → (m : MethodTree) × (slice_get (numbered (items source)) 0 ≡ Some m)
first-method source children found named =
    let some : has_public (items source) ≡ true = has-one (has_public (items source))
    (λ none. named.clean (fault NoPub (record { line = 1; column = 1 })) (of_name named.setting named.right (no_pub (none, refl)))) in
    first-by (publics (items source)) (privates (items source)) (λ none. let never : true ≡ false = sym some ∙ no-publics (items source) none in cc)

has-main : (ms : List MethodPart) (m : MethodPart) → slice_get ms 0 ≡ Some m → IsMain m → HasMain ms
has-main [] m is main = absurd (none-some m is)
has-main (x ∷ ms) m is main = subst IsMain (sym (same_Some x m is)) main

pub begins-with : (os : List ObjectPart) (top : ObjectPart) (m : MethodPart) → slice_get os 0 ≡ Some top → slice_get top.methods 0 ≡ Some m → IsMain m → BeginsWithMain os
begins-with [] top m is first main = absurd (none-some top is)
begins-with (x ∷ os) top m is first main = has-main x.methods m (ap (λ (o : ObjectPart). slice_get o.methods 0) (same_Some x top is) ∙ first) main
