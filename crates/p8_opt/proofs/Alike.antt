-- Settings that give each expression the same value.
use Rattle.std.proofs.Common.{◌≡◌, ℕ, ◌==◌, if◌then◌else◌, None, List, refl, ap, ◌∙◌}
use Rattle.p8_tree.specs.Expressions.{Tree, node, Form, Number, Str, Strings, Here, Var, Call, Unary, Binary, Assign, Change, Address, ObjectAddress, ObjConst, Built, Look, Variable, Named, Part, Memory, Register, no_index, index, whole, bits, Trees, no_trees, ◌▷◌}
use Rattle.p8_fold.specs.Meanings.{Setting, meaning_of, value_of_meaning, address_of_meaning, given}
use Rattle.p8_fold.specs.Values.{constant_of, before, between, value, value_of_form, value_of_variable, value_of_register, address_of, value_of_one}

pub record Alike (s t : Setting) : Type 0 where
  pub names : (n : List ℕ) → given value_of_meaning (meaning_of s n) ≡ given value_of_meaning (meaning_of t n)
  pub addresses : (n : List ℕ) → given address_of_meaning (meaning_of s n) ≡ given address_of_meaning (meaning_of t n)
  pub constants : (object n : List ℕ) → constant_of s (meaning_of s object) object n ≡ constant_of t (meaning_of t object) object n
  pub here : s.here ≡ t.here

module _ (s t : Setting) (alike : Alike s t) where
  variable-alike : (v : Variable) → value_of_variable s v ≡ value_of_variable t v
  variable-alike (Named n no_index place) = alike.names n
  variable-alike (Named n (index e) place) = refl
  variable-alike (Part n size i place) = refl
  variable-alike (Memory size e i place) = refl
  variable-alike (Register address whole place) = ap (λ h. value_of_register h address) alike.here
  variable-alike (Register address (bits x) place) = refl

  address-alike : (v : Variable) → address_of s v ≡ address_of t v
  address-alike (Named n no_index place) = alike.addresses n
  address-alike (Named n (index e) place) = refl
  address-alike (Part n size i place) = refl
  address-alike (Memory size e i place) = refl
  address-alike (Register address x place) = refl

  mutual
    pub value-alike : (e : Tree) → value s e ≡ value t e
    value-alike (node place form) = form-alike form

    form-alike : (form : Form) → value_of_form s form ≡ value_of_form t form
    form-alike (Number n) = refl
    form-alike (Str text) = refl
    form-alike (Strings es) = refl
    form-alike Here = ap (λ h. h.address) alike.here
    form-alike (Var v) = variable-alike v
    form-alike (Call trap object i n place args) = refl
    form-alike (Unary operator e) = ap (before operator) (value-alike e)
    form-alike (Binary operator a b) = ap (λ x. between operator x (value s b)) (value-alike a) ∙ ap (between operator (value t a)) (value-alike b)
    form-alike (Assign v operator e) = refl
    form-alike (Change v effect) = refl
    form-alike (Address v) = address-alike v
    form-alike (ObjectAddress e) = refl
    form-alike (ObjConst object name place) = alike.constants object name
    form-alike (Built code args) = ap (λ r. if code == 0 then r else None) (one-alike args)
    form-alike (Look code e xs) = refl

    one-alike : (args : Trees) → value_of_one s args ≡ value_of_one t args
    one-alike no_trees = refl
    one-alike (no_trees ▷ e) = value-alike e
    one-alike (es ▷ d ▷ e) = refl
