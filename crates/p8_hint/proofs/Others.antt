-- Forms of which a rule says nothing.
use Rattle.std.proofs.Common.{◌≡◌, ℕ, false, List, [], None, refl}
use Rattle.p8_tree.specs.declared.places.Place.{Place}
use Rattle.p8_tree.specs.declared.expressions.ExprKind as kind
use Rattle.p8_tree.specs.declared.expressions.Target.{Target}
use Rattle.p8_tree.specs.declared.expressions.Call as call
use Rattle.p8_tree.specs.Expressions.{node}
use Rattle.p8_tree.specs.Views.{form_of, call_of}
use Rattle.p8_hint.specs.Rules.{Facts, begun_name, in_port, in_test, is_plain, of_source, of_stack}

pub port_other : (p : Place) (k : kind.ExprKind) → ((n : ℕ) → k ≡ kind.Number n → ⊥) → [] ≡ in_port (node p (form_of k))
port_other p (kind.Number n) h = absurd (h n refl)
port_other p (kind.Call (call.Call' t o i m q shape row)) h = refl
port_other p _ h = refl

pub source_other : (f : Facts) (w : List ℕ) (p q : Place) (k : kind.ExprKind) → ((n : ℕ) → k ≡ kind.Number n → ⊥) → ((v : Target) → k ≡ kind.Var v → ⊥) → [] ≡ of_source f w p (node q (form_of k))
source_other f w p q (kind.Number n) h g = absurd (h n refl)
source_other f w p q (kind.Var v) h g = absurd (g v refl)
source_other f w p q (kind.Call (call.Call' t o i m r shape row)) h g = refl
source_other f w p q _ h g = refl

pub stack_other : (f : Facts) (needed : ℕ) (p : Place) (k : kind.ExprKind) → ((n : ℕ) → k ≡ kind.Number n → ⊥) → ((v : Target) → k ≡ kind.Var v → ⊥) → ((v : Target) → k ≡ kind.Address v → ⊥) → [] ≡ of_stack f needed (node p (form_of k))
stack_other f needed p (kind.Number n) h g a = absurd (h n refl)
stack_other f needed p (kind.Var v) h g a = absurd (g v refl)
stack_other f needed p (kind.Address v) h g a = absurd (a v refl)
stack_other f needed p (kind.Call (call.Call' t o i m r shape row)) h g a = refl
stack_other f needed p _ h g a = refl

pub plain_other : (f : Facts) (p : Place) (k : kind.ExprKind) → ((n : ℕ) → k ≡ kind.Number n → ⊥) → ((object name : List ℕ) (q : Place) → k ≡ kind.ObjConst object name q → ⊥) → ((v : Target) → k ≡ kind.Var v → ⊥) → false ≡ is_plain f (node p (form_of k))
plain_other f p (kind.Number n) h o g = absurd (h n refl)
plain_other f p (kind.ObjConst object name q) h o g = absurd (o object name q refl)
plain_other f p (kind.Var v) h o g = absurd (g v refl)
plain_other f p (kind.Call (call.Call' t ob i m r shape row)) h o g = refl
plain_other f p _ h o g = refl

pub begun_other : (p : Place) (k : kind.ExprKind) → ((x : call.Call) → k ≡ kind.Call x → ⊥) → ((v : Target) → k ≡ kind.Var v → ⊥) → None ≡ begun_name (node p (form_of k))
begun_other p (kind.Call x) h g = absurd (h x refl)
begun_other p (kind.Var v) h g = absurd (g v refl)
begun_other p _ h g = refl

-- a call is no assignment
pub call_tested : (f : Facts) (p : Place) (x : call.Call) → [] ≡ in_test f (node p (call_of x))
call_tested f p (call.Call' t o i m r shape row) = refl
