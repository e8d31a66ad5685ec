-- Settings: which hold values, and which are DAT.
use Rattle.std.proofs.Common.{◌≡◌, refl}
use Rattle.std.specs.Prelude.{IsTrue, not}
use Rattle.p8_grammar.specs.Lexemes.{Setting, in_method, in_action, is_value, inside, behind, is_dat, Access, memory, pins, is_written, is_in}

-- no setting is one of values and one of actions
pub clash : (s : Setting) → IsTrue (is_value s) → IsTrue (not (is_value s)) → ⊥
clash in_action v d = cc
clash s v d = cc

pub inside_value : (s : Setting) → IsTrue (is_value (inside s))
inside_value in_method = refl
inside_value s = refl

pub behind_value : (s : Setting) → IsTrue (is_value (behind s))
behind_value in_method = refl
behind_value s = refl

pub behind_dat : (s : Setting) → is_dat (behind s) ≡ is_dat s
behind_dat in_method = refl
behind_dat s = refl

pub inside_dat : (s : Setting) → is_dat (inside s) ≡ is_dat s
inside_dat in_method = refl
inside_dat s = refl

pub behind_same : (s : Setting) → IsTrue (is_value s) → behind s ≡ s
behind_same in_action h = absurd cc
behind_same s h = refl

-- what stands in an action is written
pub in_written : (s : Setting) (x : Access) → IsTrue (not (is_value s)) → IsTrue (is_in s x) → IsTrue (is_written x)
in_written s memory d i = refl
in_written s pins d i = refl
in_written in_action x d i = absurd cc
in_written s x d i = absurd cc
