-- The least set of jumps of a method with two bytes for their offset, and the short code of a method.
-- That it is the least set is this project's profile.
use Rattle.std.specs.Prelude.{◌≡◌, ℕ, Bool, true, List, [], length, slice_get, Some}
use Rattle.p8_tree.specs.Sources.{MethodTree}
use Rattle.p8_tree.specs.Statements.{Statements}
use Rattle.p8_gen.specs.Methods.{method_code}
use Rattle.p8_gen.specs.Names.{Names, widened, wide_in}
use Rattle.p8_stmt.specs.Methods.{IsCodeOf, rebodied}
use Rattle.p8_stmt.specs.declared.code.MethodCode.{MethodCode}

-- with these jumps wide no offset of the code is too far for its bytes
abbrev pub Fits : Names → Statements → (wide : ℕ → Bool) → Type 0
Fits names ss wide = (method_code (widened names wide) ss).too_far ≡ []

-- The least choice of wide jumps, with an entry for each jump in the order in which they are written: each offset fits,
-- and every choice by which each one does has all the wide jumps of this one.
pub record IsLeast (names : Names) (ss : Statements) (widths : List Bool) : Type 0 where
  pub count : length widths ≡ (method_code names ss).jumps
  pub fits : Fits names ss (wide_in widths)
  pub least : (other : List Bool) → length other ≡ length widths → Fits names ss (wide_in other) → (k : ℕ) → slice_get widths k ≡ Some true →
      slice_get other k ≡ Some true

-- this is the short code of a method with this body
pub record IsShortCode (names : Names) (m : MethodTree) (ss : Statements) (code : MethodCode) : Type 0 where
  pub widths : List Bool
  pub least : IsLeast names ss widths
  pub code_is : IsCodeOf (widened names (wide_in widths)) (rebodied m ss) code
