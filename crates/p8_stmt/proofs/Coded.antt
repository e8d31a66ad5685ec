-- What is written of a method, and when it is refused.
use Rattle.std.proofs.Common.{◌≡◌, ℕ, ◌+◌, ◌-◌, ◌*◌, ◌^◌, ◌<◌, ◌≤◌, ◌||◌, nat_lt, nat_le, Bool, true, false, List, [], ◌∷◌, map, length, refl, sym, ap, ap₂, ◌∙◌, subst, arith}
use Rattle.std.specs.Prelude.{Contains, All, flat_map}
use Rattle.std.proofs.lemmas.Bool.Decides.{nat_tests}
use Rattle.p8_tree.specs.declared.places.Place.{Place}
use Rattle.p8_tree.specs.Sources.{MethodTree}
use Rattle.p8_tree.specs.Statements.{Statements}
use Rattle.p8_bytecode.specs.declared.op.Op.{Op}
use Rattle.p8_tree.specs.declared.faults.Fault.{Fault}
use Rattle.p8_tree.specs.Faults.{IsFirstFault}
use Rattle.p8_tree.proofs.Firsts.{IsFirstFault-along}
use Rattle.p8_gen.specs.Depths.{held_in}
use Rattle.p8_gen.specs.Methods.{method_code}
use Rattle.p8_gen.specs.Names.{Names, widened}
use Rattle.p8_gen.specs.Operations.{IsWhole}
use Rattle.p8_stmt.specs.Cutting.{cut, cut_longs}
use Rattle.p8_stmt.specs.Methods.{longs_in, most_longs, most_held, AreResolved, IsMethodFault, IsCodeOf}
use Rattle.p8_stmt.specs.declared.code.MethodCode.{MethodCode}
use Rattle.p8_stmt.specs.Spelled.{placed}
use Rattle.p8_gen.specs.Uses.{line_of, use_of}
use Rattle.p8_bytecode.specs.Spelling.{spelled}
use Rattle.p8_stmt.specs.Telling.{faults_of}
use Rattle.p8_stmt.proofs.Telling.{to_fault, from_fault}
use Rattle.p8_stmt.proofs.Whole.{method_whole}

-- ---- what is too large, by numbers that stop at a limit

is_less : (a b : ℕ) → a < b → nat_lt a b ≡ true
is_less a b h = grind (arith, nat_tests)

isnt_less : (a b : ℕ) → nat_lt a b ≡ false → b ≤ a
isnt_less a b h = grind (arith, nat_tests)

is_most : (a b : ℕ) → nat_le a b ≡ true → a ≤ b
is_most a b h = grind (arith, nat_tests)

isnt_most : (a b : ℕ) → nat_le a b ≡ false → b < a
isnt_most a b h = grind (arith, nat_tests)

same_longs : (p l : ℕ) → nat_lt most_longs (1 + p + cut_longs l) ≡ nat_lt most_longs (1 + p + l)
same_longs p l = go (nat_le l (2 ^ 32 - 1)) refl
  where
    go : (t : Bool) → nat_le l (2 ^ 32 - 1) ≡ t → nat_lt most_longs (1 + p + cut_longs l) ≡ nat_lt most_longs (1 + p + l)
    go true h = let few = is_most l (2 ^ 32 - 1) h in ap (λ k. nat_lt most_longs (1 + p + k)) (omega (arith, few))
    go false h =
        let many = isnt_most l (2 ^ 32 - 1) h in
        is_less most_longs (1 + p + cut_longs l) (omega (arith, many)) ∙ sym (is_less most_longs (1 + p + l) (omega (arith, many)))

same_held : (h : ℕ) → nat_lt most_held (cut h) ≡ nat_lt most_held h
same_held h = go (nat_le h (2 ^ 16 - 1)) refl
  where
    go : (t : Bool) → nat_le h (2 ^ 16 - 1) ≡ t → nat_lt most_held (cut h) ≡ nat_lt most_held h
    go true i = let few = is_most h (2 ^ 16 - 1) i in ap (nat_lt most_held) (omega (arith, few))
    go false i = let many = isnt_most h (2 ^ 16 - 1) i in is_less most_held (cut h) (omega (arith, many)) ∙ sym (is_less most_held h (omega (arith, many)))

pub same_size : (p l h : ℕ) {longs held : ℕ} {large : Bool} → longs ≡ cut_longs l → held ≡ cut h → large ≡ (nat_lt most_longs (1 + p + longs) || nat_lt most_held held) → large ≡ (nat_lt most_longs (1 + p + l) || nat_lt most_held h)
same_size p l h ls hs is =
    is ∙ ap₂ (λ a b. nat_lt most_longs (1 + p + a) || nat_lt most_held b) ls hs ∙ ap₂ (λ t u. t || u) (same_longs p l) (same_held h)

neither_left : (t u : Bool) → false ≡ (t || u) → t ≡ false
neither_left false u h = refl
neither_left true u h = absurd cc

neither_right : (t u : Bool) → false ≡ (t || u) → u ≡ false
neither_right false u h = sym h
neither_right true u h = absurd cc

-- ---- a method without a fault

-- what is resolved is so whatever jumps are wide
pub widened_resolved : (n : Names) (wide : ℕ → Bool) (ss : Statements) → AreResolved n ss → AreResolved (widened n wide) ss
widened_resolved n wide ss is = record {
  proper = is.proper;
  bytes = record { kinds = is.bytes.kinds; publics = is.bytes.publics };
  environment = is.environment;
  kinds = is.kinds;
  clean = is.clean;
}

no_places : (ps : List Place) (name : Place) (large : Bool) → faults_of ps name large ≡ [] → ps ≡ []
no_places [] name large h = refl
no_places (p ∷ ps) name large h = absurd cc

not_large : (ps : List Place) (name : Place) (large : Bool) → faults_of ps name large ≡ [] → false ≡ large
not_large [] name false h = refl
not_large [] name true h = absurd cc
not_large (p ∷ ps) name large h = absurd cc

module _ (n : Names) (m : MethodTree) {longs held : ℕ} {large : Bool} {far : List Place} (l_is : longs ≡ cut_longs (longs_in n.constants m.locals)) (h_is : held ≡ cut (held_in n m.body))
    (is : large ≡ (nat_lt most_longs (1 + length m.params + longs) || nat_lt most_held held)) (far_is : far ≡ (method_code n m.body).too_far) where
  sized : large ≡ (nat_lt most_longs (1 + length m.params + longs_in n.constants m.locals) || nat_lt most_held (held_in n m.body))
  sized = same_size (length m.params) (longs_in n.constants m.locals) (held_in n m.body) l_is h_is is

  pub first_is : (f : Fault) → IsFirstFault (Contains (faults_of far m.place large)) f → IsFirstFault (IsMethodFault n m) f
  first_is f h =
      IsFirstFault-along (to_fault n m _ _ refl refl large sized) (from_fault n m _ _ refl refl large sized)
      (subst (λ ps. IsFirstFault (Contains (faults_of ps m.place large)) f) far_is h)

  module _ (clean : faults_of far m.place large ≡ []) where
    small_frame : 1 + length m.params + longs ≤ most_longs
    small_frame = isnt_less most_longs (1 + length m.params + longs) (neither_left _ _ (not_large far m.place large clean ∙ is))

    pub longs_are : longs ≡ longs_in n.constants m.locals
    longs_are = let small = small_frame in omega (arith, small, l_is)

    pub held_is : held ≡ held_in n m.body
    held_is = let small = isnt_less most_held held (neither_right _ _ (not_large far m.place large clean ∙ is)) in omega (arith, small, h_is)

    pub no_fault : (f : Fault) → ¬ IsMethodFault n m f
    no_fault f is_fault = nowhere f (subst (λ fs. Contains fs f) (ap (λ ps. faults_of ps m.place large) (sym far_is) ∙ clean) (from_fault n m _ _ refl refl large sized f is_fault))
      where
        nowhere : (f : Fault) → ¬ Contains [] f
        nowhere f (k, lt, same) = absurd (omega arith)

    pub ops_whole : {ops : List Op} → ops ≡ (method_code n m.body).ops → AreResolved n m.body → All IsWhole ops
    ops_whole os resolved = subst (All IsWhole) (sym os) ((method_whole n m.body resolved).each (sym far_is ∙ no_places far m.place large clean))

    pub is_code : {ops : List Op} {texts : List (ℕ × Place)} (code : MethodCode) → ops ≡ (method_code n m.body).ops → texts ≡ (method_code n m.body).texts →
        code.bytes ≡ flat_map spelled ops → map use_of code.strings ≡ map (placed ops) texts → code.locals ≡ 4 * longs → code.depth ≡ held
        → map line_of code.lines ≡ (method_code n m.body).lines → IsCodeOf n m code
    is_code code os ts b u l d lines = record {
      bytes = b ∙ ap (flat_map spelled) os;
      locals = l ∙ ap (λ k. 4 * k) longs_are;
      depth = d ∙ held_is;
      strings = u ∙ ap₂ (λ os ts. map (placed os) ts) os ts;
      lines = lines;
    }
