-- The variables of a wave in parts, each of one scope.
use Rattle.std.proofs.Common.{◌≡◌, ◌∙◌, refl, sym, ap, ℕ, List, [], ◌∷◌, ◌++◌, map, nat_eq, Bool, true, false, ◌||◌, arith}
use Rattle.std.specs.List.{list_any, flat_map}
use Rattle.std.proofs.lemmas.List.{append-nil, map-append}
use Rattle.std.proofs.lemmas.List.Concat.{flat_map-append}
use Rattle.std.proofs.lemmas.List.Folds.{list_any-append}
use Rattle.std.proofs.lemmas.Bool.Decides.{nat_tests}
use Rattle.p8_wave.specs.declared.entries.Entry.{Entry}
use Rattle.p8_wave.specs.declared.snapshot.Snapshot.{Snapshot}
use Rattle.p8_wave.specs.declared.variables.Scope.{Scope}
use Rattle.p8_wave.specs.declared.variables.Scope.TheVariants.{Pins, Cog, Locks}
use Rattle.p8_wave.specs.declared.variables.Variable.{Variable}
use Rattle.p8_wave.specs.declared.variables.Variable.TheVariants.{Pin}
use Rattle.p8_wave.specs.Variables.{cog_variables, lock_variables, is_in}
use Rattle.p8_wave.specs.Following.{differs}
use Rattle.p8_wave.specs.Sections.{still, marked, some_differ, change_text}
use Rattle.p8_wave.specs.Parts.{AreInside, together}

-- what is in a part stays in its scope
pub inside-marked : (old new : Snapshot) (scope : Scope) (entries : List Entry) → AreInside scope entries → AreInside scope (map (marked old new) entries)
inside-marked old new scope [] inside = tt
inside-marked old new scope (e ∷ entries) (is, inside) = (is, inside-marked old new scope entries inside)

pub inside-pins : (ns : List ℕ) → AreInside Pins (map (λ (n : ℕ). still (Pin n)) ns)
inside-pins [] = tt
inside-pins (n ∷ ns) = (refl, inside-pins ns)

pub inside-cog : (n : ℕ) → AreInside (Cog n) (map still (cog_variables n))
inside-cog n = let same : nat_eq n n ≡ true = grind (arith, nat_tests) in (same, (same, (same, tt)))

pub inside-locks : (ns : List ℕ) → AreInside Locks (flat_map (λ (n : ℕ). map still (lock_variables n)) ns)
inside-locks [] = tt
inside-locks (n ∷ ns) = (refl, (refl, inside-locks ns))

-- a part of a scope in which nothing differs
module _ (old new : Snapshot) (scope : Scope) (same : (v : Variable) → is_in scope v ≡ true → differs old new v ≡ false) where
  pub part-kept : (entries : List Entry) → AreInside scope entries → map (marked old new) entries ≡ entries
  part-kept [] inside = refl
  part-kept (e ∷ entries) (is, inside) = rw (same e.variable is, part-kept entries inside) refl

  pub part-silent : (entries : List Entry) → AreInside scope entries → some_differ old new entries ≡ false
  part-silent [] inside = refl
  part-silent (e ∷ entries) (is, inside) = rw (same e.variable is, part-silent entries inside) refl

  pub part-textless : (entries : List Entry) → AreInside scope entries → flat_map (change_text old new) entries ≡ []
  part-textless [] inside = refl
  part-textless (e ∷ entries) (is, inside) = rw (same e.variable is, part-textless entries inside) refl

-- all parts together
pub together-map : (f : Entry → Entry) (parts : List (List Entry)) → together (map (map f) parts) ≡ map f (together parts)
together-map f [] = refl
together-map f (entries ∷ parts) = ap (λ (xs : List Entry). map f entries ++ xs) (together-map f parts) ∙ sym (map-append f entries (together parts))

pub together-any : (old new : Snapshot) (parts : List (List Entry)) → list_any (some_differ old new) parts ≡ some_differ old new (together parts)
together-any old new [] = refl
together-any old new (entries ∷ parts) =
    ap (λ (b : Bool). some_differ old new entries || b) (together-any old new parts) ∙ sym (list_any-append (λ (e : Entry). differs old new e.variable) entries (together parts))

pub together-texts : (f : Entry → List ℕ) (parts : List (List Entry)) → flat_map (flat_map f) parts ≡ flat_map f (together parts)
together-texts f [] = refl
together-texts f (entries ∷ parts) = ap (λ (xs : List ℕ). flat_map f entries ++ xs) (together-texts f parts) ∙ sym (flat_map-append f entries (together parts))

pub together-more : (parts : List (List Entry)) (entries : List Entry) → together (parts ++ entries ∷ []) ≡ together parts ++ entries
together-more parts entries = flat_map-append (λ (xs : List Entry). xs) parts (entries ∷ []) ∙ ap (λ (xs : List Entry). together parts ++ xs) (append-nil entries)
