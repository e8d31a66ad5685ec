-- Two ways to cut one list.
use Rattle.std.proofs.Common.{◌≡◌, List, [], ◌∷◌, ◌++◌, refl, sym}

-- the first part of the one is that of the other, or has it inside, or stands inside it
pub data Compared {X : Type 0} (us rest xs ys : List X) : Type 0 where
  same : us ≡ xs → rest ≡ ys → Compared us rest xs ys
  beyond : (t : X) (more : List X) → us ≡ xs ++ t ∷ more → ys ≡ t ∷ (more ++ rest) → Compared us rest xs ys
  short : (t : X) (more : List X) → xs ≡ us ++ t ∷ more → rest ≡ t ∷ (more ++ ys) → Compared us rest xs ys

pub compare : {X : Type 0} (us rest xs ys : List X) → us ++ rest ≡ xs ++ ys → Compared us rest xs ys
compare [] rest [] ys e = same refl e
compare [] rest (x ∷ xs) ys e = short x xs refl e
compare (u ∷ us) rest [] ys e = beyond u us refl (sym e)
compare {X = X} (u ∷ us) rest (x ∷ xs) ys e = go (compare us rest xs ys tails)
  where
    heads : u ≡ x
    heads = cc

    tails : us ++ rest ≡ xs ++ ys
    tails = cc

    go : Compared us rest xs ys → Compared (u ∷ us) rest (x ∷ xs) ys
    go (same a b) = same (λ i. heads i ∷ a i) b
    go (beyond t more a b) = beyond t more (λ i. heads i ∷ a i) b
    go (short t more a b) = short t more (λ i. sym heads i ∷ a i) b
