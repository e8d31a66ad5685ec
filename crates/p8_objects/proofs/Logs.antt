-- What was read of a shelf, between two logs.
use Rattle.std.proofs.Common.{◌∙◌, ap, sym, subst, refl, ℕ, List, [], ◌++◌, Some, None, append_assoc}
use Rattle.std.proofs.lemmas.List.{append-nil}
use Rattle.p8_io.specs.Shelves.{Log, WereRead}

pub nothing-read : (log : Log) → WereRead log log []
nothing-read None = tt
nothing-read (Some names) = (names, refl, sym (append-nil names))

-- some names, and then more
pub read-both : (before between now : Log) (some more : List (List ℕ)) → WereRead before between some → WereRead between now more → WereRead before now (some ++ more)
read-both before between None some more first then_ = tt
read-both before between (Some names) some more first then_ =
    let begun = subst (λ (log : Log). WereRead before log some) then_.1 first in
    (begun.0, begun.1, then_.2 ∙ ap (λ (past : List (List ℕ)). past ++ more) begun.2 ∙ append_assoc begun.0 some more)
