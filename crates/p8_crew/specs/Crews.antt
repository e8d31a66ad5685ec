-- internal
-- The jobs of a crew, and which passes are back.
use Rattle.std.specs.Prelude.{ℕ, suc, ◌≡◌, ◌<◌, ◌≤◌, List, [], ◌∷◌, Option, Some, slice_get}
use Rattle.p8_crew.specs.declared.job.CogJob.{CogJob}
use Rattle.p8_desk.specs.PassSets.{IsOut}
use Rattle.p8_desk.specs.Passes.{DeskValue, PassValue, Owns}

-- the job of a cog at a desk
pub record IsJob (desk : DeskValue) (n : ℕ) (job : CogJob) : Type 0 where
  pub desk_is : job.desk.value ≡ desk
  pub owns : Owns desk job.pass
  pub cog : job.pass.cog ≡ n

-- the jobs of the cogs from n on, one after the other
abbrev pub AreJobs : DeskValue → ℕ → List CogJob → Type 0
AreJobs desk n [] = Unit {0}
AreJobs desk n (job ∷ jobs) = IsJob desk n job × AreJobs desk (suc n) jobs

-- the pass of a cog is there, and the desk owns it
pub record IsThere (desk : DeskValue) (places : List (Option PassValue)) (n : ℕ) : Type 0 where
  pub pass : PassValue
  pub at : slice_get places n ≡ Some (Some pass)
  pub owns : Owns desk pass
  pub cog : pass.cog ≡ n

-- of the eight passes those of the cogs from `low` on and below `high` are there, and no others
pub record AreThere (desk : DeskValue) (low high : ℕ) (places : List (Option PassValue)) : Type 0 where
  pub inside : (n : ℕ) → low ≤ n → n < high → IsThere desk places n
  pub before : (n : ℕ) → n < low → IsOut n places
  pub behind : (n : ℕ) → high ≤ n → n < 8 → IsOut n places
