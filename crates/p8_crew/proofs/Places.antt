-- Which passes are there while jobs are made and while they come back, and the jobs themselves.
use Rattle.std.proofs.Common.{◌≡◌, ◌≢◌, ◌∙◌, ap, sym, subst, refl, ℕ, suc, ◌+◌, ◌<◌, ◌≤◌, List, [], ◌∷◌, ◌++◌, Option, Some, None, length, arith}
use Rattle.std.specs.Prelude.{slice_get, slice_set}
use mathlib.Core.Logic.{dite, inr}
use native.Mathlib.Decide.{ℕ_discrete}
use Rattle.p8_crew.specs.declared.job.CogJob.{CogJob}
use Rattle.p8_crew.specs.Crews.{IsJob, AreJobs, IsThere, AreThere}
use Rattle.p8_crew.specs.Jobs.{ComesBack}
use Rattle.p8_desk.specs.PassSets.{AllThere, IsOut}
use Rattle.p8_desk.specs.Passes.{DeskValue, PassValue, Owns}
use Rattle.p8_desk.proofs.Gathering.{set-beside, set-there, at-below, some-some}

-- a place keeps what stands there where another one is written
kept : (places next : List (Option PassValue)) (k n : ℕ) (x : Option PassValue) → next ≡ slice_set places k x → n ≢ k → slice_get next n ≡ slice_get places n
kept places next k n x is apart = ap (λ (l : List (Option PassValue)). slice_get l n) is ∙ set-beside places k n x apart

-- what is written stands there, where something stood there before
written : (places next : List (Option PassValue)) (k : ℕ) (x y : Option PassValue) → next ≡ slice_set places k x → slice_get places k ≡ Some y → slice_get next k ≡ Some x
written places next k x y is was = ap (λ (l : List (Option PassValue)). slice_get l k) is ∙ set-there places k x (at-below places k y was)

length-end : (jobs : List CogJob) (job : CogJob) → length (jobs ++ job ∷ []) ≡ length jobs + 1
length-end [] job = refl
length-end (first ∷ jobs) job = let rest = length-end jobs job in omega (arith, rest)

pub count-last : (all jobs : List CogJob) (job : CogJob) → all ≡ jobs ++ job ∷ [] → length all ≡ length jobs + 1
count-last all jobs job is = ap length is ∙ length-end jobs job

-- a ticket is seen as the pass that its job had
pub of-ticket : (ticket given back : PassValue) → ticket ≡ given → ComesBack ticket back → ComesBack given back
of-ticket ticket given back same comes = subst (λ (p : PassValue). ComesBack p back) same comes

-- a pass comes back as it was
pub unchanged : (given : PassValue) → ComesBack given given
unchanged given = record { world = refl; table = refl; cog = refl; over = inr refl }

module _ (desk : DeskValue) where
  there-still : (places next : List (Option PassValue)) (n : ℕ) → slice_get next n ≡ slice_get places n → IsThere desk places n → IsThere desk next n
  there-still places next n same was = record { pass = was.pass; at = same ∙ was.at; owns = was.owns; cog = was.cog }

  -- the first pass is taken
  pub one-taken : (places next : List (Option PassValue)) (low : ℕ) → AreThere desk low 8 places → low < 8 → next ≡ slice_set places low None → AreThere desk (low + 1) 8 next
  one-taken places next low there near is = record {
    inside = λ n le lt. there-still places next n (kept places next low n None is (λ e. omega arith)) (there.inside n (omega arith) lt);
    before = λ n lt. dite (ℕ_discrete n low)
        (λ (here : n ≡ low).
        let was = there.inside low (omega arith) near in
        subst (λ (m : ℕ). IsOut m next) (sym here) (written places next low None (Some was.pass) is was.at))
        (λ (apart : n ≢ low). kept places next low n None is apart ∙ there.before n (omega arith));
    behind = λ n le lt. absurd (omega arith);
  }

  -- the desk owns the pass that is taken, which is that cog's
  pub taken-owns : (places : List (Option PassValue)) (low : ℕ) (pass : PassValue) → AreThere desk low 8 places → low < 8 → slice_get places low ≡ Some (Some pass) → Owns desk pass × (pass.cog ≡ low)
  taken-owns places low pass there near at =
      let was = there.inside low (omega arith) near in
      let same = some-some was.pass pass (sym was.at ∙ at) in
      (subst (Owns desk) same was.owns, ap (λ (p : PassValue). p.cog) (sym same) ∙ was.cog)

  -- a pass is put after those that are there
  pub one-put : (places next : List (Option PassValue)) (high : ℕ) (pass : PassValue) → AreThere desk 0 high places → high < 8 → Owns desk pass → pass.cog ≡ high → next ≡ slice_set places high (Some pass) → AreThere desk 0 (high + 1) next
  one-put places next high pass there near owns cog is = record {
    inside = λ n le lt. dite (ℕ_discrete n high)
        (λ (here : n ≡ high).
        let at = written places next high (Some pass) None is (there.behind high (omega arith) near) in
        subst (IsThere desk next) (sym here) (record { pass = pass; at = at; owns = owns; cog = cog }))
        (λ (apart : n ≢ high). there-still places next n (kept places next high n (Some pass) is apart) (there.inside n le (omega arith)));
    before = λ n lt. absurd (omega arith);
    behind = λ n le lt. kept places next high n (Some pass) is (λ e. omega arith) ∙ there.behind n (omega arith) lt;
  }

  pub all-are-there : (places : List (Option PassValue)) → AllThere desk places → AreThere desk 0 8 places
  all-are-there places there = record {
    inside = λ n le lt. let was = there.each n lt in record { pass = was.0; at = was.1; owns = was.2; cog = was.3 };
    before = λ n lt. absurd (omega arith);
    behind = λ n le lt. absurd (omega arith);
  }

  pub are-all-there : (places : List (Option PassValue)) → AreThere desk 0 8 places → AllThere desk places
  are-all-there places there = record {
    each = λ n lt. let was = there.inside n (omega arith) lt in (was.pass, was.at, was.owns, was.cog);
  }

  -- a job at the end of others
  pub last-job : (n : ℕ) (jobs : List CogJob) (job : CogJob) → AreJobs desk n (jobs ++ job ∷ []) → AreJobs desk n jobs × IsJob desk (n + length jobs) job
  last-job n [] job are = (tt, subst (λ (m : ℕ). IsJob desk m job) (omega arith) are.0)
  last-job n (first ∷ jobs) job are =
      let rest = last-job (suc n) jobs job are.1 in
      ((are.0, rest.0), subst (λ (m : ℕ). IsJob desk m job) (omega arith) rest.1)

  pub one-more-job : (n : ℕ) (jobs : List CogJob) (job : CogJob) → AreJobs desk n jobs → IsJob desk (n + length jobs) job → AreJobs desk n (jobs ++ job ∷ [])
  one-more-job n [] job are is = (subst (λ (m : ℕ). IsJob desk m job) (omega arith) is, tt)
  one-more-job n (first ∷ jobs) job are is =
      (are.0, one-more-job (suc n) jobs job are.1 (subst (λ (m : ℕ). IsJob desk m job) (omega arith) is))

  pub job-owns : (n : ℕ) (job : CogJob) → IsJob desk n job → Owns job.desk.value job.pass
  job-owns n job is = subst (λ (d : DeskValue). Owns d job.pass) (sym is.desk_is) is.owns

  pub back-owned : (given back : PassValue) → Owns desk given → ComesBack given back → Owns desk back
  back-owned given back owns comes = record { world = comes.world ∙ owns.world; table = comes.table ∙ owns.table }

  -- the last of all jobs, and those before it
  pub last-of-all : (all jobs : List CogJob) (job : CogJob) → AreJobs desk 0 all → all ≡ jobs ++ job ∷ [] → AreJobs desk 0 jobs × IsJob desk (length jobs) job
  last-of-all all jobs job are is =
      let parts = last-job 0 jobs job (subst (AreJobs desk 0) is are) in
      (parts.0, subst (λ (m : ℕ). IsJob desk m job) (omega arith) parts.1)

  -- the passes of all jobs but the last one are there, and so it is that one's turn
  pub is-next : (here : DeskValue) (jobs : List CogJob) (cog : ℕ) (places : List (Option PassValue)) → here ≡ desk → cog ≡ length jobs → AreThere desk 0 (length jobs) places → AreThere here 0 cog places
  is-next here jobs cog places same is there =
      subst (λ (d : DeskValue). AreThere d 0 cog places) (sym same) (subst (λ (m : ℕ). AreThere desk 0 m places) (sym is) there)

  -- and then those of all jobs are
  pub all-back : (here : DeskValue) (all jobs : List CogJob) (job : CogJob) (cog : ℕ) (places : List (Option PassValue)) → here ≡ desk → all ≡ jobs ++ job ∷ [] → cog ≡ length jobs → AreThere here 0 (cog + 1) places → AreThere desk 0 (length all) places
  all-back here all jobs job cog places same is at there =
      let count : cog + 1 ≡ length all = omega (arith, count-last all jobs job is, at) in
      subst (λ (d : DeskValue). AreThere d 0 (length all) places) same (subst (λ (m : ℕ). AreThere here 0 m places) count there)

  -- the jobs before the last one are fewer
  pub jobs-before : (all jobs : List CogJob) (job : CogJob) → AreJobs desk 0 all → length all ≤ 8 → all ≡ jobs ++ job ∷ [] → AreJobs desk 0 jobs × (length jobs ≤ 8)
  jobs-before all jobs job are few is =
      let count = count-last all jobs job is in
      ((last-of-all all jobs job are is).0, omega (arith, count, few))

  -- what comes back of the last job can be put into its place
  pub last-back : (here : DeskValue) (all jobs : List CogJob) (job : CogJob) (back : PassValue) → AreJobs desk 0 all → length all ≤ 8 → all ≡ jobs ++ job ∷ [] → here ≡ desk → ComesBack job.pass back → Owns here back × (back.cog < 8)
  last-back here all jobs job back are few is same comes =
      let last = (last-of-all all jobs job are is).1 in
      let count = count-last all jobs job is in
      let cog = comes.cog ∙ last.cog in
      (subst (λ (d : DeskValue). Owns d back) (sym same) (back-owned job.pass back last.owns comes), omega (arith, count, few, cog))

  pub last-cog : (all jobs : List CogJob) (job : CogJob) (back : PassValue) → AreJobs desk 0 all → all ≡ jobs ++ job ∷ [] → ComesBack job.pass back → back.cog ≡ length jobs
  last-cog all jobs job back are is comes = comes.cog ∙ (last-of-all all jobs job are is).1.cog

  pub last-owns : (all jobs : List CogJob) (job : CogJob) → AreJobs desk 0 all → all ≡ jobs ++ job ∷ [] → Owns job.desk.value job.pass
  last-owns all jobs job are is = job-owns (length jobs) job (last-of-all all jobs job are is).1
