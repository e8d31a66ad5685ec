use Rattle.std.proofs.Common.{◌∙◌, sym, subst, ℕ}
use Rattle.p8_desk.specs.PassSets.{AllThere}
use Rattle.p8_desk.specs.Passes.{DeskValue}
use Rattle.p8_crew.specs.Crews.{AreThere}
use Rattle.p8_crew.proofs.Endings.{closed-at, only-one, begins-each, all-rise}
use Rattle.p8_crew.proofs.Places.{are-all-there}
use Rattle.p8_crew.proofs.crew.run_crew.Goals as goal

pub end-ended-requires : goal.end-ended-requires
end-ended-requires g c =
    let desk = c.jobs.new.self.desk.value in
    let passes = c.run-all_started.new.self.passes in
    let there = subst (λ (n : ℕ). AreThere desk 0 n passes) c.in_ok-jobs.ensures.jobs.1 c.run-all_started.ensures.there in
    subst (λ (d : DeskValue). AllThere d passes) (sym c.run-all_started.ensures.desk) (are-all-there desk passes there)

pub returns-clause-only : goal.returns-clause-only
returns-clause-only g c =
    let same = c.run-all_started.ensures.desk ∙ c.jobs.ensures.desk ∙ c.in_ok-crew.ensures.desk in
    let closed = closed-at c.run-all_started.new.self.desk.value c.args.desk c.end-ended.ensures.0 c.end-ended.result same c.end-ended.ensures.1 in
    only-one c.args.desk.world c.end-ended.ensures.0 c.end-ended.result closed

pub returns-clause-begins_each : goal.returns-clause-begins_each
returns-clause-begins_each g c =
    let same = c.run-all_started.ensures.desk ∙ c.jobs.ensures.desk ∙ c.in_ok-crew.ensures.desk in
    let closed = closed-at c.run-all_started.new.self.desk.value c.args.desk c.end-ended.ensures.0 c.end-ended.result same c.end-ended.ensures.1 in
    begins-each c.args.desk.world c.end-ended.ensures.0 c.end-ended.result closed

pub returns-clause-rises : goal.returns-clause-rises
returns-clause-rises g c =
    let same = c.run-all_started.ensures.desk ∙ c.jobs.ensures.desk ∙ c.in_ok-crew.ensures.desk in
    let closed = closed-at c.run-all_started.new.self.desk.value c.args.desk c.end-ended.ensures.0 c.end-ended.result same c.end-ended.ensures.1 in
    all-rise c.args.desk.world c.end-ended.ensures.0 c.end-ended.result closed
