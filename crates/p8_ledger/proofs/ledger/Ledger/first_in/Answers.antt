use Rattle.std.proofs.Common.{◌∙◌, ℕ, ◌<◌, length, arith}
use Rattle.std.proofs.lemmas.List.{length-set}
use Rattle.p8_ledger.specs.Coming.{IsClockIn}
use Rattle.p8_ledger.proofs.Firsts.{one-more}
use Rattle.p8_ledger.proofs.Choosing.{first-in}
use Rattle.p8_ledger.proofs.ledger.Ledger.first_in.Goals as goal

pub loop-cog-preserved : goal.loop-cog-preserved
loop-cog-preserved c = record {
  size = length-set c.loop-cog.clocks c.loop-cog.cog c.clock_in.result ∙ c.loop-cog.invariant.size;
  each = λ w r found spans late.
      let within : c.loop-cog.cog < length c.loop-cog.clocks = omega (arith, c.loop-cog.invariant.size) in
      one-more (λ (n u : ℕ). IsClockIn w r c.args.span.now.end n u) c.loop-cog.clocks c.loop-cog.cog c.clock_in.result within (c.loop-cog.invariant.each w r found spans late) (c.clock_in.ensures w r found spans late);
}

pub returns-clause-first : goal.returns-clause-first
returns-clause-first c = λ w r found spans late.
    first-in w r found.others c.loop-cog.clocks c.first_front.result c.args.span.now.end c.first_front.ensures (λ n near. c.loop-cog.invariant.each w r found spans late n (omega arith))
