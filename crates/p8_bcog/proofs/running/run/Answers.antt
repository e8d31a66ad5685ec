use Rattle.std.proofs.Common.{refl, sym, ◌∙◌, ◌+◌, arith}
use Rattle.p8_bcog.proofs.OneMore.{none_done, asks_leads, asks_behind, becomes_ready, done_leads}
use Rattle.p8_bcog.proofs.running.run.Goals as goal

pub loop-done-init : goal.loop-done-init
loop-done-init c = record {
  ready = c.requires.ready;
  leads = λ more. none_done c.args.memory.now c.args.cog _;
  least = omega arith;
  most = omega arith;
  below = c.requires.begin;
}

pub loop-done-preserved : goal.loop-done-preserved
loop-done-preserved c = record {
  ready = becomes_ready c.bytecode-cost.new.stage (sym c.is_ready.ensures ∙ c.if-is_ready.true);
  leads = done_leads c.args.memory.now c.args.cog c.loop-done.done c.args.state.now c.args.begin c.loop-done.state c.loop-done.clock c.bytecode-cost.result c.bytecode-cost.new.stage c.bytecode-cost.new.self c.loop-done.invariant.leads c.bytecode-cost.ensures.clocks c.bytecode-cost.ensures.does c.bytecode-cost.ensures.under (sym c.is_ready.ensures ∙ c.if-is_ready.true);
  least = omega (arith, c.loop-done.invariant.least, c.bytecode-cost.ensures.least);
  most = omega (arith, c.loop-done.invariant.most, c.bytecode-cost.ensures.most);
  below = omega (arith, c.if-clock-until.false, c.requires.until, c.bytecode-cost.ensures.most);
}

pub returns-then-clock-until-clause-began : goal.returns-then-clock-until-clause-began
returns-then-clock-until-clause-began c = (c.loop-done.state, c.loop-done.invariant.leads, refl)

pub returns-else-is_ready-clause-leads : goal.returns-else-is_ready-clause-leads
returns-else-is_ready-clause-leads c = asks_leads c.args.memory.now c.args.cog c.loop-done.done c.args.state.now c.args.begin c.loop-done.state c.loop-done.clock c.bytecode-cost.result c.bytecode-cost.new.stage c.bytecode-cost.new.self c.loop-done.invariant.leads c.bytecode-cost.ensures.clocks c.bytecode-cost.ensures.does c.bytecode-cost.ensures.under (sym c.is_ready.ensures ∙ c.if-is_ready.false)

pub returns-else-is_ready-clause-is_behind : goal.returns-else-is_ready-clause-is_behind
returns-else-is_ready-clause-is_behind c = asks_behind c.loop-done.done c.args.budget c.loop-done.clock (c.loop-done.clock + c.bytecode-cost.result) c.args.until c.bytecode-cost.new.stage c.bytecode-cost.ensures.under (sym c.is_ready.ensures ∙ c.if-is_ready.false) c.if-clock-until.false (omega arith) (omega (arith, c.bytecode-cost.ensures.most)) (omega arith)

pub returns-else-is_ready-clause-began : goal.returns-else-is_ready-clause-began
returns-else-is_ready-clause-began c = (c.loop-done.state, c.loop-done.invariant.leads, refl)
