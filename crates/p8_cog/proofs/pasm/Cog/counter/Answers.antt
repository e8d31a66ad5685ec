use Rattle.std.proofs.Common.{◌≡◌, ◌⊎◌, inl, inr, ℕ, sym, ◌∙◌, refl}
use Rattle.p8_cog.specs.declared.stage.PasmStage.{PasmStage}
use Rattle.p8_cog.specs.declared.stage.PasmStage.TheVariants.{Loading, Running, Over}
use Rattle.p8_cog.specs.Stops.{announced_at}
use Rattle.p8_cog.proofs.Counting.{others-count, running-counts, told-announces}
use Rattle.p8_cog.proofs.pasm.Cog.counter.Goals as goal

pub returns-in-Running-clause-counts : goal.returns-in-Running-clause-counts
returns-in-Running-clause-counts c =
    running-counts c.args.memory.now c.args.self.now.done c.args.self.now.cog c.args.self.now.code c.args.self.now.stage c.args.self.now.state (announced_at c.args.self.now.asking c.args.self.now.cog c.args.self.now.code c.args.self.now.stage c.args.self.now.state) _ c.in-Running.is c.loaded_from.ensures c.args.self.now.announces

pub returns-in-Running-clause-none : goal.returns-in-Running-clause-none
returns-in-Running-clause-none c = λ none.
    absurd (told-announces c.args.self.now.cog c.args.self.now.code c.args.self.now.stage c.args.self.now.state c.args.self.now.asking c.args.self.now.told c.if-not-self.false none)

not-running : (stage : PasmStage) → (stage ≡ Loading) ⊎ (stage ≡ Over) → stage ≡ Running → ⊥
not-running stage (inl is) running = absurd (let x : Loading ≡ Running = sym is ∙ running in cc)
not-running stage (inr is) running = absurd (let x : Over ≡ Running = sym is ∙ running in cc)

pub returns-in-Loading : goal.returns-in-Loading
returns-in-Loading c = record {
  counts = others-count c.args.memory.now c.args.self.now.done c.args.self.now.cog c.args.self.now.code c.args.self.now.stage c.args.self.now.state (announced_at c.args.self.now.asking c.args.self.now.cog c.args.self.now.code c.args.self.now.stage c.args.self.now.state) (not-running c.args.self.now.stage c.in-Loading.is) c.args.self.now.announces;
  none = λ none. refl;
}
