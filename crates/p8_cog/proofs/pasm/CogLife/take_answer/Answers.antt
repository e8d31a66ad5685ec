use Rattle.std.proofs.Common.{◌≡◌, true, false, Some, None, ℕ, ◌+◌, ◌++◌, ◌∷◌, [], subst, arith}
use Rattle.p8_cog.specs.declared.stage.PasmStage.TheVariants.{Loading, Over}
use Rattle.p8_cog.specs.Standing.{clock_of}
use Rattle.p8_cog.specs.Stops.{Loads, announced_at}
use Rattle.p8_cog.specs.Keeping.{comes-running, comes-never, comes-read, load-holds, load-clock, load-stands, IsLoaded, announces-none, not-in-load, over-stands, whole-stands, half-stands, placed}
use Rattle.p8_cog.proofs.pasm.CogLife.take_answer.Goals as goal

pub take_long-self-requires-clause-clock : goal.take_long-self-requires-clause-clock
take_long-self-requires-clause-clock c =
    let at : c.args.turn.now.key.clock ≡ c.args.self.now.state.begun.clock + 16 = comes-read c.args.self.now.cog c.args.self.now.code c.args.self.now.stage c.args.self.now.state (announced_at c.args.self.now.asking c.args.self.now.cog c.args.self.now.code c.args.self.now.stage c.args.self.now.state) c.args.turn.now c.in-Loading.is c.args.self.now.announces c.requires.announced in
    omega (arith, at, c.requires.clock)

pub take-requires-clause-comes : goal.take-requires-clause-comes
take-requires-clause-comes c = (comes-running c.args.self.now.cog c.args.self.now.code c.args.self.now.stage c.args.self.now.state (announced_at c.args.self.now.asking c.args.self.now.cog c.args.self.now.code c.args.self.now.stage c.args.self.now.state) c.args.turn.now c.in-Running.is c.args.self.now.announces c.requires.announced).0

pub unreachable-requires : goal.unreachable-requires
unreachable-requires c = comes-never c.args.self.now.cog c.args.self.now.code c.args.self.now.stage c.args.self.now.state (announced_at c.args.self.now.asking c.args.self.now.cog c.args.self.now.code c.args.self.now.stage c.args.self.now.state) c.args.turn.now c.in-Over.is c.args.self.now.announces c.requires.announced

pub invariant_of-self : goal.invariant_of-self
invariant_of-self c =
    let at : c.args.turn.now.key.clock ≡ c.args.self.now.state.begun.clock + 16 = comes-read c.args.self.now.cog c.args.self.now.code c.args.self.now.stage c.args.self.now.state (announced_at c.args.self.now.asking c.args.self.now.cog c.args.self.now.code c.args.self.now.stage c.args.self.now.state) c.args.turn.now c.in-Loading.is c.args.self.now.announces c.requires.announced in
    let here : clock_of c.args.self.now.state ≡ c.args.self.now.state.begun.clock = load-clock c.args.self.now.state (c.args.self.now.loads c.in-Loading.is) in
    let h : IsLoaded c.args.self.now.cog c.args.self.now.state.begun.clock c.take_long-self.result c.take_long-self.new.self = load-holds c.args.self.now.cog c.take_long-self.result c.args.self.now.state.begun c.value_in.result c.take_long-self.new.self c.take_long-self.ensures in
    record {
      at = h.at;
      aligned = c.args.self.now.aligned;
      room = c.args.self.now.room;
      cog_below = c.args.self.now.cog_below;
      clock = omega (arith, h.most, at, c.requires.clock);
      counts = omega (arith, h.least, here, c.args.self.now.counts);
      half = h.half;
      at_hub = λ k e. absurd (let x : None ≡ Some k = e in cc);
      loads = h.loads;
      told = λ is. absurd (let x : false ≡ true = is in cc);
      announces = announces-none c.args.self.now.cog c.args.self.now.code c.take_long-self.result c.take_long-self.new.self;
    }

pub invariant_of-self-in-Ended : goal.invariant_of-self-in-Ended
invariant_of-self-in-Ended c =
    let comes = comes-running c.args.self.now.cog c.args.self.now.code c.args.self.now.stage c.args.self.now.state (announced_at c.args.self.now.asking c.args.self.now.cog c.args.self.now.code c.args.self.now.stage c.args.self.now.state) c.args.turn.now c.in-Running.is c.args.self.now.announces c.requires.announced in
    record {
      at = c.in-Ended.ensures.at;
      aligned = c.args.self.now.aligned;
      room = c.args.self.now.room;
      cog_below = c.args.self.now.cog_below;
      clock = c.in-Ended.ensures.clock;
      counts = omega (arith, c.in-Ended.ensures.takes.1, comes.1, c.args.self.now.counts);
      half = c.in-Ended.ensures.half;
      at_hub = λ k e. absurd (let x : None ≡ Some k = e in cc);
      loads = λ is. absurd (let x : Over ≡ Loading = is in cc);
      told = λ is. absurd (let x : false ≡ true = is in cc);
      announces = announces-none c.args.self.now.cog c.args.self.now.code Over c.take.new.self;
    }

pub invariant_of-self-in-Whole : goal.invariant_of-self-in-Whole
invariant_of-self-in-Whole c =
    let comes = comes-running c.args.self.now.cog c.args.self.now.code c.args.self.now.stage c.args.self.now.state (announced_at c.args.self.now.asking c.args.self.now.cog c.args.self.now.code c.args.self.now.stage c.args.self.now.state) c.args.turn.now c.in-Running.is c.args.self.now.announces c.requires.announced in
    record {
      at = c.in-Whole.ensures.at;
      aligned = c.args.self.now.aligned;
      room = c.args.self.now.room;
      cog_below = c.args.self.now.cog_below;
      clock = c.in-Whole.ensures.clock;
      counts = omega (arith, c.in-Whole.ensures.takes.1, comes.1, c.args.self.now.counts);
      half = c.in-Whole.ensures.half;
      at_hub = λ k e. absurd (let x : None ≡ Some k = e in cc);
      loads = not-in-load c.args.self.now.stage c.take.new.self c.in-Running.is;
      told = λ is. absurd (let x : false ≡ true = is in cc);
      announces = announces-none c.args.self.now.cog c.args.self.now.code c.args.self.now.stage c.take.new.self;
    }

pub invariant_of-self-in-Half : goal.invariant_of-self-in-Half
invariant_of-self-in-Half c =
    let comes = comes-running c.args.self.now.cog c.args.self.now.code c.args.self.now.stage c.args.self.now.state (announced_at c.args.self.now.asking c.args.self.now.cog c.args.self.now.code c.args.self.now.stage c.args.self.now.state) c.args.turn.now c.in-Running.is c.args.self.now.announces c.requires.announced in
    record {
      at = c.in-Half.ensures.at;
      aligned = c.args.self.now.aligned;
      room = c.args.self.now.room;
      cog_below = c.args.self.now.cog_below;
      clock = c.in-Half.ensures.clock;
      counts = omega (arith, c.in-Half.ensures.takes.1, comes.1, c.args.self.now.counts);
      half = c.in-Half.ensures.half;
      at_hub = λ k e. absurd (let x : None ≡ Some k = e in cc);
      loads = not-in-load c.args.self.now.stage c.take.new.self c.in-Running.is;
      told = λ is. absurd (let x : false ≡ true = is in cc);
      announces = announces-none c.args.self.now.cog c.args.self.now.code c.args.self.now.stage c.take.new.self;
    }

pub returns-in-Loading-clause-stands : goal.returns-in-Loading-clause-stands
returns-in-Loading-clause-stands c =
    load-stands c.args.self.now.done c.args.self.now.cog c.args.self.now.code c.args.self.now.stage c.take_long-self.result c.args.self.now.state c.take_long-self.new.self c.args.turn.now c.in-Loading.is
    (subst (λ (long : ℕ). Loads c.args.self.now.state.begun long c.take_long-self.new.self c.take_long-self.result) c.value_in.ensures c.take_long-self.ensures)

pub returns-in-Loading-clause-reached : goal.returns-in-Loading-clause-reached
returns-in-Loading-clause-reached c =
    let at : c.args.turn.now.key.clock ≡ c.args.self.now.state.begun.clock + 16 = comes-read c.args.self.now.cog c.args.self.now.code c.args.self.now.stage c.args.self.now.state (announced_at c.args.self.now.asking c.args.self.now.cog c.args.self.now.code c.args.self.now.stage c.args.self.now.state) c.args.turn.now c.in-Loading.is c.args.self.now.announces c.requires.announced in
    let h : IsLoaded c.args.self.now.cog c.args.self.now.state.begun.clock c.take_long-self.result c.take_long-self.new.self = load-holds c.args.self.now.cog c.take_long-self.result c.args.self.now.state.begun c.value_in.result c.take_long-self.new.self c.take_long-self.ensures in
    omega (arith, at, h.least)

pub returns-in-Loading-clause-lead : goal.returns-in-Loading-clause-lead
returns-in-Loading-clause-lead c =
    let at : c.args.turn.now.key.clock ≡ c.args.self.now.state.begun.clock + 16 = comes-read c.args.self.now.cog c.args.self.now.code c.args.self.now.stage c.args.self.now.state (announced_at c.args.self.now.asking c.args.self.now.cog c.args.self.now.code c.args.self.now.stage c.args.self.now.state) c.args.turn.now c.in-Loading.is c.args.self.now.announces c.requires.announced in
    let h : IsLoaded c.args.self.now.cog c.args.self.now.state.begun.clock c.take_long-self.result c.take_long-self.new.self = load-holds c.args.self.now.cog c.take_long-self.result c.args.self.now.state.begun c.value_in.result c.take_long-self.new.self c.take_long-self.ensures in
    omega (arith, at, h.most)

pub returns-in-Ended-clause-stands : goal.returns-in-Ended-clause-stands
returns-in-Ended-clause-stands c = over-stands c.args.self.now.done c.args.self.now.cog c.args.self.now.code c.args.self.now.stage c.args.self.now.state c.take.new.self c.args.turn.now c.in-Running.is (comes-running c.args.self.now.cog c.args.self.now.code c.args.self.now.stage c.args.self.now.state (announced_at c.args.self.now.asking c.args.self.now.cog c.args.self.now.code c.args.self.now.stage c.args.self.now.state) c.args.turn.now c.in-Running.is c.args.self.now.announces c.requires.announced).0 c.in-Ended.ensures.takes

pub returns-in-Whole-clause-stands : goal.returns-in-Whole-clause-stands
returns-in-Whole-clause-stands c = whole-stands c.args.self.now.done c.args.self.now.cog c.args.self.now.code c.args.self.now.stage c.args.self.now.state c.take.new.self c.args.turn.now c.in-Running.is c.in-Whole.ensures.takes

pub returns-in-Half-clause-stands : goal.returns-in-Half-clause-stands
returns-in-Half-clause-stands c = half-stands c.args.self.now.done c.args.self.now.cog c.args.self.now.code c.args.self.now.stage c.args.self.now.state c.take.new.self c.args.turn.now c.in-Running.is c.in-Half.ensures.takes.0

pub returns-in-Loading-clause-placed : goal.returns-in-Loading-clause-placed
returns-in-Loading-clause-placed c = λ b ts stands live.
    placed c.args.self.now.done c.args.self.now.cog c.args.self.now.code c.take_long-self.result c.take_long-self.new.self b (ts ++ c.args.turn.now ∷ []) (returns-in-Loading-clause-stands c b ts stands) live

pub returns-in-Ended-clause-placed : goal.returns-in-Ended-clause-placed
returns-in-Ended-clause-placed c = λ b ts stands live.
    placed (c.args.self.now.done + 1) c.args.self.now.cog c.args.self.now.code Over c.take.new.self b (ts ++ c.args.turn.now ∷ []) (returns-in-Ended-clause-stands c b ts stands) live

pub returns-in-Whole-clause-placed : goal.returns-in-Whole-clause-placed
returns-in-Whole-clause-placed c = λ b ts stands live.
    placed (c.args.self.now.done + 1) c.args.self.now.cog c.args.self.now.code c.args.self.now.stage c.take.new.self b (ts ++ c.args.turn.now ∷ []) (returns-in-Whole-clause-stands c b ts stands) live

pub returns-in-Half-clause-placed : goal.returns-in-Half-clause-placed
returns-in-Half-clause-placed c = λ b ts stands live.
    placed c.args.self.now.done c.args.self.now.cog c.args.self.now.code c.args.self.now.stage c.take.new.self b (ts ++ c.args.turn.now ∷ []) (returns-in-Half-clause-stands c b ts stands) live
