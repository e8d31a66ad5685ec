use Rattle.std.proofs.Common.{◌≡◌, ◌∙◌, ℕ, ◌+◌, true, false, sym, subst, arith}
use Rattle.p8_access.specs.Lives.{announced_by, IsThorough}
use Rattle.p8_cog.specs.declared.stage.PasmStage.TheVariants.{Loading, Running}
use Rattle.p8_cog.specs.Replay.{Begins}
use Rattle.p8_cog.specs.Standing.{standing_at, clock_of}
use Rattle.p8_cog.specs.Stops.{Stops}
use Rattle.p8_cog.specs.Keeping.{stops-near, stops-tells, stops-thorough, stops-quiet, stops-far, over-ended, stops-announces, announces-same, told-announced, told-asks, not-in-load, told-spends, over-tells, over-thorough, at-stage, again-told, again, led, placed}
use Rattle.p8_cog.proofs.pasm.CogLife.run_to_access.Goals as goal

-- what a load tells stands where it is
reads : (c : goal.After-self-1) → Stops c.args.self.now.cog (standing_at c.args.self.now.stage c.args.self.now.code c.args.self.now.state) (clock_of c.args.self.now.state) c.args.until c.next_read-next.result
reads c = at-stage c.args.self.now.cog c.args.self.now.code (clock_of c.args.self.now.state) c.args.until c.args.self.now.stage Loading c.args.self.now.state c.next_read-next.result c.in-Loading.is (c.next_read-next.ensures.stops c.args.self.now.cog)

in_load : (c : goal.After-is_access-self) → Stops c.args.self.now.cog (standing_at c.args.self.now.stage c.args.self.now.code c.args.self.now.state) (clock_of c.args.self.now.state) c.args.until c.next_read-next.result
in_load c = at-stage c.args.self.now.cog c.args.self.now.code (clock_of c.args.self.now.state) c.args.until c.args.self.now.stage Loading c.args.self.now.state c.next_read-next.result c.in-Loading.is (c.next_read-next.ensures.stops c.args.self.now.cog)

-- what a run tells stands where it has come
ran : (c : goal.After-self-in-Running-1) → Stops c.args.self.now.cog (standing_at c.args.self.now.stage c.args.self.now.code c.next_below-ran.new.self) (clock_of c.next_below-ran.new.self) c.args.until c.next_below-ran.result.next
ran c = at-stage c.args.self.now.cog c.args.self.now.code (clock_of c.next_below-ran.new.self) c.args.until c.args.self.now.stage Running c.next_below-ran.new.self c.next_below-ran.result.next c.in-Running.is c.next_below-ran.ensures.stops

pub invariant_of-self-clause-announces : goal.invariant_of-self-clause-announces
invariant_of-self-clause-announces c =
    announces-same c.args.self.now.cog c.args.self.now.code c.args.self.now.stage c.args.self.now.state _ (announced_by c.next_read-next.result)
    (told-announced c.args.self.now.cog c.args.self.now.code (clock_of c.args.self.now.state) c.args.until c.args.self.now.stage c.args.self.now.state c.next_read-next.result c.is_access-self.result c.is_access-self.ensures (in_load c))
    (stops-announces c.args.self.now.cog c.args.self.now.code c.args.until c.args.self.now.stage c.args.self.now.state c.next_read-next.result c.requires.until (in_load c))

pub invariant_of-self-clause-told : goal.invariant_of-self-clause-told
invariant_of-self-clause-told c =
    told-asks c.args.self.now.cog c.args.self.now.code (clock_of c.args.self.now.state) c.args.until c.args.self.now.stage c.args.self.now.state c.next_read-next.result c.is_access-self.result c.is_access-self.ensures (in_load c)

pub invariant_of-self-in-Running : goal.invariant_of-self-in-Running
invariant_of-self-in-Running c =
    let stops = at-stage c.args.self.now.cog c.args.self.now.code (clock_of c.next_below-ran.new.self) c.args.until c.args.self.now.stage Running c.next_below-ran.new.self c.next_below-ran.result.next c.in-Running.is c.next_below-ran.ensures.stops in
    record {
      at = c.next_below-ran.ensures.at;
      aligned = c.args.self.now.aligned;
      room = c.args.self.now.room;
      cog_below = c.args.self.now.cog_below;
      clock = c.next_below-ran.ensures.clock;
      counts = omega (arith, c.from.ensures, c.args.self.now.counts, c.next_below-ran.ensures.counts);
      half = c.next_below-ran.ensures.half;
      at_hub = c.next_below-ran.ensures.kept;
      loads = not-in-load c.args.self.now.stage c.next_below-ran.new.self c.in-Running.is;
      told = told-asks c.args.self.now.cog c.args.self.now.code (clock_of c.next_below-ran.new.self) c.args.until c.args.self.now.stage c.next_below-ran.new.self c.next_below-ran.result.next c.is_access-self-in-Running.result c.is_access-self-in-Running.ensures stops;
      announces =
          announces-same c.args.self.now.cog c.args.self.now.code c.args.self.now.stage c.next_below-ran.new.self _ (announced_by c.next_below-ran.result.next)
          (told-announced c.args.self.now.cog c.args.self.now.code (clock_of c.next_below-ran.new.self) c.args.until c.args.self.now.stage c.next_below-ran.new.self c.next_below-ran.result.next c.is_access-self-in-Running.result c.is_access-self-in-Running.ensures stops)
          (stops-announces c.args.self.now.cog c.args.self.now.code c.args.until c.args.self.now.stage c.next_below-ran.new.self c.next_below-ran.result.next c.requires.until stops);
    }

pub returns-in-Loading-clause-near : goal.returns-in-Loading-clause-near
returns-in-Loading-clause-near c = stops-near c.args.self.now.cog (clock_of c.args.self.now.state) c.args.until (standing_at c.args.self.now.stage c.args.self.now.code c.args.self.now.state) c.next_read-next.result (reads c)

pub returns-in-Loading-clause-announced : goal.returns-in-Loading-clause-announced
returns-in-Loading-clause-announced c = told-announced c.args.self.now.cog c.args.self.now.code (clock_of c.args.self.now.state) c.args.until c.args.self.now.stage c.args.self.now.state c.next_read-next.result c.is_access-self.result c.is_access-self.ensures (reads c)

pub returns-in-Running-clause-announced : goal.returns-in-Running-clause-announced
returns-in-Running-clause-announced c = told-announced c.args.self.now.cog c.args.self.now.code (clock_of c.next_below-ran.new.self) c.args.until c.args.self.now.stage c.next_below-ran.new.self c.next_below-ran.result.next c.is_access-self-in-Running.result c.is_access-self-in-Running.ensures (ran c)

pub returns-in-Loading-clause-tells : goal.returns-in-Loading-clause-tells
returns-in-Loading-clause-tells c = stops-tells c.args.self.now.done c.args.self.now.cog c.args.self.now.code (clock_of c.args.self.now.state) c.args.until c.args.self.now.stage c.args.self.now.state c.next_read-next.result (reads c)

pub returns-in-Loading-clause-again : goal.returns-in-Loading-clause-again
returns-in-Loading-clause-again c = λ clock access announced below.
    again-told c.args.self.now.cog clock c.args.until (clock_of c.args.self.now.state) access (standing_at c.args.self.now.stage c.args.self.now.code c.args.self.now.state) c.next_read-next.result (c.args.self.now.announces clock access announced).0 below c.next_read-next.ensures.told (reads c)

pub returns-in-Loading-clause-thorough : goal.returns-in-Loading-clause-thorough
returns-in-Loading-clause-thorough c = stops-thorough c.args.self.now.done c.args.self.now.cog c.args.self.now.code (clock_of c.args.self.now.state) c.args.until c.args.self.now.stage c.args.self.now.state c.next_read-next.result (reads c)

pub returns-in-Loading-clause-spends : goal.returns-in-Loading-clause-spends
returns-in-Loading-clause-spends c = told-spends c.args.self.now.cog c.args.self.now.done (clock_of c.args.self.now.state) c.args.until c.args.budget (standing_at c.args.self.now.stage c.args.self.now.code c.args.self.now.state) c.next_read-next.result (reads c) c.next_read-next.ensures.told

pub returns-in-Loading-clause-quiet : goal.returns-in-Loading-clause-quiet
returns-in-Loading-clause-quiet c = λ b ts stands live is.
    stops-quiet c.args.self.now.cog (clock_of c.args.self.now.state) c.args.until (standing_at c.args.self.now.stage c.args.self.now.code c.args.self.now.state) c.next_read-next.result (reads c) is

pub returns-in-Running-clause-tells : goal.returns-in-Running-clause-tells
returns-in-Running-clause-tells c = λ b ts stands.
    stops-tells (c.args.self.now.done + c.next_below-ran.result.done) c.args.self.now.cog c.args.self.now.code (clock_of c.next_below-ran.new.self) c.args.until c.args.self.now.stage c.next_below-ran.new.self c.next_below-ran.result.next (ran c) b ts
    (led c.args.self.now.done c.next_below-ran.result.done c.args.self.now.cog c.args.self.now.code c.args.self.now.stage c.args.self.now.state c.next_below-ran.new.self c.in-Running.is c.next_below-ran.ensures.leads b ts stands)

pub returns-in-Running-clause-again : goal.returns-in-Running-clause-again
returns-in-Running-clause-again c = λ clock access announced below.
    again c.args.self.now.cog c.args.self.now.code c.next_below-ran.result.done c.args.budget clock c.args.until (clock_of c.next_below-ran.new.self) access c.args.self.now.stage c.args.self.now.state c.next_below-ran.new.self c.next_below-ran.result.next c.in-Running.is (c.args.self.now.announces clock access announced).0 c.requires.budget below c.next_below-ran.ensures.leads c.next_below-ran.ensures.stops c.next_below-ran.ensures.spent

pub returns-in-Running-clause-thorough : goal.returns-in-Running-clause-thorough
returns-in-Running-clause-thorough c = λ b ts stands.
    subst (λ (n : ℕ). IsThorough (Begins b ts) (c.args.self.now.done + n) c.args.until c.next_below-ran.result.next) (sym c.from.ensures)
    (stops-thorough (c.args.self.now.done + c.next_below-ran.result.done) c.args.self.now.cog c.args.self.now.code (clock_of c.next_below-ran.new.self) c.args.until c.args.self.now.stage c.next_below-ran.new.self c.next_below-ran.result.next (ran c) b ts
    (led c.args.self.now.done c.next_below-ran.result.done c.args.self.now.cog c.args.self.now.code c.args.self.now.stage c.args.self.now.state c.next_below-ran.new.self c.in-Running.is c.next_below-ran.ensures.leads b ts stands))

pub returns-in-Over-clause-tells : goal.returns-in-Over-clause-tells
returns-in-Over-clause-tells c = over-tells c.args.self.now.done c.args.self.now.cog c.args.self.now.code c.args.until c.args.self.now.stage c.args.self.now.state c.in-Over.is

pub returns-in-Over-clause-thorough : goal.returns-in-Over-clause-thorough
returns-in-Over-clause-thorough c = over-thorough c.args.self.now.done c.args.self.now.cog c.args.self.now.code c.args.until c.args.self.now.stage c.args.self.now.state c.in-Over.is

pub returns-in-Loading-clause-placed : goal.returns-in-Loading-clause-placed
returns-in-Loading-clause-placed c = placed c.args.self.now.done c.args.self.now.cog c.args.self.now.code c.args.self.now.stage c.args.self.now.state

pub returns-in-Running-clause-placed : goal.returns-in-Running-clause-placed
returns-in-Running-clause-placed c = λ b ts stands live.
    subst (λ (n : ℕ). (clock : ℕ) × Begins b ts (c.args.self.now.done + n) clock) (sym c.from.ensures)
    (placed (c.args.self.now.done + c.next_below-ran.result.done) c.args.self.now.cog c.args.self.now.code c.args.self.now.stage c.next_below-ran.new.self b ts
    (led c.args.self.now.done c.next_below-ran.result.done c.args.self.now.cog c.args.self.now.code c.args.self.now.stage c.args.self.now.state c.next_below-ran.new.self c.in-Running.is c.next_below-ran.ensures.leads b ts stands)
    live)

pub returns-in-Over-clause-placed : goal.returns-in-Over-clause-placed
returns-in-Over-clause-placed c = placed c.args.self.now.done c.args.self.now.cog c.args.self.now.code c.args.self.now.stage c.args.self.now.state

pub returns-in-Loading-clause-far : goal.returns-in-Loading-clause-far
returns-in-Loading-clause-far c = λ b ts stands live.
    stops-far c.args.self.now.cog (clock_of c.args.self.now.state) (clock_of c.args.self.now.state) 0 c.args.budget c.args.until (standing_at c.args.self.now.stage c.args.self.now.code c.args.self.now.state) c.next_read-next.result (omega arith) (omega arith) (reads c)

pub returns-in-Running-clause-far : goal.returns-in-Running-clause-far
returns-in-Running-clause-far c = λ b ts stands live.
    stops-far c.args.self.now.cog (clock_of c.args.self.now.state) (clock_of c.next_below-ran.new.self) c.next_below-ran.result.done c.args.budget c.args.until (standing_at c.args.self.now.stage c.args.self.now.code c.next_below-ran.new.self) c.next_below-ran.result.next c.next_below-ran.ensures.budget c.next_below-ran.ensures.stride (ran c)

pub returns-in-Over-clause-far : goal.returns-in-Over-clause-far
returns-in-Over-clause-far c = λ b ts stands live.
    let e : false ≡ true = sym live ∙ over-ended c.args.self.now.done c.args.self.now.cog c.args.self.now.code c.args.self.now.stage c.args.self.now.state c.in-Over.is b ts stands in
    absurd cc
