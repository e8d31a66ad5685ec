use Rattle.std.proofs.Common.{◌≡◌, ◌∙◌, ◌∷◌, ◌++◌, ◌+◌, ◌-◌, ℕ, [], ap, sym, subst, Some, arith, suc}
use Rattle.atomic_table.specs.Seated.{TableId}
use Rattle.p8_desk.specs.declared.rule.View.{View}
use Rattle.p8_desk.specs.PassSets.{fresh, new_places, InPlace}
use Rattle.p8_desk.specs.Rules.{Hand, first_view, with_passes, new_pass, new_passes, world_in}
use Rattle.p8_desk.proofs.Placing.{in-place-new}
use Rattle.p8_desk.proofs.Sharing.{first-of-new, rest-of-new}
use Rattle.p8_desk.proofs.open.new_passes.Goals as goal

pub stack_in-stack-requires : goal.stack_in-stack-requires
stack_in-stack-requires c =
    let left = c.loop-cog.invariant.left in
    let room = c.requires.room in
    let below = c.loop-cog-test.true in
    omega arith

pub part-own-requires-clause-own : goal.part-own-requires-clause-own
part-own-requires-clause-own c = (c.loop-cog.invariant.table ∙ c.requires.own.0, c.requires.own.1)

pub part-own-requires-clause-free : goal.part-own-requires-clause-free
part-own-requires-clause-free c =
    let s = c.requires.seat in
    let me = c.loop-cog.invariant.seat s.0 s.1 in
    (ap (λ (m : Hand). m.0.live) me, ap (λ (m : Hand). m.0.holds) me)

pub new_place-requires-clause-seat : goal.new_place-requires-clause-seat
new_place-requires-clause-seat c =
    let s = c.requires.seat in
    let view : c.loop-cog.seat.me.0 ≡ with_passes (first_view s.0) (new_passes (8 - c.loop-cog.cog) c.loop-cog.cog) = ap (λ (m : Hand). m.0) (c.loop-cog.invariant.seat s.0 s.1) in (
      s.0,
      c.part-own.ensures.parted.1 ∙ ap (λ (v : View). (v, [])) (first-of-new s.0 c.loop-cog.cog c.loop-cog.seat.me.0 c.loop-cog-test.true view),
      c.in_ok-runner.ensures (world_in s.0),
    )

pub loop-cog-preserved : goal.loop-cog-preserved
loop-cog-preserved c =
    let next : suc c.loop-cog.cog ≡ c.loop-cog.cog + 1 = omega arith in record {
      table = c.part-own.ensures.own.0 ∙ c.loop-cog.invariant.table;
      seat = λ start is.
          let me = c.loop-cog.invariant.seat start is in
          let view : c.loop-cog.seat.me.0 ≡ with_passes (first_view start) (new_passes (8 - c.loop-cog.cog) c.loop-cog.cog) = ap (λ (m : Hand). m.0) me in
          c.part-own.ensures.parted.0 ∙ (λ i. (rest-of-new start c.loop-cog.cog c.loop-cog.seat.me.0 c.loop-cog-test.true view i, ap (λ (m : Hand). m.1) me i));
      left =
          (let taken = c.stack_in-stack.ensures.left in
          let before = c.loop-cog.invariant.left in
          omega arith);
      items = λ start is.
          let view : c.loop-cog.seat.me.0 ≡ with_passes (first_view start) (new_passes (8 - c.loop-cog.cog) c.loop-cog.cog) = ap (λ (m : Hand). m.0) (c.loop-cog.invariant.seat start is) in
          let one : c.part-own.result.me ≡ (with_passes (first_view start) (new_pass c.loop-cog.cog ∷ []), []) = c.part-own.ensures.parted.1 ∙ ap (λ (v : View). (v, [])) (first-of-new start c.loop-cog.cog c.loop-cog.seat.me.0 c.loop-cog-test.true view) in
          let made : c.new_place.result ≡ Some (fresh (world_in start) c.args.seat.table_id c.loop-cog.cog) = c.new_place.ensures start one ∙ ap (λ (t : TableId). Some (fresh (world_in start) t c.loop-cog.cog)) (c.part-own.ensures.own.2 ∙ c.loop-cog.invariant.table) in
          c.in-Ok.ensures.items ∙ (λ i. c.loop-cog.invariant.items start is i ++ made i ∷ []) ∙ ap (λ (k : ℕ). new_places (world_in start) c.args.seat.table_id k) next;
    }

pub invariant_of-result : goal.invariant_of-result
invariant_of-result c =
    let s = c.requires.seat in
    let low = c.loop-cog-test.false in
    let high = c.loop-cog.auto.cog-end in
    let eight : c.loop-cog.cog ≡ 8 = omega arith in
    subst InPlace (sym (c.loop-cog.invariant.items s.0 s.1 ∙ ap (λ (k : ℕ). new_places (world_in s.0) c.args.seat.table_id k) eight)) (in-place-new (world_in s.0) c.args.seat.table_id)

pub returns : goal.returns
returns c = λ start is.
    let low = c.loop-cog-test.false in
    let high = c.loop-cog.auto.cog-end in
    let eight : c.loop-cog.cog ≡ 8 = omega arith in
    c.loop-cog.invariant.items start is ∙ ap (λ (k : ℕ). new_places (world_in start) c.args.seat.table_id k) eight ∙ ap (λ (t : TableId). new_places (world_in start) t 8) c.requires.own.0
