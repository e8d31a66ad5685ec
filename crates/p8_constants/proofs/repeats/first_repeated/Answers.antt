use Rattle.std.proofs.Common.{ℕ, List, [], ◌∷◌, ◌++◌, drop, ◌+◌, sym, subst, arith}
use Rattle.p8_constants.specs.Standing.{all_defined_of, Holds}
use Rattle.p8_constants.proofs.Repeating.{Goes, taken_begin, goes_begin, taken_more, goes_more, goes_end, taken_end}
use Rattle.p8_constants.proofs.repeats.first_repeated.Goals as goal

pub loop-defined-init : goal.loop-defined-init
loop-defined-init c = (λ before s behind h. goes_begin before behind _ _ h, λ behind h. taken_begin behind _ _ h)

pub loop-defined-preserved : goal.loop-defined-preserved
loop-defined-preserved c =
    let put : (names : List (List ℕ)) → Holds c.loop-defined.own names → Holds c.repeated.new.own (names ++ c.defined-item.result.name.now ∷ []) = c.in_ok-repeated.ensures.taken in (
      λ before s behind h. subst (λ told. Goes before behind (all_defined_of c.args.names.now) told (all_defined_of (drop (c.loop-defined.defined-index + 1) c.args.names.now)) c.repeated.new.own) (sym c.first_of_two-first.ensures)
          (goes_more before behind (all_defined_of c.args.names.now) c.args.names.now c.loop-defined.defined-index c.defined-item.result c.loop-defined.own c.repeated.new.own c.loop-defined.first c.in_ok-repeated.field-0
          (omega arith) c.defined-item.is put (λ names k. c.in_ok-repeated.ensures.told before s names k) (c.loop-defined.invariant.0 before s behind h)),
      λ behind h. taken_more behind (all_defined_of c.args.names.now) c.args.names.now c.loop-defined.defined-index c.defined-item.result c.loop-defined.own c.repeated.new.own
          (omega arith) c.defined-item.is put (c.loop-defined.invariant.1 behind h),
    )

pub returns : goal.returns
returns c = record {
  first = λ before s behind h. goes_end before behind (all_defined_of c.args.names.now) c.args.names.now c.loop-defined.defined-index c.loop-defined.own c.loop-defined.first (omega arith) (c.loop-defined.invariant.0 before s behind h);
  taken = λ behind h. taken_end behind (all_defined_of c.args.names.now) c.args.names.now c.loop-defined.defined-index c.loop-defined.own (omega arith) (c.loop-defined.invariant.1 behind h);
}
