use Rattle.std.proofs.Common.{◌-◌, ◌∙◌, ◌^◌, ◌∷◌, ap, refl, sym, arith}
use Rattle.p8_access.specs.Courses.{Finish}
use Rattle.p8_bcog.specs.Bytecodes.{packed}
use Rattle.p8_bcog.specs.Control.{jump, loop_begins, loop_ends, jump_if_zero, jump_unless_zero}
use Rattle.p8_bcog.specs.Quick.{offset_of, jump_size}
use Rattle.p8_bcog.proofs.FirstBytes as quick
use Rattle.p8_bcog.proofs.state.SpinState.quick_on.Goals as goal

pub returns-in-4 : goal.returns-in-4
returns-in-4 c = λ rest. quick.quick-by c.args.byte 0x04 c.args.operand c.offset_of.result (offset_of c.args.operand c.args.low) (jump_size c.args.operand) (c.args.low ∷ rest) c.args.self.now c.pass_jump.new.self jump (Finish c.jump.new.self) c.in-4.is c.pass_jump.ensures c.offset_of.ensures (ap Finish c.jump.ensures) (quick.quick-jump c.args.operand c.args.low rest c.args.self.now)

pub returns-in-8 : goal.returns-in-8
returns-in-8 c = λ rest. quick.quick-by c.args.byte 0x08 c.args.operand c.offset_of-in-8.result (offset_of c.args.operand c.args.low) (jump_size c.args.operand) (c.args.low ∷ rest) c.args.self.now c.pass_jump-in-8.new.self loop_begins _ c.in-8.is c.pass_jump-in-8.ensures c.offset_of-in-8.ensures c.loop_begins.ensures.does (quick.quick-loop-begins c.args.operand c.args.low rest c.args.self.now)

pub returns-in-9 : goal.returns-in-9
returns-in-9 c = λ rest. quick.quick-by c.args.byte 0x09 c.args.operand c.offset_of-in-9.result (offset_of c.args.operand c.args.low) (jump_size c.args.operand) (c.args.low ∷ rest) c.args.self.now c.pass_jump-in-9.new.self loop_ends _ c.in-9.is c.pass_jump-in-9.ensures c.offset_of-in-9.ensures c.loop_ends.ensures.does (quick.quick-loop-ends c.args.operand c.args.low rest c.args.self.now)

pub returns-in-10 : goal.returns-in-10
returns-in-10 c = λ rest. quick.quick-by c.args.byte 0x0A c.args.operand c.offset_of-in-10.result (offset_of c.args.operand c.args.low) (jump_size c.args.operand) (c.args.low ∷ rest) c.args.self.now c.pass_jump-in-10.new.self jump_if_zero _ c.in-10.is c.pass_jump-in-10.ensures c.offset_of-in-10.ensures c.jump_if_zero.ensures.does (quick.quick-jump-if-zero c.args.operand c.args.low rest c.args.self.now)

pub returns-in-11 : goal.returns-in-11
returns-in-11 c = λ rest. quick.quick-by c.args.byte 0x0B c.args.operand c.offset_of-in-11.result (offset_of c.args.operand c.args.low) (jump_size c.args.operand) (c.args.low ∷ rest) c.args.self.now c.pass_jump-in-11.new.self jump_unless_zero _ c.in-11.is c.pass_jump-in-11.ensures c.offset_of-in-11.ensures c.jump_unless_zero.ensures.does (quick.quick-jump-unless-zero c.args.operand c.args.low rest c.args.self.now)

pub returns-in-52 : goal.returns-in-52
returns-in-52 c = λ rest. quick.quick-by c.args.byte 0x34 c.args.operand (2 ^ 32 - 1) (2 ^ 32 - 1) 1 (c.args.low ∷ rest) c.args.self.now c.pass.new.self quick.leaves _ c.in-52.is c.pass.ensures refl c.leave_constant.ensures.does (quick.quick-minus-one c.args.operand (c.args.low ∷ rest) c.args.self.now)

pub returns-in-53 : goal.returns-in-53
returns-in-53 c = λ rest. quick.quick-by c.args.byte 0x35 c.args.operand 0 0 1 (c.args.low ∷ rest) c.args.self.now c.pass-in-53.new.self quick.leaves _ c.in-53.is c.pass-in-53.ensures refl c.leave_constant-in-53.ensures.does (quick.quick-zero c.args.operand (c.args.low ∷ rest) c.args.self.now)

pub returns-in-54 : goal.returns-in-54
returns-in-54 c = λ rest. quick.quick-by c.args.byte 0x36 c.args.operand 1 1 1 (c.args.low ∷ rest) c.args.self.now c.pass-in-54.new.self quick.leaves _ c.in-54.is c.pass-in-54.ensures refl c.leave_constant-in-54.ensures.does (quick.quick-one c.args.operand (c.args.low ∷ rest) c.args.self.now)

pub returns-in-55 : goal.returns-in-55
returns-in-55 c = λ rest. quick.quick-by c.args.byte 0x37 c.args.operand c.packed.result (packed c.args.operand) 2 (c.args.low ∷ rest) c.args.self.now c.pass-in-55.new.self quick.leaves _ c.in-55.is c.pass-in-55.ensures (c.packed.ensures ∙ ap packed c.from.ensures) c.leave_constant-in-55.ensures.does (quick.quick-packed c.args.operand (c.args.low ∷ rest) c.args.self.now c.if-operand-lt128.true)

pub returns-in-56 : goal.returns-in-56
returns-in-56 c = λ rest. quick.quick-by c.args.byte 0x38 c.args.operand c.from-in-56.result c.args.operand 2 (c.args.low ∷ rest) c.args.self.now c.pass-in-56.new.self quick.leaves _ c.in-56.is c.pass-in-56.ensures c.from-in-56.ensures c.leave_constant-in-56.ensures.does (quick.quick-byte c.args.operand (c.args.low ∷ rest) c.args.self.now)

pub returns-in_default : goal.returns-in_default
returns-in_default c = λ rest. quick.quick-operator c.args.byte c.args.operand (c.args.low ∷ rest) c.args.self.now c.pass-in_default.new.self _ (sym c.is_fast_operator.ensures ∙ c.if-is_fast_operator.true) (omega (arith, c.ranges.byte.fits)) c.pass-in_default.ensures c.operate.ensures.does
