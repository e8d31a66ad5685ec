use Rattle.std.proofs.Common.{◌≡◌, ap, sym, subst, ◌≤◌, List, length, reverse, arith}
use Rattle.p8_access.specs.declared.order.Turn.{Turn}
use Rattle.p8_access.specs.Histories.{Legal}
use Rattle.p8_cog.specs.Lives.{asks}
use Rattle.p8_ledger.specs.Worlds.{world_of}
use Rattle.p8_verify.proofs.Clocks.{all-early, no-more}
use Rattle.p8_verify.proofs.files.head_and_records.Goals as goal

pub overflow_cast-head-3 : goal.overflow_cast-head-3
overflow_cast-head-3 c =
    let most : length c.args.history.now.turns.list ≤ c.args.history.now.limits.turns = no-more (world_of c.args.history.now.boot c.requires.ended.0 c.args.history.now.limits) c.args.history.now.turns.list c.requires.ended.1.legal in
    let same : length c.as_slice-turns.result.now ≡ length c.args.history.now.turns.list = ap length c.as_slice-turns.ensures in
    let limit = c.requires.turns in
    grind arith

pub push_records-requires : goal.push_records-requires
push_records-requires c = λ k d within.
    let legal : Legal asks (world_of c.args.history.now.boot c.requires.ended.0 c.args.history.now.limits) (reverse c.as_slice-turns.result.now) =
    subst (λ (ts : List Turn). Legal asks (world_of c.args.history.now.boot c.requires.ended.0 c.args.history.now.limits) (reverse ts)) (sym c.as_slice-turns.ensures) c.requires.ended.1.legal in
    let early = all-early (world_of c.args.history.now.boot c.requires.ended.0 c.args.history.now.limits) c.as_slice-turns.result.now legal k d within in
    let limit = c.requires.clocks in
    omega arith
