use Rattle.std.proofs.Common.{◌≡◌, ◌+◌, ◌-◌, ◌≤◌, ◌<◌, length, ap, arith, rules}
use Rattle.p8_constants.specs.Searches.{boundary_at}
use Rattle.p8_constants.proofs.Following.{taking, top_is}
use Rattle.p8_constants.proofs.search.Search.step.Goals as goal

pub follow-requires-clause-state : goal.follow-requires-clause-state
follow-requires-clause-state c =
    let count : c.len-2.result ≡ length c.self.inside.boundaries.items = search rules in
    let some : 0 < length c.self.inside.boundaries.items = omega (arith, ap (λ s. length s.boundaries) c.self.view_is, c.requires.some) in
    let read = top_is c.self.inside.boundaries.items c.len-2.result c.index.result.now count some c.index.ensures in
    let left : c.len.result ≡ length c.pop.new.self.items + 1 = omega (arith, c.self.inside.targets.ok.0, c.pop.new.self.ok.0, c.in-Some.ensures.len, c.len.ensures) in
    let top : (boundary_at c.self.inside.boundaries.items (length c.self.inside.boundaries.items - 1)).target ≤ length c.pop.new.self.items = omega (arith, ap (λ b. b.target) read, c.if-len-index.false) in
    (taking c.args.graph.now c.args.self.now c.requires.state _ _ c.self.inside.targets.items c.pop.new.self.items _ _ c.in-Some.target c.self.view_is c.in-Some.ensures.items top).0

pub follow-requires-clause-reached : goal.follow-requires-clause-reached
follow-requires-clause-reached c =
    let count : c.len-2.result ≡ length c.self.inside.boundaries.items = search rules in
    let some : 0 < length c.self.inside.boundaries.items = omega (arith, ap (λ s. length s.boundaries) c.self.view_is, c.requires.some) in
    let read = top_is c.self.inside.boundaries.items c.len-2.result c.index.result.now count some c.index.ensures in
    let left : c.len.result ≡ length c.pop.new.self.items + 1 = omega (arith, c.self.inside.targets.ok.0, c.pop.new.self.ok.0, c.in-Some.ensures.len, c.len.ensures) in
    let top : (boundary_at c.self.inside.boundaries.items (length c.self.inside.boundaries.items - 1)).target ≤ length c.pop.new.self.items = omega (arith, ap (λ b. b.target) read, c.if-len-index.false) in
    (taking c.args.graph.now c.args.self.now c.requires.state _ _ c.self.inside.targets.items c.pop.new.self.items _ _ c.in-Some.target c.self.view_is c.in-Some.ensures.items top).2
