use Rattle.std.proofs.Common.{◌≡◌, ◌∙◌, refl, ◌-◌, ◌≤◌, ◌<◌, length, take, drop, ap, subst, sym, arith, rules}
use Rattle.p8_constants.specs.Searches.{IsClosed, IsState}
use Rattle.p8_constants.proofs.Following.{top_is}
use Rattle.p8_constants.proofs.Finishing.{finishing}
use Rattle.p8_constants.proofs.Closing.{part_of, whole}
use Rattle.p8_constants.proofs.search.Search.finish.Goals as goal

pub returns : goal.returns
returns c = λ g k.
    let count : c.len-top.result ≡ length c.self.inside.boundaries.items = search rules in
    let some : 0 < length c.self.inside.boundaries.items = omega (arith, ap (λ s. length s.boundaries) c.self.view_is, c.requires.some) in
    let read = top_is c.self.inside.boundaries.items c.len-top.result c.index.result.now count some c.index.ensures in
    let inside = subst (IsState g) (sym c.self.view_is) k in
    let begins : c.index.result.now.node ≤ length c.self.inside.nodes.items = omega (arith, ap (λ b. b.node) read, (inside.within (length c.self.inside.boundaries.items - 1) (omega arith)).0) in
    let part = part_of c.self.inside.nodes.items c.index.result.now.node begins in
    let old = subst (λ ms. IsClosed ms (take (length c.deref.result.now - c.index.result.now.node) (drop c.index.result.now.node c.deref.result.now)) c.self.inside.count c.close.new.marks) c.deref_mut.ensures.value c.close.ensures in
    let nodes = subst (λ ns. IsClosed c.self.inside.marks.items (take (length ns - c.index.result.now.node) (drop c.index.result.now.node ns)) c.self.inside.count c.close.new.marks) c.deref.ensures.value old in
    let written = whole c.close.new.marks c.self.inside.marks.items c.self.inside.marks.len nodes.size c.self.inside.marks.ok.0 in
    let new = subst (IsClosed c.self.inside.marks.items (take (length c.self.inside.nodes.items - c.index.result.now.node) (drop c.index.result.now.node c.self.inside.nodes.items)) c.self.inside.count) (sym written) nodes in
    finishing g c.args.self.now k c.requires.some c.requires.used _ _ _ _ _ _ _ _ _ c.index.result.now.node (length c.self.inside.boundaries.items - 1) c.self.view_is refl (ap (λ b. b.node) read) part new c.truncate.ensures.items (c.truncate-2.ensures.items ∙ ap (λ n. take (n - 1) c.self.inside.boundaries.items) count)
