use Rattle.std.proofs.Common.{◌≡◌, ◌∙◌, ◌++◌, length, ap, rules}
use Rattle.p8_constants.proofs.Entering.{entering}
use Rattle.p8_constants.proofs.search.Search.enter.Goals as goal

pub returns-clause-state : goal.returns-clause-state
returns-clause-state c =
    let node : c.len.result ≡ length c.self.inside.nodes.items = search rules in
    let target : c.len-2.result ≡ length c.self.inside.targets.items = search rules in
    (entering c.args.graph.now c.args.self.now c.args.node c.requires.state c.requires.targets c.requires.node c.requires.new c.requires.reached _ _ _ _ _ c.len.result c.len-2.result _ _ _ c.self.view_is node target c.in_ok-add_node.ensures (c.in_ok-extend_from_slice.ensures.items ∙ ap (λ more. c.self.inside.targets.items ++ more) c.targets.ensures) c.in_ok-add_boundary.ensures).0

pub returns-clause-work : goal.returns-clause-work
returns-clause-work c =
    let node : c.len.result ≡ length c.self.inside.nodes.items = search rules in
    let target : c.len-2.result ≡ length c.self.inside.targets.items = search rules in
    (entering c.args.graph.now c.args.self.now c.args.node c.requires.state c.requires.targets c.requires.node c.requires.new c.requires.reached _ _ _ _ _ c.len.result c.len-2.result _ _ _ c.self.view_is node target c.in_ok-add_node.ensures (c.in_ok-extend_from_slice.ensures.items ∙ ap (λ more. c.self.inside.targets.items ++ more) c.targets.ensures) c.in_ok-add_boundary.ensures).1

pub returns-clause-further : goal.returns-clause-further
returns-clause-further c =
    let node : c.len.result ≡ length c.self.inside.nodes.items = search rules in
    let target : c.len-2.result ≡ length c.self.inside.targets.items = search rules in
    (entering c.args.graph.now c.args.self.now c.args.node c.requires.state c.requires.targets c.requires.node c.requires.new c.requires.reached _ _ _ _ _ c.len.result c.len-2.result _ _ _ c.self.view_is node target c.in_ok-add_node.ensures (c.in_ok-extend_from_slice.ensures.items ∙ ap (λ more. c.self.inside.targets.items ++ more) c.targets.ensures) c.in_ok-add_boundary.ensures).2

pub returns-clause-found : goal.returns-clause-found
returns-clause-found c =
    let node : c.len.result ≡ length c.self.inside.nodes.items = search rules in
    let target : c.len-2.result ≡ length c.self.inside.targets.items = search rules in
    (entering c.args.graph.now c.args.self.now c.args.node c.requires.state c.requires.targets c.requires.node c.requires.new c.requires.reached _ _ _ _ _ c.len.result c.len-2.result _ _ _ c.self.view_is node target c.in_ok-add_node.ensures (c.in_ok-extend_from_slice.ensures.items ∙ ap (λ more. c.self.inside.targets.items ++ more) c.targets.ensures) c.in_ok-add_boundary.ensures).3
