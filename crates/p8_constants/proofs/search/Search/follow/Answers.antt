use Rattle.std.proofs.Common.{◌≡◌, ◌∙◌, ◌<◌, length, subst, sym, ap, arith}
use Rattle.std.proofs.lemmas.List.{get_or_read}
use Rattle.p8_constants.specs.declared.search.NodeState.TheVariants.{New, Open, Done}
use Rattle.p8_constants.specs.Searches.{mark}
use Rattle.p8_constants.proofs.Following.{skipped}
use Rattle.p8_constants.proofs.search.Search.follow.Goals as goal

pub returns-in-Open-clause-state : goal.returns-in-Open-clause-state
returns-in-Open-clause-state c =
    let within : c.args.target < length c.self.inside.marks.items = omega (arith, ap (λ s. length s.marks) c.self.view_is, c.requires.state.size) in
    let inside : mark c.self.inside.marks.items c.args.target ≡ Open c.in-Open.position = sym (get_or_read c.self.inside.marks.items c.args.target c.index.result.now within c.index.ensures New) ∙ c.in-Open.is in
    let at = subst (λ s. mark s.marks c.args.target ≡ Open c.in-Open.position) c.self.view_is inside in
    (c.merge.ensures.state c.args.graph.now c.args.target c.requires.state c.requires.reached at).0

pub returns-in-Done-clause-state : goal.returns-in-Done-clause-state
returns-in-Done-clause-state c =
    let within : c.args.target < length c.self.inside.marks.items = omega (arith, ap (λ s. length s.marks) c.self.view_is, c.requires.state.size) in
    let inside : mark c.self.inside.marks.items c.args.target ≡ Done c.in-Done.field-0 = sym (get_or_read c.self.inside.marks.items c.args.target c.index.result.now within c.index.ensures New) ∙ c.in-Done.is in
    let at = subst (λ s. mark s.marks c.args.target ≡ Done c.in-Done.field-0) c.self.view_is inside in
    skipped c.args.graph.now c.args.self.now c.args.target c.in-Done.field-0 c.requires.state at
