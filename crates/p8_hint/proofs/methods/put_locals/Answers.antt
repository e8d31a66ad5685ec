use Rattle.std.proofs.Common.{◌≡◌, ◌++◌, OnOk, subst}
use Rattle.p8_tree.specs.Views.{method_of}
use Rattle.p8_hint.specs.Rules.{locals_by, of_locals}
use Rattle.p8_hint.specs.SpotViews.{spots_of}
use Rattle.p8_hint.specs.Tables.{number_in}
use Rattle.p8_hint.proofs.methods.put_locals.Goals as goal

pub returns : goal.returns
returns c =
    let m = method_of c.args.method.now in
    let same : locals_by (number_in c.in_ok-reached.reached) (number_in c.in_ok-times.times) m ≡ of_locals (spots_of c.args.spots.now) m =
    λ i. locals_by (λ name. c.in_ok-reached.ensures name i) (λ name. c.in_ok-times.ensures name i) m in
    subst (λ told. OnOk c.put_unless_open.result (c.put_unless_open.new.hints.items ≡ c.args.hints.now.items ++ told)) same c.put_unless_open.ensures
