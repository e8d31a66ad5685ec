use Rattle.std.proofs.Common.{◌≡◌, ◌∙◌, ap}
use Rattle.p8_constants.specs.Standing.{items_of}
use Rattle.p8_hint.specs.Rules.{reached_in, times_in}
use Rattle.p8_hint.specs.FileFacts.{exposed_in, needed_in, spots_of_items}
use Rattle.p8_hint.specs.SpotViews.{spots_of}
use Rattle.p8_hint.specs.Tables.{number_in}
use Rattle.p8_hint.proofs.facts.facts_of_items.Goals as goal

pub returns : goal.returns
returns c =
    let xs = items_of c.args.items.now in
    let spots : spots_of c.in_ok-spots.spots.items ≡ spots_of_items xs = c.in_ok-spots.ensures in
    let first : spots_of c.deref.result.now ≡ spots_of_items xs = ap spots_of c.deref.ensures.value ∙ spots in
    let again : spots_of c.deref-2.result.now ≡ spots_of_items xs = ap spots_of c.deref-2.ensures.value ∙ spots in
    let reached : number_in c.in_ok-reached.reached ≡ reached_in (spots_of_items xs) = λ i name. (c.in_ok-reached.ensures name ∙ ap (λ ss. reached_in ss name) first) i in
    λ i. record {
      needed = λ name. (c.in_ok-needed_in.ensures name ∙ ap (λ ms. needed_in ms c.args.codes.now name) c.requires.methods) i;
      array = λ name. c.in_ok-arrays_of.ensures name i;
      times = λ name. (c.in_ok-times_in.ensures name ∙ ap (λ ss. times_in ss name) again) i;
      on_code = λ name. c.in_ok-labels_of.ensures name i;
      exposed = (c.exposed_in.ensures ∙ ap (λ r. exposed_in r xs) reached) i;
    }
