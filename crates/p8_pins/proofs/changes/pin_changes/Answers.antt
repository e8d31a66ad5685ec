use Rattle.std.proofs.Common.{◌∙◌, ap, reverse, List, [], ◌∷◌, ◌++◌}
use Rattle.p8_pins.specs.declared.change.Change.{Change}
use Rattle.p8_pins.proofs.Turning.{all-come}
use Rattle.p8_pins.proofs.Telling.{told-first, told-more, told-all}
use Rattle.p8_pins.proofs.changes.pin_changes.Goals as goal

pub loop-next-init : goal.loop-next-init
loop-next-init c =
    let script = c.args.script.now in let past = reverse c.args.turns.now in
    let at = c.open-walk.ensures.at (all-come c.args.turns.now c.requires) in
    let first : Change = record { clock = 0; pins = c.pins.result } in
    record {
      script = c.open-walk.ensures.script;
      at = at;
      told = told-first script past c.pins.result c.push.new.changes.items
          (c.in_ok-push.ensures ∙ ap (λ (cs : List Change). cs ++ first ∷ []) c.new-changes.ensures.items) (c.pins.ensures script past 0 at);
    }

pub loop-next-preserved : goal.loop-next-preserved
loop-next-preserved c =
    let script = c.args.script.now in let past = reverse c.args.turns.now in
    let i = c.loop-next.invariant in
    let n = c.in-Some.ensures.at script past c.loop-next.clock i.script i.at in
    record {
      script = c.in-Some.ensures.script ∙ i.script;
      at = n.1;
      told = told-more script past c.loop-next.clock c.in-Some.next c.pins-in-Some.result c.loop-next.changes.items c.push-in-Some.new.changes.items
          n.0 n.2 (c.pins-in-Some.ensures script past c.in-Some.next n.1) c.in_ok-push-2.ensures i.told;
    }

pub returns : goal.returns
returns c = λ w same.
    let script = c.args.script.now in let past = reverse c.args.turns.now in
    let i = c.loop-next.invariant in
    told-all script past w c.loop-next.clock _ same (c.in_default.ensures.at script past c.loop-next.clock i.script i.at) i.told
