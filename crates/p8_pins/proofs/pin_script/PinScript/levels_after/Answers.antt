-- The last of so many lines.
use Rattle.std.proofs.Common.{◌≡◌, ◌<◌, suc, length, ap, sym, ◌∙◌, arith}
use Rattle.p8_pins.proofs.Levels.{kept-at, length-lines_of}
use Rattle.p8_pins.specs.Changes.{levels_by}
use Rattle.p8_pins.proofs.pin_script.PinScript.levels_after.Goals as goal

pub returns-in-Some : goal.returns-in-Some
returns-in-Some c =
    let changes = c.self.inside.changes.items in
    let len : length c.args.self.now ≡ length changes = ap length (sym c.self.view_is) ∙ length-lines_of changes in
    let inside : c.in-Some.last < length changes = omega (arith, c.in-Some.ensures.0, c.in-Some.ensures.1, c.requires) in
    let count : suc c.in-Some.last ≡ c.args.count = omega (arith, c.in-Some.ensures.0, c.in-Some.ensures.1) in
    (kept-at c.args.self.now changes c.in-Some.last c.index.result.now c.self.view_is inside c.index.ensures).levels
    ∙ ap (levels_by 0 c.args.self.now) count
