use Rattle.std.proofs.Common.{◌∙◌, sym}
use Rattle.p8_blocks.proofs.Finishing.{begun_behind, begun_alone}
use Rattle.p8_blocks.proofs.growing.Growing.begin.Goals as goal

pub returns-in_ok-push-in-Some : goal.returns-in_ok-push-in-Some
returns-in_ok-push-in-Some c = λ x p s i.
    let old = c.args.self.now in
    begun_behind x p c.in-Some.before old c.in_ok-into_block-in-Some.field-0 c.args.block _ s (sym c.replace.ensures.value ∙ c.in-Some.is) c.in_ok-into_block-in-Some.ensures c.in_ok-push-in-Some.ensures.ok c.replace.ensures.after i

pub returns-in-None : goal.returns-in-None
returns-in-None c = λ x p s i.
    begun_alone x p c.args.self.now c.args.block _ s (sym c.replace.ensures.value ∙ c.in-None.is) c.replace.ensures.after i
