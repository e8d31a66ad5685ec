use Rattle.p8_prop.proofs.Asking.{runs-are_told}
use Rattle.p8_prop.proofs.laws.runs_are_told.Goals as goal

pub returns : goal.returns
returns c = runs-are_told c.images_have_their_methods.ensures c.lives_are_told.ensures.ended c.short_lives_are_told.ensures
