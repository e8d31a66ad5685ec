use Rattle.p8_opt.proofs.placed_laws.recoded_images_have_their_methods.Goals as goal

pub returns : goal.returns
returns c = λ files changed children xs clock proper some distinct mentioned no_ring seen compiled fits w memory first.
    (c.recoded_images_have_their_lines.ensures files changed children xs clock proper some distinct mentioned no_ring seen compiled fits w memory first).world
