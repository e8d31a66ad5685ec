use Rattle.std.proofs.Common.{◌++◌, codes, ap, ◌∙◌, append_assoc}
use Rattle.p8_explain.specs.Sizes.{things}
use Rattle.p8_explain.proofs.sizes.push_of_arguments.Goals as goal

pub returns : goal.returns
returns c =
    c.in_ok-push_things-2.ensures
    ∙ ap (λ out. out ++ things (codes " is expected.\n") (codes " are expected.\n") c.args.wanted) c.in_ok-push_things.ensures
    ∙ append_assoc c.args.out.now.items (things (codes " argument is given, and ") (codes " arguments are given, and ") c.args.given) (things (codes " is expected.\n") (codes " are expected.\n") c.args.wanted)
