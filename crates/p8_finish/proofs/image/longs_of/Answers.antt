use Rattle.std.proofs.Common.{ℕ, List, ◌++◌, ap, ◌∙◌}
use Rattle.p8_finish.specs.Made.{first_longs}
use Rattle.p8_finish.proofs.Ranges.{made_whole}
use Rattle.p8_finish.proofs.image.longs_of.Goals as goal

pub returns : goal.returns
returns c =
    made_whole c.args.seed _ _ _ _ _ _
    (c.in_ok-extend_from_slice.ensures.items ∙ ap (λ (xs : List ℕ). xs ++ first_longs) c.in_ok-longs.ensures.items)
    c.in_ok-last.ensures.longs c.in_ok-push_long.ensures c.in_ok-extend_from_slice-2.ensures.items c.in_ok-push_addresses.ensures c.in_ok-push_values.ensures
