use Rattle.std.proofs.Common.{◌/◌, [], ◌∷◌, ◌++◌}
use Rattle.p8_image.specs.Layout.{word, long}
use Rattle.p8_image.proofs.Words.{more}
use Rattle.p8_image.proofs.project_image.push_header.Goals as goal

pub returns : goal.returns
returns c =
    let f = c.args.clock.frequency in
    let h = c.args.header in
    let out = c.args.out.now.items in
    let a = more out (word f) (word (f / 65536)) _ _ c.in_ok-push_word.ensures c.in_ok-push_word-2.ensures in
    let b = more out (long f) (c.args.clock.mode ∷ 0 ∷ []) _ _ a c.in_ok-extend_from_slice.ensures.items in
    let d = more out (long f ++ c.args.clock.mode ∷ 0 ∷ []) (word h.pbase) _ _ b c.in_ok-push_place.ensures in
    let e = more out (long f ++ c.args.clock.mode ∷ 0 ∷ [] ++ word h.pbase) (word h.vbase) _ _ d c.in_ok-push_place-2.ensures in
    let g = more out (long f ++ c.args.clock.mode ∷ 0 ∷ [] ++ word h.pbase ++ word h.vbase) (word h.dbase) _ _ e c.in_ok-push_place-3.ensures in
    let i = more out (long f ++ c.args.clock.mode ∷ 0 ∷ [] ++ word h.pbase ++ word h.vbase ++ word h.dbase) (word h.pcurr) _ _ g c.in_ok-push_place-4.ensures in
    more out (long f ++ c.args.clock.mode ∷ 0 ∷ [] ++ word h.pbase ++ word h.vbase ++ word h.dbase ++ word h.pcurr) (word h.dcurr) _ _ i c.in_ok-push_place-5.ensures
