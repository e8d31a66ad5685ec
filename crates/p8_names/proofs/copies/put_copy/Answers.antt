use Rattle.std.proofs.Common.{◌≡◌, [], ◌∷◌, ◌++◌, Some, OnOk, slice_get, option_to_list, append-nil, sym, ap, ◌∙◌, subst}
use Rattle.std.proofs.lemmas.Option.{slice_get_past, slice_get-get_or}
use Rattle.p8_names.proofs.copies.put_copy.Goals as goal

pub returns-in-None : goal.returns-in-None
returns-in-None c =
    sym (append-nil c.args.items.now) ∙ ap (λ o. c.args.items.now ++ option_to_list o) (sym (slice_get_past c.args.seen.now c.args.target c.in-None.ensures.lookup.3))

pub returns-in_ok-copy_of-in-Some : goal.returns-in_ok-copy_of-in-Some
returns-in_ok-copy_of-in-Some c =
    let child = c.in-Some.child.now in
    let read : slice_get c.args.seen.now c.args.target ≡ Some c.in-Some.child.now =
    slice_get-get_or c.args.seen.now c.args.target child c.in-Some.ensures.lookup.3.0 ∙ ap (λ c. Some c) (sym (c.in-Some.ensures.lookup.3.1 child))
    in
    subst (λ m. OnOk c.push.result (c.push.new.self ≡ c.args.items.now ++ m)) (ap (λ c. c ∷ []) c.in_ok-copy_of-in-Some.ensures ∙ sym (ap option_to_list read)) c.push.ensures.ok
