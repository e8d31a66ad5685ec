use Rattle.std.proofs.Common.{◌≡◌, ◌++◌, ℕ, List, codes, ap, ◌∙◌, subst, append_assoc}
use Rattle.std.proofs.lemmas.Result.{on_ok_weaker}
use Rattle.p8_legend.specs.Legends.{address_text}
use Rattle.p8_report.specs.Text.{code_of}
use Rattle.p8_view.proofs.accesses.push_load.Goals as goal

pub returns : goal.returns
returns c =
    let names = c.args.legend.now.names in
    let code = code_of c.args.own.now in
    let named : c.push_named.new.out.items ≡ c.args.out.now.items ++ (codes "load of " ++ address_text names code) =
    subst (λ (n : ℕ). c.push_named.new.out.items ≡ c.args.out.now.items ++ (codes "load of " ++ address_text names n)) c.code_in.ensures c.in_ok-push_named.ensures in
    on_ok_weaker c.push_text.result
    (λ e. e ∙ ap (λ (xs : List ℕ). xs ++ codes ", 496 longs") named ∙ append_assoc c.args.out.now.items (codes "load of " ++ address_text names code) (codes ", 496 longs") ∙ ap (λ (xs : List ℕ). c.args.out.now.items ++ xs) (append_assoc (codes "load of ") (address_text names code) (codes ", 496 longs")))
    c.push_text.ensures
