use Rattle.std.proofs.Common.{◌≡◌, ◌∙◌, Some, sym, ap, subst, rules}
use Rattle.std.specs.Prelude.{IsTrue, Contains, ◌↔◌, is_some}
use Rattle.p8_fold.specs.ConstantEntries.{at_bytes}
use Rattle.p8_fold.proofs.Bytes.{at_others}
use Rattle.p8_constants.proofs.Sets.{one_more}
use Rattle.p8_constants.proofs.name_set.NameSet.has_then_put.Goals as goal

pub returns-clause-told : goal.returns-clause-told
returns-clause-told c = λ names h.
    let key : c.in_ok-key.key.items ≡ c.args.name.now = search rules in
    let is : c.is_some.result ≡ is_some (at_bytes c.args.name.now c.args.self.now.names) =
    c.is_some.ensures ∙ ap is_some (c.in_ok-old.ensures.old ∙ ap (λ n. at_bytes n c.args.self.now.names) key) in
    subst (λ b. IsTrue b ↔ Contains names c.args.name.now) (sym is) (h.each c.args.name.now)

pub returns-clause-taken : goal.returns-clause-taken
returns-clause-taken c = λ names h.
    let key : c.in_ok-key.key.items ≡ c.args.name.now = search rules in
    let here : at_bytes c.args.name.now c.insert.new.self ≡ Some tt = search rules in
    record {
      each = one_more c.args.self.now.names c.insert.new.self c.args.name.now tt names here
          (λ n differs. at_others c.in_ok-key.key.items c.args.self.now.names c.insert.new.self _ c.in_ok-old.ensures.updates n (λ same. differs (same ∙ key)))
          h.each;
    }
