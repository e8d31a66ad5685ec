use Rattle.std.proofs.Common.{◌≡◌, Some, [], ◌∷◌, ◌++◌, ◌∙◌, length, refl, sym, ap, subst, arith}
use Rattle.std.specs.Prelude.{All}
use Rattle.std.proofs.lemmas.List.{length_push}
use Rattle.std.proofs.lemmas.List.Elements.{All-pop}
use Rattle.p8_fold.specs.ConstantEntries.{setting_of}
use Rattle.p8_kinds.specs.Entries.{at_bytes}
use Rattle.p8_kinds.specs.FileSettings.{HasMeaning}
use Rattle.p8_kinds.proofs.Tables.{IsPartly, partly_first, partly_next}
use Rattle.p8_kinds.proofs.settings.enter_meanings.Goals as goal

pub entries-init : goal.entries-init
entries-init c =
    let names = c.args.names.now in
    let children = c.args.children.now in
    let s = setting_of c.args.consts.now in
    record {
      partly = subst (λ es. IsPartly names children es s) (sym c.iter-left.ensures.rest) (partly_first names children s c.requires.no_name c.requires.no_constant);
      here = refl;
      found = subst (All (λ e. at_bytes e.0.items names ≡ Some e.1)) (sym c.iter-left.ensures.rest) c.iter-left.ensures.found;
    }

pub entries-smaller : goal.entries-smaller
entries-smaller c = omega (arith, ap length c.in-Some.ensures.steps, length_push c.next_back.new.self (c.in-Some.name.now, c.in-Some.kind.now))

pub entries-preserved : goal.entries-preserved
entries-preserved c =
    let names = c.args.names.now in
    let children = c.args.children.now in
    let k = c.in-Some.name.now in
    let v = c.in-Some.kind.now in
    let s = setting_of c.entries.consts in
    let t = setting_of c.enter_meaning.new.consts in
    let left = c.next_back.new.self in
    let more : c.entries.left ≡ left ++ (k, v) ∷ [] = c.in-Some.ensures.steps in
    let all = All-pop (λ e. at_bytes e.0.items names ≡ Some e.1) c.entries.left left (Some (k, v)) more c.entries.invariant.found in
    let bytes : c.in_ok-name.name ≡ k.items = c.in_ok-name.ensures ∙ c.as_slice.ensures.value in
    let entered : HasMeaning s t k.items v children = subst (λ n. HasMeaning s t n v children) bytes c.in_ok-enter_meaning.ensures in
    record {
      partly = partly_next names children k v left s t all.1 (subst (λ es. IsPartly names children es s) more c.entries.invariant.partly) entered;
      here = entered.here ∙ c.entries.invariant.here;
      found = all.0;
    }
