use Rattle.std.proofs.Common.{sym, ◌∙◌}
use Rattle.p8_opt.proofs.Hiding.{constants-same}
use Rattle.p8_opt.proofs.folded_laws.resolved_files_hide_none.Goals as goal

pub returns : goal.returns
returns c =
    let own = c.own_names_are_apart.ensures in
    record {
      constants = λ source seen top found named read f children_are kinds_are.
          constants-same source seen found f children_are (λ k m at name kind is. (own.apart source seen top found named k m at (read k m at) name kind is, own.local source seen top found named k m at (read k m at) name kind is)) kinds_are;
      hides = λ source seen top found named read f children_are kinds_are.
          let same = constants-same source seen found f children_are (λ k m at name kind is. (own.apart source seen top found named k m at (read k m at) name kind is, own.local source seen top found named k m at (read k m at) name kind is)) kinds_are in
          record { same = λ method. same method ∙ sym (same 0) };
    }
