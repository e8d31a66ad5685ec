use Rattle.std.proofs.Common.{◌∙◌, ap, ℕ, Option, length}
use Rattle.p8_legend.specs.Legends.{place_text}
use Rattle.p8_view.specs.View.{counter_of}
use Rattle.p8_view.specs.Places.{line_with}
use Rattle.p8_view.proofs.Counters.{counter-is}
use Rattle.p8_view.proofs.Placed.{pasm-place}
use Rattle.p8_view.proofs.place_laws.lines_show_the_lines_of_dat.Goals as goal

pub returns : goal.returns
returns c = λ sources files long proper legend is w history counters are later turn past is_history.
    let counter : Option ℕ = counter_of counters (length past) in
    record {
      is_counter = counter-is w history counters are later turn past is_history;
      line = λ origin running loaded begins address known file line has.
          ap (line_with legend w past turn counter)
          (pasm-place legend counter w past turn.key.cog origin running loaded begins ∙ ap (place_text legend.lines) known
          ∙ c.addresses_of_dat_have_their_lines.ensures sources files long proper legend is file line address has);
    }
