use Rattle.std.proofs.Common.{◌≡◌, ◌∙◌, sym, ap, subst, ℕ, Option, List, length, Some}
use Rattle.std.proofs.lemmas.Option.{same_Some}
use Rattle.p8_access.specs.declared.order.Turn.{Turn}
use Rattle.p8_access.specs.Worlds.{World}
use Rattle.p8_access.specs.declared.states.CogState.{CogState}
use Rattle.p8_access.specs.declared.states.CogState.TheVariants.{Running}
use Rattle.p8_access.specs.declared.kinds.Origin.{Origin}
use Rattle.p8_access.specs.Hub.{cog_state, origin_of}
use Rattle.p8_access.specs.Histories.{begun, since_begin}
use Rattle.p8_access.specs.Lives.{Begun, Entered, SpinBegun}
use Rattle.p8_bcog.specs.Counters.{IsCounter}
use Rattle.p8_cog.specs.Counters.{IsCounterOf}
use Rattle.p8_machine.specs.Counted.{IsCounterIn}
use Rattle.p8_legend.specs.Legends.{place_text}
use Rattle.p8_view.specs.View.{counter_of}
use Rattle.p8_view.specs.Places.{line_with}
use Rattle.p8_view.proofs.Counters.{counter-is}
use Rattle.p8_view.proofs.Placed.{no-place, spin-place}
use Rattle.p8_view.proofs.place_laws.lines_show_the_places_of_their_statements.Goals as goal

-- the counter of a running cog is that of its life
of-life : (w : World) (past : List Turn) (n : ℕ) (state : CogState) (origin : Origin) (entered : Entered) (counter : Option ℕ) → IsCounterIn w past n state counter → state ≡ Running origin → begun w past n ≡ Some (SpinBegun entered)
    → IsCounter (SpinBegun entered) (since_begin past n) counter
of-life w past n state origin entered counter is running begins =
    let h : IsCounterIn w past n (Running origin) counter = subst (λ (s : CogState). IsCounterIn w past n s counter) running is in
    subst (λ (l : Begun). IsCounterOf w.memory l (since_begin past n) counter) (same_Some h.0 (SpinBegun entered) (sym h.1 ∙ begins)) h.2

pub returns : goal.returns
returns c = λ sources files long proper some distinct mentioned no_ring image is legend of w memory first history legal counters are later turn past is_history.
    let counter : Option ℕ = counter_of counters (length past) in
    let own = counter-is w history counters are later turn past is_history in
    record {
      is_counter = own;
      place = λ origin running entered begins address known target frame is_origin.
          let its = of-life w past turn.key.cog (cog_state w past turn.key.cog) origin entered counter own running begins in
          let told = c.turns_have_the_places_of_their_statements.ensures sources files long proper some distinct mentioned no_ring image is legend of w memory first history legal later turn past is_history origin running entered begins address
          (subst (IsCounter (SpinBegun entered) (since_begin past turn.key.cog)) known its) target frame is_origin in
          record {
            file_number = told.file_number;
            method_number = told.method_number;
            place = told.place;
            names = told.names;
            text = told.tells.text;
            shown = told.tells.shown;
            line =
                ap (line_with legend w past turn counter)
                (spin-place legend counter w past turn.key.cog origin running entered begins ∙ ap (place_text legend.places) known ∙ told.tells.told);
          };
      none = λ unknown. ap (line_with legend w past turn counter) (no-place legend (origin_of (cog_state w past turn.key.cog)) counter unknown);
    }
