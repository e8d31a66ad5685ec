-- Why there is nothing to view.
use Rattle.std.proofs.Common.{◌≡◌, ap, sym, subst, inl, inr, ℕ, List, Option, Some, None}
use Rattle.p8_io.specs.Shelves.{Files}
use Rattle.p8_legend.specs.declared.legend.Legend.{Legend}
use Rattle.p8_inputs.specs.declared.program.Format.{Format}
use Rattle.p8_inputs.specs.declared.stop.Stop.{Stop}
use Rattle.p8_inputs.specs.declared.stop.Stop.TheVariants.{NoMemory, Unnamed}
use Rattle.p8_inputs.specs.Asks.{viewing, StopsAt}
use Rattle.p8_inputs.specs.Inputs.{IsProgram}
use Rattle.p8_inputs.specs.Legends.{IsLegendFrom, range_in}
use Rattle.p8_inputs.specs.Steps.{IsNamelessIn}

-- nothing has the name that is asked for
pub seek-stops : (files : Files) (before now : ℕ) (format : Format) (file xs : List ℕ) (name : Option (List ℕ)) (legend : Legend) (stop : Stop) → IsProgram files format file xs → IsLegendFrom files format file legend → IsNamelessIn legend file name stop → StopsAt files before now (viewing format file name) stop
seek-stops files before now format file xs (Some name) legend (Unnamed other text) there from is =
    inr (is.0.0, ap Some (sym is.0.1), (xs, there), (legend, from, subst (λ (t : List ℕ). range_in legend t ≡ None) (sym is.0.1) is.1))
seek-stops files before now format file xs (Some name) legend NoMemory there from is = inl tt
seek-stops files before now format file xs (Some name) legend stop there from is = absurd is.0
seek-stops files before now format file xs None legend stop there from is = absurd is
