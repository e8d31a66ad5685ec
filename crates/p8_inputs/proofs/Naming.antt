-- Legends that say the same are one.
use Rattle.std.proofs.Common.{◌≡◌, ◌∙◌, ap, sym}
use mathlib.Core.HLevel.{is_prop→PathP}
use Rattle.p8_legend.specs.declared.legend.Legend.{Legend}
use Rattle.p8_legend.specs.declared.ranges.Ranges.{Ranges}
use Rattle.p8_legend.specs.Ranges.{AreApart, is_prop-AreApart}
use Rattle.p8_legend.specs.ProjectLegends.{Named}
use Rattle.p8_legend.specs.Projects.{AreSame}
use Rattle.p8_inputs.specs.Legends.{TellsNothing}

same-ranges : (a b : Ranges) → a.ranges ≡ b.ranges → a.texts ≡ b.texts → a ≡ b
same-ranges a b p q = λ i. record { ranges = p i; texts = q i; apart = is_prop→PathP (λ j. AreApart 0 (p j)) (λ j. is_prop-AreApart 0 (p j)) a.apart b.apart i }

pub same-legend : (a b : Legend) → AreSame a b → a ≡ b
same-legend a b s =
    λ i. record {
      names = same-ranges a.names b.names (ap (λ (n : Named). n.0) s.names) (ap (λ (n : Named). n.1) s.names) i;
      places = same-ranges a.places b.places (ap (λ (n : Named). n.0) s.places) (ap (λ (n : Named). n.1) s.places) i;
      lines = same-ranges a.lines b.lines (ap (λ (n : Named). n.0) s.lines) (ap (λ (n : Named). n.1) s.lines) i;
      locals = same-ranges a.locals b.locals (ap (λ (n : Named). n.0) s.locals) (ap (λ (n : Named). n.1) s.locals) i;
    }

pub same-nothing : (a b : Legend) → TellsNothing a → TellsNothing b → a ≡ b
same-nothing a b p q =
    λ i. record {
      names = same-ranges a.names b.names (p.0.0 ∙ sym q.0.0) (p.0.1 ∙ sym q.0.1) i;
      places = same-ranges a.places b.places (p.1.0 ∙ sym q.1.0) (p.1.1 ∙ sym q.1.1) i;
      lines = same-ranges a.lines b.lines (p.2.0 ∙ sym q.2.0) (p.2.1 ∙ sym q.2.1) i;
      locals = same-ranges a.locals b.locals (p.3.0 ∙ sym q.3.0) (p.3.1 ∙ sym q.3.1) i;
    }
