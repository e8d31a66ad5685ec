use Rattle.p8_compiled.proofs.TemplateMethods.{method-stands}
use Rattle.p8_compiled.proofs.template_laws.templates_stand.Goals as goal

pub returns : goal.returns
returns c = λ n t base a ss is loops clean has lines. method-stands n t base a ss is loops clean has lines
