use Rattle.p8_compiled.proofs.TemplateMethods.{operations-exist}
use Rattle.p8_compiled.proofs.template_laws.templates_have_operations.Goals as goal

pub returns : goal.returns
returns c = λ n t a ss is loops clean near. operations-exist n t a ss is loops clean near
