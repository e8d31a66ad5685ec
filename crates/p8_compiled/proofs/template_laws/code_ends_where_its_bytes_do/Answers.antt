use Rattle.p8_compiled.proofs.Lengths.{method-measured}
use Rattle.p8_compiled.proofs.template_laws.code_ends_where_its_bytes_do.Goals as goal

pub returns : goal.returns
returns c = λ n ss. method-measured n ss
