use Rattle.std.proofs.Common.{arith}
use Rattle.p8_meaning.specs.Constants.{constants_in}
use Rattle.p8_meaning.specs.Folding.{folded_body}
use Rattle.p8_opt.proofs.Methods.{method-short, method-held, method-faultless}
use Rattle.p8_opt.proofs.folded_laws.folded_methods_are_no_longer.Goals as goal

pub returns : goal.returns
returns c = record {
  length = λ n wide hides ss proper.
      let short = method-short n wide hides ss proper in
      let after = c.code_ends_where_its_bytes_do.ensures n (folded_body (constants_in n.constants) ss) in
      let before = c.code_ends_where_its_bytes_do.ensures n ss in
      omega (arith, short, after, before);
  depth = method-held;
  faults = method-faultless;
}
