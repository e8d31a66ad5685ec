use Rattle.std.proofs.Common.{map, refl}
use Rattle.p8_tree.specs.Views.{method_of}
use Rattle.p8_build.specs.Files.{names_with}
use Rattle.p8_build.proofs.OneByOne.{all_codes, code_first}
use Rattle.p8_build.proofs.coding.codes_of.Goals as goal

pub returns-in-None-clause-codes : goal.returns-in-None-clause-codes
returns-in-None-clause-codes c =
    all_codes (names_with c.args.kinds.now c.args.tables.now) c.args.instances (map (λ m. method_of m.now) c.args.methods.now) c.in_ok-codes.field-0 c.first_too_many.result c.first_of_two.result
    c.in_ok-codes.ensures c.first_too_many.ensures c.first_of_two.ensures c.in-None.is

pub returns-in_ok-code_size-in-Some-clause-refused : goal.returns-in_ok-code_size-in-Some-clause-refused
returns-in_ok-code_size-in-Some-clause-refused c = record {
  phase = refl;
  file_is = refl;
  first = code_first (names_with c.args.kinds.now c.args.tables.now) c.args.instances (map (λ m. method_of m.now) c.args.methods.now) c.in_ok-codes.field-0 c.first_too_many.result c.first_of_two.result c.in-Some.fault
      c.in_ok-codes.ensures c.first_too_many.ensures c.first_of_two.ensures c.in-Some.is;
  size = c.in_ok-code_size-in-Some.ensures;
}
