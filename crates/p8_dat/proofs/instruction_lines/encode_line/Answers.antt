use Rattle.std.proofs.Common.{◌≡◌, rules, sym, subst}
use Rattle.p8_tree.specs.Views.{instruction_of}
use Rattle.p8_fold.specs.ConstantEntries.{setting_of}
use Rattle.p8_fold.proofs.Judging.{Tells}
use Rattle.p8_dat.specs.Encoding.{FaultInInstruction}
use Rattle.p8_dat.specs.FirstOfLine.{first_in_instruction}
use Rattle.p8_dat.proofs.ToldOfLine.{instruction_told, as_match}
use Rattle.p8_dat.proofs.instruction_lines.encode_line.Goals as goal

pub returns-in_ok-end-clause-fault : goal.returns-in_ok-end-clause-fault
returns-in_ok-end-clause-fault c =
    let s = setting_of c.args.consts.now in
    let x = instruction_of c.args.line.now in
    let told : c.first_of_two.result ≡ first_in_instruction s x = search rules in
    as_match c.first_of_two.result (FaultInInstruction s x) (subst (λ o. Tells o (FaultInInstruction s x)) (sym told) (instruction_told s x))

pub returns-else-is_word-clause-fault : goal.returns-else-is_word-clause-fault
returns-else-is_word-clause-fault c =
    let s = setting_of c.args.consts.now in
    let x = instruction_of c.args.line.now in
    let told : c.first_of_two-fault.result ≡ first_in_instruction s x = search rules in
    as_match c.first_of_two-fault.result (FaultInInstruction s x) (subst (λ o. Tells o (FaultInInstruction s x)) (sym told) (instruction_told s x))
