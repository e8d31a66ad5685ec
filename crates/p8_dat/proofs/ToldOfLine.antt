-- What is told of a line is the first of its faults.
use Rattle.std.proofs.Common.{◌≡◌, ◌⊎◌, Option, Some, None}
use Rattle.std.specs.Prelude.{MatchOption}
use Rattle.std.specs.Result.{result_err}
use Rattle.p8_tree.specs.declared.places.Place.{Place}
use Rattle.p8_tree.specs.Expressions.{Tree}
use Rattle.p8_tree.specs.Sources.{Instruction}
use Rattle.p8_tree.specs.declared.faults.Fault.{Fault}
use Rattle.p8_tree.specs.Faults.{IsFirstFault, first_of_two}
use Rattle.p8_fold.specs.Meanings.{Setting}
use Rattle.p8_fold.specs.Values.{value, FaultIn}
use Rattle.p8_fold.specs.Verdicts.{verdict}
use Rattle.p8_fold.proofs.Judging.{Tells, fault_told, two_told, own_told}
use Rattle.p8_fold.proofs.Judged.{judged}
use Rattle.p8_dat.specs.Encoding.{range_fault, FaultInOperand, FaultInInstruction, call_fault}
use Rattle.p8_dat.specs.FirstOfLine.{first_in_operand, first_in_instruction}

operand_told : (s : Setting) (o : Option Tree) (place : Place) → Tells (first_in_operand s o place) (FaultInOperand s o place)
operand_told s None place = λ f b. b
operand_told s (Some e) place =
    two_told (FaultIn s e) (λ f. range_fault s e place ≡ Some f) (result_err (verdict s e)) (range_fault s e place) (fault_told (FaultIn s e) (verdict s e) (value s e) (judged s e)) (own_told (range_fault s e place))

pub instruction_told : (s : Setting) (x : Instruction) → Tells (first_in_instruction s x) (FaultInInstruction s x)
instruction_told s x =
    let D : Fault → Type 0 = FaultInOperand s x.dest x.dest_place in
    let S : Fault → Type 0 = FaultInOperand s x.source x.source_place in
    let d = first_in_operand s x.dest x.dest_place in
    let e = first_in_operand s x.source x.source_place in
    two_told (λ f. D f ⊎ S f) (λ f. call_fault s x ≡ Some f) (first_of_two d e) (call_fault s x)
    (two_told D S d e (operand_told s x.dest x.dest_place) (operand_told s x.source x.source_place)) (own_told (call_fault s x))

-- what is told, as the contract says it
pub as_match : (o : Option Fault) (S : Fault → Type 0) → Tells o S → MatchOption o ((f : Fault) → ¬ S f) (IsFirstFault S)
as_match None S h = h
as_match (Some f) S h = h
