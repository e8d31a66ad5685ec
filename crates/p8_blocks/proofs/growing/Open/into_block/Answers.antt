use Rattle.std.proofs.Common.{sym, subst}
use Rattle.p8_tree.specs.Views.{method_of, statements_of, block_of}
use Rattle.p8_blocks.specs.Reading.{IsBlock, con_block, var_block, obj_block, dat_block}
use Rattle.p8_blocks.specs.Standing.{IsOpen}
use Rattle.p8_tree.specs.declared.sources.Block.TheVariants as block_case
use Rattle.p8_blocks.proofs.Finishing.{method_done}
use Rattle.p8_blocks.proofs.growing.Open.into_block.Goals as goal

pub returns-in-Constants : goal.returns-in-Constants
returns-in-Constants c = λ p o. subst (λ p. IsBlock p (block_of (block_case.Con c.in-Constants.items))) (sym (subst (λ x. IsOpen p x) c.in-Constants.is o)) con_block

pub returns-in-Variables : goal.returns-in-Variables
returns-in-Variables c = λ p o. subst (λ p. IsBlock p (block_of (block_case.Var c.in-Variables.items))) (sym (subst (λ x. IsOpen p x) c.in-Variables.is o)) var_block

pub returns-in-Objects : goal.returns-in-Objects
returns-in-Objects c = λ p o. subst (λ p. IsBlock p (block_of (block_case.Obj c.in-Objects.items))) (sym (subst (λ x. IsOpen p x) c.in-Objects.is o)) obj_block

pub returns-in-Data : goal.returns-in-Data
returns-in-Data c = λ p o. subst (λ p. IsBlock p (block_of (block_case.Dat c.in-Data.lines))) (sym (subst (λ x. IsOpen p x) c.in-Data.is o)) dat_block

pub returns-in_ok-body-in-Method : goal.returns-in_ok-body-in-Method
returns-in_ok-body-in-Method c = λ p o.
    let i = subst (λ x. IsOpen p x) c.in-Method.is o in
    method_done p (method_of c.in-Method.method) (method_of c.with_body.result) i.0 (statements_of c.in_ok-body-in-Method.body) (c.in_ok-body-in-Method.ensures i.0 i.1) i.2 c.with_body.ensures
