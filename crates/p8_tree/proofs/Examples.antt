-- A statement that is proper, and forms that aren't.
use Rattle.std.specs.Prelude.{true, None, refl, codes}
use Rattle.std.proofs.Common.{arith, rules}
use Rattle.p8_tree.specs.declared.places.Place.{Place}
use Rattle.p8_tree.specs.Expressions.{node, Number, Var, Unary, Binary, Assign, Change, Named, Register, no_index, whole}
use Rattle.p8_tree.specs.Statements.{statement, If, Repeat, From, Do, no_statements, ◌▹◌, no_arms, nothing_else}
use Rattle.p8_tree.specs.Names.{two_operands, on_memory, one_operand, spin_words, condition_words, IsName, plain_name}
use Rattle.p8_tree.specs.Proper.{IsProperForm, IsProperStatement}

name_a : IsName (codes "A")
unfolding two_operands on_memory one_operand spin_words condition_words
name_a = record { begins = refl; characters = search rules; short = omega arith; free = refl }

name_i : IsName (codes "I")
unfolding two_operands on_memory one_operand spin_words condition_words
name_i = record { begins = refl; characters = search rules; short = omega arith; free = refl }

-- repeat i from 0 to 2, and in it a := i
counting : (p : Place) → IsProperStatement (statement p (Repeat (From (codes "I") (node p (Number 0)) (node p (Number 2)) None p) (no_statements ▹ statement p (Do (node p (Assign (Named (codes "A") no_index p) None (node p (Var (Named (codes "I") no_index p)))))))))
counting p = ((plain_name name_i, (omega arith, omega arith), (omega arith, omega arith), tt), (tt, ((tt, refl, (plain_name name_a, tt), (plain_name name_i, tt)), omega arith)))

-- E0 has two operands and E7 one, PAR isn't written, and an IF has an arm.
no_unary : (p : Place) → ¬ IsProperForm true (Unary 0xE0 (node p (Number 0)))
no_unary p (h, _) = cc

no_binary : (p : Place) → ¬ IsProperForm true (Binary 0xE7 (node p (Number 0)) (node p (Number 0)))
no_binary p (h, _, _) = cc

no_write : (p : Place) → ¬ IsProperForm true (Change (Register 0x1F0 whole p) 0x20)
no_write p (_, h, _) = cc

no_arm : (p : Place) → ¬ IsProperStatement (statement p (If no_arms nothing_else))
no_arm p (h, _, _) = cc
