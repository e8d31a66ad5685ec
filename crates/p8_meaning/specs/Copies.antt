-- What copies of trees are made of: internal.
use Rattle.std.specs.Prelude.{ℕ, true, false, Option, None, Some, Vec}
use Rattle.std.specs.declared.alloc.Global.{Global}
use Rattle.p8_tree.specs.declared.statements.Stmt as stmt
use Rattle.p8_tree.specs.Expressions.{Tree, node}
use Rattle.p8_tree.specs.Statements.{Arm, arm, Arms}
use Rattle.p8_tree.specs.Views.{arms_of, statements_of}
use Rattle.p8_fold.specs.ConstantEntries.{setting_of}
use Rattle.p8_meaning.specs.Constants.{Constants, constants_in}
use Rattle.p8_meaning.specs.Folding.{number_or, Chain, Going, Ended, Condition, Known, Unknown, NoTest, folded_items, folded_body}
use Rattle.p8_meaning.specs.declared.folder.Folder.{Folder}
use Rattle.p8_meaning.specs.declared.chains.Condition as code_condition
use Rattle.p8_meaning.specs.declared.chains.Condition.TheVariants as condition_case
use Rattle.p8_meaning.specs.declared.chains.Chain as code_chain

-- the constants by which trees are folded
abbrev pub constants_of : Folder → Constants
constants_of f = constants_in (setting_of f.consts.now)

-- the number in place of the form, where there is one
abbrev pub with_number : Option ℕ → Tree → Tree
with_number number (node place form) = node place (number_or number form)

abbrev pub condition_of : code_condition.Condition → Condition
condition_of condition_case.Always = Known true
condition_of condition_case.Never = Known false
condition_of condition_case.Unknown = Unknown
condition_of condition_case.NoTest = NoTest

abbrev pub going_or_ended : Arms → Option (Vec stmt.Stmt Global) → Chain
going_or_ended arms None = Going arms
going_or_ended arms (Some body) = Ended arms (statements_of body.items)

abbrev pub chain_of : code_chain.Chain → Chain
chain_of c = going_or_ended (arms_of c.arms.items) c.chosen

-- an arm with what is in it folded
abbrev pub folded_arm : Constants → Arm → Arm
folded_arm c (arm tests negated body) = arm (folded_items c tests) negated (folded_body c body)
