use Rattle.std.proofs.Common.{◌≡◌, take}
use Rattle.p8_tree.specs.Views.{statements_of, arms_of}
use Rattle.p8_meaning.specs.Folding.{folded_body, folded_chain, folded_arms}
use Rattle.p8_meaning.specs.Copies.{constants_of, chain_of}
use Rattle.p8_meaning.proofs.folder.Folder.+statements.Given as goal

abbrev pub invariant-body-loop-statement : goal.invariant-body-loop-statement
invariant-body-loop-statement l = statements_of l.out.items ≡ folded_body (constants_of l.self) (statements_of (take l.statement-index l.statements))

abbrev pub invariant-chain-loop-arm : goal.invariant-chain-loop-arm
invariant-chain-loop-arm l = chain_of l.left ≡ folded_chain (constants_of l.self) (arms_of (take l.arm-index l.arms))

abbrev pub invariant-arms-loop-arm : goal.invariant-arms-loop-arm
invariant-arms-loop-arm l = arms_of l.folded.items ≡ folded_arms (constants_of l.self) (arms_of (take l.arm-index l.arms))
