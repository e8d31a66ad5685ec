-- What a file's last block is, by its tree and by the parts that are read.
use Rattle.std.proofs.Common.{◌≡◌, List, [], ◌∷◌, ◌++◌, Some, refl, sym, ◌∙◌}
use Rattle.std.specs.Prelude.{IsTrue}
use Rattle.p8_tree.specs.Sources.{BlockTree, Source}
use Rattle.p8_lines.specs.declared.state.LineState.{LineState}
use Rattle.p8_lines.specs.Tokens.{LineToken}
use Rattle.p8_blocks.specs.Reading.{Part, line_state, declares, AreBlocks, no_blocks, one_more, con_block, var_block, obj_block, dat_block, method_block}
use Rattle.p8_blocks.specs.Files.{any_height, IsFile}
use Rattle.p8_blocks.specs.Refusals.{block_state, last_state}
use Rattle.p8_blocks.proofs.Walks.{Progress, Walk}
use Rattle.p8_blocks.proofs.Keeping.{walk_kept, are_blocks}
use Rattle.p8_blocks.proofs.Parts.{walk_parts, parts_file}
use Rattle.p8_blocks.proofs.Stopping.{AllValues}

pub file_of : AllValues → {x : Progress} {ts : List LineToken} → Walk any_height x ts → (s : Source) × IsFile any_height s ts × AreBlocks x.0 s
file_of all {x} w = let k = walk_kept all.kinds w in let a = are_blocks x.0 k in (a.0, parts_file (walk_parts w) a.1 k, a.1)

last_more : (bs : Source) (b : BlockTree) → last_state (bs ++ b ∷ []) ≡ block_state b
last_more [] b = refl
last_more (c ∷ []) b = refl
last_more (c ∷ d ∷ bs) b = last_more (d ∷ bs) b

pub last_of : {ps : List Part} {s : Source} → AreBlocks ps s → IsTrue (declares ps) → last_state s ≡ Some (line_state ps)
last_of no_blocks d = refl
last_of (one_more {bs = bs} {b = b} a con_block) d = last_more bs b
last_of (one_more {bs = bs} {b = b} a var_block) d = last_more bs b
last_of (one_more {bs = bs} {b = b} a obj_block) d = last_more bs b
last_of (one_more {bs = bs} {b = b} a dat_block) d = last_more bs b
last_of (one_more a (method_block x)) d = absurd cc

pub declares_of : {ps : List Part} {s : Source} {q : LineState} → AreBlocks ps s → last_state s ≡ Some q → IsTrue (declares ps) × (line_state ps ≡ q)
declares_of no_blocks e = (refl, cc)
declares_of (one_more {bs = bs} {b = b} a con_block) e = let z = sym (last_more bs b) ∙ e in (refl, cc)
declares_of (one_more {bs = bs} {b = b} a var_block) e = let z = sym (last_more bs b) ∙ e in (refl, cc)
declares_of (one_more {bs = bs} {b = b} a obj_block) e = let z = sym (last_more bs b) ∙ e in (refl, cc)
declares_of (one_more {bs = bs} {b = b} a dat_block) e = let z = sym (last_more bs b) ∙ e in (refl, cc)
declares_of (one_more {bs = bs} {b = b} a (method_block x)) e = let z = sym (last_more bs b) ∙ e in absurd cc
