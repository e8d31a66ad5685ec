-- Reading gives the tree of exactly what is a file.
use Rattle.std.proofs.Common.{List, [], sym, subst, append-nil, ◌∙◌}
use Rattle.std.specs.Prelude.{◌↔◌}
use Rattle.p8_tree.specs.Sources.{Source}
use Rattle.p8_lines.specs.Tokens.{LineToken}
use Rattle.p8_blocks.specs.Reading.{at, start, Goes, AreBlocks, Position, Parses, whole, source}
use Rattle.p8_blocks.specs.Files.{within_limits, IsFile}
use Rattle.p8_blocks.specs.Trees.{IsShallow}
use Rattle.p8_blocks.proofs.Keeping.{AllKinds, walk_kept}
use Rattle.p8_blocks.proofs.Parts.{walk_parts, parts_file}
use Rattle.p8_blocks.proofs.Walking.{file_walk}
use Rattle.p8_blocks.proofs.Going.{gone, goes, depths}

is_file : AllKinds → {ts : List LineToken} {x : Position} {s : Source} → Goes start ts x [] → AreBlocks x.parts s → IsFile within_limits s ts × IsShallow s
is_file kinds {ts} {x} {s} g a =
    let z = gone kinds g in
    let f = parts_file (walk_parts z.walk) a (walk_kept kinds z.walk) in
    (subst (λ ts. IsFile within_limits s ts) (sym (z.split ∙ append-nil z.tokens)) f, (depths a).0 z.shallow)

is_read : AllKinds → {ts : List LineToken} {s : Source} → IsFile within_limits s ts → IsShallow s → Parses ts (source s)
is_read kinds {ts} {s} f d =
    let w = file_walk kinds f in
    let g = goes kinds w.walk ((depths w.blocks).1 d) [] in
    whole (subst (λ ts. Goes start ts (at w.parts g.0) []) (append-nil ts) g.2) w.blocks

pub files_are_read : AllKinds → (ts : List LineToken) (s : Source) → Parses ts (source s) ↔ (IsFile within_limits s ts × IsShallow s)
files_are_read kinds ts s = (to, λ x. is_read kinds x.0 x.1)
  where
    to : Parses ts (source s) → IsFile within_limits s ts × IsShallow s
    to (whole g a) = is_file kinds g a
