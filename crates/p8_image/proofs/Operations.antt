-- Code that is operations one after the other is cut into their bytes.
use Rattle.std.proofs.Common.{◌≡◌, ◌∙◌, ap, ap₂, refl, arith, ℕ, suc, ◌+◌, ◌≤◌, ◌<◌, List, [], ◌∷◌, ◌++◌, Option, length, map, take, drop}
use Rattle.std.proofs.Math.Seq.{take-append_seam, drop-append_seam}
use Rattle.std.specs.List.{All, flat_map}
use Rattle.std.specs.Option.{option_map_or}
use Rattle.p8_bytecode.specs.declared.op.Op.{Op}
use Rattle.p8_bytecode.specs.Spelling.{IsOp, spelled}
use Rattle.p8_bytecode.proofs.ReadBack.{read-back}
use Rattle.p8_image.specs.Listing.{line_size, pieces_of}
use Rattle.p8_image.proofs.Cutting.{pieces-step}

some-byte : (op : Op) (rest : List ℕ) → 1 ≤ length (spelled op ++ rest)
some-byte op rest = omega arith

pub spelled-pieces : (ops : List Op) → All IsOp ops → pieces_of (flat_map spelled ops) ≡ map spelled ops
spelled-pieces [] all = refl
spelled-pieces (op ∷ ops) all =
    let first : IsOp op = all 0 op (omega arith) in
    let others : All IsOp ops = λ k d within. all (suc k) d (omega arith) in
    let size : line_size (spelled op ++ flat_map spelled ops) ≡ length (spelled op) =
    ap (λ (read : Option (Op × ℕ)). option_map_or (λ (r : Op × ℕ). r.1) read 1) (read-back op first (flat_map spelled ops)) in
    let taken : take (line_size (spelled op ++ flat_map spelled ops)) (spelled op ++ flat_map spelled ops) ≡ spelled op =
    ap (λ (n : ℕ). take n (spelled op ++ flat_map spelled ops)) size ∙ take-append_seam (spelled op) (flat_map spelled ops) in
    let left : drop (line_size (spelled op ++ flat_map spelled ops)) (spelled op ++ flat_map spelled ops) ≡ flat_map spelled ops =
    ap (λ (n : ℕ). drop n (spelled op ++ flat_map spelled ops)) size ∙ drop-append_seam (spelled op) (flat_map spelled ops) in
    pieces-step (spelled op ++ flat_map spelled ops) (some-byte op (flat_map spelled ops))
    ∙ ap₂ (λ (piece : List ℕ) (pieces : List (List ℕ)). piece ∷ pieces) taken (ap pieces_of left ∙ spelled-pieces ops others)
