-- Tokens that are a file whose last block is a method, as a walk.
use Rattle.std.proofs.Common.{◌≡◌, ◌⊎◌, inl, inr, List, [], ◌∷◌, ◌++◌, Bool, sym, ap, ◌∙◌}
use Rattle.p8_tree.specs.Sources.{MethodTree}
use Rattle.p8_columns.specs.Lines as lines
use Rattle.p8_columns.proofs.Meaning.{fit_together}
use Rattle.p8_lines.specs.declared.state.LineState.TheVariants as state
use Rattle.p8_lines.specs.Tokens.{LineToken}
use Rattle.p8_declarations.specs.Methods.{method_of_row}
use Rattle.p8_blocks.specs.Reading.{Part, method}
use Rattle.p8_blocks.specs.Files.{any_height}
use Rattle.p8_blocks.specs.Refusals as refusals
use Rattle.p8_blocks.specs.Refusals.{EndsInMethod}
use Rattle.p8_blocks.proofs.Loops.{all_leave}
use Rattle.p8_blocks.proofs.Walks.{Valued, Progress, Walk}
use Rattle.p8_blocks.proofs.Runs.{Run, walk_run, compare, gone, Gone, nowhere, further, takes_some}
use Rattle.p8_blocks.proofs.Keeping.{AllKinds, AllKept, walk_kept, are_blocks}
use Rattle.p8_blocks.proofs.Parts.{a_method, AreParts, first, one_more, one_part, walk_parts, parts_file}
use Rattle.p8_blocks.proofs.Walking.{file_walk, head_method, lines_walk, gathered}

-- over the same tokens all walks lead to one place

pub no_more : {x y : Progress} {vs : List LineToken} → Run x [] y vs → x ≡ y
no_more {x} {y} {vs} r = go (gone r)
  where
    go : Gone x [] y vs → x ≡ y
    go (nowhere a b) = sym a
    go (further us ws l e r) = let f = takes_some l in let z = e ∙ ap (λ l. l ++ ws) f.2 in absurd cc

pub one_place : {x y : Progress} {ts : List LineToken} → Walk any_height x ts → Walk any_height y ts → x ≡ y
one_place {x} {y} w v = go (compare (walk_run w []) (walk_run v []))
  where
    go : Run x [] y [] ⊎ Run y [] x [] → x ≡ y
    go (inl r) = no_more r
    go (inr r) = sym (no_more r)

module _ (kinds : AllKinds) where
  pub method_walk : {ts : List LineToken} {ls : List lines.Line} {b : Bool} → EndsInMethod ts ls b → (m : MethodTree) × (ps : List Part) × Walk any_height (method m ls ∷ ps, b) ts
  method_walk (refusals.method {m = m} {ls = ls} {ss = ss} {ts = ts} {vs = vs} public t us row f i l e d a g) =
      let x = file_walk kinds f in
      let v : Valued any_height (method_of_row public) state.MethodName us m = record { row = row; line = l; is = e } in
      (m, x.parts, gathered ts t us vs (lines_walk kinds m x.parts (ts ++ t ∷ us) d ((fit_together ls).1 (ss, a)) ((all_leave ss ls a).1 g) (head_method public t us m i v x.walk)))

  parts_end : {m : MethodTree} {ls : List lines.Line} {ps : List Part} {b : Bool} {ts : List LineToken} → AreParts any_height (method m ls ∷ ps, b) ts → AllKept (method m ls ∷ ps) → EndsInMethod ts ls b
  parts_end (first xs d e) k = absurd (let z = (one_part xs e).0 in cc)
  parts_end {ls = ls} {ps = ps} (one_more x (a_method public t us i v d)) k =
      let s = are_blocks ps k.1 in
      let y = (fit_together ls).0 k.0.0 in
      refusals.method public t us v.row (parts_file x s.1 k.1) i v.line v.is d y.1 ((all_leave y.0 ls y.1).0 k.0.1)

  pub walk_ends : {m : MethodTree} {ls : List lines.Line} {ps : List Part} {b : Bool} {ts : List LineToken} → Walk any_height (method m ls ∷ ps, b) ts → EndsInMethod ts ls b
  walk_ends w = parts_end (walk_parts w) (walk_kept kinds w)

  -- the lines are those of the walk
  pub the_method : {x : Progress} {ts : List LineToken} {ls : List lines.Line} {b : Bool} → Walk any_height x ts → EndsInMethod ts ls b → (m : MethodTree) × (ps : List Part) × (x ≡ (method m ls ∷ ps, b))
  the_method w e = let v = method_walk e in (v.0, v.1, one_place w v.2)
