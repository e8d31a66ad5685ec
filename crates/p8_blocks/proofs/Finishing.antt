-- Blocks that are done.
use Rattle.std.proofs.Common.{◌≡◌, List, [], ◌∷◌, ◌++◌, Option, Some, None, refl, sym, ap, subst, map}
use Rattle.p8_tree.specs.declared.sources.Block.{Block}
use Rattle.p8_tree.specs.Views.{block_of}
use Rattle.p8_tree.specs.Sources as trees
use Rattle.p8_tree.specs.Sources.{MethodTree}
use Rattle.p8_tree.specs.Statements.{Statements}
use Rattle.p8_columns.specs.Lines as lines
use Rattle.p8_columns.specs.Blocks.{AreStatements}
use Rattle.p8_blocks.specs.declared.growing.Growing.{Growing}
use Rattle.p8_blocks.specs.Reading.{Part, Position, at, method, AreBlocks, no_blocks, one_more, IsBlock, method_block}
use Rattle.p8_blocks.specs.Files.{with_body}
use Rattle.p8_blocks.specs.Standing.{IsOpen, ArePartsOf, StandsFor}
use Rattle.p8_blocks.specs.declared.growing.Open as opened

pub method_done : (p : Part) (m x : MethodTree) (ls : List lines.Line) (ss : Statements) → AreStatements ss ls → p ≡ method m ls → x ≡ with_body m ss → IsBlock p (trees.Method x)
method_done p m x ls ss a e h = subst (λ p. IsBlock p (trees.Method x)) (sym e) (subst (λ x. IsBlock (method m ls) (trees.Method x)) (sym h) (method_block a))

map_end : {A B : Type 0} (f : A → B) (xs : List A) (x : A) → map f (xs ++ x ∷ []) ≡ map f xs ++ f x ∷ []
map_end f [] x = refl
map_end f (y ∷ ys) x = ap (λ zs. f y ∷ zs) (map_end f ys x)

-- one more block is done
pub done_more : (ps : List Part) (before : opened.Open) (o : Option opened.Open) (done done' : List Block) (b : Block) → ArePartsOf ps o done → o ≡ Some before → ((p : Part) → IsOpen p before → IsBlock p (block_of b)) → done' ≡ done ++ b ∷ [] → AreBlocks ps (map block_of done')
done_more ps before o done done' b h e k d = subst (λ xs. AreBlocks ps (map block_of xs)) (sym d) (go ps (subst (λ o. ArePartsOf ps o done) e h))
  where
    go : (ps : List Part) → ArePartsOf ps (Some before) done → AreBlocks ps (map block_of (done ++ b ∷ []))
    go [] h = absurd h
    go (p ∷ ps) h = subst (λ bs. AreBlocks (p ∷ ps) bs) (sym (map_end block_of done b)) (one_more h.1 (k p h.0))

-- none was at hand
pub none_done : (ps : List Part) (o : Option opened.Open) (done : List Block) → ArePartsOf ps o done → o ≡ None → AreBlocks ps (map block_of done)
none_done ps o done h e =
    let x = subst (λ o. ArePartsOf ps o done) e h in
    subst (λ ps. AreBlocks ps (map block_of done)) (sym x.0) (subst (λ xs. AreBlocks [] (map block_of xs)) (sym x.1) no_blocks)

pub none_is : (ps : List Part) (o : Option opened.Open) (done : List Block) → ArePartsOf ps o done → o ≡ None → (ps ≡ []) × (done ≡ [])
none_is ps o done h e = subst (λ o. ArePartsOf ps o done) e h

-- the part at hand, and those before it
pub record Newest (ps : List Part) (o : opened.Open) (done : List Block) : Type 0 where
  pub part : Part
  pub others : List Part
  pub is : ps ≡ part ∷ others
  pub stands : IsOpen part o
  pub before : AreBlocks others (map block_of done)

pub newest : (ps : List Part) (a : opened.Open) (o : Option opened.Open) (done : List Block) → ArePartsOf ps o done → o ≡ Some a → Newest ps a done
newest ps a o done h e = go ps (subst (λ o. ArePartsOf ps o done) e h)
  where
    go : (ps : List Part) → ArePartsOf ps (Some a) done → Newest ps a done
    go [] h = absurd h
    go (p ∷ ps) h = record { part = p; others = ps; is = refl; stands = h.0; before = h.1 }

-- a block begins after another, or before all
pub begun_behind : (x : Position) (p : Part) (before : opened.Open) (old : Growing) (b : Block) (o : opened.Open) (done : List Block) {now : Option opened.Open} → StandsFor x old → old.current ≡ Some before → ((p : Part) → IsOpen p before → IsBlock p (block_of b)) → done ≡ old.done ++ b ∷ [] → now ≡ Some o → IsOpen p o → StandsFor (at (p ∷ x.parts) None) (record { done = done; current = now; begun = None })
begun_behind x p before old b o done {now} s e k d n i = record {
  parts = subst (λ c. ArePartsOf (p ∷ x.parts) c done) (sym n) (i, done_more x.parts before old.current old.done done b s.parts e k d);
  begun = refl;
}

pub begun_alone : (x : Position) (p : Part) (old : Growing) (o : opened.Open) (now : Option opened.Open) → StandsFor x old → old.current ≡ None → now ≡ Some o → IsOpen p o → StandsFor (at (p ∷ x.parts) None) (record { done = old.done; current = now; begun = None })
begun_alone x p old o now s e n i = record {
  parts = subst (λ c. ArePartsOf (p ∷ x.parts) c old.done) (sym n) (i, none_done x.parts old.current old.done s.parts e);
  begun = refl;
}

-- the blocks of a file
pub finished_none : (x : Position) (file : Growing) → StandsFor x file → file.current ≡ None → AreBlocks x.parts (map block_of file.done)
finished_none x file s e = none_done x.parts file.current file.done s.parts e

pub finished_some : (x : Position) (file : Growing) (last : opened.Open) (b : Block) (blocks : List Block) → StandsFor x file → file.current ≡ Some last → ((p : Part) → IsOpen p last → IsBlock p (block_of b)) → blocks ≡ file.done ++ b ∷ [] → AreBlocks x.parts (map block_of blocks)
finished_some x file last b blocks s e k d = done_more x.parts last file.current file.done blocks b s.parts e k d
