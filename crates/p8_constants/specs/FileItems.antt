-- The items of a file, in the order of the source: what each block declares or defines. Source: the Propeller Manual v1.2,
-- the block designators of the Spin chapter.
use Rattle.std.specs.Prelude.{List, [], ◌∷◌, ◌++◌, map}
use Rattle.p8_tree.specs.Sources.{Constant, Declared, Child, MethodTree, Line, BlockTree, Con, Var, Obj, Method, Dat, Source}

pub data Item : Type 0 where
  constant : Constant → Item
  variable : Declared → Item
  object : Child → Item
  method : MethodTree → Item
  line : Line → Item

abbrev pub block_items : BlockTree → List Item
block_items (Con xs) = map constant xs
block_items (Var xs) = map variable xs
block_items (Obj xs) = map object xs
block_items (Method x) = method x ∷ []
block_items (Dat xs) = map line xs

abbrev pub items : Source → List Item
items [] = []
items (b ∷ bs) = block_items b ++ items bs
