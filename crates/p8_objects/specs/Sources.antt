-- What the bytes of a file are by themselves: a source with its tree, or one that is refused (this project's profile).
use Rattle.std.specs.Prelude.{◌≡◌, ℕ, ◌≤◌, List, [], ◌∷◌, ◌++◌, length}
use Rattle.p8_tree.specs.Sources as trees
use Rattle.p8_tree.specs.Sources.{BlockTree, Child, Source}
use Rattle.p8_lexer.specs.declared.token.Token.{Token}
use Rattle.p8_tree.specs.declared.refusal.Refusal.TheVariants.{TooManyObjects}
use Rattle.p8_tree.specs.declared.faults.Fault.{Fault}
use Rattle.p8_tree.specs.Faults.{fault}
use Rattle.p8_lexer.specs.Lexing.{longest_file, AreTokens, IsFault}
use Rattle.p8_lines.specs.Tokens.{all_tokens}
use Rattle.p8_blocks.specs.Reading as reading
use Rattle.p8_blocks.specs.Reading.{Parses}
use Rattle.p8_blocks.specs.Files.{IsFileWithinLimits}
use Rattle.p8_objects.specs.Lists.{IsAt}

-- the items of OBJ: each mentions a file
abbrev pub mentions_in : BlockTree → List Child
mentions_in (trees.Obj xs) = xs
mentions_in b = []

abbrev pub mentions : Source → List Child
mentions [] = []
mentions (b ∷ bs) = mentions_in b ++ mentions bs

-- how many items of OBJ a file may have, and how many files a project
abbrev pub most_objects : ℕ
most_objects = 255

-- these bytes are cut into tokens, and these are a file with this tree
pub record ReadsAs (bytes : List ℕ) (s : Source) : Type 0 where
  pub short : length bytes ≤ longest_file
  pub tokens : List Token
  pub cut : AreTokens bytes tokens
  pub is : IsFileWithinLimits s (all_tokens bytes tokens)

-- these bytes are a source with this tree
pub record IsSource (bytes : List ℕ) (s : Source) : Type 0 where
  pub reads : ReadsAs bytes s
  pub few : length (mentions s) ≤ most_objects

-- These bytes are refused by themselves: they have no tokens, else the tokens are no file, else the file has an item of
-- OBJ too many.
pub data IsRefused (bytes : List ℕ) (f : Fault) : Type 0 where
  no_tokens : IsFault bytes f → IsRefused bytes f
  no_file : (tokens : List Token) → length bytes ≤ longest_file → AreTokens bytes tokens →
      Parses (all_tokens bytes tokens) (reading.fault f.number f.place) → IsRefused bytes f
  too_many : (s : Source) (x : Child) → ReadsAs bytes s → IsAt (mentions s) most_objects x → f ≡ fault TooManyObjects x.place → IsRefused bytes f
