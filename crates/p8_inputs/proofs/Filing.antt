-- The blocks of files, one after another.
use Rattle.std.proofs.Common.{◌≡◌, ◌∙◌, ◌++◌, ◌∷◌, [], ◌+◌, ℕ, List, ap₂, append_assoc, append-nil, ap, sym, drop, map}
use Rattle.p8_tree.specs.declared.projects.ProjectFile.{ProjectFile}
use Rattle.p8_tree.specs.Views.{named_source_of}
use Rattle.p8_page.specs.declared.block_kind.BlockKind.TheVariants as kind
use Rattle.p8_page.specs.Blocks.{block_text}
use Rattle.p8_page.specs.Page.{blocks_text, source_blocks}
use Rattle.p8_inputs.specs.Sources.{file_blocks}

joins : (a b rest : List ℕ) → a ++ (b ++ rest) ≡ (a ++ (b ++ [])) ++ rest
joins a b rest = sym (append_assoc a (b ++ []) rest ∙ ap (λ (xs : List ℕ). a ++ (xs ++ rest)) (append-nil b))

-- those from a file on are its own, and those from the next one on
pub file-more : (files : List ProjectFile) (sources : List (List ℕ)) (i : ℕ) (file : ProjectFile) (text : List ℕ) → drop i files ≡ file ∷ drop (i + 1) files → drop i sources ≡ text ∷ drop (i + 1) sources
    → blocks_text (file_blocks (map named_source_of (drop i files)) (drop i sources))
    ≡ blocks_text (source_blocks (named_source_of file).name text) ++ blocks_text (file_blocks (map named_source_of (drop (i + 1) files)) (drop (i + 1) sources))
file-more files sources i file text f s =
    ap₂ (λ (fs : List ProjectFile) (ss : List (List ℕ)). blocks_text (file_blocks (map named_source_of fs) ss)) f s
    ∙ joins (block_text kind.Name (named_source_of file).name) (block_text kind.Source text) (blocks_text (file_blocks (map named_source_of (drop (i + 1) files)) (drop (i + 1) sources)))
