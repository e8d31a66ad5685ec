-- The text of hints (this project's profile).
use Rattle.std.specs.Prelude.{ℕ, List, [], ◌∷◌, ◌++◌, codes}
use Rattle.std.specs.List.{flat_map}
use Rattle.p8_tree.specs.Projects.{NamedSource}
use Rattle.p8_kinds.specs.declared.children.Children.{Children}
use Rattle.p8_fold.specs.Meanings.{Setting}
use Rattle.p8_constants.specs.FileItems.{Item, items}
use Rattle.p8_stmt.specs.declared.code.MethodCode.{MethodCode}
use Rattle.p8_build.specs.Files.{CompiledFile, setting_of}
use Rattle.p8_explain.specs.Explaining.{line_of, marked, place_text}
use Rattle.p8_hint.specs.declared.hint.Hint.{Hint}
use Rattle.p8_hint.specs.Sentences.{rule_name, said}
use Rattle.p8_hint.specs.Rules.{hints_in}
use Rattle.p8_hint.specs.FileFacts.{facts_by}

-- the place and the name of the rule, the source's line with a mark under the place, and what is said of it
abbrev pub text_with : (file line : List ℕ) → Hint → List ℕ
text_with file line h = place_text file h.place ++ rule_name h.slip ++ codes "\n" ++ marked line h.place.column ++ said h.slip ++ codes "\n"

abbrev pub text_of : (file bytes : List ℕ) → Hint → List ℕ
text_of file bytes h = text_with file (line_of bytes h.place.line) h

-- items of a file of this name, whose methods have these codes, and in which constants have these values
abbrev pub text_with_facts : (file bytes : List ℕ) → List MethodCode → Setting → List Item → List ℕ
text_with_facts file bytes codes s xs = flat_map (text_of file bytes) (hints_in (facts_by codes s xs) xs)

-- a file, by what it sees of its objects and what it is compiled to
abbrev pub file_text : (bytes : List ℕ) → NamedSource → Children → CompiledFile → List ℕ
file_text bytes file seen x = text_with_facts file.name bytes x.codes (setting_of seen x) (items file.tree)

-- the files one after the other
abbrev pub texts_of : (sources : List (List ℕ)) → List NamedSource → List Children → List CompiledFile → List (List ℕ)
texts_of (bytes ∷ sources) (file ∷ files) (seen ∷ children) (x ∷ xs) = file_text bytes file seen x ∷ texts_of sources files children xs
texts_of _ _ _ _ = []

abbrev pub or_nothing : List ℕ → List ℕ
or_nothing [] = codes "nothing to hint at\n"
or_nothing (c ∷ cs) = c ∷ cs

abbrev pub joined : List (List ℕ) → List ℕ
joined ts = flat_map (λ t. t) ts

abbrev pub hints_of : (sources : List (List ℕ)) → List NamedSource → List Children → List CompiledFile → List ℕ
hints_of sources files children xs = or_nothing (joined (texts_of sources files children xs))
