use Rattle.std.proofs.Common.{◌≡◌, ◌∙◌, ◌++◌, ◌∷◌, ◌+◌, ℕ, arith, List, append_assoc, ap, ap₂, sym, drop, map}
use Rattle.std.proofs.lemmas.List.{drop_more}
use Rattle.p8_tree.specs.declared.projects.ProjectFile.{ProjectFile}
use Rattle.p8_tree.specs.Views.{named_source_of}
use Rattle.p8_page.specs.Page.{blocks_text, source_blocks}
use Rattle.p8_inputs.specs.Sources.{file_blocks}
use Rattle.p8_inputs.proofs.Filing.{file-more}
use Rattle.p8_inputs.proofs.sources.push_files.Goals as goal

pub loop-i-preserved : goal.loop-i-preserved
loop-i-preserved c =
    let files = c.args.files.now in
    let sources = c.args.sources.now in
    let i = c.loop-i.i in
    let out = c.loop-i.out.items in
    let file = c.index-files-i.result in
    let text = c.index-sources-i.result in
    let rest = blocks_text (file_blocks (map named_source_of (drop (i + 1) files)) (drop (i + 1) sources)) in
    let here : drop i files ≡ file ∷ drop (i + 1) files = drop_more files i file c.loop-i-test.true ∙ ap (λ (f : ProjectFile). f ∷ drop (i + 1) files) (sym c.index-files-i.is) in
    let there : drop i sources ≡ text ∷ drop (i + 1) sources = drop_more sources i text (omega (arith, c.requires, c.loop-i-test.true)) ∙ ap (λ (t : List ℕ). t ∷ drop (i + 1) sources) (sym c.index-sources-i.is) in
    let pushed : c.push_source.new.out.items ≡ out ++ blocks_text (source_blocks file.name text) =
    c.in_ok-push_source.ensures ∙ ap₂ (λ (n t : List ℕ). out ++ blocks_text (source_blocks n t)) c.as_slice.ensures c.as_slice-in-loop-i.ensures
    ∙ ap (λ (f : ProjectFile). out ++ blocks_text (source_blocks f.name text)) (sym c.index-files-i.is) in
    ap (λ (xs : List ℕ). xs ++ rest) pushed
    ∙ append_assoc out (blocks_text (source_blocks file.name text)) rest
    ∙ ap (λ (xs : List ℕ). out ++ xs) (sym (file-more files sources i file text here there))
    ∙ c.loop-i.invariant
