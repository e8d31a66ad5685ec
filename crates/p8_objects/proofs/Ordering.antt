-- The order in which gathering reads files.
use Rattle.std.proofs.Common.{◌≡◌, ◌∙◌, ap, sym, subst, ℕ, inl, inr, List, [], ◌∷◌, ◌++◌, append_assoc}
use Rattle.std.proofs.lemmas.List.{append-nil, map-append}
use Rattle.p8_tree.specs.declared.projects.ProjectFile.{ProjectFile}
use Rattle.p8_tree.specs.Projects.{NamedSource}
use Rattle.p8_tree.specs.Views.{source_of}
use Rattle.p8_io.specs.Shelves.{Files, Log, WereRead}
use Rattle.p8_objects.specs.Mentioned.{sources_of}
use Rattle.p8_objects.specs.Orders.{ReadsNext, no_more, last, one_more, ReadsInOrder, names_of, AreAllRead}
use Rattle.p8_objects.specs.Outcomes.{shelved, HasBytes, named}
use Rattle.p8_objects.specs.Reading.{IsFileOf, MayBeRead}
use Rattle.p8_objects.specs.Goings.{IsAsked}
use Rattle.p8_objects.proofs.Calling.{sources_more, same_name}
use Rattle.p8_objects.proofs.Logs.{nothing-read, read-both}

-- what is read after these files is what gathering reads after their names
pub record ReadsOn (shelf : Files) (top : List ℕ) (sources : List NamedSource) : Type 0 where
  pub on : (names : List (List ℕ)) → ReadsNext shelf top sources names → ReadsNext shelf top [] (names_of sources ++ names)

-- the files so far are those that were read
pub record HaveBeenRead (shelf : Files) (top : List ℕ) (before now : Log) (sources : List NamedSource) : Type 0 where
  pub read : AreAllRead sources before now
  pub next : ReadsOn shelf top sources

pub nothing-in_order : (shelf : Files) (top : List ℕ) (log : Log) → ReadsInOrder shelf top log log
nothing-in_order shelf top log = ([], nothing-read log, no_more)

pub begin-reading : (shelf : Files) (top : List ℕ) (log : Log) (fs : List ProjectFile) → fs ≡ [] → HaveBeenRead shelf top log log (sources_of fs)
begin-reading shelf top log fs none =
    subst (λ (gs : List ProjectFile). HaveBeenRead shelf top log log (sources_of gs)) (sym none)
    (record { read = nothing-read log; next = record { on = λ names reads. reads } })

module _ (shelf : Files) (top : List ℕ) (before between now : Log) {sources : List NamedSource} (h : HaveBeenRead shelf top before between sources) where
  -- the files so far, and nothing more
  pub so-far : ReadsInOrder shelf top before between
  so-far =
      (names_of sources, h.read, subst (λ (names : List (List ℕ)). ReadsNext shelf top [] names) (append-nil (names_of sources)) (h.next.on [] no_more))

  -- and the one that is asked for, or not
  pub with-one : {done : List ℕ} (name : List ℕ) → IsAsked top sources done name → MayBeRead name between now → ReadsInOrder shelf top before now
  with-one name asked (inl none) =
      (names_of sources ++ [], read-both before between now (names_of sources) [] h.read none, h.next.on [] no_more)
  with-one name asked (inr one) =
      (names_of sources ++ name ∷ [], read-both before between now (names_of sources) (name ∷ []) h.read one, h.next.on (name ∷ []) (last name asked.calls))

names-more : (sources : List NamedSource) (x : NamedSource) → names_of (sources ++ x ∷ []) ≡ names_of sources ++ x.name ∷ []
names-more sources x = map-append (λ (file : NamedSource). file.name) sources (x ∷ [])

-- one more file
pub read-more : (shelf shelf' : Files) (a b : ℕ) (before between now : Log) (top name : List ℕ) (fs gs : List ProjectFile) (done : List ℕ) (file : ProjectFile)
    → HaveBeenRead shelf top before between (sources_of fs) → IsAsked top (sources_of fs) done name → shelf' ≡ shelf → IsFileOf (shelved shelf' a b) name file
    → WereRead between now (name ∷ []) → gs ≡ fs ++ file ∷ [] → HaveBeenRead shelf top before now (sources_of gs)
read-more shelf shelf' a b before between now top name fs gs done file h asked same is one grown_by =
    let x : NamedSource = named name (source_of file.tree) in
    let grown : sources_of gs ≡ sources_of fs ++ x ∷ [] = sources_more fs gs file grown_by ∙ ap (λ y. sources_of fs ++ y ∷ []) (same_name file name is.named) in
    let more : names_of (sources_of fs ++ x ∷ []) ≡ names_of (sources_of fs) ++ name ∷ [] = names-more (sources_of fs) x in
    subst (λ (sources : List NamedSource). HaveBeenRead shelf top before now sources) (sym grown) (record {
      read = subst (λ (names : List (List ℕ)). WereRead before now names) (sym more) (read-both before between now (names_of (sources_of fs)) (name ∷ []) h.read one);
      next = record {
        on = λ names reads.
            subst (λ (all : List (List ℕ)). ReadsNext shelf top [] all) (sym (append_assoc (names_of (sources_of fs)) (name ∷ []) names) ∙ ap (λ (some : List (List ℕ)). some ++ names) (sym more))
            (h.next.on (name ∷ names) (one_more name is.bytes (source_of file.tree) asked.calls (subst (λ (fs : Files). HasBytes fs name is.bytes) same is.has) is.source reads));
      };
    })
