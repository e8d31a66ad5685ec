-- A source on a shelf that tells its files has one outcome.
use Rattle.std.proofs.Common.{◌≡◌, ◌∙◌, ℕ, Bool, true, false, List, [], ◌∷◌, ◌++◌, Option, Some, None, ap, sym, subst, refl}
use Rattle.p8_tree.specs.Projects.{NamedSource}
use Rattle.p8_tree.specs.declared.faults.Fault.{Fault}
use Rattle.p8_kinds.specs.declared.children.Children.{Children}
use Rattle.p8_names.specs.Children.{AreChildren}
use Rattle.p8_image.specs.declared.clocks.Clock.{Clock}
use Rattle.p8_image.specs.declared.parts.ObjectPart.{ObjectPart}
use Rattle.p8_legend.specs.declared.legend.Legend.{Legend}
use Rattle.p8_objects.specs.declared.fault.Mention.{Mention}
use Rattle.p8_objects.specs.declared.fault.ReadFile.{ReadFile}
use Rattle.p8_objects.specs.Outcomes.{Outcome, project, refused, missing, shelved, Gathers, HasBytes, WasRead, read_as}
use Rattle.p8_io.specs.Shelves.{AreStartOf}
use Rattle.p8_objects.specs.Whole.{AreSources, IsOfFiles}
use Rattle.p8_objects.specs.Growing.{IsProjectOf}
use Rattle.p8_objects.proofs.Growing.{gathers}
use Rattle.p8_objects.proofs.Wholes.{whole_project}
use Rattle.p8_names.specs.Mentions as seen
use Rattle.p8_build.specs.Builds.{IsBuilt, IsRefusedWith, objects_of}
use Rattle.p8_build.specs.Sizes.{IsMeasured}
use Rattle.p8_build.specs.declared.sizes.Size.{Size}
use Rattle.p8_map.specs.Projects.{IsMapOf}
use Rattle.p8_hint.specs.Projects.{IsHintsOf}
use Rattle.p8_opt.specs.Shorts.{IsShortBuilt}
use Rattle.p8_legend.specs.Projects.{AreSame, IsLegendOf}
use Rattle.p8_page.specs.Page.{Block, map_block}
use Rattle.p8_inputs.specs.Sources.{IsBuiltBy, IsBuiltFrom, IsCodeBy, IsCodeFrom, IsMapFrom, IsHintsFrom, IsProjectLegend, file_blocks, AreBlocksOf, AreProjectBlocks, IsRefusedFrom, while_gathered, when_built, HasOneOutcome}
use Rattle.p8_inputs.proofs.Coding.{code-one}
use Rattle.p8_inputs.proofs.Gathering.{distinct, no_ring}
use Rattle.p8_inputs.proofs.Mapping.{map-one}
use Rattle.p8_inputs.proofs.Naming.{same-legend}

same-project : {a b : List NamedSource} → project a ≡ project b → a ≡ b
same-project e = cc

project-not_missing : {a : List NamedSource} {name : List ℕ} {mention : Option Mention} → project a ≡ missing name mention → ⊥
project-not_missing e = cc

project-not_refused : {a : List NamedSource} {file : ReadFile} {f : Fault} → project a ≡ refused file f → ⊥
project-not_refused e = cc

same-missing : {a b : List ℕ} {m n : Option Mention} → missing a m ≡ missing b n → (a ≡ b) × (m ≡ n)
same-missing e = (cc, cc)

same-refused : {a b : ReadFile} {f g : Fault} → refused a f ≡ refused b g → (a ≡ b) × (f ≡ g)
same-refused e = (cc, cc)

with-none : {a b : ReadFile} {f g : Fault} {s t : Option Size} → (a ≡ b) × (f ≡ g) → s ≡ None → t ≡ None → (a ≡ b) × (f ≡ g) × (s ≡ t)
with-none e none also = (e.0, e.1, none ∙ sym also)

missing-not_refused : {a : List ℕ} {file : ReadFile} {mention : Option Mention} {f : Fault} → missing a mention ≡ refused file f → ⊥
missing-not_refused e = cc

-- a project with short code is accepted as it stands
as-it_stands : (sources : List NamedSource) (clock : Clock) (objects : List ObjectPart) (b : IsShortBuilt sources clock objects) → IsBuilt sources clock (objects_of sources b.children b.compiled)
as-it_stands sources clock objects b = record { children = b.children; seen = b.seen; compiled = b.compiled; each = b.each; objects_are = refl; clock_is = b.clock_is; fits = b.fits }

-- the bytes of files are one thing
start-same : (file : Option (List ℕ)) (a b : List ℕ) → AreStartOf file a → AreStartOf file b → a ≡ b
start-same None a b p q = absurd p
start-same (Some file) a b p q = p ∙ sym q

one-sources : (files : List ℕ → Option (List ℕ)) (sources : List NamedSource) (a b : List (List ℕ)) → AreSources (Some files) sources a → AreSources (Some files) sources b → a ≡ b
one-sources files [] [] [] p q = refl
one-sources files [] [] (y ∷ b) p q = absurd q
one-sources files [] (x ∷ a) b p q = absurd p
one-sources files (f ∷ sources) [] b p q = absurd p
one-sources files (f ∷ sources) (x ∷ a) [] p q = absurd q
one-sources files (f ∷ sources) (x ∷ a) (y ∷ b) p q =
    ap (λ (z : List ℕ). z ∷ a) (start-same (files f.name) x y p.0.1 q.0.1) ∙ ap (λ (zs : List (List ℕ)). y ∷ zs) (one-sources files sources a b p.2 q.2)

-- a file of one name is read with one text
same-file : (files : List ℕ → Option (List ℕ)) (a b : ReadFile) → a.name ≡ b.name → WasRead (Some files) a → WasRead (Some files) b → a ≡ b
same-file files a b named p q =
    let moved : HasBytes (Some files) b.name a.bytes = subst (λ (name : List ℕ). HasBytes (Some files) name a.bytes) named p in
    let bytes : a.bytes ≡ b.bytes = start-same (files b.name) a.bytes b.bytes moved.1 q.1 in
    λ i. read_as (named i) (bytes i)

-- what gathering comes to is one thing
abbrev pub OneGathered : Type 0
OneGathered = (files : List ℕ → Option (List ℕ)) (before now : ℕ) (top : List ℕ) (a b : Outcome) → Gathers (shelved (Some files) before now) top a → Gathers (shelved (Some files) before now) top b → IsOfFiles a → IsOfFiles b → a ≡ b

-- what building comes to is one thing
abbrev pub OneBuilt : Type 0
OneBuilt = (files : List NamedSource) → seen.AreDistinct files → seen.HaveNoRing files → (c d : Clock) (a b : List ObjectPart) → IsBuilt files c a → IsBuilt files d b → (c ≡ d) × (a ≡ b)

abbrev pub BuiltOrRefused : Type 0
BuiltOrRefused = (files : List NamedSource) → seen.AreDistinct files → seen.HaveNoRing files → (c : Clock) (a : List ObjectPart) (name : List ℕ) (f : Fault) → IsBuilt files c a → IsRefusedWith files name f → ⊥

-- the same with short code
abbrev pub OneShortBuilt : Type 0
OneShortBuilt = (files : List NamedSource) → seen.AreDistinct files → seen.HaveNoRing files → (c d : Clock) (a b : List ObjectPart) → IsShortBuilt files c a → IsShortBuilt files d b → (c ≡ d) × (a ≡ b)

-- what the files of a project see is one thing
abbrev pub OneView : Type 0
OneView = (files : List NamedSource) → seen.AreDistinct files → seen.HaveNoRing files → (a b : List Children) → AreChildren files a → AreChildren files b → a ≡ b

-- a project has one legend
abbrev pub OneLegend : Type 0
OneLegend = (texts : List (List ℕ)) (files : List NamedSource) → seen.AreDistinct files → seen.HaveNoRing files → (a b : Legend) → IsLegendOf texts files a → IsLegendOf texts files b → AreSame a b

abbrev pub OneHints : Type 0
OneHints = (texts : List (List ℕ)) (files : List NamedSource) → seen.AreDistinct files → seen.HaveNoRing files → (a b : List ℕ) → IsHintsOf texts files a → IsHintsOf texts files b → a ≡ b

abbrev pub OneRefused : Type 0
OneRefused = (files : List NamedSource) → seen.AreDistinct files → seen.HaveNoRing files → (a b : List ℕ) (f g : Fault) (s t : Option Size) → IsMeasured files a f s → IsMeasured files b g t → (a ≡ b) × (f ≡ g) × (s ≡ t)

module _ (one : OneGathered) (same : OneBuilt) (refusal : OneRefused) (either : BuiltOrRefused) (short_same : OneShortBuilt) (views : OneView) (legends : OneLegend) (hints : OneHints) (files : List ℕ → Option (List ℕ)) where
  -- what building by a choice comes to is one thing
  built-one : (short : Bool) (sources : List NamedSource) → seen.AreDistinct sources → seen.HaveNoRing sources → (c d : Clock) (a b : List ObjectPart) → IsBuiltBy short sources c a → IsBuiltBy short sources d b → (c ≡ d) × (a ≡ b)
  built-one false sources different none c d a b p q = same sources different none c d a b p q
  built-one true sources different none c d a b p q = short_same sources different none c d a b p q

  built-or_refused : (short : Bool) (sources : List NamedSource) → seen.AreDistinct sources → seen.HaveNoRing sources → (c : Clock) (a : List ObjectPart) (name : List ℕ) (f : Fault) → IsBuiltBy short sources c a → IsRefusedWith sources name f → ⊥
  built-or_refused false sources different none c a name f p q = either sources different none c a name f p q
  built-or_refused true sources different none c a name f p q = either sources different none c _ name f (as-it_stands sources c a p) q

  one-project : (top : List ℕ) (a b : List NamedSource) → IsProjectOf (Some files) top a → IsProjectOf (Some files) top b → a ≡ b
  one-project top a b g h = same-project (one files 0 0 top (project a) (project b) (gathers g 0 0) (gathers h 0 0) tt tt)

  one-image : (short : Bool) (top : List ℕ) (some others : List NamedSource) (clock other : Clock) (objects parts : List ObjectPart) → IsBuiltFrom (Some files) short top some clock objects → IsBuiltFrom (Some files) short top others other parts → (some ≡ others) × (clock ≡ other) × (objects ≡ parts)
  one-image short top some others clock other objects parts g h =
      let e : some ≡ others = one-project top some others g.gathered h.gathered in
      let whole = whole_project (gathers h.gathered 0 0) in
      let is = built-one short others (distinct others whole.distinct) (no_ring others whole.no_ring) clock other objects parts (subst (λ s. IsBuiltBy short s clock objects) e g.built) h.built in
      (e, is.0, is.1)

  one-code : (short : Bool) (top a b : List ℕ) → IsCodeFrom (Some files) short top a → IsCodeFrom (Some files) short top b → a ≡ b
  one-code short top a b p q =
      let e : p.0 ≡ q.0 = one-project top p.0 q.0 p.1 q.1 in
      let whole = whole_project (gathers q.1 0 0) in
      let texts : p.2 ≡ q.2 = one-sources files q.0 p.2 q.2 (subst (λ (s : List NamedSource). AreSources (Some files) s p.2) e p.3) q.3 in
      code-one short q.2 q.0 (views q.0 (distinct q.0 whole.distinct) (no_ring q.0 whole.no_ring)) a b
      (subst (λ (ts : List (List ℕ)). IsCodeBy short ts q.0 a) texts (subst (λ (s : List NamedSource). IsCodeBy short p.2 s a) e p.4)) q.4

  one-map : (top a b : List ℕ) → IsMapFrom (Some files) top a → IsMapFrom (Some files) top b → a ≡ b
  one-map top a b p q =
      let e : p.0 ≡ q.0 = one-project top p.0 q.0 p.1 q.1 in
      let whole = whole_project (gathers q.1 0 0) in
      let texts : p.2 ≡ q.2 = one-sources files q.0 p.2 q.2 (subst (λ (s : List NamedSource). AreSources (Some files) s p.2) e p.3) q.3 in
      map-one q.2 q.0 (views q.0 (distinct q.0 whole.distinct) (no_ring q.0 whole.no_ring)) a b
      (subst (λ (ts : List (List ℕ)). IsMapOf ts q.0 a) texts (subst (λ (s : List NamedSource). IsMapOf p.2 s a) e p.4)) q.4

  one-blocks : (top : List ℕ) (a b : List Block) → AreProjectBlocks (Some files) top a → AreProjectBlocks (Some files) top b → a ≡ b
  one-blocks top a b p q =
      let e : p.0 ≡ q.0 = one-project top p.0 q.0 p.1 q.1 in
      let whole = whole_project (gathers q.1 0 0) in
      let texts : p.2 ≡ q.2 = one-sources files q.0 p.2 q.2 (subst (λ (s : List NamedSource). AreSources (Some files) s p.2) e p.3) q.3 in
      let is = subst (λ (ts : List (List ℕ)). AreBlocksOf ts q.0 a) texts (subst (λ (s : List NamedSource). AreBlocksOf p.2 s a) e p.4) in
      let map : is.0 ≡ q.4.0 = map-one q.2 q.0 (views q.0 (distinct q.0 whole.distinct) (no_ring q.0 whole.no_ring)) is.0 q.4.0 is.1 q.4.1 in
      is.2 ∙ ap (λ (text : List ℕ). map_block text ++ file_blocks q.0 q.2) map ∙ sym q.4.2

  one-hints : (top a b : List ℕ) → IsHintsFrom (Some files) top a → IsHintsFrom (Some files) top b → a ≡ b
  one-hints top a b p q =
      let e : p.0 ≡ q.0 = one-project top p.0 q.0 p.1 q.1 in
      let whole = whole_project (gathers q.1 0 0) in
      let texts : p.2 ≡ q.2 = one-sources files q.0 p.2 q.2 (subst (λ (s : List NamedSource). AreSources (Some files) s p.2) e p.3) q.3 in
      hints q.2 q.0 (distinct q.0 whole.distinct) (no_ring q.0 whole.no_ring) a b
      (subst (λ (ts : List (List ℕ)). IsHintsOf ts q.0 a) texts (subst (λ (s : List NamedSource). IsHintsOf p.2 s a) e p.4)) q.4

  one-legend : (top : List ℕ) (a b : Legend) → IsProjectLegend (Some files) top a → IsProjectLegend (Some files) top b → a ≡ b
  one-legend top a b p q =
      let e : p.0 ≡ q.0 = one-project top p.0 q.0 p.1 q.1 in
      let whole = whole_project (gathers q.1 0 0) in
      let texts : p.2 ≡ q.2 = one-sources files q.0 p.2 q.2 (subst (λ (s : List NamedSource). AreSources (Some files) s p.2) e p.3) q.3 in
      same-legend a b
      (legends q.2 q.0 (distinct q.0 whole.distinct) (no_ring q.0 whole.no_ring) a b
      (subst (λ (ts : List (List ℕ)). IsLegendOf ts q.0 a) texts (subst (λ (s : List NamedSource). IsLegendOf p.2 s a) e p.4)) q.4)

  not-refused : (short : Bool) (top : List ℕ) (file : ReadFile) (f : Fault) (size : Option Size) (sources : List NamedSource) (clock : Clock) (objects : List ObjectPart) → IsBuiltFrom (Some files) short top sources clock objects → IsRefusedFrom (Some files) top file f size → ⊥
  not-refused short top file f size sources clock objects g (while_gathered h none) =
      project-not_refused (one files 0 0 top (project sources) (refused file f) (gathers g.gathered 0 0) (h 0 0) tt tt)
  not-refused short top file f size sources clock objects g (when_built others h told has) =
      let e : others ≡ sources = one-project top others sources h g.gathered in
      let whole = whole_project (gathers g.gathered 0 0) in
      built-or_refused short sources (distinct sources whole.distinct) (no_ring sources whole.no_ring) clock objects file.name f g.built (subst (λ s. IsRefusedWith s file.name f) e told.refused)

  missing-or-refused : (before now : ℕ) (top name : List ℕ) (file : ReadFile) (mention : Option Mention) (f : Fault) (size : Option Size) → Gathers (shelved (Some files) before now) top (missing name mention) → IsRefusedFrom (Some files) top file f size → ⊥
  missing-or-refused before now top name file mention f size g (while_gathered h none) =
      missing-not_refused (one files before now top (missing name mention) (refused file f) g (h before now) tt tt)
  missing-or-refused before now top name file mention f size g (when_built sources h refusal has) =
      project-not_missing (one files before now top (project sources) (missing name mention) (gathers h before now) g tt tt)

  one-refusal : (top : List ℕ) (a b : ReadFile) (f g : Fault) (s t : Option Size) → IsRefusedFrom (Some files) top a f s → IsRefusedFrom (Some files) top b g t → (a ≡ b) × (f ≡ g) × (s ≡ t)
  one-refusal top a b f k s t (while_gathered g none) (while_gathered h also) =
      with-none (same-refused (one files 0 0 top (refused a f) (refused b k) (g 0 0) (h 0 0) tt tt)) none also
  one-refusal top a b f k s t (while_gathered g none) (when_built sources h told has) =
      absurd (project-not_refused (one files 0 0 top (project sources) (refused a f) (gathers h 0 0) (g 0 0) tt tt))
  one-refusal top a b f k s t (when_built sources g told has) (while_gathered h none) =
      absurd (project-not_refused (one files 0 0 top (project sources) (refused b k) (gathers g 0 0) (h 0 0) tt tt))
  one-refusal top a b f k s t (when_built some g told has) (when_built sources h other also) =
      let e : some ≡ sources = one-project top some sources g h in
      let whole = whole_project (gathers h 0 0) in
      let same = refusal sources (distinct sources whole.distinct) (no_ring sources whole.no_ring) a.name b.name f k s t (subst (λ xs. IsMeasured xs a.name f s) e told) other in
      (same-file files a b same.0 has also, same.1, same.2)

  pub one-outcome : HasOneOutcome files
  one-outcome = record {
    one_image = one-image;
    one_code = one-code;
    one_map = one-map;
    one_blocks = one-blocks;
    one_hints = one-hints;
    one_legend = one-legend;
    not_missing = λ before now short top name mention sources clock objects g h.
        project-not_missing (one files before now top (project sources) (missing name mention) (gathers g.gathered before now) h tt tt);
    not_refused = not-refused;
    missing_or_refused = missing-or-refused;
    one_missing = λ before now top a b m n g h. same-missing (one files before now top (missing a m) (missing b n) g h tt tt);
    one_refusal = one-refusal;
  }
