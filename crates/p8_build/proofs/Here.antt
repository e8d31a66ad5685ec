-- What one file comes to.
use Rattle.std.proofs.Common.{◌≡◌, ℕ, ◌+◌, ◌*◌, ◌==◌, Bool, List, [], length, map, slice_get, Some, refl, ap, sym, ◌∙◌, subst}
use Rattle.std.specs.Prelude.{Result, Ok, Err, IfErr}
use Rattle.p8_tree.specs.Sources.{MethodTree, Source}
use Rattle.p8_tree.specs.Projects.{NamedSource}
use Rattle.p8_tree.specs.Views.{source_of}
use Rattle.p8_words.specs.declared.failure.Fail.{Fail}
use Rattle.p8_words.specs.declared.failure.Fail.TheVariants as fail_case
use Rattle.p8_tree.specs.declared.faults.Fault.{Fault}
use Rattle.p8_tree.specs.Faults.{IsFirstFault, IfRefused}
use Rattle.p8_fold.specs.ConstantEntries.{setting_of as setting_in}
use Rattle.p8_kinds.specs.declared.children.Children.{Children}
use Rattle.p8_kinds.specs.declared.kinds.Kinds.{Kinds}
use Rattle.p8_kinds.specs.declared.named.Named.{Named}
use Rattle.p8_kinds.specs.FileSettings.{file_setting}
use Rattle.p8_fold.specs.Meanings.{Setting}
use Rattle.p8_kinds.specs.Kinds.{own}
use Rattle.p8_kinds.specs.Publics.{public_of}
use Rattle.p8_constants.specs.FileItems.{items}
use Rattle.p8_names.specs.Kinds.{numbered, objects, instances}
use Rattle.p8_names.specs.Children.{AreChildren}
use Rattle.p8_names.specs.Resolution.{IsNamed}
use Rattle.p8_dat.specs.declared.assembling.Dat.{Dat}
use Rattle.p8_dat.specs.Blocks.{placed_lines, dat_bytes, IsDatFault}
use Rattle.p8_dat.specs.Labels.{labels_of}
use Rattle.p8_dat.specs.Lines.{begin_of}
use Rattle.p8_gen.specs.declared.coder.Tables.{Tables}
use Rattle.p8_gen.specs.Files.{first_offset}
use Rattle.p8_gen.specs.Labels.{offset_in}
use Rattle.p8_stmt.specs.declared.code.MethodCode.{MethodCode}
use Rattle.p8_build.specs.declared.accepting.AcceptedFile.{AcceptedFile}
use Rattle.p8_build.specs.declared.fault.BuildFault.{BuildFault}
use Rattle.p8_build.specs.declared.fault.BuildFault.TheVariants as build_case
use Rattle.p8_build.specs.declared.fault.PhaseRefusal.{PhaseRefusal}
use Rattle.p8_build.specs.Parts.{data_start}
use Rattle.p8_build.specs.Faults.{in_phase, IsToldOf}
use Rattle.p8_build.specs.Sizes.{IsSizeOf}
use Rattle.p8_build.specs.Told.{IsRefusal}
use Rattle.p8_build.specs.Files.{CompiledFile, IsData, line_begins, names_with}
use Rattle.p8_build.specs.Builds.{IsFile}
use Rattle.p8_build.specs.Coding.{AreAllCodes, IsCodeRefusal}
use Rattle.p8_build.specs.Accepted.{compiled_file, methods_of, HasTables}
use Rattle.p8_build.specs.Phases.{IfPhaseRefused, by_data, by_code, IsFirstOfFile, IsAcceptedFile, IsAcceptedAt, refusal_of, IsFirstAt}
use Rattle.p8_build.proofs.Refusals.{one_file}
use Rattle.p8_build.proofs.WholeCode.{code_refused, code_size_told, code_is}

-- what a file with these names and data is compiled to
abbrev pub compiled : Kinds → Dat → List MethodCode → CompiledFile
compiled kinds d codes = record { kinds = kinds; dat = d.bytes; labels = d.labels; codes = codes }

-- where its data begin
pub start_is : (source : Source) (s t : Setting) (start many n : ℕ) (ms : List MethodTree) → start ≡ 4 + 4 * many + 4 * n → many ≡ length ms → ms ≡ numbered (items source) → n ≡ instances s (objects (items source)) → s ≡ t → start ≡ data_start t source
start_is source s t start many n ms is long whole count same =
    is ∙ ap (λ (k : ℕ). 4 + 4 * k + 4 * n) (long ∙ ap length whole) ∙ ap (λ (k : ℕ). 4 + 4 * length (numbered (items source)) + 4 * k) (count ∙ ap (λ (u : Setting). instances u (objects (items source))) same)

module _ (source : Source) (children : Children) (n : Named) (file : source_of n.file.now ≡ source) (seen : n.children.now ≡ children) (start : ℕ) (starts : start ≡ data_start (file_setting n.kinds children) source) where
  -- by the file's own tree, by what it sees and by where its data begin
  here : (P : Source → Children → ℕ → Type 0) → P (source_of n.file.now) n.children.now start → P source children (data_start (file_setting n.kinds children) source)
  here P p = subst (P source children) starts (subst (λ (c : Children). P source c start) seen (subst (λ (t : Source). P t n.children.now start) file p))

  pub data_refused : (i : ℕ) (e : Fail Fault) → IsNamed source children (i == 0) n.kinds → IfRefused (IsFirstFault (IsDatFault (file_setting n.kinds n.children.now) start (source_of n.file.now))) e → IfPhaseRefused (IsFirstOfFile source children i) (in_phase 1 i e)
  data_refused i (fail_case.Refused f) named h = record {
    file = refl;
    first = by_data n.kinds named refl (here (λ t c k. IsFirstFault (IsDatFault (file_setting n.kinds c) k t) f) h) refl;
  }
  data_refused i fail_case.NoMemory named h = tt

  pub data_is : (d : Dat) (codes : List MethodCode) → d.bytes ≡ dat_bytes (file_setting n.kinds n.children.now) start (source_of n.file.now) → d.labels ≡ labels_of n.kinds (placed_lines (file_setting n.kinds n.children.now) start (source_of n.file.now))
      → ((f : Fault) → ¬ IsDatFault (file_setting n.kinds n.children.now) start (source_of n.file.now) f) → IsData source children (compiled n.kinds d codes)
  data_is d codes bytes labels clean = record {
    clean = here (λ t c k. (f : Fault) → ¬ IsDatFault (file_setting n.kinds c) k t f) clean;
    bytes = here (λ t c k. d.bytes ≡ dat_bytes (file_setting n.kinds c) k t) bytes;
    labels = here (λ t c k. d.labels ≡ labels_of n.kinds (placed_lines (file_setting n.kinds c) k t)) labels;
  }

  pub lines_are : (d : Dat) → d.lines ≡ map begin_of (placed_lines (file_setting n.kinds n.children.now) start (source_of n.file.now)) → d.lines ≡ line_begins (file_setting n.kinds children) source
  lines_are d lines = here (λ t c k. d.lines ≡ map begin_of (placed_lines (file_setting n.kinds c) k t)) lines

-- ---- its code

pub code_refused_here : (source : Source) (children : Children) (i : ℕ) (kinds : Kinds) (tables : Tables) (d : Dat) (n : ℕ) (ms : List MethodTree) (e : Fail PhaseRefusal) → IsNamed source children (i == 0) kinds → IsData source children (compiled kinds d [])
    → ((item : ℕ) (name : List ℕ) → own tables.publics item name ≡ public_of children item name) → setting_in tables.consts ≡ file_setting kinds children → ((name : List ℕ) → offset_in tables.labels name ≡ first_offset d.labels name)
    → n ≡ instances (setting_in tables.consts) (objects (items source)) → ms ≡ numbered (items source) → IfPhaseRefused (IsCodeRefusal i (names_with kinds tables) n ms) e → IfPhaseRefused (IsFirstOfFile source children i) e
code_refused_here source children i kinds tables d n ms (fail_case.Refused r) named dat publics consts offsets count whole h = record {
  file = h.file_is;
  first = by_code (compiled kinds d []) named dat h.phase (code_refused source children (compiled kinds d []) tables publics consts offsets n ms r.fault count whole h.first)
      (code_size_told source children (compiled kinds d []) tables publics consts offsets ms r.fault r.size whole h.size);
}
code_refused_here source children i kinds tables d n ms fail_case.NoMemory named dat publics consts offsets count whole h = tt

pub file_accepted : (source : Source) (children : Children) (top : Bool) (f : AcceptedFile) (n : ℕ) → IsNamed source children top f.kinds → IsData source children (compiled f.kinds f.dat f.codes) → HasTables source children f
    → n ≡ instances (setting_in f.tables.consts) (objects (items source)) → AreAllCodes (names_with f.kinds f.tables) n (methods_of f) f.codes → IsAcceptedFile source children top f
file_accepted source children top f n named dat has count codes = record {
  compiled = record { names = named; dat = dat; code = code_is source children (compiled_file f) f.tables has.publics has.consts has.labels n (methods_of f) count has.methods_are codes };
  tables = has;
}

-- ---- among the files of a project

pub accepted_here : (files : List NamedSource) (children : List Children) (i : ℕ) (file : NamedSource) (seen : Children) (f : AcceptedFile) → IsFile files children i file seen → IsAcceptedFile file.tree seen (i == 0) f → IsAcceptedAt files children i f
accepted_here files children i file seen f is h = λ g c there.
    let same = one_file is there in
    subst (λ (s : Children). IsAcceptedFile g.tree s (i == 0) f) same.1 (subst (λ (x : NamedSource). IsAcceptedFile x.tree seen (i == 0) f) same.0 h)

-- what follows of a refusal
pub fail_as : (P Q : PhaseRefusal → Type 0) (e : Fail PhaseRefusal) → ((x : PhaseRefusal) → P x → Q x) → IfPhaseRefused P e → IfPhaseRefused Q e
fail_as P Q (fail_case.Refused x) to h = to x h
fail_as P Q fail_case.NoMemory to h = tt

pub refused_as : {X : Type 0} (P Q : PhaseRefusal → Type 0) (r : Result X (Fail PhaseRefusal)) → ((x : PhaseRefusal) → P x → Q x) → IfErr r (IfPhaseRefused P) → IfErr r (IfPhaseRefused Q)
refused_as P Q (Ok x) to h = tt
refused_as P Q (Err e) to h = fail_as P Q e to h

-- what is told of the first refusal
pub told_refused : (files : List NamedSource) (children : List Children) (r : PhaseRefusal) (file : NamedSource) (x : BuildFault) → AreChildren files children → IsFirstAt files children r → slice_get files r.file ≡ Some file → IsToldOf file r x → IsRefusal files x
told_refused files children r file (build_case.Source name fault size) seen h stands told = record {
  refused = record { children = children; seen = seen; refusal = refusal_of r; first = h.first; file = file; stands = stands; named = told.0; told = told.1 };
  size_is = subst (IsSizeOf files children (refusal_of r)) (sym told.2) h.size;
}
told_refused files children r file build_case.NoMemory seen h stands told = tt
