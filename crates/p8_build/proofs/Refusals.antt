-- The refusals of a project, and those of one of its files.
use Rattle.std.proofs.Common.{◌≡◌, ◌⊎◌, inl, inr, ℕ, ◌<◌, ◌==◌, List, [], refl, sym, ◌∙◌, subst, arith}
use Rattle.std.proofs.lemmas.Option.{slice_get_within}
use Rattle.p8_tree.specs.Projects.{NamedSource}
use Rattle.p8_tree.specs.declared.faults.Fault.{Fault}
use Rattle.p8_tree.specs.Faults.{FaultBefore, PhaseFault, RefusalBefore}
use Rattle.p8_kinds.specs.declared.children.Children.{Children}
use Rattle.p8_kinds.specs.declared.kinds.Kinds.{Kinds}
use Rattle.p8_kinds.specs.FileSettings.{file_setting}
use Rattle.p8_names.specs.Faults.{IsNameFault}
use Rattle.p8_names.specs.Resolution.{IsNamed}
use Rattle.p8_dat.specs.Blocks.{IsDatFault}
use Rattle.p8_build.specs.declared.fault.PhaseRefusal.{PhaseRefusal}
use Rattle.p8_build.specs.Parts.{data_start}
use Rattle.p8_build.specs.Files.{CompiledFile, setting_of, IsData, IsCodeFault, IsCompiled}
use Rattle.p8_build.specs.Builds.{IsFile, IsRefusal, of_names, of_data, of_code, of_image, IsImageFault, AreCompiled, objects_of, clock_by}
use Rattle.p8_build.specs.Sizes.{IsSizeOf, of_none}
use Rattle.p8_build.specs.Phases.{refusal_of, IsFirstByPhase, by_names, by_data, by_code, IsFirstOfFile, IsFirstIn}
use Rattle.p8_build.proofs.Lists.{element, one_element}
use Rattle.p8_build.proofs.Firsts.{refusal}
use Rattle.p8_build.proofs.One.{alike, same_setting, same_labels, code_fault_along}
use Rattle.p8_build.proofs.Sized.{names_sized, code_sized}

-- ---- what a refusal says

pub record NameFaulty (files : List NamedSource) (children : List Children) (i : ℕ) (f : Fault) : Type 0 where
  pub file : NamedSource
  pub seen : Children
  pub is : IsFile files children i file seen
  pub fault : IsNameFault file.tree seen (i == 0) f

pub record DataFaulty (files : List NamedSource) (children : List Children) (i : ℕ) (f : Fault) : Type 0 where
  pub file : NamedSource
  pub seen : Children
  pub x : CompiledFile
  pub is : IsFile files children i file seen
  pub names : IsNamed file.tree seen (i == 0) x.kinds
  pub fault : IsDatFault (setting_of seen x) (data_start (setting_of seen x) file.tree) file.tree f

pub record CodeFaulty (files : List NamedSource) (children : List Children) (i : ℕ) (f : Fault) : Type 0 where
  pub file : NamedSource
  pub seen : Children
  pub x : CompiledFile
  pub is : IsFile files children i file seen
  pub names : IsNamed file.tree seen (i == 0) x.kinds
  pub dat : IsData file.tree seen x
  pub fault : IsCodeFault file.tree seen x f

pub record ImageFaulty (files : List NamedSource) (children : List Children) (f : Fault) : Type 0 where
  pub xs : List CompiledFile
  pub each : AreCompiled files children xs
  pub fault : IsImageFault (objects_of files children xs) (clock_by xs) f

pub data Shown (files : List NamedSource) (children : List Children) (r : PhaseFault) : Type 0 where
  in_names : r.phase ≡ 0 → NameFaulty files children r.file r.fault → Shown files children r
  in_data : r.phase ≡ 1 → DataFaulty files children r.file r.fault → Shown files children r
  in_code : r.phase ≡ 2 → CodeFaulty files children r.file r.fault → Shown files children r
  in_image : r.phase ≡ 3 → r.file ≡ 0 → ImageFaulty files children r.fault → Shown files children r

pub shown : {files : List NamedSource} {children : List Children} {r : PhaseFault} → IsRefusal files children r → Shown files children r
shown (of_names i file seen f is h) = in_names refl (record { file = file; seen = seen; is = is; fault = h })
shown (of_data i file seen x f is named h) = in_data refl (record { file = file; seen = seen; x = x; is = is; names = named; fault = h })
shown (of_code i file seen x f is named dat h) = in_code refl (record { file = file; seen = seen; x = x; is = is; names = named; dat = dat; fault = h })
shown (of_image xs f each h) = in_image refl refl (record { xs = xs; each = each; fault = h })

-- a file of a number is one file
pub one_file : {files : List NamedSource} {children : List Children} {i : ℕ} {f g : NamedSource} {c d : Children} → IsFile files children i f c → IsFile files children i g d → (f ≡ g) × (c ≡ d)
one_file {files} {children} {i} a b = (one_element files i a.stands b.stands, one_element children i a.beside b.beside)

-- a refusal before the phase of the image is one of a file
pub refused_file : {files : List NamedSource} {children : List Children} (b : PhaseFault) → b.phase < 3 → IsRefusal files children b → (file : NamedSource) × (seen : Children) × IsFile files children b.file file seen
refused_file b l r = elim (shown r) [
  | in_names e h ↦ (h.file, h.seen, h.is)
  | in_data e h ↦ (h.file, h.seen, h.is)
  | in_code e h ↦ (h.file, h.seen, h.is)
  | in_image e z h ↦ absurd (omega (arith, l, e))
]

-- ---- what is wrong with the file at hand

module _ (files : List NamedSource) (children : List Children) (i : ℕ) (file : NamedSource) (seen : Children) (is : IsFile files children i file seen) where
  named_here : (g : NamedSource) (c : Children) (kinds : Kinds) → IsFile files children i g c → IsNamed g.tree c (i == 0) kinds → IsNamed file.tree seen (i == 0) kinds
  named_here g c kinds there named =
      let same = one_file there is in
      subst (λ (s : Children). IsNamed file.tree s (i == 0) kinds) same.1 (subst (λ (x : NamedSource). IsNamed x.tree c (i == 0) kinds) same.0 named)

  pub name_fault : (b : PhaseFault) → b.phase ≡ 0 → b.file ≡ i → IsRefusal files children b → IsNameFault file.tree seen (i == 0) b.fault
  name_fault b p at r = elim (shown r) [
    | in_names e h ↦ here (subst (λ (j : ℕ). NameFaulty files children j b.fault) at h)
    | in_data e h ↦ absurd (omega (arith, e, p))
    | in_code e h ↦ absurd (omega (arith, e, p))
    | in_image e z h ↦ absurd (omega (arith, e, p))
  ]
    where
      here : NameFaulty files children i b.fault → IsNameFault file.tree seen (i == 0) b.fault
      here h =
          let same = one_file h.is is in
          subst (λ (s : Children). IsNameFault file.tree s (i == 0) b.fault) same.1 (subst (λ (x : NamedSource). IsNameFault x.tree h.seen (i == 0) b.fault) same.0 h.fault)

  pub data_fault : (kinds : Kinds) → IsNamed file.tree seen (i == 0) kinds → (b : PhaseFault) → b.phase ≡ 1 → b.file ≡ i → IsRefusal files children b
      → IsDatFault (file_setting kinds seen) (data_start (file_setting kinds seen) file.tree) file.tree b.fault
  data_fault kinds named b p at r = elim (shown r) [
    | in_names e h ↦ absurd (omega (arith, e, p))
    | in_data e h ↦ here (subst (λ (j : ℕ). DataFaulty files children j b.fault) at h)
    | in_code e h ↦ absurd (omega (arith, e, p))
    | in_image e z h ↦ absurd (omega (arith, e, p))
  ]
    where
      here : DataFaulty files children i b.fault → IsDatFault (file_setting kinds seen) (data_start (file_setting kinds seen) file.tree) file.tree b.fault
      here h =
          let same = one_file h.is is in
          let fault : IsDatFault (file_setting h.x.kinds seen) (data_start (file_setting h.x.kinds seen) file.tree) file.tree b.fault =
          subst (λ (s : Children). IsDatFault (file_setting h.x.kinds s) (data_start (file_setting h.x.kinds s) file.tree) file.tree b.fault) same.1
          (subst (λ (x : NamedSource). IsDatFault (file_setting h.x.kinds h.seen) (data_start (file_setting h.x.kinds h.seen) x.tree) x.tree b.fault) same.0 h.fault) in
          subst (λ s. IsDatFault s (data_start s file.tree) file.tree b.fault)
          (same_setting file.tree seen h.x.kinds kinds (alike file.tree seen (i == 0) h.x.kinds kinds (named_here h.file h.seen h.x.kinds h.is h.names) named)) fault

  pub code_fault : (x : CompiledFile) → IsNamed file.tree seen (i == 0) x.kinds → IsData file.tree seen x → (b : PhaseFault) → b.phase ≡ 2 → b.file ≡ i → IsRefusal files children b → IsCodeFault file.tree seen x b.fault
  code_fault x named dat b p at r = elim (shown r) [
    | in_names e h ↦ absurd (omega (arith, e, p))
    | in_data e h ↦ absurd (omega (arith, e, p))
    | in_code e h ↦ here (subst (λ (j : ℕ). CodeFaulty files children j b.fault) at h)
    | in_image e z h ↦ absurd (omega (arith, e, p))
  ]
    where
      here : CodeFaulty files children i b.fault → IsCodeFault file.tree seen x b.fault
      here h =
          let same = one_file h.is is in
          let made : IsData file.tree seen h.x = subst (λ (s : Children). IsData file.tree s h.x) same.1 (subst (λ (y : NamedSource). IsData y.tree h.seen h.x) same.0 h.dat) in
          let fault : IsCodeFault file.tree seen h.x b.fault =
          subst (λ (s : Children). IsCodeFault file.tree s h.x b.fault) same.1 (subst (λ (y : NamedSource). IsCodeFault y.tree h.seen h.x b.fault) same.0 h.fault) in
          let both = alike file.tree seen (i == 0) h.x.kinds x.kinds (named_here h.file h.seen h.x.kinds h.is h.names) named in
          code_fault_along file.tree seen h.x x b.fault both (same_labels file.tree seen h.x x both made dat) fault

  phases : (p : ℕ) → p < 3 → (p ≡ 0) ⊎ ((p ≡ 1) ⊎ (p ≡ 2))
  phases p l = grind arith

  -- nothing is wrong with a file that is compiled
  pub compiled_clean : (x : CompiledFile) → IsCompiled file.tree seen (i == 0) x → (b : PhaseFault) → b.phase < 3 → b.file ≡ i → ¬ IsRefusal files children b
  compiled_clean x made b l at r = elim (phases b.phase l) [
    | inl p ↦ made.names.clean b.fault (name_fault b p at r)
    | inr q ↦ elim q [
      | inl p ↦ made.dat.clean b.fault (data_fault x.kinds made.names b p at r)
      | inr p ↦ made.code.clean b.fault (code_fault x made.names made.dat b p at r)
    ]
  ]

  -- ---- its first refusal

  standing : (r : PhaseRefusal) (p : ℕ) → r.phase ≡ p → r.file ≡ i → refusal p i r.fault ≡ refusal_of r
  standing r p e at = λ k. record { phase = sym e k; file = sym at k; fault = r.fault }

  -- no fault of an earlier phase, and none before it in its own
  first_by : (r : PhaseRefusal) → r.file ≡ i → ((b : PhaseFault) → b.phase < r.phase → b.file ≡ i → ¬ IsRefusal files children b)
      → ((b : PhaseFault) → b.phase ≡ r.phase → b.file ≡ i → IsRefusal files children b → ¬ FaultBefore b.fault r.fault)
      → (b : PhaseFault) → b.phase < 3 → b.file ≡ i → IsRefusal files children b → ¬ RefusalBefore b (refusal_of r)
  first_by r at lower least b l there refused before = elim before [
    | inl e ↦ elim e [
      | inl q ↦ lower b q there refused
      | inr q ↦ absurd (omega (arith, at, there, q.1))
    ]
    | inr q ↦ least b q.0 there refused q.2
  ]

  pub first_in : (r : PhaseRefusal) → IsFirstOfFile file.tree seen i r → IsFirstIn files children i r
  first_in r h = by_phase h.first
    where
      unsized : (p : ℕ) → r.phase ≡ p → IsSizeOf files children (refusal p i r.fault) r.size → IsSizeOf files children (refusal_of r) r.size
      unsized p e size = subst (λ (q : PhaseFault). IsSizeOf files children q r.size) (standing r p e h.file) size

      moved : (p : ℕ) → r.phase ≡ p → IsRefusal files children (refusal p i r.fault) → IsRefusal files children (refusal_of r)
      moved p e holds = subst (IsRefusal files children) (standing r p e h.file) holds

      is_zero : (b p : ℕ) → b < p → p ≡ 1 → b ≡ 0
      is_zero b p l e = omega (arith, l, e)

      zero_or_one : (b p : ℕ) → b < p → p ≡ 2 → (b ≡ 0) ⊎ (b ≡ 1)
      zero_or_one b p l e = grind (arith, l, e)

      by_phase : IsFirstByPhase file.tree seen (i == 0) r → IsFirstIn files children i r
      by_phase (by_names e first none) = record {
        phase = omega (arith, e);
        file = h.file;
        holds = moved 0 e (of_names i file seen r.fault is first.holds);
        first = first_by r h.file (λ b l at refused. absurd (omega (arith, l, e))) (λ b same at refused. first.first b.fault (name_fault b (same ∙ e) at refused));
        size = unsized 0 e (names_sized files children i file seen r.fault r.size is none);
      }
      by_phase (by_data kinds named e first none) = record {
        phase = omega (arith, e);
        file = h.file;
        holds = moved 1 e (of_data i file seen (record { kinds = kinds; dat = []; labels = []; codes = [] }) r.fault is named first.holds);
        first = first_by r h.file (λ b l at refused. named.clean b.fault (name_fault b (is_zero b.phase r.phase l e) at refused))
            (λ b same at refused. first.first b.fault (data_fault kinds named b (same ∙ e) at refused));
        size = unsized 1 e (of_none refl refl refl none);
      }
      by_phase (by_code x named dat e first size) = record {
        phase = omega (arith, e);
        file = h.file;
        holds = moved 2 e (of_code i file seen x r.fault is named dat first.holds);
        first = first_by r h.file
            (λ b l at refused. elim (zero_or_one b.phase r.phase l e) [ inl p ↦ named.clean b.fault (name_fault b p at refused) | inr p ↦ dat.clean b.fault (data_fault x.kinds named b p at refused) ])
            (λ b same at refused. first.first b.fault (code_fault x named dat b (same ∙ e) at refused));
        size = unsized 2 e (code_sized files children i file seen x r.fault r.size is named dat first.holds size);
      }

-- a project whose files are compiled has no refusal before the phase of the image
pub none_compiled : (files : List NamedSource) (children : List Children) (xs : List CompiledFile) → AreCompiled files children xs → (b : PhaseFault) → b.phase < 3 → ¬ IsRefusal files children b
none_compiled files children xs each b l r =
    let found = refused_file b l r in
    let within = slice_get_within files b.file found.0 found.2.stands in
    let x = element xs b.file (omega (arith, within, each.count)) in
    compiled_clean files children b.file found.0 found.1 found.2 x.0 (each.each b.file found.0 found.1 x.0 found.2 x.1) b l refl r
