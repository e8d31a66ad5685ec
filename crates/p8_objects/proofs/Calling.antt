-- What the files so far call for, and what gathering comes to.
use Rattle.std.proofs.Common.{◌≡◌, ℕ, ◌+◌, ◌-◌, ◌<◌, ◌≤◌, ◌⊎◌, inl, inr, Bool, true, false, List, [], ◌∷◌, ◌++◌, length, get_or, Result, Ok, Err, Option, Some, None, refl, ap, sym, ◌∙◌, subst, arith}
use Rattle.std.specs.Result.{IsErrAnd}
use Rattle.std.proofs.lemmas.List.{map-append}
use Rattle.p8_tree.specs.declared.faults.Fault.{Fault}
use Rattle.p8_tree.specs.declared.projects.ProjectFile.{ProjectFile}
use Rattle.p8_tree.specs.Sources.{Child, Source}
use Rattle.p8_tree.specs.Projects.{NamedSource, most_files}
use Rattle.p8_tree.specs.Views.{source_of, named_source_of}
use Rattle.p8_io.specs.Counts.{Rose}
use Rattle.p8_io.specs.Shelves.{Files, IsLacking}
use Rattle.p8_objects.specs.declared.fault.Mention.{Mention}
use Rattle.p8_objects.specs.declared.fault.ReadFile.{ReadFile}
use Rattle.p8_objects.specs.declared.fault.GatherFault.{GatherFault}
use Rattle.p8_objects.specs.declared.next.Wanted.{Wanted}
use Rattle.p8_objects.specs.declared.fault.GatherFault.TheVariants as gather_case
use Rattle.p8_objects.specs.Lists.{IsAt}
use Rattle.p8_objects.specs.Sources.{mentions}
use Rattle.p8_objects.specs.Projects.{IsIn, ClosesRing, Calls, read, refuse, nothing, first_file, new_file, file_too_many, ring, whole}
use Rattle.p8_objects.specs.Outcomes as outcomes
use Rattle.p8_objects.specs.Outcomes.{shelved, HasBytes, WasRead, read_as, IsAbsent, mention_in, IsMentionedAt, ComesTo, Answers, named}
use Rattle.p8_objects.specs.Standing.{is_done, IsFinished, IsFirstLeft, AreFinished, Stands, DoneFrom}
use Rattle.p8_objects.specs.Standing as standing
use Rattle.p8_objects.specs.Mentioned.{sources_of, IsMentionFault}
use Rattle.p8_objects.specs.Reading.{IsFileOf, IsFileFault}
use Rattle.p8_objects.specs.Goings.{IsAsked, CallsFor, IsRefusedCall, GoesOn}
use Rattle.p8_objects.specs.Whole.{EachTree}
use Rattle.p8_objects.proofs.Elements.{at_more, mapped_at, none_at}
use Rattle.p8_objects.proofs.Finishing.{next_is, ring_is, nothing_open, all_lead_to, first_left_at, finish, done_from_finish, one_more_stands, nothing_stands}

-- what the exit of a `?` returns
pub told : {T E : Type 0} (r : Result T E) (e : E) (P : Result T E → Type 0) → IsErrAnd r (λ y. y ≡ e) → P (Err e) → P r
told (Ok x) e P h p = absurd h
told (Err y) e P h p = subst (λ z. P (Err z)) (sym h) p

either : (b : Bool) → (b ≡ true) ⊎ (b ≡ false)
either true = inl refl
either false = inr refl

-- the last file that isn't finished
pub record Reached (files : List NamedSource) (done : List ℕ) (i : ℕ) (f : NamedSource) : Type 0 where
  pub stands : Stands files done
  pub at : IsAt files i f
  pub left : is_done done i ≡ false
  pub behind : DoneFrom files done (i + 1)

one_below : (n : ℕ) → 0 < n → n ≡ (n - 1) + 1
one_below n l = omega arith

pub done_below : {files : List NamedSource} {done : List ℕ} (n : ℕ) → 0 < n → DoneFrom files done n → DoneFrom files done ((n - 1) + 1)
done_below {files = files} {done = done} n l d = subst (λ (m : ℕ). DoneFrom files done m) (one_below n l) d

pub reached : (fs : List ProjectFile) (done ds : List ℕ) (n : ℕ) (file : ProjectFile) → Stands (sources_of fs) done → DoneFrom (sources_of fs) done n → 0 < n → n ≤ length fs → ds ≡ done → is_done ds (n - 1) ≡ false → file ≡ get_or fs (n - 1) file → Reached (sources_of fs) done (n - 1) (named_source_of file)
reached fs done ds n file s behind l w e d is = record {
  stands = s;
  at = mapped_at named_source_of fs (n - 1) file (omega arith) is;
  left = subst (λ (xs : List ℕ). is_done xs (n - 1) ≡ false) e d;
  behind = done_below n l behind;
}

not_finished : {files : List NamedSource} {done : List ℕ} {xs : List Child} {x : Child} → IsFirstLeft files done xs x → ¬ IsFinished files done x.file
not_finished (standing.here n) = n
not_finished (standing.later d l) = not_finished l

-- where the mention that is left is of a file that is there already, it closes a ring
closes : {files : List NamedSource} {done : List ℕ} {i : ℕ} {f : NamedSource} {x : Child} → Reached files done i f → IsFirstLeft files done (mentions f.tree) x → IsIn files x.file → ClosesRing files f x
closes {done = done} {x = x} r l h =
    elim (either (is_done done h.number)) [
      | inl d ↦ absurd (not_finished l (record { number = h.number; file = h.element; stands = h.stands; named = h.holds; finished = d }))
      | inr d ↦ ring_is r.stands x r.at r.left r.behind h.stands d h.holds
    ]

same_call : {top : List ℕ} {files : List NamedSource} {name name' : List ℕ} {f f' : Fault} → name ≡ name' → f ≡ f' → Calls top files (refuse name' f') → Calls top files (refuse name f)
same_call {top = top} {files = files} {name = name} {name' = name'} {f = f} {f' = f'} a b c =
    subst (λ (n : List ℕ). Calls top files (refuse n f)) (sym a) (subst (λ (x : Fault). Calls top files (refuse name' x)) (sym b) c)

pub refused_call : {files : List NamedSource} {done : List ℕ} {i : ℕ} {f : NamedSource} (bytes : List ℕ) (x : Child) → Reached files done i f → IsFirstLeft files done (mentions f.tree) x → (e : GatherFault) → IsMentionFault files (read_as f.name bytes) x e
    → (shelf : Files) (top : List ℕ) → HasBytes shelf f.name bytes → IsRefusedCall shelf top files e
refused_call {f = f} bytes x r l (gather_case.Source file g) (a, inl (b, h)) shelf top has =
    let closing = closes r l h in
    (same_call (ap (λ (y : ReadFile). y.name) a) b (ring f x (next_is r.stands r.at r.left r.behind l (inr closing)) closing), subst (λ (y : ReadFile). WasRead shelf y) (sym a) has)
refused_call {f = f} bytes x r l (gather_case.Source file g) (a, inr (b, n, m)) shelf top has =
    (same_call (ap (λ (y : ReadFile). y.name) a) b (file_too_many f x (next_is r.stands r.at r.left r.behind l (inl n)) n m), subst (λ (y : ReadFile). WasRead shelf y) (sym a) has)
refused_call bytes x r l (gather_case.Missing file mention) h shelf top has = absurd h
refused_call bytes x r l (gather_case.ShelfFault file) h shelf top has = absurd h
refused_call bytes x r l gather_case.NoMemory h shelf top has = tt

pub asked_is : {files : List NamedSource} {done : List ℕ} {i : ℕ} {f : NamedSource} (bytes : List ℕ) (x : Child) (asked : Wanted) → Reached files done i f → IsFirstLeft files done (mentions f.tree) x → asked.name ≡ x.file → asked.mention ≡ Some (mention_in (read_as f.name bytes) x) → ¬ IsIn files x.file → length files < most_files
    → (shelf : Files) (top : List ℕ) → HasBytes shelf f.name bytes → IsAsked top files done asked.name × IsMentionedAt shelf files asked.name asked.mention
asked_is {files = files} {done = done} {f = f} bytes x asked r l e g n m shelf top has =
    let next = next_is r.stands r.at r.left r.behind l (inl n) in (
      subst (λ (y : List ℕ). IsAsked top files done y) (sym e) (record {
        calls = new_file f x next n m;
        new = n;
        room = m;
        led = all_lead_to r.stands r.at r.left r.behind (first_left_at l).1;
      }),
      subst (λ (o : Option Mention). IsMentionedAt shelf files asked.name o) (sym g) (f, x, bytes, next, sym e, has, refl),
    )

pub nothing_left : {files : List NamedSource} {done : List ℕ} (n : ℕ) → Stands files done → DoneFrom files done n → n ≡ 0 → 0 < length files → (top : List ℕ) → Calls top files nothing
nothing_left {files = files} {done = done} n s d e l top = whole l (nothing_open s (subst (λ (m : ℕ). DoneFrom files done m) e d))

-- the first file that isn't finished, from the last back, has nothing left: it's finished too
pub finished_one : {files : List NamedSource} {done : List ℕ} {i : ℕ} {f : NamedSource} (done' : List ℕ) → Reached files done i f → AreFinished files done (mentions f.tree) → done' ≡ done ++ i ∷ [] → Stands files done' × DoneFrom files done' i
finished_one {files = files} {done = done} {i = i} done' r a e =
    (subst (λ (xs : List ℕ). Stands files xs) (sym e) (finish r.stands r.at r.left a), subst (λ (xs : List ℕ). DoneFrom files xs i) (sym e) (done_from_finish i r.behind))

-- gathering begins

pub begin : (files : Files) (before : ℕ) (top name : List ℕ) (fs : List ProjectFile) (done : List ℕ) → fs ≡ [] → done ≡ [] → name ≡ top → Stands (sources_of fs) done × IsAsked top (sources_of fs) done name × IsMentionedAt files (sources_of fs) name None × GoesOn files before top (sources_of fs)
begin files before top name fs done a b e =
    subst (λ (gs : List ProjectFile). Stands (sources_of gs) done × IsAsked top (sources_of gs) done name × IsMentionedAt files (sources_of gs) name None × GoesOn files before top (sources_of gs)) (sym a)
    (subst (λ (ds : List ℕ). Stands [] ds × IsAsked top [] ds name × IsMentionedAt files [] name None × GoesOn files before top []) (sym b)
    (subst (λ (n : List ℕ). Stands [] [] × IsAsked top [] [] n × IsMentionedAt files [] n None × GoesOn files before top []) (sym e) (
      (nothing_stands top).0,
      record { calls = first_file refl; new = λ h. none_at h.stands; room = omega arith; led = (nothing_stands top).1 },
      refl,
      record { on = λ now o c. c },
    )))

-- the counts of a call within another
rose_within : (before before' now : ℕ) → before ≤ before' → Rose before' now → Rose before now
rose_within before before' now l (inl r) = inl (omega arith)
rose_within before before' now l (inr r) = inr r

lacking_within : (files : Files) (before before' now : ℕ) (name : List ℕ) → before ≤ before' → IsLacking before' now files name → IsLacking before now files name
lacking_within None before before' now name l h = rose_within before before' now l h
lacking_within (Some fs) before before' now name l h = h

absent_within : (files files' : Files) (before before' now : ℕ) (name : List ℕ) → files' ≡ files → before ≤ before' → IsAbsent (shelved files' before' now) name → IsAbsent (shelved files before now) name
absent_within files files' before before' now name e l (inl n) = inl n
absent_within files files' before before' now name e l (inr h) = inr (lacking_within files before before' now name l (subst (λ (fs : Files). IsLacking before' now fs name) e h))

-- a file that can't be read, or is refused by itself
pub file_fault : (files files' : Files) (before before' now : ℕ) (top : List ℕ) (asked : Wanted) {sources : List NamedSource} {done : List ℕ} → GoesOn files before top sources → IsAsked top sources done asked.name × IsMentionedAt files sources asked.name asked.mention → files' ≡ files → before ≤ before' → (e : GatherFault) → IsFileFault (shelved files' before' now) asked e → Answers (shelved files before now) top (Err e)
file_fault files files' before before' now top asked {sources = sources} on a e l (gather_case.Source file f) (n, h, r) =
    on.on now (outcomes.refused file f)
    (outcomes.file_refused file f (subst (λ (m : List ℕ). Calls top sources (read m)) (sym n) a.0.calls) (subst (λ (fs : Files). WasRead fs file) e h) r)
file_fault files files' before before' now top asked {sources = sources} on a e l (gather_case.Missing file mention) (n, h, g) =
    on.on now (outcomes.missing file mention)
    (subst (λ (m : List ℕ). ComesTo (shelved files before now) top sources (outcomes.missing m mention)) (sym n)
    (outcomes.absent asked.name mention a.0.calls (subst (λ (o : Option Mention). IsMentionedAt files sources asked.name o) (sym g) a.1) (absent_within files files' before before' now asked.name e l h)))
file_fault files files' before before' now top asked {sources = sources} on a e l (gather_case.ShelfFault file) (n, h) =
    on.on now (outcomes.failed file)
    (subst (λ (m : List ℕ). ComesTo (shelved files before now) top sources (outcomes.failed m)) (sym n)
    (outcomes.not_read asked.name a.0.calls (rose_within before before' now l h)))
file_fault files files' before before' now top asked on a e l gather_case.NoMemory h = tt

-- a mention that is refused
pub call_fault : (files : Files) (before now : ℕ) (top : List ℕ) {sources : List NamedSource} → GoesOn files before top sources → (e : GatherFault) → IsRefusedCall files top sources e → Answers (shelved files before now) top (Err e)
call_fault files before now top on (gather_case.Source file f) (c, h) = on.on now (outcomes.refused file f) (outcomes.mention_refused file f c h)
call_fault files before now top on (gather_case.Missing file mention) c = absurd c
call_fault files before now top on (gather_case.ShelfFault file) c = absurd c
call_fault files before now top on gather_case.NoMemory c = tt

-- what is asked for
pub asked_for : (shelf : Files) {top : List ℕ} {files : List NamedSource} {done : List ℕ} (o : Option Wanted) (asked : Wanted) → CallsFor shelf top files done o → o ≡ Some asked → IsAsked top files done asked.name × IsMentionedAt shelf files asked.name asked.mention
asked_for shelf {top = top} {files = files} {done = done} o asked c e = subst (λ (x : Option Wanted). CallsFor shelf top files done x) e c

pub asked_for_none : (shelf : Files) {top : List ℕ} {files : List NamedSource} (done : List ℕ) (o : Option Wanted) → CallsFor shelf top files done o → o ≡ None → Calls top files nothing
asked_for_none shelf {top = top} {files = files} done o c e = subst (λ (x : Option Wanted). CallsFor shelf top files done x) e c

-- one more file

pub sources_more : (fs gs : List ProjectFile) (file : ProjectFile) → gs ≡ fs ++ file ∷ [] → sources_of gs ≡ sources_of fs ++ named_source_of file ∷ []
sources_more fs gs file e = ap sources_of e ∙ map-append named_source_of fs (file ∷ [])

pub same_name : (file : ProjectFile) (name : List ℕ) → file.name ≡ name → named_source_of file ≡ named name (source_of file.tree)
same_name file name e = ap (λ n. named n (source_of file.tree)) e

pub more : (files files' : Files) (before before' now : ℕ) (top name : List ℕ) (fs gs : List ProjectFile) (done : List ℕ) (file : ProjectFile) → Stands (sources_of fs) done → IsAsked top (sources_of fs) done name → GoesOn files before top (sources_of fs) → files' ≡ files → IsFileOf (shelved files' before' now) name file → gs ≡ fs ++ file ∷ [] → Stands (sources_of gs) done × GoesOn files before top (sources_of gs)
more files files' before before' now top name fs gs done file s a on e is g =
    let x : NamedSource = named name (source_of file.tree) in
    let grown : sources_of gs ≡ sources_of fs ++ x ∷ [] = sources_more fs gs file g ∙ ap (λ y. sources_of fs ++ y ∷ []) (same_name file name is.named) in (
      subst (λ (ss : List NamedSource). Stands ss done) (sym grown) (one_more_stands s x a.new a.led),
      subst (λ (ss : List NamedSource). GoesOn files before top ss) (sym grown) (record {
        on = λ after o c. on.on after o (outcomes.one_more name is.bytes (source_of file.tree) a.calls (subst (λ (fs : Files). HasBytes fs name is.bytes) e is.has) is.source c);
      }),
    )

-- each tree is so
pub no_trees : (P : Source → Type 0) (fs : List ProjectFile) → fs ≡ [] → EachTree P (sources_of fs)
no_trees P fs e = subst (λ (gs : List ProjectFile). EachTree P (sources_of gs)) (sym e) (λ i f at. absurd (none_at at))

pub tree_more : (P : Source → Type 0) (fs gs : List ProjectFile) (file : ProjectFile) → EachTree P (sources_of fs) → P (source_of file.tree) → gs ≡ fs ++ file ∷ [] → EachTree P (sources_of gs)
tree_more P fs gs file each p e =
    subst (λ (ss : List NamedSource). EachTree P ss) (sym (sources_more fs gs file e))
    (λ i f at. elim (at_more (sources_of fs) (named_source_of file) at) [ inl b ↦ each i f b | inr q ↦ subst (λ h. P h.tree) (sym q.1) p ])
