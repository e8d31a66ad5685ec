-- Gathering from a shelf that tells its files comes to one outcome.
use Rattle.std.proofs.Common.{◌≡◌, ◌↔◌, ℕ, ◌<◌, ◌≤◌, inl, inr, List, [], ◌∷◌, ◌++◌, length, Option, Some, None, refl, ap, sym, ◌∙◌, subst, arith}
use Rattle.p8_tree.specs.declared.places.Place.{Place}
use Rattle.p8_tree.specs.Sources.{Child, Source}
use Rattle.p8_tree.specs.Projects.{NamedSource}
use Rattle.p8_lexer.specs.declared.token.Token.{Token}
use Rattle.p8_tree.specs.declared.faults.Fault.{Fault}
use Rattle.p8_tree.specs.declared.refusal.Refusal.TheVariants.{TooManyObjects}
use Rattle.p8_tree.specs.Faults.{fault}
use Rattle.p8_tree.proofs.Failing.{same_fault}
use Rattle.p8_lexer.specs.Lexing.{longest_file, AreTokens, IsFault}
use Rattle.p8_lines.specs.Tokens.{LineToken, all_tokens}
use Rattle.p8_blocks.specs.Reading as reading
use Rattle.p8_blocks.specs.Reading.{Answer, Parses}
use Rattle.p8_blocks.specs.Files.{IsFileWithinLimits}
use Rattle.p8_io.specs.Shelves.{AreStartOf}
use Rattle.p8_objects.specs.Lists.{IsAt, HasOne, IsFirst}
use Rattle.p8_objects.specs.Sources.{mentions, most_objects, ReadsAs, IsSource, IsRefused, no_tokens, no_file, too_many}
use Rattle.p8_objects.specs.declared.fault.Mention.{Mention}
use Rattle.p8_objects.specs.declared.fault.ReadFile.{ReadFile}
use Rattle.p8_objects.specs.Projects.{IsIn, Leads, there, over, ClosesRing, IsOpen, HasOpen, IsNext, Call, Calls, read, refuse, nothing}
use Rattle.p8_objects.specs.Projects as projects
use Rattle.p8_objects.specs.Outcomes.{Shelved, shelved, HasBytes, WasRead, read_as, IsAbsent, mention_in, IsMentionedAt, Outcome, ComesTo, project, refused, missing, named}
use Rattle.p8_objects.specs.Outcomes as outcomes
use Rattle.p8_objects.specs.Whole.{IsOfFiles}
use Rattle.p8_objects.proofs.Elements.{one_at, is_within, one_first, one_last, last_is_one}
use Rattle.p8_objects.proofs.Wholes.{next_not_empty}

-- what is known of the lexer and of reading lines
pub record OneAnswer : Type 0 where
  pub never_both : (bytes : List ℕ) (tokens : List Token) (f : Fault) → AreTokens bytes tokens → length bytes ≤ longest_file → ¬ IsFault bytes f
  pub one_list : (bytes : List ℕ) (some others : List Token) → AreTokens bytes some → AreTokens bytes others → some ≡ others
  pub one_fault : (bytes : List ℕ) (one another : Fault) → IsFault bytes one → IsFault bytes another → one ≡ another
  pub one_reading : (ts : List LineToken) (a b : Answer) → Parses ts a → Parses ts b → a ≡ b
  pub are_read : (ts : List LineToken) (s : Source) → Parses ts (reading.source s) ↔ IsFileWithinLimits s ts

-- what the files so far call for

same_next : {files : List NamedSource} {f g : NamedSource} {x y : Child} → IsNext files f x → IsNext files g y → (f ≡ g) × (x ≡ y)
same_next {files = files} {f = f} {g = g} {x = x} {y = y} a b =
    let e : f ≡ g = one_last a.file b.file in
    (e, one_first (subst (λ h. IsFirst (IsOpen files h) (mentions h.tree) x) e a.mention) b.mention)

next_has_open : {files : List NamedSource} {f : NamedSource} {x : Child} → IsNext files f x → HasOne (HasOpen files) files
next_has_open {f = f} n = let h = last_is_one n.file in record { number = h.0; element = f; stands = h.1; holds = h.2 }

leads_from_one : {files : List NamedSource} {m n : List ℕ} → Leads files m n → IsIn files n → IsIn files m
leads_from_one there h = h
leads_from_one (over g l) h = record { number = g.number; element = g.element; stands = g.stands; holds = g.holds.0 }

-- what closes a ring is no new file
ring_is_in : {files : List NamedSource} {f : NamedSource} {x : Child} → IsNext files f x → ClosesRing files f x → IsIn files x.file
ring_is_in {f = f} n r = let h = last_is_one n.file in leads_from_one r (record { number = h.0; element = f; stands = h.1; holds = refl })

new_or_ring : {files : List NamedSource} {f g : NamedSource} {x y : Child} → IsNext files f x → ¬ IsIn files x.file → IsNext files g y → ClosesRing files g y → ⊥
new_or_ring {files = files} n new m r = new (subst (λ z. IsIn files z.file) (sym (same_next n m).1) (ring_is_in m r))

none_is_whole : {X : Type 0} {xs : List X} → xs ≡ [] → 0 < length xs → ⊥
none_is_whole e l = let h = ap length e in omega (arith, h)

one_call : {top : List ℕ} {files : List NamedSource} {a b : Call} → Calls top files a → Calls top files b → a ≡ b
one_call (projects.first_file e) (projects.first_file d) = refl
one_call (projects.first_file e) (projects.new_file g y m new room) = absurd (next_not_empty m e)
one_call (projects.first_file e) (projects.file_too_many g y m new full) = absurd (next_not_empty m e)
one_call (projects.first_file e) (projects.ring g y m r) = absurd (next_not_empty m e)
one_call (projects.first_file e) (projects.whole l n) = absurd (none_is_whole e l)
one_call (projects.new_file f x n new room) (projects.first_file e) = absurd (next_not_empty n e)
one_call (projects.new_file f x n new room) (projects.new_file g y m new' room') = ap (λ z. read z.file) (same_next n m).1
one_call (projects.new_file f x n new room) (projects.file_too_many g y m new' full) = absurd (omega arith)
one_call (projects.new_file f x n new room) (projects.ring g y m r) = absurd (new_or_ring n new m r)
one_call (projects.new_file f x n new room) (projects.whole l none) = absurd (none (next_has_open n))
one_call (projects.file_too_many f x n new full) (projects.first_file e) = absurd (next_not_empty n e)
one_call (projects.file_too_many f x n new full) (projects.new_file g y m new' room) = absurd (omega arith)
one_call (projects.file_too_many f x n new full) (projects.file_too_many g y m new' full') = let p = same_next n m in cc
one_call (projects.file_too_many f x n new full) (projects.ring g y m r) = absurd (new_or_ring n new m r)
one_call (projects.file_too_many f x n new full) (projects.whole l none) = absurd (none (next_has_open n))
one_call (projects.ring f x n r) (projects.first_file e) = absurd (next_not_empty n e)
one_call (projects.ring f x n r) (projects.new_file g y m new room) = absurd (new_or_ring m new n r)
one_call (projects.ring f x n r) (projects.file_too_many g y m new full) = absurd (new_or_ring m new n r)
one_call (projects.ring f x n r) (projects.ring g y m r') = let p = same_next n m in cc
one_call (projects.ring f x n r) (projects.whole l none) = absurd (none (next_has_open n))
one_call (projects.whole l none) (projects.first_file e) = absurd (none_is_whole e l)
one_call (projects.whole l none) (projects.new_file g y m new room) = absurd (none (next_has_open m))
one_call (projects.whole l none) (projects.file_too_many g y m new full) = absurd (none (next_has_open m))
one_call (projects.whole l none) (projects.ring g y m r) = absurd (none (next_has_open m))
one_call (projects.whole l none) (projects.whole l' none') = refl

-- what bytes are by themselves

same_source : {s t : Source} → reading.source s ≡ reading.source t → s ≡ t
same_source e = cc

same_answer : {m n : ℕ} {p q : Place} → reading.fault m p ≡ reading.fault n q → (m ≡ n) × (p ≡ q)
same_answer e = (cc, cc)

no_fault_source : {s : Source} {n : ℕ} {p : Place} → reading.source s ≡ reading.fault n p → ⊥
no_fault_source e = cc

same_tokens : (A : OneAnswer) (bytes : List ℕ) (some others : List Token) → AreTokens bytes some → AreTokens bytes others → all_tokens bytes some ≡ all_tokens bytes others
same_tokens A bytes some others a b = ap (all_tokens bytes) (A.one_list bytes some others a b)

one_answer : (A : OneAnswer) (bytes : List ℕ) (some others : List Token) {a b : Answer} → AreTokens bytes some → AreTokens bytes others → Parses (all_tokens bytes some) a → Parses (all_tokens bytes others) b → a ≡ b
one_answer A bytes some others {a = a} {b = b} c d p q =
    A.one_reading (all_tokens bytes others) a b (subst (λ ts. Parses ts a) (same_tokens A bytes some others c d) p) q

-- what reading answers of bytes that are read so
reads_so : (A : OneAnswer) {bytes : List ℕ} {s : Source} (r : ReadsAs bytes s) → Parses (all_tokens bytes r.tokens) (reading.source s)
reads_so A {bytes = bytes} {s = s} r = (A.are_read (all_tokens bytes r.tokens) s).1 r.is

one_source : (A : OneAnswer) {bytes : List ℕ} {s t : Source} → ReadsAs bytes s → ReadsAs bytes t → s ≡ t
one_source A {bytes = bytes} r q = same_source (one_answer A bytes r.tokens q.tokens r.cut q.cut (reads_so A r) (reads_so A q))

too_many_for : {xs : List Child} {x : Child} → IsAt xs most_objects x → length xs ≤ most_objects → ⊥
too_many_for at l = let w = is_within at in omega arith

source_or_refused : (A : OneAnswer) {bytes : List ℕ} {s : Source} {f : Fault} → IsSource bytes s → IsRefused bytes f → ⊥
source_or_refused A {bytes = bytes} i (no_tokens f) = A.never_both bytes i.reads.tokens _ i.reads.cut i.reads.short f
source_or_refused A {bytes = bytes} i (no_file tokens l cut q) =
    no_fault_source (one_answer A bytes i.reads.tokens tokens i.reads.cut cut (reads_so A i.reads) q)
source_or_refused A i (too_many t x r at e) = too_many_for (subst (λ u. IsAt (mentions u) most_objects x) (one_source A r i.reads) at) i.few

one_refusal : (A : OneAnswer) {bytes : List ℕ} {f g : Fault} → IsRefused bytes f → IsRefused bytes g → f ≡ g
one_refusal A {bytes = bytes} (no_tokens h) (no_tokens k) = A.one_fault bytes _ _ h k
one_refusal A {bytes = bytes} (no_tokens f) (no_file tokens l cut r) = absurd (A.never_both bytes tokens _ cut l f)
one_refusal A {bytes = bytes} (no_tokens f) (too_many t x r at e) = absurd (A.never_both bytes r.tokens _ r.cut r.short f)
one_refusal A {bytes = bytes} (no_file tokens l cut r) (no_tokens g) = absurd (A.never_both bytes tokens _ cut l g)
one_refusal A {bytes = bytes} {f = f} {g = g} (no_file tokens l cut r) (no_file tokens' l' cut' r') =
    let same = same_answer (one_answer A bytes tokens tokens' cut cut' r r') in same_fault f g same.0 same.1
one_refusal A {bytes = bytes} (no_file tokens l cut r) (too_many t x h at e) =
    absurd (no_fault_source (one_answer A bytes h.tokens tokens h.cut cut (reads_so A h) r))
one_refusal A {bytes = bytes} (too_many t x r at e) (no_tokens g) = absurd (A.never_both bytes r.tokens _ r.cut r.short g)
one_refusal A {bytes = bytes} (too_many t x h at e) (no_file tokens l cut r) =
    absurd (no_fault_source (one_answer A bytes h.tokens tokens h.cut cut (reads_so A h) r))
one_refusal A (too_many t x r at e) (too_many t' x' r' at' e') =
    e ∙ (ap (λ z. fault TooManyObjects z.place) (one_at (subst (λ u. IsAt (mentions u) most_objects x) (one_source A r r') at) at' refl) ∙ sym e')

-- a shelf that tells its files

one_start : (o : Option (List ℕ)) {a b : List ℕ} → AreStartOf o a → AreStartOf o b → a ≡ b
one_start None h k = absurd h
one_start (Some file) h k = h ∙ sym k

start_of_none : (o : Option (List ℕ)) (a : List ℕ) → o ≡ None → AreStartOf o a → ⊥
start_of_none None a e h = h
start_of_none (Some file) a e h = cc

one_bytes : (files : List ℕ → Option (List ℕ)) (name : List ℕ) {a b : List ℕ} → HasBytes (Some files) name a → HasBytes (Some files) name b → a ≡ b
one_bytes files name h k = one_start (files name) h.1 k.1

there_or_absent : (files : List ℕ → Option (List ℕ)) (before now : ℕ) (name a : List ℕ) → HasBytes (Some files) name a → IsAbsent (shelved (Some files) before now) name → ⊥
there_or_absent files before now name a h (inl n) = n h.0
there_or_absent files before now name a h (inr e) = start_of_none (files name) a e h.1

-- a file that is read next is mentioned at one place, in a file with one text
one_mention : (shelf : List ℕ → Option (List ℕ)) (files : List NamedSource) (name : List ℕ) (a b : Option Mention) → IsMentionedAt (Some shelf) files name a → IsMentionedAt (Some shelf) files name b → a ≡ b
one_mention shelf files name None None p q = refl
one_mention shelf files name None (Some b) p q = absurd (next_not_empty q.3 p)
one_mention shelf files name (Some a) None p q = absurd (next_not_empty p.3 q)
one_mention shelf files name (Some a) (Some b) p q =
    let same = same_next p.3 q.3 in
    let bytes : p.2 ≡ q.2 = one_bytes shelf q.0.name (subst (λ (f : NamedSource). HasBytes (Some shelf) f.name p.2) same.0 p.5) q.5 in
    ap Some (p.6 ∙ (λ i. mention_in (read_as (same.0 i).name (bytes i)) (same.1 i)) ∙ sym q.6)

-- what the file that is read next comes to
data Read (shelf : Shelved) (top : List ℕ) (files : List NamedSource) (name : List ℕ) : Outcome → Type 0 where
  went_on : {o : Outcome} (bytes : List ℕ) (s : Source) → HasBytes shelf.files name bytes → IsSource bytes s → ComesTo shelf top (files ++ named name s ∷ []) o → Read shelf top files name o
  was_refused : (bytes : List ℕ) (f : Fault) → HasBytes shelf.files name bytes → IsRefused bytes f → Read shelf top files name (refused (read_as name bytes) f)
  was_absent : (mention : Option Mention) → IsMentionedAt shelf.files files name mention → IsAbsent shelf name → Read shelf top files name (missing name mention)

same_read : {m n : List ℕ} → read m ≡ read n → n ≡ m
same_read e = cc

same_refuse : {m n : List ℕ} {f g : Fault} → refuse m f ≡ refuse n g → (m ≡ n) × (f ≡ g)
same_refuse e = (cc, cc)

read_refuse : {m n : List ℕ} {f : Fault} → read m ≡ refuse n f → ⊥
read_refuse e = cc

read_nothing : {m : List ℕ} → read m ≡ nothing → ⊥
read_nothing e = cc

refuse_nothing : {n : List ℕ} {f : Fault} → refuse n f ≡ nothing → ⊥
refuse_nothing e = cc

as_read : {shelf : Shelved} {top : List ℕ} {files : List NamedSource} {o : Outcome} (name : List ℕ) → Calls top files (read name) → IsOfFiles o → ComesTo shelf top files o → Read shelf top files name o
as_read {shelf = shelf} {top = top} {files = files} {o = o} name c i (outcomes.one_more name' bytes s c' h src rest) = subst (λ n. Read shelf top files n o) (same_read (one_call c c')) (went_on bytes s h src rest)
as_read {shelf = shelf} {top = top} {files = files} name c i (outcomes.file_refused file f c' h r) = subst (λ n. Read shelf top files n (refused file f)) (same_read (one_call c c')) (was_refused file.bytes f h r)
as_read {shelf = shelf} {top = top} {files = files} name c i (outcomes.absent name' mention c' m a) = subst (λ n. Read shelf top files n (missing name' mention)) (same_read (one_call c c')) (was_absent mention m a)
as_read name c i (outcomes.not_read name' c' r) = absurd i
as_read name c i (outcomes.mention_refused file f c' h) = absurd (read_refuse (one_call c c'))
as_read name c i (outcomes.whole c') = absurd (read_nothing (one_call c c'))

as_refused : (shelf : List ℕ → Option (List ℕ)) (before now : ℕ) {top : List ℕ} {files : List NamedSource} {o : Outcome} (file : ReadFile) (f : Fault) → Calls top files (refuse file.name f) → WasRead (Some shelf) file → ComesTo (shelved (Some shelf) before now) top files o → refused file f ≡ o
as_refused shelf before now file f c w (outcomes.one_more name' bytes s c' h src rest) = absurd (read_refuse (one_call c' c))
as_refused shelf before now file f c w (outcomes.file_refused other g c' h r) = absurd (read_refuse (one_call c' c))
as_refused shelf before now file f c w (outcomes.absent name' mention c' m a) = absurd (read_refuse (one_call c' c))
as_refused shelf before now file f c w (outcomes.not_read name' c' r) = absurd (read_refuse (one_call c' c))
as_refused shelf before now file f c w (outcomes.mention_refused other g c' v) =
    let same = same_refuse (one_call c c') in
    let bytes : file.bytes ≡ other.bytes = one_bytes shelf other.name (subst (λ (n : List ℕ). HasBytes (Some shelf) n file.bytes) same.0 w) v in
    λ i. refused (read_as (same.0 i) (bytes i)) (same.1 i)
as_refused shelf before now file f c w (outcomes.whole c') = absurd (refuse_nothing (one_call c c'))

as_whole : {shelf : Shelved} {top : List ℕ} {files : List NamedSource} {o : Outcome} → Calls top files nothing → ComesTo shelf top files o → project files ≡ o
as_whole c (outcomes.one_more name' bytes s c' h src rest) = absurd (read_nothing (one_call c' c))
as_whole c (outcomes.file_refused file g c' h r) = absurd (read_nothing (one_call c' c))
as_whole c (outcomes.absent name' mention c' m a) = absurd (read_nothing (one_call c' c))
as_whole c (outcomes.not_read name' c' r) = absurd (read_nothing (one_call c' c))
as_whole c (outcomes.mention_refused file g c' h) = absurd (refuse_nothing (one_call c' c))
as_whole c (outcomes.whole c') = refl

refusal_agrees : (A : OneAnswer) (files : List ℕ → Option (List ℕ)) (before now : ℕ) {top : List ℕ} {sources : List NamedSource} (name bytes : List ℕ) (f : Fault) {o : Outcome} → HasBytes (Some files) name bytes → IsRefused bytes f → Read (shelved (Some files) before now) top sources name o → refused (read_as name bytes) f ≡ o
refusal_agrees A files before now name bytes f h r (went_on bytes' s h' src rest) = absurd (source_or_refused A src (subst (λ b. IsRefused b f) (one_bytes files name h h') r))
refusal_agrees A files before now name bytes f h r (was_refused bytes' g h' r') =
    let same : bytes ≡ bytes' = one_bytes files name h h' in
    let fault : f ≡ g = one_refusal A (subst (λ (b : List ℕ). IsRefused b f) same r) r' in
    λ i. refused (read_as name (same i)) (fault i)
refusal_agrees A files before now name bytes f h r (was_absent mention m a) = absurd (there_or_absent files before now name bytes h a)

absence_agrees : (files : List ℕ → Option (List ℕ)) (before now : ℕ) {top : List ℕ} {sources : List NamedSource} (name : List ℕ) (mention : Option Mention) {o : Outcome} → IsMentionedAt (Some files) sources name mention → IsAbsent (shelved (Some files) before now) name → Read (shelved (Some files) before now) top sources name o → missing name mention ≡ o
absence_agrees files before now name mention m a (went_on bytes s h src rest) = absurd (there_or_absent files before now name bytes h a)
absence_agrees files before now name mention m a (was_refused bytes f h r) = absurd (there_or_absent files before now name bytes h a)
absence_agrees files before now {sources = sources} name mention m a (was_absent other n b) = ap (missing name) (one_mention files sources name mention other m n)

same_bytes_source : (A : OneAnswer) (files : List ℕ → Option (List ℕ)) (name bytes bytes' : List ℕ) (s s' : Source) → HasBytes (Some files) name bytes → HasBytes (Some files) name bytes' → IsSource bytes s → IsSource bytes' s' → s' ≡ s
same_bytes_source A files name bytes bytes' s s' h h' i i' =
    sym (one_source A (subst (λ b. ReadsAs b s) (one_bytes files name h h') i.reads) i'.reads)

-- one more file on either side: the rest agrees
more_agrees : (A : OneAnswer) (files : List ℕ → Option (List ℕ)) (before now : ℕ) {top : List ℕ} {sources : List NamedSource} {a b : Outcome} (name bytes : List ℕ) (s : Source) → ((o : Outcome) → ComesTo (shelved (Some files) before now) top (sources ++ named name s ∷ []) o → IsOfFiles o → a ≡ o) → IsOfFiles b → HasBytes (Some files) name bytes → IsSource bytes s → Read (shelved (Some files) before now) top sources name b → a ≡ b
more_agrees A files before now {top = top} {sources = sources} {b = b} name bytes s rest j h i (went_on bytes' s' h' i' rest') =
    rest b (subst (λ u. ComesTo (shelved (Some files) before now) top (sources ++ named name u ∷ []) b) (same_bytes_source A files name bytes bytes' s s' h h' i i') rest') j
more_agrees A files before now name bytes s rest j h i (was_refused bytes' f h' r) = absurd (source_or_refused A i (subst (λ b. IsRefused b f) (one_bytes files name h' h) r))
more_agrees A files before now name bytes s rest j h i (was_absent mention m b) = absurd (there_or_absent files before now name bytes h b)

pub one_outcome : (A : OneAnswer) (files : List ℕ → Option (List ℕ)) (before now : ℕ) (top : List ℕ) {sources : List NamedSource} {a b : Outcome} → ComesTo (shelved (Some files) before now) top sources a → ComesTo (shelved (Some files) before now) top sources b → IsOfFiles a → IsOfFiles b → a ≡ b
one_outcome A files before now top (outcomes.one_more name bytes s c h src rest) other i j =
    more_agrees A files before now name bytes s (λ o rest' k. one_outcome A files before now top rest rest' i k) j h src (as_read name c j other)
one_outcome A files before now top (outcomes.file_refused file f c h r) other i j = refusal_agrees A files before now file.name file.bytes f h r (as_read file.name c j other)
one_outcome A files before now top (outcomes.absent name mention c m a) other i j = absence_agrees files before now name mention m a (as_read name c j other)
one_outcome A files before now top (outcomes.not_read name c r) other i j = absurd i
one_outcome A files before now top (outcomes.mention_refused file f c h) other i j = as_refused files before now file f c h other
one_outcome A files before now top (outcomes.whole c) other i j = as_whole c other
