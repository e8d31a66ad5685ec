-- Where the shelf tells its files, asks come to one thing alone: what they are given, or one reason that stops them.
use Rattle.std.proofs.Common.{◌≡◌, ◌<◌, ◌≤◌, ◌∙◌, ap, ap₂, sym, subst, arith, ℕ, Bool, true, false, inl, inr, refl, List, [], ◌∷◌, length, Option, Some, None}
use Rattle.p8_access.specs.Worlds.{Line}
use Rattle.p8_tree.specs.declared.faults.Fault.{Fault}
use Rattle.p8_tree.specs.Projects.{NamedSource}
use Rattle.p8_image.specs.declared.faults.LoadFault.{LoadFault}
use Rattle.p8_image.specs.declared.faults.LoadFault.TheVariants.{BadLength}
use Rattle.p8_image.specs.declared.parts.ObjectPart.{ObjectPart}
use Rattle.p8_image.specs.Layout.{image_of}
use Rattle.p8_io.specs.Counts.{Rose}
use Rattle.p8_io.specs.Shelves.{Files, IsRead, AreStartOf}
use Rattle.p8_legend.specs.declared.legend.Legend.{Legend}
use Rattle.p8_objects.specs.declared.fault.Mention.{Mention}
use Rattle.p8_objects.specs.declared.fault.ReadFile.{ReadFile}
use Rattle.p8_objects.specs.Outcomes.{Outcome, failed, shelved, ComesTo}
use Rattle.p8_objects.specs.Outcomes as outcomes
use Rattle.p8_pins.specs.Scripts.{IsReadAs, IsFault}
use Rattle.p8_pins.proofs.Scripting.{read-same, read-not_bad, fault-one}
use Rattle.p8_build.specs.Builds.{objects_of}
use Rattle.p8_map.specs.Projects.{IsMapOf}
use Rattle.p8_hint.specs.Projects.{IsHintsOf}
use Rattle.p8_image.specs.Listing.{listing_of}
use Rattle.std.specs.Prelude.{map}
use Rattle.p8_build.specs.declared.sizes.Size.{Size}
use Rattle.p8_inputs.specs.declared.program.Format.{Format}
use Rattle.p8_inputs.specs.declared.program.Format.TheVariants.{Memory, Image, Eeprom, Source}
use Rattle.p8_inputs.specs.declared.stop.Stop.{Stop}
use Rattle.p8_inputs.specs.declared.stop.Stop.TheVariants.{Unread, Missing, NoMemory, Refused, BadProgram, BadScript, Unnamed}
use Rattle.p8_inputs.specs.Programs.{fault_of}
use Rattle.p8_inputs.specs.Sources.{HasOneOutcome, IsListingFrom, IsCodeFrom, IsMapFrom, IsHintsFrom}
use Rattle.p8_inputs.specs.Inputs.{IsProgram, IsScriptFor, IsProgramUnread}
use Rattle.p8_page.specs.Page.{Block}
use Rattle.p8_inputs.specs.Pages.{AreBlocksFrom}
use Rattle.p8_inputs.specs.Asks.{most_sent, Ask, program, viewing, paging, listing, coding, mapping, hinting, script, history, message, Given, bytes, viewed, paged, lines, Gives, Give, StopsAtFile, StopsAtMessage, StopsAtProgram, StopsAtScript, IsUnnamed, StopsAt, StopsFirst, Stops, IsOfFiles, HasOneReading}
use Rattle.p8_inputs.specs.Legends.{IsLegendFrom, HasName, range_in}
use Rattle.p8_inputs.proofs.Coding.{code-built}
use Rattle.p8_inputs.proofs.Mapping.{map-built, hints-built}
use Rattle.p8_inputs.proofs.Naming.{same-nothing}
use Rattle.p8_inputs.proofs.Stopping.{first-or_memory}

start-one : (file : Option (List ℕ)) (a b : List ℕ) → AreStartOf file a → AreStartOf file b → a ≡ b
start-one None a b p q = absurd p
start-one (Some file) a b p q = p ∙ sym q

start-some : (file : Option (List ℕ)) (a : List ℕ) → AreStartOf file a → file ≡ None → ⊥
start-some None a p none = p
start-some (Some file) a p none = cc

none-not_some : {A : Type 0} (o : Option A) (a : A) → o ≡ None → o ≡ Some a → ⊥
none-not_some o a p q = cc

same-some : {A : Type 0} (o : Option A) (a b : A) → o ≡ Some a → o ≡ Some b → a ≡ b
same-some o a b p q = cc

module _ (files : List ℕ → Option (List ℕ)) where
  read-one : (name a b : List ℕ) → IsRead (Some files) name a → IsRead (Some files) name b → a ≡ b
  read-one name a b p q = start-one (files name) a b p q

  -- a file of the same name has the same bytes
  read-same_name : (file name a b : List ℕ) → name ≡ file → IsRead (Some files) file a → IsRead (Some files) name b → a ≡ b
  read-same_name file name a b same p q = read-one file a b p (subst (λ (n : List ℕ). IsRead (Some files) n b) same q)

  read-some : (file name a : List ℕ) → IsRead (Some files) file a → name ≡ file → files name ≡ None → ⊥
  read-some file name a p same none = start-some (files file) a p (ap files (sym same) ∙ none)

  script-one : (file : List ℕ) (a b : List Line) → IsScriptFor (Some files) (Some file) a → IsScriptFor (Some files) (Some file) b → a ≡ b
  script-one file a b p q =
      let same : p.0 ≡ q.0 = read-one file p.0 q.0 p.1 q.1 in
      read-same q.0 a b (subst (λ (text : List ℕ). IsReadAs text a) same p.2) q.2

  -- the bytes of a file are run themselves, or they have a fault
  there-not_faulty : (format : Format) (file xs name : List ℕ) (fault : LoadFault) → IsRead (Some files) file xs → fault_of format xs ≡ None
      → (other : List ℕ) → name ≡ file → IsRead (Some files) name other → fault_of format other ≡ Some fault → ⊥
  there-not_faulty format file xs name fault read good other same other-read bad =
      none-not_some (fault_of format xs) fault good (ap (fault_of format) (read-same_name file name xs other same read other-read) ∙ bad)

  one-fault : (format : Format) (file a b : List ℕ) (f g : LoadFault) (xs ys : List ℕ) → a ≡ file → IsRead (Some files) a xs → fault_of format xs ≡ Some f
      → b ≡ file → IsRead (Some files) b ys → fault_of format ys ≡ Some g → (a ≡ b) × (f ≡ g)
  one-fault format file a b f g xs ys a-is a-read a-bad b-is b-read b-bad =
      let same : xs ≡ ys = read-same_name a b xs ys (b-is ∙ sym a-is) a-read b-read in
      (a-is ∙ sym b-is, same-some (fault_of format ys) f g (ap (fault_of format) (sym same) ∙ a-bad) b-bad)

  -- ---- one reason to stop is another

  refused-same : {a b : ReadFile} {f g : Fault} {s t : Option Size} → (a ≡ b) × (f ≡ g) × (s ≡ t) → Refused a f s ≡ Refused b g t
  refused-same e = λ i. Refused (e.0 i) (e.1 i) (e.2 i)

  missing-same : {a b : List ℕ} {k l : Option Mention} → (a ≡ b) × (k ≡ l) → Missing a k ≡ Missing b l
  missing-same e = λ i. Missing (e.0 i) (e.1 i)

  faulty-same : {a b : List ℕ} {f g : LoadFault} → (a ≡ b) × (f ≡ g) → BadProgram a f ≡ BadProgram b g
  faulty-same e = λ i. BadProgram (e.0 i) (e.1 i)

  file-stop-one : (before now : ℕ) (file : List ℕ) (a b : Stop) → IsOfFiles a → IsOfFiles b → StopsAtFile (Some files) before now file a → StopsAtFile (Some files) before now file b → a ≡ b
  file-stop-one before now file (Missing a k) (Missing b l) s t p q = missing-same (p.0 ∙ sym q.0, p.2 ∙ sym q.2)
  file-stop-one before now file (Unread a) b s t p q = absurd s
  file-stop-one before now file NoMemory b s t p q = absurd s
  file-stop-one before now file (Refused a m u) b s t p q = absurd p
  file-stop-one before now file (BadProgram a f) b s t p q = absurd p
  file-stop-one before now file (BadScript a m) b s t p q = absurd p
  file-stop-one before now file a (Unread b) s t p q = absurd t
  file-stop-one before now file a NoMemory s t p q = absurd t
  file-stop-one before now file a (Refused b n v) s t p q = absurd q
  file-stop-one before now file a (BadProgram b g) s t p q = absurd q
  file-stop-one before now file a (BadScript b n) s t p q = absurd q
  file-stop-one before now file (Unnamed a m) b s t p q = absurd p
  file-stop-one before now file a (Unnamed b n) s t p q = absurd q

  file-never_both : (before now : ℕ) (file xs : List ℕ) (stop : Stop) → IsOfFiles stop → IsRead (Some files) file xs → StopsAtFile (Some files) before now file stop → ⊥
  file-never_both before now file xs (Missing name mention) s is stops = read-some file name xs is stops.0 stops.1
  file-never_both before now file xs (Unread name) s is stops = s
  file-never_both before now file xs NoMemory s is stops = s
  file-never_both before now file xs (Refused name f size) s is stops = stops
  file-never_both before now file xs (BadProgram name fault) s is stops = stops
  file-never_both before now file xs (BadScript name line) s is stops = stops
  file-never_both before now file xs (Unnamed other name) s is stops = stops

  -- too many bytes are as many wherever they are read
  long-one : (file a b xs ys : List ℕ) (f g : LoadFault) → a ≡ file → IsRead (Some files) a xs → f ≡ BadLength (length xs) → b ≡ file → IsRead (Some files) b ys → g ≡ BadLength (length ys) → BadProgram a f ≡ BadProgram b g
  long-one file a b xs ys f g a-is a-read f-is b-is b-read g-is =
      let same : xs ≡ ys = read-same_name a b xs ys (b-is ∙ sym a-is) a-read b-read in
      let fault : f ≡ g = f-is ∙ ap (λ (zs : List ℕ). BadLength (length zs)) same ∙ sym g-is in
      λ i. BadProgram ((a-is ∙ sym b-is) i) (fault i)

  message-stop-one : (before now : ℕ) (file : List ℕ) (a b : Stop) → IsOfFiles a → IsOfFiles b → StopsAtMessage (Some files) before now file a → StopsAtMessage (Some files) before now file b → a ≡ b
  message-stop-one before now file (Missing a k) (Missing b l) s t p q = missing-same (p.0 ∙ sym q.0, p.2 ∙ sym q.2)
  message-stop-one before now file (Missing a k) (BadProgram b g) s t p q = absurd (read-some b a q.1.0 q.1.1 (p.0 ∙ sym q.0) p.1)
  message-stop-one before now file (BadProgram a f) (Missing b l) s t p q = absurd (read-some a b p.1.0 p.1.1 (q.0 ∙ sym p.0) q.1)
  message-stop-one before now file (BadProgram a f) (BadProgram b g) s t p q = long-one file a b p.1.0 q.1.0 f g p.0 p.1.1 p.1.3 q.0 q.1.1 q.1.3
  message-stop-one before now file (Unread a) b s t p q = absurd s
  message-stop-one before now file NoMemory b s t p q = absurd s
  message-stop-one before now file (Refused a m u) b s t p q = absurd p
  message-stop-one before now file (BadScript a m) b s t p q = absurd p
  message-stop-one before now file a (Unread b) s t p q = absurd t
  message-stop-one before now file a NoMemory s t p q = absurd t
  message-stop-one before now file a (Refused b n v) s t p q = absurd q
  message-stop-one before now file a (BadScript b n) s t p q = absurd q
  message-stop-one before now file (Unnamed a m) b s t p q = absurd p
  message-stop-one before now file a (Unnamed b n) s t p q = absurd q

  message-never_both : (before now : ℕ) (file xs : List ℕ) (stop : Stop) → IsOfFiles stop → IsRead (Some files) file xs → length xs ≤ most_sent → StopsAtMessage (Some files) before now file stop → ⊥
  message-never_both before now file xs (Missing name mention) s is few stops = read-some file name xs is stops.0 stops.1
  message-never_both before now file xs (BadProgram name fault) s is few stops =
      let same : length xs ≡ length stops.1.0 = ap length (read-same_name file name xs stops.1.0 stops.0 is stops.1.1) in
      let many : most_sent < length stops.1.0 = stops.1.2 in
      omega arith
  message-never_both before now file xs (Unread name) s is few stops = s
  message-never_both before now file xs NoMemory s is few stops = s
  message-never_both before now file xs (Refused name f size) s is few stops = stops
  message-never_both before now file xs (BadScript name line) s is few stops = stops
  message-never_both before now file xs (Unnamed other name) s is few stops = stops

  script-stop-one : (before now : ℕ) (file : List ℕ) (a b : Stop) → IsOfFiles a → IsOfFiles b → StopsAtScript (Some files) before now file a → StopsAtScript (Some files) before now file b → a ≡ b
  script-stop-one before now file (Missing a k) (Missing b l) s t p q = missing-same (p.0 ∙ sym q.0, p.2 ∙ sym q.2)
  script-stop-one before now file (Missing a k) (BadScript b n) s t p q = absurd (read-some b a q.1.0 q.1.1 (p.0 ∙ sym q.0) p.1)
  script-stop-one before now file (BadScript a m) (Missing b l) s t p q = absurd (read-some a b p.1.0 p.1.1 (q.0 ∙ sym p.0) q.1)
  script-stop-one before now file (BadScript a m) (BadScript b n) s t p q =
      let xs : p.1.0 ≡ q.1.0 = read-same_name a b p.1.0 q.1.0 (q.0 ∙ sym p.0) p.1.1 q.1.1 in
      let line : m ≡ n = fault-one q.1.0 m n (subst (λ (text : List ℕ). IsFault text m) xs p.1.2) q.1.2 in
      λ i. BadScript ((p.0 ∙ sym q.0) i) (line i)
  script-stop-one before now file (Unread a) b s t p q = absurd s
  script-stop-one before now file NoMemory b s t p q = absurd s
  script-stop-one before now file (Refused a m u) b s t p q = absurd p
  script-stop-one before now file (BadProgram a f) b s t p q = absurd p
  script-stop-one before now file a (Unread b) s t p q = absurd t
  script-stop-one before now file a NoMemory s t p q = absurd t
  script-stop-one before now file a (Refused b n v) s t p q = absurd q
  script-stop-one before now file a (BadProgram b g) s t p q = absurd q
  script-stop-one before now file (Unnamed a m) b s t p q = absurd p
  script-stop-one before now file a (Unnamed b n) s t p q = absurd q

  script-never_both : (before now : ℕ) (file : List ℕ) (xs : List Line) (stop : Stop) → IsOfFiles stop → IsScriptFor (Some files) (Some file) xs → StopsAtScript (Some files) before now file stop → ⊥
  script-never_both before now file xs (Missing name mention) s is stops = read-some file name is.0 is.1 stops.0 stops.1
  script-never_both before now file xs (BadScript name line) s is stops =
      let same : is.0 ≡ stops.1.0 = read-same_name file name is.0 stops.1.0 stops.0 is.1 stops.1.1 in
      read-not_bad stops.1.0 xs line (subst (λ (text : List ℕ). IsReadAs text xs) same is.2) stops.1.2
  script-never_both before now file xs (Unread name) s is stops = s
  script-never_both before now file xs NoMemory s is stops = s
  script-never_both before now file xs (Refused name f size) s is stops = stops
  script-never_both before now file xs (BadProgram name fault) s is stops = stops
  script-never_both before now file xs (Unnamed other name) s is stops = stops

  module _ (one : HasOneOutcome files) where
    -- ---- a program

    program-one : (format : Format) (file a b : List ℕ) → IsProgram (Some files) format file a → IsProgram (Some files) format file b → a ≡ b
    program-one (Source short) file a b p q =
        let same = one.one_image short file p.0 q.0 p.1 q.1 p.2 q.2 p.3 q.3 in
        p.4 ∙ ap₂ image_of same.1 same.2 ∙ sym q.4
    program-one Memory file a b p q = read-one file a b p.0 q.0
    program-one Image file a b p q = read-one file a b p.0 q.0
    program-one Eeprom file a b p q = read-one file a b p.0 q.0

    listing-one : (short : Bool) (file a b : List ℕ) → IsListingFrom (Some files) short file a → IsListingFrom (Some files) short file b → a ≡ b
    listing-one short file a b p q =
        let same = one.one_image short file p.0 q.0 p.1 q.1 p.2 q.2 p.3 q.3 in
        p.4 ∙ ap₂ (λ (sources : List NamedSource) (objects : List ObjectPart). listing_of (map (λ source. source.name) sources) objects) same.0 same.2 ∙ sym q.4

    -- what has a code has an image
    image-of_code : (short : Bool) (file text : List ℕ) → IsCodeFrom (Some files) short file text → (image : List ℕ) × IsProgram (Some files) (Source short) file image
    image-of_code short file text is =
        let built = code-built short is.2 is.0 text is.4 in
        (image_of built.0 built.1, (is.0, built.0, built.1, record { gathered = is.1; built = built.2 }, refl))

    -- what has a map has an image
    image-of_map : (file text : List ℕ) → IsMapFrom (Some files) file text → (image : List ℕ) × IsProgram (Some files) (Source false) file image
    image-of_map file text is =
        let map : IsMapOf is.2 is.0 text = is.4 in
        let objects : List ObjectPart = objects_of is.0 map.children map.compiled in
        (image_of map.clock objects, (is.0, map.clock, objects, record { gathered = is.1; built = map-built is.2 is.0 text map }, refl))

    -- what has hints has an image
    image-of_hints : (file text : List ℕ) → IsHintsFrom (Some files) file text → (image : List ℕ) × IsProgram (Some files) (Source false) file image
    image-of_hints file text is =
        let hints : IsHintsOf is.2 is.0 text = is.4 in
        let objects : List ObjectPart = objects_of is.0 hints.children hints.compiled in
        (image_of hints.clock objects, (is.0, hints.clock, objects, record { gathered = is.1; built = hints-built is.2 is.0 text hints }, refl))

    program-stop-one : (before now : ℕ) (format : Format) (file : List ℕ) (a b : Stop) → IsOfFiles a → IsOfFiles b → StopsAtProgram (Some files) before now format file a → StopsAtProgram (Some files) before now format file b → a ≡ b
    program-stop-one before now (Source short) file (Missing a k) (Missing b l) s t p q = missing-same (one.one_missing before now file a b k l p q)
    program-stop-one before now (Source short) file (Missing a k) (Refused b n v) s t p q = absurd (one.missing_or_refused before now file a b k n v p q)
    program-stop-one before now (Source short) file (Refused a m u) (Missing b l) s t p q = absurd (one.missing_or_refused before now file b a l m u q p)
    program-stop-one before now (Source short) file (Refused a m u) (Refused b n v) s t p q = refused-same (one.one_refusal file a b m n u v p q)
    program-stop-one before now (Source short) file (BadProgram a f) b s t p q = absurd p
    program-stop-one before now (Source short) file a (BadProgram b g) s t p q = absurd q
    program-stop-one before now Memory file (Missing a k) (Missing b l) s t p q = missing-same (p.0 ∙ sym q.0, p.2 ∙ sym q.2)
    program-stop-one before now Memory file (Missing a k) (BadProgram b g) s t p q = absurd (read-some b a q.0 q.2 (p.0 ∙ sym q.1) p.1)
    program-stop-one before now Memory file (BadProgram a f) (Missing b l) s t p q = absurd (read-some a b p.0 p.2 (q.0 ∙ sym p.1) q.1)
    program-stop-one before now Memory file (BadProgram a f) (BadProgram b g) s t p q = faulty-same (one-fault Memory file a b f g p.0 q.0 p.1 p.2 p.3 q.1 q.2 q.3)
    program-stop-one before now Memory file (Refused a m u) b s t p q = absurd p
    program-stop-one before now Memory file a (Refused b n v) s t p q = absurd q
    program-stop-one before now Image file (Missing a k) (Missing b l) s t p q = missing-same (p.0 ∙ sym q.0, p.2 ∙ sym q.2)
    program-stop-one before now Eeprom file (Missing a k) (Missing b l) s t p q = missing-same (p.0 ∙ sym q.0, p.2 ∙ sym q.2)
    program-stop-one before now Image file (Missing a k) (BadProgram b g) s t p q = absurd (read-some b a q.0 q.2 (p.0 ∙ sym q.1) p.1)
    program-stop-one before now Eeprom file (Missing a k) (BadProgram b g) s t p q = absurd (read-some b a q.0 q.2 (p.0 ∙ sym q.1) p.1)
    program-stop-one before now Image file (BadProgram a f) (Missing b l) s t p q = absurd (read-some a b p.0 p.2 (q.0 ∙ sym p.1) q.1)
    program-stop-one before now Eeprom file (BadProgram a f) (Missing b l) s t p q = absurd (read-some a b p.0 p.2 (q.0 ∙ sym p.1) q.1)
    program-stop-one before now Image file (BadProgram a f) (BadProgram b g) s t p q = faulty-same (one-fault Image file a b f g p.0 q.0 p.1 p.2 p.3 q.1 q.2 q.3)
    program-stop-one before now Eeprom file (BadProgram a f) (BadProgram b g) s t p q = faulty-same (one-fault Eeprom file a b f g p.0 q.0 p.1 p.2 p.3 q.1 q.2 q.3)
    program-stop-one before now Image file (Refused a m u) b s t p q = absurd p
    program-stop-one before now Eeprom file (Refused a m u) b s t p q = absurd p
    program-stop-one before now Image file a (Refused b n v) s t p q = absurd q
    program-stop-one before now Eeprom file a (Refused b n v) s t p q = absurd q
    program-stop-one before now format file (Unread a) b s t p q = absurd s
    program-stop-one before now format file NoMemory b s t p q = absurd s
    program-stop-one before now format file (BadScript a m) b s t p q = absurd p
    program-stop-one before now format file a (Unread b) s t p q = absurd t
    program-stop-one before now format file a NoMemory s t p q = absurd t
    program-stop-one before now format file a (BadScript b n) s t p q = absurd q
    program-stop-one before now format file (Unnamed a m) b s t p q = absurd p
    program-stop-one before now format file a (Unnamed b n) s t p q = absurd q

    program-never_both : (before now : ℕ) (format : Format) (file xs : List ℕ) (stop : Stop) → IsOfFiles stop → IsProgram (Some files) format file xs → StopsAtProgram (Some files) before now format file stop → ⊥
    program-never_both before now (Source short) file xs (Missing name mention) s is stops = one.not_missing before now short file name mention is.0 is.1 is.2 is.3 stops
    program-never_both before now (Source short) file xs (Refused name f size) s is stops = one.not_refused short file name f size is.0 is.1 is.2 is.3 stops
    program-never_both before now (Source short) file xs (BadProgram name fault) s is stops = stops
    program-never_both before now Memory file xs (Missing name mention) s is stops = read-some file name xs is.0 stops.0 stops.1
    program-never_both before now Memory file xs (Refused name f size) s is stops = stops
    program-never_both before now Memory file xs (BadProgram name fault) s is stops = there-not_faulty Memory file xs name fault is.0 is.1 stops.0 stops.1 stops.2 stops.3
    program-never_both before now Image file xs (Missing name mention) s is stops = read-some file name xs is.0 stops.0 stops.1
    program-never_both before now Eeprom file xs (Missing name mention) s is stops = read-some file name xs is.0 stops.0 stops.1
    program-never_both before now Image file xs (Refused name f size) s is stops = stops
    program-never_both before now Eeprom file xs (Refused name f size) s is stops = stops
    program-never_both before now Image file xs (BadProgram name fault) s is stops = there-not_faulty Image file xs name fault is.0 is.1 stops.0 stops.1 stops.2 stops.3
    program-never_both before now Eeprom file xs (BadProgram name fault) s is stops = there-not_faulty Eeprom file xs name fault is.0 is.1 stops.0 stops.1 stops.2 stops.3
    program-never_both before now format file xs (Unread name) s is stops = s
    program-never_both before now format file xs NoMemory s is stops = s
    program-never_both before now format file xs (BadScript name line) s is stops = stops
    program-never_both before now format file xs (Unnamed other name) s is stops = stops

    -- ---- a program with its legend

    legend-of_one : (format : Format) (file : List ℕ) (a b : Legend) → IsLegendFrom (Some files) format file a → IsLegendFrom (Some files) format file b → a ≡ b
    legend-of_one (Source false) file a b p q = one.one_legend file a b p q
    legend-of_one (Source true) file a b p q = same-nothing a b p q
    legend-of_one Memory file a b p q = same-nothing a b p q
    legend-of_one Image file a b p q = same-nothing a b p q
    legend-of_one Eeprom file a b p q = same-nothing a b p q

    unnamed-one : (format : Format) (file : List ℕ) (name : Option (List ℕ)) (a b : Stop) → IsUnnamed (Some files) format file name a → IsUnnamed (Some files) format file name b → a ≡ b
    unnamed-one format file name (Unnamed a m) (Unnamed b n) p q =
        let text : m ≡ n = same-some name m n p.1 q.1 in
        λ i. Unnamed ((p.0 ∙ sym q.0) i) (text i)
    unnamed-one format file name (Unnamed a m) b p q = absurd q
    unnamed-one format file name a b p q = absurd p

    unnamed-program : (format : Format) (file : List ℕ) (name : Option (List ℕ)) (stop : Stop) → IsUnnamed (Some files) format file name stop → (xs : List ℕ) × IsProgram (Some files) format file xs
    unnamed-program format file name (Unnamed a m) p = p.2
    unnamed-program format file name stop p = absurd p

    unnamed-never_both : (format : Format) (file : List ℕ) (legend : Legend) (name : Option (List ℕ)) (stop : Stop) → IsLegendFrom (Some files) format file legend → HasName legend name → IsUnnamed (Some files) format file name stop → ⊥
    unnamed-never_both format file legend (Some text) (Unnamed a m) from has p =
        let same : text ≡ m = same-some (Some text) text m refl p.1 in
        let none : range_in legend text ≡ None = subst (λ (t : List ℕ). range_in legend t ≡ None) (sym same) (subst (λ (l : Legend). range_in l m ≡ None) (legend-of_one format file p.3.0 legend p.3.1 from) p.3.2) in
        none-not_some (range_in legend text) has.0 none has.1
    unnamed-never_both format file legend None (Unnamed a m) from has p = none-not_some None m refl p.1
    unnamed-never_both format file legend name stop from has p = absurd p

    viewing-stop-one : (before now : ℕ) (format : Format) (file : List ℕ) (name : Option (List ℕ)) (a b : Stop) → IsOfFiles a → IsOfFiles b → StopsAt (Some files) before now (viewing format file name) a → StopsAt (Some files) before now (viewing format file name) b → a ≡ b
    viewing-stop-one before now format file name a b s t (inl p) (inl q) = program-stop-one before now format file a b s t p q
    viewing-stop-one before now format file name a b s t (inl p) (inr q) =
        let there = unnamed-program format file name b q in
        absurd (program-never_both before now format file there.0 a s there.1 p)
    viewing-stop-one before now format file name a b s t (inr p) (inl q) =
        let there = unnamed-program format file name a p in
        absurd (program-never_both before now format file there.0 b t there.1 q)
    viewing-stop-one before now format file name a b s t (inr p) (inr q) = unnamed-one format file name a b p q

    viewing-never_both : (before now : ℕ) (format : Format) (file xs : List ℕ) (legend : Legend) (name : Option (List ℕ)) (stop : Stop) → IsOfFiles stop → Gives (Some files) (viewing format file name) (viewed xs legend) → StopsAt (Some files) before now (viewing format file name) stop → ⊥
    viewing-never_both before now format file xs legend name stop s is (inl p) = program-never_both before now format file xs stop s is.0 p
    viewing-never_both before now format file xs legend name stop s is (inr p) = unnamed-never_both format file legend name stop is.1 is.2 p

    blocks-of_one : (format : Format) (file : List ℕ) (a b : List Block) → AreBlocksFrom (Some files) format file a → AreBlocksFrom (Some files) format file b → a ≡ b
    blocks-of_one (Source false) file a b p q = one.one_blocks file a b p q
    blocks-of_one (Source true) file a b p q = p ∙ sym q
    blocks-of_one Memory file a b p q = p ∙ sym q
    blocks-of_one Image file a b p q = p ∙ sym q
    blocks-of_one Eeprom file a b p q = p ∙ sym q

    -- ---- an ask

    gives-one : (ask : Ask) (a b : Given) → Gives (Some files) ask a → Gives (Some files) ask b → a ≡ b
    gives-one (program format file) (bytes xs) (bytes ys) p q = ap bytes (program-one format file xs ys p q)
    gives-one (viewing format file name) (viewed xs k) (viewed ys l) p q =
        let text : xs ≡ ys = program-one format file xs ys p.0 q.0 in
        let legend : k ≡ l = legend-of_one format file k l p.1 q.1 in
        λ i. viewed (text i) (legend i)
    gives-one (paging format file) (paged xs k b) (paged ys l d) p q =
        let text : xs ≡ ys = program-one format file xs ys p.0 q.0 in
        let legend : k ≡ l = legend-of_one format file k l p.1 q.1 in
        let blocks : b ≡ d = blocks-of_one format file b d p.2 q.2 in
        λ i. paged (text i) (legend i) (blocks i)
    gives-one (listing short file) (bytes xs) (bytes ys) p q = ap bytes (listing-one short file xs ys p q)
    gives-one (coding short file) (bytes xs) (bytes ys) p q = ap bytes (one.one_code short file xs ys p q)
    gives-one (mapping file) (bytes xs) (bytes ys) p q = ap bytes (one.one_map file xs ys p q)
    gives-one (hinting file) (bytes xs) (bytes ys) p q = ap bytes (one.one_hints file xs ys p q)
    gives-one (script file) (lines xs) (lines ys) p q = ap lines (script-one file xs ys p q)
    gives-one (history file) (bytes xs) (bytes ys) p q = ap bytes (read-one file xs ys p q)
    gives-one (message file) (bytes xs) (bytes ys) p q = ap bytes (read-one file xs ys p.0 q.0)
    gives-one (program format file) (bytes xs) b p q = absurd q
    gives-one (program format file) a b p q = absurd p
    gives-one (viewing format file name) (viewed xs k) b p q = absurd q
    gives-one (viewing format file name) a b p q = absurd p
    gives-one (paging format file) (paged xs k d) b p q = absurd q
    gives-one (paging format file) a b p q = absurd p
    gives-one (listing short file) (bytes xs) b p q = absurd q
    gives-one (listing short file) a b p q = absurd p
    gives-one (coding short file) (bytes xs) b p q = absurd q
    gives-one (coding short file) a b p q = absurd p
    gives-one (mapping file) (bytes xs) b p q = absurd q
    gives-one (hinting file) (bytes xs) b p q = absurd q
    gives-one (mapping file) a b p q = absurd p
    gives-one (hinting file) a b p q = absurd p
    gives-one (script file) (lines xs) b p q = absurd q
    gives-one (script file) a b p q = absurd p
    gives-one (history file) (bytes xs) b p q = absurd q
    gives-one (history file) a b p q = absurd p
    gives-one (message file) (bytes xs) b p q = absurd q
    gives-one (message file) a b p q = absurd p

    stop-one : (before now : ℕ) (ask : Ask) (a b : Stop) → IsOfFiles a → IsOfFiles b → StopsAt (Some files) before now ask a → StopsAt (Some files) before now ask b → a ≡ b
    stop-one before now (program format file) a b s t p q = program-stop-one before now format file a b s t p q
    stop-one before now (viewing format file name) a b s t p q = viewing-stop-one before now format file name a b s t p q
    stop-one before now (paging format file) a b s t p q = program-stop-one before now format file a b s t p q
    stop-one before now (listing short file) a b s t p q = program-stop-one before now (Source short) file a b s t p q
    stop-one before now (coding short file) a b s t p q = program-stop-one before now (Source short) file a b s t p q
    stop-one before now (mapping file) a b s t p q = program-stop-one before now (Source false) file a b s t p q
    stop-one before now (hinting file) a b s t p q = program-stop-one before now (Source false) file a b s t p q
    stop-one before now (script file) a b s t p q = script-stop-one before now file a b s t p q
    stop-one before now (history file) a b s t p q = file-stop-one before now file a b s t p q
    stop-one before now (message file) a b s t p q = message-stop-one before now file a b s t p q

    never-both : (before now : ℕ) (ask : Ask) (given : Given) (stop : Stop) → IsOfFiles stop → Gives (Some files) ask given → StopsAt (Some files) before now ask stop → ⊥
    never-both before now (program format file) (bytes xs) stop s is stops = program-never_both before now format file xs stop s is stops
    never-both before now (listing short file) (bytes xs) stop s is stops = program-never_both before now (Source short) file (image_of is.1 is.2) stop s (is.0, is.1, is.2, is.3, refl) stops
    never-both before now (coding short file) (bytes xs) stop s is stops =
        let built = image-of_code short file xs is in
        program-never_both before now (Source short) file built.0 stop s built.1 stops
    never-both before now (mapping file) (bytes xs) stop s is stops =
        let built = image-of_map file xs is in
        program-never_both before now (Source false) file built.0 stop s built.1 stops
    never-both before now (hinting file) (bytes xs) stop s is stops =
        let built = image-of_hints file xs is in
        program-never_both before now (Source false) file built.0 stop s built.1 stops
    never-both before now (viewing format file name) (viewed xs legend) stop s is stops = viewing-never_both before now format file xs legend name stop s is stops
    never-both before now (paging format file) (paged xs legend blocks) stop s is stops = program-never_both before now format file xs stop s is.0 stops
    never-both before now (script file) (lines xs) stop s is stops = script-never_both before now file xs stop s is stops
    never-both before now (history file) (bytes xs) stop s is stops = file-never_both before now file xs stop s is stops
    never-both before now (message file) (bytes xs) stop s is stops = message-never_both before now file xs stop s is.0 is.1 stops
    never-both before now (program format file) given stop s is stops = is
    never-both before now (viewing format file name) given stop s is stops = is
    never-both before now (paging format file) given stop s is stops = is
    never-both before now (listing short file) given stop s is stops = is
    never-both before now (coding short file) given stop s is stops = is
    never-both before now (mapping file) given stop s is stops = is
    never-both before now (hinting file) given stop s is stops = is
    never-both before now (script file) given stop s is stops = is
    never-both before now (history file) given stop s is stops = is
    never-both before now (message file) given stop s is stops = is

    -- ---- all asks

    all-one : (asks : List Ask) (a b : List Given) → Give (Some files) asks a → Give (Some files) asks b → a ≡ b
    all-one [] [] [] p q = refl
    all-one (ask ∷ asks) (a ∷ more) (b ∷ others) p q = ap₂ (λ (x : Given) (xs : List Given). x ∷ xs) (gives-one ask a b p.0 q.0) (all-one asks more others p.1 q.1)
    all-one [] (a ∷ more) others p q = absurd p
    all-one [] [] (b ∷ others) p q = absurd q
    all-one (ask ∷ asks) [] others p q = absurd p
    all-one (ask ∷ asks) (a ∷ more) [] p q = absurd q

    first-one : (before now : ℕ) (asks : List Ask) (a b : Stop) → IsOfFiles a → IsOfFiles b → StopsFirst (Some files) before now asks a → StopsFirst (Some files) before now asks b → a ≡ b
    first-one before now [] a b s t p q = absurd p
    first-one before now (ask ∷ asks) a b s t p q = elim p [
      | inl here ↦ elim q [
        | inl at ↦ stop-one before now ask a b s t here at
        | inr later ↦ absurd (never-both before now ask later.0.0 a s later.0.1 here)
      ]
      | inr more ↦ elim q [
        | inl at ↦ absurd (never-both before now ask more.0.0 b t more.0.1 at)
        | inr later ↦ first-one before now asks a b s t more.1 later.1
      ]
    ]

    first-never_both : (before now : ℕ) (asks : List Ask) (given : List Given) (stop : Stop) → IsOfFiles stop → Give (Some files) asks given → StopsFirst (Some files) before now asks stop → ⊥
    first-never_both before now [] given stop s is stops = stops
    first-never_both before now (ask ∷ asks) (x ∷ given) stop s is stops = elim stops [
      | inl here ↦ never-both before now ask x stop s is.0 here
      | inr later ↦ first-never_both before now asks given stop s is.1 later.1
    ]
    first-never_both before now (ask ∷ asks) [] stop s is stops = is

    -- such a reason is no want of memory
    first-of_files : (before now : ℕ) (asks : List Ask) (stop : Stop) → IsOfFiles stop → Stops (Some files) before now asks stop → StopsFirst (Some files) before now asks stop
    first-of_files before now asks stop s stops = elim (first-or_memory (Some files) before now asks stop stops) [
      | inl memory ↦ absurd (subst IsOfFiles memory s)
      | inr first ↦ first
    ]

    pub one-reading : HasOneReading files
    one-reading = record {
      one_given = all-one;
      one_stop = λ before now asks a b s t p q. first-one before now asks a b s t (first-of_files before now asks a s p) (first-of_files before now asks b t q);
      never_both = λ before now asks given stop s is stops. first-never_both before now asks given stop s is (first-of_files before now asks stop s stops);
    }

-- ---- where a file could not be read the shelf has counted a fault, whether it tells its files or not

gather-rose : (files : Files) (before now : ℕ) (top name : List ℕ) {sources : List NamedSource} (o : Outcome) → o ≡ failed name → ComesTo (shelved files before now) top sources o → Rose before now
gather-rose files before now top name o is (outcomes.one_more other xs s calls has source rest) = gather-rose files before now top name o is rest
gather-rose files before now top name o is (outcomes.file_refused other f calls has refusal) = absurd cc
gather-rose files before now top name o is (outcomes.absent other mention calls m lacks) = absurd cc
gather-rose files before now top name o is (outcomes.not_read other calls rose) = rose
gather-rose files before now top name o is (outcomes.mention_refused other f calls has) = absurd cc
gather-rose files before now top name o is (outcomes.whole calls) = absurd cc

program-unread-rose : (files : Files) (before now : ℕ) (format : Format) (file name : List ℕ) → IsProgramUnread files before now format file name → Rose before now
program-unread-rose files before now (Source short) file name unread = gather-rose files before now file name (failed name) refl unread
program-unread-rose files before now Memory file name unread = unread.1
program-unread-rose files before now Image file name unread = unread.1
program-unread-rose files before now Eeprom file name unread = unread.1

ask-unread-rose : (files : Files) (before now : ℕ) (ask : Ask) (name : List ℕ) → StopsAt files before now ask (Unread name) → Rose before now
ask-unread-rose files before now (program format file) name unread = program-unread-rose files before now format file name unread
ask-unread-rose files before now (viewing format file other) name (inl unread) = program-unread-rose files before now format file name unread
ask-unread-rose files before now (viewing format file other) name (inr none) = absurd none
ask-unread-rose files before now (paging format file) name unread = program-unread-rose files before now format file name unread
ask-unread-rose files before now (listing short file) name unread = program-unread-rose files before now (Source short) file name unread
ask-unread-rose files before now (coding short file) name unread = program-unread-rose files before now (Source short) file name unread
ask-unread-rose files before now (mapping file) name unread = program-unread-rose files before now (Source false) file name unread
ask-unread-rose files before now (hinting file) name unread = program-unread-rose files before now (Source false) file name unread
ask-unread-rose files before now (script file) name unread = unread.1
ask-unread-rose files before now (history file) name unread = unread.1
ask-unread-rose files before now (message file) name unread = unread.1

pub unread-rose : (files : Files) (before now : ℕ) (asks : List Ask) (name : List ℕ) → StopsFirst files before now asks (Unread name) → Rose before now
unread-rose files before now [] name unread = absurd unread
unread-rose files before now (ask ∷ asks) name unread = elim unread [
  | inl at ↦ ask-unread-rose files before now ask name at
  | inr later ↦ unread-rose files before now asks name later.1
]
