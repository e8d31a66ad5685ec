use Rattle.std.proofs.Common.{◌≡◌, refl, sym, ap, ◌∙◌, subst, arith, ℕ, suc, ◌+◌, ◌<◌, List, [], map}
use Rattle.std.specs.Prelude.{Contains}
use Rattle.p8_tree.specs.declared.places.Place.{Place}
use Rattle.p8_access.specs.Lives.{Entered}
use Rattle.p8_access.specs.Worlds.{World}
use Rattle.p8_access.specs.Replays.{answer_of}
use Rattle.p8_access.specs.Timing.{Asks}
use Rattle.p8_bcog.specs.Counters.{IsAskedFrom}
use Rattle.p8_bcog.specs.Replay.{lived}
use Rattle.p8_image.specs.declared.parts.ObjectPart.{ObjectPart}
use Rattle.p8_image.specs.Headers.{header_of}
use Rattle.p8_image.specs.Layout.{header_by, image_of}
use Rattle.p8_image.specs.Loading.{memory_of, start_of}
use Rattle.p8_image.specs.Projects.{FitsHub}
use Rattle.p8_build.specs.Builds.{objects_of}
use Rattle.p8_meaning.specs.Lives.{IsMethodOrigin, says_for}
use Rattle.p8_opt.specs.Lines.{lines_of}
use Rattle.p8_opt.specs.Programs.{program_of, addresses_of}
use Rattle.p8_legend.specs.Naming.{NamesStatement}
use Rattle.p8_legend.proofs.RowLines.{row-names}
use Rattle.p8_legend.proofs.row_laws.accesses_are_asked_for_the_statements_of_their_rows.Goals as goal

pub returns : goal.returns
returns c files proper some distinct mentioned no_ring image is table of entered memory target frame origin turns address asked bound less =
    let b = is.0.built in
    let clock = is.0.clock in
    let program = program_of files b.children b.compiled in
    let all : List ObjectPart = objects_of files b.children b.compiled in
    let first : List ℕ = memory_of (image_of clock all) in
    let with_memory : List ℕ → Entered = λ m. record { memory = m; origin = entered.origin; cog = entered.cog; begin = entered.begin } in
    let w : World = record { memory = first; first = start_of (header_of (image_of clock all)); script = []; clocks = 0; turns = 0 } in
    let fits = subst (λ (os : List ObjectPart). FitsHub (header_by os)) b.objects_are b.fits in
    let world = c.images_have_their_lines.ensures files b.children b.compiled clock proper some distinct mentioned no_ring b.seen b.each fits w refl refl in
    let apart = c.table_tells_each_address_once.ensures files distinct no_ring clock is.0.objects table b of in
    let Names : List ObjectPart → Type 0 = λ os. NamesStatement table.rows address (says_for program (addresses_of files b.compiled os) target frame entered.cog (map answer_of turns) bound) in
    let here : IsMethodOrigin program (addresses_of files b.compiled all) entered.origin target frame → (a : IsAskedFrom (with_memory first) turns address) → a.0 < bound → Names all =
    λ o a lt.
    let more : a.0 + 1 ≡ suc a.0 = omega arith in
    let next : lived (suc a.0) (with_memory first) turns ≡ Asks a.4 a.5 = ap (λ n. lived n (with_memory first) turns) (sym more) ∙ a.7 in
    let found = c.accesses_are_asked_for_their_statements.ensures program (addresses_of files b.compiled all) (with_memory first) (world.placed entered.cog) target frame o turns a.0 a.1 a.2 a.3 a.4 a.5 a.6 next bound lt in
    let has : Contains (lines_of all b.compiled) (address, found.0) =
    subst (λ (n : ℕ). Contains (lines_of all b.compiled) (n, found.0)) a.8 (subst (λ (lines : List (ℕ × Place)). Contains lines (a.1.at, found.0)) (world.tables entered.cog) found.1) in
    row-names files (c.one_for_each_project.ensures files distinct no_ring) clock is.0.objects table b of apart address found.0 _ has found.2
    in
    let in_objects = subst (λ (os : List ObjectPart). entered.memory ≡ memory_of (image_of clock os) → IsMethodOrigin program (addresses_of files b.compiled os) entered.origin target frame → Names os) (sym b.objects_are)
    (λ m o. subst (λ (x : List ℕ). (a : IsAskedFrom (with_memory x) turns address) → a.0 < bound → Names all) (sym m) (here o) asked less) in
    in_objects (memory ∙ ap memory_of is.0.is) origin
