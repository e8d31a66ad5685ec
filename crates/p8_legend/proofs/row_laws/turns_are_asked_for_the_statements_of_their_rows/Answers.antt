use Rattle.std.proofs.Common.{◌≡◌, sym, ap, ◌∙◌, subst, List, [], ◌∷◌, ◌++◌}
use Rattle.p8_access.specs.declared.order.Turn.{Turn}
use Rattle.p8_access.specs.Worlds.{World}
use Rattle.p8_access.specs.Histories.{Legal, since_begin}
use Rattle.p8_cog.specs.Lives.{asks}
use Rattle.p8_image.specs.declared.parts.ObjectPart.{ObjectPart}
use Rattle.p8_image.specs.Headers.{header_of}
use Rattle.p8_image.specs.Layout.{header_by, image_of}
use Rattle.p8_image.specs.Loading.{memory_of, start_of}
use Rattle.p8_image.specs.Projects.{FitsHub}
use Rattle.p8_compiled.specs.Told.{IsWorldOf}
use Rattle.p8_opt.specs.Programs.{program_of, addresses_of}
use Rattle.p8_legend.proofs.row_laws.turns_are_asked_for_the_statements_of_their_rows.Goals as goal

legal-below : (w : World) (later past : List Turn) → Legal asks w (later ++ past) → Legal asks w past
legal-below w [] past legal = legal
legal-below w (turn ∷ later) past legal = legal-below w later past legal.0

pub returns : goal.returns
returns c files proper some distinct mentioned no_ring image is table of w memory first history legal later turn past is_history origin running entered begins address asked target frame is_origin =
    let b = is.0.built in
    let clock = is.0.clock in
    let program = program_of files b.children b.compiled in
    let fits = subst (λ (os : List ObjectPart). FitsHub (header_by os)) b.objects_are b.fits in
    let World_of : List ObjectPart → Type 0 = λ os. w.memory ≡ memory_of (image_of clock os) → w.first ≡ start_of (header_of (image_of clock os)) → IsWorldOf program (addresses_of files b.compiled os) w in
    let world = subst World_of (sym b.objects_are)
    (λ m f. (c.images_have_their_lines.ensures files b.children b.compiled clock proper some distinct mentioned no_ring b.seen b.each fits w m f).world)
    (memory ∙ ap memory_of is.0.is) (first ∙ ap (λ file. start_of (header_of file)) is.0.is) in
    let here = legal-below w later (turn ∷ past) (subst (Legal asks w) is_history legal) in
    let few = c.turns_come_after_few_bytecodes.ensures program (addresses_of files b.compiled is.0.objects) w world turn past here origin running entered begins in
    c.accesses_are_asked_for_the_statements_of_their_rows.ensures files proper some distinct mentioned no_ring image is table of entered (few.0 ∙ memory) target frame is_origin (since_begin past turn.key.cog) address asked w.clocks
    (few.1 asked.0 asked.1 asked.2 asked.3 asked.6)
