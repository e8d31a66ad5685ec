use Rattle.std.proofs.Common.{◌≡◌, ◌∙◌, sym, ap, subst, ℕ, ◌+◌, nat_lt, if◌then◌else◌, List, [], slice_get, Option, Some, None}
use Rattle.p8_kinds.specs.declared.children.Children.{Children}
use Rattle.p8_access.specs.declared.kinds.Access.{Access}
use Rattle.p8_access.specs.declared.order.Turn.{Turn}
use Rattle.p8_access.specs.Courses.{Course}
use Rattle.p8_access.specs.Histories.{since_begin}
use Rattle.p8_access.specs.Timing.{Asks, played}
use Rattle.p8_bytecode.specs.declared.op.Op.{Op}
use Rattle.p8_bytecode.specs.Reading.{op_at}
use Rattle.p8_bcog.specs.declared.state.SpinState.{SpinState}
use Rattle.p8_bcog.specs.Accesses.{aligned}
use Rattle.p8_bcog.specs.Bytecodes.{bytecode, clocks, does_found}
use Rattle.p8_bcog.specs.Code.{code_of, fetched}
use Rattle.p8_image.specs.declared.parts.ObjectPart.{ObjectPart}
use Rattle.p8_image.specs.Layout.{header_by, image_of}
use Rattle.p8_image.specs.Projects.{FitsHub}
use Rattle.p8_image.proofs.Memories.{Lies}
use Rattle.p8_build.specs.Builds.{AreCompiled, objects_of}
use Rattle.p8_map.specs.Projects.{names_of}
use Rattle.p8_opt.specs.Programs.{own_sources}
use Rattle.p8_opt.proofs.Images.{code-is, lies}
use Rattle.p8_opt.proofs.Instances.{IsProject}
use Rattle.p8_opt.proofs.Own.{own-recoded}
use Rattle.p8_opt.proofs.Whole.{begins-main}
use Rattle.p8_legend.specs.Frames.{method_of, row_local, with_locals}
use Rattle.p8_legend.specs.Framing.{IsOn}
use Rattle.p8_legend.specs.Legends.{local_at}
use Rattle.p8_legend.specs.Rows.{rows_from, codes_of}
use Rattle.p8_legend.proofs.Asked.{one-more}
use Rattle.p8_legend.proofs.FrameAccesses.{asked-on, found-stays}
use Rattle.p8_legend.proofs.LocalNames.{begun-memory, tells-local, turn-asks, what-names}
use Rattle.p8_legend.proofs.OneLegend.{legend-built}
use Rattle.p8_legend.proofs.RowLines.{one-rows}
use Rattle.p8_legend.proofs.local_laws.locals_are_named_by_their_frames.Goals as goal

pub returns : goal.returns
returns c = λ sources files proper some distinct mentioned no_ring image is legend of table its w memory first history legal later turn past is_history origin running entered begins address asked target frame is_origin told.
    let b = is.0.built in
    let turns : List Turn = since_begin past turn.key.cog in
    let named = c.turns_are_asked_for_the_statements_of_their_rows.ensures files proper some distinct mentioned no_ring image is table its w memory first history legal later turn past is_history origin running entered begins address asked target frame is_origin in
    let objects : List ObjectPart = objects_of files of.children of.compiled in
    let built = legend-built sources files legend of in
    let one = c.one_build.ensures.built files distinct no_ring of.clock is.0.clock objects is.0.objects built b in
    let bytes : image_of of.clock objects ≡ image.file = (λ i. image_of (one.0 i) (one.1 i)) ∙ sym is.0.is in
    let same : its.children ≡ of.children = c.one_for_each_project.ensures files distinct no_ring its.children of.children its.seen of.seen in
    let each : AreCompiled files of.children its.compiled = subst (λ (cs : List Children). AreCompiled files cs its.compiled) same its.each in
    let rows : table.rows ≡ rows_from 0 16 objects (codes_of of.compiled) =
    its.rows ∙ ap (λ (cs : List Children). rows_from 0 16 (objects_of files cs its.compiled) (codes_of its.compiled)) same ∙ one-rows files of.children its.compiled of.compiled of.seen.one_each each of.each in
    let apart = c.table_tells_each_address_once.ensures files distinct no_ring of.clock objects table built its in
    let shown = names_of sources files of.children of.compiled in
    let tells : local_at legend.locals (Some address) ≡ row_local image.file (slice_get shown named.row.file) named.row =
    tells-local image.file shown table.rows legend.locals apart (of.locals ∙ (λ i. with_locals ([], []) (bytes i) shown (sym rows i))) address named.row named.is_at in
    let has = what-names (method_of (slice_get shown named.row.file) named.row.method) (op_at image.file named.row.address) (λ none. told (tells ∙ none)) in
    let own : List ObjectPart = objects_of files b.children b.compiled in
    let fits : FitsHub (header_by own) = subst (λ (os : List ObjectPart). FitsHub (header_by os)) b.objects_are b.fits in
    let project : IsProject files b.children b.compiled = record { changed = own_sources files; compiled = own-recoded files b.children b.compiled proper b.each; mentioned = mentioned; seen = b.seen.one_each; children_are = b.seen; distinct = distinct } in
    let main = begins-main files b.children b.compiled project some in
    let hub : Lies (image_of is.0.clock own) = lies is.0.clock own (c.image_loads.ensures.image is.0.clock own main fits) (c.image_loads.ensures.header is.0.clock own main fits) fits in
    let file : image.file ≡ image_of is.0.clock own = is.0.is ∙ ap (image_of is.0.clock) b.objects_are in
    let code : code_of entered.memory ≡ image.file = ap code_of (begun-memory w past turn.key.cog entered begins ∙ memory) ∙ code-is image.file (subst Lies (sym file) hub) in
    let s : SpinState = asked.1 in
    let at : op_at image.file address ≡ Some (has.op, has.after) = ap (op_at image.file) (sym named.begins) ∙ has.is_read in
    let fetches : fetched entered.memory s.at ≡ (if nat_lt address 16 then None else Some (has.op, has.after)) =
    ap (fetched entered.memory) asked.8 ∙ ap (λ (xs : List ℕ). if nat_lt address 16 then None else op_at xs address) code ∙ ap (λ (o : Option (Op × ℕ)). if nat_lt address 16 then None else o) at in
    let course : bytecode entered.memory entered.cog s ≡ does_found entered.memory entered.cog (if nat_lt address 16 then None else Some (has.op, has.after)) s = ap (λ (o : Option (Op × ℕ)). does_found entered.memory entered.cog o s) fetches in
    let stays = found-stays entered.memory entered.cog has.op has.after has.offset s (nat_lt address 16) has.in_frame in
    let start : ℕ = asked.2 + clocks entered.memory s in
    let plays : played entered.cog start (does_found entered.memory entered.cog (if nat_lt address 16 then None else Some (has.op, has.after)) s) asked.3 ≡ Asks asked.4 asked.5 =
    ap (λ (d : Course SpinState). played entered.cog start d asked.3) (sym course) ∙ sym (one-more entered turns asked.0 s asked.2 asked.3 asked.6) ∙ asked.7 in
    let on = asked-on entered.cog start _ s.frame has.offset stays asked.3 asked.4 asked.5 plays in
    let access : turn.access ≡ asked.5 = turn-asks w history later past turn legal is_history origin running entered begins asked.4 asked.5 (asked.0 + 1, asked.7) in
    record {
      row = named.row;
      is_at = named.is_at;
      begins = named.begins;
      method = has.method;
      is_method = has.is_method;
      offset = has.offset;
      named = tells ∙ has.named;
      width = stays.width;
      on = subst (λ (a : Access). IsOn a stays.width (aligned stays.width (s.frame + has.offset))) (sym access) on;
    }
