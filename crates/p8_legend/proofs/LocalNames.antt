-- The name of a local that a legend tells of an address is what the row of the address says; and what is known of a turn that is asked from there.
use Rattle.std.proofs.Common.{◌≡◌, refl, sym, ap, ap₂, ◌∙◌, subst, arith, ℕ, suc, Bool, true, false, if◌then◌else◌, List, [], ◌∷◌, ◌++◌, append_assoc, slice_get, Option, Some, None}
use Rattle.std.specs.Prelude.{map, option_map}
use Rattle.std.proofs.lemmas.List.{append-nil}
use Rattle.std.proofs.lemmas.Option.{same_Some, slice_get-map}
use Rattle.p8_access.specs.declared.kinds.Access.{Access}
use Rattle.p8_access.specs.declared.kinds.Origin.{Origin}
use Rattle.p8_access.specs.declared.kinds.Origin.TheVariants.{Pasm, Spin}
use Rattle.p8_access.specs.declared.order.Turn.{Turn}
use Rattle.p8_access.specs.declared.states.CogState.{CogState}
use Rattle.p8_access.specs.declared.states.CogState.TheVariants.{Running}
use Rattle.p8_access.specs.Hub.{cog_state, origin_of}
use Rattle.p8_access.specs.Histories.{Legal, IsNextIn, begins_life, begun, begun_at, since_begin}
use Rattle.p8_access.specs.Lives.{Begun, Entered, SpinBegun}
use Rattle.p8_access.specs.Worlds.{World}
use Rattle.p8_bytecode.specs.declared.op.Op.{Op}
use Rattle.p8_cog.specs.Laws.{one-asked}
use Rattle.p8_cog.specs.Lives.{asks}
use Rattle.p8_map.specs.declared.names.FileNames.{FileNames}
use Rattle.p8_map.specs.declared.names.MethodNames.{MethodNames}
use Rattle.p8_legend.specs.declared.ranges.Range.{Range}
use Rattle.p8_legend.specs.declared.ranges.Ranges.{Ranges}
use Rattle.p8_legend.specs.declared.table.LineRow.{LineRow}
use Rattle.p8_legend.specs.Frames.{frame_offset, frame_text, name_in, offset_in, row_local, with_locals}
use Rattle.p8_legend.specs.Legends.{found_local, local_at}
use Rattle.p8_legend.specs.ProjectLegends.{Named}
use Rattle.p8_legend.specs.Ranges.{found_at, last_end, text_or}
use Rattle.p8_legend.specs.Rows.{AreApart, IsRowAt}
use Rattle.p8_legend.proofs.Telling.{Behind, end-is, fits, found-row, range_of, rest-apart}

-- ---- what is told of an address

abbrev local_for : (image : List ℕ) → List FileNames → LineRow → List ℕ
local_for image files row = row_local image (slice_get files row.file) row

all-locals : (image : List ℕ) (files : List FileNames) (ranges : List Range) (texts : List (List ℕ)) (rows : List LineRow) → AreApart rows → Behind (last_end 0 ranges) rows
    → with_locals (ranges, texts) image files rows ≡ (ranges ++ map range_of rows, texts ++ map (local_for image files) rows)
all-locals image files ranges texts [] apart behind = ap₂ (λ (rs : List Range) (ts : List (List ℕ)). (rs, ts)) (sym (append-nil ranges)) (sym (append-nil texts))
all-locals image files ranges texts (row ∷ rows) apart behind =
    let r = range_of row in
    let text = local_for image files row in
    let more = ranges ++ r ∷ [] in
    ap (λ (n : Named). with_locals n image files rows) (fits ranges texts r text (behind 0 row refl) (apart.some 0 row refl))
    ∙ all-locals image files more (texts ++ text ∷ []) rows (rest-apart row rows apart) (λ j b at. let after = apart.behind 0 (suc j) row b (omega arith) refl at in let end = end-is 0 ranges r in omega (arith, after, end))
    ∙ ap₂ (λ (rs : List Range) (ts : List (List ℕ)). (rs, ts)) (append_assoc ranges (r ∷ []) (map range_of rows)) (append_assoc texts (text ∷ []) (map (local_for image files) rows))

pub tells-local : (image : List ℕ) (files : List FileNames) (rows : List LineRow) (locals : Ranges) → AreApart rows → ◌≡◌ {A = Named} (locals.ranges, locals.texts) (with_locals ([], []) image files rows)
    → (address : ℕ) (row : LineRow) → IsRowAt rows address row → local_at locals (Some address) ≡ row_local image (slice_get files row.file) row
tells-local image files rows locals apart is address row h =
    let whole : ◌≡◌ {A = Named} (locals.ranges, locals.texts) (map range_of rows, map (local_for image files) rows) = is ∙ all-locals image files [] [] rows apart (λ j b at. omega arith) in
    let ranges : locals.ranges ≡ map range_of rows = ap (λ (n : Named). n.0) whole in
    let texts : locals.texts ≡ map (local_for image files) rows = ap (λ (n : Named). n.1) whole in
    let found = found-row rows address apart h.number row h.stands h.begins h.ends in
    let at : slice_get locals.texts found.0.number ≡ Some (local_for image files row) =
    ap₂ (λ (ts : List (List ℕ)) (n : ℕ). slice_get ts n) texts found.2 ∙ slice_get-map (local_for image files) rows h.number ∙ ap (option_map (local_for image files)) h.stands in
    ap (found_local locals) (ap (λ (rs : List Range). found_at rs address) ranges ∙ found.1) ∙ ap text_or at

-- ---- a name that isn't empty

pub record HasName (m : Option MethodNames) (read : Option (Op × ℕ)) : Type 0 where
  pub method : MethodNames
  pub is_method : m ≡ Some method
  pub op : Op
  pub after : ℕ
  pub is_read : read ≡ Some (op, after)
  pub offset : ℕ
  pub in_frame : frame_offset op ≡ Some offset
  pub named : name_in m (offset_in read) ≡ frame_text method offset

by-offset : (m : MethodNames) (op : Op) (after : ℕ) (o : Option ℕ) → frame_offset op ≡ o → (name_in (Some m) o ≡ [] → ⊥) → HasName (Some m) (Some (op, after))
by-offset m op after None is some = absurd (some refl)
by-offset m op after (Some offset) is some = record {
  method = m;
  is_method = refl;
  op = op;
  after = after;
  is_read = refl;
  offset = offset;
  in_frame = is;
  named = ap (name_in (Some m)) is;
}

pub what-names : (m : Option MethodNames) (read : Option (Op × ℕ)) → (name_in m (offset_in read) ≡ [] → ⊥) → HasName m read
what-names None read some = absurd (some refl)
what-names (Some m) None some = absurd (some refl)
what-names (Some m) (Some (op, after)) some = by-offset m op after (frame_offset op) refl some

-- ---- a turn of a life

abbrev memory_in : Option Begun → List ℕ
memory_in (Some (SpinBegun entered)) = entered.memory
memory_in _ = []

at-begin : (w : World) (n clock : ℕ) (origin : Origin) (entered : Entered) → Some (begun_at w n clock origin) ≡ Some (SpinBegun entered) → entered.memory ≡ w.memory
at-begin w n clock (Pasm code par) entered is = absurd (cc)
at-begin w n clock (Spin entry pbase vbase frame size) entered is = sym (ap memory_in is)

by-begin : (w : World) (past : List Turn) (n clock : ℕ) (entered : Entered) (b : Bool) → (begun w past n ≡ Some (SpinBegun entered) → entered.memory ≡ w.memory)
    → (if b then Some (begun_at w n clock (origin_of (cog_state w past n))) else begun w past n) ≡ Some (SpinBegun entered) → entered.memory ≡ w.memory
by-begin w past n clock entered true before is = at-begin w n clock (origin_of (cog_state w past n)) entered is
by-begin w past n clock entered false before is = before is

-- a life of Spin has the memory with which the world begins
pub begun-memory : (w : World) (past : List Turn) (n : ℕ) (entered : Entered) → begun w past n ≡ Some (SpinBegun entered) → entered.memory ≡ w.memory
begun-memory w [] n entered is = absurd (cc)
begun-memory w (turn ∷ past) n entered is = by-begin w past n turn.key.clock entered (begins_life n turn) (begun-memory w past n entered) is

legal-below : (w : World) (later past : List Turn) → Legal asks w (later ++ past) → Legal asks w past
legal-below w [] past legal = legal
legal-below w (turn ∷ later) past legal = legal-below w later past legal.0

-- a turn of a running cog is what its life asks
pub turn-asks : (w : World) (history later past : List Turn) (turn : Turn) → Legal asks w history → history ≡ later ++ turn ∷ past → (origin : Origin) → cog_state w past turn.key.cog ≡ Running origin
    → (entered : Entered) → begun w past turn.key.cog ≡ Some (SpinBegun entered) → (clock : ℕ) (access : Access) → asks (SpinBegun entered) (since_begin past turn.key.cog) clock access → turn.access ≡ access
turn-asks w history later past turn legal is origin running entered begins clock access asked =
    let here = legal-below w later (turn ∷ past) (subst (Legal asks w) is legal) in
    let next : IsNextIn asks w past turn.key.cog (Running origin) turn.key.clock turn.access = subst (λ (s : CogState). IsNextIn asks w past turn.key.cog s turn.key.clock turn.access) running here.1.next.next in
    let same : next.life ≡ SpinBegun entered = same_Some next.life (SpinBegun entered) (sym next.began ∙ begins) in
    let own = subst (λ (b : Begun). asks b (since_begin past turn.key.cog) next.earliest turn.access) same next.asks in
    (one-asked (SpinBegun entered) (since_begin past turn.key.cog) next.earliest clock turn.access access own asked).1
