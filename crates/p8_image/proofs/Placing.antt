-- The header of a project's image, by numbers that are kept.
use Rattle.std.proofs.Common.{◌≡◌, ◌≤◌, ◌<◌, ℕ, ◌+◌, ◌∙◌, min, List, [], ◌∷◌, ◌++◌, length, map, get_or, slice_index, refl, ap, sym, subst, arith}
use Rattle.p8_image.specs.Keeping.{kept}
use Rattle.p8_image.specs.Layout.{codes_offset, variables_base, variables_within, variables_of, first_frame, frame_size, header_by, header_bytes, bases_of, objects_bytes, bytes_with}
use Rattle.p8_image.specs.declared.clocks.Clock.{Clock}
use Rattle.p8_image.specs.declared.header.Header.{Header}
use Rattle.p8_image.specs.declared.parts.ObjectPart.{ObjectPart}
use Rattle.p8_image.proofs.Keeping.{kept_fits, kept_small, kept_most, kept_add, kept_sum, kept_least}
use Rattle.p8_image.proofs.Words.{kept_at, kept_same, same_objects}

abbrev pub header : (pbase vbase dbase pcurr dcurr : ℕ) → Header
header pbase vbase dbase pcurr dcurr = record { pbase = pbase; vbase = vbase; dbase = dbase; pcurr = pcurr; dcurr = dcurr }

-- what was found of a project: its top object, and what is kept of where its variables stand, their bytes, and its first frame
pub record Found (objects : List ObjectPart) (top : ObjectPart) (vbase variables frame : ℕ) : Type 0 where
  pub some : 1 ≤ length objects
  pub is_first : top ≡ get_or objects 0 top
  pub is_vbase : vbase ≡ kept (variables_base objects)
  pub is_variables : variables ≡ slice_index (map kept (variables_of objects)) 0
  pub is_frame : frame ≡ frame_size top.methods

pub header_of_top : (objects : List ObjectPart) (top : ObjectPart) → 1 ≤ length objects → top ≡ get_or objects 0 top
    → header_by objects ≡ header 16 (variables_base objects) (first_frame objects) (16 + codes_offset top) (first_frame objects + 4 + frame_size top.methods)
header_of_top [] top some is = absurd (omega arith)
header_of_top (first ∷ objects) top some is =
    ap (λ (o : ObjectPart). header 16 (variables_base (first ∷ objects)) (first_frame (first ∷ objects)) (16 + codes_offset o) (first_frame (first ∷ objects) + 4 + frame_size o.methods)) (sym is)

pub header_of_none : (objects : List ObjectPart) → length objects ≡ 0 → (header_by objects).dcurr ≡ first_frame objects + 4 + 0
unfolding variables_within
header_of_none [] none = refl
header_of_none (first ∷ objects) none = absurd (omega arith)

code_within : (objects : List ObjectPart) (top : ObjectPart) → 1 ≤ length objects → top ≡ get_or objects 0 top → codes_offset top ≤ variables_base objects
code_within [] top some is = absurd (omega arith)
code_within (first ∷ objects) top some is =
    let here : codes_offset first ≤ variables_base (first ∷ objects) = omega arith in
    let P : ObjectPart → Type 0 = λ o. codes_offset o ≤ variables_base (first ∷ objects) in
    subst P (sym is) here

pub too_large : {objects : List ObjectPart} {top : ObjectPart} {vbase variables frame : ℕ} → Found objects top vbase variables frame
    → 32768 < vbase + variables + 8 + 4 + frame → 32768 < (header_by objects).dcurr
too_large {objects} {top} {vbase} {variables} {frame} found h =
    let whole = header_of_top objects top found.some found.is_first in
    let a = kept_most (variables_base objects) in
    let b = kept_most (slice_index (variables_of objects) 0) in
    let v : vbase ≡ kept (variables_base objects) = found.is_vbase in
    let n : variables ≡ kept (slice_index (variables_of objects) 0) = found.is_variables ∙ kept_at (variables_of objects) 0 in
    let f : frame ≡ frame_size top.methods = found.is_frame in
    let P : ℕ → Type 0 = λ dcurr. 32768 < dcurr in
    subst P (sym (ap (λ (header : Header). header.dcurr) whole)) (omega arith)

-- where the first frame ends, by what is kept of it
pub end_is : (objects : List ObjectPart) (vbase variables frame size end first : ℕ) → vbase ≡ kept (variables_base objects) → variables ≡ slice_index (map kept (variables_of objects)) 0
    → frame ≡ kept (vbase + variables) → size ≡ first → end ≡ kept (frame + (12 + size)) → (header_by objects).dcurr ≡ first_frame objects + 4 + first → min end 2147483648 ≡ min (header_by objects).dcurr 2147483648
end_is objects vbase variables frame size end first v n f s e whole =
    let sum : frame ≡ kept (variables_base objects + slice_index (variables_of objects) 0) = f ∙ kept_sum vbase variables (variables_base objects) (slice_index (variables_of objects) 0) v (n ∙ kept_at (variables_of objects) 0) in
    let all : end ≡ kept (variables_base objects + slice_index (variables_of objects) 0 + (12 + first)) =
    e ∙ ap (λ (k : ℕ). kept (frame + (12 + k))) s ∙ ap (λ (k : ℕ). kept (k + (12 + first))) sum ∙ kept_add (variables_base objects + slice_index (variables_of objects) 0) (12 + first) in
    let is : variables_base objects + slice_index (variables_of objects) 0 + (12 + first) ≡ (header_by objects).dcurr = omega (arith, whole) in
    ap (λ (k : ℕ). min k 2147483648) (all ∙ ap kept is) ∙ kept_least (header_by objects).dcurr

pub record Exact (objects : List ObjectPart) (vbase variables frame codes : ℕ) : Type 0 where
  pub header : header_by objects ≡ header 16 vbase (vbase + variables + 8) (16 + codes) (vbase + variables + 8 + 4 + frame)
  pub fits : (header_by objects).dcurr ≤ 32768
  pub code : 16 + codes < 65536

pub exact : {objects : List ObjectPart} {top : ObjectPart} {vbase variables frame : ℕ} (codes : ℕ) → Found objects top vbase variables frame
    → codes ≡ kept (codes_offset top) → vbase + variables + 8 + 4 + frame ≤ 32768 → Exact objects vbase variables frame codes
exact {objects} {top} {vbase} {variables} {frame} codes found k h =
    let whole = header_of_top objects top found.some found.is_first in
    let v : kept (variables_base objects) ≡ variables_base objects = kept_fits (variables_base objects) (omega (arith, sym found.is_vbase)) in
    let n0 : variables ≡ kept (slice_index (variables_of objects) 0) = found.is_variables ∙ kept_at (variables_of objects) 0 in
    let n : kept (slice_index (variables_of objects) 0) ≡ slice_index (variables_of objects) 0 = kept_fits (slice_index (variables_of objects) 0) (omega arith) in
    let within = code_within objects top found.some found.is_first in
    let vb : vbase ≡ variables_base objects = found.is_vbase ∙ v in
    let vs : variables ≡ slice_index (variables_of objects) 0 = n0 ∙ n in
    let cs : codes ≡ codes_offset top = k ∙ kept_small (codes_offset top) (omega arith) in
    let f : frame ≡ frame_size top.methods = found.is_frame in
    let dbase : first_frame objects ≡ vbase + variables + 8 = omega arith in
    let dcurr : first_frame objects + 4 + frame_size top.methods ≡ vbase + variables + 8 + 4 + frame = omega arith in
    let all : header_by objects ≡ header 16 vbase (vbase + variables + 8) (16 + codes) (vbase + variables + 8 + 4 + frame) =
    whole
    ∙ ap (λ (n : ℕ). header 16 n (first_frame objects) (16 + codes_offset top) (first_frame objects + 4 + frame_size top.methods)) (sym vb)
    ∙ ap (λ (n : ℕ). header 16 vbase n (16 + codes_offset top) (first_frame objects + 4 + frame_size top.methods)) dbase
    ∙ ap (λ (n : ℕ). header 16 vbase (vbase + variables + 8) (16 + n) (first_frame objects + 4 + frame_size top.methods)) (sym cs)
    ∙ ap (λ (n : ℕ). header 16 vbase (vbase + variables + 8) (16 + codes) n) dcurr in
    let P : ℕ → Type 0 = λ dcurr. dcurr ≤ 32768 in
    record {
      header = all;
      fits = subst P (sym (ap (λ (header : Header). header.dcurr) all)) h;
      code = omega arith;
    }

-- an image with the checksum 0, by what is kept
pub unfinished_is : (clock : Clock) (objects : List ObjectPart) (header : Header) (bases sizes out0 out1 out2 : List ℕ) → header ≡ header_by objects
    → bases ≡ map kept (bases_of objects) → sizes ≡ map kept (variables_of objects) → out0 ≡ [] → out1 ≡ out0 ++ header_bytes clock 0 header
    → out2 ≡ out1 ++ objects_bytes bases sizes 16 objects → out2 ≡ bytes_with clock objects 0
unfinished_is clock objects header bases sizes out0 out1 out2 h b s e0 e1 e2 =
    let front : out1 ≡ header_bytes clock 0 (header_by objects) =
    e1 ∙ ap (λ (out : List ℕ). out ++ header_bytes clock 0 header) e0 ∙ ap (header_bytes clock 0) h in
    let back : objects_bytes bases sizes 16 objects ≡ objects_bytes (bases_of objects) (variables_of objects) 16 objects =
    ap (λ (xs : List ℕ). objects_bytes xs sizes 16 objects) b
    ∙ ap (λ (xs : List ℕ). objects_bytes (map kept (bases_of objects)) xs 16 objects) s
    ∙ same_objects (map kept (bases_of objects)) (bases_of objects) (map kept (variables_of objects)) (variables_of objects)
    (kept_same (bases_of objects)) (kept_same (variables_of objects)) 16 16 refl objects in
    e2 ∙ ap (λ (out : List ℕ). out ++ objects_bytes bases sizes 16 objects) front
    ∙ ap (λ (out : List ℕ). header_bytes clock 0 (header_by objects) ++ out) back
