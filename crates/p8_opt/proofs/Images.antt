-- The memory that an image starts with.
use Rattle.std.proofs.Common.{◌≡◌, ℕ, ◌+◌, ◌*◌, ◌%◌, min, List, [], ◌∷◌, ◌++◌, length, take, drop, slice_index, append_assoc, refl, sym, ap, ◌∙◌, arith}
use Rattle.std.proofs.lemmas.List.{take-append-le, take_all}
use Rattle.p8_bcog.specs.Code.{byte_at, word_at, code_end, code_of}
use Rattle.p8_image.specs.declared.clocks.Clock.{Clock}
use Rattle.p8_image.specs.declared.parts.ObjectPart.{ObjectPart}
use Rattle.p8_image.specs.Headers.{header_of}
use Rattle.p8_image.specs.Layout.{header_by, image_of, variables_base, first_frame}
use Rattle.p8_image.specs.Loading.{IsImage, memory_of}
use Rattle.p8_image.specs.Places.{Stands}
use Rattle.p8_image.proofs.Memories.{Lies, after, filling, memory-is, byte-is, ends-at, places-of}
use Rattle.p8_image.specs.Projects.{FitsHub}

-- ---- the code in a memory

pub code-is : (bytes : List ℕ) → Lies bytes → code_of (memory_of bytes) ≡ bytes
code-is bytes lies =
    let eight : byte_at (memory_of bytes) 8 ≡ slice_index bytes 8 = byte-is bytes 8 (omega (arith, lies.low)) in
    let nine : byte_at (memory_of bytes) (8 + 1) ≡ slice_index bytes 9 = byte-is bytes 9 (omega (arith, lies.low)) in
    let word : word_at (memory_of bytes) 8 ≡ length bytes = ap (λ a. a + 256 * byte_at (memory_of bytes) (8 + 1)) eight ∙ ap (λ b. slice_index bytes 8 + 256 * b) nine ∙ lies.ends in
    let end : code_end (memory_of bytes) ≡ length bytes = ap (λ w. min w 32768) word ∙ omega (arith, lies.below, lies.high) in
    ap (λ n. take n (memory_of bytes)) end ∙ ap (take (length bytes)) (memory-is bytes)
    ∙ take-append-le (length bytes) bytes (after bytes ++ filling bytes) (omega arith) ∙ take_all (length bytes) bytes (omega arith)

-- the bytes after a place where some stand
pub drop-is : (bytes : List ℕ) (p : ℕ) (xs : List ℕ) (s : Stands bytes p xs) → drop p bytes ≡ xs ++ s.after
drop-is bytes p xs s =
    ap (drop p) (s.is ∙ append_assoc s.before xs s.after) ∙ ap (λ q. drop q (s.before ++ (xs ++ s.after))) (sym s.there) ∙ drop-front s.before (xs ++ s.after)
  where
    drop-front : (xs ys : List ℕ) → drop (length xs) (xs ++ ys) ≡ ys
    drop-front [] ys = refl
    drop-front (x ∷ xs) ys = drop-front xs ys

-- the image of a project that fits lies so
pub lies : (clock : Clock) (objects : List ObjectPart) → IsImage (image_of clock objects) → header_of (image_of clock objects) ≡ header_by objects → FitsHub (header_by objects) → Lies (image_of clock objects)
lies clock [] image header fits =
    let ends = ends-at (image_of clock []) image in
    let vbase : (header_of (image_of clock [])).vbase ≡ 16 = ap (λ h. h.vbase) header in
    let dbase : (header_of (image_of clock [])).dbase ≡ 24 = ap (λ h. h.dbase) header in
    record { low = omega (arith, ends, vbase); below = omega (arith, ends, vbase, dbase); high = omega (arith, dbase); ends = ends }
lies clock (top ∷ objects) image header fits =
    let ends = ends-at (image_of clock (top ∷ objects)) image in
    let vbase : (header_of (image_of clock (top ∷ objects))).vbase ≡ variables_base (top ∷ objects) = ap (λ h. h.vbase) header in
    let dbase : (header_of (image_of clock (top ∷ objects))).dbase ≡ first_frame (top ∷ objects) = ap (λ h. h.dbase) header in
    record { low = omega (arith, ends, vbase); below = omega (arith, ends, vbase, dbase); high = omega (arith, dbase, fits); ends = ends }

-- its first frame begins on a long
pub frame-whole : (bytes : List ℕ) → IsImage bytes → (header_of bytes).dbase % 4 ≡ 0
frame-whole bytes is = (places-of bytes is).dbase_multiple
