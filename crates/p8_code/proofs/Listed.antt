-- Without what the listing doesn't have, the text is the listing.
use Rattle.std.proofs.Common.{◌≡◌, ◌∙◌, ap, ap₂, refl, arith, ℕ, zero, suc, ◌+◌, ◌*◌, ◌<◌, List, [], ◌∷◌, ◌++◌, Option, Some, length, map, append-nil, append_assoc, take, drop}
use Rattle.std.specs.Prelude.{◌-◌, slice_index, codes}
use Rattle.std.specs.Fmt.{decimal}
use Rattle.std.specs.List.{flat_map}
use Rattle.p8_instr.specs.Instructions.{long_text}
use Rattle.p8_instr.specs.Numerals.{hex}
use Rattle.p8_kinds.specs.declared.name_kinds.Label.{Label}
use Rattle.p8_dat.specs.declared.assembling.LineBegin.{LineBegin}
use Rattle.p8_gen.specs.declared.writer.Line.{Line}
use Rattle.p8_stmt.specs.declared.code.MethodCode.{MethodCode}
use Rattle.p8_image.specs.declared.parts.MethodPart.{MethodPart}
use Rattle.p8_image.specs.declared.parts.ObjectPart.{ObjectPart}
use Rattle.p8_image.specs.Layout.{codes_offset, dat_offset, linked, size_of, text_offsets}
use Rattle.p8_image.specs.Listing as plain
use Rattle.p8_image.specs.Listing.{address_after, longs_of, pieces_of, piece_lines, object_line}
use Rattle.p8_map.specs.declared.names.MethodNames.{MethodNames}
use Rattle.p8_map.specs.declared.names.FileNames.{FileNames}
use Rattle.p8_code.specs.Operations.{Scope}
use Rattle.p8_code.specs.Laws.{HaveObjects}
use Rattle.p8_code.specs.Listing.{FileCode, dat_lines, long_line, long_lines, longs_ahead, method_lines, methods_lines, object_lines, objects_lines, op_lines, scope_at, statement_line}

-- a line without what stands behind it
ended : (line : List ℕ) → line ++ [] ++ 10 ∷ [] ≡ line ++ 10 ∷ []
ended line = ap (λ (l : List ℕ). l ++ 10 ∷ []) (append-nil line)

-- ---- a DAT

longs-plain : (base : ℕ) (labels : List Label) (place : ℕ) (longs : List ℕ) → long_lines (λ text. []) base labels place longs ≡ plain.long_lines place longs
longs-plain base labels place [] = refl
longs-plain base labels place (long ∷ longs) =
    ap₂ (λ (line rest : List ℕ). line ++ rest) (ended (hex 4 place ++ codes " " ++ hex 8 long ++ codes " " ++ long_text long)) (longs-plain base labels (address_after place 4) longs)

-- lines of longs, cut in two
longs-cut : (place count : ℕ) (longs : List ℕ) → place < 65536 → plain.long_lines place (take count longs) ++ plain.long_lines (address_after place (4 * count)) (drop count longs) ≡ plain.long_lines place longs
longs-cut place zero longs low = let same : address_after place (4 * 0) ≡ place = omega arith in ap (λ (n : ℕ). plain.long_lines n longs) same
longs-cut place (suc count) [] low = refl
longs-cut place (suc count) (long ∷ longs) low =
    let same : address_after place (4 * suc count) ≡ address_after (address_after place 4) (4 * count) = omega arith in
    ap (λ (n : ℕ). (plain.long_line place long ++ plain.long_lines (address_after place 4) (take count longs)) ++ plain.long_lines n (drop count longs)) same
    ∙ append_assoc (plain.long_line place long) (plain.long_lines (address_after place 4) (take count longs)) (plain.long_lines (address_after (address_after place 4) (4 * count)) (drop count longs))
    ∙ ap (λ (rest : List ℕ). plain.long_line place long ++ rest) (longs-cut (address_after place 4) count longs (omega arith))

dat-plain : (source : List (List ℕ)) (base : ℕ) (labels : List Label) (start place told : ℕ) (longs : List ℕ) (lines : List LineBegin) → place < 65536
    → dat_lines (λ text. []) source base labels start place told longs lines ≡ plain.long_lines place longs
dat-plain source base labels start place told longs [] low = longs-plain base labels place longs
dat-plain source base labels start place told longs (line ∷ lines) low =
    let count : ℕ = longs_ahead start (address_after base line.offset) - told in
    ap (λ (front : List ℕ). front ++ dat_lines (λ text. []) source base labels start (address_after place (4 * count)) (told + count) (drop count longs) lines)
    (append-nil (long_lines (λ text. []) base labels place (take count longs)))
    ∙ ap₂ (λ (front rest : List ℕ). front ++ rest) (longs-plain base labels place (take count longs))
    (dat-plain source base labels start (address_after place (4 * count)) (told + count) (drop count longs) lines (omega arith))
    ∙ longs-cut place count longs low

-- ---- a method's code

ops-plain : (scope : Option Scope) (at place previous : ℕ) (lines : List Line) (pieces : List (List ℕ)) → op_lines (λ text. []) scope at place previous lines pieces ≡ piece_lines place pieces
ops-plain scope at place previous lines [] = refl
ops-plain scope at place previous lines (piece ∷ pieces) =
    ap₂ (λ (line rest : List ℕ). line ++ rest) (ended (hex 4 place ++ flat_map (λ (byte : ℕ). 32 ∷ hex 2 byte) piece))
    (ops-plain scope (at + length piece) (address_after place (length piece)) (statement_line previous lines) (drop 1 lines) pieces)

methods-plain : (scope : MethodNames → MethodPart → Scope) (offset : ℕ → ℕ) (number place : ℕ) (names : List MethodNames) (parts : List MethodPart) (others : List MethodCode)
    → length names ≡ length parts → length others ≡ length parts
    → methods_lines (λ text. []) scope offset number place names parts others ≡ plain.method_lines offset number place parts
methods-plain scope offset number place [] [] others a b = refl
methods-plain scope offset number place [] (part ∷ parts) others a b = absurd (omega arith)
methods-plain scope offset number place (m ∷ names) [] others a b = absurd (omega arith)
methods-plain scope offset number place (m ∷ names) (part ∷ parts) [] a b = absurd (omega arith)
methods-plain scope offset number place (m ∷ names) (part ∷ parts) (code ∷ others) a b =
    ap₂ (λ (own rest : List ℕ). own ++ rest)
    (ap₂ (λ (line rest : List ℕ). line ++ rest) (ended (codes "method " ++ decimal number ++ codes " " ++ hex 4 place))
    (ops-plain (Some (scope m part)) 0 place 0 code.lines (pieces_of (linked offset part.uses part.code))))
    (methods-plain scope offset (number + 1) (address_after place (length part.code)) names parts others (omega arith) (omega arith))

-- ---- objects

object-plain : (files : List FileNames) (base : ℕ) (own : FileNames) (object : ObjectPart) (file : FileCode) → length own.methods ≡ length object.methods → length file.methods ≡ length object.methods
    → object_lines (λ text. []) files base own object file ≡ plain.object_lines own.file base object
object-plain files base own object file a b =
    ap₂ (λ (longs methods : List ℕ). object_line own.file base ++ longs ++ methods)
    (dat-plain file.source base own.labels (address_after base (dat_offset object)) (address_after base (dat_offset object)) 0 (longs_of object.dat) file.lines (omega arith))
    (methods-plain (scope_at files own object file.source) (slice_index (text_offsets object)) 1 (address_after base (codes_offset object)) own.methods object.methods file.methods a b)

pub objects-plain : (files : List FileNames) (base : ℕ) (names : List FileNames) (objects : List ObjectPart) (known : List FileCode) → HaveObjects names objects known
    → objects_lines (λ text. []) files base names objects known ≡ plain.objects_lines base (map (λ (file : FileNames). file.file) names) objects
objects-plain files base [] [] [] have = refl
objects-plain files base [] [] (file ∷ known) have = absurd have
objects-plain files base [] (object ∷ objects) known have = absurd have
objects-plain files base (own ∷ names) [] known have = absurd have
objects-plain files base (own ∷ names) (object ∷ objects) [] have = absurd have
objects-plain files base (own ∷ names) (object ∷ objects) (file ∷ known) have =
    ap₂ (λ (first rest : List ℕ). first ++ rest) (object-plain files base own object file have.0 have.1)
    (objects-plain files (address_after base (size_of object)) names objects known have.2)
