-- Codes that stand one after the other, cut into the codes of methods and these into lines.
use Rattle.std.proofs.Common.{◌≡◌, ◌∙◌, ap, ap₂, sym, refl, arith, ℕ, zero, suc, ◌+◌, ◌-◌, ◌<◌, ◌≤◌, List, [], ◌∷◌, ◌++◌, Option, Some, None, length, length-append, append_assoc, take, drop}
use Rattle.std.proofs.lemmas.List.{append-nil, length-drop, length-set, length-take-le}
use Rattle.std.proofs.Math.Seq.{take-append_seam, drop-append_seam}
use Rattle.std.specs.Prelude.{◌/◌, ◌%◌, option_map, slice_index, slice_set}
use Rattle.std.specs.Option.{option_map_or}
use Rattle.p8_bytecode.specs.Reading.{coded}
use Rattle.p8_bytecode.specs.Table.{operands_of}
use Rattle.p8_image.specs.declared.parts.MethodPart.{MethodPart}
use Rattle.p8_image.specs.declared.parts.ObjectPart.{ObjectPart}
use Rattle.p8_image.specs.declared.parts.TextUse.{TextUse}
use Rattle.p8_image.specs.Layout.{codes_of, codes_offset, dat_offset, linked, text_offsets}
use Rattle.p8_image.specs.Listing.{address_after, line_size, pieces_within, pieces_of, piece_lines, code_line, code_lines, method_line, method_lines, object_line, object_lines, objects_lines, long_lines, longs_of}
use Rattle.p8_image.specs.Cutting.{own_bytes, cut_lines}

-- each line has at least one byte
some-read : {A : Type 0} (read : Option (A × ℕ)) → 1 ≤ option_map_or (λ (r : A × ℕ). r.1) (option_map (λ (r : A × ℕ). (r.0, 1 + r.1)) read) 1
some-read None = omega arith
some-read (Some r) = omega arith

pub some-size : (code : List ℕ) → 1 ≤ line_size code
some-size [] = omega arith
some-size (byte ∷ code) = some-read (coded (operands_of byte) byte code)

shorter : (size : ℕ) (code : List ℕ) (most : ℕ) → 1 ≤ size → length code ≤ suc most → length (drop size code) ≤ most
shorter size code most some within =
    let left : length (drop size code) ≡ length code - size = length-drop size code in
    omega arith

-- how many lines there may be doesn't matter where there may be enough
pieces-same : (a b : ℕ) (code : List ℕ) → length code ≤ a → length code ≤ b → pieces_within a code ≡ pieces_within b code
pieces-same zero zero code p q = refl
pieces-same zero (suc b) [] p q = refl
pieces-same zero (suc b) (byte ∷ code) p q = absurd (omega arith)
pieces-same (suc a) zero [] p q = refl
pieces-same (suc a) zero (byte ∷ code) p q = absurd (omega arith)
pieces-same (suc a) (suc b) [] p q = refl
pieces-same (suc a) (suc b) (byte ∷ code) p q =
    let some : 1 ≤ line_size (byte ∷ code) = some-size (byte ∷ code) in
    ap (λ (more : List (List ℕ)). take (line_size (byte ∷ code)) (byte ∷ code) ∷ more)
    (pieces-same a b (drop (line_size (byte ∷ code)) (byte ∷ code)) (shorter (line_size (byte ∷ code)) (byte ∷ code) a some p) (shorter (line_size (byte ∷ code)) (byte ∷ code) b some q))

pub pieces-step : (code : List ℕ) → 1 ≤ length code → pieces_of code ≡ take (line_size code) code ∷ pieces_of (drop (line_size code) code)
pieces-step [] some = absurd (omega arith)
pieces-step (byte ∷ code) some =
    let fits : length (drop (line_size (byte ∷ code)) (byte ∷ code)) ≤ length code = shorter (line_size (byte ∷ code)) (byte ∷ code) (length code) (some-size (byte ∷ code)) (omega arith) in
    ap (λ (more : List (List ℕ)). take (line_size (byte ∷ code)) (byte ∷ code) ∷ more)
    (pieces-same (length code) (length (drop (line_size (byte ∷ code)) (byte ∷ code))) (drop (line_size (byte ∷ code)) (byte ∷ code)) fits (omega arith))

-- the first line of a code, and then those of the rest
pub lines-step : (place : ℕ) (code : List ℕ) (size : ℕ) → size ≡ line_size code → 1 ≤ length code → size ≤ length code
    → code_lines place code ≡ code_line place (take size code) ++ code_lines (address_after place size) (drop size code)
lines-step place code size is some within =
    let cut : pieces_of code ≡ take size code ∷ pieces_of (drop size code) =
    pieces-step code some ∙ ap (λ (s : ℕ). take s code ∷ pieces_of (drop s code)) (sym is) in
    let long : length (take size code) ≡ size = length-take-le size code within in
    ap (piece_lines place) cut ∙ ap (λ (s : ℕ). code_line place (take size code) ++ piece_lines (address_after place s) (pieces_of (drop size code))) long

length-linked : (offset : ℕ → ℕ) (uses : List TextUse) (code : List ℕ) → length (linked offset uses code) ≡ length code
length-linked offset [] code = refl
length-linked offset (place ∷ uses) code =
    length-linked offset uses _
    ∙ length-set (slice_set code place.at (128 + offset place.text / 256 % 128)) (place.at + 1) (offset place.text % 256)
    ∙ length-set code place.at (128 + offset place.text / 256 % 128)

-- the codes of methods as they stand one after the other have their lines
pub uncut : (offset : ℕ → ℕ) (methods : List MethodPart) (number place : ℕ) → cut_lines number place (codes_of offset methods) methods ≡ method_lines offset number place methods
uncut offset [] number place = refl
uncut offset (method ∷ methods) number place =
    let long : length (linked offset method.uses method.code) ≡ length method.code = length-linked offset method.uses method.code in
    let all : length (linked offset method.uses method.code ++ codes_of offset methods) ≡ length (linked offset method.uses method.code) + length (codes_of offset methods) =
    length-append (linked offset method.uses method.code) (codes_of offset methods) in
    let own : own_bytes method (linked offset method.uses method.code ++ codes_of offset methods) ≡ length (linked offset method.uses method.code) = grind arith in
    let taken : take (own_bytes method (linked offset method.uses method.code ++ codes_of offset methods)) (linked offset method.uses method.code ++ codes_of offset methods) ≡ linked offset method.uses method.code =
    ap (λ (n : ℕ). take n (linked offset method.uses method.code ++ codes_of offset methods)) own ∙ take-append_seam (linked offset method.uses method.code) (codes_of offset methods) in
    let left : drop (own_bytes method (linked offset method.uses method.code ++ codes_of offset methods)) (linked offset method.uses method.code ++ codes_of offset methods) ≡ codes_of offset methods =
    ap (λ (n : ℕ). drop n (linked offset method.uses method.code ++ codes_of offset methods)) own ∙ drop-append_seam (linked offset method.uses method.code) (codes_of offset methods) in
    ap₂ (λ (code more : List ℕ). method_line number place ++ code_lines place code ++ more) taken
    (ap (λ (bytes : List ℕ). cut_lines (number + 1) (address_after place (length method.code)) bytes methods) left
    ∙ uncut offset methods (number + 1) (address_after place (length method.code)))

-- an address is told mod 65,536, and so is what stands after it
pub address_after-mod : (base bytes : ℕ) → address_after base (bytes % 65536) ≡ address_after base bytes
address_after-mod base bytes = omega arith

-- the lines of an object, written one part after the other
pub object-whole : (name : List ℕ) (base : ℕ) (object : ObjectPart) (a b c d codes : List ℕ) (dat methods : ℕ)
    → b ≡ a ++ object_line name base
    → c ≡ b ++ long_lines dat (longs_of object.dat)
    → d ≡ c ++ cut_lines 1 methods codes object.methods
    → codes ≡ codes_of (slice_index (text_offsets object)) object.methods
    → dat ≡ address_after base (dat_offset object % 65536)
    → methods ≡ address_after base (codes_offset object % 65536)
    → d ≡ a ++ object_lines name base object
object-whole name base object a b c d codes dat methods first second third code where_dat where_codes =
    let longs : long_lines dat (longs_of object.dat) ≡ long_lines (address_after base (dat_offset object)) (longs_of object.dat) =
    ap (λ (place : ℕ). long_lines place (longs_of object.dat)) (where_dat ∙ address_after-mod base (dat_offset object)) in
    let cut : cut_lines 1 methods codes object.methods ≡ method_lines (slice_index (text_offsets object)) 1 (address_after base (codes_offset object)) object.methods =
    ap₂ (λ (place : ℕ) (bytes : List ℕ). cut_lines 1 place bytes object.methods) (where_codes ∙ address_after-mod base (codes_offset object)) code
    ∙ uncut (slice_index (text_offsets object)) object.methods 1 (address_after base (codes_offset object)) in
    third
    ∙ ap₂ (λ (x y : List ℕ). x ++ y) (second ∙ ap₂ (λ (x y : List ℕ). x ++ y) first longs) cut
    ∙ ap (λ (x : List ℕ). x ++ method_lines (slice_index (text_offsets object)) 1 (address_after base (codes_offset object)) object.methods)
    (append_assoc a (object_line name base) (long_lines (address_after base (dat_offset object)) (longs_of object.dat)))
    ∙ append_assoc a (object_line name base ++ long_lines (address_after base (dat_offset object)) (longs_of object.dat))
    (method_lines (slice_index (text_offsets object)) 1 (address_after base (codes_offset object)) object.methods)

-- where there are no objects or no names left, there are no lines
no-objects : (base : ℕ) (names : List (List ℕ)) (objects : List ObjectPart) → length objects < 1 → objects_lines base names objects ≡ []
no-objects base [] objects few = refl
no-objects base (name ∷ names) [] few = refl
no-objects base (name ∷ names) (object ∷ objects) few = absurd (omega arith)

no-names : (base : ℕ) (names : List (List ℕ)) (objects : List ObjectPart) → length names < 1 → objects_lines base names objects ≡ []
no-names base [] objects few = refl
no-names base (name ∷ names) objects few = absurd (omega arith)

all-said : (out whole more : List ℕ) → more ≡ [] → out ++ more ≡ whole → out ≡ whole
all-said out whole more none said = sym (append-nil out) ∙ ap (λ (rest : List ℕ). out ++ rest) (sym none) ∙ said

pub said-objects : (out whole : List ℕ) (base : ℕ) (names : List (List ℕ)) (objects : List ObjectPart) → length objects < 1 → out ++ objects_lines base names objects ≡ whole → out ≡ whole
said-objects out whole base names objects few said = all-said out whole (objects_lines base names objects) (no-objects base names objects few) said

pub said-names : (out whole : List ℕ) (base : ℕ) (names : List (List ℕ)) (objects : List ObjectPart) → length names < 1 → out ++ objects_lines base names objects ≡ whole → out ≡ whole
said-names out whole base names objects few said = all-said out whole (objects_lines base names objects) (no-names base names objects few) said
