-- A label of DAT stands at most where the DAT ends, and so in the lower half of the hub.
use Rattle.std.proofs.Common.{◌≡◌, ℕ, zero, suc, ◌+◌, ◌-◌, ◌*◌, ◌^◌, ◌<◌, ◌≤◌, min, Bool, true, false, nat_lt, if◌then◌else◌, List, [], ◌∷◌, length, take, Option, Some, None, refl, ap, ◌∙◌, arith, length-append, length-take}
use Rattle.std.specs.Prelude.{All, unwrap_or}
use Rattle.std.specs.Int.{to_le_bytes, w32}
use Rattle.std.specs.Option.{option_or}
use Rattle.std.specs.Str.{bytes_eq}
use Rattle.std.proofs.lemmas.Bool.Decides.{nat_tests}
use Rattle.std.proofs.lemmas.List.Elements.{All-nil, All-append, All-head, All-tail}
use Rattle.p8_tree.specs.Expressions.{Tree}
use Rattle.p8_tree.specs.Sources as trees
use Rattle.p8_tree.specs.Sources.{Contents, Datum, Line, MethodTree, BlockTree, Source}
use Rattle.p8_tree.specs.Projects.{NamedSource}
use Rattle.p8_tree.specs.Proper.{IsSize, IfThere, IsProperFile, IsProperBlock, IsProperLine, IsProperDatum, AreProperContents}
use Rattle.p8_words.specs.Operators.{or_zero}
use Rattle.p8_tree.specs.Names.{is_local}
use Rattle.p8_fold.specs.Meanings.{Setting}
use Rattle.p8_fold.specs.Values.{value}
use Rattle.p8_dat.specs.Encoding.{long_of_line}
use Rattle.p8_kinds.specs.declared.children.Children.{Children}
use Rattle.p8_kinds.specs.declared.kinds.Kinds.{Kinds}
use Rattle.p8_kinds.specs.declared.name_kinds.Label.{Label}
use Rattle.p8_dat.specs.declared.spots.Spot.{Spot}
use Rattle.p8_dat.specs.Spots.{limit, advanced, number, string, elements, size_of, behind_item, behind_items, begun, ended, behind, Placed, placed}
use Rattle.p8_dat.specs.Names.{is_named, Region, in_front, regions, names_in}
use Rattle.p8_dat.specs.Bytes.{element, in_data, in_instruction, spots, value_bytes, text_bytes, elements_bytes, item_bytes, items_bytes, contents_bytes, zeros, line_bytes, lines_bytes}
use Rattle.p8_dat.specs.Blocks.{block_lines, dat_lines, first_spot, counts_setting, placed_lines, values_setting, regions_bytes, dat_bytes}
use Rattle.p8_dat.specs.Labels.{label_of, with_label_of, labels_of}
use Rattle.p8_gen.specs.Files.{first_offset}
use Rattle.p8_image.specs.declared.clocks.Clock.{Clock}
use Rattle.p8_image.specs.Layout.{dat_offset, image_of}
use Rattle.p8_image.specs.Places.{AllPartsStand, dat_place}
use Rattle.p8_build.specs.Parts.{AreProper, data_start}
use Rattle.p8_build.specs.Files.{CompiledFile, setting_of, object_of}
use Rattle.p8_build.specs.Builds.{objects_of}
use Rattle.p8_opt.specs.Agreements.{names_of}
use Rattle.p8_opt.proofs.Tables.{stands-fits}
use Rattle.p8_opt.proofs.Files.{IsThere, object-at}
use Rattle.p8_image.proofs.Memories.{Lies}
use Rattle.p8_opt.proofs.Instances.{IsProject, compiled-at, counts-of}

-- ---- elements

size-small : (n : ℕ) → IsSize n → n ≤ 4
size-small n is = grind (arith, nat_tests)

element-length : (size v : ℕ) (p : Spot) → length (element size v p) ≡ min (limit - p.offset) (min size 4)
element-length size v p =
    length-take (limit - p.offset) (take size (to_le_bytes w32 v)) ∙ ap (λ n. min (limit - p.offset) n) (length-take size (to_le_bytes w32 v))

-- one element, and those after it
one-more : (o size more e l : ℕ) → size ≤ 4 → e ≡ min (limit - o) (min size 4) → min (min (o + size) limit + more) limit ≤ min (o + size) limit + l → min (o + (size + more)) limit ≤ o + (e + l)
one-more o size more e l small is rest = omega (arith, small, is, rest)

text-reaches : (size : ℕ) (text : List ℕ) (p : Spot) → size ≤ 4 → (advanced (length text * size) p).offset ≤ p.offset + length (text_bytes size text p)
text-reaches size [] p small = omega arith
text-reaches size (c ∷ cs) p small =
    let rest = text-reaches size cs (advanced size p) small in
    let both = length-append (element size c p) (text_bytes size cs (advanced size p)) in
    let more = one-more p.offset size (length cs * size) (length (element size c p)) (length (text_bytes size cs (advanced size p))) small (element-length size c p) rest in
    let product : suc (length cs) * size ≡ size + length cs * size = omega arith in
    omega (arith, both, more, product)

values-by : (b : Bool) (size v n : ℕ) (p : Spot) → size ≤ 4 → nat_lt p.offset limit ≡ b
    → (advanced (n * size) (advanced size p)).offset ≤ (advanced size p).offset + length (value_bytes size v (spots size n (advanced size p)))
    → min (p.offset + (size + n * size)) limit ≤ p.offset + length (value_bytes size v (if b then p ∷ spots size n (advanced size p) else []))
values-by true size v n p small is rest =
    let both = length-append (element size v p) (value_bytes size v (spots size n (advanced size p))) in
    let more = one-more p.offset size (n * size) (length (element size v p)) (length (value_bytes size v (spots size n (advanced size p)))) small (element-length size v p) rest in
    omega (arith, both, more)
values-by false size v n p small is rest =
    let behind : limit ≤ p.offset = grind (arith, nat_tests) in
    omega (arith, behind)

values-reach : (size v n : ℕ) (p : Spot) → size ≤ 4 → (advanced (n * size) p).offset ≤ p.offset + length (value_bytes size v (spots size n p))
values-reach size v zero p small = omega arith
values-reach size v (suc n) p small =
    let more = values-by (nat_lt p.offset limit) size v n p small refl (values-reach size v n (advanced size p) small) in
    let product : suc n * size ≡ size + n * size = omega arith in
    omega (arith, more, product)

elements-reach : (s t : Setting) (size : ℕ) (text : Option (List ℕ)) (e : Tree) (count : Option Tree) (p : Spot) → size ≤ 4
    → (advanced (elements s text count * size) p).offset ≤ p.offset + length (elements_bytes s t size text e count p)
elements-reach s t size (Some text) e count p small = text-reaches size text p small
elements-reach s t size None e count p small = values-reach size (unwrap_or (value (in_data t p) e) 0) (number s 1 count) p small

own-small : (size : ℕ) (o : Option ℕ) → size ≤ 4 → IfThere IsSize o → unwrap_or o size ≤ 4
own-small size None small own = small
own-small size (Some n) small own = size-small n own

items-reach : (s t : Setting) (size : ℕ) (xs : List Datum) (p : Spot) → size ≤ 4 → All IsProperDatum xs → (behind_items s size xs p).offset ≤ p.offset + length (items_bytes s t size xs p)
items-reach s t size [] p small proper = omega arith
items-reach s t size (x ∷ xs) p small proper =
    let own = own-small size x.size small (All-head IsProperDatum x xs proper).size in
    let here = elements-reach s t (size_of size x) (string x.value) x.value x.count p own in
    let rest = items-reach s t size xs (behind_item s size x p) small (All-tail IsProperDatum x xs proper) in
    let both = length-append (item_bytes s t size x p) (items_bytes s t size xs (behind_item s size x p)) in
    omega (arith, here, rest, both)

-- ---- lines

contents-reach : (s t : Setting) (c : Contents) (p : Spot) → AreProperContents c → (ended s c p).offset ≤ p.offset + length (contents_bytes s t c p)
contents-reach s t trees.Nothing p proper = omega arith
contents-reach s t (trees.Data size xs) p proper = items-reach s t size xs p (size-small size proper.0) proper.1
contents-reach s t (trees.Org e) p proper = omega arith
contents-reach s t (trees.Res e) p proper = omega arith
contents-reach s t (trees.Fit e) p proper = omega arith
contents-reach s t (trees.Instr x) p proper =
    let size = element-length 4 (long_of_line (in_instruction t p) x) p in
    omega (arith, size)

zeros-length : (n : ℕ) → length (zeros n) ≡ n
zeros-length zero = refl
zeros-length (suc n) = ap suc (zeros-length n)

-- how far a line moves the offset
abbrev pub line_size : Setting → Placed → ℕ
line_size s x = (x.at.offset - x.from.offset) + ((ended s x.line.contents x.at).offset - x.at.offset)

abbrev pub lines_size : Setting → List Placed → ℕ
lines_size s [] = 0
lines_size s (x ∷ xs) = line_size s x + lines_size s xs

abbrev pub regions_size : Setting → List Region → ℕ
regions_size s [] = 0
regions_size s (r ∷ rs) = lines_size s r + regions_size s rs

abbrev pub AreProperLines : List Placed → Type 0
AreProperLines [] = Unit {0}
AreProperLines (x ∷ xs) = AreProperContents x.line.contents × AreProperLines xs

abbrev pub AreProperRegions : List Region → Type 0
AreProperRegions [] = Unit {0}
AreProperRegions (r ∷ rs) = AreProperLines r × AreProperRegions rs

line-fits : (s t : Setting) (x : Placed) → AreProperContents x.line.contents → line_size s x ≤ length (line_bytes s t x)
line-fits s t x proper =
    let both = length-append (zeros (x.at.offset - x.from.offset)) (contents_bytes s t x.line.contents x.at) in
    let first = zeros-length (x.at.offset - x.from.offset) in
    let own = contents-reach s t x.line.contents x.at proper in
    omega (arith, both, first, own)

lines-fit : (s t : Setting) (xs : List Placed) → AreProperLines xs → lines_size s xs ≤ length (lines_bytes s t xs)
lines-fit s t [] proper = omega arith
lines-fit s t (x ∷ xs) proper =
    let here = line-fits s t x proper.0 in
    let rest = lines-fit s t xs proper.1 in
    let both = length-append (line_bytes s t x) (lines_bytes s t xs) in
    omega (arith, here, rest, both)

pub regions-fit : (s t : Setting) (rs : List Region) → AreProperRegions rs → regions_size s rs ≤ length (regions_bytes s t rs)
regions-fit s t [] proper = omega arith
regions-fit s t (r ∷ rs) proper =
    let here = lines-fit s (names_in t r) r proper.0 in
    let rest = regions-fit s t rs proper.1 in
    let both = length-append (lines_bytes s (names_in t r) r) (regions_bytes s t rs) in
    omega (arith, here, rest, both)

-- ---- lines in regions

pub record IsParted (s : Setting) (size : ℕ) (rs : List Region) : Type 0 where
  pub size_is : regions_size s rs ≡ size
  pub proper : AreProperRegions rs

front-by : (b : Bool) (s : Setting) (x y : Placed) (ys : List Placed) (rs : List Region) (n : ℕ) → AreProperContents x.line.contents → IsParted s n ((y ∷ ys) ∷ rs)
    → IsParted s (line_size s x + n) (if b then (x ∷ []) ∷ (y ∷ ys) ∷ rs else (x ∷ y ∷ ys) ∷ rs)
front-by true s x y ys rs n own h = record { size_is = omega (arith, h.size_is); proper = ((own, tt), h.proper) }
front-by false s x y ys rs n own h = record { size_is = omega (arith, h.size_is); proper = ((own, h.proper.0), h.proper.1) }

front : (s : Setting) (x : Placed) (rs : List Region) (n : ℕ) → AreProperContents x.line.contents → IsParted s n rs → IsParted s (line_size s x + n) (in_front x rs)
front s x [] n own h = record { size_is = omega (arith, h.size_is); proper = ((own, tt), tt) }
front s x ([] ∷ rs) n own h = record { size_is = omega (arith, h.size_is); proper = ((own, tt), h.proper.1) }
front s x ((y ∷ ys) ∷ rs) n own h = front-by (is_named y.line.label) s x y ys rs n own h

pub parted : (s : Setting) (xs : List Placed) → AreProperLines xs → IsParted s (lines_size s xs) (regions xs)
parted s [] proper = record { size_is = refl; proper = tt }
parted s (x ∷ xs) proper = front s x (regions xs) (lines_size s xs) proper.0 (parted s xs proper.1)

-- ---- labels

first-by : (b : Bool) (offset : ℕ) (rest : Option ℕ) (bound : ℕ) → offset ≤ bound → or_zero rest ≤ bound → or_zero (option_or (if b then Some offset else None) rest) ≤ bound
first-by true offset rest bound here behind = here
first-by false offset rest bound here behind = behind

local-by : (b : Bool) (x : Label) (rest : List Label) (name : List ℕ) (bound : ℕ) → x.offset ≤ bound → or_zero (first_offset rest name) ≤ bound → or_zero (first_offset (if b then rest else x ∷ rest) name) ≤ bound
local-by true x rest name bound here behind = behind
local-by false x rest name bound here behind = first-by (bytes_eq name x.name) x.offset (first_offset rest name) bound here behind

label-by : (kinds : Kinds) (label : Option (List ℕ)) (p : Spot) (rest : List Label) (name : List ℕ) (bound : ℕ) → p.offset ≤ bound → or_zero (first_offset rest name) ≤ bound
    → or_zero (first_offset (with_label_of kinds label p rest) name) ≤ bound
label-by kinds None p rest name bound here behind = behind
label-by kinds (Some n) p rest name bound here behind = local-by (is_local n) (label_of kinds n p) rest name bound here behind

labels-within : (kinds : Kinds) (s : Setting) (xs : List Line) (p : Spot) (name : List ℕ) → or_zero (first_offset (labels_of kinds (placed s xs p)) name) ≤ p.offset + lines_size s (placed s xs p)
labels-within kinds s [] p name = omega arith
labels-within kinds s (x ∷ xs) p name =
    let rest = labels-within kinds s xs (behind s x p) name in
    label-by kinds x.label (begun s x.contents p) (labels_of kinds (placed s xs (behind s x p))) name (p.offset + lines_size s (placed s (x ∷ xs) p)) (omega arith) (omega (arith, rest))

-- ---- a file

pub placed-proper : (s : Setting) (xs : List Line) (p : Spot) → All IsProperLine xs → AreProperLines (placed s xs p)
placed-proper s [] p proper = tt
placed-proper s (x ∷ xs) p proper = ((All-head IsProperLine x xs proper).contents, placed-proper s xs (behind s x p) (All-tail IsProperLine x xs proper))

block-proper : (b : BlockTree) → IsProperBlock b → All IsProperLine (block_lines b)
block-proper (trees.Con xs) proper = All-nil IsProperLine
block-proper (trees.Var xs) proper = All-nil IsProperLine
block-proper (trees.Obj xs) proper = All-nil IsProperLine
block-proper (trees.Method x) proper = All-nil IsProperLine
block-proper (trees.Dat xs) proper = proper

pub dat-proper : (file : Source) → IsProperFile file → All IsProperLine (dat_lines file)
dat-proper [] proper = All-nil IsProperLine
dat-proper (b ∷ bs) proper =
    All-append IsProperLine (block_lines b) (dat_lines bs) (block-proper b (All-head IsProperBlock b bs proper)) (dat-proper bs (All-tail IsProperBlock b bs proper))

-- no label stands after the bytes of a file's DAT
pub label-in-dat : (kinds : Kinds) (base : Setting) (start : ℕ) (file : Source) (name : List ℕ) → IsProperFile file
    → or_zero (first_offset (labels_of kinds (placed_lines base start file)) name) ≤ start + length (dat_bytes base start file)
label-in-dat kinds base start file name proper =
    let s = counts_setting base file in
    let xs = placed_lines base start file in
    let parts = parted s xs (placed-proper s (dat_lines file) (first_spot start) (dat-proper file proper)) in
    let fits = regions-fit s (values_setting base start file) (regions xs) parts.proper in
    let label = labels-within kinds s (dat_lines file) (first_spot start) name in
    omega (arith, parts.size_is, fits, label)

-- ---- a project

-- the label of each name, as a method of an accepted file has it, stands below 2^15
pub label-has-room : (files : List NamedSource) (children : List Children) (xs : List CompiledFile) → IsProject files children xs → AreProper files → (clock : Clock)
    → AllPartsStand clock (objects_of files children xs) → Lies (image_of clock (objects_of files children xs))
    → (i : ℕ) (file : NamedSource) (seen : Children) (x : CompiledFile) → IsThere files children xs i file seen x
    → (k : ℕ) (m : MethodTree) (name : List ℕ) → (names_of files file seen x k m).label name < 2 ^ 15
label-has-room files children xs project proper clock parts hub i file seen x there k m name =
    let c = compiled-at files children xs project i file seen x there in
    let n = counts-of files children xs project i file seen x there in
    let object = object_of files file.tree seen x in
    let all = objects_of files children xs in
    let s = setting_of seen x in
    let start = data_start s file.tree in
    let begins : start ≡ dat_offset object = omega (arith, n.0, n.1) in
    let label : or_zero (first_offset x.labels name) ≡ or_zero (first_offset (labels_of x.kinds (placed_lines s start file.tree)) name) = ap (λ ls. or_zero (first_offset ls name)) c.dat.labels in
    let size : length x.dat ≡ length (dat_bytes s start file.tree) = ap length c.dat.bytes in
    let low = label-in-dat x.kinds s start file.tree name (proper i file there.stands) in
    let fits = stands-fits (image_of clock all) (dat_place all i object) x.dat (parts i object (object-at files files children xs i file seen x there)).dat in
    let small : or_zero (first_offset x.labels name) < 2 ^ 15 = omega (arith, begins, label, size, low, fits, hub.below, hub.high) in
    small
