-- The legend tells each line of DAT at the addresses that it has.
use Rattle.std.proofs.Common.{◌≡◌, refl, sym, ap, ap₂, ◌∙◌, subst, ℕ, zero, suc, ◌+◌, ◌-◌, ◌<◌, ◌≤◌, ◌==◌, List, [], ◌∷◌, ◌++◌, length, map, slice_get, Option, Some, append_assoc, arith}
use Rattle.std.specs.Prelude.{take, drop, option_map, codes}
use Rattle.std.specs.Fmt.{decimal}
use Rattle.std.proofs.lemmas.Option.{none-some, same_Some, slice_get-map, slice_get_within}
use Rattle.p8_tree.specs.Projects.{NamedSource}
use Rattle.p8_tree.specs.Proper.{IsProperFile}
use Rattle.p8_tree.specs.Sources.{Line, Source}
use Rattle.p8_fold.specs.Meanings.{Setting}
use Rattle.p8_kinds.specs.declared.children.Children.{Children}
use Rattle.p8_kinds.specs.declared.name_kinds.Label.{Label}
use Rattle.p8_constants.specs.FileItems.{items}
use Rattle.p8_names.specs.Kinds.{numbered, objects}
use Rattle.p8_dat.specs.declared.assembling.LineBegin.{LineBegin}
use Rattle.p8_dat.specs.declared.spots.Spot.{Spot}
use Rattle.p8_dat.specs.Blocks.{dat_lines, first_spot, counts_setting, placed_lines, values_setting, dat_bytes}
use Rattle.p8_dat.specs.Lines.{begin_of}
use Rattle.p8_dat.specs.Names.{regions}
use Rattle.p8_dat.specs.Spots.{limit, begun, behind, placed}
use Rattle.p8_image.specs.declared.parts.ObjectPart.{ObjectPart}
use Rattle.p8_image.specs.Layout.{total, codes_offset, dat_offset, size_of}
use Rattle.p8_image.specs.Listing.{address_after}
use Rattle.p8_image.specs.Places.{base_of}
use Rattle.p8_build.specs.Parts.{AreProper, strings_of, data_start}
use Rattle.p8_build.specs.Files.{CompiledFile, line_begins, object_of, setting_of}
use Rattle.p8_build.specs.Builds.{AreCompiled, objects_from, objects_of}
use Rattle.p8_build.proofs.Lists.{element}
use Rattle.p8_opt.proofs.Counting.{parts-length, instances-length}
use Rattle.p8_opt.proofs.Labelled.{lines_size, regions-fit, parted, placed-proper, dat-proper}
use Rattle.p8_map.specs.declared.names.FileNames.{FileNames}
use Rattle.p8_map.specs.Projects.{names_of}
use Rattle.p8_legend.specs.declared.legend.Legend.{Legend}
use Rattle.p8_legend.specs.declared.ranges.FoundRange.{FoundRange}
use Rattle.p8_legend.specs.declared.ranges.Range.{Range}
use Rattle.p8_legend.specs.declared.ranges.Ranges.{Ranges}
use Rattle.p8_legend.specs.DatLines.{HasAddress, dats_of, line_end, line_text, next_begin, with_dat, with_dats}
use Rattle.p8_legend.specs.Legends.{found_text, place_text}
use Rattle.p8_legend.specs.ProjectLegends.{Named, and_one, label_end, with_labels}
use Rattle.p8_legend.specs.Projects.{IsLegendOf}
use Rattle.p8_legend.specs.Ranges.{AreApart, behind_one, found_at, text_or}
use Rattle.p8_legend.proofs.AllNames.{IsUpTo, HasEntry, none-yet, later, Rise, labels-keep, object-label, object-up, rise-end}
use Rattle.p8_legend.proofs.LabelsRise.{lower, higher, begun-forward, ended-forward}
use Rattle.p8_legend.proofs.LinesApart.{objects-fit}
use Rattle.p8_legend.proofs.OfProject.{numbered-few, object-from}
use Rattle.p8_legend.proofs.RightNames.{bases-at}
use Rattle.p8_legend.proofs.Telling.{held, names-at, past}

-- ---- lines as if they were labels

abbrev label_for : LineBegin → Label
label_for line = record { name = codes ":" ++ decimal line.place.line; offset = line.offset; cog = 0; size = 0 }

abbrev labels_for : List LineBegin → List Label
labels_for lines = map label_for lines

-- a file with these labels alone
abbrev file_with : (name : List ℕ) → List LineBegin → FileNames
file_with name lines = record { file = name; variables = []; labels = labels_for lines; methods = []; instances = [] }

ends-as : (base codes_at : ℕ) (lines : List LineBegin) → line_end base codes_at lines ≡ label_end base codes_at (labels_for lines)
ends-as base codes_at [] = refl
ends-as base codes_at (line ∷ lines) = refl

text-as : (name : List ℕ) (line : LineBegin) → line_text name line ≡ name ++ (label_for line).name
text-as name line = append_assoc name (codes ":") (decimal line.place.line)

as-labels : (n : Named) (name : List ℕ) (base codes_at : ℕ) (lines : List LineBegin) → with_dat n name base codes_at lines ≡ with_labels n name base codes_at (labels_for lines)
as-labels n name base codes_at [] = refl
as-labels n name base codes_at (line ∷ lines) =
    ap₂ (λ (e : ℕ) (t : List ℕ). with_dat (and_one n (address_after base line.offset) e t) name base codes_at lines) (ends-as base codes_at lines) (text-as name line)
    ∙ as-labels (and_one n (address_after base line.offset) (label_end base codes_at (labels_for lines)) (name ++ (label_for line).name)) name base codes_at lines

dropped : (k : ℕ) (lines : List LineBegin) → drop k (labels_for lines) ≡ labels_for (drop k lines)
dropped zero lines = refl
dropped (suc k) [] = refl
dropped (suc k) (line ∷ lines) = dropped k lines

-- ---- the lines of an object

abbrev LinesRise : ObjectPart → List LineBegin → Type 0
LinesRise object lines = Rise 0 (codes_offset object) (labels_for lines)

-- the range of a line of an object at a base, before these
abbrev range_before : (base : ℕ) → ObjectPart → LineBegin → (rest : List LineBegin) → Range
range_before base object line rest = record {
  address = address_after base line.offset;
  end = label_end base (address_after base (codes_offset object)) (labels_for rest);
}

dat-up : (n : Named) (name : List ℕ) (base : ℕ) (object : ObjectPart) (lines : List LineBegin) → IsUpTo n base → base + size_of object < 65536 → LinesRise object lines
    → IsUpTo (with_dat n name base (address_after base (codes_offset object)) lines) (base + size_of object)
dat-up n name base object lines up room rise =
    subst (λ (m : Named). IsUpTo m (base + size_of object)) (sym (as-labels n name base (address_after base (codes_offset object)) lines))
    (object-up n name base (file_with name lines) object up room rise)

module _ (t : List ℕ) (r : Range) where
  dat-keep : (n : Named) (name : List ℕ) (base codes_at : ℕ) (lines : List LineBegin) → HasEntry n t r → HasEntry (with_dat n name base codes_at lines) t r
  dat-keep n name base codes_at lines h =
      subst (λ (m : Named). HasEntry m t r) (sym (as-labels n name base codes_at lines)) (labels-keep t r n name base codes_at (labels_for lines) h)

  dat-has : (n : Named) (name : List ℕ) (base : ℕ) (object : ObjectPart) (lines : List LineBegin) → IsUpTo n base → base + size_of object < 65536 → LinesRise object lines
      → (k : ℕ) (line : LineBegin) → slice_get lines k ≡ Some line → t ≡ line_text name line → r ≡ range_before base object line (drop (suc k) lines)
      → HasEntry (with_dat n name base (address_after base (codes_offset object)) lines) t r
  dat-has n name base object lines up room rise k line at text_is range_is =
      let codes_at : ℕ = address_after base (codes_offset object) in
      subst (λ (m : Named). HasEntry m t r) (sym (as-labels n name base codes_at lines))
      (object-label t r n name base (file_with name lines) object up room rise k (label_for line) (slice_get-map label_for lines k ∙ ap (option_map label_for) at) (text_is ∙ text-as name line)
      (range_is ∙ ap (λ (rest : List Label). record { address = address_after base line.offset; end = label_end base codes_at rest }) (sym (dropped (suc k) lines))))

-- ---- those of all objects

abbrev AllLinesRise : List ObjectPart → List (List LineBegin) → Type 0
AllLinesRise parts others = (k : ℕ) (object : ObjectPart) (lines : List LineBegin) → slice_get parts k ≡ Some object → slice_get others k ≡ Some lines → LinesRise object lines

module _ (t : List ℕ) (r : Range) where
  dats-keep : (n : Named) (base : ℕ) (files : List FileNames) (parts : List ObjectPart) (others : List (List LineBegin)) → HasEntry n t r → HasEntry (with_dats n base files parts others) t r
  dats-keep n base [] parts others h = h
  dats-keep n base (names ∷ files) [] others h = h
  dats-keep n base (names ∷ files) (object ∷ parts) [] h = h
  dats-keep n base (names ∷ files) (object ∷ parts) (lines ∷ others) h =
      dats-keep (with_dat n names.file base (address_after base (codes_offset object)) lines) (address_after base (size_of object)) files parts others
      (dat-keep t r n names.file base (address_after base (codes_offset object)) lines h)

  dats-has : (n : Named) (base : ℕ) (files : List FileNames) (parts : List ObjectPart) (others : List (List LineBegin)) → IsUpTo n base → base + total size_of parts < 65536 → AllLinesRise parts others
      → (f : ℕ) (names : FileNames) (object : ObjectPart) (lines : List LineBegin) → slice_get files f ≡ Some names → slice_get parts f ≡ Some object → slice_get others f ≡ Some lines
      → (k : ℕ) (line : LineBegin) → slice_get lines k ≡ Some line → t ≡ line_text names.file line → r ≡ range_before (base + total size_of (take f parts)) object line (drop (suc k) lines)
      → HasEntry (with_dats n base files parts others) t r
  dats-has n base [] parts others up room rise f names object lines at there its k line is text_is range_is = absurd (none-some names at)
  dats-has n base (x ∷ files) [] others up room rise f names object lines at there its k line is text_is range_is = absurd (none-some object there)
  dats-has n base (x ∷ files) (y ∷ parts) [] up room rise f names object lines at there its k line is text_is range_is = absurd (none-some lines its)
  dats-has n base (x ∷ files) (y ∷ parts) (z ∷ others) up room rise zero names object lines at there its k line is text_is range_is =
      let none : base + 0 ≡ base = omega arith in
      let one : x ≡ names = same_Some x names at in
      let two : y ≡ object = same_Some y object there in
      let three : z ≡ lines = same_Some z lines its in
      dats-keep (with_dat n x.file base (address_after base (codes_offset y)) z) (address_after base (size_of y)) files parts others
      (dat-has t r n x.file base y z up (omega (arith, room)) (rise 0 y z refl refl) k line (ap (λ (ls : List LineBegin). slice_get ls k) three ∙ is)
      (text_is ∙ ap (λ (m : FileNames). line_text m.file line) (sym one))
      (range_is ∙ ap (λ (b : ℕ). range_before b object line (drop (suc k) lines)) none
      ∙ ap₂ (λ (o : ObjectPart) (ls : List LineBegin). range_before base o line (drop (suc k) ls)) (sym two) (sym three)))
  dats-has n base (x ∷ files) (y ∷ parts) (z ∷ others) up room rise (suc f) names object lines at there its k line is text_is range_is =
      let next : address_after base (size_of y) ≡ base + size_of y = omega (arith, room) in
      let more : Named = with_dat n x.file base (address_after base (codes_offset y)) z in
      let place : base + (size_of y + total size_of (take f parts)) ≡ base + size_of y + total size_of (take f parts) = omega arith in
      subst (λ (b : ℕ). HasEntry (with_dats more b files parts others) t r) (sym next)
      (dats-has more (base + size_of y) files parts others (dat-up n x.file base y z up (omega (arith, room)) (rise 0 y z refl refl)) (omega (arith, room)) (λ j. rise (suc j)) f names object lines at there its
      k line is text_is (range_is ∙ ap (λ (b : ℕ). range_before b object line (drop (suc k) lines)) place))

-- ---- the lines of a file rise

lines-up : (s : Setting) (xs : List Line) (p : Spot) → p.offset ≤ limit → Rise p.offset (p.offset + lines_size s (placed s xs p)) (labels_for (map begin_of (placed s xs p)))
lines-up s [] p low = omega arith
lines-up s (x ∷ xs) p low =
    let at = begun s x.contents p in
    let first = begun-forward s x.contents p low in
    let second = ended-forward s x.contents at first.1 in
    let rest = lines-up s xs (behind s x p) second.1 in
    let from = first.0 in
    let to = second.0 in
    let end : (behind s x p).offset + lines_size s (placed s xs (behind s x p)) ≡ p.offset + lines_size s (placed s (x ∷ xs) p) = omega (arith, from, to) in (
      from,
      lower at.offset (behind s x p).offset (p.offset + lines_size s (placed s (x ∷ xs) p)) (labels_for (map begin_of (placed s xs (behind s x p)))) to
          (subst (λ (n : ℕ). Rise (behind s x p).offset n (labels_for (map begin_of (placed s xs (behind s x p))))) end rest),
    )

file-up : (base : Setting) (start : ℕ) (file : Source) → IsProperFile file → start ≤ limit → Rise start (start + length (dat_bytes base start file)) (labels_for (map begin_of (placed_lines base start file)))
file-up base start file proper low =
    let s = counts_setting base file in
    let xs = placed_lines base start file in
    let parts = parted s xs (placed-proper s (dat_lines file) (first_spot start) (dat-proper file proper)) in
    let fits = regions-fit s (values_setting base start file) (regions xs) parts.proper in
    higher start (start + lines_size s xs) (start + length (dat_bytes base start file)) (labels_for (map begin_of xs)) (omega (arith, parts.size_is, fits)) (lines-up s (dat_lines file) (first_spot start) low)

-- ---- those of a project

dats-at : (files : List NamedSource) (cs : List Children) (xs : List CompiledFile) (i : ℕ) (file : NamedSource) (seen : Children) (x : CompiledFile) → slice_get files i ≡ Some file → slice_get cs i ≡ Some seen → slice_get xs i ≡ Some x
    → slice_get (dats_of files cs xs) i ≡ Some (line_begins (setting_of seen x) file.tree)
dats-at [] cs xs i file seen x a b c = absurd (none-some file a)
dats-at (f ∷ files) [] xs i file seen x a b c = absurd (none-some seen b)
dats-at (f ∷ files) (d ∷ cs) [] i file seen x a b c = absurd (none-some x c)
dats-at (f ∷ files) (d ∷ cs) (y ∷ xs) zero file seen x a b c =
    ap (λ (g : NamedSource). Some (line_begins (setting_of d y) g.tree)) (same_Some f file a)
    ∙ ap (λ (e : Children). Some (line_begins (setting_of e y) file.tree)) (same_Some d seen b)
    ∙ ap (λ (z : CompiledFile). Some (line_begins (setting_of seen z) file.tree)) (same_Some y x c)
dats-at (f ∷ files) (d ∷ cs) (y ∷ xs) (suc i) file seen x a b c = dats-at files cs xs i file seen x a b c

objects-at : (all files : List NamedSource) (cs : List Children) (xs : List CompiledFile) (i : ℕ) (file : NamedSource) (seen : Children) (x : CompiledFile) → slice_get files i ≡ Some file → slice_get cs i ≡ Some seen → slice_get xs i ≡ Some x
    → slice_get (objects_from all files cs xs) i ≡ Some (object_of all file.tree seen x)
objects-at all [] cs xs i file seen x a b c = absurd (none-some file a)
objects-at all (f ∷ files) [] xs i file seen x a b c = absurd (none-some seen b)
objects-at all (f ∷ files) (d ∷ cs) [] i file seen x a b c = absurd (none-some x c)
objects-at all (f ∷ files) (d ∷ cs) (y ∷ xs) zero file seen x a b c =
    ap (λ (g : NamedSource). Some (object_of all g.tree d y)) (same_Some f file a)
    ∙ ap (λ (e : Children). Some (object_of all file.tree e y)) (same_Some d seen b)
    ∙ ap (λ (z : CompiledFile). Some (object_of all file.tree seen z)) (same_Some y x c)
objects-at all (f ∷ files) (d ∷ cs) (y ∷ xs) (suc i) file seen x a b c = objects-at all files cs xs i file seen x a b c

all-rise : (files : List NamedSource) (children : List Children) (xs : List CompiledFile) → AreProper files → AreCompiled files children xs → AllLinesRise (objects_of files children xs) (dats_of files children xs)
all-rise files children xs proper each f part lines is its =
    let h = object-from files files children xs f part is in
    let c = each.each f h.file h.seen h.x (record { stands = h.stands; beside = h.beside }) h.compiled in
    let s = setting_of h.seen h.x in
    let start = data_start s h.file.tree in
    let codes = c.code.count in
    let methods = parts-length (strings_of h.file.tree) (numbered (items h.file.tree)) h.x.codes codes in
    let inside = instances-length files s (objects (items h.file.tree)) in
    let own : ObjectPart = object_of files h.file.tree h.seen h.x in
    let begins : start ≡ dat_offset own = omega (arith, methods, inside) in
    let bytes : length own.dat ≡ length (dat_bytes s start h.file.tree) = ap length c.dat.bytes in
    let low = numbered-few h.file.tree h.seen (f == 0) h.x c in
    let rise = file-up s start h.file.tree (proper f h.file h.stands) low in
    let same : line_begins s h.file.tree ≡ lines = same_Some (line_begins s h.file.tree) lines (sym (dats-at files children xs f h.file h.seen h.x h.stands h.beside h.compiled) ∙ its) in
    subst (LinesRise part) same
    (subst (λ (p : ObjectPart). LinesRise p (line_begins s h.file.tree)) h.is
    (higher 0 (start + length (dat_bytes s start h.file.tree)) (codes_offset own) (labels_for (line_begins s h.file.tree)) (omega (arith, begins, bytes))
    (lower 0 start (start + length (dat_bytes s start h.file.tree)) (labels_for (line_begins s h.file.tree)) (omega arith) rise)))

-- ---- the range that has an address

entry-above : (lowest : ℕ) (ranges : List Range) → AreApart lowest ranges → (n : ℕ) (r : Range) → slice_get ranges n ≡ Some r → lowest ≤ r.address
entry-above lowest [] apart n r at = absurd (none-some r at)
entry-above lowest (x ∷ ranges) apart zero r at = subst (λ (z : Range). lowest ≤ z.address) (same_Some x r at) apart.0
entry-above lowest (x ∷ ranges) apart (suc n) r at =
    let from = apart.0 in
    let some = apart.1 in
    let rest = entry-above x.end ranges apart.2 n r at in
    omega (arith, from, some, rest)

found-entry : (lowest : ℕ) (ranges : List Range) → AreApart lowest ranges → (n : ℕ) (r : Range) → slice_get ranges n ≡ Some r → (address : ℕ) → r.address ≤ address → address < r.end
    → (found : FoundRange) × (found_at ranges address ≡ Some found) × (found.number ≡ n)
found-entry lowest [] apart n r at address from to = absurd (none-some r at)
found-entry lowest (x ∷ ranges) apart zero r at address from to =
    let same : x ≡ r = same_Some x r at in
    let low : x.address ≤ address = subst (λ (z : Range). z.address ≤ address) (sym same) from in
    let high : address < x.end = subst (λ (z : Range). address < z.end) (sym same) to in
    (record { number = 0; offset = address - x.address }, held address x _ (option_map behind_one (found_at ranges address)) low high, refl)
found-entry lowest (x ∷ ranges) apart (suc n) r at address from to =
    let after = entry-above x.end ranges apart.2 n r at in
    let rest = found-entry x.end ranges apart.2 n r at address from to in
    (behind_one rest.0, past address x (Some (record { number = 0; offset = address - x.address })) _ (omega (arith, after, from)) ∙ ap (option_map behind_one) rest.1, ap suc rest.2)

entry-told : (places : Ranges) (t : List ℕ) (r : Range) → HasEntry (places.ranges, places.texts) t r → (address : ℕ) → r.address ≤ address → address < r.end → place_text places (Some address) ≡ codes " " ++ t
entry-told places t r h address from to =
    let found = found-entry 0 places.ranges places.apart h.number r h.range_is address from to in
    ap (found_text places) found.1 ∙ ap (λ (o : Option (List ℕ)). codes " " ++ text_or o) (ap (slice_get places.texts) found.2 ∙ h.text_is)

-- ---- what is told

-- where a line before these ends, by where the next one begins
end-is : (base high low : ℕ) (rest : List LineBegin) → Rise low high (labels_for rest) → base + high < 65536 → label_end base (address_after base high) (labels_for rest) ≡ base + next_begin high rest
end-is base high low [] rise room = omega (arith, room)
end-is base high low (line ∷ rest) rise room = let last = rise-end line.offset high (labels_for rest) rise.1 in omega (arith, room, last)

-- a line lies below the codes, and so do those behind it
record IsIn (high : ℕ) (line : LineBegin) (rest : List LineBegin) : Type 0 where
  below : line.offset ≤ high
  behind : Rise line.offset high (labels_for rest)

one-in : (low high : ℕ) (lines : List LineBegin) (k : ℕ) (line : LineBegin) → Rise low high (labels_for lines) → slice_get lines k ≡ Some line → IsIn high line (drop (suc k) lines)
one-in low high [] k line rise at = absurd (none-some line at)
one-in low high (x ∷ lines) zero line rise at =
    subst (λ (z : LineBegin). IsIn high z lines) (same_Some x line at) (record { below = rise-end x.offset high (labels_for lines) rise.1; behind = rise.1 })
one-in low high (x ∷ lines) (suc k) line rise at = one-in x.offset high lines k line rise.1 at

size-within : (n f : ℕ) (parts : List ObjectPart) (object : ObjectPart) → slice_get parts f ≡ Some object → n + total size_of parts ≤ 32768 → n + total size_of (take f parts) + size_of object ≤ 32768
size-within n f [] object at fits = absurd (none-some object at)
size-within n zero (x ∷ parts) object at fits = let same = ap size_of (same_Some x object at) in omega (arith, fits, same)
size-within n (suc f) (x ∷ parts) object at fits =
    let rest = size-within (n + size_of x) f parts object at (omega (arith, fits)) in
    omega (arith, rest)

pub line-told : (sources : List (List ℕ)) (files : List NamedSource) → length sources ≡ length files → AreProper files → (legend : Legend) → (is : IsLegendOf sources files legend)
    → (file : NamedSource) (line : LineBegin) (address : ℕ) → HasAddress files is.children is.compiled file line address → place_text legend.lines (Some address) ≡ codes " " ++ line_text file.name line
line-told sources files long proper legend is file line address h =
    let children = is.children in
    let xs = is.compiled in
    let parts = objects_of files children xs in
    let own : ObjectPart = object_of files file.tree h.seen h.x in
    let lines = line_begins (setting_of h.seen h.x) file.tree in
    let inside = slice_get_within files h.f file h.there.stands in
    let bytes = element sources h.f (omega (arith, inside, long)) in
    let names = names-at sources files children xs h.f bytes.0 file h.seen h.x bytes.1 h.there.stands h.there.beside h.is_compiled in
    let part = objects-at files files children xs h.f file h.seen h.x h.there.stands h.there.beside h.is_compiled in
    let dat = dats-at files children xs h.f file h.seen h.x h.there.stands h.there.beside h.is_compiled in
    let fits : 16 + total size_of parts ≤ 32768 = objects-fit parts is.fits in
    let rise = all-rise files children xs proper is.each in
    let base : base_of parts h.f ≡ 16 + total size_of (take h.f parts) = bases-at 16 parts h.f own part in
    let room = size-within 16 h.f parts own part fits in
    let r : Range = range_before (16 + total size_of (take h.f parts)) own line (drop (suc h.k) lines) in
    let entry = dats-has (line_text file.name line) r ([], []) 16 (names_of sources files children xs) parts (dats_of files children xs) (later ([], []) 0 16 (omega arith) none-yet) (omega (arith, fits)) rise
    h.f _ own lines names part dat h.k line h.is_line refl refl in
    let here : HasEntry (legend.lines.ranges, legend.lines.texts) (line_text file.name line) r = subst (λ (n : Named). HasEntry n (line_text file.name line) r) (sym is.lines) entry in
    let in_object = one-in 0 (codes_offset own) lines h.k line (rise h.f own lines part dat) h.is_line in
    let below = in_object.below in
    let end = end-is (16 + total size_of (take h.f parts)) (codes_offset own) line.offset (drop (suc h.k) lines) in_object.behind (omega (arith, room)) in
    let from = h.begins in
    let to = h.ends in
    entry-told legend.lines (line_text file.name line) r here address (omega (arith, base, room, below, from)) (omega (arith, base, end, to))
