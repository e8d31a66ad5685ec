-- The image of a project whose names mean one thing is one thing.
use Rattle.std.proofs.Common.{◌≡◌, ◌∙◌, sym, ap, ap₂, subst, refl, arith, ℕ, suc, ◌*◌, ◌==◌, Bool, true, false, if◌then◌else◌, List, [], ◌∷◌, length, map, slice_get, Option, Some, None}
use Rattle.std.specs.Prelude.{codes}
use Rattle.std.proofs.lemmas.Option.{same_Some}
use Rattle.p8_tree.specs.declared.places.Place.{Place}
use Rattle.p8_tree.specs.Names.{is_local}
use Rattle.p8_tree.specs.Sources.{MethodTree, Source}
use Rattle.p8_tree.specs.Statements.{Statements}
use Rattle.p8_tree.specs.Projects.{NamedSource}
use Rattle.p8_fold.specs.Meanings.{Setting}
use Rattle.p8_constants.specs.FileItems.{items}
use Rattle.p8_kinds.specs.declared.children.Children.{Children}
use Rattle.p8_kinds.specs.declared.kinds.Kinds.{Kinds}
use Rattle.p8_kinds.specs.declared.name_kinds.Label.{Label}
use Rattle.p8_kinds.specs.declared.name_kinds.NameKind.{NameKind}
use Rattle.p8_kinds.specs.Kinds.{own}
use Rattle.p8_names.specs.Kinds.{kinds, numbered}
use Rattle.p8_names.specs.Mentions.{AreDistinct, HaveNoRing}
use Rattle.p8_dat.specs.declared.spots.Spot.{Spot}
use Rattle.p8_dat.specs.Spots.{Placed}
use Rattle.p8_dat.specs.Blocks.{dat_bytes, placed_lines}
use Rattle.p8_dat.specs.Labels.{size_of_kind, label_of, with_label_of, labels_of}
use Rattle.p8_gen.specs.declared.code.StringUse.{StringUse}
use Rattle.p8_gen.specs.Names.{Names, widened, wide_in}
use Rattle.p8_gen.specs.Uses.{use_of}
use Rattle.p8_stmt.specs.declared.code.MethodCode.{MethodCode}
use Rattle.p8_stmt.specs.Jumps.{IsLeast}
use Rattle.p8_meaning.specs.Constants.{constants_in}
use Rattle.p8_meaning.specs.Folding.{folded_body}
use Rattle.p8_image.specs.declared.clocks.Clock.{Clock}
use Rattle.p8_image.specs.declared.parts.MethodPart.{MethodPart}
use Rattle.p8_image.specs.declared.parts.ObjectPart.{ObjectPart}
use Rattle.p8_image.specs.declared.parts.TextUse.{TextUse}
use Rattle.p8_image.specs.Clocks.{clock_of}
use Rattle.p8_image.specs.Layout.{image_of}
use Rattle.p8_build.specs.Strings.{Texts}
use Rattle.p8_build.specs.Parts.{data_start, text_number, strings_of, use_of_text, method_part, method_parts, object_part}
use Rattle.p8_build.specs.Files.{CompiledFile, setting_of, method_names, object_of}
use Rattle.p8_build.specs.Builds.{IsFile, AreCompiled, objects_of, constant_named, constant_value, clock_by}
use Rattle.p8_build.proofs.One.{AreAlike, of_file, same_setting, same_method_names}
use Rattle.p8_build.proofs.Wholes.{objects_same}
use Rattle.p8_prop.specs.Images.{HasKinds, HasCode, IsCompilation, AreCompilations, IsImageOf}
use Rattle.p8_prop.proofs.Naming.{beside}
use Rattle.p8_prop.proofs.Imaging.{coding}
use Rattle.p8_prop.proofs.OneNames.{HasOneSetting, one-setting}
use Rattle.p8_prop.proofs.OneView.{HaveOneSetting, one-view}

-- ---- names and data

alike : (source : Source) (children : Children) (k l : Kinds) → HasOneSetting source children.items → HasKinds source children k → HasKinds source children l
    → AreAlike source k l
alike source children k l one p q =
    let same : p.setting ≡ q.setting = one p.setting q.setting p.right q.right in
    record { each = λ m n within. p.each m n within ∙ ap (λ (s : Setting). kinds s (items source) m n) same ∙ sym (q.each m n within) }

with-same : (k l : Kinds) (o : Option (List ℕ)) (p : Spot) (xs ys : List Label) → ((n : List ℕ) → own k 0 n ≡ own l 0 n) → xs ≡ ys
    → with_label_of k o p xs ≡ with_label_of l o p ys
with-same k l None p xs ys h e = e
with-same k l (Some n) p xs ys h e =
    ap (λ (zs : List Label). if is_local n then zs else label_of k n p ∷ zs) e
    ∙ ap (λ (o : Option NameKind). if is_local n then ys else record { name = n; offset = p.offset; cog = p.cog; size = size_of_kind o } ∷ ys) (h n)

labels-same : (k l : Kinds) → ((n : List ℕ) → own k 0 n ≡ own l 0 n) → (xs : List Placed) → labels_of k xs ≡ labels_of l xs
labels-same k l h [] = refl
labels-same k l h (x ∷ xs) = with-same k l x.line.label x.at (labels_of k xs) (labels_of l xs) h (labels-same k l h xs)

-- ---- the code of a method

same-choices : (v w : List Bool) → length v ≡ length w → ((k : ℕ) → slice_get v k ≡ Some true → slice_get w k ≡ Some true)
    → ((k : ℕ) → slice_get w k ≡ Some true → slice_get v k ≡ Some true) → v ≡ w
same-choices [] [] long there back = refl
same-choices [] (b ∷ w) long there back = absurd (omega (arith, long))
same-choices (a ∷ v) [] long there back = absurd (omega (arith, long))
same-choices (true ∷ v) (true ∷ w) long there back =
    ap (λ (v : List Bool). true ∷ v) (same-choices v w (omega (arith, long)) (λ k. there (suc k)) (λ k. back (suc k)))
same-choices (false ∷ v) (false ∷ w) long there back =
    ap (λ (v : List Bool). false ∷ v) (same-choices v w (omega (arith, long)) (λ k. there (suc k)) (λ k. back (suc k)))
same-choices (true ∷ v) (false ∷ w) long there back = absurd (let never : Some false ≡ Some true = there 0 refl in cc)
same-choices (false ∷ v) (true ∷ w) long there back = absurd (let never : Some false ≡ Some true = back 0 refl in cc)

-- there is one least choice of wide jumps
one-least : (names : Names) (ss : Statements) (v w : List Bool) → IsLeast names ss v → IsLeast names ss w → v ≡ w
one-least names ss v w p q =
    let long : length v ≡ length w = p.count ∙ sym q.count in
    same-choices v w long (p.least w (sym long) q.fits) (q.least v long p.fits)

-- what the image has of a use of a text is told by its number and its place
abbrev told-use : Texts → ℕ × Place → TextUse
told-use strings u = record { at = u.0; text = text_number strings u.1 }

uses-told : (strings : Texts) (xs : List StringUse) → map (use_of_text strings) xs ≡ map (told-use strings) (map use_of xs)
uses-told strings [] = refl
uses-told strings (x ∷ xs) = ap (λ (us : List TextUse). use_of_text strings x ∷ us) (uses-told strings xs)

-- one code gives one part of the image
one-part : (strings : Texts) (names : Names) (m : MethodTree) (body : Statements) (c d : MethodCode) → HasCode names m body c → HasCode names m body d
    → method_part strings m c ≡ method_part strings m d
one-part strings names m body c d p q =
    let uses : map (use_of_text strings) c.strings ≡ map (use_of_text strings) d.strings =
    uses-told strings c.strings ∙ ap (map (told-use strings)) (p.strings ∙ sym q.strings) ∙ sym (uses-told strings d.strings) in
    λ i. record { parameters = 4 * length m.params; locals = (p.locals ∙ sym q.locals) i; code = (p.bytes ∙ sym q.bytes) i; uses = uses i }

one-part-by : (short : Bool) (strings : Texts) (s : Setting) (names : Names) (m : MethodTree) (c d : MethodCode) → coding short s names m c
    → coding short s names m d → method_part strings m c ≡ method_part strings m d
one-part-by false strings s names m c d p q = one-part strings names m m.body c d p q
one-part-by true strings s names m c d p q =
    let body = folded_body (constants_in s) m.body in
    let same : q.widths ≡ p.widths = one-least names body q.widths p.widths q.least p.least in
    one-part strings (widened names (wide_in p.widths)) m body c d p.code_is
    (subst (λ (widths : List Bool). HasCode (widened names (wide_in widths)) m body d) same q.code_is)

parts-same : (strings : Texts) (ms : List MethodTree) (cs ds : List MethodCode) → length cs ≡ length ms → length ds ≡ length ms
    → ((k : ℕ) (m : MethodTree) (c d : MethodCode) → slice_get ms k ≡ Some m → slice_get cs k ≡ Some c → slice_get ds k ≡ Some d
    → method_part strings m c ≡ method_part strings m d)
    → method_parts strings ms cs ≡ method_parts strings ms ds
parts-same strings [] cs ds long other each = refl
parts-same strings (m ∷ ms) [] ds long other each = absurd (omega (arith, long))
parts-same strings (m ∷ ms) (c ∷ cs) [] long other each = absurd (omega (arith, other))
parts-same strings (m ∷ ms) (c ∷ cs) (d ∷ ds) long other each =
    ap₂ (λ (part : MethodPart) (rest : List MethodPart). part ∷ rest) (each 0 m c d refl refl refl)
    (parts-same strings ms cs ds (omega (arith, long)) (omega (arith, other)) (λ k. each (suc k)))

-- ---- a file

module _ (short : Bool) (source : Source) (children : Children) (one : HasOneSetting source children.items) (x y : CompiledFile)
    (p : IsCompilation (coding short) source children x) (q : IsCompilation (coding short) source children y) where
  names-alike : AreAlike source x.kinds y.kinds
  names-alike = alike source children x.kinds y.kinds one p.names q.names

  settings : setting_of children x ≡ setting_of children y
  settings = same_setting source children x.kinds y.kinds names-alike

  dats : x.dat ≡ y.dat
  dats = p.dat.bytes ∙ ap (λ (s : Setting). dat_bytes s (data_start s source) source) settings ∙ sym q.dat.bytes

  labels : x.labels ≡ y.labels
  labels =
      let s = setting_of children y in
      p.dat.labels ∙ ap (λ (s : Setting). labels_of x.kinds (placed_lines s (data_start s source) source)) settings
      ∙ labels-same x.kinds y.kinds (of_file source x.kinds y.kinds names-alike) (placed_lines s (data_start s source) source) ∙ sym q.dat.labels

  parts : (strings : Texts) → method_parts strings (numbered (items source)) x.codes ≡ method_parts strings (numbered (items source)) y.codes
  parts strings = parts-same strings (numbered (items source)) x.codes y.codes p.codes.count q.codes.count (λ k m c d at at_c at_d.
      let s = setting_of children y in
      let names = method_names children y k m in
      one-part-by short strings s names m c d
      (subst (λ (s : Setting). coding short s names m c) settings
      (subst (λ (names : Names). coding short (setting_of children x) names m c) (same_method_names source children x y k m names-alike labels at)
      (p.codes.each k m c at at_c)))
      (q.codes.each k m d at at_d))

  one-object : (files : List NamedSource) → object_of files source children x ≡ object_of files source children y
  one-object files =
      ap₂ (λ (s : Setting) (dat : List ℕ). object_part files s source dat x.codes) settings dats
      ∙ ap (λ (ms : List MethodPart). record (object_part files (setting_of children y) source y.dat x.codes) { methods = ms }) (parts (strings_of source))

  constants-same : (n : List ℕ) → constant_named x.kinds n ≡ constant_named y.kinds n
  constants-same n = ap constant_value (of_file source x.kinds y.kinds names-alike n)

-- ---- a project

module _ (short : Bool) (files : List NamedSource) (children : List Children) (one : HaveOneSetting files children) (seen : length children ≡ length files)
    (xs ys : List CompiledFile) (p : AreCompilations (coding short) files children xs) (q : AreCompilations (coding short) files children ys) where
  one-objects : objects_of files children xs ≡ objects_of files children ys
  one-objects = objects_same files files children xs ys seen p.count q.count (λ i f c x y at_f at_c at_x at_y.
      let is : IsFile files children i f c = record { stands = at_f; beside = at_c } in
      one-object short f.tree c (one i f c at_f at_c) x y (p.each i f c x is at_x) (q.each i f c y is at_y) files)

clock-same : (k l : Kinds) → ((n : List ℕ) → constant_named k n ≡ constant_named l n)
    → clock_of (constant_named k (codes "_CLKMODE")) (constant_named k (codes "_CLKFREQ")) (constant_named k (codes "_XINFREQ"))
    ≡ clock_of (constant_named l (codes "_CLKMODE")) (constant_named l (codes "_CLKFREQ")) (constant_named l (codes "_XINFREQ"))
clock-same k l same =
    λ i. clock_of (same (codes "_CLKMODE") i) (same (codes "_CLKFREQ") i) (same (codes "_XINFREQ") i)

one-clock : (short : Bool) (files : List NamedSource) (children : List Children) (xs ys : List CompiledFile) → HaveOneSetting files children
    → length children ≡ length files → AreCompilations (coding short) files children xs → AreCompilations (coding short) files children ys → clock_by xs ≡ clock_by ys
one-clock short [] children [] [] one seen p q = refl
one-clock short [] children (x ∷ xs) ys one seen p q = absurd (omega (arith, p.count))
one-clock short [] children [] (y ∷ ys) one seen p q = absurd (omega (arith, q.count))
one-clock short (f ∷ files) [] xs ys one seen p q = absurd (omega (arith, seen))
one-clock short (f ∷ files) (c ∷ children) [] ys one seen p q = absurd (omega (arith, p.count))
one-clock short (f ∷ files) (c ∷ children) (x ∷ xs) [] one seen p q = absurd (omega (arith, q.count))
one-clock short (f ∷ files) (c ∷ children) (x ∷ xs) (y ∷ ys) one seen p q =
    let is : IsFile (f ∷ files) (c ∷ children) 0 f c = record { stands = refl; beside = refl } in
    clock-same x.kinds y.kinds (constants-same short f.tree c (one 0 f c refl refl) x y (p.each 0 f c x is refl) (q.each 0 f c y is refl))

-- The image of a project is one thing: whatever children, codes and objects are named for it.
pub one-image : (short : Bool) (files : List NamedSource) → AreDistinct files → HaveNoRing files → (a b : List Children) → HaveOneSetting files a
    → (xs ys : List CompiledFile) (objects others : List ObjectPart) (image other : List ℕ)
    → IsImageOf (coding short) files a xs objects image → IsImageOf (coding short) files b ys others other → image ≡ other
one-image short files distinct no_ring a b one xs ys objects others image other p q =
    let same : b ≡ a = sym (one-view files distinct a b one p.seen q.seen no_ring) in
    let compiled : AreCompilations (coding short) files a ys = subst (λ (c : List Children). AreCompilations (coding short) files c ys) same q.compiled in
    let found : objects ≡ others =
    p.laid_out ∙ one-objects short files a one p.seen.one_each xs ys p.compiled compiled
    ∙ ap (λ (c : List Children). objects_of files c ys) (sym same) ∙ sym q.laid_out in
    let clock : p.clock ≡ q.clock =
    same_Some _ _ (sym p.clock_is ∙ one-clock short files a xs ys one p.seen.one_each p.compiled compiled ∙ q.clock_is) in
    p.is ∙ ap₂ (λ (c : Clock) (os : List ObjectPart). image_of c os) clock found ∙ sym q.is

-- ---- an accepted project

-- its names mean one thing
pub settings-of : (files : List NamedSource) (children : List Children) (xs : List CompiledFile) → AreCompiled files children xs
    → HaveOneSetting files children
settings-of files children xs are i file seen at at' =
    let it = beside xs files i file (sym are.count) at in
    let named = (are.each i file seen it.0 (record { stands = at; beside = at' }) it.1).names in
    one-setting file.tree seen (i == 0) named.setting named.clean named.right
