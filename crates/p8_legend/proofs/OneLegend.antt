-- A project has one legend, and an image where it has a legend.
use Rattle.std.proofs.Common.{◌≡◌, ◌∙◌, ap, sym, subst, refl, arith, ℕ, suc, ◌==◌, Bool, List, [], ◌∷◌, length, slice_get, Some}
use Rattle.std.proofs.lemmas.Option.{same_Some}
use Rattle.p8_tree.specs.Projects.{NamedSource}
use Rattle.p8_fold.specs.Meanings.{Setting}
use Rattle.p8_kinds.specs.declared.children.Children.{Children}
use Rattle.p8_kinds.specs.declared.name_kinds.Label.{Label}
use Rattle.p8_names.specs.Children.{AreChildren}
use Rattle.p8_image.specs.declared.clocks.Clock.{Clock}
use Rattle.p8_image.specs.Headers.{word_at}
use Rattle.p8_image.specs.Layout.{image_of}
use Rattle.p8_stmt.specs.declared.code.MethodCode.{MethodCode}
use Rattle.p8_build.specs.Files.{CompiledFile, line_begins, setting_of, IsCompiled}
use Rattle.p8_build.specs.Builds.{AreCompiled, IsBuilt, IsFile, objects_of}
use Rattle.p8_build.proofs.One.{alike, same_labels, same_setting, same_codes}
use Rattle.p8_build.proofs.Wholes.{one_clock, one_objects}
use Rattle.p8_lexer.specs.Spelling.{text_in}
use Rattle.p8_legend.specs.declared.legend.Legend.{Legend}
use Rattle.p8_legend.specs.Rows.{codes_of, rows_from}
use Rattle.p8_map.specs.declared.names.FileNames.{FileNames}
use Rattle.p8_map.specs.Names.{file_names}
use Rattle.p8_map.specs.Projects.{names_of}
use Rattle.p8_legend.specs.ProjectLegends.{Named, names_in, with_rows}
use Rattle.p8_legend.specs.DatLines.{dats_of, with_dats}
use Rattle.p8_legend.specs.Frames.{with_locals}
use Rattle.p8_legend.specs.Projects.{IsLegendOf, AreSame}

-- the names of a file, by what it is compiled to
abbrev names_by : (bytes : List ℕ) → NamedSource → Children → CompiledFile → FileNames
names_by bytes file seen x = file_names (text_in bytes) file (setting_of seen x) x.labels

one-name : (bytes : List ℕ) (file : NamedSource) (seen : Children) (top : Bool) (x y : CompiledFile) → IsCompiled file.tree seen top x → IsCompiled file.tree seen top y → names_by bytes file seen x ≡ names_by bytes file seen y
one-name bytes file seen top x y a b =
    let h = alike file.tree seen top x.kinds y.kinds a.names b.names in
    ap (λ (s : Setting). file_names (text_in bytes) file s x.labels) (same_setting file.tree seen x.kinds y.kinds h)
    ∙ ap (λ (labels : List Label). file_names (text_in bytes) file (setting_of seen y) labels) (same_labels file.tree seen x y h a.dat b.dat)

one-code : (file : NamedSource) (seen : Children) (top : Bool) (x y : CompiledFile) → IsCompiled file.tree seen top x → IsCompiled file.tree seen top y → x.codes ≡ y.codes
one-code file seen top x y a b =
    let h = alike file.tree seen top x.kinds y.kinds a.names b.names in
    same_codes file.tree seen x y h (same_labels file.tree seen x y h a.dat b.dat) a.code b.code

-- files that are compiled in two ways, one after the other
record AreTwo (fs : List NamedSource) (cs : List Children) (xs ys : List CompiledFile) : Type 0 where
  beside : length cs ≡ length fs
  ones : length xs ≡ length fs
  others : length ys ≡ length fs
  names : (i : ℕ) (t : List ℕ) (f : NamedSource) (c : Children) (x y : CompiledFile) → slice_get fs i ≡ Some f → slice_get cs i ≡ Some c → slice_get xs i ≡ Some x → slice_get ys i ≡ Some y → names_by t f c x ≡ names_by t f c y
  codes : (i : ℕ) (f : NamedSource) (c : Children) (x y : CompiledFile) → slice_get fs i ≡ Some f → slice_get cs i ≡ Some c → slice_get xs i ≡ Some x → slice_get ys i ≡ Some y → x.codes ≡ y.codes
  settings : (i : ℕ) (f : NamedSource) (c : Children) (x y : CompiledFile) → slice_get fs i ≡ Some f → slice_get cs i ≡ Some c → slice_get xs i ≡ Some x → slice_get ys i ≡ Some y → setting_of c x ≡ setting_of c y

behind : (f : NamedSource) (fs : List NamedSource) (c : Children) (cs : List Children) (x : CompiledFile) (xs : List CompiledFile) (y : CompiledFile) (ys : List CompiledFile) → AreTwo (f ∷ fs) (c ∷ cs) (x ∷ xs) (y ∷ ys) → AreTwo fs cs xs ys
behind f fs c cs x xs y ys two =
    let beside = two.beside in
    let ones = two.ones in
    let others = two.others in
    record { beside = omega (arith, beside); ones = omega (arith, ones); others = omega (arith, others); names = λ i. two.names (suc i); codes = λ i. two.codes (suc i); settings = λ i. two.settings (suc i) }

names-same : (ts : List (List ℕ)) (fs : List NamedSource) (cs : List Children) (xs ys : List CompiledFile) → AreTwo fs cs xs ys → names_of ts fs cs xs ≡ names_of ts fs cs ys
names-same [] fs cs xs ys two = refl
names-same (t ∷ ts) [] cs xs ys two = refl
names-same (t ∷ ts) (f ∷ fs) [] xs ys two = absurd (omega (arith, two.beside))
names-same (t ∷ ts) (f ∷ fs) (c ∷ cs) [] ys two = absurd (omega (arith, two.ones))
names-same (t ∷ ts) (f ∷ fs) (c ∷ cs) (x ∷ xs) [] two = absurd (omega (arith, two.others))
names-same (t ∷ ts) (f ∷ fs) (c ∷ cs) (x ∷ xs) (y ∷ ys) two =
    ap (λ o. o ∷ names_of ts fs cs xs) (two.names 0 t f c x y refl refl refl refl) ∙ ap (λ os. names_by t f c y ∷ os) (names-same ts fs cs xs ys (behind f fs c cs x xs y ys two))

codes-same : (fs : List NamedSource) (cs : List Children) (xs ys : List CompiledFile) → AreTwo fs cs xs ys → codes_of xs ≡ codes_of ys
codes-same [] cs [] [] two = refl
codes-same [] cs (x ∷ xs) ys two = absurd (omega (arith, two.ones))
codes-same [] cs [] (y ∷ ys) two = absurd (omega (arith, two.others))
codes-same (f ∷ fs) [] xs ys two = absurd (omega (arith, two.beside))
codes-same (f ∷ fs) (c ∷ cs) [] ys two = absurd (omega (arith, two.ones))
codes-same (f ∷ fs) (c ∷ cs) (x ∷ xs) [] two = absurd (omega (arith, two.others))
codes-same (f ∷ fs) (c ∷ cs) (x ∷ xs) (y ∷ ys) two =
    ap (λ (o : List MethodCode). o ∷ codes_of xs) (two.codes 0 f c x y refl refl refl refl) ∙ ap (λ os. y.codes ∷ os) (codes-same fs cs xs ys (behind f fs c cs x xs y ys two))

dats-same : (fs : List NamedSource) (cs : List Children) (xs ys : List CompiledFile) → AreTwo fs cs xs ys → dats_of fs cs xs ≡ dats_of fs cs ys
dats-same [] cs xs ys two = refl
dats-same (f ∷ fs) [] xs ys two = absurd (omega (arith, two.beside))
dats-same (f ∷ fs) (c ∷ cs) [] ys two = absurd (omega (arith, two.ones))
dats-same (f ∷ fs) (c ∷ cs) (x ∷ xs) [] two = absurd (omega (arith, two.others))
dats-same (f ∷ fs) (c ∷ cs) (x ∷ xs) (y ∷ ys) two =
    ap (λ (s : Setting). line_begins s f.tree ∷ dats_of fs cs xs) (two.settings 0 f c x y refl refl refl refl) ∙ ap (λ os. line_begins (setting_of c y) f.tree ∷ os) (dats-same fs cs xs ys (behind f fs c cs x xs y ys two))

-- all files, however they are compiled
both-ways : (files : List NamedSource) (children : List Children) (xs ys : List CompiledFile) → length children ≡ length files → AreCompiled files children xs → AreCompiled files children ys → AreTwo files children xs ys
both-ways files children xs ys beside a b = record {
  beside = beside;
  ones = a.count;
  others = b.count;
  names = λ i t f c x y at_f at_c at_x at_y.
      let is : IsFile files children i f c = record { stands = at_f; beside = at_c } in
      one-name t f c (i == 0) x y (a.each i f c x is at_x) (b.each i f c y is at_y);
  codes = λ i f c x y at_f at_c at_x at_y.
      let is : IsFile files children i f c = record { stands = at_f; beside = at_c } in
      one-code f c (i == 0) x y (a.each i f c x is at_x) (b.each i f c y is at_y);
  settings = λ i f c x y at_f at_c at_x at_y.
      let is : IsFile files children i f c = record { stands = at_f; beside = at_c } in
      let one = a.each i f c x is at_x in
      let other = b.each i f c y is at_y in
      same_setting f.tree c x.kinds y.kinds (alike f.tree c (i == 0) x.kinds y.kinds one.names other.names);
}

-- the names, the places and the locals of a legend, by what the files are compiled to
abbrev named_by : (sources : List (List ℕ)) → List NamedSource → Clock → List CompiledFile → List Children → Named
named_by sources files clock xs children = names_in (word_at (image_of clock (objects_of files children xs)) 8) (names_of sources files children xs) (objects_of files children xs)

abbrev placed_by : (sources : List (List ℕ)) → List NamedSource → List CompiledFile → List Children → Named
placed_by sources files xs children = with_rows ([], []) (names_of sources files children xs) (rows_from 0 16 (objects_of files children xs) (codes_of xs))

abbrev lined_by : (sources : List (List ℕ)) → List NamedSource → List CompiledFile → List Children → Named
lined_by sources files xs children = with_dats ([], []) 16 (names_of sources files children xs) (objects_of files children xs) (dats_of files children xs)

abbrev local_by : (sources : List (List ℕ)) → List NamedSource → Clock → List CompiledFile → List Children → Named
local_by sources files clock xs children = with_locals ([], []) (image_of clock (objects_of files children xs)) (names_of sources files children xs) (rows_from 0 16 (objects_of files children xs) (codes_of xs))

-- what the files see is one thing, and so is the legend
pub legend-one : (sources : List (List ℕ)) (files : List NamedSource) → ((a b : List Children) → AreChildren files a → AreChildren files b → a ≡ b) → (a b : Legend) → IsLegendOf sources files a → IsLegendOf sources files b → AreSame a b
legend-one sources files view a b p q =
    let same : q.children ≡ p.children = view q.children p.children q.seen p.seen in
    let each : AreCompiled files p.children q.compiled = subst (λ (cs : List Children). AreCompiled files cs q.compiled) same q.each in
    let two : AreTwo files p.children p.compiled q.compiled = both-ways files p.children p.compiled q.compiled p.seen.one_each p.each each in
    let clock : p.clock ≡ q.clock = same_Some p.clock q.clock (sym p.clock_is ∙ one_clock files p.children p.compiled q.compiled p.seen.one_each p.each each ∙ q.clock_is) in
    let objects : objects_of files p.children p.compiled ≡ objects_of files p.children q.compiled = one_objects files p.children p.compiled q.compiled p.seen.one_each p.each each in
    let names : names_of sources files p.children p.compiled ≡ names_of sources files p.children q.compiled = names-same sources files p.children p.compiled q.compiled two in
    let codes : codes_of p.compiled ≡ codes_of q.compiled = codes-same files p.children p.compiled q.compiled two in
    let dats : dats_of files p.children p.compiled ≡ dats_of files p.children q.compiled = dats-same files p.children p.compiled q.compiled two in
    record {
      names = p.names
          ∙ (λ i. names_in (word_at (image_of (clock i) (objects i)) 8) (names i) (objects i))
          ∙ ap (named_by sources files q.clock q.compiled) (sym same)
          ∙ sym q.names;
      places = p.places
          ∙ (λ i. with_rows ([], []) (names i) (rows_from 0 16 (objects i) (codes i)))
          ∙ ap (placed_by sources files q.compiled) (sym same)
          ∙ sym q.places;
      lines = p.lines
          ∙ (λ i. with_dats ([], []) 16 (names i) (objects i) (dats i))
          ∙ ap (lined_by sources files q.compiled) (sym same)
          ∙ sym q.lines;
      locals = p.locals
          ∙ (λ i. with_locals ([], []) (image_of (clock i) (objects i)) (names i) (rows_from 0 16 (objects i) (codes i)))
          ∙ ap (local_by sources files q.clock q.compiled) (sym same)
          ∙ sym q.locals;
    }

-- a project with a legend is built
pub legend-built : (sources : List (List ℕ)) (files : List NamedSource) (legend : Legend) (is : IsLegendOf sources files legend) → IsBuilt files is.clock (objects_of files is.children is.compiled)
legend-built sources files legend is = record { children = is.children; seen = is.seen; compiled = is.compiled; each = is.each; objects_are = refl; clock_is = is.clock_is; fits = is.fits }
