-- A project has one code, and an image where it has a code; and what a file is whose code is read.
use Rattle.std.proofs.Common.{◌≡◌, ◌∙◌, ap, sym, subst, refl, arith, ℕ, suc, ◌==◌, Bool, true, false, List, [], ◌∷◌, length, slice_get, Some, None}
use Rattle.std.proofs.lemmas.Option.{slice_get_within}
use Rattle.p8_tree.specs.Projects.{NamedSource}
use Rattle.p8_tree.specs.Sources.{Source}
use Rattle.p8_fold.specs.Meanings.{Setting}
use Rattle.p8_kinds.specs.declared.children.Children.{Children}
use Rattle.p8_kinds.specs.declared.kinds.Kinds.{Kinds}
use Rattle.p8_kinds.specs.FileSettings.{file_setting}
use Rattle.p8_names.specs.Children.{AreChildren}
use Rattle.p8_stmt.specs.declared.code.MethodCode.{MethodCode}
use Rattle.p8_image.specs.declared.clocks.Clock.{Clock}
use Rattle.p8_image.specs.declared.parts.ObjectPart.{ObjectPart}
use Rattle.p8_build.specs.Files.{CompiledFile, setting_of, line_begins, IsCompiled}
use Rattle.p8_build.specs.Builds.{AreCompiled, IsBuilt, IsFile, objects_of}
use Rattle.p8_build.proofs.Lists.{element}
use Rattle.p8_build.proofs.One.{alike, same_codes, same_labels, same_setting}
use Rattle.p8_build.proofs.Wholes.{one_objects}
use Rattle.p8_opt.specs.Shorts.{AreShort, IsShort, IsShortBuilt}
use Rattle.p8_opt.proofs.Once.{built-once, codes-once}
use Rattle.p8_map.specs.Projects.{names_of}
use Rattle.p8_code.specs.Sources.{lines_of}
use Rattle.p8_code.specs.Listing.{FileCode, code_of}
use Rattle.p8_code.specs.Projects.{file_codes, IsCodeOf, IsShortCodeOf}
use Rattle.p8_io.specs.Shelves.{Files, IsRead}
use Rattle.p8_commands.specs.declared.image_kind.ImageKind.{ImageKind}
use Rattle.p8_commands.specs.declared.image_kind.ImageKind.TheVariants as kind
use Rattle.p8_inputs.specs.Inputs.{IsProgram}
use Rattle.p8_inputs.specs.Programs.{fault_of, format_of}
use Rattle.p8_inputs.specs.Sources.{IsBuiltBy, IsCodeBy}
use Rattle.p8_inputs.proofs.Mapping.{one-names}

-- what is known of a file, by its names and the codes of its methods
abbrev code_with : (bytes : List ℕ) → Source → Setting → List MethodCode → FileCode
code_with bytes tree setting codes = record { source = lines_of bytes; lines = line_begins setting tree; methods = codes }

abbrev code_by : (bytes : List ℕ) → NamedSource → Children → CompiledFile → FileCode
code_by bytes file seen x = code_with bytes file.tree (setting_of seen x) x.codes

one-code : (bytes : List ℕ) (file : NamedSource) (seen : Children) (top : Bool) (x y : CompiledFile) → IsCompiled file.tree seen top x → IsCompiled file.tree seen top y → code_by bytes file seen x ≡ code_by bytes file seen y
one-code bytes file seen top x y a b =
    let h = alike file.tree seen top x.kinds y.kinds a.names b.names in
    let labels = same_labels file.tree seen x y h a.dat b.dat in
    ap (λ (s : Setting). code_with bytes file.tree s x.codes) (same_setting file.tree seen x.kinds y.kinds h)
    ∙ ap (code_with bytes file.tree (setting_of seen y)) (same_codes file.tree seen x y h labels a.code b.code)

-- the same with short code
short-code : (bytes : List ℕ) (files : List NamedSource) (file : NamedSource) (seen : Children) (top : Bool) (x y v w : CompiledFile) → IsCompiled file.tree seen top x → IsCompiled file.tree seen top y
    → IsShort file.tree seen x v → IsShort file.tree seen y w → code_by bytes file seen v ≡ code_by bytes file seen w
short-code bytes files file seen top x y v w a b s t =
    let h = alike file.tree seen top x.kinds y.kinds a.names b.names in
    let setting : setting_of seen v ≡ setting_of seen w =
    ap (λ (k : Kinds). file_setting k seen) s.kinds ∙ same_setting file.tree seen x.kinds y.kinds h ∙ ap (λ (k : Kinds). file_setting k seen) (sym t.kinds) in
    ap (λ (u : Setting). code_with bytes file.tree u v.codes) setting
    ∙ ap (code_with bytes file.tree (setting_of seen w)) (codes-once files file.tree seen top x y v w a b s t)

codes-same : (ts : List (List ℕ)) (fs : List NamedSource) (cs : List Children) (xs ys : List CompiledFile) → length cs ≡ length fs → length xs ≡ length fs → length ys ≡ length fs
    → ((i : ℕ) (t : List ℕ) (f : NamedSource) (c : Children) (x y : CompiledFile) → slice_get fs i ≡ Some f → slice_get cs i ≡ Some c → slice_get xs i ≡ Some x → slice_get ys i ≡ Some y → code_by t f c x ≡ code_by t f c y)
    → file_codes ts fs cs xs ≡ file_codes ts fs cs ys
codes-same [] fs cs xs ys a b d each = refl
codes-same (t ∷ ts) [] cs xs ys a b d each = refl
codes-same (t ∷ ts) (f ∷ fs) [] xs ys a b d each = absurd (omega arith)
codes-same (t ∷ ts) (f ∷ fs) (c ∷ cs) [] ys a b d each = absurd (omega arith)
codes-same (t ∷ ts) (f ∷ fs) (c ∷ cs) (x ∷ xs) [] a b d each = absurd (omega arith)
codes-same (t ∷ ts) (f ∷ fs) (c ∷ cs) (x ∷ xs) (y ∷ ys) a b d each =
    ap (λ o. o ∷ file_codes ts fs cs xs) (each 0 t f c x y refl refl refl refl) ∙ ap (λ os. code_by t f c y ∷ os) (codes-same ts fs cs xs ys (omega arith) (omega arith) (omega arith) (λ i. each (suc i)))

one-codes : (texts : List (List ℕ)) (files : List NamedSource) (children : List Children) (xs ys : List CompiledFile) → length children ≡ length files → AreCompiled files children xs → AreCompiled files children ys
    → file_codes texts files children xs ≡ file_codes texts files children ys
one-codes texts files children xs ys beside a b =
    codes-same texts files children xs ys beside a.count b.count (λ i t f c x y at_f at_c at_x at_y.
    let is : IsFile files children i f c = record { stands = at_f; beside = at_c } in
    one-code t f c (i == 0) x y (a.each i f c x is at_x) (b.each i f c y is at_y))

short-codes : (texts : List (List ℕ)) (files : List NamedSource) (children : List Children) (xs ys vs ws : List CompiledFile) → length children ≡ length files → AreCompiled files children xs → AreCompiled files children ys
    → AreShort files children xs vs → AreShort files children ys ws → file_codes texts files children vs ≡ file_codes texts files children ws
short-codes texts files children xs ys vs ws beside a b s t =
    codes-same texts files children vs ws beside (s.count ∙ a.count) (t.count ∙ b.count) (λ i bytes f c v w at_f at_c at_v at_w.
    let inside = slice_get_within files i f at_f in
    let one = a.count in
    let two = b.count in
    let x = element xs i (omega (arith, inside, one)) in
    let y = element ys i (omega (arith, inside, two)) in
    let is : IsFile files children i f c = record { stands = at_f; beside = at_c } in
    short-code bytes files f c (i == 0) x.0 y.0 v w (a.each i f c x.0 is x.1) (b.each i f c y.0 is y.1) (s.each i f c x.0 v is x.1 at_v) (t.each i f c y.0 w is y.1 at_w))

-- a project with a code is built
abbrev as-it_stands : (texts : List (List ℕ)) (files : List NamedSource) (text : List ℕ) (is : IsCodeOf texts files text) → IsBuilt files is.clock (objects_of files is.children is.compiled)
as-it_stands texts files text is = record { children = is.children; seen = is.seen; compiled = is.compiled; each = is.each; objects_are = refl; clock_is = is.clock_is; fits = is.fits }

abbrev shortened : (texts : List (List ℕ)) (files : List NamedSource) (text : List ℕ) (is : IsShortCodeOf texts files text) → IsShortBuilt files is.clock (objects_of files is.children is.short)
shortened texts files text is = record {
  children = is.children;
  seen = is.seen;
  compiled = is.compiled;
  each = is.each;
  clock_is = is.clock_is;
  fits = is.fits;
  short = is.short;
  shorter = is.shorter;
  objects_are = refl;
}

pub code-built : (short : Bool) (texts : List (List ℕ)) (files : List NamedSource) (text : List ℕ) → IsCodeBy short texts files text → (clock : Clock) × (objects : List ObjectPart) × IsBuiltBy short files clock objects
code-built false texts files text is = (is.clock, objects_of files is.children is.compiled, as-it_stands texts files text is)
code-built true texts files text is = (is.clock, objects_of files is.children is.short, shortened texts files text is)

-- a file without a fault is an image
pub image-there : (files : Files) (k : ImageKind) (file bytes : List ℕ) → IsRead files file bytes → fault_of (format_of k) bytes ≡ None → IsProgram files (format_of k) file bytes
image-there files kind.Binary file bytes read good = (read, good)
image-there files kind.Eeprom file bytes read good = (read, good)

-- what the files see is one thing, and so is the code
pub code-one : (short : Bool) (texts : List (List ℕ)) (files : List NamedSource) → ((a b : List Children) → AreChildren files a → AreChildren files b → a ≡ b) → (a b : List ℕ) → IsCodeBy short texts files a → IsCodeBy short texts files b → a ≡ b
code-one false texts files view a b p q =
    let same : q.children ≡ p.children = view q.children p.children q.seen p.seen in
    let each : AreCompiled files p.children q.compiled = subst (λ (cs : List Children). AreCompiled files cs q.compiled) same q.each in
    let names : names_of texts files p.children p.compiled ≡ names_of texts files q.children q.compiled =
    one-names texts files p.children p.compiled q.compiled p.seen.one_each p.each each ∙ ap (λ (cs : List Children). names_of texts files cs q.compiled) (sym same) in
    let objects : objects_of files p.children p.compiled ≡ objects_of files q.children q.compiled =
    one_objects files p.children p.compiled q.compiled p.seen.one_each p.each each ∙ ap (λ (cs : List Children). objects_of files cs q.compiled) (sym same) in
    let codes : file_codes texts files p.children p.compiled ≡ file_codes texts files q.children q.compiled =
    one-codes texts files p.children p.compiled q.compiled p.seen.one_each p.each each ∙ ap (λ (cs : List Children). file_codes texts files cs q.compiled) (sym same) in
    p.is ∙ (λ i. code_of (names i) (objects i) (codes i)) ∙ sym q.is
code-one true texts files view a b p q =
    let same : q.children ≡ p.children = view q.children p.children q.seen p.seen in
    let each : AreCompiled files p.children q.compiled = subst (λ (cs : List Children). AreCompiled files cs q.compiled) same q.each in
    let shorter : AreShort files p.children q.compiled q.short = subst (λ (cs : List Children). AreShort files cs q.compiled q.short) same q.shorter in
    let names : names_of texts files p.children p.compiled ≡ names_of texts files q.children q.compiled =
    one-names texts files p.children p.compiled q.compiled p.seen.one_each p.each each ∙ ap (λ (cs : List Children). names_of texts files cs q.compiled) (sym same) in
    let built = built-once files p.clock q.clock (objects_of files p.children p.short) (objects_of files q.children q.short) (shortened texts files a p) (shortened texts files b q) same in
    let objects : objects_of files p.children p.short ≡ objects_of files q.children q.short = built.1 in
    let codes : file_codes texts files p.children p.short ≡ file_codes texts files q.children q.short =
    short-codes texts files p.children p.compiled q.compiled p.short q.short p.seen.one_each p.each each p.shorter shorter ∙ ap (λ (cs : List Children). file_codes texts files cs q.short) (sym same) in
    p.is ∙ (λ i. code_of (names i) (objects i) (codes i)) ∙ sym q.is
