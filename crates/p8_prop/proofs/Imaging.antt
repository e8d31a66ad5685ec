-- An accepted project has its image, with short code or without, and the program by which its lives are told.
use Rattle.std.proofs.Common.{◌≡◌, ◌∙◌, sym, ap, subst, refl, arith, ℕ, Bool, true, false, ◌==◌, List, [], ◌∷◌, length}
use Rattle.std.specs.Prelude.{codes}
use Rattle.p8_access.specs.declared.order.Turn.{Turn}
use Rattle.p8_access.specs.Worlds.{World}
use Rattle.p8_tree.specs.Sources.{MethodTree, Source}
use Rattle.p8_tree.specs.Projects.{NamedSource}
use Rattle.p8_tree.specs.Statements.{Statements}
use Rattle.p8_kinds.specs.declared.children.Children.{Children}
use Rattle.p8_kinds.specs.declared.kinds.Kinds.{Kinds}
use Rattle.p8_meaning.specs.Constants.{constants_in}
use Rattle.p8_meaning.specs.Folding.{folded_body}
use Rattle.p8_meaning.specs.Programs.{Program}
use Rattle.p8_gen.specs.Names.{Names, widened, wide_in}
use Rattle.p8_stmt.specs.declared.code.MethodCode.{MethodCode}
use Rattle.p8_stmt.specs.Jumps.{IsShortCode}
use Rattle.p8_stmt.specs.Methods.{IsCodeOf, rebodied}
use Rattle.p8_image.specs.declared.clocks.Clock.{Clock}
use Rattle.p8_image.specs.declared.parts.ObjectPart.{ObjectPart}
use Rattle.p8_image.specs.Clocks.{clock_of}
use Rattle.p8_image.specs.Layout.{image_of}
use Rattle.p8_names.specs.Resolution.{IsNamed}
use Rattle.p8_build.specs.Files.{CompiledFile, IsData, IsCompiled, setting_of, method_names}
use Rattle.p8_build.specs.Builds.{AreCompiled, IsBuilt, clock_by, constant_named}
use Rattle.p8_compiled.specs.Told.{SpinIsTold}
use Rattle.p8_opt.specs.Programs.{program_of, addresses_of}
use Rattle.p8_opt.specs.Shorts.{IsShort, AreShort, IsShortBuilt}
use Rattle.p8_opt.proofs.Kept.{same-program}
use Rattle.p8_io.specs.Shelves.{Files}
use Rattle.p8_inputs.specs.declared.program.Format.TheVariants.{Source as source_format}
use Rattle.p8_prop.specs.Headline as whole
use Rattle.p8_prop.specs.Images.{HasKinds, HasData, HasCode, Coding, Plain, IsCompilation, AreCompilations, IsImageOf}
use Rattle.p8_prop.specs.Shorts.{HasShortCode, Short}
use Rattle.p8_prop.specs.Runs.{IsCompiledFrom}
use Rattle.p8_prop.proofs.Gathering.{gathers}
use Rattle.p8_prop.proofs.Naming.{AreClean, setting-is, beside, children-are}

-- ---- a file

kinds-of : (source : Source) (children : Children) (top : Bool) (found : Kinds) → IsNamed source children top found → HasKinds source children found
kinds-of source children top found named =
    record { setting = named.setting; right = setting-is source children top named.clean named.setting named.right; each = named.each }

data-of : (source : Source) (children : Children) (x : CompiledFile) → IsData source children x → HasData source children x
data-of source children x dat = record { bytes = dat.bytes; labels = dat.labels }

code-of : (names : Names) (m : MethodTree) (body : Statements) (code : MethodCode) → IsCodeOf names (rebodied m body) code → HasCode names m body code
code-of names m body code is = record { bytes = is.bytes; locals = is.locals; strings = is.strings }

short-code-of : (names : Names) (m : MethodTree) (body : Statements) (code : MethodCode) → IsShortCode names m body code → HasShortCode names m body code
short-code-of names m body code is =
    record { widths = is.widths; least = is.least; code_is = code-of (widened names (wide_in is.widths)) m body code is.code_is }

file-of : (source : Source) (children : Children) (top : Bool) (x : CompiledFile) → IsCompiled source children top x → IsCompilation Plain source children x
file-of source children top x is = record {
  names = kinds-of source children top x.kinds is.names;
  dat = data-of source children x is.dat;
  codes = record {
    count = is.code.count;
    each = λ k m code at has. code-of (method_names children x k m) m m.body code (is.code.each k m code at has);
  };
}

-- the file with short code, which has the names and the data of the other
recoded : CompiledFile → CompiledFile → CompiledFile
recoded x y = record { kinds = x.kinds; dat = x.dat; labels = x.labels; codes = y.codes }

recoded-is : (source : Source) (children : Children) (x y : CompiledFile) → IsShort source children x y → y ≡ recoded x y
unfolding recoded
recoded-is source children x y short = λ i. record { kinds = short.kinds i; dat = short.dat i; labels = short.labels i; codes = y.codes }

short-recoded : (source : Source) (children : Children) (top : Bool) (x y : CompiledFile) → IsCompiled source children top x → IsShort source children x y
    → IsCompilation Short source children (recoded x y)
unfolding recoded
short-recoded source children top x y is short = record {
  names = kinds-of source children top x.kinds is.names;
  dat = record { bytes = is.dat.bytes; labels = is.dat.labels };
  codes = record {
    count = short.count;
    each = λ k m code at has. short-code-of (method_names children x k m) m (folded_body (constants_in (setting_of children x)) m.body) code (short.each k m code at has);
  };
}

short-file-of : (source : Source) (children : Children) (top : Bool) (x y : CompiledFile) → IsCompiled source children top x → IsShort source children x y
    → IsCompilation Short source children y
short-file-of source children top x y is short =
    subst (IsCompilation Short source children) (sym (recoded-is source children x y short)) (short-recoded source children top x y is short)

-- ---- a project

files-of : (files : List NamedSource) (children : List Children) (xs : List CompiledFile) → AreCompiled files children xs → AreCompilations Plain files children xs
files-of files children xs are =
    record { count = are.count; each = λ i file seen x at has. file-of file.tree seen (i == 0) x (are.each i file seen x at has) }

-- and nothing is wrong with its names
clean-of : (files : List NamedSource) (children : List Children) (xs : List CompiledFile) → AreCompiled files children xs → AreClean files children
clean-of files children xs are i file seen at at' =
    let it = beside xs files i file (sym are.count) at in
    (i == 0, (are.each i file seen it.0 (record { stands = at; beside = at' }) it.1).names.clean)

module _ (files : List NamedSource) (children : List Children) (xs ys : List CompiledFile) (are : AreCompiled files children xs) (short : AreShort files children xs ys) where
  short-files-of : AreCompilations Short files children ys
  short-files-of = record {
    count = short.count ∙ are.count;
    each = λ i file seen y at has.
        let it = beside xs ys i y short.count has in
        short-file-of file.tree seen (i == 0) it.0 y (are.each i file seen it.0 at it.1) (short.each i file seen it.0 y at it.1 has);
  }

  same-programs : program_of files children ys ≡ program_of files children xs
  same-programs =
      same-program files files children xs ys short.count (λ i f c x y at_f at_c at_x at_y. short.each i f c x y (record { stands = at_f; beside = at_c }) at_x at_y)

-- the clock goes by the names of the top file alone
same-clock : (files : List NamedSource) (children : List Children) (xs ys : List CompiledFile) → length children ≡ length files → length xs ≡ length files
    → AreShort files children xs ys → clock_by ys ≡ clock_by xs
same-clock files children [] [] seen many short = refl
same-clock files children [] (y ∷ ys) seen many short = let long = short.count in absurd (omega (arith, long))
same-clock files children (x ∷ xs) [] seen many short = let long = short.count in absurd (omega (arith, long))
same-clock [] children (x ∷ xs) (y ∷ ys) seen many short = absurd (omega (arith, many))
same-clock (f ∷ fs) [] (x ∷ xs) (y ∷ ys) seen many short = absurd (omega (arith, seen))
same-clock (f ∷ fs) (c ∷ cs) (x ∷ xs) (y ∷ ys) seen many short =
    ap (λ (k : Kinds). clock_of (constant_named k (codes "_CLKMODE")) (constant_named k (codes "_CLKFREQ")) (constant_named k (codes "_XINFREQ")))
    (short.each 0 f c x y (record { stands = refl; beside = refl }) refl refl).kinds

-- ---- the image of an accepted project

pub plain-image : (sources : List NamedSource) (clock : Clock) (objects : List ObjectPart) (bytes : List ℕ) (built : IsBuilt sources clock objects)
    → bytes ≡ image_of clock objects → IsImageOf Plain sources built.children built.compiled objects bytes
plain-image sources clock objects bytes built is = record {
  seen = children-are sources built.children (clean-of sources built.children built.compiled built.each) built.seen;
  compiled = files-of sources built.children built.compiled built.each;
  laid_out = built.objects_are;
  clock = clock;
  clock_is = built.clock_is;
  is = is;
}

pub short-image : (sources : List NamedSource) (clock : Clock) (objects : List ObjectPart) (bytes : List ℕ) (built : IsShortBuilt sources clock objects)
    → bytes ≡ image_of clock objects → IsImageOf Short sources built.children built.short objects bytes
short-image sources clock objects bytes built is = record {
  seen = children-are sources built.children (clean-of sources built.children built.compiled built.each) built.seen;
  compiled = short-files-of sources built.children built.compiled built.short built.each built.shorter;
  laid_out = built.objects_are;
  clock = clock;
  clock_is = same-clock sources built.children built.compiled built.short built.seen.one_each built.each.count built.shorter ∙ built.clock_is;
  is = is;
}

-- ---- what is told by a source

-- the codes with `--short` and without
abbrev pub coding : Bool → Coding
coding false = Plain
coding true = Short

pub told-by : (files : Files) (short : Bool) (top bytes : List ℕ) (w : World) (past : List Turn) → whole.IsToldBySource files (source_format short) top bytes w past
    → IsCompiledFrom (coding short) files top bytes w past
told-by files false top bytes w past (sources, clock, objects, from, is, lives) =
    let built = from.built in
    record {
      sources = sources;
      gathered = gathers from.gathered;
      children = built.children;
      compiled = built.compiled;
      objects = objects;
      image = plain-image sources clock objects bytes built is;
      lives = lives;
    }
told-by files true top bytes w past (sources, clock, objects, from, is, lives) =
    let built = from.built in
    let addresses = addresses_of sources built.short objects in
    let same = same-programs sources built.children built.compiled built.short built.each built.shorter in
    record {
      sources = sources;
      gathered = gathers from.gathered;
      children = built.children;
      compiled = built.short;
      objects = objects;
      image = short-image sources clock objects bytes built is;
      lives = subst (λ (program : Program). SpinIsTold program addresses w past) (sym same) lives;
    }
