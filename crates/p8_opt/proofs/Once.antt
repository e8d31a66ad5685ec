-- With short code a project is built to one thing alone.
use Rattle.std.proofs.Common.{◌≡◌, ◌==◌, Bool, List, length, ap, sym, ◌∙◌, subst, arith}
use Rattle.std.proofs.lemmas.Option.{slice_get_within, same_Some}
use Rattle.p8_tree.specs.Projects.{NamedSource}
use Rattle.p8_tree.specs.Sources.{MethodTree, Source}
use Rattle.p8_tree.specs.Statements.{Statements}
use Rattle.p8_constants.specs.FileItems.{items}
use Rattle.p8_kinds.specs.declared.children.Children.{Children}
use Rattle.p8_kinds.specs.FileSettings.{file_setting}
use Rattle.p8_names.specs.Kinds.{numbered}
use Rattle.p8_gen.specs.Names.{Names, widened, wide_in}
use Rattle.p8_image.specs.declared.clocks.Clock.{Clock}
use Rattle.p8_image.specs.declared.parts.ObjectPart.{ObjectPart}
use Rattle.p8_stmt.specs.declared.code.MethodCode.{MethodCode}
use Rattle.p8_stmt.specs.Methods.{IsCodeOf, rebodied}
use Rattle.p8_build.specs.Parts.{object_part}
use Rattle.p8_build.specs.Files.{CompiledFile, IsCompiled, setting_of, method_names, object_of}
use Rattle.p8_build.specs.Builds.{IsFile, AreCompiled, objects_of}
use Rattle.p8_build.proofs.Lists.{element, same_lists}
use Rattle.p8_build.proofs.One.{AreAlike, alike, same_setting, same_dat, same_labels, same_method_names, one_code}
use Rattle.p8_build.proofs.Wholes.{objects_same, one_clock}
use Rattle.p8_meaning.specs.Constants.{constants_in}
use Rattle.p8_meaning.specs.Folding.{folded_body}
use Rattle.p8_stmt.specs.Jumps.{IsShortCode}
use Rattle.p8_stmt.proofs.Least.{one-choice}
use Rattle.p8_opt.specs.Shorts.{IsShort, AreShort, IsShortBuilt}

-- a method has one short code
one-short : (names : Names) (m : MethodTree) (ss : Statements) (c d : MethodCode) → IsShortCode names m ss c → IsShortCode names m ss d → c ≡ d
one-short names m ss c d a b =
    one_code (widened names (wide_in b.widths)) (rebodied m ss) c d (subst (λ (ws : List Bool). IsCodeOf (widened names (wide_in ws)) (rebodied m ss) c) (one-choice names m ss c d a b) a.code_is) b.code_is

module _ (files : List NamedSource) (source : Source) (seen : Children) (top : Bool) (x y v w : CompiledFile) (is : IsCompiled source seen top x) (other : IsCompiled source seen top y) (s : IsShort source seen x v) (t : IsShort source seen y w) where
  abbrev like : AreAlike source x.kinds y.kinds
  like = alike source seen top x.kinds y.kinds is.names other.names

  settings : file_setting x.kinds seen ≡ file_setting y.kinds seen
  settings = same_setting source seen x.kinds y.kinds like

  pub codes-once : v.codes ≡ w.codes
  codes-once =
      let count = s.count in
      same_lists v.codes w.codes (s.count ∙ sym t.count) (λ k c d at_c at_d.
      let inside = slice_get_within v.codes k c at_c in
      let m = element (numbered (items source)) k (omega (arith, inside, count)) in
      let names = same_method_names source seen x y k m.0 like (same_labels source seen x y like is.dat other.dat) m.1 in
      one-short (method_names seen y k m.0) m.0 (folded_body (constants_in (setting_of seen y)) m.0.body) c d
      (subst (λ (n : Names). IsShortCode n m.0 (folded_body (constants_in (setting_of seen y)) m.0.body) c) names
      (subst (λ u. IsShortCode (method_names seen x k m.0) m.0 (folded_body (constants_in u) m.0.body) c) settings (s.each k m.0 c m.1 at_c)))
      (t.each k m.0 d m.1 at_d))

  pub object-once : object_of files source seen v ≡ object_of files source seen w
  object-once =
      ap (λ u. object_part files u source v.dat v.codes) (ap (λ k. file_setting k seen) s.kinds ∙ settings ∙ ap (λ k. file_setting k seen) (sym t.kinds))
      ∙ ap (λ dat. object_part files (setting_of seen w) source dat v.codes) (s.dat ∙ same_dat source seen x y like is.dat other.dat ∙ sym t.dat)
      ∙ ap (λ cs. object_part files (setting_of seen w) source w.dat cs) codes-once

objects-once : (files : List NamedSource) (children : List Children) (xs ys vs ws : List CompiledFile) → length children ≡ length files → AreCompiled files children xs → AreCompiled files children ys → AreShort files children xs vs → AreShort files children ys ws
    → objects_of files children vs ≡ objects_of files children ws
objects-once files children xs ys vs ws beside is other s t =
    objects_same files files children vs ws beside (s.count ∙ is.count) (t.count ∙ other.count) (λ i f c v w at_f at_c at_v at_w.
    let inside = slice_get_within files i f at_f in
    let one = is.count in
    let two = other.count in
    let x = element xs i (omega (arith, inside, one)) in
    let y = element ys i (omega (arith, inside, two)) in
    let there : IsFile files children i f c = record { stands = at_f; beside = at_c } in
    object-once files f.tree c (i == 0) x.0 y.0 v w (is.each i f c x.0 there x.1) (other.each i f c y.0 there y.1) (s.each i f c x.0 v there x.1 at_v) (t.each i f c y.0 w there y.1 at_w))

pub built-once : (files : List NamedSource) (c d : Clock) (os ps : List ObjectPart) (a : IsShortBuilt files c os) (b : IsShortBuilt files d ps) → b.children ≡ a.children → (c ≡ d) × (os ≡ ps)
built-once files c d os ps a b same =
    let each = subst (λ (cs : List Children). AreCompiled files cs b.compiled) same b.each in
    let shorter = subst (λ (cs : List Children). AreShort files cs b.compiled b.short) same b.shorter in
    let clocks = one_clock files a.children a.compiled b.compiled a.seen.one_each a.each each in (
      same_Some c d (sym a.clock_is ∙ clocks ∙ b.clock_is),
      a.objects_are ∙ objects-once files a.children a.compiled b.compiled a.short b.short a.seen.one_each a.each each a.shorter shorter
          ∙ ap (λ cs. objects_of files cs b.short) (sym same) ∙ sym b.objects_are,
    )
