-- No method of a project is longer with short code.
use Rattle.std.proofs.Common.{◌≡◌, ◌∙◌, sym, ℕ, ◌<◌, ◌≤◌, ◌==◌, List, length, slice_get, Some, arith}
use Rattle.std.proofs.lemmas.Option.{slice_get_within}
use Rattle.p8_tree.specs.Projects.{NamedSource}
use Rattle.p8_constants.specs.FileItems.{items}
use Rattle.p8_kinds.specs.declared.children.Children.{Children}
use Rattle.p8_names.specs.Children.{AreChildren}
use Rattle.p8_names.specs.Kinds.{numbered}
use Rattle.p8_stmt.specs.declared.code.MethodCode.{MethodCode}
use Rattle.p8_build.specs.Parts.{AreProper}
use Rattle.p8_build.specs.Files.{CompiledFile}
use Rattle.p8_build.specs.Builds.{IsFile, AreCompiled}
use Rattle.p8_build.proofs.Lists.{element}
use Rattle.p8_opt.specs.Shorts.{AreShort}
use Rattle.p8_opt.specs.Shorter.{AreNoLonger}
use Rattle.p8_opt.proofs.Ready.{no-longer}

module _ (files : List NamedSource) (proper : AreProper files) (children : List Children) (seen : AreChildren files children) (xs ys : List CompiledFile) (are : AreCompiled files children xs) (short : AreShort files children xs ys) where
  -- the file of a compiled one, and what it sees
  file-of : (i : ℕ) (x : CompiledFile) → slice_get xs i ≡ Some x → (file : NamedSource) × (c : Children) × IsFile files children i file c
  file-of i x at =
      let inside : i < length xs = slice_get_within xs i x at in
      let many = are.count in
      let beside = seen.one_each in
      let file = element files i (omega (arith, inside, many)) in
      let c = element children i (omega (arith, inside, many, beside)) in
      (file.0, c.0, record { stands = file.1; beside = c.1 })

  as-many : (i : ℕ) (x y : CompiledFile) → slice_get xs i ≡ Some x → slice_get ys i ≡ Some y → length y.codes ≡ length x.codes
  as-many i x y at_x at_y =
      let f = file-of i x at_x in
      (short.each i f.0 f.1 x y f.2 at_x at_y).count ∙ sym (are.each i f.0 f.1 x f.2 at_x).code.count

  code-no-longer : (i k : ℕ) (x y : CompiledFile) (a b : MethodCode) → slice_get xs i ≡ Some x → slice_get ys i ≡ Some y → slice_get x.codes k ≡ Some a → slice_get y.codes k ≡ Some b → length b.bytes ≤ length a.bytes
  code-no-longer i k x y a b at_x at_y at_a at_b =
      let f = file-of i x at_x in
      let is = are.each i f.0 f.1 x f.2 at_x in
      let s = short.each i f.0 f.1 x y f.2 at_x at_y in
      let inside : k < length x.codes = slice_get_within x.codes k a at_a in
      let many : length x.codes ≡ length (numbered (items f.0.tree)) = is.code.count in
      let m = element (numbered (items f.0.tree)) k (omega (arith, inside, many)) in
      no-longer f.0 f.1 (i == 0) x is (proper i f.0 f.2.stands) k m.0 m.1 b a (s.each k m.0 b m.1 at_b) (is.code.each k m.0 a m.1 at_a)

  pub are-no-longer : AreNoLonger xs ys
  are-no-longer = record { files = short.count; methods = as-many; code = code-no-longer }
