-- The code and the frame of each method of an accepted file.
use Rattle.std.proofs.Common.{◌≡◌, inl, inr, ℕ, ◌+◌, ◌*◌, ◌%◌, ◌<◌, ◌≤◌, List, [], ◌∷◌, length, slice_get, Option, Some, None, refl, sym, ap, ◌∙◌, arith}
use Rattle.std.specs.Prelude.{option_map}
use Rattle.std.specs.Str.{bytes_eq}
use Rattle.std.proofs.lemmas.Bool.{cases_lt}
use Rattle.std.proofs.lemmas.Option.{slice_get_within}
use Rattle.p8_tree.specs.Statements.{Statements}
use Rattle.p8_gen.specs.Names.{widened}
use Rattle.p8_opt.specs.Recoding.{IsRecoded, HaveCodes}
use Rattle.p8_tree.specs.Expressions.{Tree}
use Rattle.p8_tree.specs.Sources.{Declared, MethodTree, Source}
use Rattle.p8_tree.specs.Projects.{NamedSource}
use Rattle.p8_tree.specs.Faults.{fault}
use Rattle.p8_tree.specs.declared.refusal.Refusal.TheVariants.{FrameTooLarge}
use Rattle.p8_bytecode.specs.Reading.{bare}
use Rattle.p8_bytecode.specs.Spelling.{spelled}
use Rattle.p8_bytecode.specs.Table.{rows}
use Rattle.p8_fold.specs.declared.meanings.Meaning.TheVariants as meaning_case
use Rattle.p8_fold.specs.Meanings.{Setting}
use Rattle.p8_constants.specs.FileItems.{items}
use Rattle.p8_kinds.specs.declared.children.Child.{Child}
use Rattle.p8_kinds.specs.declared.children.ChildConst.{ChildConst}
use Rattle.p8_kinds.specs.declared.children.Children.{Children}
use Rattle.p8_kinds.specs.declared.kinds.Kinds.{Kinds}
use Rattle.p8_kinds.specs.declared.name_kinds.NameKind.{NameKind}
use Rattle.p8_kinds.specs.declared.name_kinds.NameKind.TheVariants as kind
use Rattle.p8_kinds.specs.Kinds.{own, or_else, kind_of}
use Rattle.p8_kinds.specs.FileSettings.{meaning_of_kind, constant_among, constant_in, constant_behind}
use Rattle.p8_names.specs.Kinds.{numbered}
use Rattle.p8_names.proofs.Equal.{settings_equal}
use Rattle.p8_compiled.proofs.Lengths.{method-measured}
use Rattle.p8_meaning.specs.Programs as meaning
use Rattle.p8_meaning.specs.Programs.{longs_of, locals_size, object_constant}
use Rattle.p8_stmt.specs.declared.code.MethodCode.{MethodCode}
use Rattle.p8_stmt.specs.Methods.{count_in, longs_in, rebodied, frame_too_large}
use Rattle.p8_build.specs.Files.{CompiledFile, setting_of, method_names}
use Rattle.p8_opt.specs.Programs.{kind_by, file_of}
use Rattle.p8_opt.proofs.Definitions.{with-constant}
use Rattle.p8_opt.proofs.OwnKinds.{number-is}
use Rattle.p8_opt.proofs.Counting.{element}
use Rattle.p8_opt.proofs.Files.{setting-same}

-- ---- what names mean outside all methods

among-is : (cs : List ChildConst) (n : List ℕ) → constant_among cs n ≡ option_map meaning_case.Value (meaning.constant_named n cs)
among-is [] n = refl
among-is (c ∷ cs) n = with-constant (bytes_eq n c.name) c.value (constant_among cs n) (meaning.constant_named n cs) (among-is cs n)

in-child : (c : Option Child) (n : List ℕ) → constant_in c n ≡ option_map meaning_case.Value (meaning.constant_named n (meaning.constants_of c))
in-child None n = refl
in-child (Some c) n = among-is c.consts n

same-self : (a : Option NameKind) → or_else a a ≡ a
same-self None = refl
same-self (Some k) = refl

pub kind-outside : (kinds : Kinds) (source : Source) (n : List ℕ) → kind_by kinds source 0 n ≡ own kinds 0 n
kind-outside kinds source n = ap (λ j. kind_of kinds j n) (number-is source 0 (omega arith)) ∙ same-self (own kinds 0 n)

pub behind-object : (files : List NamedSource) (source : Source) (seen : Children) (x : CompiledFile) (k : Option NameKind) (n : List ℕ)
    → constant_behind seen k n ≡ option_map meaning_case.Value (object_constant (file_of files source seen x) k n)
behind-object files source seen x None n = refl
behind-object files source seen x (Some (kind.Const v)) n = refl
behind-object files source seen x (Some (kind.Global size offset)) n = refl
behind-object files source seen x (Some (kind.Local offset)) n = refl
behind-object files source seen x (Some (kind.Label size)) n = refl
behind-object files source seen x (Some (kind.Method number params)) n = refl
behind-object files source seen x (Some (kind.Object item position count)) n = in-child (slice_get seen.items item) n

pub setting-outside : (files : List NamedSource) (source : Source) (seen : Children) (x : CompiledFile) → setting_of seen x ≡ meaning.setting_of (file_of files source seen x) 0
setting-outside files source seen x =
    settings_equal (setting_of seen x) (meaning.setting_of (file_of files source seen x) 0)
    (λ n. ap (option_map meaning_of_kind) (sym (kind-outside x.kinds source n)))
    (λ o n. ap (λ k. constant_behind seen k n) (sym (kind-outside x.kinds source o)) ∙ behind-object files source seen x (kind_by x.kinds source 0 o) n)
    refl

-- ---- frames

longs-same : (s : Setting) (e : Option Tree) → longs_of s e ≡ count_in s e
longs-same s None = refl
longs-same s (Some e) = refl

pub size-is : (s : Setting) (xs : List Declared) → locals_size s xs ≡ 4 * longs_in s xs
size-is s [] = refl
size-is s (x ∷ xs) = let one = longs-same s x.count in let rest = size-is s xs in omega (arith, one, rest)

one-byte : length (spelled (bare 0x32)) ≡ 1
unfolding rows
one-byte = refl

-- a method, its code, and that its frame is small
pub record IsCoded (files : List NamedSource) (source changed : Source) (seen : Children) (x : CompiledFile) (k : ℕ) (m : MethodTree) : Type 0 where
  pub code : MethodCode
  pub stands : slice_get x.codes k ≡ Some code
  -- the body that its code is made of
  pub body : Statements
  pub tree_is : slice_get (numbered (items changed)) k ≡ Some (rebodied m body)
  pub recoded : IsRecoded (method_names seen x k m) m body code
  pub locals : code.locals ≡ locals_size (meaning.setting_of (record (file_of files source seen x) { source = changed }) 0) m.locals
  pub multiple : code.locals % 4 ≡ 0
  pub small : 4 * length m.params + code.locals ≤ 8192
  pub some : 0 < length code.bytes

pub coded : (files : List NamedSource) (source changed : Source) (seen : Children) (x : CompiledFile) (k : ℕ) (m : MethodTree) → HaveCodes source changed seen x → slice_get (numbered (items source)) k ≡ Some m → IsCoded files source changed seen x k m
coded files source changed seen x k m is at =
    let inside = slice_get_within (numbered (items source)) k m at in
    let c = element x.codes k (omega (arith, inside, is.count)) in
    let n = element (numbered (items changed)) k (omega (arith, inside, is.methods)) in
    let e = is.each k m n.0 c.0 at n.1 c.1 in
    let right = e.1.right in
    let bound : 1 + length m.params + longs_in (setting_of seen x) m.locals ≤ 2048 = elim (cases_lt 2048 (1 + length m.params + longs_in (setting_of seen x) m.locals)) [
      | inl large ↦ absurd (e.1.fits (fault FrameTooLarge m.place) (frame_too_large large refl))
      | inr small ↦ small
    ] in
    let size = size-is (setting_of seen x) m.locals in
    let ends = method-measured (widened (method_names seen x k m) e.1.wide) n.0.body in
    let last : length (spelled (bare 0x32)) ≡ 1 = one-byte in
    let long = ap length right.bytes in
    record {
      code = c.0;
      stands = c.1;
      body = n.0.body;
      tree_is = n.1 ∙ ap Some e.0;
      recoded = e.1;
      locals = right.locals ∙ sym size ∙ ap (λ s. locals_size s m.locals) (setting-outside files source seen x ∙ sym (setting-same (file_of files source seen x) changed 0));
      multiple = omega (arith, right.locals);
      small = omega (arith, right.locals, bound);
      some = omega (arith, ends, last, long);
    }
