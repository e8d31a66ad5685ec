-- What a file is compiled to is one thing, whatever tables its names stand in.
use Rattle.std.proofs.Common.{◌≡◌, ℕ, ◌+◌, ◌≤◌, Bool, true, false, if◌then◌else◌, List, [], ◌∷◌, length, map, slice_get, Option, Some, None, refl, ap, sym, ◌∙◌, subst, arith}
use Rattle.std.specs.Prelude.{option_map}
use Rattle.std.specs.Str.{bytes_eq}
use Rattle.std.proofs.lemmas.Option.{slice_get_within}
use Rattle.p8_tree.specs.declared.places.Place.{Place}
use Rattle.p8_tree.specs.Names.{result_word, is_local}
use Rattle.p8_tree.specs.Sources.{MethodTree, Source}
use Rattle.p8_tree.specs.Projects.{NamedSource}
use Rattle.p8_words.specs.Operators.{or_zero}
use Rattle.p8_tree.specs.declared.faults.Fault.{Fault}
use Rattle.p8_fold.specs.Meanings.{Setting}
use Rattle.p8_constants.specs.FileItems.{items}
use Rattle.p8_kinds.specs.declared.children.Children.{Children}
use Rattle.p8_kinds.specs.declared.kinds.Kinds.{Kinds}
use Rattle.p8_kinds.specs.declared.name_kinds.Label.{Label}
use Rattle.p8_kinds.specs.declared.name_kinds.NameKind.{NameKind}
use Rattle.p8_kinds.specs.declared.name_kinds.NameKind.TheVariants as kind
use Rattle.p8_kinds.specs.FileSettings.{meaning_of_kind, constant_behind, file_setting}
use Rattle.p8_kinds.specs.Kinds.{own, or_else}
use Rattle.p8_kinds.specs.Publics.{public_of}
use Rattle.p8_names.specs.Kinds.{kinds, methods, numbered, objects, instances}
use Rattle.p8_names.specs.Resolution.{IsNamed}
use Rattle.p8_names.proofs.Equal.{settings_equal}
use Rattle.p8_names.proofs.Settling.{one_setting}
use Rattle.p8_dat.specs.declared.spots.Spot.{Spot}
use Rattle.p8_dat.specs.Spots.{Placed}
use Rattle.p8_dat.specs.Blocks.{placed_lines, dat_bytes}
use Rattle.p8_dat.specs.Labels.{size_of_kind, label_of, with_label_of, labels_of}
use Rattle.p8_gen.specs.declared.code.StringUse.{StringUse}
use Rattle.p8_gen.specs.Names.{Names, all_wide}
use Rattle.p8_gen.specs.Files.{kind_here, first_offset, names_in}
use Rattle.p8_gen.specs.Uses.{line_of, use_of}
use Rattle.p8_gen.specs.declared.writer.Line.{Line}
use Rattle.p8_stmt.specs.declared.code.MethodCode.{MethodCode}
use Rattle.p8_stmt.specs.Methods.{IsCodeOf, IsMethodFault}
use Rattle.p8_build.specs.Parts.{data_start, object_part}
use Rattle.p8_build.specs.Files.{CompiledFile, setting_of, method_names, are_too_many, IsData, IsCodeFault, of_method, too_many, IsCode, IsCompiled, object_of}
use Rattle.p8_build.proofs.Lists.{element, same_lists}
use Rattle.p8_build.proofs.Methods.{count_of_numbered}

-- ---- names

-- each name is the same in two tables
pub record AreAlike (source : Source) (k l : Kinds) : Type 0 where
  pub each : (m : ℕ) (n : List ℕ) → m ≤ length (methods (items source)) → own k m n ≡ own l m n

pub alike : (source : Source) (children : Children) (top : Bool) (k l : Kinds) → IsNamed source children top k → IsNamed source children top l → AreAlike source k l
alike source children top k l a b = record {
  each = λ m n within. a.each m n within ∙ ap (λ (s : Setting). kinds s (items source) m n) (one_setting source children.items a.setting b.setting a.right b.right) ∙ sym (b.each m n within);
}

pub of_file : (source : Source) (k l : Kinds) → AreAlike source k l → (n : List ℕ) → own k 0 n ≡ own l 0 n
of_file source k l h n = h.each 0 n (omega arith)

pub same_setting : (source : Source) (children : Children) (k l : Kinds) → AreAlike source k l → file_setting k children ≡ file_setting l children
same_setting source children k l h =
    settings_equal (file_setting k children) (file_setting l children) (λ n. ap (option_map meaning_of_kind) (of_file source k l h n))
    (λ object n. ap (λ o. constant_behind children o n) (of_file source k l h object)) refl

-- ---- data

with_same : (k l : Kinds) (o : Option (List ℕ)) (p : Spot) (xs ys : List Label) → ((n : List ℕ) → own k 0 n ≡ own l 0 n) → xs ≡ ys → with_label_of k o p xs ≡ with_label_of l o p ys
with_same k l None p xs ys h e = e
with_same k l (Some n) p xs ys h e =
    ap (λ zs. if is_local n then zs else label_of k n p ∷ zs) e
    ∙ ap (λ (o : Option NameKind). if is_local n then ys else record { name = n; offset = p.offset; cog = p.cog; size = size_of_kind o } ∷ ys) (h n)

labels_same : (k l : Kinds) → ((n : List ℕ) → own k 0 n ≡ own l 0 n) → (xs : List Placed) → labels_of k xs ≡ labels_of l xs
labels_same k l h [] = refl
labels_same k l h (x ∷ xs) = with_same k l x.line.label x.at (labels_of k xs) (labels_of l xs) h (labels_same k l h xs)

pub same_dat : (source : Source) (children : Children) (x y : CompiledFile) → AreAlike source x.kinds y.kinds → IsData source children x → IsData source children y → x.dat ≡ y.dat
same_dat source children x y h a b =
    a.bytes ∙ ap (λ s. dat_bytes s (data_start s source) source) (same_setting source children x.kinds y.kinds h) ∙ sym b.bytes

pub same_labels : (source : Source) (children : Children) (x y : CompiledFile) → AreAlike source x.kinds y.kinds → IsData source children x → IsData source children y → x.labels ≡ y.labels
same_labels source children x y h a b =
    a.labels ∙ ap (λ s. labels_of x.kinds (placed_lines s (data_start s source) source)) (same_setting source children x.kinds y.kinds h)
    ∙ labels_same x.kinds y.kinds (of_file source x.kinds y.kinds h) (placed_lines (setting_of children y) (data_start (setting_of children y) source) source)
    ∙ sym b.labels

-- ---- code

kind_same : (k l : Kinds) (m : ℕ) (n : List ℕ) → own k m n ≡ own l m n → own k 0 n ≡ own l 0 n → kind_here k m n ≡ kind_here l m n
kind_same k l m n here whole =
    ap (λ o. if bytes_eq n result_word then Some (kind.Local 0) else or_else o (own k 0 n)) here
    ∙ ap (λ o. if bytes_eq n result_word then Some (kind.Local 0) else or_else (own l m n) o) whole

pub same_names : (source : Source) (children : Children) (k l : Kinds) (xs ys : List Label) (m : ℕ) (p : Place) → AreAlike source k l → m ≤ length (methods (items source)) → xs ≡ ys → names_in k children xs m p ≡ names_in l children ys m p
same_names source children k l xs ys m p h within e = λ i. record {
  kind = λ n. kind_same k l m n (h.each m n within) (of_file source k l h n) i;
  public = public_of children;
  constants = same_setting source children k l h i;
  label = λ name. or_zero (first_offset (e i) name);
  text = λ place. 0;
  wide = all_wide;
  statement = p;
}

-- the names of a method of the file
pub same_method_names : (source : Source) (children : Children) (x y : CompiledFile) (k : ℕ) (m : MethodTree) → AreAlike source x.kinds y.kinds → x.labels ≡ y.labels → slice_get (numbered (items source)) k ≡ Some m → method_names children x k m ≡ method_names children y k m
same_method_names source children x y k m h e at =
    same_names source children x.kinds y.kinds x.labels y.labels (k + 1) m.place h (count_of_numbered (items source) k m at) e

-- the same faults
pub code_fault_along : (source : Source) (children : Children) (x y : CompiledFile) (f : Fault) → AreAlike source x.kinds y.kinds → x.labels ≡ y.labels → IsCodeFault source children x f → IsCodeFault source children y f
code_fault_along source children x y f h e (of_method k m at b) = of_method k m at (subst (λ names. IsMethodFault names m f) (same_method_names source children x y k m h e at) b)
code_fault_along source children x y f h e (too_many k m at b is) = too_many k m at (record {
  too_many = subst (λ s. are_too_many (instances s (objects (items source))) (k + 1) ≡ true) (same_setting source children x.kinds y.kinds h) b.too_many;
  first = subst (λ s. are_too_many (instances s (objects (items source))) k ≡ false) (same_setting source children x.kinds y.kinds h) b.first;
}) is

uses_same : (xs ys : List StringUse) → map use_of xs ≡ map use_of ys → xs ≡ ys
uses_same [] [] e = refl
uses_same [] (y ∷ ys) e = absurd cc
uses_same (x ∷ xs) [] e = absurd cc
uses_same (x ∷ xs) (y ∷ ys) e =
    let here : use_of x ≡ use_of y = cc in
    let rest : map use_of xs ≡ map use_of ys = cc in
    ap (λ (u : ℕ × Place). record { at = u.0; place = u.1 } ∷ xs) here ∙ ap (λ zs. y ∷ zs) (uses_same xs ys rest)

lines_same : (xs ys : List Line) → map line_of xs ≡ map line_of ys → xs ≡ ys
lines_same [] [] e = refl
lines_same [] (y ∷ ys) e = absurd cc
lines_same (x ∷ xs) [] e = absurd cc
lines_same (x ∷ xs) (y ∷ ys) e =
    let here : line_of x ≡ line_of y = cc in
    let rest : map line_of xs ≡ map line_of ys = cc in
    ap (λ (u : ℕ × Place). record { offset = u.0; statement = u.1 } ∷ xs) here ∙ ap (λ zs. y ∷ zs) (lines_same xs ys rest)

-- a method has one code
pub one_code : (names : Names) (m : MethodTree) (c d : MethodCode) → IsCodeOf names m c → IsCodeOf names m d → c ≡ d
one_code names m c d a b = λ i. record {
  bytes = (a.bytes ∙ sym b.bytes) i;
  locals = (a.locals ∙ sym b.locals) i;
  depth = (a.depth ∙ sym b.depth) i;
  strings = uses_same c.strings d.strings (a.strings ∙ sym b.strings) i;
  lines = lines_same c.lines d.lines (a.lines ∙ sym b.lines) i;
}

pub same_codes : (source : Source) (children : Children) (x y : CompiledFile) → AreAlike source x.kinds y.kinds → x.labels ≡ y.labels → IsCode source children x → IsCode source children y → x.codes ≡ y.codes
same_codes source children x y h e a b =
    same_lists x.codes y.codes (a.count ∙ sym b.count) (λ k c d at_c at_d.
    let found = element (numbered (items source)) k (omega (arith, a.count, slice_get_within x.codes k c at_c)) in
    one_code (method_names children y k found.0) found.0 c d
    (subst (λ names. IsCodeOf names found.0 c) (same_method_names source children x y k found.0 h e found.1) (a.each k found.0 c found.1 at_c)) (b.each k found.0 d found.1 at_d))

-- ---- the object of a file

pub one_object : (files : List NamedSource) (source : Source) (children : Children) (top : Bool) (x y : CompiledFile) → IsCompiled source children top x → IsCompiled source children top y → object_of files source children x ≡ object_of files source children y
one_object files source children top x y a b =
    let h = alike source children top x.kinds y.kinds a.names b.names in
    let s = same_setting source children x.kinds y.kinds h in
    let labels = same_labels source children x y h a.dat b.dat in
    ap (λ s. object_part files s source x.dat x.codes) s
    ∙ ap (λ dat. object_part files (setting_of children y) source dat x.codes) (same_dat source children x y h a.dat b.dat)
    ∙ ap (λ codes. object_part files (setting_of children y) source y.dat codes) (same_codes source children x y h labels a.code b.code)
