-- The objects of files, as they are made.
use Rattle.std.proofs.Common.{◌≡◌, ℕ, suc, ◌+◌, Bool, true, false, if◌then◌else◌, List, [], ◌∷◌, length, map, Some, refl, ap, sym, ◌∙◌, arith}
use Rattle.std.specs.Prelude.{unwrap_or}
use Rattle.std.specs.List.{flat_map}
use mathlib.Core.Path.{fun_ext}
use Rattle.p8_tree.specs.declared.places.Place.{Place}
use Rattle.p8_tree.specs.Faults.{is_same_place}
use Rattle.p8_tree.specs.Expressions.{Form}
use Rattle.p8_tree.specs.Sources.{MethodTree, Source}
use Rattle.p8_tree.specs.Projects.{NamedSource}
use Rattle.p8_fold.specs.ConstantEntries.{setting_of as setting_in}
use Rattle.p8_fold.specs.Meanings.{Setting}
use Rattle.p8_kinds.specs.declared.children.Children.{Children}
use Rattle.p8_constants.specs.FileItems.{Item, items}
use Rattle.p8_names.specs.Kinds.{numbered, objects}
use Rattle.p8_image.specs.declared.parts.MethodPart.{MethodPart}
use Rattle.p8_image.specs.declared.parts.ObjectPart.{ObjectPart}
use Rattle.p8_image.specs.declared.parts.Variable.{Variable}
use Rattle.p8_stmt.specs.declared.code.MethodCode.{MethodCode}
use Rattle.p8_build.specs.declared.accepting.AcceptedFile.{AcceptedFile}
use Rattle.p8_build.specs.declared.string_texts.StringText.{StringText}
use Rattle.p8_build.specs.declared.text_numbers.TextNumbers.{TextNumbers}
use Rattle.p8_build.specs.Strings.{Texts}
use Rattle.p8_build.specs.Parts.{method_part, method_parts, text_number, text_in, strings_in_method, variable_in, instances_of}
use Rattle.p8_build.specs.Files.{object_of}
use Rattle.p8_build.specs.Numbers.{text_of, number_in, number_by, AreNumbers}
use Rattle.p8_build.specs.Coding.{parts_by}
use Rattle.p8_build.specs.Accepted.{recoded_file, methods_of, HasTables}
use Rattle.p8_build.specs.Phases.{object_by, object_in}

-- ---- the numbers of texts

number_of_place : (k : ℕ) (xs : Texts) (p : Place) → unwrap_or (number_in k xs p) (k + length xs) ≡ k + text_number xs p
number_of_place k [] p = refl
number_of_place k (x ∷ xs) p = by (is_same_place x.0 p) (number_of_place (k + 1) xs p)
  where
    by : (b : Bool) → unwrap_or (number_in (k + 1) xs p) (k + 1 + length xs) ≡ k + 1 + text_number xs p → unwrap_or (if b then Some k else number_in (k + 1) xs p) (k + suc (length xs)) ≡ k + (if b then 0 else 1 + text_number xs p)
    by true rest = omega arith
    by false rest =
        let behind : k + suc (length xs) ≡ k + 1 + length xs = omega arith in
        let after : k + 1 + text_number xs p ≡ k + (1 + text_number xs p) = omega arith in
        ap (unwrap_or (number_in (k + 1) xs p)) behind ∙ rest ∙ after

numbers_are : (numbers : TextNumbers) (xs : Texts) → AreNumbers numbers xs → ◌≡◌ {A = Place → ℕ} (number_by numbers) (text_number xs)
numbers_are numbers xs h = fun_ext (λ p.
    ap (λ o. unwrap_or o numbers.count) (h.places p) ∙ ap (unwrap_or (number_in 0 xs p)) (h.count ∙ behind (length xs)) ∙ number_of_place 0 xs p ∙ sym (behind (text_number xs p)))
  where
    behind : (n : ℕ) → n ≡ 0 + n
    behind n = omega arith

-- the words of STRINGs
words_are : (s : Setting) (ss : List StringText) → map (λ (x : StringText). text_in s (text_of x).1) ss ≡ map (λ (x : Place × Form). text_in s x.1) (map text_of ss)
words_are s [] = refl
words_are s (x ∷ ss) = ap (λ ws. text_in s (text_of x).1 ∷ ws) (words_are s ss)

-- ---- methods

parts_with : (strings : Texts) (ms : List MethodTree) (codes : List MethodCode) → parts_by (text_number strings) ms codes ≡ method_parts strings ms codes
parts_with strings [] codes = refl
parts_with strings (m ∷ ms) [] = refl
parts_with strings (m ∷ ms) (code ∷ codes) = ap (λ ps. method_part strings m code ∷ ps) (parts_with strings ms codes)

-- ---- an object

-- its methods, by the numbers of the texts in hand
pub parts_made : (ms : List MethodTree) (codes : List MethodCode) (numbers : TextNumbers) (ss ts : List StringText) (parts : List MethodPart) → map text_of ss ≡ flat_map strings_in_method ms → ts ≡ ss → AreNumbers numbers (map text_of ts) → parts ≡ parts_by (number_by numbers) ms codes
    → parts ≡ method_parts (flat_map strings_in_method ms) ms codes
parts_made ms codes numbers ss ts parts texts same right are =
    are ∙ ap (λ (f : Place → ℕ). parts_by f ms codes) (numbers_are numbers (map text_of ts) right) ∙ parts_with (map text_of ts) ms codes ∙ ap (λ xs. method_parts xs ms codes) (ap (map text_of) same ∙ texts)

pub words_made : (s : Setting) (ms : List MethodTree) (ss ts : List StringText) (words : List (List ℕ)) → map text_of ss ≡ flat_map strings_in_method ms → ts ≡ ss → words ≡ map (λ (x : StringText). text_in s (text_of x).1) ts → words ≡ map (λ (x : Place × Form). text_in s x.1) (flat_map strings_in_method ms)
words_made s ms ss ts words texts same are = are ∙ words_are s ts ∙ ap (map (λ (x : Place × Form). text_in s x.1)) (ap (map text_of) same ∙ texts)

pub object_made : (files : List NamedSource) (s : Setting) (xs : List Item) (ms : List MethodTree) (dat : List ℕ) (codes : List MethodCode) (v : List Variable) (d : List ℕ) (p : List MethodPart) (t : List (List ℕ)) (n : List ℕ)
    → v ≡ flat_map (variable_in s) xs → d ≡ dat → p ≡ method_parts (flat_map strings_in_method ms) ms codes → t ≡ map (λ (x : Place × Form). text_in s x.1) (flat_map strings_in_method ms) → n ≡ flat_map (instances_of files s) (objects xs)
    → ◌≡◌ {A = ObjectPart} (record { variables = v; dat = d; methods = p; texts = t; instances = n }) (object_by files s xs ms dat codes)
object_made files s xs ms dat codes v d p t n a b c e f = λ i. record { variables = a i; dat = b i; methods = c i; texts = e i; instances = f i }

-- that of a file with these tables
pub object_is : (files : List NamedSource) (source : Source) (children : Children) (f : AcceptedFile) (codes : List MethodCode) → HasTables source children f → object_in files f codes ≡ object_of files source children (recoded_file f codes)
object_is files source children f codes h =
    ap (λ (xs : List Item). object_by files (setting_in f.tables.consts) xs (methods_of f) f.dat.bytes codes) h.items_are
    ∙ ap (λ (ms : List MethodTree). object_by files (setting_in f.tables.consts) (items source) ms f.dat.bytes codes) h.methods_are
    ∙ ap (λ (s : Setting). object_by files s (items source) (numbered (items source)) f.dat.bytes codes) h.consts
