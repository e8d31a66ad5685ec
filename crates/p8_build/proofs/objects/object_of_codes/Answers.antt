use Rattle.std.proofs.Common.{◌≡◌, List, map, ap, ◌∙◌, Bor}
use Rattle.std.specs.List.{flat_map}
use Rattle.p8_tree.specs.declared.sources.Method.{Method}
use Rattle.p8_tree.specs.Sources.{MethodTree}
use Rattle.p8_tree.specs.Views.{named_source_of, method_of}
use Rattle.p8_fold.specs.ConstantEntries.{setting_of as setting_in}
use Rattle.p8_constants.specs.FileItems.{Item}
use Rattle.p8_constants.specs.Standing.{items_of}
use Rattle.p8_names.specs.Kinds.{objects}
use Rattle.p8_build.specs.Numbers.{text_of, number_by}
use Rattle.p8_build.specs.Parts.{strings_in_method, variable_in, instances_of}
use Rattle.p8_build.specs.Coding.{parts_by}
use Rattle.p8_build.specs.Accepted.{methods_of}
use Rattle.p8_build.proofs.Making.{parts_made, words_made, object_made, object_is}
use Rattle.p8_build.proofs.objects.object_of_codes.Goals as goal

abbrev trees : List (Bor Method) → List MethodTree
trees ms = map (λ m. method_of m.now) ms

pub returns-clause-made : goal.returns-clause-made
returns-clause-made c =
    let files = map named_source_of c.args.files.now in
    let f = c.args.file.now in
    let codes = c.args.codes.now in
    let s = setting_in f.tables.consts in
    let methods : trees c.as_slice-methods.result.now ≡ methods_of f = ap trees c.as_slice-methods.ensures in
    let texts : map text_of c.in_ok-strings.strings ≡ flat_map strings_in_method (methods_of f) = c.in_ok-strings.ensures ∙ ap (flat_map strings_in_method) methods in
    object_made files s (items_of f.items) (methods_of f) f.dat.bytes codes c.in_ok-variables_of.field-0 c.in_ok-copy_of.field-0 c.in_ok-parts_of.field-0 c.in_ok-texts_in.field-0 c.in_ok-instances_of.field-0
    (c.in_ok-variables_of.ensures ∙ ap (λ (xs : List Item). flat_map (variable_in s) xs) (ap items_of c.as_slice-items.ensures))
    (c.in_ok-copy_of.ensures ∙ c.as_slice-2.ensures)
    (parts_made (methods_of f) codes c.in_ok-texts.texts c.in_ok-strings.strings c.as_slice.result.now c.in_ok-parts_of.field-0 texts c.as_slice.ensures c.in_ok-texts.ensures
    (c.in_ok-parts_of.ensures ∙ ap (λ (ms : List MethodTree). parts_by (number_by c.in_ok-texts.texts) ms codes) methods))
    (words_made s (methods_of f) c.in_ok-strings.strings c.as_slice-3.result.now c.in_ok-texts_in.field-0 texts c.as_slice-3.ensures c.in_ok-texts_in.ensures)
    (c.in_ok-instances_of.ensures ∙ ap (λ (xs : List Item). flat_map (instances_of files s) (objects xs)) (ap items_of c.as_slice-items.ensures))

pub returns-clause-object : goal.returns-clause-object
returns-clause-object c = λ source children has.
    let files = map named_source_of c.args.files.now in
    let f = c.args.file.now in
    let codes = c.args.codes.now in
    let s = setting_in f.tables.consts in
    let methods : trees c.as_slice-methods.result.now ≡ methods_of f = ap trees c.as_slice-methods.ensures in
    let texts : map text_of c.in_ok-strings.strings ≡ flat_map strings_in_method (methods_of f) = c.in_ok-strings.ensures ∙ ap (flat_map strings_in_method) methods in
    object_made files s (items_of f.items) (methods_of f) f.dat.bytes codes c.in_ok-variables_of.field-0 c.in_ok-copy_of.field-0 c.in_ok-parts_of.field-0 c.in_ok-texts_in.field-0 c.in_ok-instances_of.field-0
    (c.in_ok-variables_of.ensures ∙ ap (λ (xs : List Item). flat_map (variable_in s) xs) (ap items_of c.as_slice-items.ensures))
    (c.in_ok-copy_of.ensures ∙ c.as_slice-2.ensures)
    (parts_made (methods_of f) codes c.in_ok-texts.texts c.in_ok-strings.strings c.as_slice.result.now c.in_ok-parts_of.field-0 texts c.as_slice.ensures c.in_ok-texts.ensures
    (c.in_ok-parts_of.ensures ∙ ap (λ (ms : List MethodTree). parts_by (number_by c.in_ok-texts.texts) ms codes) methods))
    (words_made s (methods_of f) c.in_ok-strings.strings c.as_slice-3.result.now c.in_ok-texts_in.field-0 texts c.as_slice-3.ensures c.in_ok-texts_in.ensures)
    (c.in_ok-instances_of.ensures ∙ ap (λ (xs : List Item). flat_map (instances_of files s) (objects xs)) (ap items_of c.as_slice-items.ensures))
    ∙ object_is files source children f codes has
