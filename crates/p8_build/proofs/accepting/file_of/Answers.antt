use Rattle.std.proofs.Common.{◌≡◌, ◌==◌, List, [], length, map, refl, ap, sym, ◌∙◌, subst, Bor, rules}
use Rattle.std.proofs.lemmas.List.{length-map}
use Rattle.p8_tree.specs.declared.sources.Method.{Method}
use Rattle.p8_tree.specs.Sources.{MethodTree}
use Rattle.p8_tree.specs.Views.{source_of, method_of}
use Rattle.p8_fold.specs.ConstantEntries.{setting_of as setting_in}
use Rattle.p8_kinds.specs.FileSettings.{file_setting}
use Rattle.p8_constants.specs.FileItems.{Item, items}
use Rattle.p8_constants.specs.Standing.{items_of}
use Rattle.p8_names.specs.Kinds.{numbered, objects, instances}
use Rattle.p8_gen.specs.Files.{first_offset}
use Rattle.p8_build.specs.Files.{names_with}
use Rattle.p8_build.specs.Coding.{AreAllCodes}
use Rattle.p8_build.specs.Phases.{IfPhaseRefused, IsFirstOfFile}
use Rattle.p8_build.proofs.Lists.{told}
use Rattle.p8_build.proofs.WholeCode.{ready_by}
use Rattle.p8_build.proofs.Here.{compiled, start_is, data_refused, data_is, lines_are, code_refused_here, file_accepted}
use Rattle.p8_build.proofs.accepting.file_of.Goals as goal

abbrev trees : List (Bor Method) → List MethodTree
trees ms = map (λ m. method_of m.now) ms

pub returns-in-Err-assemble-clause-refused : goal.returns-in-Err-assemble-clause-refused
returns-in-Err-assemble-clause-refused c =
    let n = c.in-Ok.named in
    let source = source_of c.args.file.now in
    let seen = c.args.children.now in
    let consts = c.in_ok-consts.consts in
    let methods : trees c.in_ok-methods.methods.items ≡ numbered (items source) = c.in_ok-methods.ensures ∙ ap numbered (ap items_of c.deref.ensures.value ∙ c.in_ok-items.ensures) in
    let count : c.in_ok-instances.instances ≡ instances (setting_in consts) (objects (items source)) =
    c.in_ok-instances.ensures ∙ ap (λ (xs : List Item). instances (setting_in consts) (objects xs)) (ap items_of c.deref-2.ensures.value ∙ c.in_ok-items.ensures) in
    let many : c.len.result ≡ length c.in_ok-methods.methods.items = search rules in
    let start = start_is source (setting_in consts) (file_setting n.kinds seen) c.in_ok-start.start c.len.result c.in_ok-instances.instances (trees c.in_ok-methods.methods.items) c.in_ok-start.ensures
    (many ∙ sym (length-map c.in_ok-methods.methods.items (λ m. method_of m.now))) methods count c.in_ok-consts.ensures in
    subst (IfPhaseRefused (IsFirstOfFile source seen c.args.index)) (sym c.refused.ensures)
    (data_refused source seen n (ap source_of c.in-Ok.ensures.file) c.in-Ok.ensures.children c.in_ok-start.start start c.args.index c.in-Err-assemble.fail c.in-Ok.ensures.named c.in-Err-assemble.ensures.refused)

pub codes_of-requires : goal.codes_of-requires
codes_of-requires c =
    let n = c.in-Ok.named in
    let d = c.in-Ok-assemble.dat in
    let source = source_of c.args.file.now in
    let methods : trees c.deref-3.result.now ≡ numbered (items source) = ap trees c.deref-3.ensures.value ∙ c.in_ok-methods.ensures ∙ ap numbered (ap items_of c.deref.ensures.value ∙ c.in_ok-items.ensures) in
    ready_by source c.args.children.now (compiled n.kinds d []) (record { publics = c.in_ok-publics_of.field-0; consts = c.in_ok-consts.consts; labels = c.in_ok-of.field-0 })
    c.in_ok-publics_of.ensures c.in_ok-consts.ensures (λ name. c.in_ok-of.ensures name ∙ ap (λ ls. first_offset ls name) c.as_slice.ensures)
    (c.args.index == 0) (trees c.deref-3.result.now) c.in-Ok.ensures.named c.requires methods

pub returns-in_err-codes-clause-refused : goal.returns-in_err-codes-clause-refused
returns-in_err-codes-clause-refused c =
    let n = c.in-Ok.named in
    let source = source_of c.args.file.now in
    let seen = c.args.children.now in
    let consts = c.in_ok-consts.consts in
    let methods : trees c.in_ok-methods.methods.items ≡ numbered (items source) = c.in_ok-methods.ensures ∙ ap numbered (ap items_of c.deref.ensures.value ∙ c.in_ok-items.ensures) in
    let count : c.in_ok-instances.instances ≡ instances (setting_in consts) (objects (items source)) =
    c.in_ok-instances.ensures ∙ ap (λ (xs : List Item). instances (setting_in consts) (objects xs)) (ap items_of c.deref-2.ensures.value ∙ c.in_ok-items.ensures) in
    let many : c.len.result ≡ length c.in_ok-methods.methods.items = search rules in
    let start = start_is source (setting_in consts) (file_setting n.kinds seen) c.in_ok-start.start c.len.result c.in_ok-instances.instances (trees c.in_ok-methods.methods.items) c.in_ok-start.ensures
    (many ∙ sym (length-map c.in_ok-methods.methods.items (λ m. method_of m.now))) methods count c.in_ok-consts.ensures in
    let d = c.in-Ok-assemble.dat in
    let data_of = data_is source seen n (ap source_of c.in-Ok.ensures.file) c.in-Ok.ensures.children c.in_ok-start.start start d in
    told c.from_residual-in_err-codes.result _ (IfPhaseRefused (IsFirstOfFile source seen c.args.index)) c.from_residual-in_err-codes.ensures.1
    (code_refused_here source seen c.args.index n.kinds (record { publics = c.in_ok-publics_of.field-0; consts = consts; labels = c.in_ok-of.field-0 }) d c.in_ok-instances.instances (trees c.deref-3.result.now) _ c.in-Ok.ensures.named
    (data_of [] c.in-Ok-assemble.ensures.bytes c.in-Ok-assemble.ensures.labels c.in-Ok-assemble.ensures.clean)
    c.in_ok-publics_of.ensures c.in_ok-consts.ensures (λ name. c.in_ok-of.ensures name ∙ ap (λ ls. first_offset ls name) c.as_slice.ensures)
    count (ap trees c.deref-3.ensures.value ∙ methods) c.in_err-codes.ensures.refused)

pub returns-clause-accepted : goal.returns-clause-accepted
returns-clause-accepted c =
    let n = c.in-Ok.named in
    let source = source_of c.args.file.now in
    let seen = c.args.children.now in
    let consts = c.in_ok-consts.consts in
    let methods : trees c.in_ok-methods.methods.items ≡ numbered (items source) = c.in_ok-methods.ensures ∙ ap numbered (ap items_of c.deref.ensures.value ∙ c.in_ok-items.ensures) in
    let count : c.in_ok-instances.instances ≡ instances (setting_in consts) (objects (items source)) =
    c.in_ok-instances.ensures ∙ ap (λ (xs : List Item). instances (setting_in consts) (objects xs)) (ap items_of c.deref-2.ensures.value ∙ c.in_ok-items.ensures) in
    let many : c.len.result ≡ length c.in_ok-methods.methods.items = search rules in
    let start = start_is source (setting_in consts) (file_setting n.kinds seen) c.in_ok-start.start c.len.result c.in_ok-instances.instances (trees c.in_ok-methods.methods.items) c.in_ok-start.ensures
    (many ∙ sym (length-map c.in_ok-methods.methods.items (λ m. method_of m.now))) methods count c.in_ok-consts.ensures in
    let d = c.in-Ok-assemble.dat in
    let data_of = data_is source seen n (ap source_of c.in-Ok.ensures.file) c.in-Ok.ensures.children c.in_ok-start.start start d in
    let lines = lines_are source seen n (ap source_of c.in-Ok.ensures.file) c.in-Ok.ensures.children c.in_ok-start.start start d c.in-Ok-assemble.ensures.lines in
    let items_are = ap items_of c.from_vec.ensures ∙ c.in_ok-items.ensures in
    let methods_are = ap trees c.from_vec-2.ensures ∙ methods in
    file_accepted source seen (c.args.index == 0) _ c.in_ok-instances.instances c.in-Ok.ensures.named (data_of c.in_ok-codes.codes c.in-Ok-assemble.ensures.bytes c.in-Ok-assemble.ensures.labels c.in-Ok-assemble.ensures.clean)
    (record { tree = refl; items_are = items_are; methods_are = methods_are; publics = c.in_ok-publics_of.ensures; consts = c.in_ok-consts.ensures; labels = (λ name. c.in_ok-of.ensures name ∙ ap (λ ls. first_offset ls name) c.as_slice.ensures); lines = lines })
    count (subst (λ (ms : List MethodTree). AreAllCodes (names_with n.kinds (record { publics = c.in_ok-publics_of.field-0; consts = consts; labels = c.in_ok-of.field-0 })) c.in_ok-instances.instances ms c.in_ok-codes.codes) (ap trees (c.deref-3.ensures.value ∙ sym c.from_vec-2.ensures)) c.in_ok-codes.ensures.codes)
