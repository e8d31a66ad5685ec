use Rattle.std.proofs.Common.{◌≡◌, [], map, ap, sym, subst, ◌∙◌}
use Rattle.p8_tree.specs.Views.{block_of, source_of}
use Rattle.p8_kinds.specs.FileSettings.{file_setting}
use Rattle.p8_dat.specs.Blocks.{dat_lines}
use Rattle.p8_dat.specs.Labels.{labels_of}
use Rattle.p8_dat.specs.Lines.{begin_of}
use Rattle.p8_dat.proofs.WholeFiles.{no_places, no_bytes, no_fault}
use Rattle.p8_dat.proofs.assembling.assemble.Goals as goal

pub returns-then-have_no_line-clause-bytes : goal.returns-then-have_no_line-clause-bytes
returns-then-have_no_line-clause-bytes c =
    let n = c.args.named.now in
    let none : dat_lines (source_of n.file.now) ≡ [] = subst (λ bs. dat_lines (map block_of bs) ≡ []) c.as_slice.ensures (c.have_no_line.ensures c.if-have_no_line.true) in
    c.nothing.ensures.bytes ∙ sym (no_bytes (file_setting n.kinds n.children.now) c.args.start (source_of n.file.now) none)

pub returns-then-have_no_line-clause-labels : goal.returns-then-have_no_line-clause-labels
returns-then-have_no_line-clause-labels c =
    let n = c.args.named.now in
    let none : dat_lines (source_of n.file.now) ≡ [] = subst (λ bs. dat_lines (map block_of bs) ≡ []) c.as_slice.ensures (c.have_no_line.ensures c.if-have_no_line.true) in
    c.nothing.ensures.labels ∙ sym (ap (labels_of n.kinds) (no_places (file_setting n.kinds n.children.now) c.args.start (source_of n.file.now) none))

pub returns-then-have_no_line-clause-lines : goal.returns-then-have_no_line-clause-lines
returns-then-have_no_line-clause-lines c =
    let n = c.args.named.now in
    let none : dat_lines (source_of n.file.now) ≡ [] = subst (λ bs. dat_lines (map block_of bs) ≡ []) c.as_slice.ensures (c.have_no_line.ensures c.if-have_no_line.true) in
    c.nothing.ensures.lines ∙ sym (ap (map begin_of) (no_places (file_setting n.kinds n.children.now) c.args.start (source_of n.file.now) none))

pub returns-then-have_no_line-clause-clean : goal.returns-then-have_no_line-clause-clean
returns-then-have_no_line-clause-clean c =
    let n = c.args.named.now in
    let none : dat_lines (source_of n.file.now) ≡ [] = subst (λ bs. dat_lines (map block_of bs) ≡ []) c.as_slice.ensures (c.have_no_line.ensures c.if-have_no_line.true) in
    λ f. no_fault (file_setting n.kinds n.children.now) c.args.start (source_of n.file.now) f none
