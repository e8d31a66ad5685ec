use Rattle.std.proofs.Common.{◌≡◌, drop, ap, ◌∙◌}
use Rattle.std.specs.List.{list_any}
use Rattle.p8_columns.specs.Lines.{is_repeat}
use Rattle.p8_columns.specs.Reader.{Frame, right_of}
use Rattle.p8_columns.specs.Views.{frames_in}
use Rattle.p8_columns.proofs.Queries.{loops_is}
use Rattle.p8_columns.proofs.blocks.Blocks.is_in_loop.Goals as goal

pub returns : goal.returns
returns c = λ lines h.
    let fs = c.args.self.now.stack in
    let r : c.right_of.result ≡ right_of c.args.column (frames_in fs) = c.right_of.ensures.exact ∙ ap (λ e. right_of e (frames_in fs)) c.from.ensures in
    c.has_loop.ensures ∙ ap (λ n. list_any (λ (f : Frame). is_repeat f.opener.kind) (drop n (frames_in fs))) r ∙ loops_is c.args.column lines c.args.self.now h
