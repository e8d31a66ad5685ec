use Rattle.std.proofs.Common.{◌≡◌, ap, ◌∙◌, arith}
use Rattle.p8_columns.specs.Reader.{right_of}
use Rattle.p8_columns.specs.Views.{frames_in}
use Rattle.p8_columns.proofs.Frames.{length_frames}
use Rattle.p8_columns.proofs.Queries.{depth_is}
use Rattle.p8_columns.proofs.blocks.Blocks.depth.Goals as goal

pub returns : goal.returns
returns c = λ lines h.
    let fs = c.args.self.now.stack in
    let d = depth_is c.args.column lines c.args.self.now h in
    let n = length_frames fs in
    let r : c.right_of.result ≡ right_of c.args.column (frames_in fs) = c.right_of.ensures.exact ∙ ap (λ e. right_of e (frames_in fs)) c.from.ensures in
    omega (arith, d, n, r, c.len.ensures.exact)
