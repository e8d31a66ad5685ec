use Rattle.std.proofs.Common.{arith}
use Rattle.p8_image.proofs.Placing.{header_of_none}
use Rattle.p8_image.proofs.project_image.first_frame_size.Goals as goal

pub returns-in-empty : goal.returns-in-empty
returns-in-empty c = header_of_none c.args.objects.now (omega arith)
