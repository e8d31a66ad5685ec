-- How a writer of code stands for the code so far: internal.
use Rattle.std.specs.Prelude.{◌≡◌, map, IfSome}
use Rattle.p8_gen.specs.Pieces.{Written}
use Rattle.p8_gen.specs.Uses.{line_of, use_of, way_of}
use Rattle.p8_gen.specs.declared.writer.Writer.{Writer}

-- it ends where the code ends, has as many jumps, and is at the same statement; and where it keeps what is written, it has it all
pub record Stands (out : Writer) (w : Written) : Type 0 where
  pub ends : out.end ≡ w.end
  pub jumps : out.jumps ≡ w.jumps
  pub statement : out.statement ≡ w.statement
  pub ops : IfSome out.kept (λ k. k.ops.items ≡ w.ops)
  pub texts : IfSome out.kept (λ k. map use_of k.strings.items ≡ w.texts)
  pub too_far : IfSome out.kept (λ k. k.too_far.items ≡ w.too_far)
  pub ways : IfSome out.kept (λ k. map way_of k.ways.items ≡ w.ways)
  pub lines : IfSome out.kept (λ k. map line_of k.lines.items ≡ w.lines)
