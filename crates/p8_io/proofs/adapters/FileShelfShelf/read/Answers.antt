use Rattle.std.proofs.Common.{subst, ℕ, None, Err}
use Rattle.p8_io.specs.Shelves.{Reads}
use Rattle.p8_io.proofs.adapters.FileShelfShelf.read.Goals as goal

pub returns-in-Err-clause-reads : goal.returns-in-Err-clause-reads
returns-in-Err-clause-reads g c =
    subst (λ (before : ℕ). Reads before c.counted.new.self None c.args.name.now (Err c.counted.result)) c.read_found.ensures.quiet (c.counted.ensures.reads c.args.name.now)
