use Rattle.p8_io.proofs.adapters.FileShelfShelf.read_named.Goals as goal

pub returns-in-Err-clause-reads : goal.returns-in-Err-clause-reads
returns-in-Err-clause-reads g c = c.counted.ensures.reads c.args.name.now
