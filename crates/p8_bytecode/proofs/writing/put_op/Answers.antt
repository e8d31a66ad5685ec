use Rattle.p8_bytecode.proofs.ReadBack.{read-back}
use Rattle.p8_bytecode.proofs.writing.put_op.Goals as goal

pub returns-in_err-extend_from_slice-clause-read_back :
    goal.returns-in_err-extend_from_slice-clause-read_back
returns-in_err-extend_from_slice-clause-read_back c = read-back c.args.op.now c.requires

pub returns-in-Some-clause-read_back : goal.returns-in-Some-clause-read_back
returns-in-Some-clause-read_back c = read-back c.args.op.now c.requires
