use Rattle.p8_compiled.proofs.Methods.{statement-law}
use Rattle.p8_compiled.proofs.laws.accesses_are_asked_for_their_statements.Goals as goal

pub returns : goal.returns
returns c = λ program addresses entered placed target frame o turns done s begin left clock access here there bound lt.
    statement-law entered.memory entered.cog program addresses placed entered.begin entered.origin target frame o turns done s begin left clock access bound lt here there
