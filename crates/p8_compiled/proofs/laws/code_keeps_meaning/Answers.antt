use Rattle.p8_compiled.proofs.Methods.{law, settled-by, made-by, clean-by}
use Rattle.p8_compiled.proofs.laws.code_keeps_meaning.Goals as goal

pub returns-clause-source : goal.returns-clause-source
returns-clause-source c = λ memory cog program addresses placed origin target frame o answers f. law memory cog program addresses placed origin target frame o answers f

pub returns-clause-bytecodes : goal.returns-clause-bytecodes
returns-clause-bytecodes c = λ memory cog program addresses placed origin target frame o answers g h. settled-by memory cog program addresses placed origin target frame o answers g h

pub returns-clause-made : goal.returns-clause-made
returns-clause-made c = λ memory cog program addresses placed origin target frame o answers g. made-by memory cog program addresses placed origin target frame o answers g

pub returns-clause-clean : goal.returns-clause-clean
returns-clause-clean c = λ memory cog program addresses placed origin target frame o answers g. clean-by memory cog program addresses placed origin target frame o answers g
