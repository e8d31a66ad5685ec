use Rattle.p8_serial.proofs.Sent.{sent-is-heard}
use Rattle.p8_serial.proofs.Scripting.{sent-is-read}
use Rattle.p8_serial.proofs.laws.typed_is_read.Goals as goal

pub returns-clause-script : goal.returns-clause-script
returns-clause-script c = sent-is-read

pub returns-clause-read : goal.returns-clause-read
returns-clause-read c = sent-is-heard
