-- The laws stand in the lemmas.
use Rattle.p8_pins.proofs.Scripting.{read-same, fault-one, read-not_bad}
use Rattle.p8_pins.proofs.laws.one_reading.Goals as goal

pub returns-clause-script : goal.returns-clause-script
returns-clause-script c = read-same

pub returns-clause-line : goal.returns-clause-line
returns-clause-line c = fault-one

pub returns-clause-never_both : goal.returns-clause-never_both
returns-clause-never_both c = read-not_bad
