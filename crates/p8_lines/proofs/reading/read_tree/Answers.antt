use Rattle.p8_tree.specs.Views.{tree_of}
use Rattle.p8_grammar.specs.Views.{setting_of}
use Rattle.p8_expr.specs.Parsing.{greatest_height, IsFault}
use Rattle.p8_lines.proofs.Steps.{parses_within, tree_refused, is_refused}
use Rattle.p8_lines.proofs.reading.read_tree.Goals as goal

pub returns-in-Ok-clause-within : goal.returns-in-Ok-clause-within
returns-in-Ok-clause-within c =
    let old = c.args.here.now in
    parses_within (setting_of c.args.setting) greatest_height old.bytes old.tokens old.at c.read_expr.new.here.at (tree_of c.in-Ok.expr) c.requires.within c.in-Ok.ensures.read

pub returns-in-Err-Refused-clause-stops : goal.returns-in-Err-Refused-clause-stops
returns-in-Err-Refused-clause-stops c =
    let old = c.args.here.now in
    tree_refused (setting_of c.args.line) old.bytes old.tokens old.at c.args.state (setting_of c.args.setting) c.in-Err-Refused.fault
    c.requires.within c.requires.expects c.requires.fits c.requires.alone
    (is_refused (IsFault (setting_of c.args.setting) greatest_height old.bytes old.tokens old.at) c.in-Err-Refused.field-0 c.in-Err-Refused.fault c.in-Err-Refused.field-0-is c.in-Err-Refused.ensures.refused)
