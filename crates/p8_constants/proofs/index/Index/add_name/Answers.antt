use Rattle.std.proofs.Common.{sym, ◌∙◌}
use Rattle.std.proofs.lemmas.Result.{on_ok_weaker}
use Rattle.p8_fold.specs.ConstantEntries.{setting_of, at_bytes}
use Rattle.p8_constants.proofs.Rowing.{outside_more, entered_more}
use Rattle.p8_constants.proofs.index.Index.add_name.Goals as goal

pub returns-in-Some : goal.returns-in-Some
returns-in-Some c = λ n. outside_more (setting_of c.args.outside.now) c.args.name.now _ (sym c.get.ensures ∙ c.in-Some.is) n c.args.node (at_bytes n c.args.self.now.names)

pub returns-in-None : goal.returns-in-None
returns-in-None c =
    on_ok_weaker c.insert.result
    (λ is. entered_more (setting_of c.args.outside.now) c.args.name.now c.args.node (λ n. at_bytes n c.insert.new.self.names) (λ n. at_bytes n c.args.self.now.names) (sym c.get.ensures ∙ c.in-None.is) is c.insert.ensures.others)
    c.insert.ensures.entered
