use Rattle.std.proofs.Common.{◌∙◌, ℕ, ap}
use Rattle.std.specs.Str.{bytes_eq}
use Rattle.p8_hint.specs.Rules.{after, once_more}
use Rattle.p8_hint.specs.Tables.{number_in}
use Rattle.p8_hint.proofs.Tabling.{made_of}
use Rattle.p8_hint.proofs.table.Table.count.Goals as goal

pub returns : goal.returns
returns c = λ n.
    c.in_ok-put.ensures n
    ∙ ap (λ (v : ℕ). after (bytes_eq n c.args.name.now) (λ before. v) (number_in c.args.self.now n)) (c.once_more-number.ensures ∙ ap once_more c.get.ensures)
    ∙ made_of once_more (number_in c.args.self.now) c.args.name.now n
