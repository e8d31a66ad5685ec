use Rattle.std.proofs.Common.{◌∙◌, ℕ, ap}
use Rattle.std.specs.Str.{bytes_eq}
use Rattle.p8_hint.specs.Rules.{after}
use Rattle.p8_hint.specs.FileFacts.{and_code}
use Rattle.p8_hint.specs.Tables.{number_in}
use Rattle.p8_hint.proofs.Tabling.{made_of}
use Rattle.p8_hint.proofs.table.Table.mark.Goals as goal

pub returns : goal.returns
returns c = λ n.
    c.in_ok-put.ensures n
    ∙ ap (λ (v : ℕ). after (bytes_eq n c.args.name.now) (λ before. v) (number_in c.args.self.now n)) (c.and_code-number.ensures ∙ ap (and_code c.args.is_code) c.get.ensures)
    ∙ made_of (and_code c.args.is_code) (number_in c.args.self.now) c.args.name.now n
