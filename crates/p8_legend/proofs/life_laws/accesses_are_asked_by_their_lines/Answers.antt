use Rattle.std.proofs.Common.{sym, subst, ℕ, ◌+◌, List}
use Rattle.p8_legend.specs.Asking.{IsFetched}
use Rattle.p8_legend.proofs.Asked.{line-fetched, asked-by}
use Rattle.p8_legend.proofs.life_laws.accesses_are_asked_by_their_lines.Goals as goal

pub returns-clause-bytecodes : goal.returns-clause-bytecodes
returns-clause-bytecodes c = λ entered address op there turns asked. asked-by entered turns address op there asked

pub returns-clause-methods : goal.returns-clause-methods
returns-clause-methods c = λ n ss base entered has are op line there turns asked. asked-by entered turns _ op (line-fetched n ss entered.memory base has are op line there) asked

pub returns-clause-statements : goal.returns-clause-statements
returns-clause-statements c = λ t base x inner before after is op line there entered same turns asked.
    asked-by entered turns _ op (subst (λ (memory : List ℕ). IsFetched memory (base + line.0) op) (sym same) (is.stand op line there)) asked
