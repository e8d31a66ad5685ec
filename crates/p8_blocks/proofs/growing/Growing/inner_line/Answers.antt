use Rattle.std.proofs.Common.{[], ◌∷◌, ◌∙◌, refl, sym, subst, map}
use Rattle.p8_tree.specs.Views.{block_of}
use Rattle.p8_tree.specs.Faults.{IfRefused}
use Rattle.p8_lines.specs.declared.state.LineState.TheVariants as state
use Rattle.p8_lines.specs.Tokens.{left}
use Rattle.p8_lines.specs.Lines.{refused, Reads}
use Rattle.p8_blocks.specs.Reading.{at, AreBlocks, no_blocks, Fails}
use Rattle.p8_tree.proofs.Failing.{refused_so}
use Rattle.p8_blocks.proofs.Entering.{told}
use Rattle.p8_blocks.proofs.Stepping.{inner, continues, first_grown, moved_fails, declaration_refused}
use Rattle.p8_blocks.proofs.Finishing.{none_is, newest}
use Rattle.p8_blocks.proofs.growing.Growing.inner_line.Goals as goal

pub returns-in_err-line-in-None-clause-refused : goal.returns-in_err-line-in-None-clause-refused
returns-in_err-line-in-None-clause-refused c = λ x s.
    let ts = left c.args.here.now in
    let old = c.args.self.now in
    let i = inner c.requires.starts c.requires.not_end c.requires.no_head in
    let z = none_is x.parts old.current old.done s.parts (sym c.take.ensures.value ∙ c.in-None.is) in
    told c.from_residual.result _ (IfRefused (λ f. Fails x ts f.number f.place)) c.from_residual.ensures.1
    (refused_so (λ f. Reads state.ConItem ts (refused f.number f.place)) (λ f. Fails x ts f.number f.place) (λ f r. moved_fails x [] old.begun z.0 s.begun (declaration_refused [] f.number f.place i refl r)) _ c.in_err-line-in-None.ensures.refused)

pub returns-in_ok-line-in-None-clause-read : goal.returns-in_ok-line-in-None-clause-read
returns-in_ok-line-in-None-clause-read c = λ x s.
    let old = c.args.self.now in
    let i = inner c.requires.starts c.requires.not_end c.requires.no_head in
    let z = none_is x.parts old.current old.done s.parts (sym c.take.ensures.value ∙ c.in-None.is) in
    let g = first_grown i c.in_ok-line-in-None.ensures.read in
    continues x [] [] old.begun z.0 s.begun g (c.extend.ensures g.part [] g.stands (subst (λ bs. AreBlocks [] (map block_of bs)) (sym z.1) no_blocks))

pub returns-in_err-line-in-Some-clause-refused : goal.returns-in_err-line-in-Some-clause-refused
returns-in_err-line-in-Some-clause-refused c = λ x s.
    let ts = left c.args.here.now in
    let old = c.args.self.now in
    let i = inner c.requires.starts c.requires.not_end c.requires.no_head in
    let z = newest x.parts c.in-Some.block old.current old.done s.parts (sym c.take.ensures.value ∙ c.in-Some.is) in
    told c.from_residual-in_err-line-in-Some.result _ (IfRefused (λ f. Fails x ts f.number f.place)) c.from_residual-in_err-line-in-Some.ensures.1
    (refused_so (λ f. Fails (at (z.part ∷ z.others) old.begun) ts f.number f.place) (λ f. Fails x ts f.number f.place) (λ f r. moved_fails x (z.part ∷ z.others) old.begun z.is s.begun r) _ (c.in_err-line-in-Some.ensures.refused old.begun z.part z.others i z.stands))

pub returns-in_ok-line-in-Some-clause-read : goal.returns-in_ok-line-in-Some-clause-read
returns-in_ok-line-in-Some-clause-read c = λ x s.
    let old = c.args.self.now in
    let i = inner c.requires.starts c.requires.not_end c.requires.no_head in
    let z = newest x.parts c.in-Some.block old.current old.done s.parts (sym c.take.ensures.value ∙ c.in-Some.is) in
    let g = c.in_ok-line-in-Some.ensures.read old.begun z.part z.others i z.stands in
    continues x (z.part ∷ z.others) z.others old.begun z.is s.begun g (c.extend-in-Some.ensures g.part z.others g.stands z.before)
