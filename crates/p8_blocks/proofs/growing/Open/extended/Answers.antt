use Rattle.std.proofs.Common.{◌∷◌, map, refl, subst, sym}
use Rattle.std.specs.Prelude.{IfErr}
use Rattle.std.proofs.lemmas.Result.{IfOk-weaker}
use Rattle.p8_tree.specs.Views.{constant_of, declared_of, child_of, line_of, method_of}
use Rattle.p8_tree.specs.Faults.{IfRefused}
use Rattle.p8_lines.specs.Tokens.{left}
use Rattle.p8_blocks.specs.Reading.{at, constants, variables, objects, assembly, method, Fails}
use Rattle.p8_blocks.specs.Standing.{Grown, IsOpen}
use Rattle.p8_blocks.proofs.Stepping.{same_grown, grown_all, refused_all}
use Rattle.p8_blocks.proofs.growing.Open.extended.Goals as goal

pub returns-in-Constants-clause-read : goal.returns-in-Constants-clause-read
returns-in-Constants-clause-read c = λ b p ps s o.
    grown_all p (constants (map constant_of c.in-Constants.items)) ps (left c.more_constants.new.here) s (subst (λ x. IsOpen p x) c.in-Constants.is o) c.more_constants.result (c.more_constants.ensures.read ps)

pub returns-in-Constants-clause-refused : goal.returns-in-Constants-clause-refused
returns-in-Constants-clause-refused c = λ b p ps s o.
    refused_all p (constants (map constant_of c.in-Constants.items)) ps s (subst (λ x. IsOpen p x) c.in-Constants.is o) refl c.more_constants.result c.more_constants.ensures.refused

pub returns-in-Variables-clause-read : goal.returns-in-Variables-clause-read
returns-in-Variables-clause-read c = λ b p ps s o.
    grown_all p (variables (map declared_of c.in-Variables.items)) ps (left c.more_variables.new.here) s (subst (λ x. IsOpen p x) c.in-Variables.is o) c.more_variables.result (c.more_variables.ensures.read ps)

pub returns-in-Variables-clause-refused : goal.returns-in-Variables-clause-refused
returns-in-Variables-clause-refused c = λ b p ps s o.
    refused_all p (variables (map declared_of c.in-Variables.items)) ps s (subst (λ x. IsOpen p x) c.in-Variables.is o) refl c.more_variables.result c.more_variables.ensures.refused

pub returns-in-Objects-clause-read : goal.returns-in-Objects-clause-read
returns-in-Objects-clause-read c = λ b p ps s o.
    grown_all p (objects (map child_of c.in-Objects.items)) ps (left c.more_objects.new.here) s (subst (λ x. IsOpen p x) c.in-Objects.is o) c.more_objects.result (c.more_objects.ensures.read ps)

pub returns-in-Objects-clause-refused : goal.returns-in-Objects-clause-refused
returns-in-Objects-clause-refused c = λ b p ps s o.
    refused_all p (objects (map child_of c.in-Objects.items)) ps s (subst (λ x. IsOpen p x) c.in-Objects.is o) refl c.more_objects.result c.more_objects.ensures.refused

pub returns-in-Data-clause-read : goal.returns-in-Data-clause-read
returns-in-Data-clause-read c = λ b p ps s o.
    grown_all p (assembly (map line_of c.in-Data.lines)) ps (left c.more_data.new.here) s (subst (λ x. IsOpen p x) c.in-Data.is o) c.more_data.result (c.more_data.ensures.read ps)

pub returns-in-Data-clause-refused : goal.returns-in-Data-clause-refused
returns-in-Data-clause-refused c = λ b p ps s o.
    refused_all p (assembly (map line_of c.in-Data.lines)) ps s (subst (λ x. IsOpen p x) c.in-Data.is o) refl c.more_data.result c.more_data.ensures.refused

pub returns-in-Method-clause-read : goal.returns-in-Method-clause-read
returns-in-Method-clause-read c = λ b p ps s o.
    let i = subst (λ x. IsOpen p x) c.in-Method.is o in
    let q = method (method_of c.in-Method.method) i.0 in
    IfOk-weaker c.method_line.result (λ r. Grown (q ∷ ps) ps b (left c.args.here.now) r (left c.method_line.new.here)) (λ r. Grown (p ∷ ps) ps b (left c.args.here.now) r (left c.method_line.new.here)) (λ r. same_grown p q ps i.2) (c.method_line.ensures.read b i.0 ps s i.1)

pub returns-in-Method-clause-refused : goal.returns-in-Method-clause-refused
returns-in-Method-clause-refused c = λ b p ps s o.
    let ts = left c.args.here.now in
    let i = subst (λ x. IsOpen p x) c.in-Method.is o in
    let q = method (method_of c.in-Method.method) i.0 in
    subst (λ p. IfErr c.method_line.result (IfRefused (λ f. Fails (at (p ∷ ps) b) ts f.number f.place))) (sym i.2) (c.method_line.ensures.refused b i.0 ps s i.1)
