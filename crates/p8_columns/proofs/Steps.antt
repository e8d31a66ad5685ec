-- The code's steps over its contents and its frames.
use Rattle.std.proofs.Common.{◌≡◌, List, [], Option, None, sym, ap, ◌∙◌}
use Rattle.std.specs.Prelude.{Vec}
use Rattle.std.specs.declared.alloc.Global.{Global}
use Rattle.p8_tree.specs.declared.places.Place.{Place}
use Rattle.p8_tree.specs.declared.statements.Arm as code_arm
use Rattle.p8_tree.specs.declared.statements.Stmt as stmt
use Rattle.p8_tree.specs.declared.statements.StmtKind.TheVariants as stmt_case
use Rattle.p8_tree.specs.declared.statements.Loop as loop
use Rattle.p8_tree.specs.declared.expressions.Expr.{Expr}
use Rattle.p8_tree.specs.Statements.{statement, Arm, Statements, ◌▹◌, no_arms, ◌⊳◌, nothing_else, If}
use Rattle.p8_tree.specs.Views.{action_of, arms_of, statements_of}
use Rattle.p8_tree.specs.Bridges.{if_is, case_is, repeat_is, other_body}
use Rattle.p8_columns.specs.Reader.{with_body, with_choices}
use Rattle.p8_columns.specs.Views.{kind_of}
use Rattle.p8_columns.specs.declared.line.LineKind as kind
use Rattle.p8_columns.specs.declared.line.LineKind.TheVariants as kind_case

-- a chain with its first arm
pub chain_kind : (v : Vec code_arm.Arm Global) (xs : List code_arm.Arm) (a : Arm) → xs ≡ [] → arms_of v.items ≡ arms_of xs ⊳ a → action_of (stmt_case.If v None) ≡ If (no_arms ⊳ a) nothing_else
chain_kind v xs a e h = if_is v None ∙ ap (λ x. If x nothing_else) (h ∙ ap (λ x. arms_of x ⊳ a) e)

-- a loop and a CASE after statements
pub body_repeat : (ss : Statements) (p : Place) (k : kind.LineKind) (c : loop.Loop) (v : Vec stmt.Stmt Global) → k ≡ kind_case.Repeat c → ss ▹ statement p (action_of (stmt_case.Repeat c v)) ≡ with_body ss p (kind_of k) (statements_of v.items)
body_repeat ss p k c v e = ap (λ n. ss ▹ statement p n) (repeat_is c v) ∙ ap (λ k. with_body ss p (kind_of k) (statements_of v.items)) (sym e)

pub choices_case : (ss : Statements) (p : Place) (k : kind.LineKind) (value : Expr) (v : Vec code_arm.Arm Global) (o : Option (Vec stmt.Stmt Global)) → k ≡ kind_case.Case value → ss ▹ statement p (action_of (stmt_case.Case value v o)) ≡ with_choices ss p (kind_of k) (arms_of v.items) (other_body o)
choices_case ss p k value v o e = ap (λ n. ss ▹ statement p n) (case_is value v o) ∙ ap (λ k. with_choices ss p (kind_of k) (arms_of v.items) (other_body o)) (sym e)
