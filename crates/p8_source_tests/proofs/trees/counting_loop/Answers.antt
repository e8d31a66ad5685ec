use Rattle.std.proofs.Common.{◌≡◌, ◌∙◌, ap, [], ◌∷◌, ◌++◌, None}
use Rattle.std.specs.Prelude.{List, Vec}
use Rattle.std.specs.declared.alloc.Global.{Global}
use Rattle.p8_tree.specs.declared.places.Place.{Place}
use Rattle.p8_tree.specs.declared.statements.Stmt.{Stmt, roll-Stmt}
use Rattle.p8_tree.specs.declared.statements.StmtKind.TheVariants as kind_case
use Rattle.p8_tree.specs.declared.statements.Loop.TheVariants as loop_case
use Rattle.p8_tree.specs.declared.expressions.Expr.{Expr}
use Rattle.p8_tree.specs.Expressions.{Tree}
use Rattle.p8_tree.specs.Statements.{Statement, statement, Repeat, From, no_statements, ◌▹◌}
use Rattle.p8_tree.specs.Views.{tree_of, statement_of, statements_of, course_of}
use Rattle.p8_tree.specs.Bridges.{repeat_is, stmt_is}
use Rattle.p8_source_tests.proofs.trees.counting_loop.Goals as goal

-- a loop over one statement
loop_is : (at : Place) (name text : List _) (a b : Expr) (a' b' : Tree) (before : List Stmt) (s : Stmt) (s' : Statement) (v : Vec Stmt Global) → name ≡ text → tree_of a ≡ a' → tree_of b ≡ b' → before ≡ [] → v.items ≡ before ++ s ∷ [] → statement_of s ≡ s' → statement_of (roll-Stmt (record { place = at; kind = kind_case.Repeat (loop_case.From name a b None at) v })) ≡ statement at (Repeat (From text a' b' None at) (no_statements ▹ s'))
loop_is at name text a b a' b' before s s' v named low high empty pushed same =
    stmt_is at (kind_case.Repeat (loop_case.From name a b None at) v)
    ∙ ap (statement at) (repeat_is (loop_case.From name a b None at) v
    ∙ ap (λ x. Repeat (course_of (loop_case.From name a b None at)) (statements_of x)) (pushed ∙ ap (λ x. x ++ s ∷ []) empty)
    ∙ ap (λ x. Repeat (course_of (loop_case.From name a b None at)) (no_statements ▹ x)) same
    ∙ ap (λ x. Repeat (From x (tree_of a) (tree_of b) None at) (no_statements ▹ s')) named
    ∙ ap (λ x. Repeat (From text x (tree_of b) None at) (no_statements ▹ s')) low
    ∙ ap (λ x. Repeat (From text a' x None at) (no_statements ▹ s')) high)

pub returns : goal.returns
returns c =
    loop_is c.args.at c.in_ok-name.name _ c.number.result c.number-2.result _ _ c.new-body.result.items c.in_ok-assignment.field-0 _ c.push.new.self
    c.in_ok-name.ensures c.number.ensures c.number-2.ensures c.new-body.ensures.items c.in_ok-push.ensures.items c.in_ok-assignment.ensures
