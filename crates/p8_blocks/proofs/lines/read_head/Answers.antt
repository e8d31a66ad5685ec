use Rattle.std.proofs.Common.{◌∙◌, [], ap, sym, refl, map}
use Rattle.std.specs.Prelude.{option_map}
use Rattle.p8_tree.specs.Views.{constant_of, declared_of, child_of, line_of, method_of}
use Rattle.p8_blocks.specs.Reading.{constants, variables, objects, assembly, method, con, var, obj, pub_method, pri_method, dat}
use Rattle.p8_blocks.specs.Files.{lines_in}
use Rattle.p8_blocks.specs.Standing.{word_of_head}
use Rattle.p8_blocks.proofs.lines.read_head.Goals as goal

pub returns-in_ok-items-in-Con-clause-read : goal.returns-in_ok-items-in-Con-clause-read
returns-in_ok-items-in-Con-clause-read c = λ t w. record { part = constants (map constant_of c.in_ok-items-in-Con.items); opens = con (w ∙ ap word_of_head c.in-Con.is) c.in_ok-items-in-Con.ensures.read; stands = refl }

pub returns-in_ok-items-in-Var-clause-read : goal.returns-in_ok-items-in-Var-clause-read
returns-in_ok-items-in-Var-clause-read c = λ t w. record { part = variables (map declared_of c.in_ok-items-in-Var.items); opens = var (w ∙ ap word_of_head c.in-Var.is) c.in_ok-items-in-Var.ensures.read; stands = refl }

pub returns-in_ok-items-in-Obj-clause-read : goal.returns-in_ok-items-in-Obj-clause-read
returns-in_ok-items-in-Obj-clause-read c = λ t w. record { part = objects (map child_of c.in_ok-items-in-Obj.items); opens = obj (w ∙ ap word_of_head c.in-Obj.is) c.in_ok-items-in-Obj.ensures.read; stands = refl }

pub returns-in_ok-method-in-Pub-clause-read : goal.returns-in_ok-method-in-Pub-clause-read
returns-in_ok-method-in-Pub-clause-read c = λ t w. record { part = method (method_of c.in_ok-method-in-Pub.method) []; opens = pub_method (w ∙ ap word_of_head c.in-Pub.is) c.in_ok-method-in-Pub.ensures.read; stands = ([], c.new.ensures, refl) }

pub returns-in_ok-method-in-Pri-clause-read : goal.returns-in_ok-method-in-Pri-clause-read
returns-in_ok-method-in-Pri-clause-read c = λ t w. record { part = method (method_of c.in_ok-method-in-Pri.method) []; opens = pri_method (w ∙ ap word_of_head c.in-Pri.is) c.in_ok-method-in-Pri.ensures.read; stands = ([], c.new-in-Pri.ensures, refl) }

pub returns-in_ok-lines_in-in-Dat-clause-read : goal.returns-in_ok-lines_in-in-Dat-clause-read
returns-in_ok-lines_in-in-Dat-clause-read c = λ t w. record { part = assembly (lines_in (option_map line_of c.in_ok-line-in-Dat.line)); opens = dat (w ∙ ap word_of_head c.in-Dat.is) c.in_ok-line-in-Dat.ensures.read; stands = ap assembly (sym c.in_ok-lines_in-in-Dat.ensures) }
