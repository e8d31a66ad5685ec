use Rattle.std.proofs.Common.{sym, ap, ◌∙◌, map}
use Rattle.p8_gen.specs.Methods.{bytes_of, method_code}
use Rattle.p8_gen.specs.Depths.{held_in}
use Rattle.p8_gen.specs.Names.{widened, wide_in}
use Rattle.p8_stmt.specs.Methods.{use_in}
use Rattle.p8_stmt.proofs.Least.{one-choice}
use Rattle.p8_stmt.proofs.jump_laws.one_short_code.Goals as goal

pub returns-clause-bytes : goal.returns-clause-bytes
returns-clause-bytes c = λ n m ss a b x y.
    x.code_is.bytes ∙ ap (λ ws. bytes_of (method_code (widened n (wide_in ws)) ss)) (one-choice n m ss a b x y) ∙ sym y.code_is.bytes

pub returns-clause-depth : goal.returns-clause-depth
returns-clause-depth c = λ n m ss a b x y.
    x.code_is.depth ∙ ap (λ ws. held_in (widened n (wide_in ws)) ss) (one-choice n m ss a b x y) ∙ sym y.code_is.depth

pub returns-clause-strings : goal.returns-clause-strings
returns-clause-strings c = λ n m ss a b x y.
    x.code_is.strings ∙ ap (λ ws. map (use_in (method_code (widened n (wide_in ws)) ss)) (method_code (widened n (wide_in ws)) ss).texts) (one-choice n m ss a b x y) ∙ sym y.code_is.strings

pub returns-clause-lines : goal.returns-clause-lines
returns-clause-lines c = λ n m ss a b x y.
    x.code_is.lines ∙ ap (λ ws. (method_code (widened n (wide_in ws)) ss).lines) (one-choice n m ss a b x y) ∙ sym y.code_is.lines
