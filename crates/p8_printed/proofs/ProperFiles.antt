-- Each proper tree is read from what is printed of it, but for places.
use Rattle.std.proofs.Common.{false, List, ap, ◌∙◌, subst}
use Rattle.std.proofs.lemmas.List.Elements.{recursion_from_All, All-from_recursion}
use Rattle.p8_tree.specs.Statements.{no_statements}
use Rattle.p8_tree.specs.Sources as sources
use Rattle.p8_tree.specs.Sources.{MethodTree, BlockTree, Source}
use Rattle.p8_tree.specs.Forgetting.{constant_anywhere, declared_anywhere, child_anywhere, method_anywhere, line_anywhere, block_anywhere, IsSameSource}
use Rattle.p8_tree.specs.Proper.{IsProperConstant, IsProperDeclared, IsProperChild, IsProperMethod, IsProperLine, IsProperBlock, IsProperFile}
use Rattle.p8_lexer.specs.declared.token.Token as lexer_token
use Rattle.p8_lexer.specs.Lexing.{AreTokens}
use Rattle.p8_lines.specs.Tokens.{all_tokens}
use Rattle.p8_declarations.specs.Proper.{IsProperHead}
use Rattle.p8_blocks.specs.Trees.{IsShallowBlock}
use Rattle.p8_blocks.specs.Files.{with_body, IsFileWithinLimits}
use Rattle.p8_print.specs.Spelled.{text_of_lines}
use Rattle.p8_print.specs.Layout.{lines_of}
use Rattle.p8_printed.proofs.Constants as constant_lines
use Rattle.p8_printed.proofs.Constants.{IsItem}
use Rattle.p8_printed.proofs.Variables as variable_lines
use Rattle.p8_printed.proofs.Objects as object_lines
use Rattle.p8_printed.proofs.Objects.{IsObject}
use Rattle.p8_printed.proofs.Heads as heads
use Rattle.p8_printed.proofs.Made as made
use Rattle.p8_printed.proofs.DataBack as data_lines
use Rattle.p8_printed.proofs.Elements.{each_weaker}
use Rattle.p8_printed.proofs.Keeping.{leave_loops_alike, depth_alike}
use Rattle.p8_printed.proofs.Printable.{one_item, one_line, ConstantReadsBack, VariableReadsBack, ObjectReadsBack, DataReadsBack, IsPrintable, constants, variables, objects, assembly, a_method}
use Rattle.p8_printed.proofs.Files.{printable_again}
use Rattle.p8_printed.proofs.PlacelessLines.{same_lines}
use Rattle.p8_printed.proofs.ProperAgain.{Again, each_again, constant_again, IsSized, sized_again, child_again, head_again}
use Rattle.p8_printed.proofs.AgainData.{line_again}
use Rattle.p8_printed.proofs.AgainStatements.{body_again}

-- what is printed of a block is read back, and its blocks of statements are not too deep
record Prints (b : BlockTree) : Type 0 where
  printable : IsPrintable b
  shallow : IsShallowBlock b

method_again : (x : MethodTree) → IsProperMethod x → Again Prints block_anywhere (sources.Method x)
method_again x h =
    let proper : IsProperHead x = record {
      name = h.name;
      params = h.params;
      param_places = h.param_places;
      result_name = h.result_name;
      result_place = h.result_place;
      locals = h.locals;
    } in
    let head = head_again x proper in
    let lines = body_again 0 x.body h.body in
    let m : MethodTree = record x { locals = head.locals; body = no_statements } in
    record {
      other = sources.Method (with_body m lines.statements);
      holds = record {
        printable = a_method {m = m} {ss = lines.statements} lines.lines (heads.read_back x.public m head.is) (lines.bound, lines.block) lines.reads (leave_loops_alike false x.body lines.statements lines.same h.loops);
        shallow = depth_alike x.body lines.statements lines.same h.shallow;
      };
      same = λ i. sources.Method (record (method_anywhere x) { locals = head.same i; body = lines.same i });
    }

block_again : (b : BlockTree) → IsProperBlock b → Again Prints block_anywhere b
block_again (sources.Con xs) h =
    let r = each_again IsProperConstant IsItem constant_anywhere constant_again xs (recursion_from_All IsProperConstant xs h) in
    record {
      other = sources.Con r.other;
      holds = record { printable = constants (each_weaker IsItem ConstantReadsBack (λ x y. one_item constant_anywhere x (constant_lines.read_back x y)) r.other r.holds); shallow = tt };
      same = ap sources.Con r.same;
    }
block_again (sources.Var xs) h =
    let r = each_again IsProperDeclared IsSized declared_anywhere sized_again xs (recursion_from_All IsProperDeclared xs h) in
    record {
      other = sources.Var r.other;
      holds = record { printable = variables (each_weaker IsSized VariableReadsBack (λ x y. one_item declared_anywhere x (variable_lines.read_back x y.size y.is)) r.other r.holds); shallow = tt };
      same = ap sources.Var r.same;
    }
block_again (sources.Obj xs) h =
    let r = each_again IsProperChild IsObject child_anywhere child_again xs (recursion_from_All IsProperChild xs h) in
    record {
      other = sources.Obj r.other;
      holds = record { printable = objects (each_weaker IsObject ObjectReadsBack (λ x y. one_item child_anywhere x (object_lines.read_back x y)) r.other r.holds); shallow = tt };
      same = ap sources.Obj r.same;
    }
block_again (sources.Dat xs) h =
    let r = each_again IsProperLine made.IsLine line_anywhere line_again xs (recursion_from_All IsProperLine xs h) in
    record {
      other = sources.Dat r.other;
      holds = record { printable = assembly (each_weaker made.IsLine DataReadsBack (λ x y. one_line x (data_lines.reads_back x y)) r.other r.holds); shallow = tt };
      same = ap sources.Dat r.same;
    }
block_again (sources.Method x) h = method_again x h

pub proper_again : (s : Source) → IsProperFile s → (tokens : List lexer_token.Token) × (s' : Source) × AreTokens (text_of_lines (lines_of s)) tokens × IsFileWithinLimits s' (all_tokens (text_of_lines (lines_of s)) tokens) × IsSameSource s' s
proper_again s h =
    let r = each_again IsProperBlock Prints block_anywhere block_again s (recursion_from_All IsProperBlock s h) in
    let again = printable_again r.other (each_weaker Prints IsPrintable (λ b p. p.printable) r.other r.holds) (All-from_recursion IsShallowBlock r.other (each_weaker Prints IsShallowBlock (λ b p. p.shallow) r.other r.holds)) in
    subst (λ ls. (tokens : List lexer_token.Token) × (s' : Source) × AreTokens (text_of_lines ls) tokens × IsFileWithinLimits s' (all_tokens (text_of_lines ls) tokens) × IsSameSource s' s) (same_lines r.other s r.same) (again.0, again.1, again.2, again.3, again.4 ∙ r.same)
