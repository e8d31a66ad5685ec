-- The tokens of printed lines are a file with the same tree, but for places.
use Rattle.std.proofs.Common.{◌≡◌, suc, List, [], ◌∷◌, ◌++◌, map, Option, Some, Bool, true, false, IsTrue, refl, sym, ap, ◌∙◌, subst, subst₂, append_assoc, append-nil}
use Rattle.std.specs.Prelude.{if◌then◌else◌}
use Rattle.std.specs.List.{AllByRecursion as Each}
use Rattle.std.proofs.lemmas.List.Elements.{All-from_recursion, recursion_from_All}
use Rattle.p8_tree.specs.Sources as sources
use Rattle.p8_tree.specs.Sources.{MethodTree, BlockTree, Source}
use Rattle.p8_tree.specs.Statements.{Statements}
use Rattle.p8_tree.specs.Forgetting.{constant_anywhere, declared_anywhere, child_anywhere, method_anywhere, line_anywhere, block_anywhere, source_anywhere}
use Rattle.p8_lexer.specs.declared.word.Word.{Word}
use Rattle.p8_lexer.specs.declared.word.Word.TheVariants as word_case
use Rattle.p8_lexer.specs.Pieces as pieces
use Rattle.p8_lexer.specs.Pieces.{Piece}
use Rattle.p8_columns.specs.Lines.{Line}
use Rattle.p8_columns.specs.Lines as columns
use Rattle.p8_columns.specs.Blocks.{AreStatements}
use Rattle.p8_lines.specs.declared.state.LineState.{LineState}
use Rattle.p8_lines.specs.declared.state.LineState.TheVariants as state
use Rattle.p8_lines.specs.Tokens.{LineToken, word, piece}
use Rattle.p8_lines.specs.Lines.{here, Leads, nowhere, by_token}
use Rattle.p8_declarations.specs.Constants.{constants_of_row}
use Rattle.p8_declarations.specs.Variables.{variables_of_row}
use Rattle.p8_declarations.specs.Objects.{objects_of_row}
use Rattle.p8_declarations.specs.Methods.{method_of_row}
use Rattle.p8_declarations.specs.Parts.{part_of_word}
use Rattle.p8_declarations.specs.DataParts as data_parts
use Rattle.p8_tree.specs.Nesting.{leave_loops}
use Rattle.p8_blocks.specs.Trees.{IsShallowBlock, IsShallow}
use Rattle.p8_blocks.specs.Files.{Heights, within_limits, lines_of_row, Declare, AreLines, IsHead, method_word, IsBlock, con, var, obj, dat, method, IsFile, first, one_more, no_line, a_blank, a_line, with_body}
use Rattle.p8_blocks.proofs.Pieces.{word_piece}
use Rattle.p8_print.specs.Spelled.{Spelled, reserved, SpelledLine}
use Rattle.p8_printed.specs.Rereading.{AreSpelled, ReadsBack}
use Rattle.p8_print.specs.DeclarationWords.{words_of_constant, words_of_variable, words_of_child, words_of_head}
use Rattle.p8_print.specs.DataWords.{words_of_line}
use Rattle.p8_print.specs.Layout.{Indented, line, spelled_line, lines_of_statements, lines_of_method, lines_of_block, lines_of}
use Rattle.p8_printed.proofs.Elements.{each_weaker}
use Rattle.p8_printed.proofs.Found.{AreFound}
use Rattle.p8_printed.proofs.Rebuilt.{is_line, statements_again}
use Rattle.p8_printed.proofs.Keeping.{leave_loops_alike, depth_alike}
use Rattle.p8_printed.proofs.Spelt.{BeginsAt, AreSpelledLines, parted}
use Rattle.p8_printed.proofs.Spelt as spelt
use Rattle.p8_printed.proofs.MethodLines.{IsLine}
use Rattle.p8_printed.proofs.Lines.{line_is, line_again}
use Rattle.p8_printed.proofs.Printable.{ItemReadsBack, IsPrintable, constants, variables, objects, assembly, a_method, printed_kinds}

-- the end of a line

end_piece : (t : LineToken) → word t ≡ word_case.LineEnd → piece t ≡ pieces.word word_case.LineEnd t.place
end_piece t e = word_piece t word_case.LineEnd refl e

-- a line that ends where it begins, after the word of its block
record Blank (q : LineState) {X : Type 0} (value : List Piece → Option (List X)) (t : LineToken) : Type 0 where
  row : List Piece
  leads : Leads q (t ∷ []) row state.End
  is : value row ≡ Some []

con_blank : (t : LineToken) → word t ≡ word_case.LineEnd → Blank state.ConHead constants_of_row t
unfolding part_of_word
con_blank t e = record { row = piece t ∷ []; leads = by_token (here e) nowhere; is = ap (λ x. constants_of_row (x ∷ [])) (end_piece t e) }

var_blank : (t : LineToken) → word t ≡ word_case.LineEnd → Blank state.VarHead variables_of_row t
unfolding part_of_word
var_blank t e = record { row = piece t ∷ []; leads = by_token (here e) nowhere; is = ap (λ x. variables_of_row (x ∷ [])) (end_piece t e) }

obj_blank : (t : LineToken) → word t ≡ word_case.LineEnd → Blank state.ObjHead objects_of_row t
unfolding part_of_word
obj_blank t e = record { row = piece t ∷ []; leads = by_token (here e) nowhere; is = ap (λ x. objects_of_row (x ∷ [])) (end_piece t e) }

dat_blank : (t : LineToken) → word t ≡ word_case.LineEnd → Blank state.DatHead lines_of_row t
unfolding data_parts.part_of_word
dat_blank t e = record { row = piece t ∷ []; leads = by_token (here e) nowhere; is = ap (λ x. lines_of_row (x ∷ [])) (end_piece t e) }

-- the tokens of a line in column 1 that begins with a word, and of the lines after it
record Headed (w : Word) (words : List Spelled) (ls : List SpelledLine) (us : List LineToken) : Type 0 where
  token : LineToken
  own : List LineToken
  end : LineToken
  rest : List LineToken
  split : us ≡ token ∷ (own ++ end ∷ rest)
  head : IsHead w token
  spelled : AreSpelled words own
  ends : word end ≡ word_case.LineEnd
  of_rest : AreSpelledLines ls rest

headed : (w : Word) (words : List Spelled) (ls : List SpelledLine) {us : List LineToken} → AreSpelledLines (line 0 (reserved w ∷ words) ∷ ls) us → Headed w words ls us
headed w words ls (spelt.a_line l [] t s b e h) = absurd s
headed w words ls (spelt.a_line {us = us} l (u ∷ ts) t s b e h) = record { token = u; own = ts; end = t; rest = us; split = refl; head = record { is = s.0.word; first = b }; spelled = s.1; ends = e; of_rest = h }

no_words : (ts : List LineToken) → AreSpelled [] ts → ts ≡ []
no_words [] h = refl
no_words (t ∷ ts) h = absurd h

-- the word alone
alone : {w : Word} {ls : List SpelledLine} {us : List LineToken} (x : Headed w [] ls us) → us ≡ x.token ∷ x.end ∷ x.rest
alone x = x.split ∙ ap (λ z. x.token ∷ (z ++ x.end ∷ x.rest)) (no_words x.own x.spelled)

-- items that are printed, each in a line of its own, are declared again
record Redeclared {X : Type 0} (value : List Piece → Option (List X)) (anywhere : X → X) (q : LineState) (xs : List X) (us : List LineToken) : Type 0 where
  items : List X
  adds : (ys : List X) (ts : List LineToken) → Declare within_limits value q ys ts → Declare within_limits value q (ys ++ items) (ts ++ us)
  same : map anywhere items ≡ map anywhere xs

redeclared : {X : Type 0} (value : List Piece → Option (List X)) (anywhere : X → X) (q : LineState) (words : X → List Spelled) (xs : List X) {us : List LineToken} → Each (λ x. ItemReadsBack value anywhere q (words x) x) xs → AreSpelledLines (map (λ x. line 2 (words x)) xs) us → Redeclared value anywhere q xs us
redeclared value anywhere q words [] h spelt.no_line = record { items = []; adds = λ ys ts d. subst₂ (Declare within_limits value q) (sym (append-nil ys)) (sym (append-nil ts)) d; same = refl }
redeclared value anywhere q words (x ∷ xs) h (spelt.a_line {us = us} l own t s b e r) =
    let again = h.0.read own t s e in
    let rest = redeclared value anywhere q words xs h.1 r in
    record {
      items = again.1 ∷ rest.items;
      adds = λ ys ts d. subst₂ (Declare within_limits value q) (append_assoc ys (again.1 ∷ []) rest.items) (append_assoc ts (own ++ t ∷ []) us ∙ ap (λ z. ts ++ z) (append_assoc own (t ∷ []) us)) (rest.adds (ys ++ again.1 ∷ []) (ts ++ (own ++ t ∷ [])) (a_line (own ++ t ∷ []) again.0 again.2 again.3 d));
      same = λ i. again.4 i ∷ rest.same i;
    }

-- lines that are printed are lines of a method again
record Rewritten (xs : List Indented) (us : List LineToken) : Type 0 where
  lines : List Line
  adds : (ls : List Line) (ts : List LineToken) → AreLines within_limits ls false ts → AreLines within_limits (ls ++ lines) false (ts ++ us)
  found : AreFound xs lines

rewritten : (xs : List Indented) {us : List LineToken} → Each (λ x. IsLine x.kind) xs → AreSpelledLines (map spelled_line xs) us → Rewritten xs us
rewritten [] h spelt.no_line = record { lines = []; adds = λ ls ts r. subst₂ (λ ls ts. AreLines within_limits ls false ts) (sym (append-nil ls)) (sym (append-nil ts)) r; found = tt }
rewritten (x ∷ xs) h (spelt.a_line {us = us} l own t s b e r) =
    let again = line_again x.kind h.0 own t s e in
    let rest = rewritten xs h.1 r in
    let this = columns.line again.first.place again.kind in
    record {
      lines = this ∷ rest.lines;
      adds = λ ls ts y. subst₂ (λ ls ts. AreLines within_limits ls false ts) (append_assoc ls (this ∷ []) rest.lines) (append_assoc ts (own ++ t ∷ []) us ∙ ap (λ z. ts ++ z) (append_assoc own (t ∷ []) us)) (rest.adds (ls ++ this ∷ []) (ts ++ (own ++ t ∷ [])) (again.adds ls ts y));
      found = (record { stands = subst (BeginsAt (suc x.indent)) again.are b; same = again.same }, rest.found);
    }

-- a block again
record BlockAgain (b : BlockTree) (us : List LineToken) : Type 0 where
  block : BlockTree
  is : IsBlock within_limits block us
  same : block_anywhere block ≡ block_anywhere b
  shallow : IsShallowBlock b → IsShallowBlock block

word_of_method : (public : Bool) → (if public then word_case.Pub else word_case.Pri) ≡ method_word public
word_of_method true = refl
word_of_method false = refl

method_again : (m : MethodTree) (ss : Statements) (ls : List Line) {us : List LineToken} → ReadsBack (method_of_row m.public) method_anywhere state.MethodName (words_of_head m) m → AreStatements ss ls → Each (λ l. IsLine l.kind) ls → IsTrue (leave_loops false ss) → AreSpelledLines (lines_of_method (with_body m ss)) us → BlockAgain (sources.Method (with_body m ss)) us
method_again m ss ls r are h loops spelled =
    let x = headed (if m.public then word_case.Pub else word_case.Pri) (words_of_head m) (map spelled_line (lines_of_statements 2 ss)) spelled in
    let again = r.read x.own x.end x.spelled x.ends in
    let body = rewritten (lines_of_statements 2 ss) (printed_kinds 2 ss ls are h) x.of_rest in
    let statements = statements_again 2 ss ls are (each_weaker (λ l. IsLine l.kind) (λ l. IsTrue (is_line l.kind)) (λ l k. line_is l.kind k) ls h) body.lines body.found in
    record {
      block = sources.Method (with_body again.1 statements.statements);
      is = subst (IsBlock within_limits (sources.Method (with_body again.1 statements.statements))) (ap (λ z. x.token ∷ z) (append_assoc x.own (x.end ∷ []) x.rest) ∙ sym x.split)
          (method m.public x.token (x.own ++ x.end ∷ []) again.0 (subst (λ w. IsHead w x.token) (word_of_method m.public) x.head) again.2 again.3 (body.adds [] [] no_line) statements.are (leave_loops_alike false ss statements.statements statements.same loops));
      same = λ i. sources.Method (with_body (again.4 i) (statements.same i));
      shallow = depth_alike ss statements.statements statements.same;
    }

block_again : {b : BlockTree} {us : List LineToken} → IsPrintable b → AreSpelledLines (lines_of_block b) us → BlockAgain b us
block_again {us = us} (constants {xs = xs} h) spelled =
    let x = headed word_case.Con [] (map (λ x. line 2 (words_of_constant x)) xs) spelled in
    let blank = con_blank x.end x.ends in
    let items = redeclared constants_of_row constant_anywhere state.ConItem words_of_constant xs h x.of_rest in
    record {
      block = sources.Con items.items;
      is = subst (IsBlock within_limits (sources.Con items.items)) (sym (alone x)) (con x.token (x.end ∷ []) blank.row x.head blank.leads blank.is (items.adds [] [] no_line));
      same = ap sources.Con items.same;
      shallow = λ s. s;
    }
block_again {us = us} (variables {xs = xs} h) spelled =
    let x = headed word_case.Var [] (map (λ x. line 2 (words_of_variable x)) xs) spelled in
    let blank = var_blank x.end x.ends in
    let items = redeclared variables_of_row declared_anywhere state.VarLine words_of_variable xs h x.of_rest in
    record {
      block = sources.Var items.items;
      is = subst (IsBlock within_limits (sources.Var items.items)) (sym (alone x)) (var x.token (x.end ∷ []) blank.row x.head blank.leads blank.is (items.adds [] [] no_line));
      same = ap sources.Var items.same;
      shallow = λ s. s;
    }
block_again {us = us} (objects {xs = xs} h) spelled =
    let x = headed word_case.Obj [] (map (λ x. line 2 (words_of_child x)) xs) spelled in
    let blank = obj_blank x.end x.ends in
    let items = redeclared objects_of_row child_anywhere state.ObjLine words_of_child xs h x.of_rest in
    record {
      block = sources.Obj items.items;
      is = subst (IsBlock within_limits (sources.Obj items.items)) (sym (alone x)) (obj x.token (x.end ∷ []) blank.row x.head blank.leads blank.is (items.adds [] [] no_line));
      same = ap sources.Obj items.same;
      shallow = λ s. s;
    }
block_again {us = us} (assembly {xs = xs} h) spelled =
    let x = headed word_case.Dat [] (map (λ x. line 2 (words_of_line x)) xs) spelled in
    let blank = dat_blank x.end x.ends in
    let items = redeclared lines_of_row line_anywhere state.DatLine words_of_line xs h x.of_rest in
    record {
      block = sources.Dat items.items;
      is = subst (IsBlock within_limits (sources.Dat items.items)) (sym (alone x)) (dat x.token (x.end ∷ []) blank.row x.head blank.leads blank.is (items.adds [] [] no_line));
      same = ap sources.Dat items.same;
      shallow = λ s. s;
    }
block_again (a_method {m = m} {ss = ss} ls r are h loops) spelled = method_again m ss ls r are h loops spelled

-- a file again
record FileAgain (s : Source) (us : List LineToken) : Type 0 where
  source : Source
  adds : (bs : Source) (ts : List LineToken) → IsFile within_limits bs ts → IsFile within_limits (bs ++ source) (ts ++ us)
  same : source_anywhere source ≡ source_anywhere s
  shallow : Each IsShallowBlock s → Each IsShallowBlock source

blocks_again : (s : Source) {us : List LineToken} → Each IsPrintable s → AreSpelledLines (lines_of s) us → FileAgain s us
blocks_again [] h spelt.no_line = record { source = []; adds = λ bs ts f. subst₂ (IsFile within_limits) (sym (append-nil bs)) (sym (append-nil ts)) f; same = refl; shallow = λ s. s }
blocks_again (b ∷ s) h spelled =
    let parts = parted (lines_of_block b) (lines_of s) spelled in
    let this = block_again h.0 parts.of_first in
    let rest = blocks_again s h.1 parts.of_rest in
    record {
      source = this.block ∷ rest.source;
      adds = λ bs ts f. subst₂ (IsFile within_limits) (append_assoc bs (this.block ∷ []) rest.source) (append_assoc ts parts.first parts.rest ∙ ap (λ z. ts ++ z) (sym parts.split)) (rest.adds (bs ++ this.block ∷ []) (ts ++ parts.first) (one_more f this.is));
      same = λ i. this.same i ∷ rest.same i;
      shallow = λ s. (this.shallow s.0, rest.shallow s.1);
    }

-- one more end of a line at the end of a file
module _ {h : Heights} (t : LineToken) (end : word t ≡ word_case.LineEnd) where
  one_end : {b : BlockTree} (u : LineToken) (us vs : List LineToken) → IsBlock h b (u ∷ (us ++ (vs ++ t ∷ []))) → IsBlock h b ((u ∷ (us ++ vs)) ++ t ∷ [])
  one_end {b} u us vs r = subst (λ z. IsBlock h b (u ∷ z)) (sym (append_assoc us vs (t ∷ []))) r

  block_with_end : {b : BlockTree} {us : List LineToken} → IsBlock h b us → IsBlock h b (us ++ t ∷ [])
  block_with_end (con {vs = vs} u us row head l v d) = one_end u us vs (con u us row head l v (a_blank t end d))
  block_with_end (var {vs = vs} u us row head l v d) = one_end u us vs (var u us row head l v (a_blank t end d))
  block_with_end (obj {vs = vs} u us row head l v d) = one_end u us vs (obj u us row head l v (a_blank t end d))
  block_with_end (dat {vs = vs} u us row head l v d) = one_end u us vs (dat u us row head l v (a_blank t end d))
  block_with_end (method {vs = vs} public u us row head l v lines are loops) = one_end u us vs (method public u us row head l v (a_blank t end lines) are loops)

  with_one_end : {s : Source} {ts : List LineToken} → IsFile h s ts → IsFile h s (ts ++ t ∷ [])
  with_one_end (first d) = first (a_blank t end d)
  with_one_end (one_more {bs = bs} {b = b} {ts = ts} {us = us} f r) = subst (IsFile h (bs ++ b ∷ [])) (sym (append_assoc ts us (t ∷ []))) (one_more f (block_with_end r))

-- the printed tokens and a last line's end
pub record Reread (s : Source) (ts : List LineToken) : Type 0 where
  pub source : Source
  pub file : IsFile within_limits source ts
  pub same : source_anywhere source ≡ source_anywhere s
  pub shallow : IsShallow source

pub reread : (s : Source) (us : List LineToken) (t : LineToken) → Each IsPrintable s → IsShallow s → AreSpelledLines (lines_of s) us → word t ≡ word_case.LineEnd → Reread s (us ++ t ∷ [])
reread s us t h low spelled end =
    let again = blocks_again s h spelled in
    record {
      source = again.source;
      file = with_one_end t end (again.adds [] [] (first no_line));
      same = again.same;
      shallow = All-from_recursion IsShallowBlock again.source (again.shallow (recursion_from_All IsShallowBlock s low));
    }
