-- A file of proper words is proper.
use Rattle.std.proofs.Common.{◌≡◌, List, [], ◌∷◌, ◌++◌, All, Option, Some, None, Bool, true, false, refl, sym, ap, ◌∙◌, subst}
use Rattle.std.specs.Prelude.{◌≢◌, IsTrue, option_map}
use Rattle.std.specs.List.{AllByRecursion as Each}
use Rattle.std.proofs.lemmas.List.Elements.{All-nil, All-append, All-push, All-pop, All-from_recursion, recursion_from_All}
use Rattle.p8_tree.specs.Sources as sources
use Rattle.p8_tree.specs.Sources.{Constant, Declared, Child, BlockTree, Source}
use Rattle.p8_tree.specs.Proper.{IsProperConstant, IsProperDeclared, IsProperChild, IsProperLine, IsProperBlock, IsProperFile}
use Rattle.p8_columns.specs.Lines as lines
use Rattle.p8_lexer.specs.Pieces.{Piece}
use Rattle.p8_lexer.specs.Proper.{AreProper}
use Rattle.p8_lines.specs.declared.state.LineState.{LineState}
use Rattle.p8_lines.specs.declared.state.LineState.TheVariants as state
use Rattle.p8_lines.specs.Tokens.{LineToken, lexeme, terms}
use Rattle.p8_lines.specs.Lines.{Leads}
use Rattle.p8_lines.proofs.Readings.{leads_row}
use Rattle.p8_declarations.specs.Constants.{constants_of_row}
use Rattle.p8_declarations.specs.Variables.{variables_of_row}
use Rattle.p8_declarations.specs.Objects.{objects_of_row}
use Rattle.p8_declarations.specs.Proper.{ConstantsAreProper, VariablesAreProper, ObjectsAreProper, HeadsAreProper}
use Rattle.p8_declarations.specs.Lines.{line_of_row}
use Rattle.p8_statements.specs.Proper.{IsProperKind, KindsAreProper}
use Rattle.p8_grammar.specs.Proper as words
use Rattle.p8_grammar.specs.Proper.{IsProperLexeme, lexeme_in}
use Rattle.p8_blocks.specs.Values.{begins_line}
use Rattle.p8_blocks.specs.Proper.{is_in_dat, RowsAreProper, MethodRowsAreProper, LinesAreProper}
use Rattle.p8_blocks.specs.Trees.{IsShallowBlock, IsShallow}
use Rattle.p8_blocks.specs.Files.{within_limits, lines_in, lines_of_row, Declare, no_line, a_blank, a_line, AreLines, IsBlock, con, var, obj, dat, method, first_block, IsFile, first, one_more, IsFileWithinLimits}
use Rattle.p8_blocks.specs.Files as files
use Rattle.p8_blocks.proofs.ProperLines as proper_lines
use Rattle.p8_blocks.proofs.ProperLines.{each_first, each_rest, proper_statements}

-- a proper word
abbrev pub IsProperToken : LineToken → Type 0
IsProperToken t = IsProperLexeme (lexeme t)

pub are_proper : (ts : List LineToken) → Each IsProperToken ts → words.AreProper (terms ts)
are_proper ts h = All-from_recursion (λ t. IsProperLexeme (lexeme_in t)) (terms ts) (go ts h)
  where
    go : (ts : List LineToken) → Each IsProperToken ts → Each (λ t. IsProperLexeme (lexeme_in t)) (terms ts)
    go [] h = tt
    go (t ∷ ts) h = (h.0, go ts h.1)

each_proper : (ts : List LineToken) → words.AreProper (terms ts) → Each IsProperToken ts
each_proper ts h = go ts (recursion_from_All (λ t. IsProperLexeme (lexeme_in t)) (terms ts) h)
  where
    go : (ts : List LineToken) → Each (λ t. IsProperLexeme (lexeme_in t)) (terms ts) → Each IsProperToken ts
    go [] h = tt
    go (t ∷ ts) h = (h.0, go ts h.1)

-- what proper words and pieces give
pub record Laws : Type 0 where
  pub pieces : (q : LineState) → q ≢ state.Statement → RowsAreProper q (is_in_dat q)
  pub actions : (q : LineState) → IsTrue (begins_line q) → MethodRowsAreProper q
  pub constants : ConstantsAreProper
  pub variables : VariablesAreProper
  pub objects : ObjectsAreProper
  pub heads : HeadsAreProper
  pub kinds : KindsAreProper
  pub first_data : LinesAreProper state.DatHead
  pub data_lines : LinesAreProper state.DatLine

module _ (laws : Laws) where
  -- the lines of a block that isn't a method

  module _ {X : Type 0} (P : X → Type 0) (value : List Piece → Option (List X)) (q : LineState) (each : (us : List LineToken) (row : List Piece) (xs : List X) → Leads q us row state.End → Each IsProperToken us → value row ≡ Some xs → All P xs) where
    declared : {xs : List X} {ts : List LineToken} → Declare within_limits value q xs ts → Each IsProperToken ts → All P xs
    declared no_line h = All-nil P
    declared (a_blank {ts = ts} t e d) h = declared d (each_first IsProperToken ts (t ∷ []) h)
    declared (a_line {xs = xs} {ys = ys} {ts = ts} us row l v d) h = All-append P xs ys (declared d (each_first IsProperToken ts us h)) (each us row ys l (each_rest IsProperToken ts us h) v)

  of_constants : (q : LineState) → q ≢ state.Statement → is_in_dat q ≡ false → (us : List LineToken) (row : List Piece) (xs : List Constant) → Leads q us row state.End → Each IsProperToken us → constants_of_row row ≡ Some xs → All IsProperConstant xs
  of_constants q n a us row xs l h e = laws.constants row xs (subst (λ d. AreProper d 64 row) a (laws.pieces q n us row l (are_proper us h))) e

  of_variables : (q : LineState) → q ≢ state.Statement → is_in_dat q ≡ false → (us : List LineToken) (row : List Piece) (xs : List Declared) → Leads q us row state.End → Each IsProperToken us → variables_of_row row ≡ Some xs → All IsProperDeclared xs
  of_variables q n a us row xs l h e = laws.variables row xs (subst (λ d. AreProper d 64 row) a (laws.pieces q n us row l (are_proper us h))) e

  of_objects : (q : LineState) → q ≢ state.Statement → is_in_dat q ≡ false → (us : List LineToken) (row : List Piece) (xs : List Child) → Leads q us row state.End → Each IsProperToken us → objects_of_row row ≡ Some xs → All IsProperChild xs
  of_objects q n a us row xs l h e = laws.objects row xs (subst (λ d. AreProper d 64 row) a (laws.pieces q n us row l (are_proper us h))) e

  -- no line of DAT is a statement
  in_dat : (q : LineState) → is_in_dat q ≡ true → q ≢ state.Statement
  in_dat q a e = let z = sym (ap is_in_dat e) ∙ a in cc

  of_data : (q : LineState) → is_in_dat q ≡ true → LinesAreProper q → (us : List LineToken) (row : List Piece) (xs : List sources.Line) → Leads q us row state.End → Each IsProperToken us → lines_of_row row ≡ Some xs → All IsProperLine xs
  of_data q a law us row xs l h e = go (line_of_row row) refl e
    where
      go : (o : Option (Option sources.Line)) → line_of_row row ≡ o → option_map lines_in o ≡ Some xs → All IsProperLine xs
      go None f e = absurd cc
      go (Some None) f e = let none : [] ≡ xs = cc in subst (All IsProperLine) none (All-nil IsProperLine)
      go (Some (Some x)) f e =
          let one : x ∷ [] ≡ xs = cc in
          subst (All IsProperLine) one (All-push IsProperLine [] x (All-nil IsProperLine) (law row us x (leads_row l) (subst (λ d. AreProper d 64 row) a (laws.pieces q (in_dat q a) us row l (are_proper us h))) f))

  -- the lines of a method

  method_lines : {ls : List lines.Line} {b : Bool} {ts : List LineToken} → AreLines within_limits ls b ts → Each IsProperToken ts → Each proper_lines.IsProperLine ls
  method_lines files.no_line h = tt
  method_lines (files.a_blank {ts = ts} t e d) h = method_lines d (each_first IsProperToken ts (t ∷ []) h)
  method_lines (files.a_line {ls = ls} {ts = ts} {k = k} q row t us b o l v d) h =
      each_push (lines.line t.place k) ls (method_lines d (each_first IsProperToken ts (t ∷ us) h)) (laws.kinds row k (laws.actions q b (t ∷ us) row l (are_proper (t ∷ us) (each_rest IsProperToken ts (t ∷ us) h))) v)
    where
      each_push : (x : lines.Line) (ls : List lines.Line) → Each proper_lines.IsProperLine ls → IsProperKind x.kind → Each proper_lines.IsProperLine (ls ++ x ∷ [])
      each_push x [] h p = (p, tt)
      each_push x (l ∷ ls) h p = (h.0, each_push x ls h.1 p)

  -- blocks

  proper_block : {b : BlockTree} {ts : List LineToken} → IsBlock within_limits b ts → Each IsProperToken ts → IsShallowBlock b → IsProperBlock b
  proper_block (con {xs = xs} {ys = ys} {vs = vs} t us row i l v d) h s = All-append IsProperConstant xs ys (of_constants state.ConHead (λ e. cc) refl us row xs l (each_first IsProperToken us vs h.1) v) (declared IsProperConstant constants_of_row state.ConItem (of_constants state.ConItem (λ e. cc) refl) d (each_rest IsProperToken us vs h.1))
  proper_block (var {xs = xs} {ys = ys} {vs = vs} t us row i l v d) h s = All-append IsProperDeclared xs ys (of_variables state.VarHead (λ e. cc) refl us row xs l (each_first IsProperToken us vs h.1) v) (declared IsProperDeclared variables_of_row state.VarLine (of_variables state.VarLine (λ e. cc) refl) d (each_rest IsProperToken us vs h.1))
  proper_block (obj {xs = xs} {ys = ys} {vs = vs} t us row i l v d) h s = All-append IsProperChild xs ys (of_objects state.ObjHead (λ e. cc) refl us row xs l (each_first IsProperToken us vs h.1) v) (declared IsProperChild objects_of_row state.ObjLine (of_objects state.ObjLine (λ e. cc) refl) d (each_rest IsProperToken us vs h.1))
  proper_block (dat {xs = xs} {ys = ys} {vs = vs} t us row i l v d) h s = All-append IsProperLine xs ys (of_data state.DatHead refl laws.first_data us row xs l (each_first IsProperToken us vs h.1) v) (declared IsProperLine lines_of_row state.DatLine (of_data state.DatLine refl laws.data_lines) d (each_rest IsProperToken us vs h.1))
  proper_block (method {m = m} {ls = ls} {ss = ss} {vs = vs} public t us row i l v d a g) h s =
      let head = laws.heads public row m (laws.pieces state.MethodName (λ e. cc) us row l (are_proper us (each_first IsProperToken us vs h.1))) v in
      record {
        name = head.name;
        params = head.params;
        param_places = head.param_places;
        result_name = head.result_name;
        result_place = head.result_place;
        locals = head.locals;
        body = proper_statements ss ls a (method_lines d (each_rest IsProperToken us vs h.1));
        loops = g;
        shallow = s;
      }

  first_proper : (xs : List Constant) → All IsProperConstant xs → All IsProperBlock (first_block xs)
  first_proper [] h = All-nil IsProperBlock
  first_proper (x ∷ xs) h = All-push IsProperBlock [] (sources.Con (x ∷ xs)) (All-nil IsProperBlock) h

  proper_file : {s : Source} {ts : List LineToken} → IsFile within_limits s ts → Each IsProperToken ts → IsShallow s → IsProperFile s
  proper_file (first {xs = xs} d) h s = first_proper xs (declared IsProperConstant constants_of_row state.ConItem (of_constants state.ConItem (λ e. cc) refl) d h)
  proper_file (one_more {bs = bs} {b = b} {ts = ts} {us = us} f x) h s =
      let z = All-pop IsShallowBlock (bs ++ b ∷ []) bs (Some b) refl s in
      All-push IsProperBlock bs b (proper_file f (each_first IsProperToken ts us h) z.0) (proper_block x (each_rest IsProperToken ts us h) z.1)

  pub files_are_proper : (ts : List LineToken) (s : Source) → IsFileWithinLimits s ts → words.AreProper (terms ts) → IsProperFile s
  files_are_proper ts s f h = proper_file f.0 (each_proper ts h) f.1
