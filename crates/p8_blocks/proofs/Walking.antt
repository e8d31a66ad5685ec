-- A file is lines one after the other.
use Rattle.std.proofs.Common.{◌≡◌, List, [], ◌∷◌, ◌++◌, Option, Some, None, Bool, true, false, refl, sym, ap, ◌∙◌, subst, append_assoc, append-nil, ◌&&◌}
use Rattle.std.specs.Prelude.{IsTrue, if◌then◌else◌, option_map}
use Rattle.p8_tree.specs.Sources as trees
use Rattle.p8_tree.specs.Sources.{Constant, MethodTree, BlockTree, Source}
use Rattle.p8_lexer.specs.declared.word.Word.{Word}
use Rattle.p8_lexer.specs.declared.word.Word.TheVariants as word_case
use Rattle.p8_columns.specs.Lines as lines
use Rattle.p8_columns.specs.Lines.{Kind, Plain, If, ElseIf, Else, Repeat, End, Case, Item, Other}
use Rattle.p8_columns.specs.declared.room.Room.TheVariants as room
use Rattle.p8_columns.specs.Columns.{FitsAs, Fits, FitAfter, AllFit, innermost, HasRoom}
use Rattle.p8_columns.proofs.Meaning.{fit_together}
use Rattle.p8_lexer.specs.Pieces.{Piece}
use Rattle.p8_lines.specs.declared.state.LineState.{LineState}
use Rattle.p8_lines.specs.declared.state.LineState.TheVariants as state
use Rattle.p8_lines.specs.Tokens.{LineToken, word}
use Rattle.p8_lines.specs.Lines as line_specs
use Rattle.p8_lines.specs.Lines.{Row, over}
use Rattle.p8_declarations.specs.Constants.{constants_of_row}
use Rattle.p8_declarations.specs.Variables.{variables_of_row}
use Rattle.p8_declarations.specs.Objects.{objects_of_row}
use Rattle.p8_declarations.specs.Methods.{method_of_row}
use Rattle.p8_declarations.specs.Lines.{line_of_row}
use Rattle.p8_statements.specs.Statements.{kind_of_row}
use Rattle.p8_blocks.specs.Values.{suits, begins_line}
use Rattle.p8_blocks.specs.Reading as blocks
use Rattle.p8_blocks.specs.Reading.{Part, constants, variables, objects, assembly, method, is_block_word, goes_on_chain, ends_loop, Enters, goes_on, loop_end, statement, item, from, leaves_loop, AreBlocks, no_blocks, con_block, var_block, obj_block, dat_block, method_block}
use Rattle.p8_blocks.specs.Files as files
use Rattle.p8_blocks.specs.Files.{Heights, is_item, begins_text, IsLine, lines_of_row, Declare, no_line, a_blank, a_line, AreLines, IsHead, method_word, IsBlock, first_block, IsFile, lines_in, is_chain_word, is_loop_end_word}
use Rattle.p8_blocks.proofs.After.{After, after_first, after_rest}
use Rattle.p8_blocks.proofs.Loops.{Leaves, is_in_loop, all_leave}
use Rattle.p8_blocks.proofs.Firsts.{Taken, first_taken, first_inside, first_inner, first_of_chain, first_of_loop_end, begins_inside}
use Rattle.p8_blocks.proofs.Saying.{line_says}
use Rattle.p8_blocks.proofs.Walks.{Valued, row_of_line, OpensAs, Adds, first_constants, more_constants, more_variables, more_objects, more_assembly, blank, head, declaration, method_line, Progress, Walk, none, more}
use Rattle.p8_blocks.proofs.Items.{Filled, item_declares}
use Rattle.p8_blocks.proofs.Keeping.{AllKinds, suited}
use Rattle.p8_blocks.proofs.Parts.{first_part}

-- the first token of a line
pub first_token : {q : LineState} {row : List Piece} {us : List LineToken} (test : LineState → Bool) → test state.End ≡ false → Row q row us → IsTrue (test q) → (t : LineToken) × (ts : List LineToken) × (us ≡ t ∷ ts)
first_token test n over h = absurd (let z = sym n ∙ h in cc)
first_token test n (line_specs.token {t = t} {ts = ts} f x) h = (t, ts, refl)
first_token test n (line_specs.phrase {first = first} {t = t} others {ts = ts} p x f y) h = (first, others ++ t ∷ ts, refl)

-- a line of a block that isn't a method
pub declared : {h : Heights} {ps qs : List Part} {ts : List LineToken} {V : Type 0} {value : List Piece → Option V} {v : V} (q : LineState) (us : List LineToken) → IsTrue (begins_inside q) → Valued h value q us v → Adds h us ps qs → {b : Bool} → Walk h (ps, b) ts → Walk h (qs, false) (ts ++ us)
declared {h} {ps} {qs} {ts} q us i v x w =
    let r = row_of_line h q v.row us v.line in
    let y = first_token begins_inside refl r i in
    let j = first_inside q y.0 i (first_taken y.0 y.1 r y.2) in
    subst (λ us. Walk h (qs, false) (ts ++ us)) (sym y.2) (more w (declaration y.0 j.not_end (λ z. (let n = sym j.not_head ∙ z.0 in cc)) (subst (λ us. Adds h us ps qs) y.2 x)))

first_adds : {h : Heights} (us : List LineToken) (xs ys : List Constant) → Filled ys → Valued h constants_of_row state.ConItem us ys → Adds h us (first_part xs) (first_part (xs ++ ys))
first_adds {h} us [] [] f v = absurd (let z = f.is in cc)
first_adds us [] (y ∷ ys) f v = first_constants v
first_adds us (x ∷ xs) ys f v = more_constants v

filled : {h : Heights} (us : List LineToken) (xs : List Constant) → Valued h constants_of_row state.ConItem us xs → Filled xs
filled {h} us xs v =
    let y = first_token begins_inside refl (row_of_line h state.ConItem v.row us v.line) refl in
    item_declares h y.0 y.1 xs (subst (λ us. Valued h constants_of_row state.ConItem us xs) y.2 v)

first_walk : {h : Heights} {xs : List Constant} {ts : List LineToken} → Declare h constants_of_row state.ConItem xs ts → Walk h (first_part xs, false) ts
first_walk no_line = none
first_walk (a_blank t e d) = more (first_walk d) (blank t e)
first_walk {h} (a_line {xs = xs} {ys = ys} us row l e d) =
    let v : Valued h constants_of_row state.ConItem us ys = record { row = row; line = l; is = e } in
    declared state.ConItem us refl v (first_adds us xs ys (filled us ys v) v) (first_walk d)

-- the lines of such a block
module _ {A : Type 0} {h : Heights} (f : List A → Part) (value : List Piece → Option (List A)) (q : LineState) (inside : IsTrue (begins_inside q)) (adds : (ps : List Part) (xs ys : List A) (us : List LineToken) → Valued h value q us ys → Adds h us (f xs ∷ ps) (f (xs ++ ys) ∷ ps)) where
  more_walk : (ps : List Part) (xs : List A) (ts : List LineToken) {ys : List A} {vs : List LineToken} → Declare h value q ys vs → Walk h (f xs ∷ ps, false) ts → Walk h (f (xs ++ ys) ∷ ps, false) (ts ++ vs)
  more_walk ps xs ts no_line w = subst (λ xs. Walk h (f xs ∷ ps, false) (ts ++ [])) (sym (append-nil xs)) (subst (λ ts. Walk h (f xs ∷ ps, false) ts) (sym (append-nil ts)) w)
  more_walk ps xs ts (a_blank {xs = ys} {ts = vs} t e d) w = subst (λ l. Walk h (f (xs ++ ys) ∷ ps, false) l) (append_assoc ts vs (t ∷ [])) (more (more_walk ps xs ts d w) (blank t e))
  more_walk ps xs ts (a_line {xs = ys} {ys = zs} {ts = vs} us row l e d) w =
      let v : Valued h value q us zs = record { row = row; line = l; is = e } in
      subst (λ xs. Walk h (f xs ∷ ps, false) (ts ++ (vs ++ us))) (append_assoc xs ys zs)
      (subst (λ l. Walk h (f ((xs ++ ys) ++ zs) ∷ ps, false) l) (append_assoc ts vs us)
      (declared q us inside v (adds ps (xs ++ ys) zs us v) (more_walk ps xs ts d w)))

-- those of DAT may be none
a_datum : {h : Heights} {q : LineState} {us : List LineToken} {ys : List trees.Line} → Valued h lines_of_row q us ys → (o : Option trees.Line) × Valued h line_of_row q us o × (ys ≡ lines_in o)
a_datum {h} {q} {us} {ys} v = go (line_of_row v.row) refl v.is
  where
    go : (o : Option (Option trees.Line)) → line_of_row v.row ≡ o → option_map lines_in o ≡ Some ys → (o : Option trees.Line) × Valued h line_of_row q us o × (ys ≡ lines_in o)
    go None e f = absurd cc
    go (Some o) e f = (o, record { row = v.row; line = v.line; is = e }, cc)

adds_data : {h : Heights} (ps : List Part) (xs ys : List trees.Line) (us : List LineToken) → Valued h lines_of_row state.DatLine us ys → Adds h us (assembly xs ∷ ps) (assembly (xs ++ ys) ∷ ps)
adds_data {h} ps xs ys us v = let y = a_datum v in subst (λ ys. Adds h us (assembly xs ∷ ps) (assembly (xs ++ ys) ∷ ps)) (sym y.2) (more_assembly y.1)

-- a line of a method

fit_first : (before xs ys : List lines.Line) → FitAfter before (xs ++ ys) → FitAfter before xs
fit_first before [] ys h = tt
fit_first before (x ∷ xs) ys h = (h.0, fit_first (before ++ x ∷ []) xs ys h.1)

fit_last : (before xs : List lines.Line) (l : lines.Line) → FitAfter before (xs ++ l ∷ []) → Fits (before ++ xs) l
fit_last before [] l h = subst (λ b. Fits b l) (sym (append-nil before)) h.0
fit_last before (x ∷ xs) l h = subst (λ b. Fits b l) (append_assoc before (x ∷ []) xs) (fit_last (before ++ x ∷ []) xs l h.1)

-- a line that isn't one of the text goes on with no chain and ends no loop
pub not_chain : (b : Bool) (w : Word) → is_chain_word w ≡ false → goes_on_chain b w ≡ false
not_chain true w e = refl
not_chain false w e = e

pub not_loop_end : (b : Bool) (w : Word) → is_loop_end_word w ≡ false → ends_loop b w ≡ false
not_loop_end true w e = refl
not_loop_end false w e = e

is_chain : (b : Bool) (w : Word) → b ≡ false → IsTrue (is_chain_word w) → IsTrue (goes_on_chain b w)
is_chain true w e h = absurd cc
is_chain false w e h = h

is_loop_end : (b : Bool) (w : Word) → b ≡ false → IsTrue (is_loop_end_word w) → IsTrue (ends_loop b w)
is_loop_end true w e h = absurd cc
is_loop_end false w e h = h

module _ (ls : List lines.Line) (b : Bool) (t : LineToken) where
  a_statement : Taken state.Statement t → HasRoom room.Statement (innermost t.place.column ls) → Enters ls b t (from state.Statement)
  a_statement x f = let y = first_inside state.Statement t refl x in statement (not_chain b (word t) y.not_chain) (not_loop_end b (word t) y.not_loop_end) f

  an_item : Taken state.CaseItem t → HasRoom room.Item (innermost t.place.column ls) → Enters ls b t (from state.CaseItem)
  an_item x f = let y = first_inside state.CaseItem t refl x in item (not_chain b (word t) y.not_chain) (not_loop_end b (word t) y.not_loop_end) f

  entering : (q : LineState) (k : Kind) → IsTrue (begins_line q) → begins_text q && b ≡ false → IsTrue (suits q k) → FitsAs k t.place.column ls → Taken q t → Enters ls b t (from q)
  entering state.Statement (Plain a) h o s f x = a_statement x f
  entering state.Statement (If n e) h o s f x = a_statement x f
  entering state.Statement (Repeat c) h o s f x = a_statement x f
  entering state.Statement (Case e) h o s f x = a_statement x f
  entering state.Statement k h o s f x = absurd cc
  entering state.ChainLine (ElseIf n e) h o s f x = goes_on (is_chain b (word t) o (first_of_chain t x)) f
  entering state.ChainLine Else h o s f x = goes_on (is_chain b (word t) o (first_of_chain t x)) f
  entering state.ChainLine k h o s f x = absurd cc
  entering state.LoopEndLine (End u e) h o s f x = loop_end (is_loop_end b (word t) o (first_of_loop_end t x)) f
  entering state.LoopEndLine k h o s f x = absurd cc
  entering state.CaseItem (Item xs) h o s f x = an_item x f
  entering state.CaseItem Other h o s f x = an_item x f
  entering state.CaseItem k h o s f x = absurd cc
  entering q k h o s f x = absurd cc

not_left : (a i : Bool) → IsTrue (if a then i else true) → ¬ (IsTrue a × (i ≡ false))
not_left true i h x = let z = sym h ∙ x.1 in cc
not_left false i h x = let z = x.0 in cc

pub method_walk : AllKinds → {h : Heights} {ps : List Part} {ts : List LineToken} (m : MethodTree) (ls : List lines.Line) (q : LineState) (row : List Piece) (t : LineToken) (us : List LineToken) (k : Kind) → IsTrue (begins_line q) → IsLine h q row (t ∷ us) → kind_of_row row ≡ Some k → Fits ls (lines.line t.place k) → Leaves ls (lines.line t.place k) → {c : Bool} → begins_text q && c ≡ false → Walk h (method m ls ∷ ps, c) ts → Walk h (method m (ls ++ lines.line t.place k ∷ []) ∷ ps, is_item k) (ts ++ t ∷ us)
method_walk kinds {h} m ls q row t us k b l e f g {c} o w =
    let r = row_of_line h q row (t ∷ us) l in
    let s = suited kinds q row (t ∷ us) k b r e in
    let x = first_taken t us r refl in
    let i = first_inner q t b x in
    let says = line_says q row t us k b r e s in
    more w (method_line t q i.not_end (λ z. (let n = sym i.not_head ∙ z.0 in cc)) (entering ls c t q k b o s f x)
    (not_left (leaves_loop q (word t)) (is_in_loop t.place.column ls) (sym (says.loops (is_in_loop t.place.column ls)) ∙ g))
    (record { row = row; line = l; is = e }))

pub lines_walk : AllKinds → {h : Heights} (m : MethodTree) (ps : List Part) (ts : List LineToken) {ls : List lines.Line} {b : Bool} {vs : List LineToken} → AreLines h ls b vs → AllFit ls → After Leaves [] ls → Walk h (method m [] ∷ ps, false) ts → Walk h (method m ls ∷ ps, b) (ts ++ vs)
lines_walk kinds {h} m ps ts files.no_line f g w = subst (λ ts. Walk h (method m [] ∷ ps, false) ts) (sym (append-nil ts)) w
lines_walk kinds {h} m ps ts (files.a_blank {ls = ls} {ts = vs} t e d) f g w = subst (λ l. Walk h (method m ls ∷ ps, false) l) (append_assoc ts vs (t ∷ [])) (more (lines_walk kinds m ps ts d f g w) (blank t e))
lines_walk kinds {h} m ps ts (files.a_line {ls = ls} {ts = vs} {k = k} q row t us b o l e d) f g w =
    let x = lines.line t.place k in
    subst (λ l. Walk h (method m (ls ++ x ∷ []) ∷ ps, is_item k) l) (append_assoc ts vs (t ∷ us))
    (method_walk kinds m ls q row t us k b l e (fit_last [] ls x f) ((after_rest Leaves [] ls (x ∷ []) g).0) o (lines_walk kinds m ps ts d (fit_first [] ls (x ∷ []) f) (after_first Leaves [] ls (x ∷ []) g) w))

-- blocks

begins_block : (w : Word) (t : LineToken) → IsHead w t → is_block_word w ≡ true → blocks.IsHead t
begins_block w t i e = (ap is_block_word i.is ∙ e, i.first)

-- a block's word with what stands on its line
head_walk : {h : Heights} {ps : List Part} {ts : List LineToken} (w : Word) (t : LineToken) → IsHead w t → is_block_word w ≡ true → (us : List LineToken) (p : Part) → OpensAs h w us p → {b : Bool} → Walk h (ps, b) ts → Walk h (p ∷ ps, false) (ts ++ t ∷ us)
head_walk {h} w t i b us p x y = more y (head t (begins_block w t i b) (subst (λ w. OpensAs h w us p) (sym i.is) x))

pub gathered : {h : Heights} {x : Progress} (ts : List LineToken) (t : LineToken) (us vs : List LineToken) → Walk h x ((ts ++ t ∷ us) ++ vs) → Walk h x (ts ++ t ∷ (us ++ vs))
gathered {h} {x} ts t us vs w = subst (λ l. Walk h x l) (append_assoc ts (t ∷ us) vs) w

pub record Block (h : Heights) (b : BlockTree) (ps : List Part) (ts : List LineToken) : Type 0 where
  pub part : Part
  pub begun : Bool
  pub walk : Walk h (part ∷ ps, begun) ts
  pub is : blocks.IsBlock part b

pub head_method : {h : Heights} {ps : List Part} {ts : List LineToken} (public : Bool) (t : LineToken) (us : List LineToken) (m : MethodTree) → IsHead (method_word public) t → Valued h (method_of_row public) state.MethodName us m → {b : Bool} → Walk h (ps, b) ts → Walk h (method m [] ∷ ps, false) (ts ++ t ∷ us)
head_method true t us m i v w = head_walk word_case.Pub t i refl us (method m []) (m, v, refl) w
head_method false t us m i v w = head_walk word_case.Pri t i refl us (method m []) (m, v, refl) w

block_walk : AllKinds → {h : Heights} (ps : List Part) (ts : List LineToken) {b : BlockTree} {us : List LineToken} → IsBlock h b us → {c : Bool} → Walk h (ps, c) ts → Block h b ps (ts ++ us)
block_walk kinds {h} ps ts (files.con {xs = xs} {ys = ys} {vs = vs} t us row i l e d) w =
    let v : Valued h constants_of_row state.ConHead us xs = record { row = row; line = l; is = e } in
    record {
      part = constants (xs ++ ys);
      begun = false;
      walk = gathered ts t us vs (more_walk constants constants_of_row state.ConItem refl (λ ps xs ys us v. more_constants v) ps xs (ts ++ t ∷ us) d (head_walk word_case.Con t i refl us (constants xs) (xs, v, refl) w));
      is = con_block;
    }
block_walk kinds {h} ps ts (files.var {xs = xs} {ys = ys} {vs = vs} t us row i l e d) w =
    let v : Valued h variables_of_row state.VarHead us xs = record { row = row; line = l; is = e } in
    record {
      part = variables (xs ++ ys);
      begun = false;
      walk = gathered ts t us vs (more_walk variables variables_of_row state.VarLine refl (λ ps xs ys us v. more_variables v) ps xs (ts ++ t ∷ us) d (head_walk word_case.Var t i refl us (variables xs) (xs, v, refl) w));
      is = var_block;
    }
block_walk kinds {h} ps ts (files.obj {xs = xs} {ys = ys} {vs = vs} t us row i l e d) w =
    let v : Valued h objects_of_row state.ObjHead us xs = record { row = row; line = l; is = e } in
    record {
      part = objects (xs ++ ys);
      begun = false;
      walk = gathered ts t us vs (more_walk objects objects_of_row state.ObjLine refl (λ ps xs ys us v. more_objects v) ps xs (ts ++ t ∷ us) d (head_walk word_case.Obj t i refl us (objects xs) (xs, v, refl) w));
      is = obj_block;
    }
block_walk kinds {h} ps ts (files.dat {xs = xs} {ys = ys} {vs = vs} t us row i l e d) w =
    let v : Valued h lines_of_row state.DatHead us xs = record { row = row; line = l; is = e } in
    let y = a_datum v in
    record {
      part = assembly (xs ++ ys);
      begun = false;
      walk = gathered ts t us vs (more_walk assembly lines_of_row state.DatLine refl adds_data ps xs (ts ++ t ∷ us) d (head_walk word_case.Dat t i refl us (assembly xs) (y.0, y.1, ap assembly y.2) w));
      is = dat_block;
    }
block_walk kinds {h} ps ts (files.method {m = m} {ls = ls} {b = b} {ss = ss} {vs = vs} public t us row i l e d a g) w =
    let v : Valued h (method_of_row public) state.MethodName us m = record { row = row; line = l; is = e } in
    record {
      part = method m ls;
      begun = b;
      walk = gathered ts t us vs (lines_walk kinds m ps (ts ++ t ∷ us) d ((fit_together ls).1 (ss, a)) ((all_leave ss ls a).1 g) (head_method public t us m i v w));
      is = method_block a;
    }

pub record Walked (h : Heights) (s : Source) (ts : List LineToken) : Type 0 where
  pub parts : List Part
  pub begun : Bool
  pub walk : Walk h (parts, begun) ts
  pub blocks : AreBlocks parts s

first_blocks : (xs : List Constant) → AreBlocks (first_part xs) (first_block xs)
first_blocks [] = no_blocks
first_blocks (x ∷ xs) = blocks.one_more no_blocks con_block

pub file_walk : AllKinds → {h : Heights} {s : Source} {ts : List LineToken} → IsFile h s ts → Walked h s ts
file_walk kinds (files.first {xs = xs} d) = record { parts = first_part xs; begun = false; walk = first_walk d; blocks = first_blocks xs }
file_walk kinds (files.one_more {ts = ts} f b) =
    let x = file_walk kinds f in
    let y = block_walk kinds x.parts ts b x.walk in
    record { parts = y.part ∷ x.parts; begun = y.begun; walk = y.walk; blocks = blocks.one_more x.blocks y.is }
