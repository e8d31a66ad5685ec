-- Files whose methods are lines.
use Rattle.std.proofs.Common.{◌≡◌, List, [], ◌∷◌, ◌++◌, Option, Bool, true, false, refl, sym, ap, ◌∙◌, subst, append_assoc, append-nil, ◌&&◌}
use Rattle.std.specs.Prelude.{IsTrue, option_map}
use Rattle.p8_tree.specs.Sources as trees
use Rattle.p8_tree.specs.Sources.{Constant, Declared, Child, MethodTree, BlockTree, Source}
use Rattle.p8_lexer.specs.declared.word.Word.{Word}
use Rattle.p8_lexer.specs.declared.word.Word.TheVariants as word_case
use Rattle.p8_columns.specs.Lines as lines
use Rattle.p8_columns.specs.Lines.{Kind}
use Rattle.p8_lines.specs.declared.state.LineState.{LineState}
use Rattle.p8_lines.specs.declared.state.LineState.TheVariants as state
use Rattle.p8_lines.specs.Tokens.{LineToken, word}
use Rattle.p8_declarations.specs.Constants.{constants_of_row}
use Rattle.p8_declarations.specs.Variables.{variables_of_row}
use Rattle.p8_declarations.specs.Objects.{objects_of_row}
use Rattle.p8_declarations.specs.Methods.{method_of_row}
use Rattle.p8_declarations.specs.Lines.{line_of_row}
use Rattle.p8_statements.specs.Statements.{kind_of_row}
use Rattle.p8_blocks.specs.Values.{begins_line}
use Rattle.p8_blocks.specs.Reading as blocks
use Rattle.p8_blocks.specs.Reading.{Part, constants, variables, objects, assembly, method, AreBlocks, no_blocks, con_block, var_block, obj_block, dat_block, method_block}
use Rattle.p8_blocks.specs.Files as files
use Rattle.p8_blocks.specs.Files.{Heights, is_item, begins_text, lines_of_row, Declare, no_line, a_blank, a_line, AreLines, IsHead, method_word, IsBlock, first_block, IsFile, lines_in}
use Rattle.p8_blocks.proofs.Loops.{all_leave}
use Rattle.p8_blocks.proofs.Walks.{Valued, OpensAs, Adds, first_constants, more_constants, more_variables, more_objects, more_assembly, blank, head, declaration, method_line, Progress, Walk, none, more}
use Rattle.p8_blocks.proofs.Items.{Filled, item_declares}
use Rattle.p8_blocks.proofs.Keeping.{entered_text, Kept, AllKept, entered_begins}

-- these tokens are this part, and whether a line of the text is begun
pub data IsPart (h : Heights) : Part → Bool → List LineToken → Type 0 where
  con : {xs ys : List Constant} {vs : List LineToken} (t : LineToken) (us : List LineToken) → IsHead word_case.Con t → Valued h constants_of_row state.ConHead us xs → Declare h constants_of_row state.ConItem ys vs → IsPart h (constants (xs ++ ys)) false (t ∷ (us ++ vs))
  var : {xs ys : List Declared} {vs : List LineToken} (t : LineToken) (us : List LineToken) → IsHead word_case.Var t → Valued h variables_of_row state.VarHead us xs → Declare h variables_of_row state.VarLine ys vs → IsPart h (variables (xs ++ ys)) false (t ∷ (us ++ vs))
  obj : {xs ys : List Child} {vs : List LineToken} (t : LineToken) (us : List LineToken) → IsHead word_case.Obj t → Valued h objects_of_row state.ObjHead us xs → Declare h objects_of_row state.ObjLine ys vs → IsPart h (objects (xs ++ ys)) false (t ∷ (us ++ vs))
  dat : {xs ys : List trees.Line} {vs : List LineToken} (t : LineToken) (us : List LineToken) → IsHead word_case.Dat t → Valued h lines_of_row state.DatHead us xs → Declare h lines_of_row state.DatLine ys vs → IsPart h (assembly (xs ++ ys)) false (t ∷ (us ++ vs))
  a_method : {m : MethodTree} {ls : List lines.Line} {b : Bool} {vs : List LineToken} (public : Bool) (t : LineToken) (us : List LineToken) → IsHead (method_word public) t → Valued h (method_of_row public) state.MethodName us m → AreLines h ls b vs → IsPart h (method m ls) b (t ∷ (us ++ vs))

-- what stands before the first block's word
abbrev pub first_part : List Constant → List Part
first_part [] = []
first_part xs = constants xs ∷ []

pub data AreParts (h : Heights) : Progress → List LineToken → Type 0 where
  first : {ps : List Part} {ts : List LineToken} (xs : List Constant) → Declare h constants_of_row state.ConItem xs ts → ps ≡ first_part xs → AreParts h (ps, false) ts
  one_more : {ps : List Part} {b c : Bool} {p : Part} {ts us : List LineToken} → AreParts h (ps, b) ts → IsPart h p c us → AreParts h (p ∷ ps, c) (ts ++ us)

-- one line more

grouped : (h : Heights) (p : Part) (b : Bool) (t : LineToken) (us vs ws : List LineToken) → IsPart h p b (t ∷ (us ++ (vs ++ ws))) → IsPart h p b (t ∷ ((us ++ vs) ++ ws))
grouped h p b t us vs ws x = subst (λ l. IsPart h p b (t ∷ l)) (sym (append_assoc us vs ws)) x

blank_part : {h : Heights} {p : Part} {b : Bool} {us : List LineToken} (t : LineToken) → word t ≡ word_case.LineEnd → IsPart h p b us → IsPart h p false (us ++ t ∷ [])
blank_part {h} {p} e w (con {vs = vs} t us i v d) = grouped h p false t us vs (e ∷ []) (con t us i v (a_blank e w d))
blank_part {h} {p} e w (var {vs = vs} t us i v d) = grouped h p false t us vs (e ∷ []) (var t us i v (a_blank e w d))
blank_part {h} {p} e w (obj {vs = vs} t us i v d) = grouped h p false t us vs (e ∷ []) (obj t us i v (a_blank e w d))
blank_part {h} {p} e w (dat {vs = vs} t us i v d) = grouped h p false t us vs (e ∷ []) (dat t us i v (a_blank e w d))
blank_part {h} {p} e w (a_method {vs = vs} public t us i v d) = grouped h p false t us vs (e ∷ []) (a_method public t us i v (files.a_blank e w d))

moved : (h : Heights) (x : Progress) (ts us vs : List LineToken) → AreParts h x (ts ++ (us ++ vs)) → AreParts h x ((ts ++ us) ++ vs)
moved h y ts us vs x = subst (λ l. AreParts h y l) (sym (append_assoc ts us vs)) x

blank_more : {h : Heights} {x : Progress} {ts : List LineToken} (t : LineToken) → word t ≡ word_case.LineEnd → AreParts h x ts → AreParts h (x.0, false) (ts ++ t ∷ [])
blank_more t w (first xs d e) = first xs (a_blank t w d) e
blank_more {h} t w (one_more {ps = ps} {p = p} {ts = ts} {us = us} x y) = moved h (p ∷ ps, false) ts us (t ∷ []) (one_more x (blank_part t w y))

-- a block begins

no_more : {A : Type 0} (f : List A → Part) (h : Heights) (xs : List A) (t : LineToken) (us : List LineToken) (p : Part) → p ≡ f xs → IsPart h (f (xs ++ [])) false (t ∷ (us ++ [])) → IsPart h p false (t ∷ us)
no_more f h xs t us p e x = subst (λ p. IsPart h p false (t ∷ us)) (ap f (append-nil xs) ∙ sym e) (subst (λ l. IsPart h (f (xs ++ [])) false (t ∷ l)) (append-nil us) x)

pub some_lines : {h : Heights} {q : LineState} {ts : List LineToken} {o : Option trees.Line} → Valued h line_of_row q ts o → Valued h lines_of_row q ts (lines_in o)
some_lines v = record { row = v.row; line = v.line; is = ap (λ o. option_map lines_in o) v.is }

head_as : (t : LineToken) (w : Word) → word t ≡ w → t.place.column ≡ 1 → IsHead w t
head_as t w e f = record { is = e; first = f }

begun : (h : Heights) (t : LineToken) (us : List LineToken) (p : Part) (w : Word) → word t ≡ w → t.place.column ≡ 1 → OpensAs h w us p → IsPart h p false (t ∷ us)
begun h t us p word_case.Con e f x = no_more constants h x.0 t us p x.2 (con t us (head_as t word_case.Con e f) x.1 no_line)
begun h t us p word_case.Var e f x = no_more variables h x.0 t us p x.2 (var t us (head_as t word_case.Var e f) x.1 no_line)
begun h t us p word_case.Obj e f x = no_more objects h x.0 t us p x.2 (obj t us (head_as t word_case.Obj e f) x.1 no_line)
begun h t us p word_case.Dat e f x = no_more assembly h (lines_in x.0) t us p x.2 (dat t us (head_as t word_case.Dat e f) (some_lines x.1) no_line)
begun h t us p word_case.Pub e f x = subst (λ p. IsPart h p false (t ∷ us)) (sym x.2) (subst (λ l. IsPart h (method x.0 []) false (t ∷ l)) (append-nil us) (a_method true t us (head_as t word_case.Pub e f) x.1 files.no_line))
begun h t us p word_case.Pri e f x = subst (λ p. IsPart h p false (t ∷ us)) (sym x.2) (subst (λ l. IsPart h (method x.0 []) false (t ∷ l)) (append-nil us) (a_method false t us (head_as t word_case.Pri e f) x.1 files.no_line))
begun h t us p w e f x = absurd x

-- and goes on

further : {A : Type 0} (f : List A → Part) (h : Heights) (xs ys zs : List A) (t : LineToken) (us vs ws : List LineToken) → IsPart h (f (xs ++ (ys ++ zs))) false (t ∷ (us ++ (vs ++ ws))) → IsPart h (f ((xs ++ ys) ++ zs)) false (t ∷ ((us ++ vs) ++ ws))
further f h xs ys zs t us vs ws x = grouped h (f ((xs ++ ys) ++ zs)) false t us vs ws (subst (λ xs. IsPart h (f xs) false (t ∷ (us ++ (vs ++ ws)))) (sym (append_assoc xs ys zs)) x)

constants_part : {h : Heights} {xs zs : List Constant} {b : Bool} {us ws : List LineToken} → IsPart h (constants xs) b us → Valued h constants_of_row state.ConItem ws zs → IsPart h (constants (xs ++ zs)) false (us ++ ws)
constants_part {h} {zs = zs} {ws = ws} (con {xs = xs} {ys = ys} {vs = vs} t us i x d) v = further constants h xs ys zs t us vs ws (con t us i x (a_line ws v.row v.line v.is d))

variables_part : {h : Heights} {xs zs : List Declared} {b : Bool} {us ws : List LineToken} → IsPart h (variables xs) b us → Valued h variables_of_row state.VarLine ws zs → IsPart h (variables (xs ++ zs)) false (us ++ ws)
variables_part {h} {zs = zs} {ws = ws} (var {xs = xs} {ys = ys} {vs = vs} t us i x d) v = further variables h xs ys zs t us vs ws (var t us i x (a_line ws v.row v.line v.is d))

objects_part : {h : Heights} {xs zs : List Child} {b : Bool} {us ws : List LineToken} → IsPart h (objects xs) b us → Valued h objects_of_row state.ObjLine ws zs → IsPart h (objects (xs ++ zs)) false (us ++ ws)
objects_part {h} {zs = zs} {ws = ws} (obj {xs = xs} {ys = ys} {vs = vs} t us i x d) v = further objects h xs ys zs t us vs ws (obj t us i x (a_line ws v.row v.line v.is d))

assembly_part : {h : Heights} {xs zs : List trees.Line} {b : Bool} {us ws : List LineToken} → IsPart h (assembly xs) b us → Valued h lines_of_row state.DatLine ws zs → IsPart h (assembly (xs ++ zs)) false (us ++ ws)
assembly_part {h} {zs = zs} {ws = ws} (dat {xs = xs} {ys = ys} {vs = vs} t us i x d) v = further assembly h xs ys zs t us vs ws (dat t us i x (a_line ws v.row v.line v.is d))

method_part : {h : Heights} {m : MethodTree} {ls : List lines.Line} {b : Bool} {us : List LineToken} (t : LineToken) (ws : List LineToken) (q : LineState) (k : Kind) → IsTrue (begins_line q) → begins_text q && b ≡ false → IsPart h (method m ls) b us → Valued h kind_of_row q (t ∷ ws) k → IsPart h (method m (ls ++ lines.line t.place k ∷ [])) (is_item k) (us ++ t ∷ ws)
method_part {h} {m} t ws q k b o (a_method {ls = ls} {vs = vs} public s us i x d) v =
    grouped h (method m (ls ++ lines.line t.place k ∷ [])) (is_item k) s us vs (t ∷ ws) (a_method public s us i x (files.a_line q v.row t ws b o v.line v.is d))

-- no other part stands before the first block's word

pub one_part : {p : Part} {ps : List Part} (xs : List Constant) → p ∷ ps ≡ first_part xs → (p ≡ constants xs) × (ps ≡ []) × Filled xs
one_part [] e = absurd cc
one_part (x ∷ xs) e = (cc, cc, record { first = x; others = xs; is = refl })

no_part : (xs : List Constant) → [] ≡ first_part xs → xs ≡ []
no_part [] e = refl
no_part (x ∷ xs) e = absurd cc

filled_part : (xs : List Constant) → Filled xs → first_part xs ≡ constants xs ∷ []
filled_part [] f = absurd (let z = f.is in cc)
filled_part (x ∷ xs) f = refl

filled_more : (xs ys : List Constant) → Filled xs → Filled (xs ++ ys)
filled_more xs ys f = record { first = f.first; others = f.others ++ ys; is = ap (λ xs. xs ++ ys) f.is }

is_constants : {xs ys : List Constant} → constants xs ≡ constants ys → xs ≡ ys
is_constants e = cc

adds : {h : Heights} {ps qs : List Part} {ts : List LineToken} (t : LineToken) (us : List LineToken) → Adds h (t ∷ us) ps qs → {b : Bool} → AreParts h (ps, b) ts → AreParts h (qs, false) (ts ++ t ∷ us)
adds {h} {ts = ts} t us (first_constants {xs = ys} v) (first xs d e) =
    let nothing = no_part xs e in
    let d' : Declare h constants_of_row state.ConItem ys (ts ++ t ∷ us) = a_line (t ∷ us) v.row v.line v.is (subst (λ xs. Declare h constants_of_row state.ConItem xs ts) nothing d) in
    first ys d' (sym (filled_part ys (item_declares h t us ys v)))
adds {h} {ts = ts} t us (more_constants {xs = xs} {ys = ys} {ps = ps} v) (first zs d e) =
    let o = one_part zs e in
    let same : xs ≡ zs = is_constants o.0 in
    let alone : ps ≡ [] = o.1 in
    let filled = filled_more zs ys o.2 in
    first (zs ++ ys) (a_line (t ∷ us) v.row v.line v.is d) (ap (λ ps. constants (xs ++ ys) ∷ ps) alone ∙ ap (λ xs. constants (xs ++ ys) ∷ []) same ∙ sym (filled_part (zs ++ ys) filled))
adds t us (more_variables v) (first zs d e) = absurd (let z = (one_part zs e).0 in cc)
adds t us (more_objects v) (first zs d e) = absurd (let z = (one_part zs e).0 in cc)
adds t us (more_assembly v) (first zs d e) = absurd (let z = (one_part zs e).0 in cc)
adds {h} t us (more_constants v) (one_more {ts = ts} {us = vs} x y) = moved h _ ts vs (t ∷ us) (one_more x (constants_part y v))
adds {h} t us (more_variables v) (one_more {ts = ts} {us = vs} x y) = moved h _ ts vs (t ∷ us) (one_more x (variables_part y v))
adds {h} t us (more_objects v) (one_more {ts = ts} {us = vs} x y) = moved h _ ts vs (t ∷ us) (one_more x (objects_part y v))
adds {h} t us (more_assembly v) (one_more {ts = ts} {us = vs} x y) = moved h _ ts vs (t ∷ us) (one_more x (assembly_part y (some_lines v)))

adds_line : {h : Heights} {m : MethodTree} {ls : List lines.Line} {ps : List Part} {b : Bool} {ts : List LineToken} (t : LineToken) (us : List LineToken) (q : LineState) (k : Kind) → IsTrue (begins_line q) → begins_text q && b ≡ false → Valued h kind_of_row q (t ∷ us) k → AreParts h (method m ls ∷ ps, b) ts → AreParts h (method m (ls ++ lines.line t.place k ∷ []) ∷ ps, is_item k) (ts ++ t ∷ us)
adds_line t us q k b o v (first zs d e) = absurd (let z = (one_part zs e).0 in cc)
adds_line {h} {m} {ls} {ps} t us q k b o v (one_more {ts = ts} {us = vs} x y) = moved h (method m (ls ++ lines.line t.place k ∷ []) ∷ ps, is_item k) ts vs (t ∷ us) (one_more x (method_part t us q k b o y v))

pub walk_parts : {h : Heights} {x : Progress} {ts : List LineToken} → Walk h x ts → AreParts h x ts
walk_parts none = first [] no_line refl
walk_parts (more w (blank t e)) = blank_more t e (walk_parts w)
walk_parts {h} (more w (head {p = p} {us = us} t i o)) = one_more (walk_parts w) (begun h t us p (word t) refl i.1 o)
walk_parts (more w (declaration {us = us} t e n x)) = adds t us x (walk_parts w)
walk_parts (more w (method_line {ls = ls} {b = b} {us = us} {k = k} t q e n i l v)) = adds_line t us q k (entered_begins ls b t q i) (entered_text ls b t q i) v (walk_parts w)

-- parts with their trees are a file

part_block : {h : Heights} {p : Part} {c : Bool} {b : BlockTree} {us : List LineToken} → IsPart h p c us → blocks.IsBlock p b → Kept p → IsBlock h b us
part_block (con t us i v d) con_block k = files.con t us v.row i v.line v.is d
part_block (var t us i v d) var_block k = files.var t us v.row i v.line v.is d
part_block (obj t us i v d) obj_block k = files.obj t us v.row i v.line v.is d
part_block (dat t us i v d) dat_block k = files.dat t us v.row i v.line v.is d
part_block (a_method public t us i v d) (method_block {ls = ls} {ss = ss} a) k = files.method public t us v.row i v.line v.is d a ((all_leave ss ls a).0 k.1)

first_source : (xs : List Constant) {s : Source} → AreBlocks (first_part xs) s → s ≡ first_block xs
first_source [] no_blocks = refl
first_source (x ∷ xs) (blocks.one_more no_blocks con_block) = refl

pub parts_file : {h : Heights} {x : Progress} {s : Source} {ts : List LineToken} → AreParts h x ts → AreBlocks x.0 s → AllKept x.0 → IsFile h s ts
parts_file {h} {s = s} {ts = ts} (first xs d e) a k = subst (λ s. IsFile h s ts) (sym (first_source xs (subst (λ ps. AreBlocks ps s) e a))) (files.first d)
parts_file (one_more x y) (blocks.one_more a b) k = files.one_more (parts_file x a k.1) (part_block y b k.0)
