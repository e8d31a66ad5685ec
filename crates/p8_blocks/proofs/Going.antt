-- Reading goes over the lines of a file within the limits, where no block stands too deep.
use Rattle.std.proofs.Common.{◌≡◌, ◌+◌, ◌<◌, ◌≤◌, ◌⊎◌, inl, inr, List, [], ◌∷◌, ◌++◌, length, Option, Some, None, Bool, true, false, refl, sym, ap, ◌∙◌, subst, append_assoc, arith}
use Rattle.std.specs.Prelude.{IsTrue, ◌↔◌, if◌then◌else◌}
use Rattle.std.proofs.lemmas.Bool.{cases_lt}
use Rattle.std.proofs.lemmas.List.Elements.{All-nil, All-push, All-pop}
use Rattle.p8_tree.specs.declared.places.Place.{Place}
use Rattle.p8_tree.specs.Sources.{BlockTree, Source}
use Rattle.p8_lexer.specs.declared.word.Word.{Word}
use Rattle.p8_lexer.specs.declared.word.Word.TheVariants as word_case
use Rattle.p8_columns.specs.Lines as lines
use Rattle.p8_columns.specs.Lines.{Kind}
use Rattle.p8_columns.specs.Columns.{open_for}
use Rattle.p8_lexer.specs.Pieces.{Piece}
use Rattle.p8_lines.specs.declared.state.LineState.{LineState}
use Rattle.p8_lines.specs.declared.state.LineState.TheVariants as state
use Rattle.p8_lines.specs.Tokens.{LineToken, word}
use Rattle.p8_lines.specs.Lines.{read, Reads, line}
use Rattle.p8_statements.specs.Statements.{kind_of_row}
use Rattle.p8_blocks.specs.Values.{ReadsAs, begins_line}
use Rattle.p8_lines.proofs.Readings.{leads_row}
use Rattle.p8_blocks.specs.Reading as blocks
use Rattle.p8_blocks.specs.Reading.{Part, method, Position, at, start, IsHead, opens, IsTooDeep, Enters, from, begin, begun_by, is_begun, Opens, Extends, Step, Goes, stay, go_on, AreBlocks, no_blocks, con_block, var_block, obj_block, dat_block, method_block}
use Rattle.p8_blocks.specs.Files.{Heights, within_limits, is_item}
use Rattle.p8_blocks.specs.Trees.{IsShallowBlock, IsShallow}
use Rattle.p8_blocks.proofs.After.{After, after_first, after_rest, after_more}
use Rattle.p8_blocks.proofs.Depths.{line_depth, Shallow, all_shallow}
use Rattle.p8_blocks.proofs.Firsts.{begins_inside}
use Rattle.p8_blocks.proofs.Saying.{line_says}
use Rattle.p8_blocks.proofs.Runs as runs
use Rattle.p8_blocks.proofs.Walks.{Valued, row_of_line, OpensAs, Adds, first_constants, more_constants, more_variables, more_objects, more_assembly, Line, blank, head, declaration, method_line, Progress, Walk, none, more}
use Rattle.p8_blocks.proofs.Keeping.{AllKinds, suited, entered_begins}
use Rattle.p8_blocks.proofs.Walking.{first_token}

-- depths

abbrev pub PartShallow : Part → Type 0
PartShallow (method m ls) = After Shallow [] ls
PartShallow p = Unit {0}

abbrev pub AllShallow : List Part → Type 0
AllShallow [] = Unit {0}
AllShallow (p ∷ ps) = PartShallow p × AllShallow ps

part_depth : {p : Part} {b : BlockTree} → blocks.IsBlock p b → PartShallow p ↔ IsShallowBlock b
part_depth con_block = (λ h. tt, λ h. tt)
part_depth var_block = (λ h. tt, λ h. tt)
part_depth obj_block = (λ h. tt, λ h. tt)
part_depth dat_block = (λ h. tt, λ h. tt)
part_depth (method_block {ls = ls} {ss = ss} a) = all_shallow ss ls a

pub depths : {ps : List Part} {s : Source} → AreBlocks ps s → AllShallow ps ↔ IsShallow s
depths no_blocks = (λ h. All-nil IsShallowBlock, λ h. tt)
depths (blocks.one_more {bs = bs} {b = b} a i) =
    let x = depths a in
    let y = part_depth i in (
      λ h. All-push IsShallowBlock bs b (x.0 h.1) (y.0 h.0),
      λ h. let z = All-pop IsShallowBlock (bs ++ b ∷ []) bs (Some b) refl h in (y.1 z.1, x.1 z.0),
    )

-- lines that are read

pub record ReadAs {V : Type 0} (value : List Piece → Option V) (q : LineState) (ts : List LineToken) (v : V) (rest : List LineToken) : Type 0 where
  pub tokens : List LineToken
  pub split : ts ≡ tokens ++ rest
  pub valued : Valued within_limits value q tokens v

read_as : {V : Type 0} {value : List Piece → Option V} {q : LineState} {ts rest : List LineToken} {v : V} → ReadsAs value q ts v rest → ReadAs value q ts v rest
read_as {value = value} {q = q} {ts = ts} {rest = rest} {v = v} x = go x.row x.is x.reads
  where
    go : (row : List Piece) → value row ≡ Some v → Reads q ts (read row rest) → ReadAs value q ts v rest
    go row e (line {us = us} split l) = record { tokens = us; split = split; valued = record { row = row; line = l; is = e } }

as_read : {V : Type 0} {value : List Piece → Option V} {q : LineState} (us rest : List LineToken) {v : V} → Valued within_limits value q us v → ReadsAs value q (us ++ rest) v rest
as_read us rest v = record { row = v.row; reads = line refl v.line; is = v.is }

record Opened (w : Word) (ts : List LineToken) (p : Part) (rest : List LineToken) : Type 0 where
  tokens : List LineToken
  split : ts ≡ tokens ++ rest
  opens : OpensAs within_limits w tokens p

opened : {t : LineToken} {ts rest : List LineToken} {p : Part} → Opens t ts p rest → Opened (word t) ts p rest
opened {t} {ts} {rest} {p} (blocks.con {xs = xs} e r) = let x = read_as r in record { tokens = x.tokens; split = x.split; opens = subst (λ w. OpensAs within_limits w x.tokens p) (sym e) (xs, x.valued, refl) }
opened {t} {ts} {rest} {p} (blocks.var {xs = xs} e r) = let x = read_as r in record { tokens = x.tokens; split = x.split; opens = subst (λ w. OpensAs within_limits w x.tokens p) (sym e) (xs, x.valued, refl) }
opened {t} {ts} {rest} {p} (blocks.obj {xs = xs} e r) = let x = read_as r in record { tokens = x.tokens; split = x.split; opens = subst (λ w. OpensAs within_limits w x.tokens p) (sym e) (xs, x.valued, refl) }
opened {t} {ts} {rest} {p} (blocks.pub_method {m = m} e r) = let x = read_as r in record { tokens = x.tokens; split = x.split; opens = subst (λ w. OpensAs within_limits w x.tokens p) (sym e) (m, x.valued, refl) }
opened {t} {ts} {rest} {p} (blocks.pri_method {m = m} e r) = let x = read_as r in record { tokens = x.tokens; split = x.split; opens = subst (λ w. OpensAs within_limits w x.tokens p) (sym e) (m, x.valued, refl) }
opened {t} {ts} {rest} {p} (blocks.dat {o = o} e r) = let x = read_as r in record { tokens = x.tokens; split = x.split; opens = subst (λ w. OpensAs within_limits w x.tokens p) (sym e) (o, x.valued, refl) }

opens_block : (t : LineToken) (us rest : List LineToken) (p : Part) (w : Word) → word t ≡ w → OpensAs within_limits w us p → Opens t (us ++ rest) p rest
opens_block t us rest p word_case.Con e x = subst (λ p. Opens t (us ++ rest) p rest) (sym x.2) (blocks.con e (as_read us rest x.1))
opens_block t us rest p word_case.Var e x = subst (λ p. Opens t (us ++ rest) p rest) (sym x.2) (blocks.var e (as_read us rest x.1))
opens_block t us rest p word_case.Obj e x = subst (λ p. Opens t (us ++ rest) p rest) (sym x.2) (blocks.obj e (as_read us rest x.1))
opens_block t us rest p word_case.Pub e x = subst (λ p. Opens t (us ++ rest) p rest) (sym x.2) (blocks.pub_method e (as_read us rest x.1))
opens_block t us rest p word_case.Pri e x = subst (λ p. Opens t (us ++ rest) p rest) (sym x.2) (blocks.pri_method e (as_read us rest x.1))
opens_block t us rest p word_case.Dat e x = subst (λ p. Opens t (us ++ rest) p rest) (sym x.2) (blocks.dat e (as_read us rest x.1))
opens_block t us rest p w e x = absurd x

-- a further line

record Extended (ts : List LineToken) (ps qs : List Part) (rest : List LineToken) : Type 0 where
  first : LineToken
  others : List LineToken
  split : ts ≡ first ∷ (others ++ rest)
  adds : Adds within_limits (first ∷ others) ps qs

extended_by : {ts rest : List LineToken} {ps qs : List Part} {V : Type 0} {value : List Piece → Option V} {v : V} (q : LineState) → IsTrue (begins_inside q) → ReadsAs value q ts v rest → ((us : List LineToken) → Valued within_limits value q us v → Adds within_limits us ps qs) → Extended ts ps qs rest
extended_by {rest = rest} {ps = ps} {qs = qs} q b r f =
    let x = read_as r in
    let y = first_token begins_inside refl (leads_row x.valued.line) b in
    record { first = y.0; others = y.1; split = x.split ∙ ap (λ l. l ++ rest) y.2; adds = subst (λ us. Adds within_limits us ps qs) y.2 (f x.tokens x.valued) }

extended : {ts rest : List LineToken} {ps qs : List Part} → Extends ts ps qs rest → Extended ts ps qs rest
extended (blocks.first_constants r) = extended_by state.ConItem refl r (λ us v. first_constants v)
extended (blocks.more_constants r) = extended_by state.ConItem refl r (λ us v. more_constants v)
extended (blocks.more_variables r) = extended_by state.VarLine refl r (λ us v. more_variables v)
extended (blocks.more_objects r) = extended_by state.ObjLine refl r (λ us v. more_objects v)
extended (blocks.more_assembly r) = extended_by state.DatLine refl r (λ us v. more_assembly v)

extends : {ps qs : List Part} (us rest : List LineToken) → Adds within_limits us ps qs → Extends (us ++ rest) ps qs rest
extends us rest (first_constants v) = blocks.first_constants (as_read us rest v)
extends us rest (more_constants v) = blocks.more_constants (as_read us rest v)
extends us rest (more_variables v) = blocks.more_variables (as_read us rest v)
extends us rest (more_objects v) = blocks.more_objects (as_read us rest v)
extends us rest (more_assembly v) = blocks.more_assembly (as_read us rest v)

-- how deep a line stands

module _ (kinds : AllKinds) {h : Heights} (ls : List lines.Line) {b : Bool} (t : LineToken) (us : List LineToken) (q : LineState) (k : Kind) (e : Enters ls b t (from q)) (v : Valued h kind_of_row q (t ∷ us) k) where
  says_depth : line_depth k ≡ (if opens q (word t) then 1 else 0)
  says_depth =
      let i = entered_begins ls b t q e in
      let r = row_of_line h q v.row (t ∷ us) v.line in
      (line_says q v.row t us k i r v.is (suited kinds q v.row (t ∷ us) k i r v.is)).depth

  pub not_too_deep : ¬ IsTooDeep ls q t → Shallow ls (lines.line t.place k)
  not_too_deep n = go (opens q (word t)) refl says_depth
    where
      go : (b : Bool) → opens q (word t) ≡ b → line_depth k ≡ (if b then 1 else 0) → Shallow ls (lines.line t.place k)
      go true o d h = within (cases_lt (length (open_for t.place.column ls) + 1) 64)
        where
          within : (length (open_for t.place.column ls) + 1 < 64) ⊎ (64 ≤ length (open_for t.place.column ls) + 1) → length (open_for t.place.column ls) + line_depth k < 64
          within (inl lt) = omega (arith, d, lt)
          within (inr le) = absurd (n (o, le))
      go false o d h = absurd (omega (arith, d, h))

  pub not_shallow : Shallow ls (lines.line t.place k) → ¬ IsTooDeep ls q t
  not_shallow s n =
      let d : line_depth k ≡ 1 = says_depth ∙ ap (λ b. if b then 1 else 0) n.0 in
      let lt = s (omega (arith, d)) in
      let le = n.1 in
      absurd (omega (arith, lt, le, d))

-- one line

pub record Stepped (x : Position) (ts : List LineToken) (y : Position) (rest : List LineToken) : Type 0 where
  pub tokens : List LineToken
  pub split : ts ≡ tokens ++ rest
  pub line : Line within_limits (x.parts, is_begun x.begun) tokens (y.parts, is_begun y.begun)
  pub deep : AllShallow x.parts → AllShallow y.parts

pub opened_shallow : (w : Word) (us : List LineToken) (p : Part) → OpensAs within_limits w us p → PartShallow p
opened_shallow word_case.Con us p x = subst PartShallow (sym x.2) tt
opened_shallow word_case.Var us p x = subst PartShallow (sym x.2) tt
opened_shallow word_case.Obj us p x = subst PartShallow (sym x.2) tt
opened_shallow word_case.Pub us p x = subst PartShallow (sym x.2) tt
opened_shallow word_case.Pri us p x = subst PartShallow (sym x.2) tt
opened_shallow word_case.Dat us p x = subst PartShallow (sym x.2) tt
opened_shallow w us p x = absurd x

pub added_shallow : {us : List LineToken} {ps qs : List Part} → Adds within_limits us ps qs → AllShallow ps → AllShallow qs
added_shallow (first_constants v) h = (tt, tt)
added_shallow (more_constants v) h = (tt, h.1)
added_shallow (more_variables v) h = (tt, h.1)
added_shallow (more_objects v) h = (tt, h.1)
added_shallow (more_assembly v) h = (tt, h.1)

added_before : {h : Heights} {us : List LineToken} {ps qs : List Part} → Adds h us ps qs → AllShallow qs → AllShallow ps
added_before (first_constants v) h = tt
added_before (more_constants v) h = (tt, h.1)
added_before (more_variables v) h = (tt, h.1)
added_before (more_objects v) h = (tt, h.1)
added_before (more_assembly v) h = (tt, h.1)

-- a line of the text is begun after an item
pub begun_behind : (k : Kind) (b : Option Place) (t : LineToken) → is_begun (begun_by k b t) ≡ is_item k
begun_behind k b t = go (is_item k)
  where
    go : (c : Bool) → is_begun (if c then Some (begin b t) else None) ≡ c
    go true = refl
    go false = refl

pub stepped : AllKinds → {x y : Position} {ts rest : List LineToken} → Step x ts y rest → Stepped x ts y rest
stepped kinds (blocks.blank {t = t} e) = record { tokens = t ∷ []; split = refl; line = blank t e; deep = λ h. h }
stepped kinds (blocks.head {p = p} {t = t} i o) =
    let x = opened o in
    record { tokens = t ∷ x.tokens; split = ap (λ l. t ∷ l) x.split; line = head t i x.opens; deep = λ h. (opened_shallow (word t) x.tokens p x.opens, h) }
stepped kinds (blocks.declaration {ps = ps} {qs = qs} {t = t} n i x) =
    let y = extended x in
    let firsts : t ≡ y.first = (let z = y.split in cc) in
    record {
      tokens = y.first ∷ y.others;
      split = y.split;
      line = declaration y.first (λ z. n (ap word firsts ∙ z)) (λ z. i (subst IsHead (sym firsts) z)) y.adds;
      deep = added_shallow y.adds;
    }
stepped kinds (blocks.method_line {m = m} {ls = ls} {ps = ps} {b = b} {t = t} {ts = ts} {rest = rest} {q = q} {k = k} n i e l d r) =
    let x = read_as r in
    let y = first_token begins_line refl (leads_row x.valued.line) (entered_begins ls _ t q e) in
    let split : t ∷ ts ≡ y.0 ∷ (y.1 ++ rest) = x.split ∙ ap (λ l. l ++ rest) y.2 in
    let firsts : y.0 ≡ t = cc in
    let tokens : x.tokens ≡ t ∷ y.1 = y.2 ∙ ap (λ t. t ∷ y.1) firsts in
    let v : Valued within_limits kind_of_row q (t ∷ y.1) k = subst (λ us. Valued within_limits kind_of_row q us k) tokens x.valued in
    let deep : Shallow ls (lines.line t.place k) = not_too_deep kinds ls t y.1 q k e v d in
    record {
      tokens = t ∷ y.1;
      split = x.split ∙ ap (λ l. l ++ rest) tokens;
      line = subst (λ c. Line within_limits (method m ls ∷ ps, is_begun b) (t ∷ y.1) (method m (ls ++ lines.line t.place k ∷ []) ∷ ps, c)) (sym (begun_behind k b t)) (method_line t q n i e l v);
      deep = λ h. (after_more Shallow ls (lines.line t.place k) h.0 deep, h.1);
    }

pub record Gone (ts : List LineToken) (y : Position) (rest : List LineToken) : Type 0 where
  pub tokens : List LineToken
  pub split : ts ≡ tokens ++ rest
  pub walk : Walk within_limits (y.parts, is_begun y.begun) tokens
  pub shallow : AllShallow y.parts

unfoldable pub gone : AllKinds → {y : Position} {ts rest : List LineToken} → Goes start ts y rest → Gone ts y rest
gone kinds stay = record { tokens = []; split = refl; walk = none; shallow = tt }
gone kinds {rest = rest} (go_on g s) =
    let x = gone kinds g in
    let y = stepped kinds s in
    record {
      tokens = x.tokens ++ y.tokens;
      split = x.split ∙ ap (λ l. x.tokens ++ l) y.split ∙ sym (append_assoc x.tokens y.tokens rest);
      walk = more x.walk y.line;
      shallow = y.deep x.shallow;
    }

-- and back

-- the parts before a line
pub before : {h : Heights} {x y : Progress} {us : List LineToken} → Line h x us y → AllShallow y.0 → AllShallow x.0
before (blank t e) h = h
before (head t i o) h = h.1
before (declaration t n i x) h = added_before x h
before (method_line {ls = ls} {k = k} t q n i e l v) h = (after_first Shallow [] ls (lines.line t.place k ∷ []) h.0, h.1)

-- the parts before some lines
pub run_before : {x y : Progress} {ts us : List LineToken} → runs.Run x ts y us → AllShallow y.0 → AllShallow x.0
run_before runs.stay h = h
run_before (runs.go_on us ws r e l) h = run_before r (before l h)

record Takes (ps : List Part) (b : Option Place) (us : List LineToken) (y : Progress) (rest : List LineToken) : Type 0 where
  begun : Option Place
  is : is_begun begun ≡ y.1
  step : Step (at ps b) (us ++ rest) (at y.0 begun) rest

takes : AllKinds → {x y : Progress} {us : List LineToken} (b : Option Place) (rest : List LineToken) → is_begun b ≡ x.1 → Line within_limits x us y → AllShallow y.0 → Takes x.0 b us y rest
takes kinds b rest f (blank t e) h = record { begun = None; is = refl; step = blocks.blank e }
takes kinds b rest f (head {p = p} {us = us} t i o) h = record { begun = None; is = refl; step = blocks.head i (opens_block t us rest p (word t) refl o) }
takes kinds b rest f (declaration {us = us} t n i x) h = record { begun = None; is = refl; step = blocks.declaration n i (extends (t ∷ us) rest x) }
takes kinds b rest f (method_line {ls = ls} {us = us} {k = k} t q n i e l v) h =
    let s : Shallow ls (lines.line t.place k) = (after_rest Shallow [] ls (lines.line t.place k ∷ []) h.0).0 in
    record { begun = begun_by k b t; is = begun_behind k b t; step = blocks.method_line n i (subst (λ c. Enters ls c t (from q)) (sym f) e) l (not_shallow kinds ls t us q k e v s) (as_read (t ∷ us) rest v) }

pub goes : AllKinds → {x : Progress} {ts : List LineToken} → Walk within_limits x ts → AllShallow x.0 → (rest : List LineToken) → (b : Option Place) × (is_begun b ≡ x.1) × Goes start (ts ++ rest) (at x.0 b) rest
goes kinds none h rest = (None, refl, stay)
goes kinds {x = y} (more {x = x} {ts = ts} {us = us} w l) h rest =
    let g = goes kinds w (before l h) (us ++ rest) in
    let z = takes kinds g.0 rest g.1 l h in
    (z.begun, z.is, subst (λ l. Goes start l (at y.0 z.begun) rest) (sym (append_assoc ts us rest)) (go_on g.2 z.step))
