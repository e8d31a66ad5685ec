-- The setting after the tokens of a walk, and of a line that is begun.
use Rattle.std.proofs.Common.{◌≡◌, List, [], ◌∷◌, ◌++◌, Bool, true, false, refl, sym, ap, ◌∙◌, subst}
use Rattle.std.specs.Prelude.{IsTrue, if◌then◌else◌, ◌&&◌, ◌==◌, not}
use Rattle.p8_lexer.specs.declared.word.Word.{Word}
use Rattle.p8_lexer.specs.declared.word.Word.TheVariants as word_case
use Rattle.p8_grammar.specs.Lexemes.{Setting, in_method, in_declaration, in_dat, is_dat}
use Rattle.p8_lines.specs.declared.state.LineState.{LineState}
use Rattle.p8_lines.specs.declared.state.LineState.TheVariants as state
use Rattle.p8_lines.specs.Diagram.{setting_at}
use Rattle.p8_lexer.specs.Pieces.{Piece}
use Rattle.p8_lines.specs.Tokens.{LineToken, word}
use Rattle.p8_lines.specs.Lines as line_specs
use Rattle.p8_lines.specs.Lines.{Row}
use Rattle.p8_blocks.specs.Values.{begins_line}
use Rattle.p8_blocks.specs.Reading.{Part, constants, variables, objects, assembly, method, IsHead, is_block_word, head_state, line_state, declares}
use Rattle.p8_blocks.specs.Files.{any_height}
use Rattle.p8_blocks.specs.Refusals.{is_colon, block_setting, setting_with, setting_from, setting_behind}
use Rattle.p8_blocks.proofs.Walks.{OpensAs, Adds, first_constants, more_constants, more_variables, more_objects, more_assembly, Progress, Line, blank, head, declaration, method_line, Walk, none, more}
use Rattle.p8_blocks.proofs.Stopping.{AllValues, opening_row, added_row}
use Rattle.p8_blocks.proofs.Inside as inside
use Rattle.p8_blocks.proofs.Inside.{Quiet, first_quiet, implies, colon_after, after_append, in_dat_line, in_row, row_end}
use Rattle.p8_blocks.proofs.Ends.{is_over}
use Rattle.p8_blocks.proofs.Keeping.{entered_begins}
use Rattle.p8_blocks.proofs.Pieces.{is_labelled}

pub setting_append : (s : Setting) (c : Bool) (xs ys : List LineToken) → setting_from s c (xs ++ ys) ≡ setting_from (setting_from s c xs) (colon_after c xs) ys
setting_append s c [] ys = refl
setting_append s c (x ∷ xs) ys = setting_append (setting_with s c x) (is_colon (word x)) xs ys

-- words that begin no block don't change it
stays : (s : Setting) (c : Bool) (t : LineToken) → is_block_word (word t) ≡ false → setting_with s c t ≡ s
stays s c t e = ap (λ b. if b && ((t.place.column == 1) && not (is_dat s && c)) then block_setting (word t) else s) e

-- nor do names of local labels
label_stays : (s : Setting) (c : Bool) (t : LineToken) → IsTrue (is_dat s && c) → setting_with s c t ≡ s
label_stays s c t h = ap (λ d. if is_block_word (word t) && ((t.place.column == 1) && not d) then block_setting (word t) else s) h ∙ never (is_block_word (word t)) (t.place.column == 1)
  where
    never : (a b : Bool) → (if a && (b && false) then block_setting (word t) else s) ≡ s
    never false b = refl
    never true false = refl
    never true true = refl

pub quiet_keeps : (s : Setting) (c : Bool) {ts : List LineToken} → Quiet (is_dat s) c ts → setting_from s c ts ≡ s
quiet_keeps s c inside.over = refl
quiet_keeps s c (inside.next {t = t} {ts = ts} h x) = ap (λ s. setting_from s (is_colon (word t)) ts) (go (is_block_word (word t)) refl h) ∙ quiet_keeps s (is_colon (word t)) x
  where
    go : (b : Bool) → is_block_word (word t) ≡ b → IsTrue (if b then is_dat s && c else true) → setting_with s c t ≡ s
    go false e h = stays s c t e
    go true e h = label_stays s c t h

-- and a block's word in column 1 does
pub begins_with : (s : Setting) (c : Bool) (t : LineToken) → IsHead t → (is_dat s && c) ≡ false → setting_with s c t ≡ block_setting (word t)
begins_with s c t i h =
    ap (λ b. if b && ((t.place.column == 1) && not (is_dat s && c)) then block_setting (word t) else s) i.0
    ∙ ap (λ k. if (k == 1) && not (is_dat s && c) then block_setting (word t) else s) i.1
    ∙ ap (λ d. if not d then block_setting (word t) else s) h

-- the setting of the block at hand
abbrev pub part_setting : List Part → Setting
part_setting [] = in_declaration
part_setting (constants xs ∷ ps) = in_declaration
part_setting (variables xs ∷ ps) = in_declaration
part_setting (objects xs ∷ ps) = in_declaration
part_setting (assembly xs ∷ ps) = in_dat
part_setting (method m ls ∷ ps) = in_method

opened_setting : (w : Word) (us : List LineToken) (p : Part) (ps : List Part) → OpensAs any_height w us p → block_setting w ≡ part_setting (p ∷ ps)
opened_setting word_case.Con us p ps x = sym (ap (λ p. part_setting (p ∷ ps)) x.2)
opened_setting word_case.Var us p ps x = sym (ap (λ p. part_setting (p ∷ ps)) x.2)
opened_setting word_case.Obj us p ps x = sym (ap (λ p. part_setting (p ∷ ps)) x.2)
opened_setting word_case.Pub us p ps x = sym (ap (λ p. part_setting (p ∷ ps)) x.2)
opened_setting word_case.Pri us p ps x = sym (ap (λ p. part_setting (p ∷ ps)) x.2)
opened_setting word_case.Dat us p ps x = sym (ap (λ p. part_setting (p ∷ ps)) x.2)
opened_setting w us p ps x = absurd x

added_setting : {us : List LineToken} {ps qs : List Part} → Adds any_height us ps qs → part_setting ps ≡ part_setting qs
added_setting (first_constants v) = refl
added_setting (more_constants v) = refl
added_setting (more_variables v) = refl
added_setting (more_objects v) = refl
added_setting (more_assembly v) = refl

-- the states from which lines are read have it

pub head_setting : (w : Word) → IsTrue (is_block_word w) → setting_at (head_state w) ≡ block_setting w
head_setting word_case.Con h = refl
head_setting word_case.Var h = refl
head_setting word_case.Obj h = refl
head_setting word_case.Pub h = refl
head_setting word_case.Pri h = refl
head_setting word_case.Dat h = refl
head_setting w h = absurd cc

pub declared_setting : (ps : List Part) → IsTrue (declares ps) → setting_at (line_state ps) ≡ part_setting ps
declared_setting [] h = refl
declared_setting (constants xs ∷ ps) h = refl
declared_setting (variables xs ∷ ps) h = refl
declared_setting (objects xs ∷ ps) h = refl
declared_setting (assembly xs ∷ ps) h = refl
declared_setting (method m ls ∷ ps) h = absurd cc

pub entered_setting : (q : LineState) → IsTrue (begins_line q) → setting_at q ≡ in_method
entered_setting state.Statement h = refl
entered_setting state.ChainLine h = refl
entered_setting state.LoopEndLine h = refl
entered_setting state.CaseItem h = refl
entered_setting q h = absurd cc

never_in : (s : Setting) (c : Bool) → is_dat s ≡ false → (is_dat s && c) ≡ false
never_in s c h = ap (λ d. d && c) h

not_behind : (d : Bool) {c : Bool} → c ≡ false → (d && c) ≡ false
not_behind true h = h
not_behind false h = refl

-- lines begin where no local label's name stands, and aren't over there

pub head_plain : (w : Word) → IsTrue (is_block_word w) → (is_labelled (head_state w) ≡ false) × (is_over (head_state w) ≡ false)
head_plain word_case.Con h = (refl, refl)
head_plain word_case.Var h = (refl, refl)
head_plain word_case.Obj h = (refl, refl)
head_plain word_case.Pub h = (refl, refl)
head_plain word_case.Pri h = (refl, refl)
head_plain word_case.Dat h = (refl, refl)
head_plain w h = absurd cc

pub line_plain : (ps : List Part) → (is_labelled (line_state ps) ≡ false) × (is_over (line_state ps) ≡ false)
line_plain [] = (refl, refl)
line_plain (constants xs ∷ ps) = (refl, refl)
line_plain (variables xs ∷ ps) = (refl, refl)
line_plain (objects xs ∷ ps) = (refl, refl)
line_plain (assembly xs ∷ ps) = (refl, refl)
line_plain (method m ls ∷ ps) = (refl, refl)

pub begins_plain : (q : LineState) → IsTrue (begins_line q) → is_labelled q ≡ false
begins_plain state.Statement h = refl
begins_plain state.ChainLine h = refl
begins_plain state.LoopEndLine h = refl
begins_plain state.CaseItem h = refl
begins_plain q h = absurd cc

dat_line : (q : LineState) → is_dat (setting_at q) ≡ true → IsTrue (in_dat_line q)
dat_line state.End h = refl
dat_line state.LineEnd h = refl
dat_line q h = h

adds_declare : {us : List LineToken} {ps qs : List Part} → Adds any_height us ps qs → IsTrue (declares ps)
adds_declare (first_constants v) = refl
adds_declare (more_constants v) = refl
adds_declare (more_variables v) = refl
adds_declare (more_objects v) = refl
adds_declare (more_assembly v) = refl

-- the setting after a line, and that no colon is the last of a line of DAT
record After (y : Progress) (s : Setting) (c : Bool) (us : List LineToken) : Type 0 where
  setting : setting_from s c us ≡ part_setting y.0
  colon : (is_dat (part_setting y.0) && colon_after c us) ≡ false

-- a line that is read from a state with this setting
read_line : {q : LineState} {row : List Piece} {us : List LineToken} (s : Setting) → Row q row us → setting_at q ≡ s → is_labelled q ≡ false → is_over q ≡ false → (c : Bool) → (setting_from s c us ≡ s) × ((is_dat s && colon_after c us) ≡ false)
read_line {q} {row} {us} s r e l o c = (
  quiet_keeps s c (subst (λ s. Quiet (is_dat s) c us) e (in_row r c (subst (λ l. IsTrue (implies l c)) (sym l) refl))),
  go (is_dat (setting_at q)) refl,
)
  where
    go : (d : Bool) → is_dat (setting_at q) ≡ d → (is_dat s && colon_after c us) ≡ false
    go false d = never_in s (colon_after c us) (ap is_dat (sym e) ∙ d)
    go true d = not_behind (is_dat s) (row_end r (dat_line q d) c (subst (λ o. IsTrue (implies o (not c))) (sym o) refl))

module _ (all : AllValues) where
  line_setting : {x y : Progress} {us : List LineToken} → Line any_height x us y → (c : Bool) → (is_dat (part_setting x.0) && c) ≡ false → After y (part_setting x.0) c us
  line_setting (blank {ps = ps} t e) c h = record { setting = stays (part_setting ps) c t (ap is_block_word e); colon = not_behind (is_dat (part_setting ps)) (ap is_colon e) }
  line_setting (head {ps = ps} {p = p} {us = us} t i o) c h =
      let r = opening_row all (word t) us p o in
      let x = read_line (block_setting (word t)) r.1 (head_setting (word t) i.0) (head_plain (word t) i.0).0 (head_plain (word t) i.0).1 (is_colon (word t)) in
      record {
        setting = ap (λ s. setting_from s (is_colon (word t)) us) (begins_with (part_setting ps) c t i h) ∙ x.0 ∙ opened_setting (word t) us p ps o;
        colon = subst (λ s. (is_dat s && colon_after (is_colon (word t)) us) ≡ false) (opened_setting (word t) us p ps o) x.1;
      }
  line_setting (declaration {ps = ps} {us = us} t n i x) c h =
      let r = added_row all x in
      let y = read_line (part_setting ps) r.1 (declared_setting ps (adds_declare x)) (line_plain ps).0 (line_plain ps).1 c in
      record { setting = y.0 ∙ added_setting x; colon = subst (λ s. (is_dat s && colon_after c (t ∷ us)) ≡ false) (added_setting x) y.1 }
  line_setting (method_line {ls = ls} {b = b} {us = us} t q n i e l v) c h =
      let g = entered_begins ls b t q e in
      record { setting = quiet_keeps in_method c (subst (λ s. Quiet (is_dat s) c (t ∷ us)) (entered_setting q g) (in_row v.line c (subst (λ l. IsTrue (implies l c)) (sym (begins_plain q g)) refl))); colon = refl }

  walk_after : {x : Progress} {ts : List LineToken} → Walk any_height x ts → After x in_declaration false ts
  walk_after none = record { setting = refl; colon = refl }
  walk_after (more {x = x} {y = y} {ts = ts} {us = us} w l) =
      let a = walk_after w in
      let b = line_setting l (colon_after false ts) a.colon in
      record {
        setting = setting_append in_declaration false ts us ∙ ap (λ s. setting_from s (colon_after false ts) us) a.setting ∙ b.setting;
        colon = subst (λ c. (is_dat (part_setting y.0) && c) ≡ false) (sym (after_append false ts us)) b.colon;
      }

  pub walk_setting : {x : Progress} {ts : List LineToken} → Walk any_height x ts → setting_behind ts ≡ part_setting x.0
  walk_setting w = (walk_after w).setting

  -- what is read behind it is behind no colon that a local label may have
  pub walk_colon : {x : Progress} {ts : List LineToken} → Walk any_height x ts → (is_dat (part_setting x.0) && colon_after false ts) ≡ false
  walk_colon w = (walk_after w).colon

-- a line that is begun changes nothing
pub begun_setting : {q : LineState} (c : Bool) (us : List LineToken) → is_labelled q ≡ false → line_specs.Begins q us → setting_from (setting_at q) c us ≡ setting_at q
begun_setting {q} c us l (rest, row, r) = quiet_keeps (setting_at q) c (first_quiet us rest (in_row r c (subst (λ l. IsTrue (implies l c)) (sym l) refl)))
