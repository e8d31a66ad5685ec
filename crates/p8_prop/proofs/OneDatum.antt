-- A line of DAT is read in one way. A label that an instruction names behind `#` is an expression, too, with the same meaning: it is read as that.
use Rattle.std.proofs.Common.{◌≡◌, inl, inr, ◌∙◌, sym, ap, ap₂, subst, refl, ℕ, Bool, true, false, List, [], ◌∷◌, ◌++◌, map, Option, Some, None}
use Rattle.std.specs.Prelude.{IsTrue, if◌then◌else◌, ◌||◌, option_map, is_some}
use Rattle.std.specs.List.{list_all}
use Rattle.p8_tree.specs.declared.places.Place.{Place}
use Rattle.p8_tree.specs.Expressions.{Tree, node, Str}
use Rattle.p8_tree.specs.Sources as sources
use Rattle.p8_tree.specs.Sources.{Datum, Instruction}
use Rattle.p8_instr.specs.Mnemonics.{mnemonics}
use Rattle.p8_lexer.specs.declared.word.Word.{Word}
use Rattle.p8_lexer.specs.declared.word.Word.TheVariants as words
use Rattle.p8_lexer.specs.Pieces.{Piece}
use Rattle.p8_grammar.specs.Lexemes.{Setting, in_dat, Lexeme, mark, colon as colon_mark}
use Rattle.p8_grammar.specs.Lexemes.{token, name as name_lexeme, name_in}
use Rattle.p8_grammar.specs.Grammar.{IsExpression, operand, variable, named, plain_name, local_label, nothing, a_word}
use Rattle.p8_lines.specs.Tokens.{LineToken, word, lexeme, term, terms, piece}
use Rattle.p8_lines.proofs.Lexemes.{colon_lexeme}
use Rattle.p8_declarations.specs.DataParts.{Part, line_end, colon, comma, hash, left_bracket, right_bracket, size, org, res, fit, condition, effect}
use Rattle.p8_declarations.specs.DataParts.{jump, other, name, behind_colon, text, tree, part_of_word, part_of_piece, place_of, before_end}
use Rattle.p8_declarations.specs.Lines as lines
use Rattle.p8_declarations.specs.Lines.{local, value, before, behind, open_bracket, counted, over, datum, items, all_items, bare, effects, label}
use Rattle.p8_declarations.specs.Lines.{behind_hash, source, behind_destination, operands, instruction, body, blank, line, maybe_line}
use Rattle.p8_blocks.specs.Files.{lines_in, lines_of_row}
use Rattle.p8_blocks.proofs.Pieces.{word_piece}
use Rattle.p8_prop.proofs.Reading as said
use Rattle.p8_prop.proofs.Reading.{in_data, is_known, data_of_row}
use Rattle.p8_prop.proofs.Marks.{Sort, a_name, a_text, a_word, sort, is_block, block-piece}
use Rattle.p8_prop.proofs.OneRow.{Reads, last, a_token, a_label, an_expression, one, some-one, goes, gone}
use Rattle.p8_prop.proofs.OneDeclaration.{IsReadOnce, BeginsNoBlock, mapped}
use Rattle.p8_prop.proofs.DataTable.{Stage, front, named_next, maybe, operand_next, operand_read, hashed, item, item_read, count_next, count_read}
use Rattle.p8_prop.proofs.DataTable.{item_over, line_over, step, go, table, clear, known-step, step-known, Known, token-known, label-known, tree-known, fits}
use Rattle.p8_prop.proofs.DataTable.{is_size_part, is_bracket, is_tree, is_label, is_end, is_hash, is_colon, end-word, colon-word, end-part, colon-part}
use Rattle.p8_prop.proofs.DataTable.{of_token, by-word, plain-token, size-token, open-token, same, same-so, both, if_some, kept-so, ahead, right-false}

-- ---- what has a value is such a row

-- a row with expressions for the labels that instructions name
abbrev canonical : Bool → List Part → List Part
canonical b [] = []
canonical false (x ∷ ps) = x ∷ canonical (is_hash x) ps
canonical true (name n p ∷ ps) = tree (label n p) p ∷ canonical false ps
canonical true (colon p ∷ behind_colon n q ∷ ps) = tree (label (local n) p) p ∷ canonical false ps
canonical true (x ∷ ps) = x ∷ canonical (is_hash x) ps

-- the table leads along these parts to where a line may end
abbrev leads : Stage → List Part → Bool
leads q [] = is_some (step q line_end)
leads q (x ∷ ps) = goes (λ r. leads r ps) (step q x)

-- such a row has this value, and the table leads along it
record Leads {X : Type 0} (q : Stage) (hashed : Bool) (f : List Part → Option X) (ps : List Part) (x : X) : Type 0 where
  along : IsTrue (leads q (canonical hashed ps))
  is : f (canonical hashed ps) ≡ Some x

-- effects may stand where an operand may
read-next : (ps : List Part) → IsTrue (leads operand_read ps) → IsTrue (leads operand_next ps)
read-next [] h = refl
read-next (comma ∷ ps) h = h
read-next (effect b ∷ ps) h = h
read-next (line_end ∷ ps) h = h
read-next (x ∷ ps) h = absurd cc

effects-lead : (ps : List Part) (x : Instruction) {i : Instruction} → effects x ps ≡ Some i → Leads operand_read false (effects x) ps i
effects-lead [] x h = record { along = refl; is = h }
effects-lead (effect b ∷ ps) x h = let it = effects-lead ps _ h in record { along = read-next (canonical false ps) it.along; is = it.is }
effects-lead (comma ∷ ps) x h = let it = effects-lead ps x h in record { along = read-next (canonical false ps) it.along; is = it.is }
effects-lead ps x h = absurd cc

behind_hash-lead : (x : Instruction) (ps : List Part) {i : Instruction} → behind_hash x ps ≡ Some i → Leads hashed true (behind_hash x) ps i
behind_hash-lead x (tree e p ∷ ps) h = let it = effects-lead ps _ h in record { along = it.along; is = it.is }
behind_hash-lead x (name n p ∷ ps) h = let it = effects-lead ps _ h in record { along = it.along; is = it.is }
behind_hash-lead x (colon p ∷ behind_colon n q ∷ ps) h = let it = effects-lead ps _ h in record { along = it.along; is = it.is }
behind_hash-lead x ps h = absurd cc

source-lead : (x : Instruction) (ps : List Part) {i : Instruction} → source x ps ≡ Some i → Leads operand_next false (source x) ps i
source-lead x (hash ∷ ps) h = let it = behind_hash-lead x ps h in record { along = it.along; is = it.is }
source-lead x (tree e p ∷ ps) h = let it = effects-lead ps _ h in record { along = it.along; is = it.is }
source-lead x [] h = record { along = refl; is = h }
source-lead x (effect b ∷ ps) h = let it = effects-lead ps _ h in record { along = read-next (canonical false ps) it.along; is = it.is }
source-lead x (comma ∷ ps) h = let it = effects-lead ps x h in record { along = read-next (canonical false ps) it.along; is = it.is }
source-lead x ps h = absurd cc

behind_destination-lead : (x : Instruction) (ps : List Part) {i : Instruction} → behind_destination x ps ≡ Some i
    → Leads operand_read false (behind_destination x) ps i
behind_destination-lead x [] h = record { along = refl; is = h }
behind_destination-lead x (comma ∷ ps) h = let it = source-lead x ps h in record { along = it.along; is = it.is }
behind_destination-lead x (effect b ∷ ps) h = let it = effects-lead ps _ h in record { along = read-next (canonical false ps) it.along; is = it.is }
behind_destination-lead x ps h = absurd cc

operands-lead : (x : Instruction) (ps : List Part) {i : Instruction} → operands x ps ≡ Some i → Leads operand_next false (operands x) ps i
operands-lead x [] h = record { along = refl; is = h }
operands-lead x (tree e p ∷ ps) h = let it = behind_destination-lead _ ps h in record { along = it.along; is = it.is }
operands-lead x (hash ∷ ps) h = let it = behind_hash-lead x ps h in record { along = it.along; is = it.is }
operands-lead x (effect b ∷ ps) h = let it = effects-lead ps _ h in record { along = read-next (canonical false ps) it.along; is = it.is }
operands-lead x (comma ∷ ps) h = let it = effects-lead ps x h in record { along = read-next (canonical false ps) it.along; is = it.is }
operands-lead x ps h = absurd cc

-- what is made of a value
made : {X Y : Type 0} (f : X → Y) (o o' : Option X) {x : X} {y : Y} → o ≡ Some x → o' ≡ Some x → option_map f o ≡ Some y → option_map f o' ≡ Some y
made f o o' e e' h = ap (option_map f) (e' ∙ sym e) ∙ h

instruction-lead : (c : ℕ) (x : sources.Line) (ps : List Part) {l : sources.Line} → instruction c x ps ≡ Some l → Leads front false (instruction c x) ps l
instruction-lead c x (jump p ∷ ps) h =
    let e = mapped _ (source (bare c words.Jmp p) ps) h in
    let it = source-lead (bare c words.Jmp p) ps e.1 in
    record { along = it.along; is = made _ (source (bare c words.Jmp p) ps) (source (bare c words.Jmp p) (canonical false ps)) e.1 it.is h }
instruction-lead c x (other w p ∷ ps) h =
    let e = mapped _ (operands (bare c w p) ps) h in
    let it = operands-lead (bare c w p) ps e.1 in
    record { along = it.along; is = made _ (operands (bare c w p) ps) (operands (bare c w p) (canonical false ps)) e.1 it.is h }
instruction-lead c x ps h = absurd cc

value-lead : (ps : List Part) {o : Option Tree} → value ps ≡ Some o → Leads maybe false value ps o
value-lead [] h = record { along = refl; is = h }
value-lead (tree e p ∷ []) h = record { along = refl; is = h }
value-lead ps h = absurd cc

abbrev stage_of : lines.Stage → Stage
stage_of (before s) = item
stage_of (behind s e) = item_read
stage_of (open_bracket s e) = count_next
stage_of (counted s e c) = count_read
stage_of (over s e c) = item_over

items-lead : (read : List Datum) (stage : lines.Stage) (ps : List Part) {ds : List Datum} → items read stage ps ≡ Some ds
    → Leads (stage_of stage) false (items read stage) ps ds
items-lead read (before None) (size n p ∷ ps) h = let it = items-lead read (before (Some n)) ps h in record { along = it.along; is = it.is }
items-lead read (before None) (tree e p ∷ ps) h = let it = items-lead read (behind None e) ps h in record { along = it.along; is = it.is }
items-lead read (before None) (text t p ∷ ps) h = let it = items-lead read (over None (node p (Str t)) None) ps h in record { along = it.along; is = it.is }
items-lead read (before (Some n)) (tree e p ∷ ps) h = let it = items-lead read (behind (Some n) e) ps h in record { along = it.along; is = it.is }
items-lead read (before (Some n)) (text t p ∷ ps) h =
    let it = items-lead read (over (Some n) (node p (Str t)) None) ps h in
    record { along = it.along; is = it.is }
items-lead read (behind s e) [] h = record { along = refl; is = h }
items-lead read (behind s e) (comma ∷ ps) h = let it = items-lead (read ++ datum s e None ∷ []) (before None) ps h in record { along = it.along; is = it.is }
items-lead read (behind s e) (left_bracket ∷ ps) h = let it = items-lead read (open_bracket s e) ps h in record { along = it.along; is = it.is }
items-lead read (open_bracket s e) (tree c p ∷ ps) h = let it = items-lead read (counted s e c) ps h in record { along = it.along; is = it.is }
items-lead read (counted s e c) (right_bracket ∷ ps) h = let it = items-lead read (over s e (Some c)) ps h in record { along = it.along; is = it.is }
items-lead read (over s e c) [] h = record { along = refl; is = h }
items-lead read (over s e c) (comma ∷ ps) h = let it = items-lead (read ++ datum s e c ∷ []) (before None) ps h in record { along = it.along; is = it.is }
items-lead read stage ps h = absurd cc

all_items-lead : (ps : List Part) {ds : List Datum} → all_items ps ≡ Some ds → Leads item false all_items ps ds
all_items-lead [] h = record { along = refl; is = h }
all_items-lead (x ∷ ps) h = let it = items-lead [] (before None) (x ∷ ps) h in record { along = it.along; is = it.is }

body-lead : (x : sources.Line) (ps : List Part) {l : sources.Line} → body x ps ≡ Some l → Leads front false (body x) ps l
body-lead x [] h = record { along = refl; is = h }
body-lead x (size n p ∷ ps) h =
    let e = mapped _ (all_items ps) h in
    let it = all_items-lead ps e.1 in record { along = it.along; is = made _ (all_items ps) (all_items (canonical false ps)) e.1 it.is h }
body-lead x (org p ∷ ps) h =
    let e = mapped _ (value ps) h in
    let it = value-lead ps e.1 in record { along = it.along; is = made _ (value ps) (value (canonical false ps)) e.1 it.is h }
body-lead x (res p ∷ ps) h =
    let e = mapped _ (value ps) h in
    let it = value-lead ps e.1 in record { along = it.along; is = made _ (value ps) (value (canonical false ps)) e.1 it.is h }
body-lead x (fit p ∷ ps) h =
    let e = mapped _ (value ps) h in
    let it = value-lead ps e.1 in record { along = it.along; is = made _ (value ps) (value (canonical false ps)) e.1 it.is h }
body-lead x (condition c ∷ ps) h = let it = instruction-lead c x ps h in record { along = it.along; is = it.is }
body-lead x (jump p ∷ ps) h = let it = instruction-lead 15 x (jump p ∷ ps) h in record { along = it.along; is = it.is }
body-lead x (other w p ∷ ps) h = let it = instruction-lead 15 x (other w p ∷ ps) h in record { along = it.along; is = it.is }
body-lead x ps h = absurd cc

line-lead : (p : Place) (ps : List Part) {l : sources.Line} → line p ps ≡ Some l → Leads front false (line p) ps l
line-lead p (name n q ∷ ps) h = let it = body-lead (blank p (Some n)) ps h in record { along = it.along; is = it.is }
line-lead p (colon q ∷ behind_colon n r ∷ ps) h = let it = body-lead (blank p (Some (local n))) ps h in record { along = it.along; is = it.is }
line-lead p [] h = record { along = refl; is = h }
line-lead p (size n q ∷ ps) h = let it = body-lead (blank p None) (size n q ∷ ps) h in record { along = it.along; is = it.is }
line-lead p (org q ∷ ps) h = let it = body-lead (blank p None) (org q ∷ ps) h in record { along = it.along; is = it.is }
line-lead p (res q ∷ ps) h = let it = body-lead (blank p None) (res q ∷ ps) h in record { along = it.along; is = it.is }
line-lead p (fit q ∷ ps) h = let it = body-lead (blank p None) (fit q ∷ ps) h in record { along = it.along; is = it.is }
line-lead p (condition c ∷ ps) h = let it = body-lead (blank p None) (condition c ∷ ps) h in record { along = it.along; is = it.is }
line-lead p (jump q ∷ ps) h = let it = body-lead (blank p None) (jump q ∷ ps) h in record { along = it.along; is = it.is }
line-lead p (other w q ∷ ps) h = let it = body-lead (blank p None) (other w q ∷ ps) h in record { along = it.along; is = it.is }
line-lead p ps h = absurd cc

-- what a row says, where its first token stands here
abbrev said_by : Place → List Part → Option (List sources.Line)
said_by p ps = option_map lines_in (maybe_line p ps)

row-lead : (p : Place) (ps : List Part) {xs : List sources.Line} → said_by p ps ≡ Some xs → Leads front false (said_by p) ps xs
row-lead p [] h = record { along = refl; is = h }
row-lead p (x ∷ ps) h =
    let o = mapped lines_in (option_map Some (line p (x ∷ ps))) h in
    let e = mapped Some (line p (x ∷ ps)) o.1 in
    let it = line-lead p (x ∷ ps) e.1 in
    record {
      along = it.along;
      is = made lines_in (option_map Some (line p (x ∷ ps))) (option_map Some (line p (canonical false (x ∷ ps)))) o.1
          (made Some (line p (x ∷ ps)) (line p (canonical false (x ∷ ps))) e.1 it.is o.1) h;
    }

-- ---- a row of the sentence, with expressions for the labels that instructions name

abbrev is_hashed : Stage → Bool
is_hashed hashed = true
is_hashed q = false

all-hash : (q : Stage) (x : Part) → IsTrue (if_some (λ r. same (is_hash x) (is_hashed r)) (step q x))
all-hash front line_end = refl
all-hash named_next line_end = refl
all-hash maybe line_end = refl
all-hash operand_next line_end = refl
all-hash operand_read line_end = refl
all-hash hashed line_end = refl
all-hash item line_end = refl
all-hash item_read line_end = refl
all-hash count_next line_end = refl
all-hash count_read line_end = refl
all-hash item_over line_end = refl
all-hash q x = refl

hash-so : (q : Stage) (x : Part) {r : Stage} → step q x ≡ Some r → is_hash x ≡ is_hashed r
hash-so q x {r = r} g = same-so (is_hash x) (is_hashed r) (kept-so (λ r. same (is_hash x) (is_hashed r)) (step q x) (all-hash q x) g)

line-over : (q : Stage) → IsTrue (is_some (step q line_end)) → step q line_end ≡ Some line_over
line-over front h = refl
line-over maybe h = refl
line-over operand_next h = refl
line-over operand_read h = refl
line-over item h = refl
line-over item_read h = refl
line-over item_over h = refl
line-over q h = absurd cc

-- a row that ends here
abbrev Whole : Stage → List Part → List LineToken → Type 0
Whole q ps ts = Reads table q (ps ++ line_end ∷ []) ts

end-token : (t : LineToken) → word t ≡ words.LineEnd → of_token t ≡ line_end
end-token t e = ap part_of_piece (word_piece t words.LineEnd refl e) ∙ end-part t.place

colon-token : (t : LineToken) → word t ≡ words.Colon → of_token t ≡ colon t.place
colon-token t e = ap part_of_piece (word_piece t words.Colon refl e) ∙ colon-part t.place

last-read : (q : Stage) (t : LineToken) → word t ≡ words.LineEnd → IsTrue (is_some (step q line_end)) → Whole q [] (t ∷ [])
last-read q t e h =
    let y = end-token t e in
    subst (λ (x : Part). Reads table q (x ∷ []) (t ∷ [])) y (last t (inl e) (ap (go q) y ∙ line-over q h) refl)

colon-last : (q : Stage) (p : Place) → IsTrue (leads q (colon p ∷ [])) → ⊥
colon-last front p h = cc
colon-last q p h = cc

no-end : (t : LineToken) → (word t ≡ words.LineEnd → ⊥) → is_end (of_token t) ≡ false
no-end t n = by (is_end (of_token t)) refl
  where
    by : (b : Bool) → is_end (of_token t) ≡ b → is_end (of_token t) ≡ false
    by false e = e
    by true e = absurd (n (end-word (word t) t.place (by-word is_end t (λ n p. refl) (λ x p. refl) e)))

front-of : (x : Part) (ps : List Part) → is_end x ≡ false → before_end (x ∷ ps) ≡ x ∷ before_end ps
front-of line_end ps h = absurd cc
front-of x ps h = refl

abbrev before-end-of : List Piece → List Part
before-end-of row = before_end (map part_of_piece row)

-- a name, and a local label, as expressions
name-is : (t : LineToken) (n : List ℕ) → lexeme t ≡ name_lexeme n → IsExpression in_dat (label n t.place) (terms (t ∷ []))
name-is t n e =
    subst (λ (x : Lexeme). IsExpression in_dat (label n t.place) (token t.place x ∷ [])) (sym e) (operand (variable refl (named plain_name)) (a_word nothing))

local-is : (t u : LineToken) (n : List ℕ) → lexeme t ≡ mark colon_mark → name_in (lexeme u) ≡ Some n
    → IsExpression in_dat (label (local n) t.place) (terms (t ∷ u ∷ []))
local-is t u n e is =
    subst (λ (x : Lexeme). IsExpression in_dat (label (local n) t.place) (token t.place x ∷ term u ∷ [])) (sym e)
    (operand (variable refl (named (local_label refl is))) (a_word (a_word nothing)))

-- an expression behind `#`
expression-read : (e : Tree) (first : LineToken) (others : List LineToken) {ps : List Part} {ts : List LineToken}
    → IsExpression in_dat e (terms (first ∷ others))
    → (u : LineToken) (us : List LineToken) → ts ≡ u ∷ us → Reads table operand_read ps ts
    → Reads table hashed (tree e first.place ∷ ps) ((first ∷ others) ++ ts)
expression-read e first others {ps = ps} is u us split x =
    subst (λ (ts : List LineToken). Reads table hashed (tree e first.place ∷ ps) ((first ∷ others) ++ ts)) (sym split)
    (an_expression first others u is refl (subst (λ (ts : List LineToken). Reads table operand_read ps ts) split x))

-- a row's first token
record First (ts : List LineToken) : Type 0 where
  token-there : LineToken
  rest : List LineToken
  split : ts ≡ token-there ∷ rest

first-of : {ws : List Word} {row : List Piece} {ts : List LineToken} → said.Row in_data ws row ts → First ts
first-of (said.last t e) = record { token-there = t; rest = []; split = refl }
first-of (said.a_token {ts = ts} t n x) = record { token-there = t; rest = ts; split = refl }
first-of (said.a_label {ts = ts} t is x) = record { token-there = t; rest = ts; split = refl }
first-of (said.an_expression {ts = ts} first others t is x) = record { token-there = first; rest = others ++ t ∷ ts; split = refl }

abbrev is_label_row : {ws : List Word} {row : List Piece} {ts : List LineToken} → said.Row in_data ws row ts → Bool
is_label_row (said.a_label t is x) = true
is_label_row x = false

abbrev starts_label : List Part → Bool
starts_label (behind_colon n p ∷ ps) = true
starts_label ps = false

label-start : (x : Part) (ps : List Part) → is_label x ≡ false → starts_label (x ∷ ps) ≡ false
label-start (behind_colon n p) ps h = absurd cc
label-start x ps h = refl

not-label : {ws : List Word} {row : List Piece} {ts : List LineToken} (x : said.Row in_data ws row ts) → is_label_row x ≡ false
    → starts_label (map part_of_piece row) ≡ false
not-label (said.last t e) h = label-start (of_token t) [] (right-false (is_tree (of_token t)) (is_label (of_token t)) (plain-token t))
not-label (said.a_token {row = row} t n x) h =
    label-start (of_token t) (map part_of_piece row) (right-false (is_tree (of_token t)) (is_label (of_token t)) (plain-token t))
not-label (said.a_label t is x) h = absurd cc
not-label (said.an_expression first others t is x) h = refl

abbrev is_name : Part → Bool
is_name (name n p) = true
is_name x = false

word-no-name : (w : Word) (p : Place) → is_name (part_of_word w p) ≡ false
unfolding part_of_word
word-no-name words.Comma p = refl
word-no-name w p = refl

no-colon : (p : Place) (ps : List Part) → starts_label ps ≡ false → IsTrue (leads hashed (canonical true (before_end (colon p ∷ ps)))) → ⊥
no-colon p [] s h = cc
no-colon p (line_end ∷ ps) s h = cc
no-colon p (behind_colon n q ∷ ps) s h = cc
no-colon p (x ∷ ps) s h = cc

-- behind `#` stands no other word than a local label's colon
no-word : (x : Part) (ps : List Part) → is_tree x || is_label x ≡ false → is_name x ≡ false → starts_label ps ≡ false
    → IsTrue (leads hashed (canonical true (before_end (x ∷ ps)))) → ⊥
no-word (colon p) ps plain unnamed s h = no-colon p ps s h
no-word (name n p) ps plain unnamed s h = cc
no-word (tree e p) ps plain unnamed s h = cc
no-word x ps plain unnamed s h = cc

only-colon : (x : Part) (n : List ℕ) (p : Place) (ps : List Part) → is_tree x || is_label x ≡ false → is_colon x ≡ false
    → IsTrue (leads hashed (canonical true (before_end (x ∷ behind_colon n p ∷ ps)))) → ⊥
only-colon (colon q) n p ps plain apart h = cc
only-colon (tree e q) n p ps plain apart h = cc
only-colon x n p ps plain apart h = cc

-- a token behind `#`
token-hashed : {ws : List Word} {row : List Piece} {ts : List LineToken} (t : LineToken) (x : said.Row in_data ws row ts) → is_label_row x ≡ false
    → IsTrue (leads hashed (canonical true (before_end (of_token t ∷ map part_of_piece row))))
    → (is_size_part (of_token t) ≡ false → is_bracket (of_token t) ≡ false → IsTrue (leads operand_read (canonical false (before-end-of row)))
    → Whole operand_read (canonical false (before-end-of row)) ts)
    → Whole hashed (canonical true (before_end (of_token t ∷ map part_of_piece row))) (t ∷ ts)
token-hashed {row = row} {ts = ts} t x l h later = by (sort t)
  where
    by : Sort t → Whole hashed (canonical true (before_end (of_token t ∷ map part_of_piece row))) (t ∷ ts)
    by (a_name n is e) =
        let y : of_token t ≡ name n t.place = ap part_of_piece e in
        let f = first-of x in
        let here : IsTrue (leads operand_read (canonical false (before-end-of row))) =
        subst (λ (y : Part). IsTrue (leads hashed (canonical true (before_end (y ∷ map part_of_piece row))))) y h in
        subst (λ (y : Part). Whole hashed (canonical true (before_end (y ∷ map part_of_piece row))) (t ∷ ts)) (sym y)
        (expression-read (label n t.place) t [] (name-is t n is) f.token-there f.rest f.split (later (ap is_size_part y) (ap is_bracket y) here))
    by (a_text s is e) =
        let never : IsTrue (leads hashed (canonical true (text s t.place ∷ before-end-of row))) =
        subst (λ (y : Part). IsTrue (leads hashed (canonical true (before_end (y ∷ map part_of_piece row))))) (ap part_of_piece e) h in absurd cc
    by (a_word e) =
        absurd
        (no-word (of_token t) (map part_of_piece row) (plain-token t) (ap is_name (ap part_of_piece e) ∙ word-no-name (word t) t.place) (not-label x l) h)

-- a local label behind `#`
label-hashed : {ws : List Word} {row : List Piece} {ts : List LineToken} (t u : LineToken) (n : List ℕ) → name_in (lexeme u) ≡ Some n
    → said.Row in_data ws row ts → IsTrue (leads hashed (canonical true (before_end (of_token t ∷ behind_colon n u.place ∷ map part_of_piece row))))
    → (word t ≡ words.Colon → IsTrue (leads operand_read (canonical false (before-end-of row))) → Whole operand_read (canonical false (before-end-of row)) ts)
    → Whole hashed (canonical true (before_end (of_token t ∷ behind_colon n u.place ∷ map part_of_piece row))) (t ∷ u ∷ ts)
label-hashed {row = row} {ts = ts} t u n is x h later = by (is_colon (of_token t)) refl
  where
    by : (b : Bool) → is_colon (of_token t) ≡ b
        → Whole hashed (canonical true (before_end (of_token t ∷ behind_colon n u.place ∷ map part_of_piece row))) (t ∷ u ∷ ts)
    by false e = absurd (only-colon (of_token t) n u.place (map part_of_piece row) (plain-token t) e h)
    by true e =
        let w = colon-word (word t) t.place (by-word is_colon t (λ n p. refl) (λ x p. refl) e) in
        let y = colon-token t w in
        let f = first-of x in
        let here : IsTrue (leads operand_read (canonical false (before-end-of row))) =
        subst (λ (y : Part). IsTrue (leads hashed (canonical true (before_end (y ∷ behind_colon n u.place ∷ map part_of_piece row))))) y h in
        subst (λ (y : Part). Whole hashed (canonical true (before_end (y ∷ behind_colon n u.place ∷ map part_of_piece row))) (t ∷ u ∷ ts)) (sym y)
        (expression-read (label (local n) t.place) t (u ∷ []) (local-is t u n (colon_lexeme t w) is) f.token-there f.rest f.split (later w here))

-- behind such a name
name-known : (t : LineToken) (ws : List Word) → Known hashed ws → is_size_part (of_token t) ≡ false → is_bracket (of_token t) ≡ false
    → Known operand_read (word t ∷ ws)
name-known t ws known s b = (
  ap₂ (λ (a : Bool) (b : Bool). a || b) (size-token t ∙ s) known.0,
  open-token t ws ∙ b,
)

convert : {ws : List Word} {row : List Piece} {ts : List LineToken} → said.Row in_data ws row ts → (b : Bool) (q : Stage) → is_hashed q ≡ b → Known q ws
    → IsTrue (list_all is_known (map part_of_piece row)) → IsTrue (leads q (canonical b (before-end-of row))) → Whole q (canonical b (before-end-of row)) ts
convert (said.last t (inl w)) false q e known k h =
    subst (λ (y : Part). IsTrue (leads q (canonical false (before_end (y ∷ [])))) → Whole q (canonical false (before_end (y ∷ []))) (t ∷ []))
    (sym (end-token t w))
    (λ g. last-read q t w g) h
convert (said.last t (inr w)) false q e known k h =
    absurd (colon-last q t.place (subst (λ (y : Part). IsTrue (leads q (canonical false (before_end (y ∷ []))))) (colon-token t w) h))
convert {ws = ws} (said.a_token {row = row} {ts = ts} t n x) false q e known k h =
    let y = of_token t in
    let qs = before-end-of row in
    let f = front-of y (map part_of_piece row) (no-end t n) in
    let it = gone (λ r. leads r (canonical (is_hash y) qs)) (step q y) (subst (λ (l : List Part). IsTrue (leads q (canonical false l))) f h) in
    let b = hash-so q y it.1 in
    let all = both (is_known y) (list_all is_known (map part_of_piece row)) k in
    let rest = convert x (is_hashed it.0) it.0 refl (token-known q it.0 ws t known it.1) all.1
    (subst (λ (b : Bool). IsTrue (leads it.0 (canonical b qs))) b it.2) in
    subst (λ (l : List Part). Whole q (canonical false l) (t ∷ ts)) (sym f)
    (a_token t n (step-known q y all.0 it.1) (subst (λ (b : Bool). Whole it.0 (canonical b qs) ts) (sym b) rest))
convert {ws = ws} (said.a_label {row = row} {ts = ts} {n = n} t is x) false q e known k h =
    let qs = before-end-of row in
    let it = gone (λ r. leads r (canonical false qs)) (step q (behind_colon n t.place)) h in
    let b = hash-so q (behind_colon n t.place) it.1 in
    let rest = convert x (is_hashed it.0) it.0 refl (label-known q it.0 ws n t.place known it.1) k
    (subst (λ (b : Bool). IsTrue (leads it.0 (canonical b qs))) b it.2) in
    a_label t is (step-known q (behind_colon n t.place) refl it.1) (subst (λ (b : Bool). Whole it.0 (canonical b qs) ts) (sym b) rest)
convert {ws = ws} (said.an_expression {row = row} {ts = ts} {e = e} first others t is x) false q o known k h =
    let qs = before-end-of row in
    let it = gone (λ r. leads r (canonical false qs)) (step q (tree e first.place)) h in
    let b = hash-so q (tree e first.place) it.1 in
    let rest = convert x (is_hashed it.0) it.0 refl (tree-known q it.0 ws e first.place known it.1) k
    (subst (λ (b : Bool). IsTrue (leads it.0 (canonical b qs))) b it.2) in
    an_expression first others t
    (subst (λ (s : Setting). IsExpression s e (terms (first ∷ others))) (fits q ws (word t) (ahead q (tree e first.place) it.1) known) is)
    (step-known q (tree e first.place) refl it.1) (subst (λ (b : Bool). Whole it.0 (canonical b qs) (t ∷ ts)) (sym b) rest)
convert (said.last t (inl w)) true hashed e known k h =
    let never : IsTrue (leads hashed []) = subst (λ (y : Part). IsTrue (leads hashed (canonical true (before_end (y ∷ []))))) (end-token t w) h in absurd cc
convert (said.last t (inr w)) true hashed e known k h =
    let never : IsTrue (leads hashed (colon t.place ∷ [])) =
    subst (λ (y : Part). IsTrue (leads hashed (canonical true (before_end (y ∷ []))))) (colon-token t w) h in absurd cc
convert {ws = ws} (said.a_token t n (said.a_label {row = row} {n = m} u is x)) true hashed e known k h =
    let all = both (is_known (of_token t)) (list_all is_known (map part_of_piece row)) k in
    label-hashed t u m is x h
    (λ w g. convert x false operand_read refl (subst (λ (v : Word). Known operand_read (words.Name ∷ v ∷ ws)) (sym w) (known.0, refl)) all.1 g)
convert {ws = ws} (said.a_token {row = row} t n x) true hashed e known k h =
    let all = both (is_known (of_token t)) (list_all is_known (map part_of_piece row)) k in
    token-hashed t x refl h (λ s b g. convert x false operand_read refl (name-known t ws known s b) all.1 g)
convert (said.a_label t is x) true hashed e known k h = absurd cc
convert {ws = ws} (said.an_expression {row = row} {ts = ts} {e = e} first others t is x) true hashed o known k h =
    an_expression first others t (subst (λ (s : Setting). IsExpression s e (terms (first ∷ others))) (fits hashed ws (word t) refl known) is) refl
    (convert x false operand_read refl known k h)
convert x true q e known k h = absurd cc

-- ---- lines

piece-place : (t : LineToken) → place_of (piece t) ≡ t.place
piece-place t = of (sort t)
  where
    of : Sort t → place_of (piece t) ≡ t.place
    of (a_name n is e) = ap place_of e
    of (a_text x is e) = ap place_of e
    of (a_word e) = ap place_of e

somewhere : Place
somewhere = record { line = 0; column = 0 }

abbrev place_first : List LineToken → Place
place_first [] = somewhere
place_first (t ∷ ts) = t.place

said-so : {ws : List Word} {row : List Piece} {ts : List LineToken} → said.Row in_data ws row ts
    → lines_of_row row ≡ said_by (place_first ts) (before-end-of row)
said-so (said.last t e) = ap (λ (p : Place). said_by p (before_end (of_token t ∷ []))) (piece-place t)
said-so (said.a_token {row = row} t n x) = ap (λ (p : Place). said_by p (before_end (of_token t ∷ map part_of_piece row))) (piece-place t)
said-so (said.a_label t is x) = refl
said-so (said.an_expression first others t is x) = refl

-- the parts of a line, up to its end
record Line (xs : List sources.Line) (ts : List LineToken) : Type 0 where
  these : List Part
  reads : Whole front these ts
  is : said_by (place_first ts) these ≡ Some xs

guarded : {X : Type 0} (b : Bool) (o : Option X) {x : X} → (if b then o else None) ≡ Some x → IsTrue b × (o ≡ Some x)
guarded true o h = (refl, h)
guarded false o h = absurd cc

read : {xs : List sources.Line} {ts : List LineToken} → said.IsLine in_data data_of_row xs ts → Line xs ts
read {ts = ts} it =
    let g = guarded (list_all is_known (map part_of_piece it.0)) (lines_of_row it.0) it.2 in
    let l = row-lead (place_first ts) (before-end-of it.0) (sym (said-so it.1) ∙ g.1) in
    record { these = canonical false (before-end-of it.0); reads = convert it.1 false front refl (refl, refl) g.0 l.along; is = l.is }

snoc-one : {X : Type 0} (x : X) (xs ys : List X) → xs ++ x ∷ [] ≡ ys ++ x ∷ [] → xs ≡ ys
snoc-one w [] [] h = refl
snoc-one w [] (y ∷ []) h = absurd cc
snoc-one w [] (y ∷ z ∷ ys) h = absurd cc
snoc-one w (x ∷ []) [] h = absurd cc
snoc-one w (x ∷ z ∷ xs) [] h = absurd cc
snoc-one w (x ∷ xs) (y ∷ ys) h =
    let firsts : x ≡ y = cc in
    let rest = snoc-one w xs ys cc in λ i. firsts i ∷ rest i

pub data-once : IsReadOnce in_data data_of_row
data-once x x' ts ts' rest rest' it it' split =
    let a = read it in
    let b = read it' in
    let z = one table clear rest rest' a.reads b.reads split in
    let parts = snoc-one line_end a.these b.these z.parts in
    (some-one (sym a.is ∙ (λ i. said_by (place_first (z.tokens i)) (parts i)) ∙ b.is), z.tokens)

block-unknown : (w : Word) (p : Place) → IsTrue (is_block w) → is_known (part_of_word w p) ≡ false
unfolding part_of_word mnemonics
block-unknown words.Con p h = refl
block-unknown words.Var p h = refl
block-unknown words.Obj p h = refl
block-unknown words.Dat p h = refl
block-unknown words.Pub p h = refl
block-unknown words.Pri p h = refl
block-unknown w p h = absurd cc

block-none : (t : LineToken) {r : Stage} → IsTrue (is_block (word t)) → go front (of_token t) ≡ Some r → ⊥
block-none t b g =
    let never : false ≡ true = sym (ap (λ (x : Piece). is_known (part_of_piece x)) (block-piece t (word t) refl b) ∙ block-unknown (word t) t.place b)
    ∙ (known-step front (of_token t) g).1 in cc

same-block : (t u : LineToken) → u ≡ t → IsTrue (is_block (word t)) → IsTrue (is_block (word u))
same-block t u firsts b = subst (λ (t : LineToken). IsTrue (is_block (word t))) (sym firsts) b

no-block : {ps : List Part} {ts us : List LineToken} (t : LineToken) → Reads table front ps us → us ≡ t ∷ ts → IsTrue (is_block (word t)) → ⊥
no-block t (last u e g h) split b = let firsts : u ≡ t = cc in block-none u (same-block t u firsts b) g
no-block t (a_token u n g x) split b = let firsts : u ≡ t = cc in block-none u (same-block t u firsts b) g
no-block t (a_label u is g x) split b = cc
no-block t (an_expression first others u is g x) split b = cc

pub data-apart : BeginsNoBlock in_data data_of_row
data-apart x t ts us it split b = no-block t (read it).reads split b
