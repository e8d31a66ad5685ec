-- A file has one reading, where its lines have: each block ends where the next one's word stands, and each line where it ends.
use Rattle.std.proofs.Common.{◌≡◌, ◌⊎◌, inl, inr, ◌∙◌, sym, ap, ap₂, subst, refl, ℕ, Bool, true, false, List, [], ◌∷◌, ◌++◌, Option, Some, append_assoc, append-nil}
use Rattle.std.specs.Prelude.{IsTrue}
use Rattle.p8_tree.specs.Sources as sources
use Rattle.p8_tree.specs.Sources.{Constant, Declared, Child, BlockTree, Source}
use Rattle.p8_lexer.specs.declared.word.Word.{Word}
use Rattle.p8_lexer.specs.declared.word.Word.TheVariants as words
use Rattle.p8_lexer.specs.Pieces.{Piece}
use Rattle.p8_columns.specs.Lines as lines
use Rattle.p8_columns.specs.Lines.{Kind}
use Rattle.p8_columns.specs.Reader.{start, walk, whole}
use Rattle.p8_columns.proofs.Reading.{complete}
use Rattle.p8_lines.specs.Tokens.{LineToken, with_end, word, piece}
use Rattle.p8_declarations.specs.Constants.{constants_of_row}
use Rattle.p8_declarations.specs.Variables.{variables_of_row}
use Rattle.p8_declarations.specs.Objects.{objects_of_row}
use Rattle.p8_declarations.specs.Methods.{method_of_row}
use Rattle.p8_statements.specs.Statements.{kind_of_row}
use Rattle.p8_blocks.specs.Files.{method_word, first_block}
use Rattle.p8_prop.proofs.Marks.{is_block}
use Rattle.p8_prop.proofs.OneDeclaration.{IsReadOnce, BeginsNoBlock}
use Rattle.p8_prop.proofs.SaidCutting.{one-cut}
use Rattle.p8_prop.proofs.Reading as said
use Rattle.p8_prop.proofs.Reading.{Spelling, Row, IsLine, declared, headed, in_text, in_data, data_of_row, Declare, AreLines, IsBlock, IsFile, IsSource, with_body}

-- ---- lists

same-head : {X : Type 0} {x y : X} {xs ys : List X} → x ∷ xs ≡ y ∷ ys → x ≡ y
same-head e = cc

same-tail : {X : Type 0} {x y : X} {xs ys : List X} → x ∷ xs ≡ y ∷ ys → xs ≡ ys
same-tail e = cc

same-rest : {X : Type 0} (us xs ys : List X) → us ++ xs ≡ us ++ ys → xs ≡ ys
same-rest [] xs ys e = e
same-rest (u ∷ us) xs ys e = same-rest us xs ys (same-tail e)

-- ---- segments, which are read once and begin with no block's word

-- nothing is left, or a block begins
abbrev Ends : List LineToken → Type 0
Ends ts = (ts ≡ []) ⊎ ((t : LineToken) × (us : List LineToken) × (ts ≡ t ∷ us) × IsTrue (is_block (word t)))

-- some segments one after the other, with all that they say
data Run {Y : Type 0} (Seg : List Y → List LineToken → Type 0) : List Y → List LineToken → Type 0 where
  none : Run Seg [] []
  more : {ys zs : List Y} {us ts : List LineToken} → Seg ys us → Run Seg zs ts → Run Seg (ys ++ zs) (us ++ ts)

record AreRead {Y : Type 0} (Seg : List Y → List LineToken → Type 0) : Type 0 where
  once : (ys zs : List Y) (us vs rest other : List LineToken) → Seg ys us → Seg zs vs → us ++ rest ≡ vs ++ other → (ys ≡ zs) × (us ≡ vs)
  apart : (ys : List Y) (us : List LineToken) → Seg ys us → (rest : List LineToken) → Ends (us ++ rest) → ⊥

module _ {Y : Type 0} (Seg : List Y → List LineToken → Type 0) (read : AreRead Seg) where
  run-joins : {ys zs : List Y} {us vs : List LineToken} → Run Seg ys us → Seg zs vs → Run Seg (ys ++ zs) (us ++ vs)
  run-joins {zs = zs} {vs = vs} none s =
      subst (λ (ts : List LineToken). Run Seg zs ts) (append-nil vs) (subst (λ (xs : List Y). Run Seg xs (vs ++ [])) (append-nil zs) (more s none))
  run-joins {zs = zs} {vs = vs} (more {ys = a} {zs = b} {us = p} {ts = q} r rest) s =
      subst (λ (ts : List LineToken). Run Seg ((a ++ b) ++ zs) ts) (sym (append_assoc p q vs))
      (subst (λ (xs : List Y). Run Seg xs (p ++ (q ++ vs))) (sym (append_assoc a b zs)) (more r (run-joins rest s)))

  one-run : {xs ys : List Y} {ts us : List LineToken} (rest other : List LineToken) → Run Seg xs ts → Run Seg ys us → ts ++ rest ≡ us ++ other
      → Ends rest → Ends other → (xs ≡ ys) × (ts ≡ us)
  one-run rest other none none split ends over = (refl, refl)
  one-run rest other none (more {ys = a} {us = p} {ts = q} s run) split ends over =
      absurd (read.apart a p s (q ++ other) (subst Ends (split ∙ append_assoc p q other) ends))
  one-run rest other (more {ys = a} {us = p} {ts = q} s run) none split ends over =
      absurd (read.apart a p s (q ++ rest) (subst Ends (sym split ∙ append_assoc p q rest) over))
  one-run rest other (more {ys = a} {zs = b} {us = p} {ts = q} s run) (more {ys = c} {zs = d} {us = v} {ts = w} s' run') split ends over =
      let joined : p ++ (q ++ rest) ≡ v ++ (w ++ other) = sym (append_assoc p q rest) ∙ split ∙ append_assoc v w other in
      let here = read.once a c p v (q ++ rest) (w ++ other) s s' joined in
      let later : q ++ rest ≡ w ++ other = same-rest v (q ++ rest) (w ++ other) (ap (λ (z : List LineToken). z ++ (q ++ rest)) (sym here.1) ∙ joined) in
      let there = one-run rest other run run' later ends over in
      (ap₂ (λ (x y : List Y). x ++ y) here.0 there.0, ap₂ (λ (x y : List LineToken). x ++ y) here.1 there.1)

-- ---- the lines of a block that isn't a method

pub record AreLinesRead {X : Type 0} (spelled : Spelling) (value : List Piece → Option (List X)) : Type 0 where
  pub once : IsReadOnce spelled value
  pub apart : BeginsNoBlock spelled value
  -- an empty line declares nothing
  pub blank : (t : LineToken) → word t ≡ words.LineEnd → value (piece t ∷ []) ≡ Some []

-- a row has a token
row-begins : {spelled : Spelling} {before : List Word} {row : List Piece} {ts : List LineToken} → Row spelled before row ts
    → (t : LineToken) × (us : List LineToken) × (ts ≡ t ∷ us)
row-begins (said.last t ends) = (t, [], refl)
row-begins (said.a_token {ts = ts} t goes row) = (t, ts, refl)
row-begins (said.a_label {ts = ts} t is row) = (t, ts, refl)
row-begins (said.an_expression {ts = ts} first others t is row) = (first, others ++ t ∷ ts, refl)

no-end : (t : LineToken) (us rest : List LineToken) → Ends ((t ∷ us) ++ rest) → IsTrue (is_block (word t))
no-end t us rest (inl e) = absurd (let never : t ∷ (us ++ rest) ≡ [] = e in cc)
no-end t us rest (inr (u, vs, e, b)) = subst (λ (t : LineToken). IsTrue (is_block (word t))) (sym (same-head e)) b

module _ {X : Type 0} (spelled : Spelling) (value : List Piece → Option (List X)) (read : AreLinesRead spelled value) where
  abbrev Said : List X → List LineToken → Type 0
  Said ys us = IsLine spelled value ys us

  said-apart : (ys : List X) (us : List LineToken) → Said ys us → (rest : List LineToken) → Ends (us ++ rest) → ⊥
  said-apart ys us line rest ends =
      let it = row-begins line.1 in
      read.apart ys it.0 it.1 us line it.2 (no-end it.0 it.1 rest (subst (λ (ts : List LineToken). Ends (ts ++ rest)) it.2 ends))

  said-read : AreRead Said
  said-read = record { once = λ ys zs us vs rest other line line' split. read.once ys zs us vs rest other line line' split; apart = said-apart }

  declare-run : {xs : List X} {ts : List LineToken} → Declare spelled value xs ts → Run Said xs ts
  declare-run said.no_line = none
  declare-run (said.a_blank {xs = xs} {ts = ts} t is rest) =
      subst (λ (xs : List X). Run Said xs (ts ++ t ∷ [])) (append-nil xs)
      (run-joins Said said-read {zs = []} {vs = t ∷ []} (declare-run rest) (piece t ∷ [], said.last t (inl is), read.blank t is))
  declare-run (said.a_line {ys = ys} {us = us} line rest) = run-joins Said said-read {zs = ys} {vs = us} (declare-run rest) line

  one-declare : {xs xs' : List X} {ts ts' : List LineToken} (rest other : List LineToken) → Declare spelled value xs ts → Declare spelled value xs' ts'
      → ts ++ rest ≡ ts' ++ other → Ends rest → Ends other → (xs ≡ xs') × (ts ≡ ts')
  one-declare rest other d d' split ends over = one-run Said said-read rest other (declare-run d) (declare-run d') split ends over

  -- with the line that stands behind the block's word
  one-part : {xs ys xs' ys' : List X} {us vs us' vs' : List LineToken} (rest other : List LineToken) (t t' : LineToken) → IsLine spelled value xs us
      → Declare spelled value ys vs → IsLine spelled value xs' us' → Declare spelled value ys' vs' → (t ∷ (us ++ vs)) ++ rest ≡ (t' ∷ (us' ++ vs')) ++ other
      → Ends rest → Ends other → (xs ++ ys ≡ xs' ++ ys') × (t ∷ (us ++ vs) ≡ t' ∷ (us' ++ vs'))
  one-part {xs = xs} {ys = ys} {xs' = xs'} {ys' = ys'} {us = us} {vs = vs} {us' = us'} {vs' = vs'} rest other t t' line d line' d' split ends over =
      let run : Run Said (xs ++ ys) (us ++ vs) = more {ys = xs} {zs = ys} {us = us} {ts = vs} line (declare-run d) in
      let run' : Run Said (xs' ++ ys') (us' ++ vs') = more {ys = xs'} {zs = ys'} {us = us'} {ts = vs'} line' (declare-run d') in
      let it = one-run Said said-read rest other run run' (same-tail split) ends over in
      (it.0, ap₂ (λ (t : LineToken) (ts : List LineToken). t ∷ ts) (same-head split) it.1)

-- ---- the lines of a method

data Text : List lines.Line → List LineToken → Type 0 where
  an_end : (t : LineToken) → word t ≡ words.LineEnd → Text [] (t ∷ [])
  a_row : {k : Kind} {us : List LineToken} (t : LineToken) → IsLine in_text kind_of_row k (t ∷ us) → Text (lines.line t.place k ∷ []) (t ∷ us)

pub record IsTextRead : Type 0 where
  pub once : IsReadOnce in_text kind_of_row
  pub apart : BeginsNoBlock in_text kind_of_row
  -- an empty line is none of the text
  pub not_blank : (k : Kind) (t : LineToken) (us : List LineToken) → IsLine in_text kind_of_row k (t ∷ us) → word t ≡ words.LineEnd → ⊥

not-block : (w : Word) → w ≡ words.LineEnd → IsTrue (is_block w) → ⊥
not-block w is b = subst (λ (w : Word). IsTrue (is_block w) → ⊥) (sym is) (λ h. absurd (let never : false ≡ true = h in cc)) b

module _ (read : IsTextRead) where
  text-once : (ys zs : List lines.Line) (us vs rest other : List LineToken) → Text ys us → Text zs vs → us ++ rest ≡ vs ++ other → (ys ≡ zs) × (us ≡ vs)
  text-once ys zs us vs rest other (an_end t is) (an_end u also) split = (refl, ap (λ (t : LineToken). t ∷ []) (same-head split))
  text-once ys zs us vs rest other (an_end t is) (a_row {k = k} {us = ts} u row) split =
      absurd (read.not_blank k u ts row (ap word (sym (same-head split)) ∙ is))
  text-once ys zs us vs rest other (a_row {k = k} {us = ts} t row) (an_end u also) split =
      absurd (read.not_blank k t ts row (ap word (same-head split) ∙ also))
  text-once ys zs us vs rest other (a_row {k = k} {us = ts} t row) (a_row {k = l} {us = ts'} u row') split =
      let it = read.once k l (t ∷ ts) (u ∷ ts') rest other row row' split in
      let firsts : t ≡ u = same-head split in
      (λ i. lines.line (firsts i).place (it.0 i) ∷ [], it.1)

  text-apart : (ys : List lines.Line) (us : List LineToken) → Text ys us → (rest : List LineToken) → Ends (us ++ rest) → ⊥
  text-apart ys us (an_end t is) rest ends = not-block (word t) is (no-end t [] rest ends)
  text-apart ys us (a_row {k = k} {us = ts} t row) rest ends = read.apart k t ts (t ∷ ts) row refl (no-end t ts rest ends)

  text-read : AreRead Text
  text-read = record { once = text-once; apart = text-apart }

  text-run : {ls : List lines.Line} {ts : List LineToken} → AreLines ls ts → Run Text ls ts
  text-run said.no_line = none
  text-run (said.a_blank {ls = ls} {ts = ts} t is rest) =
      subst (λ (ls : List lines.Line). Run Text ls (ts ++ t ∷ [])) (append-nil ls)
      (run-joins Text text-read {zs = []} {vs = t ∷ []} (text-run rest) (an_end t is))
  text-run (said.a_line t row rest) = run-joins Text text-read (text-run rest) (a_row t row)

-- ---- blocks

pub record AreRowsRead : Type 0 where
  pub constants : AreLinesRead declared constants_of_row
  pub variables : AreLinesRead declared variables_of_row
  pub objects : AreLinesRead declared objects_of_row
  pub data_lines : AreLinesRead in_data data_of_row
  pub heads : (public : Bool) → IsReadOnce headed (method_of_row public)
  pub text : IsTextRead

-- which block a block is, and a block's word begins: those of a method count as one
abbrev sort : {b : BlockTree} {us : List LineToken} → IsBlock b us → Word
sort (said.con t head line rest) = words.Con
sort (said.var t head line rest) = words.Var
sort (said.obj t head line rest) = words.Obj
sort (said.dat t head line rest) = words.Dat
sort (said.method public t head line rest are) = words.Pub

abbrev word-sort : Word → Word
word-sort words.Pri = words.Pub
word-sort w = w

method-sort : (public : Bool) → word-sort (method_word public) ≡ words.Pub
method-sort true = refl
method-sort false = refl

method-block : (public : Bool) → IsTrue (is_block (method_word public))
method-block true = refl
method-block false = refl

record Head {b : BlockTree} {us : List LineToken} (x : IsBlock b us) : Type 0 where
  first : LineToken
  rest : List LineToken
  split : us ≡ first ∷ rest
  is : word-sort (word first) ≡ sort x
  block : IsTrue (is_block (word first))

block-word : (t : LineToken) (w : Word) → IsTrue (is_block w) → word t ≡ w → IsTrue (is_block (word t))
block-word t w is e = subst (λ (w : Word). IsTrue (is_block w)) (sym e) is

head-of : {b : BlockTree} {us : List LineToken} (x : IsBlock b us) → Head x
head-of (said.con {us = us} {vs = vs} t head line rest) =
    record { first = t; rest = us ++ vs; split = refl; is = ap word-sort head.is; block = block-word t words.Con refl head.is }
head-of (said.var {us = us} {vs = vs} t head line rest) =
    record { first = t; rest = us ++ vs; split = refl; is = ap word-sort head.is; block = block-word t words.Var refl head.is }
head-of (said.obj {us = us} {vs = vs} t head line rest) =
    record { first = t; rest = us ++ vs; split = refl; is = ap word-sort head.is; block = block-word t words.Obj refl head.is }
head-of (said.dat {us = us} {vs = vs} t head line rest) =
    record { first = t; rest = us ++ vs; split = refl; is = ap word-sort head.is; block = block-word t words.Dat refl head.is }
head-of (said.method {us = us} {vs = vs} public t head line rest are) = record {
  first = t;
  rest = us ++ vs;
  split = refl;
  is = ap word-sort head.is ∙ method-sort public;
  block = block-word t (method_word public) (method-block public) head.is;
}

same-sort : {b c : BlockTree} {us vs : List LineToken} (rest other : List LineToken) (x : IsBlock b us) (y : IsBlock c vs) → us ++ rest ≡ vs ++ other
    → sort x ≡ sort y
same-sort rest other x y split =
    let p = head-of x in
    let q = head-of y in
    let firsts : p.first ≡ q.first =
    same-head (ap (λ (ts : List LineToken). ts ++ rest) (sym p.split) ∙ split ∙ ap (λ (ts : List LineToken). ts ++ other) q.split) in
    sym p.is ∙ ap (λ (t : LineToken). word-sort (word t)) firsts ∙ q.is

same-public : (a b : Bool) → method_word a ≡ method_word b → a ≡ b
same-public true true e = refl
same-public false false e = refl
same-public true false e = absurd cc
same-public false true e = absurd cc

module _ (read : AreRowsRead) where
  one-block : {b c : BlockTree} {us vs : List LineToken} (rest other : List LineToken) → IsBlock b us → IsBlock c vs → us ++ rest ≡ vs ++ other
      → Ends rest → Ends other → (b ≡ c) × (us ≡ vs)
  one-block rest other (said.con t head line d) (said.con t' head' line' d') split ends over =
      let it = one-part declared constants_of_row read.constants rest other t t' line d line' d' split ends over in
      (ap (λ (xs : List Constant). sources.Con xs) it.0, it.1)
  one-block rest other (said.var t head line d) (said.var t' head' line' d') split ends over =
      let it = one-part declared variables_of_row read.variables rest other t t' line d line' d' split ends over in
      (ap (λ (xs : List Declared). sources.Var xs) it.0, it.1)
  one-block rest other (said.obj t head line d) (said.obj t' head' line' d') split ends over =
      let it = one-part declared objects_of_row read.objects rest other t t' line d line' d' split ends over in
      (ap (λ (xs : List Child). sources.Obj xs) it.0, it.1)
  one-block rest other (said.dat t head line d) (said.dat t' head' line' d') split ends over =
      let it = one-part in_data data_of_row read.data_lines rest other t t' line d line' d' split ends over in
      (ap (λ (xs : List sources.Line). sources.Dat xs) it.0, it.1)
  one-block rest other (said.method {m = m} {ls = ls} {ss = ss} {us = us} {vs = vs} public t head line text are)
      (said.method {m = m'} {ls = ls'} {ss = ss'} {us = us'} {vs = vs'} public' t' head' line' text' are') split ends over =
      let firsts : t ≡ t' = same-head split in
      let same : public' ≡ public = same-public public' public (sym head'.is ∙ ap word (sym firsts) ∙ head.is) in
      let joined : us ++ (vs ++ rest) ≡ us' ++ (vs' ++ other) = sym (append_assoc us vs rest) ∙ same-tail split ∙ append_assoc us' vs' other in
      let here = read.heads public m m' us us' (vs ++ rest) (vs' ++ other) line
      (subst (λ (public : Bool). IsLine headed (method_of_row public) m' us') same line') joined in
      let later : vs ++ rest ≡ vs' ++ other =
      same-rest us' (vs ++ rest) (vs' ++ other) (ap (λ (z : List LineToken). z ++ (vs ++ rest)) (sym here.1) ∙ joined) in
      let there = one-run Text (text-read read.text) rest other (text-run read.text text) (text-run read.text text') later ends over in
      let body : ss ≡ ss' = sym (complete ss ls are) ∙ ap (λ (ls : List lines.Line). whole (walk start ls)) there.0 ∙ complete ss' ls' are' in
      (λ i. sources.Method (with_body (here.0 i) (body i)), λ i. firsts i ∷ (here.1 i ++ there.1 i))
  one-block rest other x y split ends over = absurd (let never : sort x ≡ sort y = same-sort rest other x y split in cc)

-- ---- files

-- blocks, one after the other
data Blocks : List BlockTree → List LineToken → Type 0 where
  no_block : Blocks [] []
  a_block : {b : BlockTree} {bs : List BlockTree} {us ts : List LineToken} → IsBlock b us → Blocks bs ts → Blocks (b ∷ bs) (us ++ ts)

blocks-join : {bs : List BlockTree} {b : BlockTree} {ts us : List LineToken} → Blocks bs ts → IsBlock b us → Blocks (bs ++ b ∷ []) (ts ++ us)
blocks-join {b = b} {us = us} no_block x = subst (λ (ts : List LineToken). Blocks (b ∷ []) ts) (append-nil us) (a_block x no_block)
blocks-join {b = b} {us = us} (a_block {b = c} {bs = bs} {us = p} {ts = q} y rest) x =
    subst (λ (ts : List LineToken). Blocks (c ∷ (bs ++ b ∷ [])) ts) (sym (append_assoc p q us)) (a_block y (blocks-join rest x))

blocks-end : {bs : List BlockTree} {ts : List LineToken} → Blocks bs ts → Ends ts
blocks-end no_block = inl refl
blocks-end (a_block {ts = ts} x rest) =
    let it = head-of x in inr (it.first, it.rest ++ ts, ap (λ (us : List LineToken). us ++ ts) it.split, it.block)

-- the constants before the first block's word, and the blocks from there on
record Cut (s : Source) (ts : List LineToken) : Type 0 where
  constants : List Constant
  blocks : List BlockTree
  front : List LineToken
  back : List LineToken
  declares : Declare declared constants_of_row constants front
  are : Blocks blocks back
  source : s ≡ first_block constants ++ blocks
  tokens : ts ≡ front ++ back

cut : {s : Source} {ts : List LineToken} → IsFile s ts → Cut s ts
cut (said.first {xs = xs} {ts = ts} d) = record {
  constants = xs;
  blocks = [];
  front = ts;
  back = [];
  declares = d;
  are = no_block;
  source = sym (append-nil (first_block xs));
  tokens = sym (append-nil ts);
}
cut (said.one_more {b = b} {us = us} file block) =
    let it = cut file in
    record {
      constants = it.constants;
      blocks = it.blocks ++ b ∷ [];
      front = it.front;
      back = it.back ++ us;
      declares = it.declares;
      are = blocks-join it.are block;
      source = ap (λ (s : Source). s ++ b ∷ []) it.source ∙ append_assoc (first_block it.constants) it.blocks (b ∷ []);
      tokens = ap (λ (ts : List LineToken). ts ++ us) it.tokens ∙ append_assoc it.front it.back us;
    }

module _ (read : AreRowsRead) where
  one-blocks : {bs cs : List BlockTree} {ts us : List LineToken} → Blocks bs ts → Blocks cs us → ts ≡ us → bs ≡ cs
  one-blocks no_block no_block split = refl
  one-blocks no_block (a_block {ts = ts} x rest) split =
      let it = head-of x in
      absurd (let never : [] ≡ it.first ∷ (it.rest ++ ts) = split ∙ ap (λ (us : List LineToken). us ++ ts) it.split in cc)
  one-blocks (a_block {ts = ts} x rest) no_block split =
      let it = head-of x in
      absurd (let never : [] ≡ it.first ∷ (it.rest ++ ts) = sym split ∙ ap (λ (us : List LineToken). us ++ ts) it.split in cc)
  one-blocks (a_block {us = us} {ts = ts} x rest) (a_block {us = us'} {ts = ts'} y other) split =
      let it = one-block read ts ts' x y split (blocks-end rest) (blocks-end other) in
      let later : ts ≡ ts' = same-rest us' ts ts' (ap (λ (z : List LineToken). z ++ ts) (sym it.1) ∙ split) in
      ap₂ (λ (b : BlockTree) (bs : List BlockTree). b ∷ bs) it.0 (one-blocks rest other later)

  one-file : {s s' : Source} {ts : List LineToken} → IsFile s ts → IsFile s' ts → s ≡ s'
  one-file file file' =
      let c = cut file in
      let d = cut file' in
      let split : c.front ++ c.back ≡ d.front ++ d.back = sym c.tokens ∙ d.tokens in
      let it = one-declare declared constants_of_row read.constants c.back d.back c.declares d.declares split (blocks-end c.are) (blocks-end d.are) in
      let later : c.back ≡ d.back = same-rest d.front c.back d.back (ap (λ (z : List LineToken). z ++ c.back) (sym it.1) ∙ split) in
      c.source ∙ ap₂ (λ (xs : List Constant) (bs : List BlockTree). first_block xs ++ bs) it.0 (one-blocks c.are d.are later) ∙ sym d.source

  -- bytes have one reading
  pub one-source : (bytes : List ℕ) (s s' : Source) → IsSource bytes s → IsSource bytes s' → s ≡ s'
  one-source bytes s s' p q =
      let tokens : q.tokens ≡ p.tokens = one-cut q.cut p.cut in
      one-file p.is (subst (λ (ts : List LineToken). IsFile s' (with_end ts)) tokens q.is)
