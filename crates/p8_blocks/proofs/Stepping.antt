-- What one line does to the blocks so far.
use Rattle.std.proofs.Common.{◌≡◌, ◌∙◌, ℕ, ◌+◌, ◌<◌, length, List, [], ◌∷◌, ◌++◌, Option, Some, None, true, refl, sym, ap, subst, map, arith}
use Rattle.std.specs.Prelude.{◌≢◌, if◌then◌else◌, Result, IfOk, IfErr}
use Rattle.std.proofs.lemmas.Result.{IfOk-weaker, IfErr-weaker}
use Rattle.p8_words.specs.declared.failure.Fail.{Fail}
use Rattle.p8_tree.specs.declared.faults.Fault.{Fault}
use Rattle.p8_tree.proofs.Failing.{refused_so}
use Rattle.p8_tree.specs.declared.places.Place.{Place}
use Rattle.p8_tree.specs.declared.sources.Method.{Method}
use Rattle.p8_tree.specs.Views.{method_of}
use Rattle.p8_tree.specs.Sources.{MethodTree}
use Rattle.p8_tree.specs.Faults.{IfRefused}
use Rattle.p8_lexer.specs.declared.word.Word.TheVariants as word_case
use Rattle.p8_columns.specs.Lines as lines
use Rattle.p8_columns.specs.Lines.{Kind}
use Rattle.p8_columns.specs.Taken.{HasTaken}
use Rattle.p8_columns.specs.declared.blocks.Blocks.{Blocks}
use Rattle.p8_lines.specs.declared.state.LineState.{LineState}
use Rattle.p8_expr.specs.Cursors.{Spot, moved, IsLater}
use Rattle.p8_lines.specs.Tokens.{LineToken, word}
use Rattle.p8_lines.specs.Lines.{refused, Reads}
use Rattle.p8_statements.specs.Statements.{kind_of_row}
use Rattle.p8_blocks.specs.Values.{ReadsAs}
use Rattle.p8_blocks.specs.Reading.{Part, method, Position, at, is_block_word, head_state, line_state, declares, begun_by, Opens, Extends, Step, blank, head, declaration, method_line, Fails, head_fails, declaration_fails, is_begun}
use Rattle.p8_blocks.specs.Standing.{IsOpen, ArePartsOf, StandsFor, word_of_head, Starts, Inner, IsHeadAt, MayRead, Added, Grown, Begins, Continues}
use Rattle.p8_blocks.specs.declared.words.BlockWord as head_type
use Rattle.p8_blocks.specs.declared.words.BlockWord.TheVariants as head_case
use Rattle.p8_blocks.specs.declared.first.First.{First}
use Rattle.p8_blocks.specs.declared.growing.Open as opened
use Rattle.p8_blocks.specs.declared.growing.Open.TheVariants as open_case
use Rattle.p8_blocks.specs.declared.growing.Growing.{Growing}
use Rattle.p8_blocks.specs.declared.lines.Extended.{Extended}
use Rattle.p8_blocks.specs.Files.{is_item}

-- words that begin blocks

pub is_head : (h : head_type.BlockWord) → is_block_word (word_of_head h) ≡ true
is_head head_case.Con = refl
is_head head_case.Var = refl
is_head head_case.Obj = refl
is_head head_case.Pub = refl
is_head head_case.Pri = refl
is_head head_case.Dat = refl

-- lines of blocks

-- a line of a block that isn't a method
pub grown : {ts us rest : List LineToken} {b : Option Place} {first : First} {line : Extended} (p q : Part) (ps : List Part) → Inner ts us b first → p ≡ q → Added (q ∷ ps) ps ts line rest → Grown (p ∷ ps) ps b ts line rest
grown {ts} {us} {rest} {b} {first} {line} p q ps s e a = record {
  part = a.part;
  step = subst (λ p. Step (at (p ∷ ps) b) ts (at (a.part ∷ ps) line.begun) rest) (sym e)
      (subst (λ x. Step (at (q ∷ ps) b) ts (at (a.part ∷ ps) x) rest) (sym a.begun)
      (subst (λ ts. Step (at (q ∷ ps) b) ts (at (a.part ∷ ps) None) rest) (sym s.tokens)
      (declaration s.not_end s.no_head (subst (λ ts. Extends ts (q ∷ ps) (a.part ∷ ps) rest) s.tokens a.extends))));
  stands = a.stands;
}

pub first_grown : {ts us rest : List LineToken} {b : Option Place} {first : First} {line : Extended} → Inner ts us b first → Added [] [] ts line rest → Grown [] [] b ts line rest
first_grown {ts} {us} {rest} {b} {first} {line} s a = record {
  part = a.part;
  step = subst (λ x. Step (at [] b) ts (at (a.part ∷ []) x) rest) (sym a.begun)
      (subst (λ ts. Step (at [] b) ts (at (a.part ∷ []) None) rest) (sym s.tokens)
      (declaration s.not_end s.no_head (subst (λ ts. Extends ts [] (a.part ∷ []) rest) s.tokens a.extends)));
  stands = a.stands;
}

pub declaration_refused : {ts us : List LineToken} {b : Option Place} {first : First} (qs : List Part) (n : ℕ) (p : Place) → Inner ts us b first → declares qs ≡ true → Reads (line_state qs) ts (refused n p) → Fails (at qs b) ts n p
declaration_refused {ts} {us} {b} {first} qs n p s d r =
    subst (λ ts. Fails (at qs b) ts n p) (sym s.tokens) (declaration_fails s.not_end s.no_head d (subst (λ ts. Reads (line_state qs) ts (refused n p)) s.tokens r))

pub same_refused : {ts : List LineToken} {b : Option Place} {n : ℕ} {pl : Place} (p q : Part) (ps : List Part) → p ≡ q → Fails (at (q ∷ ps) b) ts n pl → Fails (at (p ∷ ps) b) ts n pl
same_refused {ts} {b} {n} {pl} p q ps e h = subst (λ p. Fails (at (p ∷ ps) b) ts n pl) (sym e) h

pub same_grown : {ts rest : List LineToken} {b : Option Place} {line : Extended} (p q : Part) (ps : List Part) → p ≡ q → Grown (q ∷ ps) ps b ts line rest → Grown (p ∷ ps) ps b ts line rest
same_grown {ts} {rest} {b} {line} p q ps e h = subst (λ p. Grown (p ∷ ps) ps b ts line rest) (sym e) h

-- a line of a method
pub method_steps : {ts us rest : List LineToken} {b : Option Place} {first : First} {q : LineState} {k : Kind} (s : Inner ts us b first) (m : MethodTree) (ls : List lines.Line) (ps : List Part) → MayRead ls (is_begun b) s.token q → ReadsAs kind_of_row q ts k rest → Step (at (method m ls ∷ ps) b) ts (at (method m (ls ++ lines.line first.place k ∷ []) ∷ ps) (if is_item k then Some first.begin else None)) rest
method_steps {ts} {us} {rest} {b} {first} {q} {k} s m ls ps r h =
    subst (λ ts. Step (at (method m ls ∷ ps) b) ts (at (method m (ls ++ lines.line first.place k ∷ []) ∷ ps) (if is_item k then Some first.begin else None)) rest) (sym s.tokens)
    (subst (λ x. Step (at (method m ls ∷ ps) b) (s.token ∷ us) (at (method m (ls ++ lines.line first.place k ∷ []) ∷ ps) (if is_item k then Some x else None)) rest) s.is.same_begin
    (subst (λ x. Step (at (method m ls ∷ ps) b) (s.token ∷ us) (at (method m (ls ++ lines.line x k ∷ []) ∷ ps) (begun_by k b s.token)) rest) s.is.same_place
    (method_line s.not_end s.no_head r.enters r.loops r.shallow (subst (λ ts. ReadsAs kind_of_row q ts k rest) s.tokens h))))

-- a line's head
pub head_refused : {ts us : List LineToken} {b : Option Place} {first : First} (x : Position) (h : head_type.BlockWord) (n : ℕ) (p : Place) → Starts ts us b first → first.word ≡ word_of_head h → first.place.column ≡ 1 → Reads (head_state (word_of_head h)) us (refused n p) → Fails x ts n p
head_refused {ts} {us} {b} {first} x h n p s w c r =
    let e : word s.token ≡ word_of_head h = s.is.same_word ∙ w in
    subst (λ ts. Fails x ts n p) (sym s.tokens)
    (head_fails (ap is_block_word e ∙ is_head h, ap (λ (p : Place). p.column) s.is.same_place ∙ c) (subst (λ w. Reads (head_state w) us (refused n p)) (sym e) r))

pub head_steps : {ts us rest : List LineToken} {b : Option Place} {first : First} (x : Position) (h : head_type.BlockWord) (s : Starts ts us b first) (p : Part) → first.word ≡ word_of_head h → first.place.column ≡ 1 → Opens s.token us p rest → Step x ts (at (p ∷ x.parts) None) rest
head_steps {ts} {us} {rest} {b} {first} x h s p w c o =
    subst (λ ts. Step x ts (at (p ∷ x.parts) None) rest) (sym s.tokens)
    (head (ap is_block_word (s.is.same_word ∙ w) ∙ is_head h, ap (λ (p : Place). p.column) s.is.same_place ∙ c) o)

-- a blank line
pub blank_steps : {ts us : List LineToken} {b : Option Place} {first : First} (x : Position) → Starts ts us b first → first.word ≡ word_case.LineEnd → Step x ts (at x.parts None) us
blank_steps {ts} {us} {b} {first} x s w = subst (λ ts. Step x ts (at x.parts None) us) (sym s.tokens) (blank (s.is.same_word ∙ w))

-- what neither ends a line nor begins a block
pub inner : {ts us : List LineToken} {b : Option Place} {first : First} → Starts ts us b first → first.word ≢ word_case.LineEnd → ¬ IsHeadAt first.word first.place → Inner ts us b first
inner {ts} {us} {b} {first} s e h = record {
  token = s.token;
  tokens = s.tokens;
  is = s.is;
  not_end = λ x. e (sym s.is.same_word ∙ x);
  no_head = λ x. h (ap is_block_word (sym s.is.same_word) ∙ x.0, ap (λ (p : Place). p.column) (sym s.is.same_place) ∙ x.1);
}

-- what a reader of one line gives
pub added : {ts rest : List LineToken} {o : opened.Open} (qs ps : List Part) (p : Part) (line : Extended) → line.block ≡ o → line.begun ≡ None → IsOpen p o → Extends ts qs (p ∷ ps) rest → Added qs ps ts line rest
added {o = o} qs ps p line b n i x = record {
  part = p;
  extends = x;
  stands = subst (λ o. IsOpen p o) (sym b) i;
  begun = n;
}

pub appended_view : {A B : Type 0} (f : A → B) (xs ys all : List A) → all ≡ xs ++ ys → map f xs ++ map f ys ≡ map f all
appended_view f xs ys all e = sym (ap (map f) e ∙ go xs)
  where
    go : (xs : List _) → map f (xs ++ ys) ≡ map f xs ++ map f ys
    go [] = refl
    go (x ∷ xs) = ap (λ zs. f x ∷ zs) (go xs)

pub method_grown : {ts us rest : List LineToken} {b : Option Place} {first : First} {q : LineState} {k : Kind} (s : Inner ts us b first) (m : Method) (ls : List lines.Line) (ps : List Part) → MayRead ls (is_begun b) s.token q → ReadsAs kind_of_row q ts k rest → (blocks : Blocks) (begun : Option Place) → begun ≡ (if is_item k then Some first.begin else None) → HasTaken (ls ++ lines.line first.place k ∷ []) blocks → Grown (method (method_of m) ls ∷ ps) ps b ts (record { block = open_case.Method m blocks; begun = begun }) rest
method_grown {ts} {us} {rest} {b} {first} {q} {k} s m ls ps r h blocks begun e t = record {
  part = method (method_of m) (ls ++ lines.line first.place k ∷ []);
  step = subst (λ x. Step (at (method (method_of m) ls ∷ ps) b) ts (at (method (method_of m) (ls ++ lines.line first.place k ∷ []) ∷ ps) x) rest) (sym e) (method_steps s (method_of m) ls ps r h);
  stands = (ls ++ lines.line first.place k ∷ [], t, refl);
}

pub grown_all : {ts us : List LineToken} {b : Option Place} {first : First} {E : Type 0} (p q : Part) (ps : List Part) (rest : List LineToken) → Inner ts us b first → p ≡ q → (r : Result Extended E) → IfOk r (λ x. Added (q ∷ ps) ps ts x rest) → IfOk r (λ x. Grown (p ∷ ps) ps b ts x rest)
grown_all {ts} {us} {b} {first} p q ps rest s e r h = IfOk-weaker r (λ x. Added (q ∷ ps) ps ts x rest) (λ x. Grown (p ∷ ps) ps b ts x rest) (λ x. grown p q ps s e) h

pub refused_all : {ts us : List LineToken} {b : Option Place} {first : First} {T : Type 0} (p q : Part) (ps : List Part) → Inner ts us b first → p ≡ q → declares (q ∷ ps) ≡ true → (r : Result T (Fail Fault)) → IfErr r (IfRefused (λ f. Reads (line_state (q ∷ ps)) ts (refused f.number f.place))) → IfErr r (IfRefused (λ f. Fails (at (p ∷ ps) b) ts f.number f.place))
refused_all {ts} {us} {b} {first} p q ps s e d r h =
    IfErr-weaker r (IfRefused (λ f. Reads (line_state (q ∷ ps)) ts (refused f.number f.place))) (IfRefused (λ f. Fails (at (p ∷ ps) b) ts f.number f.place))
    (refused_so (λ f. Reads (line_state (q ∷ ps)) ts (refused f.number f.place)) (λ f. Fails (at (p ∷ ps) b) ts f.number f.place) (λ f h. same_refused p q ps e (declaration_refused (q ∷ ps) f.number f.place s d h))) h

-- the same from a position with these parts
pub moved_fails : {ts : List LineToken} {n : ℕ} {p : Place} (x : Position) (qs : List Part) (b : Option Place) → x.parts ≡ qs → x.begun ≡ b → Fails (at qs b) ts n p → Fails x ts n p
moved_fails {ts} {n} {p} x qs b e h f = subst (λ b. Fails (at x.parts b) ts n p) (sym h) (subst (λ qs. Fails (at qs b) ts n p) (sym e) f)

pub continues : {ts rest : List LineToken} {line : Extended} {file : Growing} (x : Position) (qs ps : List Part) (b : Option Place) → x.parts ≡ qs → x.begun ≡ b → (g : Grown qs ps b ts line rest) → StandsFor (at (g.part ∷ ps) line.begun) file → Continues x ts file rest
continues {ts} {rest} {line} x qs ps b e h g s = record {
  next = at (g.part ∷ ps) line.begun;
  step = subst (λ b. Step (at x.parts b) ts (at (g.part ∷ ps) line.begun) rest) (sym h) (subst (λ qs. Step (at qs b) ts (at (g.part ∷ ps) line.begun) rest) (sym e) g.step);
  stands = s;
}

pub blank_continues : {ts us : List LineToken} {b : Option Place} {first : First} {old new : Growing} (x : Position) → Starts ts us b first → first.word ≡ word_case.LineEnd → StandsFor x old → new.current ≡ old.current → new.done ≡ old.done → new.begun ≡ None → Continues x ts new us
blank_continues {ts} {us} {b} {first} {old} {new} x s w h c d e = record {
  next = at x.parts None;
  step = blank_steps x s w;
  stands = record {
    parts = subst (λ o. ArePartsOf x.parts o new.done) (sym c) (subst (λ bs. ArePartsOf x.parts old.current bs) (sym d) h.parts);
    begun = sym e;
  };
}

pub head_continues : {ts us rest : List LineToken} {b : Option Place} {first : First} {file : Growing} {o : opened.Open} (x : Position) (h : head_type.BlockWord) (s : Starts ts us b first) → first.word ≡ word_of_head h → first.place.column ≡ 1 → (y : Begins s.token us o rest) → StandsFor (at (y.part ∷ x.parts) None) file → Continues x ts file rest
head_continues x h s w c y f = record { next = at (y.part ∷ x.parts) None; step = head_steps x h s y.part w c y.opens; stands = f }

-- a later spot than the one behind a token
pub later_still : {s t u : Spot} → t ≡ moved s (s.at + 1) → IsLater t u → IsLater s u
later_still {s} {t} {u} e h =
    let x : IsLater (moved s (s.at + 1)) u = subst (λ t. IsLater t u) e h in
    let lt = x.1 in
    (x.0, omega (arith, lt), x.2)

pub later_by_one : {s t : Spot} → s.at < length s.tokens → t ≡ moved s (s.at + 1) → IsLater s t
later_by_one {s} lt e = subst (λ t. IsLater s t) (sym e) (refl, omega arith, omega (arith, lt))
