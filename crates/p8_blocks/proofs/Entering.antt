-- What a line of a method is entered as, and how it is refused.
use Rattle.std.proofs.Common.{◌≡◌, ◌∙◌, ℕ, ◌+◌, ◌≤◌, List, ◌∷◌, Option, Bool, true, false, sym, ap, subst, length}
use Rattle.std.specs.Prelude.{◌↔◌, IsTrue, Result, Ok, Err, IfErr, IsErrAnd}
use Rattle.std.proofs.lemmas.Bool.{false≢true}
use Rattle.p8_tree.specs.declared.places.Place.{Place}
use Rattle.p8_tree.specs.Sources.{MethodTree}
use Rattle.p8_words.specs.declared.failure.Fail.{Fail}
use Rattle.p8_lexer.specs.declared.word.Word.{Word}
use Rattle.p8_tree.specs.declared.refusal.Refusal.TheVariants.{BadIndent, TooNested, LoopWord}
use Rattle.p8_tree.specs.Refusals.{refusal_number}
use Rattle.p8_grammar.specs.Lexemes.{in_method}
use Rattle.p8_columns.specs.declared.room.Room.TheVariants as room
use Rattle.p8_columns.specs.declared.room.Chain.TheVariants as chain
use Rattle.p8_columns.specs.Lines as lines
use Rattle.p8_columns.specs.Lines.{Kind, Plain, If, ElseIf, Else, Repeat, End, Case, Item, Other, is_plain_repeat}
use Rattle.p8_columns.specs.Columns.{open_for, innermost, last_up_to, IsAt, HasRoom, HasChain, FitsAs}
use Rattle.p8_tree.specs.declared.faults.Fault.{Fault}
use Rattle.p8_lines.specs.declared.state.LineState.{LineState}
use Rattle.p8_lines.specs.declared.state.LineState.TheVariants as state
use Rattle.p8_lines.specs.Tokens.{LineToken, word}
use Rattle.p8_lines.specs.Lines.{Outcome, read, refused, number_of, Reads}
use Rattle.p8_lexer.specs.Pieces.{Piece}
use Rattle.p8_blocks.specs.Values.{suits}
use Rattle.p8_blocks.specs.Reading.{Part, Position, method, at, from, barred, Enters, goes_on, chain_over, no_chain, loop_end, no_loop, statement, item, after_other, opens, HasNoLoop, IsTooDeep, IsRefusedAt, Fails, entry_fails, no_loop_fails, too_deep_fails, line_fails, is_begun, goes_on_chain, ends_loop}
use Rattle.p8_blocks.specs.Standing.{Inner, MayRead, TellsTooDeep, too_deep, refused_there}
use Rattle.p8_blocks.specs.declared.first.First.{First}

-- what `?` gives back
pub told : {T : Type 0} (r : Result T (Fail Fault)) (e : Fail Fault) (Q : Fail Fault → Type 0) → IsErrAnd r (λ y. y ≡ e) → Q e → IfErr r Q
told (Ok x) e Q h q = absurd h
told (Err y) e Q h q = subst Q (sym h) q

-- what a test says
pub granted : {b : Bool} {P : Type 0} → b ≡ true → IsTrue b ↔ P → P
granted h e = e.0 h

pub denied : {b : Bool} {P : Type 0} → b ≡ false → IsTrue b ↔ P → ¬ P
denied h e = λ x. false≢true (sym h ∙ e.1 x)

pub barred_as : (ls : List lines.Line) (b : Bool) (t : LineToken) (n m : ℕ) → n ≡ m → Enters ls b t (barred m) → Enters ls b t (barred n)
barred_as ls b t n m e h = subst (λ n. Enters ls b t (barred n)) (sym e) h

pub fails_as : {x : Position} {ts : List LineToken} {f g : Fault} → f ≡ g → Fails x ts g.number g.place → Fails x ts f.number f.place
fails_as {x} {ts} e h = subst (λ f. Fails x ts f.number f.place) (sym e) h

-- each of the entries, by the first token's word and place
module _ (ls : List lines.Line) (b : Bool) (t : LineToken) (w : Word) (p : Place) (sw : word t ≡ w) (sp : t.place ≡ p) where
  same_column : p.column ≡ t.place.column
  same_column = ap (λ (p : Place). p.column) (sym sp)

  is_word : (test : Word → Bool) → {b : Bool} → test w ≡ b → test (word t) ≡ b
  is_word test h = ap test sw ∙ h

  at_column : (P : ℕ → Type 0) → P p.column → P t.place.column
  at_column P h = subst P same_column h

  pub chain_begun : goes_on_chain b w ≡ true → HasChain chain.Begun p.column (last_up_to p.column ls) → Enters ls b t (from state.ChainLine)
  chain_begun h c = goes_on (is_word (goes_on_chain b) h) (at_column (λ n. HasChain chain.Begun n (last_up_to n ls)) c)

  pub chain_ended : goes_on_chain b w ≡ true → HasChain chain.Ended p.column (last_up_to p.column ls) → Enters ls b t (barred (number_of in_method w))
  chain_ended h c = subst (λ w. Enters ls b t (barred (number_of in_method w))) sw (chain_over (is_word (goes_on_chain b) h) (at_column (λ n. HasChain chain.Ended n (last_up_to n ls)) c))

  pub chain_missing : goes_on_chain b w ≡ true → HasChain chain.Missing p.column (last_up_to p.column ls) → Enters ls b t (barred (refusal_number BadIndent))
  chain_missing h c = no_chain (is_word (goes_on_chain b) h) (at_column (λ n. HasChain chain.Missing n (last_up_to n ls)) c)

  pub loop_ended : ends_loop b w ≡ true → IsAt is_plain_repeat p.column (last_up_to p.column ls) → Enters ls b t (from state.LoopEndLine)
  loop_ended h c = loop_end (is_word (ends_loop b) h) (at_column (λ n. IsAt is_plain_repeat n (last_up_to n ls)) c)

  pub loop_missing : ends_loop b w ≡ true → ¬ IsAt is_plain_repeat p.column (last_up_to p.column ls) → Enters ls b t (barred (refusal_number BadIndent))
  loop_missing h c = no_loop (is_word (ends_loop b) h) (at_column (λ n. ¬ IsAt is_plain_repeat n (last_up_to n ls)) c)

  pub statement_fits : goes_on_chain b w ≡ false → ends_loop b w ≡ false → HasRoom room.Statement (innermost p.column ls) → Enters ls b t (from state.Statement)
  statement_fits h g c = statement (is_word (goes_on_chain b) h) (is_word (ends_loop b) g) (at_column (λ n. HasRoom room.Statement (innermost n ls)) c)

  pub item_fits : goes_on_chain b w ≡ false → ends_loop b w ≡ false → HasRoom room.Item (innermost p.column ls) → Enters ls b t (from state.CaseItem)
  item_fits h g c = item (is_word (goes_on_chain b) h) (is_word (ends_loop b) g) (at_column (λ n. HasRoom room.Item (innermost n ls)) c)

  pub nothing_fits : goes_on_chain b w ≡ false → ends_loop b w ≡ false → HasRoom room.Nothing (innermost p.column ls) → Enters ls b t (barred (number_of in_method w))
  nothing_fits h g c = subst (λ w. Enters ls b t (barred (number_of in_method w))) sw (after_other (is_word (goes_on_chain b) h) (is_word (ends_loop b) g) (at_column (λ n. HasRoom room.Nothing (innermost n ls)) c))

  pub is_too_deep : (q : LineState) → IsTooDeep ls q t → IsTrue (opens q w) × (64 ≤ length (open_for p.column ls) + 1)
  is_too_deep q h = (ap (opens q) (sym sw) ∙ h.0, subst (λ n. 64 ≤ length (open_for n ls) + 1) (sym same_column) h.1)

-- a line that is entered so and is of such a kind fits
pub fits : {ls : List lines.Line} {b : Bool} {t : LineToken} {q : LineState} (k : Kind) → Enters ls b t (from q) → IsTrue (suits q k) → FitsAs k t.place.column ls
fits (ElseIf n e) (goes_on w c) s = c
fits Else (goes_on w c) s = c
fits k (goes_on w c) s = absurd cc
fits (End u e) (loop_end w c) s = c
fits k (loop_end w c) s = absurd cc
fits (Plain a) (statement w v r) s = r
fits (If n e) (statement w v r) s = r
fits (Repeat c) (statement w v r) s = r
fits (Case e) (statement w v r) s = r
fits k (statement w v r) s = absurd cc
fits (Item xs) (item w v r) s = r
fits Other (item w v r) s = r
fits k (item w v r) s = absurd cc

-- what is refused, with the line's first token
module _ {ts us : List LineToken} {b : Option Place} {first : First} (s : Inner ts us b first) (m : MethodTree) (ls : List lines.Line) (ps : List Part) where
  back : {n : ℕ} {p : Place} → Fails (at (method m ls ∷ ps) b) (s.token ∷ us) n p → Fails (at (method m ls ∷ ps) b) ts n p
  back {n} {p} h = subst (λ ts. Fails (at (method m ls ∷ ps) b) ts n p) (sym s.tokens) h

  pub barred_fails : (n : ℕ) → Enters ls (is_begun b) s.token (barred n) → Fails (at (method m ls ∷ ps) b) ts n first.place
  barred_fails n e = subst (λ p. Fails (at (method m ls ∷ ps) b) ts n p) s.is.same_place (back (entry_fails s.not_end s.no_head e))

  pub loop_fails : (q : LineState) → Enters ls (is_begun b) s.token (from q) → HasNoLoop ls q s.token → Fails (at (method m ls ∷ ps) b) ts (refusal_number LoopWord) first.place
  loop_fails q e h = subst (λ p. Fails (at (method m ls ∷ ps) b) ts (refusal_number LoopWord) p) s.is.same_place (back (no_loop_fails s.not_end s.no_head e h))

  to_tokens : {q : LineState} {o : Outcome} → Reads q ts o → Reads q (s.token ∷ us) o
  to_tokens {q} {o} r = subst (λ ts. Reads q ts o) s.tokens r

  pub deep_fails : (q : LineState) (n : ℕ) (p : Place) → Enters ls (is_begun b) s.token (from q) → ¬ HasNoLoop ls q s.token → IsTooDeep ls q s.token → TellsTooDeep q ts first.place first.begin n p → Fails (at (method m ls ∷ ps) b) ts n p
  deep_fails q n p e l d (too_deep {o = o} r h) =
      let same = s.is.same_begin in
      subst (λ p. Fails (at (method m ls ∷ ps) b) ts (refusal_number TooNested) p) same
      (back (too_deep_fails s.not_end s.no_head e d (to_tokens r) (subst (λ p. ¬ IsRefusedAt p o) (sym s.is.same_place) h)))
  deep_fails q n p e l d (refused_there p' h r) = back (line_fails s.not_end s.no_head e l (λ _. h ∙ sym s.is.same_place) (to_tokens r))

  pub reading_fails : (q : LineState) → MayRead ls (is_begun b) s.token q → (f : Fault) → Reads q ts (refused f.number f.place) → Fails (at (method m ls ∷ ps) b) ts f.number f.place
  reading_fails q r f h = back (line_fails s.not_end s.no_head r.enters r.loops (λ d. absurd (r.shallow d)) (to_tokens h))

-- a line that is too deep
pub deep_told : {q : LineState} {ts : List LineToken} {row : List Piece} {rest : List LineToken} (o p : Place) → Reads q ts (read row rest) → (f : Fault) → (f.number ≡ refusal_number TooNested) × (f.place ≡ p) → TellsTooDeep q ts o p f.number f.place
deep_told {q} {ts} {row} {rest} o p r f h =
    subst (λ n. TellsTooDeep q ts o p n f.place) (sym h.0) (subst (λ x. TellsTooDeep q ts o p (refusal_number TooNested) x) (sym h.1) (too_deep r (λ x. x)))

pub deep_elsewhere : {q : LineState} {ts : List LineToken} (o p : Place) (g : Fault) → Reads q ts (refused g.number g.place) → ¬ (g.place ≡ o) → (f : Fault) → (f.number ≡ refusal_number TooNested) × (f.place ≡ p) → TellsTooDeep q ts o p f.number f.place
deep_elsewhere {q} {ts} o p g r n f h =
    subst (λ n. TellsTooDeep q ts o p n f.place) (sym h.0) (subst (λ x. TellsTooDeep q ts o p (refusal_number TooNested) x) (sym h.1) (too_deep r n))

-- whether its line of the text is begun, as the code has it
pub may_read : {ts us : List LineToken} {b : Option Place} {first : First} {ls : List lines.Line} {q : LineState} (s : Inner ts us b first) → MayRead ls first.begun s.token q → MayRead ls (is_begun b) s.token q
may_read {ls = ls} {q = q} s r = subst (λ c. MayRead ls c s.token q) (sym s.is.same_begun) r
