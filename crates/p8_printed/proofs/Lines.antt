-- Lines of methods, printed, are lines of methods again.
use Rattle.std.proofs.Common.{◌≡◌, List, [], ◌∷◌, ◌++◌, Some, Bool, true, false, IsTrue, not, refl, sym, ◌∙◌, subst, append_assoc}
use Rattle.std.specs.Prelude.{◌&&◌}
use Rattle.p8_tree.specs.Statements.{Do, Next, Quit, Return, Abort, After}
use Rattle.p8_lexer.specs.declared.word.Word.TheVariants as word_case
use Rattle.p8_lexer.specs.Pieces.{Piece}
use Rattle.p8_columns.specs.Lines.{Kind, Plain, Repeat, Line, line}
use Rattle.p8_lines.specs.declared.arrow.Arrow.{Arrow}
use Rattle.p8_lines.specs.declared.state.LineState.{LineState}
use Rattle.p8_lines.specs.declared.state.LineState.TheVariants as state
use Rattle.p8_lines.specs.Diagram.{choices}
use Rattle.p8_lines.specs.Tokens.{LineToken, word}
use Rattle.p8_lines.specs.Lines.{Follows, Leads, nowhere, by_token, by_phrase}
use Rattle.p8_lines.proofs.Arrows.{all_good, taken}
use Rattle.p8_blocks.specs.Values.{begins_line}
use Rattle.p8_blocks.specs.Files.{within_limits, begins_text, is_item, AreLines, a_blank, a_line}
use Rattle.p8_statements.specs.Statements.{kind_of_row}
use Rattle.p8_print.specs.StatementWords.{words_of_kind}
use Rattle.p8_printed.specs.Kinds.{kind_anywhere, begin_of}
use Rattle.p8_printed.specs.Rereading.{AreSpelled, with_line_end}
use Rattle.p8_printed.proofs.Rebuilt.{is_line}
use Rattle.p8_printed.proofs.MethodLines.{IsLine, read_back}
use Rattle.p8_printed.proofs.AgainLines.{item_anywhere}

-- it is printed in a line
pub line_is : (k : Kind) → IsLine k → IsTrue (is_line k)
line_is (Plain (Do e)) h = refl
line_is (Plain Next) h = refl
line_is (Plain Quit) h = refl
line_is (Plain (Return e)) h = refl
line_is (Plain (Abort e)) h = refl
line_is (Plain a) h = absurd h
line_is (Repeat (After until e)) h = absurd h
line_is (Repeat c) h = refl
line_is k h = refl

begins : (k : Kind) → IsTrue (begins_line (begin_of k))
begins (Plain a) = refl
begins k = refl

-- a line of a method has two tokens or more

abbrev is_over : LineState → Bool
is_over state.End = true
is_over _ = false

abbrev goes_on : Arrow → Bool
goes_on a = not (is_over a.to)

all_go_on : (q : LineState) → IsTrue (begins_line q) → IsTrue (all_good goes_on (choices q).arrows)
all_go_on state.Statement h = refl
all_go_on state.ChainLine h = refl
all_go_on state.LoopEndLine h = refl
all_go_on state.CaseItem h = refl
all_go_on q h = absurd cc

not_over : (q r : LineState) (t : LineToken) → IsTrue (begins_line q) → Follows (choices q).arrows t r → r ≡ state.End → ⊥
not_over q r t h f e =
    let x = taken goes_on f (all_go_on q h) in
    let y : IsTrue (not (is_over state.End)) = subst (λ r. IsTrue (not (is_over r))) (x.goes ∙ e) x.good in
    cc

none_lead : {q r : LineState} {row : List Piece} {us : List LineToken} → Leads q us row r → us ≡ [] → q ≡ r
none_lead nowhere e = refl
none_lead (by_token f y) e = absurd cc
none_lead (by_phrase others p x le f y) e = absurd cc

not_one : {q r : LineState} {row : List Piece} {us : List LineToken} (t : LineToken) → IsTrue (begins_line q) → Leads q us row r → us ≡ t ∷ [] → r ≡ state.End → ⊥
not_one t h nowhere e i = absurd cc
not_one t h (by_token {q = q} {r = r} {t = u} {ts = ts} f y) e i = let none : ts ≡ [] = cc in not_over q r u h f (none_lead y none ∙ i)
not_one t h (by_phrase [] p x le f y) e i = absurd cc
not_one t h (by_phrase (u ∷ others) p x le f y) e i = absurd cc

not_nothing : (ended : Bool) (k : Kind) (row : List Piece) (t : LineToken) → Leads (begin_of k) (with_line_end ended [] t) row state.End → ⊥
not_nothing true k row t leads = not_one t (begins k) leads refl refl
not_nothing false k row t leads = let z : IsTrue (begins_line state.End) = subst (λ q. IsTrue (begins_line q)) (none_lead leads refl) (begins k) in cc

-- Tokens and the line's end after them are a line of this kind, but for places. After an item of a CASE the line's end
-- is no part of the line.
pub record IsReadAs (k : Kind) (ts : List LineToken) (t : LineToken) : Type 0 where
  pub first : LineToken
  pub others : List LineToken
  pub are : ts ≡ first ∷ others
  pub kind : Kind
  pub same : kind_anywhere kind ≡ kind_anywhere k
  pub adds : (ls : List Line) (us : List LineToken) → AreLines within_limits ls false us → AreLines within_limits (ls ++ line first.place kind ∷ []) false (us ++ (ts ++ t ∷ []))

of_text : (b : Bool) → b && false ≡ false
of_text true = refl
of_text false = refl

module _ (k : Kind) {k' : Kind} {row : List Piece} (t : LineToken) (end : word t ≡ word_case.LineEnd) (is : kind_of_row row ≡ Some k') (same : kind_anywhere k' ≡ kind_anywhere k) where
  added : (b : Bool) → is_item k ≡ b → (first : LineToken) (others : List LineToken) → Leads (begin_of k) (with_line_end (not b) (first ∷ others) t) row state.End
      → (ls : List Line) (us : List LineToken) → AreLines within_limits ls false us → AreLines within_limits (ls ++ line first.place k' ∷ []) false (us ++ ((first ∷ others) ++ t ∷ []))
  added false e first others leads ls us r =
      subst (λ b. AreLines within_limits (ls ++ line first.place k' ∷ []) b (us ++ ((first ∷ others) ++ t ∷ []))) (item_anywhere k' k same ∙ e)
      (a_line (begin_of k) row first (others ++ t ∷ []) (begins k) (of_text (begins_text (begin_of k))) leads is r)
  added true e first others leads ls us r =
      subst (AreLines within_limits (ls ++ line first.place k' ∷ []) false) (append_assoc us (first ∷ others) (t ∷ []))
      (a_blank t end (a_line (begin_of k) row first others (begins k) (of_text (begins_text (begin_of k))) leads is r))

  read_as : (ts us : List LineToken) → ts ≡ us → Leads (begin_of k) (with_line_end (not (is_item k)) us t) row state.End → IsReadAs k ts t
  read_as ts [] e leads = absurd (not_nothing (not (is_item k)) k row t leads)
  read_as ts (first ∷ others) e leads = record {
    first = first;
    others = others;
    are = e;
    kind = k';
    same = same;
    adds =
        λ ls us r.
        subst (λ ts. AreLines within_limits (ls ++ line first.place k' ∷ []) false (us ++ (ts ++ t ∷ []))) (sym e) (added (is_item k) refl first others leads ls us r);
  }

pub line_again : (k : Kind) → IsLine k → (ts : List LineToken) (t : LineToken) → AreSpelled (words_of_kind k) ts → word t ≡ word_case.LineEnd → IsReadAs k ts t
line_again k h ts t s end =
    let x = (read_back k h).read ts t s end in
    read_as k {k' = x.1} {row = x.0} t end x.3 x.4 ts ts refl x.2
