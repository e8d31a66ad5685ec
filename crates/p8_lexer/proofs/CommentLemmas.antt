-- Counting braces finds where a comment ends.
use Rattle.std.proofs.Common.{◌≡◌, ◌≢◌, ℕ, zero, suc, ◌+◌, ◌-◌, ◌<◌, List, [], ◌∷◌, ◌++◌, length, take, drop, get_or, Bool, true, false, refl, sym, ap, ◌∙◌, subst, arith, append_assoc, append-nil, take-append-drop}
use Rattle.std.specs.Prelude.{◌==◌, if◌then◌else◌, IsTrue}
use Rattle.std.proofs.lemmas.Bool.Decides.{nat_tests}
use Rattle.std.proofs.lemmas.List.{take_more, take-take, length-drop, length-take-le}
use Rattle.p8_lexer.specs.Lexing.{Inside, empty, character, nested, Is}
use Rattle.p8_lexer.specs.declared.piece.PieceKind.TheVariants.{Comment}
use Rattle.p8_lexer.specs.Cutting.{IsGreatest}

-- so many comments begin in these characters, one in another, and none of them ends
pub data Open : ℕ → List ℕ → Type 0 where
  outer : {cs : List ℕ} → Inside cs → Open 1 (123 ∷ cs)
  inner : {d : ℕ} {bs cs : List ℕ} → Open d bs → Inside cs → Open (suc d) (bs ++ 123 ∷ cs)

join : {bs : List ℕ} → Inside bs → {cs : List ℕ} → Inside cs → Inside (bs ++ cs)
join empty i = i
join (character p q h) i = character p q (join h i)
join (nested {cs = bs} {ds = cs} h k) {cs = ds} i = subst Inside (ap (λ l. 123 ∷ l) (sym (append_assoc bs (125 ∷ cs) ds))) (nested h (join k i))

-- one more character

plain : {d : ℕ} {bs : List ℕ} → Open d bs → (c : ℕ) → c ≢ 123 → c ≢ 125 → Open d (bs ++ c ∷ [])
plain (outer h) c p q = outer (join h (character p q empty))
plain (inner {bs = bs} {cs = cs} o h) c p q = subst (Open _) (sym (append_assoc bs (123 ∷ cs) (c ∷ []))) (inner o (join h (character p q empty)))

deeper : {d : ℕ} {bs : List ℕ} → Open d bs → Open (suc d) (bs ++ 123 ∷ [])
deeper o = inner o empty

ended : {d : ℕ} {bs : List ℕ} → Open d bs → (cs : List ℕ) → Inside cs → Open d ((bs ++ 123 ∷ cs) ++ 125 ∷ [])
ended (outer {cs = bs} i) cs h = subst (Open _) (ap (λ l. 123 ∷ l) (sym (append_assoc bs (123 ∷ cs) (125 ∷ [])))) (outer (join i (nested h empty)))
ended (inner {bs = os} {cs = bs} o i) cs h = subst (Open _) (regroup os bs cs) (inner o (join i (nested h empty)))
  where
    regroup : (os bs cs : List ℕ) → os ++ 123 ∷ (bs ++ 123 ∷ (cs ++ 125 ∷ [])) ≡ ((os ++ 123 ∷ bs) ++ 123 ∷ cs) ++ 125 ∷ []
    regroup os bs cs = sym (simp append_assoc)

shallower : {d : ℕ} {bs : List ℕ} → Open (suc (suc d)) bs → Open (suc d) (bs ++ 125 ∷ [])
shallower (inner {cs = cs} o h) = ended o cs h

-- how many comments are open after characters, where so many were open before; 0 as soon as the first has ended
depth : ℕ → List ℕ → ℕ
depth zero cs = zero
depth (suc d) [] = suc d
depth (suc d) (c ∷ cs) = depth (if c == 123 then suc (suc d) else (if c == 125 then d else suc d)) cs

-- what stands after the end of the first comment
rest : ℕ → List ℕ → List ℕ
rest zero cs = cs
rest (suc d) [] = []
rest (suc d) (c ∷ cs) = rest (if c == 123 then suc (suc d) else (if c == 125 then d else suc d)) cs

stays : (c d : ℕ) → c ≢ 123 → c ≢ 125 → (if c == 123 then suc (suc d) else (if c == 125 then d else suc d)) ≡ suc d
stays c d p q = grind (arith, nat_tests)

depth_zero : (cs : List ℕ) → depth zero cs ≡ zero
unfolding depth
depth_zero [] = refl
depth_zero (c ∷ cs) = refl

depth_append : (bs : List ℕ) (d : ℕ) (cs : List ℕ) → depth d (bs ++ cs) ≡ depth (depth d bs) cs
unfolding depth
depth_append bs zero cs = depth_zero (bs ++ cs) ∙ sym (ap (λ d. depth d cs) (depth_zero bs) ∙ depth_zero cs)
depth_append [] (suc d) cs = refl
depth_append (b ∷ bs) (suc d) cs = depth_append bs (if b == 123 then suc (suc d) else (if b == 125 then d else suc d)) cs

inside_depth : {bs : List ℕ} → Inside bs → (d : ℕ) (cs : List ℕ) → depth (suc d) (bs ++ cs) ≡ depth (suc d) cs
unfolding depth
inside_depth empty d cs = refl
inside_depth (character {c = c} {cs = bs} p q h) d cs = ap (λ e. depth e (bs ++ cs)) (stays c d p q) ∙ inside_depth h d cs
inside_depth (nested {cs = os} {ds = bs} h k) d cs = ap (depth (suc (suc d))) (append_assoc os (125 ∷ bs) cs) ∙ inside_depth h (suc d) (125 ∷ (bs ++ cs)) ∙ inside_depth k d cs

inside_rest : {bs : List ℕ} → Inside bs → (d : ℕ) (cs : List ℕ) → rest (suc d) (bs ++ cs) ≡ rest (suc d) cs
unfolding rest
inside_rest empty d cs = refl
inside_rest (character {c = c} {cs = bs} p q h) d cs = ap (λ e. rest e (bs ++ cs)) (stays c d p q) ∙ inside_rest h d cs
inside_rest (nested {cs = os} {ds = bs} h k) d cs = ap (rest (suc (suc d))) (append_assoc os (125 ∷ bs) cs) ∙ inside_rest h (suc d) (125 ∷ (bs ++ cs)) ∙ inside_rest k d cs

-- the first brace, and the depth after it
record Counted (d : ℕ) (bs : List ℕ) : Type 0 where
  cs : List ℕ
  is : bs ≡ 123 ∷ cs
  counts : depth 1 cs ≡ d
  positive : 0 < d

counted : {d : ℕ} {bs : List ℕ} → Open d bs → Counted d bs
unfolding depth
counted (outer {cs = cs} h) = record { cs = cs; is = refl; counts = ap (depth 1) (sym (append-nil cs)) ∙ inside_depth h 0 []; positive = omega arith }
counted (inner {d = d} {bs = bs} {cs = cs} o h) = go d (counted o)
  where
    go : (d : ℕ) → Counted d bs → Counted (suc d) (bs ++ 123 ∷ cs)
    go zero k = absurd (omega (arith, k.positive))
    go (suc d) k = record {
      cs = k.cs ++ 123 ∷ cs;
      is = ap (λ l. l ++ 123 ∷ cs) k.is;
      counts = depth_append k.cs 1 (123 ∷ cs) ∙ ap (λ e. depth e (123 ∷ cs)) k.counts ∙ ap (depth (suc (suc d))) (sym (append-nil cs)) ∙ inside_depth h (suc d) [];
      positive = omega arith;
    }

last_one : {bs : List ℕ} → Open 1 bs → (cs : List ℕ) × Inside cs × (bs ≡ 123 ∷ cs)
last_one (outer {cs = cs} h) = (cs, h, refl)
last_one (inner {d = d} o h) = absurd (let k = counted o in omega (arith, k.positive))

-- where comments are open to the end of a text, no front of it is a comment
pub never_ends : (d : ℕ) (text : List ℕ) → Open d text → (n : ℕ) → Is Comment text n → ⊥
unfolding depth
never_ends d text o n (alone, (cs, inside, e)) =
    let k = counted o in
    let whole : 123 ∷ k.cs ≡ 123 ∷ (cs ++ 125 ∷ drop n text) = sym k.is ∙ sym (take-append-drop n text) ∙ ap (λ t. t ++ drop n text) e ∙ ap (λ t. 123 ∷ t) (append_assoc cs (125 ∷ []) (drop n text)) in
    let tails : k.cs ≡ cs ++ 125 ∷ drop n text = cc in
    let none : depth 1 k.cs ≡ 0 = ap (depth 1) tails ∙ inside_depth inside 0 (125 ∷ drop n text) ∙ depth_zero (drop n text) in
    omega (arith, k.positive, sym k.counts ∙ none)

-- where the first comment ends, a comment ends and no longer one does
pub comment_ends : (text : List ℕ) (i : ℕ) → i < length text → get_or text 1 0 ≢ 123 → Open 1 (take i text) → get_or text i 0 ≡ 125 → IsGreatest (Is Comment text) (length text) (i + 1)
unfolding rest
comment_ends text i lt alone o e =
    let c = last_one o in
    let is : take (i + 1) text ≡ 123 ∷ (c.0 ++ 125 ∷ []) = take_more text i 0 lt ∙ ap (λ b. take i text ++ b ∷ []) e ∙ ap (λ t. t ++ 125 ∷ []) c.2 in
    record {
      within = omega arith;
      holds = (alone, (c.0, c.1, is));
      greatest = λ m above within (al, (ds, inside, f)).
          let middle = drop (i + 1) (take m text) in
          let joined : take m text ≡ take (i + 1) text ++ middle = sym (take-append-drop (i + 1) (take m text)) ∙ ap (λ t. t ++ middle) (take-take (i + 1) m text (omega arith)) in
          let same : 123 ∷ (c.0 ++ 125 ∷ middle) ≡ 123 ∷ (ds ++ 125 ∷ []) = sym (ap (λ t. t ++ middle) is ∙ ap (λ t. 123 ∷ t) (append_assoc c.0 (125 ∷ []) middle)) ∙ sym joined ∙ f in
          let tails : c.0 ++ 125 ∷ middle ≡ ds ++ 125 ∷ [] = cc in
          let nothing : middle ≡ [] = sym (inside_rest c.1 0 (125 ∷ middle)) ∙ ap (rest 1) tails ∙ inside_rest inside 0 (125 ∷ []) in
          omega (arith, ap length nothing, length-drop (i + 1) (take m text), length-take-le m text within);
    }

-- the loop

pub open_first : (text : List ℕ) → 0 < length text → get_or text 0 0 ≡ 123 → Open 1 (take 1 text)
open_first [] lt e = absurd (omega arith)
open_first (c ∷ text) lt e = subst (λ c. Open 1 (c ∷ [])) (sym e) (outer empty)

module _ (text : List ℕ) (i d e : ℕ) (lt : i < length text) (o : Open d (take i text)) where
  more : (c : ℕ) → get_or text i 0 ≡ c → take i text ++ c ∷ [] ≡ take (i + 1) text
  more c h = ap (λ c. take i text ++ c ∷ []) (sym h) ∙ sym (take_more text i 0 lt)

  pub open_more : get_or text i 0 ≡ 123 → e ≡ d + 1 → Open e (take (i + 1) text)
  open_more h n = subst (λ d. Open d (take (i + 1) text)) (let s : suc d ≡ e = omega arith in s) (subst (Open (suc d)) (more 123 h) (deeper o))

  pub open_plain : get_or text i 0 ≢ 123 → get_or text i 0 ≢ 125 → e ≡ d → Open e (take (i + 1) text)
  open_plain p q n = subst (λ d. Open d (take (i + 1) text)) (sym n) (subst (Open d) (more (get_or text i 0) refl) (plain o (get_or text i 0) p q))

  pub open_less : get_or text i 0 ≡ 125 → d ≢ 1 → e ≡ d - 1 → Open e (take (i + 1) text)
  open_less h many n =
      let k = counted o in
      let two : d ≡ suc (suc (d - 2)) = omega (arith, k.positive) in
      let one : suc (d - 2) ≡ e = omega (arith, k.positive) in
      subst (λ d. Open d (take (i + 1) text)) one (subst (Open (suc (d - 2))) (more 125 h) (shallower (subst (λ d. Open d (take i text)) two o)))

-- the other comments

not_both : (b : Bool) → b ≡ false → IsTrue b → ⊥
not_both true e h = cc
not_both false e h = cc
