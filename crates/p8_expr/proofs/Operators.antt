-- The word behind a whole operand: an operator, `:=`, or what may end the expression.
use Rattle.std.proofs.Common.{◌≡◌, ℕ, suc, ◌*◌, ◌<◌, ◌≤◌, min, map, List, [], ◌∷◌, Option, Some, None, Bool, true, false, ◌⊎◌, inl, inr, refl, sym, ap, ◌∙◌, subst, arith, zero, length}
use Rattle.std.specs.Prelude.{Box, ◌↔◌, IsTrue, if◌then◌else◌, ◌&&◌, ◌||◌, nat_lt}
use Rattle.std.proofs.lemmas.Bool.{ltb-true, ltb-false, lt-ltb, le-ltb}
use Rattle.std.specs.declared.alloc.Global.{Global}
use Rattle.p8_tree.specs.declared.expressions.Expr.{Expr}
use Rattle.p8_tree.specs.declared.expressions.Target.{Target}
use Rattle.p8_tree.specs.Views.{tree_of, variable_of}
use Rattle.p8_tree.specs.Expressions.{Tree, Variable}
use Rattle.p8_grammar.specs.Lexemes.{Setting, is_value, behind, Lexeme, mark, assigns, infix_word, sign, token}
use Rattle.p8_grammar.specs.Grammar.{infix_of, is_boolean}
use Rattle.p8_grammar.specs.Machine.{Shape, fresh, tree, target, is_plain, unless, whole_in, left_tree, left_variable, tree_in, Hole, Next, Frame, infix_frame, assign_frame, inside_frame, level_bound_of, reduce, State, state, becoming, entered_all, fill_hole, assign, operated, operate, after, step, accepted, accept}
use Rattle.p8_grammar.specs.Heights.{height}
use Rattle.p8_grammar.specs.Least.{need, least}
use Rattle.p8_grammar.specs.Outcomes.{outcome, run}
use Rattle.p8_grammar.specs.Growing.{ended_by}
use Rattle.p8_grammar.specs.Views.{setting_of, lexeme_of}
use Rattle.p8_grammar.specs.declared.lexemes.Setting as setting
use Rattle.p8_grammar.specs.declared.lexemes.Lexeme as lexeme_type
use Rattle.p8_grammar.specs.declared.lexemes.Lexeme.TheVariants as lexeme
use Rattle.p8_grammar.proofs.Walks.{kept, second_true}
use Rattle.p8_grammar.proofs.Steps.{loose_assigns, assign_step}
use Rattle.p8_grammar.proofs.Behind.{whole_after, infix_after, rest_after, rank_zero, rank_above, whole_least, whole_value, whole_plain, no_whole, accepts_all, accepts_none}
use Rattle.p8_expr.specs.declared.lookahead.Lookahead.{Lookahead}
use Rattle.p8_expr.specs.declared.value.Value.{Value}
use Rattle.p8_expr.specs.declared.value.Value.TheVariants as value
use Rattle.p8_expr.specs.declared.reading.Ended.TheVariants as ended
use Rattle.p8_expr.specs.Words.{between_quotes}
use Rattle.p8_lexer.specs.Words.{capital}
use Rattle.p8_expr.specs.Parsing.{tokens_from}
use Rattle.p8_expr.specs.Views.{left_of, target_in, is_alone, is_word, closed_by}
use Rattle.p8_expr.specs.Lookaheads.{left, next_place, next_word, next_lexeme, next_text, next_token, HasNext, Fits}
use Rattle.p8_expr.specs.Reading.{Shows, Has, Tells, EndsHere, ended_in}
use Rattle.p8_expr.proofs.Places.{stops_at}

-- a word behind an operand
stepped : (ahead : Lookahead) (v : Value) (k : List Frame) (sh : Shape) → Shows v sh ahead → step (state (setting_of ahead.setting) sh k) (next_token ahead) ≡ after (setting_of ahead.setting) sh (tree_in (left_of v)) k (next_place ahead) (next_lexeme ahead)
stepped ahead v k sh w = whole_after (setting_of ahead.setting) sh k (next_place ahead) (next_word ahead) (tree_in (left_of v)) w.tree_is w.ends

-- ---- no operator and no `:=`

no_infix : (n t : List ℕ) (x : lexeme_type.Lexeme) → ((r c : ℕ) → x ≡ lexeme.Infix r c → ⊥) → ((b c : ℕ) → x ≡ lexeme.Sign b c → ⊥) → infix_of (lexeme_of n t x) ≡ None
no_infix n t (lexeme.Infix r c) a b = absurd (a r c refl)
no_infix n t (lexeme.Sign i c) a b = absurd (b i c refl)
no_infix n t x a b = refl

no_assigns : (n t : List ℕ) (x : lexeme_type.Lexeme) → ((o : Option ℕ) → x ≡ lexeme.Assigns o → ⊥) → (o : Option ℕ) → ¬ (lexeme_of n t x ≡ assigns o)
no_assigns n t (lexeme.Assigns p) a o e = a p refl
no_assigns n t x a o e = cc

pub ends_word : (ahead : Lookahead) (v : Value) (k : List Frame) → Fits ahead → ((o : Option ℕ) → ahead.lexeme ≡ lexeme.Assigns o → ⊥) → ((r c : ℕ) → ahead.lexeme ≡ lexeme.Infix r c → ⊥) → ((b c : ℕ) → ahead.lexeme ≡ lexeme.Sign b c → ⊥) → EndsHere v k ahead
ends_word ahead v k f a b c = λ sh w.
    let n = map capital (next_text ahead) in
    let t = between_quotes (next_text ahead) in
    stepped ahead v k sh w
    ∙ rest_after (setting_of ahead.setting) sh k (next_place ahead) (next_lexeme ahead) (tree_in (left_of v)) (ap infix_of f.knows ∙ no_infix n t ahead.lexeme b c)
    (λ o e. no_assigns n t ahead.lexeme a o (sym f.knows ∙ e))

-- an operator ends no expression
infix_ends : (y : Lexeme) (o : ℕ × ℕ) (e : Tree) (k : List Frame) → infix_of y ≡ Some o → ended_by y e k ≡ None
infix_ends (infix_word r c) o e k h = refl
infix_ends (sign b c) o e k h = refl
infix_ends y o e k h = absurd cc

ends_operator : (ahead : Lookahead) (v : Value) (k : List Frame) (r c : ℕ) → infix_of (next_lexeme ahead) ≡ Some (r, c) → ((sh : Shape) → Shows v sh ahead → operate (setting_of ahead.setting) (target sh) (Some (r, c)) (next_place ahead) (tree_in (left_of v)) k ≡ None) → EndsHere v k ahead
ends_operator ahead v k r c is none = λ sh w.
    stepped ahead v k sh w
    ∙ infix_after (setting_of ahead.setting) sh k (next_place ahead) (next_lexeme ahead) (tree_in (left_of v)) (r, c) is
    ∙ none sh w
    ∙ sym (infix_ends (next_lexeme ahead) (r, c) (tree_in (left_of v)) k is)

-- one of no rank
pub ends_no_rank : (ahead : Lookahead) (v : Value) (k : List Frame) (r c : ℕ) → infix_of (next_lexeme ahead) ≡ Some (r, c) → ¬ ((0 < r) × (r ≤ 10)) → EndsHere v k ahead
ends_no_rank ahead v k r c is low = ends_operator ahead v k r c is (λ sh w. by_rank r low sh)
  where
    by_rank : (r : ℕ) → ¬ ((0 < r) × (r ≤ 10)) → (sh : Shape) → operate (setting_of ahead.setting) (target sh) (Some (r, c)) (next_place ahead) (tree_in (left_of v)) k ≡ None
    by_rank zero low sh = rank_zero (setting_of ahead.setting) (target sh) c (next_place ahead) (tree_in (left_of v)) k
    by_rank (suc r) low sh = rank_above (setting_of ahead.setting) (target sh) r c (next_place ahead) (tree_in (left_of v)) k (above r low)
      where
        above : (r : ℕ) → ¬ ((0 < suc r) × (suc r ≤ 10)) → 10 ≤ r
        above r low = go (nat_lt r 10) refl
          where
            go : (b : Bool) → nat_lt r 10 ≡ b → 10 ≤ r
            go true h = let lt : r < 10 = ltb-true r 10 h in absurd (low (omega arith, omega (arith, lt)))
            go false h = ltb-false r 10 h

-- in an action, which takes none but AND and OR behind a variable
pub ends_action : (ahead : Lookahead) (v : Value) (k : List Frame) (r c : ℕ) → is_value (setting_of ahead.setting) ≡ false → infix_of (next_lexeme ahead) ≡ Some (suc r, c) → (if is_boolean (suc r) && nat_lt 21 (level_bound_of k) then target_in v else None) ≡ None → EndsHere v k ahead
ends_action ahead v k r c d is none = ends_operator ahead v k (suc r) c is (λ sh w.
    ap (λ t. operated (setting_of ahead.setting) (if is_boolean (suc r) && nat_lt 21 (level_bound_of k) then t else None) r c (next_place ahead) (tree_in (left_of v)) k) w.target_is
    ∙ ap (λ t. operated (setting_of ahead.setting) t r c (next_place ahead) (tree_in (left_of v)) k) none
    ∙ ap (λ b. if b && nat_lt r 10 then (let x = reduce (2 * suc r) (tree_in (left_of v)) k in Some (state (setting_of ahead.setting) fresh (infix_frame r c (next_place ahead) (left_tree x.0) ∷ x.1))) else None) d)

pub no_variable : (b : Bool) (v : Value) → target_in v ≡ None → (if b then target_in v else None) ≡ None
no_variable true v h = h
no_variable false v h = refl

pub no_test : (b : Bool) (v : Value) → b ≡ false → (if b then target_in v else None) ≡ None
no_test true v h = absurd cc
no_test false v h = refl

pub tree_target : (v : Value) → ((w : Target) (h : ℕ) (a : Bool) → v ≡ value.Variable w h a → ⊥) → target_in v ≡ None
tree_target (value.Variable w h a) n = absurd (n w h a refl)
tree_target (value.Tree b h) n = refl

-- `:=` behind what may not be assigned
assign_ends : (ahead : Lookahead) (v : Value) (k : List Frame) (o : Option ℕ) → HasNext ahead (assigns o) → ((sh : Shape) → Shows v sh ahead → assign (setting_of ahead.setting) (target_in v) o (next_place ahead) k ≡ None) → EndsHere v k ahead
assign_ends ahead v k o n none = λ sh w.
    let s = setting_of ahead.setting in
    let e = tree_in (left_of v) in
    stepped ahead v k sh w
    ∙ ap (after s sh e k (next_place ahead)) n
    ∙ ap (λ t. assign s t o (next_place ahead) k) w.target_is
    ∙ none sh w
    ∙ sym (ap (λ y. ended_by y e k) n)

pub ends_low : (ahead : Lookahead) (v : Value) (k : List Frame) (o : Option ℕ) → HasNext ahead (assigns o) → level_bound_of k ≤ 21 → EndsHere v k ahead
ends_low ahead v k o n le = assign_ends ahead v k o n (λ sh w. low (target_in v))
  where
    low : (t : Option Variable) → assign (setting_of ahead.setting) t o (next_place ahead) k ≡ None
    low None = refl
    low (Some x) = ap (λ b. if b then Some (state (behind (setting_of ahead.setting)) fresh (assign_frame o (next_place ahead) x ∷ k)) else None) (le-ltb 21 (level_bound_of k) le)

pub ends_tree : (ahead : Lookahead) (v : Value) (k : List Frame) (o : Option ℕ) → HasNext ahead (assigns o) → target_in v ≡ None → EndsHere v k ahead
ends_tree ahead v k o n none = assign_ends ahead v k o n (λ sh w. ap (λ t. assign (setting_of ahead.setting) t o (next_place ahead) k) none)

-- ---- what goes on

pub assign_here : (ahead : Lookahead) (v : Value) (k : List Frame) (st : State) (o : Option ℕ) (x : Variable) → Has ahead k v st → HasNext ahead (assigns o) → target_in v ≡ Some x → 21 < level_bound_of k → step st (next_token ahead) ≡ Some (state (behind (setting_of ahead.setting)) fresh (assign_frame o (next_place ahead) x ∷ k))
assign_here ahead v k st o x (sh, w, is) n t lt =
    let s = setting_of ahead.setting in
    (λ i. step (is i) (token (next_place ahead) (loose_assigns (next_word ahead) o n i)))
    ∙ assign_step s sh k (next_place ahead) o (tree_in (left_of v)) x w.tree_is (w.target_is ∙ t) lt

operator_here : (ahead : Lookahead) (v : Value) (k : List Frame) (st : State) (r c : ℕ) → Has ahead k v st → infix_of (next_lexeme ahead) ≡ Some (suc r, c) → step st (next_token ahead) ≡ operated (setting_of ahead.setting) (if is_boolean (suc r) && nat_lt 21 (level_bound_of k) then target_in v else None) r c (next_place ahead) (tree_in (left_of v)) k
operator_here ahead v k st r c (sh, w, is) n =
    let s = setting_of ahead.setting in
    let p = next_place ahead in
    let e = tree_in (left_of v) in
    ap (λ st. step st (next_token ahead)) is
    ∙ stepped ahead v k sh w
    ∙ infix_after s sh k p (next_lexeme ahead) e (suc r, c) n
    ∙ ap (λ t. operated s (if is_boolean (suc r) && nat_lt 21 (level_bound_of k) then t else None) r c p e k) w.target_is

-- AND or OR, behind what `=` may assign
pub boolean_here : (ahead : Lookahead) (v : Value) (k : List Frame) (st : State) (r c : ℕ) → Has ahead k v st → infix_of (next_lexeme ahead) ≡ Some (suc r, c) → r < 10 → IsTrue (is_value (setting_of ahead.setting)) → (is_boolean (suc r) && nat_lt 21 (level_bound_of k)) ≡ true → step st (next_token ahead) ≡ Some (state (setting_of ahead.setting) fresh (infix_frame r c (next_place ahead) (left_of v) ∷ k))
boolean_here ahead v k st r c h n lt d may =
    let s = setting_of ahead.setting in
    let p = next_place ahead in
    operator_here ahead v k st r c h n
    ∙ ap (λ b. operated s (if b then target_in v else None) r c p (tree_in (left_of v)) k) may
    ∙ by_value v
  where
    low : 21 < level_bound_of k
    low = ltb-true 21 (level_bound_of k) (second_true (is_boolean (suc r)) (nat_lt 21 (level_bound_of k)) may)

    by_value : (v : Value) → operated (setting_of ahead.setting) (target_in v) r c (next_place ahead) (tree_in (left_of v)) k ≡ Some (state (setting_of ahead.setting) fresh (infix_frame r c (next_place ahead) (left_of v) ∷ k))
    by_value (value.Variable x high a) = ap (λ b. Some (if b then state (setting_of ahead.setting) fresh (infix_frame r c (next_place ahead) (left_of (value.Variable x high a)) ∷ k) else becoming (setting_of ahead.setting) c (next_place ahead) (variable_of x) k)) d
    by_value (value.Tree b high) =
        let e = tree_of b.value in
        ap (λ b. if b && nat_lt r 10 then (let x = reduce (2 * suc r) e k in Some (state (setting_of ahead.setting) fresh (infix_frame r c (next_place ahead) (left_tree x.0) ∷ x.1))) else None) d
        ∙ ap (λ b. if b then (let x = reduce (2 * suc r) e k in Some (state (setting_of ahead.setting) fresh (infix_frame r c (next_place ahead) (left_tree x.0) ∷ x.1))) else None) (lt-ltb r 10 lt)
        ∙ ap (λ x. Some (state (setting_of ahead.setting) fresh (infix_frame r c (next_place ahead) (left_tree x.0) ∷ x.1))) (kept (2 * suc r) e k (omega (arith, lt, low)))

-- another one
pub infix_here : (ahead : Lookahead) (v : Value) (k k' : List Frame) (st : State) (r c : ℕ) (e : Tree) → Has ahead k v st → infix_of (next_lexeme ahead) ≡ Some (suc r, c) → r < 10 → IsTrue (is_value (setting_of ahead.setting)) → (is_boolean (suc r) && nat_lt 21 (level_bound_of k)) ≡ false → reduce (2 * suc r) (tree_in (left_of v)) k ≡ (e, k') → step st (next_token ahead) ≡ Some (state (setting_of ahead.setting) fresh (infix_frame r c (next_place ahead) (left_tree e) ∷ k'))
infix_here ahead v k k' st r c e h n lt d may red =
    let s = setting_of ahead.setting in
    let p = next_place ahead in
    let t = tree_in (left_of v) in
    operator_here ahead v k st r c h n
    ∙ ap (λ b. operated s (if b then target_in v else None) r c p t k) may
    ∙ ap (λ b. if b && nat_lt r 10 then (let x = reduce (2 * suc r) t k in Some (state s fresh (infix_frame r c p (left_tree x.0) ∷ x.1))) else None) d
    ∙ ap (λ b. if b then (let x = reduce (2 * suc r) t k in Some (state s fresh (infix_frame r c p (left_tree x.0) ∷ x.1))) else None) (lt-ltb r 10 lt)
    ∙ ap (λ x. Some (state s fresh (infix_frame r c p (left_tree x.0) ∷ x.1))) red

-- AND or OR behind an action's variable
pub becomes_here : (ahead : Lookahead) (v : Value) (k : List Frame) (st : State) (r c : ℕ) (x : Variable) → Has ahead k v st → infix_of (next_lexeme ahead) ≡ Some (suc r, c) → is_value (setting_of ahead.setting) ≡ false → (is_boolean (suc r) && nat_lt 21 (level_bound_of k)) ≡ true → target_in v ≡ Some x → step st (next_token ahead) ≡ Some (becoming (setting_of ahead.setting) c (next_place ahead) x k)
becomes_here ahead v k st r c x h n d may t =
    let s = setting_of ahead.setting in
    let p = next_place ahead in
    let e = tree_in (left_of v) in
    operator_here ahead v k st r c h n
    ∙ ap (λ b. operated s (if b then target_in v else None) r c p e k) may
    ∙ ap (λ t. operated s t r c p e k) t
    ∙ ap (λ b. Some (if b then state s fresh (infix_frame r c p (left_variable x) ∷ k) else becoming s c p x k)) d

pub infix_has_word : (y : Lexeme) (o : ℕ × ℕ) → infix_of y ≡ Some o → IsTrue (is_word y)
infix_has_word (infix_word r c) o h = refl
infix_has_word (sign b c) o h = refl
infix_has_word y o h = absurd cc

pub assign_has_word : (y : Lexeme) (o : Option ℕ) → y ≡ assigns o → IsTrue (is_word y)
assign_has_word y o h = ap is_word h

-- ---- the end of an expression

-- what is told of an operand's state
pub least_here : (ahead : Lookahead) (v : Value) (k : List Frame) (st : State) (high r : ℕ) → Has ahead k v st → high ≡ min 65 (height (tree_in (left_of v))) → ((h : ℕ) → high ≡ min 65 h → r ≡ min 65 (need h k)) → r ≡ min 65 (least st)
least_here ahead v k st high r (sh, w, is) low told =
    told (height (tree_in (left_of v))) low ∙ ap (min 65) (sym (ap least is ∙ whole_least (setting_of ahead.setting) sh k (tree_in (left_of v)) w.tree_is))

-- with the frames that are ended
reduced_ends : (y : Lexeme) (e e' : Tree) (k k' : List Frame) → reduce 22 e k ≡ (e', k') → ended_by y e k ≡ ended_in y e' k'
reduced_ends (mark m) e e' k k' r = ap (λ x. fill_hole m x.0 x.1) r
reduced_ends y e e' k k' r = refl

pub end_here : (ahead : Lookahead) (v : Value) (k k' : List Frame) (st : State) (e : Tree) → Has ahead k v st → EndsHere v k ahead → reduce 22 (tree_in (left_of v)) k ≡ (e, k') → step st (next_token ahead) ≡ ended_in (next_lexeme ahead) e k'
end_here ahead v k k' st e (sh, w, is) ends r =
    ap (λ st. step st (next_token ahead)) is ∙ ends sh w ∙ reduced_ends (next_lexeme ahead) (tree_in (left_of v)) e k k' r

pub nothing_ends : (y : Lexeme) (e : Tree) → ended_in y e [] ≡ None
nothing_ends (mark m) e = refl
nothing_ends y e = refl

-- whether it is whole
abbrev pub StandsAlone : Lookahead → Value → Type 0
StandsAlone ahead v = IsTrue (is_value (setting_of ahead.setting)) ⊎ ((target_in v ≡ None) ⊎ (is_alone v ≡ true))

-- what stands alone as an action
pub action_variable : (x : Value) (v : Target) (h : ℕ) (a : Bool) → x ≡ value.Variable v h a → IsTrue a ↔ ((target_in x ≡ None) ⊎ (is_alone x ≡ true))
action_variable x v h a e = subst (λ x. IsTrue a ↔ ((target_in x ≡ None) ⊎ (is_alone x ≡ true))) (sym e) (λ t. inr t, alone)
  where
    alone : (Some (variable_of v) ≡ None) ⊎ (a ≡ true) → IsTrue a
    alone (inl n) = absurd cc
    alone (inr t) = t

pub action_tree : (x : Value) (b : Box Expr Global) (h : ℕ) → x ≡ value.Tree b h → IsTrue true ↔ ((target_in x ≡ None) ⊎ (is_alone x ≡ true))
action_tree x b h e = subst (λ x. IsTrue true ↔ ((target_in x ≡ None) ⊎ (is_alone x ≡ true))) (sym e) (λ t. inl refl, λ s. refl)

pub no_value : {P : Type 0} (d b : Bool) → d ≡ false → (P → IsTrue b) → IsTrue d ⊎ P → IsTrue b
no_value d b f told (inl t) = let e : true ≡ false = sym t ∙ f in absurd cc
no_value d b f told (inr x) = told x

stands_whole : (ahead : Lookahead) (v : Value) (sh : Shape) → Shows v sh ahead → StandsAlone ahead v → whole_in (setting_of ahead.setting) sh ≡ Some (tree_in (left_of v))
stands_whole ahead v sh w (inl d) = whole_value (setting_of ahead.setting) sh (tree_in (left_of v)) w.tree_is d
stands_whole ahead v sh w (inr (inl t)) = go (is_value (setting_of ahead.setting) || is_plain sh) ∙ w.tree_is
  where
    go : (b : Bool) → (if b then tree sh else unless (target sh) (tree sh)) ≡ tree sh
    go true = refl
    go false = ap (λ t. unless t (tree sh)) (w.target_is ∙ t)
stands_whole ahead v sh w (inr (inr a)) = whole_plain (setting_of ahead.setting) sh (tree_in (left_of v)) w.tree_is (w.plain_is ∙ a)

not_whole : (ahead : Lookahead) (v : Value) (sh : Shape) → Shows v sh ahead → ¬ StandsAlone ahead v → whole_in (setting_of ahead.setting) sh ≡ None
not_whole ahead v sh w apart = go (is_value (setting_of ahead.setting)) refl (is_alone v) refl (target_in v) refl
  where
    go : (d : Bool) → is_value (setting_of ahead.setting) ≡ d → (a : Bool) → is_alone v ≡ a → (t : Option Variable) → target_in v ≡ t → whole_in (setting_of ahead.setting) sh ≡ None
    go true d a e t f = absurd (apart (inl d))
    go false d true e t f = absurd (apart (inr (inr e)))
    go false d false e None f = absurd (apart (inr (inl f)))
    go false d false e (Some x) f = no_whole (setting_of ahead.setting) sh x d (w.plain_is ∙ e) (w.target_is ∙ f)

-- an expression, where nothing is begun any more
pub whole_here : (ahead : Lookahead) (v : Value) (k : List Frame) (st : State) (e : Expr) (l n : ℕ) → n ≡ ahead.here.at → Has ahead k v st → EndsHere v k ahead → Fits ahead → reduce 22 (tree_in (left_of v)) k ≡ (tree_of e, []) → StandsAlone ahead v → l ≡ least st → Tells ahead.here.bytes ahead.here.tokens l (ended.Whole e n) (run st (left ahead))
whole_here ahead v k st e l n at (sh, w, is) ends f r alone low =
    let s = setting_of ahead.setting in
    let none = end_here ahead v k [] st (tree_of e) (sh, w, is) ends r ∙ nothing_ends (next_lexeme ahead) (tree_of e) in
    let is_tree = ap accept is ∙ accepts_all s sh k (tree_in (left_of v)) (tree_of e) (stands_whole ahead v sh w alone) r in (
      subst (λ n. n ≤ length ahead.here.tokens) (sym at) f.within,
      stops_at ahead.here.bytes ahead.here.tokens ahead.here.at st none
          ∙ (λ i. outcome (is_tree i) (sym low i) (tokens_from ahead.here.bytes ahead.here.tokens (sym at i))),
    )

-- and none
pub no_expression : (ahead : Lookahead) (v : Value) (k : List Frame) (st : State) → Has ahead k v st → ¬ StandsAlone ahead v → accept st ≡ None
no_expression ahead v k st (sh, w, is) apart = ap accept is ∙ ap (λ o. accepted o k) (not_whole ahead v sh w apart)

pub more_begun : (ahead : Lookahead) (v : Value) (k k' : List Frame) (f : Frame) (st : State) (e : Tree) → Has ahead k v st → reduce 22 (tree_in (left_of v)) k ≡ (e, f ∷ k') → accept st ≡ None
more_begun ahead v k k' f st e (sh, w, is) r = ap accept is ∙ go (whole_in (setting_of ahead.setting) sh) refl
  where
    s : Setting
    s = setting_of ahead.setting

    same : (x : Tree) → whole_in s sh ≡ Some x → x ≡ tree_in (left_of v)
    same x h = by_test (is_value s || is_plain sh) h
      where
        by_test : (b : Bool) → (if b then tree sh else unless (target sh) (tree sh)) ≡ Some x → x ≡ tree_in (left_of v)
        by_test true h = let e : Some x ≡ Some (tree_in (left_of v)) = sym h ∙ w.tree_is in cc
        by_test false h = by_target (target sh) h
          where
            by_target : (t : Option Variable) → unless t (tree sh) ≡ Some x → x ≡ tree_in (left_of v)
            by_target None h = let e : Some x ≡ Some (tree_in (left_of v)) = sym h ∙ w.tree_is in cc
            by_target (Some y) h = absurd cc

    go : (o : Option Tree) → whole_in s sh ≡ o → accept (state s sh k) ≡ None
    go None h = ap (λ o. accepted o k) h
    go (Some x) h = accepts_none s sh k k' f x e h (ap (λ x. reduce 22 x k) (same x h) ∙ r)

-- ---- the form that was begun last

-- what is no form ends with no mark
pub no_form : (y : Lexeme) (e : Tree) (f : Frame) (k : List Frame) → ((s : Setting) (h : Hole) → ¬ (f ≡ inside_frame s h)) → ended_in y e (f ∷ k) ≡ None
no_form (mark m) e (inside_frame s h) k none = absurd (none s h refl)
no_form (mark m) e f k none = refl
no_form y e f k none = refl

-- a form and the word that may end it
pub form_at : (y : Lexeme) (e : Tree) (s : Setting) (h : Hole) (k : List Frame) → ended_in y e (inside_frame s h ∷ k) ≡ entered_all s k (closed_by y h e)
form_at (mark m) e s h k = refl
form_at y e s h k = refl

pub closed_step : (ahead : Lookahead) (st : State) (e e' : Tree) (f : Frame) (s : Setting) (h : Hole) (k : List Frame) →
    step st (next_token ahead) ≡ ended_in (next_lexeme ahead) e (f ∷ k) → f ≡ inside_frame s h → e' ≡ e →
    step st (next_token ahead) ≡ entered_all s k (closed_by (next_lexeme ahead) h e')
closed_step ahead st e e' f s h k steps is same =
    steps ∙ (λ i. ended_in (next_lexeme ahead) (sym same i) (is i ∷ k)) ∙ form_at (next_lexeme ahead) e' s h k

pub closed_word : (y y' : Lexeme) (h : Hole) (e : Tree) (n : Next) → y ≡ y' → closed_by y' h e ≡ Some n → IsTrue (is_word y)
closed_word y (mark m) h e n same c = ap is_word same
closed_word y y' h e n same c = absurd cc
