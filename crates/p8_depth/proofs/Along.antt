-- Pieces of code, by what lies on the stack along them.
use Rattle.std.proofs.Common.{◌≡◌, refl, sym, ap, ◌∙◌, subst, arith, ℕ, zero, suc, ◌+◌, ◌-◌, ◌%◌, ◌^◌, ◌<◌, ◌≤◌, max, Bool, true, false, if◌then◌else◌, nat_lt, List, [], ◌∷◌, ◌++◌, length, drop, append_assoc, append-nil, length-append, Option, Some, None, inl, inr}
use Rattle.std.specs.Prelude.{flat_map, All, Contains, option_map}
use Rattle.std.proofs.lemmas.Bool.{cases_lt}
use Rattle.std.proofs.lemmas.Grind.{flat_map-append}
use Rattle.std.proofs.lemmas.List.Elements.{All-nil, All-cons, All-head, All-push, All-drop}
use Rattle.std.proofs.Math.Seq.{drop-append_seam}
use Rattle.p8_tree.specs.declared.places.Place.{Place}
use Rattle.p8_bytecode.specs.declared.op.Op.{Op}
use Rattle.p8_bytecode.specs.declared.operands.Operands.TheVariants.{Offset}
use Rattle.p8_bytecode.specs.Reading.{bare, op_in, op_at}
use Rattle.p8_bytecode.specs.Spelling.{spelled, operand_bytes, has_long_place, IsOp}
use Rattle.p8_bytecode.specs.Table.{operands_of}
use Rattle.p8_bytecode.proofs.ReadBack.{read-back}
use Rattle.p8_gen.specs.Pieces.{Written, Piece, nothing, one, ◌⨾◌, up_to_end, text, offset, jump, jump_size, end_of_jump}
use Rattle.p8_gen.proofs.Widths.{Alike}
use Rattle.p8_depth.specs.Stack.{Column, Opens, Calls, Works, Jumps, Goes, column, Mark, Stack, holds, onward, below_all, IsEnough}
use Rattle.p8_depth.specs.Paths.{target, onward_by, onward_from, Comes, IsEnoughFor}

-- the code of a method, a bound for what is held along its paths, and where these begin
pub record Whole : Type 0 where
  pub ops : List Op
  pub are : All IsOp ops
  pub few : length (flat_map spelled ops) < 2 ^ 32
  pub most : ℕ
  pub starts : List (ℕ × ℕ)

-- ---- sums

pub around : (b i d : ℕ) → b + d + i ≡ b + (d + i)
around b i d = omega arith

pub same-holds : {x y : ℕ} (ms : List Mark) → x ≡ y → holds x ms ≡ holds y ms
same-holds ms is = ap (λ x. holds x ms) is

one-longer : (xs : List Op) (op : Op) (ys : List Op) → ys ≡ xs ++ op ∷ [] → length (flat_map spelled ys) ≡ length (flat_map spelled xs) + length (spelled op)
one-longer xs op ys is =
    let apart : flat_map spelled ys ≡ flat_map spelled xs ++ (spelled op ++ []) = ap (flat_map spelled) is ∙ flat_map-append spelled xs (op ∷ []) in
    let same : flat_map spelled ys ≡ flat_map spelled xs ++ spelled op = apart ∙ ap (λ bytes. flat_map spelled xs ++ bytes) (append-nil (spelled op)) in
    ap length same ∙ length-append (flat_map spelled xs) (spelled op)

-- the mark that a call opens above so many longs, and what the call leaves
abbrev pub mark_at : (used : Bool) (b : ℕ) → Mark
mark_at used b = record { below = b + 0; used = used }

abbrev pub left_by : (used : Bool) → ℕ
left_by used = if used then 1 else 0

module _ (m : Whole) where
  abbrev pub bytes : List ℕ
  bytes = flat_map spelled m.ops

  -- the method has this code, with more behind it
  pub record Here (w : Written) : Type 0 where
    pub rest : List Op
    pub whole : m.ops ≡ w.ops ++ rest
    pub ends : w.end ≡ length (flat_map spelled w.ops)

  bytes-split : (xs ys : List Op) → m.ops ≡ xs ++ ys → bytes ≡ flat_map spelled xs ++ flat_map spelled ys
  bytes-split xs ys is = ap (flat_map spelled) is ∙ flat_map-append spelled xs ys

  pub low : (w : Written) → Here w → w.end < 2 ^ 32
  low w h =
      let long : length bytes ≡ length (flat_map spelled w.ops) + length (flat_map spelled h.rest) = ap length (bytes-split w.ops h.rest h.whole) ∙ length-append (flat_map spelled w.ops) (flat_map spelled h.rest) in
      omega (arith, long, h.ends, m.few)

  -- a bytecode of the method, and the code before it
  pub record Behind (w : Written) (op : Op) (q : ℕ) : Type 0 where
    pub before : Here w
    pub reads : op_at bytes w.end ≡ Some (op, q)

  pub behind : (w v : Written) (op : Op) → v.ops ≡ w.ops ++ op ∷ [] → v.end ≡ w.end + length (spelled op) → Here v → Behind w op v.end
  behind w v op is end h =
      let long = one-longer w.ops op v.ops is in
      let ends : w.end ≡ length (flat_map spelled w.ops) = omega (arith, long, end, h.ends) in
      let whole : m.ops ≡ w.ops ++ op ∷ h.rest = h.whole ∙ ap (λ xs. xs ++ h.rest) is ∙ append_assoc w.ops (op ∷ []) h.rest in
      let there : drop (length w.ops) m.ops ≡ op ∷ h.rest = ap (drop (length w.ops)) whole ∙ drop-append_seam w.ops (op ∷ h.rest) in
      let is_op : IsOp op = All-head IsOp op h.rest (subst (All IsOp) there (All-drop IsOp (length w.ops) m.ops m.are)) in
      let read : drop w.end bytes ≡ spelled op ++ flat_map spelled h.rest =
      ap (λ n. drop n bytes) ends ∙ ap (drop (length (flat_map spelled w.ops))) (bytes-split w.ops (op ∷ h.rest) whole) ∙ drop-append_seam (flat_map spelled w.ops) (spelled op ++ flat_map spelled h.rest) in
      record {
        before = record { rest = op ∷ h.rest; whole = whole; ends = ends };
        reads = ap (option_map (λ (read : Op × ℕ). (read.0, w.end + read.1))) (ap op_in read ∙ read-back op is_op (flat_map spelled h.rest)) ∙ ap (λ n. Some (op, n)) (sym end);
      }

  -- ---- what is safe, and what is reached

  -- a path of so many bytecodes from here holds at most so much, and has all that it takes
  abbrev pub Safe : ℕ → ℕ → Stack → Type 0
  Safe zero p s = s.longs ≤ m.most
  Safe (suc n) p s = (s.longs ≤ m.most) × IsEnoughFor (op_at bytes p) s × All (λ (x : ℕ × Stack). Safe n x.0 x.1) (onward_from bytes p s)

  pub within : (n p : ℕ) (s : Stack) → Safe n p s → s.longs ≤ m.most
  within zero p s h = h
  within (suc n) p s h = h.0

  pub less : (n p : ℕ) (s : Stack) → Safe (suc n) p s → Safe n p s
  less zero p s h = h.0
  less (suc n) p s h = (h.0, h.1, λ k d lt. less n _ _ (h.2 k d lt))

  pub safe-at : (n p : ℕ) (x y : ℕ) (ms : List Mark) → x ≡ y → Safe n p (holds x ms) → Safe n p (holds y ms)
  safe-at n p x y ms is = subst (λ x. Safe n p (holds x ms)) is

  pub safe-step : (n p : ℕ) (s : Stack) (op : Op) (q : ℕ) (c : Column) → op_at bytes p ≡ Some (op, q) → column op ≡ c → s.longs ≤ m.most → IsEnough c s
      → All (λ (x : ℕ × Stack). Safe n x.0 x.1) (onward c q (target op q) s) → Safe n p s
  safe-step zero p s op q c reads is bound enough all = bound
  safe-step (suc n) p s op q c reads is bound enough all = (
    bound,
    subst (λ o. IsEnoughFor o s) (sym reads) (subst (λ c. IsEnough c s) (sym is) enough),
    subst (λ o. All (λ (x : ℕ × Stack). Safe n x.0 x.1) (onward_by o s)) (sym reads)
        (subst (λ c. All (λ (x : ℕ × Stack). Safe n x.0 x.1) (onward c q (target op q) s)) (sym is) (λ k d lt. less n _ _ (all k d lt))),
  )

  -- what is known of a place to which a bytecode leads back: that a path of fewer bytecodes is safe
  abbrev pub Earlier : ℕ → ℕ → Stack → Type 0
  Earlier zero p s = Unit {0}
  Earlier (suc n) p s = Safe n p s

  pub earlier : (n p : ℕ) (s : Stack) → Safe n p s → Earlier n p s
  earlier zero p s h = tt
  earlier (suc n) p s h = less n p s h

  pub earlier-at : (n p : ℕ) (x y : ℕ) (ms : List Mark) → x ≡ y → Earlier n p (holds x ms) → Earlier n p (holds y ms)
  earlier-at n p x y ms is = subst (λ x. Earlier n p (holds x ms)) is

  -- a jump that depends on a value, which may lead back
  pub jump-back : (n p : ℕ) (b t l j : ℕ) (ms : List Mark) (op : Op) (q to : ℕ) → op_at bytes p ≡ Some (op, q) → column op ≡ Jumps t l j → target op q ≡ to → b + max t l ≤ m.most → below_all ms ≤ b
      → Earlier n to (holds (b + j) ms) → Safe n q (holds (b + l) ms) → Safe n p (holds (b + t) ms)
  jump-back zero p b t l j ms op q to reads is leads fits low back ahead = omega (arith, fits)
  jump-back (suc n) p b t l j ms op q to reads is leads fits low back ahead = (
    omega (arith, fits),
    subst (λ o. IsEnoughFor o (holds (b + t) ms)) (sym reads) (subst (λ c. IsEnough c (holds (b + t) ms)) (sym is) (let enough : below_all ms + t ≤ b + t = omega (arith, low) in enough)),
    subst (λ o. All (λ (x : ℕ × Stack). Safe n x.0 x.1) (onward_by o (holds (b + t) ms))) (sym reads) (subst (λ c. All (λ (x : ℕ × Stack). Safe n x.0 x.1) (onward c q (target op q) (holds (b + t) ms))) (sym is)
        (All-cons (λ (x : ℕ × Stack). Safe n x.0 x.1) (q, holds (b + t - t + l) ms) ((target op q, holds (b + t - t + j) ms) ∷ [])
        (less n q _ (safe-at (suc n) q (b + l) (b + t - t + l) ms (omega arith) ahead))
        (All-cons (λ (x : ℕ × Stack). Safe n x.0 x.1) (target op q, holds (b + t - t + j) ms) [] (subst (λ p. Safe n p (holds (b + t - t + j) ms)) (sym leads) (safe-at n to (b + j) (b + t - t + j) ms (omega arith) back)) (All-nil (λ (x : ℕ × Stack). Safe n x.0 x.1))))),
  )

  -- a jump that is always taken, which may lead back
  pub goes-back : (n p : ℕ) (s : Stack) (op : Op) (q to : ℕ) → op_at bytes p ≡ Some (op, q) → column op ≡ Goes → target op q ≡ to → s.longs ≤ m.most → Earlier n to s → Safe n p s
  goes-back zero p s op q to reads is leads fits back = fits
  goes-back (suc n) p s op q to reads is leads fits back = (
    fits,
    subst (λ o. IsEnoughFor o s) (sym reads) (subst (λ c. IsEnough c s) (sym is) tt),
    subst (λ o. All (λ (x : ℕ × Stack). Safe n x.0 x.1) (onward_by o s)) (sym reads) (subst (λ c. All (λ (x : ℕ × Stack). Safe n x.0 x.1) (onward c q (target op q) s)) (sym is)
        (All-cons (λ (x : ℕ × Stack). Safe n x.0 x.1) (target op q, s) [] (subst (λ p. Safe n p s) (sym leads) back) (All-nil (λ (x : ℕ × Stack). Safe n x.0 x.1)))),
  )

  abbrev pub Come : ℕ → Stack → Type 0
  Come p s = Comes bytes m.starts p s

  -- a path that holds so much
  abbrev pub Reached : ℕ → Type 0
  Reached k = (p : ℕ) × (s : Stack) × Come p s × (k ≤ s.longs)

  pub reached-most : (b k x : ℕ) → Reached (b + k) → Reached (b + x) → Reached (b + max k x)
  reached-most b k x r s = elim (cases_lt k x) [
    | inl lt ↦ (s.0, s.1, s.2, omega (arith, s.3, lt))
    | inr le ↦ (r.0, r.1, r.2, omega (arith, r.3, le))
  ]

  pub reached-same : {k x : ℕ} → k ≡ x → Reached k → Reached x
  reached-same is = subst Reached is

  pub come-at : (p : ℕ) (x y : ℕ) (ms : List Mark) → x ≡ y → Come p (holds x ms) → Come p (holds y ms)
  come-at p x y ms is = subst (λ x. Come p (holds x ms)) is

  pub come-step : (p : ℕ) (s : Stack) (op : Op) (q : ℕ) (c : Column) (next : ℕ) (t : Stack) → op_at bytes p ≡ Some (op, q) → column op ≡ c → Contains (onward c q (target op q) s) (next, t) → Come p s → Come next t
  come-step p s op q c next t reads is leads come =
      Comes.goes_on come (subst (λ o. Contains (onward_by o s) (next, t)) (sym reads) (subst (λ c. Contains (onward c q (target op q) s) (next, t)) (sym is) leads))

  first-one : {X : Type 0} (x : X) (xs : List X) → Contains (x ∷ xs) x
  first-one x xs = (0, omega arith, refl)

  second-one : {X : Type 0} (x y : X) (xs : List X) → Contains (x ∷ y ∷ xs) y
  second-one x y xs = (1, omega arith, refl)

  -- a path comes to this line of code, and to each line of code so far
  abbrev pub IsMet : ℕ × Place → Type 0
  IsMet x = (s : Stack) × Come x.0 s

  abbrev pub Covered : Written → Type 0
  Covered w = All IsMet w.lines

  -- ---- pieces

  -- what a piece may jump to: a place, and how many longs lie there above the base
  abbrev pub Leads : Option (ℕ × ℕ) → (n b : ℕ) → List Mark → Type 0
  Leads None n b ms = Unit {0}
  Leads (Some out) n b ms = (out.0 < 2 ^ 32) × Safe n out.0 (holds (b + out.1) ms)

  -- A piece goes from so many longs above any base to so many, holds at most so many on the way, and comes to as many.
  pub record Flows (out : Option (ℕ × ℕ)) (a : Piece) (i j k : ℕ) : Type 0 where
    pub here : (w : Written) → Here (a w) → Here w
    pub high : j ≤ k
    pub safe : (w : Written) → Here (a w) → (n b : ℕ) (ms : List Mark) → below_all ms ≤ b → b + k ≤ m.most → Leads out n b ms → Safe n (a w).end (holds (b + j) ms) → Safe n w.end (holds (b + i) ms)
    pub goes : (w : Written) → Here (a w) → (b : ℕ) (ms : List Mark) → Come w.end (holds (b + i) ms) → Come (a w).end (holds (b + j) ms)
    pub comes : (w : Written) → Here (a w) → (b : ℕ) (ms : List Mark) → Come w.end (holds (b + i) ms) → Reached (b + k)
    pub covers : (w : Written) → Here (a w) → (b : ℕ) (ms : List Mark) → Come w.end (holds (b + i) ms) → Covered w → Covered (a w)

  pub nothings : {out : Option (ℕ × ℕ)} (i : ℕ) → Flows out nothing i i i
  nothings i = record { here = λ w h. h; high = omega arith; safe = λ w h n b ms low fits leads s. s; goes = λ w h b ms c. c; comes = λ w h b ms c. (w.end, holds (b + i) ms, c, omega arith); covers = λ w h b ms c all. all }

  pub both : {out : Option (ℕ × ℕ)} {a c : Piece} {i j l k x : ℕ} → Flows out a i j k → Flows out c j l x → Flows out (a ⨾ c) i l (max k x)
  both {out} {a} {c} {i} {j} {l} {k} {x} f g = record {
    here = λ w h. f.here w (g.here (a w) h);
    high = let last : l ≤ x = g.high in omega (arith, last);
    safe = λ w h n b ms low fits leads s. f.safe w (g.here (a w) h) n b ms low (omega (arith, fits)) leads (g.safe (a w) h n b ms low (omega (arith, fits)) leads s);
    goes = λ w h b ms come. g.goes (a w) h b ms (f.goes w (g.here (a w) h) b ms come);
    comes = λ w h b ms come. reached-most b k x (f.comes w (g.here (a w) h) b ms come) (g.comes (a w) h b ms (f.goes w (g.here (a w) h) b ms come));
    covers = λ w h b ms come all. g.covers (a w) h b ms (f.goes w (g.here (a w) h) b ms come) (f.covers w (g.here (a w) h) b ms come all);
  }

  -- the same piece above some longs more
  pub above : {out : Option (ℕ × ℕ)} {a : Piece} {i j k : ℕ} (d : ℕ) {x y z : ℕ} → Flows None a i j k → d + i ≡ x → d + j ≡ y → d + k ≡ z → Flows out a x y z
  above {out} {a} {i} {j} {k} d {x} {y} {z} f is js ks = record {
    here = f.here;
    high = let last : j ≤ k = f.high in omega (arith, last, js, ks);
    safe = λ w h n b ms low fits leads s.
        safe-at n w.end (b + d + i) (b + x) ms (omega (arith, is)) (f.safe w h n (b + d) ms (omega (arith, low)) (omega (arith, fits, ks)) tt (safe-at n (a w).end (b + y) (b + d + j) ms (omega (arith, js)) s));
    goes = λ w h b ms come. come-at (a w).end (b + d + j) (b + y) ms (omega (arith, js)) (f.goes w h (b + d) ms (come-at w.end (b + x) (b + d + i) ms (omega (arith, is)) come));
    comes = λ w h b ms come. reached-same (let same : b + d + k ≡ b + z = omega (arith, ks) in same) (f.comes w h (b + d) ms (come-at w.end (b + x) (b + d + i) ms (omega (arith, is)) come));
    covers = λ w h b ms come all. f.covers w h (b + d) ms (come-at w.end (b + x) (b + d + i) ms (omega (arith, is)) come) all;
  }

  -- the same number, told otherwise
  pub told-as : {out : Option (ℕ × ℕ)} {a : Piece} {i j k z : ℕ} → Flows out a i j k → k ≡ z → Flows out a i j z
  told-as {out} {a} {i} {j} f is = subst (Flows out a i j) is f

  pub either : {out : Option (ℕ × ℕ)} {a c : Piece} {i j k : ℕ} (t : Bool) → Flows out a i j k → Flows out c i j k → Flows out (if t then a else c) i j k
  either true f g = f
  either false f g = g

  pub either-by : {out : Option (ℕ × ℕ)} {a c : Piece} {i j k : ℕ} (t : Bool) → (t ≡ true → Flows out a i j k) → (t ≡ false → Flows out c i j k) → Flows out (if t then a else c) i j k
  either-by true f g = f refl
  either-by false f g = g refl

  -- ---- bytecodes

  -- a piece that appends a bytecode
  pub record Appends (a : Piece) (op : Written → Op) : Type 0 where
    pub ops : (w : Written) → (a w).ops ≡ w.ops ++ op w ∷ []
    pub end : (w : Written) → (a w).end ≡ w.end + length (spelled (op w))
    pub lines : (w : Written) → (a w).lines ≡ w.lines ++ (w.end, w.statement) ∷ []

  pub covered-by : {a : Piece} {op : Written → Op} → Appends a op → (w : Written) (s : Stack) → Come w.end s → Covered w → Covered (a w)
  covered-by {a} {op} is w s come all = subst (All IsMet) (sym (is.lines w)) (All-push IsMet w.lines (w.end, w.statement) all (s, come))

  pub behind-by : {a : Piece} {op : Written → Op} → Appends a op → (w : Written) → Here (a w) → Behind w (op w) (a w).end
  behind-by {a} {op} is w h = behind w (a w) (op w) (is.ops w) (is.end w) h

  pub works-by : {out : Option (ℕ × ℕ)} {a : Piece} {op : Written → Op} (t l : ℕ) → Appends a op → ((w : Written) → column (op w) ≡ Works t l) → Flows out a t l (max t l)
  works-by {out} {a} {op} t l is does = record {
    here = λ w h. (behind-by is w h).before;
    high = omega arith;
    safe = λ w h n b ms low fits leads s.
        safe-step n w.end (holds (b + t) ms) (op w) (a w).end (Works t l) (behind-by is w h).reads (does w) (omega (arith, fits)) (omega (arith, low))
        (All-cons (λ (x : ℕ × Stack). Safe n x.0 x.1) _ [] (safe-at n (a w).end (b + l) (b + t - t + l) ms (omega arith) s) (All-nil (λ (x : ℕ × Stack). Safe n x.0 x.1)));
    goes = λ w h b ms come. goes w h b ms come;
    comes = λ w h b ms come.
        reached-most b t l (w.end, holds (b + t) ms, come, omega arith) ((a w).end, holds (b + l) ms, goes w h b ms come, omega arith);
    covers = λ w h b ms come all. covered-by is w (holds (b + t) ms) come all;
  }
    where
      goes : (w : Written) → Here (a w) → (b : ℕ) (ms : List Mark) → Come w.end (holds (b + t) ms) → Come (a w).end (holds (b + l) ms)
      goes w h b ms come =
          come-at (a w).end (b + t - t + l) (b + l) ms (omega arith)
          (come-step w.end (holds (b + t) ms) (op w) (a w).end (Works t l) (a w).end _ (behind-by is w h).reads (does w) (first-one _ []) come)

  pub one-appends : (op : Op) → Appends (one op) (λ w. op)
  one-appends op = record { ops = λ w. refl; end = λ w. refl; lines = λ w. refl }

  pub works : {out : Option (ℕ × ℕ)} (op : Op) (t l : ℕ) → column op ≡ Works t l → Flows out (one op) t l (max t l)
  works op t l is = works-by t l (one-appends op) (λ w. is)

  -- a call: its mark, what is pushed behind that, and the call
  pub calls : {out : Option (ℕ × ℕ)} {a : Piece} {c k : ℕ} (opening op : Op) (used : Bool) → column opening ≡ Opens used → column op ≡ Calls → Flows None a 0 c k → Flows out (one opening ⨾ a ⨾ one op) 0 (if used then 1 else 0) (max k (if used then 1 else 0))
  calls {out} {a} {c} {k} opening op used opens is f = record {
    here = λ w h. (first w h).before;
    high = omega arith;
    safe = λ w h n b ms low fits leads s.
        let last = behind-by (one-appends op) (a (one opening w)) h in
        let high : c ≤ k = f.high in
        let called : Safe n (a (one opening w)).end (holds (b + c) (mark_at used b ∷ ms)) =
        safe-step n (a (one opening w)).end (holds (b + c) (mark_at used b ∷ ms)) op _ Calls last.reads is (omega (arith, fits, high)) tt
        (All-cons (λ (x : ℕ × Stack). Safe n x.0 x.1) _ [] (safe-at n _ (b + left_by used) (b + 0 + left_by used) ms (omega arith) s) (All-nil (λ (x : ℕ × Stack). Safe n x.0 x.1))) in
        safe-step n w.end (holds (b + 0) ms) opening _ (Opens used) (first w h).reads opens (omega (arith, fits)) tt
        (All-cons (λ (x : ℕ × Stack). Safe n x.0 x.1) _ [] (f.safe (one opening w) last.before n b (mark_at used b ∷ ms) (omega arith) (omega (arith, fits)) tt called) (All-nil (λ (x : ℕ × Stack). Safe n x.0 x.1)));
    goes = λ w h b ms come. goes w h b ms come;
    comes = λ w h b ms come.
        reached-most b k (left_by used) (f.comes (one opening w) (behind-by (one-appends op) (a (one opening w)) h).before b (mark_at used b ∷ ms) (opened w h b ms come))
        (_, holds (b + left_by used) ms, goes w h b ms come, omega arith);
    covers = λ w h b ms come all.
        let last = behind-by (one-appends op) (a (one opening w)) h in
        let begun = opened w h b ms come in
        covered-by (one-appends op) (a (one opening w)) (holds (b + c) (mark_at used b ∷ ms)) (f.goes (one opening w) last.before b (mark_at used b ∷ ms) begun)
        (f.covers (one opening w) last.before b (mark_at used b ∷ ms) begun (covered-by (one-appends opening) w (holds (b + 0) ms) come all));
  }
    where
      first : (w : Written) → Here (one op (a (one opening w))) → Behind w opening (one opening w).end
      first w h = behind-by (one-appends opening) w (f.here (one opening w) (behind-by (one-appends op) (a (one opening w)) h).before)

      opened : (w : Written) → Here (one op (a (one opening w))) → (b : ℕ) (ms : List Mark) → Come w.end (holds (b + 0) ms) → Come (one opening w).end (holds (b + 0) (mark_at used b ∷ ms))
      opened w h b ms come = come-step w.end (holds (b + 0) ms) opening _ (Opens used) _ _ (first w h).reads opens (first-one _ []) come

      goes : (w : Written) → Here (one op (a (one opening w))) → (b : ℕ) (ms : List Mark) → Come w.end (holds (b + 0) ms) → Come (one op (a (one opening w))).end (holds (b + left_by used) ms)
      goes w h b ms come =
          let last = behind-by (one-appends op) (a (one opening w)) h in
          come-at _ (b + 0 + left_by used) (b + left_by used) ms (omega arith)
          (come-step (a (one opening w)).end (holds (b + c) (mark_at used b ∷ ms)) op _ Calls _ _ last.reads is (first-one _ [])
          (f.goes (one opening w) last.before b (mark_at used b ∷ ms) (opened w h b ms come)))

  pub texts : {out : Option (ℕ × ℕ)} (s : Place) (number : ℕ) → column (record (bare 0x87) { first = number }) ≡ Works 0 1 → Flows out (text s number) 0 1 1
  texts s number is = works-by {op = λ w. record (bare 0x87) { first = number }} 0 1 (record { ops = λ w. refl; end = λ w. refl; lines = λ w. refl }) (λ w. is)

  -- ---- jumps

  abbrev pub jump_op : (code : ℕ) (wide : Bool) (off : ℕ) → Op
  jump_op code wide off = record (bare code) { first = off; long_form = wide }

  jump-size : (code : ℕ) (wide : Bool) (off : ℕ) → operands_of code ≡ Some Offset → jump_size wide ≡ length (spelled (jump_op code wide off))
  jump-size code true off is = ap (λ found. suc (length (operand_bytes found (has_long_place (jump_op code true off)) (jump_op code true off)))) (sym is)
  jump-size code false off is = ap (λ found. suc (length (operand_bytes found (has_long_place (jump_op code false off)) (jump_op code false off)))) (sym is)

  -- what is known of the code of a bytecode that jumps
  pub record IsJump (code : ℕ) (c : Column) : Type 0 where
    pub operands : operands_of code ≡ Some Offset
    pub column : (wide : Bool) (off : ℕ) → column (jump_op code wide off) ≡ c
    pub low : nat_lt code 0x40 ≡ true

  pub jump-appends : (wide : ℕ → Bool) (s : Place) (code to : ℕ) → operands_of code ≡ Some Offset → Appends (jump wide s code to) (λ w. jump_op code (wide w.jumps) (offset (end_of_jump wide w) to))
  jump-appends wide s code to is = record { ops = λ w. refl; end = λ w. ap (λ k. w.end + k) (jump-size code (wide w.jumps) (offset (end_of_jump wide w) to) is); lines = λ w. refl }

  leads-to : (from to : ℕ) → from < 2 ^ 32 → to < 2 ^ 32 → (from + offset from to) % 2 ^ 32 ≡ to
  leads-to from to a b = omega (arith, a, b)

  pub jump-target : (wide : ℕ → Bool) (s : Place) (code to : ℕ) {c : Column} → IsJump code c → (w : Written) → Here (jump wide s code to w) → to < 2 ^ 32 →
      target (jump_op code (wide w.jumps) (offset (end_of_jump wide w) to)) (end_of_jump wide w) ≡ to
  jump-target wide s code to is w h near =
      ap (λ (b : Bool). (end_of_jump wide w + (if b then offset (end_of_jump wide w) to else 0)) % 2 ^ 32) is.low
      ∙ leads-to (end_of_jump wide w) to (low (jump wide s code to w) h) near

  -- a jump that depends on a value
  pub jumps : (wide : ℕ → Bool) (s : Place) (code to t l j : ℕ) → IsJump code (Jumps t l j) → Flows (Some (to, j)) (jump wide s code to) t l (max t l)
  jumps wide s code to t l j is = record {
    here = λ w h. (at w h).before;
    high = omega arith;
    safe = λ w h n b ms low fits leads ahead.
        jump-back n w.end b t l j ms (op w) (end_of_jump wide w) to (at w h).reads (is.column (wide w.jumps) (offset (end_of_jump wide w) to)) (jump-target wide s code to is w h leads.0) fits low
        (earlier n to (holds (b + j) ms) leads.1) ahead;
    goes = λ w h b ms come. goes w h b ms come;
    comes = λ w h b ms come.
        reached-most b t l (w.end, holds (b + t) ms, come, omega arith) (end_of_jump wide w, holds (b + l) ms, goes w h b ms come, omega arith);
    covers = λ w h b ms come all. covered-by (jump-appends wide s code to is.operands) w (holds (b + t) ms) come all;
  }
    where
      op : Written → Op
      op w = jump_op code (wide w.jumps) (offset (end_of_jump wide w) to)

      at : (w : Written) → Here (jump wide s code to w) → Behind w (op w) (end_of_jump wide w)
      at w h = behind-by (jump-appends wide s code to is.operands) w h

      goes : (w : Written) → Here (jump wide s code to w) → (b : ℕ) (ms : List Mark) → Come w.end (holds (b + t) ms) → Come (end_of_jump wide w) (holds (b + l) ms)
      goes w h b ms come =
          come-at (end_of_jump wide w) (b + t - t + l) (b + l) ms (omega arith)
          (come-step w.end (holds (b + t) ms) (op w) (end_of_jump wide w) (Jumps t l j) (end_of_jump wide w) (holds (b + t - t + l) ms) (at w h).reads (is.column (wide w.jumps) (offset (end_of_jump wide w) to))
          (first-one (end_of_jump wide w, holds (b + t - t + l) ms) ((target (op w) (end_of_jump wide w), holds (b + t - t + j) ms) ∷ [])) come)

  -- and that it is taken
  pub jumped : (wide : ℕ → Bool) (s : Place) (code to t l j : ℕ) → IsJump code (Jumps t l j) → (w : Written) → Here (jump wide s code to w) → to < 2 ^ 32 → (b : ℕ) (ms : List Mark) → Come w.end (holds (b + t) ms) → Come to (holds (b + j) ms)
  jumped wide s code to t l j is w h near b ms come =
      come-at to (b + t - t + j) (b + j) ms (omega arith)
      (subst (λ p. Come p (holds (b + t - t + j) ms)) (jump-target wide s code to is w h near)
      (come-step w.end (holds (b + t) ms) _ (end_of_jump wide w) (Jumps t l j) _ _ (behind-by (jump-appends wide s code to is.operands) w h).reads (is.column (wide w.jumps) (offset (end_of_jump wide w) to)) (second-one _ _ []) come))

  -- the same for a piece that leads back
  pub jump-behind : (wide : ℕ → Bool) (s : Place) (code to : ℕ) {c : Column} → IsJump code c → (w : Written) → Here (jump wide s code to w) → Behind w (jump_op code (wide w.jumps) (offset (end_of_jump wide w) to)) (end_of_jump wide w)
  jump-behind wide s code to is w h = behind-by (jump-appends wide s code to is.operands) w h

  pub jump-covers : (wide : ℕ → Bool) (s : Place) (code to : ℕ) {c : Column} → IsJump code c → (w : Written) (t : Stack) → Come w.end t → Covered w → Covered (jump wide s code to w)
  jump-covers wide s code to is w t come all = covered-by (jump-appends wide s code to is.operands) w t come all

  pub jumps-back : (wide : ℕ → Bool) (s : Place) (code to t l j : ℕ) → IsJump code (Jumps t l j) → (w : Written) → Here (jump wide s code to w) → to < 2 ^ 32 → (n b : ℕ) (ms : List Mark) → b + max t l ≤ m.most → below_all ms ≤ b
      → Earlier n to (holds (b + j) ms) → Safe n (jump wide s code to w).end (holds (b + l) ms) → Safe n w.end (holds (b + t) ms)
  jumps-back wide s code to t l j is w h near n b ms fits low back ahead =
      jump-back n w.end b t l j ms (jump_op code (wide w.jumps) (offset (end_of_jump wide w) to)) (end_of_jump wide w) to (jump-behind wide s code to is w h).reads (is.column (wide w.jumps) (offset (end_of_jump wide w) to))
      (jump-target wide s code to is w h near) fits low back ahead

  pub always-back : (wide : ℕ → Bool) (s : Place) (code to : ℕ) → IsJump code Goes → (w : Written) → Here (jump wide s code to w) → to < 2 ^ 32 → (n : ℕ) (t : Stack) → t.longs ≤ m.most → Earlier n to t → Safe n w.end t
  always-back wide s code to is w h near n t fits back =
      goes-back n w.end t (jump_op code (wide w.jumps) (offset (end_of_jump wide w) to)) (end_of_jump wide w) to (jump-behind wide s code to is w h).reads (is.column (wide w.jumps) (offset (end_of_jump wide w) to))
      (jump-target wide s code to is w h near) fits back

  -- ---- a piece that is told where it ends

  pub same-end : (piece : ℕ → Piece) (w : Written) → ((x y : ℕ) → Alike (piece x) (piece y)) → (piece (piece 0 w).end w).end ≡ (piece 0 w).end
  same-end piece w same = let ends = (same (piece 0 w).end 0).ends w w refl in omega (arith, ends)

  pub ups : {piece : ℕ → Piece} {i j k : ℕ} → ((x y : ℕ) → Alike (piece x) (piece y)) → ((end : ℕ) → Flows (Some (end, j)) (piece end) i j k) → Flows None (up_to_end piece) i j k
  ups {piece} {i} {j} {k} same each = record {
    here = λ w. (each (piece 0 w).end).here w;
    high = (each 0).high;
    safe = λ w h n b ms below fits leads s.
        let is = same-end piece w same in
        (each (piece 0 w).end).safe w h n b ms below fits
        (subst (λ x. x < 2 ^ 32) is (low (piece (piece 0 w).end w) h), subst (λ p. Safe n p (holds (b + j) ms)) is s) s;
    goes = λ w h b ms come. (each (piece 0 w).end).goes w h b ms come;
    comes = λ w h b ms come. (each (piece 0 w).end).comes w h b ms come;
    covers = λ w h b ms come all. (each (piece 0 w).end).covers w h b ms come all;
  }
