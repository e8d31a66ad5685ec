-- The code of statements, by what it holds: that no path holds more, and that one holds as much.
use Rattle.std.proofs.Common.{◌≡◌, refl, sym, subst, arith, ℕ, ◌+◌, ◌-◌, ◌^◌, ◌<◌, ◌≤◌, max, Bool, true, false, if◌then◌else◌, inr, List, [], ◌∷◌, ◌++◌, Option, Some, None}
use Rattle.std.specs.Prelude.{All}
use Rattle.std.proofs.lemmas.List.Elements.{All-nil, All-cons, All-append}
use Rattle.p8_tree.specs.declared.places.Place.{Place}
use Rattle.p8_tree.specs.Expressions.{Tree, Items, no_items, ◌▸◌, single, range}
use Rattle.p8_tree.specs.Statements.{statement, Action, Statements, ◌▹◌, Arms, no_arms, ◌⊳◌, arm}
use Rattle.p8_tree.specs.Proper.{IfThere, IsProperExpression, IsCondition}
use Rattle.p8_tree.specs.declared.faults.Fault.{Fault}
use Rattle.p8_bytecode.specs.Reading.{bare}
use Rattle.p8_bytecode.specs.Table.{rows}
use Rattle.p8_kinds.specs.Environments.{Environment, kind_in}
use Rattle.p8_kinds.specs.Misuses.{MisuseInOption, MisuseInItems}
use Rattle.p8_gen.specs.Names.{Names}
use Rattle.p8_gen.specs.Pieces.{Written, from_place, Piece, nothing, ◌⨾◌, byte, jump}
use Rattle.p8_gen.specs.Expressions.{value}
use Rattle.p8_gen.specs.Statements.{Loop, SameLoop, goes_on, leaves, with_value, test_of, zero_jump, code, code_of, body, chain}
use Rattle.p8_gen.specs.Depths.{held, held_if, held_by_test}
use Rattle.p8_gen.proofs.Widths.{Alike, body-alike, chain-alike, test-alike}
use Rattle.p8_gen.proofs.Widths as widths
use Rattle.p8_depth.specs.Stack.{Stack, holds, column, Jumps, Goes, Ends}
use Rattle.p8_depth.specs.Stack as stack
use Rattle.p8_depth.specs.Entries.{leap, behind_arms, entries, entries_inside, entries_of_arms}
use Rattle.p8_depth.proofs.Along as along
use Rattle.p8_depth.proofs.Along.{Whole, left_by}
use Rattle.p8_depth.proofs.Places.{split, place-is, from-real, to-real, last-entry}
use Rattle.p8_depth.proofs.Values.{some-held, value-flows}

-- jump, or go on
abbrev pub behind : Names → Bool → (end : ℕ) → Piece
behind n t end = if t then jump n.wide n.statement 0x04 end else nothing

module _ (m : Whole) (h : Names) (env : Environment) where
  abbrev pub F : Option (ℕ × ℕ) → Piece → (i j k : ℕ) → Type 0
  F out a i j k = along.Flows m out a i j k

  abbrev pub H : Written → Type 0
  H w = along.Here m w

  -- a path of so many bytecodes from a place with so many longs is safe
  abbrev pub S : (d p b : ℕ) → Type 0
  S d p b = along.Safe m d p (holds b [])

  abbrev pub E : (d p b : ℕ) → Type 0
  E d p b = along.Earlier m d p (holds b [])

  abbrev pub C : (p b : ℕ) → Type 0
  C p b = along.Come m p (holds b [])

  -- paths come to each line of code
  abbrev pub V : Written → Type 0
  V w = along.Covered m w

  abbrev pub R : ℕ → Type 0
  R k = along.Reached m k

  abbrev pub IsSafe : ℕ → ℕ × ℕ → Type 0
  IsSafe d x = S d x.0 x.1

  abbrev pub IsCome : ℕ × ℕ → Type 0
  IsCome x = C x.0 x.1

  abbrev pub AllSafe : ℕ → List (ℕ × ℕ) → Type 0
  AllSafe d xs = All (IsSafe d) xs

  abbrev pub AllCome : List (ℕ × ℕ) → Type 0
  AllCome xs = All IsCome xs

  -- the innermost loop: where its NEXT and QUIT lead paths are safe
  pub record IsAround (l : Loop) (d b : ℕ) : Type 0 where
    pub next_low : l.next < 2 ^ 32
    pub next : E d l.next b
    pub quit_low : l.quit < 2 ^ 32
    pub quit : E d l.quit (b - left_by l.counted)
    pub some : left_by l.counted ≤ b

  abbrev pub Around : Option Loop → (d b : ℕ) → Type 0
  Around None d b = Unit {0}
  Around (Some l) d b = IsAround l d b

  -- a count lies below what a counted loop's body holds
  abbrev pub Kept : Option Loop → (b : ℕ) → Type 0
  Kept None b = Unit {0}
  Kept (Some l) b = left_by l.counted ≤ b

  -- what is known of names in every statement
  pub record Known (n : Names) : Type 0 where
    pub same : (name : List ℕ) → n.kind name ≡ kind_in env name
    pub held : (name : List ℕ) → n.kind name ≡ h.kind name

  pub at : {n : Names} (q : Place) → Known n → Known (record n { statement = q })
  at q known = record { same = known.same; held = known.held }

  -- Statements begin and end with so many longs, with the entries in them. They hold at most so many more, and some path holds as many.
  pub record Sits (l : Option Loop) (a : Piece) (b k : ℕ) (xs : (place jumps : ℕ) → List (ℕ × ℕ)) : Type 0 where
    pub here : (w : Written) → H (a w) → H w
    pub safe : (w : Written) → H (a w) → (d : ℕ) → b + k ≤ m.most → Around l d b → S d (a w).end b → S d w.end b × AllSafe d (xs w.end w.jumps)
    pub reach : (w : Written) → H (a w) → AllCome (xs w.end w.jumps) → C w.end b → R (b + k)
    pub covers : (w : Written) → H (a w) → Kept l b → AllCome (xs w.end w.jumps) → C w.end b → V w → V (a w)

  pub s-up : (d p b : ℕ) → S d p b → S d p (b + 0)
  s-up d p b = along.safe-at m d p b (b + 0) [] (omega arith)

  pub s-down : (d p b : ℕ) → S d p (b + 0) → S d p b
  s-down d p b = along.safe-at m d p (b + 0) b [] (omega arith)

  pub c-up : (p b : ℕ) → C p b → C p (b + 0)
  c-up p b = along.come-at m p b (b + 0) [] (omega arith)

  pub c-down : (p b : ℕ) → C p (b + 0) → C p b
  c-down p b = along.come-at m p (b + 0) b [] (omega arith)

  pub reached-less : (k x : ℕ) → k ≤ x → R x → R k
  reached-less k x le r = (r.0, r.1, r.2, omega (arith, le, r.3))

  pub reached-here : (p b : ℕ) → C p b → R (b + 0)
  reached-here p b c = (p, holds b [], c, omega arith)

  pub none-safe : (d : ℕ) → AllSafe d []
  none-safe d = All-nil (IsSafe d)

  pub one-safe : (d p b : ℕ) → S d p b → AllSafe d ((p, b) ∷ [])
  one-safe d p b s = All-cons (IsSafe d) (p, b) [] s (none-safe d)

  -- ---- single bytecodes

  pub goes-jump : along.IsJump m 0x04 Goes
  unfolding rows stack.rows
  goes-jump = record { operands = refl; column = λ wide off. refl; low = refl }

  pub begin-jump : along.IsJump m 0x08 (Jumps 1 1 0)
  unfolding rows stack.rows
  begin-jump = record { operands = refl; column = λ wide off. refl; low = refl }

  pub end-jump : along.IsJump m 0x09 (Jumps 1 0 1)
  unfolding rows stack.rows
  end-jump = record { operands = refl; column = λ wide off. refl; low = refl }

  pub zero-is : (t : Bool) → along.IsJump m (zero_jump t) (Jumps 1 0 0)
  unfolding rows stack.rows
  zero-is true = record { operands = refl; column = λ wide off. refl; low = refl }
  zero-is false = record { operands = refl; column = λ wide off. refl; low = refl }

  pub value-jump : along.IsJump m 0x0D (Jumps 2 1 1)
  unfolding rows stack.rows
  value-jump = record { operands = refl; column = λ wide off. refl; low = refl }

  pub range-jump : along.IsJump m 0x0E (Jumps 3 1 1)
  unfolding rows stack.rows
  range-jump = record { operands = refl; column = λ wide off. refl; low = refl }

  pub drop-case : F None (byte 0x0C) 1 0 1
  unfolding stack.rows
  drop-case = along.works m (bare 0x0C) 1 0 refl

  drop-count : (t : Bool) → F None (if t then byte 0x14 else nothing) (left_by t) 0 (left_by t)
  unfolding stack.rows
  drop-count true = along.works m (bare 0x14) 1 0 refl
  drop-count false = along.nothings m 0

  pub leap-here : (n : Names) (to : ℕ) (w : Written) → H (jump n.wide n.statement 0x04 to w) → H w
  leap-here n to w hh = (along.jump-behind m n.wide n.statement 0x04 to goes-jump w hh).before

  pub leap-safe : (n : Names) (to : ℕ) (w : Written) → H (jump n.wide n.statement 0x04 to w) → to < 2 ^ 32 → (d b : ℕ) → b ≤ m.most → E d to b → S d w.end b
  leap-safe n to w hh low d b fits back = along.always-back m n.wide n.statement 0x04 to goes-jump w hh low d (holds b []) fits back

  pub leap-covers : (n : Names) (to : ℕ) (w : Written) (b : ℕ) → C w.end b → V w → V (jump n.wide n.statement 0x04 to w)
  leap-covers n to w b c met = along.jump-covers m n.wide n.statement 0x04 to goes-jump w (holds b []) c met

  pub behind-here : (n : Names) (t : Bool) (end : ℕ) (w : Written) → H (behind n t end w) → H w
  behind-here n true end w hh = leap-here n end w hh
  behind-here n false end w hh = hh

  pub behind-safe : (n : Names) (t : Bool) (end : ℕ) (w : Written) → H (behind n t end w) → end < 2 ^ 32 → (d b : ℕ) → b ≤ m.most → S d end b → S d (behind n t end w).end b → S d w.end b
  behind-safe n true end w hh low d b fits s last = leap-safe n end w hh low d b fits (along.earlier m d end (holds b []) s)
  behind-safe n false end w hh low d b fits s last = last

  pub behind-covers : (n : Names) (t : Bool) (end : ℕ) (w : Written) (b : ℕ) → C w.end b → V w → V (behind n t end w)
  behind-covers n true end w b c met = leap-covers n end w b c met
  behind-covers n false end w b c met = met

  pub byte-covers : (code : ℕ) (w : Written) (b : ℕ) → C w.end b → V w → V (byte code w)
  byte-covers code w b c met = along.covered-by m (along.one-appends m (bare code)) w (holds b []) c met

  ends-here : (code : ℕ) (w : Written) → H (byte code w) → H w
  ends-here code w hh = (along.behind-by m (along.one-appends m (bare code)) w hh).before

  pub ends-safe : (code t : ℕ) → column (bare code) ≡ Ends t → (w : Written) → H (byte code w) → (d b : ℕ) → b + t ≤ m.most → S d w.end (b + t)
  ends-safe code t is w hh d b fits =
      along.safe-step m d w.end (holds (b + t) []) (bare code) (byte code w).end (Ends t) (along.behind-by m (along.one-appends m (bare code)) w hh).reads is fits (let enough : 0 + t ≤ b + t = omega arith in enough)
      (All-nil (λ (x : ℕ × Stack). along.Safe m d x.0 x.1))

  -- ---- statements without others in them

  pub flow-sits : {l : Option Loop} {a : Piece} {k : ℕ} (b : ℕ) → F None a 0 0 k → Sits l a b k (λ place jumps. [])
  flow-sits {l} {a} {k} b f = record {
    here = f.here;
    safe = λ w hh d fits around s. (s-down d w.end b (f.safe w hh d b [] (omega arith) fits tt (s-up d (a w).end b s)), none-safe d);
    reach = λ w hh all c. f.comes w hh b [] (c-up w.end b c);
    covers = λ w hh kept all c met. f.covers w hh b [] (c-up w.end b c) met;
  }

  pub none-sits : {l : Option Loop} (b : ℕ) → Sits l nothing b 0 (λ place jumps. [])
  none-sits b = flow-sits b (along.nothings m 0)

  pub next-sits : (n : Names) (l : Option Loop) (b : ℕ) → Sits l (goes_on n l) b 0 (λ place jumps. [])
  next-sits n None b = none-sits b
  next-sits n (Some l) b = record {
    here = leap-here n l.next;
    safe = λ w hh d fits around s. (leap-safe n l.next w hh around.next_low d b (omega (arith, fits)) around.next, none-safe d);
    reach = λ w hh all c. reached-here w.end b c;
    covers = λ w hh kept all c met. leap-covers n l.next w b c met;
  }

  pub quit-sits : (n : Names) (l : Option Loop) (b : ℕ) → Sits l (leaves n l) b 0 (λ place jumps. [])
  quit-sits n None b = none-sits b
  quit-sits n (Some l) b = record {
    here = λ w hh. (drop-count l.counted).here w (leap-here n l.quit ((if l.counted then byte 0x14 else nothing) w) hh);
    safe = λ w hh d fits around s. (dropped w hh d fits around, none-safe d);
    reach = λ w hh all c. reached-here w.end b c;
    covers = λ w hh kept all c met.
        let v = (if l.counted then byte 0x14 else nothing) w in
        let below = b - left_by l.counted in
        let come = along.come-at m w.end b (below + left_by l.counted) [] (omega (arith, kept)) c in
        let before = leap-here n l.quit v hh in
        leap-covers n l.quit v below (c-down v.end below ((drop-count l.counted).goes w before below [] come)) ((drop-count l.counted).covers w before below [] come met);
  }
    where
      dropped : (w : Written) → H (leaves n (Some l) w) → (d : ℕ) → b + 0 ≤ m.most → IsAround l d b → S d w.end b
      dropped w hh d fits around =
          let v = (if l.counted then byte 0x14 else nothing) w in
          let c = b - left_by l.counted in
          let some = around.some in
          let low : c ≤ m.most = omega (arith, fits) in
          let all : c + left_by l.counted ≡ b = omega (arith, some) in
          let most : c + left_by l.counted ≤ m.most = omega (arith, fits, all) in
          along.safe-at m d w.end (c + left_by l.counted) b [] all
          ((drop-count l.counted).safe w (leap-here n l.quit v hh) d c [] (omega arith) most tt (s-up d v.end c (leap-safe n l.quit v hh around.quit_low d c low around.quit)))

  pub expression : (n : Names) → Known n → (e : Tree) → IsProperExpression false e → ((f : Fault) → ¬ MisuseInOption env (Some e) f) → F None (value n e) 0 1 (held h e)
  expression n known e proper clean = value-flows m n h env known.same known.held e proper.0 clean

  pub left-sits : {l : Option Loop} (n : Names) → Known n → (e : Option Tree) (a c b : ℕ) → column (bare a) ≡ Ends 0 → column (bare c) ≡ Ends 1 → IfThere (IsProperExpression false) e → ((f : Fault) → ¬ MisuseInOption env e f)
      → Sits l (with_value n e a c) b (held_if h e) (λ place jumps. [])
  left-sits n known None a c b alone behind proper clean = record {
    here = ends-here a;
    safe = λ w hh d fits around s. (s-down d w.end b (ends-safe a 0 alone w hh d b fits), none-safe d);
    reach = λ w hh all c. reached-here w.end b c;
    covers = λ w hh kept all c met. byte-covers a w b c met;
  }
  left-sits n known (Some e) a c b alone behind proper clean =
      let f = expression n known e proper clean in
      let some = some-held h e in
      record {
        here = λ w hh. f.here w (ends-here c (value n e w) hh);
        safe = λ w hh d fits around s.
            (s-down d w.end b (f.safe w (ends-here c (value n e w) hh) d b [] (omega arith) fits tt (ends-safe c 1 behind (value n e w) hh d b (omega (arith, fits, some)))), none-safe d);
        reach = λ w hh all come. f.comes w (ends-here c (value n e w) hh) b [] (c-up w.end b come);
        covers = λ w hh kept all come met.
            let before = ends-here c (value n e w) hh in
            byte-covers c (value n e w) (b + 1) (f.goes w before b [] (c-up w.end b come)) (f.covers w before b [] (c-up w.end b come) met);
      }

  -- ---- one statement behind others

  module _ (n : Names) (l k : Option Loop) (like : SameLoop l k) (b : ℕ) where
    abbrev pub same_body : (ss : Statements) → Alike (body n l ss) (body n k ss)
    same_body ss = body-alike n n.text n.statement l k like ss

    pub followed : (ss : Statements) (q : Place) (action : Action) {x y : ℕ} → Sits l (body n l ss) b x (entries n k ss b) → Sits l (code_of (record n { statement = q }) l action) b y (entries_inside (record n { statement = q }) k action b)
        → Sits l (body n l (ss ▹ statement q action)) b (max x y) (entries n k (ss ▹ statement q action) b)
    followed ss q action {x} {y} f g = record {
      here = λ w hh. f.here w (before w hh);
      safe = λ w hh d fits around s.
          let second = g.safe (record (body n l ss w) { statement = q }) (inner w hh) d (omega (arith, fits)) around s in
          let first = f.safe w (before w hh) d (omega (arith, fits)) around second.0 in (
            first.0,
            All-append (IsSafe d) (entries n k ss b w.end w.jumps ++ inside w) (last w ∷ [])
                (All-append (IsSafe d) (entries n k ss b w.end w.jumps) (inside w) first.1 (from-real (same_body ss) w (λ p j. AllSafe d (entries_inside (record n { statement = q }) k action b p j)) second.1))
                (one-safe d (last w).0 b (subst (λ p. S d p b) (sym (place-is (same_body (ss ▹ statement q action)) w)) s)),
          );
      reach = λ w hh all c.
          let parts = split IsCome (entries n k ss b w.end w.jumps) (inside w) (split IsCome (entries n k ss b w.end w.jumps ++ inside w) (last w ∷ []) all).0 in
          along.reached-most m b x y (f.reach w (before w hh) parts.0 c)
          (g.reach (record (body n l ss w) { statement = q }) (inner w hh) (to-real (same_body ss) w (λ p j. AllCome (entries_inside (record n { statement = q }) k action b p j)) parts.1)
          (subst (λ p. C p b) (place-is (same_body ss) w) (last-entry IsCome n k b ss w.end w.jumps parts.0)));
      covers = λ w hh kept all c met.
          let parts = split IsCome (entries n k ss b w.end w.jumps) (inside w) (split IsCome (entries n k ss b w.end w.jumps ++ inside w) (last w ∷ []) all).0 in
          g.covers (record (body n l ss w) { statement = q }) (inner w hh) kept (to-real (same_body ss) w (λ p j. AllCome (entries_inside (record n { statement = q }) k action b p j)) parts.1)
          (subst (λ p. C p b) (place-is (same_body ss) w) (last-entry IsCome n k b ss w.end w.jumps parts.0)) (f.covers w (before w hh) kept parts.0 c met);
    }
      where
        inside : Written → List (ℕ × ℕ)
        inside w = let v = body n k ss (from_place w.end w.jumps) in entries_inside (record n { statement = q }) k action b v.end v.jumps

        last : Written → ℕ × ℕ
        last w = ((code n k (statement q action) (body n k ss (from_place w.end w.jumps))).end, b)

        inner : (w : Written) → H (body n l (ss ▹ statement q action) w) → H (code_of (record n { statement = q }) l action (record (body n l ss w) { statement = q }))
        inner w hh = record { rest = hh.rest; whole = hh.whole; ends = hh.ends }

        before : (w : Written) → H (body n l (ss ▹ statement q action) w) → H (body n l ss w)
        before w hh = let v = g.here (record (body n l ss w) { statement = q }) (inner w hh) in record { rest = v.rest; whole = v.whole; ends = v.ends }

  -- ---- arms of IF

  -- a test, with a jump where it fails
  pub record Tests (n : Names) (items : Items) (negated : Bool) (y : ℕ) : Type 0 where
    pub flows : (next : ℕ) → F (Some (next, 0)) (test_of n items ⨾ jump n.wide n.statement (zero_jump negated) next) 0 0 y
    pub fails : (next : ℕ) (w : Written) → H ((test_of n items ⨾ jump n.wide n.statement (zero_jump negated) next) w) → next < 2 ^ 32 → (b : ℕ) → C w.end b → C next b

  pub condition : (n : Names) → Known n → (items : Items) (negated : Bool) → IsCondition items → ((f : Fault) → ¬ MisuseInItems env items f) → Tests n items negated (held_by_test h items)
  condition n known (no_items ▸ single e) negated proper clean =
      let f = expression n known e proper (λ f x. clean f (inr x)) in
      let some = some-held h e in
      record {
        flows = λ next. along.told-as m (along.both m (along.above m 0 f refl refl refl) (along.jumps m n.wide n.statement _ next 1 0 0 (zero-is negated))) (omega (arith, some));
        fails = λ next w hh low b c.
            let before = (along.jump-behind m n.wide n.statement _ next (zero-is negated) (value n e w) hh).before in
            c-down next b (along.jumped m n.wide n.statement _ next 1 0 0 (zero-is negated) (value n e w) hh low b [] (f.goes w before b [] (c-up w.end b c)));
      }
  condition n known no_items negated proper clean = absurd proper
  condition n known (no_items ▸ range a b) negated proper clean = absurd proper
  condition n known (xs ▸ y ▸ x) negated proper clean = absurd proper

  -- arms with so many longs at each of their begins and ends
  pub record Chains (n : Names) (l k : Option Loop) (b : ℕ) (arms : Arms) (x : ℕ) : Type 0 where
    pub here : (t : Bool) (end : ℕ) (w : Written) → H (chain n l (jump n.wide n.statement 0x04 end) (behind n t end) arms w) → H w
    pub safe : (t : Bool) (end : ℕ) (w : Written) → H (chain n l (jump n.wide n.statement 0x04 end) (behind n t end) arms w) → end < 2 ^ 32 → (d : ℕ) → b + x ≤ m.most → Around l d b → S d end b
        → S d (chain n l (jump n.wide n.statement 0x04 end) (behind n t end) arms w).end b → S d w.end b × AllSafe d (entries_of_arms n k arms b w.end w.jumps)
    pub goes : (t : Bool) (end : ℕ) (w : Written) → H (chain n l (jump n.wide n.statement 0x04 end) (behind n t end) arms w) → C w.end b → C (chain n l (jump n.wide n.statement 0x04 end) (behind n t end) arms w).end b
    pub reach : (t : Bool) (end : ℕ) (w : Written) → H (chain n l (jump n.wide n.statement 0x04 end) (behind n t end) arms w) → AllCome (entries_of_arms n k arms b w.end w.jumps) → C w.end b → R (b + x)
    pub covers : (t : Bool) (end : ℕ) (w : Written) → H (chain n l (jump n.wide n.statement 0x04 end) (behind n t end) arms w) → Kept l b → AllCome (entries_of_arms n k arms b w.end w.jumps) → C w.end b → V w
        → V (chain n l (jump n.wide n.statement 0x04 end) (behind n t end) arms w)

  module _ (n : Names) (l k : Option Loop) (like : SameLoop l k) (b : ℕ) where
    pub no-chain : Chains n l k b no_arms 0
    no-chain = record { here = λ t end w hh. hh; safe = λ t end w hh low d fits around s last. (last, none-safe d); goes = λ t end w hh c. c; reach = λ t end w hh all c. reached-here w.end b c; covers = λ t end w hh kept all c met. met }

    pub same_chain : (end : ℕ) (arms : Arms) → Alike (chain n l (jump n.wide n.statement 0x04 end) (jump n.wide n.statement 0x04 end) arms) (behind_arms n k arms)
    same_chain end arms = chain-alike n n.text n.statement l k like _ _ _ _ (widths.jumps n.wide n.statement n.statement 0x04 end 0) (widths.jumps n.wide n.statement n.statement 0x04 end 0) arms

    module _ (arms : Arms) (items : Items) (negated : Bool) (ss : Statements) {x y z : ℕ} (f : Chains n l k b arms x) (g : Sits l (body n l ss) b z (entries n k ss b)) (tested : Tests n items negated y) where
      -- the arm behind others
      module _ (t : Bool) (end : ℕ) (w : Written) (hh : H (chain n l (jump n.wide n.statement 0x04 end) (behind n t end) (arms ⊳ arm items negated ss) w)) where
        abbrev v : Written
        v = chain n l (jump n.wide n.statement 0x04 end) (jump n.wide n.statement 0x04 end) arms w

        abbrev whole : ℕ → Piece
        whole next = test_of n items ⨾ jump n.wide n.statement (zero_jump negated) next ⨾ body n l ss ⨾ behind n t end

        abbrev next : ℕ
        next = (whole 0 v).end

        abbrev inner : Written
        inner = (test_of n items ⨾ jump n.wide n.statement (zero_jump negated) next) v

        same_behind : (t : Bool) → Alike (behind n t end) (behind n t end)
        same_behind true = widths.jumps n.wide n.statement n.statement 0x04 end end
        same_behind false = widths.nothings

        end-is : (whole next v).end ≡ next
        end-is =
            along.same-end m whole v
            (λ x y. widths.both (widths.both (widths.both (test-alike n n.text n.statement items) (widths.jumps n.wide n.statement n.statement (zero_jump negated) x y)) (body-alike n n.text n.statement l l (same_loop l) ss)) (same_behind t))
          where
            same_loop : (l : Option Loop) → SameLoop l l
            same_loop None = tt
            same_loop (Some l) = refl

        near : next < 2 ^ 32
        near = subst (λ p. p < 2 ^ 32) end-is (along.low m (whole next v) hh)

        in-body : H (body n l ss inner)
        in-body = behind-here n t end (body n l ss inner) hh

        at-inner : H inner
        at-inner = g.here inner in-body

        at-v : H v
        at-v = (tested.flows next).here v at-inner

        same_inner : Alike (chain n l (jump n.wide n.statement 0x04 end) (jump n.wide n.statement 0x04 end) arms ⨾ test_of n items ⨾ jump n.wide n.statement (zero_jump negated) next) (behind_arms n k arms ⨾ test_of n items ⨾ leap n (zero_jump negated))
        same_inner = widths.both (widths.both (same_chain end arms) (test-alike n n.text n.statement items)) (widths.jumps n.wide n.statement n.statement (zero_jump negated) next 0)

        arm-safe : end < 2 ^ 32 → (d : ℕ) → b + max x (max y z) ≤ m.most → Around l d b → S d end b → S d (whole next v).end b → S d w.end b × AllSafe d (entries_of_arms n k (arms ⊳ arm items negated ss) b w.end w.jumps)
        arm-safe low d fits around s last =
            let inside = g.safe inner in-body d (omega (arith, fits)) around (behind-safe n t end (body n l ss inner) hh low d b (omega (arith, fits)) s last) in
            let before = s-down d v.end b ((tested.flows next).safe v at-inner d b [] (omega arith) (omega (arith, fits)) (near, s-up d next b (subst (λ p. S d p b) end-is last)) (s-up d inner.end b inside.0)) in
            let first = f.safe true end w at-v low d (omega (arith, fits)) around s before in
            (first.0, All-append (IsSafe d) _ _ first.1 (from-real same_inner w (λ p j. AllSafe d (entries n k ss b p j)) inside.1))

        arm-goes : C w.end b → C (whole next v).end b
        arm-goes c = subst (λ p. C p b) (sym end-is) (tested.fails next v at-inner near b (f.goes true end w at-v c))

        arm-reach : AllCome (entries_of_arms n k (arms ⊳ arm items negated ss) b w.end w.jumps) → C w.end b → R (b + max x (max y z))
        arm-reach all c =
            let parts = split IsCome (entries_of_arms n k arms b w.end w.jumps) _ all in
            let come = c-up v.end b (f.goes true end w at-v c) in
            along.reached-most m b x (max y z) (f.reach true end w at-v parts.0 c)
            (along.reached-most m b y z ((tested.flows next).comes v at-inner b [] come)
            (g.reach inner in-body (to-real same_inner w (λ p j. AllCome (entries n k ss b p j)) parts.1) (c-down inner.end b ((tested.flows next).goes v at-inner b [] come))))

        arm-covers : Kept l b → AllCome (entries_of_arms n k (arms ⊳ arm items negated ss) b w.end w.jumps) → C w.end b → V w → V (whole next v)
        arm-covers kept all c met =
            let parts = split IsCome (entries_of_arms n k arms b w.end w.jumps) _ all in
            let come = c-up v.end b (f.goes true end w at-v c) in
            let entered = to-real same_inner w (λ p j. AllCome (entries n k ss b p j)) parts.1 in
            behind-covers n t end (body n l ss inner) b (subst (λ p. C p b) (place-is (body-alike n n.text n.statement l k like ss) inner) (last-entry IsCome n k b ss inner.end inner.jumps entered))
            (g.covers inner in-body kept entered (c-down inner.end b ((tested.flows next).goes v at-inner b [] come)) ((tested.flows next).covers v at-inner b [] come (f.covers true end w at-v kept parts.0 c met)))

      pub one-arm : Chains n l k b (arms ⊳ arm items negated ss) (max x (max y z))
      one-arm = record { here = λ t end w hh. f.here true end w (at-v t end w hh); safe = λ t end w hh low d fits around s last. arm-safe t end w hh low d fits around s last; goes = arm-goes; reach = arm-reach; covers = arm-covers }
