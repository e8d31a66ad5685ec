-- The code of loops, by what it holds. What is safe at the begin of a pass for paths of fewer bytecodes makes it safe for those of one more.
use Rattle.std.proofs.Common.{◌≡◌, refl, sym, ap, ◌∙◌, subst, arith, ℕ, zero, suc, ◌+◌, ◌-◌, ◌%◌, ◌^◌, ◌<◌, ◌≤◌, max, Bool, true, false, not, if◌then◌else◌, nat_lt, inl, inr, List, [], length, length-append, Option, Some, None}
use Rattle.std.proofs.lemmas.List.Elements.{All-push}
use Rattle.p8_tree.specs.declared.places.Place.{Place}
use Rattle.p8_tree.specs.Expressions.{Tree}
use Rattle.p8_tree.specs.Statements.{Course, Forever, Count, Before, After, From, Repeat, Statements}
use Rattle.p8_tree.specs.Proper.{IfThere, IsProperExpression, IsProperCourse}
use Rattle.p8_tree.specs.declared.faults.Fault.{Fault}
use Rattle.std.proofs.lemmas.Bool.Decides.{nat_tests}
use Rattle.p8_bytecode.specs.declared.op.Op.{Op}
use Rattle.p8_bytecode.specs.declared.operands.Operands.{Operands}
use Rattle.p8_bytecode.specs.declared.operands.Operands.TheVariants.{Register, ShortVariable, Variable}
use Rattle.p8_bytecode.specs.Reading.{bare, changes_register, changes_variable, has_base}
use Rattle.p8_bytecode.specs.Spelling.{spelled, offset_bytes, effect_bytes, operand_bytes, place_bytes, has_long_place}
use Rattle.p8_bytecode.specs.Table.{operands_of, is_step}
use Rattle.p8_kinds.specs.Environments.{Environment}
use Rattle.p8_kinds.specs.Misuses.{MisuseInOption, MisuseInCourse}
use Rattle.p8_gen.specs.Names.{Names}
use Rattle.p8_gen.specs.Pieces.{Written, Piece, one, ◌⨾◌, from_start, up_to_end, jump, jumping, end_of_jumping, offset}
use Rattle.p8_gen.specs.Variables.{Home, home_of, plain_op, memory_op, short_or_long, short_bits, is_short, Base, Operation, Pop, Using, action_of, effect_of}
use Rattle.p8_gen.specs.Variables as variables
use Rattle.p8_gen.specs.Expressions.{value}
use Rattle.p8_gen.specs.Statements.{Loop, SameLoop, inside, zero_jump, step_of, step_effect, plain_name, code_of, body}
use Rattle.p8_gen.specs.Depths.{held, held_in, held_in_loop, held_by_pass}
use Rattle.p8_gen.proofs.Widths.{Alike, body-alike, value-alike, step-alike}
use Rattle.p8_gen.proofs.Widths as widths
use Rattle.p8_depth.specs.Stack.{holds, column, Jumps}
use Rattle.p8_depth.specs.Paths.{target}
use Rattle.p8_depth.specs.Entries.{entries, entries_inside, leap}
use Rattle.p8_depth.proofs.Along as along
use Rattle.p8_depth.proofs.Along.{Whole, left_by}
use Rattle.p8_depth.proofs.Columns.{with_jump, plain-is, pops}
use Rattle.p8_depth.proofs.Places.{from-real, to-real, last-entry, place-is}
use Rattle.p8_depth.proofs.Values.{some-held, home-based, acts-plain}
use Rattle.p8_depth.proofs.Bodies as bodies
use Rattle.p8_depth.proofs.Bodies.{Known}

-- ---- how long a step is

step-length : (step form : Bool) (old new : ℕ) → length (if step then offset_bytes form old else []) ≡ length (if step then offset_bytes form new else [])
step-length true true old new = refl
step-length true false old new = refl
step-length false form old new = refl

effect-length : (changes form : Bool) (op : Op) (off : ℕ) → length (effect_bytes changes (record op { long_form = form })) ≡ length (effect_bytes changes (with_jump op off form))
effect-length false form op off = refl
effect-length true form op off = ap suc (step-length (is_step op.effect) form op.second off)

operands-length : (found : Option Operands) (long_place form : Bool) (op : Op) (off : ℕ) → length (operand_bytes found long_place (record op { long_form = form })) ≡ length (operand_bytes found long_place (with_jump op off form))
operands-length None long_place form op off = refl
operands-length (Some Register) long_place form op off = ap suc (effect-length (changes_register op.first) form op off)
operands-length (Some ShortVariable) long_place form op off = effect-length (changes_variable op.code) form op off
operands-length (Some Variable) long_place form op off =
    let at : List ℕ = if has_base op.code then place_bytes long_place op.first else [] in
    length-append at (effect_bytes (changes_variable op.code) (record op { long_form = form }))
    ∙ ap (λ k. length at + k) (effect-length (changes_variable op.code) form op off)
    ∙ sym (length-append at (effect_bytes (changes_variable op.code) (with_jump op off form)))
operands-length _ long_place form op off = refl

same-length : (op : Op) (form : Bool) (off : ℕ) → length (spelled (record op { long_form = form })) ≡ length (spelled (with_jump op off form))
same-length op form off = ap suc (operands-length (operands_of op.code) (has_long_place op) form op off)

-- ---- the codes of variables

either-high : (a b : Op) (t : Bool) → 0x40 ≤ a.code → 0x40 ≤ b.code → 0x40 ≤ (if t then a else b).code
either-high a b true x y = x
either-high a b false x y = y

memory-high : (home : Home) (o : Operation) → 0x40 ≤ (memory_op false home o).code
memory-high home o = omega arith

plain-high : (base : Base) (home : Home) (o : Operation) → 0x40 ≤ (short_or_long (short_bits base) home o).code
plain-high variables.Pushed home o = memory-high home o
plain-high variables.OfObject home o = memory-high home o
plain-high variables.OfVariables home o = either-high (record (bare (0x40 + 0 + home.offset + action_of o)) { effect = effect_of o }) (memory_op false home o) (is_short home) (omega arith) (memory-high home o)
plain-high variables.OfFrame home o = either-high (record (bare (0x40 + 0x20 + home.offset + action_of o)) { effect = effect_of o }) (memory_op false home o) (is_short home) (omega arith) (memory-high home o)

not-low : (k : ℕ) → 0x40 ≤ k → nat_lt k 0x40 ≡ false
not-low k h = grind (arith, nat_tests)

leads-to : (from to : ℕ) → from < 2 ^ 32 → to < 2 ^ 32 → (from + offset from to) % 2 ^ 32 ≡ to
leads-to from to a b = omega (arith, a, b)

module _ (m : Whole) (h : Names) (env : Environment) where
  abbrev H : Written → Type 0
  H w = along.Here m w

  abbrev S : (d p b : ℕ) → Type 0
  S d p b = along.Safe m d p (holds b [])

  abbrev E : (d p b : ℕ) → Type 0
  E d p b = along.Earlier m d p (holds b [])

  abbrev C : (p b : ℕ) → Type 0
  C p b = along.Come m p (holds b [])

  abbrev Sits : Option Loop → Piece → (b k : ℕ) → ((place jumps : ℕ) → List (ℕ × ℕ)) → Type 0
  Sits l a b k xs = bodies.Sits m h env l a b k xs

  -- a body, in whatever loop it stands
  abbrev pub AnyBody : Names → Statements → Type 0
  AnyBody n ss = (l k : Option Loop) → SameLoop l k → (b : ℕ) → Sits l (body n l ss) b (held_in h ss) (entries n k ss b)

  repeated : (p b : ℕ) {X : ℕ → Type 0} (end c : ℕ) → ((d : ℕ) → E d p b → S d end c → S d p b × X d) → (d : ℕ) → S d end c → S d p b × X d
  repeated p b end c step zero s = step zero tt s
  repeated p b end c step (suc d) s = step (suc d) (repeated p b end c step d (along.less m d end (holds c []) s)).0 s

  around-is : (next quit : ℕ) (counted : Bool) (d b : ℕ) → next < 2 ^ 32 → E d next b → quit < 2 ^ 32 → (c : ℕ) → c + left_by counted ≡ b → S d quit c → bodies.IsAround m h env (record { next = next; quit = quit; counted = counted }) d b
  around-is next quit counted d b near e low c is s = record {
    next_low = near;
    next = e;
    quit_low = low;
    quit = along.earlier m d quit (holds (b - left_by counted) []) (along.safe-at m d quit c (b - left_by counted) [] (omega (arith, is)) s);
    some = omega (arith, is);
  }

  -- ---- the end of a pass of REPEAT FROM

  abbrev stepping-op : (n : Names) (name : List ℕ) (step : Option Tree) (to : ℕ) → Written → Op
  stepping-op n name step to w = with_jump (plain_name n name (step_effect step)) (offset (end_of_jumping n.wide (plain_name n name (step_effect step)) w) to) (n.wide w.jumps)

  module _ (n : Names) (name : List ℕ) (step : Option Tree) (to : ℕ) (w : Written) (hh : H (jumping n.wide n.statement to (plain_name n name (step_effect step)) w)) where
    abbrev stepping : Op
    stepping = plain_name n name (step_effect step)

    abbrev end : ℕ
    end = end_of_jumping n.wide stepping w

    step-behind : along.Behind m w (with_jump stepping (offset end to) (n.wide w.jumps)) end
    step-behind = along.behind m w (jumping n.wide n.statement to stepping w) (with_jump stepping (offset end to) (n.wide w.jumps)) refl (ap (λ k. w.end + k) (same-length stepping (n.wide w.jumps) (offset end to))) hh

    step-leads : to < 2 ^ 32 → target (with_jump stepping (offset end to) (n.wide w.jumps)) end ≡ to
    step-leads near =
        ap (λ (b : Bool). (end + (if b then stepping.first else offset end to)) % 2 ^ 32) (not-low stepping.code (plain-high (home_of n name).base (home_of n name) (Using (step_effect step))))
        ∙ leads-to end to (along.low m (jumping n.wide n.statement to stepping w) hh) near

  -- so many longs are taken by a step
  abbrev taken_by : Option Tree → ℕ
  taken_by None = 2
  taken_by (Some e) = 3

  step-column : (n : Names) → Known m h env n → (name : List ℕ) (step : Option Tree) (second : ℕ) (long : Bool) → column (with_jump (plain_name n name (step_effect step)) second long) ≡ Jumps (taken_by step) 0 0
  step-column n known name None second long = plain-is (home_of n name) (home-based m n h env known.same known.held name) (Using 0x02) second long
  step-column n known name (Some e) second long = plain-is (home_of n name) (home-based m n h env known.same known.held name) (Using 0x06) second long

  -- what a step takes is pushed before it
  pass-flows : (n : Names) → Known m h env n → (step : Option Tree) (a b : Tree) → IfThere (IsProperExpression false) step → IsProperExpression false a → IsProperExpression false b
      → ((f : Fault) → ¬ MisuseInOption env step f) → ((f : Fault) → ¬ MisuseInOption env (Some a) f) → ((f : Fault) → ¬ MisuseInOption env (Some b) f)
      → along.Flows m None (step_of n step ⨾ value n a ⨾ value n b) 0 (taken_by step) (held_by_pass h step a b)
  pass-flows n known None a b proper_s proper_a proper_b clean_s clean_a clean_b =
      along.told-as m (along.both m (along.both m (along.nothings m 0) (bodies.expression m h env n known a proper_a clean_a)) (along.above m 1 (bodies.expression m h env n known b proper_b clean_b) refl refl refl)) (omega arith)
  pass-flows n known (Some s) a b proper_s proper_a proper_b clean_s clean_a clean_b =
      along.told-as m
      (along.both m (along.both m (bodies.expression m h env n known s proper_s clean_s) (along.above m 1 (bodies.expression m h env n known a proper_a clean_a) refl refl refl))
      (along.above m 2 (bodies.expression m h env n known b proper_b clean_b) refl refl refl))
      (omega arith)

  -- ---- loops

  module _ (n : Names) (known : Known m h env n) (l k : Option Loop) (b : ℕ) (ss : Statements) (g : AnyBody n ss) where
    abbrev G : (inner : Option Loop) (counted : Bool) → SameLoop inner (inside 0 0 counted) → (c : ℕ) → Sits inner (body n inner ss) c (held_in h ss) (entries n (inside 0 0 counted) ss c)
    G inner counted like c = g inner (inside 0 0 counted) like c

    same-inner : (i j x y : ℕ) (counted : Bool) → Alike (body n (inside i j counted) ss) (body n (inside x y counted) ss)
    same-inner i j x y counted = body-alike n n.text n.statement (inside i j counted) (inside x y counted) refl ss

    -- a path comes behind a body
    body-ends : (i j : ℕ) (counted : Bool) (c : ℕ) (w : Written) → bodies.AllCome m h env (entries n (inside 0 0 counted) ss c w.end w.jumps) → C (body n (inside i j counted) ss w).end c
    body-ends i j counted c w all = subst (λ p. C p c) (place-is (same-inner i j 0 0 counted) w) (last-entry (bodies.IsCome m h env) n (inside 0 0 counted) c ss w.end w.jumps all)

    forever : Sits l (code_of n l (Repeat Forever ss)) b (held_in h ss) (entries_inside n k (Repeat Forever ss) b)
    forever = record {
      here = λ w hh. (inner w).here w (before w hh);
      safe = λ w hh d fits around s. repeated w.end b {X = λ d. bodies.AllSafe m h env d (entries n (inside 0 0 false) ss b w.end w.jumps)} (out w).end b (step w hh fits) d s;
      reach = λ w hh all c. (inner w).reach w (before w hh) all c;
      covers = λ w hh kept all c met.
          bodies.leap-covers m h env n w.end (body n (inside w.end (end w) false) ss w) b (body-ends w.end (end w) false b w all) ((inner w).covers w (before w hh) (omega arith) all c met);
    }
      where
        end : Written → ℕ
        end w = (from_start (λ start. body n (inside start 0 false) ss ⨾ jump n.wide n.statement 0x04 start) w).end

        inner : (w : Written) → Sits (inside w.end (end w) false) (body n (inside w.end (end w) false) ss) b (held_in h ss) (entries n (inside 0 0 false) ss b)
        inner w = G (inside w.end (end w) false) false refl b

        out : Written → Written
        out w = code_of n l (Repeat Forever ss) w

        before : (w : Written) → H (out w) → H (body n (inside w.end (end w) false) ss w)
        before w hh = bodies.leap-here m h env n w.end (body n (inside w.end (end w) false) ss w) hh

        end-is : (w : Written) → (out w).end ≡ end w
        end-is w =
            along.same-end m (λ end. from_start (λ start. body n (inside start end false) ss ⨾ jump n.wide n.statement 0x04 start)) w
            (λ x y. widths.froms (λ i j. widths.both (same-inner i x j y false) (widths.jumps n.wide n.statement n.statement 0x04 i j)))

        step : (w : Written) → H (out w) → b + held_in h ss ≤ m.most → (d : ℕ) → E d w.end b → S d (out w).end b → S d w.end b × bodies.AllSafe m h env d (entries n (inside 0 0 false) ss b w.end w.jumps)
        step w hh fits d back s =
            let low : w.end < 2 ^ 32 = along.low m w ((inner w).here w (before w hh)) in
            (inner w).safe w (before w hh) d fits
            (around-is w.end (end w) false d b low back (subst (λ p. p < 2 ^ 32) (end-is w) (along.low m (out w) hh)) b (omega arith) (subst (λ p. S d p b) (end-is w) s))
            (bodies.leap-safe m h env n w.end (body n (inside w.end (end w) false) ss w) hh low d b (omega (arith, fits)) back)

    module _ (e : Tree) (proper : IsProperExpression false e) (clean : (f : Fault) → ¬ MisuseInOption env (Some e) f) where
      abbrev valued : along.Flows m None (value n e) 0 1 (held h e)
      valued = bodies.expression m h env n known e proper clean

      -- REPEAT e
      module _ (w : Written) where
        abbrev counted_end : ℕ
        counted_end =
            ((value n e ⨾ jump n.wide n.statement 0x08 0 ⨾ from_start (λ start. up_to_end (λ next. body n (inside next 0 true) ss) ⨾ jump n.wide n.statement 0x09 start)) w).end

        abbrev counted_begin : Written
        counted_begin = jump n.wide n.statement 0x08 counted_end (value n e w)

        abbrev counted_next : ℕ
        counted_next = (body n (inside 0 counted_end true) ss counted_begin).end

        abbrev counted_body : Written
        counted_body = body n (inside counted_next counted_end true) ss counted_begin

        abbrev counted_out : Written
        counted_out = code_of n l (Repeat (Count e) ss) w

        module _ (hh : H counted_out) where
          counted-end-is : counted_out.end ≡ counted_end
          counted-end-is =
              along.same-end m (λ end. value n e ⨾ jump n.wide n.statement 0x08 end ⨾ from_start (λ start. up_to_end (λ next. body n (inside next end true) ss) ⨾ jump n.wide n.statement 0x09 start)) w
              (λ x y. widths.both (widths.both (value-alike n n.text n.statement e) (widths.jumps n.wide n.statement n.statement 0x08 x y))
              (widths.froms (λ i j. widths.both (widths.ups (λ v w. same-inner v x w y true)) (widths.jumps n.wide n.statement n.statement 0x09 i j))))

          counted-next-is : counted_body.end ≡ counted_next
          counted-next-is = let ends = (same-inner counted_next counted_end 0 counted_end true).ends counted_begin counted_begin refl in omega (arith, ends)

          counted-low : counted_end < 2 ^ 32
          counted-low = subst (λ p. p < 2 ^ 32) counted-end-is (along.low m counted_out hh)

          at-counted-body : H counted_body
          at-counted-body = (along.jump-behind m n.wide n.statement 0x09 counted_begin.end (bodies.end-jump m h env) counted_body hh).before

          abbrev counted-inner : Sits (inside counted_next counted_end true) (body n (inside counted_next counted_end true) ss) (b + 1) (held_in h ss) (entries n (inside 0 0 true) ss (b + 1))
          counted-inner = G (inside counted_next counted_end true) true refl (b + 1)

          at-counted-begin : H counted_begin
          at-counted-begin = counted-inner.here counted_begin at-counted-body

          at-counted-value : H (value n e w)
          at-counted-value = (along.jump-behind m n.wide n.statement 0x08 counted_end (bodies.begin-jump m h env) (value n e w) at-counted-begin).before

          counted-step : b + max (held h e) (1 + held_in h ss) ≤ m.most → (d : ℕ) → E d counted_begin.end (b + 1) → S d counted_out.end b
              → S d counted_begin.end (b + 1) × bodies.AllSafe m h env d (entries n (inside 0 0 true) ss (b + 1) counted_begin.end counted_begin.jumps)
          counted-step fits d back s =
              let low : counted_begin.end < 2 ^ 32 = along.low m counted_begin at-counted-begin in
              let last : S d counted_body.end (b + 1) =
              along.jumps-back m n.wide n.statement 0x09 counted_begin.end 1 0 1 (bodies.end-jump m h env) counted_body hh low d b [] (omega (arith, fits)) (omega arith) back (bodies.s-up m h env d counted_out.end b s) in
              counted-inner.safe counted_begin at-counted-body d (omega (arith, fits))
              (around-is counted_next counted_end true d (b + 1) (subst (λ p. p < 2 ^ 32) counted-next-is (along.low m counted_body at-counted-body))
              (subst (λ p. E d p (b + 1)) counted-next-is (along.earlier m d counted_body.end (holds (b + 1) []) last)) counted-low b refl (subst (λ p. S d p b) counted-end-is s))
              last

          counted-safe : (d : ℕ) → b + max (held h e) (1 + held_in h ss) ≤ m.most → S d counted_out.end b → S d w.end b × bodies.AllSafe m h env d (entries_inside n k (Repeat (Count e) ss) b w.end w.jumps)
          counted-safe d fits s =
              let loop = repeated counted_begin.end (b + 1) {X = λ d. bodies.AllSafe m h env d (entries n (inside 0 0 true) ss (b + 1) counted_begin.end counted_begin.jumps)} counted_out.end b (counted-step fits) d s in
              let begun : S d (value n e w).end (b + 1) =
              (along.jumps m n.wide n.statement 0x08 counted_end 1 1 0 (bodies.begin-jump m h env)).safe (value n e w) at-counted-begin d b [] (omega arith) (omega (arith, fits))
              (counted-low, bodies.s-up m h env d counted_end b (subst (λ p. S d p b) counted-end-is s)) loop.0 in (
                bodies.s-down m h env d w.end b (valued.safe w at-counted-value d b [] (omega arith) (omega (arith, fits)) tt begun),
                from-real (widths.both (value-alike n n.text n.statement e) (widths.jumps n.wide n.statement n.statement 0x08 counted_end 0)) w (λ p j. bodies.AllSafe m h env d (entries n (inside 0 0 true) ss (b + 1) p j)) loop.1,
              )

          counted-reach : bodies.AllCome m h env (entries_inside n k (Repeat (Count e) ss) b w.end w.jumps) → C w.end b → along.Reached m (b + max (held h e) (1 + held_in h ss))
          counted-reach all c =
              let come = bodies.c-up m h env w.end b c in
              let begun : C counted_begin.end (b + 1) =
              (along.jumps m n.wide n.statement 0x08 counted_end 1 1 0 (bodies.begin-jump m h env)).goes (value n e w) at-counted-begin b [] (valued.goes w at-counted-value b [] come) in
              along.reached-most m b (held h e) (1 + held_in h ss) (valued.comes w at-counted-value b [] come)
              (along.reached-same m (let same : b + 1 + held_in h ss ≡ b + (1 + held_in h ss) = omega arith in same)
              (counted-inner.reach counted_begin at-counted-body
              (to-real (widths.both (value-alike n n.text n.statement e) (widths.jumps n.wide n.statement n.statement 0x08 counted_end 0)) w (λ p j. bodies.AllCome m h env (entries n (inside 0 0 true) ss (b + 1) p j)) all) begun))

          counted-covers : bodies.AllCome m h env (entries_inside n k (Repeat (Count e) ss) b w.end w.jumps) → C w.end b → along.Covered m w → along.Covered m counted_out
          counted-covers all c met =
              let come = bodies.c-up m h env w.end b c in
              let valued-come = valued.goes w at-counted-value b [] come in
              let begins = along.jumps m n.wide n.statement 0x08 counted_end 1 1 0 (bodies.begin-jump m h env) in
              let entered = to-real (widths.both (value-alike n n.text n.statement e) (widths.jumps n.wide n.statement n.statement 0x08 counted_end 0)) w (λ p j. bodies.AllCome m h env (entries n (inside 0 0 true) ss (b + 1) p j)) all in
              along.jump-covers m n.wide n.statement 0x09 counted_begin.end (bodies.end-jump m h env) counted_body (holds (b + 1) []) (body-ends counted_next counted_end true (b + 1) counted_begin entered)
              (counted-inner.covers counted_begin at-counted-body (omega arith) entered (begins.goes (value n e w) at-counted-begin b [] valued-come)
              (begins.covers (value n e w) at-counted-begin b [] valued-come (valued.covers w at-counted-value b [] come met)))

      counting : Sits l (code_of n l (Repeat (Count e) ss)) b (max (held h e) (1 + held_in h ss)) (entries_inside n k (Repeat (Count e) ss) b)
      counting = record { here = λ w hh. valued.here w (at-counted-value w hh); safe = λ w hh d fits around s. counted-safe w hh d fits s; reach = counted-reach; covers = λ w hh kept all c met. counted-covers w hh all c met }

      -- REPEAT WHILE e, REPEAT UNTIL e
      module _ (until : Bool) (w : Written) where
        abbrev tested_end : ℕ
        tested_end =
            (from_start (λ start. value n e ⨾ jump n.wide n.statement (zero_jump until) 0 ⨾ body n (inside start 0 false) ss ⨾ jump n.wide n.statement 0x04 start) w).end

        abbrev tested_begin : Written
        tested_begin = jump n.wide n.statement (zero_jump until) tested_end (value n e w)

        abbrev tested_body : Written
        tested_body = body n (inside w.end tested_end false) ss tested_begin

        abbrev tested_out : Written
        tested_out = code_of n l (Repeat (Before until e) ss) w

        module _ (hh : H tested_out) where
          tested-end-is : tested_out.end ≡ tested_end
          tested-end-is =
              along.same-end m (λ end. from_start (λ start. value n e ⨾ jump n.wide n.statement (zero_jump until) end ⨾ body n (inside start end false) ss ⨾ jump n.wide n.statement 0x04 start)) w
              (λ x y. widths.froms (λ i j. widths.both (widths.both (widths.both (value-alike n n.text n.statement e) (widths.jumps n.wide n.statement n.statement (zero_jump until) x y)) (same-inner i x j y false)) (widths.jumps n.wide n.statement n.statement 0x04 i j)))

          tested-low : tested_end < 2 ^ 32
          tested-low = subst (λ p. p < 2 ^ 32) tested-end-is (along.low m tested_out hh)

          at-tested-body : H tested_body
          at-tested-body = bodies.leap-here m h env n w.end tested_body hh

          abbrev tested-inner : Sits (inside w.end tested_end false) (body n (inside w.end tested_end false) ss) b (held_in h ss) (entries n (inside 0 0 false) ss b)
          tested-inner = G (inside w.end tested_end false) false refl b

          at-tested-begin : H tested_begin
          at-tested-begin = tested-inner.here tested_begin at-tested-body

          at-tested-value : H (value n e w)
          at-tested-value = (along.jump-behind m n.wide n.statement (zero_jump until) tested_end (bodies.zero-is m h env until) (value n e w) at-tested-begin).before

          at-tested : H w
          at-tested = valued.here w at-tested-value

          same-begin : Alike (value n e ⨾ jump n.wide n.statement (zero_jump until) tested_end) (value n e ⨾ leap n (zero_jump until))
          same-begin = widths.both (value-alike n n.text n.statement e) (widths.jumps n.wide n.statement n.statement (zero_jump until) tested_end 0)

          tested-step : b + max (held h e) (held_in h ss) ≤ m.most → (d : ℕ) → E d w.end b → S d tested_out.end b → S d w.end b × bodies.AllSafe m h env d (entries n (inside 0 0 false) ss b tested_begin.end tested_begin.jumps)
          tested-step fits d back s =
              let some = some-held h e in
              let low : w.end < 2 ^ 32 = along.low m w at-tested in
              let ahead : S d tested_end b = subst (λ p. S d p b) tested-end-is s in
              let last : S d tested_body.end b = bodies.leap-safe m h env n w.end tested_body hh low d b (omega (arith, fits)) back in
              let loop = tested-inner.safe tested_begin at-tested-body d (omega (arith, fits)) (around-is w.end tested_end false d b low back tested-low b (omega arith) ahead) last in
              let begun : S d (value n e w).end (b + 1) =
              (along.jumps m n.wide n.statement (zero_jump until) tested_end 1 0 0 (bodies.zero-is m h env until)).safe (value n e w) at-tested-begin d b [] (omega arith) (omega (arith, fits, some))
              (tested-low, bodies.s-up m h env d tested_end b ahead) (bodies.s-up m h env d tested_begin.end b loop.0) in
              (bodies.s-down m h env d w.end b (valued.safe w at-tested-value d b [] (omega arith) (omega (arith, fits)) tt begun), loop.1)

          tested-safe : (d : ℕ) → b + max (held h e) (held_in h ss) ≤ m.most → S d tested_out.end b → S d w.end b × bodies.AllSafe m h env d (entries_inside n k (Repeat (Before until e) ss) b w.end w.jumps)
          tested-safe d fits s =
              let loop = repeated w.end b {X = λ d. bodies.AllSafe m h env d (entries n (inside 0 0 false) ss b tested_begin.end tested_begin.jumps)} tested_out.end b (tested-step fits) d s in
              (loop.0, from-real same-begin w (λ p j. bodies.AllSafe m h env d (entries n (inside 0 0 false) ss b p j)) loop.1)

          tested-reach : bodies.AllCome m h env (entries_inside n k (Repeat (Before until e) ss) b w.end w.jumps) → C w.end b → along.Reached m (b + max (held h e) (held_in h ss))
          tested-reach all c =
              let come = bodies.c-up m h env w.end b c in
              let begun : C tested_begin.end b =
              bodies.c-down m h env tested_begin.end b ((along.jumps m n.wide n.statement (zero_jump until) tested_end 1 0 0 (bodies.zero-is m h env until)).goes (value n e w) at-tested-begin b [] (valued.goes w at-tested-value b [] come)) in
              along.reached-most m b (held h e) (held_in h ss) (valued.comes w at-tested-value b [] come)
              (tested-inner.reach tested_begin at-tested-body (to-real same-begin w (λ p j. bodies.AllCome m h env (entries n (inside 0 0 false) ss b p j)) all) begun)

          tested-covers : bodies.AllCome m h env (entries_inside n k (Repeat (Before until e) ss) b w.end w.jumps) → C w.end b → along.Covered m w → along.Covered m tested_out
          tested-covers all c met =
              let come = bodies.c-up m h env w.end b c in
              let valued-come = valued.goes w at-tested-value b [] come in
              let tests = along.jumps m n.wide n.statement (zero_jump until) tested_end 1 0 0 (bodies.zero-is m h env until) in
              let entered = to-real same-begin w (λ p j. bodies.AllCome m h env (entries n (inside 0 0 false) ss b p j)) all in
              bodies.leap-covers m h env n w.end tested_body b (body-ends w.end tested_end false b tested_begin entered)
              (tested-inner.covers tested_begin at-tested-body (omega arith) entered (bodies.c-down m h env tested_begin.end b (tests.goes (value n e w) at-tested-begin b [] valued-come))
              (tests.covers (value n e w) at-tested-begin b [] valued-come (valued.covers w at-tested-value b [] come met)))

      testing : (until : Bool) → Sits l (code_of n l (Repeat (Before until e) ss)) b (max (held h e) (held_in h ss)) (entries_inside n k (Repeat (Before until e) ss) b)
      testing until = record { here = at-tested until; safe = λ w hh d fits around s. tested-safe until w hh d fits s; reach = tested-reach until; covers = λ w hh kept all c met. tested-covers until w hh all c met }

      -- REPEAT with WHILE or UNTIL behind the body
      module _ (until : Bool) (w : Written) where
        abbrev behind_end : ℕ
        behind_end =
            (from_start (λ start. up_to_end (λ next. body n (inside next 0 false) ss) ⨾ value n e ⨾ jump n.wide n.statement (zero_jump (not until)) start) w).end

        abbrev behind_next : ℕ
        behind_next = (body n (inside 0 behind_end false) ss w).end

        abbrev behind_body : Written
        behind_body = body n (inside behind_next behind_end false) ss w

        abbrev behind_out : Written
        behind_out = code_of n l (Repeat (After until e) ss) w

        module _ (hh : H behind_out) where
          behind-end-is : behind_out.end ≡ behind_end
          behind-end-is =
              along.same-end m (λ end. from_start (λ start. up_to_end (λ next. body n (inside next end false) ss) ⨾ value n e ⨾ jump n.wide n.statement (zero_jump (not until)) start)) w
              (λ x y. widths.froms (λ i j. widths.both (widths.both (widths.ups (λ v w. same-inner v x w y false)) (value-alike n n.text n.statement e)) (widths.jumps n.wide n.statement n.statement (zero_jump (not until)) i j)))

          behind-next-is : behind_body.end ≡ behind_next
          behind-next-is = let ends = (same-inner behind_next behind_end 0 behind_end false).ends w w refl in omega (arith, ends)

          at-behind-value : H (value n e behind_body)
          at-behind-value = (along.jump-behind m n.wide n.statement (zero_jump (not until)) w.end (bodies.zero-is m h env (not until)) (value n e behind_body) hh).before

          at-behind-body : H behind_body
          at-behind-body = valued.here behind_body at-behind-value

          abbrev behind-inner : Sits (inside behind_next behind_end false) (body n (inside behind_next behind_end false) ss) b (held_in h ss) (entries n (inside 0 0 false) ss b)
          behind-inner = G (inside behind_next behind_end false) false refl b

          at-behind : H w
          at-behind = behind-inner.here w at-behind-body

          behind-step : b + max (held h e) (held_in h ss) ≤ m.most → (d : ℕ) → E d w.end b → S d behind_out.end b → S d w.end b × bodies.AllSafe m h env d (entries n (inside 0 0 false) ss b w.end w.jumps)
          behind-step fits d back s =
              let some = some-held h e in
              let low : w.end < 2 ^ 32 = along.low m w at-behind in
              let tested : S d (value n e behind_body).end (b + 1) =
              along.jumps-back m n.wide n.statement (zero_jump (not until)) w.end 1 0 0 (bodies.zero-is m h env (not until)) (value n e behind_body) hh low d b [] (omega (arith, fits, some)) (omega arith)
              (along.earlier-at m d w.end b (b + 0) [] (omega arith) back) (bodies.s-up m h env d behind_out.end b s) in
              let last : S d behind_body.end b = bodies.s-down m h env d behind_body.end b (valued.safe behind_body at-behind-value d b [] (omega arith) (omega (arith, fits)) tt tested) in
              behind-inner.safe w at-behind-body d (omega (arith, fits))
              (around-is behind_next behind_end false d b (subst (λ p. p < 2 ^ 32) behind-next-is (along.low m behind_body at-behind-body)) (subst (λ p. E d p b) behind-next-is (along.earlier m d behind_body.end (holds b []) last))
              (subst (λ p. p < 2 ^ 32) behind-end-is (along.low m behind_out hh)) b (omega arith) (subst (λ p. S d p b) behind-end-is s))
              last

          behind-safe : (d : ℕ) → b + max (held h e) (held_in h ss) ≤ m.most → S d behind_out.end b → S d w.end b × bodies.AllSafe m h env d (entries_inside n k (Repeat (After until e) ss) b w.end w.jumps)
          behind-safe d fits s = repeated w.end b {X = λ d. bodies.AllSafe m h env d (entries n (inside 0 0 false) ss b w.end w.jumps)} behind_out.end b (behind-step fits) d s

          behind-reach : bodies.AllCome m h env (entries_inside n k (Repeat (After until e) ss) b w.end w.jumps) → C w.end b → along.Reached m (b + max (held h e) (held_in h ss))
          behind-reach all c =
              let last : C behind_body.end b =
              subst (λ p. C p b) (place-is (body-alike n n.text n.statement (inside behind_next behind_end false) (inside 0 0 false) refl ss) w) (last-entry (bodies.IsCome m h env) n (inside 0 0 false) b ss w.end w.jumps all) in
              along.reached-most m b (held h e) (held_in h ss) (valued.comes behind_body at-behind-value b [] (bodies.c-up m h env behind_body.end b last)) (behind-inner.reach w at-behind-body all c)

          behind-covers : bodies.AllCome m h env (entries_inside n k (Repeat (After until e) ss) b w.end w.jumps) → C w.end b → along.Covered m w → along.Covered m behind_out
          behind-covers all c met =
              let come = bodies.c-up m h env behind_body.end b (body-ends behind_next behind_end false b w all) in
              along.jump-covers m n.wide n.statement (zero_jump (not until)) w.end (bodies.zero-is m h env (not until)) (value n e behind_body) (holds (b + 1) []) (valued.goes behind_body at-behind-value b [] come)
              (valued.covers behind_body at-behind-value b [] come (behind-inner.covers w at-behind-body (omega arith) all c met))

      testing-behind : (until : Bool) → Sits l (code_of n l (Repeat (After until e) ss)) b (max (held h e) (held_in h ss)) (entries_inside n k (Repeat (After until e) ss) b)
      testing-behind until = record { here = at-behind until; safe = λ w hh d fits around s. behind-safe until w hh d fits s; reach = behind-reach until; covers = λ w hh kept all c met. behind-covers until w hh all c met }

    -- REPEAT FROM
    module _ (name : List ℕ) (first last : Tree) (by : Option Tree) (q : Place) (proper : IsProperCourse (From name first last by q)) (clean : (f : Fault) → ¬ MisuseInCourse env (From name first last by q) f) where
      abbrev begun-by : along.Flows m None (value n first) 0 1 (held h first)
      begun-by = bodies.expression m h env n known first proper.1 (λ f x. clean f (inr (inl (inl x))))

      abbrev ended-by : along.Flows m None (step_of n by ⨾ value n first ⨾ value n last) 0 (taken_by by) (held_by_pass h by first last)
      ended-by = pass-flows n known by first last proper.3 proper.1 proper.2 (λ f x. clean f (inr (inr x))) (λ f x. clean f (inr (inl (inl x)))) (λ f x. clean f (inr (inl (inr x))))

      stored : along.Flows m None (one (plain_op (home_of n name) Pop)) 1 0 1
      stored = acts-plain m n h env known.same known.held (home_of n name) 1 0 Pop (home-based m n h env known.same known.held name) pops

      module _ (w : Written) where
        abbrev stepped_whole : ℕ → Piece
        stepped_whole end =
            value n first ⨾ one (plain_op (home_of n name) Pop)
            ⨾ from_start (λ start. up_to_end (λ next. body n (inside next end false) ss) ⨾ step_of n by ⨾ value n first ⨾ value n last ⨾ jumping n.wide n.statement start (plain_name n name (step_effect by)))

        abbrev stepped_end : ℕ
        stepped_end = (stepped_whole 0 w).end

        abbrev stepped_begin : Written
        stepped_begin = one (plain_op (home_of n name) Pop) (value n first w)

        abbrev stepped_next : ℕ
        stepped_next = (body n (inside 0 stepped_end false) ss stepped_begin).end

        abbrev stepped_body : Written
        stepped_body = body n (inside stepped_next stepped_end false) ss stepped_begin

        abbrev stepped_pass : Written
        stepped_pass = (step_of n by ⨾ value n first ⨾ value n last) stepped_body

        abbrev stepped_out : Written
        stepped_out = code_of n l (Repeat (From name first last by q) ss) w

        module _ (hh : H stepped_out) where
          stepped-end-is : stepped_out.end ≡ stepped_end
          stepped-end-is =
              along.same-end m stepped_whole w
              (λ x y. widths.both (widths.both (value-alike n n.text n.statement first) (widths.same-one (plain_op (home_of n name) Pop)))
              (widths.froms (λ i j. widths.both (widths.both (widths.both (widths.both (widths.ups (λ v w. same-inner v x w y false)) (step-alike n n.text n.statement by)) (value-alike n n.text n.statement first)) (value-alike n n.text n.statement last))
              (widths.steps n.wide n.statement n.statement i j (plain_name n name (step_effect by))))))

          stepped-next-is : stepped_body.end ≡ stepped_next
          stepped-next-is = let ends = (same-inner stepped_next stepped_end 0 stepped_end false).ends stepped_begin stepped_begin refl in omega (arith, ends)

          at-pass : H stepped_pass
          at-pass = (step-behind n name by stepped_begin.end stepped_pass hh).before

          at-stepped-body : H stepped_body
          at-stepped-body = ended-by.here stepped_body at-pass

          abbrev stepped-inner : Sits (inside stepped_next stepped_end false) (body n (inside stepped_next stepped_end false) ss) b (held_in h ss) (entries n (inside 0 0 false) ss b)
          stepped-inner = G (inside stepped_next stepped_end false) false refl b

          at-stepped-begin : H stepped_begin
          at-stepped-begin = stepped-inner.here stepped_begin at-stepped-body

          at-first : H (value n first w)
          at-first = stored.here (value n first w) at-stepped-begin

          same-stepped : Alike (value n first ⨾ one (plain_op (home_of n name) Pop)) (value n first ⨾ one (plain_op (home_of n name) Pop))
          same-stepped = widths.both (value-alike n n.text n.statement first) (widths.same-one (plain_op (home_of n name) Pop))

          stepped-step : b + max (held h first) (max (held_in h ss) (held_by_pass h by first last)) ≤ m.most → (d : ℕ) → E d stepped_begin.end b → S d stepped_out.end b
              → S d stepped_begin.end b × bodies.AllSafe m h env d (entries n (inside 0 0 false) ss b stepped_begin.end stepped_begin.jumps)
          stepped-step fits d back s =
              let high = ended-by.high in
              let op = step-behind n name by stepped_begin.end stepped_pass hh in
              let low : stepped_begin.end < 2 ^ 32 = along.low m stepped_begin at-stepped-begin in
              let tested : S d stepped_pass.end (b + taken_by by) =
              along.jump-back m d stepped_pass.end b (taken_by by) 0 0 [] (stepping-op n name by stepped_begin.end stepped_pass) stepped_out.end stepped_begin.end op.reads
              (step-column n known name by (offset (end_of_jumping n.wide (plain_name n name (step_effect by)) stepped_pass) stepped_begin.end) (n.wide stepped_pass.jumps)) (step-leads n name by stepped_begin.end stepped_pass hh low) (omega (arith, fits, high)) (omega arith)
              (along.earlier-at m d stepped_begin.end b (b + 0) [] (omega arith) back) (bodies.s-up m h env d stepped_out.end b s) in
              let after : S d stepped_body.end b = bodies.s-down m h env d stepped_body.end b (ended-by.safe stepped_body at-pass d b [] (omega arith) (omega (arith, fits)) tt tested) in
              stepped-inner.safe stepped_begin at-stepped-body d (omega (arith, fits))
              (around-is stepped_next stepped_end false d b (subst (λ p. p < 2 ^ 32) stepped-next-is (along.low m stepped_body at-stepped-body)) (subst (λ p. E d p b) stepped-next-is (along.earlier m d stepped_body.end (holds b []) after))
              (subst (λ p. p < 2 ^ 32) stepped-end-is (along.low m stepped_out hh)) b (omega arith) (subst (λ p. S d p b) stepped-end-is s))
              after

          stepped-safe : (d : ℕ) → b + max (held h first) (max (held_in h ss) (held_by_pass h by first last)) ≤ m.most → S d stepped_out.end b → S d w.end b × bodies.AllSafe m h env d (entries_inside n k (Repeat (From name first last by q) ss) b w.end w.jumps)
          stepped-safe d fits s =
              let some = some-held h first in
              let loop = repeated stepped_begin.end b {X = λ d. bodies.AllSafe m h env d (entries n (inside 0 0 false) ss b stepped_begin.end stepped_begin.jumps)} stepped_out.end b (stepped-step fits) d s in
              let begun : S d (value n first w).end (b + 1) = stored.safe (value n first w) at-stepped-begin d b [] (omega arith) (omega (arith, fits, some)) tt (bodies.s-up m h env d stepped_begin.end b loop.0) in (
                bodies.s-down m h env d w.end b (begun-by.safe w at-first d b [] (omega arith) (omega (arith, fits)) tt begun),
                from-real same-stepped w (λ p j. bodies.AllSafe m h env d (entries n (inside 0 0 false) ss b p j)) loop.1,
              )

          stepped-reach : bodies.AllCome m h env (entries_inside n k (Repeat (From name first last by q) ss) b w.end w.jumps) → C w.end b → along.Reached m (b + max (held h first) (max (held_in h ss) (held_by_pass h by first last)))
          stepped-reach all c =
              let come = bodies.c-up m h env w.end b c in
              let inside_all = to-real same-stepped w (λ p j. bodies.AllCome m h env (entries n (inside 0 0 false) ss b p j)) all in
              let begun : C stepped_begin.end b = bodies.c-down m h env stepped_begin.end b (stored.goes (value n first w) at-stepped-begin b [] (begun-by.goes w at-first b [] come)) in
              let after : C stepped_body.end b =
              subst (λ p. C p b) (place-is (body-alike n n.text n.statement (inside stepped_next stepped_end false) (inside 0 0 false) refl ss) stepped_begin)
              (last-entry (bodies.IsCome m h env) n (inside 0 0 false) b ss stepped_begin.end stepped_begin.jumps inside_all) in
              along.reached-most m b (held h first) (max (held_in h ss) (held_by_pass h by first last)) (begun-by.comes w at-first b [] come)
              (along.reached-most m b (held_in h ss) (held_by_pass h by first last) (stepped-inner.reach stepped_begin at-stepped-body inside_all begun)
              (ended-by.comes stepped_body at-pass b [] (bodies.c-up m h env stepped_body.end b after)))

          stepped-covers : bodies.AllCome m h env (entries_inside n k (Repeat (From name first last by q) ss) b w.end w.jumps) → C w.end b → along.Covered m w → along.Covered m stepped_out
          stepped-covers all c met =
              let come = bodies.c-up m h env w.end b c in
              let begun = begun-by.goes w at-first b [] come in
              let entered = to-real same-stepped w (λ p j. bodies.AllCome m h env (entries n (inside 0 0 false) ss b p j)) all in
              let after = bodies.c-up m h env stepped_body.end b (body-ends stepped_next stepped_end false b stepped_begin entered) in
              All-push (along.IsMet m) stepped_pass.lines (stepped_pass.end, stepped_pass.statement)
              (ended-by.covers stepped_body at-pass b [] after
              (stepped-inner.covers stepped_begin at-stepped-body (omega arith) entered (bodies.c-down m h env stepped_begin.end b (stored.goes (value n first w) at-stepped-begin b [] begun))
              (stored.covers (value n first w) at-stepped-begin b [] begun (begun-by.covers w at-first b [] come met))))
              (holds (b + taken_by by) [], ended-by.goes stepped_body at-pass b [] after)

      stepping-loop : Sits l (code_of n l (Repeat (From name first last by q) ss)) b (max (held h first) (max (held_in h ss) (held_by_pass h by first last))) (entries_inside n k (Repeat (From name first last by q) ss) b)
      stepping-loop = record { here = λ w hh. begun-by.here w (at-first w hh); safe = λ w hh d fits around s. stepped-safe w hh d fits s; reach = stepped-reach; covers = λ w hh kept all c met. stepped-covers w hh all c met }

    -- any loop
    pub loop-sits : (course : Course) → IsProperCourse course → ((f : Fault) → ¬ MisuseInCourse env course f) → Sits l (code_of n l (Repeat course ss)) b (held_in_loop h course (held_in h ss)) (entries_inside n k (Repeat course ss) b)
    loop-sits Forever proper clean = forever
    loop-sits (Count e) proper clean = counting e proper clean
    loop-sits (Before until e) proper clean = testing e proper clean until
    loop-sits (After until e) proper clean = testing-behind e proper clean until
    loop-sits (From name first last by q) proper clean = stepping-loop name first last by q proper clean
