-- Calls, returns and aborts.
use Rattle.std.proofs.Common.{◌≡◌, refl, sym, ap, ap₂, subst, ◌∙◌, arith, ℕ, zero, suc, ◌+◌, ◌-◌, ◌*◌, ◌%◌, ◌^◌, ◌<◌, ◌≤◌, Bool, true, false, if◌then◌else◌, List, [], ◌∷◌, ◌++◌, length, take, drop, Option, Some, None, append_assoc}
use Rattle.std.specs.Prelude.{nat_le, nat_lt, not, slice_get}
use Rattle.std.proofs.Math.ListN.{length-append}
use Rattle.std.proofs.Math.Seq.{take-append_seam, drop-append_seam}
use Rattle.std.proofs.lemmas.Bool.{le-ltb, ltb-true, ltb-false, le-leb, lt-leb}
use Rattle.p8_access.specs.declared.kinds.Width.TheVariants.{Long}
use Rattle.p8_access.specs.declared.kinds.Reason.TheVariants as Why
use Rattle.p8_access.specs.Courses.{Course, Finish, Stop}
use Rattle.p8_bcog.specs.declared.calls.Call.{Call}
use Rattle.p8_bcog.specs.declared.marks.CallMark.{CallMark}
use Rattle.p8_bcog.specs.declared.state.SpinState.{SpinState}
use Rattle.p8_bcog.specs.declared.step.Callee as entry
use Rattle.p8_bcog.specs.declared.step.Given.{Given}
use Rattle.p8_bcog.specs.declared.step.Given.TheVariants.{Called}
use Rattle.p8_bcog.specs.Accesses.{ends, gets, is_readable, read_of}
use Rattle.p8_bcog.specs.Newest.{trapping}
use Rattle.p8_bcog.specs.Code.{method_at}
use Rattle.p8_bcog.specs.Calls as calling
use Rattle.p8_tree.specs.declared.places.Place.{Place}
use Rattle.p8_meaning.specs.Doing.{HaltsFor, Registers, Rest, costs, halts, reads, writes_longs, next_address}
use Rattle.p8_meaning.specs.Programs.{Program, Addresses, File, Target}
use Rattle.p8_tree.specs.Sources.{MethodTree}
use Rattle.p8_meaning.specs.Lives.{IsInstance}
use Rattle.p8_meaning.specs.Calls.{method_of, Callee, Returned, Value, Result, uses, calls}
use Rattle.p8_compiled.specs.Courses.{Does}
use Rattle.p8_compiled.specs.Keeps.{Placed}
use Rattle.p8_compiled.proofs.Meets.{meets-untold, meets-halt, follows-if, follows-halts, follows-asks}
use Rattle.p8_compiled.proofs.Places.{Frame, at}
use Rattle.p8_compiled.proofs.Stepping.{engine, F, M, less, pays}

-- what a bytecode that ends a method has to give: a value, or the result of the frame at hand
abbrev pub GivesBack : Returned → SpinState → Option ℕ → Type 0
GivesBack (Value value) s given = given ≡ Some value
GivesBack (Result frame) s given = (given ≡ None) × (s.frame ≡ frame)

-- the registers of a cog
pub record Owns (first : ℕ) (own : Registers) (s : SpinState) : Type 0 where
  pub par : s.par ≡ first
  pub outa : s.outa ≡ own.outa
  pub outb : s.outb ≡ 0
  pub dira : s.dira ≡ own.dira
  pub dirb : s.dirb ≡ 0

-- a state whose stack and marks lie above those with which a method began
pub record Above (first : ℕ) (stack : List ℕ) (marks : List CallMark) (own : Registers) (s : SpinState) : Type 0 where
  pub owns : Owns first own s
  pub values : List ℕ
  pub stacked : s.stack ≡ stack ++ values
  pub opened : List CallMark
  pub marked : s.marks ≡ opened ++ marks

-- the record of a call, at a state with this frame
abbrev pub called : Frame → (q base height marks : ℕ) (unused traps : Bool) → Call
called c q base height marks unused traps = record {
  at = q;
  pbase = c.pbase;
  vbase = c.vbase;
  frame = c.frame;
  size = c.size;
  base = base;
  height = height;
  marks = marks;
  unused = unused;
  traps = traps;
}

module _ (memory : List ℕ) (cog : ℕ) (table : List (ℕ × Place)) where
  -- what follows a return to these calls, with each bound up to b
  pub record Returns (b : ℕ) (calls : List Call) (par : ℕ) (stack : List ℕ) (marks : List CallMark) (go : Returned → Rest) : Type 0 where
    pub by : (hand : Place) (f : ℕ) (own : Registers) → f ≤ b → (returned : Returned) (given : Option ℕ) (s : SpinState) → Above par stack marks own s → GivesBack returned s given → F memory cog table hand f own (calling.returns cog given calls s) (go returned)

  -- and an abort
  pub record Aborts (b : ℕ) (calls : List Call) (par : ℕ) (stack : List ℕ) (marks : List CallMark) (go : Returned → Rest) : Type 0 where
    pub by : (hand : Place) (f : ℕ) (own : Registers) → f ≤ b → (returned : Returned) (given : Option ℕ) (s : SpinState) → Above par stack marks own s → GivesBack returned s given → F memory cog table hand f own (calling.aborts cog given (trapping calls) s) (go returned)

module _ (memory : List ℕ) (cog : ℕ) (table : List (ℕ × Place)) (hand : Place) where
  -- longs that are written
  pub follows-gives : (values : List ℕ) (address : ℕ) (given : Given) (s : SpinState) (f : ℕ) (own : Registers) (go : Rest) → F memory cog table hand f own (calling.given_to given s) go → F memory cog table hand f own (calling.gives address values given s) (writes_longs address values go)
  unfolding calling.gives
  follows-gives [] address given s f own go m = m
  follows-gives (value ∷ values) address given s f own go m =
      follows-asks (engine memory cog table hand) _ (λ word. writes_longs (next_address Long address) values go) (λ answer. follows-gives values (next_address Long address) given s f own go m)

  -- ---- back in the caller

  module _ (c : Frame) (q base : ℕ) (xs : List ℕ) (marks : List CallMark) (unused traps : Bool) where
    abbrev record_of : Call
    record_of = called c q base (length xs) (length marks) unused traps

    back-is : (own : Registers) (s : SpinState) → Above c.par xs marks own s → calling.returned record_of c.calls s ≡ at c q base marks xs own
    back-is own s above =
        let stack : take (length xs) s.stack ≡ xs = ap (take (length xs)) above.stacked ∙ take-append_seam xs above.values in
        let count : length s.marks - length marks ≡ length above.opened = omega (arith, ap length above.marked ∙ length-append above.opened marks) in
        let left : drop (length s.marks - length marks) s.marks ≡ marks = ap₂ (λ n (ms : List CallMark). drop n ms) count above.marked ∙ drop-append_seam above.opened marks in
        ap₂ (λ (ys : List ℕ) (ms : List CallMark). record (calling.returned record_of c.calls s) { stack = ys; marks = ms }) stack left
        ∙ ap₂ (λ o d. record (at c q base marks xs own) { outa = o; outb = s.outb; dira = d; dirb = s.dirb; par = s.par }) above.owns.outa above.owns.dira
        ∙ ap₂ (λ o d. record (at c q base marks xs own) { outb = o; dirb = d; par = s.par }) above.owns.outb above.owns.dirb
        ∙ ap (λ p. record (at c q base marks xs own) { par = p }) above.owns.par

  -- the value is used, or it isn't
  pub back-unused : (c : Frame) (q base : ℕ) (xs : List ℕ) (marks : List CallMark) (traps : Bool) (f : ℕ) (own : Registers) (given : Option ℕ) (s : SpinState) (go : Rest) → Above c.par xs marks own s → F memory cog table hand f own (Finish (at c q base marks xs own)) go → F memory cog table hand f own (calling.goes_back given (called c q base (length xs) (length marks) true traps) c.calls s) go
  unfolding calling.goes_back
  back-unused c q base xs marks traps f own given s go above m = subst (λ (st : SpinState). F memory cog table hand f own (Finish st) go) (sym (back-is c q base xs marks true traps own s above)) m

  leaves-by : (returned : Returned) (given : Option ℕ) (s st : SpinState) (f : ℕ) (own : Registers) (go : ℕ → Rest) → GivesBack returned s given → ((value : ℕ) → F memory cog table hand f own (Finish (record st { stack = st.stack ++ value ∷ [] })) (go value)) → F memory cog table hand f own (calling.leaves_value given s.frame st) (uses returned go)
  unfolding gets
  leaves-by (Value value) given s st f own go is m = subst (λ (g : Option ℕ). F memory cog table hand f own (calling.leaves_value g s.frame st) (go value)) (sym is) (m value)
  leaves-by (Result frame) given s st f own go is m =
      subst (λ (g : Option ℕ). F memory cog table hand f own (calling.leaves_value g s.frame st) (reads Long frame go)) (sym is.0)
      (subst (λ (at_frame : ℕ). F memory cog table hand f own (calling.leaves_value None at_frame st) (reads Long frame go)) (sym is.1)
      (follows-if (engine memory cog table hand) (is_readable Long frame) (follows-asks (engine memory cog table hand) (read_of Long frame) go (λ answer. m _)) (follows-halts (engine memory cog table hand) _)))

  pub back-used : (c : Frame) (q base : ℕ) (xs : List ℕ) (marks : List CallMark) (traps : Bool) → length xs + 1 ≤ 16384 → (f : ℕ) (own : Registers) (returned : Returned) (given : Option ℕ) (s : SpinState) (go : ℕ → Rest) → Above c.par xs marks own s → GivesBack returned s given →
      ((value : ℕ) → F memory cog table hand f own (Finish (at c q base marks (xs ++ value ∷ []) own)) (go value)) → F memory cog table hand f own (calling.goes_back given (called c q base (length xs) (length marks) false traps) c.calls s) (uses returned go)
  unfolding calling.goes_back
  back-used c q base xs marks traps fits f own returned given s go above is m =
      subst (λ (b : Bool). F memory cog table hand f own (if b then Stop Why.Stack else calling.leaves_value given s.frame (calling.returned (called c q base (length xs) (length marks) false traps) c.calls s)) (uses returned go))
      (sym (le-ltb 16384 (length xs + 1) fits))
      (subst (λ (st : SpinState). F memory cog table hand f own (calling.leaves_value given s.frame st) (uses returned go)) (sym (back-is c q base xs marks false traps own s above))
      (leaves-by returned given s (at c q base marks xs own) f own go is m))

-- ---- calls

-- what a method's stack and marks lie above, and the heights of both
pub record Begun : Type 0 where
  pub stack : List ℕ
  pub marks : List CallMark

-- where the operands at hand begin, and that the method's own lie below
pub record Low (g : Begun) (base : ℕ) (marks : List CallMark) (xs : List ℕ) : Type 0 where
  pub low : base ≤ length xs
  pub values : List ℕ
  pub stacked : xs ≡ g.stack ++ values
  pub opened : List CallMark
  pub marked : marks ≡ opened ++ g.marks

pub raise : {g : Begun} {base : ℕ} {marks : List CallMark} {xs : List ℕ} → Low g base marks xs → (value : ℕ) → Low g base marks (xs ++ value ∷ [])
raise {g} {base} {marks} {xs} l value = record {
  low = omega (arith, l.low, length-append xs (value ∷ []));
  values = l.values ++ value ∷ [];
  stacked = ap (λ (ys : List ℕ). ys ++ value ∷ []) l.stacked ∙ append_assoc g.stack l.values (value ∷ []);
  opened = l.opened;
  marked = l.marked;
}

pub raise_all : {g : Begun} {base : ℕ} {marks : List CallMark} {xs : List ℕ} → Low g base marks xs → (values : List ℕ) → Low g base marks (xs ++ values)
raise_all {g} {base} {marks} {xs} l values = record {
  low = omega (arith, l.low, length-append xs values);
  values = l.values ++ values;
  stacked = ap (λ (ys : List ℕ). ys ++ values) l.stacked ∙ append_assoc g.stack l.values values;
  opened = l.opened;
  marked = l.marked;
}

pub opened-low : {g : Begun} {base : ℕ} {marks : List CallMark} {xs : List ℕ} → Low g base marks xs → (mark : CallMark) → Low g (length xs) (mark ∷ marks) xs
opened-low l mark = record {
  low = omega arith;
  values = l.values;
  stacked = l.stacked;
  opened = mark ∷ l.opened;
  marked = ap (λ (ms : List CallMark). mark ∷ ms) l.marked;
}

-- what lies above a later stack lies above the first
pub above-first : {first : ℕ} {g : Begun} {base : ℕ} {marks : List CallMark} {xs : List ℕ} {own : Registers} {s : SpinState} → Low g base marks xs → Above first xs marks own s → Above first g.stack g.marks own s
above-first {g = g} l above = record {
  owns = above.owns;
  values = l.values ++ above.values;
  stacked = above.stacked ∙ ap (λ (ys : List ℕ). ys ++ above.values) l.stacked ∙ append_assoc g.stack l.values above.values;
  opened = above.opened ++ l.opened;
  marked = above.marked ∙ ap (λ (ms : List CallMark). above.opened ++ ms) l.marked ∙ sym (append_assoc above.opened l.opened g.marks);
}

-- the frame of a method that a call begins
abbrev pub frame_of : Target → (frame size : ℕ) → List Call → (par : ℕ) → Frame
frame_of target frame size calls par = record {
  pbase = target.instance.base;
  vbase = target.instance.variables;
  frame = frame;
  size = size;
  calls = calls;
  par = par;
}

-- heights at which a method may begin
pub record Room (calls : List Call) (stack : List ℕ) (marks : List CallMark) : Type 0 where
  pub values : length stack ≤ 128 * length calls
  pub opened : length marks ≤ 64 * length calls
  pub few : length calls < 128
  pub below : calling.marks_below calls ≡ length marks

module _ (memory : List ℕ) (cog : ℕ) (table : List (ℕ × Place)) (program : Program) (addresses : Addresses) where
  -- the methods that a callee means are begun by bytecodes, with bounds below this
  pub record CallsOk (most par : ℕ) (callee : Callee) : Type 0 where
    pub by : (target : Target) → IsInstance program addresses target.instance → (file : File) → slice_get program target.instance.file ≡ Some file → (tree : MethodTree) → method_of file target.method ≡ Some tree →
        (frame : ℕ) (calls : List Call) (arguments : List ℕ) → length arguments ≡ length tree.params → (stack : List ℕ) (marks : List CallMark) → Room calls stack marks →
        (return abort : Returned → Rest) (b : ℕ) → Returns memory cog table b calls par stack marks return → Aborts memory cog table b calls par stack marks abort →
        (hand : Place) (f : ℕ) (own : Registers) → f ≤ b → f < most → (s : SpinState) (size : ℕ) → size ≡ (4 * length arguments + (method_at memory target.instance.base target.instance.variables target.method).locals) % 2 ^ 16 →
        calling.given_to (Called (method_at memory target.instance.base target.instance.variables target.method)) s ≡ Finish (at (frame_of target frame size calls par) (method_at memory target.instance.base target.instance.variables target.method).entry (length stack) marks stack own) →
        F memory cog table hand f own (calling.gives frame (0 ∷ arguments) (Called (method_at memory target.instance.base target.instance.variables target.method)) s) (callee target arguments frame (length calls + 1) return abort)

  module _ (placed : Placed memory cog program addresses) (most : ℕ) (callee : Callee) (c : Frame) (ok : CallsOk most c.par callee) (g : Begun) (room : Room c.calls g.stack g.marks) (b : ℕ) (lesser : b ≤ most) (abort : Returned → Rest) (aborts : Aborts memory cog table b c.calls c.par g.stack g.marks abort) where
    module _ (q base : ℕ) (xs : List ℕ) (marks : List CallMark) (low : Low g base marks xs) (unused traps : Bool) (return : Returned → Rest) (bound : ℕ) (within : bound ≤ b)
        (back : (hand : Place) (f : ℕ) (own : Registers) → f ≤ bound → (returned : Returned) (given : Option ℕ) (s : SpinState) → Above c.par xs marks own s → GivesBack returned s given → F memory cog table hand f own (calling.goes_back given (called c q base (length xs) (length marks) unused traps) c.calls s) (return returned)) where
      -- the record of this call
      abbrev this : Call
      this = called c q base (length xs) (length marks) unused traps

      returns-here : Returns memory cog table bound (this ∷ c.calls) c.par xs marks return
      unfolding calling.returns
      returns-here = record { by = λ hand f own le returned given s above is. back hand f own le returned given s above is }

      abort-by : (stops : Bool) (hand : Place) (f : ℕ) (own : Registers) → f ≤ bound → (returned : Returned) (given : Option ℕ) (s : SpinState) → Above c.par xs marks own s → GivesBack returned s given →
          F memory cog table hand f own (calling.aborts cog given (if stops then Some (this, c.calls) else trapping c.calls) s) ((if stops then return else abort) returned)
      unfolding calling.aborts
      abort-by true hand f own le returned given s above is = back hand f own le returned given s above is
      abort-by false hand f own le returned given s above is = aborts.by hand f own (omega (arith, le, within)) returned given s (above-first low above) is

      aborts-here : Aborts memory cog table bound (this ∷ c.calls) c.par xs marks (if traps then return else abort)
      aborts-here = record { by = λ hand f own le returned given s above is. abort-by traps hand f own le returned given s above is }

      -- the mark of this call
      abbrev mark : CallMark
      mark = record { outer = base; unused = unused; traps = traps }

      module _ (target : Target) (is_instance : IsInstance program addresses target.instance) (file : File) (is_file : slice_get program target.instance.file ≡ Some file) (tree : MethodTree) (is_tree : method_of file target.method ≡ Some tree)
          (arguments : List ℕ) (arity : length arguments ≡ length tree.params) (values : length xs ≤ 128 * (length c.calls + 1)) (opened : length marks ≤ 64 * (length c.calls + 1)) where
        -- what the bytecode of the call begins
        abbrev begun : entry.Callee
        begun = method_at memory target.instance.base target.instance.variables target.method

        abbrev calling_at : Registers → SpinState
        calling_at own = at c q (length xs) (mark ∷ marks) (xs ++ arguments) own

        abbrev frame : ℕ
        frame = (c.frame + 4 + c.size) % 2 ^ 16

        entered-is : (own : Registers) → calling.given_to (Called begun) (calling_at own) ≡ Finish (at (frame_of target frame ((4 * (length (xs ++ arguments) - length xs) + begun.locals) % 2 ^ 16) (this ∷ c.calls) c.par) begun.entry (length xs) marks xs own)
        entered-is own =
            ap (λ (ys : List ℕ). Finish (at (frame_of target frame ((4 * (length (xs ++ arguments) - length xs) + begun.locals) % 2 ^ 16) (this ∷ c.calls) c.par) begun.entry (length xs) marks ys own)) (take-append_seam xs arguments)

        size-is : (4 * (length (xs ++ arguments) - length xs) + begun.locals) % 2 ^ 16 ≡ (4 * length arguments + begun.locals) % 2 ^ 16
        size-is = ap (λ n. (4 * n + begun.locals) % 2 ^ 16) (let n : length (xs ++ arguments) - length xs ≡ length arguments = omega (arith, length-append xs arguments) in n)

        if-true : {X : Type 0} (so : Bool) (x y : X) → so ≡ true → (if so then x else y) ≡ x
        if-true so x y is = ap (λ (z : Bool). if z then x else y) is

        if-false : {X : Type 0} (so : Bool) (x y : X) → so ≡ false → (if so then x else y) ≡ y
        if-false so x y is = ap (λ (z : Bool). if z then x else y) is

        allowed-is : (own : Registers) → length c.calls < 127 → calling.calls_method memory target.instance.base target.instance.variables target.method (calling_at own) ≡ calling.gives frame (0 ∷ arguments) (Called begun) (calling_at own)
        unfolding calling.calls_method calling.calls
        allowed-is own few =
            ap (λ (so : Bool). if not so then Stop Why.Table else if nat_le 127 (length c.calls) then Stop Why.Deep else calling.calls begun (calling_at own)) (placed.method target is_instance file is_file tree is_tree).is_method
            ∙ if-false (nat_le 127 (length c.calls)) (Stop Why.Deep) (calling.calls begun (calling_at own)) (lt-leb 127 (length c.calls) few)
            ∙ ap (λ (ys : List ℕ). calling.gives frame (0 ∷ ys) (Called begun) (calling_at own)) (drop-append_seam xs arguments)

        deep-is : (own : Registers) → 127 ≤ length c.calls → calling.calls_method memory target.instance.base target.instance.variables target.method (calling_at own) ≡ Stop Why.Deep
        unfolding calling.calls_method
        deep-is own many =
            ap (λ (so : Bool). if not so then Stop Why.Table else if nat_le 127 (length c.calls) then Stop Why.Deep else calling.calls begun (calling_at own)) (placed.method target is_instance file is_file tree is_tree).is_method
            ∙ if-true (nat_le 127 (length c.calls)) (Stop Why.Deep) (calling.calls begun (calling_at own)) (le-leb 127 (length c.calls) many)

        -- the method that is called
        abbrev follows : ℕ → ℕ → Rest
        follows ends active = callee target arguments ends active return (if traps then return else abort)

        begun-meets : (hand : Place) (f : ℕ) (own : Registers) → suc f ≤ bound → length c.calls < 127 → F memory cog table hand f own (calling.gives frame (0 ∷ arguments) (Called begun) (calling_at own)) (follows frame (length c.calls + 1 + 1))
        begun-meets hand f own le few =
            subst (λ n. F memory cog table hand f own (calling.gives frame (0 ∷ arguments) (Called begun) (calling_at own)) (follows frame n)) (let n : length (this ∷ c.calls) + 1 ≡ length c.calls + 1 + 1 = omega arith in n)
            (ok.by target is_instance file is_file tree is_tree frame (this ∷ c.calls) arguments arity xs marks
            (record { values = omega (arith, values); opened = omega (arith, opened); few = omega (arith, few); below = refl })
            return (if traps then return else abort) bound returns-here aborts-here hand f own (omega (arith, le)) (omega (arith, le, within, lesser)) (calling_at own) _ size-is (entered-is own))

        -- the bytecode of a call, which comes to the call of this method
        pub called-meets : (hand : Place) (p : ℕ) (course : SpinState → Course SpinState) → Does memory cog table hand p course q → (stack : List ℕ) →
            ((own : Registers) → course (at c q (length xs) (mark ∷ marks) stack own) ≡ calling.calls_method memory target.instance.base target.instance.variables target.method (calling_at own)) →
            (fine : Bool) → nat_lt (length c.calls + 1) 128 ≡ fine → (f : ℕ) (own : Registers) → f ≤ bound → M memory cog table hand f (Finish (at c p (length xs) (mark ∷ marks) stack own)) ((if fine then costs (follows frame (length c.calls + 1 + 1)) else halts Why.Deep) f (record own { statement = hand }))
        called-meets hand p course h stack is true shallow zero own le = meets-untold (engine memory cog table hand) _
        called-meets hand p course h stack is true shallow (suc f) own le =
            pays memory cog table hand c p q (length xs) (mark ∷ marks) course h stack own (suc f) _
            (let few : length c.calls < 127 = omega (arith, ltb-true (length c.calls + 1) 128 shallow) in
            subst (λ (d : Course SpinState). M memory cog table hand f d (follows frame (length c.calls + 1 + 1) f (record own { statement = hand }))) (sym (is own ∙ allowed-is own few)) (begun-meets hand f own le few).meets)
        called-meets hand p course h stack is false shallow f own le =
            pays memory cog table hand c p q (length xs) (mark ∷ marks) course h stack own f _
            (subst (λ (d : Course SpinState). M memory cog table hand (less f) d (HaltsFor hand Why.Deep)) (sym (is own ∙ deep-is own (omega (arith, ltb-false (length c.calls + 1) 128 shallow)))) (meets-halt (engine memory cog table hand) (less f) Why.Deep))
