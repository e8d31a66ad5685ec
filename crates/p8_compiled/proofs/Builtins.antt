-- Built-ins: what their bytecodes do is what the source says of them.
use Rattle.std.proofs.Common.{◌≡◌, refl, sym, ap, ap₂, subst, ◌∙◌, arith, ℕ, zero, suc, ◌+◌, ◌-◌, ◌*◌, ◌/◌, ◌%◌, ◌^◌, ◌≤◌, ◌==◌, Bool, true, false, if◌then◌else◌, List, [], ◌∷◌, ◌++◌, length, take, drop, None, append_assoc}
use Rattle.std.specs.Prelude.{not, slice_index}
use Rattle.std.proofs.Math.ListN.{length-append}
use Rattle.std.proofs.Math.Seq.{take-append_seam}
use Rattle.p8_access.specs.declared.kinds.Width.{Width}
use Rattle.p8_access.specs.declared.kinds.Width.TheVariants.{Byte}
use Rattle.p8_access.specs.declared.kinds.Reason.TheVariants as Why
use Rattle.p8_access.specs.declared.kinds.Test.{Test}
use Rattle.p8_access.specs.declared.kinds.Access.{Access}
use Rattle.p8_access.specs.declared.kinds.Access.TheVariants as access_case
use Rattle.p8_access.specs.Courses.{Course, Finish, Stop}
use Rattle.p8_tree.specs.declared.places.Place.{Place}
use Rattle.p8_bcog.specs.declared.marks.CallMark.{CallMark}
use Rattle.p8_bcog.specs.declared.state.SpinState.{SpinState}
use Rattle.p8_bcog.specs.declared.step.Callee as entry
use Rattle.p8_bcog.specs.declared.step.Given.{Given}
use Rattle.p8_bcog.specs.declared.step.Given.TheVariants.{Started}
use Rattle.p8_bcog.specs.Accesses.{ends, gets, is_readable}
use Rattle.p8_bcog.specs.Code.{is_method, method_at}
use Rattle.p8_bcog.specs.Operands.{operand}
use Rattle.p8_bcog.specs.Calls as calling
use Rattle.p8_bcog.specs.Cogs as cogs
use Rattle.p8_bcog.specs.Moves as moving
use Rattle.p8_meaning.specs.Doing.{Registers, Rest, asks, tells, reads, writes, next_address, word_in, writes_longs}
use Rattle.p8_meaning.specs.Builtins as builtins
use Rattle.p8_compiled.specs.Standing as standing
use Rattle.p8_compiled.proofs.Meets.{Reading, follows-if, follows-halts, follows-asks}
use Rattle.p8_compiled.proofs.Stack.{fine, operand-is, taken-is, top-dropped}
use Rattle.p8_compiled.proofs.Places.{Frame, at, left_on}
use Rattle.p8_compiled.proofs.Stepping.{engine, F}
use Rattle.p8_compiled.proofs.Calling.{follows-gives}

module _ (memory : List ℕ) (cog : ℕ) (table : List (ℕ × Place)) (hand : Place) (c : Frame) (q base : ℕ) (marks : List CallMark) (xs : List ℕ) (f : ℕ) (own : Registers) where
  abbrev e : Reading SpinState
  e = engine memory cog table hand

  abbrev st : SpinState
  st = at c q base marks xs own

  abbrev Leaves : (used : Bool) → (ℕ → Rest) → Type 0
  Leaves used go = (value : ℕ) → F memory cog table hand f own (Finish (at c q base marks (left_on used xs value) own)) (go value)

  abbrev Goes : Rest → Type 0
  Goes go = F memory cog table hand f own (Finish st) go

  pub word-follows : (used : Bool) (access : Access) (go : ℕ → Rest) → Leaves used go → F memory cog table hand f own (standing.word_if used access st) (asks access go)
  unfolding gets ends
  word-follows true access go m = follows-asks e access go (λ answer. m (word_in answer))
  word-follows false access go m = follows-asks e access go (λ answer. m (word_in answer))

  pub tells-follows : (access : Access) (go : Rest) → Goes go → F memory cog table hand f own (ends access None st) (tells access go)
  unfolding ends
  tells-follows access go m = follows-asks e access (λ word. go) (λ answer. m)

  pub measures-follow : (room address count : ℕ) (go : ℕ → Rest) → Leaves true go → F memory cog table hand f own (moving.counts room address count st) (builtins.measures room address count go)
  unfolding moving.counts
  measures-follow zero address count go m = record { meets = (follows-halts e {count = f} {f = f} {own = own} (Why.Rom (address % 2 ^ 16 / 1 * 1))).meets }
  measures-follow (suc room) address count go m = record {
    meets =
        (follows-asks e {count = f} {f = f} {own = own} _ (λ byte. if byte == 0 then go count else builtins.measures room (address + 1) (count + 1) go)
        (λ answer. follows-if e (word_in answer == 0) (m count) (measures-follow room (address + 1) (count + 1) go m))).meets;
  }

  pub compares-follow : (room first second : ℕ) (go : ℕ → Rest) → Leaves true go → F memory cog table hand f own (moving.compares room first second st) (builtins.compares room first second go)
  unfolding moving.compares
  compares-follow zero first second go m = record { meets = (follows-halts e {count = f} {f = f} {own = own} (Why.Rom (first % 2 ^ 16 / 1 * 1))).meets }
  compares-follow (suc room) first second go m = record {
    meets =
        (follows-asks e {count = f} {f = f} {own = own} _ (λ one. reads Byte second (λ other. if one == other then (if one == 0 then go (2 ^ 32 - 1) else builtins.compares room (first + 1) (second + 1) go) else go 0))
        (λ one. follows-if e (is_readable Byte second)
        (follows-asks e _ (λ other. if word_in one == other then (if word_in one == 0 then go (2 ^ 32 - 1) else builtins.compares room (first + 1) (second + 1) go) else go 0)
        (λ other. follows-if e (word_in one == word_in other) (follows-if e (word_in one == 0) (m (2 ^ 32 - 1)) (compares-follow room (first + 1) (second + 1) go m)) (m 0)))
        (follows-halts e _))).meets;
  }

  pub fills-follow : (left : ℕ) (width : Width) (address value : ℕ) (go : Rest) → Goes go → F memory cog table hand f own (moving.fills width address value left st) (builtins.fills width address value left go)
  unfolding moving.fills
  fills-follow zero width address value go m = record { meets = m.meets }
  fills-follow (suc left) width address value go m = record {
    meets =
        (follows-asks e {count = f} {f = f} {own = own} _ (λ word. builtins.fills width (next_address width address) value left go) (λ answer. fills-follow left width (next_address width address) value go m)).meets;
  }

  pub moves-follow : (left : ℕ) (width : Width) (to from : ℕ) (go : Rest) → Goes go → F memory cog table hand f own (moving.moves width to from left st) (builtins.moves width to from left go)
  unfolding moving.moves
  moves-follow zero width to from go m = record { meets = m.meets }
  moves-follow (suc left) width to from go m = record {
    meets =
        (follows-if e (is_readable width from)
        (follows-asks e {count = f} {f = f} {own = own} _ (λ word. writes width to word (builtins.moves width (next_address width to) (next_address width from) left go))
        (λ element. follows-asks e _ (λ word. builtins.moves width (next_address width to) (next_address width from) left go) (λ answer. moves-follow left width (next_address width to) (next_address width from) go m)))
        (follows-halts e _)).meets;
  }

  pub waits-follow : (port : ℕ) (test : Test) (go : Rest) → Goes go → F memory cog table hand f own (if port == 0 then ends (access_case.Wait test) None st else Stop Why.Port) (builtins.waits_for port test go)
  waits-follow port test go m = follows-if e (port == 0) (tells-follows (access_case.Wait test) go m) (follows-halts e Why.Port)

  -- ---- a start of a method: its arguments lie above the cog's number, and its stack above them
  module _ (low : base ≤ length xs) (id : ℕ) (arguments : List ℕ) (stack n : ℕ) (room : length xs + 1 ≤ 16384) (is_there : is_method memory c.pbase n ≡ true) where
    abbrev full : List ℕ
    full = ((xs ++ id ∷ []) ++ arguments) ++ stack ∷ []

    abbrev above : List ℕ
    above = id ∷ (arguments ++ stack ∷ [])

    full-is : full ≡ xs ++ above
    full-is = append_assoc (xs ++ id ∷ []) arguments (stack ∷ []) ∙ append_assoc xs (id ∷ []) (arguments ++ stack ∷ [])

    abbrev held : SpinState
    held = at c q base marks full own

    above-count : length above ≡ length arguments + 2
    above-count = omega (arith, length-append arguments (stack ∷ []))

    abbrev count : ℕ
    count = length arguments

    stack-is : operand held 0 ≡ stack
    stack-is = operand-is held ((xs ++ id ∷ []) ++ arguments) (stack ∷ []) 0 refl (omega arith)

    id-is : operand held (count + 1) ≡ id
    id-is = operand-is held xs above (count + 1) full-is (omega (arith, above-count))
        ∙ ap (slice_index above) (let z : length above - 1 - (count + 1) ≡ 0 = omega (arith, above-count) in z)

    arguments-are : take count (drop (length full - (count + 1)) full) ≡ arguments
    arguments-are =
        ap (λ (ys : List ℕ). take count (drop (length ys - (count + 1)) ys)) (append_assoc (xs ++ id ∷ []) arguments (stack ∷ []))
        ∙ ap (take count) (top-dropped (xs ++ id ∷ []) (arguments ++ stack ∷ []) (count + 1) (omega (arith, length-append arguments (stack ∷ []))))
        ∙ take-append_seam arguments (stack ∷ [])

    abbrev begun : entry.Callee
    begun = method_at memory c.pbase c.vbase n

    -- the access that starts the cog
    abbrev start_of : ℕ → ℕ → Access
    start_of number place = access_case.CogInit (cogs.target_of number) (cogs.spin_origin begun count place)

    pub start-follows : (go : ℕ → Rest) → Leaves true go → F memory cog table hand f own (cogs.start_method memory n count held) (writes_longs ((cogs.long_address stack + 4) % 2 ^ 16) arguments (asks (start_of id stack) go))
    unfolding cogs.start_method gets
    start-follows go m =
        let given : ℕ → ℕ → Given = λ number place. Started (cogs.target_of number) (cogs.spin_origin begun count place) (count + 2) in
        let after : ℕ → List ℕ → Given → Course SpinState = λ place values g. calling.gives ((cogs.long_address place + 4) % 2 ^ 16) values g held in
        let tests : cogs.start_method memory n count held ≡ after stack arguments (given id stack) =
        fine held xs above (count + 2) 1 _ full-is (omega (arith, above-count)) low room
        ∙ ap (λ (so : Bool). if not so then Stop Why.Table else after (operand held 0) (take count (drop (length full - (count + 1)) full)) (given (operand held (count + 1)) (operand held 0))) is_there
        ∙ ap₂ (λ place (values : List ℕ). after place values (given (operand held (count + 1)) place)) stack-is arguments-are
        ∙ ap (λ number. after stack arguments (given number stack)) id-is in
        subst (λ (d : Course SpinState). F memory cog table hand f own d (writes_longs ((cogs.long_address stack + 4) % 2 ^ 16) arguments (asks (start_of id stack) go))) (sym tests)
        (follows-gives memory cog table hand arguments ((cogs.long_address stack + 4) % 2 ^ 16) (given id stack) held f own (asks (start_of id stack) go)
        (follows-asks e (start_of id stack) go (λ answer. subst (λ (s : SpinState). F memory cog table hand f own (Finish (record s { stack = s.stack ++ word_in answer ∷ [] })) (go (word_in answer))) (sym (taken-is held xs above (count + 2) full-is (omega (arith, above-count)))) (m (word_in answer)))))
