-- Propeller Assembly starts Propeller Assembly alone.
use Rattle.std.proofs.Common.{◌≡◌, subst, arith, ℕ, zero, suc, ◌+◌, ◌*◌, ◌%◌, ◌<◌, ◌==◌, Bool, true, false, if◌then◌else◌, not, ◌&&◌, nat_le, nat_lt, List, [], ◌∷◌, ◌++◌, length, Option, Some, None}
use Rattle.p8_access.specs.declared.kinds.Width.{Width}
use Rattle.p8_access.specs.declared.kinds.Width.TheVariants.{Long}
use Rattle.p8_access.specs.declared.kinds.Reason.{Reason}
use Rattle.p8_access.specs.declared.kinds.Reason.TheVariants.{Opcode, Port}
use Rattle.p8_access.specs.declared.kinds.Access.TheVariants.{Read, Wait, Halt}
use Rattle.p8_access.specs.Windows.{window_of}
use Rattle.p8_access.specs.declared.kinds.Access.{Access}
use Rattle.p8_access.specs.declared.order.Turn.{Turn}
use Rattle.p8_access.specs.Lives.{Loaded, is_last}
use Rattle.p8_access.specs.Proper.{IsNumber, value_of}
use Rattle.p8_alu.specs.declared.effect.Effect.{Effect}
use Rattle.p8_alu.specs.Effects.{is_set}
use Rattle.p8_instr.specs.declared.instruction.Instr.{Instr}
use Rattle.p8_instr.specs.Instruction.{is_immediate, writes_result}
use Rattle.p8_cog.specs.declared.instruction_kind.InstructionKind.{InstructionKind}
use Rattle.p8_cog.specs.declared.instruction_kind.InstructionKind.TheVariants.{Skipped, Halting, OfHub, Waiting, Computing}
use Rattle.p8_cog.specs.declared.hub.Request.{Request}
use Rattle.p8_cog.specs.declared.state.PasmState.{PasmState}
use Rattle.p8_cog.specs.Instructions.{cnt_register, ina_register, outa_register, dira_register, ctra_register, hubop, clkset, cogid, coginit, cogstop, locknew, lockret, lockset, kind_of, width_of, source_access}
use Rattle.p8_cog.specs.Replay.{Course, Ask, Go, End, ask, halt, at_hand, next_of, fetched_before, passed, hub_address, test_of, destination_value, source_value, sourced_by, register_access, result_access, written_by, write, ends_after, effect, computed, compute, read_access, move_request, operation_request, hub_request, answered, use_hub, is_port_wait, wait, wait_effect, does, instruction, Outcome, Asks, Goes, Ends, played, step, after, loading, replayed, loaded_by}
use Rattle.p8_meaning.specs.Programs.{Program, Addresses}
use Rattle.p8_compiled.proofs.Starts.{StaysInProject}

module _ (program : Program) (addresses : Addresses) where
  -- an access that a life may ask
  record Good (access : Access) : Type 0 where
    starts : StaysInProject program addresses access

  abbrev GoodIf : Option Access → Type 0
  GoodIf None = Unit {0}
  GoodIf (Some access) = Good access

  record GoodOption (o : Option Access) : Type 0 where
    some : GoodIf o

  -- all accesses that a course may ask
  abbrev AllGood : Course → Type 0
  AllGood (Ask clock access go) = Good access × ((turn : Turn) → AllGood (go turn))
  AllGood (Go s) = Unit {0}
  AllGood End = Unit {0}

  record GoodCourse (course : Course) : Type 0 where
    all : AllGood course

  if-course : (b : Bool) {x y : Course} → GoodCourse x → GoodCourse y → GoodCourse (if b then x else y)
  if-course true h k = h
  if-course false h k = k

  if-option : (b : Bool) {x y : Option Access} → GoodOption x → GoodOption y → GoodOption (if b then x else y)
  if-option true h k = h
  if-option false h k = k

  if-access : (b : Bool) {x y : Access} → Good x → Good y → Good (if b then x else y)
  if-access true h k = h
  if-access false h k = k

  record GoodRequest (r : Request) : Type 0 where
    asks : Good r.access

  if-request : (b : Bool) {x y : Request} → GoodRequest x → GoodRequest y → GoodRequest (if b then x else y)
  if-request true h k = h
  if-request false h k = k

  if-number : (b : Bool) (n : ℕ) → IsNumber (if b then None else Some (n % 8))
  if-number true n = tt
  if-number false n = let below : n % 8 < 8 = omega arith in below

  nothing : GoodOption None
  nothing = record { some = tt }

  done : (s : PasmState) → GoodCourse (Go s)
  done s = record { all = tt }

  ended : GoodCourse End
  ended = record { all = tt }

  -- ---- what instructions ask

  source-good : (i : Instr) → GoodOption (source_access i)
  source-good i =
      if-option (is_immediate i) nothing
      (if-option (i.source == cnt_register) (record { some = record { starts = tt } })
      (if-option (i.source == ina_register) (record { some = record { starts = tt } }) nothing))

  register-good : (register result : ℕ) → GoodOption (register_access register result)
  register-good register result =
      if-option (register == outa_register) (record { some = record { starts = tt } })
      (if-option (register == dira_register) (record { some = record { starts = tt } })
      (if-option (nat_le ctra_register register && not (result == 0)) (record { some = record { starts = tt } }) nothing))

  result-good : (i : Instr) (result : ℕ) → GoodOption (result_access i result)
  result-good i result = if-option (writes_result i) (register-good i.dest result) nothing

  asks-good : (clock : ℕ) (access : Access) (go : Turn → Course) → Good access → ((turn : Turn) → GoodCourse (go turn)) → GoodCourse (Ask clock access go)
  asks-good clock access go h k = record { all = (h, λ turn. (k turn).all) }

  sourced-good : (o : Option Access) (clock : ℕ) (s : PasmState) (go : ℕ → Course) → GoodOption o → ((source : ℕ) → GoodCourse (go source)) → GoodCourse (sourced_by o clock s go)
  sourced-good None clock s go h k = k (source_value s)
  sourced-good (Some access) clock s go h k = asks-good clock access _ h.some (λ turn. k (value_of turn.answer))

  ask-good : (cog clock : ℕ) (access : Access) (go : Turn → Course) → Good access → ((turn : Turn) → GoodCourse (go turn)) → GoodCourse (ask cog clock access go)
  ask-good cog clock access go h k = asks-good clock access _ h (λ turn. if-course (is_last cog access) ended (k turn))

  written-good : (o : Option Access) (cog clock : ℕ) (next : PasmState) → GoodOption o → GoodCourse (written_by o cog clock next)
  written-good None cog clock next h = done next
  written-good (Some access) cog clock next h = ask-good cog clock access (λ turn. Go next) h.some (λ turn. done next)

  write-good : (cog : ℕ) (s : PasmState) (x : Effect) (clock : ℕ) (next : PasmState) → GoodCourse (write cog s x clock next)
  write-good cog s x clock next = written-good (result_access (at_hand s) x.result) cog clock next (result-good (at_hand s) x.result)

  ends-good : (cog : ℕ) (s : PasmState) (x : Effect) (clock : ℕ) → GoodCourse (ends_after cog s x clock)
  ends-good cog s x clock = write-good cog s x clock (fetched_before s x (next_of s) (clock + 1))

  operation-good : (operation value : ℕ) → GoodRequest (operation_request operation value)
  operation-good operation value =
      if-request (operation == clkset) (record { asks = if-access (is_set value 7) (record { starts = tt }) (record { starts = tt }) })
      (if-request (operation == cogid) (record { asks = record { starts = tt } })
      (if-request (operation == coginit) (record { asks = record { starts = (if-number (is_set value 3) value, tt) } })
      (if-request (operation == cogstop) (record { asks = record { starts = tt } })
      (if-request (operation == locknew) (record { asks = record { starts = tt } })
      (if-request (operation == lockret) (record { asks = record { starts = tt } })
      (if-request (operation == lockset) (record { asks = record { starts = tt } }) (record { asks = record { starts = tt } })))))))

  read-good : (width : Width) (address : ℕ) → Good (read_access width address)
  read-good width address = if-access (nat_lt address 32768) (record { starts = tt }) (record { starts = tt })

  move-good : (i : Instr) (width : Width) (value source : ℕ) → GoodRequest (move_request i width value source)
  move-good i width value source = if-request (writes_result i) (record { asks = read-good width (hub_address source width) }) (record { asks = record { starts = tt } })

  hub-good : (i : Instr) (value source : ℕ) → GoodRequest (hub_request i value source)
  hub-good i value source = if-request (i.opcode == hubop) (operation-good (source % 8) value) (move-good i (width_of i.opcode) value source)

  uses_hub-good : (cog : ℕ) (s : PasmState) (source : ℕ) → GoodCourse (use_hub cog s source)
  uses_hub-good cog s source =
      let r = hub_request (at_hand s) (destination_value s) source in
      ask-good cog (window_of cog (s.clock + 1)) r.access (λ turn. ends_after cog s (answered r.kept turn.answer) (turn.key.clock + 6)) (hub-good (at_hand s) (destination_value s) source).asks
      (λ turn. ends-good cog s (answered r.kept turn.answer) (turn.key.clock + 6))

  wait-good : (cog : ℕ) (s : PasmState) (source : ℕ) → GoodCourse (wait cog s source)
  wait-good cog s source =
      ask-good cog (s.clock + 4) (Wait (test_of (at_hand s).opcode (destination_value s) source)) (λ turn. ends_after cog s (wait_effect (at_hand s).opcode (destination_value s) source) (turn.key.clock + 1)) (record { starts = tt })
      (λ turn. ends-good cog s (wait_effect (at_hand s).opcode (destination_value s) source) (turn.key.clock + 1))

  halts-good : (clock : ℕ) (reason : Reason) → GoodCourse (halt clock reason)
  halts-good clock reason = asks-good clock (Halt reason) (λ turn. End) (record { starts = tt }) (λ turn. ended)

  does-good : (kind : InstructionKind) (cog : ℕ) (s : PasmState) → GoodCourse (does kind cog s)
  does-good Skipped cog s = done (passed s)
  does-good Halting cog s = halts-good s.clock (Opcode s.long)
  does-good OfHub cog s = sourced-good (source_access (at_hand s)) s.clock s (use_hub cog s) (source-good (at_hand s)) (uses_hub-good cog s)
  does-good Waiting cog s = if-course (is_port_wait s) (halts-good s.clock Port) (sourced-good (source_access (at_hand s)) (s.clock + 2) s (wait cog s) (source-good (at_hand s)) (wait-good cog s))
  does-good Computing cog s =
      sourced-good (source_access (at_hand s)) (s.clock + 2) s (compute cog s) (source-good (at_hand s)) (λ source. write-good cog s (effect s source) (s.clock + 3) (computed s source))

  loading-good : (l : Loaded) (to_come : ℕ) (longs : List ℕ) → GoodCourse (loading l to_come longs)
  unfolding loading
  loading-good l zero longs = record { all = tt }
  loading-good l (suc to_come) longs =
      asks-good (l.load + 16 * (length longs + 1)) (Read Long (l.code + 4 * length longs)) (λ turn. loading l to_come (longs ++ value_of turn.answer ∷ [])) (record { starts = tt })
      (λ turn. loading-good l to_come (longs ++ value_of turn.answer ∷ []))

  -- ---- what a life asks

  abbrev AsksGood : Outcome → Type 0
  AsksGood (Asks clock access) = Good access
  AsksGood (Goes s left) = Unit {0}
  AsksGood Ends = Unit {0}

  played-good : (course : Course) → AllGood course → (turns : List Turn) → AsksGood (played course turns)
  played-good (Ask clock access go) h [] = h.0
  played-good (Ask clock access go) h (turn ∷ left) = played-good (go turn) (h.1 turn) left
  played-good (Go s) h turns = tt
  played-good End h turns = tt

  step-good : (cog : ℕ) (o : Outcome) → AsksGood o → AsksGood (step cog o)
  step-good cog (Asks clock access) h = h
  step-good cog (Goes s left) h = played-good (instruction cog s) (does-good (kind_of (at_hand s) s.c s.z) cog s).all left
  step-good cog Ends h = tt

  after-good : (cog n : ℕ) (o : Outcome) → AsksGood o → AsksGood (after cog n o)
  unfolding after
  after-good cog zero o h = h
  after-good cog (suc n) o h = step-good cog (after cog n o) (after-good cog n o h)

  -- whatever it asks
  pub assembly-starts : (l : Loaded) (turns : List Turn) (n clock : ℕ) (access : Access) → replayed n l turns ≡ Asks clock access → StaysInProject program addresses access
  assembly-starts l turns n clock access asks = (subst AsksGood asks (after-good l.cog n (loaded_by l turns) (played-good (loading l 496 []) (loading-good l 496 []).all turns))).starts
