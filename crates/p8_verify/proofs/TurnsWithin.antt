-- Each turn of a history is within the limits of a record, where its world is of bytes.
use Rattle.std.proofs.Common.{◌≡◌, ◌∙◌, sym, ap, subst, refl, arith, cond, ℕ, suc, ◌+◌, ◌-◌, ◌*◌, ◌^◌, ◌<◌, ◌≤◌, ◌==◌, ◌&&◌, nat_le, nat_lt, not}
use Rattle.std.proofs.Common.{Bool, true, false, if◌then◌else◌}
use Rattle.std.proofs.Common.{bit_and, bit_xor, List, [], ◌∷◌, ◌++◌, slice_index, Option, Some, None, find}
use Rattle.std.specs.List.{All}
use Rattle.std.proofs.lemmas.Bool.{leb-true}
use Rattle.std.proofs.lemmas.List.Elements.{All-head, All-tail}
use Rattle.p8_access.specs.declared.kinds.Width.{Width}
use Rattle.p8_access.specs.declared.kinds.Width.TheVariants.{Byte, Word, Long}
use Rattle.p8_access.specs.declared.kinds.Origin.{Origin}
use Rattle.p8_access.specs.declared.kinds.Origin.TheVariants.{Pasm, Spin}
use Rattle.p8_access.specs.declared.kinds.Reason.TheVariants.{Rom}
use Rattle.p8_access.specs.declared.kinds.Access.{Access}
use Rattle.p8_access.specs.declared.kinds.Access.TheVariants.{Begin, Load, Read, Write, CogId, CogInit, CogStop, LockNew, LockRet, LockSet, LockClr}
use Rattle.p8_access.specs.declared.kinds.Access.TheVariants.{ClkSet, PinsIn, OutSet, DirSet, Wait, Clock, Halt}
use Rattle.p8_access.specs.declared.kinds.Answer.{Answer}
use Rattle.p8_access.specs.declared.kinds.Answer.TheVariants.{Done, Value, Number, Was}
use Rattle.p8_access.specs.declared.order.Key.{Key}
use Rattle.p8_access.specs.declared.order.Turn.{Turn}
use Rattle.p8_access.specs.Proper.{IsNumber, bytes_in}
use Rattle.p8_access.specs.Lives.{Begun, PasmBegun, SpinBegun}
use Rattle.p8_access.specs.declared.states.CogState.{CogState}
use Rattle.p8_access.specs.declared.states.CogState.TheVariants.{Stopped, Starting, Running}
use Rattle.p8_access.specs.Worlds.{World, Line, levels_after, level_at}
use Rattle.p8_access.specs.Hub.{or_else, cogs, locks, put_by, byte_at, value_at, read_at, is_number, is_stopped, is_taken, Change, Starts, Runs}
use Rattle.p8_access.specs.Hub.{Stops, change_by, change_of, changed, cog_state, origin_of}
use Rattle.p8_access.specs.Pins.{clears_by, outa_by, outa_of, dira_of, or_all, dira, outputs, pins_at}
use Rattle.p8_access.specs.Histories.{answer_to, first_access, is_begin, begins_life, begun_at, begun, since_begin, IsNextIn, Legal}
use Rattle.p8_cog.specs.Lives.{asks}
use Rattle.p8_verify.specs.Table.{IsOriginWithin, IsAccessWithin, IsAnswerWithin, IsWithin}
use Rattle.p8_verify.specs.Bytes.{IsOfBytes}
use Rattle.p8_verify.proofs.Words.{and-word, or-word}
use Rattle.p8_verify.proofs.Decoded.{IsByte}
use Rattle.p8_verify.proofs.Limits.{AreAnswered}
use Rattle.p8_verify.proofs.SpinWithin.{bytecodes-within}
use Rattle.p8_verify.proofs.PasmWithin.{instructions-within}

abbrev pub AreWithin : List Turn → Type 0
AreWithin [] = Unit {0}
AreWithin (turn ∷ past) = IsWithin turn × AreWithin past

-- ---- what the hub answers

index-byte : (xs : List ℕ) (k : ℕ) → All IsByte xs → slice_index xs k < 256
index-byte [] k all = omega arith
index-byte (x ∷ xs) ℕ.zero all = All-head IsByte x xs all
index-byte (x ∷ xs) (suc k) all = index-byte xs k (All-tail IsByte x xs all)

-- what knows a number knows one below this
abbrev Below : (most : ℕ) → Option ℕ → Type 0
Below most None = Unit {0}
Below most (Some n) = n < most

below-if : (most : ℕ) (b : Bool) (x y : Option ℕ) → Below most x → Below most y → Below most (if b then x else y)
below-if most true x y h k = h
below-if most false x y h k = k

else-below : (most : ℕ) (o : Option ℕ) (n : ℕ) → Below most o → n < most → or_else o n < most
else-below most None n h k = k
else-below most (Some m) n h k = h

put-below : (access : Access) (a : ℕ) → Below 256 (put_by access a)
put-below (Write width address value) a = below-if 256 (nat_lt a address) _ _ tt (below-if 256 (nat_lt a (address + bytes_in width)) _ _ (omega arith) tt)
put-below _ a = tt

module _ (w : World) (of : IsOfBytes w) where
  byte-below : (past : List Turn) (a : ℕ) → byte_at w past a < 256
  byte-below [] a = index-byte w.memory a of.memory
  byte-below (turn ∷ past) a = else-below 256 (put_by turn.access a) (byte_at w past a) (put-below turn.access a) (byte-below past a)

  value-below : (past : List Turn) (width : Width) (a : ℕ) → value_at w past width a < 2 ^ 32
  value-below past Byte a = let x = byte-below past a in omega (arith, x)
  value-below past Word a = let x = byte-below past a in let y = byte-below past (a + 1) in omega (arith, x, y)
  value-below past Long a =
      let x = byte-below past a in
      let y = byte-below past (a + 1) in
      let z = byte-below past (a + 2) in
      let u = byte-below past (a + 3) in omega (arith, x, y, z, u)

  read-below : (past : List Turn) (width : Width) (a : ℕ) → read_at w past width a < 2 ^ 32
  read-below past width a = at (nat_lt a 32768)
    where
      at : (b : Bool) → (if b then value_at w past width a else 0) < 2 ^ 32
      at true = value-below past width a
      at false = omega arith

-- ---- cogs and locks that are found

abbrev AllBelow : List ℕ → Type 0
AllBelow [] = Unit {0}
AllBelow (n ∷ ns) = (n < 8) × AllBelow ns

found-by : (b : Bool) (n : ℕ) (rest : Option ℕ) → n < 8 → IsNumber rest → IsNumber (cond b (Some n) rest)
found-by true n rest h k = h
found-by false n rest h k = k

found-below : (test : ℕ → Bool) (ns : List ℕ) → AllBelow ns → IsNumber (find test ns)
found-below test [] h = tt
found-below test (n ∷ ns) h = found-by (test n) n (find test ns) h.0 (found-below test ns h.1)

eight-below : AllBelow cogs
eight-below = (omega arith, (omega arith, (omega arith, (omega arith, (omega arith, (omega arith, (omega arith, (omega arith, tt))))))))

-- ---- the pins

clears-below : (n cog : ℕ) (access : Access) (answer : Answer) → Below (2 ^ 32) (clears_by n cog access answer)
clears-below n cog (CogInit target origin) answer = below-if (2 ^ 32) (is_number n answer) _ _ (omega arith) tt
clears-below n cog (CogStop target) answer = below-if (2 ^ 32) (target == n) _ _ (omega arith) tt
clears-below n cog (Halt reason) answer = below-if (2 ^ 32) (cog == n) _ _ (omega arith) tt
clears-below n cog _ answer = tt

outa-known : (n cog : ℕ) (access : Access) (answer : Answer) → IsAccessWithin access → Below (2 ^ 32) (outa_by n cog access answer)
outa-known n cog (OutSet value) answer h = below-if (2 ^ 32) (cog == n) _ _ h tt
outa-known n cog Begin answer h = clears-below n cog Begin answer
outa-known n cog Load answer h = clears-below n cog Load answer
outa-known n cog (Read width address) answer h = clears-below n cog (Read width address) answer
outa-known n cog (Write width address value) answer h = clears-below n cog (Write width address value) answer
outa-known n cog CogId answer h = clears-below n cog CogId answer
outa-known n cog (CogInit target origin) answer h = clears-below n cog (CogInit target origin) answer
outa-known n cog (CogStop target) answer h = clears-below n cog (CogStop target) answer
outa-known n cog LockNew answer h = clears-below n cog LockNew answer
outa-known n cog (LockRet lock) answer h = clears-below n cog (LockRet lock) answer
outa-known n cog (LockSet lock) answer h = clears-below n cog (LockSet lock) answer
outa-known n cog (LockClr lock) answer h = clears-below n cog (LockClr lock) answer
outa-known n cog (ClkSet mode) answer h = clears-below n cog (ClkSet mode) answer
outa-known n cog PinsIn answer h = clears-below n cog PinsIn answer
outa-known n cog (DirSet value) answer h = clears-below n cog (DirSet value) answer
outa-known n cog (Wait test) answer h = clears-below n cog (Wait test) answer
outa-known n cog Clock answer h = clears-below n cog Clock answer
outa-known n cog (Halt reason) answer h = clears-below n cog (Halt reason) answer

outa-word : (past : List Turn) (n : ℕ) → AreWithin past → outa_of past n < 2 ^ 32
outa-word [] n are = omega arith
outa-word (turn ∷ past) n are =
    else-below (2 ^ 32) (outa_by n turn.key.cog turn.access turn.answer) (outa_of past n)
    (outa-known n turn.key.cog turn.access turn.answer are.0.access) (outa-word past n are.1)

or-all-word : (f : ℕ → ℕ) (ns : List ℕ) → ((n : ℕ) → f n < 2 ^ 32) → or_all f ns < 2 ^ 32
or-all-word f [] h = omega arith
or-all-word f (n ∷ ns) h = or-word (f n) (or_all f ns) (h n) (or-all-word f ns h)

outputs-word : (past : List Turn) → AreWithin past → outputs past < 2 ^ 32
unfolding outputs
outputs-word past are = or-all-word _ cogs (λ n. and-word (outa_of past n) (dira_of past n) (outa-word past n are))

level-if : (b : Bool) (x y : ℕ) → x < 2 ^ 32 → y < 2 ^ 32 → (if b then x else y) < 2 ^ 32
level-if true x y h k = h
level-if false x y h k = k

levels-word : (before : ℕ) (lines : List Line) (clock : ℕ) → before < 2 ^ 32 → All (λ line. line.levels < 2 ^ 32) lines →
    levels_after before lines clock < 2 ^ 32
levels-word before [] clock h all = h
levels-word before (line ∷ lines) clock h all =
    level-if (nat_le line.clock clock) _ before
    (levels-word line.levels lines clock (All-head (λ line. line.levels < 2 ^ 32) line lines all) (All-tail (λ line. line.levels < 2 ^ 32) line lines all)) h

pins-word : (w : World) → IsOfBytes w → (past : List Turn) (clock : ℕ) → AreWithin past → pins_at w past clock < 2 ^ 32
pins-word w of past clock are =
    or-word (outputs past) (bit_and (level_at w.script clock) (bit_xor (dira past) (2 ^ 32 - 1))) (outputs-word past are)
    (and-word (level_at w.script clock) (bit_xor (dira past) (2 ^ 32 - 1)) (levels-word 0 w.script clock (omega arith) of.script))

-- ---- answers

answer-within : (w : World) → IsOfBytes w → (past : List Turn) → AreWithin past → (key : Key) (access : Access) → key.cog < 8 → IsAccessWithin access →
    IsAnswerWithin (answer_to w past key access)
answer-within w of past are key (Read width address) eight h = read-below w of past width address
answer-within w of past are key CogId eight h = omega (arith, eight)
answer-within w of past are key (CogInit (Some target) origin) eight h = h.0
answer-within w of past are key (CogInit None origin) eight h = found-below (λ n. is_stopped (cog_state w past n)) cogs eight-below
answer-within w of past are key LockNew eight h = found-below (λ lock. not (is_taken past lock)) locks eight-below
answer-within w of past are key (LockSet lock) eight h = tt
answer-within w of past are key (LockClr lock) eight h = tt
answer-within w of past are key PinsIn eight h = pins-word w of past key.clock are
answer-within w of past are key Clock eight h = omega arith
answer-within w of past are key _ eight h = tt

-- ---- what runs in a cog

-- Propeller Assembly whose longs stand in hub RAM
abbrev IsInRam : Origin → Type 0
IsInRam (Pasm code par) = code + 4 * 496 ≤ 32768
IsInRam (Spin entry pbase vbase frame size) = Unit {0}

abbrev CogIs : ℕ → CogState → Type 0
CogIs n Stopped = Unit {0}
CogIs n (Starting since origin) = (n < 8) × IsOriginWithin origin
CogIs n (Running origin) = (n < 8) × IsOriginWithin origin × IsInRam origin

-- a change of such a cog to one
abbrev Turns : ℕ → CogState → Option Change → Type 0
Turns n state None = Unit {0}
Turns n state (Some (Starts since origin)) = (n < 8) × IsOriginWithin origin
Turns n state (Some Runs) = CogIs n (Running (origin_of state))
Turns n state (Some Stops) = Unit {0}

changed-is : (n : ℕ) (state : CogState) (o : Option Change) → CogIs n state → Turns n state o → CogIs n (changed state o)
changed-is n state None is turns = is
changed-is n state (Some (Starts since origin)) is turns = turns
changed-is n state (Some Runs) is turns = turns
changed-is n state (Some Stops) is turns = turns

turns-if : (n : ℕ) (state : CogState) (b : Bool) (o : Option Change) → (b ≡ true → Turns n state o) → Turns n state (if b then o else None)
turns-if n state true o h = h refl
turns-if n state false o h = tt

-- a cog that an answer names
named-below : (n : ℕ) (answer : Answer) → is_number n answer ≡ true → IsAnswerWithin answer → n < 8
named-below n (Number (Some m)) e h = let same : m ≡ n = same-number m n e in omega (arith, same, h)
  where
    same-number : (m n : ℕ) → (m == n) ≡ true → m ≡ n
    same-number m n e = grind arith
named-below n (Number None) e h = absurd cc
named-below n Done e h = absurd cc
named-below n (Value value) e h = absurd cc
named-below n (Was set) e h = absurd cc

-- what a life begins with
abbrev IsLife : World → Begun → Type 0
IsLife w (PasmBegun loaded) = (loaded.code + 4 * 496 ≤ 32768) × (loaded.par < 2 ^ 32)
IsLife w (SpinBegun entered) = (entered.memory ≡ w.memory) × (entered.cog < 8) × IsOriginWithin entered.origin

-- the life of a cog, where it has one
abbrev LivesIn : World → List Turn → ℕ → Type 0
LivesIn w past n = (life : Begun) → begun w past n ≡ Some life → IsLife w life

begun-is : (w : World) (n clock : ℕ) (origin : Origin) → n < 8 → IsOriginWithin origin → IsInRam origin → IsLife w (begun_at w n clock origin)
begun-is w n clock (Pasm code par) eight h fits = (fits, let low = h.1 in omega (arith, low))
begun-is w n clock (Spin entry pbase vbase frame size) eight h fits = (refl, eight, h)

-- ---- a turn that comes next

load-fits : (code par : ℕ) (b : Bool) → nat_le (code + 4 * 496) 32768 ≡ b → is_begin (if b then Load else Halt (Rom 32768)) ≡ true → code + 4 * 496 ≤ 32768
load-fits code par true e begins = leb-true (code + 4 * 496) 32768 e
load-fits code par false e begins = absurd cc

first-fits : (origin : Origin) → is_begin (first_access origin) ≡ true → IsInRam origin
first-fits (Pasm code par) begins = load-fits code par (nat_le (code + 4 * 496) 32768) refl begins
first-fits (Spin entry pbase vbase frame size) begins = tt

load-within : (b : Bool) → IsAccessWithin (if b then Load else Halt (Rom 32768))
load-within true = tt
load-within false = omega arith

first-within : (origin : Origin) → IsAccessWithin (first_access origin)
first-within (Pasm code par) = load-within (nat_le (code + 4 * 496) 32768)
first-within (Spin entry pbase vbase frame size) = tt

answered-push : (turns : List Turn) (turn : Turn) → AreAnswered turns → IsAnswerWithin turn.answer → AreAnswered (turns ++ turn ∷ [])
answered-push [] turn are is = (is, tt)
answered-push (first ∷ turns) turn are is = (are.0, answered-push turns turn are.1 is)

since-if : (begins own : Bool) (turns : List Turn) (turn : Turn) → AreAnswered turns → IsAnswerWithin turn.answer →
    AreAnswered (if begins then [] else (if own then turns ++ turn ∷ [] else turns))
since-if true own turns turn are is = tt
since-if false true turns turn are is = answered-push turns turn are is
since-if false false turns turn are is = are

since-answered : (past : List Turn) (n : ℕ) → AreWithin past → AreAnswered (since_begin past n)
since-answered [] n are = tt
since-answered (turn ∷ past) n are = since-if (begins_life n turn) (turn.key.cog == n) (since_begin past n) turn (since-answered past n are.1) are.0.answer

asked-within : (w : World) → IsOfBytes w → (life : Begun) → IsLife w life → (turns : List Turn) → AreAnswered turns → (clock : ℕ) (access : Access) →
    asks life turns clock access → IsAccessWithin access
asked-within w of (PasmBegun loaded) is turns answered clock access asked = instructions-within loaded is.0 is.1 turns answered asked.0 clock access asked.1
asked-within w of (SpinBegun entered) is turns answered clock access asked =
    bytecodes-within entered (subst (All IsByte) (sym is.0) of.memory) is.1 is.2 turns answered asked.0 clock access asked.1

-- of a cog in each of its states: which cog it is, and what it does next
next-within : (w : World) → IsOfBytes w → (past : List Turn) → AreWithin past → (n : ℕ) (state : CogState) → CogIs n state → LivesIn w past n →
    (clock : ℕ) (access : Access) → IsNextIn asks w past n state clock access
    → (n < 8) × IsAccessWithin access × (is_begin access ≡ true → CogIs n (Running (origin_of state)))
next-within w of past are n Stopped is lives clock access next = absurd next
next-within w of past are n (Starting since origin) is lives clock access next =
    (is.0, subst IsAccessWithin (sym next.1) (first-within origin), λ begins. (is.0, is.1, first-fits origin (ap is_begin (sym next.1) ∙ begins)))
next-within w of past are n (Running origin) is lives clock access next = (
  is.0,
  asked-within w of next.life (lives next.life next.began) (since_begin past n)
      (since-answered past n are) next.earliest access next.asks,
  λ begins. is,
)

-- what it does to each cog
turn-turns : (n cog clock : ℕ) (state : CogState) (access : Access) (answer : Answer) → IsAccessWithin access → IsAnswerWithin answer
    → ((cog == n) ≡ true → is_begin access ≡ true → CogIs n (Running (origin_of state))) → Turns n state (change_by n clock cog access answer)
turn-turns n cog clock state (CogInit target origin) answer h is runs = turns-if n state (is_number n answer) _ (λ e. (named-below n answer e is, h.1))
turn-turns n cog clock state Begin answer h is runs = turns-if n state (cog == n) _ (λ e. runs e refl)
turn-turns n cog clock state Load answer h is runs = turns-if n state (cog == n) _ (λ e. runs e refl)
turn-turns n cog clock state (CogStop target) answer h is runs = turns-if n state (target == n) _ (λ e. tt)
turn-turns n cog clock state (Halt reason) answer h is runs = turns-if n state (cog == n) _ (λ e. tt)
turn-turns n cog clock state _ answer h is runs = tt

same-cog : (m n : ℕ) → (m == n) ≡ true → m ≡ n
same-cog m n e = grind arith

-- ---- a history

-- all of it is within limits, and so is each cog after it
record Stands (w : World) (past : List Turn) : Type 0 where
  turns : AreWithin past
  cogs : (n : ℕ) → CogIs n (cog_state w past n)
  lives : (n : ℕ) → LivesIn w past n

begun-if : (w : World) (b : Bool) (first : Begun) (o : Option Begun) → (b ≡ true → IsLife w first) → ((life : Begun) → o ≡ Some life → IsLife w life)
    → (life : Begun) → (if b then Some first else o) ≡ Some life → IsLife w life
begun-if w true first o h k life e = let same : first ≡ life = cc in subst (IsLife w) same (h refl)
begun-if w false first o h k life e = k life e

and-both : (a b : Bool) → (a && b) ≡ true → (a ≡ true) × (b ≡ true)
and-both true b e = (refl, e)
and-both false b e = absurd cc

first-cog : (n : ℕ) (b : Bool) (origin : Origin) → (n == 0) ≡ b → IsOriginWithin origin → CogIs n (if b then Starting 0 origin else Stopped)
first-cog n true origin e h = let zero : n ≡ 0 = same-cog n 0 e in (omega (arith, zero), h)
first-cog n false origin e h = tt

none-begun : (w : World) (life : Begun) → None ≡ Some life → IsLife w life
none-begun w life e = absurd cc

stands : (w : World) → IsOfBytes w → w.clocks ≤ 2 ^ 32 → (past : List Turn) → Legal asks w past → Stands w past
stands w of few [] legal = record { turns = tt; cogs = λ n. first-cog n (n == 0) w.first refl of.first; lives = λ n life e. none-begun w life e }
stands w of few (turn ∷ past) legal =
    let before = stands w of few past legal.0 in
    let cog = turn.key.cog in
    let next = next-within w of past before.turns cog (cog_state w past cog) (before.cogs cog)
    (before.lives cog) turn.key.clock turn.access legal.1.next.next in
    let answer : IsAnswerWithin turn.answer = subst IsAnswerWithin (sym legal.1.answer)
    (answer-within w of past before.turns turn.key turn.access next.0 next.1) in
    let runs : (n : ℕ) → (cog == n) ≡ true → is_begin turn.access ≡ true → CogIs n (Running (origin_of (cog_state w past n))) =
    λ n e begins. subst (λ m. CogIs m (Running (origin_of (cog_state w past m)))) (same-cog cog n e) (next.2 begins) in
    record {
      turns = (record { clock = let low = legal.1.next.below in omega (arith, low, few); cog = next.0; access = next.1; answer = answer }, before.turns);
      cogs =
          λ n. changed-is n (cog_state w past n) (change_of n turn) (before.cogs n)
          (turn-turns n cog turn.key.clock (cog_state w past n) turn.access turn.answer next.1 answer (runs n));
      lives = λ n. begun-if w (begins_life n turn) (begun_at w n turn.key.clock (origin_of (cog_state w past n))) (begun w past n)
          (λ e.
          let both = and-both (cog == n) (is_begin turn.access) e in
          let is = runs n both.0 both.1 in
          begun-is w n turn.key.clock (origin_of (cog_state w past n)) is.0 is.1 is.2)
          (before.lives n);
    }

pub turns-within : (w : World) → IsOfBytes w → w.clocks ≤ 2 ^ 32 → (past : List Turn) → Legal asks w past → AreWithin past
turns-within w of few past legal = (stands w of few past legal).turns
