-- In a history of a world that begins with a project, each cog runs Propeller Assembly or a method of the project, and a life of Spin follows its
-- turns.
use Rattle.std.proofs.Common.{◌≡◌, ◌⊎◌, inl, inr, refl, sym, ap, subst, ◌∙◌, arith, cond, ℕ, suc, ◌+◌, ◌*◌, ◌<◌, ◌==◌, ◌&&◌, nat_le, Bool, true, false, if◌then◌else◌, List, [], ◌∷◌, ◌++◌, map, Option, Some, None, find}
use Rattle.std.specs.Prelude.{All}
use Rattle.p8_access.specs.declared.kinds.Origin.{Origin}
use Rattle.p8_access.specs.declared.kinds.Origin.TheVariants.{Pasm, Spin}
use Rattle.p8_access.specs.declared.kinds.Reason.TheVariants.{Rom}
use Rattle.p8_access.specs.declared.kinds.Access.{Access}
use Rattle.p8_access.specs.declared.kinds.Access.TheVariants.{Begin, Load, Read, Write, CogId, CogInit, CogStop, LockNew, LockRet, LockSet, LockClr, ClkSet, PinsIn, OutSet, DirSet, Wait, Clock, Halt}
use Rattle.p8_access.specs.declared.kinds.Answer.{Answer}
use Rattle.p8_access.specs.declared.kinds.Answer.TheVariants.{Number}
use Rattle.p8_access.specs.declared.order.Turn.{Turn}
use Rattle.p8_access.specs.Proper.{IsNumber}
use Rattle.p8_access.specs.Lives.{Begun}
use Rattle.p8_bcog.specs.Replay.{engine_of, enters_at, first_of}
use Rattle.p8_access.specs.declared.states.CogState.{CogState}
use Rattle.p8_access.specs.declared.states.CogState.TheVariants.{Stopped, Starting, Running}
use Rattle.p8_access.specs.Worlds.{World}
use Rattle.p8_access.specs.Hub.{cogs, is_number, is_stopped, stopped_cog, Change, Starts, Runs, Stops, change_by, change_of, changed, cog_state, origin_of}
use Rattle.p8_access.specs.Histories.{answer_to, first_access, is_begin, begins_life, begun_at, begun, since_begin, IsNextRunning, IsNextIn, Extends, Legal}
use Rattle.p8_access.proofs.Nexts.{due-late, due-on_time, some-injective}
use Rattle.p8_access.proofs.Changes.{decided, same-cog, picked, runs-begins, none-begins, begun-same, begun-new, since_begin-new, since_begin-own, since_begin-other}
use Rattle.p8_cog.specs.Lives.{asks}
use Rattle.p8_meaning.specs.Programs.{Program, Addresses, Target}
use Rattle.p8_meaning.specs.Lives.{IsMethodOrigin}
use Rattle.p8_compiled.specs.Told.{access_of, IsWorldOf}
use Rattle.p8_compiled.proofs.Starts.{StaysInProject, IsOfProject}
use Rattle.p8_compiled.proofs.Following.{Follows, follows-none, follows-more, map-push}
use Rattle.p8_compiled.proofs.Assembly.{assembly-starts}
use Rattle.p8_compiled.proofs.SpinLives.{CodeIsTold, bytecodes-paced, follows-starts}

-- ---- what turns do

-- a cog is started by a CogInit that answered it
pub starts-are : (n clock cog : ℕ) (access : Access) (answer : Answer) (since : ℕ) (origin : Origin) → change_by n clock cog access answer ≡ Some (Starts since origin) →
    (target : Option ℕ) × (access ≡ CogInit target origin) × (is_number n answer ≡ true)
starts-are n clock cog (CogInit target o) answer since origin e =
    let p = picked (is_number n answer) _ _ e in
    let same : o ≡ origin = cc in
    (target, ap (CogInit target) same, p.0)
starts-are n clock cog Begin answer since origin e = let p = picked (cog == n) _ _ e in absurd cc
starts-are n clock cog Load answer since origin e = let p = picked (cog == n) _ _ e in absurd cc
starts-are n clock cog (CogStop target) answer since origin e = let p = picked (target == n) _ _ e in absurd cc
starts-are n clock cog (Halt reason) answer since origin e = let p = picked (cog == n) _ _ e in absurd cc
starts-are n clock cog (Read width address) answer since origin e = absurd cc
starts-are n clock cog (Write width address value) answer since origin e = absurd cc
starts-are n clock cog CogId answer since origin e = absurd cc
starts-are n clock cog LockNew answer since origin e = absurd cc
starts-are n clock cog (LockRet lock) answer since origin e = absurd cc
starts-are n clock cog (LockSet lock) answer since origin e = absurd cc
starts-are n clock cog (LockClr lock) answer since origin e = absurd cc
starts-are n clock cog (ClkSet mode) answer since origin e = absurd cc
starts-are n clock cog PinsIn answer since origin e = absurd cc
starts-are n clock cog (OutSet value) answer since origin e = absurd cc
starts-are n clock cog (DirSet value) answer since origin e = absurd cc
starts-are n clock cog (Wait test) answer since origin e = absurd cc
starts-are n clock cog Clock answer since origin e = absurd cc

-- the first turn of a start starts no cog
loaded-not : (fits : Bool) (target : Option ℕ) (origin : Origin) → (if fits then Load else Halt (Rom 32768)) ≡ CogInit target origin → ⊥
loaded-not true target origin e = absurd cc
loaded-not false target origin e = absurd cc

first-not : (first : Origin) (target : Option ℕ) (origin : Origin) → first_access first ≡ CogInit target origin → ⊥
first-not (Pasm code par) target origin e = loaded-not (nat_le (code + 4 * 496) 32768) target origin e
first-not (Spin entry pbase vbase frame size) target origin e = absurd cc

pub and-left : (a b : Bool) → (a && b) ≡ true → a ≡ true
and-left true b e = refl
and-left false b e = e

-- the lowest stopped cog is one of eight
abbrev AllBelow : List ℕ → Type 0
AllBelow [] = Unit {0}
AllBelow (n ∷ ns) = (n < 8) × AllBelow ns

found-by : (b : Bool) (n m : ℕ) (rest : Option ℕ) → n < 8 → (rest ≡ Some m → m < 8) → cond b (Some n) rest ≡ Some m → m < 8
found-by true n m rest lt later e = let same : n ≡ m = cc in omega (arith, lt, same)
found-by false n m rest lt later e = later e

found-below : (test : ℕ → Bool) (ns : List ℕ) → AllBelow ns → (m : ℕ) → find test ns ≡ Some m → m < 8
found-below test [] h m e = absurd cc
found-below test (n ∷ ns) h m e = found-by (test n) n m (find test ns) h.0 (found-below test ns h.1 m) e

cogs-below : AllBelow cogs
cogs-below = (omega arith, (omega arith, (omega arith, (omega arith, (omega arith, (omega arith, (omega arith, (omega arith, tt))))))))

number-is : (n : ℕ) (o : Option ℕ) → is_number n (Number o) ≡ true → o ≡ Some n
number-is n None e = absurd cc
number-is n (Some m) e = ap Some (same-cog m n e)

-- a method's origin
method-of_project : (program : Program) (addresses : Addresses) (origin : Origin) (target : Target) (frame : ℕ) → IsMethodOrigin program addresses origin target frame → IsOfProject program addresses origin
method-of_project program addresses (Pasm code par) target frame h = tt
method-of_project program addresses (Spin entry pbase vbase first size) target frame h = record { target = target; frame = frame; is_method = h }

last-holds : (P : Access → Type 0) (xs : List Access) (x : Access) → All P (xs ++ x ∷ []) → P x
last-holds P [] x h = h 0 x (omega arith)
last-holds P (y ∷ ys) x h = last-holds P ys x (λ k d lt. h (suc k) d (omega (arith, lt)))

module _ (program : Program) (addresses : Addresses) (w : World) (world : IsWorldOf program addresses w) (code : (cog : ℕ) → cog < 8 → CodeIsTold program addresses w.memory cog) where
  -- a life after its begin follows its turns
  abbrev pub LifeOf : (n clock : ℕ) → Origin → List Turn → Type 0
  LifeOf n clock (Pasm code par) turns = Unit {0}
  LifeOf n clock (Spin entry pbase vbase frame size) turns =
      Follows (engine_of w.memory n) (clock + 8192) (enters_at (first_of (Spin entry pbase vbase frame size))) w.clocks turns

  pub life-none : (n clock : ℕ) (origin : Origin) → LifeOf n clock origin []
  life-none n clock (Pasm code par) = tt
  life-none n clock (Spin entry pbase vbase frame size) = follows-none (engine_of w.memory n) (clock + 8192) (enters_at (first_of (Spin entry pbase vbase frame size))) w.clocks

  -- what runs in a cog, by its state
  pub record Runs_in (past : List Turn) (n : ℕ) (origin : Origin) : Type 0 where
    pub clock : ℕ
    pub is_begun : begun w past n ≡ Some (begun_at w n clock origin)
    pub life : LifeOf n clock origin (since_begin past n)

  abbrev pub CogIs : List Turn → ℕ → CogState → Type 0
  CogIs past n Stopped = Unit {0}
  CogIs past n (Starting since origin) = (n < 8) × IsOfProject program addresses origin
  CogIs past n (Running origin) = (n < 8) × IsOfProject program addresses origin × Runs_in past n origin

  abbrev pub CogsAre : List Turn → Type 0
  CogsAre past = (n : ℕ) → CogIs past n (cog_state w past n)

  -- ---- one turn of a running cog

  module _ (past : List Turn) (turn : Turn) (n : ℕ) (below : turn.key.clock < w.clocks) where
    spin-more : (entry pbase vbase frame size : ℕ) (run : Runs_in past n (Spin entry pbase vbase frame size)) → (next : IsNextRunning asks w past n turn.key.clock turn.access) → LifeOf n run.clock (Spin entry pbase vbase frame size) (since_begin past n ++ turn ∷ [])
    spin-more entry pbase vbase frame size run next =
        let life : next.life ≡ begun_at w n run.clock (Spin entry pbase vbase frame size) = some-injective _ _ (sym next.began ∙ run.is_begun) in
        let asked = subst (λ (b : Begun). asks b (since_begin past n) next.earliest turn.access) life next.asks in
        follows-more (engine_of w.memory n) (run.clock + 8192) (enters_at (first_of (Spin entry pbase vbase frame size))) (bytecodes-paced w.memory) w.clocks (since_begin past n) turn asked.0 next.earliest asked.1
        (due-on_time w past n turn.access next.earliest turn.key.clock next.due) (due-late w past n turn.access next.earliest turn.key.clock next.due) below run.life

    pub life-more : (origin : Origin) (run : Runs_in past n origin) → (next : IsNextRunning asks w past n turn.key.clock turn.access) → LifeOf n run.clock origin (since_begin past n ++ turn ∷ [])
    life-more (Pasm code par) run next = tt
    life-more (Spin entry pbase vbase frame size) run next = spin-more entry pbase vbase frame size run next

    -- what it asks
    pub running-starts : (origin : Origin) → n < 8 → IsOfProject program addresses origin → Runs_in past n origin → IsNextRunning asks w past n turn.key.clock turn.access → StaysInProject program addresses turn.access
    running-starts (Pasm pcode par) lt of_project run next =
        let life : next.life ≡ begun_at w n run.clock (Pasm pcode par) = some-injective _ _ (sym next.began ∙ run.is_begun) in
        let asked = subst (λ (b : Begun). asks b (since_begin past n) next.earliest turn.access) life next.asks in
        assembly-starts program addresses _ (since_begin past n) asked.0 next.earliest turn.access asked.1
    running-starts (Spin entry pbase vbase frame size) lt of_project run next =
        last-holds (StaysInProject program addresses) (map access_of (since_begin past n)) turn.access
        (subst (All (StaysInProject program addresses)) (map-push access_of (since_begin past n) turn)
        (follows-starts program addresses w.memory n (world.placed n lt) world.fits (code n lt) (run.clock + 8192) w.clocks (Spin entry pbase vbase frame size) of_project (since_begin past n ++ turn ∷ []) (spin-more entry pbase vbase frame size run next)))

  -- ---- one turn more

  module _ (past : List Turn) (are : CogsAre past) (turn : Turn) (extends : Extends asks w past turn) where
    abbrev below : turn.key.clock < w.clocks
    below = extends.next.below

    next-of : (n : ℕ) → turn.key.cog ≡ n → IsNextIn asks w past n (cog_state w past n) turn.key.clock turn.access
    next-of n own = subst (λ (m : ℕ). IsNextIn asks w past m (cog_state w past m) turn.key.clock turn.access) own extends.next.next

    -- a cog that it starts
    start-by : (state : CogState) → CogIs past turn.key.cog state → IsNextIn asks w past turn.key.cog state turn.key.clock turn.access → (target : Option ℕ) (origin : Origin) → turn.access ≡ CogInit target origin → IsNumber target × IsOfProject program addresses origin
    start-by Stopped is next target origin e = absurd next
    start-by (Starting since o) is next target origin e = absurd (first-not o target origin (sym next.1 ∙ e))
    start-by (Running o) is next target origin e = subst (StaysInProject program addresses) e (running-starts past turn turn.key.cog below o is.0 is.1 is.2 next)

    started-below : (n : ℕ) (target : Option ℕ) (origin : Origin) → IsNumber target → is_number n (answer_to w past turn.key (CogInit target origin)) ≡ true → n < 8
    started-below n (Some m) origin h e = let same : m ≡ n = same-cog m n e in omega (arith, h, same)
    started-below n None origin h e = found-below (λ (m : ℕ). is_stopped (cog_state w past m)) cogs cogs-below n (number-is n (stopped_cog w past) e)

    started-by : (n since : ℕ) (origin : Origin) → change_of n turn ≡ Some (Starts since origin) → (n < 8) × IsOfProject program addresses origin
    started-by n since origin e =
        let s = starts-are n turn.key.clock turn.key.cog turn.access turn.answer since origin e in
        let of_project = start-by (cog_state w past turn.key.cog) (are turn.key.cog) extends.next.next s.0 origin s.1 in
        let answer : turn.answer ≡ answer_to w past turn.key (CogInit s.0 origin) = extends.answer ∙ ap (answer_to w past turn.key) s.1 in
        (started-below n s.0 origin of_project.0 (ap (is_number n) (sym answer) ∙ s.2), of_project.1)

    -- a life that goes on
    run-by : (n : ℕ) (origin : Origin) → cog_state w past n ≡ Running origin → begins_life n turn ≡ false → Runs_in past n origin → ((turn.key.cog == n) ≡ true) ⊎ ((turn.key.cog == n) ≡ false) → Runs_in (turn ∷ past) n origin
    run-by n origin state begins run (inl own) = record {
      clock = run.clock;
      is_begun = begun-same w past turn n begins ∙ run.is_begun;
      life = subst (LifeOf n run.clock origin) (sym (since_begin-own w past turn n begins own))
          (life-more past turn n below origin run (subst (λ (s : CogState). IsNextIn asks w past n s turn.key.clock turn.access) state (next-of n (same-cog turn.key.cog n own))));
    }
    run-by n origin state begins run (inr other) = record {
      clock = run.clock;
      is_begun = begun-same w past turn n begins ∙ run.is_begun;
      life = subst (LifeOf n run.clock origin) (sym (since_begin-other w past turn n begins other)) run.life;
    }

    same-by : (n : ℕ) (state : CogState) → cog_state w past n ≡ state → change_of n turn ≡ None → CogIs past n state → CogIs (turn ∷ past) n state
    same-by n Stopped state change is = tt
    same-by n (Starting since origin) state change is = is
    same-by n (Running origin) state change is =
        (is.0, is.1, run-by n origin state (none-begins n turn.key.clock turn.key.cog turn.access turn.answer change) is.2 (decided turn.key.cog n))

    -- one that begins
    begin-by : (n : ℕ) (state : CogState) → cog_state w past n ≡ state → begins_life n turn ≡ true → Runs_in (turn ∷ past) n (origin_of state)
    begin-by n state is begins = record {
      clock = turn.key.clock;
      is_begun = begun-new w past turn n begins ∙ ap (λ (s : CogState). Some (begun_at w n turn.key.clock (origin_of s))) is;
      life = subst (LifeOf n turn.key.clock (origin_of state)) (sym (since_begin-new w past turn n begins)) (life-none n turn.key.clock (origin_of state));
    }

    -- what began it is a start
    pub begun-of_project : (n : ℕ) (state : CogState) → CogIs past n state → IsNextIn asks w past n state turn.key.clock turn.access → (n < 8) × IsOfProject program addresses (origin_of state)
    begun-of_project n Stopped is next = absurd next
    begun-of_project n (Starting since origin) is next = is
    begun-of_project n (Running origin) is next = (is.0, is.1)

    own-begin : (n : ℕ) → begins_life n turn ≡ true → turn.key.cog ≡ n
    own-begin n begins = same-cog turn.key.cog n (and-left (turn.key.cog == n) (is_begin turn.access) begins)

    begin-state : (n : ℕ) (state : CogState) → cog_state w past n ≡ state → begins_life n turn ≡ true → CogIs past n state → CogIs (turn ∷ past) n (Running (origin_of state))
    begin-state n state is begins of_project =
        let f = begun-of_project n state of_project (subst (λ (s : CogState). IsNextIn asks w past n s turn.key.clock turn.access) is (next-of n (own-begin n begins))) in
        (f.0, f.1, begin-by n state is begins)

    change-by : (n : ℕ) (state : CogState) (change : Option Change) → cog_state w past n ≡ state → change_of n turn ≡ change → CogIs past n state → CogIs (turn ∷ past) n (changed state change)
    change-by n state None is e of_project = same-by n state is e of_project
    change-by n state (Some (Starts since origin)) is e of_project = started-by n since origin e
    change-by n state (Some Runs) is e of_project = begin-state n state is (runs-begins n turn.key.clock turn.key.cog turn.access turn.answer e) of_project
    change-by n state (Some Stops) is e of_project = tt

    pub cogs-more : CogsAre (turn ∷ past)
    cogs-more n = change-by n (cog_state w past n) (change_of n turn) refl refl (are n)

  -- ---- every history

  first-cog : (n : ℕ) (b : Bool) → (n == 0) ≡ b → CogIs [] n (if b then Starting 0 w.first else Stopped)
  first-cog n true e = ((let zero_is : n ≡ 0 = same-cog n 0 e in omega (arith, zero_is)), method-of_project program addresses w.first world.target world.frame world.begins)
  first-cog n false e = tt

  pub cogs-are : (past : List Turn) → Legal asks w past → CogsAre past
  cogs-are [] legal = λ n. first-cog n (n == 0) refl
  cogs-are (turn ∷ past) legal = cogs-more past (cogs-are past legal.0) turn legal.1
