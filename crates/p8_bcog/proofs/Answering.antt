-- What a turn changes of what a Spin cog keeps.
use Rattle.std.proofs.Common.{◌≡◌, ◌⊎◌, inl, inr, ℕ, ◌+◌, ◌≤◌, Bool, true, false, ◌||◌, List, [], ◌∷◌, ◌++◌, Option, Some, None, Result, Ok, Err, refl, sym, ◌∙◌, ap, subst, arith, if◌then◌else◌}
use Rattle.std.proofs.lemmas.List.{append_assoc, append-nil}
use Rattle.p8_access.specs.declared.kinds.Width.TheVariants.{Long}
use Rattle.p8_access.specs.declared.kinds.Reason.{Reason}
use Rattle.p8_access.specs.declared.kinds.Access.{Access}
use Rattle.p8_access.specs.declared.kinds.Access.TheVariants.{Wait, Halt}
use Rattle.p8_access.specs.declared.kinds.Origin.{Origin}
use Rattle.p8_access.specs.declared.order.Turn.{Turn}
use Rattle.p8_access.specs.Lives.{Entered, Begun, PasmBegun, SpinBegun, is_last, has_ended, IsOnTime, IsTurnAt, IsAnnounced}
use Rattle.p8_access.specs.Courses.{Course}
use Rattle.p8_access.specs.Timing.{Outcome, Asks, Goes, Ends, earliest, behind, played}
use Rattle.p8_access.specs.Replaying.{turn-kept}
use Rattle.p8_bcog.specs.declared.step.Later.{Later}
use Rattle.p8_bcog.specs.declared.step.Step.{Step}
use Rattle.p8_bcog.specs.declared.step.Step.TheVariants.{Done, Asking}
use Rattle.p8_bcog.specs.declared.stage.SpinStage.{SpinStage}
use Rattle.p8_bcog.specs.declared.stage.SpinStage.TheVariants.{Entering, Ready, Asked, Halted, Over}
use Rattle.p8_bcog.specs.declared.state.SpinState.{SpinState}
use Rattle.p8_bcog.specs.Accesses.{word_in, ends, write_of}
use Rattle.p8_bcog.specs.Laters.{asking-is, later_on, comes}
use Rattle.p8_bcog.specs.Replay.{enters_at, entry_of, engine_of, first_of, lived}
use Rattle.p8_bcog.specs.Standing.{standing, come_to, is_under, is_amid, StandsIn, StandsFor}
use Rattle.p8_bcog.specs.Stops.{stage_of, at_stage, done_by, Announces}
use Rattle.p8_bcog.proofs.OneMore.{none_done, stage_plays, never_entering, never_over}

-- ---- the turn of what was announced

on-time : (access : Access) (earliest clock : ℕ) → IsOnTime access earliest clock → earliest ≤ clock
on-time (Wait test) earliest clock on = on
on-time _ earliest clock on = omega arith

abbrev AsksIn : ℕ → Access → Outcome SpinState
AsksIn clock access = Asks clock access

came-at : (cog clock when reached : ℕ) (a access : Access) (turn : Turn) → AsksIn (earliest cog clock a) a ≡ AsksIn when access → reached ≤ when → IsTurnAt when access turn → (turn.access ≡ a) × IsOnTime a (earliest cog clock a) turn.key.clock × (reached ≤ turn.key.clock)
came-at cog clock when reached a access turn same le at =
    let what : a ≡ access = cc in
    let time : earliest cog clock a ≡ when = cc in (
      at.0 ∙ sym what,
      subst (λ (k : ℕ). IsOnTime a k turn.key.clock) (sym time) (subst (λ (x : Access). IsOnTime x when turn.key.clock) (sym what) at.1),
      omega (arith, le, on-time access when turn.key.clock at.1),
    )

pub came : (cog : ℕ) (stage : SpinStage) (s : SpinState) (clock reached : ℕ) (announced : Option (ℕ × Access)) (turn : Turn) (a : Access) → standing cog stage s clock [] ≡ Asks (earliest cog clock a) a → Announces cog stage s clock reached announced → IsAnnounced announced turn → (turn.access ≡ a) × IsOnTime a (earliest cog clock a) turn.key.clock × (reached ≤ turn.key.clock)
came cog stage s clock reached None turn a here announces at = absurd at
came cog stage s clock reached (Some asked) turn a here announces at =
    let said = announces asked.0 asked.1 refl in
    came-at cog clock asked.0 reached a asked.1 turn (sym here ∙ said.0) said.1 at

pub asked_here : (cog : ℕ) (stage : SpinStage) (s : SpinState) (clock : ℕ) (access : Access) (later : Later) → stage ≡ Asked access later → standing cog stage s clock [] ≡ Asks (earliest cog clock access) access
asked_here cog stage s clock access later is =
    ap (λ (st : SpinStage). standing cog st s clock []) is
    ∙ ap (λ (c : Course SpinState). played cog clock c []) (asking-is access later s)

pub halted_here : (cog : ℕ) (stage : SpinStage) (s : SpinState) (clock : ℕ) (reason : Reason) → stage ≡ Halted reason → standing cog stage s clock [] ≡ Asks (earliest cog clock (Halt reason)) (Halt reason)
halted_here cog stage s clock reason is = ap (λ (st : SpinStage). standing cog st s clock []) is

pub entering_here : (cog : ℕ) (stage : SpinStage) (s : SpinState) (clock : ℕ) → stage ≡ Entering → standing cog stage s clock [] ≡ Asks (earliest cog clock (write_of Long s.frame 0)) (write_of Long s.frame 0)
unfolding ends
entering_here cog stage s clock is = ap (λ (st : SpinStage). standing cog st s clock []) is

-- where nothing is asked nothing was announced
pub never_asks : (cog : ℕ) (stage : SpinStage) (s : SpinState) (clock reached : ℕ) (announced : Option (ℕ × Access)) (turn : Turn) → (stage ≡ Ready) ⊎ (stage ≡ Over) → Announces cog stage s clock reached announced → IsAnnounced announced turn → ⊥
never_asks cog stage s clock reached None turn is announces at = at
never_asks cog stage s clock reached (Some asked) turn (inl is) announces at =
    let e : Goes s clock [] ≡ AsksIn asked.0 asked.1 = ap (λ (st : SpinStage). standing cog st s clock []) (sym is) ∙ (announces asked.0 asked.1 refl).0 in
    cc
never_asks cog stage s clock reached (Some asked) turn (inr is) announces at =
    let e : Ends ≡ AsksIn asked.0 asked.1 = ap (λ (st : SpinStage). standing cog st s clock []) (sym is) ∙ (announces asked.0 asked.1 refl).0 in
    cc

-- ---- the end of a life

or-more : (a b : Bool) → b ≡ true → (a || b) ≡ true
or-more true b is = refl
or-more false b is = is

ended-behind : (cog : ℕ) (ts : List Turn) (turn : Turn) → is_last cog turn.access ≡ true → has_ended cog (ts ++ turn ∷ []) ≡ true
ended-behind cog [] turn is = ap (λ (b : Bool). b || false) is
ended-behind cog (first ∷ ts) turn is =
    or-more (is_last cog first.access) (has_ended cog (ts ++ turn ∷ [])) (ended-behind cog ts turn is)

-- ---- what stands for a turn more

over-in : {counter : ℕ} (memory : List ℕ) (done cog : ℕ) (now : SpinStage) (s new : SpinState) (clock later : ℕ) (e : Entered) (ts : List Turn) (turn : Turn) → StandsIn counter memory done cog now s clock e ts → come_to now done ≡ done + 1 → ((rest : List Turn) → standing cog now s clock (turn ∷ rest) ≡ Ends) → is_last cog turn.access ≡ true → StandsIn counter memory (done + 1) cog Over new later e (ts ++ turn ∷ [])
over-in memory done cog now s new clock later e ts turn stands count over last = record {
  own = stands.own;
  code = stands.code;
  goes_on = λ rest.
      ap (λ (k : ℕ). lived k e ((ts ++ turn ∷ []) ++ rest)) (sym count)
      ∙ ap (λ (xs : List Turn). lived (come_to now done) e xs) (append_assoc ts (turn ∷ []) rest)
      ∙ stands.goes_on (turn ∷ rest) ∙ over rest;
  began = λ under. absurd (let x : false ≡ true = under in cc);
  fresh = λ st. absurd (let x : Over ≡ Entering = st in cc);
  ended = λ st. ended-behind cog ts turn last;
}

-- with the turn of a last access it is over
pub asked_over : (counter : ℕ) (memory : List ℕ) (done cog : ℕ) (now : SpinStage) (s new : SpinState) (clock later_clock : ℕ) (access : Access) (later : Later) (turn : Turn) → now ≡ Asked access later → is_last cog access ≡ true → turn.access ≡ access → (b : Begun) (ts : List Turn) → StandsFor counter memory done cog now s clock b ts → StandsFor counter memory (done + 1) cog Over new later_clock b (ts ++ turn ∷ [])
asked_over counter memory done cog now s new clock later_clock access later turn is last what (SpinBegun e) ts stands =
    over-in memory done cog now s new clock later_clock e ts turn stands
    (ap (λ (st : SpinStage). come_to st done) is)
    (λ rest. ap (λ (st : SpinStage). standing cog st s clock (turn ∷ rest)) is
    ∙ ap (λ (c : Course SpinState). played cog clock c (turn ∷ rest)) (asking-is access later s)
    ∙ ap (λ (b : Bool). if b then Ends else played cog (behind clock access turn.key.clock) (later_on later s (word_in turn.answer)) rest) last)
    (ap (is_last cog) what ∙ last)
asked_over counter memory done cog now s new clock later_clock access later turn is last what (PasmBegun loaded) ts stands = absurd stands

pub halted_over : (counter : ℕ) (memory : List ℕ) (done cog : ℕ) (now : SpinStage) (s new : SpinState) (clock later_clock : ℕ) (reason : Reason) (turn : Turn) → now ≡ Halted reason → turn.access ≡ Halt reason → (b : Begun) (ts : List Turn) → StandsFor counter memory done cog now s clock b ts → StandsFor counter memory (done + 1) cog Over new later_clock b (ts ++ turn ∷ [])
halted_over counter memory done cog now s new clock later_clock reason turn is what (SpinBegun e) ts stands =
    over-in memory done cog now s new clock later_clock e ts turn stands
    (ap (λ (st : SpinStage). come_to st done) is)
    (λ rest. ap (λ (st : SpinStage). standing cog st s clock (turn ∷ rest)) is)
    (ap (is_last cog) what)
halted_over counter memory done cog now s new clock later_clock reason turn is what (PasmBegun loaded) ts stands = absurd stands

-- ---- a turn that isn't the last

counted-in : (done : ℕ) (r : Result Step Reason) → come_to (stage_of r) (done + done_by (stage_of r)) ≡ done + 1
counted-in done (Ok Done) = refl
counted-in done (Ok (Asking access later)) = omega arith
counted-in done (Err reason) = omega arith

goes-in : {counter : ℕ} (memory : List ℕ) (done cog : ℕ) (now : SpinStage) (s new : SpinState) (clock : ℕ) (access : Access) (later : Later) (r : Result Step Reason) (e : Entered) (ts : List Turn) (turn : Turn) → now ≡ Asked access later → StandsIn counter memory done cog now s clock e ts → is_last cog access ≡ false → comes r new ≡ later_on later s (word_in turn.answer) → (rest : List Turn) → lived (done + 1) e ((ts ++ turn ∷ []) ++ rest) ≡ standing cog (stage_of r) new (behind clock access turn.key.clock) rest
goes-in memory done cog now s new clock access later r e ts turn is stands last does rest =
    ap (λ (st : SpinStage). lived (come_to st done) e ((ts ++ turn ∷ []) ++ rest)) (sym is)
    ∙ ap (λ (xs : List Turn). lived (come_to now done) e xs) (append_assoc ts (turn ∷ []) rest)
    ∙ stands.goes_on (turn ∷ rest)
    ∙ ap (λ (st : SpinStage). standing cog st s clock (turn ∷ rest)) is
    ∙ ap (λ (c : Course SpinState). played cog clock c (turn ∷ rest)) (asking-is access later s)
    ∙ ap (λ (b : Bool). if b then Ends else played cog (behind clock access turn.key.clock) (later_on later s (word_in turn.answer)) rest) last
    ∙ ap (λ (c : Course SpinState). played cog (behind clock access turn.key.clock) c rest) (sym does)
    ∙ stage_plays cog (behind clock access turn.key.clock) r new rest

began-in : {counter : ℕ} (memory : List ℕ) (done cog : ℕ) (now : SpinStage) (s new : SpinState) (clock p : ℕ) (access : Access) (later : Later) (r : Result Step Reason) (e : Entered) (ts : List Turn) (turn : Turn) → now ≡ Asked access later → StandsIn counter memory done cog now s clock e ts → ((rest : List Turn) → lived (done + 1) e ((ts ++ turn ∷ []) ++ rest) ≡ standing cog (stage_of r) new p rest) → (t : SpinState) × (begin : ℕ) × (left : List Turn) × (lived (done + done_by (stage_of r)) e (ts ++ turn ∷ []) ≡ Goes t begin left) × (is_amid (stage_of r) ≡ true → t.at ≡ counter)
began-in memory done cog now s new clock p access later (Ok Done) e ts turn is stands goes =
    (new, p, [], ap (λ (xs : List Turn). lived (done + 1) e xs) (sym (append-nil (ts ++ turn ∷ []))) ∙ goes [], λ amid. absurd (let x : false ≡ true = amid in cc))
began-in memory done cog now s new clock p access later (Ok (Asking a l)) e ts turn is stands goes =
    let had = stands.began (ap is_under is) in
    let none : done + 0 ≡ done = omega arith in
    (had.0, had.1, had.2 ++ turn ∷ [], ap (λ (k : ℕ). lived k e (ts ++ turn ∷ [])) none ∙ turn-kept (engine_of e.memory e.cog) (e.begin + 8192) (entry_of e) done ts turn had.0 had.1 had.2 had.3, λ amid. had.4 (ap is_amid is))
began-in memory done cog now s new clock p access later (Err reason) e ts turn is stands goes =
    let had = stands.began (ap is_under is) in
    let none : done + 0 ≡ done = omega arith in
    (had.0, had.1, had.2 ++ turn ∷ [], ap (λ (k : ℕ). lived k e (ts ++ turn ∷ [])) none ∙ turn-kept (engine_of e.memory e.cog) (e.begin + 8192) (entry_of e) done ts turn had.0 had.1 had.2 had.3, λ amid. had.4 (ap is_amid is))

taken-in : {counter : ℕ} (memory : List ℕ) (done cog : ℕ) (now : SpinStage) (s new : SpinState) (clock : ℕ) (access : Access) (later : Later) (r : Result Step Reason) (e : Entered) (ts : List Turn) (turn : Turn) → now ≡ Asked access later → StandsIn counter memory done cog now s clock e ts → is_last cog access ≡ false → comes r new ≡ later_on later s (word_in turn.answer) → StandsIn counter memory (done + done_by (stage_of r)) cog (stage_of r) new (behind clock access turn.key.clock) e (ts ++ turn ∷ [])
taken-in memory done cog now s new clock access later r e ts turn is stands last does = record {
  own = stands.own;
  code = stands.code;
  goes_on = λ rest.
      ap (λ (k : ℕ). lived k e ((ts ++ turn ∷ []) ++ rest)) (counted-in done r)
      ∙ goes-in memory done cog now s new clock access later r e ts turn is stands last does rest;
  began = λ under. began-in memory done cog now s new clock (behind clock access turn.key.clock) access later r e ts turn is stands (goes-in memory done cog now s new clock access later r e ts turn is stands last does);
  fresh = λ st. absurd (never_entering r st);
  ended = λ st. absurd (never_over r st);
}

-- with any other turn the bytecode goes on; the new stage and clock are known by equations
asked_stands : (counter : ℕ) (memory : List ℕ) (done more cog : ℕ) (now stage : SpinStage) (s new : SpinState) (clock p word : ℕ) (access : Access) (later : Later) (r : Result Step Reason) (turn : Turn) → now ≡ Asked access later → is_last cog access ≡ false → stage ≡ stage_of r → more ≡ done_by stage → p ≡ behind clock access turn.key.clock → word ≡ word_in turn.answer → comes r new ≡ later_on later s word → (b : Begun) (ts : List Turn) → StandsFor counter memory done cog now s clock b ts → StandsFor counter memory (done + more) cog stage new p b (ts ++ turn ∷ [])
asked_stands counter memory done more cog now stage s new clock p word access later r turn is last staged counted at read does (SpinBegun e) ts stands =
    let core = taken-in memory done cog now s new clock access later r e ts turn is stands last (does ∙ ap (later_on later s) read) in
    subst (λ (k : ℕ). StandsIn counter memory (done + k) cog stage new p e (ts ++ turn ∷ [])) (sym counted)
    (subst (λ (q : ℕ). StandsIn counter memory (done + done_by stage) cog stage new q e (ts ++ turn ∷ [])) (sym at)
    (subst (λ (st : SpinStage). StandsIn counter memory (done + done_by st) cog st new (behind clock access turn.key.clock) e (ts ++ turn ∷ [])) (sym staged) core))
asked_stands counter memory done more cog now stage s new clock p word access later r turn is last staged counted at read does (PasmBegun loaded) ts stands = absurd stands

-- ---- the same where the new stage was written in its place

abbrev result_at : SpinStage → Result Step Reason
result_at Entering = Ok Done
result_at Ready = Ok Done
result_at (Asked access later) = Ok (Asking access later)
result_at (Halted reason) = Err reason
result_at Over = Ok Done

under_staged : (stage : SpinStage) → is_under stage ≡ true → stage ≡ stage_of (result_at stage)
under_staged Entering is = absurd (cc)
under_staged Ready is = refl
under_staged (Asked access later) is = refl
under_staged (Halted reason) is = refl
under_staged Over is = absurd (cc)

under_comes : (stage : SpinStage) (s : SpinState) → is_under stage ≡ true → comes (result_at stage) s ≡ at_stage stage s
under_comes Entering s is = absurd (cc)
under_comes Ready s is = refl
under_comes (Asked access later) s is = refl
under_comes (Halted reason) s is = refl
under_comes Over s is = absurd (cc)

pub resumed_stands : (counter : ℕ) (memory : List ℕ) (done more cog : ℕ) (now stage : SpinStage) (s new : SpinState) (clock p word : ℕ) (access : Access) (later : Later) (turn : Turn) → now ≡ Asked access later → is_last cog access ≡ false → is_under stage ≡ true → more ≡ done_by stage → p ≡ behind clock access turn.key.clock → word ≡ word_in turn.answer → at_stage stage new ≡ later_on later s word → (b : Begun) (ts : List Turn) → StandsFor counter memory done cog now s clock b ts → StandsFor counter memory (done + more) cog stage new p b (ts ++ turn ∷ [])
resumed_stands counter memory done more cog now stage s new clock p word access later turn is last under counted at read does =
    asked_stands counter memory done more cog now stage s new clock p word access later (result_at stage) turn is last (under_staged stage under) counted at read (under_comes stage new under ∙ does)

-- ---- the entry

entering-goes : (cog : ℕ) (s : SpinState) (clock : ℕ) (turn : Turn) (rest : List Turn) → played cog clock (enters_at s) (turn ∷ rest) ≡ Goes s (turn.key.clock + 7) rest
unfolding ends
entering-goes cog s clock turn rest = refl

pub entering_stands : (counter : ℕ) (memory : List ℕ) (done cog : ℕ) (now : SpinStage) (s : SpinState) (clock : ℕ) (turn : Turn) → now ≡ Entering → (b : Begun) (ts : List Turn) → StandsFor counter memory done cog now s clock b ts → StandsFor counter memory done cog Ready s (turn.key.clock + 7) b (ts ++ turn ∷ [])
entering_stands counter memory done cog now s clock turn is (SpinBegun e) ts stands =
    let goes : (rest : List Turn) → lived done e ((ts ++ turn ∷ []) ++ rest) ≡ Goes s (turn.key.clock + 7) rest =
    λ rest. ap (λ (st : SpinStage). lived (come_to st done) e ((ts ++ turn ∷ []) ++ rest)) (sym is)
    ∙ ap (λ (xs : List Turn). lived (come_to now done) e xs) (append_assoc ts (turn ∷ []) rest)
    ∙ stands.goes_on (turn ∷ rest)
    ∙ ap (λ (st : SpinStage). standing cog st s clock (turn ∷ rest)) is
    ∙ entering-goes cog s clock turn rest in
    record {
      own = stands.own;
      code = stands.code;
      goes_on = goes;
      began = λ under. (s, turn.key.clock + 7, [], ap (λ (xs : List Turn). lived done e xs) (sym (append-nil (ts ++ turn ∷ []))) ∙ goes [], λ amid. absurd (let x : false ≡ true = amid in cc));
      fresh = λ st. absurd (let x : Ready ≡ Entering = st in cc);
      ended = λ st. absurd (let x : Ready ≡ Over = st in cc);
    }
entering_stands counter memory done cog now s clock turn is (PasmBegun loaded) ts stands = absurd stands

-- what a start gives stands for no turns
pub started_stands : {counter : ℕ} (memory : List ℕ) (cog begin : ℕ) (origin : Origin) (s : SpinState) → s ≡ first_of origin → StandsFor counter memory 0 cog Entering s (begin + 8192) (SpinBegun (record { memory = memory; origin = origin; cog = cog; begin = begin })) []
started_stands memory cog begin origin s is = record {
  own = refl;
  code = refl;
  goes_on = λ rest.
      none_done memory cog (played cog (begin + 8192) (enters_at (first_of origin)) rest)
      ∙ ap (λ (t : SpinState). played cog (begin + 8192) (enters_at t) rest) (sym is);
  began = λ under. absurd (let x : false ≡ true = under in cc);
  fresh = λ st. refl;
  ended = λ st. absurd (let x : Entering ≡ Over = st in cc);
}
