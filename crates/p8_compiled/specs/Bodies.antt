-- Where the code of statements stands, and of methods.
use Rattle.std.specs.Prelude.{ℕ, ◌==◌, ◌≡◌, ◌⊎◌, Bool, true, false, [], Option, Some, None, if◌then◌else◌}
use Rattle.p8_access.specs.Courses.{Course, Finish}
use Rattle.p8_tree.specs.declared.places.Place.{Place}
use Rattle.p8_tree.specs.Lists.{count_of_trees}
use Rattle.p8_tree.specs.Expressions.{Tree, node, Var, Call, Assign, Change, Built, Variable, Named, no_index, Item, single, range, Items, no_items, ◌▸◌}
use Rattle.p8_tree.specs.Statements.{Course as Loop, Forever, Count, Before, After, From, Statement, statement, Do, If, Case, Repeat, Next, Quit}
use Rattle.p8_tree.specs.Statements.{Return, Abort, arm, Otherwise, nothing_else, otherwise, Statements, no_statements, ◌▹◌, Arms, no_arms, ◌⊳◌}
use Rattle.p8_bcog.specs.declared.state.SpinState.{SpinState}
use Rattle.p8_bcog.specs.declared.step.Wanted.TheVariants as wanted_case
use Rattle.p8_bcog.specs.Operands.{operand, taken, pushed, tested, is_between, difference}
use Rattle.p8_bcog.specs.Places as places
use Rattle.p8_bcog.specs.Calls as calling
use Rattle.p8_meaning.specs.Values.{holds}
use Rattle.p8_compiled.specs.Courses.{takes_one, takes_two, takes_three, takes_value, goes_to, goes_if, drops}
use Rattle.p8_compiled.specs.Standing.{Compiled, with_hand, At, site_of, writes, opens, OwnCallAt, ObjectCallAt, AssignAt, ChangeAt, HasRegister, ValueAt}
use Rattle.p8_compiled.specs.Standing.{NamesAt, IndexAt, ValuesAt, BuiltAt}

-- ---- what the bytecodes of statements do

abbrev pub jumps : (target : ℕ) → SpinState → Course SpinState
jumps target st = Finish (goes_to target st)

-- 0A and 0B, by the value on the stack
abbrev pub jumps_where : (negated : Bool) → (target a : ℕ) → SpinState → Course SpinState
jumps_where negated target a st = Finish (goes_if (holds negated a) target st)

abbrev pub jumps_unless : (negated : Bool) → (target a : ℕ) → SpinState → Course SpinState
jumps_unless negated target a st = Finish (if holds negated a then st else goes_to target st)

-- the count of a loop stays on the stack
abbrev pub begins_loop : (target : ℕ) → SpinState → Course SpinState
begins_loop target st = tested 1 1 st (Finish (if operand st 0 == 0 then goes_to target (taken 1 st) else st))

abbrev pub ends_loop : (target : ℕ) → (a : ℕ) → SpinState → Course SpinState
ends_loop target a st = Finish (if difference a 1 == 0 then st else goes_to target (pushed (difference a 1) st))

-- so does the value of a CASE below what it is compared with
abbrev pub fits_value : (target a x : ℕ) → SpinState → Course SpinState
fits_value target a x st = Finish (pushed a (goes_if (a == x) target st))

abbrev pub fits_range : (target a low high : ℕ) → SpinState → Course SpinState
fits_range target a low high st = Finish (pushed a (goes_if (is_between a low high) target st))

-- the end of a pass of REPEAT with FROM and TO
abbrev pub steps_by_one : Compiled → Variable → (target from to : ℕ) → SpinState → Course SpinState
steps_by_one t v target from to st = places.reads_place (wanted_case.Stepped 1 from to target) (site_of t v [] st) st

abbrev pub steps_by : Compiled → Variable → (target by from to : ℕ) → SpinState → Course SpinState
steps_by t v target by from to st = places.reads_place (wanted_case.Stepped by from to target) (site_of t v [] st) st

-- ---- statements

-- the innermost loop round a statement, and where its NEXT and QUIT lead
pub data Inner : Type 0 where
  outside : Inner
  plain : (next quit : ℕ) → Inner
  with_count : (next quit : ℕ) → Inner

abbrev pub NextAt : Compiled → Inner → (p q : ℕ) → Type 0
NextAt t outside p q = ⊥
NextAt t (plain next quit) p q = At t p (jumps next) q
NextAt t (with_count next quit) p q = At t p (jumps next) q

-- the count is dropped
abbrev pub QuitAt : Compiled → Inner → (p q : ℕ) → Type 0
QuitAt t outside p q = ⊥
QuitAt t (plain next quit) p q = At t p (jumps quit) q
QuitAt t (with_count next quit) p q = (p1 : ℕ) × At t p (takes_one 0 drops) p1 × At t p1 (jumps quit) q

-- a jump to an end, or the end itself
abbrev pub EndAt : Compiled → (p end : ℕ) → Type 0
EndAt t p end = (p ≡ end) ⊎ ((q : ℕ) × At t p (jumps end) q)

-- an expression alone
abbrev pub ActAt : Compiled → Tree → (p q : ℕ) → Type 0
ActAt t (node place (Var (Named name no_index inside))) p q = (p1 : ℕ) × At t p (opens true false) p1 × OwnCallAt t (t.file.kind t.method name) 0 p1 q
ActAt t (node place (Call stops None i name inside arguments)) p q =
    (p1 p2 : ℕ) × At t p (opens true stops) p1 × ValuesAt t arguments p1 p2 × OwnCallAt t (t.file.kind t.method name) (count_of_trees arguments) p2 q
ActAt t (node place (Call stops (Some object) i name inside arguments)) p q =
    (p1 p2 p3 : ℕ) × At t p (opens true stops) p1 × ValuesAt t arguments p1 p2 × IndexAt t i p2 p3 ×
    ObjectCallAt t (t.file.kind t.method object) i name (count_of_trees arguments) p3 q
ActAt t (node place (Assign v operator e)) p q = (p1 p2 : ℕ) × ValueAt t e p p1 × NamesAt t v p1 p2 × HasRegister true v × AssignAt t false operator v p2 q
ActAt t (node place (Change v change)) p q = (p1 : ℕ) × NamesAt t v p p1 × HasRegister true v × ChangeAt t false change v p1 q
ActAt t (node place (Built code arguments)) p q = BuiltAt t false code arguments p q
ActAt t e p q = ⊥

-- the items of an arm of CASE, which leads to a place
abbrev pub FitAt : Compiled → Item → (target p q : ℕ) → Type 0
FitAt t (single e) target p q = (p1 : ℕ) × ValueAt t e p p1 × At t p1 (takes_two 1 (fits_value target)) q
FitAt t (range e f) target p q = (p1 p2 : ℕ) × ValueAt t e p p1 × ValueAt t f p1 p2 × At t p2 (takes_three 1 (fits_range target)) q

abbrev pub FitsAt : Compiled → Items → (target p q : ℕ) → Type 0
FitsAt t no_items target p q = p ≡ q
FitsAt t (items ▸ item) target p q = (p1 : ℕ) × FitsAt t items target p p1 × FitAt t item target p1 q

-- the end of a pass, from which the loop may go on at a place
abbrev pub PassEndAt : Compiled → Variable → (from to : Tree) → Option Tree → (target p q : ℕ) → Type 0
PassEndAt t v from to None target p q = (p1 p2 : ℕ) × ValueAt t from p p1 × ValueAt t to p1 p2 × At t p2 (takes_two 0 (steps_by_one t v target)) q
PassEndAt t v from to (Some e) target p q =
    (p1 p2 p3 : ℕ) × ValueAt t e p p1 × ValueAt t from p1 p2 × ValueAt t to p2 p3 × At t p3 (takes_three 0 (steps_by t v target)) q

-- a loop, by where its body stands
abbrev pub LoopAt : Compiled → Loop → (Inner → (p q : ℕ) → Type 0) → (p q : ℕ) → Type 0
LoopAt t Forever Body p q = (p1 : ℕ) × Body (plain p q) p p1 × At t p1 (jumps p) q
LoopAt t (Count e) Body p q =
    (p1 p2 p3 : ℕ) × ValueAt t e p p1 × At t p1 (begins_loop q) p2 × Body (with_count p3 q) p2 p3 × At t p3 (takes_one 1 (ends_loop p2)) q
LoopAt t (Before until e) Body p q =
    (p1 p2 p3 : ℕ) × ValueAt t e p p1 × At t p1 (takes_one 0 (jumps_unless until q)) p2 × Body (plain p q) p2 p3 × At t p3 (jumps p) q
LoopAt t (After until e) Body p q =
    (p1 p2 : ℕ) × Body (plain p1 q) p p1 × ValueAt t e p1 p2 × At t p2 (takes_one 0 (jumps_where until p)) q
LoopAt t (From name from to step place) Body p q =
    (p1 p2 p3 : ℕ) × ValueAt t from p p1 × At t p1 (takes_value 0 0 (writes t false (Named name no_index place))) p2 × Body (plain p3 q) p2 p3 ×
    PassEndAt t (Named name no_index place) from to step p2 p3 q

abbrev mutual
  pub StatementAt : Compiled → Statement → Inner → (p q : ℕ) → Type 0
  StatementAt t (statement place (Do e)) inner p q = ActAt (with_hand t place) e p q
  StatementAt t (statement place (If arms other)) inner p q = (p1 : ℕ) × ArmsAt t place arms inner q p p1 × OtherAt t other inner p1 q
  StatementAt t (statement place (Case e arms other)) inner p q =
      (p1 p2 p3 p4 : ℕ) × ValueAt (with_hand t place) e p p1 × ChoicesAt t place arms inner q p1 p2 × At (with_hand t place) p2 (takes_one 0 drops) p3 ×
      OtherAt t other inner p3 p4 × EndAt (with_hand t place) p4 q
  StatementAt t (statement place (Repeat course body)) inner p q = LoopAt (with_hand t place) course (BodyAt t body) p q
  StatementAt t (statement place Next) inner p q = NextAt (with_hand t place) inner p q
  StatementAt t (statement place Quit) inner p q = QuitAt (with_hand t place) inner p q
  StatementAt t (statement place (Return None)) inner p q = At (with_hand t place) p (calling.return_result t.cog) q
  StatementAt t (statement place (Return (Some e))) inner p q =
      (p1 : ℕ) × ValueAt (with_hand t place) e p p1 × At (with_hand t place) p1 (calling.return_value t.cog) q
  StatementAt t (statement place (Abort None)) inner p q = At (with_hand t place) p (calling.abort_result t.cog) q
  StatementAt t (statement place (Abort (Some e))) inner p q =
      (p1 : ℕ) × ValueAt (with_hand t place) e p p1 × At (with_hand t place) p1 (calling.abort_value t.cog) q

  pub BodyAt : Compiled → Statements → Inner → (p q : ℕ) → Type 0
  BodyAt t no_statements inner p q = p ≡ q
  BodyAt t (body ▹ last) inner p q = (p1 : ℕ) × BodyAt t body inner p p1 × StatementAt t last inner p1 q

  pub OtherAt : Compiled → Otherwise → Inner → (p q : ℕ) → Type 0
  OtherAt t nothing_else inner p q = p ≡ q
  OtherAt t (otherwise body) inner p q = BodyAt t body inner p q

  -- the arms of an IF chain, from p up to where none holds; `end` is after the chain
  pub ArmsAt : Compiled → (place : Place) → Arms → Inner → (end p q : ℕ) → Type 0
  ArmsAt t place no_arms inner end p q = p ≡ q
  ArmsAt t place (arms ⊳ arm (no_items ▸ single e) negated body) inner end p q =
      (p1 p2 p3 p4 : ℕ) × ArmsAt t place arms inner end p p1 × ValueAt (with_hand t place) e p1 p2 ×
      At (with_hand t place) p2 (takes_one 0 (jumps_unless negated q)) p3 × BodyAt t body inner p3 p4 × EndAt (with_hand t place) p4 end
  ArmsAt t place (arms ⊳ last) inner end p q = ⊥

  -- the tests of a CASE, and somewhere the bodies of its arms
  pub ChoicesAt : Compiled → (place : Place) → Arms → Inner → (end p q : ℕ) → Type 0
  ChoicesAt t place no_arms inner end p q = p ≡ q
  ChoicesAt t place (arms ⊳ arm items negated body) inner end p q =
      (p1 a a1 a2 : ℕ) × ChoicesAt t place arms inner end p p1 × FitsAt (with_hand t place) items a p1 q × At (with_hand t place) a (takes_one 0 drops) a1 ×
      BodyAt t body inner a1 a2 × EndAt (with_hand t place) a2 end

-- a method: its body, and a return, which is made from no statement of the body
abbrev pub MethodAt : Compiled → Statements → (p : ℕ) → Type 0
MethodAt t body p = (p1 q : ℕ) × BodyAt t body outside p p1 × At t p1 (calling.return_result t.cog) q
