-- Whole methods, and the lives that begin with them.
use Rattle.std.proofs.Common.{◌≡◌, refl, sym, ap, subst, ◌∙◌, arith, ℕ, zero, suc, ◌+◌, ◌*◌, ◌%◌, ◌^◌, ◌<◌, ◌≤◌, List, [], ◌∷◌, ◌++◌, map, length, Option, Some, append-nil}
use Rattle.std.specs.Prelude.{Contains, slice_get}
use Rattle.std.proofs.lemmas.Bool.{eq-eqb}
use Rattle.p8_access.specs.declared.kinds.Origin.{Origin}
use Rattle.p8_access.specs.declared.kinds.Origin.TheVariants.{Spin}
use Rattle.p8_access.specs.declared.kinds.Access.TheVariants.{CogStop}
use Rattle.p8_access.specs.declared.kinds.Answer.{Answer}
use Rattle.p8_access.specs.Courses.{Course, Finish, Told, Wants, Leaves, Closes, told}
use Rattle.p8_tree.specs.Sources.{MethodTree}
use Rattle.p8_bcog.specs.declared.calls.Call.{Call}
use Rattle.p8_bcog.specs.declared.marks.CallMark.{CallMark}
use Rattle.p8_bcog.specs.declared.state.SpinState.{SpinState}
use Rattle.p8_bcog.specs.declared.step.Given.TheVariants.{Called}
use Rattle.p8_bcog.specs.Accesses.{ends}
use Rattle.p8_bcog.specs.Code.{method_at}
use Rattle.p8_bcog.specs.Replay.{first_of, first_with, enters_at}
use Rattle.p8_bcog.specs.Calls as calling
use Rattle.p8_tree.specs.declared.places.Place.{Place}
use Rattle.p8_access.specs.declared.order.Turn.{Turn}
use Rattle.p8_access.specs.Timing.{Asks, Goes}
use Rattle.p8_access.specs.Replays.{answer_of}
use Rattle.p8_bcog.specs.Replay.{engine_of, lived}
use Rattle.p8_meaning.specs.Doing.{Registers, Rest, untold, for_statement, given}
use Rattle.p8_meaning.specs.Programs.{Program, Addresses, File, Scope, Target, frame_size, locals_size, setting_of}
use Rattle.p8_meaning.specs.Calls.{Returned, Result, method_of}
use Rattle.p8_meaning.specs.Statements as statements
use Rattle.p8_meaning.specs.Lives.{IsInstance, IsMethodOrigin, meaning, begins, scope_with, stops, no_statement, cleared, life_of, deeds_of, says, says_for}
use Rattle.p8_compiled.specs.Standing.{Compiled, scope_of}
use Rattle.p8_compiled.specs.Bodies.{outside}
use Rattle.p8_compiled.proofs.Meets.{makes, asks-after, goes-back, meets-last, follows-asks}
use Rattle.p8_compiled.proofs.Places.{Frame, at}
use Rattle.p8_compiled.proofs.Stepping.{engine, F, M}
use Rattle.p8_compiled.specs.Keeps.{Placed, MethodPlaced, bytes}
use Rattle.std.specs.Prelude.{All}
use Rattle.std.proofs.lemmas.List.Elements.{All-nil, All-cons, All-head, All-tail}
use Rattle.p8_access.specs.declared.kinds.Access.{Access}
use Rattle.p8_meaning.specs.Halts.{IsSourceAccess, AreSourceAccesses}
use Rattle.p8_meaning.proofs.Growing.{own-accesses}
use Rattle.p8_meaning.proofs.GrowingForms.{life-goes}
use Rattle.p8_meaning.specs.Bounds.{made_of, IsSettled, IsBeginning}
use Rattle.p8_compiled.proofs.Ends.{settled-later, made-later}
use Rattle.p8_compiled.proofs.Calling.{Room, CallsOk, Returns, Aborts, frame_of, follows-gives}
use Rattle.p8_compiled.proofs.Forms.{Working, Stands}
use Rattle.p8_compiled.proofs.Executing.{body-meets, return_result-meets}

-- the first of some accesses, all of which a source makes
first-clean : (made more : List Access) → All IsSourceAccess (made ++ more) → All IsSourceAccess made
first-clean [] more h = All-nil IsSourceAccess
first-clean (x ∷ xs) more h = All-cons IsSourceAccess x xs (All-head IsSourceAccess x (xs ++ more) h) (first-clean xs more (All-tail IsSourceAccess x (xs ++ more) h))

made-clean : (t : Told (Unit {0})) → AreSourceAccesses t → All IsSourceAccess (made_of t)
made-clean (Wants made access) h = h.0
made-clean (Leaves made u left) h = h
made-clean (Closes made) h = h

-- what is settled is what the source says, and else what was made begins what the source makes
all-clean : (t u : Told (Unit {0})) → (IsSettled t → u ≡ t) → IsBeginning (made_of t) (made_of u) → AreSourceAccesses u → AreSourceAccesses t
all-clean (Wants made access) u same begins h = subst (λ (x : Told (Unit {0})). AreSourceAccesses x) (same tt) h
all-clean (Leaves made state left) u same begins h = first-clean made begins.0 (subst (λ (xs : List Access). All IsSourceAccess xs) begins.1 (made-clean u h))
all-clean (Closes made) u same begins h = subst (λ (x : Told (Unit {0})). AreSourceAccesses x) (same tt) h

module _ (memory : List ℕ) (cog : ℕ) (program : Program) (addresses : Addresses) (placed : Placed memory cog program addresses) where
  lower_returns : {b d : ℕ} {calls : List Call} {par : ℕ} {stack : List ℕ} {marks : List CallMark} {go : Returned → Rest} → d ≤ b → Returns memory cog placed.table b calls par stack marks go → Returns memory cog placed.table d calls par stack marks go
  lower_returns within r = record { by = λ hand f own le returned given s above is. r.by hand f own (omega (arith, le, within)) returned given s above is }

  lower_aborts : {b d : ℕ} {calls : List Call} {par : ℕ} {stack : List ℕ} {marks : List CallMark} {go : Returned → Rest} → d ≤ b → Aborts memory cog placed.table b calls par stack marks go → Aborts memory cog placed.table d calls par stack marks go
  lower_aborts within r = record { by = λ hand f own le returned given s above is. r.by hand f own (omega (arith, le, within)) returned given s above is }

  module _ (d par : ℕ) (ok : CallsOk memory cog placed.table program addresses d par (meaning d program addresses par))
      (target : Target) (is_instance : IsInstance program addresses target.instance) (file : File) (is_file : slice_get program target.instance.file ≡ Some file) (tree : MethodTree) (is_tree : method_of file target.method ≡ Some tree)
      (frame size : ℕ) (calls : List Call) (ends_at : (frame + 4 + size) % 2 ^ 16 ≡ (frame + 4 + frame_size file tree) % 2 ^ 16) (stack : List ℕ) (marks : List CallMark) (room : Room calls stack marks)
      (return abort : Returned → Rest) (f : ℕ) (within : f ≤ d) (returns : Returns memory cog placed.table f calls par stack marks return) (aborts : Aborts memory cog placed.table f calls par stack marks abort) where
    abbrev here : Frame
    here = frame_of target frame size calls par

    abbrev compiled : Compiled
    compiled = record { memory = memory; cog = cog; program = program; addresses = addresses; number = target.instance.file; file = file; method = target.method; table = placed.table; hand = tree.place }

    abbrev working : Working
    working = record {
      t = compiled;
      c = here;
      callee = meaning d program addresses par;
      abort = abort;
      placed = placed;
      most = d;
      ok = ok;
      g = record { stack = stack; marks = marks };
      begun = room;
      top = f;
      lesser = within;
      aborts = aborts;
      is_instance = is_instance;
      is_file = is_file;
    }

    -- where the body is read
    abbrev scope : Scope
    scope = scope_with program addresses par target file tree frame (length calls + 1)

    scope-is : scope_of compiled (at here 0 0 [] [] cleared) ≡ scope
    scope-is = ap (λ (ends : ℕ). record scope { frame_end = ends }) ends_at

    starts : Stands working f (length stack) marks stack
    starts = record { low = record { low = omega arith; values = []; stacked = sym (append-nil stack); opened = []; marked = refl }; within = omega arith }

    is_placed : MethodPlaced memory cog program addresses placed.table target file tree
    is_placed = placed.method target is_instance file is_file tree is_tree

    -- the body of the method
    pub method-meets : (hand : Place) (own : Registers) → F memory cog placed.table hand f own (Finish (at here (method_at memory target.instance.base target.instance.variables target.method).entry (length stack) marks stack own))
        (statements.executes_all (suc d) (meaning d program addresses par) scope return abort tree.body untold untold (for_statement tree.place (return (Result frame))))
    method-meets hand own =
        let code = is_placed.code in
        subst (λ (s : Scope). F memory cog placed.table hand f own (Finish (at here (method_at memory target.instance.base target.instance.variables target.method).entry (length stack) marks stack own)) (statements.executes_all (suc d) (meaning d program addresses par) s return abort tree.body untold untold (for_statement tree.place (return (Result frame))))) scope-is
        (body-meets working (suc d) return (omega (arith, within)) returns hand tree.body outside _ code.0 code.2 is_placed.proper f stack starts (omega (arith, room.values, is_placed.shallow)) untold untold (for_statement tree.place (return (Result frame))) tt
        (λ g o le. goes-back (engine_of memory cog) (λ s place. Contains placed.table (s.at, place)) tree.place (return (Result frame)) hand
        (return_result-meets working (suc d) return (omega (arith, within)) returns code.0 code.1 code.3 f stack starts g o le)) f own (omega arith))

  -- what a method does after the writes that begin it
  abbrev body : (par d : ℕ) (target : Target) (file : File) (tree : MethodTree) (frame active : ℕ) (return abort : Returned → Rest) → Rest
  body par d target file tree frame active return abort =
      statements.executes_all (suc d) (meaning d program addresses par) (scope_with program addresses par target file tree frame active) return abort tree.body untold untold (for_statement tree.place (return (Result frame)))

  size-is : (frame size count locals declared : ℕ) → size ≡ (4 * count + locals) % 2 ^ 16 → locals ≡ declared → (frame + 4 + size) % 2 ^ 16 ≡ (frame + 4 + (4 * count + declared)) % 2 ^ 16
  size-is frame size count locals declared is same = omega (arith, is, same)

  -- the methods of a project are begun by their bytecodes, at most so deep
  pub calls-ok : (par d : ℕ) → CallsOk memory cog placed.table program addresses d par (meaning d program addresses par)
  calls-ok par zero = record { by = λ target is_instance file is_file tree is_tree frame calls arguments arity stack marks room return abort b returns aborts hand f own le lt s size is entered. absurd (omega (arith, lt)) }
  calls-ok par (suc d) = record {
    by = λ target is_instance file is_file tree is_tree frame calls arguments arity stack marks room return abort b returns aborts hand f own le lt s size is entered.
        let means : Option File → Rest = λ o. given o (λ file. given (method_of file target.method) (λ m. begins (suc d) (meaning d program addresses par) (scope_with program addresses par target file m frame (length calls + 1)) m arguments return abort)) in
        let means_tree : Option MethodTree → Rest = λ o. given o (λ m. begins (suc d) (meaning d program addresses par) (scope_with program addresses par target file m frame (length calls + 1)) m arguments return abort) in
        let begun = method_at memory target.instance.base target.instance.variables target.method in
        let p = placed.method target is_instance file is_file tree is_tree in
        subst (λ (o : Option File). F memory cog placed.table hand f own (calling.gives frame (0 ∷ arguments) (Called begun) s) (means o)) (sym is_file)
        (subst (λ (o : Option MethodTree). F memory cog placed.table hand f own (calling.gives frame (0 ∷ arguments) (Called begun) s) (means_tree o)) (sym is_tree)
        (follows-gives memory cog placed.table hand (0 ∷ arguments) frame (Called begun) s f own (body par d target file tree frame (length calls + 1) return abort)
        (subst (λ (x : Course SpinState). F memory cog placed.table hand f own x (body par d target file tree frame (length calls + 1) return abort)) (sym entered)
        (method-meets d par (calls-ok par d) target is_instance file is_file tree is_tree frame size calls
        (size-is frame size (length arguments) begun.locals (locals_size (setting_of file 0) tree.locals) is p.locals ∙ ap (λ n. (frame + 4 + (4 * n + locals_size (setting_of file 0) tree.locals)) % 2 ^ 16) arity)
        stack marks room return abort f (omega (arith, lt)) (lower_returns le returns) (lower_aborts le aborts) hand own))));
  }

  -- ---- lives

  first-returns : (f par : ℕ) → Returns memory cog placed.table f [] par [] [] (stops cog)
  unfolding calling.returns ends
  first-returns f par = record { by = λ hand g own le returned given s above is. record { meets = meets-last (engine memory cog placed.table hand) g (CogStop cog) (eq-eqb cog cog refl) } }

  first-aborts : (f par : ℕ) → Aborts memory cog placed.table f [] par [] [] (stops cog)
  unfolding calling.aborts ends
  first-aborts f par = record { by = λ hand g own le returned given s above is. record { meets = meets-last (engine memory cog placed.table hand) g (CogStop cog) (eq-eqb cog cog refl) } }

  -- the entry of a life, and then its method
  pub life-meets : (target : Target) (is_instance : IsInstance program addresses target.instance) (file : File) (is_file : slice_get program target.instance.file ≡ Some file) (tree : MethodTree) (is_tree : method_of file target.method ≡ Some tree) (frame f : ℕ) →
      M memory cog placed.table no_statement f (enters_at (first_with (method_at memory target.instance.base target.instance.variables target.method).entry target.instance.base target.instance.variables frame (frame_size file tree))) (deeds_of program addresses target frame cog f)
  unfolding ends
  life-meets target is_instance file is_file tree is_tree frame f =
      let entry = (method_at memory target.instance.base target.instance.variables target.method).entry in
      let begins_at : Course SpinState = enters_at (first_with entry target.instance.base target.instance.variables frame (frame_size file tree)) in
      let means : Option File → Rest = λ o. given o (λ file. given (method_of file target.method) (λ m. begins (suc f) (meaning f program addresses frame) (scope_with program addresses frame target file m frame 1) m [] (stops cog) (stops cog))) in
      let means_tree : Option MethodTree → Rest = λ o. given o (λ m. begins (suc f) (meaning f program addresses frame) (scope_with program addresses frame target file m frame 1) m [] (stops cog) (stops cog)) in
      subst (λ (o : Option File). M memory cog placed.table no_statement f begins_at (means o f cleared)) (sym is_file)
      (subst (λ (o : Option MethodTree). M memory cog placed.table no_statement f begins_at (means_tree o f cleared)) (sym is_tree)
      (follows-asks (engine memory cog placed.table no_statement) _ (λ word. body frame f target file tree frame 1 (stops cog) (stops cog))
      (λ answer. method-meets f frame (calls-ok frame f) target is_instance file is_file tree is_tree frame (frame_size file tree) [] refl [] []
      (record { values = omega arith; opened = omega arith; few = omega arith; below = refl }) (stops cog) (stops cog) f (omega arith) (first-returns f frame) (first-aborts f frame) no_statement cleared)).meets)

  -- The law: whatever the answers, there is a number of bytecodes, no lesser than the bound, after which they have made the accesses that the source
  -- makes, and ask the same one next or are as far as the bound tells.
  pub law : (origin : Origin) (target : Target) (frame : ℕ) → IsMethodOrigin program addresses origin target frame → (answers : List Answer) (f : ℕ) →
      (g : ℕ) × (f ≤ g) × (bytes memory origin cog answers g ≡ says program addresses target frame cog answers f)
  unfolding says
  law origin target frame o answers f =
      let p = placed.method target o.is_instance o.file o.is_file o.tree o.is_method in
      subst (λ (x : Origin). (g : ℕ) × (f ≤ g) × (bytes memory x cog answers g ≡ told cog [] (life_of program addresses target frame cog f) answers)) (sym o.is_origin)
      (subst (λ (entry : ℕ). (g : ℕ) × (f ≤ g) × (bytes memory (Spin entry target.instance.base target.instance.variables frame (frame_size o.file o.tree)) cog answers g ≡ told cog [] (life_of program addresses target frame cog f) answers)) (sym p.entry)
      (makes (engine_of memory cog) (λ s place. Contains placed.table (s.at, place)) (life-meets target o.is_instance o.file o.is_file o.tree o.is_method frame f) [] answers))

  -- The law of statements: an access that some bytecode asks is asked for the statement that the bytecode is made from.
  pub statement-law : (begin : ℕ) (origin : Origin) (target : Target) (frame : ℕ) → IsMethodOrigin program addresses origin target frame → (turns : List Turn) (n : ℕ) (s : SpinState) (clock : ℕ) (left : List Turn) (due : ℕ) (access : Access) (bound : ℕ) → n < bound →
      lived n (record { memory = memory; origin = origin; cog = cog; begin = begin }) turns ≡ Goes s clock left → lived (suc n) (record { memory = memory; origin = origin; cog = cog; begin = begin }) turns ≡ Asks due access →
      (place : Place) × Contains placed.table (s.at, place) × (says_for program addresses target frame cog (map answer_of turns) bound ≡ Some place)
  unfolding says_for
  statement-law begin origin target frame o turns n s clock left due access bound lt here there =
      let p = placed.method target o.is_instance o.file o.is_file o.tree o.is_method in
      let from : ℕ → Origin = λ entry. Spin entry target.instance.base target.instance.variables frame (frame_size o.file o.tree) in
      let is : origin ≡ from (method_at memory target.instance.base target.instance.variables target.method).entry = o.is_origin ∙ ap from p.entry in
      asks-after (engine_of memory cog) (λ s place. Contains placed.table (s.at, place)) (life-meets target o.is_instance o.file o.is_file o.tree o.is_method frame bound) n (begin + 8192) turns s clock left due access lt
      (subst (λ (x : Origin). lived n (record { memory = memory; origin = x; cog = cog; begin = begin }) turns ≡ Goes s clock left) is here)
      (subst (λ (x : Origin). lived (suc n) (record { memory = memory; origin = x; cog = cog; begin = begin }) turns ≡ Asks due access) is there)

  -- what follows for each number of bytecodes
  abbrev first_course : Origin → Course SpinState
  first_course origin = enters_at (first_of origin)

  pub settled-by : (origin : Origin) (target : Target) (frame : ℕ) → IsMethodOrigin program addresses origin target frame → (answers : List Answer) (g : ℕ) → IsSettled (bytes memory origin cog answers g) → says program addresses target frame cog answers g ≡ bytes memory origin cog answers g
  settled-by origin target frame o answers g h =
      let r = law origin target frame o answers g in
      sym r.2 ∙ settled-later (engine_of memory cog) g r.0 r.1 (told cog [] (first_course origin) answers) h

  pub made-by : (origin : Origin) (target : Target) (frame : ℕ) → IsMethodOrigin program addresses origin target frame → (answers : List Answer) (g : ℕ) → IsBeginning (made_of (bytes memory origin cog answers g)) (made_of (says program addresses target frame cog answers g))
  made-by origin target frame o answers g =
      let r = law origin target frame o answers g in
      subst (λ (t : Told (Unit {0})). IsBeginning (made_of (bytes memory origin cog answers g)) (made_of t)) r.2
      (made-later (engine_of memory cog) g r.0 r.1 (told cog [] (first_course origin) answers))

  -- no halt but those of a source
  pub clean-by : (origin : Origin) (target : Target) (frame : ℕ) → IsMethodOrigin program addresses origin target frame → (answers : List Answer) (g : ℕ) → AreSourceAccesses (bytes memory origin cog answers g)
  unfolding says
  clean-by origin target frame o answers g =
      all-clean (bytes memory origin cog answers g) (says program addresses target frame cog answers g) (settled-by origin target frame o answers g) (made-by origin target frame o answers g)
      (own-accesses cog [] (life_of program addresses target frame cog g) (life_of program addresses target frame cog g) (life-goes program addresses target frame cog g g (omega arith)) answers (All-nil IsSourceAccess))
