-- What the bytecodes of variables do: a value is read, written or changed where the source says that the variable is.
use Rattle.std.proofs.Common.{◌≡◌, refl, sym, ap, ◌∙◌, subst, arith, ℕ, ◌+◌, ◌-◌, ◌^◌, ◌≤◌, ◌==◌, Bool, true, false, if◌then◌else◌, Option, Some, None, IsTrue}
use Rattle.p8_tree.specs.Expressions.{Variable, Named, Part, Memory, Register}
use Rattle.p8_tree.specs.Proper as proper
use Rattle.p8_access.specs.Courses.{Course}
use Rattle.p8_bytecode.specs.declared.op.Op.{Op}
use Rattle.p8_bytecode.specs.Table.{is_effect, is_step}
use Rattle.p8_bytecode.specs.Spelling.{IsChange, IsStep, IsOp}
use Rattle.p8_bcog.specs.declared.state.SpinState.{SpinState}
use Rattle.p8_bcog.specs.declared.variable_place.VariablePlace as place
use Rattle.p8_bcog.specs.declared.step.Wanted.TheVariants as wanted_case
use Rattle.p8_bcog.specs.Operands.{operand, taken, tested}
use Rattle.p8_bcog.specs.Places as places
use Rattle.p8_bcog.specs.Changes.{pushes, pops, changes, leaves}
use Rattle.p8_bcog.specs.Bytecodes.{row}
use Rattle.p8_gen.specs.Names.{Names}
use Rattle.p8_gen.specs.Pieces.{one}
use Rattle.p8_gen.specs.Variables.{Operation, Push, Pop, Using, Reference, effect_of, effect_for, effect_by, leaving, assigned}
use Rattle.p8_compiled.specs.Courses.{takes_names, takes_value, tops, leaves_if, WhereSo}
use Rattle.p8_compiled.specs.Standing.{Compiled, At, site_of, names_count, reads, writes, operates, updates, replaces, addresses_of, ReadAt, AssignAt, OperateAt, ReplaceAt, UpdateAt, ChangeAt, AddressAt}
use Rattle.p8_compiled.proofs.Standing.{Stand, so, one-stand}
use Rattle.p8_compiled.proofs.Operands.{tested-same}
use Rattle.p8_compiled.proofs.Memory.{Acts, done, referenced, with_jump, FitsEffect}
use Rattle.p8_compiled.proofs.Effects.{IsChanging, stores_left, is-storing, changes_right, IsOperating, is-operating, changes_itself, IsUpdating, sets_of, IsSetting, is_size, Makes, clears, fills, updates as updates_by, all_changes, makes}
use Rattle.p8_compiled.proofs.Homes.{IsFound, op_for}

-- the other of two facts
otherwise : (F : Type 0) {G : Type 0} (b : Bool) → b ≡ false → G → WhereSo b F G
otherwise F true is g = absurd (cc)
otherwise F false is g = g

-- the address of what lies in memory
refers-to : (t : Compiled) (v : Variable) → IsTrue (proper.is_in_memory v) → (s : SpinState) → referenced (names_count v) (site_of t v (tops (names_count v) s) s) s ≡ addresses_of t v (tops (names_count v) s) (taken (names_count v) s)
refers-to t (Named name i q) is s = refl
refers-to t (Part name size i q) is s = refl
refers-to t (Memory size e i q) is s = refl
refers-to t (Register address x q) is s = absurd (cc)

module _ (n : Names) (t : Compiled) (base : ℕ) where
  abbrev pub StandsAt : Op → (SpinState → Course SpinState) → Type 0
  StandsAt op course = Stand t.memory base t.table t.hand (one op) (λ p q. At t p course q)

  module _ (v : Variable) (f : IsFound n t v) where
    abbrev there : SpinState → place.VariablePlace
    there s = site_of t v (tops (names_count v) s) s

    -- after the test the place is that of the source
    placed : (takes leaves : ℕ) (s : SpinState) (course : place.VariablePlace → Course SpinState) → names_count v ≤ takes → tested takes leaves s (course (f.at s)) ≡ tested takes leaves s (course (there s))
    placed takes leaves s course le = tested-same takes leaves s _ _ (λ enough. ap course (f.site s (omega (arith, le, enough))))

    -- an operation that does this
    stands-by : (o : Operation) (course : SpinState → Course SpinState) → FitsEffect o (with_jump (op_for n v o) 0 false) → ((s : SpinState) → done o (names_count v) (op_for n v o) (f.at s) s ≡ course s) → StandsAt (op_for n v o) course
    stands-by o course fits same =
        let a : Acts t.memory t.cog (op_for n v o) o (names_count v) f.at = f.acts o in
        one-stand t.memory t.cog base t.table t.hand (op_for n v o) course (subst IsOp a.plain (a.is_op 0 false fits))
        (λ s. subst (λ (op : Op). row t.memory t.cog op s ≡ done o (names_count v) op (f.at s) s) a.plain (a.does 0 false s) ∙ same s)

    no-effect : (o : Operation) → effect_of o ≡ 0 → IsChange false (with_jump (op_for n v o) 0 false)
    no-effect o none = ((f.acts o).effect ∙ none, refl, refl)

    -- ---- without an effect

    pub read-stand : Stand t.memory base t.table t.hand (one (op_for n v Push)) (ReadAt t v)
    unfolding pushes
    read-stand = stands-by Push (takes_names (names_count v) 1 (reads t v)) (no-effect Push refl)
        (λ s. placed (names_count v) 1 s (λ x. places.reads_place wanted_case.Pushed x (taken (names_count v) s)) (omega arith))

    pub pop-stand : Stand t.memory base t.table t.hand (one (op_for n v Pop)) (AssignAt t false None v)
    unfolding pops
    pop-stand = stands-by Pop (takes_value (names_count v) 0 (writes t false v)) (no-effect Pop refl)
        (λ s. placed (names_count v + 1) 0 s (λ x. places.writes_place x (operand s (names_count v)) None (taken (names_count v + 1) s)) (omega arith))

    -- ---- with one

    with-effect : (op : Op) (effect : ℕ) → op.effect ≡ effect → record op { effect = effect } ≡ op
    with-effect op effect is = ap (λ e. record op { effect = e }) (sym is)

    changing : (effect : ℕ) (course : (named : ℕ) → place.VariablePlace → SpinState → Course SpinState) (wanted : SpinState → Course SpinState) → IsChanging effect course → ((s : SpinState) → course (names_count v) (f.at s) s ≡ wanted s) → StandsAt (op_for n v (Using effect)) wanted
    changing effect course wanted c same =
        let op : Op = op_for n v (Using effect) in
        let is : op.effect ≡ effect = (f.acts (Using effect)).effect in
        stands-by (Using effect) wanted
        (subst (λ e. IsTrue (is_effect e)) (sym is) c.known, subst (λ b. IsStep b (with_jump op 0 false)) (sym (ap is_step is ∙ c.no_step)) (refl, refl))
        (λ s. subst (λ (x : Op). changes (names_count v) x (f.at s) s ≡ course (names_count v) (f.at s) s) (with-effect op effect is) (c.does op (names_count v) (f.at s) s) ∙ same s)

    pub store-stand : (used : Bool) → StandsAt (op_for n v (assigned used None)) (takes_value (names_count v) (leaves_if used) (writes t used v))
    store-stand false = pop-stand
    store-stand true = changing 0x80 stores_left (takes_value (names_count v) 1 (writes t true v)) is-storing
        (λ s. placed (names_count v + 1) 1 s (λ x. places.writes_place x (operand s (names_count v)) (Some (operand s (names_count v))) (taken (names_count v + 1) s)) (omega arith))

    pub operate-stand : (used : Bool) (k : ℕ) → IsTrue (proper.is_binary k) → Stand t.memory base t.table t.hand (one (op_for n v (Using (leaving used (effect_by k))))) (OperateAt t used k v)
    operate-stand used k is =
        let e : ℕ = leaving used (effect_by k) in
        let o : IsOperating used k = is-operating used k is in
        so (changing e (changes_right e) (takes_value (names_count v) (leaves_if used) (operates t e v)) o.changes
        (λ s. ap (λ (b : Bool). tested (names_count v + 1) (if b then 1 else 0) s (places.reads_place (wanted_case.Changed e (operand s (names_count v))) (f.at s) (taken (names_count v + 1) s))) o.operation.leaves
        ∙ placed (names_count v + 1) (leaves_if used) s (λ x. places.reads_place (wanted_case.Changed e (operand s (names_count v))) x (taken (names_count v + 1) s)) (omega arith)))
        (λ p q at. (e, o.operation, at))

    pub assign-stand : (used : Bool) (operator : Option ℕ) → proper.IfThere (λ k. IsTrue (proper.is_binary k)) operator → Stand t.memory base t.table t.hand (one (op_for n v (assigned used operator))) (AssignAt t used operator v)
    assign-stand true None is = store-stand true
    assign-stand false None is = store-stand false
    assign-stand used (Some k) is = operate-stand used k is

    update-stand : (used : Bool) (effect change : ℕ) → IsUpdating used effect change → Stand t.memory base t.table t.hand (one (op_for n v (Using effect))) (UpdateAt t used change v)
    update-stand used e change u =
        so (changing e (changes_itself e) (takes_names (names_count v) (leaves_if used) (updates t e v)) u.changes
        (λ s. ap (λ (b : Bool). tested (names_count v) (if b then 1 else 0) s (places.reads_place (wanted_case.Changed e 0) (f.at s) (taken (names_count v) s))) u.made.leaves
        ∙ placed (names_count v) (leaves_if used) s (λ x. places.reads_place (wanted_case.Changed e 0) x (taken (names_count v) s)) (omega arith)))
        (λ p q at. (e, u.made, at))

    set-stand : (used : Bool) (effect value : ℕ) → IsSetting used effect value → Stand t.memory base t.table t.hand (one (op_for n v (Using effect))) (ReplaceAt t used value v)
    set-stand true e value is =
        changing e (sets_of true value) (takes_names (names_count v) 1 (replaces t true value v)) is
        (λ s. placed (names_count v) 1 s (λ x. places.reads_place (wanted_case.Replaced value) x (taken (names_count v) s)) (omega arith))
    set-stand false e value is =
        changing e (sets_of false value) (takes_names (names_count v) 0 (replaces t false value v)) is
        (λ s. placed (names_count v) 0 s (λ x. places.writes_place x value None (taken (names_count v) s)) (omega arith))

    made-stand : (used : Bool) (effect change : ℕ) → Makes used effect change → Stand t.memory base t.table t.hand (one (op_for n v (Using effect))) (ChangeAt t used change v)
    made-stand used effect change (clears is c) = subst (λ k. Stand t.memory base t.table t.hand (one (op_for n v (Using effect))) (ChangeAt t used k v)) (sym is) (set-stand used effect 0 c)
    made-stand used effect change (fills is c) = subst (λ k. Stand t.memory base t.table t.hand (one (op_for n v (Using effect))) (ChangeAt t used k v)) (sym is) (set-stand used effect (2 ^ 32 - 1) c)
    made-stand used effect change (updates_by no_clear no_fill u) =
        so (update-stand used effect change u) (λ p q at. otherwise (ReplaceAt t used 0 v p q) (change == 0x18) no_clear (otherwise (ReplaceAt t used (2 ^ 32 - 1) v p q) (change == 0x1C) no_fill at))

    pub change-stand : (used : Bool) (size change : ℕ) → is_size size ≡ true → proper.is_one_of all_changes change ≡ true → Stand t.memory base t.table t.hand (one (op_for n v (Using (leaving used (effect_for size change))))) (ChangeAt t used change v)
    change-stand used size change known is = made-stand used (leaving used (effect_for size change)) change (makes used size change known is)

    -- ---- addresses

    pub address-stand : IsTrue (proper.is_in_memory v) → Stand t.memory base t.table t.hand (one (op_for n v Reference)) (AddressAt t v)
    address-stand is = stands-by Reference (takes_names (names_count v) 1 (addresses_of t v)) (no-effect Reference refl)
        (λ s. placed (names_count v) 1 s (λ x. referenced (names_count v) x s) (omega arith) ∙ tested-same (names_count v) 1 s _ _ (λ _. refers-to t v is s))
