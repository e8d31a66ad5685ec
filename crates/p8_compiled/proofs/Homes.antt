-- Where the variables of a method are: a name's home is what the source means by it.
use Rattle.std.proofs.Common.{[], ◌∷◌, nat_le, ◌≡◌, refl, sym, ap, ap₂, ◌∙◌, subst, arith, ℕ, ◌+◌, ◌-◌, ◌*◌, ◌%◌, ◌^◌, ◌≤◌, Bool, true, false, if◌then◌else◌, List, length, Option, Some, None, IsTrue}
use Rattle.std.specs.Str.{bytes_eq}
use Rattle.p8_access.specs.Proper.{bytes_in}
use Rattle.p8_tree.specs.declared.places.Place.{Place}
use Rattle.p8_tree.specs.Names.{result_word}
use Rattle.p8_tree.specs.Expressions.{Tree, Variable, Named, Part, Memory, Register, Index, no_index, index, Bits, whole, bits, single, range}
use Rattle.p8_tree.specs.Proper as proper
use Rattle.p8_kinds.specs.declared.name_kinds.NameKind.{NameKind}
use Rattle.p8_kinds.specs.declared.name_kinds.NameKind.TheVariants.{Const, Global, Local, Label, Method, Object}
use Rattle.p8_kinds.specs.declared.uses.Use.TheVariants as used
use Rattle.p8_kinds.specs.Uses.{wrong}
use Rattle.p8_bytecode.specs.declared.op.Op.{Op}
use Rattle.p8_bytecode.specs.Reading.{bare}
use Rattle.p8_bytecode.specs.Table.{rows}
use Rattle.p8_bcog.specs.Variables.{one_pin, some_pins, whole_register, all_pins, acts_on_pins}
use Rattle.p8_bcog.specs.Bytecodes.{row, return_row}
use Rattle.p8_bcog.specs.declared.state.SpinState.{SpinState}
use Rattle.p8_bcog.specs.declared.variable_place.VariablePlace as place
use Rattle.p8_bcog.specs.declared.variable_place.VariablePlace.TheVariants as place_case
use Rattle.p8_bcog.specs.Changes.{pushes}
use Rattle.p8_bcog.specs.Operands.{operand}
use Rattle.p8_meaning.specs.Variables.{width_of, size_of, size_of_kind, address_of, address_of_kind}
use Rattle.p8_gen.specs.Names.{Names}
use Rattle.p8_gen.specs.Variables.{Base, Pushed, Home, home_of, home_of_kind, Operation, Push, Pop, memory_op, plain_op, operation_bits, effect_of}
use Rattle.p8_gen.specs.Expressions.{sized, pushed_home}
use Rattle.p8_compiled.specs.Courses.{tops}
use Rattle.p8_compiled.specs.Standing.{Compiled, scope_of, site_of, names_count, bits_count}
use Rattle.p8_compiled.specs.Agreeing.{Agrees, IsSound, kind_in_method}
use Rattle.p8_compiled.proofs.Memory.{Acts, IsHome, is_based, named_by, index_count, start_of, memory_at, memory-acts, plain-acts}
use Rattle.p8_compiled.proofs.Choices.{each}
use Rattle.p8_compiled.proofs.Operands.{top-0, top-1}
use Rattle.p8_compiled.proofs.Truths.{second-true}

-- ---- names

-- a kind of variables
abbrev pub IsVariableKind : Option NameKind → Type 0
IsVariableKind (Some (Global size offset)) = Unit {0}
IsVariableKind (Some (Local offset)) = Unit {0}
IsVariableKind (Some (Label size)) = Unit {0}
IsVariableKind kind = ⊥

pub not-wrong : (kind : Option NameKind) → wrong used.Variable kind ≡ None → IsVariableKind kind
not-wrong None is = absurd (cc)
not-wrong (Some (Global size offset)) is = tt
not-wrong (Some (Local offset)) is = tt
not-wrong (Some (Label size)) is = tt
not-wrong (Some (Const v)) is = absurd (cc)
not-wrong (Some (Method number params)) is = absurd (cc)
not-wrong (Some (Object item position count)) is = absurd (cc)

-- a home that stands for a variable of this size at this address
pub record IsHomeOf (home : Home) (size : SpinState → ℕ) (address : SpinState → ℕ) : Type 0 where
  pub is_home : IsHome home
  pub based : is_based home.base ≡ true
  pub same_size : (s : SpinState) → home.size ≡ size s
  pub same_address : (indexed : Bool) (s : SpinState) → start_of indexed home.base s + home.offset ≡ address s

nothing-more : (n : ℕ) → n + 0 ≡ n
nothing-more n = omega arith

-- RESULT, or a name of the file
name-home : (n : Names) (t : Compiled) (name : List ℕ) (result : Bool) (kind : Option NameKind) →
    ((k : NameKind) → (if result then Some (Local 0) else kind) ≡ Some k → IsSound n t name k) → IsVariableKind (if result then Some (Local 0) else kind) →
    IsHomeOf (home_of_kind n name (if result then Some (Local 0) else kind)) (λ s. if result then 4 else size_of_kind kind) (λ s. if result then s.frame else address_of_kind (scope_of t s) name kind)
name-home n t name true kind sound is =
    record {
      is_home = record { size = refl; place = omega arith };
      based = refl;
      same_size = λ s. refl;
      same_address = λ indexed s. nothing-more s.frame;
    }
name-home n t name false (Some (Global size offset)) sound is =
    let f = sound (Global size offset) refl in
    record { is_home = record { size = f.0; place = f.1 }; based = refl; same_size = λ s. refl; same_address = λ indexed s. refl }
name-home n t name false (Some (Local offset)) sound is =
    let f = sound (Local offset) refl in
    record { is_home = record { size = refl; place = f }; based = refl; same_size = λ s. refl; same_address = λ indexed s. refl }
name-home n t name false (Some (Label size)) sound is =
    let f = sound (Label size) refl in
    record { is_home = record { size = f.0; place = f.2 }; based = refl; same_size = λ s. refl; same_address = λ indexed s. ap (λ label. s.pbase + label) f.1 }
name-home n t name false None sound is = absurd is
name-home n t name false (Some (Const v)) sound is = absurd is
name-home n t name false (Some (Method number params)) sound is = absurd is
name-home n t name false (Some (Object item position count)) sound is = absurd is

pub home-of-name : (n : Names) (t : Compiled) (name : List ℕ) → Agrees n t → IsVariableKind (n.kind name) → IsHomeOf (home_of n name) (λ s. size_of (scope_of t s) name) (λ s. address_of (scope_of t s) name)
home-of-name n t name a is =
    let same : n.kind name ≡ kind_in_method t name = a.kinds name in
    subst (λ (k : Option NameKind). IsHomeOf (home_of_kind n name k) (λ s. size_of (scope_of t s) name) (λ s. address_of (scope_of t s) name)) (sym same)
    (name-home n t name (bytes_eq name result_word) (t.file.kind t.method name) (λ k is_k. a.sound name k (same ∙ is_k)) (subst IsVariableKind same is))

-- ---- variables

-- the bytecode after what names a variable
abbrev pub op_for_home : Home → Index → Operation → Op
op_for_home home no_index o = plain_op home o
op_for_home home (index e) o = memory_op true home o

abbrev pub op_for_memory : (size : ℕ) → Index → Operation → Op
op_for_memory size no_index o = memory_op false (pushed_home size) o
op_for_memory size (index e) o = memory_op true (pushed_home size) o

abbrev pub register_op : (code address : ℕ) → Operation → Op
register_op code address o = record (bare code) { first = operation_bits o + (address - 0x1E0); effect = effect_of o }

abbrev pub op_for_register : Bits → (address : ℕ) → Operation → Op
op_for_register whole address o = register_op 0x3F address o
op_for_register (bits (single e)) address o = register_op 0x3D address o
op_for_register (bits (range e f)) address o = register_op 0x3E address o

abbrev pub op_for : Names → Variable → Operation → Op
op_for n (Named name i q) o = op_for_home (home_of n name) i o
op_for n (Part name size i q) o = op_for_home (sized (home_of n name) size) i o
op_for n (Memory size e i q) o = op_for_memory size i o
op_for n (Register address x q) o = op_for_register x address o

-- the bytecode acts where the source says that the variable is
pub record IsFound (n : Names) (t : Compiled) (v : Variable) : Type 0 where
  pub at : SpinState → place.VariablePlace
  pub acts : (o : Operation) → Acts t.memory t.cog (op_for n v o) o (names_count v) at
  pub site : (s : SpinState) → names_count v ≤ length s.stack → at s ≡ site_of t v (tops (names_count v) s) s

based-count : (indexed : Bool) (base : Base) → is_based base ≡ true → named_by indexed base ≡ index_count indexed
based-count indexed Pushed is = absurd (cc)
based-count indexed _ is = refl

with-count : {memory : List ℕ} {cog : ℕ} {op : Op} {o : Operation} {m k : ℕ} {at : SpinState → place.VariablePlace} → m ≡ k → Acts memory cog op o m at → Acts memory cog op o k at
with-count {memory} {cog} {op} {o} {at = at} same a = subst (λ (c : ℕ). Acts memory cog op o c at) same a

-- the element of a row that begins at an address
same-element : (home : Home) (width address start shift number : ℕ) → home.size ≡ width → start + home.offset ≡ address → shift ≡ number →
    ◌≡◌ {A = place.VariablePlace} (place_case.Memory (width_of home.size) ((start + home.offset + shift * bytes_in (width_of home.size)) % 2 ^ 16)) (place_case.Memory (width_of width) ((address + number * bytes_in (width_of width)) % 2 ^ 16))
same-element home width address start shift number is there here =
    ap₂ (λ a b. place_case.Memory (width_of home.size) ((a + b * bytes_in (width_of home.size)) % 2 ^ 16)) there here
    ∙ ap (λ z. place_case.Memory (width_of z) ((address + number * bytes_in (width_of z)) % 2 ^ 16)) is

-- in a home, with an index or without
named-found : (n : Names) (t : Compiled) (name : List ℕ) (i : Index) (q : Place) → IsHomeOf (home_of n name) (λ s. size_of (scope_of t s) name) (λ s. address_of (scope_of t s) name) → IsFound n t (Named name i q)
named-found n t name no_index q h =
    let home : Home = home_of n name in
    record {
      at = memory_at false home;
      acts = λ o. with-count (based-count false home.base h.based) (plain-acts t.memory t.cog home.base home.offset home.size o h.is_home);
      site = λ s le. same-element home _ _ (start_of false home.base s) 0 0 (h.same_size s) (h.same_address false s) refl;
    }
named-found n t name (index e) q h =
    let home : Home = home_of n name in
    record {
      at = memory_at true home;
      acts = λ o. with-count (based-count true home.base h.based) (memory-acts t.memory t.cog true home o h.is_home);
      site = λ s le. same-element home _ _ (start_of true home.base s) (operand s 0) _ (h.same_size s) (h.same_address true s) (sym (top-0 s 1 0 refl le));
    }

part-found : (n : Names) (t : Compiled) (name : List ℕ) (size : ℕ) (i : Index) (q : Place) → IsTrue (proper.is_size size) → IsHomeOf (home_of n name) (λ s. size_of (scope_of t s) name) (λ s. address_of (scope_of t s) name) → IsFound n t (Part name size i q)
part-found n t name size no_index q is h =
    let home : Home = sized (home_of n name) size in
    record {
      at = memory_at false home;
      acts = λ o. with-count (based-count false home.base h.based) (plain-acts t.memory t.cog home.base home.offset home.size o (record { size = is; place = h.is_home.place }));
      site = λ s le. same-element home size _ (start_of false home.base s) 0 0 refl (h.same_address false s) refl;
    }
part-found n t name size (index e) q is h =
    let home : Home = sized (home_of n name) size in
    record {
      at = memory_at true home;
      acts = λ o. with-count (based-count true home.base h.based) (memory-acts t.memory t.cog true home o (record { size = is; place = h.is_home.place }));
      site = λ s le. same-element home size _ (start_of true home.base s) (operand s 0) _ refl (h.same_address true s) (sym (top-0 s 1 0 refl le));
    }

memory-found : (n : Names) (t : Compiled) (size : ℕ) (e : Tree) (i : Index) (q : Place) → IsTrue (proper.is_size size) → IsFound n t (Memory size e i q)
memory-found n t size e no_index q is =
    let home : Home = pushed_home size in
    record {
      at = memory_at false home;
      acts = λ o. memory-acts t.memory t.cog false home o (record { size = is; place = refl });
      site = λ s le. same-element home size _ (operand s 0) 0 0 refl (nothing-more (operand s 0) ∙ sym (top-0 s 1 0 refl le)) refl;
    }
memory-found n t size e (index i) q is =
    let home : Home = pushed_home size in
    record {
      at = memory_at true home;
      acts = λ o. memory-acts t.memory t.cog true home o (record { size = is; place = refl });
      site = λ s le. same-element home size _ (operand s 1) (operand s 0) _ refl (nothing-more (operand s 1) ∙ sym (top-0 s 2 1 refl le)) (sym (top-1 s 2 0 refl le));
    }

-- ---- registers

-- the registers that can be named
abbrev named_registers : List ℕ
named_registers = 0x1F0 ∷ 0x1F1 ∷ 0x1F2 ∷ 0x1F4 ∷ 0x1F6 ∷ []

pub is-named : (address : ℕ) → IsTrue (proper.is_register false address) → proper.is_one_of named_registers address ≡ true
is-named address is = second-true (nat_le address 0x1FF) _ (second-true (nat_le 0x1F0 address) _ is)

abbrev pins_at : Bits → (address : ℕ) → SpinState → place.VariablePlace
pins_at whole address s = place_case.Pins address 31 0
pins_at (bits (single e)) address s = place_case.Pins address (operand s 0 % 32) (operand s 0 % 32)
pins_at (bits (range e f)) address s = place_case.Pins address (operand s 1 % 32) (operand s 0 % 32)

abbrev bits_code : Bits → ℕ
bits_code whole = 0x3F
bits_code (bits (single e)) = 0x3D
bits_code (bits (range e f)) = 0x3E

register-acts-1f0 : (memory : List ℕ) (cog : ℕ) (x : Bits) (o : Operation) → Acts memory cog (op_for_register x 0x1F0 o) o (bits_count x) (pins_at x 0x1F0)
unfolding rows row return_row one_pin some_pins whole_register all_pins acts_on_pins pushes
register-acts-1f0 memory cog whole Push = record { plain = refl; effect = refl; is_op = λ off long_form fits. record { operands = (refl, refl, fits) }; does = λ off long_form s. refl }
register-acts-1f0 memory cog whole Pop = record { plain = refl; effect = refl; is_op = λ off long_form fits. record { operands = (refl, refl, fits) }; does = λ off long_form s. refl }
register-acts-1f0 memory cog (bits (single e)) Push = record { plain = refl; effect = refl; is_op = λ off long_form fits. record { operands = (refl, refl, fits) }; does = λ off long_form s. refl }
register-acts-1f0 memory cog (bits (single e)) Pop = record { plain = refl; effect = refl; is_op = λ off long_form fits. record { operands = (refl, refl, fits) }; does = λ off long_form s. refl }
register-acts-1f0 memory cog (bits (range e f)) Push = record { plain = refl; effect = refl; is_op = λ off long_form fits. record { operands = (refl, refl, fits) }; does = λ off long_form s. refl }
register-acts-1f0 memory cog (bits (range e f)) Pop = record { plain = refl; effect = refl; is_op = λ off long_form fits. record { operands = (refl, refl, fits) }; does = λ off long_form s. refl }
register-acts-1f0 memory cog _ _ = record { plain = refl; effect = refl; is_op = λ off long_form fits. record { operands = (refl, refl, fits) }; does = λ off long_form s. refl }

register-acts-1f1 : (memory : List ℕ) (cog : ℕ) (x : Bits) (o : Operation) → Acts memory cog (op_for_register x 0x1F1 o) o (bits_count x) (pins_at x 0x1F1)
unfolding rows row return_row one_pin some_pins whole_register all_pins acts_on_pins pushes
register-acts-1f1 memory cog whole Push = record { plain = refl; effect = refl; is_op = λ off long_form fits. record { operands = (refl, refl, fits) }; does = λ off long_form s. refl }
register-acts-1f1 memory cog whole Pop = record { plain = refl; effect = refl; is_op = λ off long_form fits. record { operands = (refl, refl, fits) }; does = λ off long_form s. refl }
register-acts-1f1 memory cog (bits (single e)) Push = record { plain = refl; effect = refl; is_op = λ off long_form fits. record { operands = (refl, refl, fits) }; does = λ off long_form s. refl }
register-acts-1f1 memory cog (bits (single e)) Pop = record { plain = refl; effect = refl; is_op = λ off long_form fits. record { operands = (refl, refl, fits) }; does = λ off long_form s. refl }
register-acts-1f1 memory cog (bits (range e f)) Push = record { plain = refl; effect = refl; is_op = λ off long_form fits. record { operands = (refl, refl, fits) }; does = λ off long_form s. refl }
register-acts-1f1 memory cog (bits (range e f)) Pop = record { plain = refl; effect = refl; is_op = λ off long_form fits. record { operands = (refl, refl, fits) }; does = λ off long_form s. refl }
register-acts-1f1 memory cog _ _ = record { plain = refl; effect = refl; is_op = λ off long_form fits. record { operands = (refl, refl, fits) }; does = λ off long_form s. refl }

register-acts-1f2 : (memory : List ℕ) (cog : ℕ) (x : Bits) (o : Operation) → Acts memory cog (op_for_register x 0x1F2 o) o (bits_count x) (pins_at x 0x1F2)
unfolding rows row return_row one_pin some_pins whole_register all_pins acts_on_pins pushes
register-acts-1f2 memory cog whole Push = record { plain = refl; effect = refl; is_op = λ off long_form fits. record { operands = (refl, refl, fits) }; does = λ off long_form s. refl }
register-acts-1f2 memory cog whole Pop = record { plain = refl; effect = refl; is_op = λ off long_form fits. record { operands = (refl, refl, fits) }; does = λ off long_form s. refl }
register-acts-1f2 memory cog (bits (single e)) Push = record { plain = refl; effect = refl; is_op = λ off long_form fits. record { operands = (refl, refl, fits) }; does = λ off long_form s. refl }
register-acts-1f2 memory cog (bits (single e)) Pop = record { plain = refl; effect = refl; is_op = λ off long_form fits. record { operands = (refl, refl, fits) }; does = λ off long_form s. refl }
register-acts-1f2 memory cog (bits (range e f)) Push = record { plain = refl; effect = refl; is_op = λ off long_form fits. record { operands = (refl, refl, fits) }; does = λ off long_form s. refl }
register-acts-1f2 memory cog (bits (range e f)) Pop = record { plain = refl; effect = refl; is_op = λ off long_form fits. record { operands = (refl, refl, fits) }; does = λ off long_form s. refl }
register-acts-1f2 memory cog _ _ = record { plain = refl; effect = refl; is_op = λ off long_form fits. record { operands = (refl, refl, fits) }; does = λ off long_form s. refl }

register-acts-1f4 : (memory : List ℕ) (cog : ℕ) (x : Bits) (o : Operation) → Acts memory cog (op_for_register x 0x1F4 o) o (bits_count x) (pins_at x 0x1F4)
unfolding rows row return_row one_pin some_pins whole_register all_pins acts_on_pins pushes
register-acts-1f4 memory cog whole Push = record { plain = refl; effect = refl; is_op = λ off long_form fits. record { operands = (refl, refl, fits) }; does = λ off long_form s. refl }
register-acts-1f4 memory cog whole Pop = record { plain = refl; effect = refl; is_op = λ off long_form fits. record { operands = (refl, refl, fits) }; does = λ off long_form s. refl }
register-acts-1f4 memory cog (bits (single e)) Push = record { plain = refl; effect = refl; is_op = λ off long_form fits. record { operands = (refl, refl, fits) }; does = λ off long_form s. refl }
register-acts-1f4 memory cog (bits (single e)) Pop = record { plain = refl; effect = refl; is_op = λ off long_form fits. record { operands = (refl, refl, fits) }; does = λ off long_form s. refl }
register-acts-1f4 memory cog (bits (range e f)) Push = record { plain = refl; effect = refl; is_op = λ off long_form fits. record { operands = (refl, refl, fits) }; does = λ off long_form s. refl }
register-acts-1f4 memory cog (bits (range e f)) Pop = record { plain = refl; effect = refl; is_op = λ off long_form fits. record { operands = (refl, refl, fits) }; does = λ off long_form s. refl }
register-acts-1f4 memory cog _ _ = record { plain = refl; effect = refl; is_op = λ off long_form fits. record { operands = (refl, refl, fits) }; does = λ off long_form s. refl }

register-acts-1f6 : (memory : List ℕ) (cog : ℕ) (x : Bits) (o : Operation) → Acts memory cog (op_for_register x 0x1F6 o) o (bits_count x) (pins_at x 0x1F6)
unfolding rows row return_row one_pin some_pins whole_register all_pins acts_on_pins pushes
register-acts-1f6 memory cog whole Push = record { plain = refl; effect = refl; is_op = λ off long_form fits. record { operands = (refl, refl, fits) }; does = λ off long_form s. refl }
register-acts-1f6 memory cog whole Pop = record { plain = refl; effect = refl; is_op = λ off long_form fits. record { operands = (refl, refl, fits) }; does = λ off long_form s. refl }
register-acts-1f6 memory cog (bits (single e)) Push = record { plain = refl; effect = refl; is_op = λ off long_form fits. record { operands = (refl, refl, fits) }; does = λ off long_form s. refl }
register-acts-1f6 memory cog (bits (single e)) Pop = record { plain = refl; effect = refl; is_op = λ off long_form fits. record { operands = (refl, refl, fits) }; does = λ off long_form s. refl }
register-acts-1f6 memory cog (bits (range e f)) Push = record { plain = refl; effect = refl; is_op = λ off long_form fits. record { operands = (refl, refl, fits) }; does = λ off long_form s. refl }
register-acts-1f6 memory cog (bits (range e f)) Pop = record { plain = refl; effect = refl; is_op = λ off long_form fits. record { operands = (refl, refl, fits) }; does = λ off long_form s. refl }
register-acts-1f6 memory cog _ _ = record { plain = refl; effect = refl; is_op = λ off long_form fits. record { operands = (refl, refl, fits) }; does = λ off long_form s. refl }

pins-site : (t : Compiled) (address : ℕ) (x : Bits) (q : Place) (s : SpinState) → bits_count x ≤ length s.stack → pins_at x address s ≡ site_of t (Register address x q) (tops (bits_count x) s) s
pins-site t address whole q s le = refl
pins-site t address (bits (single e)) q s le = ap (λ pin. place_case.Pins address (pin % 32) (pin % 32)) (sym (top-0 s 1 0 refl le))
pins-site t address (bits (range e f)) q s le = ap₂ (λ high low. place_case.Pins address (high % 32) (low % 32)) (sym (top-0 s 2 1 refl le)) (sym (top-1 s 2 0 refl le))

register-found : (n : Names) (t : Compiled) (address : ℕ) (x : Bits) (q : Place) → IsTrue (proper.is_register false address) → IsFound n t (Register address x q)
register-found n t address x q is =
    record {
      at = pins_at x address;
      acts = λ o. each (λ a. Acts t.memory t.cog (op_for_register x a o) o (bits_count x) (pins_at x a)) named_registers
          (register-acts-1f0 t.memory t.cog x o, (register-acts-1f1 t.memory t.cog x o, (register-acts-1f2 t.memory t.cog x o, (register-acts-1f4 t.memory t.cog x o, (register-acts-1f6 t.memory t.cog x o, tt)))))
          address (is-named address is);
      site = pins-site t address x q;
    }

-- ---- any variable

-- what a variable has to be
abbrev pub IsUsable : Names → Variable → Type 0
IsUsable n (Named name i q) = IsVariableKind (n.kind name)
IsUsable n (Part name size i q) = IsVariableKind (n.kind name) × IsTrue (proper.is_size size)
IsUsable n (Memory size e i q) = IsTrue (proper.is_size size)
IsUsable n (Register address x q) = IsTrue (proper.is_register false address)

pub found : (n : Names) (t : Compiled) → Agrees n t → (v : Variable) → IsUsable n v → IsFound n t v
found n t a (Named name i q) is = named-found n t name i q (home-of-name n t name a is)
found n t a (Part name size i q) is = part-found n t name size i q is.1 (home-of-name n t name a is.0)
found n t a (Memory size e i q) is = memory-found n t size e i q is
found n t a (Register address x q) is = register-found n t address x q is
