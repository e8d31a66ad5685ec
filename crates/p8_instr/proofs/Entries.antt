-- What holds beside each word of a list holds of what is found there.
use Rattle.std.proofs.Common.{◌≡◌, ℕ, ◌<◌, Bool, true, false, cond, ◌&&◌, nat_lt, List, [], ◌∷◌, Option, IfSome, refl, arith, rules}
use Rattle.std.specs.List.{list_all}
use Rattle.std.specs.Str.{str_eq_ignore_ascii_case}
use Rattle.std.proofs.lemmas.Bool.Decides.{nat_tests}
use Rattle.p8_instr.specs.declared.instruction.Instr.{Instr}
use Rattle.p8_instr.specs.Conditions.{conditions}
use Rattle.p8_instr.specs.Instruction.{FitsFields}
use Rattle.p8_instr.specs.Mnemonics.{entry_of, mnemonics}

both : (a b : Bool) → (a && b) ≡ true → (a ≡ true) × (b ≡ true)
both true b h = (refl, h)
both false b h = absurd (cc)

IfSome-cond : {T : Type 0} (P : T → Type 0) (b : Bool) (x y : Option T) → IfSome x P → IfSome y P → IfSome (cond b x y) P
IfSome-cond P true x y hx hy = hx
IfSome-cond P false x y hx hy = hy

IfSome-entry_of : {T : Type 0} (P : T → Type 0) (test : T → Bool) → ((v : T) → test v ≡ true → P v)
    → (entries : List (List ℕ × T)) (word : List ℕ) → list_all (λ e. test e.1) entries ≡ true → IfSome (entry_of entries word) P
IfSome-entry_of P test from [] word h = search rules
IfSome-entry_of P test from (e ∷ es) word h =
    let p = both (test e.1) (list_all (λ e. test e.1) es) h in
    IfSome-cond P (str_eq_ignore_ascii_case e.0 word) _ _ (from e.1 p.0) (IfSome-entry_of P test from es word p.1)

abbrev fits : Instr → Bool
fits i = nat_lt i.opcode 64 && (nat_lt i.flags 16 && (nat_lt i.cond 16 && (nat_lt i.dest 512 && nat_lt i.source 512)))

FitsFields-fits : (i : Instr) → fits i ≡ true → FitsFields i
FitsFields-fits i h =
    let a = both (nat_lt i.opcode 64) _ h in
    let b = both (nat_lt i.flags 16) _ a.1 in
    let c = both (nat_lt i.cond 16) _ b.1 in
    let d = both (nat_lt i.dest 512) _ c.1 in
    record { opcode = grind (arith, nat_tests, a.0); flags = grind (arith, nat_tests, b.0); cond = grind (arith, nat_tests, c.0); dest = grind (arith, nat_tests, d.0); source = grind (arith, nat_tests, d.1) }

all_fit : list_all (λ e. fits e.1) mnemonics ≡ true
unfolding mnemonics
all_fit = refl

pub FitsFields-default : (word : List ℕ) → IfSome (entry_of mnemonics word) FitsFields
FitsFields-default word = IfSome-entry_of FitsFields fits FitsFields-fits mnemonics word all_fit

all_below : list_all (λ e. nat_lt e.1 16) conditions ≡ true
unfolding conditions
all_below = refl

pub field-below : (word : List ℕ) → IfSome (entry_of conditions word) (λ field. field < 16)
field-below word =
    IfSome-entry_of (λ field. field < 16) (λ field. nat_lt field 16) (λ v h. grind (arith, nat_tests)) conditions word all_below
