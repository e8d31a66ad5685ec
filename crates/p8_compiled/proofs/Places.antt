-- Reads and writes of variables: the bytecodes' and the source's are the same accesses.
use Rattle.std.proofs.Common.{◌≡◌, refl, subst, ℕ, Bool, true, false, List, [], ◌∷◌, ◌++◌, Option}
use Rattle.p8_access.specs.declared.kinds.Access.TheVariants as access_case
use Rattle.p8_access.specs.Courses.{Finish}
use Rattle.p8_bcog.specs.declared.calls.Call.{Call}
use Rattle.p8_bcog.specs.declared.marks.CallMark.{CallMark}
use Rattle.p8_bcog.specs.declared.state.SpinState.{SpinState}
use Rattle.p8_bcog.specs.declared.step.Wanted.{Wanted}
use Rattle.p8_bcog.specs.Accesses.{ends, is_readable}
use Rattle.p8_bcog.specs.Operands.{left_by}
use Rattle.p8_bcog.specs.Places as places
use Rattle.p8_meaning.specs.Values.{with_pins}
use Rattle.p8_meaning.specs.Doing.{Registers, Rest}
use Rattle.p8_meaning.specs.Programs.{Scope}
use Rattle.p8_meaning.specs.Variables.{Location, Hub, Pins, fetches, stores, reduced}
use Rattle.p8_compiled.specs.Courses.{place_of}
use Rattle.p8_compiled.specs.Standing.{IsRegister, is_par, is_cnt, is_ina, is_outa, is_dira}
use Rattle.p8_compiled.proofs.Meets.{Reading, Follows, meets-ask, follows-if, follows-halts, follows-asks}

-- what of a cog stays the same while a method's body is carried out
pub record Frame : Type 0 where
  pub pbase : ℕ
  pub vbase : ℕ
  pub frame : ℕ
  pub size : ℕ
  pub calls : List Call
  pub par : ℕ

-- where such a cog stands
abbrev pub at : Frame → (p base : ℕ) → List CallMark → (stack : List ℕ) → Registers → SpinState
at c p base marks stack own = record {
  at = p;
  pbase = c.pbase;
  vbase = c.vbase;
  frame = c.frame;
  size = c.size;
  base = base;
  stack = stack;
  marks = marks;
  calls = c.calls;
  outa = own.outa;
  outb = 0;
  dira = own.dira;
  dirb = 0;
  par = c.par;
}

-- what lies on the stack after a form whose value may be used
abbrev pub left_on : (used : Bool) → List ℕ → ℕ → List ℕ
left_on true xs value = xs ++ value ∷ []
left_on false xs value = xs

-- the register of a location can be read, or written
abbrev pub IsThere : (written : Bool) → Location → Type 0
IsThere written (Hub width address) = Unit {0}
IsThere written (Pins register high low) = IsRegister written register

pub reduced-is : (where_is : Location) (value : ℕ) → places.reduced (place_of where_is) value ≡ reduced where_is value
reduced-is (Hub width address) value = refl
reduced-is (Pins register high low) value = refl

module _ (e : Reading SpinState) (c : Frame) (q base : ℕ) (marks : List CallMark) (stack : List ℕ) where
  -- a read
  pub follows-read : (s : Scope) → s.par ≡ c.par → (wanted : Wanted) (where_is : Location) → IsThere false where_is → (count f : ℕ) (own : Registers) (go : ℕ → Rest) →
      ((value : ℕ) → Follows e count f own (places.uses wanted (place_of where_is) value (at c q base marks stack own)) (go value)) →
      Follows e count f own (places.reads_place wanted (place_of where_is) (at c q base marks stack own)) (fetches s where_is go)
  unfolding places.reads_place places.asks_for
  follows-read s par wanted (Hub width address) there count f own go m =
      follows-if e (is_readable width address) (follows-asks e _ go (λ answer. m _)) (follows-halts e _)
  follows-read s par wanted (Pins register high low) is_par count f own go m =
      let same : Follows e count f own (places.uses wanted (place_of (Pins 0x1F0 high low)) (places.pins_of high low c.par) (at c q base marks stack own)) (go (places.pins_of high low s.par)) =
      subst (λ (w : ℕ). Follows e count f own (places.uses wanted (place_of (Pins 0x1F0 high low)) (places.pins_of high low w) (at c q base marks stack own)) (go (places.pins_of high low s.par))) par (m (places.pins_of high low s.par)) in
      record { meets = same.meets }
  follows-read s par wanted (Pins register high low) is_cnt count f own go m = follows-asks e access_case.Clock (λ word. go (places.pins_of high low word)) (λ answer. m _)
  follows-read s par wanted (Pins register high low) is_ina count f own go m = follows-asks e access_case.PinsIn (λ word. go (places.pins_of high low word)) (λ answer. m _)
  follows-read s par wanted (Pins register high low) is_outa count f own go m = record { meets = (m (places.pins_of high low own.outa)).meets }
  follows-read s par wanted (Pins register high low) is_dira count f own go m = record { meets = (m (places.pins_of high low own.dira)).meets }

  -- a write, after which this value is left
  pub follows-write : (where_is : Location) → IsThere true where_is → (value : ℕ) (left : Option ℕ) (count f : ℕ) (own : Registers) (go : Rest) →
      ((o : Registers) → Follows e count f o (Finish (left_by left (at c q base marks stack o))) go) →
      Follows e count f own (places.writes_place (place_of where_is) value left (at c q base marks stack own)) (stores where_is value go)
  unfolding places.writes_place places.writes_register ends
  follows-write (Hub width address) there value left count f own go m = follows-asks e _ (λ word. go) (λ answer. m own)
  follows-write (Pins register high low) is_outa value left count f own go m = record { meets = meets-ask e count _ (λ answer. (m (record own { outa = with_pins high low value own.outa })).meets) }
  follows-write (Pins register high low) is_dira value left count f own go m = record { meets = meets-ask e count _ (λ answer. (m (record own { dira = with_pins high low value own.dira })).meets) }
