-- Variables: where one is, and what reading it, writing it and changing it asks.
-- Sources: the Propeller Manual v1.2, "VAR", "BYTE", "WORD", "LONG", "RESULT", "OUTA", "DIRA", "INA", "CNT", "PAR" and "Operators" of the
-- Spin chapter.
use Rattle.std.specs.Prelude.{ℕ, ◌+◌, ◌-◌, ◌*◌, ◌%◌, ◌^◌, ◌==◌, List, Option, Some, None, if◌then◌else◌, bit_and}
use Rattle.std.specs.Str.{bytes_eq}
use Rattle.p8_access.specs.declared.kinds.Width.{Width}
use Rattle.p8_access.specs.declared.kinds.Width.TheVariants.{Byte, Word, Long}
use Rattle.p8_access.specs.declared.kinds.Access.TheVariants.{PinsIn, OutSet, DirSet, Clock}
use Rattle.p8_access.specs.Proper.{bytes_in}
use Rattle.p8_tree.specs.Names.{result_word}
use Rattle.p8_kinds.specs.declared.name_kinds.NameKind.{NameKind}
use Rattle.p8_kinds.specs.declared.name_kinds.NameKind.TheVariants.{Local, Global, Label}
use Rattle.p8_words.specs.Operators.{binary_value}
use Rattle.p8_meaning.specs.Values.{ones, pins_in, pins_of, with_pins, changed, gives_old}
use Rattle.p8_meaning.specs.Programs.{Scope, kind_of}
use Rattle.p8_meaning.specs.Doing.{Rest, Gives, Registers, owns, asks, tells, reads, writes}

-- where a variable is: in hub memory, or at the pins of a register
pub data Location : Type 0 where
  Hub : (width : Width) (address : ℕ) → Location
  Pins : (register high low : ℕ) → Location

-- sizes are 1, 2 and 4 bytes
abbrev pub width_of : (size : ℕ) → Width
width_of size = if size == 1 then Byte else if size == 2 then Word else Long

-- the element of a number in a row of this size that begins at an address
abbrev pub element : (size address number : ℕ) → Location
element size address number = Hub (width_of size) ((address + number * bytes_in (width_of size)) % 2 ^ 16)

-- ---- names: RESULT, parameters and locals are longs of the method's frame, in this order (profile); variables of VAR and labels of DAT
-- belong to the object

abbrev pub size_of_kind : Option NameKind → ℕ
size_of_kind (Some (Global size offset)) = size
size_of_kind (Some (Label size)) = size
size_of_kind _ = 4

abbrev pub address_of_kind : Scope → (name : List ℕ) → Option NameKind → ℕ
address_of_kind s name (Some (Local offset)) = s.frame + offset
address_of_kind s name (Some (Global size offset)) = s.instance.variables + offset
address_of_kind s name (Some (Label size)) = s.instance.base + s.addresses.label s.instance.file name
address_of_kind s name _ = 0

abbrev pub size_of : Scope → (name : List ℕ) → ℕ
size_of s name = if bytes_eq name result_word then 4 else size_of_kind (kind_of s name)

abbrev pub address_of : Scope → (name : List ℕ) → ℕ
address_of s name = if bytes_eq name result_word then s.frame else address_of_kind s name (kind_of s name)

-- the variable of a name, with an index or 0
abbrev pub named : Scope → (name : List ℕ) → (number : ℕ) → Location
named s name number = element (size_of s name) (address_of s name) number

-- a part of it: the element of this size and number that is counted from where it begins
abbrev pub part : Scope → (name : List ℕ) → (size number : ℕ) → Location
part s name size number = element size (address_of s name) number

-- the value of `@` before a variable
abbrev pub address_at : Location → ℕ
address_at (Hub width address) = address
address_at (Pins register high low) = 0

-- ---- registers: OUTA and DIRA are the cog's own and PAR is its first frame (profile); INA and CNT are asked of the machine

abbrev pub own_word : (par register : ℕ) → Registers → ℕ
own_word par register own =
    if register == 0x1F0 then par else if register == 0x1F4 then own.outa else if register == 0x1F6 then own.dira else 0

abbrev pub reads_register : (par register : ℕ) → Gives ℕ
reads_register par register go =
    if register == 0x1F1 then asks Clock go
    else if register == 0x1F2 then asks PinsIn go
    else owns (own_word par register) go

-- a write of some pins is one of the whole register
abbrev pub sets_outa : (high low value : ℕ) → Rest → Rest
sets_outa high low value go bound own =
    tells (OutSet (with_pins high low value own.outa)) (λ b o. go b (record own { outa = with_pins high low value own.outa })) bound own

abbrev pub sets_dira : (high low value : ℕ) → Rest → Rest
sets_dira high low value go bound own =
    tells (DirSet (with_pins high low value own.dira)) (λ b o. go b (record own { dira = with_pins high low value own.dira })) bound own

-- only OUTA and DIRA can be written
abbrev pub writes_register : (register high low value : ℕ) → Rest → Rest
writes_register register high low value go =
    if register == 0x1F4 then sets_outa high low value go else if register == 0x1F6 then sets_dira high low value go else go

-- ---- reading, writing, changing

abbrev pub fetches : Scope → Location → Gives ℕ
fetches s (Hub width address) go = reads width address go
fetches s (Pins register high low) go = reads_register s.par register (λ word. go (pins_of high low word))

abbrev pub stores : Location → (value : ℕ) → Rest → Rest
stores (Hub width address) value go = writes width address value go
stores (Pins register high low) value go = writes_register register high low value go

-- a value reduced to a variable's size
abbrev pub reduced : Location → (value : ℕ) → ℕ
reduced (Hub width address) value = value % 256 ^ bytes_in width
reduced (Pins register high low) value = bit_and value (ones (pins_in high low))

-- an operator with `=`: the variable is read after its right side is known (profile), the operator's value is written, and given as far as the
-- variable holds it
abbrev pub assigns_by : Scope → (operator : ℕ) → Location → (right : ℕ) → Gives ℕ
assigns_by s operator place right go =
    fetches s place (λ old. stores place (binary_value operator old right) (go (reduced place (binary_value operator old right))))

-- with no operator the value is written and given
abbrev pub assigns : Scope → Option ℕ → Location → (right : ℕ) → Gives ℕ
assigns s None place right go = stores place right (go right)
assigns s (Some operator) place right go = assigns_by s operator place right go

-- `~` and `~~` after a variable write 0 and -1, and give the old value
abbrev pub replaces : Scope → Location → (value : ℕ) → Gives ℕ
replaces s place value go = fetches s place (λ old. stores place value (go old))

-- a change whose value is used
abbrev pub changes : Scope → (change : ℕ) → Location → Gives ℕ
changes s change place go =
    if change == 0x18 then replaces s place 0 go
    else if change == 0x1C then replaces s place (2 ^ 32 - 1) go
    else fetches s place (λ old. stores place (changed change old) (go (reduced place (if gives_old change then old else changed change old))))

-- one whose value isn't used: `~` and `~~` after a variable don't read it then (profile)
abbrev pub changes_alone : Scope → (change : ℕ) → Location → Rest → Rest
changes_alone s change place go =
    if change == 0x18 then stores place 0 go
    else if change == 0x1C then stores place (2 ^ 32 - 1) go
    else changes s change place (λ value. go)
