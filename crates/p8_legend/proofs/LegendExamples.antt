-- Legends that are known, name for name: two objects of one file inside another, and an object inside an object.
use Rattle.std.proofs.Common.{◌≡◌, ℕ, List, [], ◌∷◌, refl, Some, None}
use Rattle.std.specs.Prelude.{codes, map}
use Rattle.std.specs.Fmt.{digits}
use Rattle.p8_kinds.specs.declared.name_kinds.Label.{Label}
use Rattle.p8_image.specs.declared.parts.Variable.{Variable}
use Rattle.p8_image.specs.declared.parts.MethodPart.{MethodPart}
use Rattle.p8_image.specs.declared.parts.ObjectPart.{ObjectPart}
use Rattle.p8_image.specs.Layout.{variables_within}
use Rattle.p8_legend.specs.declared.ranges.Range.{Range}
use Rattle.p8_legend.specs.Ranges.{found_at, range_named}
use Rattle.p8_map.specs.declared.names.MethodNames.{MethodNames}
use Rattle.p8_map.specs.declared.names.FileNames.{FileNames}
use Rattle.p8_map.specs.Map.{instances_within}
use Rattle.p8_legend.specs.ProjectLegends.{Named, names_in, path_of}

abbrev method : List ℕ → MethodNames
method name = record { name = name; result = None; parameters = []; locals = [] }

abbrev part : List ℕ → MethodPart
part code = record { parameters = 0; locals = 0; code = code; uses = [] }

abbrev label : List ℕ → (offset : ℕ) → Label
label name offset = record { name = name; offset = offset; cog = 0; size = 4 }

abbrev variable : (size count : ℕ) → Variable
variable size count = record { size = size; count = count }

abbrev file : List ℕ → (variables : List (List ℕ)) → List Label → List MethodNames → (instances : List (List ℕ)) → FileNames
file name variables labels methods instances = record { file = name; variables = variables; labels = labels; methods = methods; instances = instances }

abbrev object : List Variable → (dat : List ℕ) → List MethodPart → (instances : List ℕ) → ObjectPart
object variables dat methods instances = record { variables = variables; dat = dat; methods = methods; texts = []; instances = instances }

-- a name with the address of its first byte and that after its last one
abbrev entry : List ℕ → (address end : ℕ) → List ℕ × Range
entry name address end = (name, record { address = address; end = end })

abbrev legend : List (List ℕ × Range) → Named
legend entries = (map (λ (e : List ℕ × Range). e.1) entries, map (λ (e : List ℕ × Range). e.0) entries)

-- VAR byte flag, long count[2], word width; OBJ led[2] : "blink"; DAT first long 5, tail byte 1; PUB main, of 6 bytes
abbrev top_names : FileNames
top_names = file (codes "top.spin") (codes "FLAG" ∷ codes "COUNT" ∷ codes "WIDTH" ∷ []) (label (codes "FIRST") 16 ∷ label (codes "TAIL") 20 ∷ []) (method (codes "MAIN") ∷ []) (codes "LED[0]" ∷ codes "LED[1]" ∷ [])

abbrev top : ObjectPart
top = object (variable 1 1 ∷ variable 4 2 ∷ variable 2 1 ∷ []) (5 ∷ 0 ∷ 0 ∷ 0 ∷ 1 ∷ []) (part (1 ∷ 2 ∷ 3 ∷ 4 ∷ 5 ∷ 6 ∷ []) ∷ []) (1 ∷ 1 ∷ [])

-- VAR long stack[8]; PUB start, of 3 bytes; PRI run, of 2 bytes
abbrev blink_names : FileNames
blink_names = file (codes "blink.spin") (codes "STACK" ∷ []) [] (method (codes "START") ∷ method (codes "RUN") ∷ []) []

abbrev blink : ObjectPart
blink = object (variable 4 8 ∷ []) [] (part (1 ∷ 2 ∷ 3 ∷ []) ∷ part (4 ∷ 5 ∷ []) ∷ []) []

-- The top object begins at 0010: 4 bytes, 4 for its method and 8 for the two objects inside, its DAT of 8 bytes at 0020, and its code at 0028.
-- The other one begins at 0030, the next long, with its codes at 003C, and its variables begin at 0044.
abbrev blinks : Named
blinks = legend (
    entry (codes "FIRST") 0x20 0x24
    ∷ entry (codes "TAIL") 0x24 0x28
    ∷ entry (codes "MAIN") 0x28 0x2E
    ∷ entry (codes "LED[0].START") 0x3C 0x3F
    ∷ entry (codes "LED[0].RUN") 0x3F 0x41
    ∷ entry (codes "COUNT") 0x44 0x4C
    ∷ entry (codes "WIDTH") 0x4C 0x4E
    ∷ entry (codes "FLAG") 0x4E 0x4F
    ∷ entry (codes "LED[0].STACK") 0x50 0x70
    ∷ entry (codes "LED[1].STACK") 0x70 0x90
    ∷ [])

two-leds : names_in 0x44 (top_names ∷ blink_names ∷ []) (top ∷ blink ∷ []) ≡ blinks
unfolding digits instances_within path_of variables_within
two-leds = refl

-- each has a range of its own, and letters in either case are the same
second-stack : range_named blinks.0 blinks.1 (codes "led[1].Stack") ≡ Some (0x70, 32)
second-stack = refl

no-such : range_named blinks.0 blinks.1 (codes "led.stack") ≡ None
no-such = refl

-- OBJ ser : "serial"; then OBJ buf : "ring" and VAR long count; then VAR byte head and DAT table long 0. None of them has a method here.
abbrev serial_names : FileNames
serial_names = file (codes "serial.spin") (codes "COUNT" ∷ []) [] [] (codes "BUF" ∷ [])

abbrev ring_names : FileNames
ring_names = file (codes "ring.spin") (codes "HEAD" ∷ []) (label (codes "TABLE") 4 ∷ []) [] []

-- The top object has 8 bytes, its OBJ's one begins at 0018 and has 8 as well, and the inner one begins at 0020, with its DAT at 0024.
deeper : names_in 0x28 (file (codes "top.spin") [] [] [] (codes "SER" ∷ []) ∷ serial_names ∷ ring_names ∷ [])
    (object [] [] [] (1 ∷ []) ∷ object (variable 4 1 ∷ []) [] [] (2 ∷ []) ∷ object (variable 1 1 ∷ []) (0 ∷ 0 ∷ 0 ∷ 0 ∷ []) [] [] ∷ [])
    ≡ legend (entry (codes "SER.BUF.TABLE") 0x24 0x28 ∷ entry (codes "SER.COUNT") 0x28 0x2C ∷ entry (codes "SER.BUF.HEAD") 0x2C 0x2D ∷ [])
unfolding digits instances_within path_of variables_within
deeper = refl

-- VAR byte q[0]; DAT t long 5, and behind it r res 1; PUB main, of a byte. The object begins at 0010, with 4 bytes and 4 for its method, its DAT at 0018 and its
-- code at 001C; variables begin at 0020. A label and a variable without bytes have their ranges too.
abbrev none-inside : Named
none-inside = legend (entry (codes "T") 0x18 0x1C ∷ entry (codes "R") 0x1C 0x1C ∷ entry (codes "MAIN") 0x1C 0x1D ∷ entry (codes "Q") 0x20 0x20 ∷ [])

without-bytes : names_in 0x20 (file (codes "top.spin") (codes "Q" ∷ []) (label (codes "T") 8 ∷ label (codes "R") 12 ∷ []) (method (codes "MAIN") ∷ []) [] ∷ [])
    (object (variable 1 0 ∷ []) (5 ∷ 0 ∷ 0 ∷ 0 ∷ []) (part (1 ∷ []) ∷ []) [] ∷ []) ≡ none-inside
unfolding digits instances_within path_of variables_within
without-bytes = refl

no-bytes : range_named none-inside.0 none-inside.1 (codes "r") ≡ Some (0x1C, 0)
no-bytes = refl

-- and an address is named by the range that has its byte
code-there : found_at none-inside.0 0x1C ≡ Some (record { number = 2; offset = 0 })
code-there = refl
