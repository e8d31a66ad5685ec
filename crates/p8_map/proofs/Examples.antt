-- A map that is known, line for line: two objects of one file inside another.
use Rattle.std.proofs.Common.{◌≡◌, ℕ, List, [], ◌∷◌, ◌++◌, refl, Option, Some, None}
use Rattle.std.specs.Prelude.{codes}
use Rattle.std.specs.List.{flat_map}
use Rattle.std.specs.Fmt.{digits}
use Rattle.p8_kinds.specs.declared.name_kinds.Label.{Label}
use Rattle.p8_image.specs.declared.parts.Variable.{Variable}
use Rattle.p8_image.specs.declared.parts.MethodPart.{MethodPart}
use Rattle.p8_image.specs.declared.parts.ObjectPart.{ObjectPart}
use Rattle.p8_image.specs.Layout.{variables_within}
use Rattle.p8_instr.specs.Numerals.{hex}
use Rattle.p8_map.specs.declared.names.LocalName.{LocalName}
use Rattle.p8_map.specs.declared.names.MethodNames.{MethodNames}
use Rattle.p8_map.specs.declared.names.FileNames.{FileNames}
use Rattle.p8_map.specs.Strings.{items_text}
use Rattle.p8_map.specs.Map.{instances_within, map_of}

abbrev local : List ℕ → ℕ → LocalName
local name longs = record { name = name; longs = longs }

abbrev method : List ℕ → Option (List ℕ) → List (List ℕ) → List LocalName → MethodNames
method name result parameters locals = record { name = name; result = result; parameters = parameters; locals = locals }

abbrev part : (parameters locals : ℕ) → List ℕ → MethodPart
part parameters locals code = record { parameters = parameters; locals = locals; code = code; uses = [] }

abbrev label : List ℕ → (offset cog size : ℕ) → Label
label name offset cog size = record { name = name; offset = offset; cog = cog; size = size }

abbrev variable : (size count : ℕ) → Variable
variable size count = record { size = size; count = count }

-- VAR byte flag, long count[2], word width; OBJ led[2] : "blink"; DAT entry long 5, tail byte 1; PUB main | x, y[3], with STRING("Hi")
abbrev top_names : FileNames
top_names = record {
  file = codes "top.spin";
  variables = codes "flag" ∷ codes "count" ∷ codes "width" ∷ [];
  labels = label (codes "entry") 16 0 4 ∷ label (codes "tail") 20 4 1 ∷ [];
  methods = method (codes "main") None [] (local (codes "x") 1 ∷ local (codes "y") 3 ∷ []) ∷ [];
  instances = codes "led[0]" ∷ codes "led[1]" ∷ [];
}

abbrev top : ObjectPart
top = record {
  variables = variable 1 1 ∷ variable 4 2 ∷ variable 2 1 ∷ [];
  dat = 5 ∷ 0 ∷ 0 ∷ 0 ∷ 1 ∷ [];
  methods = part 0 16 (0x87 ∷ 0x80 ∷ 0x1E ∷ 0x65 ∷ 0x35 ∷ 0x32 ∷ []) ∷ [];
  texts = codes "Hi" ∷ [];
  instances = 1 ∷ 1 ∷ [];
}

-- VAR long stack[8]; PUB start(pin) : ok; PRI run(pin)
abbrev blink_names : FileNames
blink_names = record {
  file = codes "blink.spin";
  variables = codes "stack" ∷ [];
  labels = [];
  methods = method (codes "start") (Some (codes "ok")) (codes "pin" ∷ []) [] ∷ method (codes "run") None (codes "pin" ∷ []) [] ∷ [];
  instances = [];
}

abbrev blink : ObjectPart
blink = record {
  variables = variable 4 8 ∷ [];
  dat = [];
  methods = part 4 0 (0x34 ∷ 0x64 ∷ 0x43 ∷ 0x15 ∷ 0x02 ∷ 0x01 ∷ 0x36 ∷ 0xEC ∷ 0x61 ∷ 0x32 ∷ [])
      ∷ part 4 0 (0x64 ∷ 0x3D ∷ 0xD6 ∷ 0x1C ∷ 0x64 ∷ 0x3D ∷ 0xD4 ∷ 0x47 ∷ 0x35 ∷ 0xC0 ∷ 0x39 ∷ 0x03 ∷ 0xE8 ∷ 0xF6 ∷ 0x3F ∷ 0x91 ∷ 0xEC ∷ 0x23 ∷ 0x04 ∷ 0xFF ∷ 0xEF ∷ 0x32 ∷ []) ∷ [];
  texts = [];
  instances = [];
}

-- 80 MHz by XTAL1 + PLL16X, and the places
abbrev header : List ℕ
header = 0x00 ∷ 0xB4 ∷ 0xC4 ∷ 0x04 ∷ 0x6F ∷ 0x9A ∷ 0x10 ∷ 0x00 ∷ 0x60 ∷ 0x00 ∷ 0xB4 ∷ 0x00 ∷ 0x28 ∷ 0x00 ∷ 0xC8 ∷ 0x00 ∷ []

blinks : map_of header (top_names ∷ blink_names ∷ []) (top ∷ blink ∷ []) ≡ flat_map (λ (text : List ℕ). text ++ 10 ∷ []) (
    codes "0000 header clkfreq 04C4B400"
    ∷ codes "0004 header clkmode 6F"
    ∷ codes "0005 header checksum 9A"
    ∷ codes "0006 header pbase 0010"
    ∷ codes "0008 header vbase 0060"
    ∷ codes "000A header dbase 00B4"
    ∷ codes "000C header pcurr 0028"
    ∷ codes "000E header dcurr 00C8"
    ∷ codes "0010 object top.spin"
    ∷ codes "0018 child led[0] blink.spin"
    ∷ codes "001C child led[1] blink.spin"
    ∷ codes "0020 label entry cog 000 long"
    ∷ codes "0024 label tail cog 001 byte"
    ∷ codes "0028 method 1 main"
    ∷ codes "+0000 result RESULT 1"
    ∷ codes "+0004 local x 1"
    ∷ codes "+0008 local y 3"
    ∷ (codes "002E string " ++ 34 ∷ codes "Hi" ++ 34 ∷ [])
    ∷ codes "0034 object blink.spin"
    ∷ codes "0040 method 1 start"
    ∷ codes "+0000 result ok 1"
    ∷ codes "+0004 parameter pin 1"
    ∷ codes "004A method 2 run"
    ∷ codes "+0000 result RESULT 1"
    ∷ codes "+0004 parameter pin 1"
    ∷ codes "0060 instance * top.spin 0010"
    ∷ codes "0060 variable count long 2"
    ∷ codes "0068 variable width word 1"
    ∷ codes "006A variable flag byte 1"
    ∷ codes "006C instance led[0].* blink.spin 0034"
    ∷ codes "006C variable led[0].stack long 8"
    ∷ codes "008C instance led[1].* blink.spin 0034"
    ∷ codes "008C variable led[1].stack long 8"
    ∷ codes "00B4 stack"
    ∷ codes "00C8 free 32568"
    ∷ [])
unfolding digits hex instances_within variables_within
blinks = refl

-- a text with the end of a line, one with a quote in it, one that begins with a bell, and none
hello : items_text (codes "Hello" ++ 13 ∷ 10 ∷ []) ≡ 34 ∷ codes "Hello" ++ 34 ∷ codes ", 13, 10"
unfolding digits
hello = refl

said : items_text (codes "a" ++ 34 ∷ codes "b~" ++ 127 ∷ 128 ∷ []) ≡ 34 ∷ codes "a" ++ 34 ∷ codes ", 34, " ++ 34 ∷ codes "b~" ++ 34 ∷ codes ", 127, " ++ 34 ∷ 128 ∷ 34 ∷ []
unfolding digits
said = refl

bell : items_text (7 ∷ codes "x") ≡ codes "7, " ++ 34 ∷ codes "x" ++ 34 ∷ []
unfolding digits
bell = refl

no-text : items_text [] ≡ 34 ∷ 34 ∷ []
no-text = refl
