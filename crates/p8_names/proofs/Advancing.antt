-- What the next item gets, one item on.
use Rattle.std.proofs.Common.{◌≡◌, ℕ, Bool, true, false, ◌+◌, ◌<◌, ◌≤◌, ◌==◌, List, [], ◌∷◌, ◌++◌, length, drop, get_or, refl, ap, sym, ◌∙◌, arith, length-append, append-nil}
use Rattle.std.proofs.lemmas.Grind.{flat_map-append}
use Rattle.std.proofs.lemmas.List.{drop_more, drop_all}
use Rattle.std.specs.Prelude.{min, if◌then◌else◌, nat_lt, not}
use Rattle.std.specs.List.{flat_map}
use Rattle.p8_tree.specs.Sources.{Child}
use Rattle.p8_fold.specs.Meanings.{Setting}
use Rattle.p8_constants.specs.declared.items.Item as code
use Rattle.p8_constants.specs.FileItems.{Item, constant, variable, object, method, line}
use Rattle.p8_constants.specs.Standing.{item_of, items_of}
use Rattle.p8_names.specs.declared.next_kinds.Next.{Next}
use Rattle.p8_names.specs.Kinds.{greatest_offset, greatest_number, bytes_in, room, offset_in, public_in, private_in, object_in, publics, privates, objects, instances, position_in}
use Rattle.p8_names.specs.Counting.{IsNext, HasNoPart}

-- stopping twice is stopping once
pub stopped : (a b limit : ℕ) → min (min a limit + b) limit ≡ min (a + b) limit
stopped a b limit = grind arith

pub stopped_then : (a b r limit : ℕ) → min (min (a + b) limit + r) limit ≡ min (a + (b + r)) limit
stopped_then a b r limit = grind arith

room-append : (s : Setting) (fits : ℕ → Bool) (xs ys : List Item) → room s fits (xs ++ ys) ≡ room s fits xs + room s fits ys
room-append s fits [] ys = omega arith
room-append s fits (x ∷ xs) ys = let h = room-append s fits xs ys in omega (arith, h)

-- an offset, one item on
pub offset_more : (s : Setting) (all before : List Item) (x : Item) (size : ℕ) → min (offset_in s all before size + bytes_in s (λ z. z == size) x) greatest_offset ≡ offset_in s all (before ++ x ∷ []) size
offset_more s all before x size =
    let fits : ℕ → Bool = λ z. z == size in
    stopped (room s (nat_lt size) all + room s fits before) (bytes_in s fits x) greatest_offset
    ∙ ap (λ r. min r greatest_offset) (let h = room-append s fits before (x ∷ []) in omega (arith, h))

instances-append : (s : Setting) (xs ys : List Child) → instances s (xs ++ ys) ≡ instances s xs + instances s ys
instances-append s [] ys = omega arith
instances-append s (x ∷ xs) ys = let h = instances-append s xs ys in omega (arith, h)

-- a list that is made of items, one item on
made_more : {X : Type 0} (f : Item → List X) (before : List Item) (x : Item) → flat_map f (before ++ x ∷ []) ≡ flat_map f before ++ f x
made_more f before x = flat_map-append f before (x ∷ []) ∙ ap (λ ys. flat_map f before ++ ys) (append-nil (f x))

length_more : {X : Type 0} (f : Item → List X) (before : List Item) (x : Item) → length (flat_map f (before ++ x ∷ [])) ≡ length (flat_map f before) + length (f x)
length_more f before x = ap length (made_more f before x) ∙ length-append (flat_map f before) (f x)

position_more : (s : Setting) (all before : List Item) (x : Item) → position_in s all (before ++ x ∷ []) ≡ position_in s all before + instances s (object_in x)
position_more s all before x =
    let h = ap (instances s) (made_more object_in before x) ∙ instances-append s (objects before) (object_in x) in
    omega (arith, h)

-- what holds of the next one holds after an item, if each part goes on by what the item has
pub next_more : (s : Setting) (all before : List Item) (x : Item) (old new : Next) → new.long ≡ min (old.long + bytes_in s (λ z. z == 4) x) greatest_offset → new.word ≡ min (old.word + bytes_in s (λ z. z == 2) x) greatest_offset → new.byte ≡ min (old.byte + bytes_in s (λ z. z == 1) x) greatest_offset → new.public ≡ min (old.public + length (public_in x)) greatest_number → new.private ≡ min (old.private + length (private_in x)) greatest_number → new.item ≡ old.item + length (object_in x) → new.position ≡ min (old.position + instances s (object_in x)) greatest_number → IsNext s all before old → IsNext s all (before ++ x ∷ []) new
next_more s all before x old new long word byte public private item position h = record {
  long = long ∙ ap (λ o. min (o + bytes_in s (λ z. z == 4) x) greatest_offset) h.long ∙ offset_more s all before x 4;
  word = word ∙ ap (λ o. min (o + bytes_in s (λ z. z == 2) x) greatest_offset) h.word ∙ offset_more s all before x 2;
  byte = byte ∙ ap (λ o. min (o + bytes_in s (λ z. z == 1) x) greatest_offset) h.byte ∙ offset_more s all before x 1;
  public = public ∙ ap (λ o. min (o + length (public_in x)) greatest_number) h.public ∙ stopped (length (publics before) + 1) (length (public_in x)) greatest_number
      ∙ ap (λ n. min n greatest_number) (let e = length_more public_in before x in omega (arith, e));
  private = private ∙ ap (λ o. min (o + length (private_in x)) greatest_number) h.private ∙ stopped (length (publics all) + length (privates before) + 1) (length (private_in x)) greatest_number
      ∙ ap (λ n. min n greatest_number) (let e = length_more private_in before x in omega (arith, e));
  item = item ∙ (let e = length_more object_in before x in let k = h.item in omega (arith, e, k));
  position = position ∙ ap (λ o. min (o + instances s (object_in x)) greatest_number) h.position ∙ stopped (position_in s all before) (instances s (object_in x)) greatest_number
      ∙ ap (λ n. min n greatest_number) (sym (position_more s all before x));
}

-- a number that has been stopped stays as it is
pub same_number : (n m limit : ℕ) → n ≡ min m limit → n ≡ min (n + 0) limit
same_number n m limit e = grind (arith, e)

pub one_where : {X : Type 0} (b : Bool) (x : X) → (if b then 1 else 0) ≡ length (if b then x ∷ [] else [])
one_where true x = refl
one_where false x = refl

pub one_unless : {X : Type 0} (b : Bool) (x : X) → (if not b then 1 else 0) ≡ length (if b then [] else x ∷ [])
one_unless true x = refl
one_unless false x = refl

-- the first next one
pub room_begin : (s : Setting) (size : ℕ) (all : List Item) (n : ℕ) → n ≡ min (room s (nat_lt size) all) greatest_offset → n ≡ offset_in s all [] size
room_begin s size all n e = e ∙ ap (λ r. min r greatest_offset) (let z : room s (nat_lt size) all ≡ room s (nat_lt size) all + 0 = omega arith in z)

-- the room of all is that so far and that of what is left
pub room_more : (s : Setting) (size : ℕ) (xs : List code.Item) (i : ℕ) (x : code.Item) (old new bytes : ℕ) (whole : ℕ) → i < length xs → x ≡ get_or xs i x → bytes ≡ bytes_in s (nat_lt size) (item_of x) → new ≡ min (old + bytes) greatest_offset → whole ≡ min (old + room s (nat_lt size) (items_of (drop i xs))) greatest_offset → whole ≡ min (new + room s (nat_lt size) (items_of (drop (i + 1) xs))) greatest_offset
room_more s size xs i x old new bytes whole l e is now was =
    let rest = room s (nat_lt size) (items_of (drop (i + 1) xs)) in
    let here : room s (nat_lt size) (items_of (drop i xs)) ≡ bytes + rest =
    ap (λ ys. room s (nat_lt size) (items_of ys)) (drop_more xs i x l ∙ ap (λ y. y ∷ drop (i + 1) xs) (sym e)) ∙ ap (λ b. b + rest) (sym is) in
    was ∙ ap (λ r. min (old + r) greatest_offset) here ∙ sym (ap (λ n. min (n + rest) greatest_offset) now ∙ stopped_then old bytes rest greatest_offset)

pub room_end : (s : Setting) (size : ℕ) (xs : List code.Item) (i n : ℕ) (whole : ℕ) → length xs ≤ i → n ≤ greatest_offset → whole ≡ min (n + room s (nat_lt size) (items_of (drop i xs))) greatest_offset → n ≡ whole
room_end s size xs i n whole l b was =
    let nothing : room s (nat_lt size) (items_of (drop i xs)) ≡ 0 = ap (λ ys. room s (nat_lt size) (items_of ys)) (drop_all i xs l) in
    sym (was ∙ ap (λ r. min (n + r) greatest_offset) nothing ∙ (let e : min (n + 0) greatest_offset ≡ n = grind (arith, b) in e))

-- after an item without a part
pub nothing_more : (s : Setting) (all before : List Item) (x : Item) (next : Next) → HasNoPart x → IsNext s all before next → IsNext s all (before ++ x ∷ []) next
nothing_more s all before (constant x) n p h =
    next_more s all before (constant x) n n (same_number n.long _ greatest_offset h.long) (same_number n.word _ greatest_offset h.word) (same_number n.byte _ greatest_offset h.byte)
    (same_number n.public _ greatest_number h.public) (same_number n.private _ greatest_number h.private) (omega arith) (same_number n.position _ greatest_number h.position) h
nothing_more s all before (line x) n p h =
    next_more s all before (line x) n n (same_number n.long _ greatest_offset h.long) (same_number n.word _ greatest_offset h.word) (same_number n.byte _ greatest_offset h.byte)
    (same_number n.public _ greatest_number h.public) (same_number n.private _ greatest_number h.private) (omega arith) (same_number n.position _ greatest_number h.position) h
nothing_more s all before (variable x) n p h = absurd p
nothing_more s all before (object x) n p h = absurd p
nothing_more s all before (method x) n p h = absurd p
