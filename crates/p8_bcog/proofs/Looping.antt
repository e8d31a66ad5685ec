-- What is left of a row of elements: one access, and then the rest.
use Rattle.std.proofs.Common.{◌≡◌, ℕ, zero, suc, ◌+◌, ◌-◌, ◌^◌, ◌<◌, ◌≤◌, Bool, true, false, List, [], ◌∷◌, length, length-drop, take, drop, slice_index, refl, sym, ◌∙◌, ap, arith, if◌then◌else◌}
use Rattle.std.proofs.lemmas.Bool.{ltb-true, ltb-false}
use Rattle.std.proofs.lemmas.List.{drop_more, take_all}
use Rattle.p8_access.specs.declared.kinds.Reason.{Reason}
use Rattle.p8_access.specs.declared.kinds.Reason.TheVariants as Why
use Rattle.p8_access.specs.declared.kinds.Access.{Access}
use Rattle.p8_access.specs.declared.kinds.Width.{Width}
use Rattle.p8_access.specs.declared.kinds.Width.TheVariants.{Byte, Long}
use Rattle.p8_access.specs.Courses.{Course, Finish, Stop}
use Rattle.p8_bcog.specs.declared.state.SpinState.{SpinState}
use Rattle.p8_bcog.specs.declared.step.Callee.{Callee}
use Rattle.p8_bcog.specs.declared.step.Given.{Given}
use Rattle.p8_bcog.specs.declared.step.Given.TheVariants.{Called}
use Rattle.p8_bcog.specs.declared.step.Later.{Later}
use Rattle.p8_bcog.specs.declared.step.Later.TheVariants.{Arguments, Counted, Compared, ComparedWith, Filled, Fetched, Moved}
use Rattle.p8_bcog.specs.Accesses.{aligned, read_of, is_readable, rom_halt, write_of, next_address}
use Rattle.p8_bcog.specs.Calls.{frame_end, arguments, gives, given_to, calls}
use Rattle.p8_bcog.specs.Moves.{fills, moves, counts, compares, room_from}
use Rattle.p8_bcog.specs.Laters.{then_on, stores, asking, reading, later_on}

abbrev pub stops_for : Reason → Course SpinState
stops_for reason = Stop reason

fills_more_by : (w : Width) (a v n k : ℕ) (s : SpinState) → k ≡ n → fills w a v (suc n) s ≡ then_on (write_of w a v) (Filled w (next_address w a) v k) s
unfolding fills then_on
fills_more_by w a v n k s e = ap (λ (m : ℕ). then_on (write_of w a v) (Filled w (next_address w a) v m) s) (sym e)

pub fills_more : (w : Width) (a v left : ℕ) (s : SpinState) → 0 < left → fills w a v left s ≡ then_on (write_of w a v) (Filled w (next_address w a) v (left - 1)) s
fills_more w a v zero s some = absurd (omega arith)
fills_more w a v (suc n) s some = fills_more_by w a v n (suc n - 1) s (omega arith)

pub fills_none : (w : Width) (a v : ℕ) (s : SpinState) → fills w a v 0 s ≡ Finish s
unfolding fills
fills_none w a v s = refl

moves_more_by : (w : Width) (to from n k : ℕ) (s : SpinState) → k ≡ n → moves w to from (suc n) s ≡ reading w from (Fetched w to from k) s
unfolding moves then_on stores
moves_more_by w to from n k s e = ap (λ (m : ℕ). reading w from (Fetched w to from m) s) (sym e)

pub moves_more : (w : Width) (to from left : ℕ) (s : SpinState) → 0 < left → moves w to from left s ≡ reading w from (Fetched w to from (left - 1)) s
moves_more w to from zero s some = absurd (omega arith)
moves_more w to from (suc n) s some = moves_more_by w to from n (suc n - 1) s (omega arith)

pub moves_none : (w : Width) (to from : ℕ) (s : SpinState) → moves w to from 0 s ≡ Finish s
unfolding moves
moves_none w to from s = refl

-- the write of an element that was read
pub stored_is : (w : Width) (to from left element : ℕ) (s : SpinState) → then_on (write_of w to element) (Moved w (next_address w to) (next_address w from) left) s ≡ later_on (Fetched w to from left) s element
unfolding then_on stores
stored_is w to from left element s = refl

-- a read, and a halt in its place
pub reading_made : (w : Width) (a : ℕ) (access : Access) (later : Later) (s : SpinState) → access ≡ read_of w a → is_readable w a ≡ true → asking access later s ≡ reading w a later s
reading_made w a access later s is readable =
    ap (λ (x : Access). asking x later s) is
    ∙ ap (λ (b : Bool). if b then asking (read_of w a) later s else rom_halt w a) (sym readable)

pub reading_not_made : (w : Width) (a : ℕ) (reason : Reason) (later : Later) (s : SpinState) → reason ≡ Why.Rom (aligned w a) → is_readable w a ≡ false → stops_for reason ≡ reading w a later s
reading_not_made w a reason later s is unreadable =
    ap stops_for is
    ∙ ap (λ (b : Bool). if b then asking (read_of w a) later s else rom_halt w a) (sym unreadable)

counts_by : (room next a n : ℕ) (s : SpinState) → room ≡ suc next → next ≡ room_from (a + 1) → counts room a n s ≡ then_on (read_of Byte a) (Counted a n) s
unfolding counts then_on
counts_by room next a n s is more =
    ap (λ (r : ℕ). counts r a n s) is ∙ ap (λ (r : ℕ). counts (suc r) a n s) more

counts_none : (room a n : ℕ) (s : SpinState) → room ≡ 0 → counts room a n s ≡ rom_halt Byte a
unfolding counts
counts_none room a n s none = ap (λ (r : ℕ). counts r a n s) none

counts_case : (a n : ℕ) (s : SpinState) (b : Bool) → a < 2 ^ 16 → is_readable Byte a ≡ b → counts (room_from a) a n s ≡ (if b then then_on (read_of Byte a) (Counted a n) s else rom_halt Byte a)
counts_case a n s true range is =
    let below : aligned Byte a < 32768 = ltb-true (aligned Byte a) 32768 is in
    counts_by (room_from a) (room_from (a + 1)) a n s (omega (arith, below, range)) refl
counts_case a n s false range is =
    let above : 32768 ≤ aligned Byte a = ltb-false (aligned Byte a) 32768 is in
    counts_none (room_from a) a n s (omega (arith, above, range))

pub counts_is : (a n : ℕ) (s : SpinState) → a < 2 ^ 16 → counts (room_from a) a n s ≡ reading Byte a (Counted a n) s
counts_is a n s range = counts_case a n s (is_readable Byte a) range refl

compares_by : (room next a b : ℕ) (s : SpinState) → room ≡ suc next → next ≡ room_from (a + 1) → compares room a b s ≡ then_on (read_of Byte a) (Compared a b) s
unfolding compares then_on
compares_by room next a b s is more =
    ap (λ (r : ℕ). compares r a b s) is ∙ ap (λ (r : ℕ). compares (suc r) a b s) more

compares_none : (room a b : ℕ) (s : SpinState) → room ≡ 0 → compares room a b s ≡ rom_halt Byte a
unfolding compares
compares_none room a b s none = ap (λ (r : ℕ). compares r a b s) none

compares_case : (a b : ℕ) (s : SpinState) (c : Bool) → a < 2 ^ 16 → is_readable Byte a ≡ c → compares (room_from a) a b s ≡ (if c then then_on (read_of Byte a) (Compared a b) s else rom_halt Byte a)
compares_case a b s true range is =
    let below : aligned Byte a < 32768 = ltb-true (aligned Byte a) 32768 is in
    compares_by (room_from a) (room_from (a + 1)) a b s (omega (arith, below, range)) refl
compares_case a b s false range is =
    let above : 32768 ≤ aligned Byte a = ltb-false (aligned Byte a) 32768 is in
    compares_none (room_from a) a b s (omega (arith, above, range))

pub compares_is : (a b : ℕ) (s : SpinState) → a < 2 ^ 16 → compares (room_from a) a b s ≡ reading Byte a (Compared a b) s
compares_is a b s range = compares_case a b s (is_readable Byte a) range refl

-- the byte of the second text
pub compared_is : (first second word : ℕ) (s : SpinState) → later_on (Compared first second) s word ≡ reading Byte second (ComparedWith first second word) s
unfolding then_on
compared_is first second word s = refl

-- ---- longs that are written

gives_to : (a : ℕ) (given : Given) (s : SpinState) (values : List ℕ) → values ≡ [] → gives a values given s ≡ given_to given s
unfolding gives
gives_to a given s values is = ap (λ (vs : List ℕ). gives a vs given s) is

pub gives_none : (a next end : ℕ) (given : Given) (s : SpinState) → end ≤ next → given_to given s ≡ gives a (take (end - next) (drop next s.stack)) given s
gives_none a next end given s le =
    let none : end - next ≡ 0 = omega (arith, le) in
    sym (gives_to a given s (take (end - next) (drop next s.stack)) (ap (λ (k : ℕ). take k (drop next s.stack)) none))

gives_one : (a value : ℕ) (given : Given) (s : SpinState) (values : List ℕ) (next end : ℕ) → values ≡ value ∷ take (end - next) (drop next s.stack) → gives a values given s ≡ then_on (write_of Long a value) (Arguments (next_address Long a) next end given) s
unfolding gives then_on
gives_one a value given s values next end is = ap (λ (vs : List ℕ). gives a vs given s) is

taken_one : (n next end : ℕ) (stack : List ℕ) → n ≡ suc (end - (next + 1)) → next < length stack → take n (drop next stack) ≡ slice_index stack next ∷ take (end - (next + 1)) (drop (next + 1) stack)
taken_one n next end stack is below =
    ap (λ (k : ℕ). take k (drop next stack)) is
    ∙ ap (take (suc (end - (next + 1)))) (drop_more stack next 0 below)

pub gives_more : (a next end : ℕ) (given : Given) (s : SpinState) → next < end → end ≤ length s.stack → gives a (take (end - next) (drop next s.stack)) given s ≡ then_on (write_of Long a (slice_index s.stack next)) (Arguments (next_address Long a) (next + 1) end given) s
gives_more a next end given s below room =
    gives_one a (slice_index s.stack next) given s (take (end - next) (drop next s.stack)) (next + 1) end
    (taken_one (end - next) next end s.stack (omega (arith, below)) (omega (arith, below, room)))

pub calls_is : (callee : Callee) (s : SpinState) → gives (frame_end s) (0 ∷ arguments s) (Called callee) s ≡ then_on (write_of Long (frame_end s) 0) (Arguments (next_address Long (frame_end s)) s.base (length s.stack) (Called callee)) s
calls_is callee s =
    gives_one (frame_end s) 0 (Called callee) s (0 ∷ arguments s) s.base (length s.stack)
    (ap (λ (vs : List ℕ). 0 ∷ vs) (sym (take_all (length s.stack - s.base) (drop s.base s.stack) (omega (arith, length-drop s.base s.stack)))))

pub called_by : (callee : Callee) (s : SpinState) (a n b l : ℕ) (x : Access) → x ≡ write_of Long a 0 → a ≡ frame_end s → n ≡ next_address Long a → b ≡ s.base → l ≡ length s.stack → then_on x (Arguments n b l (Called callee)) s ≡ calls callee s
unfolding calls
called_by callee s a n b l x access frame next base size =
    ap (λ (y : Access). then_on y (Arguments n b l (Called callee)) s) (access ∙ ap (λ (k : ℕ). write_of Long k 0) frame)
    ∙ ap (λ (k : ℕ). then_on (write_of Long (frame_end s) 0) (Arguments k b l (Called callee)) s) (next ∙ ap (next_address Long) frame)
    ∙ ap (λ (k : ℕ). then_on (write_of Long (frame_end s) 0) (Arguments (next_address Long (frame_end s)) k l (Called callee)) s) base
    ∙ ap (λ (k : ℕ). then_on (write_of Long (frame_end s) 0) (Arguments (next_address Long (frame_end s)) s.base k (Called callee)) s) size
    ∙ sym (calls_is callee s)
