-- The bytecodes of a code stand where its lines say, and ask what is asked from there.
use Rattle.std.proofs.Common.{◌≡◌, sym, ap, ◌∙◌, subst, arith, ℕ, zero, suc, ◌+◌, ◌≤◌, nat_lt, false, if◌then◌else◌, List, [], ◌∷◌, ◌++◌, append_assoc, length, slice_get, Some, None}
use Rattle.std.specs.Prelude.{flat_map, drop, option_map}
use Rattle.std.proofs.lemmas.Bool.Decides.{nat_tests}
use Rattle.std.proofs.lemmas.Grind.{flat_map-append}
use Rattle.std.proofs.lemmas.List.{drop-drop}
use Rattle.std.proofs.lemmas.List.Elements.{All-head, All-tail}
use Rattle.std.proofs.lemmas.Option.{none-some, same_Some, slice_get-map}
use Rattle.std.proofs.Math.Seq.{drop-append_seam}
use Rattle.p8_tree.specs.declared.places.Place.{Place}
use Rattle.p8_tree.specs.Statements.{Statements}
use Rattle.p8_access.specs.declared.order.Turn.{Turn}
use Rattle.p8_access.specs.Courses.{Course}
use Rattle.p8_access.specs.Lives.{Entered}
use Rattle.p8_access.specs.Timing.{Goes, played}
use Rattle.p8_access.specs.Replays.{after, step}
use Rattle.p8_bytecode.specs.declared.op.Op.{Op}
use Rattle.p8_bytecode.specs.Reading.{op_at, op_in}
use Rattle.p8_bytecode.specs.Spelling.{spelled, IsOp}
use Rattle.p8_bytecode.proofs.ReadBack.{read-back}
use Rattle.p8_bcog.specs.declared.state.SpinState.{SpinState}
use Rattle.p8_bcog.specs.Bytecodes.{bytecode, clocks, does_found, row}
use Rattle.p8_bcog.specs.Code.{code_of, fetched}
use Rattle.p8_bcog.specs.Counters.{IsAskedFrom}
use Rattle.p8_bcog.specs.Replay.{engine_of, lived}
use Rattle.p8_gen.specs.Methods.{bytes_of, method_code}
use Rattle.p8_gen.specs.Names.{Names}
use Rattle.p8_gen.specs.Pieces.{Written}
use Rattle.p8_compiled.specs.Placing.{HasCode, AreOps}
use Rattle.p8_legend.specs.Lines.{begin_of, begins_from, AddsLines}
use Rattle.p8_legend.specs.Asking.{HasLine, IsAskedBy, IsFetched}
use Rattle.p8_legend.proofs.Lined.{lines-begin}

not-low : (n : ℕ) → 16 ≤ n → nat_lt n 16 ≡ false
not-low n h = grind (arith, nat_tests)

-- what holds of all holds of the last ones
last-ones : (xs ys : List Op) → AreOps (xs ++ ys) → AreOps ys
last-ones [] ys are = are
last-ones (x ∷ xs) ys are = last-ones xs ys (All-tail IsOp x (xs ++ ys) are)

-- what stands at an address is fetched there
fetched-here : (memory : List ℕ) (p : ℕ) (op : Op) (rest : List ℕ) → 16 ≤ p → IsOp op → drop p (code_of memory) ≡ spelled op ++ rest → IsFetched memory p op
fetched-here memory p op rest low is there =
    ap (λ b. if b then None else op_at (code_of memory) p) (not-low p low)
    ∙ ap (option_map (λ (read : Op × ℕ). (read.0, p + read.1))) (ap op_in there ∙ read-back op is rest)

-- bytecodes that stand one after the other
module _ (memory : List ℕ) (base : ℕ) (low : 16 ≤ base) (rest : List ℕ) where
  each-fetched : (begin : ℕ) (ops : List Op) → AreOps ops → drop (base + begin) (code_of memory) ≡ flat_map spelled ops ++ rest
      → (k : ℕ) (op : Op) (place : ℕ) → slice_get ops k ≡ Some op → slice_get (begins_from begin ops) k ≡ Some place → IsFetched memory (base + place) op
  each-fetched begin [] are there k op place at_op at_place = absurd (none-some op at_op)
  each-fetched begin (x ∷ ops) are there zero op place at_op at_place =
      let bytes : drop (base + begin) (code_of memory) ≡ spelled x ++ (flat_map spelled ops ++ rest) = there ∙ append_assoc (spelled x) (flat_map spelled ops) rest in
      let first : IsFetched memory (base + begin) x = fetched-here memory (base + begin) x (flat_map spelled ops ++ rest) (omega (arith, low)) (All-head IsOp x ops are) bytes in
      subst (λ (n : ℕ). IsFetched memory (base + n) op) (same_Some begin place at_place) (subst (IsFetched memory (base + begin)) (same_Some x op at_op) first)
  each-fetched begin (x ∷ ops) are there (suc k) op place at_op at_place =
      let bytes : drop (base + begin) (code_of memory) ≡ spelled x ++ (flat_map spelled ops ++ rest) = there ∙ append_assoc (spelled x) (flat_map spelled ops) rest in
      let further : base + (begin + length (spelled x)) ≡ base + begin + length (spelled x) = omega arith in
      let behind : drop (base + (begin + length (spelled x))) (code_of memory) ≡ flat_map spelled ops ++ rest =
      ap (λ n. drop n (code_of memory)) further ∙ sym (drop-drop (length (spelled x)) (base + begin) (code_of memory))
      ∙ ap (drop (length (spelled x))) bytes ∙ drop-append_seam (spelled x) (flat_map spelled ops ++ rest) in
      each-fetched (begin + length (spelled x)) ops (All-tail IsOp x ops are) behind k op place at_op at_place

-- the bytecodes of a method's code stand where its lines say
pub line-fetched : (n : Names) (ss : Statements) (memory : List ℕ) (base : ℕ) → HasCode memory base (method_code n ss) → AreOps (method_code n ss).ops → (op : Op) (line : ℕ × Place) → HasLine (method_code n ss).ops (method_code n ss).lines op line → IsFetched memory (base + line.0) op
line-fetched n ss memory base has are op line there =
    let first : base + 0 ≡ base = omega arith in
    let begins : slice_get (begins_from 0 (method_code n ss).ops) there.number ≡ Some line.0 =
    ap (λ ns. slice_get ns there.number) (sym (lines-begin n ss)) ∙ slice_get-map begin_of (method_code n ss).lines there.number ∙ ap (option_map begin_of) there.is_line in
    each-fetched memory base has.begins has.rest 0 (method_code n ss).ops are (ap (λ p. drop p (code_of memory)) first ∙ has.bytes) there.number op line.0 there.is_op begins

-- so do those of a piece
pub added-fetched : (memory : List ℕ) (base : ℕ) (places : List Place) (w v : Written) → HasCode memory base w → HasCode memory base v → AreOps v.ops → (adds : AddsLines places w v) → (op : Op) (line : ℕ × Place) → HasLine adds.ops adds.lines op line → IsFetched memory (base + line.0) op
added-fetched memory base places w v before has are adds op line there =
    let begins : slice_get (begins_from w.end adds.ops) there.number ≡ Some line.0 =
    ap (λ ns. slice_get ns there.number) (sym adds.begins) ∙ slice_get-map begin_of adds.lines there.number ∙ ap (option_map begin_of) there.is_line in
    let own : AreOps adds.ops = last-ones w.ops adds.ops (subst AreOps adds.codes are) in
    let bytes : drop base (code_of memory) ≡ bytes_of w ++ (flat_map spelled adds.ops ++ has.rest) =
    has.bytes ∙ ap (λ bs. bs ++ has.rest) (ap (flat_map spelled) adds.codes ∙ flat_map-append spelled w.ops adds.ops) ∙ append_assoc (bytes_of w) (flat_map spelled adds.ops) has.rest in
    let behind : drop (base + w.end) (code_of memory) ≡ flat_map spelled adds.ops ++ has.rest =
    ap (λ n. drop (base + n) (code_of memory)) before.ends ∙ sym (drop-drop (length (bytes_of w)) base (code_of memory)) ∙ ap (drop (length (bytes_of w))) bytes
    ∙ drop-append_seam (bytes_of w) (flat_map spelled adds.ops ++ has.rest) in
    each-fetched memory base has.begins has.rest w.end adds.ops own behind there.number op line.0 there.is_op begins

-- ---- what is asked from an address

-- one bytecode more
pub one-more : (entered : Entered) (turns : List Turn) (done : ℕ) (s : SpinState) (begin : ℕ) (left : List Turn) → lived done entered turns ≡ Goes s begin left
    → lived (done + 1) entered turns ≡ played entered.cog (begin + clocks entered.memory s) (bytecode entered.memory entered.cog s) left
unfolding after
one-more entered turns done s begin left goes =
    let more : done + 1 ≡ suc done = omega arith in
    ap (λ n. lived n entered turns) more ∙ ap (step (engine_of entered.memory entered.cog)) goes

pub asked-by : (entered : Entered) (turns : List Turn) (address : ℕ) (op : Op) → IsFetched entered.memory address op → IsAskedFrom entered turns address → IsAskedBy entered turns address op
asked-by entered turns address op stands (done, s, begin, left, clock, access, goes, next, here) =
    let found : bytecode entered.memory entered.cog s ≡ row entered.memory entered.cog op (record s { at = address + length (spelled op) }) =
    ap (λ place. does_found entered.memory entered.cog (fetched entered.memory place) s) here ∙ ap (λ f. does_found entered.memory entered.cog f s) stands in
    record {
      done = done;
      s = s;
      begin = begin;
      left = left;
      clock = clock;
      access = access;
      goes = goes;
      here = here;
      next = next;
      asks =
          ap (λ (course : Course SpinState). played entered.cog (begin + clocks entered.memory s) course left) (sym found)
          ∙ sym (one-more entered turns done s begin left goes) ∙ next;
    }
