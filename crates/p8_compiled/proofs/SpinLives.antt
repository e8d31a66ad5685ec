-- A life of Spin that follows its turns is what its method says.
use Rattle.std.proofs.Common.{◌≡◌, refl, sym, ap, subst, ◌∙◌, arith, ℕ, ◌+◌, ◌≤◌, Bool, true, false, if◌then◌else◌, List, [], ◌∷◌, ◌++◌, map, length, Option, Some, None, append_assoc, append-nil}
use Rattle.std.specs.Prelude.{All}
use Rattle.std.proofs.Math.ListN.{length-append}
use Rattle.p8_access.specs.declared.kinds.Origin.{Origin}
use Rattle.p8_access.specs.declared.kinds.Access.{Access}
use Rattle.p8_access.specs.declared.kinds.Access.TheVariants as access_case
use Rattle.p8_access.specs.declared.kinds.Answer.{Answer}
use Rattle.p8_access.specs.declared.order.Turn.{Turn}
use Rattle.p8_access.specs.Lives.{is_last}
use Rattle.p8_access.specs.Courses.{Course, Finish, Stop, Ask, Told, Wants, Leaves, Closes, told}
use Rattle.p8_access.specs.Replays.{answer_of, retold}
use Rattle.p8_bytecode.specs.declared.op.Op.{Op}
use Rattle.p8_bcog.specs.declared.state.SpinState.{SpinState}
use Rattle.p8_bcog.specs.Code.{fetched}
use Rattle.p8_bcog.specs.Bytecodes.{clocks, clocks_of, is_slow}
use Rattle.p8_bcog.specs.Replay.{engine_of, enters_at, first_of}
use Rattle.p8_meaning.specs.Programs.{Program, Addresses, Target}
use Rattle.p8_meaning.specs.Lives.{IsMethodOrigin, says, life_of}
use Rattle.p8_meaning.specs.Bounds.{made_of, IsBeginning}
use Rattle.p8_compiled.specs.Keeps.{Placed, bytes, forgets}
use Rattle.p8_compiled.specs.Told.{FramesFit, IsTold, access_of}
use Rattle.p8_compiled.proofs.Starts.{StaysInProject, IsNamed}
use Rattle.p8_compiled.proofs.Following.{Follows, Makes, follows-makes}
use Rattle.p8_compiled.proofs.SourceLives.{source-starts}

-- a bytecode takes 32 clocks at least
clocks-least : (found : Option (Op × ℕ)) → 32 ≤ clocks_of found
clocks-least None = omega arith
clocks-least (Some found) = by (is_slow found.0)
  where
    by : (b : Bool) → 32 ≤ (if b then 544 else 32)
    by true = omega arith
    by false = omega arith

pub bytecodes-paced : (memory : List ℕ) (s : SpinState) → 32 ≤ clocks memory s
bytecodes-paced memory s = clocks-least (fetched memory s.at)

-- ---- no more accesses are made than there are answers

if-few : {S : Type 0} (b : Bool) (x y : Told S) (n : ℕ) → length (made_of x) ≤ n → length (made_of y) ≤ n → length (made_of (if b then x else y)) ≤ n
if-few true x y n h k = h
if-few false x y n h k = k

made-few : {S : Type 0} (cog : ℕ) (made : List Access) (c : Course S) (answers : List Answer) → length (made_of (told cog made c answers)) ≤ length made + length answers
made-few cog made (Finish s) answers = omega arith
made-few cog made (Stop reason) [] = omega arith
made-few cog made (Stop reason) (answer ∷ left) = omega (arith, length-append made (access_case.Halt reason ∷ []))
made-few cog made (Ask access go) [] = omega arith
made-few cog made (Ask access go) (answer ∷ left) =
    if-few (is_last cog access) _ _ _ (omega (arith, length-append made (access ∷ [])))
    (omega (arith, made-few cog (made ++ access ∷ []) (go answer) left, length-append made (access ∷ [])))

says-few : (program : Program) (addresses : Addresses) (target : Target) (frame cog : ℕ) (answers : List Answer) (bound : ℕ) → length (made_of (says program addresses target frame cog answers bound)) ≤ length answers
unfolding says
says-few program addresses target frame cog answers bound = omega (arith, made-few cog [] (life_of program addresses target frame cog bound) answers)

-- ---- lists that begin alike

length-mapped : {X Y : Type 0} (f : X → Y) (xs : List X) → length (map f xs) ≡ length xs
length-mapped f [] = refl
length-mapped f (x ∷ xs) = let rest : length (map f xs) ≡ length xs = length-mapped f xs in omega (arith, rest)

empty-is : {X : Type 0} (xs : List X) → length xs ≤ 0 → xs ≡ []
empty-is [] le = refl
empty-is (x ∷ xs) le = absurd (omega (arith, le))

beginning-whole : (xs ys : List Access) → IsBeginning xs ys → length ys ≤ length xs → xs ≡ ys
beginning-whole xs ys h le =
    let none : h.0 ≡ [] = empty-is h.0 (omega (arith, le, ap length h.1, length-append xs h.0)) in
    sym (append-nil xs) ∙ ap (λ (more : List Access). xs ++ more) (sym none) ∙ sym h.1

pub begins-further : (xs ys zs : List Access) → IsBeginning xs ys → IsBeginning ys zs → IsBeginning xs zs
begins-further xs ys zs h k = (h.0 ++ k.0, k.1 ∙ ap (λ (a : List Access). a ++ k.0) h.1 ∙ append_assoc xs h.0 k.0)

made-same : {S : Type 0} (t : Told S) → made_of (forgets t) ≡ made_of t
made-same (Wants made access) = refl
made-same (Leaves made state left) = refl
made-same (Closes made) = refl

-- what code makes the source says, and a greater bound says more
abbrev pub CodeIsTold : Program → Addresses → List ℕ → ℕ → Type 0
CodeIsTold program addresses memory cog =
    (origin : Origin) (target : Target) (frame : ℕ) → IsMethodOrigin program addresses origin target frame → (answers : List Answer) (count limit : ℕ) → count ≤ limit →
    IsBeginning (made_of (bytes memory origin cog answers count)) (made_of (says program addresses target frame cog answers limit))

module _ (program : Program) (addresses : Addresses) (memory : List ℕ) (cog : ℕ) (placed : Placed memory cog program addresses) (fits : FramesFit program) (code : CodeIsTold program addresses memory cog) (start limit : ℕ) (origin : Origin) (named : IsNamed program addresses origin) where
  abbrev pub FollowsSpin : List Turn → Type 0
  FollowsSpin turns = Follows (engine_of memory cog) start (enters_at (first_of origin)) limit turns

  abbrev said : List Turn → List Access
  said turns = made_of (says program addresses named.target named.frame cog (map answer_of turns) limit)

  told-by : (turns : List Turn) → Makes (engine_of memory cog) start (enters_at (first_of origin)) limit turns → map access_of turns ≡ said turns
  told-by turns m =
      let these : made_of (bytes memory origin cog (map answer_of turns) m.count) ≡ map access_of turns = made-same (retold (engine_of memory cog) (enters_at (first_of origin)) m.count (map answer_of turns)) ∙ m.makes in
      beginning-whole (map access_of turns) (said turns)
      (subst (λ (made : List Access). IsBeginning made (said turns)) these (code origin named.target named.frame named.is_method (map answer_of turns) m.count limit m.few))
      (omega (arith, says-few program addresses named.target named.frame cog (map answer_of turns) limit, length-mapped answer_of turns, length-mapped access_of turns))

  -- its accesses are those that the method makes
  pub follows-told : (turns : List Turn) → FollowsSpin turns → IsTold program addresses limit cog origin turns
  follows-told turns h = record {
    target = named.target;
    frame = named.frame;
    is_method = named.is_method;
    accesses = told-by turns (follows-makes (engine_of memory cog) start (enters_at (first_of origin)) limit turns h);
  }

  -- so it starts methods of the project alone
  pub follows-starts : (turns : List Turn) → FollowsSpin turns → All (StaysInProject program addresses) (map access_of turns)
  follows-starts turns h =
      subst (All (StaysInProject program addresses)) (sym (told-by turns (follows-makes (engine_of memory cog) start (enters_at (first_of origin)) limit turns h)))
      (source-starts program addresses memory cog placed fits named.target named.is_method.is_instance named.frame limit (map answer_of turns))
