-- What is told places is as long, whatever places it is told.
use Rattle.std.proofs.Common.{ℕ, Bool, true, false, not, List, Option, Some, None, refl}
use Rattle.p8_tree.specs.Expressions.{Tree, Items}
use Rattle.p8_tree.specs.Statements.{Otherwise, Statements, Arms}
use Rattle.p8_gen.specs.Names.{Names}
use Rattle.p8_gen.specs.Pieces.{Piece, nothing, one, ◌⨾◌, from_start, up_to_end, up_to_jumps, byte, jump, jumping}
use Rattle.p8_gen.specs.Variables.{plain_op, home_of, Pop}
use Rattle.p8_gen.specs.Expressions.{counts_from, looks_down, value, looks}
use Rattle.p8_gen.specs.Statements.{Loop, SameLoop, inside, zero_jump, test_of, step_of, step_effect, plain_name, body, chain, other_body, all_tests, case_bodies}
use Rattle.p8_gen.proofs.Widths as widths
use Rattle.p8_gen.proofs.Widths.{Alike, value-alike, counts-alike, looks-alike, test-alike, step-alike, body-alike, chain-alike, other-alike, all-tests-alike, bodies-alike}
use Rattle.p8_opt.proofs.Closer.{Steady, SteadyTwice}

pub same-loop : (l : Option Loop) → SameLoop l l
same-loop None = tt
same-loop (Some l) = refl

module _ (n : Names) where
  pub look-steady : (code : ℕ) (e : Tree) (xs : Items) → Steady (λ x. value n e ⨾ counts_from code ⨾ looks n (looks_down code) x xs ⨾ byte 0x0F)
  look-steady code e xs x y =
      widths.both (widths.both (widths.both (value-alike n n.text n.statement e) (counts-alike code)) (looks-alike n n.text n.statement (looks_down code) x y xs)) (widths.bytes 0x0F)

  goes : (code x y : ℕ) → Alike (jump n.wide n.statement code x) (jump n.wide n.statement code y)
  goes code x y = widths.jumps n.wide n.statement n.statement code x y

  pub goes-alike : (x : ℕ) → Alike (jump n.wide n.statement 0x04 x) (jump n.wide n.statement 0x04 x)
  goes-alike x = goes 0x04 x x

  pub same-body : (l : Option Loop) (ss : Statements) → Alike (body n l ss) (body n l ss)
  same-body l ss = body-alike n n.text n.statement l l (same-loop l) ss

  -- ---- IF

  pub arm-steady : (l : Option Loop) (last : Piece) → Alike last last → (items : Items) (negated : Bool) (ss : Statements) → Steady (λ x. test_of n items ⨾ jump n.wide n.statement (zero_jump negated) x ⨾ body n l ss ⨾ last)
  arm-steady l last like items negated ss x y =
      widths.both (widths.both (widths.both (test-alike n n.text n.statement items) (goes (zero_jump negated) x y)) (same-body l ss)) like

  pub chain-steady : (l : Option Loop) (arms : Arms) → Steady (λ x. chain n l (jump n.wide n.statement 0x04 x) nothing arms)
  chain-steady l arms x y = chain-alike n n.text n.statement l l (same-loop l) _ _ _ _ (goes 0x04 x y) widths.nothings arms

  pub chain-other-steady : (l : Option Loop) (arms : Arms) → Steady (λ x. chain n l (jump n.wide n.statement 0x04 x) (jump n.wide n.statement 0x04 x) arms)
  chain-other-steady l arms x y = chain-alike n n.text n.statement l l (same-loop l) _ _ _ _ (goes 0x04 x y) (goes 0x04 x y) arms

  -- ---- CASE

  pub choices-steady : (l : Option Loop) (end : ℕ) (e : Tree) (arms : Arms) (other : Otherwise)
      → SteadyTwice (λ first before. value n e ⨾ all_tests n l first before arms ⨾ byte 0x0C ⨾ other_body n l other ⨾ jump n.wide n.statement 0x04 end)
  choices-steady l end e arms other x y i j =
      widths.both (widths.both (widths.both (widths.both (value-alike n n.text n.statement e) (all-tests-alike n n.text n.statement l l (same-loop l) x y i j arms)) (widths.bytes 0x0C))
      (other-alike n n.text n.statement l l (same-loop l) other)) (goes 0x04 end end)

  pub case-steady : (l : Option Loop) (e : Tree) (arms : Arms) (other : Otherwise)
      → Steady (λ end. up_to_jumps (λ first before. value n e ⨾ all_tests n l first before arms ⨾ byte 0x0C ⨾ other_body n l other ⨾ jump n.wide n.statement 0x04 end) ⨾ case_bodies n l end arms)
  case-steady l e arms other x y =
      widths.both (widths.up-jumps (λ i j a b.
      widths.both (widths.both (widths.both (widths.both (value-alike n n.text n.statement e) (all-tests-alike n n.text n.statement l l (same-loop l) i j a b arms)) (widths.bytes 0x0C))
      (other-alike n n.text n.statement l l (same-loop l) other)) (goes 0x04 x y)))
      (bodies-alike n n.text n.statement l l (same-loop l) x y arms)

  -- ---- REPEAT

  pub inner-steady : (quit : ℕ) (counted : Bool) (ss : Statements) → Steady (λ next. body n (inside next quit counted) ss)
  inner-steady quit counted ss x y = body-alike n n.text n.statement (inside x quit counted) (inside y quit counted) refl ss

  inner-alike : (counted : Bool) (ss : Statements) (x y : ℕ) → Alike (up_to_end (λ next. body n (inside next x counted) ss)) (up_to_end (λ next. body n (inside next y counted) ss))
  inner-alike counted ss x y = widths.ups (λ v w. body-alike n n.text n.statement (inside v x counted) (inside w y counted) refl ss)

  pub forever-steady : (ss : Statements) → Steady (λ end. from_start (λ start. body n (inside start end false) ss ⨾ jump n.wide n.statement 0x04 start))
  forever-steady ss x y = widths.froms (λ i j. widths.both (body-alike n n.text n.statement (inside i x false) (inside j y false) refl ss) (goes 0x04 i j))

  pub count-steady : (e : Tree) (ss : Statements)
      → Steady (λ end. value n e ⨾ jump n.wide n.statement 0x08 end ⨾ from_start (λ start. up_to_end (λ next. body n (inside next end true) ss) ⨾ jump n.wide n.statement 0x09 start))
  count-steady e ss x y =
      widths.both (widths.both (value-alike n n.text n.statement e) (goes 0x08 x y)) (widths.froms (λ i j. widths.both (inner-alike true ss x y) (goes 0x09 i j)))

  pub before-steady : (until : Bool) (e : Tree) (ss : Statements)
      → Steady (λ end. from_start (λ start. value n e ⨾ jump n.wide n.statement (zero_jump until) end ⨾ body n (inside start end false) ss ⨾ jump n.wide n.statement 0x04 start))
  before-steady until e ss x y =
      widths.froms (λ i j. widths.both (widths.both (widths.both (value-alike n n.text n.statement e) (goes (zero_jump until) x y)) (body-alike n n.text n.statement (inside i x false) (inside j y false) refl ss)) (goes 0x04 i j))

  pub after-steady : (until : Bool) (e : Tree) (ss : Statements)
      → Steady (λ end. from_start (λ start. up_to_end (λ next. body n (inside next end false) ss) ⨾ value n e ⨾ jump n.wide n.statement (zero_jump (not until)) start))
  after-steady until e ss x y =
      widths.froms (λ i j. widths.both (widths.both (inner-alike false ss x y) (value-alike n n.text n.statement e)) (goes (zero_jump (not until)) i j))

  pub from-steady : (name : List ℕ) (a b : Tree) (step : Option Tree) (ss : Statements)
      → Steady (λ end. value n a ⨾ one (plain_op (home_of n name) Pop)
      ⨾ from_start (λ start. up_to_end (λ next. body n (inside next end false) ss) ⨾ step_of n step ⨾ value n a ⨾ value n b ⨾ jumping n.wide n.statement start (plain_name n name (step_effect step))))
  from-steady name a b step ss x y =
      widths.both (widths.both (value-alike n n.text n.statement a) (widths.same-one (plain_op (home_of n name) Pop)))
      (widths.froms (λ i j. widths.both (widths.both (widths.both (widths.both (inner-alike false ss x y) (step-alike n n.text n.statement step)) (value-alike n n.text n.statement a)) (value-alike n n.text n.statement b))
      (widths.steps n.wide n.statement n.statement i j (plain_name n name (step_effect step)))))
