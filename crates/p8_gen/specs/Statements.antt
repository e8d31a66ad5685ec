-- The code of statements, a clause a form.
-- Sources: the public Spin bytecode listing of the Propeller P8X32A and the Propeller Manual v1.2, Spin chapter; the layout of
-- loops and chains is this project's profile.
use Rattle.std.specs.Prelude.{◌≡◌, ℕ, Bool, true, false, not, if◌then◌else◌, List, Option, Some, None}
use Rattle.p8_tree.specs.Expressions.{Tree, Items, no_items, ◌▸◌, single, range}
use Rattle.p8_tree.specs.Statements.{Forever, Count, Before, After, From, Statement, statement, Action, Do, If, Case, Repeat, Next, Quit, Return}
use Rattle.p8_tree.specs.Statements.{Abort, arm, Otherwise, nothing_else, otherwise, Statements, no_statements, ◌▹◌, Arms, no_arms, ◌⊳◌}
use Rattle.p8_bytecode.specs.declared.op.Op.{Op}
use Rattle.p8_gen.specs.Names.{Names}
use Rattle.p8_gen.specs.Pieces.{Piece, from_place, nothing, one, ◌⨾◌, from_start, up_to_end, up_to_jumps, of_statement, byte, jump, jumping}
use Rattle.p8_gen.specs.Variables.{home_of, plain_op, Pop, Using}
use Rattle.p8_gen.specs.Expressions.{value, alone}

-- the innermost loop around a statement: where NEXT and QUIT go, and whether a count lies on the stack
pub record Loop : Type 0 where
  pub next : ℕ
  pub quit : ℕ
  pub counted : Bool

-- two loops that both keep a count, or both none
abbrev pub SameLoop : Option Loop → Option Loop → Type 0
SameLoop None None = Unit {0}
SameLoop None (Some k) = ⊥
SameLoop (Some l) None = ⊥
SameLoop (Some l) (Some k) = l.counted ≡ k.counted

abbrev pub inside : (next quit : ℕ) → (counted : Bool) → Option Loop
inside next quit counted = Some (record { next = next; quit = quit; counted = counted })

-- NEXT and QUIT stand in loops alone
abbrev pub goes_on : Names → Option Loop → Piece
goes_on names None = nothing
goes_on names (Some loop) = jump names.wide names.statement 0x04 loop.next

-- a count is dropped
abbrev pub leaves : Names → Option Loop → Piece
leaves names None = nothing
leaves names (Some loop) = (if loop.counted then byte 0x14 else nothing) ⨾ jump names.wide names.statement 0x04 loop.quit

abbrev pub with_value : Names → Option Tree → (alone_code value_code : ℕ) → Piece
with_value names None alone_code value_code = byte alone_code
with_value names (Some e) alone_code value_code = value names e ⨾ byte value_code

-- the one test of an arm of IF
abbrev pub test_of : Names → Items → Piece
test_of names (no_items ▸ single e) = value names e
test_of names _ = nothing

-- a jump where a value is 0, or, negated, where it isn't
abbrev pub zero_jump : (negated : Bool) → ℕ
zero_jump negated = if negated then 0x0B else 0x0A

-- the tests of an arm of CASE, each with a jump to the arm
abbrev pub tests : Names → (to : ℕ) → Items → Piece
tests names to no_items = nothing
tests names to (xs ▸ single e) = tests names to xs ⨾ value names e ⨾ jump names.wide names.statement 0x0D to
tests names to (xs ▸ range a b) = tests names to xs ⨾ value names a ⨾ value names b ⨾ jump names.wide names.statement 0x0E to

-- the step of REPEAT FROM, 1 where none is given
abbrev pub step_of : Names → Option Tree → Piece
step_of names None = nothing
step_of names (Some e) = value names e

abbrev pub step_effect : Option Tree → ℕ
step_effect None = 0x02
step_effect (Some e) = 0x06

abbrev pub plain_name : Names → List ℕ → (effect : ℕ) → Op
plain_name names name effect = plain_op (home_of names name) (Using effect)

abbrev mutual
  pub code : Names → Option Loop → Statement → Piece
  code names loop (statement place action) = of_statement place (code_of (record names { statement = place }) loop action)

  pub code_of : Names → Option Loop → Action → Piece
  code_of names loop (Do e) = alone names e
  code_of names loop (If arms nothing_else) = up_to_end (λ end. chain names loop (jump names.wide names.statement 0x04 end) nothing arms)
  code_of names loop (If arms (otherwise ss)) =
      up_to_end (λ end. chain names loop (jump names.wide names.statement 0x04 end) (jump names.wide names.statement 0x04 end) arms ⨾ body names loop ss)
  code_of names loop (Case e arms other) =
      up_to_end (λ end.
      up_to_jumps (λ first before.
      value names e ⨾ all_tests names loop first before arms ⨾ byte 0x0C ⨾ other_body names loop other ⨾ jump names.wide names.statement 0x04 end)
      ⨾ case_bodies names loop end arms)
  code_of names loop (Repeat Forever ss) =
      up_to_end (λ end. from_start (λ start. body names (inside start end false) ss ⨾ jump names.wide names.statement 0x04 start))
  code_of names loop (Repeat (Count e) ss) =
      up_to_end (λ end.
      value names e ⨾ jump names.wide names.statement 0x08 end
      ⨾ from_start (λ start. up_to_end (λ next. body names (inside next end true) ss) ⨾ jump names.wide names.statement 0x09 start))
  code_of names loop (Repeat (Before until e) ss) =
      up_to_end (λ end. from_start (λ start.
      value names e ⨾ jump names.wide names.statement (zero_jump until) end
      ⨾ body names (inside start end false) ss ⨾ jump names.wide names.statement 0x04 start))
  code_of names loop (Repeat (After until e) ss) =
      up_to_end (λ end. from_start (λ start.
      up_to_end (λ next. body names (inside next end false) ss)
      ⨾ value names e ⨾ jump names.wide names.statement (zero_jump (not until)) start))
  code_of names loop (Repeat (From name a b step q) ss) =
      up_to_end (λ end.
      value names a ⨾ one (plain_op (home_of names name) Pop)
      ⨾ from_start (λ start.
      up_to_end (λ next. body names (inside next end false) ss)
      ⨾ step_of names step ⨾ value names a ⨾ value names b
      ⨾ jumping names.wide names.statement start (plain_name names name (step_effect step))))
  code_of names loop Next = goes_on names loop
  code_of names loop Quit = leaves names loop
  code_of names loop (Return e) = with_value names e 0x32 0x33
  code_of names loop (Abort e) = with_value names e 0x30 0x31

  pub body : Names → Option Loop → Statements → Piece
  body names loop no_statements = nothing
  body names loop (ss ▹ s) = body names loop ss ⨾ code names loop s

  -- ---- IF

  -- arms, each with its test, and its body where the test holds; after the body of the last one stands `last`, after those
  -- of the others `further`
  pub chain : Names → Option Loop → (further last : Piece) → Arms → Piece
  chain names loop further last no_arms = nothing
  chain names loop further last (arms ⊳ arm items negated ss) =
      chain names loop further further arms
      ⨾ up_to_end (λ next. test_of names items ⨾ jump names.wide names.statement (zero_jump negated) next ⨾ body names loop ss ⨾ last)

  pub other_body : Names → Option Loop → Otherwise → Piece
  other_body names loop nothing_else = nothing
  other_body names loop (otherwise ss) = body names loop ss

  -- ---- CASE

  -- the tests of all arms, whose bodies stand one after the other from `first` on, with so many jumps of the method before them
  pub all_tests : Names → Option Loop → (first before : ℕ) → Arms → Piece
  all_tests names loop first before no_arms = nothing
  all_tests names loop first before (arms ⊳ arm items negated ss) =
      all_tests names loop first before arms ⨾ tests names (case_bodies names loop 0 arms (from_place first before)).end items

  -- each body first drops the value that was compared
  pub case_bodies : Names → Option Loop → (end : ℕ) → Arms → Piece
  case_bodies names loop end no_arms = nothing
  case_bodies names loop end (arms ⊳ arm items negated ss) =
      case_bodies names loop end arms ⨾ byte 0x0C ⨾ body names loop ss ⨾ jump names.wide names.statement 0x04 end
