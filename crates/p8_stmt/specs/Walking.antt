-- Pieces of statements as the code cuts them: internal.
use Rattle.std.specs.Prelude.{ℕ, Bool, true, false, not, if◌then◌else◌, List, Option, Some, None}
use Rattle.p8_tree.specs.Expressions.{Tree}
use Rattle.p8_tree.specs.Statements.{Action, If, Case, nothing_else, otherwise, Course, Forever, Count, Before, After, From, Arm, arm, Arms, no_arms}
use Rattle.p8_tree.specs.Statements.{◌⊳◌, Statements}
use Rattle.p8_gen.specs.Names.{Names}
use Rattle.p8_gen.specs.Pieces.{Piece, nothing, one, ◌⨾◌, from_start, up_to_end, up_to_jumps, byte, jump, jumping}
use Rattle.p8_gen.specs.Variables.{home_of, plain_op, Pop}
use Rattle.p8_gen.specs.Expressions.{value}
use Rattle.p8_gen.specs.Scopes.{names_of}
use Rattle.p8_gen.specs.Statements.{Loop, inside, zero_jump, test_of, tests, step_of, step_effect, plain_name, body, chain, other_body, all_tests, case_bodies}
use Rattle.p8_stmt.specs.declared.context.Context.{Context}
use Rattle.p8_stmt.specs.declared.context.LoopPlaces.{LoopPlaces}

-- ---- where a statement stands

abbrev pub names_at : Context → Names
names_at c = names_of c.coder

abbrev pub places_of : Option LoopPlaces → Option Loop
places_of None = None
places_of (Some l) = inside l.next l.quit l.counted

abbrev pub loop_at : Context → Option Loop
loop_at c = places_of c.enclosing

-- the jump of QUIT, after what drops a count
abbrev pub leaving : Names → (counted : Bool) → (quit : ℕ) → Piece
leaving names counted quit = (if counted then byte 0x14 else nothing) ⨾ jump names.wide names.statement 0x04 quit

-- ---- IF

-- a jump to the end of a chain, where there is one
abbrev pub leap : Names → (jumps : Bool) → (end : ℕ) → Piece
leap names jumps end = if jumps then jump names.wide names.statement 0x04 end else nothing

abbrev pub arm_piece : Names → Option Loop → (last : Piece) → Arm → (next : ℕ) → Piece
arm_piece names loop last (arm items negated ss) next =
    test_of names items ⨾ jump names.wide names.statement (zero_jump negated) next ⨾ body names loop ss ⨾ last

-- the arms of an IF and the body of its ELSE, with which the last arm jumps to the end, too
abbrev pub branches : Names → Option Loop → Action → (end : ℕ) → Piece
branches names loop (If arms nothing_else) end = chain names loop (jump names.wide names.statement 0x04 end) nothing arms
branches names loop (If arms (otherwise ss)) end = chain names loop (jump names.wide names.statement 0x04 end)
    (jump names.wide names.statement 0x04 end) arms ⨾ body names loop ss
branches names loop _ end = nothing

-- ---- CASE

-- the value of a CASE, all tests, and the body of OTHER
abbrev pub choices : Names → Option Loop → Action → (first before end : ℕ) → Piece
choices names loop (Case e arms other) first before end =
    value names e ⨾ all_tests names loop first before arms ⨾ byte 0x0C ⨾ other_body names loop other ⨾ jump names.wide names.statement 0x04 end
choices names loop _ first before end = nothing

-- the bodies of its arms
abbrev pub bodies : Names → Option Loop → Action → (end : ℕ) → Piece
bodies names loop (Case e arms other) end = case_bodies names loop end arms
bodies names loop _ end = nothing

-- the tests alone, with jumps that go nowhere
abbrev pub tests_of_arms : Names → Arms → Piece
tests_of_arms names no_arms = nothing
tests_of_arms names (arms ⊳ arm items negated ss) = tests_of_arms names arms ⨾ tests names 0 items

abbrev pub case_piece : Names → Option Loop → Action → Piece
case_piece names loop action = up_to_end (λ end. up_to_jumps (λ first before. choices names loop action first before end) ⨾ bodies names loop action end)

abbrev pub case_body : Names → Option Loop → (end : ℕ) → Arm → Piece
case_body names loop end (arm items negated ss) = byte 0x0C ⨾ body names loop ss ⨾ jump names.wide names.statement 0x04 end

-- ---- REPEAT

-- what stands before a loop's passes
abbrev pub head : Names → Course → (end : ℕ) → Piece
head names Forever end = nothing
head names (Count e) end = value names e ⨾ jump names.wide names.statement 0x08 end
head names (Before until e) end = nothing
head names (After until e) end = nothing
head names (From name a b step q) end = value names a ⨾ one (plain_op (home_of names name) Pop)

-- the test with which a pass begins
abbrev pub first_test : Names → Course → (end : ℕ) → Piece
first_test names Forever end = nothing
first_test names (Count e) end = nothing
first_test names (Before until e) end = value names e ⨾ jump names.wide names.statement (zero_jump until) end
first_test names (After until e) end = nothing
first_test names (From name a b step q) end = nothing

-- what ends a pass of REPEAT FROM
abbrev pub step_piece : Names → List ℕ → (a b : Tree) → Option Tree → (start : ℕ) → Piece
step_piece names name a b step start =
    step_of names step ⨾ value names a ⨾ value names b ⨾ jumping names.wide names.statement start (plain_name names name (step_effect step))

-- what ends a pass
abbrev pub pass_end : Names → Course → (start : ℕ) → Piece
pass_end names Forever start = jump names.wide names.statement 0x04 start
pass_end names (Count e) start = jump names.wide names.statement 0x09 start
pass_end names (Before until e) start = jump names.wide names.statement 0x04 start
pass_end names (After until e) start = value names e ⨾ jump names.wide names.statement (zero_jump (not until)) start
pass_end names (From name a b step q) start = step_piece names name a b step start

-- NEXT goes to the begin of a pass, and not to what ends one
abbrev pub goes_to_begin : Course → Bool
goes_to_begin Forever = true
goes_to_begin (Count e) = false
goes_to_begin (Before until e) = true
goes_to_begin (After until e) = false
goes_to_begin (From name a b step q) = false

-- a count lies on the stack
abbrev pub keeps_count : Course → Bool
keeps_count Forever = false
keeps_count (Count e) = true
keeps_count (Before until e) = false
keeps_count (After until e) = false
keeps_count (From name a b step q) = false

-- a loop's body, after which NEXT goes
abbrev pub up_to_next : Names → (quit : ℕ) → (counted : Bool) → Statements → Piece
up_to_next names quit counted ss = up_to_end (λ next. body names (inside next quit counted) ss)

abbrev pub looped : Names → Course → Statements → (start quit : ℕ) → Piece
looped names course ss start quit =
    if goes_to_begin course then body names (inside start quit false) ss else up_to_next names quit (keeps_count course) ss

abbrev pub loop_piece : Names → Course → Statements → (end : ℕ) → Piece
loop_piece names course ss end =
    head names course end ⨾ from_start (λ start. first_test names course end ⨾ looped names course ss start end ⨾ pass_end names course start)
