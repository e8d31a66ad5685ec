-- Where the paths of a method's code begin, so that they come to each statement, also to those to which no jump leads.
--
-- An entry is a place before, between or behind the statements of a body, with the longs that lie there: one for each `REPEAT e` around the
-- body. So the first entry is the method's begin, with nothing on the stack. Where a place is depends neither on the targets of jumps nor on
-- what stands before it, but on how many bytes and jumps do, and so a piece is told 0 for what doesn't count.
use Rattle.std.specs.Prelude.{ℕ, ◌+◌, Bool, true, false, if◌then◌else◌, List, [], ◌∷◌, ◌++◌, Option, None}
use Rattle.p8_tree.specs.Statements.{Course, Forever, Count, Before, After, From, statement, Action, If, Case, Repeat, arm, Otherwise, nothing_else}
use Rattle.p8_tree.specs.Statements.{otherwise, Statements, no_statements, ◌▹◌, Arms, no_arms, ◌⊳◌}
use Rattle.p8_gen.specs.Names.{Names}
use Rattle.p8_gen.specs.Pieces.{from_place, Piece, nothing, one, ◌⨾◌, byte, jump}
use Rattle.p8_gen.specs.Variables.{home_of, plain_op, Pop}
use Rattle.p8_gen.specs.Expressions.{value}
use Rattle.p8_gen.specs.Statements.{Loop, inside, test_of, zero_jump, code, body, chain, other_body, all_tests, case_bodies}

abbrev pub leap : Names → (code : ℕ) → Piece
leap names code = jump names.wide names.statement code 0

-- ---- where the bodies of a statement begin, by the code before them

-- the body of a loop, and whether a count lies below it
abbrev pub before_pass : Names → Course → Piece
before_pass names Forever = nothing
before_pass names (Count e) = value names e ⨾ leap names 0x08
before_pass names (Before until e) = value names e ⨾ leap names (zero_jump until)
before_pass names (After until e) = nothing
before_pass names (From name a b step q) = value names a ⨾ one (plain_op (home_of names name) Pop)

abbrev pub is_counted : Course → Bool
is_counted (Count e) = true
is_counted _ = false

-- behind some arms of IF, where more follows
abbrev pub behind_arms : Names → Option Loop → Arms → Piece
behind_arms names loop arms = chain names loop (leap names 0x04) (leap names 0x04) arms

-- ---- entries

abbrev mutual
  -- of a body whose code begins at this place, behind so many jumps
  pub entries : Names → Option Loop → Statements → (kept place jumps : ℕ) → List (ℕ × ℕ)
  entries names loop no_statements kept place jumps = (place, kept) ∷ []
  entries names loop (ss ▹ statement q action) kept place jumps =
      let w = body names loop ss (from_place place jumps) in
      entries names loop ss kept place jumps
      ++ entries_inside (record names { statement = q }) loop action kept w.end w.jumps
      ++ ((code names loop (statement q action) w).end, kept) ∷ []

  pub entries_inside : Names → Option Loop → Action → (kept place jumps : ℕ) → List (ℕ × ℕ)
  entries_inside names loop (If arms other) kept place jumps =
      let w = behind_arms names loop arms (from_place place jumps) in
      entries_of_arms names loop arms kept place jumps ++ entries_of_other names loop other kept w.end w.jumps
  entries_inside names loop (Case e arms other) kept place jumps =
      let w = (value names e ⨾ all_tests names loop 0 0 arms ⨾ byte 0x0C) (from_place place jumps) in
      let v = (other_body names loop other ⨾ leap names 0x04) w in
      entries_of_other names loop other kept w.end w.jumps ++ entries_of_cases names loop arms kept v.end v.jumps
  entries_inside names loop (Repeat course ss) kept place jumps =
      let w = before_pass names course (from_place place jumps) in
      entries names (inside 0 0 (is_counted course)) ss (if is_counted course then kept + 1 else kept) w.end w.jumps
  entries_inside names loop _ kept place jumps = []

  -- of the bodies of arms of IF
  pub entries_of_arms : Names → Option Loop → Arms → (kept place jumps : ℕ) → List (ℕ × ℕ)
  entries_of_arms names loop no_arms kept place jumps = []
  entries_of_arms names loop (arms ⊳ arm items negated ss) kept place jumps =
      let w = (behind_arms names loop arms ⨾ test_of names items ⨾ leap names (zero_jump negated)) (from_place place jumps) in
      entries_of_arms names loop arms kept place jumps ++ entries names loop ss kept w.end w.jumps

  -- of the bodies of arms of CASE, each of which first drops the value that was compared
  pub entries_of_cases : Names → Option Loop → Arms → (kept place jumps : ℕ) → List (ℕ × ℕ)
  entries_of_cases names loop no_arms kept place jumps = []
  entries_of_cases names loop (arms ⊳ arm items negated ss) kept place jumps =
      let w = (case_bodies names loop 0 arms ⨾ byte 0x0C) (from_place place jumps) in
      entries_of_cases names loop arms kept place jumps ++ entries names loop ss kept w.end w.jumps

  pub entries_of_other : Names → Option Loop → Otherwise → (kept place jumps : ℕ) → List (ℕ × ℕ)
  entries_of_other names loop nothing_else kept place jumps = []
  entries_of_other names loop (otherwise ss) kept place jumps = entries names loop ss kept place jumps

-- of a whole method
abbrev pub entries_of_method : Names → Statements → List (ℕ × ℕ)
entries_of_method names ss = entries names None ss 0 0 0
