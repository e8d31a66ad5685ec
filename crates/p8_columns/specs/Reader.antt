-- internal: what a reader keeps of the lines so far.
use Rattle.std.specs.Prelude.{ℕ, zero, suc, Bool, false, List, [], ◌∷◌, Option, Some, None, nat_le, if◌then◌else◌}
use Rattle.p8_tree.specs.declared.places.Place.{Place}
use Rattle.p8_tree.specs.Expressions.{Tree}
use Rattle.p8_tree.specs.Statements as trees
use Rattle.p8_tree.specs.Statements.{Course, Forever, After, Statement, statement, Arm, arm, Otherwise, nothing_else, otherwise, Statements}
use Rattle.p8_tree.specs.Statements.{no_statements, ◌▹◌, Arms, no_arms, ◌⊳◌}
use Rattle.p8_columns.specs.Lines.{Kind, Plain, If, ElseIf, Else, Repeat, End, Case, Item, Other, Line, column, is_opener}
use Rattle.p8_columns.specs.Blocks.{Contents, body, choices, condition}

-- an open block: its opener, and what stands before the opener in the block around it
pub record Frame : Type 0 where
  pub opener : Line
  pub outer : Contents

-- the open blocks, the innermost first, and what stands in the innermost
pub record State : Type 0 where
  pub contents : Contents
  pub frames : List Frame

abbrev pub state : Contents → List Frame → State
state x k = record { contents = x; frames = k }

abbrev pub frame : Line → Contents → Frame
frame l x = record { opener = l; outer = x }

-- an opener's block at its beginning
abbrev pub begun : Kind → Contents
begun (Case value) = choices no_arms nothing_else
begun _ = body no_statements

-- one more arm of the chain that is the last statement
abbrev pub chained : Statement → Arm → Statement
chained (statement p (trees.If arms nothing_else)) a = statement p (trees.If (arms ⊳ a) nothing_else)
chained s a = s

abbrev pub with_arm : Statements → Arm → Statements
with_arm no_statements a = no_statements
with_arm (ss ▹ s) a = ss ▹ chained s a

-- its ELSE
abbrev pub ended : Statement → Statements → Statement
ended (statement p (trees.If arms nothing_else)) inner = statement p (trees.If arms (otherwise inner))
ended s inner = s

abbrev pub with_else : Statements → Statements → Statements
with_else no_statements inner = no_statements
with_else (ss ▹ s) inner = ss ▹ ended s inner

-- the test at the end of the plain REPEAT that is the last statement
abbrev pub closing : Course → Bool → Tree → Course
closing Forever until test = After until test
closing course until test = course

abbrev pub tested : Statement → Bool → Tree → Statement
tested (statement p (trees.Repeat course inner)) until test = statement p (trees.Repeat (closing course until test) inner)
tested s until test = s

abbrev pub with_end : Statements → Bool → Tree → Statements
with_end no_statements until test = no_statements
with_end (ss ▹ s) until test = ss ▹ tested s until test

-- statements and a line with its block
abbrev pub with_body : Statements → Place → Kind → Statements → Statements
with_body ss p (Plain a) inner = ss ▹ statement p a
with_body ss p (If negated test) inner = ss ▹ statement p (trees.If (no_arms ⊳ condition negated test inner) nothing_else)
with_body ss p (ElseIf negated test) inner = with_arm ss (condition negated test inner)
with_body ss p Else inner = with_else ss inner
with_body ss p (Repeat course) inner = ss ▹ statement p (trees.Repeat course inner)
with_body ss p (End until test) inner = with_end ss until test
with_body ss p (Case value) inner = ss
with_body ss p (Item tests) inner = ss
with_body ss p Other inner = ss

abbrev pub with_choices : Statements → Place → Kind → Arms → Otherwise → Statements
with_choices ss p (Case value) arms other = ss ▹ statement p (trees.Case value arms other)
with_choices ss p _ arms other = ss

-- the items of a CASE and one more
abbrev pub with_item : Arms → Otherwise → Kind → Statements → Contents
with_item arms other (Item tests) inner = choices (arms ⊳ arm tests false inner) other
with_item arms other Other inner = choices arms (otherwise inner)
with_item arms other _ inner = choices arms other

-- the contents before a line, and that line with the contents of its block
abbrev pub closed : Contents → Line → Contents → Contents
closed (body ss) l (body inner) = body (with_body ss l.place l.kind inner)
closed (body ss) l (choices arms other) = body (with_choices ss l.place l.kind arms other)
closed (choices arms other) l (body inner) = with_item arms other l.kind inner
closed (choices arms other) l (choices xs o) = choices arms other

-- closes the blocks whose openers stand at column c or to the right of it
abbrev pub close : ℕ → Contents → List Frame → State
close c x [] = state x []
close c x (f ∷ k) = if nat_le c (column f.opener) then close c (closed f.outer f.opener x) k else state x (f ∷ k)

-- a line after the contents of its block
abbrev pub put : State → Line → State
put s l = if is_opener l.kind then state (begun l.kind) (frame l s.contents ∷ s.frames) else state (closed s.contents l (body no_statements)) s.frames

abbrev pub step : State → Line → State
step s l = put (close (column l) s.contents s.frames) l

abbrev pub start : State
start = state (body no_statements) []

abbrev pub walk : State → List Line → State
walk s [] = s
walk s (l ∷ ls) = walk (step s l) ls

-- the statements, once all blocks are closed
abbrev pub statements_in : Contents → Statements
statements_in (body ss) = ss
statements_in (choices arms other) = no_statements

abbrev pub whole : State → Statements
whole s = statements_in (close 0 s.contents s.frames).contents

-- how many open blocks, from the innermost, stand at column c or to the right of it
abbrev pub right_of : ℕ → List Frame → ℕ
right_of c [] = 0
right_of c (f ∷ k) = if nat_le c (column f.opener) then suc (right_of c k) else 0

-- the opener of the block at an index from the innermost
abbrev pub opener_at : List Frame → ℕ → Option Line
opener_at [] i = None
opener_at (f ∷ k) zero = Some f.opener
opener_at (f ∷ k) (suc i) = opener_at k i

-- whether the innermost block's opener stands at column c or to the right of it
abbrev pub is_right : ℕ → List Frame → Bool
is_right c [] = false
is_right c (f ∷ k) = nat_le c (column f.opener)

-- the opener of the block inside it
abbrev pub opener_before : List Frame → ℕ → Option Line
opener_before k zero = None
opener_before k (suc i) = opener_at k i

abbrev pub passes : (Kind → Bool) → Option Line → Bool
passes test None = false
passes test (Some l) = test l.kind
