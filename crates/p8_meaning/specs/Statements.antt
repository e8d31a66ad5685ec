-- What a statement does, by what follows it, what follows NEXT and QUIT there, and what follows a return of the method.
-- Sources: the Propeller Manual v1.2, "IF", "CASE", "REPEAT", "NEXT", "QUIT", "RETURN" and "ABORT" of the Spin chapter.
use Rattle.std.specs.Prelude.{ℕ, ◌==◌, Bool, Option, Some, None, if◌then◌else◌}
use Rattle.p8_tree.specs.Expressions.{Tree, Item, single, range, Items, no_items, ◌▸◌}
use Rattle.p8_tree.specs.declared.places.Place.{Place}
use Rattle.p8_tree.specs.Statements.{Course, Forever, Count, Before, After, From, Statement, statement, Action, Do, If, Case, Repeat, Next, Quit}
use Rattle.p8_tree.specs.Statements.{Return, Abort, arm, Otherwise, nothing_else, otherwise, Statements, no_statements, ◌▹◌, Arms, no_arms, ◌⊳◌}
use Rattle.p8_meaning.specs.Values.{is_between, difference, holds, stepped}
use Rattle.p8_meaning.specs.Programs.{Scope}
use Rattle.p8_meaning.specs.Doing.{Rest, Gives, untold, for_statement, comes_back}
use Rattle.p8_meaning.specs.Variables.{Location, named, fetches, stores}
use Rattle.p8_meaning.specs.Calls.{Callee, Returned, Value, Result}
use Rattle.p8_meaning.specs.Expressions.{evaluates, acts}
use Rattle.p8_meaning.specs.Loops.{passes, counted}

-- what a statement does, by what follows NEXT, QUIT and the statement itself
abbrev pub Body : Type 0
Body = (next quit go : Rest) → Rest

-- a statement's action is done for the statement itself, and what follows for the one around it
abbrev pub for_itself : Place → Body → Body
for_itself place action next quit go = comes_back (λ back. for_statement place (action (back next) (back quit) (back go)))

module _ (most : ℕ) (callee : Callee) (s : Scope) (return abort : Returned → Rest) where
  abbrev pub value_of : Tree → Gives ℕ
  value_of e go = evaluates callee s abort e go

  -- ---- tests

  -- a condition of IF, WHILE or, negated, of IFNOT or UNTIL
  abbrev pub decides : (negated : Bool) → Tree → (met unmet : Rest) → Rest
  decides negated e met unmet = value_of e (λ value. if holds negated value then met else unmet)

  -- the items of an arm of CASE are evaluated in order up to the first that fits (profile); a range fits in either order of its ends
  abbrev pub fits : (value : ℕ) → Item → (met unmet : Rest) → Rest
  fits value (single e) met unmet = value_of e (λ x. if value == x then met else unmet)
  fits value (range e f) met unmet = value_of e (λ low. value_of f (λ high. if is_between value low high then met else unmet))

  abbrev pub fits_one : (value : ℕ) → Items → (met unmet : Rest) → Rest
  fits_one value no_items met unmet = unmet
  fits_one value (items ▸ item) met unmet = fits_one value items met (fits value item met unmet)

  -- ---- the end of a pass of REPEAT with FROM and TO

  abbrev pub step_of : Option Tree → Gives ℕ
  step_of None go = go 1
  step_of (Some e) go = value_of e go

  -- the counter is read, stepped and written, and the loop goes on where its new value, before it is reduced to the counter's size, lies
  -- between the ends (profile)
  abbrev pub steps : (counter : Location) (by from to : ℕ) → (again go : Rest) → Rest
  steps counter by from to again go =
      fetches s counter (λ old. stores counter (stepped old by from to) (if is_between (stepped old by from to) from to then again else go))

  -- the step and both ends are evaluated anew, in this order (profile)
  abbrev pub ends_pass : (counter : Location) (from to : Tree) → Option Tree → (again go : Rest) → Rest
  ends_pass counter from to step again go =
      step_of step (λ by. value_of from (λ a. value_of to (λ b. steps counter by a b again go)))

  -- ---- loops: NEXT goes to where a pass ends, and QUIT after the loop. A count is unsigned and evaluated once (profile).

  abbrev pub repeats : Course → (body : Body) → Rest → Rest
  repeats Forever body go = passes most (λ again. body again go again)
  repeats (Count e) body go =
      value_of e (λ count. if count == 0 then go else counted (difference count 1) (λ again. body again go again) go)
  repeats (Before until e) body go = passes most (λ again. decides until e (body again go again) go)
  repeats (After until e) body go = passes most (λ again. body (decides until e again go) go (decides until e again go))
  repeats (From name from to step place) body go =
      value_of from (λ first. stores (named s name 0) first
      (passes most (λ again. body (ends_pass (named s name 0) from to step again go) go (ends_pass (named s name 0) from to step again go))))

  -- ---- statements

  abbrev mutual
    pub executes : Statement → Body
    executes (statement place action) = for_itself place (acts_out action)

    pub acts_out : Action → Body
    acts_out (Do e) next quit go = acts callee s abort e go
    acts_out (If arms other) next quit go = chooses arms next quit go (executes_other other next quit go)
    acts_out (Case e arms other) next quit go =
        value_of e (λ value. matches value arms next quit go (executes_other other next quit go))
    acts_out (Repeat course body) next quit go = repeats course (executes_all body) go
    acts_out Next next quit go = next
    acts_out Quit next quit go = quit
    acts_out (Return None) next quit go = return (Result s.frame)
    acts_out (Return (Some e)) next quit go = value_of e (λ value. return (Value value))
    acts_out (Abort None) next quit go = abort (Result s.frame)
    acts_out (Abort (Some e)) next quit go = value_of e (λ value. abort (Value value))

    pub executes_all : Statements → Body
    executes_all no_statements next quit go = go
    executes_all (body ▹ last) next quit go = executes_all body next quit (executes last next quit go)

    pub executes_other : Otherwise → Body
    executes_other nothing_else next quit go = go
    executes_other (otherwise body) next quit go = executes_all body next quit go

    -- the arms of an IF chain: the first whose condition holds, else `other`
    pub chooses : Arms → (next quit go other : Rest) → Rest
    chooses no_arms next quit go other = other
    chooses (arms ⊳ arm (no_items ▸ single e) negated body) next quit go other =
        chooses arms next quit go (decides negated e (executes_all body next quit go) other)
    chooses (arms ⊳ last) next quit go other = untold

    -- the arms of a CASE: the first that has an item which fits, else `other`
    pub matches : (value : ℕ) → Arms → (next quit go other : Rest) → Rest
    matches value no_arms next quit go other = other
    matches value (arms ⊳ arm items negated body) next quit go other =
        matches value arms next quit go (fits_one value items (executes_all body next quit go) other)
