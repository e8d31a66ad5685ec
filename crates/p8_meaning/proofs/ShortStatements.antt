-- What folded statements do is what the statements do.
use Rattle.std.proofs.Common.{◌≡◌, refl, sym, ap, ◌∙◌, ℕ, suc, ◌==◌, Bool, true, false, if◌then◌else◌, List, Option, Some, None, option_map}
use Rattle.p8_tree.specs.declared.places.Place.{Place}
use Rattle.p8_tree.specs.Sources.{Source}
use Rattle.p8_tree.specs.Expressions.{Tree, node, Number, Str, Strings, Here, Var, Call, Unary, Binary, Assign, Change, Address, ObjectAddress, ObjConst, Built, Look, Item, single, range, Items, no_items, ◌▸◌}
use Rattle.p8_tree.specs.Statements.{Course as Loop, Forever, Count, Before, After, From, Statement, statement, Action, Do, If, Case, Repeat, Next, Quit, Return, Abort, arm, Otherwise, nothing_else, otherwise, Statements, no_statements, ◌▹◌, Arms, no_arms, ◌⊳◌}
use Rattle.p8_meaning.specs.Values as values
use Rattle.p8_meaning.specs.Values.{difference, is_between, stepped}
use Rattle.p8_meaning.specs.Programs.{Program, Scope}
use Rattle.p8_meaning.specs.Doing.{Registers, Rest, for_statement}
use Rattle.p8_meaning.specs.Variables.{Location, named, stores}
use Rattle.p8_meaning.specs.Calls.{Returned, Value, Callee}
use Rattle.p8_meaning.specs.Loops.{passes, counted}
use Rattle.p8_meaning.specs.Statements as statements
use Rattle.p8_meaning.specs.Statements.{Body, for_itself}
use Rattle.p8_meaning.specs.Constants.{constant_value, shorter_number}
use Rattle.p8_meaning.specs.Folding.{folded, folded_items, item_with, folded_course, holds, number_in, kept_count, kept_before, kept, loop, Chain, Going, Ended, Known, known, with_arm, whole_chain, chain, joined, folded_statement, folded_action, folded_body, folded_other, folded_chain, folded_arms}
use Rattle.p8_meaning.specs.Projects.{constants_of}
use Rattle.p8_meaning.proofs.Scopes.{moved, Folds, named-same, fetches-same}
use Rattle.p8_meaning.proofs.ShortExpressions.{Worth, worth, evaluates-same, acts-same}

module _ (most : ℕ) (callee : Callee) (s : Scope) (return abort : Returned → Rest) (program : Program) (source : Source) (folds : Folds s.file source) where
  value-same : (e : Tree) (go : ℕ → Rest) → statements.value_of (suc most) callee (moved program source s) return abort (folded (constants_of s.file s.method) e) go ≡ statements.value_of (suc most) callee s return abort e go
  value-same e go = evaluates-same callee s abort program source folds e go

  -- ---- tests

  decides-same : (negated : Bool) (e : Tree) (met unmet : Rest) → statements.decides (suc most) callee (moved program source s) return abort negated (folded (constants_of s.file s.method) e) met unmet ≡ statements.decides (suc most) callee s return abort negated e met unmet
  decides-same negated e met unmet = value-same e (λ value. if values.holds negated value then met else unmet)

  fits-same : (value : ℕ) (x : Item) (met unmet : Rest) → statements.fits (suc most) callee (moved program source s) return abort value (item_with (shorter_number (constants_of s.file s.method)) x) met unmet ≡ statements.fits (suc most) callee s return abort value x met unmet
  fits-same value (single e) met unmet = value-same e (λ x. if value == x then met else unmet)
  fits-same value (range e f) met unmet = λ i. value-same e (λ low. value-same f (λ high. if is_between value low high then met else unmet) i) i

  fits_one-same : (value : ℕ) (xs : Items) (met unmet : Rest) → statements.fits_one (suc most) callee (moved program source s) return abort value (folded_items (constants_of s.file s.method) xs) met unmet ≡ statements.fits_one (suc most) callee s return abort value xs met unmet
  fits_one-same value no_items met unmet = refl
  fits_one-same value (xs ▸ x) met unmet = λ i. fits_one-same value xs met (fits-same value x met unmet i) i

  -- ---- loops

  step_of-same : (step : Option Tree) (go : ℕ → Rest) → statements.step_of (suc most) callee (moved program source s) return abort (option_map (folded (constants_of s.file s.method)) step) go ≡ statements.step_of (suc most) callee s return abort step go
  step_of-same None go = refl
  step_of-same (Some e) go = value-same e go

  steps-same : (counter : Location) (by from to : ℕ) (again go : Rest) → statements.steps (suc most) callee (moved program source s) return abort counter by from to again go ≡ statements.steps (suc most) callee s return abort counter by from to again go
  steps-same counter by from to again go =
      fetches-same program source s counter (λ old. stores counter (stepped old by from to) (if is_between (stepped old by from to) from to then again else go))

  ends_pass-same : (name : List ℕ) (from to : Tree) (step : Option Tree) (again go : Rest)
      → statements.ends_pass (suc most) callee (moved program source s) return abort (named (moved program source s) name 0) (folded (constants_of s.file s.method) from) (folded (constants_of s.file s.method) to) (option_map (folded (constants_of s.file s.method)) step) again go
      ≡ statements.ends_pass (suc most) callee s return abort (named s name 0) from to step again go
  ends_pass-same name from to step again go = λ i.
      step_of-same step (λ by. value-same from (λ a. value-same to (λ b. steps-same (named-same program source s name 0 i) by a b again go i) i) i) i

  repeats-same : (course : Loop) (body other : Body) → ((next quit go : Rest) → body next quit go ≡ other next quit go) → (go : Rest)
      → statements.repeats (suc most) callee (moved program source s) return abort (folded_course (constants_of s.file s.method) course) body go ≡ statements.repeats (suc most) callee s return abort course other go
  repeats-same Forever body other same go = λ i. passes (suc most) (λ again. same again go again i)
  repeats-same (Count e) body other same go = λ i.
      value-same e (λ count. if count == 0 then go else counted (difference count 1) (λ again. same again go again i) go) i
  repeats-same (Before until e) body other same go = λ i. passes (suc most) (λ again. decides-same until e (same again go again i) go i)
  repeats-same (After until e) body other same go = λ i.
      passes (suc most) (λ again. same (decides-same until e again go i) go (decides-same until e again go i) i)
  repeats-same (From name from to step place) body other same go = λ i.
      value-same from (λ first. stores (named-same program source s name 0 i) first
      (passes (suc most) (λ again. same (ends_pass-same name from to step again go i) go (ends_pass-same name from to step again go i) i))) i

  -- an expression that is a number gives it
  number-worth : (e : Tree) → Worth (number_in e) (statements.value_of (suc most) callee (moved program source s) return abort e)
  number-worth (node place (Number n)) = λ go. refl
  number-worth (node place (Str text)) = tt
  number-worth (node place (Strings es)) = tt
  number-worth (node place Here) = tt
  number-worth (node place (Var v)) = tt
  number-worth (node place (Call stops object i method at arguments)) = tt
  number-worth (node place (Unary operator e)) = tt
  number-worth (node place (Binary operator e f)) = tt
  number-worth (node place (Assign v operator e)) = tt
  number-worth (node place (Change v change)) = tt
  number-worth (node place (Address v)) = tt
  number-worth (node place (ObjectAddress e)) = tt
  number-worth (node place (ObjConst object name at)) = tt
  number-worth (node place (Built code arguments)) = tt
  number-worth (node place (Look code e items)) = tt

  -- what is left of a loop
  count_left : (b : Bool) (place : Place) (e : Tree) (n : ℕ) (body : Statements) (next quit go : Rest) → (n == 0) ≡ b → Worth (Some n) (statements.value_of (suc most) callee (moved program source s) return abort e)
      → statements.executes_all (suc most) callee (moved program source s) return abort (loop place (if b then None else Some (Count e)) body) next quit go
      ≡ for_itself place (λ next quit go. statements.repeats (suc most) callee (moved program source s) return abort (Count e) (statements.executes_all (suc most) callee (moved program source s) return abort body) go) next quit go
  count_left true place e n body next quit go is h = λ i. for_itself place (λ next quit go. no_pass i go) next quit go
    where
      no_pass : ◌≡◌ {A = Rest → Rest} (λ go. go) (λ go. statements.repeats (suc most) callee (moved program source s) return abort (Count e) (statements.executes_all (suc most) callee (moved program source s) return abort body) go)
      no_pass = λ i go.
          (ap (λ b. if b then go else counted (difference n 1) (λ again. statements.executes_all (suc most) callee (moved program source s) return abort body again go again) go) (sym is)
          ∙ sym (h (λ count. if count == 0 then go else counted (difference count 1) (λ again. statements.executes_all (suc most) callee (moved program source s) return abort body again go again) go))) i
  count_left false place e n body next quit go is h = refl

  counted_does : (o : Option ℕ) (place : Place) (e : Tree) (body : Statements) (next quit go : Rest) → Worth o (statements.value_of (suc most) callee (moved program source s) return abort e)
      → statements.executes_all (suc most) callee (moved program source s) return abort (loop place (kept_count o e) body) next quit go
      ≡ for_itself place (λ next quit go. statements.repeats (suc most) callee (moved program source s) return abort (Count e) (statements.executes_all (suc most) callee (moved program source s) return abort body) go) next quit go
  counted_does None place e body next quit go h = refl
  counted_does (Some n) place e body next quit go h = count_left (n == 0) place e n body next quit go refl h

  before_left : (b : Bool) (place : Place) (body : Statements) (next quit go : Rest)
      → statements.executes_all (suc most) callee (moved program source s) return abort (loop place (if b then Some Forever else None) body) next quit go
      ≡ for_itself place (λ next quit go. passes (suc most) (λ again. if b then statements.executes_all (suc most) callee (moved program source s) return abort body again go again else go)) next quit go
  before_left true place body next quit go = refl
  before_left false place body next quit go = λ i bound own. go bound own

  before_does : (o : Option ℕ) (place : Place) (until : Bool) (e : Tree) (body : Statements) (next quit go : Rest) → Worth o (statements.value_of (suc most) callee (moved program source s) return abort e)
      → statements.executes_all (suc most) callee (moved program source s) return abort (loop place (kept_before until o e) body) next quit go
      ≡ for_itself place (λ next quit go. statements.repeats (suc most) callee (moved program source s) return abort (Before until e) (statements.executes_all (suc most) callee (moved program source s) return abort body) go) next quit go
  before_does None place until e body next quit go h = refl
  before_does (Some n) place until e body next quit go h =
      before_left (holds until n) place body next quit go
      ∙ (λ i. for_itself place (λ next quit go. passes (suc most) (λ again. sym (h (λ value. if values.holds until value then statements.executes_all (suc most) callee (moved program source s) return abort body again go again else go)) i)) next quit go)

  loop_does : (place : Place) (course : Loop) (body : Statements) (next quit go : Rest)
      → statements.executes_all (suc most) callee (moved program source s) return abort (loop place (kept course) body) next quit go
      ≡ for_itself place (λ next quit go. statements.repeats (suc most) callee (moved program source s) return abort course (statements.executes_all (suc most) callee (moved program source s) return abort body) go) next quit go
  loop_does place (Count e) body next quit go = counted_does (number_in e) place e body next quit go (number-worth e)
  loop_does place (Before until e) body next quit go = before_does (number_in e) place until e body next quit go (number-worth e)
  loop_does place Forever body next quit go = refl
  loop_does place (After until e) body next quit go = refl
  loop_does place (From name from to step at) body next quit go = refl

  -- ---- chains of IF

  -- what the arms that are left do, with what the chain does where none of them is chosen
  abbrev chain_does : Chain → (next quit go other : Rest) → Rest
  chain_does (Going arms) next quit go other = statements.chooses (suc most) callee (moved program source s) return abort arms next quit go other
  chain_does (Ended arms body) next quit go other =
      statements.chooses (suc most) callee (moved program source s) return abort arms next quit go (statements.executes_all (suc most) callee (moved program source s) return abort body next quit go)

  -- a test whose value is known
  decided : (negated : Bool) (v : ℕ) (e : Tree) (met unmet : Rest) → Worth (Some v) (statements.value_of (suc most) callee s return abort e)
      → statements.decides (suc most) callee s return abort negated e met unmet ≡ (if values.holds negated v then met else unmet)
  decided negated v e met unmet h = h (λ value. if values.holds negated value then met else unmet)

  known_arm : (b : Bool) (arms : Arms) (tests : Items) (negated : Bool) (body : Statements) (next quit go other : Rest)
      → chain_does (with_arm (Going arms) (Known b) (arm tests negated body)) next quit go other
      ≡ statements.chooses (suc most) callee (moved program source s) return abort arms next quit go (if b then statements.executes_all (suc most) callee (moved program source s) return abort body next quit go else other)
  known_arm true arms tests negated body next quit go other = refl
  known_arm false arms tests negated body next quit go other = refl

  arm_does : (left : Chain) (o : Option ℕ) (negated : Bool) (e : Tree) (body whole_body : Statements) (next quit go other : Rest)
      → Worth o (statements.value_of (suc most) callee s return abort e)
      → statements.executes_all (suc most) callee (moved program source s) return abort body next quit go ≡ statements.executes_all (suc most) callee s return abort whole_body next quit go
      → chain_does (with_arm left (known negated o) (arm (no_items ▸ single (folded (constants_of s.file s.method) e)) negated body)) next quit go other
      ≡ chain_does left next quit go (statements.decides (suc most) callee s return abort negated e (statements.executes_all (suc most) callee s return abort whole_body next quit go) other)
  arm_does (Ended arms last) None negated e body whole_body next quit go other h same = refl
  arm_does (Ended arms last) (Some v) negated e body whole_body next quit go other h same = refl
  arm_does (Going arms) None negated e body whole_body next quit go other h same = λ i.
      statements.chooses (suc most) callee (moved program source s) return abort arms next quit go (decides-same negated e (same i) other i)
  arm_does (Going arms) (Some v) negated e body whole_body next quit go other h same =
      known_arm (holds negated v) arms (no_items ▸ single (folded (constants_of s.file s.method) e)) negated body next quit go other
      ∙ ap (λ met. statements.chooses (suc most) callee (moved program source s) return abort arms next quit go (if holds negated v then met else other)) same
      ∙ ap (λ x. statements.chooses (suc most) callee (moved program source s) return abort arms next quit go x) (sym (decided negated v e (statements.executes_all (suc most) callee s return abort whole_body next quit go) other h))

  -- a body that stands for the whole statement does the same for the statement around it
  one_back : (x : Statement) (place : Place) (next quit go : Rest) →
      statements.executes (suc most) callee (moved program source s) return abort x (for_statement place next) (for_statement place quit) (for_statement place go) ≡ for_statement place (statements.executes (suc most) callee (moved program source s) return abort x next quit go)
  one_back (statement inside action) place next quit go = refl

  spliced_at : (body : Statements) (place inside : Place) (next quit go : Rest) (bound : ℕ) (own : Registers)
      → statements.executes_all (suc most) callee (moved program source s) return abort body (for_statement place next) (for_statement place quit) (for_statement place go) bound (record own { statement = inside })
      ≡ statements.executes_all (suc most) callee (moved program source s) return abort body next quit go bound (record own { statement = place })
  spliced_at no_statements place inside next quit go bound own = refl
  spliced_at (body ▹ last) place inside next quit go bound own =
      ap (λ r. statements.executes_all (suc most) callee (moved program source s) return abort body (for_statement place next) (for_statement place quit) r bound (record own { statement = inside })) (one_back last place next quit go)
      ∙ spliced_at body place inside next quit (statements.executes (suc most) callee (moved program source s) return abort last next quit go) bound own

  spliced : (body : Statements) (place : Place) (next quit go : Rest) → statements.executes_all (suc most) callee (moved program source s) return abort body next quit go ≡ for_itself place (statements.executes_all (suc most) callee (moved program source s) return abort body) next quit go
  spliced body place next quit go = λ i bound own. sym (spliced_at body own.statement place next quit go bound own) i

  whole_does : (place : Place) (arms : Arms) (other : Otherwise) (next quit go : Rest)
      → statements.executes_all (suc most) callee (moved program source s) return abort (whole_chain place arms other) next quit go
      ≡ for_itself place (λ next quit go. statements.chooses (suc most) callee (moved program source s) return abort arms next quit go (statements.executes_other (suc most) callee (moved program source s) return abort other next quit go)) next quit go
  whole_does place no_arms nothing_else next quit go = refl
  whole_does place no_arms (otherwise body) next quit go = spliced body place next quit go
  whole_does place (arms ⊳ last) other next quit go = refl

  left_does : (place : Place) (left : Chain) (other : Otherwise) (next quit go : Rest)
      → statements.executes_all (suc most) callee (moved program source s) return abort (chain place left other) next quit go
      ≡ for_itself place (λ next quit go. chain_does left next quit go (statements.executes_other (suc most) callee (moved program source s) return abort other next quit go)) next quit go
  left_does place (Going arms) other next quit go = whole_does place arms other next quit go
  left_does place (Ended arms body) other next quit go = whole_does place arms (otherwise body) next quit go

  -- ---- statements

  joined_does : (first second : Statements) (next quit go : Rest)
      → statements.executes_all (suc most) callee (moved program source s) return abort (joined first second) next quit go
      ≡ statements.executes_all (suc most) callee (moved program source s) return abort first next quit (statements.executes_all (suc most) callee (moved program source s) return abort second next quit go)
  joined_does first no_statements next quit go = refl
  joined_does first (second ▹ last) next quit go = joined_does first second next quit (statements.executes (suc most) callee (moved program source s) return abort last next quit go)

  mutual
    statement-same : (x : Statement) (next quit go : Rest)
        → statements.executes_all (suc most) callee (moved program source s) return abort (folded_statement (constants_of s.file s.method) x) next quit go ≡ statements.executes (suc most) callee s return abort x next quit go
    statement-same (statement place action) next quit go = action-same place action next quit go

    action-same : (place : Place) (action : Action) (next quit go : Rest)
        → statements.executes_all (suc most) callee (moved program source s) return abort (folded_action (constants_of s.file s.method) place action) next quit go ≡ for_itself place (statements.acts_out (suc most) callee s return abort action) next quit go
    action-same place (Do e) next quit go = λ i. for_itself place (λ next quit go. acts-same callee s abort program source folds e go i) next quit go
    action-same place (If arms other) next quit go =
        left_does place (folded_chain (constants_of s.file s.method) arms) (folded_other (constants_of s.file s.method) other) next quit go
        ∙ (λ i. for_itself place (λ next quit go.
        (chain-same arms next quit go (statements.executes_other (suc most) callee (moved program source s) return abort (folded_other (constants_of s.file s.method) other) next quit go)
        ∙ ap (λ x. statements.chooses (suc most) callee s return abort arms next quit go x) (other-same other next quit go)) i) next quit go)
    action-same place (Case e arms other) next quit go = λ i. for_itself place (λ next quit go.
        value-same e (λ value. matches-same value arms next quit go (other-same other next quit go i) i) i) next quit go
    action-same place (Repeat course body) next quit go =
        loop_does place (folded_course (constants_of s.file s.method) course) (folded_body (constants_of s.file s.method) body) next quit go
        ∙ (λ i. for_itself place (λ next quit go.
        repeats-same course (statements.executes_all (suc most) callee (moved program source s) return abort (folded_body (constants_of s.file s.method) body)) (statements.executes_all (suc most) callee s return abort body) (body-same body) go i) next quit go)
    action-same place Next next quit go = refl
    action-same place Quit next quit go = refl
    action-same place (Return None) next quit go = refl
    action-same place (Return (Some e)) next quit go = λ i. for_itself place (λ next quit go. value-same e (λ value. return (Value value)) i) next quit go
    action-same place (Abort None) next quit go = refl
    action-same place (Abort (Some e)) next quit go = λ i. for_itself place (λ next quit go. value-same e (λ value. abort (Value value)) i) next quit go

    pub body-same : (body : Statements) (next quit go : Rest)
        → statements.executes_all (suc most) callee (moved program source s) return abort (folded_body (constants_of s.file s.method) body) next quit go ≡ statements.executes_all (suc most) callee s return abort body next quit go
    body-same no_statements next quit go = refl
    body-same (body ▹ last) next quit go =
        joined_does (folded_body (constants_of s.file s.method) body) (folded_statement (constants_of s.file s.method) last) next quit go
        ∙ (λ i. body-same body next quit (statement-same last next quit go i) i)

    other-same : (other : Otherwise) (next quit go : Rest)
        → statements.executes_other (suc most) callee (moved program source s) return abort (folded_other (constants_of s.file s.method) other) next quit go ≡ statements.executes_other (suc most) callee s return abort other next quit go
    other-same nothing_else next quit go = refl
    other-same (otherwise body) next quit go = body-same body next quit go

    chain-same : (arms : Arms) (next quit go other : Rest)
        → chain_does (folded_chain (constants_of s.file s.method) arms) next quit go other ≡ statements.chooses (suc most) callee s return abort arms next quit go other
    chain-same no_arms next quit go other = refl
    chain-same (arms ⊳ arm (no_items ▸ single e) negated body) next quit go other =
        arm_does (folded_chain (constants_of s.file s.method) arms) (constant_value (constants_of s.file s.method) e) negated e (folded_body (constants_of s.file s.method) body) body next quit go other (worth callee s abort e) (body-same body next quit go)
        ∙ chain-same arms next quit go (statements.decides (suc most) callee s return abort negated e (statements.executes_all (suc most) callee s return abort body next quit go) other)
    chain-same (arms ⊳ arm no_items negated body) next quit go other = refl
    chain-same (arms ⊳ arm (no_items ▸ range e f) negated body) next quit go other = refl
    chain-same (arms ⊳ arm (xs ▸ x ▸ y) negated body) next quit go other = refl

    matches-same : (value : ℕ) (arms : Arms) (next quit go other : Rest)
        → statements.matches (suc most) callee (moved program source s) return abort value (folded_arms (constants_of s.file s.method) arms) next quit go other ≡ statements.matches (suc most) callee s return abort value arms next quit go other
    matches-same value no_arms next quit go other = refl
    matches-same value (arms ⊳ arm tests negated body) next quit go other = λ i.
        matches-same value arms next quit go (fits_one-same value tests (body-same body next quit go i) other i) i
