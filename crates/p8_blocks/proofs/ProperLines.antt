-- Statements of proper lines are proper.
use Rattle.std.proofs.Common.{ℕ, List, [], ◌∷◌, ◌++◌, refl}
use Rattle.std.specs.List.{AllByRecursion as Each}
use Rattle.p8_tree.specs.Statements.{Statements}
use Rattle.p8_tree.specs.Proper.{AreProperStatements, AreProperChoices, IsProperOtherwise}
use Rattle.p8_columns.specs.Lines.{Line}
use Rattle.p8_columns.specs.Blocks as blocks
use Rattle.p8_columns.specs.Blocks.{Bound, Contents, body, choices, Block, AreStatements}
use Rattle.p8_statements.specs.Proper.{IsProperKind}

pub each_first : {X : Type 0} (P : X → Type 0) (xs ys : List X) → Each P (xs ++ ys) → Each P xs
each_first P [] ys h = tt
each_first P (x ∷ xs) ys h = (h.0, each_first P xs ys h.1)

pub each_rest : {X : Type 0} (P : X → Type 0) (xs ys : List X) → Each P (xs ++ ys) → Each P ys
each_rest P [] ys h = h
each_rest P (x ∷ xs) ys h = each_rest P xs ys h.1

abbrev pub IsProperLine : Line → Type 0
IsProperLine l = IsProperKind l.kind

abbrev AreProperContents : Contents → Type 0
AreProperContents (body ss) = AreProperStatements ss
AreProperContents (choices arms other) = AreProperChoices arms × IsProperOtherwise other

proper_block : {e : ℕ} {b : Bound} {x : Contents} {ls : List Line} → Block e b x ls → Each IsProperLine ls → AreProperContents x
proper_block blocks.no_lines h = tt
proper_block (blocks.plain {ls = ls} k m le) h = (proper_block k (each_first IsProperLine ls _ h), (each_rest IsProperLine ls _ h).0)
proper_block (blocks.chain {ls = ls} k m le i) h =
    let rest = each_rest IsProperLine ls _ h in
    (proper_block k (each_first IsProperLine ls _ h), (refl, (tt, (rest.0, proper_block i rest.1)), tt))
proper_block (blocks.chain_on {ls = ls} q k i) h =
    let rest = each_rest IsProperLine ls _ h in
    let before = proper_block k (each_first IsProperLine ls _ h) in
    (before.0, (refl, (before.1.1, (rest.0, proper_block i rest.1)), tt))
proper_block (blocks.chain_end {ls = ls} q k i) h =
    let rest = each_rest IsProperLine ls _ h in
    let before = proper_block k (each_first IsProperLine ls _ h) in
    (before.0, (before.1.0, before.1.1, proper_block i rest.1))
proper_block (blocks.loop {ls = ls} k m le i) h =
    let rest = each_rest IsProperLine ls _ h in
    (proper_block k (each_first IsProperLine ls _ h), (rest.0, proper_block i rest.1))
proper_block (blocks.loop_end {ls = ls} q until test k) h =
    let rest = each_rest IsProperLine ls _ h in
    let before = proper_block k (each_first IsProperLine ls _ h) in
    (before.0, (rest.0, before.1.1))
proper_block (blocks.cases {ls = ls} k m le i) h =
    let rest = each_rest IsProperLine ls _ h in
    let inside = proper_block i rest.1 in
    (proper_block k (each_first IsProperLine ls _ h), (rest.0, inside.0, inside.1))
proper_block blocks.no_cases h = (tt, tt)
proper_block (blocks.item {ls = ls} p k m le i) h =
    let rest = each_rest IsProperLine ls _ h in
    let before = proper_block k (each_first IsProperLine ls _ h) in
    ((before.0, (refl, rest.0.0, rest.0.1, proper_block i rest.1)), tt)
proper_block (blocks.last_item {ls = ls} p k m le i) h =
    let rest = each_rest IsProperLine ls _ h in
    let before = proper_block k (each_first IsProperLine ls _ h) in
    (before.0, proper_block i rest.1)

pub proper_statements : (ss : Statements) (ls : List Line) → AreStatements ss ls → Each IsProperLine ls → AreProperStatements ss
proper_statements ss ls a h = proper_block a.1 h
