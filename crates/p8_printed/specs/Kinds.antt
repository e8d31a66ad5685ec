-- Lines of methods: what they are without their places, and where they are read from.
use Rattle.p8_tree.specs.Forgetting.{tree_anywhere, items_anywhere, course_anywhere, action_anywhere}
use Rattle.p8_columns.specs.Lines.{Kind, Plain, If, ElseIf, Else, Repeat, End, Case, Item as ItemLine, Other}
use Rattle.p8_lines.specs.declared.state.LineState.{LineState}
use Rattle.p8_lines.specs.declared.state.LineState.TheVariants as state

-- a line of a method without its places
abbrev pub kind_anywhere : Kind → Kind
kind_anywhere (Plain a) = Plain (action_anywhere a)
kind_anywhere (If negated test) = If negated (tree_anywhere test)
kind_anywhere (ElseIf negated test) = ElseIf negated (tree_anywhere test)
kind_anywhere Else = Else
kind_anywhere (Repeat course) = Repeat (course_anywhere course)
kind_anywhere (End until test) = End until (tree_anywhere test)
kind_anywhere (Case value) = Case (tree_anywhere value)
kind_anywhere (ItemLine tests) = ItemLine (items_anywhere tests)
kind_anywhere Other = Other

-- the state from which a line of a method is read
abbrev pub begin_of : Kind → LineState
begin_of (Plain a) = state.Statement
begin_of (If negated test) = state.Statement
begin_of (ElseIf negated test) = state.ChainLine
begin_of Else = state.ChainLine
begin_of (Repeat course) = state.Statement
begin_of (End until test) = state.LoopEndLine
begin_of (Case value) = state.Statement
begin_of (ItemLine tests) = state.CaseItem
begin_of Other = state.CaseItem
