-- What the code's lines stand for; internal from the contents on.
use Rattle.std.specs.Prelude.{List, [], ◌∷◌, option_map}
use Rattle.p8_tree.specs.Statements as trees
use Rattle.p8_tree.specs.Views.{tree_of, items_of, course_of, statements_of, arms_of}
use Rattle.p8_tree.specs.Bridges.{other_body}
use Rattle.p8_columns.specs.Lines.{Kind, Plain, If, ElseIf, Else, Repeat, End, Case, Item, Other, Line, line}
use Rattle.p8_columns.specs.Blocks.{Contents, body, choices}
use Rattle.p8_columns.specs.Reader as reader
use Rattle.p8_columns.specs.declared.line.Action as action
use Rattle.p8_columns.specs.declared.line.Action.TheVariants as action_case
use Rattle.p8_columns.specs.declared.line.LineKind as kind
use Rattle.p8_columns.specs.declared.line.LineKind.TheVariants as kind_case
use Rattle.p8_columns.specs.declared.line.Line as code_line
use Rattle.p8_columns.specs.declared.contents.Contents as contents
use Rattle.p8_columns.specs.declared.contents.Contents.TheVariants as contents_case
use Rattle.p8_columns.specs.declared.stack.Frame as frame

abbrev pub plain_of : action.Action → trees.Action
plain_of (action_case.Do e) = trees.Do (tree_of e)
plain_of action_case.Next = trees.Next
plain_of action_case.Quit = trees.Quit
plain_of (action_case.Return e) = trees.Return (option_map tree_of e)
plain_of (action_case.Abort e) = trees.Abort (option_map tree_of e)

abbrev pub kind_of : kind.LineKind → Kind
kind_of (kind_case.Plain a) = Plain (plain_of a)
kind_of (kind_case.If negated test) = If negated (tree_of test)
kind_of (kind_case.ElseIf negated test) = ElseIf negated (tree_of test)
kind_of kind_case.Else = Else
kind_of (kind_case.Repeat course) = Repeat (course_of course)
kind_of (kind_case.End until test) = End until (tree_of test)
kind_of (kind_case.Case value) = Case (tree_of value)
kind_of (kind_case.Item tests) = Item (items_of tests)
kind_of kind_case.Other = Other

abbrev pub line_of : code_line.Line → Line
line_of l = line l.place (kind_of l.kind)

abbrev pub contents_of : contents.Contents → Contents
contents_of (contents_case.Body ss) = body (statements_of ss.items)
contents_of (contents_case.Choices arms other) = choices (arms_of arms.items) (other_body other)

abbrev pub frame_of : frame.Frame → reader.Frame
frame_of f = reader.frame (line_of f.opener) (contents_of f.outer)

abbrev pub frames_in : List frame.Frame → List reader.Frame
frames_in [] = []
frames_in (f ∷ fs) = frame_of f ∷ frames_in fs
