-- What the source of a project means: what each of its methods does, as accesses and their answers. Each file is a chapter.
-- What is marked (profile) is this project's rule where the Manual leaves it open or the machine differs; all else is the Manual's.
pub mod Values
pub mod Programs
pub mod Doing
pub mod Variables
pub mod Builtins
pub mod Calls
pub mod Expressions
pub mod Loops
pub mod Statements
pub mod Lives
pub mod Bounds
pub mod Halts
-- What shorter code is made of: the trees of a method after constant trees have become numbers and what never runs is gone.
pub mod Constants
pub mod Folding
pub mod Projects
-- What the code keeps of trees while they are folded: internal.
pub mod Known
pub mod Copies
